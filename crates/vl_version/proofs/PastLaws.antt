-- The newest version of a key is that of the entry that wins, and the next ones are found below it.
use Rattle.std.proofs.Common.{◌≡◌, ℕ, ◌+◌, ◌-◌, ◌≤◌, suc, Bool, true, false, cond, ◌&&◌, List, [], ◌∷◌, map, refl, ap}
use Rattle.std.proofs.Common.{sym, ◌∙◌, subst, arith}
use Rattle.std.proofs.lemmas.Bool.Decides.{nat_tests}
use Rattle.std.specs.Prelude.{nat_le, nat_lt, Option, Some, None, Result, Ok, Err, IsErrAnd}
use Rattle.std.specs.List.{filter}
use Rattle.std.specs.Option.{option_map}
use Rattle.std.specs.Ordering.{eq_by_cmp}
use Rattle.vl_disk.specs.Faults.{HasCause}
use Rattle.vl_model.specs.Keys.{key_cmp}
use Rattle.vl_model.specs.Numbers.{greater, greatest_below, next_below, nth_below}
use Rattle.vl_model.specs.Versions.{versions_in}
use Rattle.vl_model.specs.Winners.{counts, newest_of, only_if, winner}
use Rattle.vl_model.specs.declared.entry.Entry.{Entry}
use Rattle.vl_table.specs.Kept.{Files}
use Rattle.vl_table.specs.KeptBlocks.{ReadsOf}
use Rattle.vl_table.specs.declared.block_reader.BlockReader.{BlockReader}
use Rattle.vl_version.specs.Faults.{Failed}
use Rattle.vl_version.specs.Past.{IsVersion, SeeksVersion}
use Rattle.vl_version.specs.Sources.{tables_in}
use Rattle.vl_disk.specs.declared.read_fault.ReadFault.{ReadFault}
use Rattle.vl_disk.specs.declared.read_fault.ReadFault.TheVariants.{NoMemory, Disk, Damaged}
use Rattle.vl_version.specs.declared.version.Version.{Version}

-- ---- the newest

abbrev pub version_in : Option Entry → Option ℕ
version_in w = option_map (λ (e : Entry). e.version) w

newest_greater : (e : Entry) (w : Option Entry) → version_in (newest_of (Some e) w) ≡ greater (Some e.version) (version_in w)
newest_greater e None = refl
newest_greater e (Some f) = elim (nat_le f.version e.version) as
    (λ b. version_in (cond b (Some e) (Some f)) ≡ cond b (Some e.version) (Some f.version)) [
      | true ↦ refl
      | false ↦ refl
    ]

same_bound : (n m : ℕ) → nat_lt n (m + 1) ≡ nat_le n m
same_bound n m = by (nat_le n m) refl
  where
    by : (b : Bool) → nat_le n m ≡ b → nat_lt n (m + 1) ≡ b
    by true is = grind (arith, nat_tests, is)
    by false is = grind (arith, nat_tests, is)

pub newest_version : (es : List Entry) (key : List ℕ) (number : ℕ)
    → version_in (winner es key number) ≡ greatest_below (number + 1) (versions_in es key)
newest_version [] key number = refl
newest_version (e ∷ es) key number = by_key (newest_version es key number) (eq_by_cmp key_cmp key e.key) refl
  where
    by_bound : (version_in (winner es key number) ≡ greatest_below (number + 1) (versions_in es key)) → (b : Bool)
        → version_in (newest_of (only_if b e) (winner es key number))
        ≡ greater (cond b (Some e.version) None) (greatest_below (number + 1) (versions_in es key))
    by_bound later true = newest_greater e (winner es key number) ∙ ap (greater (Some e.version)) later
    by_bound later false = later

    by_key : (version_in (winner es key number) ≡ greatest_below (number + 1) (versions_in es key)) → (b : Bool)
        → eq_by_cmp key_cmp key e.key ≡ b
        → version_in (newest_of (only_if (counts key number e) e) (winner es key number))
        ≡ greatest_below (number + 1) (versions_in (e ∷ es) key)
    by_key later true is =
        ap (λ (b : Bool). version_in (newest_of (only_if (b && nat_le e.version number) e) (winner es key number))) is
        ∙ by_bound later (nat_le e.version number)
        ∙ ap (λ (b : Bool). greater (cond b (Some e.version) None) (greatest_below (number + 1) (versions_in es key)))
        (sym (same_bound e.version number))
        ∙ ap (λ (b : Bool). greatest_below (number + 1) (map (λ (x : Entry). x.version)
        (cond b (e ∷ filter (λ (x : Entry). eq_by_cmp key_cmp key x.key) es)
        (filter (λ (x : Entry). eq_by_cmp key_cmp key x.key) es)))) (sym is)
    by_key later false is =
        ap (λ (b : Bool). version_in (newest_of (only_if (b && nat_le e.version number) e) (winner es key number))) is
        ∙ later
        ∙ ap (λ (b : Bool). greatest_below (number + 1) (map (λ (x : Entry). x.version)
        (cond b (e ∷ filter (λ (x : Entry). eq_by_cmp key_cmp key x.key) es)
        (filter (λ (x : Entry). eq_by_cmp key_cmp key x.key) es)))) (sym is)

-- none is below zero
pub none_below : (ns : List ℕ) → None ≡ greatest_below 0 ns
none_below [] = refl
none_below (n ∷ ns) =
    let not_below : nat_lt n 0 ≡ false = grind (arith, nat_tests) in
    none_below ns ∙ ap (λ (b : Bool). greater (cond b (Some n) None) (greatest_below 0 ns)) (sym not_below)

pub same_below : (bound : ℕ) (ns : List ℕ) → 1 ≤ bound → greatest_below (bound - 1 + 1) ns ≡ greatest_below bound ns
same_below bound ns some = let same : bound - 1 + 1 ≡ bound = omega (arith, some) in ap (λ (n : ℕ). greatest_below n ns) same

-- ---- one behind the other

pub next_nth : (ns : List ℕ) (bound nth : ℕ) (o : Option ℕ) → 1 ≤ nth → o ≡ nth_below ns bound (nth - 1)
    → next_below ns o ≡ nth_below ns bound nth
next_nth ns bound nth o some is =
    ap (next_below ns) is ∙ (let same : suc (nth - 1) ≡ nth = omega (arith, some) in ap (nth_below ns bound) same)

module _ {H R : Type 0} (bytes_of : H → Option (List ℕ)) (faults : R → ℕ) (version : Version H) where
  -- what is wanted is the same
  pub same_wanted : (first both : List Entry → Option ℕ) (old new : BlockReader R) (r : Result (Option ℕ) ReadFault)
      → ((es : List Entry) → first es ≡ both es)
      → SeeksVersion bytes_of faults version first old new r → SeeksVersion bytes_of faults version both old new r
  same_wanted first both old new r same seeks = record {
    cause = seeks.cause;
    near = seeks.near;
    kept = seeks.kept;
    answers = λ files es logs reads has. subst (λ (w : Option ℕ). IsVersion w r) (same es) (seeks.answers files es logs reads has);
  }

  module _ (first both : List Entry → Option ℕ) (old mid : BlockReader R) where
    -- a fault of the first is that of both
    pub first_failed : (e : ReadFault) (r : Result (Option ℕ) ReadFault) → IsErrAnd r (λ why. why ≡ e)
        → SeeksVersion bytes_of faults version first old mid (Err e) → SeeksVersion bytes_of faults version both old mid r
    first_failed e (Ok found) failed seeks = absurd failed
    first_failed e (Err why) failed seeks =
        subst (λ (f : ReadFault). SeeksVersion bytes_of faults version both old mid (Err f)) (sym failed) (record {
          cause = seeks.cause;
          near = seeks.near;
          kept = seeks.kept;
          answers = λ files es logs reads has. same_fault (first es) (both es) e (seeks.answers files es logs reads has);
        })
      where
        same_fault : (a b : Option ℕ) (f : ReadFault) → IsVersion a (Err f) → IsVersion b (Err f)
        same_fault a b NoMemory is = tt
        same_fault a b (Disk name) is = tt
        same_fault a b (Damaged name place) is = is

    -- the first found none
    pub first_none : (o : Option ℕ) → o ≡ None → ((es : List Entry) → o ≡ first es → None ≡ both es)
        → SeeksVersion bytes_of faults version first old mid (Ok o) → SeeksVersion bytes_of faults version both old mid (Ok None)
    first_none o none follows seeks = record {
      cause = seeks.cause;
      near = λ untabled failed. failed;
      kept = seeks.kept;
      answers = λ files es logs reads has. follows es (seeks.answers files es logs reads has);
    }

    -- the second was looked for behind what the first found
    pub then_second : (o : Option ℕ) (second : List Entry → Option ℕ) (new : BlockReader R) (r : Result (Option ℕ) ReadFault)
        → ((es : List Entry) → o ≡ first es → second es ≡ both es)
        → SeeksVersion bytes_of faults version first old mid (Ok o) → SeeksVersion bytes_of faults version second mid new r
        → SeeksVersion bytes_of faults version both old new r
    then_second o second new r follows one other = record {
      cause = subst (λ (n : ℕ). HasCause n (faults new.reader) (Failed r)) (one.cause.steady (λ none. none)) other.cause;
      near = other.near;
      kept = λ files reads. other.kept files (on files reads);
      answers = λ files es logs reads has.
          subst (λ (w : Option ℕ). IsVersion w r) (follows es (one.answers files es logs reads has))
          (other.answers files es logs (on files reads) has);
    }
      where
        on : (files : Files) → ReadsOf bytes_of files old (tables_in version) → ReadsOf bytes_of files mid (tables_in version)
        on files reads = record { kept = one.kept files reads; told = reads.told }

  -- nothing was read, and there is none
  pub found_none : (wanted : List Entry → Option ℕ) (b : BlockReader R) → ((es : List Entry) → None ≡ wanted es)
      → SeeksVersion bytes_of faults version wanted b b (Ok None)
  found_none wanted b none = record {
    cause = record { later = omega arith; rose = λ failed. absurd failed; steady = λ fine. refl };
    near = λ untabled failed. failed;
    kept = λ files reads. reads.kept;
    answers = λ files es logs reads has. none es;
  }
