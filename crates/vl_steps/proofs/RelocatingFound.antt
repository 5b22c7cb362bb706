-- What of a batch is moved may stand in one frame, and the active memtable may take it; and over told sources it is all that the
-- ruling moves.
use Rattle.std.specs.List.{All, AllByRecursion, filter}
use Rattle.std.specs.Prelude.{true, false, Bool, ◌≡◌, ◌&&◌, ◌≤◌, ℕ, List, [], ◌∷◌, length, refl, None, Option, Some, is_none, nat_le}
use Rattle.std.specs.Prelude.{Contains, IfErr, Result, Ok, Err, if◌then◌else◌, map}
use Rattle.std.specs.Result.{IsErrAnd}
use Rattle.vl_disk.specs.declared.read_fault.ReadFault.{ReadFault}
use Rattle.vl_memtable.specs.Contents.{Contents}
use Rattle.std.proofs.Common.{ap, arith, subst, sym, ◌∙◌}
use Rattle.std.proofs.lemmas.Bool.Decides.{nat_tests}
use Rattle.vl_collect.specs.Batches.{MayBeMoved}
use Rattle.vl_engine_laws.specs.declared.kept.Core.{Core}
use Rattle.vl_collect.specs.Passing.{HasEntries}
use Rattle.vl_steps.specs.Relocating.{Finds, MayMove, may_add}
use Rattle.vl_engine_model.specs.Relocation.{Candidate, moved_of}
use Rattle.vl_model.specs.Formats.{log_format}
use Rattle.vl_model.specs.Winners.{exact}
use Rattle.vl_model.specs.declared.entry.Entry.{Entry}
use Rattle.vl_model.specs.declared.log_frame.Moved.{Moved}
use Rattle.vl_seglog.specs.Moves.{AreOnce, IsMoved}
use Rattle.vl_seglog.specs.Relocation.{IsRelocation}
use Rattle.vl_table.specs.declared.block_reader.BlockReader.{BlockReader}
use Rattle.vl_version.specs.Bases.{Fits, HasSources}
use Rattle.vl_version.specs.declared.base.Base.{Base}
use Rattle.vl_version.specs.declared.version.Version.{Version}

-- ---- what is kept of a list

module _ {A : Type 0} (p : A → Bool) where
  pub all_filtered : (P : A → Type 0) (xs : List A) → AllByRecursion P xs → AllByRecursion P (filter p xs)
  all_filtered P [] all = tt
  all_filtered P (x ∷ xs) all = by (p x) (all_filtered P xs all.1)
    where
      by : (b : Bool) → AllByRecursion P (filter p xs) → AllByRecursion P (if b then x ∷ filter p xs else filter p xs)
      by true rest = (all.0, rest)
      by false rest = rest

  pub each_filtered : (P : A → Type 0) → ((x : A) → p x ≡ true → P x) → (xs : List A) → AllByRecursion P (filter p xs)
  each_filtered P each [] = tt
  each_filtered P each (x ∷ xs) = by (p x) refl (each_filtered P each xs)
    where
      by : (b : Bool) → p x ≡ b → AllByRecursion P (filter p xs) → AllByRecursion P (if b then x ∷ filter p xs else filter p xs)
      by true is rest = (each x is, rest)
      by false is rest = rest

  pub fewer_filtered : (xs : List A) → length (filter p xs) ≤ length xs
  fewer_filtered [] = omega arith
  fewer_filtered (x ∷ xs) = by (p x) (fewer_filtered xs)
    where
      by : (b : Bool) → length (filter p xs) ≤ length xs → length (if b then x ∷ filter p xs else filter p xs) ≤ length (x ∷ xs)
      by true rest = omega (arith, rest)
      by false rest = omega (arith, rest)

  pub all_kept : (xs : List A) → AllByRecursion (λ x. p x ≡ true) xs → filter p xs ≡ xs
  all_kept [] all = refl
  all_kept (x ∷ xs) all =
      ap (λ (b : Bool). if b then x ∷ filter p xs else filter p xs) all.0 ∙ ap (λ (ys : List A). x ∷ ys) (all_kept xs all.1)

pub once_filtered : (p : Moved → Bool) (ms : List Moved) → AreOnce ms → AreOnce (filter p ms)
once_filtered p [] once = tt
once_filtered p (m ∷ ms) once = by (p m) (once_filtered p ms once.1)
  where
    by : (b : Bool) → AreOnce (filter p ms) → AreOnce (if b then m ∷ filter p ms else filter p ms)
    by true rest = (all_filtered p _ ms once.0, rest)
    by false rest = rest

-- ---- what may be moved

both : (a b : Bool) → (a && b) ≡ true → (a ≡ true) × (b ≡ true)
both true b is = (refl, is)
both false b is = absurd (let no : false ≡ true = is in cc)

none_of : {A : Type 0} (o : Option A) → is_none o ≡ true → o ≡ None
none_of None is = refl
none_of (Some x) is = absurd (let no : false ≡ true = is in cc)

-- what stands in one frame still may where some of it is left out, of which the memtable may take each
pub may_move : {H : Type 0} (core : Core H) (found moved : List Moved) → MayBeMoved found
    → moved ≡ filter (may_add core.version.active.entries core.front.oracle.last) found → 1 ≤ length moved → MayMove core moved
may_move core found moved may is some =
    subst (MayMove core) (sym is) (by (may (omega (arith, some, fewer, same))))
  where
    es : List Entry
    es = core.version.active.entries

    last : ℕ
    last = core.front.oracle.last

    left : List Moved
    left = filter (may_add es last) found

    same : length moved ≡ length left
    same = ap length is

    fewer : length left ≤ length found
    fewer = fewer_filtered (may_add es last) found

    by : IsRelocation log_format found → MayMove core left
    by are = record {
      relocation = record {
        some = omega (arith, some, same);
        lawful = all_filtered (may_add es last) (IsMoved log_format) found are.lawful;
        once = once_filtered (may_add es last) found are.once;
      };
      new = each_filtered (may_add es last) (λ (m : Moved). exact es m.key m.version ≡ None)
          (λ m takes. none_of (exact es m.key m.version) (both (nat_le m.version last) (is_none (exact es m.key m.version)) takes).1) found;
      known = each_filtered (may_add es last) (λ (m : Moved). m.version ≤ last)
          (λ m takes. let low = (both (nat_le m.version last) (is_none (exact es m.key m.version)) takes).0 in
          grind (arith, nat_tests, low)) found;
    }

-- what was found in the sources of a version is what `Finds` says
pub finds_by : {H R : Type 0} (bytes : H → Option (List ℕ)) (core : Core H) (base : Base H R) (segment : ℕ) (batch : List Candidate)
    (looks : BlockReader R) (found moved : List Moved) → base.version ≡ core.version
    → ((entries : List Entry) → Fits bytes base.version looks
    → HasEntries (λ (b : Base H R) inputs ms. HasSources bytes b.version inputs ms) base entries
    → found ≡ moved_of entries segment core.front.oracle.last batch)
    → All (λ (m : Moved). Contains (map (λ (c : Candidate). c.moved) batch) m) found
    → moved ≡ filter (may_add core.version.active.entries core.front.oracle.last) found
    → Finds bytes core segment batch looks moved
finds_by bytes core base segment batch looks found moved same told among kept = record {
  found = found;
  found_are = λ entries fits has. told entries (subst (λ (v : Version _). Fits bytes v looks) (sym same) fits) (record {
    inputs = has.inputs;
    marked = has.marked;
    had = subst (λ (v : Version _). HasSources bytes v has.inputs has.marked) (sym same) has.had;
    are = has.are;
  });
  among = among;
  moved_are = kept;
}

-- whatever names the memtable and the last number have
pub kept_by : {H : Type 0} (core : Core H) (version : Version H) → version ≡ core.version → (active : Contents)
    → active ≡ version.active → (last : ℕ) → last ≡ core.front.oracle.last → (found moved : List Moved)
    → moved ≡ filter (may_add active.entries last) found
    → moved ≡ filter (may_add core.version.active.entries core.front.oracle.last) found
kept_by {H} core version same active is last last_is found moved kept =
    kept
    ∙ ap (λ (a : Contents). filter (may_add a.entries last) found) is
    ∙ ap (λ (v : Version H). filter (may_add v.active.entries last) found) same
    ∙ ap (λ (n : ℕ). filter (may_add core.version.active.entries n) found) last_is

-- a fault that is passed on
pub passed_on : {T : Type 0} (P : ReadFault → Type 0) (result : Result T ReadFault) (fault : ReadFault)
    → IsErrAnd result (λ e. e ≡ fault) → P fault → IfErr result P
passed_on P (Ok answer) fault failed holds = absurd failed
passed_on P (Err e) fault failed holds = subst P (sym failed) holds
