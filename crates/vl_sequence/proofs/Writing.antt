-- What takes a lease writes one key.
use Rattle.std.proofs.Common.{◌≡◌, ◌≢◌, ℕ, List, [], ◌∷◌, length, refl, ap, sym, ◌∙◌, subst, arith}
use Rattle.std.specs.Cmp.Lexicographic.{nat_list_cmp_total}
use Rattle.std.specs.FinMap.{empty, entries, entries-insert, len, len-empty, len-entries, put}
use Rattle.std.specs.FinMap.Entries.{by_order}
use Rattle.std.specs.List.{AllByRecursion}
use Rattle.std.specs.declared.cmp.Ordering.{Ordering}
use Rattle.std.specs.declared.cmp.Ordering.TheVariants.{Less, Equal, Greater}
use Rattle.byteorder.specs.Endian.{big_bytes}
use Rattle.vl_drive.specs.Small.{IsShort, IsSmall}
use Rattle.vl_model.specs.Keys.{Writes, key_cmp, untagged}
use Rattle.vl_model.specs.declared.change.Change.{Change}
use Rattle.vl_model.specs.declared.change.Change.TheVariants.{Set}
use Rattle.vl_sequence.specs.Sequences.{lease_writes}

none_at_all : {A : Type 0} → (xs : List A) → length xs ≡ 0 → xs ≡ []
none_at_all [] is = refl
none_at_all (x ∷ xs) is = absurd (omega arith)

nothing_written : (writes : Writes) → writes ≡ empty → entries writes ≡ []
nothing_written writes none =
    none_at_all (entries writes) (sym (len-entries writes) ∙ ap len none ∙ len-empty key_cmp Change)

pub small_none : (writes : Writes) → writes ≡ empty → IsSmall writes
small_none writes none = record {
  few = (let zero_is : len writes ≡ 0 = ap len none ∙ len-empty key_cmp Change in omega (arith, zero_is));
  short = subst (AllByRecursion IsShort) (sym (nothing_written writes none)) tt;
}

put_some : (key : List ℕ) (change : Change) (es : List (List ℕ × Change)) → put key_cmp key change es ≢ []
put_some key change [] none = absurd cc
put_some key change (e ∷ es) none = by (key_cmp key e.0) none
  where
    by : (r : Ordering) → by_order r ((key, change) ∷ e ∷ es) ((e.0, change) ∷ es) (e ∷ put key_cmp key change es) ≡ [] → ⊥
    by Less none = absurd cc
    by Equal none = absurd cc
    by Greater none = absurd cc

pub some_written : (key : List ℕ) (end : ℕ) (writes : Writes) → writes ≡ lease_writes key end → entries writes ≢ []
some_written key end writes is none =
    let nothing : Writes = empty in
    let change = Set (untagged (big_bytes 8 end)) in
    put_some key change (entries nothing)
    (sym (entries-insert nat_list_cmp_total nothing key change) ∙ ap entries (sym is) ∙ none)
