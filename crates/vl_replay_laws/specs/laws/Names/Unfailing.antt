-- Nothing through which a name reads ever fails: so it stays where names are put, are taken out, or read.
use Rattle.std.proofs.Common.{◌≡◌, ℕ, List, [], ◌∷◌, ◌++◌, ap, sym, ◌∙◌, subst, ⊎_elim}
use Rattle.std.specs.Prelude.{Option, None, Some, slice_index_or, slice_set}
use Rattle.vl_disk.specs.Faults.{never}
use Rattle.vl_engine_model.specs.Store.Lines.{Name}
use Rattle.vl_reads.specs.Reading.{OnlyWrites}
use Rattle.vl_reads.specs.declared.txn.Txn.{Txn}
use Rattle.vl_replay_laws.specs.Standing.{AreOnce, IsTaken, NoneFails, open_in, place_of, reader_of}
use Rattle.vl_replay_laws.specs.declared.open.Open.{Open}
use Rattle.vl_replay_laws.specs.declared.open.Thing.{Thing}
use Rattle.vl_replay_laws.specs.declared.open.Thing.TheVariants.{Transaction}
use Rattle.vl_replay_laws.specs.laws.Names.Lookups.{open_beside, open_put, place_there}
use Rattle.vl_replay_laws.specs.laws.Names.Placing.{IsChanged, changed_at, place_named}
use Rattle.vl_replay_laws.specs.laws.Names.Standings.{same_or_not}

module _ {H R : Type 0} where
  none_some : (thing : Thing H R) → None ≡ Some thing → ⊥
  none_some thing e = cc

  one_thing : (a b : Thing H R) → Some a ≡ Some b → a ≡ b
  one_thing a b e = cc

module _ {H R : Type 0} (faults : R → ℕ) where
  -- no name is in use
  pub none_reads : (opens : List (Open H R)) → opens ≡ [] → NoneFails opens faults
  none_reads opens none = record {
    each = λ name thing is. absurd (none_some thing (sym (ap (λ (os : List (Open H R)). open_in os name) none) ∙ is));
  }

  -- all are as they were
  pub same_reads : (old new : List (Open H R)) → new ≡ old → NoneFails old faults → NoneFails new faults
  same_reads old new same none = subst (λ (os : List (Open H R)). NoneFails os faults) (sym same) none

  -- a name was taken out
  pub taken_reads : (old new : List (Open H R)) (name : Name) (thing : Option (Thing H R)) → IsTaken old new name thing
      → NoneFails old faults → NoneFails new faults
  taken_reads old new name thing taken none = record {
    each = λ other left is. ⊎_elim
        (λ (same : other ≡ name). absurd (none_some left
        (sym (subst (λ (q : Name). open_in new q ≡ None) (sym same) taken.none) ∙ is)))
        (λ (apart : other ≡ name → ⊥). none.each other left (sym (taken.others other apart) ∙ is))
        (same_or_not other name);
  }

  -- one was put behind the others
  pub put_reads : (os : List (Open H R)) (o : Open H R) → open_in os o.name ≡ None → NoneFails os faults
      → faults (reader_of o.thing) ≡ never → NoneFails (os ++ o ∷ []) faults
  put_reads os o free none sure = record {
    each = λ other thing is. ⊎_elim
        (λ (same : other ≡ o.name). subst (λ (t : Thing H R). faults (reader_of t) ≡ never)
        (one_thing o.thing thing (sym (open_put os o free)
        ∙ subst (λ (q : Name). open_in (os ++ o ∷ []) q ≡ Some thing) same is)) sure)
        (λ (apart : other ≡ o.name → ⊥). none.each other thing (sym (open_beside os o other apart) ∙ is))
        (same_or_not other o.name);
  }

  -- what was taken out was put back
  pub back_reads : (os left : List (Open H R)) (name : Name) (thing again : Thing H R) → IsTaken os left name (Some thing)
      → again ≡ thing → NoneFails os faults → NoneFails (left ++ record { name = name; thing = again } ∷ []) faults
  back_reads os left name thing again taken same none =
      put_reads left (record { name = name; thing = again }) taken.none (taken_reads os left name (Some thing) taken none)
      (ap (λ (t : Thing H R). faults (reader_of t)) same ∙ none.each name thing taken.found)

  -- writes don't change what reads
  written_reads : (old new : Txn H R) → OnlyWrites old new → faults (reader_of (Transaction old)) ≡ never
      → faults (reader_of (Transaction new)) ≡ never
  written_reads old new keeps sure = ap (λ (t : Txn H R). faults t.reader.reader) keeps ∙ sure

  -- a name stands for another thing
  changed_reads : (old new : List (Open H R)) (name : Name) (thing : Thing H R) → IsChanged old new name thing → NoneFails old faults
      → faults (reader_of thing) ≡ never → NoneFails new faults
  changed_reads old new name thing changed none sure = record {
    each = λ other t is. ⊎_elim
        (λ (same : other ≡ name). subst (λ (x : Thing H R). faults (reader_of x) ≡ never)
        (one_thing thing t (sym changed.found ∙ subst (λ (q : Name). open_in new q ≡ Some t) same is)) sure)
        (λ (apart : other ≡ name → ⊥). none.each other t (sym (changed.others other apart) ∙ is))
        (same_or_not other name);
  }

  -- ---- in the words of the functions that look a name up, and change what stands there

  module _ (os : List (Open H R))
      -- the names as the call had them, and the name as it had it
      (slice : List (Open H R)) (value : slice ≡ os) (q name : Name) (same : q ≡ name)
      (at : ℕ) (is : place_of q slice ≡ Some at) (o : Open H R) (there : o ≡ slice_index_or os at o) where
    place_is : place_of name os ≡ Some at
    place_is = sym (ap (λ (n : Name). place_of n os) same) ∙ sym (ap (place_of q) value) ∙ is

    -- what stands there never fails
    pub its_reads : (thing : Thing H R) → o.thing ≡ thing → NoneFails os faults → faults (reader_of thing) ≡ never
    its_reads thing thing_is none =
        let (left, found, within) = place_there name os at place_is in
        none.each name thing (found o ∙ ap (λ (p : Open H R). Some p.thing) (sym there) ∙ ap (λ (x : Thing H R). Some x) thing_is)

    -- nor does another thing in its place, where that is as sure
    pub reads_in_place : AreOnce os → (thing new : Thing H R) → o.thing ≡ thing → NoneFails os faults
        → (faults (reader_of thing) ≡ never → faults (reader_of new) ≡ never)
        → NoneFails (slice_set os at (record { name = o.name; thing = new })) faults
    reads_in_place once thing new thing_is none still =
        let p : Open H R = record { name = o.name; thing = new } in
        let named : o.name ≡ name = ap (λ (w : Open H R). w.name) there ∙ place_named name os at place_is o in
        changed_reads os (slice_set os at p) name new (changed_at name os at p named place_is once) none
        (still (its_reads thing thing_is none))

    -- nor does a transaction there that was written
    pub writes_in_place : AreOnce os → (old new : Txn H R) → o.thing ≡ Transaction old → OnlyWrites old new → NoneFails os faults
        → NoneFails (slice_set os at (record { name = o.name; thing = Transaction new })) faults
    writes_in_place once old new thing_is keeps none =
        reads_in_place once (Transaction old) (Transaction new) thing_is none (written_reads old new keeps)
