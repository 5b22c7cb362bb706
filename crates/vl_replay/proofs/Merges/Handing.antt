-- The merge that waits can be handed in, and still can behind a call of the engine that leaves it alone.
use Rattle.std.proofs.Common.{◌≡◌, ℕ, Bool, true, false, ◌&&◌, not, List, [], ◌∷◌, refl, ap, sym, ◌∙◌, subst}
use Rattle.std.proofs.lemmas.List.Elements.{recursion_from_All}
use Rattle.std.specs.Prelude.{Option, None, Some, IsSome, Ok, Err, OnOk, Result, is_some}
use Rattle.vl_compact.specs.declared.files.Lent.{Lent}
use Rattle.vl_compact.specs.declared.files.Synced.{Synced}
use Rattle.vl_compact.specs.declared.job.Job.{Job}
use Rattle.vl_disk.specs.DiskState.{DiskState}
use Rattle.vl_disk.specs.declared.name.Name.{Name}
use Rattle.vl_disk.specs.declared.watched.Watched.{Ghosts}
use Rattle.vl_disk.specs.declared.writer.Writer.{Ghosts as Writers}
use Rattle.vl_engine_laws.specs.Carries.{StaysUntold}
use Rattle.vl_steps.specs.Installing.{IsHandedIn, numbers_in}
use Rattle.vl_engine.specs.UnderWay.{IsUnderWay}
use Rattle.vl_engine_laws.specs.declared.open.OpenMerge.{OpenMerge}
use Rattle.vl_engine_model.specs.Jobs.{AreDistinct}
use Rattle.vl_model.specs.Numbers.{has}
use Rattle.vl_replay.specs.Handed.{CanHandIn, MayHandIn}
use Rattle.vl_space.specs.Removing.{are_distinct}
use Rattle.vl_script_model.specs.declared.fails.Halt.{Halt}
use Rattle.vl_replay_laws.specs.declared.planned.Planned.{Planned}

none_some : {T : Type 0} (x : T) → None ≡ Some x → ⊥
none_some x e = cc

and_both : (a b : Bool) → (a && b) ≡ true → (a ≡ true) × (b ≡ true)
and_both true b is = (refl, is)
and_both false b is = absurd cc

not_true : (b : Bool) → not b ≡ true → b ≡ false
not_true true is = absurd cc
not_true false is = refl

distinct_so : (ns : List ℕ) → are_distinct ns ≡ true → AreDistinct ns
distinct_so [] is = tt
distinct_so (n ∷ ns) is =
    let (other, later) = and_both (not (has n ns)) (are_distinct ns) is in (not_true (has n ns) other, distinct_so ns later)

-- what told nothing tells nothing
told_before : (old new : Option DiskState) (state : DiskState) → StaysUntold old new → new ≡ Some state
    → (before : DiskState) × (old ≡ Some before)
told_before None new state stays is = absurd (none_some state (sym (stays refl) ∙ is))
told_before (Some before) new state stays is = (before, refl)

module _ {D V H W : Type 0} (g : Ghosts D) (w : Writers W) {s : _} where
  -- where one waits a merge is open
  pub waits_open : (disk : D) (merging : Option OpenMerge) (planned : Option (Planned V H W s)) → CanHandIn g w disk merging planned
      → is_some planned ≡ true → is_some merging ≡ true
  waits_open disk merging None can waits = absurd cc
  waits_open disk merging (Some p) can waits = (can p refl).is_open

  -- it can be handed in
  pub handed_in : (disk : D) (halted : Option Name) (merging : Option OpenMerge) (job : Job V H W s) → MayHandIn g w disk merging job
      → IsHandedIn g w disk halted merging job
  handed_in disk halted merging job may = of merging refl may.is_open
    where
      of : (o : Option OpenMerge) → merging ≡ o → is_some o ≡ true → IsHandedIn g w disk halted merging job
      of None is some = absurd cc
      of (Some merge) is some = record {
        ended = may.ended;
        merge = merge;
        is_open = is;
        drawn = recursion_from_All (λ (n : ℕ). has n merge.lent.items ≡ true) (numbers_in job) (may.drawn merge is);
        distinct = distinct_so (numbers_in job) may.distinct;
        tells = λ running state told. recursion_from_All (λ (t : Synced W s). IsSome (w.file t.writer)) job.made.items
            (may.tells state told);
        leavings_tell = λ running state told. recursion_from_All (λ (f : Lent W s). IsSome (w.file f.writer)) job.leavings.items
            (may.leavings_tell state told);
      }

  -- and given up
  pub under_way : (disk : D) (halted : Option Name) (merging : Option OpenMerge) (job : Job V H W s) → MayHandIn g w disk merging job
      → IsUnderWay g w disk halted merging job
  under_way disk halted merging job may =
      let handed = handed_in disk halted merging job may in
      record {
        merge = handed.merge;
        is_open = handed.is_open;
        drawn = handed.drawn;
        distinct = handed.distinct;
        tells = handed.tells;
        leavings_tell = handed.leavings_tell;
      }

  may_still : (old new : D) (merging : Option OpenMerge) (job : Job V H W s) → StaysUntold (g.told old) (g.told new)
      → MayHandIn g w old merging job → MayHandIn g w new merging job
  may_still old new merging job stays may = record {
    ended = may.ended;
    is_open = may.is_open;
    drawn = may.drawn;
    distinct = may.distinct;
    tells = λ state told. (let (before, there) = told_before (g.told old) (g.told new) state stays told in may.tells before there);
    leavings_tell = λ state told.
        (let (before, there) = told_before (g.told old) (g.told new) state stays told in may.leavings_tell before there);
  }

  -- so it can where it was handed back as it was, and the disk was left alone
  pub handed_back : (old new : D) (halted : Option Name) (merging merging' : Option OpenMerge) (job back : Job V H W s)
      → (back ≡ job) × (merging' ≡ merging) → g.told new ≡ g.told old → MayHandIn g w old merging job
      → IsUnderWay g w new halted merging' back
  handed_back old new halted merging merging' job back (same, still) told may =
      subst (λ (x : Job V H W s). IsUnderWay g w new halted merging' x) (sym same)
      (subst (λ (o : Option OpenMerge). IsUnderWay g w new halted o job) (sym still)
      (under_way new halted merging job (may_still old new merging job (λ none. told ∙ none) may)))

  module _ (old new : D) (merging merging' : Option OpenMerge) (planned : Option (Planned V H W s)) (same : merging' ≡ merging) where
    pub can_still : StaysUntold (g.told old) (g.told new) → CanHandIn g w old merging planned → CanHandIn g w new merging' planned
    can_still stays can = λ p is.
        subst (λ (o : Option OpenMerge). MayHandIn g w new o p.job) (sym same) (may_still old new merging p.job stays (can p is))

    -- where it was answered
    pub can_answered : {T : Type 0} (result : Result T Halt) → OnOk result (StaysUntold (g.told old) (g.told new))
        → CanHandIn g w old merging planned
        → OnOk result (CanHandIn g w new merging' planned)
    can_answered (Ok x) stays can = can_still stays can
    can_answered (Err e) stays can = tt

    -- the disk is the same
    pub can_same : {T : Type 0} (result : Result T Halt) → new ≡ old → CanHandIn g w old merging planned
        → OnOk result (CanHandIn g w new merging' planned)
    can_same (Ok x) disk can = can_still (λ none. ap (λ (d : D). g.told d) disk ∙ none) can
    can_same (Err e) disk can = tt
