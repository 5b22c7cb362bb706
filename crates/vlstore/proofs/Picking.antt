-- A pass that begins is the session's own, and what its entry is, whatever the disk tells.
use Rattle.std.proofs.Common.{◌≡◌, ℕ, List, [], ◌∷◌, ◌++◌, refl, sym, ap, ◌∙◌, subst}
use Rattle.std.specs.Prelude.{Bool, true, false, is_ok, is_some, Option, None, Some, Result, Ok, Err, IfOk}
use Rattle.std.specs.Option.{option_map}
use Rattle.vl_collect.specs.declared.pass.Pass.{Pass}
use Rattle.vl_space.specs.Collecting.{Collects, IsPicked, Passes, pick_outcome}
use Rattle.vl_engine_laws.specs.declared.kept.Core.{Core}
use Rattle.vl_space.specs.declared.fails.PickFail.{PickFail}
use Rattle.vl_space.specs.declared.fails.PickFail.TheVariants as fails
use Rattle.vl_space.specs.declared.kept.Collecting.{Collecting}
use Rattle.vl_engine_model.specs.Decides.{Decides, as_before, no_effects}
use Rattle.vl_engine_model.specs.LockHistory.{open_pass, pass_after, segment_in}
use Rattle.vl_engine_model.specs.Relocation as layout
use Rattle.vl_engine_model.specs.Ruling.{Ruling}
use Rattle.vl_engine_model.specs.Rulings.Pick.{PickAnswer, Picked, pick_best, pick_ruling, pick_unless}
use Rattle.vl_engine_model.specs.Garbage.{best}
use Rattle.vl_engine_model.specs.declared.job.OpenPass.{OpenPass}
use Rattle.vl_engine_model.specs.declared.layout.Layout.{Layout}
use Rattle.vl_engine_model.specs.declared.lock_history.LockEntry.{LockEntry}
use Rattle.vl_engine_model.specs.declared.lock_history.LockStep.TheVariants as steps
use Rattle.vl_engine_model.specs.declared.segment.SegmentStat.{SegmentStat}
use Rattle.vl_engine_model.specs.laws.LockHistoryLaws.{last_layout-append}
use Rattle.vl_model.specs.History.{History}
use Rattle.std.specs.Prelude.{◌==◌, ◌||◌, nat_lt, if◌then◌else◌}
use Rattle.vlstore.specs.Entries.{Done, entry_by, entry_of, pick_done}
use Rattle.vlstore.specs.Lists.{layout_by}
use Rattle.vlstore.specs.declared.locked.Origin.{Origin}
use Rattle.vlstore.proofs.Calls.{LeavesDone}
use Rattle.vlstore.specs.Merges.{lent_in}
use Rattle.vl_turn.specs.Entries.{with_entry}
use Rattle.vl_version.specs.declared.base.Base.{Base}

-- what a pick did, by whether a pass came of it
abbrev pub pick_did : {P : Type 0} → Layout → Result P PickFail → Done
pick_did next (Ok pass) = Some (steps.Picked, next)
pick_did next (Err why) = None

pub pick_enters : {P : Type 0} (next : Layout) (r : Result P PickFail) → is_ok r ≡ is_some (pick_did next r)
pick_enters next (Ok pass) = refl
pick_enters next (Err why) = refl

pub pick_leaves : {P : Type 0} (l next : Layout) (r : Result P PickFail) → lent_in next ≡ lent_in l → LeavesDone l (pick_did next r)
pick_leaves l next (Ok pass) lent = (tt, lent)
pick_leaves l next (Err why) lent = tt

-- it is that of the ruling, where a pass comes just where the ruling picks one
pub pick_same : {P : Type 0} (s : ℕ) (l next : Layout) (ruled : PickAnswer) (r : Result P PickFail)
    → IfOk r (λ pass. (q : layout.Pass) × (ruled ≡ Picked q))
    → entry_of s (pick_did next r) ≡ entry_by (pick_done next) (steps.Changed, l) s (pick_outcome ruled r)
pick_same s l next ruled (Ok pass) is = ap (λ a. entry_of s (pick_done next a)) (sym is.1)
pick_same s l next ruled (Err fails.InvalidRequest) is = refl
pick_same s l next ruled (Err (fails.Rejected segment)) is = refl
pick_same s l next ruled (Err fails.NoRewrite) is = refl
pick_same s l next ruled (Err fails.NoMemory) is = refl

module _ {H R : Type 0} (bytes : H → Option (List ℕ)) (next : Layout) (ruled : PickAnswer) where
  pub picked_of : (r : Result (Pass (Base H R) H) PickFail) → IfOk r (λ pass. IsPicked bytes pass next ruled)
      → IfOk r (λ pass. (q : layout.Pass) × (ruled ≡ Picked q))
  picked_of (Ok pass) is = (is.of, is.answer_is)
  picked_of (Err why) is = tt

  pub picked_at : (o : Origin) (s : ℕ) (seen now : List LockEntry) (r : Result (Pass (Base H R) H) PickFail)
      → now ≡ with_entry seen (entry_of s (pick_did next r)) → IfOk r (λ pass. IsPicked bytes pass next ruled)
      → IfOk r (λ pass. IsPicked bytes pass (layout_by o now) ruled)
  picked_at o s seen now (Ok pass) is picked = subst (λ (l : Layout). IsPicked bytes pass l ruled)
      (sym (ap (layout_by o) is
      ∙ last_layout-append o.layout seen (record { session = s; step = steps.Picked; layout = next } ∷ []))) picked
  picked_at o s seen now (Err why) is picked = tt

open_pass-more : (p : Option (ℕ × ℕ)) (es : List LockEntry) (e : LockEntry)
    → open_pass p (es ++ e ∷ []) ≡ pass_after e.session e.step e.layout (open_pass p es)
open_pass-more p [] e = refl
open_pass-more p (d ∷ es) e = open_pass-more (pass_after d.session d.step d.layout p) es e

pub pass_own : {H R : Type 0} (s : ℕ) (next : Layout) (own now : List LockEntry) (r : Result (Pass (Base H R) H) PickFail)
    → now ≡ with_entry own (entry_of s (pick_did next r)) → IfOk r (λ pass. segment_in next ≡ Some pass.log.number)
    → IfOk r (λ pass. open_pass None now ≡ Some (s, pass.log.number))
pass_own s next own now (Ok pass) is segment =
    ap (open_pass None) is ∙ (open_pass-more None own (record { session = s; step = steps.Picked; layout = next })
    ∙ ap (option_map (λ (n : ℕ). (s, n))) segment)
pass_own s next own now (Err why) is segment = tt

-- the layout's pass is over its log
pub picked_segment : {H R : Type 0} (core : Core H) (old new : Collecting) (h : History) (l : Layout) (ruling : Ruling PickAnswer)
    (r : Result (Pass (Base H R) H) PickFail)
    → Decides (λ _ m. Collects core new m) h l ruling (as_before l l) (pick_outcome ruling.answer r) no_effects
    → Passes old.passing new.passing r → IfOk r (λ pass. segment_in ruling.layout ≡ Some pass.log.number)
picked_segment core old new h l ruling (Ok pass) decides passes = sym (decides.answered ruling.answer refl).1.passing ∙ passes
picked_segment core old new h l ruling (Err why) decides passes = tt

-- ---- a pick leaves the open merge

module _ (l : Layout) (h : History) where
  abbrev KeepsJob : Ruling PickAnswer → Type 0
  KeepsJob r = r.layout.job ≡ l.job

  best_job : (stat : Option SegmentStat) → KeepsJob (pick_best l h stat)
  best_job None = refl
  best_job (Some stat) = refl

  free_job : (percent : ℕ) (p : Option OpenPass) → KeepsJob (pick_unless p l h percent)
  free_job percent None = best_job (best l percent)
  free_job percent (Some p) = refl

  either : (b : Bool) (r s : Ruling PickAnswer) → KeepsJob r → KeepsJob s → KeepsJob (if b then r else s)
  either true r s of_r of_s = of_r
  either false r s of_r of_s = of_s

  pub pick_job : (percent : ℕ) → KeepsJob (pick_ruling l h percent)
  pick_job percent = either ((percent == 0) || nat_lt 99 percent) _ _ refl (free_job percent l.pass)
