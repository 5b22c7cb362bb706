-- A store that was opened: how far the numbers of its disk's files go, and what is refused.
use Rattle.std.proofs.Common.{◌≡◌, ℕ, List, ap, sym, ◌∙◌, subst, inl, inr}
use Rattle.std.specs.Prelude.{◌≤◌, Option, Some, None}
use Rattle.vl_disk.specs.Crash.{Image}
use Rattle.vl_disk.specs.DiskState.{DiskState}
use Rattle.vl_disk.specs.declared.name.Name.{Name}
use Rattle.vl_disk.specs.declared.watched.Watched.{Ghosts}
use Rattle.vl_recover.specs.opening.Answers.{Finds, IsNotOpened}
use Rattle.vl_recover.specs.crash.Meanwhile.{IsRepaired}
use Rattle.vl_recover.specs.repairing.Repairing.{Plan, repaired, plan_from, plan_of}
use Rattle.vl_recover.specs.laws.opening.OneFinding.{same_greatest, same_logs, same_opening}
use Rattle.vl_recover.specs.opening.Opening.{Opening}
use Rattle.vl_recover.specs.opening.Plans.{Greatest, active_of, log_made, new_state}
use Rattle.vl_recover.specs.opening.Walk.{StandingLog}
use Rattle.vl_script_model.specs.Opening.{IsRefused}
use Rattle.vl_script_model.specs.Sequential.{State}
use Rattle.vl_script_model.specs.Start.{StartsIn}
use Rattle.vl_script_model.specs.Stopped.{AreNumberedUpTo}
use Rattle.vl_script_model.specs.declared.fails.Refusal.{Refusal}
use Rattle.vl_script_model.specs.declared.fails.Refusal.TheVariants.{NotAStore, NewerFormat, Damaged, Exhausted}
use Rattle.vl_script_model.specs.laws.Numbered.{IsLogUpTo, repaired_numbered}

-- the plan of a disk's repairing is one
same_plan : (image : Image) (a b : Finds image) (strays : List Name) → plan_of a strays ≡ plan_of b strays
same_plan image a b strays =
    ap (λ (g : Greatest). plan_from g a.opening.state a.logs strays) (same_greatest image a b)
    ∙ ap (λ (o : Opening). plan_from b.greatest o.state a.logs strays) (same_opening image a b)
    ∙ ap (λ (logs : List StandingLog). plan_from b.greatest b.opening.state logs strays) (same_logs image a b)

-- ---- the numbers of its files

module _ {D : Type 0} (g : Ghosts D) (disk : D) (s : State) (starts : StartsIn g disk s) where
  abbrev found : Finds starts.read
  found = starts.found

  -- no file passes the number that the state counts up to
  log_up_to : (made : Option ℕ) → active_of made found.logs ≤ s.files → IsLogUpTo s.files made
  log_up_to None within = tt
  log_up_to (Some log) within = within

  pub opened_numbered : (now : DiskState) → IsRepaired starts.read starts.state (Some now) → AreNumberedUpTo s.files now
  opened_numbered now is_repaired =
      let repairing = is_repaired.repairing in
      let plan_is : repairing.plan ≡ plan_of found repairing.plan.strays = repairing.is.is
      ∙ same_plan starts.read repairing.found found repairing.plan.strays in
      let now_is : now ≡ repaired repairing.plan starts.state = same_state now (repaired repairing.plan starts.state) is_repaired.told in
      subst (AreNumberedUpTo s.files) (sym now_is)
      (repaired_numbered s.files repairing.plan starts.state
      (subst (λ (p : Plan). p.manifest ≤ s.files) (sym plan_is) starts.files.manifest)
      (subst (λ (p : Plan). IsLogUpTo s.files p.log) (sym plan_is)
      (log_up_to (log_made (new_state found.greatest found.opening.state) found.logs) starts.files.log))
      starts.files.numbered)
    where
      same_state : (a b : DiskState) → Some a ≡ Some b → a ≡ b
      same_state a b e = cc

-- ---- a refusal

pub refused_not : (image : Image) (refusal : Refusal) → IsRefused image refusal → IsNotOpened image
refused_not image NotAStore opens = inl (_, opens)
refused_not image (NewerFormat format) opens = inl (_, opens)
refused_not image (Damaged name place) opens = inl (_, opens)
refused_not image (Exhausted counter) (found, used) = inr (found, λ none. absurd (apart counter (sym used ∙ none)))
  where
    apart : {X : Type 0} (x : X) → Some x ≡ None → ⊥
    apart x e = cc
