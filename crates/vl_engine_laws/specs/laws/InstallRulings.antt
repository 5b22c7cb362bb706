-- The ruling on an install is by what is decided before anything is written.
use Rattle.std.specs.Prelude.{◌≡◌, ℕ, nat_le, Bool, true, false, if◌then◌else◌, [], Option, None, Some}
use Rattle.std.proofs.Common.{sym, ap, ◌∙◌, arith}
use Rattle.std.proofs.lemmas.Bool.Decides.{nat_tests}
use Rattle.vl_engine_model.specs.Jobs.{Made, job_ended}
use Rattle.vl_engine_model.specs.Ruling.{Ruling, has_no_epoch, leaving}
use Rattle.vl_engine_model.specs.Rulings.Install.{Exhausted, Halted, InstallAnswer, Installed, Raced, install_checked}
use Rattle.vl_engine_model.specs.Rulings.Install.{install_ruling, install_unless, installed, moved_since, race}
use Rattle.vl_engine_model.specs.declared.file_name.FileName.{FileName}
use Rattle.vl_engine_model.specs.declared.job.Job.{Job}
use Rattle.vl_engine_model.specs.declared.job.OpenJob.{OpenJob}
use Rattle.vl_engine_model.specs.declared.layout.Layout.{Layout}
use Rattle.vl_model.specs.Conflicts.{Named}
use Rattle.vl_model.specs.History.{History}
use Rattle.vl_model.specs.Limits.{max_epoch}
use Rattle.vl_model.specs.declared.counter.Counter.TheVariants as counter

-- what it is where the job's tables are put in
abbrev pub install_made : Layout → History → OpenJob → Made → Ruling InstallAnswer
install_made l h o made =
    record { answer = Installed; history = h; layout = installed o.job made l; calls = 2; gone = [] }

-- What lets an install go on: nothing failed, no deletion that it dropped was moved meanwhile, and an epoch is left.
pub record GoesOn (l : Layout) (o : OpenJob) : Type 0 where
  pub running : l.halted ≡ None
  pub open_is : l.job ≡ Some o
  pub unraced : race o.job o.moved ≡ None
  pub version : has_no_epoch l ≡ false

-- Where a call failed before,
pub install_halted : (l : Layout) (h : History) (job : Job) (made : Made) (name : FileName) → l.halted ≡ Some name
    → leaving (Halted name) h (job_ended made l) ≡ install_ruling l h job made
install_halted l h job made name halted = sym (ap (λ (o : Option FileName). install_unless o l h job made) halted)

module _ (l : Layout) (h : History) (o : OpenJob) (made : Made) (running : l.halted ≡ None) (open_is : l.job ≡ Some o) where
  by_race : (named : Option Named) → race o.job o.moved ≡ named
      → install_ruling l h o.job made ≡ install_checked l h o.job made named
  by_race named raced = ap (λ (halted : Option FileName). install_unless halted l h o.job made) running
      ∙ ap (install_checked l h o.job made) (ap (λ (job : Option OpenJob). race o.job (moved_since job)) open_is ∙ raced)

  -- where a deletion that it dropped was moved meanwhile,
  pub install_raced : (named : Named) → race o.job o.moved ≡ Some named
      → leaving (Raced named.0 named.1) h (job_ended made l) ≡ install_ruling l h o.job made
  install_raced named raced = sym (by_race (Some named) raced)

  by_version : race o.job o.moved ≡ None → (b : Bool) → has_no_epoch l ≡ b → install_ruling l h o.job made
      ≡ (if b then leaving (Exhausted counter.Version) h (job_ended made l) else install_made l h o made)
  by_version unraced b is = by_race None unraced
      ∙ ap (λ (c : Bool). if c then leaving (Exhausted counter.Version) h (job_ended made l) else install_made l h o made) is

  -- where no epoch is left,
  pub install_exhausted : race o.job o.moved ≡ None → has_no_epoch l ≡ true
      → leaving (Exhausted counter.Version) h (job_ended made l) ≡ install_ruling l h o.job made
  install_exhausted unraced used = sym (by_version unraced true used)

-- and else.
pub install_made_so : (l : Layout) (h : History) (o : OpenJob) (made : Made) → GoesOn l o
    → install_made l h o made ≡ install_ruling l h o.job made
install_made_so l h o made goes = sym (by_version l h o made goes.running goes.open_is goes.unraced false goes.version)

-- Whether one is left is told by the number of the version.
pub install_version : (l : Layout) (version : ℕ) → version ≡ l.epoch
    → nat_le max_epoch version ≡ has_no_epoch l
install_version l version is = grind (arith, nat_tests, is)
