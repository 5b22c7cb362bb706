-- What steps do to the files in use and to those that wait, at each way out of a step.
use Rattle.std.proofs.Common.{ℕ, refl}
use Rattle.std.specs.Prelude.{Option, Some, None, Result, Ok, Err}
use Rattle.vl_compact.specs.declared.files.Lent.{Lent}
use Rattle.vl_compact.specs.declared.job.Job.{Job}
use Rattle.vl_engine.specs.Space.{FlushesStock, InstallsStock, RetiresFlushed, RetiresInstalled, RotatesStock, SealsStock}
use Rattle.vl_engine_laws.specs.declared.kept.Core.{Core}
use Rattle.vl_pins.specs.declared.stock.Stock.{Stock}
use Rattle.vl_space.specs.declared.kept.Removing.{Removing}
use Rattle.vl_space.specs.laws.Retired.Changing.{stays_itself}
use Rattle.vl_stats.specs.Tallies.{Tallied}
use Rattle.vl_steps.specs.Rotating.{IsRefusedSo}
use Rattle.vl_steps.specs.declared.fails.InstallFail.{InstallFail}
use Rattle.vl_steps.specs.declared.fails.InstallFail.TheVariants as install
use Rattle.vl_steps.specs.declared.fails.StepFail.{StepFail}
use Rattle.vl_version.specs.declared.base.Base.{Base}

module _ {H W : Type 0} (before : Core H) {s : _} (old : Stock (Lent W s)) (lent : ℕ) where
  -- no log was begun
  pub rotated_none : (result : Result (Option ℕ) StepFail) → IsRefusedSo before result → RotatesStock before old old lent result
  rotated_none (Ok (Some number)) refused = absurd refused
  rotated_none (Ok None) refused = stays_itself before old
  rotated_none (Err why) refused = stays_itself before old

  pub rotated : (new : Stock (Lent W s)) (result : Result (Option ℕ) StepFail) → SealsStock before old new lent result
      → RotatesStock before old new lent result
  rotated new (Ok (Some number)) is = is
  rotated new (Ok None) is = absurd is
  rotated new (Err why) is = is

  pub flushed : (after : Core H) (new : Stock (Lent W s)) (tally : Option Tallied) (result : Result (Option ℕ) StepFail)
      → FlushesStock before after old new tally lent result → RetiresFlushed before after old new tally lent result
  flushed after new tally (Ok (Some number)) is = is
  flushed after new tally (Ok None) is = absurd is
  flushed after new tally (Err why) is = is

pub installed : {H R W : Type 0} {s : _} (job : Job (Base H R) H W s) (before after : Core H) (old new : Removing (Lent W s))
    (tally : Option Tallied) (lent : ℕ) (result : Result (Unit {0}) (InstallFail (Base H R) H W s))
    → InstallsStock job before after old new tally lent result → RetiresInstalled job before after old new tally lent result
installed job before after old new tally lent (Ok done) is = is
installed job before after old new tally lent (Err (install.Halted name)) is = absurd is
installed job before after old new tally lent (Err (install.Raced key number)) is = absurd is
installed job before after old new tally lent (Err (install.Exhausted counter)) is = is
installed job before after old new tally lent (Err (install.NoMemory back)) is = is
installed job before after old new tally lent (Err (install.Disk name)) is = is
