-- Why a shop's merge wasn't done, where nothing failed.
use Rattle.std.specs.Prelude.{◌≡◌, ◌⊎◌, ℕ, ◌+◌, ◌≤◌, List, Some, length}
use Rattle.vl_drive.specs.Knowing.{Knows}
use Rattle.vl_drive.specs.Steps.{history_by, layout_by}
use Rattle.vl_engine_model.specs.Jobs.{Made}
use Rattle.vl_engine_model.specs.Rulings.Fresh as fresh
use Rattle.vl_engine_model.specs.Rulings.Fresh.{fresh_ruling}
use Rattle.vl_engine_model.specs.Rulings.Install as install
use Rattle.vl_engine_model.specs.Rulings.Install.{InstallAnswer, install_ruling}
use Rattle.vl_engine_model.specs.Rulings.Plan.{plan_ruling}
use Rattle.vl_engine_model.specs.declared.job.Job.{Job}
use Rattle.vl_engine_model.specs.declared.layout.Layout.{Layout}
use Rattle.vl_engine_model.specs.declared.lock_history.LockEntry.{LockEntry}
use Rattle.vl_model.specs.History.{History}
use Rattle.vl_model.specs.Limits.{max_file_number}
use Rattle.vl_model.specs.declared.counter.Counter.TheVariants as counters
use Rattle.vl_model.specs.declared.counter.Counter.{Counter}
use mathlib.Core.List.{IsPrefix}

module _ (v w : Knows) where
  -- At a moment between what was seen before and what is seen now, the steps came to a layout and a history of which this holds.
  pub record Between (P : Layout → History → Type 0) : Type 0 where
    pub before : List LockEntry
    pub later : IsPrefix v.seen before
    pub within : IsPrefix before w.seen
    pub was : P (layout_by v.origin before) (history_by v.origin before)

  -- no number of a table was left for it, or it took as many as there are
  abbrev pub WantsTables : Type 0
  WantsTables = Between (λ l h. (fresh_ruling l h).answer ≡ fresh.Exhausted counters.Table)
      ⊎ (max_file_number + length v.own ≤ length w.own)

  -- The merge that the ruling on plans had was answered so by the ruling on installs.
  pub record WasAnswered (answer : InstallAnswer) : Type 0 where
    pub planned : Job
    pub due : Between (λ l h. (plan_ruling l h).answer ≡ Some planned)
    pub made : Made
    pub ruled : Between (λ l h. (install_ruling l h planned made).answer ≡ answer)

  abbrev pub WasExhausted : Type 0
  WasExhausted = (counter : Counter) × WasAnswered (install.Exhausted counter)

  -- a record was relocated whose deletion it dropped
  abbrev pub WasRaced : Type 0
  WasRaced = (key : List ℕ) × (number : ℕ) × WasAnswered (install.Raced key number)

  -- Numbers ran out, or a relocation came between.
  abbrev pub WasNotMerged : Type 0
  WasNotMerged = WantsTables ⊎ (WasExhausted ⊎ WasRaced)
