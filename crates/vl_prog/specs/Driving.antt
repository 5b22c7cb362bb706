-- Clients over a store in memory: what is printed of them.
use Rattle.std.specs.Prelude.{◌≡◌, ℕ, List}
use Rattle.vl_drive.specs.Driven.{HasDriven}
use Rattle.vl_drive.specs.declared.store_run.Driven.{Driven}
use Rattle.vl_io.specs.declared.sink.Sink as sink
use Rattle.vl_prog.specs.Run.{PrintsLines, StatusOfLines}
use Rattle.vl_script.specs.Text.{driven_text}
use Rattle.vl_script_model.specs.declared.ending.Ending.{Ending}

-- These lines tell what so many clients came to, by some list of all steps of a store that had nothing before.
pub record TellsDriven (clients txns seed : ℕ) (text : List ℕ) : Type 0 where
  pub came : Driven
  pub has_driven : HasDriven clients txns seed came
  pub text_is : text ≡ driven_text came.commits came.conflicts came.total

abbrev pub PrintsDriven : {K : Type 0} → sink.Ghosts K → (clients txns seed : ℕ) → (old new : K) → Ending → Type 0
PrintsDriven k clients txns seed = PrintsLines k (TellsDriven clients txns seed)

abbrev pub StatusOfDrive : {K : Type 0} → sink.Ghosts K → (clients txns seed : ℕ) → (old new : K) → (status : ℕ) → Type 0
StatusOfDrive k clients txns seed = StatusOfLines k (TellsDriven clients txns seed)
