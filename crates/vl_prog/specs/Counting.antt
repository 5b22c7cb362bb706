-- Numbers that clients take from leases of a store in memory: what is printed of them.
use Rattle.std.specs.Prelude.{◌≡◌, ℕ, List}
use Rattle.vl_io.specs.declared.sink.Sink as sink
use Rattle.vl_prog.specs.Run.{PrintsLines, StatusOfLines}
use Rattle.vl_script.specs.Text.{counted_text}
use Rattle.vl_script_model.specs.declared.ending.Ending.{Ending}
use Rattle.vl_sequence.specs.Counted.{HasCounted}
use Rattle.vl_sequence.specs.declared.ids.Counted.{Counted}

-- These lines tell what so many clients were given, by some list of all steps of a store that had nothing before.
pub record TellsCounted (clients count lease : ℕ) (text : List ℕ) : Type 0 where
  pub came : Counted
  pub has_counted : HasCounted clients count lease came
  pub text_is : text ≡ counted_text came.given came.leases came.next

abbrev pub PrintsCounted : {K : Type 0} → sink.Ghosts K → (clients count lease : ℕ) → (old new : K) → Ending → Type 0
PrintsCounted k clients count lease = PrintsLines k (TellsCounted clients count lease)

abbrev pub StatusOfIds : {K : Type 0} → sink.Ghosts K → (clients count lease : ℕ) → (old new : K) → (status : ℕ) → Type 0
StatusOfIds k clients count lease = StatusOfLines k (TellsCounted clients count lease)
