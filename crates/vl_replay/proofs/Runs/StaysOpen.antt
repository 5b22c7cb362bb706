-- A store may be opened on a disk that holds a state, and where a run ended.
use Rattle.std.specs.Prelude.{Option, None, Some}
use Rattle.vl_disk.specs.declared.watched.Watched.{Ghosts}
use Rattle.vl_recover.specs.crash.Starts.{MayOpen}
use Rattle.vl_replay.specs.Served.{StaysOpen}
use Rattle.vl_script_model.specs.Durable.{HoldsState, Tells}
use Rattle.vl_script_model.specs.Sequential.{State}
use Rattle.vl_script_model.specs.Stored.{IsStored}
use Rattle.vl_script_model.specs.declared.ending.Ending.{Ending}
use Rattle.vl_script_model.specs.laws.ShownDisk.{stored_exactly}

module _ {D : Type 0} (g : Ghosts D) where
  pub held_open : (s : State) (disk : D) → HoldsState g IsStored s disk → Tells g disk MayOpen
  held_open s disk held = (held.there.0, held.there.1, stored_exactly.may_open s held.there.0 held.there.2)

  -- behind a step, whether the run went on or not
  pub stays_open : (stands : State → Type 0) (disk : D) (ended : Option Ending) → StaysOpen g stands disk ended → Tells g disk MayOpen
  stays_open stands disk None (t, is, held) = held_open t disk held
  stays_open stands disk (Some ending) tells = tells
