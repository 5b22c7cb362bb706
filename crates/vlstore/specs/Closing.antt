-- What the engine of a closed store holds.
use Rattle.std.specs.Prelude.{◌≡◌, Some}
use Rattle.vl_mem.specs.Held.{held_bytes}
use Rattle.vl_mem.specs.SureDisk.{state_on}
use Rattle.vl_model.specs.History.{History, last_number}
use Rattle.vl_reads.specs.Sees.{SeesAlone}
use Rattle.vlstore.specs.Reopening.{Keeps}
use Rattle.vlstore.specs.declared.shop.sure.SureEngine.{SureEngine}

-- its view sees the history, at its last number, and its disk keeps it
pub record HoldsAll (e : SureEngine) (h : History) : Type 0 where
  pub sees : SeesAlone (λ held. Some (held_bytes held)) e.view h
  pub number : e.view.number ≡ last_number h
  pub kept : Keeps h (state_on e.engine.disk)
