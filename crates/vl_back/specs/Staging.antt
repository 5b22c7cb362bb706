-- What a flush spells before anything is written: the table, and the switch that names it.
use Rattle.std.specs.Prelude.{◌≡◌, ℕ, List, Some}
use Rattle.vl_back.specs.FlushEdits.{flush_switch}
use Rattle.vl_back.specs.Tables.{IsTableOf}
use Rattle.vl_back.specs.declared.back.Back.{Back}
use Rattle.vl_back.specs.declared.flush.StagedFlush.{StagedFlush}
use Rattle.vl_manifest.specs.States.{next_state}
use Rattle.vl_manifest.specs.Switching.{IsStaged, IsStagedFor}
use Rattle.vl_model.specs.declared.entry.Entry.{Entry}

-- The table is that of these entries; the frame spells the switch at the manifest's end, and behind
-- it the manifest says this state.
pub record IsStagedFlush (b : Back) (active : ℕ) (es : List Entry) (staged : StagedFlush) : Type 0 where
  pub table : IsTableOf b.state.next_table es staged.table
  pub frame : IsStaged b.manifest.number b.manifest.length (flush_switch active b) staged.edits
  pub at_end : IsStagedFor b.manifest staged.edits
  pub says : next_state (flush_switch active b) b.state ≡ Some staged.state
