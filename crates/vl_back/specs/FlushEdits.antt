-- What a flush changes of what the manifest says.
use Rattle.std.specs.Prelude.{ℕ, ◌+◌, List, [], ◌∷◌}
use Rattle.vl_back.specs.declared.back.Back.{Back}
use Rattle.vl_manifest.specs.declared.waiting.Waiting.{Waiting}
use Rattle.vl_manifest.specs.States.{flush_edits}
use Rattle.vl_manifest.specs.declared.edit.Edit.{Edit}

-- the first log whose commits aren't in tables, where these wait for their flush
abbrev pub head_of : ℕ → List Waiting → ℕ
head_of active [] = active
head_of active (w ∷ ws) = w.number

-- The table is put in front of level 0, the log that waits for longest is in tables, and the next
-- numbers are these.
abbrev pub switch_of : ℕ → List Waiting → Back → List Edit
switch_of active [] b = []
switch_of active (w ∷ ws) b =
    flush_edits b.state.next_table (head_of active ws) w.covered b.next_log (b.state.next_table + 1)

abbrev pub flush_switch : ℕ → Back → List Edit
flush_switch active b = switch_of active b.waiting.items b
