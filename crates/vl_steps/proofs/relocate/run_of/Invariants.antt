use Rattle.std.specs.Prelude.{◌≡◌, take}
use Rattle.vl_steps.specs.Relocating.{move_entries_of}
use Rattle.vl_model.specs.Entries.{in_order}
use Rattle.vl_steps.proofs.relocate.run_of.Given as goal

-- the entries of the records so far
abbrev pub invariant-loop-i : goal.invariant-loop-i
invariant-loop-i l = l.run ≡ in_order (move_entries_of (take l.i l.moved) l.pointers)
