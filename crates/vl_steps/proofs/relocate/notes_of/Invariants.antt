use Rattle.std.specs.Prelude.{◌≡◌, take}
use Rattle.vl_engine_model.specs.Rulings.Relocate.{moves_at}
use Rattle.vl_steps.proofs.relocate.notes_of.Given as goal

-- the keys of the records so far
abbrev pub invariant-loop-one : goal.invariant-loop-one
invariant-loop-one l = l.notes.items ≡ moves_at l.number (take l.one-index l.moved)
