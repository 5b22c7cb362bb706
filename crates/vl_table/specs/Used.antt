-- How blocks that are kept are used: the one that is used goes to the front, and where there is no room the one that wasn't
-- used for longest goes.
use Rattle.std.specs.Prelude.{Bool, false, ◌||◌, if◌then◌else◌, List, [], ◌∷◌}
use Rattle.vl_table.specs.Kept.{has_block}
use Rattle.vl_table.specs.declared.slot.BlockId.{BlockId}
use Rattle.vl_table.specs.declared.slot.Slot.{Slot}

-- The slot with a block goes to the front, and those before it one place back; where none has it the last one does.
abbrev pub brought : BlockId → Slot → List Slot → Slot × List Slot
brought id front [] = (front, [])
brought id front (slot ∷ slots) =
    if has_block id front then (front, slot ∷ slots)
    else ((brought id slot slots).0, front ∷ (brought id slot slots).1)

-- whether one of the slots has the block
abbrev pub is_among : BlockId → List Slot → Bool
is_among id [] = false
is_among id (slot ∷ slots) = has_block id slot || is_among id slots
