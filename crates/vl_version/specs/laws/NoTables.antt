-- Of no tables any reader reads.
use Rattle.std.specs.Prelude.{ℕ, List, [], ◌∷◌, Option, None}
use Rattle.std.specs.List.{AllByRecursion}
use Rattle.vl_table.specs.Kept.{Files, IsKept}
use Rattle.vl_table.specs.KeptBlocks.{ReadsOf}
use Rattle.vl_table.specs.declared.block_reader.BlockReader.{BlockReader}
use Rattle.vl_table.specs.declared.slot.Slot.{Slot}

-- no table has a file
abbrev pub no_files : Files
no_files = λ number. None

none_kept : (slot : Slot) → IsKept no_files slot
none_kept slot id is bytes told = absurd cc

all_none : (slots : List Slot) → AllByRecursion (IsKept no_files) slots
all_none [] = tt
all_none (slot ∷ slots) = (none_kept slot, all_none slots)

pub reads_of_none : {H R : Type 0} (bytes_of : H → Option (List ℕ)) (b : BlockReader R) → ReadsOf bytes_of no_files b []
reads_of_none bytes_of b = record {
  kept = record { front = none_kept b.front; others = all_none b.others.items };
  told = tt;
}
