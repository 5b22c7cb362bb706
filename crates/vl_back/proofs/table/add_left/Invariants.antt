use Rattle.std.proofs.Common.{◌≡◌, ℕ, List}
use Rattle.std.specs.Prelude.{Some}
use Rattle.vl_back.proofs.Adding.{AddsFront}
use Rattle.vl_back.proofs.table.add_left.Given as goal
use Rattle.vl_model.specs.declared.entry.Entry.{Entry}
use Rattle.vl_table.specs.writer.Writing.{IsWriting}

abbrev pub invariant-adding : goal.invariant-adding
invariant-adding g l = record {
  added : (number : ℕ) (es left : List Entry) → IsWriting l.initial.writer number es l.initial.bytes.items
      → g.C.Cursor.left l.initial.entries ≡ Some left
      → AddsFront number es left (g.C.Cursor.left l.entries) l.writer l.bytes.items;
}

abbrev pub decreases-adding : goal.decreases-adding
decreases-adding g l = g.C.Cursor.budget l.entries
