use Rattle.std.proofs.Common.{◌≡◌, ◌≤◌, ◌⊎◌, Bool}
use Rattle.vl_model.specs.Cursors.{Keeps}
use Rattle.vl_model.specs.declared.entry.Entry.{Entry}
use Rattle.vl_merge.specs.Held.{visible_left, held_budget}
use Rattle.vl_model.specs.declared.way.Way.{Way}
use Rattle.vl_merge.specs.Standing.{InWay, IsMetBy}
use Rattle.vl_merge.proofs.visible.next_visible.Given as goal

abbrev pub invariant-loop-entry : goal.invariant-loop-entry
invariant-loop-entry g l = record {
  kept : Keeps (visible_left l.hides l.number l.initial.held (g.M.Cursor.left l.initial.merge))
      (visible_left l.hides l.number l.held (g.M.Cursor.left l.merge));
  spends : held_budget l.held (g.M.Cursor.budget l.merge) ≤ held_budget l.initial.held (g.M.Cursor.budget l.initial.merge);
  steady : g.M.Cursor.faults l.reader ≡ g.M.Cursor.faults l.initial.reader;
  fails : (fault : _) → g.M.Cursor.may_fail l.merge fault → g.M.Cursor.may_fail l.initial.merge fault;
  back : (is_met : Entry → Bool) → IsMetBy is_met l.held ⊎ g.M.Cursor.stands_to l.merge is_met
      → IsMetBy is_met l.initial.held ⊎ g.M.Cursor.stands_to l.initial.merge is_met;
  in_way : (way : Way) → InWay way l.initial.held (g.M.Cursor.left l.initial.merge) → InWay way l.held (g.M.Cursor.left l.merge);
}

abbrev pub decreases-loop-entry : goal.decreases-loop-entry
decreases-loop-entry g l = g.M.Cursor.budget l.merge
