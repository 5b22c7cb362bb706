use Rattle.std.proofs.Common.{◌≡◌, ℕ, Bool, true, List, Some}
use Rattle.std.specs.List.{AllByRecursion}
use Rattle.vl_model.specs.Keys.{Row}
use Rattle.vl_model.specs.declared.entry.Entry.{Entry}
use Rattle.vl_version.specs.Near.{AreNear}
use Rattle.vl_version.specs.Rows.{IsKept}
use Rattle.vl_version.specs.Sources.{AreTold, stored_in}
use Rattle.vl_version.proofs.TakeLaws.{LeavesNear, TakesFront}
use Rattle.vl_model.specs.declared.way.Way.{Way}
use Rattle.vl_merge.specs.Standing.{InWay, is_beyond}
use Rattle.vl_version.proofs.SeenCursor.{SeenMayFail, SeenStands, merged_left, seen_budget, seen_left}
use Rattle.vl_version.proofs.rows.take_rows.Given as goal

abbrev pub invariant-taking : goal.invariant-taking
invariant-taking g l = record {
  steady : g.R.Reader.faults l.reader ≡ g.R.Reader.faults l.initial.reader;
  fails : (fault : _) → SeenMayFail g.C.Cursor.may_fail l.entries fault → SeenMayFail g.C.Cursor.may_fail l.initial.entries fault;
  taken : AreTold g.H.HeldFile.bytes l.logs → (left : List Entry) → seen_left g.C.Cursor.left l.initial.entries ≡ Some left
      → AllByRecursion IsKept left
      → TakesFront (stored_in g.H.HeldFile.bytes l.logs) left (seen_left g.C.Cursor.left l.entries) l.rows.items l.limit;
  near : (left : List Entry) → seen_left g.C.Cursor.left l.initial.entries ≡ Some left → AreNear left
      → LeavesNear (seen_left g.C.Cursor.left l.entries);
  back : (is_met : Entry → Bool) → SeenStands g.C.Cursor.stands_to l.entries is_met → SeenStands g.C.Cursor.stands_to l.initial.entries is_met;
  reaches : (is_met_by : List ℕ → Entry → Bool) → ((e : Entry) → is_met_by e.key e ≡ true)
      → AllByRecursion (λ (row : Row). SeenStands g.C.Cursor.stands_to l.initial.entries (is_met_by row.0)) l.rows.items;
  in_way : (way : Way) → InWay way l.initial.entries.held (merged_left g.C.Cursor.left l.initial.entries)
      → InWay way l.entries.held (merged_left g.C.Cursor.left l.entries);
  passes : (way : Way) → InWay way l.initial.entries.held (merged_left g.C.Cursor.left l.initial.entries)
      → AllByRecursion (λ (row : Row). SeenStands g.C.Cursor.stands_to l.initial.entries (is_beyond way row.0)) l.rows.items;
}

abbrev pub decreases-taking : goal.decreases-taking
decreases-taking g l = seen_budget g.C.Cursor.budget l.entries
