use Rattle.std.proofs.Common.{◌≡◌, ◌≤◌, Bool, List, Some}
use Rattle.vl_compact.proofs.keeping.Keeping.next.Given as goal
use Rattle.vl_compact.specs.Keeps.{AreRulesOf, Walked, stage}
use Rattle.vl_compact.specs.Reading.{NoneRose, counts}
use Rattle.vl_engine_model.specs.declared.job.Job as laid
use Rattle.vl_model.specs.declared.entry.Entry.{Entry}

abbrev pub invariant-walking : goal.invariant-walking
invariant-walking g l = record {
  walked : (j : laid.Job) (left : List Entry) → AreRulesOf l.initial.self.rules j → g.V.Sources.has l.base j.inputs j.base
      → g.V.Sources.fits l.base l.initial.reader.looks → g.C.Cursor.left l.initial.self.cursor ≡ Some left
      → Walked j (stage l.initial.self.last left l.initial.found.items) l.self.last (g.C.Cursor.left l.self.cursor) l.found.items;
  rules : l.self.rules ≡ l.initial.self.rules;
  fits : g.V.Sources.fits l.base l.initial.reader.looks → g.V.Sources.fits l.base l.reader.looks;
  steady : NoneRose (counts (λ x. g.V.Sources.faults x) (λ r. g.C.Cursor.faults r) l.initial.reader l.reader);
  keeps : (fault : _) → g.C.Cursor.may_fail l.self.cursor fault → g.C.Cursor.may_fail l.initial.self.cursor fault;
  back : (is_met : Entry → Bool) → g.C.Cursor.stands_to l.self.cursor is_met → g.C.Cursor.stands_to l.initial.self.cursor is_met;
  spends : g.C.Cursor.budget l.self.cursor ≤ g.C.Cursor.budget l.initial.self.cursor;
}

abbrev pub decreases-walking : goal.decreases-walking
decreases-walking g l = g.C.Cursor.budget l.self.cursor
