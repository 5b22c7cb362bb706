use Rattle.std.proofs.Common.{◌≡◌, Bool, List, [], ◌∷◌, Some}
use Rattle.std.specs.Prelude.{IsSome}
use Rattle.vl_compact.proofs.Adding.{Adding}
use Rattle.vl_compact.specs.Filling.{EndsWith, IsWrittenTo}
use Rattle.vl_compact.specs.Keeps.{AreRulesOf, stage}
use Rattle.vl_compact.specs.Lending.{IsSteady}
use Rattle.vl_compact.specs.Reading.{NoneRose, counts}
use Rattle.vl_engine_model.specs.declared.job.Job as laid
use Rattle.vl_model.specs.Merging.{IsAlong}
use Rattle.vl_model.specs.declared.entry.Entry.{Entry}
use Rattle.vl_model.specs.declared.way.Way.TheVariants.{Up}
use Rattle.vl_compact.proofs.fill.add_kept.Given as goal

abbrev pub invariant-adding : goal.invariant-adding
invariant-adding g l = record {
  adding : (j : laid.Job) (left : List Entry) → AreRulesOf l.fn.keeping.rules j → g.V.Sources.has l.base j.inputs j.base
      → g.V.Sources.fits l.base l.fn.reader.looks → g.C.Cursor.left l.fn.keeping.cursor ≡ Some left
      → IsAlong Up (l.fn.first ∷ left)
      → IsWrittenTo g.W.Writer l.fn.lent l.fn.table (l.fn.first ∷ [])
      → Adding g.W.Writer j l.fn.first (stage l.fn.keeping.last left l.fn.found.items) l.lent l.table l.last l.keeping.last
      (g.C.Cursor.left l.keeping.cursor) l.found.items;
  rules : l.keeping.rules ≡ l.fn.keeping.rules;
  number : l.lent.number ≡ l.fn.lent.number;
  tells : IsSome (g.W.Writer.file l.fn.lent.writer) → IsSome (g.W.Writer.file l.lent.writer);
  fits : g.V.Sources.fits l.base l.fn.reader.looks → g.V.Sources.fits l.base l.reader.looks;
  steady : NoneRose (counts (λ x. g.V.Sources.faults x) (λ r. g.C.Cursor.faults r) l.fn.reader l.reader);
  kept : IsSteady g.W.Writer l.fn.lent l.lent;
  keeps : (fault : _) → g.C.Cursor.may_fail l.keeping.cursor fault → g.C.Cursor.may_fail l.fn.keeping.cursor fault;
  back : (is_met : Entry → Bool) → g.C.Cursor.stands_to l.keeping.cursor is_met → g.C.Cursor.stands_to l.fn.keeping.cursor is_met;
  ends : EndsWith l.fn.table l.fn.first.key → EndsWith l.table l.last;
}

abbrev pub decreases-adding : goal.decreases-adding
decreases-adding g l = g.C.Cursor.budget l.keeping.cursor
