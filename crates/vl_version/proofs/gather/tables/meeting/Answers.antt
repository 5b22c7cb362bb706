use Rattle.std.proofs.Common.{[], ap, sym, subst, arith, length, List, take}
use Rattle.std.proofs.lemmas.List.{take_all}
use Rattle.vl_table.specs.OfTables.{AreOf}
use Rattle.vl_table.specs.declared.table.Table.{Table}
use Rattle.vl_version.proofs.TableSources.{have_first, next_of}
use Rattle.vl_version.specs.Naming.{MeetFaults}
use Rattle.vl_version.specs.Whole.{AreMet}
use Rattle.vl_version.proofs.WholeLaws.{are_next, are_none}
use Rattle.vl_version.proofs.NamingLaws.{meet_none}
use Rattle.vl_version.proofs.looking.Parts.{take_next}
use Rattle.vl_version.proofs.gather.tables.meeting.Goals as goal

pub loop-table-init : goal.loop-table-init
loop-table-init g c = record {
  have = have_first g.H.HeldFile.bytes c.args.span.now c.args.tables.now c.new-met.result.items c.new-met.ensures.items;
  none = λ none. c.new-met.ensures.items;
  faults = meet_none g.H.HeldFile.bytes c.args.span.now [] c.new-met.result.items c.new-met.ensures.items;
  copies = are_none g.H.HeldFile.bytes c.args.span.now c.new-met.result.items c.new-met.ensures.items;
}

pub loop-table-preserved : goal.loop-table-preserved
loop-table-preserved g c = record {
  have = next_of g.H.HeldFile.bytes c.args.span.now c.args.tables.now c.loop-table.met.items c.add_if_met.new.met.items
      c.loop-table.table-index c.table-item.result c.loop-table-test.true c.table-item.is c.loop-table.invariant.have
      c.in_ok-add_if_met.ensures.have;
  none = λ none. let some = c.loop-table-test.true in absurd (omega (arith, some, ap length none));
  faults = subst (λ (l : List (Table g.row.H.Denot)). MeetFaults g.H.HeldFile.bytes c.args.span.now l c.add_if_met.new.met.items)
      (sym (take_next c.args.tables.now c.loop-table.table-index c.table-item.result c.loop-table-test.true c.table-item.is))
      (c.in_ok-add_if_met.ensures.faults (take c.loop-table.table-index c.args.tables.now) c.loop-table.invariant.faults);
  copies = are_next g.H.HeldFile.bytes c.args.span.now c.args.tables.now c.add_if_met.new.met.items c.loop-table.table-index
      c.table-item.result c.loop-table-test.true c.table-item.is
      (c.in_ok-add_if_met.ensures.copies (take c.loop-table.table-index c.args.tables.now) c.loop-table.invariant.copies);
}

pub returns-clause-have : goal.returns-clause-have
returns-clause-have g c tabled are =
    c.loop-table.invariant.have tabled
    (subst (λ (l : List (Table g.row.H.Denot)). AreOf g.H.HeldFile.bytes l tabled)
    (sym (take_all c.loop-table.table-index c.args.tables.now c.loop-table-test.false)) are)

pub returns-clause-faults : goal.returns-clause-faults
returns-clause-faults g c =
    subst (λ (l : List (Table g.row.H.Denot)). MeetFaults g.H.HeldFile.bytes c.args.span.now l c.loop-table.met.items)
    (take_all c.loop-table.table-index c.args.tables.now c.loop-table-test.false) c.loop-table.invariant.faults

pub returns-clause-copies : goal.returns-clause-copies
returns-clause-copies g c =
    subst (λ (l : List (Table g.row.H.Denot)). AreMet g.H.HeldFile.bytes c.args.span.now l c.loop-table.met.items)
    (take_all c.loop-table.table-index c.args.tables.now c.loop-table-test.false) c.loop-table.invariant.copies
