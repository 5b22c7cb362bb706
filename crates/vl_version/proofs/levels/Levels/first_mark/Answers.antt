use Rattle.std.specs.Prelude.{Err, Ok, Option}
use Rattle.std.proofs.Common.{◌∙◌, ap, subst, Bool, List}
use Rattle.std.proofs.lemmas.Result.{err_from_is_err_and}
use Rattle.vl_table.specs.declared.table.Table.{Table}
use Rattle.vl_version.specs.levels.LevelTables.{AreAllApart, all_tables}
use Rattle.vl_version.specs.levels.LevelsLooked.{AreInOrder}
use Rattle.vl_version.specs.levels.Marks.{TellsFirst}
use Rattle.vl_version.proofs.marking.TellLaws.{fails_before, finds_before, goes_on}
use Rattle.vl_version.proofs.levels.Levels.first_mark.Goals as goal

pub returns-in_err-input : goal.returns-in_err-input
returns-in_err-input g c =
    let self = c.args.self.now in
    let p = err_from_is_err_and c.from_residual.result c.from_residual.ensures.1 in
    fails_before g.H.HeldFile.bytes g.R.Reader.faults c.args.asked self.newest.items (all_tables self.deeper.items)
    (Unit {0}) (AreInOrder self)
    c.args.reader.now c.first_in_each.new.reader (λ laid. tt) c.in_err-input.field-0.0 c.from_residual.result (p.1 ∙ ap Err p.2)
    (subst (λ (l : List (Table g.row.H.Denot)). TellsFirst g.H.HeldFile.bytes g.R.Reader.faults c.args.asked l (Unit {0})
    c.args.reader.now c.first_in_each.new.reader (Err c.in_err-input.field-0.0)) c.deref.ensures.value c.in_err-input.ensures)

pub returns-in-Some : goal.returns-in-Some
returns-in-Some g c =
    let self = c.args.self.now in
    finds_before g.H.HeldFile.bytes g.R.Reader.faults c.args.asked self.newest.items (all_tables self.deeper.items)
    (Unit {0}) (AreInOrder self)
    c.args.reader.now c.first_in_each.new.reader (λ laid. tt) c.in_ok-input.field-0 c.in-Some.input c.in-Some.is
    (subst (λ (l : List (Table g.row.H.Denot)). TellsFirst g.H.HeldFile.bytes g.R.Reader.faults c.args.asked l (Unit {0})
    c.args.reader.now c.first_in_each.new.reader (Ok c.in_ok-input.field-0)) c.deref.ensures.value c.in_ok-input.ensures)

pub returns-in-None : goal.returns-in-None
returns-in-None g c =
    let self = c.args.self.now in
    let front = subst (λ (l : List (Table g.row.H.Denot)). TellsFirst g.H.HeldFile.bytes g.R.Reader.faults c.args.asked l (Unit {0})
    c.args.reader.now c.first_in_each.new.reader (Ok c.in_ok-input.field-0)) c.deref.ensures.value c.in_ok-input.ensures in
    let back = subst (λ (l : List (List (Table g.row.H.Denot))). TellsFirst g.H.HeldFile.bytes g.R.Reader.faults
    c.args.asked (all_tables l) (AreAllApart l)
    c.first_in_each.new.reader c.first_in_levels.new.reader c.first_in_levels.result) c.deref-in-None.ensures.value
    c.first_in_levels.ensures in
    goes_on g.H.HeldFile.bytes g.R.Reader.faults c.args.asked self.newest.items (all_tables self.deeper.items)
    (Unit {0}) (AreInOrder self) (AreInOrder self)
    c.args.reader.now c.first_in_each.new.reader c.first_in_levels.new.reader c.first_in_levels.result (λ laid. tt) (λ laid. laid)
    (subst (λ (m : Option Bool). TellsFirst g.H.HeldFile.bytes g.R.Reader.faults c.args.asked self.newest.items (Unit {0})
    c.args.reader.now c.first_in_each.new.reader (Ok m)) c.in-None.is front) back
