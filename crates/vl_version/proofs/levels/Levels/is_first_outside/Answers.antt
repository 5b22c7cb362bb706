use Rattle.std.specs.Prelude.{Err, false, true}
use Rattle.std.proofs.Common.{◌∙◌, ap, refl, sym}
use Rattle.std.proofs.lemmas.Result.{err_from_is_err_and}
use Rattle.vl_version.specs.declared.levels.look.Look.TheVariants.{Exactly}
use Rattle.vl_version.specs.levels.LevelsLooked.{AreInOrder, tables_of}
use Rattle.vl_version.proofs.marking.SourceLaws.{all_failed, all_told, ask_failed, mark_says, none_told}
use Rattle.vl_version.proofs.levels.Levels.is_first_outside.Goals as goal

pub returns-in_err-first_mark : goal.returns-in_err-first_mark
returns-in_err-first_mark g c =
    let self = c.args.self.now in
    let p = err_from_is_err_and c.from_residual.result c.from_residual.ensures.1 in
    ask_failed g.H.HeldFile.bytes g.R.Reader.faults (tables_of self) (AreInOrder self)
    (record { key = c.args.key; look = Exactly c.args.version; inputs = c.args.inputs; outside = true })
    c.args.reader.now c.first_mark.new.reader c.args.version refl c.in_err-first_mark.field-0.0 c.from_residual.result (p.1 ∙ ap Err p.2)
    c.in_err-first_mark.ensures

pub returns-in_default : goal.returns-in_default
returns-in_default g c =
    let self = c.args.self.now in
    none_told g.H.HeldFile.bytes g.R.Reader.faults (tables_of self) (AreInOrder self)
    (record { key = c.args.key; look = Exactly c.args.version; inputs = c.args.inputs; outside = true })
    c.args.reader.now c.first_mark.new.reader c.args.version refl refl c.in_ok-first_mark.field-0 c.in_default.is c.in_ok-first_mark.ensures

pub returns-in_err-input : goal.returns-in_err-input
returns-in_err-input g c =
    let self = c.args.self.now in
    let p = err_from_is_err_and c.from_residual-in_err-input.result c.from_residual-in_err-input.ensures.1 in
    all_failed g.H.HeldFile.bytes g.R.Reader.faults (tables_of self) (AreInOrder self)
    (record { key = c.args.key; look = Exactly c.args.version; inputs = c.args.inputs; outside = false })
    c.first_mark.new.reader c.first_mark-2.new.reader c.args.version refl
    (record { key = c.args.key; look = Exactly c.args.version; inputs = c.args.inputs; outside = true })
    c.args.reader.now c.in_ok-first_mark.field-0 c.in_ok-first_mark.ensures c.in_err-input.field-0.0
    c.from_residual-in_err-input.result (p.1 ∙ ap Err p.2)
    c.in_err-input.ensures

pub returns-in-Some-2 : goal.returns-in-Some-2
returns-in-Some-2 g c =
    let self = c.args.self.now in
    all_told g.H.HeldFile.bytes g.R.Reader.faults (tables_of self) (AreInOrder self)
    (record { key = c.args.key; look = Exactly c.args.version; inputs = c.args.inputs; outside = false })
    c.first_mark.new.reader c.first_mark-2.new.reader c.args.version refl
    (record { key = c.args.key; look = Exactly c.args.version; inputs = c.args.inputs; outside = true })
    c.args.reader.now c.in_ok-first_mark.field-0 c.in_ok-first_mark.ensures refl c.in_ok-input.field-0 _
    (sym (ap mark_says c.in-Some-2.is)) c.in_ok-input.ensures

pub returns-in-None : goal.returns-in-None
returns-in-None g c =
    let self = c.args.self.now in
    all_told g.H.HeldFile.bytes g.R.Reader.faults (tables_of self) (AreInOrder self)
    (record { key = c.args.key; look = Exactly c.args.version; inputs = c.args.inputs; outside = false })
    c.first_mark.new.reader c.first_mark-2.new.reader c.args.version refl
    (record { key = c.args.key; look = Exactly c.args.version; inputs = c.args.inputs; outside = true })
    c.args.reader.now c.in_ok-first_mark.field-0 c.in_ok-first_mark.ensures refl c.in_ok-input.field-0 _
    (sym (ap mark_says c.in-None.is)) c.in_ok-input.ensures
