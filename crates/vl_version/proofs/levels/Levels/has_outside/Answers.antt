use Rattle.std.specs.Prelude.{Err, true}
use Rattle.std.proofs.Common.{◌∙◌, ap, refl}
use Rattle.std.proofs.lemmas.Result.{err_from_is_err_and}
use Rattle.vl_version.specs.declared.levels.look.Look.TheVariants.{UpTo}
use Rattle.vl_version.specs.levels.LevelsLooked.{AreInOrder, tables_of}
use Rattle.vl_version.proofs.marking.SourceLaws.{outside_failed, outside_told}
use Rattle.vl_version.proofs.levels.Levels.has_outside.Goals as goal

pub returns-in_err-first : goal.returns-in_err-first
returns-in_err-first g c =
    let self = c.args.self.now in
    let p = err_from_is_err_and c.from_residual.result c.from_residual.ensures.1 in
    outside_failed g.H.HeldFile.bytes g.R.Reader.faults (tables_of self) (AreInOrder self)
    (record { key = c.args.key; look = UpTo c.args.number; inputs = c.args.inputs; outside = true })
    c.args.reader.now c.first_mark.new.reader refl c.args.number c.in_err-first.field-0.0 c.from_residual.result (p.1 ∙ ap Err p.2)
    c.in_err-first.ensures

pub returns : goal.returns
returns g c =
    let self = c.args.self.now in
    outside_told g.H.HeldFile.bytes g.R.Reader.faults (tables_of self) (AreInOrder self)
    (record { key = c.args.key; look = UpTo c.args.number; inputs = c.args.inputs; outside = true })
    c.args.reader.now c.first_mark.new.reader refl c.args.number refl c.in_ok-first.first c.is_some.result c.is_some.ensures
    c.in_ok-first.ensures
