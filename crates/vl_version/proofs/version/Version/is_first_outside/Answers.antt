use Rattle.std.specs.Prelude.{true}
use Rattle.std.proofs.Common.{ap}
use Rattle.vl_version.specs.declared.behind.Behind.{Behind}
use Rattle.vl_version.proofs.marking.VersionLaws.{IsFirst, held_outside, held_told, tables_outside}
use Rattle.vl_version.proofs.version.Version.is_first_outside.Goals as goal

pub returns-then-is_some : goal.returns-then-is_some
returns-then-is_some g c =
    let bytes = g.H.HeldFile.bytes in
    let faults = g.R.Reader.faults in
    let self = c.args.self.now in
    held_told bytes faults self (IsFirst bytes faults self c.args.inputs.now c.args.key.now c.args.version) c.args.reader.now true
    (held_outside bytes faults self c.args.inputs.now c.args.key.now c.args.version c.exact_held.result c.is_some.result
    c.exact_held.ensures
    c.is_some.ensures c.if-is_some.true)

pub returns : goal.returns
returns g c =
    tables_outside g.H.HeldFile.bytes g.R.Reader.faults c.args.self.now c.args.inputs.now c.args.key.now c.args.version c.exact_held.result
    c.is_some.result c.exact_held.ensures c.is_some.ensures c.if-is_some.false c.as_ref.result.now.levels
    (ap (λ (b : Behind g.row.H.Denot). b.levels) c.as_ref.ensures) c.args.reader.now c.is_first_outside.new.reader c.is_first_outside.result
    c.is_first_outside.ensures
