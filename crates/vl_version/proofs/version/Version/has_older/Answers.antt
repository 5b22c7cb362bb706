use Rattle.std.specs.Prelude.{false, true}
use Rattle.std.proofs.Common.{◌≡◌, ◌≤◌, ap, arith}
use Rattle.std.proofs.lemmas.Bool.Decides.{nat_tests}
use Rattle.vl_version.specs.declared.behind.Behind.{Behind}
use Rattle.vl_version.proofs.marking.VersionLaws.{HasOlder, held_older, held_told, never_older, tables_older}
use Rattle.vl_version.proofs.version.Version.has_older.Goals as goal

pub returns-then-version-eq0 : goal.returns-then-version-eq0
returns-then-version-eq0 g c =
    let bytes = g.H.HeldFile.bytes in
    let faults = g.R.Reader.faults in
    let self = c.args.self.now in
    let zero : c.args.version ≡ 0 = grind (arith, nat_tests, c.if-version-eq0.true) in
    held_told bytes faults self (HasOlder bytes faults self c.args.inputs.now c.args.key.now c.args.version) c.args.reader.now false
    (never_older bytes faults self c.args.inputs.now c.args.key.now c.args.version zero)

pub returns-then-is_some : goal.returns-then-is_some
returns-then-is_some g c =
    let bytes = g.H.HeldFile.bytes in
    let faults = g.R.Reader.faults in
    let self = c.args.self.now in
    let some : 1 ≤ c.args.version = grind (arith, nat_tests, c.if-version-eq0.false) in
    held_told bytes faults self (HasOlder bytes faults self c.args.inputs.now c.args.key.now c.args.version) c.args.reader.now true
    (held_older bytes faults self c.args.inputs.now c.args.key.now c.args.version c.find_held.result c.is_some.result c.find_held.ensures
    c.is_some.ensures c.if-is_some.true some)

pub returns : goal.returns
returns g c =
    let some : 1 ≤ c.args.version = grind (arith, nat_tests, c.if-version-eq0.false) in
    tables_older g.H.HeldFile.bytes g.R.Reader.faults c.args.self.now c.args.inputs.now c.args.key.now c.args.version c.find_held.result
    c.is_some.result c.find_held.ensures c.is_some.ensures c.if-is_some.false some c.as_ref.result.now.levels
    (ap (λ (b : Behind g.row.H.Denot). b.levels) c.as_ref.ensures) c.args.reader.now c.has_outside.new.reader c.has_outside.result
    c.has_outside.ensures
