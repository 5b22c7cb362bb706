use Rattle.std.proofs.Common.{◌≤◌, ◌<◌, ap, ◌∙◌, arith}
use Rattle.std.specs.Prelude.{Err, Ok}
use Rattle.std.proofs.lemmas.Result.{err_from_is_err_and}
use Rattle.std.proofs.lemmas.Bool.Decides.{nat_tests}
use Rattle.vl_txn.specs.Refusals.{refused_key}
use Rattle.vl_reads.proofs.LookingBack.{dropped_back, failed_back, fails_at_so, found_back, refused_not}
use Rattle.vl_reads.proofs.ReadingPast.{allowed_key, dropped_past, failed_past, found_past, sought_past}
use Rattle.std.proofs.Common.{inl}
use Rattle.vl_version.specs.Naming.{IsKeyFault}
use Rattle.vl_version.specs.Sources.{tables_in}
use Rattle.vl_reads.proofs.past.read.read_past.Goals as goal

pub returns-in_err-low-clause-reads : goal.returns-in_err-low-clause-reads
returns-in_err-low-clause-reads g c =
    let allowed = allowed_key (refused_key c.args.key.now) c.in_ok-check_key.field-0 c.in_ok-check_key.ensures in
    let within : c.args.at ≤ c.args.number = grind (arith, nat_tests, c.if-at-number.false) in
    sought_past g.H.HeldFile.bytes g.R.Reader.faults c.args.version.now c.args.past c.args.number c.args.key.now c.args.at _ _
    c.in_err-low.field-0.0 c.from_residual-in_err-low.result (allowed, within) c.from_residual-in_err-low.ensures.1 c.in_err-low.ensures.seeks

pub returns-in-Some-clause-reads : goal.returns-in-Some-clause-reads
returns-in-Some-clause-reads g c =
    let allowed = allowed_key (refused_key c.args.key.now) c.in_ok-check_key.field-0 c.in_ok-check_key.ensures in
    let within : c.args.at ≤ c.args.number = grind (arith, nat_tests, c.if-at-number.false) in
    dropped_past g.H.HeldFile.bytes g.R.Reader.faults c.args.version.now c.args.past c.args.number c.args.key.now c.args.at _ _
    c.in_ok-low.field-0 c.in-Some.low (allowed, within) c.in-Some.is c.in_ok-low.ensures.seeks

pub returns-in_ok-get-in-None-clause-reads : goal.returns-in_ok-get-in-None-clause-reads
returns-in_ok-get-in-None-clause-reads g c =
    let allowed = allowed_key (refused_key c.args.key.now) c.in_ok-check_key.field-0 c.in_ok-check_key.ensures in
    let within : c.args.at ≤ c.args.number = grind (arith, nat_tests, c.if-at-number.false) in
    found_past g.H.HeldFile.bytes g.R.Reader.faults c.args.version.now c.args.past c.args.number c.args.key.now c.args.at _
    c.low_above.new.reader _ c.in_ok-low.field-0 (allowed, within) c.in-None.is c.in_ok-low.ensures.seeks c.in_ok-get-in-None.field-0
    c.in_ok-get-in-None.ensures.cause c.in_ok-get-in-None.ensures.kept c.in_ok-get-in-None.ensures.answers

pub returns-in_err-get-in-None-clause-reads : goal.returns-in_err-get-in-None-clause-reads
returns-in_err-get-in-None-clause-reads g c =
    let allowed = allowed_key (refused_key c.args.key.now) c.in_ok-check_key.field-0 c.in_ok-check_key.ensures in
    let within : c.args.at ≤ c.args.number = grind (arith, nat_tests, c.if-at-number.false) in
    failed_past g.H.HeldFile.bytes g.R.Reader.faults c.args.version.now c.args.past c.args.number c.args.key.now c.args.at _
    c.low_above.new.reader _ c.in_ok-low.field-0 (allowed, within) c.in-None.is c.in_ok-low.ensures.seeks c.in_err-get-in-None.field-0.0
    c.from_residual-in_err-get-in-None.result c.from_residual-in_err-get-in-None.ensures.1 c.in_err-get-in-None.ensures.cause
    c.in_err-get-in-None.ensures.near c.in_err-get-in-None.ensures.kept c.in_err-get-in-None.ensures.answers

pub returns-in_err-check_key-clause-looks : goal.returns-in_err-check_key-clause-looks
returns-in_err-check_key-clause-looks g c files over within =
    absurd (refused_not (refused_key c.args.key.now) c.in_err-check_key.field-0.0 c.in_err-check_key.ensures within.0)

pub returns-then-at-number-clause-looks : goal.returns-then-at-number-clause-looks
returns-then-at-number-clause-looks g c files over within =
    let above : c.args.number < c.args.at = grind (arith, nat_tests, c.if-at-number.true) in
    let up : c.args.at ≤ c.args.number = within.1 in
    absurd (omega (arith, above, up))

pub returns-in_err-low-clause-looks : goal.returns-in_err-low-clause-looks
returns-in_err-low-clause-looks g c files over within =
    let p = err_from_is_err_and c.from_residual-in_err-low.result c.from_residual-in_err-low.ensures.1 in
    record {
      least = Err c.in_err-low.field-0.0;
      looks = c.in_err-low.ensures.looks files over;
      follows = p.1 ∙ ap Err p.2;
    }

pub returns-in-Some-clause-looks : goal.returns-in-Some-clause-looks
returns-in-Some-clause-looks g c files over within =
    dropped_back g.H.HeldFile.bytes c.args.version.now c.args.past c.args.key.now c.args.at c.in_ok-low.field-0 c.in-Some.low
    c.in-Some.is (c.in_ok-low.ensures.looks files over)

pub returns-in_ok-get-in-None-clause-looks : goal.returns-in_ok-get-in-None-clause-looks
returns-in_ok-get-in-None-clause-looks g c files over within =
    found_back g.H.HeldFile.bytes c.args.version.now c.args.past c.args.key.now c.args.at c.in_ok-low.field-0 c.in-None.is
    (c.in_ok-low.ensures.looks files over) c.in_ok-get-in-None.field-0
    (c.in_ok-get-in-None.ensures.looks files
    (record { kept = c.in_ok-low.ensures.seeks.kept files over.reads; told = over.reads.told }) over.tables over.logs)

pub returns-in_err-get-in-None-clause-looks : goal.returns-in_err-get-in-None-clause-looks
returns-in_err-get-in-None-clause-looks g c files over within =
    failed_back g.H.HeldFile.bytes c.args.version.now c.args.past c.args.key.now c.args.at c.in_ok-low.field-0 c.in-None.is
    (c.in_ok-low.ensures.looks files over) c.in_err-get-in-None.field-0.0 c.from_residual-in_err-get-in-None.result
    c.from_residual-in_err-get-in-None.ensures.1
    (c.in_err-get-in-None.ensures.looks files
    (record { kept = c.in_ok-low.ensures.seeks.kept files over.reads; told = over.reads.told }) over.tables over.logs)

pub returns-in_err-low-clause-fault : goal.returns-in_err-low-clause-fault
returns-in_err-low-clause-fault g c files reads =
    let version = c.args.version.now in
    fails_at_so (IsKeyFault g.H.HeldFile.bytes (tables_in version) version.behind.logs.items c.args.key.now) c.in_err-low.field-0.0
    (inl (c.in_err-low.ensures.fault files reads)) c.from_residual-in_err-low.result c.from_residual-in_err-low.ensures.1

pub returns-in_err-get-in-None-clause-fault : goal.returns-in_err-get-in-None-clause-fault
returns-in_err-get-in-None-clause-fault g c files reads =
    let version = c.args.version.now in
    fails_at_so (IsKeyFault g.H.HeldFile.bytes (tables_in version) version.behind.logs.items c.args.key.now)
    c.in_err-get-in-None.field-0.0
    (c.in_err-get-in-None.ensures.fault files (record { kept = c.in_ok-low.ensures.seeks.kept files reads; told = reads.told }))
    c.from_residual-in_err-get-in-None.result c.from_residual-in_err-get-in-None.ensures.1
