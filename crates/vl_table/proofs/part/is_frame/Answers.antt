use Rattle.std.proofs.Common.{ap, length, arith}
use Rattle.std.proofs.lemmas.Bool.Decides.{nat_tests}
use Rattle.vl_frame.specs.laws.Laws.{one_frame}
use Rattle.vl_frame.specs.declared.kinds.FileKind.TheVariants as files
use Rattle.vl_table.proofs.part.is_frame.Goals as goal

pub returns-then-is_same-clause-whole : goal.returns-then-is_same-clause-whole
returns-then-is_same-clause-whole c = λ body s sized.
    let frame = c.in-Some.frame in
    let same = one_frame files.Table c.args.number c.args.place c.args.bytes.now frame.kind c.args.kind frame.body.now
    body c.in-Some.ensures.found.0 s in
    let long = c.in-Some.ensures.found.1 in
    let lengths = ap length same.1 in
    grind (arith, nat_tests)

pub returns-else-is_same-clause-whole : goal.returns-else-is_same-clause-whole
returns-else-is_same-clause-whole c = λ body s sized.
    let frame = c.in-Some.frame in
    let same = one_frame files.Table c.args.number c.args.place c.args.bytes.now frame.kind c.args.kind frame.body.now
    body c.in-Some.ensures.found.0 s in
    c.is_same.ensures.1 same.0

pub returns-in-None-clause-whole : goal.returns-in-None-clause-whole
returns-in-None-clause-whole c = λ body s sized. absurd (c.in-None.ensures.none c.args.kind body s)
