use Rattle.std.proofs.Common.{◌≤◌, ◌<◌, ap, ◌∙◌, arith}
use Rattle.std.specs.Prelude.{Err, Ok}
use Rattle.std.proofs.lemmas.Result.{err_from_is_err_and}
use Rattle.std.proofs.lemmas.Bool.Decides.{nat_tests}
use Rattle.vl_reads.proofs.LookingBack.{least_above, least_alone, least_among}
use Rattle.vl_reads.proofs.ReadingPast.{low_failed, low_found}
use Rattle.std.specs.Prelude.{IfErr, Option, Result}
use Rattle.std.proofs.Common.{ℕ, sym, subst}
use Rattle.vl_disk.specs.declared.read_fault.ReadFault.{ReadFault}
use Rattle.vl_version.specs.Naming.{IsAskedFault}
use Rattle.vl_version.specs.Sources.{tables_in}
use Rattle.vl_reads.proofs.past.read.low_above.Goals as goal

pub returns-in_err-oldest-clause-seeks : goal.returns-in_err-oldest-clause-seeks
returns-in_err-oldest-clause-seeks g c =
    low_failed g.H.HeldFile.bytes g.R.Reader.faults c.args.version.now c.args.key.now c.args.past c.args.at _ _ c.in_err-oldest.field-0.0
    c.from_residual.result c.from_residual.ensures.1 c.in_err-oldest.ensures.seeks

pub returns-clause-seeks : goal.returns-clause-seeks
returns-clause-seeks g c =
    let more : 2 ≤ c.args.past.keep = grind (arith, nat_tests, c.if-past-le1.false) in
    low_found g.H.HeldFile.bytes g.R.Reader.faults c.args.version.now c.args.key.now c.args.past c.args.at _ _ c.in_ok-oldest.oldest
    c.least_above.result more c.least_above.ensures c.in_ok-oldest.ensures.seeks

pub returns-then-at-past-clause-looks : goal.returns-then-at-past-clause-looks
returns-then-at-past-clause-looks g c files over =
    let up : c.args.past.floor ≤ c.args.at = grind (arith, nat_tests, c.if-at-past.true) in
    least_above g.H.HeldFile.bytes c.args.version.now c.args.past c.args.key.now c.args.at up

pub returns-then-past-le1-clause-looks : goal.returns-then-past-le1-clause-looks
returns-then-past-le1-clause-looks g c files over =
    let below : c.args.at < c.args.past.floor = grind (arith, nat_tests, c.if-at-past.false) in
    let one : c.args.past.keep ≤ 1 = grind (arith, nat_tests, c.if-past-le1.true) in
    least_alone g.H.HeldFile.bytes c.args.version.now c.args.past c.args.key.now c.args.at below one

pub returns-in_err-oldest-clause-looks : goal.returns-in_err-oldest-clause-looks
returns-in_err-oldest-clause-looks g c files over =
    let below : c.args.at < c.args.past.floor = grind (arith, nat_tests, c.if-at-past.false) in
    let more : 2 ≤ c.args.past.keep = grind (arith, nat_tests, c.if-past-le1.false) in
    let p = err_from_is_err_and c.from_residual.result c.from_residual.ensures.1 in
    least_among g.H.HeldFile.bytes c.args.version.now c.args.past c.args.key.now c.args.at below more
    (Err c.in_err-oldest.field-0.0) c.from_residual.result
    (c.in_err-oldest.ensures.looks files over.reads over.tables) (p.1 ∙ ap Err p.2)

pub returns-clause-looks : goal.returns-clause-looks
returns-clause-looks g c files over =
    let below : c.args.at < c.args.past.floor = grind (arith, nat_tests, c.if-at-past.false) in
    let more : 2 ≤ c.args.past.keep = grind (arith, nat_tests, c.if-past-le1.false) in
    least_among g.H.HeldFile.bytes c.args.version.now c.args.past c.args.key.now c.args.at below more
    (Ok c.in_ok-oldest.oldest) (Ok c.least_above.result)
    (c.in_ok-oldest.ensures.looks files over.reads over.tables) (ap Ok c.least_above.ensures)

pub returns-in_err-oldest-clause-fault : goal.returns-in_err-oldest-clause-fault
returns-in_err-oldest-clause-fault g c files reads =
    let p = err_from_is_err_and c.from_residual.result c.from_residual.ensures.1 in
    subst (λ (r : Result (Option ℕ) ReadFault). IfErr r (IsAskedFault g.H.HeldFile.bytes (tables_in c.args.version.now) c.args.key.now))
    (sym (p.1 ∙ ap Err p.2)) (c.in_err-oldest.ensures.fault files reads)
