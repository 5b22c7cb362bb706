use Rattle.std.proofs.Common.{◌≡◌, ◌+◌, ◌-◌, ap, sym, ◌∙◌, arith}
use Rattle.std.proofs.lemmas.Bool.Decides.{nat_tests}
use Rattle.vl_model.specs.Numbers.{greatest_below, next_below, nth_below}
use Rattle.vl_model.specs.Versions.{versions_in}
use Rattle.std.proofs.lemmas.Result.{err_from_is_err_and}
use Rattle.std.specs.Prelude.{Err, None, Ok}
use Rattle.vl_version.proofs.NthLaws.{behind_none, behind_some, first_nth, later_nth}
use Rattle.vl_version.proofs.PastLaws.{first_failed, first_none, next_nth, same_wanted, then_second}
use Rattle.std.proofs.Common.{ℕ, Option}
use Rattle.vl_version.specs.Naming.{IsAskedFault}
use Rattle.vl_version.specs.Sources.{tables_in}
use Rattle.vl_version.proofs.NamingLaws.{err_is}
use Rattle.vl_version.proofs.version.Version.+nth_version.Goals as goal

pub returns-then-nth-eq1-clause-seeks : goal.returns-then-nth-eq1-clause-seeks
returns-then-nth-eq1-clause-seeks g t c =
    let key = c.args.key.now in
    let number = c.args.number in
    let one : c.args.nth ≡ 1 = grind (arith, nat_tests, c.if-nth-eq1.true) in
    same_wanted g.H.HeldFile.bytes g.R.Reader.faults c.args.self.now (λ es. nth_below (versions_in es key) (number + 1) 1)
    (λ es. nth_below (versions_in es key) (number + 1) c.args.nth) _ _ c.newest_version.result
    (λ es. ap (nth_below (versions_in es key) (number + 1)) (sym one)) c.newest_version.ensures.seeks

pub returns-in_err-newer-clause-seeks : goal.returns-in_err-newer-clause-seeks
returns-in_err-newer-clause-seeks g t c =
    let key = c.args.key.now in
    let number = c.args.number in
    first_failed g.H.HeldFile.bytes g.R.Reader.faults c.args.self.now (λ es. nth_below (versions_in es key) (number + 1) (c.args.nth - 1))
    (λ es. nth_below (versions_in es key) (number + 1) c.args.nth) _ _ c.in_err-newer.field-0.0 c.from_residual.result
    c.from_residual.ensures.1
    c.in_err-newer.ensures.seeks

pub returns-in-None-clause-seeks : goal.returns-in-None-clause-seeks
returns-in-None-clause-seeks g t c =
    let key = c.args.key.now in
    let number = c.args.number in
    first_none g.H.HeldFile.bytes g.R.Reader.faults c.args.self.now (λ es. nth_below (versions_in es key) (number + 1) (c.args.nth - 1))
    (λ es. nth_below (versions_in es key) (number + 1) c.args.nth) _ _ c.in_ok-newer.newer c.in-None.is
    (λ es is. ap (next_below (versions_in es key)) (sym c.in-None.is)
    ∙ next_nth (versions_in es key) (number + 1) c.args.nth c.in_ok-newer.newer c.requires is) c.in_ok-newer.ensures.seeks

pub returns-in-Some-clause-seeks : goal.returns-in-Some-clause-seeks
returns-in-Some-clause-seeks g t c =
    let key = c.args.key.now in
    let number = c.args.number in
    then_second g.H.HeldFile.bytes g.R.Reader.faults c.args.self.now (λ es. nth_below (versions_in es key) (number + 1) (c.args.nth - 1))
    (λ es. nth_below (versions_in es key) (number + 1) c.args.nth) _ _ c.in_ok-newer.newer
    (λ es. greatest_below c.in-Some.version (versions_in es key)) _ c.version_below.result
    (λ es is. ap (next_below (versions_in es key)) (sym c.in-Some.is)
    ∙ next_nth (versions_in es key) (number + 1) c.args.nth c.in_ok-newer.newer c.requires is) c.in_ok-newer.ensures.seeks
    c.version_below.ensures.seeks

pub returns-then-nth-eq1-clause-looks : goal.returns-then-nth-eq1-clause-looks
returns-then-nth-eq1-clause-looks g t c files reads laid =
    let one : c.args.nth ≡ 1 = grind (arith, nat_tests, c.if-nth-eq1.true) in
    first_nth g.H.HeldFile.bytes c.args.self.now c.args.key.now c.args.number c.args.nth c.newest_version.result one
    (c.newest_version.ensures.looks files reads laid)

pub returns-in_err-newer-clause-looks : goal.returns-in_err-newer-clause-looks
returns-in_err-newer-clause-looks g t c files reads laid =
    let p = err_from_is_err_and c.from_residual.result c.from_residual.ensures.1 in
    later_nth g.H.HeldFile.bytes c.args.self.now c.args.key.now (c.args.number + 1) c.args.nth (Err c.in_err-newer.field-0.0)
    c.from_residual.result c.requires (c.in_err-newer.ensures.looks files reads laid) (p.1 ∙ ap Err p.2)

pub returns-in-None-clause-looks : goal.returns-in-None-clause-looks
returns-in-None-clause-looks g t c files reads laid =
    let bytes = g.H.HeldFile.bytes in
    let self = c.args.self.now in
    let key = c.args.key.now in
    later_nth bytes self key (c.args.number + 1) c.args.nth (Ok c.in_ok-newer.newer) (Ok None) c.requires
    (c.in_ok-newer.ensures.looks files reads laid) (behind_none bytes self key c.in_ok-newer.newer c.in-None.is)

pub returns-in-Some-clause-looks : goal.returns-in-Some-clause-looks
returns-in-Some-clause-looks g t c files reads laid =
    let bytes = g.H.HeldFile.bytes in
    let self = c.args.self.now in
    let key = c.args.key.now in
    later_nth bytes self key (c.args.number + 1) c.args.nth (Ok c.in_ok-newer.newer) c.version_below.result c.requires
    (c.in_ok-newer.ensures.looks files reads laid)
    (behind_some bytes self key c.in_ok-newer.newer c.in-Some.version c.version_below.result c.in-Some.is
    (c.version_below.ensures.looks files (record { kept = c.in_ok-newer.ensures.seeks.kept files reads; told = reads.told }) laid))

pub returns-then-nth-eq1-clause-fault : goal.returns-then-nth-eq1-clause-fault
returns-then-nth-eq1-clause-fault g t c files reads = c.newest_version.ensures.fault files reads

pub returns-in_err-newer-clause-fault : goal.returns-in_err-newer-clause-fault
returns-in_err-newer-clause-fault g t c files reads =
    let p = err_from_is_err_and c.from_residual.result c.from_residual.ensures.1 in
    err_is {T = Option ℕ} (IsAskedFault g.H.HeldFile.bytes (tables_in c.args.self.now) c.args.key.now) c.in_err-newer.field-0.0
    c.from_residual.result (p.1 ∙ ap Err p.2) (c.in_err-newer.ensures.fault files reads)

pub returns-in-Some-clause-fault : goal.returns-in-Some-clause-fault
returns-in-Some-clause-fault g t c files reads =
    c.version_below.ensures.fault files (record { kept = c.in_ok-newer.ensures.seeks.kept files reads; told = reads.told })
