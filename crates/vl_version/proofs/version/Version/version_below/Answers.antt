use Rattle.std.proofs.Common.{◌≡◌, ◌≤◌, ◌+◌, ◌-◌, ℕ, ap, sym, ◌∙◌, arith}
use Rattle.std.proofs.lemmas.Bool.Decides.{nat_tests}
use Rattle.vl_model.specs.Numbers.{greatest_below}
use Rattle.vl_model.specs.Versions.{versions_in}
use Rattle.vl_version.proofs.NthLaws.{below_some, below_zero}
use Rattle.vl_version.proofs.PastLaws.{found_none, none_below, same_below, same_wanted}
use Rattle.vl_version.proofs.version.Version.version_below.Goals as goal

pub returns-then-bound-eq0-clause-seeks : goal.returns-then-bound-eq0-clause-seeks
returns-then-bound-eq0-clause-seeks g c =
    let key = c.args.key.now in
    let zero : c.args.bound ≡ 0 = grind (arith, nat_tests, c.if-bound-eq0.true) in
    found_none g.H.HeldFile.bytes g.R.Reader.faults c.args.self.now
    (λ es. greatest_below c.args.bound (versions_in es key)) c.args.reader.now
    (λ es. none_below (versions_in es key) ∙ ap (λ (n : ℕ). greatest_below n (versions_in es key)) (sym zero))

pub returns-clause-seeks : goal.returns-clause-seeks
returns-clause-seeks g c =
    let key = c.args.key.now in
    let bound = c.args.bound in
    let some : 1 ≤ bound = grind (arith, nat_tests, c.if-bound-eq0.false) in
    same_wanted g.H.HeldFile.bytes g.R.Reader.faults c.args.self.now (λ es. greatest_below (bound - 1 + 1) (versions_in es key))
    (λ es. greatest_below bound (versions_in es key)) _ _ c.newest_version.result (λ es. same_below bound (versions_in es key) some)
    c.newest_version.ensures.seeks

pub returns-then-bound-eq0-clause-looks : goal.returns-then-bound-eq0-clause-looks
returns-then-bound-eq0-clause-looks g c files reads laid =
    let zero : c.args.bound ≡ 0 = grind (arith, nat_tests, c.if-bound-eq0.true) in
    below_zero g.H.HeldFile.bytes c.args.self.now c.args.key.now c.args.bound zero

pub returns-clause-looks : goal.returns-clause-looks
returns-clause-looks g c files reads laid =
    let some : 1 ≤ c.args.bound = grind (arith, nat_tests, c.if-bound-eq0.false) in
    below_some g.H.HeldFile.bytes c.args.self.now c.args.key.now c.args.bound c.newest_version.result some
    (c.newest_version.ensures.looks files reads laid)

pub returns-clause-fault : goal.returns-clause-fault
returns-clause-fault g c files reads = c.newest_version.ensures.fault files reads
