use Rattle.std.proofs.Common.{refl}
use Rattle.vl_frame.specs.Frame.{check_of, IsSpelled}
use Rattle.vl_frame.specs.laws.Laws.{spelled_apart}
use Rattle.vl_frame.proofs.Spellings.{apart_spelled, comes_apart, rest_behind}
use Rattle.vl_frame.proofs.read.read_frame.Goals as goal
use Rattle.vl_frame.proofs.read.read_frame.Goals.{then-not-is_in-via-then-not-is_in}
use Rattle.vl_frame.proofs.read.read_frame.Goals.{then-not-is_in-via-else-not-is_in+then-not-is_checked}

-- what comes apart, belongs and has its check is spelled there
stands : (c : goal.After-result-1) → IsSpelled c.args.file c.args.number c.args.at c.args.bytes.now
    c.in_ok-parts.parts.kind c.in_ok-parts.parts.body.now
stands c =
    let parts = c.in_ok-parts.parts in
    apart_spelled c.args.file c.args.number c.args.at c.args.bytes.now parts.kind parts.body.now parts.check.now
    c.in_ok-parts.ensures.found (c.is_in.ensures.0 c.if-not-is_in.false) (c.is_checked.ensures.0 c.if-not-is_checked.false)

-- nothing comes apart
pub returns-in_err-parts-clause-none : goal.returns-in_err-parts-clause-none
returns-in_err-parts-clause-none c =
    rw c.from_residual.ensures
    (λ kind body s. c.in_err-parts.ensures.none kind body (check_of c.args.number c.args.at kind body)
    (spelled_apart c.args.file c.args.number c.args.at c.args.bytes.now kind body s))

-- what comes apart is of another kind of file, or has another check
pub returns-then-not-is_in-clause-none : goal.returns-then-not-is_in-clause-none
returns-then-not-is_in-clause-none c = λ kind body s.
    let parts = c.in_ok-parts.parts in
    let agrees = comes_apart c.args.file c.args.number c.args.at c.args.bytes.now parts.kind kind parts.body.now body
    parts.check.now c.in_ok-parts.ensures.found s in
    elim c.then-not-is_in.branch [
      | then-not-is_in-via-then-not-is_in w ↦ let is_in = c.is_in.ensures.1 agrees.0 in cc (is_in, w.if-not-is_in.true)
      | then-not-is_in-via-else-not-is_in+then-not-is_checked w ↦ let is_checked = w.is_checked.ensures.1 agrees.1 in cc
          (is_checked, w.if-not-is_checked.true)
    ]

pub returns-clause-found : goal.returns-clause-found
returns-clause-found c = (stands c, refl)

pub returns-clause-within : goal.returns-clause-within
returns-clause-within c = (rest_behind _ _ _ _ _ _ (stands c)).0

pub returns-clause-rest : goal.returns-clause-rest
returns-clause-rest c = (rest_behind _ _ _ _ _ _ (stands c)).1
