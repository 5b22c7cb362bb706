use Rattle.std.proofs.Common.{List, ℕ, ◌+◌, refl, arith, subst}
use Rattle.vl_sequence.proofs.Beginnings.{on_itself, passed_up}
use Rattle.vl_sequence.proofs.Committed.{on_err}
use Rattle.vl_sequence.proofs.Giving.{below_then, leased_held, leased_taken, ready_more, ready_on, ready_taken, rises_taken}
use Rattle.vl_sequence.specs.Causes.{IsCause}
use Rattle.vl_sequence.specs.Sequences.{TakesLease}
use Rattle.vl_sequence.proofs.sequence.Sequence.next.Goals as goal

pub overflow_add-self : goal.overflow_add-self
overflow_add-self g c =
    let fits = c.requires.ready.fits in let below = c.if-self.true in omega (arith, fits, below)

pub overflow_add-self-2 : goal.overflow_add-self-2
overflow_add-self-2 g c =
    let fits = c.in_ok-first.ensures.took.fits in let least = c.requires.ready.least in omega (arith, fits, least)

pub overflow_add-self-3 : goal.overflow_add-self-3
overflow_add-self-3 g c = let fits = c.in_ok-first.ensures.took.fits in omega (arith, fits)

-- the next number of the lease

pub returns-then-self-clause-on : goal.returns-then-self-clause-on
returns-then-self-clause-on g c = on_itself (g.S.Shop.knows c.args.self.now.shop)

pub returns-then-self-clause-ready : goal.returns-then-self-clause-ready
returns-then-self-clause-ready g c =
    let self = c.args.self.now in
    let v = g.S.Shop.knows self.shop in
    ready_more v v self.key self.lease self.next self.end c.requires.ready c.if-self.true

pub returns-then-self-clause-given : goal.returns-then-self-clause-given
returns-then-self-clause-given g c =
    let below = c.if-self.true in
    record { number = refl; held = λ less. (refl, refl, refl); taken = λ le. absurd (omega (arith, below, le)) }

pub returns-then-self-clause-leased : goal.returns-then-self-clause-leased
returns-then-self-clause-leased g c =
    let self = c.args.self.now in
    let v = g.S.Shop.knows self.shop in
    leased_held v v self.key self.lease self.next self.end c.requires.ready c.if-self.true

pub returns-then-self-clause-below : goal.returns-then-self-clause-below
returns-then-self-clause-below g c only =
    let self = c.args.self.now in
    let v = g.S.Shop.knows self.shop in
    below_then v self.key self.next
    (leased_held v v self.key self.lease self.next self.end c.requires.ready c.if-self.true) only

-- no lease was taken

pub returns-in_err-first-clause-ready : goal.returns-in_err-first-clause-ready
returns-in_err-first-clause-ready g c =
    let self = c.args.self.now in
    ready_on (g.S.Shop.knows self.shop) (g.S.Shop.knows c.take_lease.new.shop) self.key self.lease self.next self.end
    c.in_err-first.ensures.on c.requires.ready

pub returns-in_err-first-clause-cause : goal.returns-in_err-first-clause-cause
returns-in_err-first-clause-cause g c =
    let self = c.args.self.now in
    let v = g.S.Shop.knows self.shop in
    let w = g.S.Shop.knows c.take_lease.new.shop in
    let why = c.in_err-first.field-0.0 in
    passed_up c.from_residual.result why (IsCause v w self.key self.lease) c.from_residual.ensures.1
    (subst (λ (key : List ℕ). IsCause v w key self.lease why) c.as_slice.ensures c.in_err-first.ensures.cause)

pub returns-in_err-first-clause-left : goal.returns-in_err-first-clause-left
returns-in_err-first-clause-left g c below = let none = c.if-self.false in absurd (omega (arith, none, below))

pub returns-in_err-first-clause-commits : goal.returns-in_err-first-clause-commits
returns-in_err-first-clause-commits g c commits made =
    on_err c.from_residual.result (c.in_err-first.ensures.commits commits made)

-- the first number of one that was taken

pub returns-clause-ready : goal.returns-clause-ready
returns-clause-ready g c =
    let self = c.args.self.now in
    let v = g.S.Shop.knows self.shop in
    let w = g.S.Shop.knows c.take_lease.new.shop in
    let first = c.in_ok-first.first in
    let took = subst (λ (key : List ℕ). TakesLease v w key first (first + self.lease)) c.as_slice.ensures c.in_ok-first.ensures.took in
    ready_taken v w self.key self.lease self.next self.end first c.in_ok-first.ensures.on took c.requires.ready

pub returns-clause-given : goal.returns-clause-given
returns-clause-given g c =
    let self = c.args.self.now in
    let v = g.S.Shop.knows self.shop in
    let w = g.S.Shop.knows c.take_lease.new.shop in
    let first = c.in_ok-first.first in
    let took = subst (λ (key : List ℕ). TakesLease v w key first (first + self.lease)) c.as_slice.ensures c.in_ok-first.ensures.took in
    let above = c.if-self.false in
    record { number = refl; held = λ less. absurd (omega (arith, above, less)); taken = λ le. (refl, took) }

pub returns-clause-leased : goal.returns-clause-leased
returns-clause-leased g c =
    let self = c.args.self.now in
    let v = g.S.Shop.knows self.shop in
    let w = g.S.Shop.knows c.take_lease.new.shop in
    let first = c.in_ok-first.first in
    let took = subst (λ (key : List ℕ). TakesLease v w key first (first + self.lease)) c.as_slice.ensures c.in_ok-first.ensures.took in
    leased_taken v w self.key self.lease self.next self.end first c.in_ok-first.ensures.on took c.requires.ready

pub returns-clause-rises : goal.returns-clause-rises
returns-clause-rises g c only =
    let self = c.args.self.now in
    let v = g.S.Shop.knows self.shop in
    let w = g.S.Shop.knows c.take_lease.new.shop in
    let first = c.in_ok-first.first in
    let took = subst (λ (key : List ℕ). TakesLease v w key first (first + self.lease)) c.as_slice.ensures c.in_ok-first.ensures.took in
    rises_taken v w self.key self.lease self.next self.end first c.in_ok-first.ensures.on took c.requires.ready only

pub returns-clause-below : goal.returns-clause-below
returns-clause-below g c only =
    let self = c.args.self.now in
    let v = g.S.Shop.knows self.shop in
    let w = g.S.Shop.knows c.take_lease.new.shop in
    let first = c.in_ok-first.first in
    let took = subst (λ (key : List ℕ). TakesLease v w key first (first + self.lease)) c.as_slice.ensures c.in_ok-first.ensures.took in
    below_then w self.key first
    (leased_taken v w self.key self.lease self.next self.end first c.in_ok-first.ensures.on took c.requires.ready) only
