use Rattle.std.proofs.Common.{◌+◌, sym, subst, arith, List}
use Rattle.std.proofs.lemmas.Bool.Decides.{nat_tests}
use Rattle.vl_table.specs.body.Index.{places}
use Rattle.vl_table.specs.body.Lists.{last_item}
use Rattle.vl_table.specs.laws.ListLaws.{SoFar, cut, done, goes_on}
use Rattle.vl_table.specs.declared.body.index.BlockPlace.{BlockPlace}
use Rattle.vl_table.proofs.BodySteps.{next_place, place_is_some}
use Rattle.vl_table.proofs.body.index.take_places.Goals as goal

pub returns-in-None-clause-none : goal.returns-in-None-clause-none
returns-in-None-clause-none c = λ blocks run.
    cut places c.args.bytes.now c.args.count c.loop.counter c.loop.blocks.items c.loop.rest.now c.loop.invariant c.loop-test.true
    (rw c.in-None.is at c.in_ok-take_place.ensures.none) blocks run

pub loop-preserved : goal.loop-preserved
loop-preserved c =
    let found = rw c.in-Some.is at c.in_ok-take_place.ensures.found in
    let lawful = rw c.in-Some.is at c.in_ok-take_place.ensures.lawful in
    subst (λ (l : List BlockPlace). SoFar places c.args.bytes.now c.args.count (c.loop.counter + 1) l
    c.in-Some.after.now) (sym c.in_ok-push-in-Some.ensures.items)
    (goes_on places c.args.bytes.now c.args.count c.loop.counter c.loop.blocks.items c.loop.rest.now c.in-Some.block
    c.in-Some.after.now c.loop.invariant
    (place_is_some c.in-Some.block) lawful found (next_place (last_item c.loop.blocks.items) c.in-Some.block))

pub returns-then-is_empty-clause-found : goal.returns-then-is_empty-clause-found
returns-then-is_empty-clause-found c =
    done places c.args.bytes.now c.args.count c.loop.counter c.loop.blocks.items c.loop.rest.now c.loop.invariant
    (omega arith) (grind (arith, nat_tests))
