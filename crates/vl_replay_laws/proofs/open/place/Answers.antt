use Rattle.std.proofs.Common.{◌∙◌, sym}
use Rattle.vl_replay_laws.specs.laws.Names.Lookups.{place_found, place_goes_on}
use Rattle.vl_replay_laws.proofs.open.place.Goals as goal

pub opens-preserved : goal.opens-preserved
opens-preserved g c =
    place_goes_on c.args.name.now c.args.opens.now c.opens.at c.index-opens-at.result c.opens-test.true c.index-opens-at.is
    (sym c.is_named.ensures ∙ c.if-is_named.false) c.opens.invariant

pub returns-then-is_named : goal.returns-then-is_named
returns-then-is_named g c =
    place_found c.args.name.now c.args.opens.now c.opens.at c.index-opens-at.result c.opens-test.true c.index-opens-at.is
    (sym c.is_named.ensures ∙ c.if-is_named.true) c.opens.invariant
