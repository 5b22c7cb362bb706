use Rattle.std.proofs.Common.{◌∙◌, ap, sym, arith}
use Rattle.vl_replay_laws.specs.Standing.{place_of}
use Rattle.vl_replay_laws.specs.laws.Names.Lookups.{place_none, place_there, taken_at, taken_none}
use Rattle.vl_replay_laws.proofs.open.take_out.Goals as goal

pub returns-in-None : goal.returns-in-None
returns-in-None g c once =
    taken_none c.args.name.now c.args.opens.now.items once
    (place_none c.args.name.now c.args.opens.now.items (ap (place_of c.args.name.now) (sym
    c.deref.ensures.value) ∙ sym c.place.ensures ∙ c.in-None.is))

pub remove-requires : goal.remove-requires
remove-requires g c =
    let there = place_there c.args.name.now c.deref.result.now c.in-Some.at (sym c.place.ensures ∙ c.in-Some.is) in
    let within = there.2 in
    let len = c.deref.ensures.len in
    omega (arith, within, len)

pub returns-in-Some : goal.returns-in-Some
returns-in-Some g c once =
    taken_at c.args.name.now c.args.opens.now.items c.remove.new.self.items c.in-Some.at c.remove.result
    (sym (ap (place_of c.args.name.now) (sym c.deref.ensures.value) ∙ sym c.place.ensures ∙ c.in-Some.is)) once
    c.remove.ensures.value c.remove.ensures.items
