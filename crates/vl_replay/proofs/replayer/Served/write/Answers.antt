-- The name's transaction is written in its place.
use Rattle.std.proofs.Common.{◌∙◌, refl, sym, arith}
use Rattle.std.specs.Prelude.{Ok}
use Rattle.vl_engine_model.specs.Store.Reading.{write_by}
use Rattle.vl_engine_model.specs.Store.Things.{thing_of}
use Rattle.vl_replay_laws.specs.Standing.{change_of}
use Rattle.vl_replay_laws.specs.declared.open.Thing.TheVariants.{Transaction}
use Rattle.vl_replay_laws.specs.laws.Names.Lookups.{place_there, without_open}
use Rattle.vl_replay_laws.specs.laws.Names.Making.{read_only_makes, write_makes}
use Rattle.vl_replay_laws.specs.laws.Names.Placing.{free_returns, in_place, out_of_place, still_in_place}
use Rattle.vl_script.specs.declared.answer.Answer.TheVariants as answers
use Rattle.vl_replay_laws.specs.laws.Names.Unfailing.{reads_in_place, writes_in_place}
use Rattle.vl_replay.proofs.replayer.Served.write.Goals as goal

pub returns-in_default-clause-makes : goal.returns-in_default-clause-makes
returns-in_default-clause-makes g c s stands =
    free_returns g.D.Held.HeldFile.bytes _ c.args.self.now.engine.core c.args.self.now.opens.items s stands
    c.deref.result.now c.deref.ensures.value c.as_slice.result.now c.args.name c.as_slice.ensures (sym
    c.place.ensures ∙ c.in_default.is)
    (write_by s.store c.args.name c.args.key (change_of c.args.value)) refl (λ job made. refl) (λ pass batch. refl)

pub index_mut-requires : goal.index_mut-requires
index_mut-requires g c =
    let there = place_there c.as_slice.result.now c.deref.result.now c.in-Some.at (sym c.place.ensures ∙ c.in-Some.is) in
    let within = there.2 in
    let len = c.deref.ensures.len in
    omega (arith, within, len)

pub returns-clause-makes : goal.returns-clause-makes
returns-clause-makes g c s stands =
    let bytes = g.D.Held.HeldFile.bytes in
    let core = c.args.self.now.engine.core in
    let seen = g.D.Watched.told c.args.self.now.engine.disk in
    let os = c.args.self.now.opens.items in
    let taken = out_of_place bytes seen core os s stands c.deref.result.now c.deref.ensures.value c.as_slice.result.now
    c.args.name c.as_slice.ensures
    c.in-Some.at (sym c.place.ensures ∙ c.in-Some.is) c.index_mut.result.now c.index_mut.ensures.value _ c.in-Transaction.is in
    in_place bytes seen core os s stands c.deref.result.now c.deref.ensures.value c.as_slice.result.now c.args.name c.as_slice.ensures
    c.in-Some.at (sym c.place.ensures ∙ c.in-Some.is) c.index_mut.result.now c.index_mut.ensures.value (Transaction c.change.new.txn)
    (write_by s.store c.args.name c.args.key (change_of c.args.value) (thing_of s.store c.args.name)) _ _
    c.write_answer.result refl c.write_answer.ensures
    (write_makes bytes seen core os s stands (without_open c.args.name os) c.args.name c.in-Transaction.txn taken
    c.change.new.txn c.args.key (change_of c.args.value)
    c.change.ensures.keeps c.change.ensures.sees c.change.result c.change.ensures.written)

pub returns-in-View-clause-makes : goal.returns-in-View-clause-makes
returns-in-View-clause-makes g c s stands =
    let bytes = g.D.Held.HeldFile.bytes in
    let core = c.args.self.now.engine.core in
    let seen = g.D.Watched.told c.args.self.now.engine.disk in
    let os = c.args.self.now.opens.items in
    let taken = out_of_place bytes seen core os s stands c.deref.result.now c.deref.ensures.value c.as_slice.result.now
    c.args.name c.as_slice.ensures
    c.in-Some.at (sym c.place.ensures ∙ c.in-Some.is) c.index_mut.result.now c.index_mut.ensures.value _ c.in-View.is in
    still_in_place bytes seen core os s stands c.deref.result.now c.deref.ensures.value c.as_slice.result.now c.args.name c.as_slice.ensures
    c.in-Some.at (sym c.place.ensures ∙ c.in-Some.is) c.index_mut.result.now c.index_mut.ensures.value _ c.in-View.is
    (write_by s.store c.args.name c.args.key (change_of c.args.value) (thing_of s.store c.args.name)) (Ok answers.ReadOnly)
    (read_only_makes bytes seen core os s stands (without_open c.args.name os) c.args.name c.in-View.field-0 taken
    (write_by s.store c.args.name c.args.key (change_of c.args.value)) (λ v b. refl))

-- ---- what reads then never fails

pub returns-in_default-clause-sure : goal.returns-in_default-clause-sure
returns-in_default-clause-sure g c s stands none = none

pub returns-in-View-clause-sure : goal.returns-in-View-clause-sure
returns-in-View-clause-sure g c s stands none =
    reads_in_place _ c.args.self.now.opens.items c.deref.result.now c.deref.ensures.value c.as_slice.result.now
    c.args.name c.as_slice.ensures c.in-Some.at (sym c.place.ensures ∙ c.in-Some.is) c.index_mut.result.now c.index_mut.ensures.value
    stands.names.once c.index_mut.result.now.thing c.index_mut.result.now.thing refl none (λ sure. sure)

pub returns-clause-sure : goal.returns-clause-sure
returns-clause-sure g c s stands none =
    writes_in_place _ c.args.self.now.opens.items c.deref.result.now c.deref.ensures.value c.as_slice.result.now
    c.args.name c.as_slice.ensures c.in-Some.at (sym c.place.ensures ∙ c.in-Some.is) c.index_mut.result.now c.index_mut.ensures.value
    stands.names.once c.in-Transaction.txn c.change.new.txn c.in-Transaction.is c.change.ensures.keeps none
