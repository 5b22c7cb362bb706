-- The name's thing is read in its place.
use Rattle.std.proofs.Common.{◌∙◌, ℕ, List, refl, ap, sym, arith}
use Rattle.vl_engine_model.specs.Store.Reading.{get_at_by}
use Rattle.vl_engine_model.specs.Store.Things.{thing_of}
use Rattle.vl_script_model.specs.Sequential.{history_of}
use Rattle.vl_replay_laws.specs.declared.open.Thing.TheVariants.{Transaction, View}
use Rattle.vl_replay_laws.specs.laws.Names.Lookups.{place_there, without_open}
use Rattle.vl_replay_laws.specs.laws.Names.Making.{its, itself}
use Rattle.vl_replay_laws.specs.laws.Names.Placing.{free_returns, in_place, out_of_place}
use Rattle.vl_replay_laws.specs.laws.Names.PastMaking.{past_counted, past_not_by_disk, past_sound, past_undamaged, txn_past_makes, view_past_makes}
use Rattle.vl_replay_laws.specs.laws.Names.Untabled.{reads_none}
use Rattle.vl_replay.proofs.AsCalled.Naming.{none_read_back, txn_reads_back, view_reads_back}
use Rattle.vl_disk.specs.laws.Counting.{never_fails}
use Rattle.vl_replay_laws.specs.laws.Names.Unfailing.{its_reads, reads_in_place}
use Rattle.vl_replay.proofs.replayer.Served.get_at.Goals as goal

pub returns-in_default-clause-makes : goal.returns-in_default-clause-makes
returns-in_default-clause-makes g c s stands =
    free_returns g.D.Held.HeldFile.bytes _ c.args.self.now.engine.core c.args.self.now.opens.items s stands
    c.deref.result.now c.deref.ensures.value c.as_slice.result.now c.args.name c.as_slice.ensures (sym
    c.place.ensures ∙ c.in_default.is)
    (get_at_by s.store c.args.name c.args.key c.args.number) refl (λ job made. refl) (λ pass batch. refl)

pub index_mut-requires : goal.index_mut-requires
index_mut-requires g c =
    let there = place_there c.as_slice.result.now c.deref.result.now c.in-Some.at (sym c.place.ensures ∙ c.in-Some.is) in
    let within = there.2 in
    let len = c.deref.ensures.len in
    omega (arith, within, len)

pub returns-in-View-clause-makes : goal.returns-in-View-clause-makes
returns-in-View-clause-makes g c s stands =
    let bytes = g.D.Held.HeldFile.bytes in
    let core = c.args.self.now.engine.core in
    let seen = g.D.Watched.told c.args.self.now.engine.disk in
    let os = c.args.self.now.opens.items in
    let taken = out_of_place bytes seen core os s stands c.deref.result.now c.deref.ensures.value c.as_slice.result.now
    c.args.name c.as_slice.ensures
    c.in-Some.at (sym c.place.ensures ∙ c.in-Some.is) c.index_mut.result.now c.index_mut.ensures.value _ c.in-View.is in
    in_place bytes seen core os s stands c.deref.result.now c.deref.ensures.value c.as_slice.result.now c.args.name c.as_slice.ensures
    c.in-Some.at (sym c.place.ensures ∙ c.in-Some.is) c.index_mut.result.now c.index_mut.ensures.value (View c.get_at.new.self)
    (get_at_by s.store c.args.name c.as_slice-in-View.result.now c.args.number (thing_of s.store c.args.name))
    (get_at_by s.store c.args.name c.args.key c.args.number (thing_of s.store c.args.name)) _ c.get_at_answer.result
    (ap (λ (k : List ℕ). get_at_by s.store c.args.name k c.args.number (thing_of s.store c.args.name))
    c.as_slice-in-View.ensures) c.get_at_answer.ensures
    (view_past_makes bytes seen core os s stands (without_open c.args.name os) c.args.name c.as_slice-in-View.result.now c.args.number
    c.in-View.view c.get_at.new.self taken c.get_at.ensures.keeps c.get_at.ensures.still c.get_at.result c.get_at.ensures.answer)

pub returns-in-View-clause-near : goal.returns-in-View-clause-near
returns-in-View-clause-near g c s stands untabled =
    let bytes = g.D.Held.HeldFile.bytes in
    let core = c.args.self.now.engine.core in
    let seen = g.D.Watched.told c.args.self.now.engine.disk in
    let os = c.args.self.now.opens.items in
    let taken = out_of_place bytes seen core os s stands c.deref.result.now c.deref.ensures.value c.as_slice.result.now
    c.args.name c.as_slice.ensures
    c.in-Some.at (sym c.place.ensures ∙ c.in-Some.is) c.index_mut.result.now c.index_mut.ensures.value _ c.in-View.is in
    let (b, there, sees, live, near, began) = its bytes seen core os s stands (without_open c.args.name os) c.args.name
    c.in-View.view taken in
    past_sound _ c.get_at.result c.get_at_answer.result c.get_at_answer.ensures (c.get_at.ensures.answer (history_of s) sees)
    (c.get_at.ensures.near (near (reads_none c.in-View.view.ticket s.store.layout untabled)))

pub returns-in-View-clause-undamaged : goal.returns-in-View-clause-undamaged
returns-in-View-clause-undamaged g c s stands =
    let bytes = g.D.Held.HeldFile.bytes in
    let core = c.args.self.now.engine.core in
    let seen = g.D.Watched.told c.args.self.now.engine.disk in
    let os = c.args.self.now.opens.items in
    let taken = out_of_place bytes seen core os s stands c.deref.result.now c.deref.ensures.value c.as_slice.result.now
    c.args.name c.as_slice.ensures
    c.in-Some.at (sym c.place.ensures ∙ c.in-Some.is) c.index_mut.result.now c.index_mut.ensures.value _ c.in-View.is in
    let (b, there, sees, live, near, began) = its bytes seen core os s stands (without_open c.args.name os) c.args.name
    c.in-View.view taken in
    past_undamaged _ c.get_at.result c.get_at_answer.result c.get_at_answer.ensures (c.get_at.ensures.answer (history_of s) sees)

pub returns-in-View-clause-fault : goal.returns-in-View-clause-fault
returns-in-View-clause-fault g c =
    past_counted c.get_at.result c.get_at_answer.result c.get_at_answer.ensures g.D.Reader.Reader.faults _ _ c.get_at.ensures.cause _
    (its_reads _ c.args.self.now.opens.items c.deref.result.now c.deref.ensures.value c.as_slice.result.now
    c.args.name c.as_slice.ensures c.in-Some.at (sym c.place.ensures ∙ c.in-Some.is) c.index_mut.result.now c.index_mut.ensures.value (View c.in-View.view) c.in-View.is)

pub returns-clause-makes : goal.returns-clause-makes
returns-clause-makes g c s stands =
    let bytes = g.D.Held.HeldFile.bytes in
    let core = c.args.self.now.engine.core in
    let seen = g.D.Watched.told c.args.self.now.engine.disk in
    let os = c.args.self.now.opens.items in
    let taken = out_of_place bytes seen core os s stands c.deref.result.now c.deref.ensures.value c.as_slice.result.now
    c.args.name c.as_slice.ensures
    c.in-Some.at (sym c.place.ensures ∙ c.in-Some.is) c.index_mut.result.now c.index_mut.ensures.value _ c.in-Transaction.is in
    in_place bytes seen core os s stands c.deref.result.now c.deref.ensures.value c.as_slice.result.now c.args.name c.as_slice.ensures
    c.in-Some.at (sym c.place.ensures ∙ c.in-Some.is) c.index_mut.result.now c.index_mut.ensures.value (Transaction
    c.get_at-in-Transaction.new.self)
    (get_at_by s.store c.args.name c.as_slice-in-Transaction.result.now c.args.number (thing_of s.store c.args.name))
    (get_at_by s.store c.args.name c.args.key c.args.number (thing_of s.store c.args.name)) _ c.get_at_answer-in-Transaction.result
    (ap (λ (k : List ℕ). get_at_by s.store c.args.name k c.args.number (thing_of s.store c.args.name))
    c.as_slice-in-Transaction.ensures) c.get_at_answer-in-Transaction.ensures
    (txn_past_makes bytes seen core os s stands (without_open c.args.name os) c.args.name c.as_slice-in-Transaction.result.now c.args.number
    c.in-Transaction.txn c.get_at-in-Transaction.new.self taken c.get_at-in-Transaction.ensures.kept c.get_at-in-Transaction.ensures.still
    c.get_at-in-Transaction.result c.get_at-in-Transaction.ensures.answer)

pub returns-clause-near : goal.returns-clause-near
returns-clause-near g c s stands untabled =
    let bytes = g.D.Held.HeldFile.bytes in
    let core = c.args.self.now.engine.core in
    let seen = g.D.Watched.told c.args.self.now.engine.disk in
    let os = c.args.self.now.opens.items in
    let taken = out_of_place bytes seen core os s stands c.deref.result.now c.deref.ensures.value c.as_slice.result.now
    c.args.name c.as_slice.ensures
    c.in-Some.at (sym c.place.ensures ∙ c.in-Some.is) c.index_mut.result.now c.index_mut.ensures.value _ c.in-Transaction.is in
    let (t, b, there, is, began) = itself bytes seen core os s stands (without_open c.args.name os) c.args.name
    c.in-Transaction.txn taken in
    past_sound _ c.get_at-in-Transaction.result c.get_at_answer-in-Transaction.result c.get_at_answer-in-Transaction.ensures
    (c.get_at-in-Transaction.ensures.answer (history_of s) t.reads is.sees)
    (c.get_at-in-Transaction.ensures.near (is.near (reads_none c.in-Transaction.txn.ticket s.store.layout untabled)))

pub returns-clause-undamaged : goal.returns-clause-undamaged
returns-clause-undamaged g c s stands =
    let bytes = g.D.Held.HeldFile.bytes in
    let core = c.args.self.now.engine.core in
    let seen = g.D.Watched.told c.args.self.now.engine.disk in
    let os = c.args.self.now.opens.items in
    let taken = out_of_place bytes seen core os s stands c.deref.result.now c.deref.ensures.value c.as_slice.result.now
    c.args.name c.as_slice.ensures
    c.in-Some.at (sym c.place.ensures ∙ c.in-Some.is) c.index_mut.result.now c.index_mut.ensures.value _ c.in-Transaction.is in
    let (t, b, there, is, began) = itself bytes seen core os s stands (without_open c.args.name os) c.args.name
    c.in-Transaction.txn taken in
    past_undamaged _ c.get_at-in-Transaction.result c.get_at_answer-in-Transaction.result c.get_at_answer-in-Transaction.ensures
    (c.get_at-in-Transaction.ensures.answer (history_of s) t.reads is.sees)

pub returns-clause-fault : goal.returns-clause-fault
returns-clause-fault g c =
    past_counted c.get_at-in-Transaction.result c.get_at_answer-in-Transaction.result c.get_at_answer-in-Transaction.ensures
    g.D.Reader.Reader.faults _ _ c.get_at-in-Transaction.ensures.cause _
    (its_reads _ c.args.self.now.opens.items c.deref.result.now c.deref.ensures.value c.as_slice.result.now
    c.args.name c.as_slice.ensures c.in-Some.at (sym c.place.ensures ∙ c.in-Some.is) c.index_mut.result.now c.index_mut.ensures.value (Transaction c.in-Transaction.txn) c.in-Transaction.is)

pub returns-in-View-clause-not_the_disk : goal.returns-in-View-clause-not_the_disk
returns-in-View-clause-not_the_disk g c = past_not_by_disk c.get_at.result c.get_at_answer.result c.get_at_answer.ensures

pub returns-clause-not_the_disk : goal.returns-clause-not_the_disk
returns-clause-not_the_disk g c =
    past_not_by_disk c.get_at-in-Transaction.result c.get_at_answer-in-Transaction.result c.get_at_answer-in-Transaction.ensures

-- ---- what it is answered, whatever the disk holds

pub returns-in_default-clause-as_called : goal.returns-in_default-clause-as_called
returns-in_default-clause-as_called g c =
    none_read_back g.D.Held.HeldFile.bytes _ c.args.self.now.opens.items c.deref.result.now c.deref.ensures.value c.as_slice.result.now
    c.args.name c.as_slice.ensures (sym c.place.ensures ∙ c.in_default.is) _ c.args.key c.args.number

pub returns-in-View-clause-as_called : goal.returns-in-View-clause-as_called
returns-in-View-clause-as_called g c =
    view_reads_back g.D.Held.HeldFile.bytes _ c.args.self.now.opens.items c.deref.result.now c.deref.ensures.value c.as_slice.result.now
    c.args.name c.as_slice.ensures c.in-Some.at
    (sym c.place.ensures ∙ c.in-Some.is) c.index_mut.result.now c.index_mut.ensures.value c.in-View.view c.get_at.new.self c.in-View.is c.get_at.ensures.keeps
    c.as_slice-in-View.result.now c.args.key c.as_slice-in-View.ensures c.args.number c.get_at.result c.get_at_answer.result
    c.get_at_answer.ensures
    (record {
      refused = c.get_at.ensures.refused;
      cause = c.get_at.ensures.cause;
      near = c.get_at.ensures.near;
      names = c.get_at.ensures.fault;
      looks = c.get_at.ensures.looks;
    })

pub returns-clause-as_called : goal.returns-clause-as_called
returns-clause-as_called g c =
    txn_reads_back g.D.Held.HeldFile.bytes _ c.args.self.now.opens.items c.deref.result.now c.deref.ensures.value c.as_slice.result.now
    c.args.name c.as_slice.ensures c.in-Some.at
    (sym c.place.ensures ∙ c.in-Some.is) c.index_mut.result.now c.index_mut.ensures.value c.in-Transaction.txn
    c.get_at-in-Transaction.new.self c.in-Transaction.is c.get_at-in-Transaction.ensures.kept
    c.as_slice-in-Transaction.result.now c.args.key
    c.as_slice-in-Transaction.ensures c.args.number c.get_at-in-Transaction.result c.get_at_answer-in-Transaction.result
    c.get_at_answer-in-Transaction.ensures
    (record {
      refused = c.get_at-in-Transaction.ensures.refused;
      cause = c.get_at-in-Transaction.ensures.cause;
      near = c.get_at-in-Transaction.ensures.near;
      names = c.get_at-in-Transaction.ensures.fault;
      looks = c.get_at-in-Transaction.ensures.looks;
    })

-- ---- what reads then never fails

pub returns-in_default-clause-sure : goal.returns-in_default-clause-sure
returns-in_default-clause-sure g c s stands none = none

pub returns-in-View-clause-sure : goal.returns-in-View-clause-sure
returns-in-View-clause-sure g c s stands none =
    reads_in_place _ c.args.self.now.opens.items c.deref.result.now c.deref.ensures.value c.as_slice.result.now
    c.args.name c.as_slice.ensures c.in-Some.at (sym c.place.ensures ∙ c.in-Some.is) c.index_mut.result.now c.index_mut.ensures.value
    stands.names.once (View c.in-View.view) (View c.get_at.new.self) c.in-View.is none
    (λ sure. never_fails _ _ _ c.get_at.ensures.cause sure)

pub returns-clause-sure : goal.returns-clause-sure
returns-clause-sure g c s stands none =
    reads_in_place _ c.args.self.now.opens.items c.deref.result.now c.deref.ensures.value c.as_slice.result.now
    c.args.name c.as_slice.ensures c.in-Some.at (sym c.place.ensures ∙ c.in-Some.is) c.index_mut.result.now c.index_mut.ensures.value
    stands.names.once (Transaction c.in-Transaction.txn) (Transaction c.get_at-in-Transaction.new.self) c.in-Transaction.is none
    (λ sure. never_fails _ _ _ c.get_at-in-Transaction.ensures.cause sure)
