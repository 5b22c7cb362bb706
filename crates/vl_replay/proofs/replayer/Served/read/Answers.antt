-- The name's thing is read in its place.
use Rattle.std.proofs.Common.{◌∙◌, ℕ, List, refl, ap, sym, arith}
use Rattle.vl_engine_model.specs.Store.Reading.{get_by}
use Rattle.vl_engine_model.specs.Store.Things.{thing_of}
use Rattle.vl_script_model.specs.Sequential.{history_of}
use Rattle.vl_replay_laws.specs.Standing.{tell_of, value_answer}
use Rattle.vl_replay_laws.specs.declared.open.Thing.TheVariants.{Transaction, View}
use Rattle.vl_replay_laws.specs.laws.Names.Lookups.{place_there, without_open}
use Rattle.vl_replay_laws.specs.laws.Names.Making.{its, itself}
use Rattle.vl_replay_laws.specs.laws.Names.Placing.{free_returns, in_place, out_of_place}
use Rattle.vl_replay_laws.specs.laws.Names.ReadMaking.{call_counted, call_sound, call_undamaged, txn_read_makes, view_read_makes}
use Rattle.vl_replay_laws.specs.laws.Names.Untabled.{reads_none}
use Rattle.vl_replay.proofs.AsCalled.Naming.{none_read, txn_reads, view_reads}
use Rattle.vl_disk.specs.laws.Counting.{never_fails}
use Rattle.vl_replay_laws.specs.laws.Names.Unfailing.{its_reads, reads_in_place}
use Rattle.vl_replay.proofs.replayer.Served.read.Goals as goal

pub returns-in_default-clause-makes : goal.returns-in_default-clause-makes
returns-in_default-clause-makes g c s stands =
    free_returns g.D.Held.HeldFile.bytes _ c.args.self.now.engine.core c.args.self.now.opens.items s stands
    c.deref.result.now c.deref.ensures.value c.as_slice.result.now c.args.name c.as_slice.ensures (sym
    c.place.ensures ∙ c.in_default.is)
    (get_by s.store c.args.name (tell_of c.args.with_tag) c.args.key) refl (λ job made. refl) (λ pass batch. refl)

pub index_mut-requires : goal.index_mut-requires
index_mut-requires g c =
    let there = place_there c.as_slice.result.now c.deref.result.now c.in-Some.at (sym c.place.ensures ∙ c.in-Some.is) in
    let within = there.2 in
    let len = c.deref.ensures.len in
    omega (arith, within, len)

pub returns-in-View-clause-makes : goal.returns-in-View-clause-makes
returns-in-View-clause-makes g c s stands =
    let bytes = g.D.Held.HeldFile.bytes in
    let core = c.args.self.now.engine.core in
    let seen = g.D.Watched.told c.args.self.now.engine.disk in
    let os = c.args.self.now.opens.items in
    let taken = out_of_place bytes seen core os s stands c.deref.result.now c.deref.ensures.value c.as_slice.result.now
    c.args.name c.as_slice.ensures
    c.in-Some.at (sym c.place.ensures ∙ c.in-Some.is) c.index_mut.result.now c.index_mut.ensures.value _ c.in-View.is in
    in_place bytes seen core os s stands c.deref.result.now c.deref.ensures.value c.as_slice.result.now c.args.name c.as_slice.ensures
    c.in-Some.at (sym c.place.ensures ∙ c.in-Some.is) c.index_mut.result.now c.index_mut.ensures.value (View c.get.new.self)
    (get_by s.store c.args.name (tell_of c.args.with_tag) c.as_slice-in-View.result.now (thing_of s.store c.args.name))
    (get_by s.store c.args.name (tell_of c.args.with_tag) c.args.key (thing_of s.store c.args.name)) _ c.read_answer.result
    (ap (λ (k : List ℕ). get_by s.store c.args.name (tell_of c.args.with_tag) k (thing_of s.store c.args.name))
    c.as_slice-in-View.ensures) c.read_answer.ensures
    (view_read_makes bytes seen core os s stands (without_open c.args.name os) c.args.name c.in-View.view c.get.new.self
    taken c.get.ensures.keeps c.get.ensures.still
    c.as_slice-in-View.result.now c.args.with_tag c.get.result c.get.ensures.refused c.get.ensures.value)

pub returns-in-View-clause-near : goal.returns-in-View-clause-near
returns-in-View-clause-near g c s stands untabled =
    let bytes = g.D.Held.HeldFile.bytes in
    let core = c.args.self.now.engine.core in
    let seen = g.D.Watched.told c.args.self.now.engine.disk in
    let os = c.args.self.now.opens.items in
    let taken = out_of_place bytes seen core os s stands c.deref.result.now c.deref.ensures.value c.as_slice.result.now
    c.args.name c.as_slice.ensures
    c.in-Some.at (sym c.place.ensures ∙ c.in-Some.is) c.index_mut.result.now c.index_mut.ensures.value _ c.in-View.is in
    let (b, there, sees, live, near, began) = its bytes seen core os s stands (without_open c.args.name os) c.args.name
    c.in-View.view taken in
    call_sound (value_answer c.args.with_tag) c.get.result c.read_answer.result c.read_answer.ensures (c.get.ensures.sound (history_of s) sees)
    (c.get.ensures.near (near (reads_none c.in-View.view.ticket s.store.layout untabled)))

pub returns-in-View-clause-undamaged : goal.returns-in-View-clause-undamaged
returns-in-View-clause-undamaged g c s stands =
    let bytes = g.D.Held.HeldFile.bytes in
    let core = c.args.self.now.engine.core in
    let seen = g.D.Watched.told c.args.self.now.engine.disk in
    let os = c.args.self.now.opens.items in
    let taken = out_of_place bytes seen core os s stands c.deref.result.now c.deref.ensures.value c.as_slice.result.now
    c.args.name c.as_slice.ensures
    c.in-Some.at (sym c.place.ensures ∙ c.in-Some.is) c.index_mut.result.now c.index_mut.ensures.value _ c.in-View.is in
    let (b, there, sees, live, near, began) = its bytes seen core os s stands (without_open c.args.name os) c.args.name
    c.in-View.view taken in
    call_undamaged (value_answer c.args.with_tag) c.get.result c.read_answer.result c.read_answer.ensures (c.get.ensures.sound (history_of s) sees)

pub returns-in-View-clause-fault : goal.returns-in-View-clause-fault
returns-in-View-clause-fault g c =
    call_counted (value_answer c.args.with_tag) c.get.result c.read_answer.result c.read_answer.ensures g.D.Reader.Reader.faults _ _ c.get.ensures.cause _
    (its_reads _ c.args.self.now.opens.items c.deref.result.now c.deref.ensures.value c.as_slice.result.now
    c.args.name c.as_slice.ensures c.in-Some.at (sym c.place.ensures ∙ c.in-Some.is) c.index_mut.result.now c.index_mut.ensures.value (View c.in-View.view) c.in-View.is)

pub returns-clause-makes : goal.returns-clause-makes
returns-clause-makes g c s stands =
    let bytes = g.D.Held.HeldFile.bytes in
    let core = c.args.self.now.engine.core in
    let seen = g.D.Watched.told c.args.self.now.engine.disk in
    let os = c.args.self.now.opens.items in
    let taken = out_of_place bytes seen core os s stands c.deref.result.now c.deref.ensures.value c.as_slice.result.now
    c.args.name c.as_slice.ensures
    c.in-Some.at (sym c.place.ensures ∙ c.in-Some.is) c.index_mut.result.now c.index_mut.ensures.value _ c.in-Transaction.is in
    in_place bytes seen core os s stands c.deref.result.now c.deref.ensures.value c.as_slice.result.now c.args.name c.as_slice.ensures
    c.in-Some.at (sym c.place.ensures ∙ c.in-Some.is) c.index_mut.result.now c.index_mut.ensures.value (Transaction
    c.get-in-Transaction.new.self)
    (get_by s.store c.args.name (tell_of c.args.with_tag) c.as_slice-in-Transaction.result.now (thing_of s.store c.args.name))
    (get_by s.store c.args.name (tell_of c.args.with_tag) c.args.key (thing_of s.store c.args.name)) _ c.read_answer-in-Transaction.result
    (ap (λ (k : List ℕ). get_by s.store c.args.name (tell_of c.args.with_tag) k (thing_of s.store c.args.name))
    c.as_slice-in-Transaction.ensures) c.read_answer-in-Transaction.ensures
    (txn_read_makes bytes seen core os s stands (without_open c.args.name os) c.args.name c.in-Transaction.txn
    c.get-in-Transaction.new.self taken c.get-in-Transaction.ensures.keeps
    c.as_slice-in-Transaction.result.now c.args.with_tag c.get-in-Transaction.result
    c.get-in-Transaction.ensures.refused c.get-in-Transaction.ensures.kept c.get-in-Transaction.ensures.still
    c.get-in-Transaction.ensures.value c.get-in-Transaction.ensures.sees)

pub returns-clause-near : goal.returns-clause-near
returns-clause-near g c s stands untabled =
    let bytes = g.D.Held.HeldFile.bytes in
    let core = c.args.self.now.engine.core in
    let seen = g.D.Watched.told c.args.self.now.engine.disk in
    let os = c.args.self.now.opens.items in
    let taken = out_of_place bytes seen core os s stands c.deref.result.now c.deref.ensures.value c.as_slice.result.now
    c.args.name c.as_slice.ensures
    c.in-Some.at (sym c.place.ensures ∙ c.in-Some.is) c.index_mut.result.now c.index_mut.ensures.value _ c.in-Transaction.is in
    let (t, b, there, is, began) = itself bytes seen core os s stands (without_open c.args.name os) c.args.name
    c.in-Transaction.txn taken in
    call_sound (value_answer c.args.with_tag) c.get-in-Transaction.result c.read_answer-in-Transaction.result
    c.read_answer-in-Transaction.ensures (c.get-in-Transaction.ensures.sound (history_of s) t.reads is.sees)
    (c.get-in-Transaction.ensures.near (is.near (reads_none c.in-Transaction.txn.ticket s.store.layout untabled)))

pub returns-clause-undamaged : goal.returns-clause-undamaged
returns-clause-undamaged g c s stands =
    let bytes = g.D.Held.HeldFile.bytes in
    let core = c.args.self.now.engine.core in
    let seen = g.D.Watched.told c.args.self.now.engine.disk in
    let os = c.args.self.now.opens.items in
    let taken = out_of_place bytes seen core os s stands c.deref.result.now c.deref.ensures.value c.as_slice.result.now
    c.args.name c.as_slice.ensures
    c.in-Some.at (sym c.place.ensures ∙ c.in-Some.is) c.index_mut.result.now c.index_mut.ensures.value _ c.in-Transaction.is in
    let (t, b, there, is, began) = itself bytes seen core os s stands (without_open c.args.name os) c.args.name
    c.in-Transaction.txn taken in
    call_undamaged (value_answer c.args.with_tag) c.get-in-Transaction.result c.read_answer-in-Transaction.result c.read_answer-in-Transaction.ensures
    (c.get-in-Transaction.ensures.sound (history_of s) t.reads is.sees)

pub returns-clause-fault : goal.returns-clause-fault
returns-clause-fault g c =
    call_counted (value_answer c.args.with_tag) c.get-in-Transaction.result c.read_answer-in-Transaction.result
    c.read_answer-in-Transaction.ensures g.D.Reader.Reader.faults _ _ c.get-in-Transaction.ensures.cause _
    (its_reads _ c.args.self.now.opens.items c.deref.result.now c.deref.ensures.value c.as_slice.result.now
    c.args.name c.as_slice.ensures c.in-Some.at (sym c.place.ensures ∙ c.in-Some.is) c.index_mut.result.now c.index_mut.ensures.value (Transaction c.in-Transaction.txn) c.in-Transaction.is)

-- ---- what it is answered, whatever the disk holds

pub returns-in_default-clause-as_called : goal.returns-in_default-clause-as_called
returns-in_default-clause-as_called g c =
    none_read g.D.Held.HeldFile.bytes _ c.args.self.now.opens.items c.deref.result.now c.deref.ensures.value c.as_slice.result.now
    c.args.name c.as_slice.ensures (sym c.place.ensures ∙ c.in_default.is) _ c.args.with_tag c.args.key

pub returns-in-View-clause-as_called : goal.returns-in-View-clause-as_called
returns-in-View-clause-as_called g c =
    view_reads g.D.Held.HeldFile.bytes _ c.args.self.now.opens.items c.deref.result.now c.deref.ensures.value c.as_slice.result.now
    c.args.name c.as_slice.ensures c.in-Some.at
    (sym c.place.ensures ∙ c.in-Some.is) c.index_mut.result.now c.index_mut.ensures.value c.in-View.view c.get.new.self c.in-View.is c.get.ensures.keeps
    c.as_slice-in-View.result.now c.args.key c.as_slice-in-View.ensures c.args.with_tag c.get.result c.read_answer.result
    c.read_answer.ensures
    (record {
      refused = c.get.ensures.refused;
      cause = c.get.ensures.cause;
      near = c.get.ensures.near;
      own = λ change none. absurd cc;
      looks = λ none files lies. c.get.ensures.looks files lies;
    })

pub returns-clause-as_called : goal.returns-clause-as_called
returns-clause-as_called g c =
    txn_reads g.D.Held.HeldFile.bytes _ c.args.self.now.opens.items c.deref.result.now c.deref.ensures.value c.as_slice.result.now
    c.args.name c.as_slice.ensures c.in-Some.at
    (sym c.place.ensures ∙ c.in-Some.is) c.index_mut.result.now c.index_mut.ensures.value c.in-Transaction.txn
    c.get-in-Transaction.new.self c.in-Transaction.is c.get-in-Transaction.ensures.keeps
    c.as_slice-in-Transaction.result.now c.args.key c.as_slice-in-Transaction.ensures
    c.args.with_tag c.get-in-Transaction.result c.read_answer-in-Transaction.result c.read_answer-in-Transaction.ensures
    (record {
      refused = c.get-in-Transaction.ensures.refused;
      cause = c.get-in-Transaction.ensures.cause;
      near = c.get-in-Transaction.ensures.near;
      own = c.get-in-Transaction.ensures.own;
      looks = λ none files lies. c.get-in-Transaction.ensures.looks files lies none;
    })

-- ---- what reads then never fails

pub returns-in_default-clause-sure : goal.returns-in_default-clause-sure
returns-in_default-clause-sure g c s stands none = none

pub returns-in-View-clause-sure : goal.returns-in-View-clause-sure
returns-in-View-clause-sure g c s stands none =
    reads_in_place _ c.args.self.now.opens.items c.deref.result.now c.deref.ensures.value c.as_slice.result.now
    c.args.name c.as_slice.ensures c.in-Some.at (sym c.place.ensures ∙ c.in-Some.is) c.index_mut.result.now c.index_mut.ensures.value
    stands.names.once (View c.in-View.view) (View c.get.new.self) c.in-View.is none
    (λ sure. never_fails _ _ _ c.get.ensures.cause sure)

pub returns-clause-sure : goal.returns-clause-sure
returns-clause-sure g c s stands none =
    reads_in_place _ c.args.self.now.opens.items c.deref.result.now c.deref.ensures.value c.as_slice.result.now
    c.args.name c.as_slice.ensures c.in-Some.at (sym c.place.ensures ∙ c.in-Some.is) c.index_mut.result.now c.index_mut.ensures.value
    stands.names.once (Transaction c.in-Transaction.txn) (Transaction c.get-in-Transaction.new.self) c.in-Transaction.is none
    (λ sure. never_fails _ _ _ c.get-in-Transaction.ensures.cause sure)
