-- The name's thing is scanned in its place.
use Rattle.std.proofs.Common.{◌∙◌, ℕ, List, refl, ap, sym, arith}
use Rattle.vl_engine_model.specs.Store.Reading.{scan_by}
use Rattle.vl_engine_model.specs.Store.Things.{Step, thing_of}
use Rattle.vl_script_model.specs.Sequential.{history_of}
use Rattle.vl_replay_laws.specs.declared.open.Thing.TheVariants.{Transaction, View}
use Rattle.vl_replay_laws.specs.laws.Names.Lookups.{place_there, without_open}
use Rattle.vl_replay_laws.specs.laws.Names.Making.{its, itself}
use Rattle.vl_replay_laws.specs.laws.Names.Placing.{free_returns, in_place, out_of_place}
use Rattle.vl_replay_laws.specs.laws.Names.ReadMaking.{call_counted, call_sound, call_undamaged}
use Rattle.vl_replay_laws.specs.laws.Names.ScanMaking.{txn_scan_makes, view_scan_makes}
use Rattle.vl_replay_laws.specs.laws.Names.Untabled.{reads_none}
use Rattle.vl_replay.proofs.AsCalled.Naming.{none_scanned, txn_scans, view_scans}
use Rattle.vl_disk.specs.laws.Counting.{never_fails}
use Rattle.vl_replay_laws.specs.laws.Names.Unfailing.{its_reads, reads_in_place}
use Rattle.vl_replay.proofs.replayer.Served.scan.Goals as goal
use Rattle.vl_script.specs.declared.answer.Answer.TheVariants as answers

pub returns-in_default-clause-makes : goal.returns-in_default-clause-makes
returns-in_default-clause-makes g c s stands =
    free_returns g.D.Held.HeldFile.bytes _ c.args.self.now.engine.core c.args.self.now.opens.items s stands
    c.deref.result.now c.deref.ensures.value c.as_slice.result.now c.args.name c.as_slice.ensures (sym
    c.place.ensures ∙ c.in_default.is)
    (scan_by s.store c.args.way c.args.name c.args.low c.args.high c.args.limit) refl (λ job made. refl) (λ pass batch. refl)

pub index_mut-requires : goal.index_mut-requires
index_mut-requires g c =
    let there = place_there c.as_slice.result.now c.deref.result.now c.in-Some.at (sym c.place.ensures ∙ c.in-Some.is) in
    let within = there.2 in
    let len = c.deref.ensures.len in
    omega (arith, within, len)

pub returns-in-View-clause-makes : goal.returns-in-View-clause-makes
returns-in-View-clause-makes g c s stands =
    let bytes = g.D.Held.HeldFile.bytes in
    let core = c.args.self.now.engine.core in
    let seen = g.D.Watched.told c.args.self.now.engine.disk in
    let os = c.args.self.now.opens.items in
    let taken = out_of_place bytes seen core os s stands c.deref.result.now c.deref.ensures.value c.as_slice.result.now
    c.args.name c.as_slice.ensures
    c.in-Some.at (sym c.place.ensures ∙ c.in-Some.is) c.index_mut.result.now c.index_mut.ensures.value _ c.in-View.is in
    let step : List ℕ → List ℕ → Step = λ low high. scan_by s.store c.args.way c.args.name low high c.args.limit
    (thing_of s.store c.args.name) in
    in_place bytes seen core os s stands c.deref.result.now c.deref.ensures.value c.as_slice.result.now c.args.name c.as_slice.ensures
    c.in-Some.at (sym c.place.ensures ∙ c.in-Some.is) c.index_mut.result.now c.index_mut.ensures.value (View c.scan.new.self)
    (step c.as_slice-in-View.result.now c.as_slice-in-View-2.result.now) (step c.args.low c.args.high) _ c.scan_answer.result
    (ap (λ (low : List ℕ). step low c.as_slice-in-View-2.result.now) c.as_slice-in-View.ensures ∙ ap
    (λ (high : List ℕ). step c.args.low high) c.as_slice-in-View-2.ensures) c.scan_answer.ensures
    (view_scan_makes bytes seen core os s stands (without_open c.args.name os) c.args.name c.args.way
    c.as_slice-in-View.result.now c.as_slice-in-View-2.result.now c.args.limit
    (λ rows. rows.items) (λ rows. answers.Rows rows) (λ rows. refl) c.in-View.view c.scan.new.self taken
    c.scan.ensures.keeps c.scan.ensures.still
    c.scan.result c.scan.ensures.refused c.scan.ensures.rows)

pub returns-in-View-clause-near : goal.returns-in-View-clause-near
returns-in-View-clause-near g c s stands untabled =
    let bytes = g.D.Held.HeldFile.bytes in
    let core = c.args.self.now.engine.core in
    let seen = g.D.Watched.told c.args.self.now.engine.disk in
    let os = c.args.self.now.opens.items in
    let taken = out_of_place bytes seen core os s stands c.deref.result.now c.deref.ensures.value c.as_slice.result.now
    c.args.name c.as_slice.ensures
    c.in-Some.at (sym c.place.ensures ∙ c.in-Some.is) c.index_mut.result.now c.index_mut.ensures.value _ c.in-View.is in
    let (b, there, sees, live, near, began) = its bytes seen core os s stands (without_open c.args.name os) c.args.name
    c.in-View.view taken in
    call_sound (λ rows. answers.Rows rows) c.scan.result c.scan_answer.result c.scan_answer.ensures (c.scan.ensures.sound (history_of s) sees)
    (c.scan.ensures.near (near (reads_none c.in-View.view.ticket s.store.layout untabled)))

pub returns-in-View-clause-undamaged : goal.returns-in-View-clause-undamaged
returns-in-View-clause-undamaged g c s stands =
    let bytes = g.D.Held.HeldFile.bytes in
    let core = c.args.self.now.engine.core in
    let seen = g.D.Watched.told c.args.self.now.engine.disk in
    let os = c.args.self.now.opens.items in
    let taken = out_of_place bytes seen core os s stands c.deref.result.now c.deref.ensures.value c.as_slice.result.now
    c.args.name c.as_slice.ensures
    c.in-Some.at (sym c.place.ensures ∙ c.in-Some.is) c.index_mut.result.now c.index_mut.ensures.value _ c.in-View.is in
    let (b, there, sees, live, near, began) = its bytes seen core os s stands (without_open c.args.name os) c.args.name
    c.in-View.view taken in
    call_undamaged (λ rows. answers.Rows rows) c.scan.result c.scan_answer.result c.scan_answer.ensures
    (c.scan.ensures.sound (history_of s) sees)

pub returns-in-View-clause-fault : goal.returns-in-View-clause-fault
returns-in-View-clause-fault g c =
    call_counted (λ rows. answers.Rows rows) c.scan.result c.scan_answer.result c.scan_answer.ensures
    g.D.Reader.Reader.faults _ _ c.scan.ensures.cause _
    (its_reads _ c.args.self.now.opens.items c.deref.result.now c.deref.ensures.value c.as_slice.result.now
    c.args.name c.as_slice.ensures c.in-Some.at (sym c.place.ensures ∙ c.in-Some.is) c.index_mut.result.now c.index_mut.ensures.value (View c.in-View.view) c.in-View.is)

pub returns-clause-makes : goal.returns-clause-makes
returns-clause-makes g c s stands =
    let bytes = g.D.Held.HeldFile.bytes in
    let core = c.args.self.now.engine.core in
    let seen = g.D.Watched.told c.args.self.now.engine.disk in
    let os = c.args.self.now.opens.items in
    let taken = out_of_place bytes seen core os s stands c.deref.result.now c.deref.ensures.value c.as_slice.result.now
    c.args.name c.as_slice.ensures
    c.in-Some.at (sym c.place.ensures ∙ c.in-Some.is) c.index_mut.result.now c.index_mut.ensures.value _ c.in-Transaction.is in
    let step : List ℕ → List ℕ → Step = λ low high. scan_by s.store c.args.way c.args.name low high c.args.limit
    (thing_of s.store c.args.name) in
    in_place bytes seen core os s stands c.deref.result.now c.deref.ensures.value c.as_slice.result.now c.args.name c.as_slice.ensures
    c.in-Some.at (sym c.place.ensures ∙ c.in-Some.is) c.index_mut.result.now c.index_mut.ensures.value (Transaction
    c.scan-in-Transaction.new.self)
    (step c.as_slice-in-Transaction.result.now c.as_slice-in-Transaction-2.result.now) (step c.args.low c.args.high)
    _ c.scan_answer-in-Transaction.result
    (ap (λ (low : List ℕ). step low c.as_slice-in-Transaction-2.result.now) c.as_slice-in-Transaction.ensures ∙ ap
    (λ (high : List ℕ). step c.args.low high) c.as_slice-in-Transaction-2.ensures) c.scan_answer-in-Transaction.ensures
    (txn_scan_makes bytes seen core os s stands (without_open c.args.name os) c.args.name c.args.way
    c.as_slice-in-Transaction.result.now c.as_slice-in-Transaction-2.result.now c.args.limit
    (λ rows. rows.items) (λ rows. answers.Rows rows) (λ rows. refl) c.in-Transaction.txn
    c.scan-in-Transaction.new.self taken c.scan-in-Transaction.ensures.keeps
    c.scan-in-Transaction.result c.scan-in-Transaction.ensures.refused c.scan-in-Transaction.ensures.kept
    c.scan-in-Transaction.ensures.still
    c.scan-in-Transaction.ensures.rows c.scan-in-Transaction.ensures.sees)

pub returns-clause-near : goal.returns-clause-near
returns-clause-near g c s stands untabled =
    let bytes = g.D.Held.HeldFile.bytes in
    let core = c.args.self.now.engine.core in
    let seen = g.D.Watched.told c.args.self.now.engine.disk in
    let os = c.args.self.now.opens.items in
    let taken = out_of_place bytes seen core os s stands c.deref.result.now c.deref.ensures.value c.as_slice.result.now
    c.args.name c.as_slice.ensures
    c.in-Some.at (sym c.place.ensures ∙ c.in-Some.is) c.index_mut.result.now c.index_mut.ensures.value _ c.in-Transaction.is in
    let (t, b, there, is, began) = itself bytes seen core os s stands (without_open c.args.name os) c.args.name
    c.in-Transaction.txn taken in
    call_sound (λ rows. answers.Rows rows) c.scan-in-Transaction.result c.scan_answer-in-Transaction.result
    c.scan_answer-in-Transaction.ensures (c.scan-in-Transaction.ensures.sound (history_of s) t.reads is.sees)
    (c.scan-in-Transaction.ensures.near (is.near (reads_none c.in-Transaction.txn.ticket s.store.layout untabled)))

pub returns-clause-undamaged : goal.returns-clause-undamaged
returns-clause-undamaged g c s stands =
    let bytes = g.D.Held.HeldFile.bytes in
    let core = c.args.self.now.engine.core in
    let seen = g.D.Watched.told c.args.self.now.engine.disk in
    let os = c.args.self.now.opens.items in
    let taken = out_of_place bytes seen core os s stands c.deref.result.now c.deref.ensures.value c.as_slice.result.now
    c.args.name c.as_slice.ensures
    c.in-Some.at (sym c.place.ensures ∙ c.in-Some.is) c.index_mut.result.now c.index_mut.ensures.value _ c.in-Transaction.is in
    let (t, b, there, is, began) = itself bytes seen core os s stands (without_open c.args.name os) c.args.name
    c.in-Transaction.txn taken in
    call_undamaged (λ rows. answers.Rows rows) c.scan-in-Transaction.result c.scan_answer-in-Transaction.result
    c.scan_answer-in-Transaction.ensures
    (c.scan-in-Transaction.ensures.sound (history_of s) t.reads is.sees)

pub returns-clause-fault : goal.returns-clause-fault
returns-clause-fault g c =
    call_counted (λ rows. answers.Rows rows) c.scan-in-Transaction.result c.scan_answer-in-Transaction.result
    c.scan_answer-in-Transaction.ensures g.D.Reader.Reader.faults _ _ c.scan-in-Transaction.ensures.cause _
    (its_reads _ c.args.self.now.opens.items c.deref.result.now c.deref.ensures.value c.as_slice.result.now
    c.args.name c.as_slice.ensures c.in-Some.at (sym c.place.ensures ∙ c.in-Some.is) c.index_mut.result.now c.index_mut.ensures.value (Transaction c.in-Transaction.txn) c.in-Transaction.is)

-- ---- what it is answered, whatever the disk holds

pub returns-in_default-clause-as_called : goal.returns-in_default-clause-as_called
returns-in_default-clause-as_called g c =
    none_scanned g.D.Held.HeldFile.bytes _ c.args.self.now.opens.items c.deref.result.now c.deref.ensures.value c.as_slice.result.now
    c.args.name c.as_slice.ensures (sym c.place.ensures ∙ c.in_default.is) _ c.args.low c.args.high

pub returns-in-View-clause-as_called : goal.returns-in-View-clause-as_called
returns-in-View-clause-as_called g c =
    view_scans g.D.Held.HeldFile.bytes _ c.args.self.now.opens.items c.deref.result.now c.deref.ensures.value c.as_slice.result.now
    c.args.name c.as_slice.ensures c.in-Some.at
    (sym c.place.ensures ∙ c.in-Some.is) c.index_mut.result.now c.index_mut.ensures.value c.in-View.view c.scan.new.self c.in-View.is c.scan.ensures.keeps
    c.as_slice-in-View.result.now c.args.low c.as_slice-in-View.ensures c.as_slice-in-View-2.result.now c.args.high
    c.as_slice-in-View-2.ensures c.scan.result c.scan_answer.result c.scan_answer.ensures
    (record {
      refused = c.scan.ensures.refused;
      cause = c.scan.ensures.cause;
      near = c.scan.ensures.near;
      names = c.scan.ensures.fault;
    })

pub returns-clause-as_called : goal.returns-clause-as_called
returns-clause-as_called g c =
    txn_scans g.D.Held.HeldFile.bytes _ c.args.self.now.opens.items c.deref.result.now c.deref.ensures.value c.as_slice.result.now
    c.args.name c.as_slice.ensures c.in-Some.at
    (sym c.place.ensures ∙ c.in-Some.is) c.index_mut.result.now c.index_mut.ensures.value c.in-Transaction.txn
    c.scan-in-Transaction.new.self c.in-Transaction.is c.scan-in-Transaction.ensures.keeps
    c.as_slice-in-Transaction.result.now c.args.low c.as_slice-in-Transaction.ensures
    c.as_slice-in-Transaction-2.result.now c.args.high c.as_slice-in-Transaction-2.ensures c.scan-in-Transaction.result
    c.scan_answer-in-Transaction.result c.scan_answer-in-Transaction.ensures
    (record {
      refused = c.scan-in-Transaction.ensures.refused;
      cause = c.scan-in-Transaction.ensures.cause;
      near = c.scan-in-Transaction.ensures.near;
      names = c.scan-in-Transaction.ensures.fault;
    })

-- ---- what reads then never fails

pub returns-in_default-clause-sure : goal.returns-in_default-clause-sure
returns-in_default-clause-sure g c s stands none = none

pub returns-in-View-clause-sure : goal.returns-in-View-clause-sure
returns-in-View-clause-sure g c s stands none =
    reads_in_place _ c.args.self.now.opens.items c.deref.result.now c.deref.ensures.value c.as_slice.result.now
    c.args.name c.as_slice.ensures c.in-Some.at (sym c.place.ensures ∙ c.in-Some.is) c.index_mut.result.now c.index_mut.ensures.value
    stands.names.once (View c.in-View.view) (View c.scan.new.self) c.in-View.is none
    (λ sure. never_fails _ _ _ c.scan.ensures.cause sure)

pub returns-clause-sure : goal.returns-clause-sure
returns-clause-sure g c s stands none =
    reads_in_place _ c.args.self.now.opens.items c.deref.result.now c.deref.ensures.value c.as_slice.result.now
    c.args.name c.as_slice.ensures c.in-Some.at (sym c.place.ensures ∙ c.in-Some.is) c.index_mut.result.now c.index_mut.ensures.value
    stands.names.once (Transaction c.in-Transaction.txn) (Transaction c.scan-in-Transaction.new.self) c.in-Transaction.is none
    (λ sure. never_fails _ _ _ c.scan-in-Transaction.ensures.cause sure)
