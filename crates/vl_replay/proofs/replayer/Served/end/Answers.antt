-- What the name stood for has ended, and the name is free.
use Rattle.std.proofs.Common.{ap, refl, subst, sym}
use Rattle.std.specs.Prelude.{None, Option}
use Rattle.vl_engine_model.specs.Store.Dispatch.{drop_by}
use Rattle.vl_script_model.specs.Sequential.{history_of}
use Rattle.vl_replay_laws.specs.laws.Names.BeginMaking.{bare_of, transaction_ends, unnamed_makes, view_ends}
use Rattle.vl_replay_laws.specs.laws.Names.Returning.{taken_as, taken_out}
use Rattle.vl_replay_laws.specs.laws.Names.Serving.{represents}
use Rattle.vl_space.specs.Removing.{Removes}
use Rattle.vl_engine_model.specs.Ruling.{ended}
use Rattle.vl_engine_model.specs.Rulings.Commit.{Transaction as ATxn}
use Rattle.vl_engine_model.specs.Store.Things.{Thing, thing_of}
use Rattle.vl_replay_laws.specs.laws.Names.Making.{its, itself}
use Rattle.vl_replay_laws.specs.Standing.{open_in}
use Rattle.vl_replay_laws.specs.laws.Names.Unfailing.{taken_reads}
use Rattle.vl_replay.proofs.replayer.Served.end.Goals as goal

pub returns-in-None-clause-makes : goal.returns-in-None-clause-makes
returns-in-None-clause-makes g c s stands none no_pass =
    let bytes = g.D.Held.HeldFile.bytes in
    let core = c.args.self.now.engine.core in
    let seen = g.D.Watched.told c.args.self.now.engine.disk in
    let os = c.args.self.now.opens.items in
    let left = c.take_out.new.opens.items in
    let taken = taken_as bytes seen core os left s stands c.as_slice.result.now c.args.name c.as_slice.ensures _ c.in-None.ensures in
    unnamed_makes bytes seen core os s stands left c.args.name taken none no_pass (drop_by s.store c.args.name) refl

pub returns-in-Some-View-clause-makes : goal.returns-in-Some-View-clause-makes
returns-in-Some-View-clause-makes g c s stands none no_pass =
    let bytes = g.D.Held.HeldFile.bytes in
    let core = c.args.self.now.engine.core in
    let seen = g.D.Watched.told c.args.self.now.engine.disk in
    let os = c.args.self.now.opens.items in
    let left = c.take_out.new.opens.items in
    let taken = taken_out bytes seen core os left s stands c.as_slice.result.now c.args.name c.as_slice.ensures _ _
    c.in-Some-View.field-0-is c.in-Some-View.ensures in
    view_ends bytes seen (g.D.Watched.told c.release.new.self.disk) core c.release.new.self.core os s stands
    c.release.ensures.back left c.args.name c.in-Some-View.view taken
    (record {
      stands = c.release.ensures.stands (history_of s) s.store.layout stands.engine;
      fits = c.release.ensures.fits (history_of s) s.store.layout stands.fits;
      held = λ openable. (c.release.ensures.represents (history_of s) s.store.layout
          (represents bytes seen core os s stands openable)).held;
    })

pub returns-clause-makes : goal.returns-clause-makes
returns-clause-makes g c s stands none no_pass =
    let bytes = g.D.Held.HeldFile.bytes in
    let core = c.args.self.now.engine.core in
    let seen = g.D.Watched.told c.args.self.now.engine.disk in
    let os = c.args.self.now.opens.items in
    let left = c.take_out.new.opens.items in
    let taken = taken_out bytes seen core os left s stands c.as_slice.result.now c.args.name c.as_slice.ensures _ _
    c.in-Some-Transaction.field-0-is c.in-Some-Transaction.ensures in
    transaction_ends bytes seen (g.D.Watched.told c.forget.new.self.disk) core c.forget.new.self.core os s stands
    c.forget.ensures.back left c.args.name
    c.in-Some-Transaction.txn taken
    (record {
      stands = c.forget.ensures.stands (history_of s) s.store.layout stands.engine;
      fits = c.forget.ensures.fits (history_of s) s.store.layout stands.fits;
      held = λ openable. (c.forget.ensures.represents (history_of s) s.store.layout (represents bytes seen core os s stands openable)).held;
    })

pub returns-in-None-clause-removes : goal.returns-in-None-clause-removes
returns-in-None-clause-removes g c s stands none no_pass removes =
    let bytes = g.D.Held.HeldFile.bytes in
    let seen = g.D.Watched.told c.args.self.now.engine.disk in
    let core = c.args.self.now.engine.core in
    let os = c.args.self.now.opens.items in
    let left = c.take_out.new.opens.items in
    let taken = taken_as bytes seen core os left s stands c.as_slice.result.now c.args.name c.as_slice.ensures _ c.in-None.ensures in
    subst (Removes core c.args.self.now.engine.removing)
    (sym (ap (λ (o : Option Thing). (drop_by s.store c.args.name o).state.layout)
    (bare_of bytes (history_of s) s.store.layout (open_in os c.args.name) (thing_of s.store c.args.name) taken.found
    (stands.names.each c.args.name) none no_pass))) removes

pub returns-in-Some-View-clause-removes : goal.returns-in-Some-View-clause-removes
returns-in-Some-View-clause-removes g c s stands none no_pass removes =
    let bytes = g.D.Held.HeldFile.bytes in
    let seen = g.D.Watched.told c.args.self.now.engine.disk in
    let core = c.args.self.now.engine.core in
    let os = c.args.self.now.opens.items in
    let left = c.take_out.new.opens.items in
    let taken = taken_out bytes seen core os left s stands c.as_slice.result.now c.args.name c.as_slice.ensures _ _
    c.in-Some-View.field-0-is c.in-Some-View.ensures in
    let (b, there, sees, live, near, began) = its bytes seen core os s stands left c.args.name c.in-Some-View.view taken in
    subst (Removes c.release.new.self.core c.release.new.self.removing)
    (sym (ap (λ (o : Option Thing). (drop_by s.store c.args.name o).state.layout) there))
    (c.release.ensures.removes s.store.layout removes)

pub returns-clause-removes : goal.returns-clause-removes
returns-clause-removes g c s stands none no_pass removes =
    let bytes = g.D.Held.HeldFile.bytes in
    let seen = g.D.Watched.told c.args.self.now.engine.disk in
    let core = c.args.self.now.engine.core in
    let os = c.args.self.now.opens.items in
    let left = c.take_out.new.opens.items in
    let taken = taken_out bytes seen core os left s stands c.as_slice.result.now c.args.name c.as_slice.ensures _ _
    c.in-Some-Transaction.field-0-is c.in-Some-Transaction.ensures in
    let (t, b, there, is, began) = itself bytes seen core os s stands left c.args.name c.in-Some-Transaction.txn taken in
    subst (Removes c.forget.new.self.core c.forget.new.self.removing)
    (sym (ap (λ (o : Option Thing). (drop_by s.store c.args.name o).state.layout) there))
    (subst (λ (u : ATxn). Removes c.forget.new.self.core c.forget.new.self.removing (ended u.ticket s.store.layout)) is.same
    (c.forget.ensures.removes s.store.layout removes))

-- ---- what reads then never fails

pub returns-in-None-clause-sure : goal.returns-in-None-clause-sure
returns-in-None-clause-sure g c s stands none =
    let bytes = g.D.Held.HeldFile.bytes in
    let seen = g.D.Watched.told c.args.self.now.engine.disk in
    let core = c.args.self.now.engine.core in
    let os = c.args.self.now.opens.items in
    let left = c.take_out.new.opens.items in
    let taken = taken_as bytes seen core os left s stands c.as_slice.result.now c.args.name c.as_slice.ensures _ c.in-None.ensures in
    taken_reads _ os left c.args.name None taken none

pub returns-in-Some-View-clause-sure : goal.returns-in-Some-View-clause-sure
returns-in-Some-View-clause-sure g c s stands none =
    let bytes = g.D.Held.HeldFile.bytes in
    let seen = g.D.Watched.told c.args.self.now.engine.disk in
    let core = c.args.self.now.engine.core in
    let os = c.args.self.now.opens.items in
    let left = c.take_out.new.opens.items in
    let taken = taken_out bytes seen core os left s stands c.as_slice.result.now c.args.name c.as_slice.ensures _ _
    c.in-Some-View.field-0-is c.in-Some-View.ensures in
    taken_reads _ os left c.args.name _ taken none

pub returns-clause-sure : goal.returns-clause-sure
returns-clause-sure g c s stands none =
    let bytes = g.D.Held.HeldFile.bytes in
    let seen = g.D.Watched.told c.args.self.now.engine.disk in
    let core = c.args.self.now.engine.core in
    let os = c.args.self.now.opens.items in
    let left = c.take_out.new.opens.items in
    let taken = taken_out bytes seen core os left s stands c.as_slice.result.now c.args.name c.as_slice.ensures _ _
    c.in-Some-Transaction.field-0-is c.in-Some-Transaction.ensures in
    taken_reads _ os left c.args.name _ taken none
