use Rattle.std.proofs.Common.{List, subst}
use Rattle.std.specs.Prelude.{is_some}
use Rattle.vl_engine_model.specs.declared.lock_history.LockEntry.{LockEntry}
use Rattle.vlstore.specs.Knowing.{Knows}
use Rattle.vlstore.specs.Standing.{NeverFails, Stands, parts}
use Rattle.vlstore.specs.Stores.{Left}
use Rattle.vlstore.proofs.Sessions.{over}
use Rattle.vlstore.proofs.Stores.{numbered_by}
use Rattle.vl_turn.specs.Locks.{lock_start}
use Rattle.vl_turn.specs.Views.{next_of}
use Rattle.vlstore.proofs.store.Store.into_engine.Goals as goal

pub returns-in-Ok-clause-engine : goal.returns-in-Ok-clause-engine
returns-in-Ok-clause-engine g c =
    let bytes = g.D.Held.HeldFile.bytes in
    let sure = NeverFails g.D.Watched.faults g.D.Reader.Reader.faults g.D.Writer.Writer.faults in
    let ends = c.close-engine.ensures in
    let list : List LockEntry = ends.list in
    let root = c.self.inside.root.me.0 in
    let engine = c.close-engine.result.engine in
    let x = parts (g.D.Watched.told engine.disk) engine.core engine.merging engine.collecting engine.removing in
    subst (λ (u : Knows). Left bytes sure u x) c.self.view_is
    (record {
      list = list;
      stands = over c.in-Ok.ensures.ok
          (λ (k : _). Stands bytes sure (lock_start k).origin.me.0 (is_some (g.D.Watched.told (lock_start k).engine.disk)) list x)
          ends.meaning.1;
      seen = ends.later;
      numbers = numbered_by (next_of root.made) list root c.self.invariant.made ends.whole;
    })
