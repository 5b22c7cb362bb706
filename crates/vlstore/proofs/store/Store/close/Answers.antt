use Rattle.std.proofs.Common.{List, subst, ◌∙◌, ap, ◌++◌}
use Rattle.std.specs.Prelude.{is_some}
use Rattle.vl_engine_model.specs.declared.lock_history.LockEntry.{LockEntry}
use Rattle.vlstore.specs.Knowing.{Knows}
use Rattle.vlstore.specs.Standing.{NeverFails, Stands, parts}
use Rattle.vlstore.specs.Stores.{Closed, owns_of}
use Rattle.vlstore.proofs.Sessions.{over}
use Rattle.vlstore.proofs.Stores.{all_in, among_by, numbered_by}
use Rattle.vl_turn.specs.Entries.{AreAmong, AreApart}
use Rattle.vl_turn.specs.Locks.{lock_start}
use Rattle.vl_turn.specs.Views.{next_of}
use Rattle.vlstore.proofs.store.Store.close.Goals as goal

pub returns : goal.returns
returns g c =
    let bytes = g.D.Held.HeldFile.bytes in
    let sure = NeverFails g.D.Watched.faults g.D.Reader.Reader.faults g.D.Writer.Writer.faults in
    let ends = c.close-engine.ensures in
    let list : List LockEntry = ends.list in
    let v = c.meet_all.new.root.me.0 in
    let engine = c.close-engine.result.engine in
    let x = parts (g.D.Watched.told engine.disk) engine.core engine.merging engine.collecting engine.removing in
    let owns = c.meet_all.ensures.owns ∙ ap (λ os. os ++ owns_of c.args.sessions.items) c.self.invariant.owns in
    let made = c.meet_all.ensures.made ∙ c.self.invariant.made in
    let count = next_of c.self.inside.root.me.0.made in
    subst (λ (u : Knows). Closed bytes sure u u.session c.args.sessions.items x) c.self.view_is
    (record {
      list = list;
      stands = over c.in-Some.ensures
          (λ (k : _). Stands bytes sure (lock_start k).origin.me.0 (is_some (g.D.Watched.told (lock_start k).engine.disk)) list x)
          ends.meaning.1;
      all = all_in v.seen list v.owns c.args.sessions.items ends.later ends.whole.owns c.meet_all.ensures.met;
      numbers = numbered_by count list v made ends.whole;
      apart = subst AreApart owns ends.whole.apart;
      among = subst (AreAmong count) owns (among_by count list v made ends.whole);
    })
