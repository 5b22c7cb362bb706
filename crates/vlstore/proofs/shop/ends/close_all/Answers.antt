use Rattle.std.proofs.Common.{length, map, refl, ap, sym, ◌∙◌, subst}
use Rattle.std.specs.Option.{ForSome}
use Rattle.vl_drive.specs.Driven.{IsClosed}
use Rattle.vl_drive.specs.Stores as drive
use Rattle.vlstore.specs.Lists.{history_by, layout_by}
use Rattle.vlstore.specs.Reopening.{Keeps}
use Rattle.vlstore.specs.Shops.{known_by, opened_by, origin_of, session_of}
use Rattle.vlstore.specs.Standing.{NeverFails, parts}
use Rattle.vlstore.specs.Stores.{AreAt}
use Rattle.vlstore.proofs.ShopKept.{engine_keeps}
use Rattle.vlstore.proofs.ShopStores.{at_so, begun_number, closed_so, map_long, map_same}
use Rattle.vlstore.proofs.shop.ends.close_all.Goals as goal

pub close-engine-requires-clause-sessions : goal.close-engine-requires-clause-sessions
close-engine-requires-clause-sessions g c =
    let store = c.args.store in
    let shops = c.args.shops.items in
    subst (AreAt store.store) (sym c.in_ok-sessions.ensures)
    (at_so store 0 (map session_of shops) (subst (drive.AreOf (opened_by store) 0) (map_same shops) c.requires.of))

pub returns-in-Ok : goal.returns-in-Ok
returns-in-Ok g c =
    let store = c.args.store in
    let shops = c.args.shops.items in
    let sessions = c.in_ok-sessions.sessions.items in
    let engine = c.close-engine.result in
    let closed = c.close-engine.ensures in
    let list = closed.list in
    let known = map_same shops ∙ ap (map known_by) (sym c.in_ok-sessions.ensures) in
    let many = ap (λ vs. length vs) c.in_ok-sessions.ensures ∙ (map_long session_of shops ∙ c.requires.all) in
    let is_closed = closed_so g.D.Held.HeldFile.bytes (NeverFails g.D.Watched.faults g.D.Reader.Reader.faults g.D.Writer.Writer.faults) store
    sessions (parts (g.D.Watched.told engine.disk) engine.core engine.merging engine.collecting engine.removing) c.requires.tells many
    (subst (drive.AreOf (opened_by store) 0) known c.requires.of) closed in
    let h = history_by store.origin list in
    let l = layout_by store.origin list in
    let behind = closed.stands.behind c.requires.tells in
    let stands = behind.whole.represents.stands in
    let kept = engine_keeps g.D.Held.HeldFile.bytes engine.core (g.D.Watched.told engine.disk) h l behind.whole.represents
    (behind.runs g.met.D.Unfailing.unfailing c.requires.runs) in (
      list,
      subst (λ ks. IsClosed (origin_of store.origin) ks list) (sym known) is_closed,
      c.in-Ok.ensures.sees h l stands,
      begun_number l h c.in-Ok.view.ticket c.in-Ok.view.number ((c.in-Ok.ensures.decides h l stands.fronts).answered _ refl).0,
      subst (λ (disk : _). ForSome (g.D.Watched.told disk) (Keeps h)) (sym c.view.ensures.disk) kept,
    )
