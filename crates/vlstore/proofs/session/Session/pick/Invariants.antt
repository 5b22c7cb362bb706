use Rattle.vl_engine_model.specs.Rulings.Pick.{pick_ruling}
use Rattle.vlstore.specs.Entries.{entry_of}
use Rattle.vlstore.specs.Knowing.{session_in}
use Rattle.vlstore.specs.Lists.{history_by, layout_by}
use Rattle.vlstore.proofs.Picking.{pick_did}
use Rattle.vl_turn.specs.Locks.{lock_start}
use Rattle.vlstore.proofs.session.Session.pick.Given as goal

abbrev pub ghosts-finish : goal.ghosts-finish
ghosts-finish g a =
    let o = (lock_start a.lock.now).origin.me.0 in
    let v = a.turn.token.now.me.0 in
    let next = (pick_ruling (layout_by o v.seen) (history_by o v.seen) a.asked.now).layout in
    record { entry = entry_of (session_in v.owns) (pick_did next a.answer.now) }
