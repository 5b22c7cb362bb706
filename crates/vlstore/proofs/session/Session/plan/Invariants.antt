use Rattle.vl_engine_model.specs.Rulings.Plan.{plan_ruling}
use Rattle.vlstore.specs.Entries.{entry_of}
use Rattle.vlstore.proofs.Planning.{plan_did}
use Rattle.vlstore.specs.Knowing.{session_in}
use Rattle.vlstore.specs.Lists.{history_by, layout_by}
use Rattle.vl_turn.specs.Locks.{lock_start}
use Rattle.vlstore.proofs.session.Session.plan.Given as goal

abbrev pub ghosts-finish : goal.ghosts-finish
ghosts-finish g a =
    let o = (lock_start a.lock.now).origin.me.0 in
    let v = a.turn.token.now.me.0 in
    let l = layout_by o v.seen in
    let h = history_by o v.seen in
    record { entry = entry_of (session_in v.owns) (plan_did l (plan_ruling l h).answer a.answer.now) }
