use Rattle.vl_steps.specs.Answers.{begin_outcome}
use Rattle.vlstore.specs.Entries.{begin_entry}
use Rattle.vlstore.specs.Knowing.{session_in}
use Rattle.vlstore.specs.Lists.{history_by, layout_by}
use Rattle.vl_turn.specs.Locks.{lock_start}
use Rattle.vlstore.proofs.session.Session.begin.Given as goal

abbrev pub ghosts-finish : goal.ghosts-finish
ghosts-finish g a =
    let o = (lock_start a.lock.now).origin.me.0 in
    let v = a.turn.token.now.me.0 in
    record { entry = begin_entry (session_in v.owns) (layout_by o v.seen) (history_by o v.seen) (begin_outcome a.answer.now) }
