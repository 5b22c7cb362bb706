use Rattle.vl_space.specs.Sweeping.{gone_before, sweep_outcome}
use Rattle.vlstore.specs.Entries.{sweep_entry}
use Rattle.vlstore.specs.Knowing.{session_in}
use Rattle.vlstore.specs.Lists.{history_by, layout_by}
use Rattle.vl_turn.specs.Locks.{lock_start}
use Rattle.vlstore.proofs.session.Session.sweep.Given as goal

abbrev pub ghosts-finish : goal.ghosts-finish
ghosts-finish g a =
    let o = (lock_start a.lock.now).origin.me.0 in
    let v = a.turn.token.now.me.0 in
    let l = layout_by o v.seen in
    let h = history_by o v.seen in
    record {
      entry = sweep_entry (gone_before a.asked.now.value.removing a.turn.value.engine.removing)
          (session_in v.owns) l h (sweep_outcome a.answer.now);
    }
