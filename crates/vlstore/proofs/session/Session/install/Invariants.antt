use Rattle.std.specs.Prelude.{ℕ, None}
use Rattle.std.specs.Option.{option_map}
use Rattle.vl_compact.specs.Progress.{made_of}
use Rattle.vl_steps.specs.Merging.{install_outcome}
use Rattle.vl_engine_model.specs.LockHistory.{open_job}
use Rattle.vl_engine_model.specs.declared.job.Job.{Job}
use Rattle.vlstore.specs.Entries.{install_entry}
use Rattle.vlstore.proofs.Planning.{job_or}
use Rattle.vlstore.specs.Knowing.{session_in}
use Rattle.vlstore.specs.Lists.{history_by, layout_by}
use Rattle.vl_turn.specs.Locks.{lock_start}
use Rattle.vlstore.proofs.session.Session.install.Given as goal

abbrev pub ghosts-finish : goal.ghosts-finish
ghosts-finish g a =
    let o = (lock_start a.lock.now).origin.me.0 in
    let v = a.turn.token.now.me.0 in
    let l = layout_by o v.seen in
    let h = history_by o v.seen in
    let planned = job_or (option_map (λ (x : ℕ × Job). x.1) (open_job None v.seen)) in
    record {
      entry = install_entry planned (made_of a.asked.now.value planned) (session_in v.owns) l h
          (install_outcome a.answer.now);
    }
