use Rattle.std.proofs.Common.{List, ap, ◌∙◌}
use Rattle.vl_seglog.specs.declared.sealed.SealedLog.{SealedLog}
use Rattle.vl_space.specs.Collecting.{idle_in}
use Rattle.vl_space.specs.laws.CollectLaws.{keeps_readied, on_err}
use Rattle.vl_engine.proofs.engine.flush.live_behind.Goals as goal

pub returns-in_err-idle-clause-refused : goal.returns-in_err-idle-clause-refused
returns-in_err-idle-clause-refused g c =
    on_err _ _
    (keeps_readied g.H.HeldFile.bytes c.args.core.now c.args.collecting.now c.live_with.new.self c.in_ok-live.ensures.readied)

pub returns-clause-idle : goal.returns-clause-idle
returns-clause-idle g c = c.in_ok-idle.ensures ∙ ap (λ (ls : List (SealedLog g.row.H.Denot)). idle_in c.in_ok-live.live ls) c.logs.ensures
