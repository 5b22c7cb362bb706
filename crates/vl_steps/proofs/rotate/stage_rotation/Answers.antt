use Rattle.std.proofs.Common.{sym, ◌∙◌}
use Rattle.vl_steps.specs.laws.Begins.{still, then_call}
use Rattle.vl_steps.proofs.HeldRoom.{still_ready}
use Rattle.vl_steps.proofs.rotate.stage_rotation.Goals as goal

-- the active log is held with the bytes that it had before there was room
pub returns-in-Ok-rotated-clause-version : goal.returns-in-Ok-rotated-clause-version
returns-in-Ok-rotated-clause-version g c = record {
  log = c.in-Ok-seal.sealed;
  is = c.in-Ok-rotated.ensures;
  number = c.in-Ok-seal.ensures.number;
  format = c.in-Ok-seal.ensures.format;
  held = still (g.D.Watched.told c.ready-2.new.self) (g.D.Watched.told c.args.disk.now)
      (sym (c.in-Ok-ready.ensures.no_change.told ∙ c.in-Ok.ensures.no_change.told)) c.in-Ok-seal.ensures.held;
}

pub returns-in-Ok-rotated-clause-no_change : goal.returns-in-Ok-rotated-clause-no_change
returns-in-Ok-rotated-clause-no_change g c =
    then_call g.D.Watched c.args.disk.now c.ready.new.self c.seal.new.disk _ _ (λ e. cc) (λ e. cc) c.in-Ok.ensures.no_change
    (then_call g.D.Watched c.ready.new.self c.ready-2.new.self c.seal.new.disk _ _ (λ e. e) (λ e. e)
    c.in-Ok-ready.ensures.no_change c.in-Ok-seal.ensures.no_change)

pub returns-in-Ok-rotated-clause-ready : goal.returns-in-Ok-rotated-clause-ready
returns-in-Ok-rotated-clause-ready g c =
    let core = c.args.core.now in
    still_ready core.front.log.number core.back.next_log 16 (g.D.Watched.spare c.ready-2.new.self)
    (g.D.Watched.spare c.seal.new.disk) c.in-Ok-seal.ensures.spare c.in-Ok-ready.ensures.ready
