use Rattle.std.proofs.Common.{sym, ◌∙◌}
use Rattle.vl_replay_laws.specs.laws.Merges.Waiting.{takes}
use Rattle.vl_replay.proofs.replayer.merge.take_planned.Goals as goal

pub returns-in-Some : goal.returns-in-Some
returns-in-Some g c =
    takes c.args.name.now c.args.planned.now c.take.new.self c.in-Some.field-0 (sym c.take.ensures.value ∙ c.in-Some.is)
    (sym c.is_planned.ensures ∙ c.if-not-is_planned.false) c.take.ensures.after
