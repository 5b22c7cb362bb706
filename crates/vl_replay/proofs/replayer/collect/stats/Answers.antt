-- Statistics are told as the engine has them.
use Rattle.std.proofs.Common.{◌∙◌, List, ap, refl}
use Rattle.std.specs.Prelude.{map}
use Rattle.vl_engine_model.specs.Rulings.Stats.{stats_ruling}
use Rattle.vl_engine_model.specs.Store.Dispatch.{step_of}
use Rattle.vl_engine_model.specs.Store.Lines as store_lines
use Rattle.vl_script_model.specs.Sequential.{history_of, stat_of_line}
use Rattle.vl_script.specs.declared.answer.Answer.TheVariants as answers
use Rattle.vl_script.specs.declared.answer.SegmentLine.{SegmentLine}
use Rattle.vl_replay_laws.specs.laws.Names.Making.{only_makes}
use Rattle.vl_replay_laws.specs.laws.Passes.Telling.{told_back}
use Rattle.vl_replay.proofs.replayer.collect.stats.Goals as goal

pub returns-clause-makes : goal.returns-clause-makes
returns-clause-makes g c s passing stands =
    let bytes = g.D.Held.HeldFile.bytes in
    let core = c.args.served.now.engine.core in
    let os = c.args.served.now.opens.items in
    let h = history_of s in
    let l = s.store.layout in
    only_makes bytes (g.D.Watched.told c.args.served.now.engine.disk) core os s stands.serves os (step_of s.store store_lines.Stats)
    (answers.Segments c.in_ok-segments.segments) (store_lines.Segments (stats_ruling l h).answer) refl
    (ap store_lines.Segments (ap (λ (xs : List SegmentLine). map stat_of_line xs) c.in_ok-segments.ensures ∙ told_back c.deref.result.now
    ∙ c.deref.ensures.value ∙ c.in_ok-stats.ensures h l stands.serves.engine stands.passes.collects)) stands.serves.names
