use Rattle.std.proofs.Common.{◌∙◌}
use Rattle.vl_engine_laws.specs.laws.Merged.{merged_runs}
use Rattle.vl_steps.proofs.flush.entries_of.Goals as goal

pub returns : goal.returns
returns c = c.in_ok-entries.ensures.left
    ∙ merged_runs c.args.memtable.now c.in_ok-runs.runs.items c.in_ok-runs.ensures c.has_few_runs.ensures
    c.merge_of_told_sources.ensures
