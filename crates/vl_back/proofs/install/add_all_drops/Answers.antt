use Rattle.std.proofs.Common.{List, ℕ, ◌+◌, ◌++◌, ◌∙◌, ap, drop}
use Rattle.vl_back.proofs.SwitchEdits.{drop_end, drop_here, level_dropped, none_left}
use Rattle.vl_back.specs.InstallEdits.{drops_of}
use Rattle.vl_manifest.specs.Levels.{all_tables}
use Rattle.vl_back.proofs.install.add_all_drops.Goals as goal

pub loop-tables-preserved : goal.loop-tables-preserved
loop-tables-preserved c =
    let i = c.loop-tables.tables-index in
    let levels = c.args.levels.now in
    level_dropped c.args.edits.now.items c.loop-tables.edits.items c.add_drops.new.edits.items c.args.inputs.now levels
    (drop i levels) (drop (i + 1) levels) c.tables-item.result
    (drop_here levels i c.tables-item.result c.loop-tables-test.true c.tables-item.is)
    (c.in_ok-add_drops.ensures ∙ ap (λ (ts : List ℕ). c.loop-tables.edits.items ++ drops_of c.args.inputs.now ts) c.as_slice.ensures)
    c.loop-tables.invariant

pub returns : goal.returns
returns c =
    none_left c.args.edits.now.items c.loop-tables.edits.items _ _
    (ap (λ (ls : List (List ℕ)). drops_of c.args.inputs.now (all_tables ls))
    (drop_end c.args.levels.now c.loop-tables.tables-index c.loop-tables-test.false)) c.loop-tables.invariant
