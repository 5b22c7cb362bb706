use Rattle.std.proofs.Common.{◌+◌, ap, drop, get_or}
use Rattle.vl_back.proofs.SwitchEdits.{drop_end, drop_item, none_left, table_dropped}
use Rattle.vl_back.specs.InstallEdits.{drops_of}
use Rattle.vl_back.proofs.install.add_drops.Goals as goal

pub loop-at-preserved : goal.loop-at-preserved
loop-at-preserved c =
    let i = c.loop-at.at in
    let tables = c.args.tables.now in
    table_dropped c.args.edits.now.items c.loop-at.edits.items c.add_drop.new.edits.items c.args.inputs.now tables
    (drop i tables) (drop (i + 1) tables) (get_or tables i 0)
    (drop_item tables i c.loop-at-test.true) c.in_ok-add_drop.ensures c.loop-at.invariant

pub returns : goal.returns
returns c =
    none_left c.args.edits.now.items c.loop-at.edits.items _ _
    (ap (drops_of c.args.inputs.now) (drop_end c.args.tables.now c.loop-at.at c.loop-at-test.false)) c.loop-at.invariant
