use Rattle.std.proofs.Common.{◌+◌, ap, drop, get_or}
use Rattle.vl_back.proofs.SwitchEdits.{drop_end, drop_item, first_added, none_left, table_added}
use Rattle.vl_manifest.specs.States.{level_adds}
use Rattle.vl_back.proofs.install.add_adds.Goals as goal

pub loop-at-init : goal.loop-at-init
loop-at-init c = first_added c.args.edits.now.items c.args.level c.args.position c.args.tables.now

pub loop-at-preserved : goal.loop-at-preserved
loop-at-preserved c =
    let i = c.loop-at.at in
    let tables = c.args.tables.now in
    table_added c.args.edits.now.items c.loop-at.edits.items c.push.new.self.items c.args.level c.args.position i tables
    (drop i tables) (drop (i + 1) tables) (get_or tables i 0)
    (drop_item tables i c.loop-at-test.true) c.in_ok-push.ensures.items c.loop-at.invariant

pub returns : goal.returns
returns c =
    none_left c.args.edits.now.items c.loop-at.edits.items _ _
    (ap (level_adds c.args.level (c.args.position + c.loop-at.at)) (drop_end c.args.tables.now c.loop-at.at c.loop-at-test.false))
    c.loop-at.invariant
