use Rattle.std.proofs.Common.{refl}
use Rattle.vl_disk.specs.MadeFile.{WhileMaking, made}
use Rattle.vl_disk.specs.declared.name.Name.TheVariants as names
use Rattle.vl_back.specs.Writing.{WhileWriting, written}
use Rattle.vl_back.proofs.Files.{making_keeps, run_keeps, writing_keeps}
use Rattle.vl_back.proofs.Switching.{all_written, failed_at_switch, failed_at_table, still_stands, stops_at_switch, stops_at_table}
use Rattle.vl_back.proofs.Untold.{changed_untold}
use Rattle.vl_back.proofs.switch.write_and_switch.Goals as goal
use Rattle.vl_disk.specs.DiskState.{appended}
use Rattle.vl_manifest.specs.Switching.{switched}

pub returns-in_default-clause-writes : goal.returns-in_default-clause-writes
returns-in_default-clause-writes g c =
    stops_at_table g.D.Watched c.args.table c.args.bytes.now c.args.manifest.now.number c.args.edits.now.frame.items
    c.args.disk.now c.make_table.new.disk _ c.in_default.ensures.makes _ refl

pub returns-in_default-clause-at : goal.returns-in_default-clause-at
returns-in_default-clause-at g c =
    failed_at_table g.D.Watched c.args.table c.args.bytes.now c.args.manifest.now.number c.args.edits.now.frame.items
    c.args.disk.now c.make_table.new.disk _ c.in_default.ensures.makes

pub returns-in_default-clause-files : goal.returns-in_default-clause-files
returns-in_default-clause-files g c =
    let name = names.Table c.args.table in
    run_keeps g.D.Watched g.met.D.Disk.counts_now g.met.D.Disk.only_now name
    (made name c.args.bytes.now) (WhileMaking name c.args.bytes.now) 3
    c.args.disk.now c.make_table.new.disk _ (making_keeps name c.args.bytes.now) c.in_default.ensures.makes

pub switch-requires-clause-stands : goal.switch-requires-clause-stands
switch-requires-clause-stands g c =
    still_stands c.args.table c.args.manifest.now.number c.args.bytes.now (g.D.Watched.told c.args.disk.now)
    (g.D.Watched.told c.make_table.new.disk)
    c.in-Ok.ensures.makes.done c.requires.stands

pub returns-in-Ok-switch-clause-writes : goal.returns-in-Ok-switch-clause-writes
returns-in-Ok-switch-clause-writes g c =
    all_written g.D.Watched c.args.table c.args.bytes.now c.args.manifest.now.number c.args.edits.now.frame.items
    c.args.disk.now c.make_table.new.disk c.switch.new.disk c.in-Ok.held c.in-Ok.ensures.makes _ c.in-Ok-switch.ensures.switched

pub returns-in-Ok-switch-clause-files : goal.returns-in-Ok-switch-clause-files
returns-in-Ok-switch-clause-files g c =
    let frame = c.args.edits.now.frame.items in
    let manifest = c.args.manifest.now.number in
    run_keeps g.D.Watched g.met.D.Disk.counts_now g.met.D.Disk.only_now (names.Table c.args.table)
    (written c.args.table c.args.bytes.now manifest frame) (WhileWriting c.args.table c.args.bytes.now manifest frame) 5
    c.args.disk.now c.switch.new.disk _ (writing_keeps c.args.table c.args.bytes.now manifest frame)
    (all_written g.D.Watched c.args.table c.args.bytes.now manifest frame
    c.args.disk.now c.make_table.new.disk c.switch.new.disk c.in-Ok.held c.in-Ok.ensures.makes _ c.in-Ok-switch.ensures.switched)

pub returns-in-Err-clause-writes : goal.returns-in-Err-clause-writes
returns-in-Err-clause-writes g c =
    stops_at_switch g.D.Watched c.args.table c.args.bytes.now c.args.manifest.now.number c.args.edits.now.frame.items
    c.args.disk.now c.make_table.new.disk c.switch.new.disk c.in-Ok.held c.in-Ok.ensures.makes _ _ c.in-Err.ensures.switched

pub returns-in-Err-clause-at : goal.returns-in-Err-clause-at
returns-in-Err-clause-at g c =
    failed_at_switch g.D.Watched c.args.table c.args.bytes.now c.args.manifest.now.number c.args.edits.now.frame.items
    c.args.disk.now c.make_table.new.disk c.switch.new.disk c.in-Ok.held c.in-Ok.ensures.makes _ c.in-Err.ensures.switched

pub returns-in-Err-clause-files : goal.returns-in-Err-clause-files
returns-in-Err-clause-files g c =
    let frame = c.args.edits.now.frame.items in
    let manifest = c.args.manifest.now.number in
    run_keeps g.D.Watched g.met.D.Disk.counts_now g.met.D.Disk.only_now (names.Table c.args.table)
    (written c.args.table c.args.bytes.now manifest frame) (WhileWriting c.args.table c.args.bytes.now manifest frame) 5
    c.args.disk.now c.switch.new.disk _ (writing_keeps c.args.table c.args.bytes.now manifest frame)
    (stops_at_switch g.D.Watched c.args.table c.args.bytes.now manifest frame
    c.args.disk.now c.make_table.new.disk c.switch.new.disk c.in-Ok.held c.in-Ok.ensures.makes _
    (names.Manifest manifest) c.in-Err.ensures.switched)

pub returns-in-Ok-switch-clause-untold : goal.returns-in-Ok-switch-clause-untold
returns-in-Ok-switch-clause-untold g c = λ none.
    changed_untold (switched c.args.manifest.now.number c.args.edits.now.frame.items) (g.D.Watched.told c.make_table.new.disk)
    (g.D.Watched.told c.switch.new.disk) c.in-Ok-switch.ensures.switched.performs.done (c.in-Ok.ensures.untold none)

pub returns-in-Err-clause-untold : goal.returns-in-Err-clause-untold
returns-in-Err-clause-untold g c = λ none.
    let (taken, within, changed) = c.in-Err.ensures.switched.failed in
    changed_untold (appended (names.Manifest c.args.manifest.now.number) c.args.edits.now.frame.items taken)
    (g.D.Watched.told c.make_table.new.disk) (g.D.Watched.told c.switch.new.disk) changed (c.in-Ok.ensures.untold none)
