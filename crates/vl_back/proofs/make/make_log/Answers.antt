use Rattle.vl_back.proofs.Files.{making_keeps, run_keeps}
use Rattle.vl_back.proofs.Named.{failed_named, made_named, stops_named}
use Rattle.vl_back.proofs.Untold.{changed_untold, part_untold}
use Rattle.vl_back.proofs.make.make_log.Goals as goal
use Rattle.vl_disk.specs.MadeFile.{WhileMaking, made}
use Rattle.vl_disk.specs.declared.name.Name.TheVariants as names
use Rattle.vl_model.specs.Formats.{log_format}
use Rattle.vl_seglog.specs.Frames.{log_header}

pub returns-in-Ok-clause-makes : goal.returns-in-Ok-clause-makes
returns-in-Ok-clause-makes g c =
    made_named g.D.Watched (names.Log c.args.number) _ (log_header log_format c.args.number) c.args.disk.now c.make_file.new.disk
    c.log_header.ensures _ c.in-Ok.ensures

pub returns-in-Ok-clause-files : goal.returns-in-Ok-clause-files
returns-in-Ok-clause-files g c =
    let name = names.Log c.args.number in
    let header = log_header log_format c.args.number in
    run_keeps g.D.Watched g.met.D.Disk.counts_now g.met.D.Disk.only_now name (made name header) (WhileMaking name header) 3
    c.args.disk.now c.make_file.new.disk _ (making_keeps name header)
    (made_named g.D.Watched name _ header c.args.disk.now c.make_file.new.disk c.log_header.ensures _ c.in-Ok.ensures)

pub returns-in-Err-clause-makes : goal.returns-in-Err-clause-makes
returns-in-Err-clause-makes g c =
    stops_named g.D.Watched (names.Log c.args.number) _ (log_header log_format c.args.number) c.args.disk.now c.make_file.new.disk
    c.log_header.ensures _ _ c.in-Err.ensures

pub returns-in-Err-clause-at : goal.returns-in-Err-clause-at
returns-in-Err-clause-at g c =
    failed_named g.D.Watched (names.Log c.args.number) _ (log_header log_format c.args.number) c.args.disk.now c.make_file.new.disk
    c.log_header.ensures _ c.in-Err.ensures

pub returns-in-Err-clause-files : goal.returns-in-Err-clause-files
returns-in-Err-clause-files g c =
    let name = names.Log c.args.number in
    let header = log_header log_format c.args.number in
    run_keeps g.D.Watched g.met.D.Disk.counts_now g.met.D.Disk.only_now name (made name header) (WhileMaking name header) 3
    c.args.disk.now c.make_file.new.disk _ (making_keeps name header)
    (stops_named g.D.Watched name _ header c.args.disk.now c.make_file.new.disk c.log_header.ensures _ name c.in-Err.ensures)

pub returns-in-Ok-clause-untold : goal.returns-in-Ok-clause-untold
returns-in-Ok-clause-untold g c = λ none.
    changed_untold (made (names.Log c.args.number) c.log_header.result) (g.D.Watched.told c.args.disk.now)
    (g.D.Watched.told c.make_file.new.disk) c.in-Ok.ensures.made none

pub returns-in-Err-clause-untold : goal.returns-in-Err-clause-untold
returns-in-Err-clause-untold g c = part_untold (names.Log c.args.number) c.log_header.result
    (g.D.Watched.told c.args.disk.now) (g.D.Watched.told c.make_file.new.disk) c.in-Err.ensures.failed
