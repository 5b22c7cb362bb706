use Rattle.std.proofs.Common.{Some, ap, ◌∙◌}
use Rattle.std.specs.Option.{option_map}
use Rattle.vl_back.proofs.Holding.{made_bytes, makes_held, makes_unheld, stops_making}
use Rattle.vl_back.proofs.Untold.{changed_untold, part_untold}
use Rattle.vl_back.proofs.make.make_table.Goals as goal
use Rattle.vl_disk.specs.MadeFile.{made}
use Rattle.vl_disk.specs.declared.name.Name.TheVariants as names

pub returns-in_err-make_file-clause-makes : goal.returns-in_err-make_file-clause-makes
returns-in_err-make_file-clause-makes g c =
    stops_making g.D.Watched (names.Table c.args.number) c.args.bytes.now c.args.disk.now c.make_file.new.disk c.make_file.new.disk
    _ c.from_residual.result c.from_residual.ensures.0 c.in_err-make_file.ensures

pub returns-in-Ok-clause-makes : goal.returns-in-Ok-clause-makes
returns-in-Ok-clause-makes g c =
    makes_held g.D.Watched (names.Table c.args.number) c.args.bytes.now c.args.disk.now c.make_file.new.disk c.hold.new.self
    _ c.in-Ok.held c.in_ok-make_file.ensures c.in-Ok.ensures.no_change

pub returns-in-Ok-clause-held : goal.returns-in-Ok-clause-held
returns-in-Ok-clause-held g c = λ disk told.
    let name = names.Table c.args.number in
    c.in-Ok.ensures.held (made name c.args.bytes.now disk)
    (c.in_ok-make_file.ensures.made ∙ ap (option_map (made name c.args.bytes.now)) told)
    ∙ ap Some (made_bytes name c.args.bytes.now disk)

pub returns-in-Err-clause-makes : goal.returns-in-Err-clause-makes
returns-in-Err-clause-makes g c =
    makes_unheld g.D.Watched (names.Table c.args.number) c.args.bytes.now c.args.disk.now c.make_file.new.disk c.hold.new.self
    _ c.in-Err.field-0 _ c.in_ok-make_file.ensures c.in-Err.ensures.no_change
    (c.in-Err.ensures.memory (c.in_ok-make_file.ensures.hold ∙ c.requires.hold))

pub returns-in_err-make_file-clause-untold : goal.returns-in_err-make_file-clause-untold
returns-in_err-make_file-clause-untold g c = part_untold (names.Table c.args.number) c.args.bytes.now
    (g.D.Watched.told c.args.disk.now) (g.D.Watched.told c.make_file.new.disk) c.in_err-make_file.ensures.failed

pub returns-in-Ok-clause-untold : goal.returns-in-Ok-clause-untold
returns-in-Ok-clause-untold g c = λ none. c.in-Ok.ensures.no_change.told
    ∙ changed_untold (made (names.Table c.args.number) c.args.bytes.now) (g.D.Watched.told c.args.disk.now)
    (g.D.Watched.told c.make_file.new.disk) c.in_ok-make_file.ensures.made none

pub returns-in-Err-clause-untold : goal.returns-in-Err-clause-untold
returns-in-Err-clause-untold g c = λ none. c.in-Err.ensures.no_change.told
    ∙ changed_untold (made (names.Table c.args.number) c.args.bytes.now) (g.D.Watched.told c.args.disk.now)
    (g.D.Watched.told c.make_file.new.disk) c.in_ok-make_file.ensures.made none
