use Rattle.std.proofs.Common.{◌<◌, arith, length}
use Rattle.vl_version.proofs.marking.TellLaws.{level_asked, level_past}
use Rattle.vl_version.proofs.levels.mark.mark_in_level.Goals as goal

pub returns-then-at-tables : goal.returns-then-at-tables
returns-then-at-tables g c =
    level_past g.H.HeldFile.bytes g.R.Reader.faults c.args.asked c.args.tables.now c.args.reader.now c.ending_before-at.result
    c.ending_before-at.ensures.first (let all = c.if-at-tables.true in omega arith)

pub returns : goal.returns
returns g c =
    let within : c.ending_before-at.result < length c.args.tables.now = let some = c.if-at-tables.false in omega
    (arith, c.ending_before-at.ensures.within) in
    level_asked g.H.HeldFile.bytes g.R.Reader.faults c.args.asked c.args.tables.now c.index-tables-at.result
    c.args.reader.now c.mark_of.new.reader
    c.ending_before-at.result c.mark_of.result c.ending_before-at.ensures.first within c.index-tables-at.is c.mark_of.ensures
