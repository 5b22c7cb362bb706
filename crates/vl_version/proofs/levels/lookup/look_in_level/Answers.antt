use Rattle.std.specs.Option.{option_map}
use Rattle.std.proofs.Common.{◌<◌, arith, length, refl}
use Rattle.vl_table.specs.body.Founds.{found_of}
use Rattle.vl_version.proofs.looking.LookSteps.{level_asks, level_past}
use Rattle.vl_version.proofs.looking.ReadsOfSome.{read_at}
use Rattle.vl_version.proofs.looking.Through.{laid-parted, level_reached, reaches}
use Rattle.vl_version.proofs.levels.lookup.look_in_level.Goals as goal

pub returns-then-at-tables-clause-answers : goal.returns-then-at-tables-clause-answers
returns-then-at-tables-clause-answers g c = λ files reads.
    level_past g.H.HeldFile.bytes c.args.look c.args.key.now c.args.tables.now
    (option_map (found_of c.args.key.now) c.args.best) c.args.best _
    c.ending_before-at.result refl c.ending_before-at.ensures.first (let all = c.if-at-tables.true in omega arith)

pub returns-then-at-tables-clause-looks : goal.returns-then-at-tables-clause-looks
returns-then-at-tables-clause-looks g c = λ files reads apart ranged.
    let tables = c.args.tables.now in
    let first = c.ending_before-at.ensures.first (laid-parted g.H.HeldFile.bytes c.args.look c.args.key.now tables apart ranged) in
    let reached = level_reached g.H.HeldFile.bytes c.args.look c.args.key.now tables
    (option_map (found_of c.args.key.now) c.args.best) apart ranged in
    reached.past (let all = c.if-at-tables.true in omega (arith, first))

pub returns-clause-kept : goal.returns-clause-kept
returns-clause-kept g c = λ files reads.
    let within : c.ending_before-at.result < length c.args.tables.now = let some = c.if-at-tables.false in omega
    (arith, c.ending_before-at.ensures.within) in
    c.look_in.ensures.kept files
    (read_at g.H.HeldFile.bytes files c.args.reader.now c.args.tables.now c.ending_before-at.result
    c.index-tables-at.result within c.index-tables-at.is reads)

pub returns-clause-answers : goal.returns-clause-answers
returns-clause-answers g c = λ files reads.
    let t = c.index-tables-at.result in
    let within : c.ending_before-at.result < length c.args.tables.now = let some = c.if-at-tables.false in omega
    (arith, c.ending_before-at.ensures.within) in
    level_asks g.H.HeldFile.bytes c.args.look c.args.key.now c.args.tables.now t (Unit {0})
    (option_map (found_of c.args.key.now) c.args.best) _ _
    c.ending_before-at.result c.look_in.result c.ending_before-at.ensures.first within c.index-tables-at.is (λ apart. tt)
    (c.look_in.ensures.answers files
    (read_at g.H.HeldFile.bytes files c.args.reader.now c.args.tables.now c.ending_before-at.result t within c.index-tables-at.is reads))

pub returns-clause-looks : goal.returns-clause-looks
returns-clause-looks g c = λ files reads apart ranged.
    let t = c.index-tables-at.result in
    let tables = c.args.tables.now in
    let within : c.ending_before-at.result < length tables = let some = c.if-at-tables.false in omega
    (arith, c.ending_before-at.ensures.within) in
    let first = c.ending_before-at.ensures.first (laid-parted g.H.HeldFile.bytes c.args.look c.args.key.now tables apart ranged) in
    reaches g.H.HeldFile.bytes c.args.look c.args.key.now tables t (option_map (found_of c.args.key.now) c.args.best)
    c.ending_before-at.result c.look_in.result
    first within c.index-tables-at.is apart ranged
    (c.look_in.ensures.looks files
    (read_at g.H.HeldFile.bytes files c.args.reader.now tables c.ending_before-at.result t within c.index-tables-at.is reads))
