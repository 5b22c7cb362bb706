use Rattle.std.proofs.Common.{sym, subst, List}
use Rattle.vl_table.specs.declared.table.Table.{Table}
use Rattle.vl_version.specs.Changes.{AreTablesSince}
use Rattle.vl_version.proofs.SharedLaws.{same_next}
use Rattle.vl_version.proofs.levels.since.levels_since.Goals as goal

pub loop-level-preserved : goal.loop-level-preserved
loop-level-preserved g c =
    let level = c.level-item.result in
    let Same = AreTablesSince g.H.HeldFile.bytes c.args.since in
    let same : Same level c.new.result =
    subst (λ (copies : List (Table g.row.H.Denot)). Same level copies) (sym c.new.ensures)
    (subst (λ (tables : List (Table g.row.H.Denot)). Same tables c.in_ok-tables.tables.items) c.as_slice.ensures
    c.in_ok-tables.ensures) in
    same_next Same c.args.levels.now c.loop-level.all.items _ c.loop-level.level-index level _
    c.loop-level-test.true c.level-item.is c.loop-level.invariant
    same
    c.in_ok-push.ensures.items
