use Rattle.std.specs.Prelude.{map}
use Rattle.std.specs.List.{AllZip}
use Rattle.std.proofs.Common.{List, [], ◌∷◌, ◌++◌, ◌+◌, subst, sym, take}
use Rattle.vl_compact.proofs.Finding.{left_next}
use Rattle.vl_compact.proofs.Zips.{zip_all, zip_at, zip_push}
use Rattle.vl_compact.specs.Laid.{AreTablesOf}
use Rattle.vl_engine_model.specs.Levels.{without}
use Rattle.vl_engine_model.specs.declared.table.Table as laid
use Rattle.vl_table.specs.declared.table.Table.{Table}
use Rattle.vl_compact.proofs.replace.others_of_each.Goals as goal

pub loop-level-init : goal.loop-level-init
loop-level-init g c = λ ls are.
    subst (λ (l : List (List (Table g.row.H.Denot))). AllZip (AreTablesOf g.H.HeldFile.bytes) l []) (sym c.new-all.ensures.items) tt

pub loop-level-preserved : goal.loop-level-preserved
loop-level-preserved g c = λ ls are.
    let bytes = g.H.HeldFile.bytes in
    let inputs = c.args.inputs.now in
    let i = c.loop-level.level-index in
    let at = zip_at (AreTablesOf bytes) c.args.levels.now ls i c.level-item.result are c.loop-level-test.true c.level-item.is in
    let left = c.in_ok-tables.ensures at.item
    (subst (λ (l : List (Table g.row.H.Denot)). AreTablesOf bytes l at.item) (sym c.as_slice.ensures) at.is) in
    let one = subst (λ (l : List (Table g.row.H.Denot)). AreTablesOf bytes l (without inputs at.item)) (sym c.new.ensures) left in
    subst (λ (l : List (List (Table g.row.H.Denot))). AllZip (AreTablesOf bytes) l (map (without inputs) (take (i + 1) ls)))
    (sym c.in_ok-push.ensures.items)
    (subst (AllZip (AreTablesOf bytes) (c.loop-level.all.items ++ c.new.result ∷ []))
    (left_next inputs (take i ls) (take (i + 1) ls) at.item at.taken)
    (zip_push (AreTablesOf bytes) c.loop-level.all.items (map (without inputs) (take i ls)) c.new.result (without inputs at.item)
    (c.loop-level.invariant ls are) one))

pub returns : goal.returns
returns g c = λ ls are.
    subst (λ (l : List (List laid.Table)). AllZip (AreTablesOf g.H.HeldFile.bytes) c.loop-level.all.items
    (map (without c.args.inputs.now) l))
    (zip_all (AreTablesOf g.H.HeldFile.bytes) c.args.levels.now ls c.loop-level.level-index are c.loop-level-test.false)
    (c.loop-level.invariant ls are)
