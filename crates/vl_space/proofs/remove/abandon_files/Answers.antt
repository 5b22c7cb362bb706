use Rattle.std.proofs.Common.{◌≡◌, ◌∷◌, [], ◌++◌, ap, append_assoc, map, sym, subst, ◌∙◌}
use Rattle.std.proofs.lemmas.Iterator.Adapters.{YieldsList-from_vec}
use Rattle.std.proofs.lemmas.Iterator.Consumers.{YieldsList-end}
use Rattle.vl_space.specs.laws.Retired.Changing.{leaves_more, leaves_none, map-both, map-same, nothing_behind, same_lent}
use Rattle.vl_space.specs.Retiring.{LeavesFiles, left_of}
use Rattle.vl_pins.specs.Files.{left_at}
use Rattle.vl_space.proofs.remove.abandon_files.Goals as goal

pub loop-table-init : goal.loop-table-init
loop-table-init g c = leaves_none c.args.stock.now

pub loop-table-preserved : goal.loop-table-preserved
loop-table-preserved g c =
    subst (λ files. LeavesFiles files c.args.stock.now c.leave.new.self)
    (sym (map-both left_of c.loop-table.yielded (c.in-Some.table ∷ [])))
    (leaves_more (map left_of c.loop-table.yielded) (left_of c.in-Some.table) c.args.stock.now c.loop-table.stock c.leave.new.self
    c.loop-table.invariant c.leave.ensures.in_use
    (λ less. c.leave.ensures.left less ∙ ap (λ f. c.loop-table.stock.trash.items ++ left_at c.in-Some.table.number f ∷ [])
    (same_lent {s = g.W.Writer} c.in-Some.table.number c.in-Some.table.writer _ c.in-Some.table.named)) c.leave.ensures.capacity
    c.leave.ensures.full)

pub loop-file-init : goal.loop-file-init
loop-file-init g c =
    let all = sym (map-same c.loop-table.yielded)
    ∙ (YieldsList-end (YieldsList-from_vec {s = c.into_iter-table-iterator.result} c.args.made.items
    c.into_iter-table-iterator.ensures.into_iter_gives.0
    (c.into_iter-table-iterator.ensures.into_iter_gives.1 ∙ c.args.made.ok.0)) c.loop-table.yielded c.loop-table.table-iterator
    c.loop-table.yielded_by
    c.next.result c.next.new.self c.in-None.is c.next.ensures.steps).0 in
    subst (λ files. LeavesFiles files c.args.stock.now c.loop-table.stock)
    (ap (map left_of) all ∙ sym (nothing_behind (map left_of c.args.made.items))) c.loop-table.invariant

pub loop-file-preserved : goal.loop-file-preserved
loop-file-preserved g c =
    subst (λ files. LeavesFiles files c.args.stock.now c.leave-in-loop-file.new.self)
    (append_assoc (map left_of c.args.made.items) c.loop-file.yielded (c.in-Some-file.file ∷ []))
    (leaves_more (map left_of c.args.made.items ++ c.loop-file.yielded) c.in-Some-file.file c.args.stock.now c.loop-file.stock
    c.leave-in-loop-file.new.self c.loop-file.invariant c.leave-in-loop-file.ensures.in_use c.leave-in-loop-file.ensures.left
    c.leave-in-loop-file.ensures.capacity c.leave-in-loop-file.ensures.full)

pub returns : goal.returns
returns g c =
    let all = sym (map-same c.loop-file.yielded)
    ∙ (YieldsList-end (YieldsList-from_vec {s = c.into_iter-file-iterator.result} c.args.leavings.items
    c.into_iter-file-iterator.ensures.into_iter_gives.0
    (c.into_iter-file-iterator.ensures.into_iter_gives.1 ∙ c.args.leavings.ok.0)) c.loop-file.yielded c.loop-file.file-iterator
    c.loop-file.yielded_by
    c.next-in-loop-file.result c.next-in-loop-file.new.self c.in-None-file.is c.next-in-loop-file.ensures.steps).0 in
    subst (λ files. LeavesFiles files c.args.stock.now c.loop-file.stock)
    (ap (λ files. map left_of c.args.made.items ++ files) all) c.loop-file.invariant
