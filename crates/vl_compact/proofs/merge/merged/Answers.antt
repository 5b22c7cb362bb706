use Rattle.std.proofs.Common.{Some, ap, ◌∙◌}
use Rattle.std.specs.Prelude.{map}
use Rattle.std.proofs.lemmas.Result.{IfOk-weaker}
use Rattle.vl_compact.proofs.Lefts.{all_along, all_left, behind_all}
use Rattle.vl_compact.specs.Keys.{behind}
use Rattle.vl_engine_model.specs.declared.table.Table as laid
use Rattle.vl_merge.specs.MergeOf.{merge_of}
use Rattle.vl_model.specs.Merging.{merged}
use Rattle.vl_model.specs.declared.way.Way.TheVariants.{Up}
use Rattle.vl_table.specs.CursorLeft.{cursor_left}
use Rattle.vl_table.specs.declared.cursor.TableCursor.{TableCursor}
use Rattle.vl_compact.proofs.merge.merged.Goals as goal

pub returns-clause-left : goal.returns-clause-left
returns-clause-left g c = λ ts are.
    let left = λ (x : TableCursor g.row.H.Denot g.row.R.Denot g.H.HeldFile g.H.Clone). cursor_left g.H.HeldFile.bytes x in
    let after = c.args.after.now in
    let ess = map (λ (t : laid.Table). behind after t.entries) ts in
    IfOk-weaker c.new.result _ _
    (λ it is. is ∙ ap (merge_of Up) (all_left left after c.in_ok-cursors.field-0.items ts (c.in_ok-cursors.ensures.left ts are))
    ∙ c.merge_of_told_sources.ensures Up ess (all_along g.H.HeldFile.bytes after c.args.tables.now ts are)
    ∙ ap (λ es. Some (merged Up es)) (behind_all after ts))
    c.new.ensures.left

pub returns-clause-may_fail : goal.returns-clause-may_fail
returns-clause-may_fail g c =
    IfOk-weaker c.new.result _ _ (λ it may fault fails. c.in_ok-cursors.ensures.may_fail fault (may fault fails)) c.new.ensures.may_fail

pub returns-clause-stands : goal.returns-clause-stands
returns-clause-stands g c =
    IfOk-weaker c.new.result _ _
    (λ it all is_met upward stands. c.in_ok-cursors.ensures.stands is_met (all is_met upward stands)) c.new.ensures.stands
