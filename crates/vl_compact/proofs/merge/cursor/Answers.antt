use Rattle.std.proofs.Common.{List, [], ◌∷◌, ◌++◌, Some, ap, subst, sym, ◌∙◌}
use Rattle.vl_compact.proofs.Lefts.{one_left}
use Rattle.vl_compact.proofs.Of.{shared_is}
use Rattle.vl_compact.proofs.Stopping.{read_shared, stops_shared}
use Rattle.vl_model.specs.declared.span.Span.{Span}
use Rattle.vl_model.specs.declared.way.Way.TheVariants.{Up}
use Rattle.vl_model.specs.EntryOrder.{within}
use Rattle.vl_model.specs.Cutting.{joined}
use Rattle.vl_table.specs.CursorStops.{MayStopOn}
use Rattle.vl_table.specs.ReadTo.{TablesReadTo}
use Rattle.vl_table.specs.OfTables.{AreOf}
use Rattle.vl_table.specs.declared.table.Table.{Table}
use Rattle.vl_compact.proofs.merge.cursor.Goals as goal

pub returns-clause-left : goal.returns-clause-left
returns-clause-left g c = λ t is.
    let bytes = g.H.HeldFile.bytes in
    let copy = c.in_ok-share.field-0 in
    let items = c.in_ok-push.ensures.items ∙ ap (λ (l : List (Table g.row.H.Denot)). l ++ copy ∷ []) c.new-one.ensures.items in
    c.in_ok-cursor.ensures.left (t.entries ∷ []) (subst (λ (l : List (Table g.row.H.Denot)). AreOf bytes l (t.entries ∷ [])) (sym items)
    ((shared_is bytes g.H.HeldFile.size g.H.HeldFile.named c.args.table.now copy t c.in_ok-share.ensures is).of, tt))
    ∙ ap (λ (s : Span). Some (within s (joined (t.entries ∷ [])))) c.in_ok-span_behind.ensures
    ∙ ap (λ es. Some es) (one_left c.args.after.now t.entries)

pub returns-clause-may_fail : goal.returns-clause-may_fail
returns-clause-may_fail g c = λ fault fails.
    let bytes = g.H.HeldFile.bytes in
    let copy = c.in_ok-share.field-0 in
    let items = c.in_ok-push.ensures.items ∙ ap (λ (l : List (Table g.row.H.Denot)). l ++ copy ∷ []) c.new-one.ensures.items in
    stops_shared bytes g.H.HeldFile.size g.H.HeldFile.named c.args.after.now c.args.table.now copy c.in_ok-share.ensures fault
    (subst (λ (s : Span). MayStopOn bytes s Up (copy ∷ []) fault) c.in_ok-span_behind.ensures
    (subst (λ (l : List (Table g.row.H.Denot)). MayStopOn bytes c.in_ok-span_behind.field-0 Up l fault) items
    (c.in_ok-cursor.ensures.may_fail fault fails)))

pub returns-clause-stands : goal.returns-clause-stands
returns-clause-stands g c = λ is_met stands.
    let bytes = g.H.HeldFile.bytes in
    let copy = c.in_ok-share.field-0 in
    let items = c.in_ok-push.ensures.items ∙ ap (λ (l : List (Table g.row.H.Denot)). l ++ copy ∷ []) c.new-one.ensures.items in
    read_shared bytes g.H.HeldFile.size g.H.HeldFile.named c.args.after.now c.args.table.now copy c.in_ok-share.ensures is_met
    (subst (λ (s : Span). TablesReadTo bytes s Up is_met (copy ∷ [])) c.in_ok-span_behind.ensures
    (subst (λ (l : List (Table g.row.H.Denot)). TablesReadTo bytes c.in_ok-span_behind.field-0 Up is_met l) items
    (c.in_ok-cursor.ensures.stands is_met stands)))
