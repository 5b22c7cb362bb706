use Rattle.std.proofs.Common.{ap, sym, subst, ◌∙◌, Some}
use Rattle.vl_model.specs.Cutting.{joined}
use Rattle.vl_model.specs.declared.span.Span.{Span}
use Rattle.vl_model.specs.EntryOrder.{along, within}
use Rattle.vl_version.proofs.TableSources.{adds_cursor, adds_without, no_items, some_items}
use Rattle.vl_table.specs.ReadTo.{TablesReadTo}
use Rattle.vl_version.proofs.WholeLaws.{adds_cursor_reads, adds_cursor_stops, adds_no_stops, adds_unmet}
use Rattle.vl_version.specs.Whole.{MetStop}
use Rattle.vl_table.specs.CursorParts.{entries_over}
use Rattle.vl_version.proofs.StandingLaws.{shown_cursor, shown_unmet}
use Rattle.vl_table.specs.CursorStops.{MayStopOn}
use Rattle.vl_version.proofs.NamingLaws.{adds_cursor_faults, adds_unread}
use Rattle.vl_version.proofs.gather.tables.add_tables.Goals as goal

pub returns-then-is_empty-clause-winners : goal.returns-then-is_empty-clause-winners
returns-then-is_empty-clause-winners g c tabled are apart =
    adds_without g.H.HeldFile.bytes c.args.span.now c.args.way c.args.tables.now c.in_ok-met.met.items tabled apart are
    (c.in_ok-met.ensures.have tabled are) c.args.sources.now.items
    (no_items c.in_ok-met.met (sym c.is_empty.ensures ∙ c.if-is_empty.true))

pub returns-clause-winners : goal.returns-clause-winners
returns-clause-winners g c tabled are apart =
    adds_cursor g.H.HeldFile.bytes c.args.span.now c.args.way c.args.tables.now c.in_ok-met.met.items tabled apart are
    (c.in_ok-met.ensures.have tabled are) c.in_ok-cursor.cursor c.args.sources.now.items c.push.new.self.items
    (λ ess met. c.in_ok-cursor.ensures.left ess met
    ∙ ap (λ (s : Span). Some (along c.args.way (within s (joined ess)))) c.in_ok-share_span.ensures)
    (λ why may. (c.in_ok-cursor.ensures.may_fail why may).0) c.in_ok-push.ensures.items

pub returns-clause-quiet : goal.returns-clause-quiet
returns-clause-quiet g c none =
    absurd (some_items c.in_ok-met.met (sym c.is_empty.ensures ∙ c.if-is_empty.false) (c.in_ok-met.ensures.none none))

pub returns-then-is_empty-clause-faults : goal.returns-then-is_empty-clause-faults
returns-then-is_empty-clause-faults g c =
    adds_unread g.H.HeldFile.bytes c.args.span.now c.args.tables.now c.args.sources.now.items

pub returns-clause-faults : goal.returns-clause-faults
returns-clause-faults g c =
    adds_cursor_faults g.H.HeldFile.bytes c.args.span.now c.args.tables.now c.in_ok-met.met.items c.in_ok-cursor.cursor
    c.args.sources.now.items c.push.new.self.items c.in_ok-met.ensures.faults
    (λ why may. (c.in_ok-cursor.ensures.may_fail why may).0) c.in_ok-push.ensures.items

pub returns-then-is_empty-clause-reads : goal.returns-then-is_empty-clause-reads
returns-then-is_empty-clause-reads g c =
    adds_unmet g.H.HeldFile.bytes c.args.span.now c.args.way c.args.tables.now c.in_ok-met.met.items c.args.sources.now.items
    c.in_ok-met.ensures.copies (no_items c.in_ok-met.met (sym c.is_empty.ensures ∙ c.if-is_empty.true))

pub returns-clause-reads : goal.returns-clause-reads
returns-clause-reads g c =
    adds_cursor_reads g.H.HeldFile.bytes c.args.span.now c.args.way c.args.tables.now c.in_ok-met.met.items c.in_ok-cursor.cursor
    c.args.sources.now.items c.push.new.self.items c.in_ok-met.ensures.copies
    (λ is_met stands. subst (λ (s : Span). TablesReadTo g.H.HeldFile.bytes s c.args.way is_met c.in_ok-met.met.items)
    c.in_ok-share_span.ensures (c.in_ok-cursor.ensures.stands is_met stands)) c.in_ok-push.ensures.items

pub returns-then-is_empty-clause-standing : goal.returns-then-is_empty-clause-standing
returns-then-is_empty-clause-standing g c =
    shown_unmet g.H.HeldFile.bytes c.args.span.now c.args.way c.args.tables.now c.in_ok-met.met.items c.args.sources.now.items
    c.in_ok-met.ensures.copies (no_items c.in_ok-met.met (sym c.is_empty.ensures ∙ c.if-is_empty.true))

pub returns-clause-standing : goal.returns-clause-standing
returns-clause-standing g c =
    shown_cursor g.H.HeldFile.bytes c.args.span.now c.args.way c.args.tables.now c.in_ok-met.met.items c.in_ok-cursor.cursor
    c.args.sources.now.items c.push.new.self.items c.in_ok-met.ensures.copies
    (c.in_ok-cursor.ensures.tells
    ∙ ap (λ (s : Span). entries_over g.H.HeldFile.bytes s c.args.way c.in_ok-met.met.items) c.in_ok-share_span.ensures)
    c.in_ok-push.ensures.items

pub returns-then-is_empty-clause-stops : goal.returns-then-is_empty-clause-stops
returns-then-is_empty-clause-stops g c =
    adds_no_stops g.H.HeldFile.bytes c.args.span.now c.args.way
    (λ fault. MetStop g.H.HeldFile.bytes c.args.span.now c.args.way fault c.args.tables.now) c.args.sources.now.items

pub returns-clause-stops : goal.returns-clause-stops
returns-clause-stops g c =
    adds_cursor_stops g.H.HeldFile.bytes c.args.span.now c.args.way c.args.tables.now c.in_ok-met.met.items c.in_ok-cursor.cursor
    c.args.sources.now.items c.push.new.self.items c.in_ok-met.ensures.copies
    (λ fault fails. subst (λ (s : Span). MayStopOn g.H.HeldFile.bytes s c.args.way c.in_ok-met.met.items fault)
    c.in_ok-share_span.ensures (c.in_ok-cursor.ensures.may_fail fault fails)) c.in_ok-push.ensures.items
