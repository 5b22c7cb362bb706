use Rattle.std.proofs.Common.{ap, sym, subst, ◌∙◌, List}
use Rattle.std.proofs.lemmas.Result.{on_ok_weaker}
use Rattle.vl_table.specs.OfTables.{AreOf}
use Rattle.vl_table.specs.declared.table.Table.{Table}
use Rattle.vl_version.specs.levels.LevelTables.{AreAllApart, all_tables}
use Rattle.vl_version.proofs.TableSources.{adds_next, no_back, no_front}
use Rattle.vl_version.specs.Naming.{AddFaults}
use Rattle.vl_version.specs.Whole.{AddStops, AllReadTo, EachReadTo, EachStops, OneStops}
use Rattle.vl_version.proofs.WholeLaws.{adds_both_stops}
use Rattle.vl_version.proofs.NamingLaws.{adds_fault_next}
use Rattle.vl_version.specs.Standing.{AddsShown, IsStanding}
use Rattle.vl_version.proofs.StandingLaws.{joined_both, shown_then}
use Rattle.vl_model.specs.Cutting.{joined}
use Rattle.vl_model.specs.declared.entry.Entry.{Entry}
use Rattle.std.specs.List.{AllZip}
use Rattle.std.proofs.Common.{◌∷◌, []}
use Rattle.vl_version.proofs.gather.tables.add_levels.Goals as goal

pub returns-clause-winners : goal.returns-clause-winners
returns-clause-winners g c =
    on_ok_weaker c.add_deeper.result
    (λ adds tabled are in_order.
    let bytes = g.H.HeldFile.bytes in
    let levels = c.args.levels.now in
    adds_next bytes c.args.span.now c.args.way levels.newest.items (all_tables levels.deeper.items) c.args.sources.now.items
    c.add_newest.new.sources.items c.add_deeper.new.sources.items
    (λ front are_front. c.in_ok-add_newest.ensures.winners front
    (subst (λ (l : List (Table g.row.H.Denot)). AreOf bytes l front) (sym c.newest.ensures) are_front))
    (λ back are_back. adds back
    (subst (λ (l : List (List (Table g.row.H.Denot))). AreOf bytes (all_tables l) back) (sym c.deeper.ensures) are_back)
    (subst AreAllApart (sym c.deeper.ensures) in_order)) tabled are)
    c.add_deeper.ensures.winners

pub returns-clause-quiet : goal.returns-clause-quiet
returns-clause-quiet g c =
    on_ok_weaker c.add_deeper.result
    (λ quiet none.
    let bytes = g.H.HeldFile.bytes in
    let levels = c.args.levels.now in
    quiet (ap all_tables c.deeper.ensures ∙ no_back bytes levels.newest.items (all_tables levels.deeper.items) none)
    ∙ c.in_ok-add_newest.ensures.quiet (c.newest.ensures ∙ no_front bytes levels.newest.items (all_tables levels.deeper.items) none))
    c.add_deeper.ensures.quiet

pub returns-clause-faults : goal.returns-clause-faults
returns-clause-faults g c =
    on_ok_weaker c.add_deeper.result
    (λ adds.
    let bytes = g.H.HeldFile.bytes in
    let levels = c.args.levels.now in
    let span = c.args.span.now in
    adds_fault_next bytes span levels.newest.items (all_tables levels.deeper.items) c.args.sources.now.items
    c.add_newest.new.sources.items c.add_deeper.new.sources.items
    (subst (λ (l : List (Table g.row.H.Denot)). AddFaults bytes span l c.args.sources.now.items c.add_newest.new.sources.items)
    c.newest.ensures c.in_ok-add_newest.ensures.faults)
    (subst (λ (l : List (List (Table g.row.H.Denot))). AddFaults bytes span (all_tables l) c.add_newest.new.sources.items
    c.add_deeper.new.sources.items) c.deeper.ensures adds))
    c.add_deeper.ensures.faults

pub returns-clause-reads : goal.returns-clause-reads
returns-clause-reads g c =
    on_ok_weaker c.add_deeper.result
    (λ reads is_met stand.
    let bytes = g.H.HeldFile.bytes in
    let span = c.args.span.now in
    let deeper = reads is_met stand in
    let newest = c.in_ok-add_newest.ensures.reads is_met deeper.0 in (
      newest.0,
      record {
        newest = subst (EachReadTo bytes span c.args.way is_met) c.newest.ensures newest.1;
        deeper = subst (AllReadTo bytes span c.args.way is_met) c.deeper.ensures deeper.1;
      },
    ))
    c.add_deeper.ensures.reads

pub returns-clause-stops : goal.returns-clause-stops
returns-clause-stops g c =
    on_ok_weaker c.add_deeper.result
    (λ stops.
    let bytes = g.H.HeldFile.bytes in
    let levels = c.args.levels.now in
    let span = c.args.span.now in
    adds_both_stops bytes span c.args.way (λ fault. EachStops bytes span c.args.way fault levels.newest.items)
    (λ fault. OneStops bytes span c.args.way fault levels.deeper.items)
    c.args.sources.now.items c.add_newest.new.sources.items c.add_deeper.new.sources.items
    (subst (λ (l : List (Table g.row.H.Denot)). AddStops bytes (λ fault. EachStops bytes span c.args.way fault l)
    c.args.sources.now.items c.add_newest.new.sources.items) c.newest.ensures c.in_ok-add_newest.ensures.stops)
    (subst (λ (l : List (List (Table g.row.H.Denot))). AddStops bytes (λ fault. OneStops bytes span c.args.way fault l)
    c.add_newest.new.sources.items c.add_deeper.new.sources.items) c.deeper.ensures stops))
    c.add_deeper.ensures.stops

pub returns-clause-standing : goal.returns-clause-standing
returns-clause-standing g c =
    on_ok_weaker c.add_deeper.result
    (λ adds tabled are.
    let bytes = g.H.HeldFile.bytes in
    let span = c.args.span.now in
    let way = c.args.way in
    subst (λ (l : List Entry). AddsShown bytes span way l c.args.sources.now.items c.add_deeper.new.sources.items)
    (sym (ap joined are.are ∙ joined_both are.newest are.deeper))
    (shown_then bytes span way (joined are.newest) (joined are.deeper) c.args.sources.now.items c.add_newest.new.sources.items
    c.add_deeper.new.sources.items
    (c.in_ok-add_newest.ensures.standing are.newest
    (subst (λ (l : List (Table g.row.H.Denot)). AllZip (λ (t : Table g.row.H.Denot) (es : List Entry). IsStanding bytes span way (t ∷ []) es) l are.newest)
    (sym c.newest.ensures) are.each))
    (adds are.deeper
    (subst (λ (l : List (List (Table g.row.H.Denot))). AllZip (IsStanding bytes span way) l are.deeper) (sym c.deeper.ensures) are.all))))
    c.add_deeper.ensures.standing
