use Rattle.std.proofs.Common.{◌≡◌, [], refl, sym, subst, ◌∙◌, List, get_or, take}
use Rattle.std.proofs.lemmas.List.{take_all}
use Rattle.vl_table.specs.OfTables.{AreOf}
use Rattle.vl_table.specs.declared.table.Table.{Table}
use Rattle.vl_version.specs.levels.LevelTables.{AreApart, all_tables}
use Rattle.vl_version.proofs.TableSources.{adds_next, adds_no_tables, no_level}
use Rattle.vl_version.proofs.looking.Parts.{all_get, tables-next}
use Rattle.vl_version.specs.Naming.{AddFaults}
use Rattle.vl_version.specs.Whole.{AddReads, AddStops, AllReadTo, MetReadTo, MetStop, OneStops}
use Rattle.vl_version.proofs.WholeLaws.{adds_next_read, adds_next_stop, adds_no_reads, adds_no_stops}
use Rattle.vl_version.proofs.NamingLaws.{adds_fault_next, adds_no_faults}
use Rattle.vl_version.specs.Standing.{AddsShown, IsStanding}
use Rattle.vl_version.proofs.StandingLaws.{shown_first, shown_next}
use Rattle.vl_model.specs.Cutting.{joined}
use Rattle.vl_model.specs.declared.entry.Entry.{Entry}
use Rattle.std.specs.List.{AllZip}
use Rattle.vl_version.proofs.gather.tables.add_deeper.Goals as goal

pub loop-level-init : goal.loop-level-init
loop-level-init g c = record {
  adds = λ apart. adds_no_tables g.H.HeldFile.bytes c.args.span.now c.args.way c.args.sources.now.items;
  quiet = λ none. refl;
  faults = adds_no_faults g.H.HeldFile.bytes c.args.span.now c.args.sources.now.items;
  reads = adds_no_reads g.H.HeldFile.bytes c.args.span.now c.args.way
      (λ is_met. AllReadTo g.H.HeldFile.bytes c.args.span.now c.args.way is_met []) c.args.sources.now.items (λ is_met. tt);
  stops = adds_no_stops g.H.HeldFile.bytes c.args.span.now c.args.way
      (λ fault. OneStops g.H.HeldFile.bytes c.args.span.now c.args.way fault []) c.args.sources.now.items;
  standing = shown_first g.H.HeldFile.bytes c.args.span.now c.args.way (IsStanding g.H.HeldFile.bytes c.args.span.now c.args.way)
      c.args.sources.now.items;
}

pub loop-level-preserved : goal.loop-level-preserved
loop-level-preserved g c =
    let bytes = g.H.HeldFile.bytes in
    let ls = c.args.levels.now in
    let i = c.loop-level.level-index in
    let level = c.as_slice.result.now in
    let is = subst (λ (l : List (Table g.row.H.Denot)). l ≡ get_or ls i l) (sym c.as_slice.ensures) c.level-item.is in
    record {
      adds = λ apart tabled are. adds_next bytes c.args.span.now c.args.way (all_tables (take i ls)) level c.args.sources.now.items
          c.loop-level.sources.items c.add_tables.new.sources.items (c.loop-level.invariant.adds apart)
          (λ more are_more. c.in_ok-add_tables.ensures.winners more are_more
          (subst AreApart (sym is) (all_get AreApart ls i level apart c.loop-level-test.true))) tabled
          (subst (λ (l : List (Table g.row.H.Denot)). AreOf bytes l tabled) (tables-next ls i level c.loop-level-test.true is) are);
      quiet = λ none. c.in_ok-add_tables.ensures.quiet (no_level bytes ls i level c.loop-level-test.true is none)
          ∙ c.loop-level.invariant.quiet none;
      faults = subst (λ (l : List (Table g.row.H.Denot)). AddFaults bytes c.args.span.now l c.args.sources.now.items
          c.add_tables.new.sources.items) (sym (tables-next ls i level c.loop-level-test.true is))
          (adds_fault_next bytes c.args.span.now (all_tables (take i ls)) level c.args.sources.now.items c.loop-level.sources.items
          c.add_tables.new.sources.items c.loop-level.invariant.faults c.in_ok-add_tables.ensures.faults);
      reads = adds_next_read bytes c.args.span.now c.args.way (MetReadTo bytes c.args.span.now c.args.way) ls i level
          c.args.sources.now.items c.loop-level.sources.items c.add_tables.new.sources.items c.loop-level-test.true is
          c.loop-level.invariant.reads c.in_ok-add_tables.ensures.reads;
      standing = shown_next bytes c.args.span.now c.args.way (IsStanding bytes c.args.span.now c.args.way) ls i level
          c.args.sources.now.items c.loop-level.sources.items c.add_tables.new.sources.items c.loop-level-test.true is
          c.loop-level.invariant.standing c.in_ok-add_tables.ensures.standing;
      stops = adds_next_stop bytes c.args.span.now c.args.way (MetStop bytes c.args.span.now c.args.way) ls i level
          c.args.sources.now.items c.loop-level.sources.items c.add_tables.new.sources.items c.loop-level-test.true is
          c.loop-level.invariant.stops c.in_ok-add_tables.ensures.stops;
    }

pub returns-clause-winners : goal.returns-clause-winners
returns-clause-winners g c tabled are apart =
    c.loop-level.invariant.adds apart tabled
    (subst (λ (l : List (List (Table g.row.H.Denot))). AreOf g.H.HeldFile.bytes (all_tables l) tabled)
    (sym (take_all c.loop-level.level-index c.args.levels.now c.loop-level-test.false)) are)

pub returns-clause-faults : goal.returns-clause-faults
returns-clause-faults g c =
    subst (λ (l : List (List (Table g.row.H.Denot))). AddFaults g.H.HeldFile.bytes c.args.span.now (all_tables l)
    c.args.sources.now.items c.loop-level.sources.items) (take_all c.loop-level.level-index c.args.levels.now c.loop-level-test.false)
    c.loop-level.invariant.faults

pub returns-clause-reads : goal.returns-clause-reads
returns-clause-reads g c =
    subst (λ (l : List (List (Table g.row.H.Denot))). AddReads g.H.HeldFile.bytes
    (λ is_met. AllReadTo g.H.HeldFile.bytes c.args.span.now c.args.way is_met l) c.args.sources.now.items c.loop-level.sources.items)
    (take_all c.loop-level.level-index c.args.levels.now c.loop-level-test.false) c.loop-level.invariant.reads

pub returns-clause-stops : goal.returns-clause-stops
returns-clause-stops g c =
    subst (λ (l : List (List (Table g.row.H.Denot))). AddStops g.H.HeldFile.bytes
    (λ fault. OneStops g.H.HeldFile.bytes c.args.span.now c.args.way fault l) c.args.sources.now.items c.loop-level.sources.items)
    (take_all c.loop-level.level-index c.args.levels.now c.loop-level-test.false) c.loop-level.invariant.stops

pub returns-clause-standing : goal.returns-clause-standing
returns-clause-standing g c =
    subst (λ (l : List (List (Table g.row.H.Denot))). (tabled : List (List Entry))
    → AllZip (IsStanding g.H.HeldFile.bytes c.args.span.now c.args.way) l tabled
    → AddsShown g.H.HeldFile.bytes c.args.span.now c.args.way (joined tabled) c.args.sources.now.items c.loop-level.sources.items)
    (take_all c.loop-level.level-index c.args.levels.now c.loop-level-test.false) c.loop-level.invariant.standing
