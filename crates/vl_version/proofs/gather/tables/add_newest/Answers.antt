use Rattle.std.proofs.Common.{◌≡◌, ◌<◌, ◌∙◌, ◌∷◌, ◌+◌, ◌-◌, [], ap, arith, drop, length, refl, sym, subst, List, take}
use Rattle.std.proofs.lemmas.List.{take_all}
use Rattle.vl_table.specs.OfTables.{AreOf}
use Rattle.vl_table.specs.declared.table.Table.{Table}
use Rattle.vl_version.proofs.TableSources.{adds_next, adds_no_tables, adds_one, item_at, one_at}
use Rattle.vl_version.proofs.looking.Parts.{take_next}
use Rattle.vl_version.specs.Naming.{AddFaults}
use Rattle.vl_version.specs.Whole.{AddReads, AddStops, EachReadTo, EachStops, MetReadTo, MetStop}
use Rattle.vl_version.proofs.WholeLaws.{adds_next_read, adds_next_stop, adds_no_reads, adds_no_stops}
use Rattle.vl_version.proofs.NamingLaws.{adds_fault_next, adds_no_faults}
use Rattle.vl_version.specs.Standing.{AddsShown, IsStanding}
use Rattle.vl_version.proofs.StandingLaws.{shown_first, shown_next}
use Rattle.vl_model.specs.Cutting.{joined}
use Rattle.vl_model.specs.declared.entry.Entry.{Entry}
use Rattle.std.specs.List.{AllZip}
use Rattle.vl_version.proofs.gather.tables.add_newest.Goals as goal

pub loop-at-init : goal.loop-at-init
loop-at-init g c = record {
  adds = adds_no_tables g.H.HeldFile.bytes c.args.span.now c.args.way c.args.sources.now.items;
  quiet = λ none. refl;
  faults = adds_no_faults g.H.HeldFile.bytes c.args.span.now c.args.sources.now.items;
  reads = adds_no_reads g.H.HeldFile.bytes c.args.span.now c.args.way
      (λ is_met. EachReadTo g.H.HeldFile.bytes c.args.span.now c.args.way is_met []) c.args.sources.now.items (λ is_met. tt);
  stops = adds_no_stops g.H.HeldFile.bytes c.args.span.now c.args.way
      (λ fault. EachStops g.H.HeldFile.bytes c.args.span.now c.args.way fault []) c.args.sources.now.items;
  standing = shown_first g.H.HeldFile.bytes c.args.span.now c.args.way
      (λ (t : Table g.row.H.Denot) (es : List Entry). IsStanding g.H.HeldFile.bytes c.args.span.now c.args.way (t ∷ []) es)
      c.args.sources.now.items;
}

pub loop-at-preserved : goal.loop-at-preserved
loop-at-preserved g c =
    let bytes = g.H.HeldFile.bytes in
    let ts = c.args.tables.now in
    let i = c.loop-at.at in
    let inside : i < length ts = omega (arith, c.loop-at-test.true) in
    let t = item_at ts i inside in
    record {
      adds = λ tabled are. adds_next bytes c.args.span.now c.args.way (take i ts) (t.0 ∷ []) c.args.sources.now.items
          c.loop-at.sources.items
          c.add_tables.new.sources.items c.loop-at.invariant.adds
          (adds_one bytes c.args.span.now c.args.way t.0 (take (i + 1 - i) (drop i ts)) c.loop-at.sources.items
          c.add_tables.new.sources.items (one_at ts i (i + 1 - i) t.0 inside t.1 (omega arith)) c.in_ok-add_tables.ensures.winners) tabled
          (subst (λ (l : List (Table g.row.H.Denot)). AreOf bytes l tabled) (take_next ts i t.0 inside t.1) are);
      quiet = λ none. absurd (omega (arith, inside, ap length none));
      faults = subst (λ (l : List (Table g.row.H.Denot)). AddFaults bytes c.args.span.now l c.args.sources.now.items
          c.add_tables.new.sources.items) (sym (take_next ts i t.0 inside t.1))
          (adds_fault_next bytes c.args.span.now (take i ts) (t.0 ∷ []) c.args.sources.now.items c.loop-at.sources.items
          c.add_tables.new.sources.items c.loop-at.invariant.faults
          (subst (λ (l : List (Table g.row.H.Denot)). AddFaults bytes c.args.span.now l c.loop-at.sources.items
          c.add_tables.new.sources.items) (one_at ts i (i + 1 - i) t.0 inside t.1 (omega arith)) c.in_ok-add_tables.ensures.faults));
      reads = adds_next_read bytes c.args.span.now c.args.way
          (λ is_met u. MetReadTo bytes c.args.span.now c.args.way is_met (u ∷ [])) ts i t.0 c.args.sources.now.items
          c.loop-at.sources.items c.add_tables.new.sources.items inside t.1 c.loop-at.invariant.reads
          (subst (λ (l : List (Table g.row.H.Denot)). AddReads bytes
          (λ is_met. MetReadTo bytes c.args.span.now c.args.way is_met l) c.loop-at.sources.items c.add_tables.new.sources.items)
          (one_at ts i (i + 1 - i) t.0 inside t.1 (omega arith)) c.in_ok-add_tables.ensures.reads);
      standing = shown_next bytes c.args.span.now c.args.way
          (λ (u : Table g.row.H.Denot) (es : List Entry). IsStanding bytes c.args.span.now c.args.way (u ∷ []) es) ts i t.0 c.args.sources.now.items
          c.loop-at.sources.items c.add_tables.new.sources.items inside t.1 c.loop-at.invariant.standing
          (λ es so. c.in_ok-add_tables.ensures.standing es
          (subst (λ (l : List (Table g.row.H.Denot)). IsStanding bytes c.args.span.now c.args.way l es)
          (sym (one_at ts i (i + 1 - i) t.0 inside t.1 (omega arith))) so));
      stops = adds_next_stop bytes c.args.span.now c.args.way
          (λ fault u. MetStop bytes c.args.span.now c.args.way fault (u ∷ [])) ts i t.0 c.args.sources.now.items
          c.loop-at.sources.items c.add_tables.new.sources.items inside t.1 c.loop-at.invariant.stops
          (subst (λ (l : List (Table g.row.H.Denot)). AddStops bytes
          (λ fault. MetStop bytes c.args.span.now c.args.way fault l) c.loop-at.sources.items c.add_tables.new.sources.items)
          (one_at ts i (i + 1 - i) t.0 inside t.1 (omega arith)) c.in_ok-add_tables.ensures.stops);
    }

pub returns-clause-winners : goal.returns-clause-winners
returns-clause-winners g c tabled are =
    c.loop-at.invariant.adds tabled
    (subst (λ (l : List (Table g.row.H.Denot)). AreOf g.H.HeldFile.bytes l tabled)
    (sym (take_all c.loop-at.at c.args.tables.now c.loop-at-test.false)) are)

pub returns-clause-faults : goal.returns-clause-faults
returns-clause-faults g c =
    subst (λ (l : List (Table g.row.H.Denot)). AddFaults g.H.HeldFile.bytes c.args.span.now l c.args.sources.now.items
    c.loop-at.sources.items) (take_all c.loop-at.at c.args.tables.now c.loop-at-test.false) c.loop-at.invariant.faults

pub returns-clause-reads : goal.returns-clause-reads
returns-clause-reads g c =
    subst (λ (l : List (Table g.row.H.Denot)). AddReads g.H.HeldFile.bytes
    (λ is_met. EachReadTo g.H.HeldFile.bytes c.args.span.now c.args.way is_met l) c.args.sources.now.items c.loop-at.sources.items)
    (take_all c.loop-at.at c.args.tables.now c.loop-at-test.false) c.loop-at.invariant.reads

pub returns-clause-stops : goal.returns-clause-stops
returns-clause-stops g c =
    subst (λ (l : List (Table g.row.H.Denot)). AddStops g.H.HeldFile.bytes
    (λ fault. EachStops g.H.HeldFile.bytes c.args.span.now c.args.way fault l) c.args.sources.now.items c.loop-at.sources.items)
    (take_all c.loop-at.at c.args.tables.now c.loop-at-test.false) c.loop-at.invariant.stops

pub returns-clause-standing : goal.returns-clause-standing
returns-clause-standing g c =
    subst (λ (l : List (Table g.row.H.Denot)). (tabled : List (List Entry))
    → AllZip (λ (t : Table g.row.H.Denot) (es : List Entry). IsStanding g.H.HeldFile.bytes c.args.span.now c.args.way (t ∷ []) es) l tabled
    → AddsShown g.H.HeldFile.bytes c.args.span.now c.args.way (joined tabled) c.args.sources.now.items c.loop-at.sources.items)
    (take_all c.loop-at.at c.args.tables.now c.loop-at-test.false) c.loop-at.invariant.standing
