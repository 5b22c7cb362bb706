use Rattle.std.proofs.Common.{◌++◌, [], sym, subst, List}
use Rattle.std.specs.FinMap.{entries}
use Rattle.vl_model.specs.Cutting.{joined}
use Rattle.vl_memtable.specs.declared.frozen_log.FrozenLog.{FrozenLog}
use Rattle.vl_model.specs.declared.span.Span.{Span}
use Rattle.vl_version.specs.Gathered.{Adds, IsQuiet}
use Rattle.vl_version.specs.Own.{own_entries}
use Rattle.vl_version.specs.Sources.{held_entries}
use Rattle.vl_version.proofs.Telling.{adds_then}
use Rattle.vl_version.specs.Naming.{FailWithin}
use Rattle.vl_version.specs.levels.LevelsLooked.{tables_of}
use Rattle.vl_version.specs.Whole.{LevelsReadTo, LevelsStop}
use Rattle.vl_version.proofs.WholeLaws.{stops_levels, stops_memory}
use Rattle.std.proofs.Common.{inl, inr}
use Rattle.std.proofs.Common.{append_assoc}
use Rattle.vl_model.specs.declared.entry.Entry.{Entry}
use Rattle.vl_version.specs.Gathered.{TellWinners, span_of}
use Rattle.vl_version.specs.Standing.{AddsShown, AreStanding, ShowWinners}
use Rattle.vl_version.proofs.StandingLaws.{shows_of}
use Rattle.vl_version.proofs.gather.sources_within.Goals as goal

pub returns-clause-winners : goal.returns-clause-winners
returns-clause-winners g c tabled are in_order =
    let bytes = g.H.HeldFile.bytes in
    let way = c.args.wanted.way in
    let span = c.in_ok-span.span in
    let held = held_entries c.args.behind.now.frozen.items in
    let first = c.in_ok-sources.sources.items in
    let then_active = c.add_memtable.new.sources.items in
    let then_frozen = c.add_frozen.new.sources.items in
    let all = c.add_levels.new.sources.items in
    let frozen = subst (λ (l : List FrozenLog). Adds bytes span way (held_entries l) then_active then_frozen) c.deref.ensures.value
    c.in_ok-add_frozen.ensures.winners in
    subst (λ (s : Span). Adds bytes s way ((c.args.active.now.entries ++ held) ++ joined tabled) first all) c.in_ok-span.ensures
    (adds_then bytes span way (c.args.active.now.entries ++ held) (joined tabled) first then_frozen all
    (adds_then bytes span way c.args.active.now.entries held first then_active then_frozen c.in_ok-add_memtable.ensures.winners frozen)
    (c.in_ok-add_levels.ensures.winners tabled are in_order))
    (own_entries c.args.number (entries c.args.own.now)) c.in_ok-sources.ensures.winners

pub returns-clause-quiet : goal.returns-clause-quiet
returns-clause-quiet g c none =
    subst (IsQuiet g.H.HeldFile.bytes) (sym (c.in_ok-add_levels.ensures.quiet none))
    (c.in_ok-add_frozen.ensures.quiet (c.in_ok-add_memtable.ensures.quiet c.in_ok-sources.ensures.quiet))

pub returns-clause-faults : goal.returns-clause-faults
returns-clause-faults g c =
    let span = c.in_ok-span.span in
    subst (λ (s : Span). FailWithin g.H.HeldFile.bytes s (tables_of c.args.behind.now.levels) c.add_levels.new.sources.items)
    c.in_ok-span.ensures
    (c.in_ok-add_levels.ensures.faults []
    (c.in_ok-add_frozen.ensures.faults [] (c.in_ok-add_memtable.ensures.faults [] (c.in_ok-sources.ensures.faults span))))

pub returns-clause-reads : goal.returns-clause-reads
returns-clause-reads g c = λ is_met stand.
    subst (λ (s : Span). LevelsReadTo g.H.HeldFile.bytes s c.args.wanted.way is_met c.args.behind.now.levels) c.in_ok-span.ensures
    (c.in_ok-add_levels.ensures.reads is_met stand).1

pub returns-clause-stops : goal.returns-clause-stops
returns-clause-stops g c = λ fault fails.
    let bytes = g.H.HeldFile.bytes in
    let span = c.in_ok-span.span in
    let way = c.args.wanted.way in
    let levels = c.args.behind.now.levels in
    let held = c.in_ok-add_frozen.ensures.faults [] (c.in_ok-add_memtable.ensures.faults [] (c.in_ok-sources.ensures.faults span)) in
    subst (λ (s : Span). LevelsStop bytes s way levels fault) c.in_ok-span.ensures
    (elim (c.in_ok-add_levels.ensures.stops fault fails) [
      | inl before ↦ stops_memory bytes span way levels fault (held fault before)
      | inr one ↦ stops_levels bytes span way levels fault one
    ])

pub returns-clause-standing : goal.returns-clause-standing
returns-clause-standing g c tabled are =
    let bytes = g.H.HeldFile.bytes in
    let way = c.args.wanted.way in
    let span = span_of c.args.wanted.low.now c.args.wanted.high.now in
    let levels = c.args.behind.now.levels in
    let held = held_entries c.args.behind.now.frozen.items in
    let own = own_entries c.args.number (entries c.args.own.now) in
    let first = c.in_ok-sources.sources.items in
    let then_active = c.add_memtable.new.sources.items in
    let then_frozen = c.add_frozen.new.sources.items in
    let all = c.add_levels.new.sources.items in
    let frozen = subst (λ (l : List FrozenLog). Adds bytes c.in_ok-span.span way (held_entries l) then_active then_frozen)
    c.deref.ensures.value c.in_ok-add_frozen.ensures.winners in
    let memory = subst (λ (s : Span). Adds bytes s way (c.args.active.now.entries ++ held) first then_frozen) c.in_ok-span.ensures
    (adds_then bytes c.in_ok-span.span way c.args.active.now.entries held first then_active then_frozen
    c.in_ok-add_memtable.ensures.winners frozen) in
    let tables = subst (λ (s : Span). (tabled : List (List Entry)) → AreStanding bytes s way levels tabled
    → AddsShown bytes s way (joined tabled) then_frozen all) c.in_ok-span.ensures c.in_ok-add_levels.ensures.standing in
    subst (λ (l : List Entry). ShowWinners bytes span way l all)
    (append_assoc own (c.args.active.now.entries ++ held) (joined tabled))
    (tables tabled are (own ++ (c.args.active.now.entries ++ held))
    (shows_of bytes span way (own ++ (c.args.active.now.entries ++ held)) then_frozen (memory own c.in_ok-sources.ensures.winners)))
