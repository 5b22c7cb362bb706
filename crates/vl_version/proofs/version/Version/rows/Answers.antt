use Rattle.std.proofs.Common.{◌≡◌, ◌++◌, [], ap, refl, sym, subst, ◌∙◌, List, ℕ}
use Rattle.std.specs.FinMap.{entries}
use Rattle.std.specs.List.{flat_map}
use Rattle.std.specs.Option.{option_map}
use Rattle.vl_model.specs.Cutting.{joined}
use Rattle.vl_merge.specs.MergeOf.{merge_of}
use Rattle.vl_model.specs.Merging.{merged}
use Rattle.vl_merge.specs.declared.hides.Hides.TheVariants as hiding
use Rattle.vl_merge.specs.Visible.{visible}
use Rattle.vl_model.specs.Winners.{resolved_at, winner}
use Rattle.vl_model.specs.declared.entry.Entry.{Entry}
use Rattle.vl_seglog.specs.declared.sealed.SealedLog.{SealedLog}
use Rattle.vl_table.specs.OfTables.{AreOf}
use Rattle.vl_table.specs.declared.table.Table.{Table}
use Rattle.vl_version.specs.Gathered.{TellWinners, span_of}
use Rattle.vl_version.specs.Own.{own_entries}
use Rattle.vl_version.specs.Sources.{AreTold, held_entries, stored_in}
use Rattle.vl_version.specs.declared.behind.Behind.{Behind}
use Rattle.vl_version.specs.levels.LevelsLooked.{AreInOrder, tables_of}
use Rattle.vl_version.proofs.AnswerLaws.{all_kept, all_near, same_led, scan_answers, scan_answers_or}
use Rattle.vl_version.proofs.NearLaws.{near_behind, none_in_order}
use Rattle.std.proofs.lemmas.Result.{IfErr-weaker}
use Rattle.vl_version.specs.Naming.{IsMetFault, IsScanFault}
use Rattle.vl_version.specs.Sources.{tables_in}
use Rattle.vl_version.proofs.NamingLaws.{scan_fault}
use Rattle.vl_version.proofs.WholeLaws.{beyond_upward, if_ok_both, none_upward, past_itself, past_upward, rows_weaker}
use Rattle.vl_version.specs.Whole.{LevelsReadTo, LevelsStop, SourcesStand, is_past}
use Rattle.vl_version.specs.Naming.{IsLogFault}
use Rattle.std.specs.Prelude.{◌⊎◌}
use Rattle.std.proofs.Common.{inl, inr}
use Rattle.std.proofs.Common.{Bool, false}
use Rattle.vl_disk.specs.declared.name.Name.{Name}
use Rattle.vl_disk.specs.declared.read_fault.ReadFault.TheVariants.{Damaged}
use Rattle.vl_version.specs.Scans.{SomeAstray}
use Rattle.std.proofs.Common.{Vec, Global}
use Rattle.vl_merge.specs.Standing.{is_beyond}
use Rattle.vl_model.specs.Keys.{Row}
use Rattle.vl_version.specs.Standing.{AreOver, AreStanding, HasStanding, ShowWinners}
use Rattle.vl_version.proofs.StandingLaws.{answer_each, answer_with}
use Rattle.vl_version.proofs.version.Version.rows.Goals as goal

pub returns-clause-answers : goal.returns-clause-answers
returns-clause-answers g c es logs has =
    let self = c.args.self.now in
    let bytes = g.H.HeldFile.bytes in
    let number = c.args.number in
    let wanted = c.args.wanted in
    let way = wanted.way in
    let own = own_entries number (entries c.args.own.now) in
    let sources = c.in_ok-sources.sources.items in
    let behind : c.as_ref-behind.result.now ≡ self.behind = c.as_ref-behind.ensures in
    let kept : c.deref.result.now ≡ self.behind.logs.items = c.deref.ensures.value
    ∙ ap (λ (b : Behind g.row.H.Denot). b.logs.items) behind in
    let tells : TellWinners bytes (span_of wanted.low.now wanted.high.now) way (own ++ es) sources =
    subst (λ (l : List Entry). TellWinners bytes (span_of wanted.low.now wanted.high.now) way (own ++ l) sources)
    (ap (λ (b : Behind g.row.H.Denot). (self.active.entries ++ held_entries b.frozen.items) ++ joined has.tabled) behind ∙ sym has.entries)
    (c.in_ok-sources.ensures.winners has.tabled
    (subst (λ (b : Behind g.row.H.Denot). AreOf bytes (tables_of b.levels) has.tabled) (sym behind) has.tables)
    (subst (λ (b : Behind g.row.H.Denot). AreInOrder b.levels) (sym behind) has.in_order)) in
    let give = tells.give in
    let all : List Entry = flat_map (λ (l : List Entry). l) tells.left in
    let seen : List Entry = visible hiding.Gone number (merged way all) in
    let led = λ (key : List ℕ). ap
    (λ (l : List (SealedLog g.row.H.Denot)). resolved_at (stored_in bytes l) (winner es key number)) kept
    ∙ same_led bytes self es logs has number key in
    let along = c.visible_entries_are_the_winners.ensures.along hiding.Gone way all number in
    let winners = λ (key : List ℕ). c.visible_entries_are_the_winners.ensures.winners hiding.Gone way all key number in
    let left = c.new-visible.ensures.left
    ∙ ap (option_map (visible hiding.Gone number))
    (c.in_ok-new.ensures.left ∙ ap (merge_of way) tells.told ∙ c.merge_of_told_sources.ensures way tells.left give.along) in
    scan_answers (stored_in bytes c.deref.result.now) logs es number c.args.own.now wanted all seen led
    (λ key. give.winners key number) along winners _
    (λ name place bad. tells.sound name place (c.in_ok-new.ensures.may_fail _ (c.new-visible.ensures.may_fail _ bad)))
    c.take_rows.result
    (c.take_rows.ensures.answers (subst (AreTold bytes) (sym kept) has.told) seen left
    (all_kept (stored_in bytes c.deref.result.now) logs es number c.args.own.now wanted all seen led
    (λ key. give.winners key number) along winners))

pub returns-clause-near : goal.returns-clause-near
returns-clause-near g c untabled near =
    let self = c.args.self.now in
    let bytes = g.H.HeldFile.bytes in
    let number = c.args.number in
    let wanted = c.args.wanted in
    let way = wanted.way in
    let b = c.as_ref-behind.result.now in
    let behind : b ≡ self.behind = c.as_ref-behind.ensures in
    let none = ap (λ (d : Behind g.row.H.Denot). tables_of d.levels) behind ∙ untabled in
    let es : List Entry = (self.active.entries ++ held_entries b.frozen.items) ++ joined [] in
    let all_are = near_behind self b behind near in
    let tells = c.in_ok-sources.ensures.winners [] (subst (λ (ts : List (Table g.row.H.Denot)). AreOf bytes ts []) (sym none) tt)
    (none_in_order b.levels none) in
    let give = tells.give in
    let all : List Entry = flat_map (λ (l : List Entry). l) tells.left in
    let seen : List Entry = visible hiding.Gone number (merged way all) in
    let along = c.visible_entries_are_the_winners.ensures.along hiding.Gone way all number in
    let winners = λ (key : List ℕ). c.visible_entries_are_the_winners.ensures.winners hiding.Gone way all key number in
    let left = c.new-visible.ensures.left
    ∙ ap (option_map (visible hiding.Gone number))
    (c.in_ok-new.ensures.left ∙ ap (merge_of way) tells.told ∙ c.merge_of_told_sources.ensures way tells.left give.along) in
    let held = stored_in bytes self.behind.logs.items in
    c.take_rows.ensures.near seen left
    (all_near held held es number c.args.own.now wanted all seen (λ key. refl) (λ key. give.winners key number) along winners all_are)
    (λ fault may. c.in_ok-sources.ensures.quiet none fault
    (c.in_ok-new.ensures.may_fail fault (c.new-visible.ensures.may_fail fault may)))

pub returns-clause-fault : goal.returns-clause-fault
returns-clause-fault g c =
    let self = c.args.self.now in
    let bytes = g.H.HeldFile.bytes in
    let span = span_of c.args.wanted.low.now c.args.wanted.high.now in
    let behind : c.as_ref-behind.result.now ≡ self.behind = c.as_ref-behind.ensures in
    let kept : c.deref.result.now ≡ self.behind.logs.items = c.deref.ensures.value
    ∙ ap (λ (b : Behind g.row.H.Denot). b.logs.items) behind in
    IfErr-weaker c.take_rows.result _ (IsScanFault bytes span (tables_in self) self.behind.logs.items)
    (λ fault may. subst (λ (l : List (SealedLog g.row.H.Denot)). IsScanFault bytes span (tables_in self) l fault) kept
    (scan_fault bytes span (tables_in self) c.deref.result.now _ fault
    (λ bad. subst (λ (b : Behind g.row.H.Denot). IsMetFault bytes span (tables_of b.levels) fault) behind
    (c.in_ok-sources.ensures.faults fault (c.in_ok-new.ensures.may_fail fault (c.new-visible.ensures.may_fail fault bad)))) may))
    c.take_rows.ensures.fault

pub returns-clause-whole : goal.returns-clause-whole
returns-clause-whole g c =
    let self = c.args.self.now in
    let bytes = g.H.HeldFile.bytes in
    let wanted = c.args.wanted in
    let way = wanted.way in
    let span = span_of wanted.low.now wanted.high.now in
    let behind : c.as_ref-behind.result.now ≡ self.behind = c.as_ref-behind.ensures in
    let sources = c.in_ok-sources.sources.items in
    let read : (is_met : Entry → Bool) → SourcesStand bytes is_met sources → LevelsReadTo bytes span way is_met self.behind.levels =
    λ is_met stand. subst (λ (b : Behind g.row.H.Denot). LevelsReadTo bytes span way is_met b.levels) behind
    (c.in_ok-sources.ensures.reads is_met stand) in
    if_ok_both c.take_rows.result _ _ _
    (λ rows to end. record {
      all = λ few. read (λ e. false)
          (c.in_ok-new.ensures.stands (λ e. false) (none_upward way) (c.new-visible.ensures.stands (λ e. false) (end few)));
      to_rows = rows_weaker _ (λ row. LevelsReadTo bytes span way (is_past way row.0) self.behind.levels)
          (λ row stands. read (is_past way row.0)
          (c.in_ok-new.ensures.stands (is_past way row.0) (past_upward way row.0) (c.new-visible.ensures.stands (is_past way row.0) stands)))
          rows.items to;
    })
    (c.take_rows.ensures.reaches (is_past way) (past_itself way)) (c.take_rows.ensures.ends (λ e. false))

pub returns-clause-stops : goal.returns-clause-stops
returns-clause-stops g c =
    let self = c.args.self.now in
    let bytes = g.H.HeldFile.bytes in
    let way = c.args.wanted.way in
    let span = span_of c.args.wanted.low.now c.args.wanted.high.now in
    let behind : c.as_ref-behind.result.now ≡ self.behind = c.as_ref-behind.ensures in
    let kept : c.deref.result.now ≡ self.behind.logs.items = c.deref.ensures.value
    ∙ ap (λ (b : Behind g.row.H.Denot). b.logs.items) behind in
    IfErr-weaker c.take_rows.result _ (λ fault. LevelsStop bytes span way self.behind.levels fault ⊎ IsLogFault self.behind.logs.items fault)
    (λ fault may. elim may [
      | inl bad ↦ inl (subst (λ (b : Behind g.row.H.Denot). LevelsStop bytes span way b.levels fault) behind
          (c.in_ok-sources.ensures.stops fault (c.in_ok-new.ensures.may_fail fault (c.new-visible.ensures.may_fail fault bad))))
      | inr log ↦ inr (subst (λ (l : List (SealedLog g.row.H.Denot)). IsLogFault l fault) kept log)
    ])
    c.take_rows.ensures.fault

pub returns-clause-over : goal.returns-clause-over
returns-clause-over g c told =
    let self = c.args.self.now in
    let bytes = g.H.HeldFile.bytes in
    let number = c.args.number in
    let wanted = c.args.wanted in
    let way = wanted.way in
    let span = span_of wanted.low.now wanted.high.now in
    let own = own_entries number (entries c.args.own.now) in
    let sources = c.in_ok-sources.sources.items in
    let behind : c.as_ref-behind.result.now ≡ self.behind = c.as_ref-behind.ensures in
    let kept : c.deref.result.now ≡ self.behind.logs.items = c.deref.ensures.value
    ∙ ap (λ (b : Behind g.row.H.Denot). b.logs.items) behind in
    let good = λ (es : List Entry) (rows : Vec Row Global). AreOver bytes self number wanted.low.now wanted.high.now wanted.limit way
    c.args.own.now es rows.items in
    let bad = λ (es : List Entry) (name : Name) (place : ℕ). LevelsStop bytes span way self.behind.levels (Damaged name place)
    ⊎ SomeAstray (stored_in bytes self.behind.logs.items) es number name place in
    answer_each (HasStanding bytes span way self) good bad c.take_rows.result (λ es has.
    let shows : ShowWinners bytes span way (own ++ es) sources =
    subst (λ (l : List Entry). ShowWinners bytes span way (own ++ l) sources)
    (ap (λ (b : Behind g.row.H.Denot). (self.active.entries ++ held_entries b.frozen.items) ++ joined has.tabled) behind ∙ sym has.entries)
    (c.in_ok-sources.ensures.standing has.tabled
    (subst (λ (b : Behind g.row.H.Denot). AreStanding bytes span way b.levels has.tabled) (sym behind) has.tables)) in
    let give = shows.give in
    let all : List Entry = flat_map (λ (l : List Entry). l) shows.left in
    let seen : List Entry = visible hiding.Gone number (merged way all) in
    let led = λ (key : List ℕ). ap
    (λ (l : List (SealedLog g.row.H.Denot)). resolved_at (stored_in bytes l) (winner es key number)) kept in
    let along = c.visible_entries_are_the_winners.ensures.along hiding.Gone way all number in
    let winners = λ (key : List ℕ). c.visible_entries_are_the_winners.ensures.winners hiding.Gone way all key number in
    let merges = c.in_ok-new.ensures.left ∙ ap (merge_of way) shows.told ∙ c.merge_of_told_sources.ensures way shows.left give.along in
    let left = c.new-visible.ensures.left ∙ ap (option_map (visible hiding.Gone number)) merges in
    let read : (is_met : Entry → Bool) → SourcesStand bytes is_met sources → LevelsReadTo bytes span way is_met self.behind.levels =
    λ is_met stand. subst (λ (b : Behind g.row.H.Denot). LevelsReadTo bytes span way is_met b.levels) behind
    (c.in_ok-sources.ensures.reads is_met stand) in
    let passes = c.take_rows.ensures.passes way
    (c.new-visible.ensures.in_way way (merged way all) merges (c.merged_goes_along.ensures.along way all)) in
    answer_with _ _ (good es) (bad es) c.take_rows.result
    (λ rows scanned behind_each. record {
      scanned = scanned;
      whole = rows_weaker _ (λ row. LevelsReadTo bytes span way (is_beyond way row.0) self.behind.levels)
          (λ row stands. read (is_beyond way row.0) (c.in_ok-new.ensures.stands (is_beyond way row.0) (beyond_upward way row.0)
          (c.new-visible.ensures.stands (is_beyond way row.0) stands)))
          rows.items behind_each;
    })
    (scan_answers_or (stored_in bytes c.deref.result.now) (stored_in bytes self.behind.logs.items) es number c.args.own.now wanted all seen
    led (λ key. give.winners key number) along winners _ (λ name place. LevelsStop bytes span way self.behind.levels (Damaged name place))
    (λ name place bad. subst (λ (b : Behind g.row.H.Denot). LevelsStop bytes span way b.levels (Damaged name place)) behind
    (c.in_ok-sources.ensures.stops (Damaged name place) (c.in_ok-new.ensures.may_fail _ (c.new-visible.ensures.may_fail _ bad))))
    c.take_rows.result
    (c.take_rows.ensures.answers (subst (AreTold bytes) (sym kept) told) seen left
    (all_kept (stored_in bytes c.deref.result.now) (stored_in bytes self.behind.logs.items) es number c.args.own.now wanted all seen led
    (λ key. give.winners key number) along winners)))
    passes)
