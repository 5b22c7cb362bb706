use Rattle.std.proofs.Common.{◌≡◌, ◌++◌, ap, sym, subst, ◌∙◌, List, Some, ℕ}
use Rattle.std.specs.FinMap.{is_sorted}
use Rattle.std.specs.List.{flat_map}
use Rattle.std.specs.Option.{option_map}
use Rattle.vl_memtable.specs.declared.frozen_log.FrozenLog.{FrozenLog}
use Rattle.vl_merge.specs.MergeOf.{merge_of}
use Rattle.vl_merge.specs.Visible.{shown, visible}
use Rattle.vl_merge.specs.declared.hides.Hides.{Hides}
use Rattle.vl_model.specs.Cutting.{joined}
use Rattle.vl_model.specs.Keys.{key_cmp}
use Rattle.vl_model.specs.Merging.{merged}
use Rattle.vl_model.specs.Winners.{winner}
use Rattle.vl_model.specs.declared.entry.Entry.{Entry}
use Rattle.vl_model.specs.declared.way.Way.TheVariants.{Up}
use Rattle.vl_version.specs.Changes.{AreLevelsSince, everywhere, hiding, nothing, tables_since}
use Rattle.vl_version.specs.Gathered.{TellWinners}
use Rattle.vl_version.specs.Sources.{held_entries, stored_in, tables_in}
use Rattle.vl_version.specs.declared.behind.Behind.{Behind}
use Rattle.vl_version.specs.levels.LevelsLooked.{tables_of}
use Rattle.vl_version.proofs.AnswerLaws.{same_led}
use Rattle.vl_version.proofs.ChangeRows.{are_led}
use Rattle.vl_version.proofs.CutLaws.{true_T}
use Rattle.vl_version.proofs.SinceLaws.{all_since, fault_since, in_order_since, lists_since, of_copies, shown_since}
use Rattle.vl_version.proofs.WholeLaws.{none_upward}
use Rattle.vl_version.proofs.WholeSince.{read_since}
use Rattle.vl_version.proofs.version.Version.changes.Goals as goal

pub returns-clause-left : goal.returns-clause-left
returns-clause-left g c es logs ws has changes =
    let self = c.args.self.now in
    let bytes = g.H.HeldFile.bytes in
    let number = c.args.number in
    let since = c.args.since in
    let behind : c.as_ref-behind.result.now ≡ self.behind = c.as_ref-behind.ensures in
    let copies = c.in_ok-levels.levels in
    let same : AreLevelsSince bytes since self.behind.levels copies =
    subst (λ (b : Behind g.row.H.Denot). AreLevelsSince bytes since b.levels copies) behind c.in_ok-levels.ensures in
    let ts = tables_of self.behind.levels in
    let kept = lists_since since ts has.tabled in
    let held = self.active.entries ++ held_entries self.behind.frozen.items in
    let sources = c.in_ok-sources.sources.items in
    let tells : TellWinners bytes everywhere Up (held ++ joined kept) sources =
    subst (λ (l : List FrozenLog). TellWinners bytes everywhere Up ((self.active.entries ++ held_entries l) ++ joined kept)
    sources)
    (c.deref.ensures.value ∙ ap (λ (b : Behind g.row.H.Denot). b.frozen.items) behind)
    (c.in_ok-sources.ensures.winners kept
    (of_copies bytes since ts (tables_of copies) has.tabled has.tables (all_since bytes since self.behind.levels copies same))
    (in_order_since bytes since self.behind.levels copies has.tabled same has.in_order has.tables)) in
    let give = tells.give in
    let all : List Entry = flat_map (λ (l : List Entry). l) tells.left in
    let hides = hiding since in
    let seen : List Entry = visible hides number (merged Up all) in
    let winners = λ (key : List ℕ). c.visible_entries_are_the_winners.ensures.winners hides Up all key number
    ∙ ap (shown hides) (give.winners key number)
    ∙ shown_since bytes since number held ts has.tabled has.tables key
    ∙ ap (λ (l : List Entry). shown hides (winner l key number)) (sym has.entries) in
    record {
      logs = has.told;
      left = seen;
      told = c.with.ensures.left
          ∙ ap (option_map (visible c.hiding.result number))
          (c.in_ok-merge.ensures.left ∙ ap (merge_of Up) tells.told ∙ c.merge_of_told_sources.ensures Up tells.left give.along)
          ∙ ap (λ (h : Hides). Some (visible h number (merged Up all))) c.hiding.ensures;
      led = are_led (stored_in bytes self.behind.logs.items) es since number ws
          (λ key. let t = changes.told key in
          record { value = t.value; led = same_led bytes self es logs has number key ∙ t.led; change = t.change })
          seen (c.visible_entries_are_the_winners.ensures.along hides Up all number) winners
          (true_T (is_sorted key_cmp ws) changes.rising);
      sound = λ name place bad. tells.sound name place (c.in_ok-merge.ensures.may_fail _ (c.with.ensures.may_fail _ bad));
    }

pub returns-clause-over : goal.returns-clause-over
returns-clause-over g c fault may =
    let self = c.args.self.now in
    let bytes = g.H.HeldFile.bytes in
    let since = c.args.since in
    let copies = c.in_ok-levels.levels in
    let same : AreLevelsSince bytes since self.behind.levels copies =
    subst (λ (b : Behind g.row.H.Denot). AreLevelsSince bytes since b.levels copies) c.as_ref-behind.ensures
    c.in_ok-levels.ensures in
    fault_since bytes everywhere (tables_since since (tables_in self)) (tables_of copies)
    (all_since bytes since self.behind.levels copies same) fault
    (c.in_ok-sources.ensures.faults fault (c.in_ok-merge.ensures.may_fail fault (c.with.ensures.may_fail fault may)))

pub returns-clause-whole : goal.returns-clause-whole
returns-clause-whole g c to =
    let self = c.args.self.now in
    let bytes = g.H.HeldFile.bytes in
    let since = c.args.since in
    let copies = c.in_ok-levels.levels in
    let same : AreLevelsSince bytes since self.behind.levels copies =
    subst (λ (b : Behind g.row.H.Denot). AreLevelsSince bytes since b.levels copies) c.as_ref-behind.ensures c.in_ok-levels.ensures in
    read_since bytes since self.behind.levels copies same
    (c.in_ok-sources.ensures.reads nothing
    (c.in_ok-merge.ensures.stands nothing (none_upward Up) (c.with.ensures.stands nothing to)))
