use Rattle.std.proofs.Common.{◌≡◌, ◌≤◌, ◌-◌, ◌∙◌, ◌++◌, List, ap, arith, refl}
use Rattle.std.proofs.lemmas.List.{take_all}
use Rattle.std.specs.List.{slice_get}
use Rattle.std.specs.Option.{option_map}
use Rattle.vl_model.specs.declared.entry.Entry.{Entry}
use Rattle.vl_model.specs.EntryOrder.{within}
use Rattle.vl_table.specs.CursorParts.{blocks_over, entries_told, rise_over}
use Rattle.vl_table.specs.Stretches.{on_way, stretch_of}
use Rattle.vl_table.specs.declared.stretch.Stretch.{Stretch}
use Rattle.vl_table.specs.declared.table.Table.{Table}
use Rattle.vl_table.proofs.CursorSteps.{left_begun, left_of, none_at}
use Rattle.vl_table.proofs.StandingSteps.{stands_begun}
use Rattle.vl_table.proofs.StoppingSteps.{stops_begun}
use Rattle.vl_table.proofs.StretchSteps.{end_on}
use Rattle.vl_table.proofs.WholeTables.{told_whole}
use Rattle.vl_table.proofs.cursor.TableCursor.new.Goals as goal

pub returns-clause-left : goal.returns-clause-left
returns-clause-left g c = λ ess are.
    let bytes = g.H.HeldFile.bytes in
    let span = c.args.span in
    let way = c.args.way in
    let ts = c.args.tables.items in
    let nothing : Stretch = record { first = 0; end = 0 } in
    let all : Stretch = record { first = 0; end = c.len-end.result } in
    let past : 0 ≤ 0 = omega arith in
    let w = told_whole bytes span way ts ess c.len-end.result (c.len-end.ensures ∙ c.args.tables.ok.0) are in
    (λ i. left_of (w.0 i) (ap (within span) (end_on way nothing c.in_ok-new.field-0 past) i)
    (entries_told bytes span way (none_at way (slice_get ts 0) nothing past i ++ blocks_over span way (on_way way (stretch_of all ts)))))
    ∙ ap (option_map (λ (l : List Entry). l)) w.1

pub returns-clause-begins : goal.returns-clause-begins
returns-clause-begins g c =
    let span = c.args.span in
    let way = c.args.way in
    let ts = c.args.tables.items in
    let nothing : Stretch = record { first = 0; end = 0 } in
    let all : Stretch = record { first = 0; end = c.len-end.result } in
    let past : 0 ≤ 0 = omega arith in
    let whole : stretch_of all ts ≡ ts = take_all (c.len-end.result - 0) ts (omega (arith, c.len-end.ensures, c.args.tables.ok.0)) in
    record {
      tables = refl;
      span = refl;
      way = refl;
      unread = λ i. none_at way (slice_get ts 0) nothing past i ++ blocks_over span way (on_way way (whole i));
      none = ap (within span) (end_on way nothing c.in_ok-new.field-0 past);
    }

pub returns-clause-tells : goal.returns-clause-tells
returns-clause-tells g c =
    let bytes = g.H.HeldFile.bytes in
    let span = c.args.span in
    let way = c.args.way in
    let ts = c.args.tables.items in
    let begins = returns-clause-begins g c in
    (λ i. left_of (rise_over span ts) (begins.none i) (entries_told bytes span way (begins.unread i)))
    ∙ left_begun (rise_over span ts) (entries_told bytes span way (blocks_over span way (on_way way ts)))

pub returns-clause-may_fail : goal.returns-clause-may_fail
returns-clause-may_fail g c = λ fault fails.
    stops_begun g.H.HeldFile.bytes c.args.tables.items c.args.span c.args.way _ (returns-clause-begins g c) fault fails

pub returns-clause-stands : goal.returns-clause-stands
returns-clause-stands g c = λ is_met stands.
    stands_begun g.H.HeldFile.bytes is_met c.args.tables.items c.args.span c.args.way _ (returns-clause-begins g c) stands
