use Rattle.std.proofs.Common.{◌∷◌, ◌∙◌, ap, arith, sym}
use Rattle.vl_model.specs.declared.entry.Entry.{Entry}
use Rattle.vl_model.specs.EntryOrder.{within}
use Rattle.vl_table.specs.body.Entries.{entry_of}
use Rattle.vl_table.specs.Stretches.{on_way, stretch_of}
use Rattle.vl_table.proofs.CursorSteps.{gives_next, skips_next}
use Rattle.vl_table.proofs.StretchSteps.{less_on}
use Rattle.vl_table.proofs.cursor.TableCursor.give.Goals as goal

pub returns-then-is_in_span-clause-given : goal.returns-then-is_in_span-clause-given
returns-then-is_in_span-clause-given g c =
    let s = c.skips.self in
    let e = entry_of c.get-entry.result in
    sym c.skips.invariant.left
    ∙ gives_next s.span s.way s.block s.entries c.in-Some.rest c.in-Some.at e c.in-Some.ensures.found s.inside
    c.get-entry.ensures (sym c.is_in_span.ensures ∙ c.if-is_in_span.true)
    ∙ ap (λ (f : Entry). f ∷ within s.span (on_way s.way (stretch_of c.in-Some.rest s.block))) (sym c.in_ok-given.ensures)

pub skips-preserved : goal.skips-preserved
skips-preserved g c =
    let s = c.skips.self in
    let e = entry_of c.get-entry.result in
    let before = c.skips.invariant in
    let less = less_on s.way s.entries c.in-Some.rest c.in-Some.at c.in-Some.ensures.found in
    record {
      left = sym (skips_next s.span s.way s.block s.entries c.in-Some.rest c.in-Some.at e c.in-Some.ensures.found
          s.inside c.get-entry.ensures (sym c.is_in_span.ensures ∙ c.if-is_in_span.false))
          ∙ before.left;
      fewer = omega (arith, less.0, before.fewer);
      stays = record {
        goes = record { tables = before.stays.goes.tables; span = before.stays.goes.span; way = before.stays.goes.way };
        later = before.stays.later;
        table = before.stays.table;
        blocks = before.stays.blocks;
      };
    }
