use Rattle.std.proofs.Common.{◌∙◌, ap, arith, length}
use Rattle.vl_table.specs.declared.body.shape.TableShape.{TableShape}
use Rattle.vl_table.specs.SpanBlocks.{blocks_in, rises_over}
use Rattle.vl_table.proofs.CursorSteps.{begun, begun_fewer, named_at, none_left}
use Rattle.vl_table.proofs.StretchSteps.{less_on}
use Rattle.vl_table.proofs.cursor.TableCursor.enter.Goals as goal

pub returns-in_default-clause-none : goal.returns-in_default-clause-none
returns-in_default-clause-none g c = λ ends.
    let s = c.args.self.now in
    none_left s.span s.way s.tables.items s.later s.table s.blocks c.in_default.ensures.none c.requires

pub invariant_of-self : goal.invariant_of-self
invariant_of-self g c =
    let s = c.args.self.now in
    let t = c.index.result.now in
    let less = less_on s.way s.later c.in-Some.rest c.in-Some.at c.in-Some.ensures.found in
    record {
      known = omega (arith, less.2, s.known);
      named = named_at s.tables.items c.in-Some.at t c.blocks_in-blocks.result.end c.index.ensures (omega (arith, less.1, s.known))
          (omega (arith, c.blocks_in-blocks.ensures.within, ap (λ (h : TableShape). length h.blocks.items) c.shape.ensures));
      inside = s.inside;
      few = s.few;
    }

pub returns-clause-unread : goal.returns-clause-unread
returns-clause-unread g c = λ rises.
    let s = c.args.self.now in
    let t = c.index.result.now in
    begun s.span s.way s.tables.items s.later c.in-Some.rest c.in-Some.at s.table t s.blocks c.blocks_in-blocks.result
    s.known c.in-Some.ensures.found c.index.ensures c.requires
    (λ rise. c.blocks_in-blocks.ensures.exact (ap (λ (h : TableShape). rises_over s.span h.blocks.items) c.shape.ensures ∙ rise)
    ∙ ap (blocks_in s.span) c.shape.ensures) rises

pub returns-clause-fewer : goal.returns-clause-fewer
returns-clause-fewer g c =
    let s = c.args.self.now in
    let t = c.index.result.now in
    begun_fewer s.way s.tables.items s.later c.in-Some.rest c.in-Some.at t s.blocks c.blocks_in-blocks.result s.known
    c.in-Some.ensures.found c.index.ensures
    (omega (arith, c.blocks_in-blocks.ensures.within, ap (λ (h : TableShape). length h.blocks.items) c.shape.ensures))
