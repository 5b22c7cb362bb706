use Rattle.std.proofs.Common.{◌≡◌, length, ap, sym, ◌∙◌, arith}
use Rattle.std.specs.Prelude.{min}
use Rattle.std.specs.List.{prefix_len}
use Rattle.vl_model.specs.Lookups.{is_not_past, is_short_of}
use Rattle.vl_model.specs.EntryOrder.{along, between, within}
use Rattle.vl_model.specs.laws.OrderLaws.{rising}
use Rattle.vl_memtable.proofs.Spans.{between-cut, between-within, prefix_len-le}
use Rattle.vl_memtable.proofs.run.Run.cursor_within.Goals as goal

pub between-requires : goal.between-requires
between-requires c =
    let end = prefix_len-le (is_not_past c.args.span.now) c.as_slice-entries.result.now in (
      omega (arith, c.min-first.ensures),
      omega (arith, c.end_of-end.ensures, end, ap length c.in_ok-share.ensures, ap length c.as_slice-entries.ensures.entries),
    )

pub returns : goal.returns
returns c =
    let entries = c.as_slice-entries.result.now in
    let start = prefix_len (is_short_of c.args.span.now) entries in
    let end = prefix_len (is_not_past c.args.span.now) entries in
    let first : c.min-first.result ≡ min start end = c.min-first.ensures
    ∙ ap (λ n. min n c.end_of-end.result) c.start_of.ensures ∙ ap (min start) c.end_of-end.ensures in
    c.between.ensures
    ∙ ap (along c.args.way)
    (ap (between c.min-first.result c.end_of-end.result) (c.in_ok-share.ensures ∙ sym c.as_slice-entries.ensures.entries)
    ∙ ap (λ n. between n c.end_of-end.result entries) first ∙ ap (λ n. between (min start end) n entries) c.end_of-end.ensures
    ∙ between-cut start end entries
    ∙ between-within c.args.span.now entries (rising entries c.as_slice-entries.ensures.in_order)
    ∙ ap (within c.args.span.now) c.as_slice-entries.ensures.entries)
