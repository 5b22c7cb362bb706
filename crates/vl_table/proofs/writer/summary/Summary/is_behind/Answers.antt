use Rattle.std.proofs.Common.{◌≡◌, ◌∙◌, ap, sym}
use Rattle.std.specs.Ordering.{is_lt}
use Rattle.vl_table.proofs.Behind.{last_cmp, less_from, next_from, next_less}
use Rattle.vl_table.proofs.writer.summary.Summary.is_behind.Goals as goal

pub returns : goal.returns
returns c = λ es some sums.
    let s = c.args.self.now in
    let e = c.args.entry.now in
    let stands : c.place_order.result ≡ last_cmp s.last s.last_version e =
    c.place_order.ensures ∙ (λ i. last_cmp (c.as_slice.ensures i) s.last_version
    (record e { key = c.place.ensures.key i; version = c.place.ensures.version i })) in (
      λ less. next_from es e s.last s.last_version some sums.last sums.last_version
          (sym stands ∙ less_from c.place_order.result (sym c.is_lt.ensures ∙ less)),
      λ next. c.is_lt.ensures ∙ ap is_lt (stands ∙ next_less es e s.last s.last_version some sums.last sums.last_version next),
    )
