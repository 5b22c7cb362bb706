use Rattle.std.proofs.Common.{◌≡◌, ◌-◌, List, cond, sym, ap, ◌∙◌, ◌++◌, ◌∷◌, [], length, slice_get, map}
use Rattle.std.specs.Prelude.{None, nat_le}
use Rattle.std.specs.Box.{boxed_slice_items}
use Rattle.std.specs.Option.{option_copied}
use Rattle.vl_model.specs.Reads.{covered}
use Rattle.vl_model.specs.declared.span.Span.{Span}
use Rattle.vl_txn.specs.Reads.{Notes, with_span, scan_of}
use Rattle.vl_txn.proofs.Noting.{span_noted, covered-scan, as_many, fewer}
use Rattle.vl_txn.proofs.reads.Reads.note_scan.Goals as goal
use Rattle.vl_txn.proofs.reads.Reads.note_scan.Goals.{then-rows-limit, else-rows-limit}

pub returns-clause-ok : goal.returns-clause-ok
returns-clause-ok c own =
    let rows = c.args.rows.now in
    let last : option_copied c.if-rows-limit.last ≡ cond (nat_le c.args.limit (length rows)) (slice_get rows (length rows - 1)) None =
    elim c.if-rows-limit.branch [
      | then-rows-limit w ↦ ap option_copied w.last-is ∙ w.last-last.ensures.value ∙ sym (as_many rows c.args.limit w.if-rows-limit.true)
      | else-rows-limit w ↦ ap option_copied w.last-is ∙ sym (fewer rows c.args.limit w.if-rows-limit.false)
    ] in
    let span = c.in_ok-span.ensures ∙ covered-scan c.args.lo.now c.args.hi.now c.args.limit c.args.way rows own _ last in
    let spans = c.in_ok-push.ensures.items ∙ ap (λ (s : Span). c.self.inside.spans.items ++ (s ∷ [])) span in
    ap (λ (ss : List Span). record { keys = map boxed_slice_items c.self.inside.keys.keys; spans = ss }) spans
    ∙ ap (λ (notes : Notes). with_span notes
    (covered (scan_of c.args.lo.now c.args.hi.now c.args.limit c.args.way rows own))) c.self.view_is

pub returns-clause-noted : goal.returns-clause-noted
returns-clause-noted c =
    let new : Notes = record { keys = map boxed_slice_items c.self.inside.keys.keys; spans = c.push.new.self.items } in
    span_noted (scan_of c.args.lo.now c.args.hi.now c.args.limit c.args.way c.args.rows.now) c.args.self.now new (returns-clause-ok c)
