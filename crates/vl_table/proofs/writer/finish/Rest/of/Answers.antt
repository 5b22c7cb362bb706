use Rattle.std.proofs.Common.{◌+◌, ◌∙◌, ap, arith, subst, List}
use Rattle.vl_filter.specs.Filters.{marked_body, marked_bytes}
use Rattle.vl_filter.specs.declared.hashes.Hashes.{Hashes}
use Rattle.vl_frame.specs.declared.kinds.FrameKind.TheVariants as kinds
use Rattle.vl_table.specs.writer.Framing.{IsFramed}
use Rattle.vl_table.proofs.writer.finish.Rest.of.Goals as goal

pub returns-then-foot-gt-MAX_TABLE_BYTES-clause-too_long : goal.returns-then-foot-gt-MAX_TABLE_BYTES-clause-too_long
returns-then-foot-gt-MAX_TABLE_BYTES-clause-too_long c = λ is. record {
  rest = record {
    index = c.in_ok-index.index;
    filter = c.in_ok-filter.filter;
    bits = c.in_ok-filter.bits;
    footer = c.in_ok-footer.footer;
    foot = c.in_ok-foot.foot;
  };
  stands = record {
    index = c.in_ok-index.ensures;
    filter = subst (λ (l : List Hashes). IsFramed c.args.blocks.now.number (c.args.blocks.now.place + c.in_ok-index.index.at.length)
        kinds.Filter (marked_body l) c.in_ok-filter.filter) c.deref.ensures.value c.in_ok-filter.ensures.frame;
    bits = c.in_ok-filter.ensures.bits ∙ ap marked_bytes c.deref.ensures.value;
    says = c.in_ok-footer.ensures;
    foot = c.in_ok-foot.ensures;
  };
  long = omega (arith, c.if-foot-gt-MAX_TABLE_BYTES.true);
}
