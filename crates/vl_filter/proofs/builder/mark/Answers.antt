use Rattle.std.proofs.Common.{◌≡◌, ◌*◌, ◌||◌, ℕ, arith, ap, ◌∙◌, length}
use Rattle.vl_filter.specs.Bits.{is_set}
use Rattle.vl_filter.specs.Places.{has_place_below}
use Rattle.vl_filter.proofs.builder.mark.Goals as goal

pub returns : goal.returns
returns c =
    let whole : c.loop-index.index ≡ 7 = let past = c.loop-index-test.false in let most = c.loop-index.auto.index-end in omega arith in
    λ p. c.loop-index.invariant p
    ∙ ap (λ (k : ℕ). has_place_below (8 * length c.args.bytes.now) c.args.hashes.now k p || is_set c.args.bytes.now p) whole
