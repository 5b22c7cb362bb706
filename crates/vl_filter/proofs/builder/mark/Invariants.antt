use Rattle.std.proofs.Common.{◌≡◌, ◌*◌, ◌||◌, ℕ, length}
use Rattle.vl_filter.specs.Bits.{is_set}
use Rattle.vl_filter.specs.Places.{has_place_below}
use Rattle.vl_filter.proofs.builder.mark.Given as goal

abbrev pub invariant-loop-index : goal.invariant-loop-index
invariant-loop-index l = (p : ℕ)
    → is_set l.bytes p ≡ (has_place_below (8 * length l.initial.bytes) l.hashes l.index p || is_set l.initial.bytes p)
