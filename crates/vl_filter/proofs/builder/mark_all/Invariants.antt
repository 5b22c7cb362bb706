use Rattle.std.proofs.Common.{◌≡◌, ◌<◌, ◌^◌, ◌*◌, ◌||◌, ℕ, get_or, length, take}
use Rattle.vl_filter.specs.Bits.{is_set}
use Rattle.vl_filter.specs.Filters.{is_marked}
use Rattle.vl_filter.proofs.builder.mark_all.Given as goal

abbrev pub invariant-loop-hashes : goal.invariant-loop-hashes
invariant-loop-hashes l = record {
  fits : (k : ℕ) → get_or l.bytes k 0 < 2 ^ 8;
  marked : (p : ℕ) → is_set l.bytes p ≡ (is_marked (8 * length l.initial.bytes) (take l.hashes-index l.keys) p || is_set l.initial.bytes p);
}
