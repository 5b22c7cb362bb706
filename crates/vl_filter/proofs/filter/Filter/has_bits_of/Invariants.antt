use Rattle.std.proofs.Common.{◌≡◌, true}
use Rattle.vl_filter.specs.Filters.{are_set}
use Rattle.vl_filter.proofs.filter.Filter.has_bits_of.Given as goal

abbrev pub invariant-loop-index : goal.invariant-loop-index
invariant-loop-index l = are_set l.self.bytes.now l.hashes l.index ≡ true
