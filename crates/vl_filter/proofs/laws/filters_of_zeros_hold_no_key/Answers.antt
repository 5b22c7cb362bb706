use Rattle.std.proofs.Common.{ℕ, ◌*◌, ◌&&◌, Bool, ap, length}
use Rattle.std.proofs.Math.ListN.{replicate}
use Rattle.vl_filter.specs.Filters.{are_set}
use Rattle.vl_filter.specs.Places.{hashes_of, place}
use Rattle.vl_filter.proofs.BuildLaws.{zeros_unset}
use Rattle.vl_filter.proofs.laws.filters_of_zeros_hold_no_key.Goals as goal

pub returns : goal.returns
returns c = λ count key.
    let zeros = replicate {A = ℕ} count 0 in
    ap (λ (t : Bool). t && are_set zeros (hashes_of key) 6) (zeros_unset count (place (8 * length zeros) (hashes_of key) 6))
