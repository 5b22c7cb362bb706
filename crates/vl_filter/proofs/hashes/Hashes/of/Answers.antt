use Rattle.std.proofs.Common.{ap, ◌∙◌, take, drop}
use Rattle.byteorder.specs.Endian.{big_number}
use Rattle.vl_filter.specs.Places.{first_hash, second_hash}
use Rattle.vl_filter.proofs.hashes.Hashes.of.Goals as goal

pub returns : goal.returns
unfolding first_hash second_hash
returns c =
    let one = c.read_u64.ensures ∙ ap (big_number 8) c.digest-digest.ensures in
    let two = c.read_u64-2.ensures ∙ ap (λ d. big_number 8 (take 8 (drop 8 d))) c.digest-digest.ensures in
    λ i. record { first = one i; second = two i }
