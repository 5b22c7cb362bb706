use Rattle.std.proofs.Common.{◌≡◌, ◌*◌, arith, length}
use Rattle.vl_filter.proofs.PlaceLaws.{all_set, one_unset}
use Rattle.vl_filter.proofs.filter.Filter.has_bits_of.Goals as goal

pub returns-then-not-is_set : goal.returns-then-not-is_set
returns-then-not-is_set c =
    let bytes = c.args.self.now.bytes.now in
    let same : length bytes * 8 ≡ 8 * length bytes = omega arith in
    one_unset c.args.hashes c.loop-index.index
    bytes (length bytes * 8) c.place.result c.is_set.result (let within = c.loop-index-test.true in omega arith) same
    c.place.ensures.is c.is_set.ensures c.if-not-is_set.true

pub returns : goal.returns
returns c =
    let whole : c.loop-index.index ≡ 7 = let past = c.loop-index-test.false in let most = c.loop-index.auto.index-end in omega arith in
    all_set c.args.hashes c.loop-index.index c.args.self.now.bytes.now whole c.loop-index.invariant
