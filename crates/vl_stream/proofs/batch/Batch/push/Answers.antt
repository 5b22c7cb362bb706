use Rattle.std.proofs.Common.{◌≡◌, arith}
use Rattle.vl_stream.specs.Batches.{size_of}
use Rattle.vl_stream.proofs.Sizes.{size_pushed}
use Rattle.vl_stream.proofs.batch.Batch.push.Goals as goal

pub invariant_of-self-2 : goal.invariant_of-self-2
invariant_of-self-2 c =
    let more = size_pushed _ _ _ c.in_ok-push.ensures.items in
    let same : c.in-Some.bytes ≡ size_of c.push.new.self.items =
    omega (arith, more, c.args.self.now.counted, c.value_len.ensures, c.in-Some.ensures.1) in
    record { counted = same }
