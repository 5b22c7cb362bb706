use Rattle.std.proofs.Common.{◌≡◌, ◌<◌, ◌≤◌, ◌+◌, ◌-◌, ◌*◌}
use Rattle.vl_drive.specs.Knowing.{GoesOn}
use Rattle.vl_sequence.specs.Counting.{HasLeased}
use Rattle.vl_sequence.specs.Sequences.{IsReady}
use Rattle.vl_sequence.proofs.client.take_numbers.Given as goal

abbrev pub invariant-loop-tally : goal.invariant-loop-tally
invariant-loop-tally g l =
    let was = l.fn.sequence in
    let now = l.sequence in
    let v = g.S.Shop.knows was.shop in
    let w = g.S.Shop.knows now.shop in
    GoesOn v w × IsReady w now.key now.lease now.next now.end × (now.key ≡ was.key) × (now.lease ≡ was.lease)
    × (l.tally.given ≤ l.count) × (l.tally.leases ≤ l.tally.given)
    × (l.tally.given + now.end ≡ l.tally.leases * was.lease + now.next) × (now.end < now.next + was.lease)
    × (HasLeased was.key was.lease 0 v → HasLeased was.key was.lease l.tally.leases w)

abbrev pub decreases-loop-tally : goal.decreases-loop-tally
decreases-loop-tally g l = l.count - l.tally.given
