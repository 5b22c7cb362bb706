use Rattle.std.proofs.Common.{◌≡◌, ℕ}
use Rattle.vl_drive.specs.Knowing.{GoesOn}
use Rattle.vl_sequence.specs.Counting.{HasLeased}
use Rattle.vl_sequence.specs.Sequences.{IsReady}
use Rattle.vl_sequence.proofs.client.take_number.Given as goal

abbrev pub invariant-loop : goal.invariant-loop
invariant-loop g l =
    let was = l.fn.sequence in
    let now = l.sequence in
    let v = g.S.Shop.knows was.shop in
    let w = g.S.Shop.knows now.shop in
    GoesOn v w × IsReady w now.key now.lease now.next now.end
    × (now.key ≡ was.key) × (now.lease ≡ was.lease) × (now.next ≡ was.next) × (now.end ≡ was.end)
    × ((leases : ℕ) → HasLeased was.key was.lease leases v → HasLeased was.key was.lease leases w)
