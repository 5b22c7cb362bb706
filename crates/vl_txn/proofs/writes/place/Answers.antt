use Rattle.std.proofs.Common.{rules, ℕ, List}
use Rattle.std.proofs.lemmas.List.Sorted.{IsPartitionPoint-from_clause}
use Rattle.vl_model.specs.declared.change.Change.{Change}
use Rattle.vl_txn.specs.Writes.{is_above}
use Rattle.vl_txn.proofs.Places.{partitioned, prefix_len-point}
use Rattle.vl_txn.proofs.WriteEntries.{is_sorted-parted}
use Rattle.vl_txn.proofs.writes.place.Goals as goal

pub returns : goal.returns
returns c =
    let test = λ (e : List ℕ × Change). is_above c.args.key.now e in
    let entries = c.args.entries.now in
    let point = IsPartitionPoint-from_clause test _ _ c.partition_point.ensures.partitioned
    (partitioned test entries (is_sorted-parted c.args.key.now entries c.requires)) (λ a r q k. search rules) in
    prefix_len-point test entries _ c.partition_point.ensures.bound point
