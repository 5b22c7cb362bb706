use Rattle.std.proofs.Common.{rules, ℕ, List}
use Rattle.std.proofs.lemmas.List.Sorted.{IsPartitionPoint-from_clause}
use Rattle.vl_model.specs.declared.change.Change.{Change}
use Rattle.vl_model.specs.laws.Places.{parted_at, point-prefix}
use Rattle.vl_version.specs.Own.{is_key_below}
use Rattle.vl_version.proofs.CutLaws.{parted}
use Rattle.vl_version.proofs.own.count_below.Goals as goal

pub returns-clause-count : goal.returns-clause-count
returns-clause-count c =
    let test = λ (write : List ℕ × Change). is_key_below c.args.key.now write in
    let writes = c.args.writes.now in
    let point = IsPartitionPoint-from_clause test _ _ c.partition_point.ensures.partitioned
    (parted_at test writes (parted writes c.requires c.args.key.now)) (λ a r q k. search rules) in
    point-prefix test writes _ c.partition_point.ensures.bound point
