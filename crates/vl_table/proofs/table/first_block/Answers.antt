use Rattle.std.proofs.Common.{rules}
use Rattle.std.proofs.lemmas.List.Sorted.{IsPartitionPoint-from_clause}
use Rattle.vl_table.specs.declared.body.index.BlockPlace.{BlockPlace}
use Rattle.vl_model.specs.laws.Places.{parted_at, point-prefix}
use Rattle.vl_model.specs.Lookups.{is_below}
use Rattle.vl_table.proofs.table.first_block.Goals as goal

pub returns-clause-first : goal.returns-clause-first
returns-clause-first c = λ parted.
    let test = λ (p : BlockPlace). is_below c.args.key.now p.last in
    let blocks = c.args.blocks.now in
    let point = IsPartitionPoint-from_clause test _ _ c.partition_point.ensures.partitioned
    (parted_at test blocks parted) (λ a r q k. search rules) in
    point-prefix test blocks _ c.partition_point.ensures.bound point
