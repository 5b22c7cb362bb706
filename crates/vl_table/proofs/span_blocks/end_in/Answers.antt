use Rattle.std.proofs.Common.{rules}
use Rattle.std.proofs.lemmas.List.Sorted.{IsPartitionPoint-from_clause}
use Rattle.vl_model.specs.laws.Places.{parted_at, point-prefix}
use Rattle.vl_table.proofs.SpanParts.{parted_from}
use Rattle.vl_table.specs.SpanBlocks.{ends_within}
use Rattle.vl_table.proofs.span_blocks.end_in.Goals as goal

pub returns-clause-end : goal.returns-clause-end
returns-clause-end c = λ parted.
    let test = ends_within c.args.span.now in
    let blocks = c.args.blocks.now in
    let point = IsPartitionPoint-from_clause test _ _ c.partition_point.ensures.partitioned
    (parted_at test blocks (parted_from test blocks parted)) (λ a r q k. search rules) in
    point-prefix test blocks _ c.partition_point.ensures.bound point
