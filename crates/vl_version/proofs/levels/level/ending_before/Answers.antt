use Rattle.std.proofs.Common.{rules}
use Rattle.std.proofs.lemmas.List.Sorted.{IsPartitionPoint-from_clause}
use Rattle.vl_model.specs.laws.Places.{parted_at, point-prefix}
use Rattle.vl_version.specs.levels.LevelTables.{ends_before}
use Rattle.vl_version.proofs.levels.level.ending_before.Goals as goal

pub returns-clause-first : goal.returns-clause-first
returns-clause-first g c = λ parted.
    let test = ends_before {H = g.row.H.Denot} c.args.key.now in
    let tables = c.args.tables.now in
    let point = IsPartitionPoint-from_clause test _ _ c.partition_point.ensures.partitioned
    (parted_at test tables parted) (λ a r q k. search rules) in
    point-prefix test tables _ c.partition_point.ensures.bound point
