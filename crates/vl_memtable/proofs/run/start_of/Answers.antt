use Rattle.std.proofs.Common.{rules}
use Rattle.std.proofs.lemmas.List.Sorted.{IsPartitionPoint-from_clause}
use Rattle.vl_model.specs.declared.entry.Entry.{Entry}
use Rattle.vl_model.specs.Lookups.{is_short_of}
use Rattle.vl_model.specs.laws.OrderLaws.{rising}
use Rattle.vl_model.specs.laws.Places.{parted_at, point-prefix}
use Rattle.vl_memtable.proofs.Spans.{short-parted}
use Rattle.vl_memtable.proofs.run.start_of.Goals as goal

pub returns : goal.returns
returns c =
    let test = λ (e : Entry). is_short_of c.args.span.now e in
    let entries = c.args.entries.now in
    let point = IsPartitionPoint-from_clause test _ _ c.partition_point.ensures.partitioned
    (parted_at test entries (short-parted c.args.span.now entries (rising entries c.requires))) (λ a r q k. search rules) in
    point-prefix test entries _ c.partition_point.ensures.bound point
