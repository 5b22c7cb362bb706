use Rattle.std.proofs.Common.{◌≡◌, ◌++◌, length, map, reverse}
use Rattle.vl_recover.specs.opening.ReadLogs.{entry_of}
use Rattle.vl_recover.proofs.content.with_records.Given as goal

-- the entries so far, and those of the records that are left, are all
abbrev pub invariant-loop-record : goal.invariant-loop-record
invariant-loop-record l = l.all.items ++ reverse (map entry_of l.left.items) ≡ l.fn.entries.items ++ reverse
    (map entry_of l.fn.records.items)

abbrev pub decreases-loop-record : goal.decreases-loop-record
decreases-loop-record l = length l.left.items
