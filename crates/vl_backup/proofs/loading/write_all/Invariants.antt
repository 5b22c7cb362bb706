use Rattle.std.proofs.Common.{◌≡◌, drop}
use Rattle.vl_backup.specs.Written.{written_all}
use Rattle.vl_reads.specs.Reading.{OnlyWrites}
use Rattle.vl_backup.proofs.loading.write_all.Given as goal

-- what is still to be written makes of it what all of them make
abbrev pub invariant-loop-key : goal.invariant-loop-key
invariant-loop-key g l = record {
  written : written_all l.txn.writes (drop l.key-index l.records) ≡ written_all l.fn.txn.writes l.records;
  keeps : OnlyWrites l.fn.txn l.txn;
}
