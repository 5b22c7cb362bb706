-- One record more is written.
use Rattle.vl_backup.proofs.Batching.{only_writes, written_next}
use Rattle.vl_backup.proofs.loading.write_all.Goals as goal

pub loop-key-preserved : goal.loop-key-preserved
loop-key-preserved g c = record {
  written = written_next c.loop-key.txn.writes c.write_change.new.txn.writes c.args.records.now c.loop-key.key-index
      c.loop-key-item.result _ c.loop-key-test.true c.loop-key-item.is c.in_ok-write_change.ensures.written
      c.loop-key.invariant.written;
  keeps = only_writes c.args.txn.now c.loop-key.txn c.write_change.new.txn c.loop-key.invariant.keeps
      c.write_change.ensures.keeps;
}
