use Rattle.vl_reads.proofs.txn.Txn.new.Goals as goal

pub returns-clause-sees : goal.returns-clause-sees
returns-clause-sees g c h sees = record {
  version = sees.version;
  files = sees.files;
  reader = sees.reader;
  notes = c.new.ensures.of_none;
  explained = tt;
}
