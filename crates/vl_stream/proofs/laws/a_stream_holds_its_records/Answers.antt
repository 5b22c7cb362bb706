use Rattle.vl_stream.specs.laws.BackupLaws.{stream_holds}
use Rattle.vl_stream.specs.laws.BatchLaws.{are_batches, one_parting_of}
use Rattle.vl_stream.proofs.laws.a_stream_holds_its_records.Goals as goal

pub returns-clause-parted : goal.returns-clause-parted
returns-clause-parted c = are_batches

pub returns-clause-alone : goal.returns-clause-alone
returns-clause-alone c = one_parting_of

pub returns-clause-holds : goal.returns-clause-holds
returns-clause-holds c = stream_holds
