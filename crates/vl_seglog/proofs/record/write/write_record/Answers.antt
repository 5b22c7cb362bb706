use Rattle.std.proofs.Common.{arith}
use Rattle.std.proofs.lemmas.Grind.{common_steps}
use Rattle.vl_seglog.specs.Record.{record_bytes}
use Rattle.vl_seglog.proofs.record.write.write_record.Goals as goal

pub returns-in-None-clause-ok : goal.returns-in-None-clause-ok
unfolding record_bytes
returns-in-None-clause-ok c = grind (arith, common_steps)

pub returns-in-Some-clause-ok : goal.returns-in-Some-clause-ok
unfolding record_bytes
returns-in-Some-clause-ok c = grind (arith, common_steps)
