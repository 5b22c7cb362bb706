use Rattle.vl_engine_model_laws.specs.laws.Beside.{open_begun, open_ended, open_committed, open_rotated, open_flushed}
use Rattle.vl_engine_model_laws.specs.laws.Beside.{open_relocated, open_drawn, open_picked, open_swept, open_keeping}
use Rattle.vl_engine_model_laws.proofs.laws.an_open_job_stays_open_well.Goals as goal

pub returns-clause-begin : goal.returns-clause-begin
returns-clause-begin c l h job moved ticket k = open_begun l h job moved k ticket

pub returns-clause-end : goal.returns-clause-end
returns-clause-end c l h job moved ticket k = open_ended l h job moved k ticket

pub returns-clause-commit : goal.returns-clause-commit
returns-clause-commit c l h job moved ticket writes k = open_committed l h job moved k ticket writes

pub returns-clause-rotate : goal.returns-clause-rotate
returns-clause-rotate c l h job moved k = open_rotated l h job moved k

pub returns-clause-flush : goal.returns-clause-flush
returns-clause-flush c l h job moved s level deeper waits are k = open_flushed l h job moved k s level deeper waits are

pub returns-clause-relocate : goal.returns-clause-relocate
returns-clause-relocate c l h job moved records k = open_relocated l h job moved k records

pub returns-clause-fresh : goal.returns-clause-fresh
returns-clause-fresh c l h job moved k = open_drawn l h job moved k

pub returns-clause-pick : goal.returns-clause-pick
returns-clause-pick c l h job moved segment k = open_picked l h job moved k segment

pub returns-clause-sweep : goal.returns-clause-sweep
returns-clause-sweep c l h job moved gone k = open_swept l h job moved k gone

pub returns-clause-keep : goal.returns-clause-keep
returns-clause-keep c l h job moved v known k = open_keeping l h job moved k v known
