-- A merge is given up, and its inputs are free again.
use Rattle.vl_model.specs.History.{History}
use Rattle.vl_engine_model.specs.Jobs.{Made, job_ended}
use Rattle.vl_engine_model.specs.Ruling.{Ruling, leaving}
use Rattle.vl_engine_model.specs.declared.job.Job.{Job}
use Rattle.vl_engine_model.specs.declared.layout.Layout.{Layout}

-- of the open job, which has these tables
abbrev pub abandon_ruling : Layout → History → Job → Made → Ruling (Unit {0})
abandon_ruling l h job made = leaving tt h (job_ended made l)
