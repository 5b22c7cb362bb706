-- What a ruling makes of a merge that is planned.
use Rattle.std.specs.Prelude.{Option, Some, None}
use Rattle.vl_compact.specs.Merges.{Merge}
use Rattle.vl_model.specs.History.{History}
use Rattle.vl_engine_model.specs.Ruling.{Ruling, leaving}
use Rattle.vl_engine_model.specs.Rulings.Plan.{job_of, planned}
use Rattle.vl_engine_model.specs.declared.job.Job.{Job}
use Rattle.vl_engine_model.specs.declared.layout.Layout.{Layout}

-- its job is begun; where there is none nothing changes
abbrev pub merge_ruling : Layout → History → Option Merge → Ruling (Option Job)
merge_ruling l h None = leaving None h l
merge_ruling l h (Some merge) = planned l h (job_of l h merge.tables merge.target)
