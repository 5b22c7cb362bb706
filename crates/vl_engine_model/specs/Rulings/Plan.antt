-- A merge of the least level that is due is planned.
use Rattle.std.specs.Prelude.{ℕ, ◌+◌, Bool, false, List, [], ◌∷◌, ◌++◌, map, Option, Some, None}
use Rattle.std.specs.List.{flat_map}
use Rattle.vl_model.specs.History.{History}
use Rattle.vl_model.specs.declared.entry.Entry.{Entry}
use Rattle.vl_engine_model.specs.Levels.{due_from, inputs_at, is_among}
use Rattle.vl_engine_model.specs.Logs.{memtable}
use Rattle.vl_engine_model.specs.Merging.{Sourced}
use Rattle.vl_engine_model.specs.Sources.{tables, floor, numbers_of}
use Rattle.vl_engine_model.specs.Ruling.{Ruling, leaving, pin_of}
use Rattle.vl_engine_model.specs.declared.job.Job.{Job}
use Rattle.vl_engine_model.specs.declared.job.OpenJob.{OpenJob}
use Rattle.vl_engine_model.specs.declared.job.Target.{Target}
use Rattle.vl_engine_model.specs.declared.job.Target.TheVariants.{Level}
use Rattle.vl_engine_model.specs.declared.layout.Layout.{Layout}
use Rattle.vl_engine_model.specs.declared.table.Table.{Table}

abbrev pub marked_as : Bool → List Entry → List Sourced
marked_as input es = map (λ e. (input, e)) es

-- all entries of the sources, each with whether one of these tables has it
abbrev pub sourced : Layout → List ℕ → List Sourced
sourced l inputs =
    marked_as false (flat_map memtable (l.active ∷ l.frozen))
    ++ flat_map (λ (t : Table). marked_as (is_among inputs t) t.entries) (tables l)

-- the merge of these tables
abbrev pub job_of : Layout → History → List Table → Target → Job
job_of l h inputs target =
    record { inputs = numbers_of inputs; target = target; base = sourced l (numbers_of inputs); floor = floor l h; keep = l.keep }

abbrev pub with_job : Job → Layout → Layout
with_job job l = record l { job = Some (record { job = job; pin = pin_of l; moved = []; lent = [] }) }

abbrev pub planned : Layout → History → Job → Ruling (Option Job)
planned l h job = leaving (Some job) h (with_job job l)

-- by the least level that is due
abbrev pub plan_of : Layout → History → Option ℕ → Ruling (Option Job)
plan_of l h None = leaving None h l
plan_of l h (Some level) = planned l h (job_of l h (inputs_at level l.levels) (Level (level + 1)))

-- while a job is open its inputs are busy
abbrev pub plan_unless : Option OpenJob → Layout → History → Ruling (Option Job)
plan_unless (Some job) l h = leaving None h l
plan_unless None l h = plan_of l h (due_from 0 l.levels)

abbrev pub plan_ruling : Layout → History → Ruling (Option Job)
plan_ruling l h = plan_unless l.job l h
