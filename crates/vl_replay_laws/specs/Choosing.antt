-- Which tables a line has merged.
use Rattle.std.specs.Prelude.{Option}
use Rattle.vl_engine_model.specs.Ruling.{Ruling}
use Rattle.vl_engine_model.specs.Rulings.Drain.{drain_ruling}
use Rattle.vl_engine_model.specs.Rulings.Plan.{plan_ruling}
use Rattle.vl_engine_model.specs.Store.Lines.{Name}
use Rattle.vl_engine_model.specs.declared.job.Job.{Job}
use Rattle.vl_engine_model.specs.declared.layout.Layout.{Layout}
use Rattle.vl_model.specs.History.{History}
use Rattle.vl_replay_laws.specs.declared.choice.Choice.{Choice}
use Rattle.vl_replay_laws.specs.declared.choice.Choice.TheVariants.{Due, LeadsInto}
use Rattle.vl_script.specs.declared.line.Line.{Line}
use Rattle.vl_script.specs.declared.line.Line.TheVariants.{Drain, Plan}

-- the merge that is planned
abbrev pub chosen : Choice → Layout → History → Ruling (Option Job)
chosen Due l h = plan_ruling l h
chosen (LeadsInto segment) l h = drain_ruling l h segment

-- the line that asks for it, and lets a name stand for it
abbrev pub line_for : Choice → Name → Line
line_for Due name = Plan name
line_for (LeadsInto segment) name = Drain name segment
