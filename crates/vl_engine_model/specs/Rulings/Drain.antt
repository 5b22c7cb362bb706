-- A merge of the first table that leads into a segment is begun.
use Rattle.std.specs.Prelude.{ℕ, [], ◌∷◌, Option, Some, None}
use Rattle.vl_model.specs.History.{History}
use Rattle.vl_engine_model.specs.Levels.{first_into}
use Rattle.vl_engine_model.specs.Sources.{tables}
use Rattle.vl_engine_model.specs.Ruling.{Ruling, leaving}
use Rattle.vl_engine_model.specs.Rulings.Plan.{job_of, planned}
use Rattle.vl_engine_model.specs.declared.job.Job.{Job}
use Rattle.vl_engine_model.specs.declared.job.OpenJob.{OpenJob}
use Rattle.vl_engine_model.specs.declared.job.Target.TheVariants.{InPlace}
use Rattle.vl_engine_model.specs.declared.layout.Layout.{Layout}
use Rattle.vl_engine_model.specs.declared.table.Table.{Table}

abbrev pub drain_of : Layout → History → Option Table → Ruling (Option Job)
drain_of l h None = leaving None h l
drain_of l h (Some t) = planned l h (job_of l h (t ∷ []) InPlace)

abbrev pub drain_unless : Option OpenJob → Layout → History → ℕ → Ruling (Option Job)
drain_unless (Some job) l h segment = leaving None h l
drain_unless None l h segment = drain_of l h (first_into segment (tables l))

abbrev pub drain_ruling : Layout → History → ℕ → Ruling (Option Job)
drain_ruling l h segment = drain_unless l.job l h segment
