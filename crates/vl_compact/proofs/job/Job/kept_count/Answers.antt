use Rattle.std.proofs.Common.{List, ap, length, ◌∙◌, ◌-◌, ◌^◌}
use Rattle.std.specs.Prelude.{min}
use Rattle.vl_compact.proofs.Making.{counted_by}
use Rattle.vl_compact.specs.Racing.{entry_count}
use Rattle.vl_compact.specs.declared.files.Synced.{Synced}
use Rattle.vl_engine_model.specs.Merging.{merged_entries, outputs}
use Rattle.vl_engine_model.specs.laws.TableLaws.{cut-whole}
use Rattle.vl_compact.proofs.job.Job.kept_count.Goals as goal

pub returns : goal.returns
returns g c = λ j has.
    c.total.ensures ∙ ap (λ (l : List (Synced g.row.W.Denot g.W.Writer)). min (entry_count l) (2 ^ 64 - 1)) c.deref.ensures.value
    ∙ ap (λ n. min n (2 ^ 64 - 1))
    (counted_by g.W.Writer c.args.self.now.made.items (outputs j) has.made ∙ ap length (cut-whole (merged_entries j)))
