use Rattle.std.proofs.Common.{List, subst}
use Rattle.vl_compact.specs.Stops.{InputsReadTo}
use Rattle.vl_table.specs.declared.table.Table.{Table}
use Rattle.vl_compact.proofs.job.Job.keeping.Goals as goal

pub returns-clause-stands : goal.returns-clause-stands
returns-clause-stands g c = λ is_met upward stands.
    subst (λ (l : List (Table g.row.H.Denot)). InputsReadTo g.H.HeldFile.bytes c.args.self.now.after is_met l) c.deref-2.ensures.value
    (c.in_ok-merged.ensures.stands is_met upward stands)
