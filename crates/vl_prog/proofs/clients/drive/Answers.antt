use Rattle.std.proofs.Common.{inl, inr, List, ℕ, refl, subst}
use Rattle.vl_script_model.specs.Steps.{Finishes}
use Rattle.vl_script_model.specs.declared.ending.Ending.TheVariants.{Complete, NoMemory}
use Rattle.vl_script_model.specs.laws.Ends.{finish_counts}
use Rattle.vl_prog.proofs.clients.drive.Goals as goal

pub returns-in-Some-clause-prints : goal.returns-in-Some-clause-prints
returns-in-Some-clause-prints g c =
    inl (
      c.in-Some.text.items,
      c.in-Some.ensures c.in-Some.text refl,
      subst (λ (line : List ℕ). Finishes g.K.Sink c.args.sink.now c.finish.new.sink line Complete c.finish.result)
          c.deref.ensures.value c.finish.ensures,
    )

pub returns-in-None-clause-prints : goal.returns-in-None-clause-prints
returns-in-None-clause-prints g c = inr c.finish-in-None.ensures

pub returns-in-Some-clause-sink_faults : goal.returns-in-Some-clause-sink_faults
returns-in-Some-clause-sink_faults g c = finish_counts g.K.Sink _ _ _ Complete c.finish.result (λ e. cc) c.finish.ensures

pub returns-in-None-clause-sink_faults : goal.returns-in-None-clause-sink_faults
returns-in-None-clause-sink_faults g c = finish_counts g.K.Sink _ _ _ NoMemory c.finish-in-None.result (λ e. cc) c.finish-in-None.ensures
