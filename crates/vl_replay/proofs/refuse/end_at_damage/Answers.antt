use Rattle.std.proofs.Common.{inl, inr, refl, ◌∙◌, subst, List, ℕ}
use Rattle.vl_script_model.specs.Endings.{damage_line, no_memory_line}
use Rattle.vl_script_model.specs.Steps.{Finishes}
use Rattle.vl_script_model.specs.declared.ending.Ending.TheVariants.{Damaged}
use Rattle.vl_replay.proofs.refuse.end_at_damage.Goals as goal

pub returns-in-Ok : goal.returns-in-Ok
returns-in-Ok g c = inl (
  damage_line c.args.name c.args.place,
  refl,
  subst (λ (line : List ℕ). Finishes g.K.Sink c.args.sink.now c.finish.new.sink line (Damaged c.args.name c.args.place) c.finish.result)
      (c.as_bytes.ensures.value ∙ c.in-Ok.ensures) c.finish.ensures,
)

pub returns-in-Err : goal.returns-in-Err
returns-in-Err g c = inr (no_memory_line, refl, c.finish-in-Err.ensures)
