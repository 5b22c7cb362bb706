use Rattle.std.specs.Prelude.{Option}
use Rattle.std.specs.List.{filter}
use Rattle.std.proofs.Common.{[], ◌∷◌, ◌++◌, subst}
use Rattle.vl_compact.specs.Laid.{AreTablesOf}
use Rattle.vl_engine_model.specs.Levels.{Range, meets}
use Rattle.vl_compact.proofs.plan.one_with_next.Goals as goal

pub returns : goal.returns
returns g c = λ t us is are.
    subst (λ (r : Option Range). AreTablesOf g.H.HeldFile.bytes c.add_meeting.new.all.items
    ((t ∷ []) ++ filter (meets r) us)) (c.widened.ensures t is)
    (c.in_ok-add_meeting.ensures (t ∷ []) us (c.in_ok-all.ensures t is) are)
