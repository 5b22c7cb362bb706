use Rattle.std.specs.Prelude.{Option, None}
use Rattle.std.specs.List.{flat_map}
use Rattle.std.specs.Option.{option_map}
use Rattle.std.proofs.Common.{[], ◌∷◌, refl, sym, subst}
use Rattle.vl_compact.proofs.Into.{none_both}
use Rattle.vl_compact.proofs.MergeLaws.{drain_some}
use Rattle.vl_compact.specs.Laid.{IsTableOf}
use Rattle.vl_compact.specs.Merges.{IsMerge}
use Rattle.vl_engine_model.specs.Levels.{first_into}
use Rattle.vl_engine_model.specs.declared.job.Target.TheVariants.{InPlace}
use Rattle.vl_engine_model.specs.declared.table.Table as laid
use Rattle.vl_compact.proofs.plan.drained.Goals as goal

pub returns-in-None-clause-merge : goal.returns-in-None-clause-merge
returns-in-None-clause-merge g c = λ ls are.
    subst (λ (o : Option laid.Table). IsMerge g.H.HeldFile.bytes None (option_map (λ t. record { tables = t ∷ []; target = InPlace }) o))
    (sym (none_both (IsTableOf g.H.HeldFile.bytes) (first_into c.args.segment (flat_map (λ level. level) ls))
    (c.in-None.ensures.laid ls are))) tt

pub returns-in_ok-alone-in-Some-clause-merge : goal.returns-in_ok-alone-in-Some-clause-merge
returns-in_ok-alone-in-Some-clause-merge g c = λ ls are.
    drain_some g.H.HeldFile.bytes _ (IsTableOf g.H.HeldFile.bytes) c.in-Some.table.now c.args.segment ls (c.in-Some.ensures.laid ls are)
    (λ t is. record { tables = c.in_ok-alone-in-Some.ensures t is; target = refl })
