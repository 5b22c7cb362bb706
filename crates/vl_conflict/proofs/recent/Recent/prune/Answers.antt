use Rattle.std.proofs.Common.{List, sym, ap, ◌∙◌, subst}
use Rattle.std.specs.List.{filter}
use Rattle.std.specs.FinMap.{is_sorted}
use Rattle.vl_model.specs.Keys.{key_cmp}
use Rattle.vl_model.specs.Conflicts.{Named}
use Rattle.vl_conflict.specs.Notes.{Kept, is_above_floor}
use Rattle.vl_conflict.specs.laws.OrderLaws.{filter_rises}
use Rattle.vl_conflict.specs.Recent.{Remembers}
use Rattle.vl_conflict.specs.laws.RecentLaws.{pruned}
use Rattle.vl_conflict.proofs.recent.Recent.prune.Goals as goal

pub invariant_of-self : goal.invariant_of-self
invariant_of-self c = (
  ap (is_sorted key_cmp) c.retain_above.ensures.named
      ∙ filter_rises (is_above_floor c.args.floor) c.self.inside.notes.named c.self.invariant.0,
  c.retain_above.ensures.shallow,
)

pub returns-clause-remembers : goal.returns-clause-remembers
returns-clause-remembers c h least remembers le =
    subst (λ (named : List Named). Remembers c.args.floor h named)
    (sym (c.retain_above.ensures.named ∙ ap (λ (k : Kept). filter (is_above_floor c.args.floor) k.named) c.self.view_is))
    (pruned h least c.args.floor c.args.self.now.named remembers le)
