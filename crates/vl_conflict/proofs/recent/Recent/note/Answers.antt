use Rattle.std.proofs.Common.{ap, ◌∙◌}
use Rattle.std.specs.FinMap.{is_sorted}
use Rattle.vl_model.specs.Keys.{key_cmp}
use Rattle.vl_conflict.specs.laws.OrderLaws.{put_rising}
use Rattle.vl_conflict.proofs.recent.Recent.note.Goals as goal

pub invariant_of-self : goal.invariant_of-self
invariant_of-self c = (
  ap (is_sorted key_cmp) c.insert.ensures.named ∙ put_rising c.self.inside.notes.named _ _ c.self.invariant.0,
  c.insert.ensures.shallow,
)
