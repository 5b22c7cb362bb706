use Rattle.std.proofs.Common.{ap, ◌∙◌}
use Rattle.vl_model.specs.Merging.{merged}
use Rattle.vl_merge.proofs.MergeLaws.{winner-merged, along-merged}
use Rattle.vl_merge.specs.Visible.{shown}
use Rattle.vl_merge.proofs.Orders.{visible-of_key, along-visible}
use Rattle.vl_merge.proofs.visible_laws.visible_entries_are_the_winners.Goals as goal

pub returns-clause-winners : goal.returns-clause-winners
returns-clause-winners c hides way es key number = visible-of_key key hides number (merged way es) ∙ ap (shown hides) (winner-merged way es key number)

pub returns-clause-along : goal.returns-clause-along
returns-clause-along c hides way es number = along-visible way hides number (merged way es) (along-merged way es)
