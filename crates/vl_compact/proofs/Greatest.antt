-- The greatest version of the deletions that a merge drops.
use Rattle.std.proofs.Common.{◌≡◌, List, [], ◌∷◌, refl, ap, ◌∙◌}
use Rattle.std.specs.Prelude.{max}
use Rattle.vl_compact.specs.Keys.{all_named}
use Rattle.vl_compact.specs.Racing.{greatest}
use Rattle.vl_compact.specs.laws.WalkLaws.{gone-in_order}
use Rattle.vl_engine_model.specs.Merging.{gone_after, needless}
use Rattle.vl_engine_model.specs.declared.job.Job.{Job}
use Rattle.vl_model.specs.Entries.{in_order}
use Rattle.vl_model.specs.declared.entry.Entry.{Entry}

greatest_of : (es : List Entry) → greatest (all_named es) ≡ gone_after 0 es
greatest_of [] = refl
greatest_of (e ∷ es) = ap (max e.version) (greatest_of es)

-- that of these in order is that of these
pub greatest_gone : (j : Job) → greatest (all_named (in_order (needless j))) ≡ gone_after 0 (needless j)
greatest_gone j = greatest_of (in_order (needless j)) ∙ gone-in_order 0 (needless j)
