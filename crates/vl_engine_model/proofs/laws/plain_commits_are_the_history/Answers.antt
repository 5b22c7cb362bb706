use Rattle.std.proofs.Common.{ℕ, ap, ◌∙◌}
use Rattle.std.specs.Prelude.{Option}
use Rattle.vl_model.specs.Keys.{Stored}
use Rattle.vl_model.specs.Versions.{low}
use Rattle.vl_engine_model.specs.AtAnswer.{at_answer_by}
use Rattle.vl_engine_model.specs.Store.Commits.{history_in, value_in}
use Rattle.vl_engine_model.specs.laws.CommitsLaws.{value_in-is, rows_in-are, low_in-is, conflict_in-is}
use Rattle.vl_engine_model.proofs.laws.plain_commits_are_the_history.Goals as goal

pub returns-clause-values : goal.returns-clause-values
returns-clause-values c p n key proper = value_in-is p proper n key

pub returns-clause-rows : goal.returns-clause-rows
returns-clause-rows c p n proper = rows_in-are p proper n

pub returns-clause-low : goal.returns-clause-low
returns-clause-low c p floor keep since key proper = low_in-is p proper floor keep since key

pub returns-clause-conflicts : goal.returns-clause-conflicts
returns-clause-conflicts c p n reads proper = conflict_in-is p proper n reads

pub returns-clause-past : goal.returns-clause-past
returns-clause-past c p b number key n proper =
    ap (λ (least : ℕ). at_answer_by number least (value_in p n key) key n) (low_in-is p proper b.floor b.keep b.since key)
    ∙ ap (λ (value : Option Stored). at_answer_by number (low (history_in p) b.floor b.keep b.since key) value key n)
    (value_in-is p proper n key)
