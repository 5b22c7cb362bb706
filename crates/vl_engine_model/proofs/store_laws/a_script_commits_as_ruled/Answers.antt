use Rattle.std.proofs.Common.{ap}
use Rattle.std.specs.Prelude.{Option}
use Rattle.vl_model.specs.Conflicts.{Named}
use Rattle.vl_engine_model.specs.Rulings.Commit.{commit_unless}
use Rattle.vl_engine_model.specs.Store.Commits.{history_in}
use Rattle.vl_engine_model.specs.laws.CommitsLaws.{conflict_in-is}
use Rattle.vl_engine_model.proofs.store_laws.a_script_commits_as_ruled.Goals as goal

pub returns : goal.returns
returns c s t proper =
    ap (λ (conflict : Option Named). commit_unless s.layout.halted s.layout (history_in s.commits) t conflict)
    (conflict_in-is s.commits proper t.number t.reads)
