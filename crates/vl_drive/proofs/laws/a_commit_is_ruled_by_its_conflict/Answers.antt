use Rattle.vl_drive.specs.laws.TurnLaws.{commit_at, commit_conflict, commit_nothing}
use Rattle.vl_drive.proofs.laws.a_commit_is_ruled_by_its_conflict.Goals as goal

pub returns-clause-at : goal.returns-clause-at
returns-clause-at c = commit_at

pub returns-clause-conflict : goal.returns-clause-conflict
returns-clause-conflict c = commit_conflict

pub returns-clause-nothing : goal.returns-clause-nothing
returns-clause-nothing c = commit_nothing
