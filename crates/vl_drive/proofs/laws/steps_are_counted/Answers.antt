use Rattle.vl_drive.specs.laws.StepLaws.{counted_aside, counted_parts, others_are}
use Rattle.vl_drive.proofs.laws.steps_are_counted.Goals as goal

pub returns-clause-parts : goal.returns-clause-parts
returns-clause-parts c = counted_parts

pub returns-clause-aside : goal.returns-clause-aside
returns-clause-aside c = counted_aside

pub returns-clause-others : goal.returns-clause-others
returns-clause-others c = others_are
