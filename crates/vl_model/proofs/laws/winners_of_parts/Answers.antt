use Rattle.vl_model.specs.laws.WinnerLaws.{winner-append, winner-middle}
use Rattle.vl_model.proofs.laws.winners_of_parts.Goals as goal

pub returns-clause-parts : goal.returns-clause-parts
returns-clause-parts c es fs key n = winner-append key n es fs

pub returns-clause-replaced : goal.returns-clause-replaced
returns-clause-replaced c front old new back key n same = winner-middle key n front old new back same
