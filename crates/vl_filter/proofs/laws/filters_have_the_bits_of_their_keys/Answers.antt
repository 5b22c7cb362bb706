use Rattle.vl_filter.specs.laws.HeldLaws.{bits_of}
use Rattle.vl_filter.specs.laws.Spelling.{spells}
use Rattle.vl_filter.proofs.laws.filters_have_the_bits_of_their_keys.Goals as goal

pub returns-clause-bits : goal.returns-clause-bits
returns-clause-bits c = bits_of

pub returns-clause-spelled : goal.returns-clause-spelled
returns-clause-spelled c = spells
