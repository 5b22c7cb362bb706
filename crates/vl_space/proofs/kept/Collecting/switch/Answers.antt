use Rattle.std.proofs.Common.{Option, subst}
use Rattle.vl_space.specs.Collecting.{IsTallied}
use Rattle.vl_stats.specs.Tallies.{Tallied}
use Rattle.vl_space.proofs.kept.Collecting.switch.Goals as goal

pub returns-in-Some-clause-flush : goal.returns-in-Some-clause-flush
returns-in-Some-clause-flush c logs l h n tidy is stepped of =
    c.switch.ensures.flush logs l h n tidy (subst (λ (o : Option Tallied). IsTallied o l) c.in-Some.is is) stepped of

pub returns-in-Some-clause-install : goal.returns-in-Some-clause-install
returns-in-Some-clause-install c logs l h j made tidy is installed of =
    c.switch.ensures.install logs l h j made tidy (subst (λ (o : Option Tallied). IsTallied o l) c.in-Some.is is) installed of
