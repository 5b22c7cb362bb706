use Rattle.vl_steps.specs.laws.InstallLaws.{install_held, install_leaves, install_opens_again}
use Rattle.vl_steps.proofs.laws.an_install_is_one_switch.Goals as goal

pub returns-clause-through : goal.returns-clause-through
returns-clause-through c b l h o made disk now base tidy holds can during = install_leaves b l h o made disk base tidy holds can now during

pub returns-clause-again : goal.returns-clause-again
returns-clause-again c b l h o made disk now base tidy holds can during =
    install_opens_again b l h o made disk base tidy holds can now during

pub returns-clause-holds : goal.returns-clause-holds
returns-clause-holds c b l h o made disk base tidy holds can = install_held b l h o made disk base tidy holds can
