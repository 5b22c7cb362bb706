use Rattle.vl_drive.specs.Steps.{history_by}
use Rattle.vl_thread_tests.proofs.sequences.two_given.Goals as goal

pub returns-in-Ok-close : goal.returns-in-Ok-close
returns-in-Ok-close g c =
    let (list, closed, shows) = c.in-Ok-close.ensures in
    (history_by (g.T.Shops.opened c.in-Ok.store).origin list, shows)
