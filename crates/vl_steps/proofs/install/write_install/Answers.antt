use Rattle.vl_steps.proofs.Taking.{manifest_still}
use Rattle.vl_steps.proofs.install.write_install.Goals as goal

pub switch-requires-clause-stands : goal.switch-requires-clause-stands
switch-requires-clause-stands g c =
    let took = c.in_ok-take_back.ensures.takes in
    manifest_still g.D.Watched g.D.Writer.Writer took.front c.args.manifest.now.number c.args.disk.now c.take_back.new.disk took.takes
    c.requires.stands
