use Rattle.vlstore.proofs.Lasting.{lasted_on}
use Rattle.vlstore.proofs.laws.what_lasted_has_lasted.Goals as goal

pub returns : goal.returns
returns g c = lasted_on g.H.HeldFile.bytes
