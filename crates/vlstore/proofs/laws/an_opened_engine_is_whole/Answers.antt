use Rattle.vlstore.proofs.First.{is_whole}
use Rattle.vlstore.proofs.laws.an_opened_engine_is_whole.Goals as goal

pub returns : goal.returns
returns g c = is_whole g.H.HeldFile.bytes
