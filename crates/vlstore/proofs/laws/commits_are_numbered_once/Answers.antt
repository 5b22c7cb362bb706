use Rattle.vl_engine_model.specs.LockHistory.{nothing_open}
use Rattle.vlstore.proofs.Counted.{puts_counted}
use Rattle.vlstore.proofs.laws.commits_are_numbered_once.Goals as goal

pub returns : goal.returns
returns c number es legal = puts_counted number nothing_open es legal
