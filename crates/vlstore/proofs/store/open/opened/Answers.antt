use Rattle.std.proofs.Common.{refl}
use Rattle.vlstore.proofs.Stores.{same_first}
use Rattle.vlstore.proofs.store.open.opened.Goals as goal

pub returns-clause-first : goal.returns-clause-first
returns-clause-first g c = same_first _ _ refl refl refl 0 _ c.in-Ok-seats.ensures.first
