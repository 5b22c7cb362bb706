use Rattle.std.proofs.Common.{refl}
use Rattle.vlstore.proofs.store.beginning.store_from.Goals as goal

pub store_at-requires : goal.store_at-requires
store_at-requires g c κs within =
    let stands = c.requires.stands c.in-Ok.origin.me.0 c.in-Ok.ensures in
    (within.0, (within.1.0, (within.1.1.0, (within.1.1.1, (refl, stands)))))
