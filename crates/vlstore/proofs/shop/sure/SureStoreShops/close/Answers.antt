use Rattle.std.proofs.Common.{refl}
use Rattle.vlstore.proofs.shop.sure.SureStoreShops.close.Goals as goal

pub returns : goal.returns
returns g c =
    let (list, closed, sees, number, kept) = c.in_ok-engine.ensures in
    (list, closed, record { sees = sees; number = number; kept = kept _ refl })
