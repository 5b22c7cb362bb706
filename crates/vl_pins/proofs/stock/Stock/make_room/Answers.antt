use Rattle.std.proofs.Common.{refl}
use Rattle.vl_pins.proofs.Becoming.{kept_still, roomy_then}
use Rattle.vl_pins.proofs.stock.Stock.make_room.Goals as goal

pub returns-in_err-all-clause-kept : goal.returns-in_err-all-clause-kept
returns-in_err-all-clause-kept g c = kept_still _ _ c.room_in.ensures.same refl

pub returns-clause-kept : goal.returns-clause-kept
returns-clause-kept g c = kept_still _ _ c.room_in.ensures.same c.reserve.ensures.items

pub returns-clause-room : goal.returns-clause-room
returns-clause-room g c = roomy_then _ c.args.tables c.args.lent c.in_ok-all.all c.reserve.result c.in_ok-all.ensures.room
    c.reserve.ensures.ok
