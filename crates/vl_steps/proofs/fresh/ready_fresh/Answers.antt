use Rattle.std.proofs.Common.{refl}
use Rattle.vl_steps.specs.laws.DrawFits.{on_ok_always, same_merge}
use Rattle.vl_steps.proofs.fresh.ready_fresh.Goals as goal

pub returns-in_err-make_room-clause-merging : goal.returns-in_err-make_room-clause-merging
returns-in_err-make_room-clause-merging g c =
    same_merge c.args.merging.now c.in-Some.merge c.make_room.new.self c.in-Some.is c.make_room.ensures.lent c.make_room.ensures.moved

pub returns-in_err-make_room-2-clause-merging : goal.returns-in_err-make_room-2-clause-merging
returns-in_err-make_room-2-clause-merging g c =
    same_merge c.args.merging.now c.in-Some.merge c.make_room.new.self c.in-Some.is c.make_room.ensures.lent c.make_room.ensures.moved

pub returns-clause-merging : goal.returns-clause-merging
returns-clause-merging g c =
    same_merge c.args.merging.now c.in-Some.merge c.make_room.new.self c.in-Some.is c.make_room.ensures.lent c.make_room.ensures.moved

pub returns-clause-roomy : goal.returns-clause-roomy
returns-clause-roomy g c = on_ok_always c.ready.result
    (record { merge = c.make_room.new.self; is_open = refl; room = c.in_ok-make_room.ensures.room })
