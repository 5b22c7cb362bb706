use Rattle.vl_pins.proofs.Becoming.{room_there}
use Rattle.vl_pins.proofs.in_use.room_in.Goals as goal

pub returns-in-Some-clause-room : goal.returns-in-Some-clause-room
returns-in-Some-clause-room c =
    room_there c.make_room.new.self c.args.tables c.args.others c.make_room.result c.make_room.ensures.room c.make_room.ensures.log_room
    c.make_room.ensures.all
