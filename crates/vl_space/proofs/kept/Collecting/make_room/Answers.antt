use Rattle.vl_space.specs.laws.CollectLaws.{keeps_reserved, on_err}
use Rattle.vl_space.proofs.kept.Collecting.make_room.Goals as goal

pub returns-in-Some-clause-refused : goal.returns-in-Some-clause-refused
returns-in-Some-clause-refused g c =
    on_err c.reserve.result _
    (keeps_reserved g.H.HeldFile.bytes c.args.core.now c.args.self.now c.ready.new.self c.in-Some.tally c.reserve.new.self
    c.in_ok-ready.ensures.readied c.in-Some.is c.reserve.ensures.logs c.reserve.ensures.live)
