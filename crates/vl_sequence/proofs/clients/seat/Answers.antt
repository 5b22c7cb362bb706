use Rattle.vl_sequence.proofs.clients.seat.Goals as goal

pub returns-in-Ok-clause-seated : goal.returns-in-Ok-clause-seated
returns-in-Ok-clause-seated g c =
    record { key_is = c.in-Ok.ensures.made.1; none = c.in-Ok.ensures.none; ready = c.in-Ok.ensures.ready }
