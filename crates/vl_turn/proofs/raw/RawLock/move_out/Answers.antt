use Rattle.std.proofs.Common.{rules, Some}
use Rattle.vl_turn.proofs.Ends.{in_front}
use Rattle.vl_turn.proofs.raw.RawLock.move_out.Goals as goal

pub exchange-requires : goal.exchange-requires
exchange-requires g c = let value = c.requires.filled
    in (search rules, (Some value.0, in_front c.args.token.now.me.1 (Some value.0) value.1))
