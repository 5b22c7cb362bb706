use Rattle.std.proofs.Common.{rules}
use Rattle.vl_turn.proofs.lock.TurnLock.fill.Goals as goal

pub give-requires-clause-value : goal.give-requires-clause-value
give-requires-clause-value g c = (c.args.value, search rules, search rules)
