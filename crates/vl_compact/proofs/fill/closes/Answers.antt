use Rattle.vl_compact.proofs.Pieces.{closes_full}
use Rattle.vl_compact.proofs.fill.closes.Goals as goal

pub returns-then-is_behind-clause-closes : goal.returns-then-is_behind-clause-closes
returns-then-is_behind-clause-closes c = λ number es given writing last up.
    closes_full es c.args.entry.now c.args.last.now last c.is_behind.result c.is_behind.ensures c.if-is_behind.true c.is_full.result
    (c.is_full.ensures number es given writing)
