use Rattle.std.proofs.Common.{arith}
use Rattle.vl_table.specs.body.Entries.{IsEntry}
use Rattle.vl_table.proofs.EntrySteps.{all-at, at-within, starts-at, starts-counted}
use Rattle.vl_table.proofs.entries.Entries.get.Goals as goal

pub returns-then-index-self-clause-found : goal.returns-then-index-self-clause-found
returns-then-index-self-clause-found c = λ es e lists at.
    let s = c.args.self.now in
    absurd (omega (
      arith,
      c.if-index-self.true,
      at-within es c.args.index e at,
      starts-counted s.format s.bytes.now
          s.starts.now es lists.starts,
    ))

pub returns-clause-found : goal.returns-clause-found
returns-clause-found c = λ es e lists at.
    let s = c.args.self.now in
    c.entry_at.ensures.found e (all-at (IsEntry s.format) es c.args.index e lists.lawful.each at)
    (starts-at s.format s.bytes.now s.starts.now es c.args.index 0 e lists.starts at)
