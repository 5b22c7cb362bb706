use Rattle.std.proofs.Common.{Option}
use Rattle.vl_model.specs.Cursors.{IsReached}
use Rattle.vl_model.specs.declared.entry.Entry.{Entry}
use Rattle.vl_merge.proofs.StandingLaws.{if_ok_under}
use Rattle.vl_merge.specs.Standing.{IsUpward, StandsIn}
use Rattle.vl_merge.proofs.merge.MergeCursor.next.Goals as goal

pub returns-clause-reaches : goal.returns-clause-reaches
returns-clause-reaches g c = λ is_met.
    let Upward = IsUpward c.args.self.now.way is_met in
    let Stands = StandsIn g.C.Cursor.stands_to is_met c.args.self.now.sources in
    if_ok_under c.next.result Upward (λ (next : Option Entry). IsReached is_met next → Stands)
    (λ (next : Option Entry). IsReached is_met next → Upward → Stands) (λ next stands met upward. stands upward met)
    (λ upward. c.next.ensures.reaches is_met upward)
