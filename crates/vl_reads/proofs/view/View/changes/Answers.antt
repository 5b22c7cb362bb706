use Rattle.std.proofs.lemmas.Result.{IfOk-weaker}
use Rattle.vl_engine_model.specs.Changes.{changes}
use Rattle.vl_reads.specs.laws.ChangesLaws.{told_history}
use Rattle.vl_version.specs.Changes.{HasLeft}
use Rattle.vl_reads.proofs.view.View.changes.Goals as goal

pub returns-clause-left : goal.returns-clause-left
returns-clause-left g c h is may =
    let view = c.args.self.now in
    IfOk-weaker c.changes.result _ (λ given. HasLeft g.H.HeldFile.bytes view.version given (changes h c.args.since view.number))
    (λ given left. left is.entries_of is.logs (changes h c.args.since view.number) is.has
    (told_history g.H.HeldFile.bytes view.version view.past view.number h is c.args.since may))
    c.changes.ensures.left
