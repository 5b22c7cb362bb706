use Rattle.std.proofs.Common.{ap, refl, sym, ◌∙◌}
use Rattle.vl_compact.proofs.Causes.{cause_of, none_if_unmoved}
use Rattle.vl_compact.specs.Racing.{least_moved}
use Rattle.vl_compact.specs.laws.RaceLaws.{race-in_order}
use Rattle.vl_compact.proofs.job.Job.race.Goals as goal

pub returns-clause-as_ruled : goal.returns-clause-as_ruled
returns-clause-as_ruled g c = λ j has.
    c.first_moved.ensures ∙ ap (least_moved c.args.moved.now) has.needless_are
    ∙ sym (race-in_order c.args.moved.now (least_moved c.args.moved.now) refl (λ n ns. refl) j)

pub returns-clause-cause : goal.returns-clause-cause
returns-clause-cause g c =
    cause_of (λ r. (r.0.now, r.1)) c.args.moved.now c.args.self.now.needless.items c.first_moved.result c.first_moved.ensures

pub returns-clause-none : goal.returns-clause-none
returns-clause-none g c =
    none_if_unmoved (λ r. (r.0.now, r.1)) c.args.moved.now c.args.self.now.needless.items c.first_moved.result c.first_moved.ensures
