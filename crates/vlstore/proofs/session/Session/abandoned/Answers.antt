use Rattle.std.proofs.Common.{refl, subst}
use Rattle.vl_compact.specs.Progress.{made_of}
use Rattle.vl_engine_model.specs.Decides.{Answered}
use Rattle.vl_engine_model.specs.Rulings.Abandon.{abandon_ruling}
use Rattle.vlstore.specs.Entries.{abandon_entry}
use Rattle.vlstore.specs.Handing.{IfHandedBack}
use Rattle.vlstore.specs.Merging.{IsWork}
use Rattle.vlstore.proofs.Merged.{abandon_works, job_ended, none_own, stepped_so}
use Rattle.vlstore.proofs.session.Session.abandoned.Goals as goal

pub returns-in-NoMemory-clause-works : goal.returns-in-NoMemory-clause-works
returns-in-NoMemory-clause-works g c told =
    let way = subst (IfHandedBack c.args.self.now g.D.Writer.Writer g.D.Held.HeldFile.bytes) c.in-NoMemory.is c.requires in
    let made = made_of c.in-NoMemory.job way.planned in
    stepped_so IsWork c.args.self.now c.abandon.new.self (λ l h. abandon_ruling l h way.planned made) (abandon_entry made)
    (Answered tt) (abandon_works made) (c.abandon.ensures.steps told way.planned way.own)

pub returns-in-NoMemory-clause-over : goal.returns-in-NoMemory-clause-over
returns-in-NoMemory-clause-over g c told job own =
    let way = subst (IfHandedBack c.args.self.now g.D.Writer.Writer g.D.Held.HeldFile.bytes) c.in-NoMemory.is c.requires in
    let made = made_of c.in-NoMemory.job way.planned in
    absurd (none_own c.abandon.new.self
    (job_ended c.args.self.now c.abandon.new.self (λ l h. abandon_ruling l h way.planned made) (abandon_entry made)
    (Answered tt) (λ s l h. refl) (c.abandon.ensures.steps told way.planned way.own)) job own)
