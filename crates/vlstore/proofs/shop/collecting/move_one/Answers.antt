use Rattle.std.proofs.Common.{sym, ap, ◌∙◌, subst}
use Rattle.vl_collect.specs.Faults.{counted}
use Rattle.vl_engine_laws.specs.MoveFacts.{AreThere}
use Rattle.vl_steps.specs.Relocating.{move_outcome}
use Rattle.vl_engine_model.specs.Rulings.Relocate.{relocate_ruling}
use Rattle.vlstore.specs.Entries.{relocate_entry}
use Rattle.vlstore.specs.Handing.{HasLasted}
use Rattle.vlstore.specs.Merging.{IsChange}
use Rattle.vlstore.proofs.Lasting.{lasted_on}
use Rattle.vlstore.proofs.Making.{on_and_on}
use Rattle.vlstore.proofs.Merged.{did_on, did_same, stepped_so}
use Rattle.vlstore.proofs.PassLaws.{given_there, only_memory}
use Rattle.vlstore.proofs.Shopping.{move_changes, move_sound}
use Rattle.vlstore.proofs.shop.collecting.move_one.Goals as goal

pub relocate-requires-clause-lasts : goal.relocate-requires-clause-lasts
relocate-requires-clause-lasts g c = λ disk told tells.
    subst (λ log. HasLasted c.reader.new.self g.D.Held.HeldFile.bytes log) (sym (ap (λ p. p.log) c.next.ensures.kept))
    (lasted_on g.D.Held.HeldFile.bytes c.args.session.now c.reader.new.self c.args.pass.now.log c.reader.ensures.on c.requires.lasts)

pub relocate-requires-clause-there : goal.relocate-requires-clause-there
relocate-requires-clause-there g c = λ disk told tells.
    let gives = c.in-Ok-Some.ensures.gives c.requires.goes.0 (c.requires.looks c.in-Ok.reader.looks (λ files. c.in-Ok.ensures.blocks files))
    c.requires.goes.1 in
    subst (λ log. AreThere g.D.Held.HeldFile.bytes log c.in-Ok-Some.batch) (sym (ap (λ p. p.log) c.next.ensures.kept))
    (given_there g.D.Held.HeldFile.bytes c.args.pass.now c.requires.goes.0 c.requires.goes.1 c.in-Ok-Some.batch
    (sym gives.batch_is ∙ c.in-Ok-Some.field-0-is))

pub moved-requires : goal.moved-requires
moved-requires g c =
    let p = c.requires.goes.0 in
    move_sound c.reader.new.self c.relocate.new.self g.met.D.Unfailing.unfailing (ap (λ o. o.layout.halted) c.reader.ensures.on.origin ∙ c.requires.runs)
    p c.in-Ok-Some.batch c.relocate.result (c.relocate.ensures.steps (c.reader.ensures.on.tells ∙ c.requires.tells) p
    (sym c.requires.goes.1.segment ∙ sym (ap (λ q. q.log.number) c.next.ensures.kept)))
    (c.relocate.ensures.undamaged (c.reader.ensures.on.tells ∙ c.requires.tells))

pub wanting-requires : goal.wanting-requires
wanting-requires g c =
    only_memory g.D.Held.HeldFile.bytes c.args.pass.now c.requires.goes.0 c.requires.goes.1 c.requires.whole c.in-Ok.reader.looks
    (c.requires.looks c.in-Ok.reader.looks (λ files. c.in-Ok.ensures.blocks files))
    (counted (g.D.Reader.Reader.faults c.in-Ok.reader.looks.reader) (g.D.Reader.Reader.faults c.next.new.looks.reader)
    (g.D.Reader.Reader.faults c.in-Ok.reader.files) (g.D.Reader.Reader.faults c.next.new.files))
    (g.met.D.Unfailing.unfailing.readers c.next.new.looks.reader) (g.met.D.Unfailing.unfailing.readers c.next.new.files)
    c.in-Err.fault c.in-Err.ensures.cause

pub returns-in-Ok-Some-clause-on : goal.returns-in-Ok-Some-clause-on
returns-in-Ok-Some-clause-on g c =
    on_and_on c.args.session.now c.reader.new.self c.relocate.new.self c.reader.ensures.on c.relocate.ensures.on

pub returns-in-Ok-Some-clause-changes : goal.returns-in-Ok-Some-clause-changes
returns-in-Ok-Some-clause-changes g c =
    let p = c.requires.goes.0 in
    did_on IsChange c.args.session.now c.reader.new.self c.relocate.new.self
    (did_same IsChange c.args.session.now c.reader.new.self c.reader.ensures.own)
    (stepped_so IsChange c.reader.new.self c.relocate.new.self (λ l h. relocate_ruling l h p c.in-Ok-Some.batch)
    (relocate_entry p c.in-Ok-Some.batch) (move_outcome c.relocate.result)
    (λ n l h. move_changes p c.in-Ok-Some.batch n l h (move_outcome c.relocate.result))
    (c.relocate.ensures.steps (c.reader.ensures.on.tells ∙ c.requires.tells) p
    (sym c.requires.goes.1.segment ∙ sym (ap (λ q. q.log.number) c.next.ensures.kept))))

pub returns-in-Ok-None-clause-changes : goal.returns-in-Ok-None-clause-changes
returns-in-Ok-None-clause-changes g c = did_same IsChange c.args.session.now c.reader.new.self c.reader.ensures.own

pub returns-in_default-clause-changes : goal.returns-in_default-clause-changes
returns-in_default-clause-changes g c = did_same IsChange c.args.session.now c.reader.new.self c.reader.ensures.own

pub returns-clause-log : goal.returns-clause-log
returns-clause-log g c = ap (λ p. p.log) c.next.ensures.kept
