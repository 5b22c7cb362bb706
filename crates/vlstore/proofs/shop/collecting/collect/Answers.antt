use Rattle.std.proofs.Common.{refl, sym, ◌∙◌, subst}
use Rattle.vl_space.specs.Collecting.{pick_outcome}
use Rattle.vl_engine_model.specs.Rulings.Pick.{pick_ruling}
use Rattle.vlstore.specs.Entries.{pick_entry}
use Rattle.vlstore.specs.Knowing.{IsOwnPass}
use Rattle.vlstore.specs.Merging.{IsWork}
use Rattle.vlstore.proofs.Making.{on_and_on}
use Rattle.vlstore.proofs.Merged.{did_on, did_work, prefix_itself, stepped_so}
use Rattle.vlstore.proofs.Shopping.{end_aside, own_pass, pick_works, picks_aside}
use Rattle.vlstore.proofs.shop.collecting.collect.Goals as goal

pub move_one-moved-requires-clause-lasts : goal.move_one-moved-requires-clause-lasts
move_one-moved-requires-clause-lasts g c =
    let picked = (c.in-Ok.ensures.steps c.requires.tells).2 in
    record { before = c.pick.new.self.seen; seen = prefix_itself c.pick.new.self.seen; lasts = picked.lasts }

pub end_pass-requires : goal.end_pass-requires
end_pass-requires g c = λ disk told tells.
    own_pass c.pick.new.self c.move_one-moved.new.session c.move_one-moved.new.pass.log.number c.move_one-moved.ensures.on.session
    c.move_one-moved.ensures.changes
    (subst (λ log. IsOwnPass c.pick.new.self log.number) (sym c.move_one-moved.ensures.log) (c.in-Ok.ensures.own c.requires.tells))

pub returns-in-Ok-clause-on : goal.returns-in-Ok-clause-on
returns-in-Ok-clause-on g c =
    on_and_on c.args.session.now c.pick.new.self c.end_pass.new.self c.pick.ensures.on
    (on_and_on c.pick.new.self c.move_one-moved.new.session c.end_pass.new.self c.move_one-moved.ensures.on c.end_pass.ensures.on)

pub returns-in-Ok-clause-steps : goal.returns-in-Ok-clause-steps
returns-in-Ok-clause-steps g c =
    let s = c.in-Ok.ensures.steps c.requires.tells in
    let t = c.pick.ensures.steps c.requires.tells in
    let told = c.move_one-moved.ensures.on.tells ∙ (c.pick.ensures.on.tells ∙ c.requires.tells) in
    let picks = stepped_so IsWork c.args.session.now c.pick.new.self (λ l h. pick_ruling l h c.args.percent) (pick_entry c.args.percent)
    (pick_outcome t.0 c.pick.result) (λ n l h. pick_works c.args.percent n l h (pick_outcome t.0 c.pick.result)) t.1 in
    let moves = did_work c.pick.new.self c.move_one-moved.new.session c.move_one-moved.ensures.changes in
    end_aside c.args.session.now c.move_one-moved.new.session c.end_pass.new.self s.2.of
    (on_and_on c.args.session.now c.pick.new.self c.move_one-moved.new.session c.pick.ensures.on c.move_one-moved.ensures.on)
    c.end_pass.ensures.on
    (did_on IsWork c.args.session.now c.pick.new.self c.move_one-moved.new.session picks moves)
    (c.end_pass.ensures.steps told s.2.of)

pub returns-in-Err-NoMemory-clause-steps : goal.returns-in-Err-NoMemory-clause-steps
returns-in-Err-NoMemory-clause-steps g c =
    let s = c.pick.ensures.steps c.requires.tells in
    picks_aside c.args.session.now c.pick.new.self c.args.percent (pick_outcome s.0 c.pick.result) c.pick.ensures.on s.1

pub returns-in-Err-InvalidRequest : goal.returns-in-Err-InvalidRequest
returns-in-Err-InvalidRequest g c =
    let s = c.pick.ensures.steps c.requires.tells in
    record {
      on = c.pick.ensures.on;
      steps = picks_aside c.args.session.now c.pick.new.self c.args.percent (pick_outcome s.0 c.pick.result) c.pick.ensures.on s.1;
      faults = refl;
    }
