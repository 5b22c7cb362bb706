-- A pick is answered as the ruling on it has it, and the pass is the open one then.
use Rattle.std.proofs.Common.{◌≡◌, ◌∙◌, ℕ, ap, refl, sym, subst}
use Rattle.std.specs.Prelude.{Ok, Err}
use Rattle.vl_engine_laws.specs.Shown.{Shown}
use Rattle.vl_engine_laws.specs.declared.kept.Core.{Core}
use Rattle.vl_space.specs.Collecting.{Collects, pick_outcome}
use Rattle.vl_engine_laws.specs.Lent.{StandsOpen}
use Rattle.vl_engine_model.specs.Decides.{Answered}
use Rattle.vl_engine_model.specs.Rulings.Pick as rulings
use Rattle.vl_engine_model.specs.Rulings.Pick.{PickAnswer, pick_ruling}
use Rattle.vl_engine_model.specs.Store.Dispatch.{pick_as}
use Rattle.vl_engine_model.specs.Store.Lines as store_lines
use Rattle.vl_engine_model.specs.Store.Things.{thing_of}
use Rattle.vl_script_model.specs.Durable.{CarriesOut}
use Rattle.vl_replay_laws.specs.Replaying.{MakesStep, StandsIn, state_by}
use Rattle.vl_script_model.specs.Sequential.{history_of}
use Rattle.vl_script_model.specs.Stored.{IsStopped, IsStored}
use Rattle.vl_script_model.specs.laws.Growing.{pick_commits}
use Rattle.vl_script.specs.declared.answer.Answer.{Answer}
use Rattle.vl_script.specs.declared.answer.Answer.TheVariants as answers
use Rattle.vl_replay_laws.specs.laws.Disk.Carried.{quiet_carries}
use Rattle.vl_replay_laws.specs.laws.Names.Serving.{Serves, represents}
use Rattle.vl_engine_laws.specs.MayStep.{Fits}
use Rattle.vl_engine_laws.specs.Represents.{IsHeld, StandsFor}
use Rattle.vl_script_model.specs.declared.fails.Halt.TheVariants as why
use Rattle.vl_replay_laws.specs.laws.Passes.Picking.{answers_ruling, picked_calls, picked_makes, picked_next_log, picked_next_table, picked_passes}
use Rattle.vl_replay_laws.specs.laws.Passes.Picking.{picked_represents, picked_running, refused_keeps, refused_makes, refused_passes}
use Rattle.vl_replay_laws.specs.laws.Passes.Standing.{out_carries, still_carries}
use Rattle.vl_space.specs.Removing.{Removes}
use Rattle.vl_engine_model.specs.declared.layout.Layout.{Layout}
use Rattle.vl_replay_laws.specs.laws.Passes.Picking.{picked_layout}
use Rattle.vl_replay.proofs.replayer.collect.pick.Goals as goal

pub returns-in-Ok-clause-makes : goal.returns-in-Ok-clause-makes
returns-in-Ok-clause-makes g c s stands bare =
    let bytes = g.D.Held.HeldFile.bytes in
    let old = c.args.served.now.engine in
    let new = c.pick.new.self in
    let os = c.args.served.now.opens.items in
    let name = c.args.name in
    let percent = c.args.percent in
    let l = s.store.layout in
    let h = history_of s in
    let did = c.pick.ensures in
    let now = g.D.Watched.told new.disk in
    let before = g.D.Watched.told old.disk in
    let back = ap (λ (k : Core _). k.back) did.core in
    let serves = subst (λ (d : _). StandsIn bytes (g.D.Watched.told d) old.core os s) (sym did.disk) stands.serves in
    let open_stands : StandsOpen bytes old.core old.merging h l = record { stands = stands.serves.engine; opens = stands.opens } in
    let there : Serves bytes now s.openable new.core (pick_ruling l h percent).history (pick_ruling l h percent).layout = record {
      stands = ((did.stands h l open_stands stands.passes.collects).answered (pick_ruling l h percent).answer
          (ap (pick_outcome (pick_ruling l h percent).answer) c.in-Ok.is)).1.stands;
      fits = ((did.fits h l stands.serves.engine stands.passes.collects stands.serves.fits).answered (pick_ruling l h percent).answer
          (ap (pick_outcome (pick_ruling l h percent).answer) c.in-Ok.is)).1;
      held = λ openable. ((did.represents h l (represents bytes before old.core os s stands.serves openable)
          stands.passes.collects).answered (pick_ruling l h percent).answer
          (ap (pick_outcome (pick_ruling l h percent).answer) c.in-Ok.is)).1.held;
    } in
    subst (λ (n : ℕ). MakesStep bytes now new.core os s (pick_as s.store name percent (thing_of s.store name)) (Ok (answers.Number n)))
    (sym (c.from-number.ensures ∙ c.segment.ensures))
    (picked_makes bytes now old.core new.core os s serves back name bare percent c.in-Ok.pass
    (c.in-Ok.ensures.pass h l stands.serves.engine stands.passes.collects) there)

pub returns-in-Ok-clause-passes : goal.returns-in-Ok-clause-passes
returns-in-Ok-clause-passes g c s stands bare =
    let bytes = g.D.Held.HeldFile.bytes in
    let old = c.args.served.now.engine in
    let new = c.pick.new.self in
    let os = c.args.served.now.opens.items in
    let name = c.args.name in
    let percent = c.args.percent in
    let l = s.store.layout in
    let h = history_of s in
    let did = c.pick.ensures in
    let now = g.D.Watched.told new.disk in
    let before = g.D.Watched.told old.disk in
    let back = ap (λ (k : Core _). k.back) did.core in
    let serves = subst (λ (d : _). StandsIn bytes (g.D.Watched.told d) old.core os s) (sym did.disk) stands.serves in
    let open_stands : StandsOpen bytes old.core old.merging h l = record { stands = stands.serves.engine; opens = stands.opens } in
    picked_passes bytes now old.core new.core os s serves back name bare percent c.in-Ok.pass
    (c.in-Ok.ensures.pass h l stands.serves.engine stands.passes.collects) new.collecting c.args.passing.now stands.passes.is_open
    ((did.collects h l stands.serves.engine stands.passes.collects).answered (pick_ruling l h percent).answer
    (ap (pick_outcome (pick_ruling l h percent).answer) c.in-Ok.is)).1
    (c.in-Ok.ensures.looks h l stands.serves.engine)

pub returns-in-Ok-clause-carries : goal.returns-in-Ok-clause-carries
returns-in-Ok-clause-carries g c s stands bare =
    let bytes = g.D.Held.HeldFile.bytes in
    let old = c.args.served.now.engine in
    let new = c.pick.new.self in
    let os = c.args.served.now.opens.items in
    let name = c.args.name in
    let percent = c.args.percent in
    let l = s.store.layout in
    let h = history_of s in
    let did = c.pick.ensures in
    let now = g.D.Watched.told new.disk in
    let before = g.D.Watched.told old.disk in
    let back = ap (λ (k : Core _). k.back) did.core in
    let serves = subst (λ (d : _). StandsIn bytes (g.D.Watched.told d) old.core os s) (sym did.disk) stands.serves in
    let open_stands : StandsOpen bytes old.core old.merging h l = record { stands = stands.serves.engine; opens = stands.opens } in
    let picked = c.in-Ok.ensures.pass h l stands.serves.engine stands.passes.collects in
    subst (λ (d : _). CarriesOut {T = Answer} g.D.Watched IsStored Shown IsStopped d new.disk s
    (state_by s (pick_as s.store name percent (thing_of s.store name))) (Ok (answers.Number c.from-number.result))) did.disk
    (still_carries g.D.Watched (record { only_now = g.met.D.Disk.only_now; counts_now = g.met.D.Disk.counts_now }) bytes new.disk old.core
    new.core os s serves back
    (pick_as s.store name percent (thing_of s.store name)) (pick_commits s.store name percent (thing_of s.store name))
    (picked_calls bytes now old.core new.core os s serves back name bare percent c.in-Ok.pass picked)
    (picked_running bytes now old.core new.core os s serves back name bare percent c.in-Ok.pass picked)
    (picked_next_log bytes now old.core new.core os s serves back name bare percent c.in-Ok.pass picked)
    (picked_next_table bytes now old.core new.core os s serves back name bare percent c.in-Ok.pass picked)
    (answers.Number c.from-number.result)
    (λ openable. picked_represents bytes now old.core new.core os s serves back name bare percent c.in-Ok.pass picked
    ((did.represents h l (represents bytes before old.core os s stands.serves openable) stands.passes.collects).answered
    (pick_ruling l h percent).answer (ap (pick_outcome (pick_ruling l h percent).answer) c.in-Ok.is)).1))

pub returns-in-Err-InvalidRequest-clause-makes : goal.returns-in-Err-InvalidRequest-clause-makes
returns-in-Err-InvalidRequest-clause-makes g c s stands bare =
    let bytes = g.D.Held.HeldFile.bytes in
    let old = c.args.served.now.engine in
    let new = c.pick.new.self in
    let os = c.args.served.now.opens.items in
    let name = c.args.name in
    let percent = c.args.percent in
    let l = s.store.layout in
    let h = history_of s in
    let did = c.pick.ensures in
    let now = g.D.Watched.told new.disk in
    let before = g.D.Watched.told old.disk in
    let back = ap (λ (k : Core _). k.back) did.core in
    let serves = subst (λ (d : _). StandsIn bytes (g.D.Watched.told d) old.core os s) (sym did.disk) stands.serves in
    let open_stands : StandsOpen bytes old.core old.merging h l = record { stands = stands.serves.engine; opens = stands.opens } in
    let is : pick_outcome (pick_ruling l h percent).answer c.pick.result ≡ Answered rulings.InvalidRequest =
    ap (pick_outcome (pick_ruling l h percent).answer) (c.in-Err-InvalidRequest.is ∙ ap Err c.in-Err-InvalidRequest.field-0-is) in
    let same = ((did.stands h l open_stands stands.passes.collects).answered rulings.InvalidRequest is).0 in
    let there : Serves bytes now s.openable new.core h l = record {
      stands = subst (λ (k : Core _). StandsFor bytes k h l) (sym did.core) stands.serves.engine;
      fits = subst (λ (k : Core _). Fits now k h l) (sym did.core) serves.fits;
      held = λ openable running. subst (λ (k : Core _). IsHeld k.back now h l) (sym did.core) (serves.held openable);
    } in
    refused_makes bytes now old.core new.core os s serves back name bare percent rulings.InvalidRequest store_lines.Invalid refl same
    answers.Invalid refl there

pub returns-in-Err-InvalidRequest-clause-passes : goal.returns-in-Err-InvalidRequest-clause-passes
returns-in-Err-InvalidRequest-clause-passes g c s stands bare =
    let bytes = g.D.Held.HeldFile.bytes in
    let old = c.args.served.now.engine in
    let new = c.pick.new.self in
    let os = c.args.served.now.opens.items in
    let name = c.args.name in
    let percent = c.args.percent in
    let l = s.store.layout in
    let h = history_of s in
    let did = c.pick.ensures in
    let now = g.D.Watched.told new.disk in
    let before = g.D.Watched.told old.disk in
    let back = ap (λ (k : Core _). k.back) did.core in
    let serves = subst (λ (d : _). StandsIn bytes (g.D.Watched.told d) old.core os s) (sym did.disk) stands.serves in
    let open_stands : StandsOpen bytes old.core old.merging h l = record { stands = stands.serves.engine; opens = stands.opens } in
    let is : pick_outcome (pick_ruling l h percent).answer c.pick.result ≡ Answered rulings.InvalidRequest =
    ap (pick_outcome (pick_ruling l h percent).answer) (c.in-Err-InvalidRequest.is ∙ ap Err c.in-Err-InvalidRequest.field-0-is) in
    let same = ((did.stands h l open_stands stands.passes.collects).answered rulings.InvalidRequest is).0 in
    refused_passes bytes now old.core new.core os s serves back name bare percent rulings.InvalidRequest store_lines.Invalid refl same
    old.collecting new.collecting c.args.passing.now did.core
    (subst (λ (q : _). Collects new.core new.collecting q.layout) (answers_ruling l h percent rulings.InvalidRequest same)
    ((did.collects h l stands.serves.engine stands.passes.collects).answered rulings.InvalidRequest is).1)
    stands.passes

pub returns-in-Err-InvalidRequest-clause-carries : goal.returns-in-Err-InvalidRequest-clause-carries
returns-in-Err-InvalidRequest-clause-carries g c s stands bare =
    let bytes = g.D.Held.HeldFile.bytes in
    let old = c.args.served.now.engine in
    let new = c.pick.new.self in
    let os = c.args.served.now.opens.items in
    let name = c.args.name in
    let percent = c.args.percent in
    let l = s.store.layout in
    let h = history_of s in
    let did = c.pick.ensures in
    let now = g.D.Watched.told new.disk in
    let before = g.D.Watched.told old.disk in
    let back = ap (λ (k : Core _). k.back) did.core in
    let serves = subst (λ (d : _). StandsIn bytes (g.D.Watched.told d) old.core os s) (sym did.disk) stands.serves in
    let open_stands : StandsOpen bytes old.core old.merging h l = record { stands = stands.serves.engine; opens = stands.opens } in
    let is : pick_outcome (pick_ruling l h percent).answer c.pick.result ≡ Answered rulings.InvalidRequest =
    ap (pick_outcome (pick_ruling l h percent).answer) (c.in-Err-InvalidRequest.is ∙ ap Err c.in-Err-InvalidRequest.field-0-is) in
    let same = ((did.stands h l open_stands stands.passes.collects).answered rulings.InvalidRequest is).0 in
    let there : Serves bytes now s.openable new.core h l = record {
      stands = subst (λ (k : Core _). StandsFor bytes k h l) (sym did.core) stands.serves.engine;
      fits = subst (λ (k : Core _). Fits now k h l) (sym did.core) serves.fits;
      held = λ openable running. subst (λ (k : Core _). IsHeld k.back now h l) (sym did.core) (serves.held openable);
    } in
    quiet_carries g.D.Watched (record { only_now = g.met.D.Disk.only_now; counts_now = g.met.D.Disk.counts_now }) bytes now new.core os s
    (pick_as s.store name percent (thing_of s.store name))
    (refused_keeps bytes now old.core new.core os s serves back name bare percent rulings.InvalidRequest store_lines.Invalid refl same) _
    (refused_makes bytes now old.core new.core os s serves back name bare percent rulings.InvalidRequest store_lines.Invalid refl same
    answers.Invalid refl there)
    (λ halts. halts) old.disk new.disk did.disk

pub returns-in-Err-Rejected-clause-makes : goal.returns-in-Err-Rejected-clause-makes
returns-in-Err-Rejected-clause-makes g c s stands bare =
    let bytes = g.D.Held.HeldFile.bytes in
    let old = c.args.served.now.engine in
    let new = c.pick.new.self in
    let os = c.args.served.now.opens.items in
    let name = c.args.name in
    let percent = c.args.percent in
    let l = s.store.layout in
    let h = history_of s in
    let did = c.pick.ensures in
    let now = g.D.Watched.told new.disk in
    let before = g.D.Watched.told old.disk in
    let back = ap (λ (k : Core _). k.back) did.core in
    let serves = subst (λ (d : _). StandsIn bytes (g.D.Watched.told d) old.core os s) (sym did.disk) stands.serves in
    let open_stands : StandsOpen bytes old.core old.merging h l = record { stands = stands.serves.engine; opens = stands.opens } in
    let is : pick_outcome (pick_ruling l h percent).answer c.pick.result ≡ Answered (rulings.Rejected c.in-Err-Rejected.segment) =
    ap (pick_outcome (pick_ruling l h percent).answer) (c.in-Err-Rejected.is ∙ ap Err c.in-Err-Rejected.field-0-is) in
    let same = ((did.stands h l open_stands stands.passes.collects).answered (rulings.Rejected c.in-Err-Rejected.segment) is).0 in
    let there : Serves bytes now s.openable new.core h l = record {
      stands = subst (λ (k : Core _). StandsFor bytes k h l) (sym did.core) stands.serves.engine;
      fits = subst (λ (k : Core _). Fits now k h l) (sym did.core) serves.fits;
      held = λ openable running. subst (λ (k : Core _). IsHeld k.back now h l) (sym did.core) (serves.held openable);
    } in
    refused_makes bytes now old.core new.core os s serves back name bare percent (rulings.Rejected c.in-Err-Rejected.segment)
    (store_lines.Rejected c.in-Err-Rejected.segment) refl same
    (answers.Rejected _) (ap store_lines.Rejected c.in-Err-Rejected.segment-is) there

pub returns-in-Err-Rejected-clause-passes : goal.returns-in-Err-Rejected-clause-passes
returns-in-Err-Rejected-clause-passes g c s stands bare =
    let bytes = g.D.Held.HeldFile.bytes in
    let old = c.args.served.now.engine in
    let new = c.pick.new.self in
    let os = c.args.served.now.opens.items in
    let name = c.args.name in
    let percent = c.args.percent in
    let l = s.store.layout in
    let h = history_of s in
    let did = c.pick.ensures in
    let now = g.D.Watched.told new.disk in
    let before = g.D.Watched.told old.disk in
    let back = ap (λ (k : Core _). k.back) did.core in
    let serves = subst (λ (d : _). StandsIn bytes (g.D.Watched.told d) old.core os s) (sym did.disk) stands.serves in
    let open_stands : StandsOpen bytes old.core old.merging h l = record { stands = stands.serves.engine; opens = stands.opens } in
    let is : pick_outcome (pick_ruling l h percent).answer c.pick.result ≡ Answered (rulings.Rejected c.in-Err-Rejected.segment) =
    ap (pick_outcome (pick_ruling l h percent).answer) (c.in-Err-Rejected.is ∙ ap Err c.in-Err-Rejected.field-0-is) in
    let same = ((did.stands h l open_stands stands.passes.collects).answered (rulings.Rejected c.in-Err-Rejected.segment) is).0 in
    refused_passes bytes now old.core new.core os s serves back name bare percent (rulings.Rejected c.in-Err-Rejected.segment)
    (store_lines.Rejected c.in-Err-Rejected.segment) refl same
    old.collecting new.collecting c.args.passing.now did.core
    (subst (λ (q : _). Collects new.core new.collecting q.layout)
    (answers_ruling l h percent (rulings.Rejected c.in-Err-Rejected.segment) same)
    ((did.collects h l stands.serves.engine stands.passes.collects).answered (rulings.Rejected c.in-Err-Rejected.segment) is).1)
    stands.passes

pub returns-in-Err-Rejected-clause-carries : goal.returns-in-Err-Rejected-clause-carries
returns-in-Err-Rejected-clause-carries g c s stands bare =
    let bytes = g.D.Held.HeldFile.bytes in
    let old = c.args.served.now.engine in
    let new = c.pick.new.self in
    let os = c.args.served.now.opens.items in
    let name = c.args.name in
    let percent = c.args.percent in
    let l = s.store.layout in
    let h = history_of s in
    let did = c.pick.ensures in
    let now = g.D.Watched.told new.disk in
    let before = g.D.Watched.told old.disk in
    let back = ap (λ (k : Core _). k.back) did.core in
    let serves = subst (λ (d : _). StandsIn bytes (g.D.Watched.told d) old.core os s) (sym did.disk) stands.serves in
    let open_stands : StandsOpen bytes old.core old.merging h l = record { stands = stands.serves.engine; opens = stands.opens } in
    let is : pick_outcome (pick_ruling l h percent).answer c.pick.result ≡ Answered (rulings.Rejected c.in-Err-Rejected.segment) =
    ap (pick_outcome (pick_ruling l h percent).answer) (c.in-Err-Rejected.is ∙ ap Err c.in-Err-Rejected.field-0-is) in
    let same = ((did.stands h l open_stands stands.passes.collects).answered (rulings.Rejected c.in-Err-Rejected.segment) is).0 in
    let there : Serves bytes now s.openable new.core h l = record {
      stands = subst (λ (k : Core _). StandsFor bytes k h l) (sym did.core) stands.serves.engine;
      fits = subst (λ (k : Core _). Fits now k h l) (sym did.core) serves.fits;
      held = λ openable running. subst (λ (k : Core _). IsHeld k.back now h l) (sym did.core) (serves.held openable);
    } in
    quiet_carries g.D.Watched (record { only_now = g.met.D.Disk.only_now; counts_now = g.met.D.Disk.counts_now }) bytes now new.core os s
    (pick_as s.store name percent (thing_of s.store name))
    (refused_keeps bytes now old.core new.core os s serves back name bare percent (rulings.Rejected c.in-Err-Rejected.segment)
    (store_lines.Rejected c.in-Err-Rejected.segment) refl same) _
    (refused_makes bytes now old.core new.core os s serves back name bare percent (rulings.Rejected c.in-Err-Rejected.segment)
    (store_lines.Rejected c.in-Err-Rejected.segment) refl same (answers.Rejected _) (ap store_lines.Rejected c.in-Err-Rejected.segment-is)
    there)
    (λ halts. halts) old.disk new.disk did.disk

pub returns-in-Err-NoRewrite-clause-makes : goal.returns-in-Err-NoRewrite-clause-makes
returns-in-Err-NoRewrite-clause-makes g c s stands bare =
    let bytes = g.D.Held.HeldFile.bytes in
    let old = c.args.served.now.engine in
    let new = c.pick.new.self in
    let os = c.args.served.now.opens.items in
    let name = c.args.name in
    let percent = c.args.percent in
    let l = s.store.layout in
    let h = history_of s in
    let did = c.pick.ensures in
    let now = g.D.Watched.told new.disk in
    let before = g.D.Watched.told old.disk in
    let back = ap (λ (k : Core _). k.back) did.core in
    let serves = subst (λ (d : _). StandsIn bytes (g.D.Watched.told d) old.core os s) (sym did.disk) stands.serves in
    let open_stands : StandsOpen bytes old.core old.merging h l = record { stands = stands.serves.engine; opens = stands.opens } in
    let is : pick_outcome (pick_ruling l h percent).answer c.pick.result ≡ Answered rulings.NoRewrite =
    ap (pick_outcome (pick_ruling l h percent).answer) (c.in-Err-NoRewrite.is ∙ ap Err c.in-Err-NoRewrite.field-0-is) in
    let same = ((did.stands h l open_stands stands.passes.collects).answered rulings.NoRewrite is).0 in
    let there : Serves bytes now s.openable new.core h l = record {
      stands = subst (λ (k : Core _). StandsFor bytes k h l) (sym did.core) stands.serves.engine;
      fits = subst (λ (k : Core _). Fits now k h l) (sym did.core) serves.fits;
      held = λ openable running. subst (λ (k : Core _). IsHeld k.back now h l) (sym did.core) (serves.held openable);
    } in
    refused_makes bytes now old.core new.core os s serves back name bare percent rulings.NoRewrite store_lines.NoRewrite refl same
    answers.NoRewrite refl there

pub returns-in-Err-NoRewrite-clause-passes : goal.returns-in-Err-NoRewrite-clause-passes
returns-in-Err-NoRewrite-clause-passes g c s stands bare =
    let bytes = g.D.Held.HeldFile.bytes in
    let old = c.args.served.now.engine in
    let new = c.pick.new.self in
    let os = c.args.served.now.opens.items in
    let name = c.args.name in
    let percent = c.args.percent in
    let l = s.store.layout in
    let h = history_of s in
    let did = c.pick.ensures in
    let now = g.D.Watched.told new.disk in
    let before = g.D.Watched.told old.disk in
    let back = ap (λ (k : Core _). k.back) did.core in
    let serves = subst (λ (d : _). StandsIn bytes (g.D.Watched.told d) old.core os s) (sym did.disk) stands.serves in
    let open_stands : StandsOpen bytes old.core old.merging h l = record { stands = stands.serves.engine; opens = stands.opens } in
    let is : pick_outcome (pick_ruling l h percent).answer c.pick.result ≡ Answered rulings.NoRewrite =
    ap (pick_outcome (pick_ruling l h percent).answer) (c.in-Err-NoRewrite.is ∙ ap Err c.in-Err-NoRewrite.field-0-is) in
    let same = ((did.stands h l open_stands stands.passes.collects).answered rulings.NoRewrite is).0 in
    refused_passes bytes now old.core new.core os s serves back name bare percent rulings.NoRewrite store_lines.NoRewrite refl same
    old.collecting new.collecting c.args.passing.now did.core
    (subst (λ (q : _). Collects new.core new.collecting q.layout) (answers_ruling l h percent rulings.NoRewrite same)
    ((did.collects h l stands.serves.engine stands.passes.collects).answered rulings.NoRewrite is).1)
    stands.passes

pub returns-in-Err-NoRewrite-clause-carries : goal.returns-in-Err-NoRewrite-clause-carries
returns-in-Err-NoRewrite-clause-carries g c s stands bare =
    let bytes = g.D.Held.HeldFile.bytes in
    let old = c.args.served.now.engine in
    let new = c.pick.new.self in
    let os = c.args.served.now.opens.items in
    let name = c.args.name in
    let percent = c.args.percent in
    let l = s.store.layout in
    let h = history_of s in
    let did = c.pick.ensures in
    let now = g.D.Watched.told new.disk in
    let before = g.D.Watched.told old.disk in
    let back = ap (λ (k : Core _). k.back) did.core in
    let serves = subst (λ (d : _). StandsIn bytes (g.D.Watched.told d) old.core os s) (sym did.disk) stands.serves in
    let open_stands : StandsOpen bytes old.core old.merging h l = record { stands = stands.serves.engine; opens = stands.opens } in
    let is : pick_outcome (pick_ruling l h percent).answer c.pick.result ≡ Answered rulings.NoRewrite =
    ap (pick_outcome (pick_ruling l h percent).answer) (c.in-Err-NoRewrite.is ∙ ap Err c.in-Err-NoRewrite.field-0-is) in
    let same = ((did.stands h l open_stands stands.passes.collects).answered rulings.NoRewrite is).0 in
    let there : Serves bytes now s.openable new.core h l = record {
      stands = subst (λ (k : Core _). StandsFor bytes k h l) (sym did.core) stands.serves.engine;
      fits = subst (λ (k : Core _). Fits now k h l) (sym did.core) serves.fits;
      held = λ openable running. subst (λ (k : Core _). IsHeld k.back now h l) (sym did.core) (serves.held openable);
    } in
    quiet_carries g.D.Watched (record { only_now = g.met.D.Disk.only_now; counts_now = g.met.D.Disk.counts_now }) bytes now new.core os s
    (pick_as s.store name percent (thing_of s.store name))
    (refused_keeps bytes now old.core new.core os s serves back name bare percent rulings.NoRewrite store_lines.NoRewrite refl same) _
    (refused_makes bytes now old.core new.core os s serves back name bare percent rulings.NoRewrite store_lines.NoRewrite refl same
    answers.NoRewrite refl there)
    (λ halts. halts) old.disk new.disk did.disk

pub returns-clause-carries : goal.returns-clause-carries
returns-clause-carries g c s stands bare =
    let x = pick_as s.store c.args.name c.args.percent (thing_of s.store c.args.name) in
    subst (λ (d : _). CarriesOut {T = Answer} g.D.Watched IsStored Shown IsStopped c.args.served.now.engine.disk d s (state_by s x)
    (Err why.NoMemory))
    (sym c.pick.ensures.disk)
    (out_carries g.D.Watched (record { only_now = g.met.D.Disk.only_now; counts_now = g.met.D.Disk.counts_now })
    c.args.served.now.engine.disk s x (pick_commits s.store c.args.name c.args.percent (thing_of s.store c.args.name)))

pub returns-in-Ok-clause-removes : goal.returns-in-Ok-clause-removes
returns-in-Ok-clause-removes g c s stands bare removes =
    let new = c.pick.new.self in
    let percent = c.args.percent in
    let l = s.store.layout in
    let h = history_of s in
    subst (λ (m : Layout). Removes new.core new.removing m) (sym (picked_layout s c.args.name percent bare))
    ((c.pick.ensures.removes h l stands.serves.engine stands.passes.collects removes).answered (pick_ruling l h percent).answer
    (ap (pick_outcome (pick_ruling l h percent).answer) c.in-Ok.is)).1

pub returns-in-Err-InvalidRequest-clause-removes : goal.returns-in-Err-InvalidRequest-clause-removes
returns-in-Err-InvalidRequest-clause-removes g c s stands bare removes =
    let new = c.pick.new.self in
    let percent = c.args.percent in
    let l = s.store.layout in
    let h = history_of s in
    subst (λ (m : Layout). Removes new.core new.removing m) (sym (picked_layout s c.args.name percent bare))
    ((c.pick.ensures.removes h l stands.serves.engine stands.passes.collects removes).answered rulings.InvalidRequest
    (ap (pick_outcome (pick_ruling l h percent).answer) (c.in-Err-InvalidRequest.is ∙ ap Err c.in-Err-InvalidRequest.field-0-is))).1

pub returns-in-Err-Rejected-clause-removes : goal.returns-in-Err-Rejected-clause-removes
returns-in-Err-Rejected-clause-removes g c s stands bare removes =
    let new = c.pick.new.self in
    let percent = c.args.percent in
    let l = s.store.layout in
    let h = history_of s in
    subst (λ (m : Layout). Removes new.core new.removing m) (sym (picked_layout s c.args.name percent bare))
    ((c.pick.ensures.removes h l stands.serves.engine stands.passes.collects removes).answered (rulings.Rejected
    c.in-Err-Rejected.segment)
    (ap (pick_outcome (pick_ruling l h percent).answer) (c.in-Err-Rejected.is ∙ ap Err c.in-Err-Rejected.field-0-is))).1

pub returns-in-Err-NoRewrite-clause-removes : goal.returns-in-Err-NoRewrite-clause-removes
returns-in-Err-NoRewrite-clause-removes g c s stands bare removes =
    let new = c.pick.new.self in
    let percent = c.args.percent in
    let l = s.store.layout in
    let h = history_of s in
    subst (λ (m : Layout). Removes new.core new.removing m) (sym (picked_layout s c.args.name percent bare))
    ((c.pick.ensures.removes h l stands.serves.engine stands.passes.collects removes).answered rulings.NoRewrite
    (ap (pick_outcome (pick_ruling l h percent).answer) (c.in-Err-NoRewrite.is ∙ ap Err c.in-Err-NoRewrite.field-0-is))).1
