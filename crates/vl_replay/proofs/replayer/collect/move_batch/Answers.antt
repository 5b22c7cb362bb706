-- A move is answered as the ruling on it has it, and carried out so.
use Rattle.std.proofs.Common.{◌≤◌, ℕ, true, false, inl, inr, refl, ap, sym, ◌∙◌, subst}
use Rattle.std.specs.Prelude.{Option, None, Some, Ok, Err}
use Rattle.std.specs.Str.{bytes_eq}
use Rattle.vl_engine_model.specs.Store.Lines.{Name}
use Rattle.std.specs.List.{AllByRecursion}
use Rattle.vl_back.specs.declared.back.Back.{Back}
use Rattle.vl_engine_laws.specs.Pointed.{layout_logs}
use Rattle.vl_engine_laws.specs.Represents as engine
use Rattle.vl_engine_laws.specs.laws.StillLaws.{there_now}
use Rattle.vl_engine_laws.specs.Lent.{StandsOpen}
use Rattle.vl_steps.specs.Relocating.{IsDamaged, IsOfPass, MoveLeavesDisk, at, batch_back, move_outcome}
use Rattle.vl_steps.specs.declared.fails.MoveFail.{MoveFail}
use Rattle.vl_engine_model.specs.Rulings.Relocate as move
use Rattle.vl_engine_model.specs.Store.Dispatch.{move_by}
use Rattle.vl_engine_model.specs.Store.Lines as store_lines
use Rattle.vl_engine_model.specs.Shown.{IsThere}
use Rattle.vl_engine_model.specs.Store.Things.{APass, Step, thing_in, thing_of}
use Rattle.vl_replay_laws.specs.Passing.{Passes}
use Rattle.vl_replay_laws.specs.Replaying.{MakesStep}
use Rattle.vl_script_model.specs.Sequential.{history_of}
use Rattle.vl_script.specs.declared.answer.Answer.TheVariants as answers
use Rattle.vl_replay_laws.specs.laws.Disk.Carried.{quiet_carries}
use Rattle.vl_replay_laws.specs.laws.Disk.Committed.{carries_short, only_keeps}
use Rattle.vl_replay_laws.specs.laws.Disk.Moved.{answered_moves, failed_moves, leaves, short_moves, unread_moves}
use Rattle.vl_replay_laws.specs.laws.Names.Making.{only_makes}
use Rattle.vl_replay_laws.specs.laws.Names.Serving.{decides_all, represents}
use Rattle.vl_replay_laws.specs.laws.Passes.Batching.{move_unknown, none_named, other_named, own_name}
use Rattle.vl_replay_laws.specs.laws.Passes.Moving.{decides_weaker, moved_makes, moved_opens, moved_passes, refused_makes, refused_opens}
use Rattle.vl_replay_laws.specs.laws.Passes.Moving.{refused_passes, waits_there}
use Rattle.vl_replay_laws.specs.laws.Passes.Standing.{out_carries}
use Rattle.vl_space.specs.Removing.{Removes}
use Rattle.vl_engine_model.specs.declared.layout.Layout.{Layout}
use Rattle.vl_replay.proofs.AsCalled.Going.{move_answered, out_of_memory}
use Rattle.vl_replay.specs.AsCalled.{AnswersMove}
use Rattle.vl_replay_laws.specs.Passing.{move_answer}
use Rattle.vl_collect.specs.laws.SureReaders.{never_risen}
use Rattle.vl_replay.proofs.CarryingJob.{risen_counted}
use Rattle.vl_replay.proofs.replayer.collect.move_batch.Goals as goal

pub returns-in_default-clause-makes : goal.returns-in_default-clause-makes
returns-in_default-clause-makes g c s stands =
    let bytes = g.D.Held.HeldFile.bytes in
    let disk = c.args.served.now.engine.disk in
    let seen = g.D.Watched.told disk in
    let core = c.args.served.now.engine.core in
    let os = c.args.served.now.opens.items in
    let name = c.args.name in
    let h = history_of s in
    let l = s.store.layout in
    only_makes bytes seen core os s stands.serves os (move_by s.store name (thing_of s.store name)) (answers.Unknown name)
    (store_lines.Unknown name) (move_unknown s.store name (thing_of s.store name)
    (none_named bytes s.store.things l c.args.passing.now stands.passes.is_open name name refl c.in_default.is)) refl stands.serves.names

pub returns-in_default-clause-carries : goal.returns-in_default-clause-carries
returns-in_default-clause-carries g c s stands =
    let bytes = g.D.Held.HeldFile.bytes in
    let disk = c.args.served.now.engine.disk in
    let seen = g.D.Watched.told disk in
    let core = c.args.served.now.engine.core in
    let os = c.args.served.now.opens.items in
    let name = c.args.name in
    let h = history_of s in
    let l = s.store.layout in
    quiet_carries g.D.Watched (record { only_now = g.met.D.Disk.only_now; counts_now = g.met.D.Disk.counts_now }) bytes seen core os s
    (move_by s.store name (thing_of s.store name))
    (only_keeps s.store _ _ (move_unknown s.store name (thing_of s.store name)
    (none_named bytes s.store.things l c.args.passing.now stands.passes.is_open name name refl c.in_default.is))) _
    (returns-in_default-clause-makes g c s stands) (λ halts. halts) disk disk refl

pub returns-then-not-is_named-clause-makes : goal.returns-then-not-is_named-clause-makes
returns-then-not-is_named-clause-makes g c s stands =
    let bytes = g.D.Held.HeldFile.bytes in
    let disk = c.args.served.now.engine.disk in
    let seen = g.D.Watched.told disk in
    let core = c.args.served.now.engine.core in
    let os = c.args.served.now.opens.items in
    let name = c.args.name in
    let h = history_of s in
    let l = s.store.layout in
    only_makes bytes seen core os s stands.serves os (move_by s.store name (thing_of s.store name)) (answers.Unknown name)
    (store_lines.Unknown name) (move_unknown s.store name (thing_of s.store name)
    (other_named bytes s.store.things l c.args.passing.now stands.passes.is_open name c.as_slice.result.now c.as_slice.ensures
    c.in-Some.going c.in-Some.is (sym c.is_named.ensures ∙ c.if-not-is_named.true))) refl stands.serves.names

pub returns-then-not-is_named-clause-carries : goal.returns-then-not-is_named-clause-carries
returns-then-not-is_named-clause-carries g c s stands =
    let bytes = g.D.Held.HeldFile.bytes in
    let disk = c.args.served.now.engine.disk in
    let seen = g.D.Watched.told disk in
    let core = c.args.served.now.engine.core in
    let os = c.args.served.now.opens.items in
    let name = c.args.name in
    let h = history_of s in
    let l = s.store.layout in
    quiet_carries g.D.Watched (record { only_now = g.met.D.Disk.only_now; counts_now = g.met.D.Disk.counts_now }) bytes seen core os s
    (move_by s.store name (thing_of s.store name))
    (only_keeps s.store _ _ (move_unknown s.store name (thing_of s.store name)
    (other_named bytes s.store.things l c.args.passing.now stands.passes.is_open name c.as_slice.result.now c.as_slice.ensures
    c.in-Some.going c.in-Some.is (sym c.is_named.ensures ∙ c.if-not-is_named.true)))) _
    (returns-then-not-is_named-clause-makes g c s stands) (λ halts. halts) disk disk refl

pub returns-in_default-take-clause-carries : goal.returns-in_default-take-clause-carries
returns-in_default-take-clause-carries g c s stands =
    let bytes = g.D.Held.HeldFile.bytes in
    let disk = c.args.served.now.engine.disk in
    let seen = g.D.Watched.told disk in
    let core = c.args.served.now.engine.core in
    let os = c.args.served.now.opens.items in
    let name = c.args.name in
    let h = history_of s in
    let l = s.store.layout in
    let before = subst (λ (o : Option _). Passes bytes core c.args.served.now.engine.collecting o s.store.things l) c.in-Some.is
    stands.passes in
    let name_is = own_name bytes s.store.things l c.args.passing.now stands.passes.is_open name c.as_slice.result.now c.as_slice.ensures
    c.in-Some.going c.in-Some.is (sym c.is_named.ensures ∙ c.if-not-is_named.false) in
    let p = before.is_open.pass in
    let idle = (ap (move_by s.store name) (ap (thing_in s.store.things) name_is ∙ before.is_open.there ∙ ap
    (λ (b : Option _). Some (APass p b)) (sym c.in_default-take.ensures.value))) in
    quiet_carries g.D.Watched (record { only_now = g.met.D.Disk.only_now; counts_now = g.met.D.Disk.counts_now }) bytes seen core os s
    (move_by s.store name (thing_of s.store name))
    (only_keeps s.store _ _ idle) _ (only_makes bytes seen core os s stands.serves os (move_by s.store name (thing_of s.store name))
    answers.Idle store_lines.Idle idle refl
    stands.serves.names) (λ halts. halts) disk disk refl

pub returns-in_err-reader-clause-carries : goal.returns-in_err-reader-clause-carries
returns-in_err-reader-clause-carries g c s stands =
    let bytes = g.D.Held.HeldFile.bytes in
    let disk = c.args.served.now.engine.disk in
    let seen = g.D.Watched.told disk in
    let core = c.args.served.now.engine.core in
    let os = c.args.served.now.opens.items in
    let name = c.args.name in
    let h = history_of s in
    let l = s.store.layout in
    let before = subst (λ (o : Option _). Passes bytes core c.args.served.now.engine.collecting o s.store.things l) c.in-Some.is
    stands.passes in
    let name_is = own_name bytes s.store.things l c.args.passing.now stands.passes.is_open name c.as_slice.result.now c.as_slice.ensures
    c.in-Some.going c.in-Some.is (sym c.is_named.ensures ∙ c.if-not-is_named.false) in
    let p = before.is_open.pass in
    let batch = c.in-Some-take.batch in
    let there = waits_there bytes core c.args.served.now.engine.collecting s.store name c.in-Some.going before name_is batch
    (sym c.in-Some-take.ensures.value) in
    carries_short g.D.Watched _ _ s _ _ c.from_residual.ensures.1
    (out_carries g.D.Watched (record { only_now = g.met.D.Disk.only_now; counts_now = g.met.D.Disk.counts_now }) disk s
    (move_by s.store name (thing_of s.store name))
    (leaves g.D.Watched bytes core core disk disk os s stands.serves stands.serves.within name p batch there).1)

pub returns-in-Ok-clause-makes : goal.returns-in-Ok-clause-makes
returns-in-Ok-clause-makes g c s stands =
    let bytes = g.D.Held.HeldFile.bytes in
    let disk = c.args.served.now.engine.disk in
    let seen = g.D.Watched.told disk in
    let core = c.args.served.now.engine.core in
    let os = c.args.served.now.opens.items in
    let name = c.args.name in
    let h = history_of s in
    let l = s.store.layout in
    let before = subst (λ (o : Option _). Passes bytes core c.args.served.now.engine.collecting o s.store.things l) c.in-Some.is
    stands.passes in
    let name_is = own_name bytes s.store.things l c.args.passing.now stands.passes.is_open name c.as_slice.result.now c.as_slice.ensures
    c.in-Some.going c.in-Some.is (sym c.is_named.ensures ∙ c.if-not-is_named.false) in
    let p = before.is_open.pass in
    let batch = c.in-Some-take.batch in
    let there = waits_there bytes core c.args.served.now.engine.collecting s.store name c.in-Some.going before name_is batch
    (sym c.in-Some-take.ensures.value) in
    let now = g.D.Watched.told c.relocate.new.self.disk in
    let then = c.relocate.new.self.core in
    let of : IsOfPass bytes core c.in-Some.going.pass.log batch c.in_ok-reader.reader.looks h l p = record {
      stands = stands.serves.engine;
      segment = sym before.is_open.goes.segment;
      lasts = before.is_open.lasts;
      there = before.is_open.batch batch (sym c.in-Some-take.ensures.value);
      fits = c.in_ok-reader.ensures.fits h l stands.serves.engine;
    } in
    let within = subst (λ (b : Back). b.state.next_log ≤ b.next_log) (sym c.relocate.ensures.steps) stands.serves.within in
    subst (λ (n : ℕ). MakesStep bytes now then os s (move_by s.store name (thing_of s.store name)) (Ok (answers.Moved n)))
    (sym c.from.ensures)
    (moved_makes bytes seen now core then os s stands.serves name p batch there within _ _ c.in-Ok.count
    (decides_all bytes now s.openable then h l _ _ _ _
    (decides_weaker (StandsOpen bytes then c.relocate.new.self.merging) (engine.StandsFor bytes then) (λ k m both. both.stands) h l _ _ _ _
    (c.in-Ok.ensures.stands h l p of (record { stands = stands.serves.engine; opens = stands.opens })))
    (c.in-Ok.ensures.fits h l p of stands.serves.fits)
    (λ openable. (c.in-Ok.ensures.carries h l p of (represents bytes seen core os s stands.serves openable)).decides)))

pub returns-in-Ok-clause-passes : goal.returns-in-Ok-clause-passes
returns-in-Ok-clause-passes g c s stands =
    let bytes = g.D.Held.HeldFile.bytes in
    let disk = c.args.served.now.engine.disk in
    let seen = g.D.Watched.told disk in
    let core = c.args.served.now.engine.core in
    let os = c.args.served.now.opens.items in
    let name = c.args.name in
    let h = history_of s in
    let l = s.store.layout in
    let before = subst (λ (o : Option _). Passes bytes core c.args.served.now.engine.collecting o s.store.things l) c.in-Some.is
    stands.passes in
    let name_is = own_name bytes s.store.things l c.args.passing.now stands.passes.is_open name c.as_slice.result.now c.as_slice.ensures
    c.in-Some.going c.in-Some.is (sym c.is_named.ensures ∙ c.if-not-is_named.false) in
    let p = before.is_open.pass in
    let batch = c.in-Some-take.batch in
    let there = waits_there bytes core c.args.served.now.engine.collecting s.store name c.in-Some.going before name_is batch
    (sym c.in-Some-take.ensures.value) in
    let now = g.D.Watched.told c.relocate.new.self.disk in
    let then = c.relocate.new.self.core in
    let of : IsOfPass bytes core c.in-Some.going.pass.log batch c.in_ok-reader.reader.looks h l p = record {
      stands = stands.serves.engine;
      segment = sym before.is_open.goes.segment;
      lasts = before.is_open.lasts;
      there = before.is_open.batch batch (sym c.in-Some-take.ensures.value);
      fits = c.in_ok-reader.ensures.fits h l stands.serves.engine;
    } in
    let within = subst (λ (b : Back). b.state.next_log ≤ b.next_log) (sym c.relocate.ensures.steps) stands.serves.within in
    moved_passes bytes seen now core then os s stands.serves name p batch there
    c.args.served.now.engine.collecting c.relocate.new.self.collecting c.relocate.ensures.collecting
    (ap (λ b. b.logs) c.relocate.ensures.logs) c.in-Some.going
    (record { name = c.in-Some.going.name; pass = c.in-Some.going.pass; batch = c.take.new.self }) before name_is refl refl refl
    c.in-Ok.count ((c.in-Ok.ensures.fits h l p of stands.serves.fits).answered (move.Moves c.in-Ok.count) refl).0 c.take.ensures.after

pub returns-in-Ok-clause-carries : goal.returns-in-Ok-clause-carries
returns-in-Ok-clause-carries g c s stands =
    let bytes = g.D.Held.HeldFile.bytes in
    let disk = c.args.served.now.engine.disk in
    let seen = g.D.Watched.told disk in
    let core = c.args.served.now.engine.core in
    let os = c.args.served.now.opens.items in
    let name = c.args.name in
    let h = history_of s in
    let l = s.store.layout in
    let before = subst (λ (o : Option _). Passes bytes core c.args.served.now.engine.collecting o s.store.things l) c.in-Some.is
    stands.passes in
    let name_is = own_name bytes s.store.things l c.args.passing.now stands.passes.is_open name c.as_slice.result.now c.as_slice.ensures
    c.in-Some.going c.in-Some.is (sym c.is_named.ensures ∙ c.if-not-is_named.false) in
    let p = before.is_open.pass in
    let batch = c.in-Some-take.batch in
    let there = waits_there bytes core c.args.served.now.engine.collecting s.store name c.in-Some.going before name_is batch
    (sym c.in-Some-take.ensures.value) in
    let now = g.D.Watched.told c.relocate.new.self.disk in
    let then = c.relocate.new.self.core in
    let of : IsOfPass bytes core c.in-Some.going.pass.log batch c.in_ok-reader.reader.looks h l p = record {
      stands = stands.serves.engine;
      segment = sym before.is_open.goes.segment;
      lasts = before.is_open.lasts;
      there = before.is_open.batch batch (sym c.in-Some-take.ensures.value);
      fits = c.in_ok-reader.ensures.fits h l stands.serves.engine;
    } in
    let within = subst (λ (b : Back). b.state.next_log ≤ b.next_log) (sym c.relocate.ensures.steps) stands.serves.within in
    answered_moves g.D.Watched bytes core then disk c.relocate.new.self.disk os s stands.serves within name p batch there
    c.relocate.ensures.files _ _
    (λ represents. c.in-Ok.ensures.carries h l p of represents) (move.Moves c.in-Ok.count) refl _

pub returns-in-Ok-clause-opens : goal.returns-in-Ok-clause-opens
returns-in-Ok-clause-opens g c s stands =
    let bytes = g.D.Held.HeldFile.bytes in
    let disk = c.args.served.now.engine.disk in
    let seen = g.D.Watched.told disk in
    let core = c.args.served.now.engine.core in
    let os = c.args.served.now.opens.items in
    let name = c.args.name in
    let h = history_of s in
    let l = s.store.layout in
    let before = subst (λ (o : Option _). Passes bytes core c.args.served.now.engine.collecting o s.store.things l) c.in-Some.is
    stands.passes in
    let name_is = own_name bytes s.store.things l c.args.passing.now stands.passes.is_open name c.as_slice.result.now c.as_slice.ensures
    c.in-Some.going c.in-Some.is (sym c.is_named.ensures ∙ c.if-not-is_named.false) in
    let p = before.is_open.pass in
    let batch = c.in-Some-take.batch in
    let there = waits_there bytes core c.args.served.now.engine.collecting s.store name c.in-Some.going before name_is batch
    (sym c.in-Some-take.ensures.value) in
    let now = g.D.Watched.told c.relocate.new.self.disk in
    let then = c.relocate.new.self.core in
    let of : IsOfPass bytes core c.in-Some.going.pass.log batch c.in_ok-reader.reader.looks h l p = record {
      stands = stands.serves.engine;
      segment = sym before.is_open.goes.segment;
      lasts = before.is_open.lasts;
      there = before.is_open.batch batch (sym c.in-Some-take.ensures.value);
      fits = c.in_ok-reader.ensures.fits h l stands.serves.engine;
    } in
    let within = subst (λ (b : Back). b.state.next_log ≤ b.next_log) (sym c.relocate.ensures.steps) stands.serves.within in
    moved_opens bytes seen now core then os s stands.serves name p batch there c.relocate.new.self.merging _ _ c.in-Ok.count
    (c.in-Ok.ensures.stands h l p of (record { stands = stands.serves.engine; opens = stands.opens }))

pub returns-in-Err-Full-clause-makes : goal.returns-in-Err-Full-clause-makes
returns-in-Err-Full-clause-makes g c s stands =
    let bytes = g.D.Held.HeldFile.bytes in
    let disk = c.args.served.now.engine.disk in
    let seen = g.D.Watched.told disk in
    let core = c.args.served.now.engine.core in
    let os = c.args.served.now.opens.items in
    let name = c.args.name in
    let h = history_of s in
    let l = s.store.layout in
    let before = subst (λ (o : Option _). Passes bytes core c.args.served.now.engine.collecting o s.store.things l) c.in-Some.is
    stands.passes in
    let name_is = own_name bytes s.store.things l c.args.passing.now stands.passes.is_open name c.as_slice.result.now c.as_slice.ensures
    c.in-Some.going c.in-Some.is (sym c.is_named.ensures ∙ c.if-not-is_named.false) in
    let p = before.is_open.pass in
    let batch = c.in-Some-take.batch in
    let there = waits_there bytes core c.args.served.now.engine.collecting s.store name c.in-Some.going before name_is batch
    (sym c.in-Some-take.ensures.value) in
    let now = g.D.Watched.told c.relocate.new.self.disk in
    let then = c.relocate.new.self.core in
    let of : IsOfPass bytes core c.in-Some.going.pass.log batch c.in_ok-reader.reader.looks h l p = record {
      stands = stands.serves.engine;
      segment = sym before.is_open.goes.segment;
      lasts = before.is_open.lasts;
      there = before.is_open.batch batch (sym c.in-Some-take.ensures.value);
      fits = c.in_ok-reader.ensures.fits h l stands.serves.engine;
    } in
    let within = subst (λ (b : Back). b.state.next_log ≤ b.next_log) (sym c.relocate.ensures.steps) stands.serves.within in
    refused_makes bytes seen now core then os s stands.serves name p batch there within _ _
    (move.Full c.in-Err-Full.field-0-1 c.in-Err-Full.field-0-2) answers.Full tt refl _
    (ap (λ (f : MoveFail). move_outcome (Err f)) c.in-Err-Full.field-0-is)
    (decides_all bytes now s.openable then h l _ _ _ _
    (decides_weaker (StandsOpen bytes then c.relocate.new.self.merging) (engine.StandsFor bytes then) (λ k m both. both.stands) h l _ _ _ _
    (c.in-Err-Full.ensures.stands h l p of (record { stands = stands.serves.engine; opens = stands.opens })))
    (c.in-Err-Full.ensures.fits h l p of stands.serves.fits)
    (λ openable. (c.in-Err-Full.ensures.carries h l p of (represents bytes seen core os s stands.serves openable)).decides))

pub returns-in-Err-Full-clause-passes : goal.returns-in-Err-Full-clause-passes
returns-in-Err-Full-clause-passes g c s stands =
    let bytes = g.D.Held.HeldFile.bytes in
    let disk = c.args.served.now.engine.disk in
    let seen = g.D.Watched.told disk in
    let core = c.args.served.now.engine.core in
    let os = c.args.served.now.opens.items in
    let name = c.args.name in
    let h = history_of s in
    let l = s.store.layout in
    let before = subst (λ (o : Option _). Passes bytes core c.args.served.now.engine.collecting o s.store.things l) c.in-Some.is
    stands.passes in
    let name_is = own_name bytes s.store.things l c.args.passing.now stands.passes.is_open name c.as_slice.result.now c.as_slice.ensures
    c.in-Some.going c.in-Some.is (sym c.is_named.ensures ∙ c.if-not-is_named.false) in
    let p = before.is_open.pass in
    let batch = c.in-Some-take.batch in
    let there = waits_there bytes core c.args.served.now.engine.collecting s.store name c.in-Some.going before name_is batch
    (sym c.in-Some-take.ensures.value) in
    let now = g.D.Watched.told c.relocate.new.self.disk in
    let then = c.relocate.new.self.core in
    let of : IsOfPass bytes core c.in-Some.going.pass.log batch c.in_ok-reader.reader.looks h l p = record {
      stands = stands.serves.engine;
      segment = sym before.is_open.goes.segment;
      lasts = before.is_open.lasts;
      there = before.is_open.batch batch (sym c.in-Some-take.ensures.value);
      fits = c.in_ok-reader.ensures.fits h l stands.serves.engine;
    } in
    let within = subst (λ (b : Back). b.state.next_log ≤ b.next_log) (sym c.relocate.ensures.steps) stands.serves.within in
    refused_passes bytes seen now core then os s stands.serves name p batch there
    c.args.served.now.engine.collecting c.relocate.new.self.collecting c.relocate.ensures.collecting
    (ap (λ b. b.logs) c.relocate.ensures.logs) c.in-Some.going
    (record { name = c.in-Some.going.name; pass = c.in-Some.going.pass; batch = Some c.in-Err-Full.batch }) before name_is refl refl refl
    (move.Full c.in-Err-Full.field-0-1 c.in-Err-Full.field-0-2)
    ((c.in-Err-Full.ensures.fits h l p of stands.serves.fits).answered (move.Full c.in-Err-Full.field-0-1 c.in-Err-Full.field-0-2)
    (ap (λ (f : MoveFail). move_outcome (Err f)) c.in-Err-Full.field-0-is)).0 tt
    (ap (λ (b : Option _). record c.in-Some.going { batch = b })
    (ap Some (c.in-Err-Full.ensures.back c.in-Err-Full.batch (ap (λ (f : MoveFail). batch_back (Err f)) c.in-Err-Full.field-0-is)) ∙
    c.in-Some-take.ensures.value))

pub returns-in-Err-Full-clause-carries : goal.returns-in-Err-Full-clause-carries
returns-in-Err-Full-clause-carries g c s stands =
    let bytes = g.D.Held.HeldFile.bytes in
    let disk = c.args.served.now.engine.disk in
    let seen = g.D.Watched.told disk in
    let core = c.args.served.now.engine.core in
    let os = c.args.served.now.opens.items in
    let name = c.args.name in
    let h = history_of s in
    let l = s.store.layout in
    let before = subst (λ (o : Option _). Passes bytes core c.args.served.now.engine.collecting o s.store.things l) c.in-Some.is
    stands.passes in
    let name_is = own_name bytes s.store.things l c.args.passing.now stands.passes.is_open name c.as_slice.result.now c.as_slice.ensures
    c.in-Some.going c.in-Some.is (sym c.is_named.ensures ∙ c.if-not-is_named.false) in
    let p = before.is_open.pass in
    let batch = c.in-Some-take.batch in
    let there = waits_there bytes core c.args.served.now.engine.collecting s.store name c.in-Some.going before name_is batch
    (sym c.in-Some-take.ensures.value) in
    let now = g.D.Watched.told c.relocate.new.self.disk in
    let then = c.relocate.new.self.core in
    let of : IsOfPass bytes core c.in-Some.going.pass.log batch c.in_ok-reader.reader.looks h l p = record {
      stands = stands.serves.engine;
      segment = sym before.is_open.goes.segment;
      lasts = before.is_open.lasts;
      there = before.is_open.batch batch (sym c.in-Some-take.ensures.value);
      fits = c.in_ok-reader.ensures.fits h l stands.serves.engine;
    } in
    let within = subst (λ (b : Back). b.state.next_log ≤ b.next_log) (sym c.relocate.ensures.steps) stands.serves.within in
    answered_moves g.D.Watched bytes core then disk c.relocate.new.self.disk os s stands.serves within name p batch there
    c.relocate.ensures.files _ _
    (λ represents. c.in-Err-Full.ensures.carries h l p of represents) (move.Full c.in-Err-Full.field-0-1 c.in-Err-Full.field-0-2)
    (ap (λ (f : MoveFail). move_outcome (Err f)) c.in-Err-Full.field-0-is) _

pub returns-in-Err-Full-clause-opens : goal.returns-in-Err-Full-clause-opens
returns-in-Err-Full-clause-opens g c s stands =
    let bytes = g.D.Held.HeldFile.bytes in
    let disk = c.args.served.now.engine.disk in
    let seen = g.D.Watched.told disk in
    let core = c.args.served.now.engine.core in
    let os = c.args.served.now.opens.items in
    let name = c.args.name in
    let h = history_of s in
    let l = s.store.layout in
    let before = subst (λ (o : Option _). Passes bytes core c.args.served.now.engine.collecting o s.store.things l) c.in-Some.is
    stands.passes in
    let name_is = own_name bytes s.store.things l c.args.passing.now stands.passes.is_open name c.as_slice.result.now c.as_slice.ensures
    c.in-Some.going c.in-Some.is (sym c.is_named.ensures ∙ c.if-not-is_named.false) in
    let p = before.is_open.pass in
    let batch = c.in-Some-take.batch in
    let there = waits_there bytes core c.args.served.now.engine.collecting s.store name c.in-Some.going before name_is batch
    (sym c.in-Some-take.ensures.value) in
    let now = g.D.Watched.told c.relocate.new.self.disk in
    let then = c.relocate.new.self.core in
    let of : IsOfPass bytes core c.in-Some.going.pass.log batch c.in_ok-reader.reader.looks h l p = record {
      stands = stands.serves.engine;
      segment = sym before.is_open.goes.segment;
      lasts = before.is_open.lasts;
      there = before.is_open.batch batch (sym c.in-Some-take.ensures.value);
      fits = c.in_ok-reader.ensures.fits h l stands.serves.engine;
    } in
    let within = subst (λ (b : Back). b.state.next_log ≤ b.next_log) (sym c.relocate.ensures.steps) stands.serves.within in
    refused_opens bytes seen now core then os s stands.serves name p batch there c.relocate.new.self.merging _ _
    (move.Full c.in-Err-Full.field-0-1 c.in-Err-Full.field-0-2) tt _ (ap (λ (f : MoveFail). move_outcome (Err f)) c.in-Err-Full.field-0-is)
    (c.in-Err-Full.ensures.stands h l p of (record { stands = stands.serves.engine; opens = stands.opens }))

pub returns-in-Err-Exhausted-clause-makes : goal.returns-in-Err-Exhausted-clause-makes
returns-in-Err-Exhausted-clause-makes g c s stands =
    let bytes = g.D.Held.HeldFile.bytes in
    let disk = c.args.served.now.engine.disk in
    let seen = g.D.Watched.told disk in
    let core = c.args.served.now.engine.core in
    let os = c.args.served.now.opens.items in
    let name = c.args.name in
    let h = history_of s in
    let l = s.store.layout in
    let before = subst (λ (o : Option _). Passes bytes core c.args.served.now.engine.collecting o s.store.things l) c.in-Some.is
    stands.passes in
    let name_is = own_name bytes s.store.things l c.args.passing.now stands.passes.is_open name c.as_slice.result.now c.as_slice.ensures
    c.in-Some.going c.in-Some.is (sym c.is_named.ensures ∙ c.if-not-is_named.false) in
    let p = before.is_open.pass in
    let batch = c.in-Some-take.batch in
    let there = waits_there bytes core c.args.served.now.engine.collecting s.store name c.in-Some.going before name_is batch
    (sym c.in-Some-take.ensures.value) in
    let now = g.D.Watched.told c.relocate.new.self.disk in
    let then = c.relocate.new.self.core in
    let of : IsOfPass bytes core c.in-Some.going.pass.log batch c.in_ok-reader.reader.looks h l p = record {
      stands = stands.serves.engine;
      segment = sym before.is_open.goes.segment;
      lasts = before.is_open.lasts;
      there = before.is_open.batch batch (sym c.in-Some-take.ensures.value);
      fits = c.in_ok-reader.ensures.fits h l stands.serves.engine;
    } in
    let within = subst (λ (b : Back). b.state.next_log ≤ b.next_log) (sym c.relocate.ensures.steps) stands.serves.within in
    refused_makes bytes seen now core then os s stands.serves name p batch there within _ _ (move.Exhausted c.in-Err-Exhausted.counter)
    (answers.Exhausted c.in-Err-Exhausted.counter) tt refl _ (ap (λ (f : MoveFail). move_outcome (Err f)) c.in-Err-Exhausted.field-0-is)
    (decides_all bytes now s.openable then h l _ _ _ _
    (decides_weaker (StandsOpen bytes then c.relocate.new.self.merging) (engine.StandsFor bytes then) (λ k m both. both.stands) h l _ _ _ _
    (c.in-Err-Exhausted.ensures.stands h l p of (record { stands = stands.serves.engine; opens = stands.opens })))
    (c.in-Err-Exhausted.ensures.fits h l p of stands.serves.fits)
    (λ openable. (c.in-Err-Exhausted.ensures.carries h l p of (represents bytes seen core os s stands.serves openable)).decides))

pub returns-in-Err-Exhausted-clause-passes : goal.returns-in-Err-Exhausted-clause-passes
returns-in-Err-Exhausted-clause-passes g c s stands =
    let bytes = g.D.Held.HeldFile.bytes in
    let disk = c.args.served.now.engine.disk in
    let seen = g.D.Watched.told disk in
    let core = c.args.served.now.engine.core in
    let os = c.args.served.now.opens.items in
    let name = c.args.name in
    let h = history_of s in
    let l = s.store.layout in
    let before = subst (λ (o : Option _). Passes bytes core c.args.served.now.engine.collecting o s.store.things l) c.in-Some.is
    stands.passes in
    let name_is = own_name bytes s.store.things l c.args.passing.now stands.passes.is_open name c.as_slice.result.now c.as_slice.ensures
    c.in-Some.going c.in-Some.is (sym c.is_named.ensures ∙ c.if-not-is_named.false) in
    let p = before.is_open.pass in
    let batch = c.in-Some-take.batch in
    let there = waits_there bytes core c.args.served.now.engine.collecting s.store name c.in-Some.going before name_is batch
    (sym c.in-Some-take.ensures.value) in
    let now = g.D.Watched.told c.relocate.new.self.disk in
    let then = c.relocate.new.self.core in
    let of : IsOfPass bytes core c.in-Some.going.pass.log batch c.in_ok-reader.reader.looks h l p = record {
      stands = stands.serves.engine;
      segment = sym before.is_open.goes.segment;
      lasts = before.is_open.lasts;
      there = before.is_open.batch batch (sym c.in-Some-take.ensures.value);
      fits = c.in_ok-reader.ensures.fits h l stands.serves.engine;
    } in
    let within = subst (λ (b : Back). b.state.next_log ≤ b.next_log) (sym c.relocate.ensures.steps) stands.serves.within in
    refused_passes bytes seen now core then os s stands.serves name p batch there
    c.args.served.now.engine.collecting c.relocate.new.self.collecting c.relocate.ensures.collecting
    (ap (λ b. b.logs) c.relocate.ensures.logs) c.in-Some.going
    (record { name = c.in-Some.going.name; pass = c.in-Some.going.pass; batch = Some c.in-Err-Exhausted.batch }) before name_is refl refl
    refl
    (move.Exhausted c.in-Err-Exhausted.counter)
    ((c.in-Err-Exhausted.ensures.fits h l p of stands.serves.fits).answered (move.Exhausted c.in-Err-Exhausted.counter)
    (ap (λ (f : MoveFail). move_outcome (Err f)) c.in-Err-Exhausted.field-0-is)).0 tt
    (ap (λ (b : Option _). record c.in-Some.going { batch = b })
    (ap Some (c.in-Err-Exhausted.ensures.back c.in-Err-Exhausted.batch
    (ap (λ (f : MoveFail). batch_back (Err f)) c.in-Err-Exhausted.field-0-is)) ∙ c.in-Some-take.ensures.value))

pub returns-in-Err-Exhausted-clause-carries : goal.returns-in-Err-Exhausted-clause-carries
returns-in-Err-Exhausted-clause-carries g c s stands =
    let bytes = g.D.Held.HeldFile.bytes in
    let disk = c.args.served.now.engine.disk in
    let seen = g.D.Watched.told disk in
    let core = c.args.served.now.engine.core in
    let os = c.args.served.now.opens.items in
    let name = c.args.name in
    let h = history_of s in
    let l = s.store.layout in
    let before = subst (λ (o : Option _). Passes bytes core c.args.served.now.engine.collecting o s.store.things l) c.in-Some.is
    stands.passes in
    let name_is = own_name bytes s.store.things l c.args.passing.now stands.passes.is_open name c.as_slice.result.now c.as_slice.ensures
    c.in-Some.going c.in-Some.is (sym c.is_named.ensures ∙ c.if-not-is_named.false) in
    let p = before.is_open.pass in
    let batch = c.in-Some-take.batch in
    let there = waits_there bytes core c.args.served.now.engine.collecting s.store name c.in-Some.going before name_is batch
    (sym c.in-Some-take.ensures.value) in
    let now = g.D.Watched.told c.relocate.new.self.disk in
    let then = c.relocate.new.self.core in
    let of : IsOfPass bytes core c.in-Some.going.pass.log batch c.in_ok-reader.reader.looks h l p = record {
      stands = stands.serves.engine;
      segment = sym before.is_open.goes.segment;
      lasts = before.is_open.lasts;
      there = before.is_open.batch batch (sym c.in-Some-take.ensures.value);
      fits = c.in_ok-reader.ensures.fits h l stands.serves.engine;
    } in
    let within = subst (λ (b : Back). b.state.next_log ≤ b.next_log) (sym c.relocate.ensures.steps) stands.serves.within in
    answered_moves g.D.Watched bytes core then disk c.relocate.new.self.disk os s stands.serves within name p batch there
    c.relocate.ensures.files _ _
    (λ represents. c.in-Err-Exhausted.ensures.carries h l p of represents) (move.Exhausted c.in-Err-Exhausted.counter)
    (ap (λ (f : MoveFail). move_outcome (Err f)) c.in-Err-Exhausted.field-0-is) _

pub returns-in-Err-Exhausted-clause-opens : goal.returns-in-Err-Exhausted-clause-opens
returns-in-Err-Exhausted-clause-opens g c s stands =
    let bytes = g.D.Held.HeldFile.bytes in
    let disk = c.args.served.now.engine.disk in
    let seen = g.D.Watched.told disk in
    let core = c.args.served.now.engine.core in
    let os = c.args.served.now.opens.items in
    let name = c.args.name in
    let h = history_of s in
    let l = s.store.layout in
    let before = subst (λ (o : Option _). Passes bytes core c.args.served.now.engine.collecting o s.store.things l) c.in-Some.is
    stands.passes in
    let name_is = own_name bytes s.store.things l c.args.passing.now stands.passes.is_open name c.as_slice.result.now c.as_slice.ensures
    c.in-Some.going c.in-Some.is (sym c.is_named.ensures ∙ c.if-not-is_named.false) in
    let p = before.is_open.pass in
    let batch = c.in-Some-take.batch in
    let there = waits_there bytes core c.args.served.now.engine.collecting s.store name c.in-Some.going before name_is batch
    (sym c.in-Some-take.ensures.value) in
    let now = g.D.Watched.told c.relocate.new.self.disk in
    let then = c.relocate.new.self.core in
    let of : IsOfPass bytes core c.in-Some.going.pass.log batch c.in_ok-reader.reader.looks h l p = record {
      stands = stands.serves.engine;
      segment = sym before.is_open.goes.segment;
      lasts = before.is_open.lasts;
      there = before.is_open.batch batch (sym c.in-Some-take.ensures.value);
      fits = c.in_ok-reader.ensures.fits h l stands.serves.engine;
    } in
    let within = subst (λ (b : Back). b.state.next_log ≤ b.next_log) (sym c.relocate.ensures.steps) stands.serves.within in
    refused_opens bytes seen now core then os s stands.serves name p batch there c.relocate.new.self.merging _ _
    (move.Exhausted c.in-Err-Exhausted.counter) tt _ (ap (λ (f : MoveFail). move_outcome (Err f)) c.in-Err-Exhausted.field-0-is)
    (c.in-Err-Exhausted.ensures.stands h l p of (record { stands = stands.serves.engine; opens = stands.opens }))

pub returns-in-Err-NoMemory-clause-carries : goal.returns-in-Err-NoMemory-clause-carries
returns-in-Err-NoMemory-clause-carries g c s stands =
    let bytes = g.D.Held.HeldFile.bytes in
    let disk = c.args.served.now.engine.disk in
    let seen = g.D.Watched.told disk in
    let core = c.args.served.now.engine.core in
    let os = c.args.served.now.opens.items in
    let name = c.args.name in
    let h = history_of s in
    let l = s.store.layout in
    let before = subst (λ (o : Option _). Passes bytes core c.args.served.now.engine.collecting o s.store.things l) c.in-Some.is
    stands.passes in
    let name_is = own_name bytes s.store.things l c.args.passing.now stands.passes.is_open name c.as_slice.result.now c.as_slice.ensures
    c.in-Some.going c.in-Some.is (sym c.is_named.ensures ∙ c.if-not-is_named.false) in
    let p = before.is_open.pass in
    let batch = c.in-Some-take.batch in
    let there = waits_there bytes core c.args.served.now.engine.collecting s.store name c.in-Some.going before name_is batch
    (sym c.in-Some-take.ensures.value) in
    let now = g.D.Watched.told c.relocate.new.self.disk in
    let then = c.relocate.new.self.core in
    let of : IsOfPass bytes core c.in-Some.going.pass.log batch c.in_ok-reader.reader.looks h l p = record {
      stands = stands.serves.engine;
      segment = sym before.is_open.goes.segment;
      lasts = before.is_open.lasts;
      there = before.is_open.batch batch (sym c.in-Some-take.ensures.value);
      fits = c.in_ok-reader.ensures.fits h l stands.serves.engine;
    } in
    let within = subst (λ (b : Back). b.state.next_log ≤ b.next_log) (sym c.relocate.ensures.steps) stands.serves.within in
    short_moves g.D.Watched bytes core then disk c.relocate.new.self.disk os s stands.serves within name p batch there
    c.relocate.ensures.files _ _
    (λ represents. c.in-Err-NoMemory.ensures.carries h l p of represents)
    (c.in-Err-NoMemory.ensures.untouched (subst (λ (f : MoveFail). MoveLeavesDisk (Err f)) (sym c.in-Err-NoMemory.field-0-is) tt))

pub returns-in-Err-Disk-clause-carries : goal.returns-in-Err-Disk-clause-carries
returns-in-Err-Disk-clause-carries g c s stands =
    let bytes = g.D.Held.HeldFile.bytes in
    let disk = c.args.served.now.engine.disk in
    let seen = g.D.Watched.told disk in
    let core = c.args.served.now.engine.core in
    let os = c.args.served.now.opens.items in
    let name = c.args.name in
    let h = history_of s in
    let l = s.store.layout in
    let before = subst (λ (o : Option _). Passes bytes core c.args.served.now.engine.collecting o s.store.things l) c.in-Some.is
    stands.passes in
    let name_is = own_name bytes s.store.things l c.args.passing.now stands.passes.is_open name c.as_slice.result.now c.as_slice.ensures
    c.in-Some.going c.in-Some.is (sym c.is_named.ensures ∙ c.if-not-is_named.false) in
    let p = before.is_open.pass in
    let batch = c.in-Some-take.batch in
    let there = waits_there bytes core c.args.served.now.engine.collecting s.store name c.in-Some.going before name_is batch
    (sym c.in-Some-take.ensures.value) in
    let now = g.D.Watched.told c.relocate.new.self.disk in
    let then = c.relocate.new.self.core in
    let of : IsOfPass bytes core c.in-Some.going.pass.log batch c.in_ok-reader.reader.looks h l p = record {
      stands = stands.serves.engine;
      segment = sym before.is_open.goes.segment;
      lasts = before.is_open.lasts;
      there = before.is_open.batch batch (sym c.in-Some-take.ensures.value);
      fits = c.in_ok-reader.ensures.fits h l stands.serves.engine;
    } in
    let within = subst (λ (b : Back). b.state.next_log ≤ b.next_log) (sym c.relocate.ensures.steps) stands.serves.within in
    let why = ap Err c.in-Err-Disk.field-0-is in
    failed_moves g.D.Watched bytes core then disk c.relocate.new.self.disk os s stands.serves within name p batch there
    c.relocate.ensures.files _ _
    (λ represents. c.in-Err-Disk.ensures.carries h l p of represents) (c.in-Err-Disk.ensures.failed h l p _ of why)
    (subst (λ (n : ℕ). AllByRecursion (IsThere (layout_logs l) n) batch) before.is_open.goes.segment
    (there_now bytes c.in-Some.going.pass.log l before.is_open.lasts.still batch of.there)) _
    (λ clean. c.in-Err-Disk.ensures.stopped h l p _ of clean why)

pub returns-in-Err-Read-clause-carries : goal.returns-in-Err-Read-clause-carries
returns-in-Err-Read-clause-carries g c s stands =
    let bytes = g.D.Held.HeldFile.bytes in
    let disk = c.args.served.now.engine.disk in
    let seen = g.D.Watched.told disk in
    let core = c.args.served.now.engine.core in
    let os = c.args.served.now.opens.items in
    let name = c.args.name in
    let h = history_of s in
    let l = s.store.layout in
    let before = subst (λ (o : Option _). Passes bytes core c.args.served.now.engine.collecting o s.store.things l) c.in-Some.is
    stands.passes in
    let name_is = own_name bytes s.store.things l c.args.passing.now stands.passes.is_open name c.as_slice.result.now c.as_slice.ensures
    c.in-Some.going c.in-Some.is (sym c.is_named.ensures ∙ c.if-not-is_named.false) in
    let p = before.is_open.pass in
    let batch = c.in-Some-take.batch in
    let there = waits_there bytes core c.args.served.now.engine.collecting s.store name c.in-Some.going before name_is batch
    (sym c.in-Some-take.ensures.value) in
    let now = g.D.Watched.told c.relocate.new.self.disk in
    let then = c.relocate.new.self.core in
    let of : IsOfPass bytes core c.in-Some.going.pass.log batch c.in_ok-reader.reader.looks h l p = record {
      stands = stands.serves.engine;
      segment = sym before.is_open.goes.segment;
      lasts = before.is_open.lasts;
      there = before.is_open.batch batch (sym c.in-Some-take.ensures.value);
      fits = c.in_ok-reader.ensures.fits h l stands.serves.engine;
    } in
    let within = subst (λ (b : Back). b.state.next_log ≤ b.next_log) (sym c.relocate.ensures.steps) stands.serves.within in
    unread_moves g.D.Watched bytes core then disk c.relocate.new.self.disk os s stands.serves within name p batch there
    c.relocate.ensures.files _ _
    (λ represents. c.in-Err-Read.ensures.carries h l p of represents) _
    (c.in-Err-Read.ensures.untouched (subst (λ (f : MoveFail). MoveLeavesDisk (Err f)) (sym c.in-Err-Read.field-0-is) tt))

pub returns-in-Err-Damaged-clause-carries : goal.returns-in-Err-Damaged-clause-carries
returns-in-Err-Damaged-clause-carries g c s stands =
    let bytes = g.D.Held.HeldFile.bytes in
    let disk = c.args.served.now.engine.disk in
    let seen = g.D.Watched.told disk in
    let core = c.args.served.now.engine.core in
    let os = c.args.served.now.opens.items in
    let name = c.args.name in
    let h = history_of s in
    let l = s.store.layout in
    let before = subst (λ (o : Option _). Passes bytes core c.args.served.now.engine.collecting o s.store.things l) c.in-Some.is
    stands.passes in
    let name_is = own_name bytes s.store.things l c.args.passing.now stands.passes.is_open name c.as_slice.result.now c.as_slice.ensures
    c.in-Some.going c.in-Some.is (sym c.is_named.ensures ∙ c.if-not-is_named.false) in
    let p = before.is_open.pass in
    let batch = c.in-Some-take.batch in
    let there = waits_there bytes core c.args.served.now.engine.collecting s.store name c.in-Some.going before name_is batch
    (sym c.in-Some-take.ensures.value) in
    let now = g.D.Watched.told c.relocate.new.self.disk in
    let then = c.relocate.new.self.core in
    let of : IsOfPass bytes core c.in-Some.going.pass.log batch c.in_ok-reader.reader.looks h l p = record {
      stands = stands.serves.engine;
      segment = sym before.is_open.goes.segment;
      lasts = before.is_open.lasts;
      there = before.is_open.batch batch (sym c.in-Some-take.ensures.value);
      fits = c.in_ok-reader.ensures.fits h l stands.serves.engine;
    } in
    let within = subst (λ (b : Back). b.state.next_log ≤ b.next_log) (sym c.relocate.ensures.steps) stands.serves.within in
    absurd (c.in-Err-Damaged.ensures.undamaged h l p of (subst (λ (f : MoveFail). IsDamaged (Err f)) (sym c.in-Err-Damaged.field-0-is) tt))

pub returns-in-Err-Damaged-clause-undamaged : goal.returns-in-Err-Damaged-clause-undamaged
returns-in-Err-Damaged-clause-undamaged g c s stands halts =
    let bytes = g.D.Held.HeldFile.bytes in
    let disk = c.args.served.now.engine.disk in
    let seen = g.D.Watched.told disk in
    let core = c.args.served.now.engine.core in
    let os = c.args.served.now.opens.items in
    let name = c.args.name in
    let h = history_of s in
    let l = s.store.layout in
    let before = subst (λ (o : Option _). Passes bytes core c.args.served.now.engine.collecting o s.store.things l) c.in-Some.is
    stands.passes in
    let name_is = own_name bytes s.store.things l c.args.passing.now stands.passes.is_open name c.as_slice.result.now c.as_slice.ensures
    c.in-Some.going c.in-Some.is (sym c.is_named.ensures ∙ c.if-not-is_named.false) in
    let p = before.is_open.pass in
    let batch = c.in-Some-take.batch in
    let there = waits_there bytes core c.args.served.now.engine.collecting s.store name c.in-Some.going before name_is batch
    (sym c.in-Some-take.ensures.value) in
    let now = g.D.Watched.told c.relocate.new.self.disk in
    let then = c.relocate.new.self.core in
    let of : IsOfPass bytes core c.in-Some.going.pass.log batch c.in_ok-reader.reader.looks h l p = record {
      stands = stands.serves.engine;
      segment = sym before.is_open.goes.segment;
      lasts = before.is_open.lasts;
      there = before.is_open.batch batch (sym c.in-Some-take.ensures.value);
      fits = c.in_ok-reader.ensures.fits h l stands.serves.engine;
    } in
    let within = subst (λ (b : Back). b.state.next_log ≤ b.next_log) (sym c.relocate.ensures.steps) stands.serves.within in
    c.in-Err-Damaged.ensures.undamaged h l p of (subst (λ (f : MoveFail). IsDamaged (Err f)) (sym c.in-Err-Damaged.field-0-is) tt)

pub returns-in_default-clause-removes : goal.returns-in_default-clause-removes
returns-in_default-clause-removes g c s stands removes =
    let bytes = g.D.Held.HeldFile.bytes in
    let engine = c.args.served.now.engine in
    let name = c.args.name in
    let l = s.store.layout in
    subst (λ (x : Step). Removes engine.core engine.removing x.state.layout) (sym (move_unknown s.store name (thing_of s.store name)
    (none_named bytes s.store.things l c.args.passing.now stands.passes.is_open name name refl c.in_default.is))) removes

pub returns-then-not-is_named-clause-removes : goal.returns-then-not-is_named-clause-removes
returns-then-not-is_named-clause-removes g c s stands removes =
    let bytes = g.D.Held.HeldFile.bytes in
    let engine = c.args.served.now.engine in
    let name = c.args.name in
    let l = s.store.layout in
    subst (λ (x : Step). Removes engine.core engine.removing x.state.layout) (sym (move_unknown s.store name (thing_of s.store name)
    (other_named bytes s.store.things l c.args.passing.now stands.passes.is_open name c.as_slice.result.now c.as_slice.ensures
    c.in-Some.going c.in-Some.is (sym c.is_named.ensures ∙ c.if-not-is_named.true)))) removes

pub returns-in_default-take-clause-removes : goal.returns-in_default-take-clause-removes
returns-in_default-take-clause-removes g c s stands removes =
    let bytes = g.D.Held.HeldFile.bytes in
    let engine = c.args.served.now.engine in
    let name = c.args.name in
    let l = s.store.layout in
    let before = subst (λ (o : Option _). Passes bytes engine.core engine.collecting o s.store.things l) c.in-Some.is stands.passes in
    let name_is = own_name bytes s.store.things l c.args.passing.now stands.passes.is_open name c.as_slice.result.now c.as_slice.ensures
    c.in-Some.going c.in-Some.is (sym c.is_named.ensures ∙ c.if-not-is_named.false) in
    let p = before.is_open.pass in
    let idle = (ap (move_by s.store name) (ap (thing_in s.store.things) name_is ∙ before.is_open.there ∙ ap
    (λ (b : Option _). Some (APass p b)) (sym c.in_default-take.ensures.value))) in
    subst (λ (x : Step). Removes engine.core engine.removing x.state.layout) (sym idle) removes

pub returns-in-Ok-clause-removes : goal.returns-in-Ok-clause-removes
returns-in-Ok-clause-removes g c s stands removes =
    let bytes = g.D.Held.HeldFile.bytes in
    let disk = c.args.served.now.engine.disk in
    let core = c.args.served.now.engine.core in
    let os = c.args.served.now.opens.items in
    let name = c.args.name in
    let h = history_of s in
    let l = s.store.layout in
    let before = subst (λ (o : Option _). Passes bytes core c.args.served.now.engine.collecting o s.store.things l) c.in-Some.is
    stands.passes in
    let name_is = own_name bytes s.store.things l c.args.passing.now stands.passes.is_open name c.as_slice.result.now c.as_slice.ensures
    c.in-Some.going c.in-Some.is (sym c.is_named.ensures ∙ c.if-not-is_named.false) in
    let p = before.is_open.pass in
    let batch = c.in-Some-take.batch in
    let there = waits_there bytes core c.args.served.now.engine.collecting s.store name c.in-Some.going before name_is batch
    (sym c.in-Some-take.ensures.value) in
    let new = c.relocate.new.self in
    let of : IsOfPass bytes core c.in-Some.going.pass.log batch c.in_ok-reader.reader.looks h l p = record {
      stands = stands.serves.engine;
      segment = sym before.is_open.goes.segment;
      lasts = before.is_open.lasts;
      there = before.is_open.batch batch (sym c.in-Some-take.ensures.value);
      fits = c.in_ok-reader.ensures.fits h l stands.serves.engine;
    } in
    let within = subst (λ (b : Back). b.state.next_log ≤ b.next_log) (sym c.relocate.ensures.steps) stands.serves.within in
    subst (λ (m : Layout). Removes new.core new.removing m)
    (sym (leaves g.D.Watched bytes core new.core disk new.disk os s stands.serves within name p batch there).0)
    ((c.in-Ok.ensures.removes h l p of (record { stands = stands.serves.engine; opens = stands.opens }) removes).answered
    (move.Moves c.in-Ok.count) refl).1

pub returns-in-Err-Full-clause-removes : goal.returns-in-Err-Full-clause-removes
returns-in-Err-Full-clause-removes g c s stands removes =
    let bytes = g.D.Held.HeldFile.bytes in
    let disk = c.args.served.now.engine.disk in
    let core = c.args.served.now.engine.core in
    let os = c.args.served.now.opens.items in
    let name = c.args.name in
    let h = history_of s in
    let l = s.store.layout in
    let before = subst (λ (o : Option _). Passes bytes core c.args.served.now.engine.collecting o s.store.things l) c.in-Some.is
    stands.passes in
    let name_is = own_name bytes s.store.things l c.args.passing.now stands.passes.is_open name c.as_slice.result.now c.as_slice.ensures
    c.in-Some.going c.in-Some.is (sym c.is_named.ensures ∙ c.if-not-is_named.false) in
    let p = before.is_open.pass in
    let batch = c.in-Some-take.batch in
    let there = waits_there bytes core c.args.served.now.engine.collecting s.store name c.in-Some.going before name_is batch
    (sym c.in-Some-take.ensures.value) in
    let new = c.relocate.new.self in
    let of : IsOfPass bytes core c.in-Some.going.pass.log batch c.in_ok-reader.reader.looks h l p = record {
      stands = stands.serves.engine;
      segment = sym before.is_open.goes.segment;
      lasts = before.is_open.lasts;
      there = before.is_open.batch batch (sym c.in-Some-take.ensures.value);
      fits = c.in_ok-reader.ensures.fits h l stands.serves.engine;
    } in
    let within = subst (λ (b : Back). b.state.next_log ≤ b.next_log) (sym c.relocate.ensures.steps) stands.serves.within in
    subst (λ (m : Layout). Removes new.core new.removing m)
    (sym (leaves g.D.Watched bytes core new.core disk new.disk os s stands.serves within name p batch there).0)
    ((c.in-Err-Full.ensures.removes h l p of (record { stands = stands.serves.engine; opens = stands.opens }) removes).answered
    (move.Full c.in-Err-Full.field-0-1 c.in-Err-Full.field-0-2) (ap (λ (f : MoveFail). move_outcome (Err f)) c.in-Err-Full.field-0-is)).1

pub returns-in-Err-Exhausted-clause-removes : goal.returns-in-Err-Exhausted-clause-removes
returns-in-Err-Exhausted-clause-removes g c s stands removes =
    let bytes = g.D.Held.HeldFile.bytes in
    let disk = c.args.served.now.engine.disk in
    let core = c.args.served.now.engine.core in
    let os = c.args.served.now.opens.items in
    let name = c.args.name in
    let h = history_of s in
    let l = s.store.layout in
    let before = subst (λ (o : Option _). Passes bytes core c.args.served.now.engine.collecting o s.store.things l) c.in-Some.is
    stands.passes in
    let name_is = own_name bytes s.store.things l c.args.passing.now stands.passes.is_open name c.as_slice.result.now c.as_slice.ensures
    c.in-Some.going c.in-Some.is (sym c.is_named.ensures ∙ c.if-not-is_named.false) in
    let p = before.is_open.pass in
    let batch = c.in-Some-take.batch in
    let there = waits_there bytes core c.args.served.now.engine.collecting s.store name c.in-Some.going before name_is batch
    (sym c.in-Some-take.ensures.value) in
    let new = c.relocate.new.self in
    let of : IsOfPass bytes core c.in-Some.going.pass.log batch c.in_ok-reader.reader.looks h l p = record {
      stands = stands.serves.engine;
      segment = sym before.is_open.goes.segment;
      lasts = before.is_open.lasts;
      there = before.is_open.batch batch (sym c.in-Some-take.ensures.value);
      fits = c.in_ok-reader.ensures.fits h l stands.serves.engine;
    } in
    let within = subst (λ (b : Back). b.state.next_log ≤ b.next_log) (sym c.relocate.ensures.steps) stands.serves.within in
    subst (λ (m : Layout). Removes new.core new.removing m)
    (sym (leaves g.D.Watched bytes core new.core disk new.disk os s stands.serves within name p batch there).0)
    ((c.in-Err-Exhausted.ensures.removes h l p of (record { stands = stands.serves.engine; opens = stands.opens }) removes).answered
    (move.Exhausted c.in-Err-Exhausted.counter) (ap (λ (f : MoveFail). move_outcome (Err f)) c.in-Err-Exhausted.field-0-is)).1

-- ---- what it is answered, whatever the disk holds

pub returns-in_default-clause-as_called : goal.returns-in_default-clause-as_called
returns-in_default-clause-as_called g c =
    subst (λ (p : Option _). AnswersMove g.D.Watched g.D.Held.HeldFile.bytes p g.D.Reader.Reader.faults
    (at c.args.served.now.engine.disk c.args.served.now.engine.core c.args.served.now.engine.merging)
    (at c.args.served.now.engine.disk c.args.served.now.engine.core c.args.served.now.engine.merging) c.args.name
    (Ok (answers.Unknown c.args.name))) (sym c.in_default.is) refl

pub returns-then-not-is_named-clause-as_called : goal.returns-then-not-is_named-clause-as_called
returns-then-not-is_named-clause-as_called g c =
    move_answered g.D.Held.HeldFile.bytes c.args.passing.now c.in-Some.going c.in-Some.is c.args.name false
    (ap (λ (n : Name). bytes_eq n c.in-Some.going.name) (sym c.as_slice.ensures) ∙ sym c.is_named.ensures ∙ c.if-not-is_named.true)
    c.in-Some.going.batch refl _ g.D.Watched g.D.Reader.Reader.faults
    (at c.args.served.now.engine.disk c.args.served.now.engine.core c.args.served.now.engine.merging)
    (at c.args.served.now.engine.disk c.args.served.now.engine.core c.args.served.now.engine.merging) refl

pub returns-in_default-take-clause-as_called : goal.returns-in_default-take-clause-as_called
returns-in_default-take-clause-as_called g c =
    move_answered g.D.Held.HeldFile.bytes c.args.passing.now c.in-Some.going c.in-Some.is c.args.name true
    (ap (λ (n : Name). bytes_eq n c.in-Some.going.name) (sym c.as_slice.ensures) ∙ sym c.is_named.ensures ∙ c.if-not-is_named.false)
    None (sym c.in_default-take.ensures.value) _ g.D.Watched g.D.Reader.Reader.faults
    (at c.args.served.now.engine.disk c.args.served.now.engine.core c.args.served.now.engine.merging)
    (at c.args.served.now.engine.disk c.args.served.now.engine.core c.args.served.now.engine.merging) refl

pub returns-in_err-reader-clause-as_called : goal.returns-in_err-reader-clause-as_called
returns-in_err-reader-clause-as_called g c =
    move_answered g.D.Held.HeldFile.bytes c.args.passing.now c.in-Some.going c.in-Some.is c.args.name true
    (ap (λ (n : Name). bytes_eq n c.in-Some.going.name) (sym c.as_slice.ensures) ∙ sym c.is_named.ensures ∙ c.if-not-is_named.false)
    (Some c.in-Some-take.batch) (sym c.in-Some-take.ensures.value) _ g.D.Watched g.D.Reader.Reader.faults
    (at c.args.served.now.engine.disk c.args.served.now.engine.core c.args.served.now.engine.merging)
    (at c.args.served.now.engine.disk c.args.served.now.engine.core c.args.served.now.engine.merging)
    (inl (out_of_memory c.from_residual.result c.from_residual.ensures.0 c.from_residual.ensures.1))

pub returns-in-Ok-clause-as_called : goal.returns-in-Ok-clause-as_called
returns-in-Ok-clause-as_called g c =
    move_answered g.D.Held.HeldFile.bytes c.args.passing.now c.in-Some.going c.in-Some.is c.args.name true
    (ap (λ (n : Name). bytes_eq n c.in-Some.going.name) (sym c.as_slice.ensures) ∙ sym c.is_named.ensures ∙ c.if-not-is_named.false)
    (Some c.in-Some-take.batch) (sym c.in-Some-take.ensures.value) _ g.D.Watched g.D.Reader.Reader.faults
    (at c.args.served.now.engine.disk c.args.served.now.engine.core c.args.served.now.engine.merging)
    (at c.relocate.new.self.disk c.relocate.new.self.core c.relocate.new.self.merging)
    (inr (
      Ok c.in-Ok.count,
      c.in_ok-reader.reader.looks,
      c.relocate.new.looks,
      c.in-Ok.ensures.as_moved,
      ap (λ (n : ℕ). Ok (answers.Moved n)) c.from.ensures,
    ))

pub returns-in-Err-Full-clause-as_called : goal.returns-in-Err-Full-clause-as_called
returns-in-Err-Full-clause-as_called g c =
    move_answered g.D.Held.HeldFile.bytes c.args.passing.now c.in-Some.going c.in-Some.is c.args.name true
    (ap (λ (n : Name). bytes_eq n c.in-Some.going.name) (sym c.as_slice.ensures) ∙ sym c.is_named.ensures ∙ c.if-not-is_named.false)
    (Some c.in-Some-take.batch) (sym c.in-Some-take.ensures.value) _ g.D.Watched g.D.Reader.Reader.faults
    (at c.args.served.now.engine.disk c.args.served.now.engine.core c.args.served.now.engine.merging)
    (at c.relocate.new.self.disk c.relocate.new.self.core c.relocate.new.self.merging)
    (inr (
      Err c.in-Err-Full.field-0,
      c.in_ok-reader.reader.looks,
      c.relocate.new.looks,
      c.in-Err-Full.ensures.as_moved,
      sym (ap (λ (f : MoveFail). move_answer (Err f)) c.in-Err-Full.field-0-is),
    ))

pub returns-in-Err-Exhausted-clause-as_called : goal.returns-in-Err-Exhausted-clause-as_called
returns-in-Err-Exhausted-clause-as_called g c =
    move_answered g.D.Held.HeldFile.bytes c.args.passing.now c.in-Some.going c.in-Some.is c.args.name true
    (ap (λ (n : Name). bytes_eq n c.in-Some.going.name) (sym c.as_slice.ensures) ∙ sym c.is_named.ensures ∙ c.if-not-is_named.false)
    (Some c.in-Some-take.batch) (sym c.in-Some-take.ensures.value) _ g.D.Watched g.D.Reader.Reader.faults
    (at c.args.served.now.engine.disk c.args.served.now.engine.core c.args.served.now.engine.merging)
    (at c.relocate.new.self.disk c.relocate.new.self.core c.relocate.new.self.merging)
    (inr (
      Err c.in-Err-Exhausted.field-0,
      c.in_ok-reader.reader.looks,
      c.relocate.new.looks,
      c.in-Err-Exhausted.ensures.as_moved,
      sym (ap (λ (f : MoveFail). move_answer (Err f)) c.in-Err-Exhausted.field-0-is),
    ))

pub returns-in-Err-NoMemory-clause-as_called : goal.returns-in-Err-NoMemory-clause-as_called
returns-in-Err-NoMemory-clause-as_called g c =
    move_answered g.D.Held.HeldFile.bytes c.args.passing.now c.in-Some.going c.in-Some.is c.args.name true
    (ap (λ (n : Name). bytes_eq n c.in-Some.going.name) (sym c.as_slice.ensures) ∙ sym c.is_named.ensures ∙ c.if-not-is_named.false)
    (Some c.in-Some-take.batch) (sym c.in-Some-take.ensures.value) _ g.D.Watched g.D.Reader.Reader.faults
    (at c.args.served.now.engine.disk c.args.served.now.engine.core c.args.served.now.engine.merging)
    (at c.relocate.new.self.disk c.relocate.new.self.core c.relocate.new.self.merging)
    (inr (
      Err c.in-Err-NoMemory.field-0,
      c.in_ok-reader.reader.looks,
      c.relocate.new.looks,
      c.in-Err-NoMemory.ensures.as_moved,
      sym (ap (λ (f : MoveFail). move_answer (Err f)) c.in-Err-NoMemory.field-0-is),
    ))

pub returns-in-Err-Disk-clause-as_called : goal.returns-in-Err-Disk-clause-as_called
returns-in-Err-Disk-clause-as_called g c =
    move_answered g.D.Held.HeldFile.bytes c.args.passing.now c.in-Some.going c.in-Some.is c.args.name true
    (ap (λ (n : Name). bytes_eq n c.in-Some.going.name) (sym c.as_slice.ensures) ∙ sym c.is_named.ensures ∙ c.if-not-is_named.false)
    (Some c.in-Some-take.batch) (sym c.in-Some-take.ensures.value) _ g.D.Watched g.D.Reader.Reader.faults
    (at c.args.served.now.engine.disk c.args.served.now.engine.core c.args.served.now.engine.merging)
    (at c.relocate.new.self.disk c.relocate.new.self.core c.relocate.new.self.merging)
    (inr (
      Err c.in-Err-Disk.field-0,
      c.in_ok-reader.reader.looks,
      c.relocate.new.looks,
      c.in-Err-Disk.ensures.as_moved,
      sym (ap (λ (f : MoveFail). move_answer (Err f)) c.in-Err-Disk.field-0-is),
    ))

pub returns-in-Err-Read-clause-as_called : goal.returns-in-Err-Read-clause-as_called
returns-in-Err-Read-clause-as_called g c =
    move_answered g.D.Held.HeldFile.bytes c.args.passing.now c.in-Some.going c.in-Some.is c.args.name true
    (ap (λ (n : Name). bytes_eq n c.in-Some.going.name) (sym c.as_slice.ensures) ∙ sym c.is_named.ensures ∙ c.if-not-is_named.false)
    (Some c.in-Some-take.batch) (sym c.in-Some-take.ensures.value) _ g.D.Watched g.D.Reader.Reader.faults
    (at c.args.served.now.engine.disk c.args.served.now.engine.core c.args.served.now.engine.merging)
    (at c.relocate.new.self.disk c.relocate.new.self.core c.relocate.new.self.merging)
    (inr (
      Err c.in-Err-Read.field-0,
      c.in_ok-reader.reader.looks,
      c.relocate.new.looks,
      c.in-Err-Read.ensures.as_moved,
      sym (ap (λ (f : MoveFail). move_answer (Err f)) c.in-Err-Read.field-0-is),
    ))

pub returns-in-Err-Damaged-clause-as_called : goal.returns-in-Err-Damaged-clause-as_called
returns-in-Err-Damaged-clause-as_called g c =
    move_answered g.D.Held.HeldFile.bytes c.args.passing.now c.in-Some.going c.in-Some.is c.args.name true
    (ap (λ (n : Name). bytes_eq n c.in-Some.going.name) (sym c.as_slice.ensures) ∙ sym c.is_named.ensures ∙ c.if-not-is_named.false)
    (Some c.in-Some-take.batch) (sym c.in-Some-take.ensures.value) _ g.D.Watched g.D.Reader.Reader.faults
    (at c.args.served.now.engine.disk c.args.served.now.engine.core c.args.served.now.engine.merging)
    (at c.relocate.new.self.disk c.relocate.new.self.core c.relocate.new.self.merging)
    (inr (
      Err c.in-Err-Damaged.field-0,
      c.in_ok-reader.reader.looks,
      c.relocate.new.looks,
      c.in-Err-Damaged.ensures.as_moved,
      sym (ap (λ (f : MoveFail). move_answer (Err f)) c.in-Err-Damaged.field-0-is),
    ))

pub returns-clause-as_called : goal.returns-clause-as_called
returns-clause-as_called g c =
    move_answered g.D.Held.HeldFile.bytes c.args.passing.now c.in-Some.going c.in-Some.is c.args.name true
    (ap (λ (n : Name). bytes_eq n c.in-Some.going.name) (sym c.as_slice.ensures) ∙ sym c.is_named.ensures ∙ c.if-not-is_named.false)
    (Some c.in-Some-take.batch) (sym c.in-Some-take.ensures.value) _ g.D.Watched g.D.Reader.Reader.faults
    (at c.args.served.now.engine.disk c.args.served.now.engine.core c.args.served.now.engine.merging)
    (at c.relocate.new.self.disk c.relocate.new.self.core c.relocate.new.self.merging)
    (inr (
      Err c.in-Err-Halted.field-0,
      c.in_ok-reader.reader.looks,
      c.relocate.new.looks,
      c.in-Err-Halted.ensures.as_moved,
      sym (ap (λ (f : MoveFail). move_answer (Err f)) c.in-Err-Halted.field-0-is),
    ))

-- ---- what failed

pub returns-in-Err-Read-clause-fault : goal.returns-in-Err-Read-clause-fault
returns-in-Err-Read-clause-fault g c s stands by =
    let counts = rw c.in-Err-Read.field-0-is at c.in-Err-Read.ensures.cause in
    record {
      failed = record { reader = c.relocate.new.looks.reader; some = risen_counted _ _ counts.looks_rose };
      not_so = λ gives. never_risen _ _ (c.in_ok-reader.ensures.looks.never_fails gives) counts.looks_rose;
    }
