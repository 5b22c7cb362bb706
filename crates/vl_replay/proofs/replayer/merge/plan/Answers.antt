-- A merge is planned as the store has it, and carried out so.
use Rattle.std.proofs.Common.{◌∙◌, ◌≡◌, ap, inl, inr, refl, subst, sym}
use Rattle.std.specs.Prelude.{◌&&◌, not, Bool, Err, None, Ok, OnOk, Option, Result, is_ok}
use Rattle.std.specs.Option.{is_some}
use Rattle.vl_engine_laws.specs.Shown.{Shown}
use Rattle.vl_engine_laws.specs.declared.kept.Core.{Core}
use Rattle.vl_engine_model.specs.Store.Lines as store_lines
use Rattle.vl_engine_laws.specs.Lent.{StandsOpen}
use Rattle.vl_steps.specs.Merging.{plan_outcome}
use Rattle.vl_engine_model.specs.Ruling.{Ruling}
use Rattle.vl_engine_model.specs.Rulings.Plan.{with_job}
use Rattle.vl_engine_model.specs.Store.Things.{Step, only, thing_of}
use Rattle.vl_engine_model.specs.declared.job.Job.{Job}
use Rattle.vl_model.specs.declared.counter.Counter.{Counter}
use Rattle.vl_replay_laws.specs.Drawn.{drawn_all}
use Rattle.vl_script_model.specs.Durable.{CarriesOut, LeadsTo}
use Rattle.vl_replay_laws.specs.Choosing.{chosen, line_for}
use Rattle.vl_replay_laws.specs.Replaying.{Merges}
use Rattle.vl_replay.specs.AsCalled.{can_merge}
use Rattle.vl_replay.specs.Served.{StandsMerging}
use Rattle.vl_script_model.specs.Sequential.{State, history_of, state_after, step_to}
use Rattle.vl_script_model.specs.Stored.{IsStopped, IsStored}
use Rattle.vl_script_model.specs.declared.fails.Halt.{Halt}
use Rattle.vl_script.specs.declared.answer.Answer.{Answer}
use Rattle.vl_script.specs.declared.answer.Answer.TheVariants as answers
use Rattle.vl_replay.proofs.AsCalled.Merging.{met_halt}
use Rattle.vl_replay.proofs.CarryingTables.{out_is}
use Rattle.vl_replay.proofs.Merges.Handing.{waits_open}
use Rattle.vl_script_model.specs.laws.Texts.{ok_not_err}
use Rattle.vl_script_model.specs.laws.Halting.{err_reads_well}
use Rattle.vl_script_model.specs.laws.DiskSteps.{IsWatched}
use Rattle.vl_replay.proofs.CarryingRemoved.{LeavesDrawn}
use Rattle.vl_replay_laws.specs.laws.Merges.Planning.{planned_state}
use Rattle.vl_replay.proofs.Merges.GivenUp.{Abandons, exhausted_leads, exhausted_leaves, exhausted_makes, exhausted_merges, none_of}
use Rattle.vl_replay.proofs.Merges.GivenUp.{not_halted, stopped_fault, stopped_leads, stopped_named, stopped_sound}
use Rattle.vl_replay.proofs.Merges.GivenUp.{stopped_undamaged, unplanned_leads}
use Rattle.vl_replay.proofs.Merges.PlanLine.{WasMerged, handed_waits, idle_step, merge_carries, merge_makes}
use Rattle.vl_replay.proofs.Merges.PlanLine.{merge_leaves, merge_waits, none_due, none_waits, opened_leaves, planned_as}
use Rattle.vl_replay.proofs.Merges.PlanLine.{still_open, unplanned_carries, unplanned_makes, unplanned_merges}
use Rattle.vl_replay.proofs.Merges.PlanLine.{waiting_idle, was_merged}
use Rattle.vl_replay_laws.specs.Standing.{open_in}
use Rattle.vl_replay_laws.specs.laws.Names.BeginMaking.{unread_of}
use Rattle.vl_replay_laws.specs.laws.Names.Serving.{represents}
use Rattle.vl_replay.proofs.replayer.merge.plan.Given as given
use Rattle.vl_space.specs.Removing.{Removes}
use Rattle.vl_replay_laws.specs.laws.Names.Halts.{less_sure}
use Rattle.vl_steps.specs.laws.Steady.{same_steady}
use Rattle.vl_replay.proofs.replayer.merge.plan.Goals as goal

-- ---- another merge waits

waits_already : (g : given.Over) (c : goal.After-drop-name-inside g) (s : State)
    → StandsMerging g.D.Watched g.D.Writer.Writer g.D.Held.HeldFile.bytes c.args.served.now c.args.planned.now s
    → thing_of s.store c.args.name ≡ None
    → step_to s (line_for c.args.choice c.args.name) ≡ only store_lines.Idle s.store
waits_already g c s stands bare =
    idle_step c.args.choice s c.args.name
    bare
    (waiting_idle g.D.Writer.Writer g.D.Held.HeldFile.bytes c.args.planned.now c.args.choice s stands.merges.waits
    (sym c.is_some.ensures ∙ c.if-is_some.true))

pub returns-then-is_some-clause-makes : goal.returns-then-is_some-clause-makes
returns-then-is_some-clause-makes g c s stands bare =
    let e = c.args.served.now.engine in
    unplanned_makes g.D.Watched (record { only_now = g.met.D.Disk.only_now; counts_now = g.met.D.Disk.counts_now }) g.D.Held.HeldFile.bytes
    e.core e.core e.disk e.disk c.args.served.now.opens.items s stands.serves refl refl c.args.choice c.args.name
    answers.Idle store_lines.Idle refl
    (waits_already g c s stands bare)

pub returns-then-is_some-clause-carries : goal.returns-then-is_some-clause-carries
returns-then-is_some-clause-carries g c s stands bare =
    let e = c.args.served.now.engine in
    unplanned_carries g.D.Watched (record { only_now = g.met.D.Disk.only_now; counts_now = g.met.D.Disk.counts_now })
    g.D.Held.HeldFile.bytes
    e.core e.core e.disk e.disk c.args.served.now.opens.items s stands.serves refl refl c.args.choice c.args.name
    answers.Idle store_lines.Idle refl
    (waits_already g c s stands bare)

-- ---- none is due

not_due : (g : given.Over) (c : goal.After-drop-name-inside-in_default g) (s : State)
    → StandsMerging g.D.Watched g.D.Writer.Writer g.D.Held.HeldFile.bytes c.args.served.now c.args.planned.now s
    → thing_of s.store c.args.name ≡ None
    → step_to s (line_for c.args.choice c.args.name) ≡ only store_lines.Idle s.store
not_due g c s stands bare =
    let old = c.args.served.now.engine in
    let new = c.choose.new.engine in
    idle_step c.args.choice s c.args.name
    bare
    (none_due g.D.Watched g.D.Writer.Writer g.D.Held.HeldFile.bytes old.core new.core old.disk new.disk old.merging new.merging
    c.args.served.now.opens.items s stands.serves c.choose.result c.choose.ensures.core c.choose.ensures.disk c.args.choice
    (c.choose.ensures.stands (history_of s) s.store.layout (record { stands = stands.serves.engine; opens = stands.merges.opens }))
    (c.in_ok-job.was ∙ ap Ok c.in_default.is))

pub returns-in_default-clause-makes : goal.returns-in_default-clause-makes
returns-in_default-clause-makes g c s stands bare =
    let old = c.args.served.now.engine in
    let new = c.choose.new.engine in
    unplanned_makes g.D.Watched (record { only_now = g.met.D.Disk.only_now; counts_now = g.met.D.Disk.counts_now }) g.D.Held.HeldFile.bytes
    old.core new.core old.disk new.disk c.args.served.now.opens.items s stands.serves c.choose.ensures.core c.choose.ensures.disk
    c.args.choice c.args.name answers.Idle store_lines.Idle refl (not_due g c s stands bare)

pub returns-in_default-clause-merges : goal.returns-in_default-clause-merges
returns-in_default-clause-merges g c s stands bare =
    let old = c.args.served.now.engine in
    let new = c.choose.new.engine in
    unplanned_merges g.D.Writer.Writer g.D.Held.HeldFile.bytes old.merging new.merging c.args.planned.now c.args.planned.now
    (still_open g.D.Watched g.D.Writer.Writer g.D.Held.HeldFile.bytes old.core new.core old.disk new.disk old.merging new.merging
    c.args.served.now.opens.items s stands.serves c.choose.result c.choose.ensures.core c.choose.ensures.disk c.args.choice
    (c.in_ok-job.was ∙ ap Ok c.in_default.is) c.choose.ensures.merging)
    refl s stands.merges c.args.choice c.args.name store_lines.Idle (not_due g c s stands bare)

pub returns-in_default-clause-carries : goal.returns-in_default-clause-carries
returns-in_default-clause-carries g c s stands bare =
    let old = c.args.served.now.engine in
    let new = c.choose.new.engine in
    unplanned_carries g.D.Watched (record { only_now = g.met.D.Disk.only_now; counts_now = g.met.D.Disk.counts_now })
    g.D.Held.HeldFile.bytes
    old.core new.core old.disk new.disk c.args.served.now.opens.items s stands.serves c.choose.ensures.core c.choose.ensures.disk
    c.args.choice c.args.name answers.Idle store_lines.Idle refl (not_due g c s stands bare)

-- ---- one was planned, and has all of its tables

whole_merge : (g : given.Over) (c : goal.Joined-planned g) (s : State)
    → StandsMerging g.D.Watched g.D.Writer.Writer g.D.Held.HeldFile.bytes c.args.served.now c.args.planned.now s
    → thing_of s.store c.args.name ≡ None
    → WasMerged g.D.Watched g.D.Writer.Writer g.D.Held.HeldFile.bytes c.args.served.now.engine.disk c.make_tables.new.engine.disk
    c.make_tables.new.engine.core c.make_tables.new.engine.merging c.make_tables.new.job c.args.choice s c.make_tables.result
whole_merge g c s stands bare =
    let old = c.args.served.now.engine in
    let new = c.choose.new.engine in
    let bytes = g.D.Held.HeldFile.bytes in
    let os = c.args.served.now.opens.items in
    let h = history_of s in
    let l = s.store.layout in
    let did = c.choose.ensures in
    was_merged g.D.Watched g.D.Writer.Writer bytes old.core new.core old.disk new.disk old.merging new.merging os s stands.serves
    c.choose.result did.core did.disk c.args.choice c.in-Some.job (c.in_ok-job.was ∙ ap Ok c.in-Some.is)
    (did.stands h l (record { stands = stands.serves.engine; opens = stands.merges.opens }))
    (did.fits h l (record { stands = stands.serves.engine; opens = stands.merges.opens }) stands.serves.fits)
    (λ openable. did.represents h l (represents bytes (g.D.Watched.told old.disk) old.core os s stands.serves openable)
    (record { stands = stands.serves.engine; opens = stands.merges.opens }))
    (did.job h l (record { stands = stands.serves.engine; opens = stands.merges.opens }))
    (did.looks h l (record { stands = stands.serves.engine; opens = stands.merges.opens }))
    (record { only_now = g.met.D.Disk.only_now; counts_now = g.met.D.Disk.counts_now }) c.args.name bare
    (unread_of g.D.Held.HeldFile.bytes (history_of s) s.store.layout (open_in c.args.served.now.opens.items c.args.name)
    (thing_of s.store c.args.name) (stands.serves.names.each c.args.name) bare)
    c.make_tables.new.engine.core c.make_tables.new.engine.disk c.make_tables.new.engine.merging c.make_tables.new.job c.make_tables.result
    c.make_tables.ensures.merged

pub returns-in-Ok-None-clause-makes : goal.returns-in-Ok-None-clause-makes
returns-in-Ok-None-clause-makes g c s stands bare =
    let new = c.make_tables.new.engine in
    merge_makes g.D.Watched (record { only_now = g.met.D.Disk.only_now; counts_now = g.met.D.Disk.counts_now })
    g.D.Writer.Writer g.D.Held.HeldFile.bytes
    c.args.served.now.engine.core new.core c.args.served.now.engine.disk new.disk new.merging c.make_tables.new.job
    c.args.served.now.opens.items s
    stands.serves c.args.choice c.args.name bare
    (unread_of g.D.Held.HeldFile.bytes (history_of s) s.store.layout (open_in c.args.served.now.opens.items c.args.name)
    (thing_of s.store c.args.name) (stands.serves.names.each c.args.name) bare)
    c.make_tables.result (whole_merge g c s stands bare) (c.in-Ok-None.is ∙ ap Ok c.in-Ok-None.field-0-is)
    c.kept_count-number.result c.kept_count-number.ensures

pub returns-in-Ok-None-clause-merges : goal.returns-in-Ok-None-clause-merges
returns-in-Ok-None-clause-merges g c s stands bare =
    let new = c.make_tables.new.engine in
    merge_waits g.D.Watched (record { only_now = g.met.D.Disk.only_now; counts_now = g.met.D.Disk.counts_now })
    g.D.Writer.Writer g.D.Held.HeldFile.bytes
    c.args.served.now.engine.core new.core c.args.served.now.engine.disk new.disk new.merging c.make_tables.new.job
    c.args.served.now.opens.items s
    stands.serves c.args.choice c.args.name bare
    (unread_of g.D.Held.HeldFile.bytes (history_of s) s.store.layout (open_in c.args.served.now.opens.items c.args.name)
    (thing_of s.store c.args.name) (stands.serves.names.each c.args.name) bare)
    c.make_tables.result (whole_merge g c s stands bare) (c.in-Ok-None.is ∙ ap Ok c.in-Ok-None.field-0-is)
    (none_waits g.D.Writer.Writer g.D.Held.HeldFile.bytes c.args.planned.now s stands.merges.waits
    (sym c.is_some.ensures ∙ c.if-is_some.false))

pub returns-in-Ok-None-clause-carries : goal.returns-in-Ok-None-clause-carries
returns-in-Ok-None-clause-carries g c s stands bare =
    let new = c.make_tables.new.engine in
    merge_carries g.D.Watched (record { only_now = g.met.D.Disk.only_now; counts_now = g.met.D.Disk.counts_now })
    g.D.Writer.Writer g.D.Held.HeldFile.bytes
    c.args.served.now.engine.core new.core c.args.served.now.engine.disk new.disk new.merging c.make_tables.new.job
    c.args.served.now.opens.items s
    stands.serves c.args.choice c.args.name bare
    (unread_of g.D.Held.HeldFile.bytes (history_of s) s.store.layout (open_in c.args.served.now.opens.items c.args.name)
    (thing_of s.store c.args.name) (stands.serves.names.each c.args.name) bare)
    c.make_tables.result (whole_merge g c s stands bare) (c.in-Ok-None.is ∙ ap Ok c.in-Ok-None.field-0-is) c.kept_count-number.result

pub returns-in-Ok-None-clause-handed : goal.returns-in-Ok-None-clause-handed
returns-in-Ok-None-clause-handed g c =
    handed_waits g.D.Watched g.D.Writer.Writer c.make_tables.new.engine.disk c.make_tables.new.engine.merging
    c.make_tables.new.job c.args.name
    (c.make_tables.ensures.handed (c.in-Ok-None.is ∙ ap Ok c.in-Ok-None.field-0-is))

-- ---- memory ran out before a merge was planned

pub returns-in_err-job-clause-carries : goal.returns-in_err-job-clause-carries
returns-in_err-job-clause-carries g c s stands bare =
    subst (λ (r : Result Answer Halt). CarriesOut {T = Answer} g.D.Watched IsStored Shown IsStopped
    c.args.served.now.engine.disk c.choose.new.engine.disk s
    (state_after s (line_for c.args.choice c.args.name)) r) (sym (out_is c.from_residual.result c.from_residual.ensures.1))
    (unplanned_leads g.D.Watched (record { only_now = g.met.D.Disk.only_now; counts_now = g.met.D.Disk.counts_now })
    c.args.served.now.engine.disk c.choose.new.engine.disk c.choose.ensures.disk c.args.choice s c.args.name)

-- ---- no number was left for a table

exhausted_merge : (g : given.Over) (c : goal.After-drop-name-inside-in-Some-make_tables-2 g) (s : State)
    → StandsMerging g.D.Watched g.D.Writer.Writer g.D.Held.HeldFile.bytes c.args.served.now c.args.planned.now s
    → thing_of s.store c.args.name ≡ None
    → WasMerged g.D.Watched g.D.Writer.Writer g.D.Held.HeldFile.bytes c.args.served.now.engine.disk c.make_tables.new.engine.disk
    c.make_tables.new.engine.core c.make_tables.new.engine.merging c.make_tables.new.job c.args.choice s c.make_tables.result
exhausted_merge g c s stands bare =
    let old = c.args.served.now.engine in
    let new = c.choose.new.engine in
    let bytes = g.D.Held.HeldFile.bytes in
    let os = c.args.served.now.opens.items in
    let h = history_of s in
    let l = s.store.layout in
    let did = c.choose.ensures in
    was_merged g.D.Watched g.D.Writer.Writer bytes old.core new.core old.disk new.disk old.merging new.merging os s stands.serves
    c.choose.result did.core did.disk c.args.choice c.in-Some.job (c.in_ok-job.was ∙ ap Ok c.in-Some.is)
    (did.stands h l (record { stands = stands.serves.engine; opens = stands.merges.opens }))
    (did.fits h l (record { stands = stands.serves.engine; opens = stands.merges.opens }) stands.serves.fits)
    (λ openable. did.represents h l (represents bytes (g.D.Watched.told old.disk) old.core os s stands.serves openable)
    (record { stands = stands.serves.engine; opens = stands.merges.opens }))
    (did.job h l (record { stands = stands.serves.engine; opens = stands.merges.opens }))
    (did.looks h l (record { stands = stands.serves.engine; opens = stands.merges.opens }))
    (record { only_now = g.met.D.Disk.only_now; counts_now = g.met.D.Disk.counts_now }) c.args.name bare
    (unread_of g.D.Held.HeldFile.bytes (history_of s) s.store.layout (open_in c.args.served.now.opens.items c.args.name)
    (thing_of s.store c.args.name) (stands.serves.names.each c.args.name) bare)
    c.make_tables.new.engine.core c.make_tables.new.engine.disk c.make_tables.new.engine.merging c.make_tables.new.job c.make_tables.result
    c.make_tables.ensures.merged

pub returns-in-Ok-Some-clause-makes : goal.returns-in-Ok-Some-clause-makes
returns-in-Ok-Some-clause-makes g c s stands bare =
    let w = g.D.Writer.Writer in
    let bytes = g.D.Held.HeldFile.bytes in
    let watched : IsWatched g.D.Watched = record { only_now = g.met.D.Disk.only_now; counts_now = g.met.D.Disk.counts_now } in
    let choice = c.args.choice in
    let name = c.args.name in
    let before = c.args.served.now.engine in
    let after = c.make_tables.new.engine in
    let os = c.args.served.now.opens.items in
    let free = unread_of bytes (history_of s) s.store.layout (open_in os name) (thing_of s.store name)
    (stands.serves.names.each name) bare in
    let was = exhausted_merge g c s stands bare in
    let did : Abandons bytes (g.D.Watched.told after.disk) (g.D.Watched.told c.abandon.new.self.disk) after.core c.abandon.new.self.core
    after.merging c.abandon.new.self.merging = record {
      stands = c.abandon.ensures.stands;
      represents = c.abandon.ensures.represents;
      fits = c.abandon.ensures.fits;
      core = c.abandon.ensures.core;
    } in
    exhausted_makes g.D.Watched watched w bytes before.disk after.disk before.core after.core after.merging os s
    stands.serves choice name bare free
    c.make_tables.new.job c.make_tables.result was (g.D.Watched.told c.abandon.new.self.disk) c.abandon.new.self.core
    c.abandon.new.self.merging did
    c.in-Ok-Some.counter (c.in-Ok-Some.is ∙ ap Ok c.in-Ok-Some.field-0-is)

pub returns-in-Ok-Some-clause-merges : goal.returns-in-Ok-Some-clause-merges
returns-in-Ok-Some-clause-merges g c s stands bare =
    let w = g.D.Writer.Writer in
    let bytes = g.D.Held.HeldFile.bytes in
    let watched : IsWatched g.D.Watched = record { only_now = g.met.D.Disk.only_now; counts_now = g.met.D.Disk.counts_now } in
    let choice = c.args.choice in
    let name = c.args.name in
    let before = c.args.served.now.engine in
    let after = c.make_tables.new.engine in
    let os = c.args.served.now.opens.items in
    let free = unread_of bytes (history_of s) s.store.layout (open_in os name) (thing_of s.store name)
    (stands.serves.names.each name) bare in
    let was = exhausted_merge g c s stands bare in
    let none = none_waits w bytes c.args.planned.now s stands.merges.waits (sym c.is_some.ensures ∙ c.if-is_some.false) in
    let did : Abandons bytes (g.D.Watched.told after.disk) (g.D.Watched.told c.abandon.new.self.disk) after.core c.abandon.new.self.core
    after.merging c.abandon.new.self.merging = record {
      stands = c.abandon.ensures.stands;
      represents = c.abandon.ensures.represents;
      fits = c.abandon.ensures.fits;
      core = c.abandon.ensures.core;
    } in
    let x = step_to s (line_for choice name) in
    subst (λ (p : Option _). Merges w bytes c.abandon.new.self.merging p x.state.things x.state.layout)
    (sym (none_of c.args.planned.now (sym c.is_some.ensures ∙ c.if-is_some.false)))
    (exhausted_merges g.D.Watched watched w bytes before.disk after.disk before.core after.core after.merging os s
    stands.serves choice name bare free
    c.make_tables.new.job c.make_tables.result was (g.D.Watched.told c.abandon.new.self.disk) c.abandon.new.self.core
    c.abandon.new.self.merging did
    c.in-Ok-Some.counter (c.in-Ok-Some.is ∙ ap Ok c.in-Ok-Some.field-0-is) none)

pub returns-in-Ok-Some-clause-carries : goal.returns-in-Ok-Some-clause-carries
returns-in-Ok-Some-clause-carries g c s stands bare held =
    let w = g.D.Writer.Writer in
    let bytes = g.D.Held.HeldFile.bytes in
    let watched : IsWatched g.D.Watched = record { only_now = g.met.D.Disk.only_now; counts_now = g.met.D.Disk.counts_now } in
    let choice = c.args.choice in
    let name = c.args.name in
    let before = c.args.served.now.engine in
    let after = c.make_tables.new.engine in
    let os = c.args.served.now.opens.items in
    let free = unread_of bytes (history_of s) s.store.layout (open_in os name) (thing_of s.store name)
    (stands.serves.names.each name) bare in
    let was = exhausted_merge g c s stands bare in
    let did : Abandons bytes (g.D.Watched.told after.disk) (g.D.Watched.told c.abandon.new.self.disk) after.core c.abandon.new.self.core
    after.merging c.abandon.new.self.merging = record {
      stands = c.abandon.ensures.stands;
      represents = c.abandon.ensures.represents;
      fits = c.abandon.ensures.fits;
      core = c.abandon.ensures.core;
    } in
    subst (λ (d : _). LeadsTo g.D.Watched IsStored Shown IsStopped before.disk d s (state_after s (line_for choice name))
    (Ok (answers.Exhausted c.in-Ok-Some.counter)))
    (sym c.abandon.ensures.disk)
    (exhausted_leads g.D.Watched watched w bytes before.disk after.disk before.core after.core after.merging os s
    stands.serves choice name bare free
    c.make_tables.new.job c.make_tables.result was (g.D.Watched.told c.abandon.new.self.disk) c.abandon.new.self.core
    c.abandon.new.self.merging did
    c.in-Ok-Some.counter (c.in-Ok-Some.is ∙ ap Ok c.in-Ok-Some.field-0-is) (ap (λ (d : _). g.D.Watched.told d) c.abandon.ensures.disk) held)

-- ---- it stopped without an answer

stopped_merge : (g : given.Over) (c : goal.After-drop-name-inside-in-Err-1 g) (s : State)
    → StandsMerging g.D.Watched g.D.Writer.Writer g.D.Held.HeldFile.bytes c.args.served.now c.args.planned.now s
    → thing_of s.store c.args.name ≡ None
    → WasMerged g.D.Watched g.D.Writer.Writer g.D.Held.HeldFile.bytes c.args.served.now.engine.disk c.make_tables.new.engine.disk
    c.make_tables.new.engine.core c.make_tables.new.engine.merging c.make_tables.new.job c.args.choice s c.make_tables.result
stopped_merge g c s stands bare =
    let old = c.args.served.now.engine in
    let new = c.choose.new.engine in
    let bytes = g.D.Held.HeldFile.bytes in
    let os = c.args.served.now.opens.items in
    let h = history_of s in
    let l = s.store.layout in
    let did = c.choose.ensures in
    was_merged g.D.Watched g.D.Writer.Writer bytes old.core new.core old.disk new.disk old.merging new.merging os s stands.serves
    c.choose.result did.core did.disk c.args.choice c.in-Some.job (c.in_ok-job.was ∙ ap Ok c.in-Some.is)
    (did.stands h l (record { stands = stands.serves.engine; opens = stands.merges.opens }))
    (did.fits h l (record { stands = stands.serves.engine; opens = stands.merges.opens }) stands.serves.fits)
    (λ openable. did.represents h l (represents bytes (g.D.Watched.told old.disk) old.core os s stands.serves openable)
    (record { stands = stands.serves.engine; opens = stands.merges.opens }))
    (did.job h l (record { stands = stands.serves.engine; opens = stands.merges.opens }))
    (did.looks h l (record { stands = stands.serves.engine; opens = stands.merges.opens }))
    (record { only_now = g.met.D.Disk.only_now; counts_now = g.met.D.Disk.counts_now }) c.args.name bare
    (unread_of g.D.Held.HeldFile.bytes (history_of s) s.store.layout (open_in c.args.served.now.opens.items c.args.name)
    (thing_of s.store c.args.name) (stands.serves.names.each c.args.name) bare)
    c.make_tables.new.engine.core c.make_tables.new.engine.disk c.make_tables.new.engine.merging c.make_tables.new.job c.make_tables.result
    c.make_tables.ensures.merged

pub returns-in-Err-clause-carries : goal.returns-in-Err-clause-carries
returns-in-Err-clause-carries g c s stands bare held =
    let w = g.D.Writer.Writer in
    let bytes = g.D.Held.HeldFile.bytes in
    let watched : IsWatched g.D.Watched = record { only_now = g.met.D.Disk.only_now; counts_now = g.met.D.Disk.counts_now } in
    let choice = c.args.choice in
    let name = c.args.name in
    let before = c.args.served.now.engine in
    let after = c.make_tables.new.engine in
    let os = c.args.served.now.opens.items in
    let free = unread_of bytes (history_of s) s.store.layout (open_in os name) (thing_of s.store name)
    (stands.serves.names.each name) bare in
    let was = stopped_merge g c s stands bare in
    subst (λ (d : _). LeadsTo {T = Answer} g.D.Watched IsStored Shown IsStopped before.disk d s
    (state_after s (line_for choice name)) (Err c.in-Err.halt))
    (sym c.abandon-in-Err.ensures.disk)
    (stopped_leads g.D.Watched watched w bytes before.disk after.disk before.core after.core after.merging os s
    stands.serves choice name bare free
    c.make_tables.new.job c.make_tables.result was c.in-Err.halt c.in-Err.is held)

pub returns-in-Err-clause-sound : goal.returns-in-Err-clause-sound
returns-in-Err-clause-sound g c s stands bare =
    let w = g.D.Writer.Writer in
    let bytes = g.D.Held.HeldFile.bytes in
    let watched : IsWatched g.D.Watched = record { only_now = g.met.D.Disk.only_now; counts_now = g.met.D.Disk.counts_now } in
    let choice = c.args.choice in
    let name = c.args.name in
    let before = c.args.served.now.engine in
    let after = c.make_tables.new.engine in
    let os = c.args.served.now.opens.items in
    let free = unread_of bytes (history_of s) s.store.layout (open_in os name) (thing_of s.store name)
    (stands.serves.names.each name) bare in
    let was = stopped_merge g c s stands bare in
    stopped_sound g.D.Watched watched w bytes before.disk after.disk before.core after.core after.merging os s
    stands.serves choice name bare free
    c.make_tables.new.job c.make_tables.result was c.in-Err.halt c.in-Err.is

pub returns-in-Err-clause-undamaged : goal.returns-in-Err-clause-undamaged
returns-in-Err-clause-undamaged g c s stands bare =
    let w = g.D.Writer.Writer in
    let bytes = g.D.Held.HeldFile.bytes in
    let watched : IsWatched g.D.Watched = record { only_now = g.met.D.Disk.only_now; counts_now = g.met.D.Disk.counts_now } in
    let choice = c.args.choice in
    let name = c.args.name in
    let before = c.args.served.now.engine in
    let after = c.make_tables.new.engine in
    let os = c.args.served.now.opens.items in
    let free = unread_of bytes (history_of s) s.store.layout (open_in os name) (thing_of s.store name)
    (stands.serves.names.each name) bare in
    let was = stopped_merge g c s stands bare in
    stopped_undamaged g.D.Watched watched w bytes before.disk after.disk before.core after.core after.merging os s
    stands.serves choice name bare free
    c.make_tables.new.job c.make_tables.result was c.in-Err.halt c.in-Err.is

pub returns-in-Err-clause-fault : goal.returns-in-Err-clause-fault
returns-in-Err-clause-fault g c s stands by =
    less_sure _ (subst (λ disk. g.D.Watched.gives_steady disk) (sym c.choose.ensures.disk))
    (c.make_tables.ensures.fault
    (ap (λ (core : Core _). core.front.halted) c.choose.ensures.core
    ∙ not_halted g.D.Held.HeldFile.bytes c.args.served.now.engine.core (history_of s) s.store.layout
    stands.serves.engine stands.serves.running)
    (stopped_fault c.make_tables.result c.in-Err.halt c.in-Err.is by))

-- what never fails then

pub returns-in_err-job-clause-steady : goal.returns-in_err-job-clause-steady
returns-in_err-job-clause-steady g c gives = same_steady g.D.Watched _ _ c.choose.ensures.disk gives

pub returns-in_default-clause-steady : goal.returns-in_default-clause-steady
returns-in_default-clause-steady g c gives = same_steady g.D.Watched _ _ c.choose.ensures.disk gives

pub returns-in-Ok-None-clause-steady : goal.returns-in-Ok-None-clause-steady
returns-in-Ok-None-clause-steady g c gives =
    c.make_tables.ensures.steady (same_steady g.D.Watched _ _ c.choose.ensures.disk gives)

pub returns-in-Ok-Some-clause-steady : goal.returns-in-Ok-Some-clause-steady
returns-in-Ok-Some-clause-steady g c gives = same_steady g.D.Watched _ _ c.abandon.ensures.disk
    (c.make_tables.ensures.steady (same_steady g.D.Watched _ _ c.choose.ensures.disk gives))

pub returns-in-Err-clause-steady : goal.returns-in-Err-clause-steady
returns-in-Err-clause-steady g c gives = same_steady g.D.Watched _ _ c.abandon-in-Err.ensures.disk
    (c.make_tables.ensures.steady (same_steady g.D.Watched _ _ c.choose.ensures.disk gives))

pub returns-in-Err-clause-named : goal.returns-in-Err-clause-named
returns-in-Err-clause-named g c s file stands bare is =
    let w = g.D.Writer.Writer in
    let bytes = g.D.Held.HeldFile.bytes in
    let watched : IsWatched g.D.Watched = record { only_now = g.met.D.Disk.only_now; counts_now = g.met.D.Disk.counts_now } in
    let choice = c.args.choice in
    let name = c.args.name in
    let before = c.args.served.now.engine in
    let after = c.make_tables.new.engine in
    let os = c.args.served.now.opens.items in
    let free = unread_of bytes (history_of s) s.store.layout (open_in os name) (thing_of s.store name)
    (stands.serves.names.each name) bare in
    let was = stopped_merge g c s stands bare in
    stopped_named g.D.Watched watched w bytes before.disk after.disk before.core after.core after.merging os s
    stands.serves choice name bare free
    c.make_tables.new.job c.make_tables.result was c.in-Err.halt c.in-Err.is c.args.served.now.engine.core.back.manifest.number file is

-- ---- what the engine keeps of which files can go

pub returns-then-is_some-clause-removes : goal.returns-then-is_some-clause-removes
returns-then-is_some-clause-removes g c s stands bare removes =
    let engine = c.args.served.now.engine in
    subst (λ (x : Step). Removes engine.core engine.removing x.state.layout) (sym (waits_already g c s stands bare)) removes

pub returns-in_default-clause-removes : goal.returns-in_default-clause-removes
returns-in_default-clause-removes g c s stands bare removes =
    let old = c.args.served.now.engine in
    let new = c.choose.new.engine in
    let h = history_of s in
    let l = s.store.layout in
    let opened : StandsOpen g.D.Held.HeldFile.bytes c.args.served.now.engine.core c.args.served.now.engine.merging (history_of s)
    s.store.layout = record { stands = stands.serves.engine; opens = stands.merges.opens } in
    let none = c.in_ok-job.was ∙ ap Ok c.in_default.is in
    subst (λ (x : Step). Removes new.core new.removing x.state.layout) (sym (not_due g c s stands bare))
    (subst (λ (r : Ruling (Option Job)). Removes new.core new.removing r.layout)
    (none_due g.D.Watched g.D.Writer.Writer g.D.Held.HeldFile.bytes old.core new.core old.disk new.disk old.merging new.merging
    c.args.served.now.opens.items s stands.serves c.choose.result c.choose.ensures.core c.choose.ensures.disk c.args.choice
    (c.choose.ensures.stands h l opened) none)
    ((c.choose.ensures.removes h l opened removes).answered None (ap (plan_outcome (chosen c.args.choice l h).answer) none)).1)

pub returns-in-Ok-None-clause-removes : goal.returns-in-Ok-None-clause-removes
returns-in-Ok-None-clause-removes g c s stands bare removes =
    let old = c.args.served.now.engine in
    let mid = c.choose.new.engine in
    let new = c.make_tables.new.engine in
    let bytes = g.D.Held.HeldFile.bytes in
    let w = g.D.Writer.Writer in
    let os = c.args.served.now.opens.items in
    let h = history_of s in
    let l = s.store.layout in
    let did = c.choose.ensures in
    let opened : StandsOpen g.D.Held.HeldFile.bytes c.args.served.now.engine.core c.args.served.now.engine.merging (history_of s)
    s.store.layout = record { stands = stands.serves.engine; opens = stands.merges.opens } in
    let free = unread_of bytes h l (open_in os c.args.name) (thing_of s.store c.args.name) (stands.serves.names.each c.args.name) bare in
    let was = whole_merge g c s stands bare in
    let planned = planned_as g.D.Watched w bytes old.core mid.core old.disk mid.disk old.merging mid.merging os s stands.serves
    c.choose.result did.core did.disk c.args.choice c.in-Some.job (c.in_ok-job.was ∙ ap Ok c.in-Some.is)
    (did.stands h l opened) (did.fits h l opened stands.serves.fits)
    (λ openable. did.represents h l (represents bytes (g.D.Watched.told old.disk) old.core os s stands.serves openable) opened)
    (did.job h l opened) (did.looks h l opened) was.j was.plans in
    let begun = opened_leaves g.D.Watched w bytes old.core mid.core old.disk mid.disk old.merging mid.merging os s stands.serves
    c.choose.result did.core did.disk c.args.choice c.in-Some.job (c.in_ok-job.was ∙ ap Ok c.in-Some.is)
    (did.stands h l opened) (did.fits h l opened stands.serves.fits)
    (λ openable. did.represents h l (represents bytes (g.D.Watched.told old.disk) old.core os s stands.serves openable) opened)
    (did.job h l opened) (did.looks h l opened) (Removes mid.core mid.removing) was.j was.plans (did.removes h l opened removes) in
    let drew : LeavesDrawn (Removes new.core new.removing) new.core (with_job was.j l) = λ count is.
    subst (λ (r : Result (Option Counter) Halt). OnOk r (Removes new.core new.removing (drawn_all count (with_job was.j l))))
    (c.in-Ok-None.is ∙ ap Ok c.in-Ok-None.field-0-is)
    (c.make_tables.ensures.removes (planned_state was.j s) was.j count planned is begun) in
    merge_leaves g.D.Watched (record { only_now = g.met.D.Disk.only_now; counts_now = g.met.D.Disk.counts_now }) w bytes
    old.core new.core old.disk new.disk new.merging c.make_tables.new.job os s stands.serves c.args.choice c.args.name bare free
    c.make_tables.result was (c.in-Ok-None.is ∙ ap Ok c.in-Ok-None.field-0-is) (Removes new.core new.removing) drew

pub returns-in-Ok-Some-clause-removes : goal.returns-in-Ok-Some-clause-removes
returns-in-Ok-Some-clause-removes g c s stands bare removes =
    let old = c.args.served.now.engine in
    let mid = c.choose.new.engine in
    let new = c.make_tables.new.engine in
    let bytes = g.D.Held.HeldFile.bytes in
    let w = g.D.Writer.Writer in
    let os = c.args.served.now.opens.items in
    let h = history_of s in
    let l = s.store.layout in
    let did = c.choose.ensures in
    let opened : StandsOpen g.D.Held.HeldFile.bytes c.args.served.now.engine.core c.args.served.now.engine.merging (history_of s)
    s.store.layout = record { stands = stands.serves.engine; opens = stands.merges.opens } in
    let free = unread_of bytes h l (open_in os c.args.name) (thing_of s.store c.args.name) (stands.serves.names.each c.args.name) bare in
    let was = exhausted_merge g c s stands bare in
    let planned = planned_as g.D.Watched w bytes old.core mid.core old.disk mid.disk old.merging mid.merging os s stands.serves
    c.choose.result did.core did.disk c.args.choice c.in-Some.job (c.in_ok-job.was ∙ ap Ok c.in-Some.is)
    (did.stands h l opened) (did.fits h l opened stands.serves.fits)
    (λ openable. did.represents h l (represents bytes (g.D.Watched.told old.disk) old.core os s stands.serves openable) opened)
    (did.job h l opened) (did.looks h l opened) was.j was.plans in
    let begun = opened_leaves g.D.Watched w bytes old.core mid.core old.disk mid.disk old.merging mid.merging os s stands.serves
    c.choose.result did.core did.disk c.args.choice c.in-Some.job (c.in_ok-job.was ∙ ap Ok c.in-Some.is)
    (did.stands h l opened) (did.fits h l opened stands.serves.fits)
    (λ openable. did.represents h l (represents bytes (g.D.Watched.told old.disk) old.core os s stands.serves openable) opened)
    (did.job h l opened) (did.looks h l opened) (Removes mid.core mid.removing) was.j was.plans (did.removes h l opened removes) in
    let drew : LeavesDrawn (Removes new.core new.removing) new.core (with_job was.j l) = λ count is.
    subst (λ (r : Result (Option Counter) Halt). OnOk r (Removes new.core new.removing (drawn_all count (with_job was.j l))))
    (c.in-Ok-Some.is ∙ ap Ok c.in-Ok-Some.field-0-is)
    (c.make_tables.ensures.removes (planned_state was.j s) was.j count planned is begun) in
    let then = c.abandon.new.self in
    let did_so : Abandons bytes (g.D.Watched.told new.disk) (g.D.Watched.told then.disk) new.core then.core new.merging then.merging =
    record {
      stands = c.abandon.ensures.stands;
      represents = c.abandon.ensures.represents;
      fits = c.abandon.ensures.fits;
      core = c.abandon.ensures.core;
    } in
    exhausted_leaves g.D.Watched (record { only_now = g.met.D.Disk.only_now; counts_now = g.met.D.Disk.counts_now }) w bytes
    old.disk new.disk old.core new.core new.merging os s stands.serves c.args.choice c.args.name bare free
    c.make_tables.new.job c.make_tables.result was (g.D.Watched.told then.disk) then.core then.merging did_so
    c.in-Ok-Some.counter (c.in-Ok-Some.is ∙ ap Ok c.in-Ok-Some.field-0-is) (Removes new.core new.removing) (Removes then.core
    then.removing)
    drew (λ k m o is there has so. c.abandon.ensures.removes k m o is there has so)

-- ---- what it is answered, whatever the disk holds

pub returns-then-is_some-clause-as_called : goal.returns-then-is_some-clause-as_called
returns-then-is_some-clause-as_called g c = (
  λ idle. ap (λ (b : Bool). not b && can_merge g.D.Held.HeldFile.size c.args.choice c.args.served.now.engine.core.version)
      (waits_open g.D.Watched g.D.Writer.Writer c.args.served.now.engine.disk c.args.served.now.engine.merging c.args.planned.now
      c.requires (sym c.is_some.ensures ∙ c.if-is_some.true)),
  inl tt,
)

pub returns-in_err-job-clause-as_called : goal.returns-in_err-job-clause-as_called
returns-in_err-job-clause-as_called g c = (
  λ idle. absurd (ok_not_err c.from_residual.result (ap is_ok idle) c.from_residual.ensures.0),
  inl (err_reads_well c.from_residual.result c.from_residual.ensures.1),
)

pub returns-in_default-clause-as_called : goal.returns-in_default-clause-as_called
returns-in_default-clause-as_called g c = (λ idle. sym c.in_ok-job.ensures.there ∙ ap is_some c.in_default.is, inl tt)

pub returns-in-Ok-None-clause-as_called : goal.returns-in-Ok-None-clause-as_called
returns-in-Ok-None-clause-as_called g c = (λ idle. cc, inl tt)

pub returns-in-Ok-Some-clause-as_called : goal.returns-in-Ok-Some-clause-as_called
returns-in-Ok-Some-clause-as_called g c = (λ idle. cc, inl tt)

pub returns-in-Err-clause-as_called : goal.returns-in-Err-clause-as_called
returns-in-Err-clause-as_called g c = (
  λ idle. cc,
  inr (
    c.in-Some.job,
    c.in_ok-job.ensures.base c.in-Some.job c.in-Some.is,
    met_halt g.D.Held.HeldFile.bytes g.D.Reader.Reader.faults g.D.Writer.Writer _ c.in-Some.job (Option Counter) Answer c.in-Err.halt
        c.in-Err.ensures.as_called,
  ),
)
