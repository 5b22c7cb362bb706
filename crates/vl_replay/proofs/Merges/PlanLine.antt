-- What a line that plans a merge makes of a state, and does to a disk that holds it, by what the engine's calls are said to have
-- done.
use Rattle.std.proofs.Common.{◌≡◌, ◌⊎◌, ℕ, min, ◌+◌, ◌-◌, ◌^◌, ◌≤◌, true, false, List, length, refl, ap, sym, ◌∙◌, subst, arith}
use Rattle.std.specs.Prelude.{Option, None, Some, IsTrue, Result, Ok, IfOk, is_some}
use Rattle.std.specs.Option.{ForSome}
use Rattle.vl_compact.specs.Laid.{AreBoth}
use Rattle.vl_compact.specs.declared.job.Job.{Job as TheJob}
use Rattle.vl_disk.specs.declared.watched.Watched.{Ghosts}
use Rattle.vl_disk.specs.declared.writer.Writer.{Ghosts as Writers}
use Rattle.vl_steps.specs.Merging.{FitsReaders, HasAllMerge, HasMerge, OpensMerge, plan_outcome}
use Rattle.vl_engine_laws.specs.Lent.{StandsOpen}
use Rattle.vl_engine_laws.specs.Represents as engine
use Rattle.vl_engine_laws.specs.Shown.{Shown}
use Rattle.vl_engine_laws.specs.MayStep.{Fits}
use Rattle.vl_engine_laws.specs.declared.kept.Core.{Core}
use Rattle.vl_engine_laws.specs.declared.open.OpenMerge.{OpenMerge}
use Rattle.vl_engine_model.specs.Decides.{Answered, Decides, as_before, no_effects}
use Rattle.vl_engine_model.specs.Jobs.{Made}
use Rattle.vl_engine_model.specs.Merging.{merged_entries, outputs}
use Rattle.vl_engine_model.specs.Ruling.{Ruling, leaving}
use Rattle.vl_engine_model.specs.Rulings.Plan.{with_job}
use Rattle.vl_engine_model.specs.Store.Dispatch.{plan_as, planned_by}
use Rattle.vl_engine_model.specs.Store.Lines as store_lines
use Rattle.vl_engine_model.specs.Store.Lines.{Name}
use Rattle.vl_engine_model.specs.Store.Things as things
use Rattle.vl_engine_model.specs.Store.Things.{AJob, Step, Thing, only, thing_of}
use Rattle.vl_engine_model.specs.declared.job.Job.{Job}
use Rattle.vl_engine_model.specs.declared.layout.Layout.{Layout}
use Rattle.vl_model.specs.History.{History}
use Rattle.vl_model.specs.Limits.{max_file_number}
use Rattle.vl_model.specs.declared.counter.Counter.{Counter}
use Rattle.vl_version.specs.declared.base.Base.{Base}
use Rattle.vl_replay_laws.specs.Choosing.{chosen, line_for}
use Rattle.vl_replay_laws.specs.declared.choice.Choice.{Choice}
use Rattle.vl_replay_laws.specs.Drawn.{EndsMerging, HasTablesFrom, IsPlanned, IsServing, Merged, drawn_state}
use Rattle.vl_script_model.specs.Durable.{CarriesOut, HoldsState}
use Rattle.vl_script_model.specs.Halts.{HaltsByDisk}
use Rattle.vl_replay.specs.Handed.{CanHandIn, MayHandIn}
use Rattle.vl_replay_laws.specs.Replaying.{MakesStep, Merges, StandsIn, Waits, state_by_plan}
use Rattle.vl_script_model.specs.Sequential.{IsPrinted, State, history_of, state_after, step_to}
use Rattle.vl_replay_laws.specs.Standing.{open_in}
use Rattle.vl_script_model.specs.Stored.{IsStopped, IsStored}
use Rattle.vl_script_model.specs.declared.fails.Halt.{Halt}
use Rattle.vl_replay_laws.specs.declared.open.Open.{Open}
use Rattle.vl_replay_laws.specs.declared.planned.Planned.{Planned}
use Rattle.vl_script.specs.declared.answer.Answer.{Answer}
use Rattle.vl_script.specs.declared.answer.Answer.TheVariants as answers
use Rattle.vl_replay_laws.specs.laws.Disk.Carried.{quiet_carries}
use Rattle.vl_script_model.specs.laws.DiskSteps.{IsWatched}
use Rattle.vl_replay_laws.specs.laws.Merges.Carrying.{planned_held, whole_leads}
use Rattle.vl_replay_laws.specs.laws.Merges.Choosing.{behind_for, counted_step, step_for}
use Rattle.vl_replay_laws.specs.laws.Merges.Keeping.{KeepsMerges, same_jobs}
use Rattle.vl_replay_laws.specs.laws.Merges.Opened.{opened_planned}
use Rattle.vl_replay_laws.specs.laws.Merges.Planned.{Plans, plan_busy, plan_none, plan_some}
use Rattle.vl_replay_laws.specs.laws.Merges.Lists.{next_drawn}
use Rattle.vl_replay.proofs.CarryingRemoved.{LeavesDrawn}
use Rattle.vl_replay_laws.specs.laws.Merges.Planning.{planned_state, whole_is, whole_makes, whole_waits}
use Rattle.vl_replay_laws.specs.laws.Merges.Waiting.{merges_behind}

-- ---- none is planned

-- there is none of these tables, or one is open
pub idle_step : (choice : Choice) (s : State) (name : Name) → thing_of s.store name ≡ None
    → chosen choice s.store.layout (history_of s) ≡ leaving None (history_of s) s.store.layout
    → step_to s (line_for choice name) ≡ only store_lines.Idle s.store
idle_step choice s name bare is =
    step_for choice s name ∙ ap counted_step
    (ap (plan_as s.store name (chosen choice s.store.layout (history_of s))) bare
    ∙ ap (λ (r : Ruling (Option Job)). planned_by s.store name r r.answer) is)

-- such a line leaves the state
same_state : (choice : Choice) (s : State) (name : Name) (answer : store_lines.Answer)
    → step_to s (line_for choice name) ≡ only answer s.store
    → state_after s (line_for choice name) ≡ s
same_state choice s name answer is =
    behind_for choice s name
    ∙ ap (state_by_plan s) is
    ∙ ap (λ (n : ℕ). record s { files = n }) (let sum : s.files + 0 ≡ s.files = omega arith in sum)

module _ {D H R : Type 0} (g : Ghosts D) (watched : IsWatched g) (bytes : H → Option (List ℕ)) (before after : Core H) (old new : D)
    (os : List (Open H R)) (s : State) (stands : StandsIn bytes (g.told old) before os s) (core : after ≡ before) (disk : new ≡ old)
    (choice : Choice) (name : Name) (told : Answer) (answer : store_lines.Answer) (same : IsPrinted told answer)
    (is : step_to s (line_for choice name) ≡ only answer s.store) where
  still_made : MakesStep bytes (g.told new) after os s (only answer s.store) (Ok told)
  still_made = (
    same,
    subst (λ (d : D). StandsIn bytes (g.told d) after os s) (sym disk)
        (subst (λ (c : Core H). StandsIn bytes (g.told old) c os s) (sym core) stands),
  )

  pub unplanned_makes : MakesStep bytes (g.told new) after os s (step_to s (line_for choice name)) (Ok told)
  unplanned_makes = subst (λ (x : Step). MakesStep bytes (g.told new) after os s x (Ok told)) (sym is) still_made

  pub unplanned_carries : CarriesOut g IsStored Shown IsStopped old new s (state_after s (line_for choice name)) (Ok told)
  unplanned_carries = subst (λ (t : State). CarriesOut {T = Answer} g IsStored Shown IsStopped old new s t (Ok told))
      (sym (same_state choice s name answer is))
      (quiet_carries g watched bytes (g.told new) after os s (only answer s.store)
      (record { commits = refl; layout = refl; calls = refl }) (Ok told) still_made (λ halts. halts) old new disk)

module _ {W H R : Type 0} (w : Writers W) (bytes : H → Option (List ℕ)) {k : Writers W} (merging merging' : Option OpenMerge)
    (planned planned' : Option (Planned (Base H R) H W k)) (same : merging' ≡ merging) (still : planned' ≡ planned) (s : State)
    (merges : Merges w bytes merging planned s.store.things s.store.layout) (choice : Choice) (name : Name)
    (answer : store_lines.Answer)
    (is : step_to s (line_for choice name) ≡ only answer s.store) where
  pub unplanned_merges : let x = step_to s (line_for choice name) in Merges w bytes merging' planned' x.state.things x.state.layout
  unplanned_merges = merges_behind w bytes merging merging' planned planned' same still s.store (step_to s (line_for choice name))
      (subst (KeepsMerges s.store) (sym is) (record { job = refl; jobs = same_jobs s.store.things s.store.things refl })) merges

-- ---- the merge that waits

-- while one waits another isn't planned
pub waiting_idle : {W H R : Type 0} (w : Writers W) (bytes : H → Option (List ℕ)) {k : Writers W}
    (planned : Option (Planned (Base H R) H W k))
    (choice : Choice) (s : State) → Waits w bytes planned s.store.things s.store.layout → is_some planned ≡ true
    → chosen choice s.store.layout (history_of s) ≡ leaving None (history_of s) s.store.layout
waiting_idle w bytes None choice s waits is = absurd cc
waiting_idle w bytes (Some p) choice s waits is = plan_busy choice s.store.layout (history_of s) waits.open_job waits.is_open

-- and where none waits no name stands for a merge
pub none_waits : {W H R : Type 0} (w : Writers W) (bytes : H → Option (List ℕ)) {k : Writers W}
    (planned : Option (Planned (Base H R) H W k))
    (s : State) → Waits w bytes planned s.store.things s.store.layout → is_some planned ≡ false
    → (other : Name) (job : Job) (made : Made) → things.thing_in s.store.things other ≡ Some (AJob job made) → ⊥
none_waits w bytes None s waits is = waits.1
none_waits w bytes (Some p) s waits is = absurd cc

-- ---- what the engine planned

-- A merge was planned, which was carried out, or stopped.
pub record WasMerged {D H R W : Type 0} (g : Ghosts D) (w : Writers W) (bytes : H → Option (List ℕ)) (old new : D) (core : Core H)
    (merging : Option OpenMerge) {k : _} (job : TheJob (Base H R) H W k) (choice : Choice) (s : State)
    (result : Result (Option Counter) Halt) : Type 0 where
  pub j : Job
  pub plans : Plans choice s.store.layout (history_of s) j
  pub merged : Merged g w bytes old new core merging job (planned_state j s) j result
  -- a disk that held the state held it with the open merge too
  pub held : HoldsState g IsStored s old → HoldsState g IsStored (planned_state j s) old

module _ {D H R S W E : Type 0} (g : Ghosts D) (w : Writers W) (bytes : H → Option (List ℕ)) {k : Writers W}
    (before after : Core H) (old new : D)
    (merging merging' : Option OpenMerge) (os : List (Open H S)) (s : State) (stands : StandsIn bytes (g.told old) before os s)
    (result : Result (Option (TheJob (Base H R) H W k)) E)
    (core : after ≡ before) (disk : new ≡ old) (choice : Choice) where
  abbrev h : History
  h = history_of s

  abbrev l : Layout
  l = s.store.layout

  abbrev ruling : Ruling (Option Job)
  ruling = chosen choice l h

  -- none was due
  pub none_due : Decides (StandsOpen bytes after merging') h l ruling (as_before l l) (plan_outcome ruling.answer result) no_effects
      → result ≡ Ok None → ruling ≡ leaving None h l
  none_due decides is =
      plan_none choice l h (sym (decides.answered None (ap (plan_outcome ruling.answer) is)).0)

  -- the open merge stays then
  pub still_open : result ≡ Ok None → OpensMerge merging merging' result → merging' ≡ merging
  still_open is opened = subst (λ (r : Result (Option (TheJob (Base H R) H W k)) E). OpensMerge merging merging' r) is opened

  module _ (job : TheJob (Base H R) H W k) (is : result ≡ Ok (Some job))
      (stands_so : Decides (StandsOpen bytes after merging') h l ruling (as_before l l) (plan_outcome ruling.answer result) no_effects)
      (fits_so : Decides (Fits (g.told new) after) h l ruling (as_before l l) (plan_outcome ruling.answer result) no_effects)
      (represents_so : IsTrue s.openable
      → Decides (engine.Represents bytes after (g.told new)) h l ruling (as_before l l) (plan_outcome ruling.answer result) no_effects)
      (jobs : IfOk result (λ o. AreBoth (HasMerge w bytes) o ruling.answer))
      (looks : IfOk result (λ o. ForSome o (FitsReaders bytes))) where
    answered : plan_outcome ruling.answer result ≡ Answered ruling.answer
    answered = ap (plan_outcome ruling.answer) is

    the_job : (o : Option Job) → ruling.answer ≡ o → AreBoth (HasMerge {R = R} w bytes {g = k}) (Some job) o
        → (j : Job) × (ruling.answer ≡ Some j) × HasMerge w bytes job j
    the_job None it both = absurd both
    the_job (Some j) it both = (j, it, both)

    job_is : (j : Job) × (ruling.answer ≡ Some j) × HasMerge w bytes job j
    job_is = the_job ruling.answer refl
        (subst (λ (r : Result (Option (TheJob (Base H R) H W k)) E). IfOk r
        (λ o. AreBoth (HasMerge {R = R} w bytes {g = k}) o ruling.answer)) is jobs)

    looks_so : FitsReaders bytes job
    looks_so = subst (λ (r : Result (Option (TheJob (Base H R) H W k)) E). IfOk r
        (λ o. ForSome o (FitsReaders {R = R} bytes {g = k}))) is looks job refl

    plans_it : Plans choice l h job_is.0
    plans_it = plan_some choice l h job_is.0 job_is.1

    represented : IsTrue s.openable → engine.Represents bytes after (g.told new) ruling.history ruling.layout
    represented openable = ((represents_so openable).answered ruling.answer answered).1

    planned_it : IsPlanned w bytes (g.told new) after merging' job (planned_state job_is.0 s) job_is.0
    planned_it =
        opened_planned w k bytes (g.told new) before after merging' os s
        (subst (λ (d : D). StandsIn bytes (g.told d) before os s) (sym disk) stands) job job_is.0 choice plans_it core
        (stands_so.answered ruling.answer answered).1 (fits_so.answered ruling.answer answered).1 represented job_is.2 looks_so

    -- so it is with each job that is planned, which is the one
    pub planned_as : (i : Job) → Plans choice l h i → IsPlanned w bytes (g.told new) after merging' job (planned_state i s) i
    planned_as i plans = subst (λ (x : Job). IsPlanned w bytes (g.told new) after merging' job (planned_state x s) x)
        (one job_is.0 i (sym job_is.1 ∙ ap (λ (r : Ruling (Option Job)). r.answer) plans.ruled)) planned_it
      where
        one : (a b : Job) → Some a ≡ Some b → a ≡ b
        one a b e = cc

    -- what stands behind the ruling
    pub opened_leaves : (P : Layout → Type 0) (i : Job) → Plans choice l h i
        → Decides (λ _ m. P m) h l ruling (as_before l l) (plan_outcome ruling.answer result) no_effects → P (with_job i l)
    opened_leaves P i plans decides =
        subst (λ (r : Ruling (Option Job)). P r.layout) plans.ruled (decides.answered ruling.answer answered).1

    module _ (watched : IsWatched g) (name : Name) (bare : thing_of s.store name ≡ None) (free : open_in os name ≡ None) where
      disk_held : HoldsState g IsStored s old → HoldsState g IsStored (planned_state job_is.0 s) old
      disk_held =
          planned_held g watched bytes old old s name job_is.0 choice plans_it os stands.names stands.sound stands.running bare
          free stands.engine.tidy after
          (λ openable. subst (λ (d : D). engine.Represents bytes after (g.told d) h (with_job job_is.0 l)) disk
          (subst (λ (r : Ruling (Option Job)). engine.Represents bytes after (g.told new) r.history r.layout)
          plans_it.ruled (represented openable)))
          (subst (λ (c : Core H). c.back.state.next_log ≤ c.back.next_log) (sym core) stands.within)

      -- it was carried out, or stopped
      pub was_merged : (core' : Core H) (new' : D) (merging'' : Option OpenMerge) (job' : TheJob (Base H R) H W k)
          (told : Result (Option Counter) Halt)
          → ((t : State) (j : Job) → IsPlanned w bytes (g.told new) after merging' job t j
          → Merged g w bytes new new' core' merging'' job' t j told)
          → WasMerged g w bytes old new' core' merging'' job' choice s told
      was_merged core' new' merging'' job' told merges = record {
        j = job_is.0;
        plans = plans_it;
        merged = subst (λ (d : D). Merged g w bytes d new' core' merging'' job' (planned_state job_is.0 s) job_is.0 told) disk
            (merges (planned_state job_is.0 s) job_is.0 planned_it);
        held = disk_held;
      }

-- ---- it has all of its tables

module _ {D H R S W : Type 0} (g : Ghosts D) (watched : IsWatched g) (w : Writers W) (bytes : H → Option (List ℕ))
    {k : Writers W} (before core : Core H)
    (old new : D) (merging : Option OpenMerge) (job : TheJob (Base H R) H W k) (os : List (Open H S)) (s : State)
    (stands : StandsIn bytes (g.told old) before os s) (choice : Choice) (name : Name) (bare : thing_of s.store name ≡ None)
    (free : open_in os name ≡ None) (result : Result (Option Counter) Halt)
    (was : WasMerged g w bytes old new core merging job choice s result) (is : result ≡ Ok None) where
  abbrev j : Job
  j = was.j

  ends : (was.merged.count ≡ length (outputs j)) × HasTablesFrom w bytes job j s.store.layout.next_table
  ends = subst (λ (r : Result (Option Counter) Halt). EndsMerging w bytes job (planned_state j s) j was.merged.count r) is was.merged.ends

  all : (length (outputs j) ≡ 0) ⊎ (s.store.layout.next_table + length (outputs j) ≤ max_file_number + 1)
  all = subst (λ (n : ℕ). (n ≡ 0) ⊎ (s.store.layout.next_table + n ≤ max_file_number + 1)) ends.0 was.merged.fits

  serving : IsServing bytes (g.told new) core merging (drawn_state (length (outputs j)) (planned_state j s))
  serving = subst (λ (n : ℕ). IsServing bytes (g.told new) core merging (drawn_state n (planned_state j s))) ends.0
      (was.merged.serves (λ halts. subst (λ (r : Result (Option Counter) Halt). HaltsByDisk r) is halts))

  pub merge_makes : (number : ℕ) → ((i : Job) → HasAllMerge w bytes job i → number ≡ min (length (merged_entries i)) (2 ^ 64 - 1))
      → MakesStep bytes (g.told new) core os s (step_to s (line_for choice name)) (Ok (answers.Number number))
  merge_makes number counts =
      whole_makes bytes (g.told new) core os s name j choice was.plans stands.names stands.sound stands.running bare free
      merging all serving number
      (counts j ends.1.has)

  pub merge_waits : ((other : Name) (job' : Job) (made : Made) → things.thing_in s.store.things other ≡ Some (AJob job' made) → ⊥)
      → let x = step_to s (line_for choice name) in Merges w bytes merging (Some (record { name = name; job = job }))
      x.state.things x.state.layout
  merge_waits none =
      whole_waits bytes (g.told new) core os s name j choice was.plans stands.names stands.sound stands.running bare free
      merging all serving w k job ends.1 none

  -- what is so of a layout that gave so many numbers is so of that behind the line
  pub merge_leaves : (P : Layout → Type 0) → LeavesDrawn P core (with_job was.j s.store.layout)
      → P (step_to s (line_for choice name)).state.layout
  merge_leaves P leaves = subst (λ (x : Step). P x.state.layout) (sym (whole_is s name j choice was.plans stands.running bare all))
      (leaves (length (outputs j))
      ((serving.fits.running serving.running).numbers.next_table ∙ next_drawn (length (outputs j)) (with_job j s.store.layout)))

  pub merge_carries : (number : ℕ) → CarriesOut g IsStored Shown IsStopped old new s (state_after s (line_for choice name))
      (Ok (answers.Number number))
  merge_carries number held =
      whole_leads g watched bytes old new s name j choice was.plans os stands.names stands.sound stands.running bare free
      stands.engine.tidy was.merged.count result
      (was.merged.disk (was.held held)) is ends.0 was.merged.fits number

-- and can be handed in
pub handed_waits : {D V H W : Type 0} (g : Ghosts D) (w : Writers W) (disk : D) (merging : Option OpenMerge)
    {k : Writers W} (job : TheJob V H W k)
    (name : Name) → MayHandIn g w disk merging job → CanHandIn g w disk merging (Some (record { name = name; job = job }))
handed_waits {V = V} {H = H} {W = W} g w disk merging {k} job name may p is = subst
    (λ (q : Planned V H W k). MayHandIn g w disk merging q.job) (one _ p is) may
  where
    one : (a b : Planned V H W k) → Some a ≡ Some b → a ≡ b
    one a b e = cc
