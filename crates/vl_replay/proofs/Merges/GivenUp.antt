-- A line that plans a merge, which was given up: no number was left for a table, or it stopped without an answer.
use Rattle.std.proofs.Common.{◌≡◌, ⊎_elim, inr, ℕ, ◌+◌, ◌-◌, ◌<◌, ◌≤◌, false, List, [], length, refl, ap, sym, ◌∙◌, subst, arith}
use Rattle.std.proofs.lemmas.Bool.{cases_lt}
use Rattle.std.specs.Prelude.{Option, None, Some, Result, Ok, Err, IsTrue}
use Rattle.std.specs.Option.{is_some, option_map}
use Rattle.vl_compact.specs.declared.job.Job.{Job as TheJob}
use Rattle.vl_disk.specs.DiskState.{DiskState}
use Rattle.vl_disk.specs.declared.name.Name.{Name as FileName}
use Rattle.vl_disk.specs.declared.watched.Watched.{Ghosts}
use Rattle.vl_disk.specs.declared.writer.Writer.{Ghosts as Writers}
use Rattle.vl_compact.specs.Progress.{made_of}
use Rattle.vl_steps.specs.Merging.{HasMerge}
use Rattle.vl_engine_laws.specs.Lent.{StandsOpen}
use Rattle.vl_engine_laws.specs.Represents as engine
use Rattle.vl_engine_laws.specs.Shown.{Shown}
use Rattle.vl_engine_laws.specs.MayStep.{Fits}
use Rattle.vl_engine_laws.specs.declared.kept.Core.{Core}
use Rattle.vl_engine_laws.specs.declared.open.OpenMerge.{OpenMerge}
use Rattle.vl_engine_model.specs.Jobs.{AreLent, Made, job_ended}
use Rattle.vl_engine_model.specs.Merging.{outputs}
use Rattle.vl_engine_model.specs.Ruling.{pin_of}
use Rattle.vl_engine_model.specs.Rulings.Abandon.{abandon_ruling}
use Rattle.vl_engine_model.specs.Rulings.Plan.{with_job}
use Rattle.vl_engine_model.specs.Store.Commits.{Commits, history_in}
use Rattle.vl_engine_model.specs.Store.Lines.{Name}
use Rattle.vl_engine_model.specs.Store.Things.{AJob, Step, thing_in, thing_of}
use Rattle.vl_engine_model.specs.declared.job.Job.{Job}
use Rattle.vl_engine_model.specs.declared.job.OpenJob.{OpenJob}
use Rattle.vl_engine_model.specs.declared.layout.Layout.{Layout}
use Rattle.vl_model.specs.History.{History}
use Rattle.vl_model.specs.Limits.{max_file_number}
use Rattle.vl_model.specs.declared.counter.Counter.{Counter}
use Rattle.vl_version.specs.declared.base.Base.{Base}
use Rattle.vl_replay_laws.specs.Choosing.{line_for}
use Rattle.vl_replay_laws.specs.declared.choice.Choice.{Choice}
use Rattle.vl_replay_laws.specs.Drawn.{DrawsOn, EndsMerging, IsServing, Merged, drawn_all, drawn_state, numbers_from}
use Rattle.vl_script_model.specs.Durable.{CarriesOut, CrashesShow, HoldsState, LeadsTo}
use Rattle.vl_script_model.specs.Failing.{FailsAt, HasTables}
use Rattle.vl_script_model.specs.Halts.{HaltsByDamage, HaltsByDisk, HaltsByRead, HaltsByReader}
use Rattle.vl_replay_laws.specs.Replaying.{MakesStep, Merges, StandsIn, state_by_plan}
use Rattle.vl_script_model.specs.Sequential.{State, history_of, state_after, step_to}
use Rattle.vl_script_model.specs.Stopped.{AreNumberedUpTo}
use Rattle.vl_script_model.specs.Stored.{IsStopped, IsStored}
use Rattle.vl_script_model.specs.declared.fails.Halt.{Halt}
use Rattle.vl_script_model.specs.declared.fails.Halt.TheVariants as halts
use Rattle.vl_replay_laws.specs.declared.open.Open.{Open}
use Rattle.vl_replay_laws.specs.Standing.{open_in}
use Rattle.vl_script.specs.declared.answer.Answer.{Answer}
use Rattle.vl_script.specs.declared.answer.Answer.TheVariants as answers
use Rattle.vl_script_model.specs.laws.Betweens.{extends_same}
use Rattle.vl_script_model.specs.laws.DiskSteps.{IsWatched, opens_again, own_commits, rests_until}
use Rattle.vl_script_model.specs.laws.HeldDisk.{stored_by}
use Rattle.vl_script_model.specs.laws.ShownDisk.{shown_stays, stored_exactly}
use Rattle.vl_replay_laws.specs.laws.Merges.Lists.{next_drawn}
use Rattle.vl_replay.proofs.CarryingRemoved.{LeavesDrawn}
use Rattle.vl_replay_laws.specs.laws.Merges.Carrying.{halted_leads}
use Rattle.vl_replay_laws.specs.laws.Merges.Choosing.{behind_for, commits_for, fails_for}
use Rattle.vl_replay_laws.specs.laws.Merges.Filling.{drawn_next}
use Rattle.vl_replay_laws.specs.laws.Merges.Planned.{Plans}
use Rattle.vl_replay.proofs.Merges.PlanLine.{WasMerged}
use Rattle.vl_replay_laws.specs.laws.Merges.Planning.{given_up, given_up_is, given_up_makes, given_up_waits, lent_there, made}
use Rattle.vl_replay_laws.specs.laws.Merges.Planning.{planned_state, some_lent, total_of, whole_is}

-- where none waits there is none
pub none_of : {T : Type 0} (o : Option T) → is_some o ≡ false → o ≡ None
none_of None is = refl
none_of (Some x) is = absurd cc

some_same : {T : Type 0} (x y : T) → Some x ≡ Some y → x ≡ y
some_same x y e = cc

-- a halt is the same, whatever would have been answered
by_reader : (halt : Halt) → HaltsByReader {T = Answer} (Err halt) → HaltsByReader {T = Option Counter} (Err halt)
by_reader halts.NoMemory by = by
by_reader (halts.Disk file) by = by
by_reader (halts.Read file) by = by
by_reader (halts.Halted file) by = by
by_reader (halts.Damaged file place) by = by

-- an engine that stands for a state that isn't halted isn't
pub not_halted : {H : Type 0} (bytes : H → Option (List ℕ)) (core : Core H) (h : History) (l : Layout)
    → engine.StandsFor bytes core h l → l.halted ≡ None
    → core.front.halted ≡ None
not_halted bytes core h l stands running = unmapped core.front.halted engine.file_of (stands.fronts.halted ∙ running)
  where
    unmapped : {A B : Type 0} (o : Option A) (f : A → B) → option_map f o ≡ None → o ≡ None
    unmapped None f is = refl
    unmapped (Some x) f is = absurd cc

-- ---- memory ran out before one was planned

pub unplanned_leads : {D : Type 0} (g : Ghosts D) (watched : IsWatched g) (old new : D) → new ≡ old
    → (choice : Choice) (s : State) (name : Name)
    → CarriesOut {T = Answer} g IsStored Shown IsStopped old new s (state_after s (line_for choice name)) (Err halts.NoMemory)
unplanned_leads {D} g watched old new same choice s name held =
    let after : State = state_after s (line_for choice name) in
    subst (λ (d : D). LeadsTo {T = Answer} g IsStored Shown IsStopped old d s after (Err halts.NoMemory)) (sym same) (record {
      answered = tt;
      short = λ by. own_commits g IsStored s after old held;
      tells = opens_again g watched IsStored Shown IsStopped shown_stays stored_exactly s old held;
      through = rests_until g watched IsStored Shown IsStopped shown_stays stored_exactly s (history_of after)
          (extends_same (history_of s) (history_of after)
          (ap history_in (commits_for choice s name))) old held;
      stopped = λ by. absurd by;
    })

-- ---- the merge is given up

-- the clauses of `Engine::abandon`
pub record Abandons {H : Type 0} (bytes : H → Option (List ℕ)) (seen now : Option DiskState) (before after : Core H)
    (merging merging' : Option OpenMerge) : Type 0 where
  pub stands : (h : History) (l : Layout) (o : OpenJob) (made : Made) → StandsOpen bytes before merging h l
      → l.job ≡ Some o → AreLent o.lent made
      → StandsOpen bytes after merging' h (abandon_ruling l h o.job made).layout
  pub represents : (h : History) (l : Layout) (o : OpenJob) (made : Made) → engine.Represents bytes before seen h l
      → l.job ≡ Some o → AreLent o.lent made
      → engine.Represents bytes after now h (abandon_ruling l h o.job made).layout
  pub fits : (h : History) (l : Layout) (o : OpenJob) (made : Made) → Fits seen before h l
      → Fits now after h (abandon_ruling l h o.job made).layout
  pub core : after ≡ before

-- the layout that it leaves
abbrev ended_layout : State → Name → Job → ℕ → Layout
ended_layout s name j count = job_ended (made s name j count) (drawn_all count (with_job j s.store.layout))

abbrev ended_state : State → Name → Job → ℕ → State
ended_state s name j count = record s { store = record s.store { layout = ended_layout s name j count } }

module _ {H : Type 0} (bytes : H → Option (List ℕ)) (seen now : Option DiskState) (before after : Core H)
    (merging merging' : Option OpenMerge)
    (did : Abandons bytes seen now before after merging merging') (s : State) (name : Name) (j : Job) (count : ℕ) (few : count ≤ total_of j)
    (serves : IsServing bytes seen before merging (drawn_state count (planned_state j s))) where
  abbrev its_open : OpenJob
  its_open = record { job = j; pin = pin_of s.store.layout; moved = []; lent = numbers_from s.store.layout.next_table count }

  abbrev drawn_on : Layout
  drawn_on = drawn_all count (with_job j s.store.layout)

  pub ended_represents : IsTrue s.openable → engine.Represents bytes after now (history_of s) (ended_layout s name j count)
  ended_represents openable = did.represents (history_of s) drawn_on its_open (made s name j count)
      (record { stands = serves.stands; held = λ running. serves.held openable }) (lent_there s name j count) (some_lent s name j count few)

  pub ended_serves : IsServing bytes now after merging' (ended_state s name j count)
  ended_serves =
      let open' = did.stands (history_of s) drawn_on its_open (made s name j count)
      (record { stands = serves.stands; opens = serves.opens })
      (lent_there s name j count) (some_lent s name j count few) in
      record {
        stands = open'.stands;
        opens = open'.opens;
        held = λ openable. (ended_represents openable).held serves.running;
        running = serves.running;
        fits = did.fits (history_of s) drawn_on its_open (made s name j count) serves.fits;
        within = subst (λ (c : Core H). c.back.state.next_log ≤ c.back.next_log) (sym did.core) serves.within;
      }

-- ---- the line

-- where one more number might be drawn, the line draws it
pub next_above : (s : State) (name : Name) (j : Job) (choice : Choice) → Plans choice s.store.layout (history_of s) j
    → s.store.layout.halted ≡ None → thing_of s.store name ≡ None
    → (count : ℕ) → count < total_of j → s.store.layout.next_table + count ≤ max_file_number
    → s.store.layout.next_table + count < (state_after s (line_for choice name)).store.layout.next_table
next_above s name j choice plans running bare count few fits =
    ⊎_elim
    (λ (less : max_file_number + 1 < s.store.layout.next_table + total_of j).
    let most : ℕ = (max_file_number + 1) - s.store.layout.next_table in
    let step = given_up_is s name j choice plans running bare most (omega (arith, less, fits)) (inr (omega (arith, fits)))
    (omega (arith, fits)) in
    let next = ap (λ (x : Step). x.state.layout.next_table) step ∙ drawn_next most (with_job j s.store.layout) in
    omega (arith, next, fits))
    (λ (all : s.store.layout.next_table + total_of j ≤ max_file_number + 1).
    let step = whole_is s name j choice plans running bare (inr all) in
    let next = ap (λ (x : Step). x.state.layout.next_table) step ∙ drawn_next (total_of j) (with_job j s.store.layout) in
    omega (arith, next, few))
    (cases_lt (max_file_number + 1) (s.store.layout.next_table + total_of j))

module _ {D W H R S : Type 0} (g : Ghosts D) (watched : IsWatched g) (w : Writers W) (bytes : H → Option (List ℕ)) {k : Writers W}
    (old new : D) (before core : Core H) (merging : Option OpenMerge) (os : List (Open H S)) (s : State)
    (stands : StandsIn bytes (g.told old) before os s) (choice : Choice) (name : Name) (bare : thing_of s.store name ≡ None)
    (free : open_in os name ≡ None)
    (job : TheJob (Base H R) H W k) (result : Result (Option Counter) Halt)
    (was : WasMerged g w bytes old new core merging job choice s result) where
  abbrev h : History
  h = history_of s

  abbrev l : Layout
  l = s.store.layout

  abbrev behind : State
  behind = state_after s (line_for choice name)

  abbrev j : Job
  j = was.j

  abbrev plans : Plans choice s.store.layout (history_of s) was.j
  plans = was.plans

  abbrev merged : Merged g w bytes old new core merging job (planned_state was.j s) was.j result
  merged = was.merged

  drew : HoldsState g IsStored s old → DrawsOn g old new (planned_state j s) merged.count result
  drew held = merged.disk (was.held held)

  -- ---- no number was left

  module _ (now : Option DiskState) (after : Core H) (merging' : Option OpenMerge)
      (did : Abandons bytes (g.told new) now core after merging merging')
      (counter : Counter) (is : result ≡ Ok (Some counter)) where
    ends : EndsMerging w bytes job (planned_state j s) j merged.count (Ok (Some counter))
    ends = subst (EndsMerging w bytes job (planned_state j s) j merged.count) is merged.ends

    fine : HaltsByDisk result → ⊥
    fine by = subst (λ (r : Result (Option Counter) Halt). HaltsByDisk r) is by

    its_serves : IsServing bytes now after merging' (ended_state s name j merged.count)
    its_serves = ended_serves bytes (g.told new) now core after merging merging' did s name j merged.count merged.few (merged.serves fine)

    pub exhausted_makes : MakesStep bytes now after os s (step_to s (line_for choice name)) (Ok (answers.Exhausted counter))
    exhausted_makes = given_up_makes bytes now after os s name j choice plans stands.names stands.sound stands.running bare
        free merging' merged.count ends.0 merged.fits ends.2
        its_serves counter ends.1

    -- what is so of a layout that gave so many numbers is so of that behind the line, once the merge was given up
    pub exhausted_leaves : (P Q : Layout → Type 0) → LeavesDrawn P core (with_job was.j s.store.layout)
        → ((k : History) (m : Layout) (o : OpenJob) → StandsOpen bytes core merging k m → m.job ≡ Some o
        → HasMerge w bytes job o.job → P m → Q (abandon_ruling m k o.job (made_of job o.job)).layout)
        → Q (step_to s (line_for choice name)).state.layout
    exhausted_leaves P Q leaves gives =
        let serving = merged.serves fine in
        let count = merged.count in
        let opened : OpenJob = record { job = was.j; pin = pin_of l; moved = []; lent = numbers_from l.next_table count } in
        subst (λ (x : Step). Q x.state.layout)
        (sym (given_up_is s name j choice plans stands.running bare count ends.0 merged.fits ends.2))
        (subst (λ (m : Made). Q (job_ended m (drawn_all count (with_job was.j l)))) ends.4
        (gives h (drawn_all count (with_job was.j l)) opened (record { stands = serving.stands; opens = serving.opens })
        (lent_there s name j count) ends.3
        (leaves count ((serving.fits.running serving.running).numbers.next_table ∙ next_drawn count (with_job was.j l)))))

    pub exhausted_merges : {m : Writers W}
        → ((other : Name) (job' : Job) (made' : Made) → thing_in s.store.things other ≡ Some (AJob job' made') → ⊥)
        → let x = step_to s (line_for choice name) in Merges {H = H} {R = R} w bytes {g = m} merging' None x.state.things x.state.layout
    exhausted_merges {m} none = given_up_waits bytes now after os s name j choice plans stands.names stands.sound
        stands.running bare free merging' merged.count ends.0 merged.fits ends.2
        its_serves w m none

    pub exhausted_leads : now ≡ g.told new → HoldsState g IsStored s old
        → LeadsTo {T = Answer} g IsStored Shown IsStopped old new s behind (Ok (answers.Exhausted counter))
    exhausted_leads same held = record {
      answered = subst (λ (t : State). HoldsState g IsStored t new) (sym (behind_for choice s name))
          (subst (λ (x : Step). HoldsState g IsStored (state_by_plan s x) new) (sym step) (record {
            calls = (drawn.held fine).calls;
            there = stored_by bytes after (g.told new) (state_by_plan s (given_up s name j merged.count)) h
                (ended_layout s name j merged.count) refl refl
                its.openable its_serves.running
                (subst (λ (d : Option DiskState). engine.Represents bytes after d h (ended_layout s name j merged.count)) same
                (ended_represents bytes (g.told new) now core after merging merging' did s name j merged.count merged.few
                (merged.serves fine) its.openable))
                its_serves.within its.next_log its.next_drawn
                (λ state told. subst (AreNumberedUpTo (s.files + merged.count))
                (some_same (drawn.held fine).there.0 state (sym (drawn.held fine).there.1 ∙ told)) its.numbered);
          }));
      short = λ by. absurd by;
      tells = drawn.tells;
      through = subst (λ (p : Commits). CrashesShow g Shown old new h (history_in p))
          (sym (commits_for choice s name)) drawn.through;
      stopped = λ by. absurd by;
    }
      where
        drawn : DrawsOn g old new (planned_state j s) merged.count result
        drawn = drew held

        its : IsStored (drawn_state merged.count (planned_state j s)) (drawn.held fine).there.0
        its = (drawn.held fine).there.2

        step : step_to s (line_for choice name) ≡ given_up s name j merged.count
        step = given_up_is s name j choice plans stands.running bare merged.count ends.0 merged.fits ends.2

  -- ---- it stopped without an answer

  module _ (halt : Halt) (is : result ≡ Err halt) where
    stopped_ends : EndsMerging w bytes job (planned_state j s) j merged.count (Err halt)
    stopped_ends = subst (EndsMerging w bytes job (planned_state j s) j merged.count) is merged.ends

    where_failed : (e : Halt) → EndsMerging w bytes job (planned_state j s) j merged.count (Err e)
        → HaltsByDisk {T = Option Counter} (Err e)
        → (merged.count < length (outputs j)) × (l.next_table + merged.count ≤ max_file_number)
    where_failed halts.NoMemory far by = absurd by
    where_failed (halts.Disk file) far by = (far.0, far.1)
    where_failed (halts.Read file) far by = absurd by
    where_failed (halts.Halted file) far by = absurd by
    where_failed (halts.Damaged file place) far by = absurd by

    pub stopped_leads : HoldsState g IsStored s old → LeadsTo {T = Answer} g IsStored Shown IsStopped old new s behind (Err halt)
    stopped_leads held = halted_leads g watched bytes old new s name j choice plans os stands.names stands.sound stands.running
        bare free stands.engine.tidy
        merged.count result (drew held) halt is merged.few merged.fits
        (λ by. where_failed halt stopped_ends (subst (λ (r : Result (Option Counter) Halt). HaltsByDisk r) is by))

    pub stopped_sound : HaltsByRead {T = Answer} (Err halt) → HasTables s
    stopped_sound by none = plans.tables none.0

    pub stopped_undamaged : HaltsByDamage {T = Answer} (Err halt) → ⊥
    stopped_undamaged by = of halt stopped_ends by
      where
        of : (e : Halt) → EndsMerging w bytes job (planned_state j s) j merged.count (Err e) → HaltsByDamage {T = Answer} (Err e) → ⊥
        of halts.NoMemory far damaged = damaged
        of (halts.Disk file) far damaged = damaged
        of (halts.Read file) far damaged = damaged
        of (halts.Halted file) far damaged = damaged
        of (halts.Damaged file place) far damaged = far

    pub stopped_named : (manifest : ℕ) (file : FileName)
        → ◌≡◌ {A = Result Answer Halt} (Err halt) (Err (halts.Disk file)) → FailsAt manifest (line_for choice name) s file
    stopped_named manifest file at = of halt stopped_ends (same_halt at)
      where
        same_halt : ◌≡◌ {A = Result Answer Halt} (Err halt) (Err (halts.Disk file)) → halt ≡ halts.Disk file
        same_halt e = cc

        of : (e : Halt) → EndsMerging w bytes job (planned_state j s) j merged.count (Err e) → e ≡ halts.Disk file
            → FailsAt manifest (line_for choice name) s file
        of halts.NoMemory far same = absurd cc
        of (halts.Disk other) far same = fails_for choice manifest s name file (
          l.next_table + merged.count,
          sym (its_file other same) ∙ far.2,
          omega arith,
          next_above s name j choice plans stands.running bare merged.count far.0 far.1,
        )
          where
            its_file : (f : FileName) → halts.Disk f ≡ halts.Disk file → f ≡ file
            its_file f e = cc
        of (halts.Read other) far same = absurd cc
        of (halts.Halted other) far same = absurd cc
        of (halts.Damaged other place) far same = absurd cc

-- ---- its fault

-- what failed beside the disk is a fault of what carried out the merge
pub stopped_fault : (result : Result (Option Counter) Halt) (halt : Halt) → result ≡ Err halt
    → HaltsByReader {T = Answer} (Err halt) → HaltsByReader result
stopped_fault result halt is by = subst (λ (r : Result (Option Counter) Halt). HaltsByReader r) (sym is) (by_reader halt by)
