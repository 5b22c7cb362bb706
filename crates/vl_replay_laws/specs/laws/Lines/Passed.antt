-- The open pass behind lines of merges, and merges behind one of passes.
use Rattle.std.proofs.Common.{◌≡◌, ℕ, ◌+◌, ◌++◌, Bool, true, false, cond, List, [], ◌∷◌, refl, ap, sym, ◌∙◌}
use Rattle.std.specs.Prelude.{Option, None, Some, Result, OnOk}
use Rattle.vl_engine_laws.specs.Lasts.{Lasts}
use Rattle.vl_engine_laws.specs.Pointed.{layout_logs}
use Rattle.vl_engine_laws.specs.declared.kept.Core.{Core}
use Rattle.vl_engine_laws.specs.laws.Lasting.{install_lasts, lasts_same}
use Rattle.vl_space.specs.Collecting.{Collects}
use Rattle.vl_space.specs.declared.kept.Collecting.{Collecting}
use Rattle.vl_engine_model.specs.Jobs.{Made}
use Rattle.vl_engine_model.specs.Levels.{due_from, first_into}
use Rattle.vl_engine_model.specs.Merging.{outputs}
use Rattle.vl_engine_model.specs.Relocation.{Candidate, Pass, next_batch}
use Rattle.vl_engine_model.specs.Ruling.{Ruling, has_no_number, has_no_epoch}
use Rattle.vl_engine_model.specs.Rulings.Drain.{drain_of, drain_unless}
use Rattle.vl_engine_model.specs.Rulings.Fresh as fresh
use Rattle.vl_engine_model.specs.Rulings.Fresh.{FreshAnswer, fresh_ruling, fresh_unless}
use Rattle.vl_engine_model.specs.Rulings.Install.{install_checked, install_unless, moved_since, race}
use Rattle.vl_engine_model.specs.Rulings.Plan.{plan_of, plan_unless}
use Rattle.vl_engine_model.specs.Sources.{tables}
use Rattle.vl_engine_model.specs.Store.Commits.{history_in}
use Rattle.vl_engine_model.specs.Store.Dispatch.{batch_by, fill, filled, found_by, install_by, made_of, plan_as, planned_by}
use Rattle.vl_engine_model.specs.Store.Lines.{Answer, Name}
use Rattle.vl_engine_model.specs.Store.Things as things
use Rattle.vl_engine_model.specs.Store.Things.{AJob, APass, ATransaction, AView, Step, Thing, only, thing_of}
use Rattle.vl_engine_model.specs.Tidy.{IsTidy}
use Rattle.vl_engine_model.specs.declared.file_name.FileName.{FileName}
use Rattle.vl_engine_model.specs.declared.job.Job.{Job}
use Rattle.vl_engine_model.specs.declared.job.OpenJob.{OpenJob}
use Rattle.vl_engine_model.specs.declared.job.OpenPass.{OpenPass}
use Rattle.vl_engine_model.specs.declared.layout.Layout.{Layout}
use Rattle.vl_engine_model.specs.declared.segment.Segment.{Segment}
use Rattle.vl_engine_model.specs.declared.table.Table.{Table}
use Rattle.vl_model.specs.Conflicts.{Named}
use Rattle.vl_model.specs.History.{History}
use Rattle.vl_model.specs.declared.entry.Entry.{Entry}
use Rattle.vl_seglog.specs.declared.sealed.SealedLog.{SealedLog}
use Rattle.vl_version.specs.declared.base.Base.{Base}
use Rattle.vl_replay_laws.specs.Choosing.{chosen}
use Rattle.vl_replay_laws.specs.Passing.{Passes}
use Rattle.vl_replay_laws.specs.declared.choice.Choice.{Choice}
use Rattle.vl_replay_laws.specs.declared.choice.Choice.TheVariants.{Due, LeadsInto}
use Rattle.vl_replay_laws.specs.declared.passing.Passing.{Passing}
use Rattle.vl_script_model.specs.declared.fails.Halt.{Halt}
use Rattle.vl_script.specs.declared.answer.Answer.{Answer as ScriptAnswer}
use Rattle.vl_replay_laws.specs.laws.Merges.Keeping.{KeepsMerges, KeepsPasses, SamePasses, same_jobs, same_passes}
use Rattle.vl_replay_laws.specs.laws.Passes.Named.{IsNoPass, jobs_beside, pass_no_job, passes_beside, passes_without_job}
use Rattle.vl_replay_laws.specs.laws.Passes.Standing.{collects_with, passes_on}
use Rattle.vl_replay_laws.specs.laws.Passes.Stepping.{passes_stepped}

-- ---- what a plan or a drain leaves

abbrev Rest : Type 0
Rest = Option OpenPass × ℕ × List Segment × List Segment × List (List Table)

-- what a layout has of the open pass, of logs and of tables
abbrev rest_of : Layout → Rest
rest_of l = (l.pass, l.active.number, l.frozen, l.flushed, l.levels)

either_rest : {A : Type 0} (l : Layout) (b : Bool) (x y : Ruling A) → rest_of x.layout ≡ rest_of l → rest_of y.layout ≡ rest_of l
    → rest_of (cond b x y).layout ≡ rest_of l
either_rest l true x y p q = p
either_rest l false x y p q = q

fresh_rest : (l : Layout) (h : History) (halted : Option FileName) → rest_of (fresh_unless halted l h).layout ≡ rest_of l
fresh_rest l h (Some file) = refl
fresh_rest l h None = either_rest l (has_no_number l.next_table 1) _ _ refl refl

due_rest : (l : Layout) (h : History) (o : Option ℕ) → rest_of (plan_of l h o).layout ≡ rest_of l
due_rest l h None = refl
due_rest l h (Some level) = refl

plan_rest : (l : Layout) (h : History) (o : Option OpenJob) → rest_of (plan_unless o l h).layout ≡ rest_of l
plan_rest l h (Some job) = refl
plan_rest l h None = due_rest l h (due_from 0 l.levels)

first_rest : (l : Layout) (h : History) (o : Option Table) → rest_of (drain_of l h o).layout ≡ rest_of l
first_rest l h None = refl
first_rest l h (Some t) = refl

drain_rest : (l : Layout) (h : History) (segment : ℕ) (o : Option OpenJob) → rest_of (drain_unless o l h segment).layout ≡ rest_of l
drain_rest l h segment (Some job) = refl
drain_rest l h segment None = first_rest l h (first_into segment (tables l))

chosen_rest : (choice : Choice) (l : Layout) (h : History) → rest_of (chosen choice l h).layout ≡ rest_of l
chosen_rest Due l h = plan_rest l h l.job
chosen_rest (LeadsInto segment) l h = drain_rest l h segment l.job

module _ (s : things.State) (name : Name) (free : IsNoPass (thing_of s name)) where
  -- a step leaves these, and names of passes
  record LeavesRest (x : Step) : Type 0 where
    rest : rest_of x.state.layout ≡ rest_of s.layout
    names : SamePasses s.things x.state.things

  only_leaves : (answer : Answer) → LeavesRest (only answer s)
  only_leaves answer = record { rest = refl; names = same_passes s.things s.things refl }

  ended_leaves : (l : Layout) (answer : Answer) (calls : ℕ) → rest_of l ≡ rest_of s.layout
      → LeavesRest (record { answer = answer; state = record s { layout = l }; calls = calls })
  ended_leaves l answer calls rest = record { rest = rest; names = same_passes s.things s.things refl }

  filled_leaves : (l : Layout) (made : Made) (calls : ℕ) (more : Step) (a : FreshAnswer) → rest_of l ≡ rest_of s.layout
      → LeavesRest more → LeavesRest (filled s l made calls more a)
  filled_leaves l made calls more (fresh.Drawn n) rest leaves = leaves
  filled_leaves l made calls more (fresh.Halted file) rest leaves = ended_leaves _ _ calls rest
  filled_leaves l made calls more (fresh.Exhausted c) rest leaves = ended_leaves _ _ calls rest

  fill_leaves : (output : List (List Entry)) (job : Job) (l : Layout) (numbers : List ℕ) (calls : ℕ) → rest_of l ≡ rest_of s.layout
      → LeavesRest (fill s name job l output numbers calls)
  fill_leaves [] job l numbers calls rest = record {
    rest = rest;
    names = passes_beside s.things name free job (made_of job numbers);
  }
  fill_leaves (es ∷ output) job l numbers calls rest =
      filled_leaves l (made_of job numbers) calls _ (fresh_ruling l (history_in s.commits)).answer rest
      (fill_leaves output job (fresh_ruling l (history_in s.commits)).layout (numbers ++ l.next_table ∷ []) (calls + 1)
      (fresh_rest l (history_in s.commits) l.halted ∙ rest))

  planned_leaves : (r : Ruling (Option Job)) (o : Option Job) → rest_of r.layout ≡ rest_of s.layout → LeavesRest (planned_by s name r o)
  planned_leaves r None rest = only_leaves _
  planned_leaves r (Some job) rest = fill_leaves (outputs job) job r.layout [] 0 rest

  plan_leaves : (choice : Choice) (o : Option Thing) → LeavesRest (plan_as s name (chosen choice s.layout (history_in s.commits)) o)
  plan_leaves choice (Some other) = only_leaves _
  plan_leaves choice None =
      let r = chosen choice s.layout (history_in s.commits) in
      planned_leaves r r.answer (chosen_rest choice s.layout (history_in s.commits))

  module _ {H R : Type 0} (bytes : H → Option (List ℕ)) (before after : Core H) (old new : Collecting)
      (passing : Option (Passing (Base H R) H)) (logs : after.version.behind.logs ≡ before.version.behind.logs) (kept_is : new ≡ old) where
    leaves_passes : (x : Step) → LeavesRest x → Passes bytes before old passing s.things s.layout
        → Passes bytes after new passing x.state.things x.state.layout
    leaves_passes x leaves passes =
        let l : Layout = s.layout in
        let m : Layout = x.state.layout in
        let sealed_is = ap (λ (w : Rest). w.2 ++ w.3) leaves.rest in
        passes_on bytes before after old new passing s x
        (record { pass = ap (λ (w : Rest). w.0) leaves.rest; names = leaves.names })
        (λ log lasts. lasts_same bytes log l lasts m sealed_is (ap (λ (w : Rest). w.1) leaves.rest))
        (collects_with before after old new logs kept_is l m sealed_is
        (ap (λ (w : Rest). tables (record m { levels = w.4 })) leaves.rest)
        (ap (λ (w : Rest). w.3) leaves.rest) (ap (λ (w : Rest). w.0) leaves.rest) passes.collects) passes

    -- The open pass goes on behind a line that plans a merge.
    pub plan_passes : (choice : Choice) → Passes bytes before old passing s.things s.layout
        → let x = plan_as s name (chosen choice s.layout (history_in s.commits)) (thing_of s name) in
        Passes bytes after new passing x.state.things x.state.layout
    plan_passes choice passes = leaves_passes _ (plan_leaves choice (thing_of s name)) passes

pub bare_no_pass : (o : Option Thing) → o ≡ None → IsNoPass o
bare_no_pass o bare p batch is = none_some (APass p batch) (sym bare ∙ is)
  where
    none_some : (x : Thing) → None ≡ Some x → ⊥
    none_some x e = cc

-- ---- what an install leaves

either_pass : {A : Type 0} (l : Layout) (b : Bool) (x y : Ruling A) → x.layout.pass ≡ l.pass → y.layout.pass ≡ l.pass
    → (cond b x y).layout.pass ≡ l.pass
either_pass l true x y p q = p
either_pass l false x y p q = q

module _ (l : Layout) (h : History) (job : Job) (made : Made) where
  checked_pass : (raced : Option Named) → (install_checked l h job made raced).layout.pass ≡ l.pass
  checked_pass (Some named) = refl
  checked_pass None = either_pass l (has_no_epoch l) _ _ refl refl

  install_pass : (halted : Option FileName) → (install_unless halted l h job made).layout.pass ≡ l.pass
  install_pass (Some file) = refl
  install_pass None = checked_pass (race job (moved_since l.job))

job_no_pass : (ts : Option Thing) (job : Job) (made : Made) → ts ≡ Some (AJob job made) → IsNoPass ts
job_no_pass o job made is p batch there = apart (sym is ∙ there)
  where
    apart : Some (AJob job made) ≡ Some (APass p batch) → ⊥
    apart e = cc

module _ (s : things.State) (name : Name) where
  only_keeps : (answer : Answer) → KeepsPasses s (only answer s)
  only_keeps answer = record { pass = refl; names = same_passes s.things s.things refl }

  install_keeps : (o : Option Thing) → thing_of s name ≡ o → KeepsPasses s (install_by s name o)
  install_keeps None is = only_keeps _
  install_keeps (Some (ATransaction t b)) is = only_keeps _
  install_keeps (Some (AView v b)) is = only_keeps _
  install_keeps (Some (APass pass batch)) is = only_keeps _
  install_keeps (Some (AJob job made)) is = record {
    pass = install_pass s.layout (history_in s.commits) job made s.layout.halted;
    names = passes_without_job s.things name (job_no_pass (thing_of s name) job made is);
  }

  its_lasts : {H : Type 0} (bytes : H → Option (List ℕ)) (log : SealedLog H)
      → IsTidy (layout_logs s.layout) s.layout (history_in s.commits) → Lasts bytes log s.layout → (o : Option Thing)
      → Lasts bytes log (install_by s name o).state.layout
  its_lasts bytes log tidy lasts None = lasts
  its_lasts bytes log tidy lasts (Some (ATransaction t b)) = lasts
  its_lasts bytes log tidy lasts (Some (AView v b)) = lasts
  its_lasts bytes log tidy lasts (Some (APass pass batch)) = lasts
  its_lasts bytes log tidy lasts (Some (AJob job made)) = install_lasts bytes log s.layout (history_in s.commits) lasts tidy job made

  -- The open pass goes on behind an install that was answered.
  pub install_passes : {H R : Type 0} (bytes : H → Option (List ℕ)) (before after : Core H) (old new : Collecting)
      (passing : Option (Passing (Base H R) H)) (result : Result ScriptAnswer Halt)
      → IsTidy (layout_logs s.layout) s.layout (history_in s.commits) → let x = install_by s name (thing_of s name) in
      OnOk result (Collects after new x.state.layout) → Passes bytes before old passing s.things s.layout
      → OnOk result (Passes bytes after new passing x.state.things x.state.layout)
  install_passes bytes before after old new passing result tidy collects passes =
      passes_stepped bytes before after old new passing s (install_by s name (thing_of s name)) result
      (install_keeps (thing_of s name) refl) (λ log lasts. its_lasts bytes log tidy lasts (thing_of s name)) collects passes

-- ---- merges behind a batch

module _ (s : things.State) (name : Name) where
  only_merges : (answer : Answer) → KeepsMerges s (only answer s)
  only_merges answer = record { job = refl; jobs = same_jobs s.things s.things refl }

  found_merges : (pass : Pass) (batch : Option (List Candidate)) → thing_of s name ≡ Some (APass pass batch)
      → (next : Option (List Candidate) × Pass) (o : Option (List Candidate)) → KeepsMerges s (found_by s name next o)
  found_merges pass batch is next None = record {
    job = refl;
    jobs = jobs_beside s.things name (λ job made there. pass_no_job pass batch job made (sym is ∙ there)) next.1 None;
  }
  found_merges pass batch is next (Some more) = record {
    job = refl;
    jobs = jobs_beside s.things name (λ job made there. pass_no_job pass batch job made (sym is ∙ there)) next.1 (Some more);
  }

  pub batch_keeps_merges : (o : Option Thing) → thing_of s name ≡ o → KeepsMerges s (batch_by s name o)
  batch_keeps_merges None is = only_merges _
  batch_keeps_merges (Some (ATransaction t b)) is = only_merges _
  batch_keeps_merges (Some (AView v b)) is = only_merges _
  batch_keeps_merges (Some (AJob job made)) is = only_merges _
  batch_keeps_merges (Some (APass pass (Some batch))) is = only_merges _
  batch_keeps_merges (Some (APass pass None)) is = found_merges pass None is (next_batch pass) (next_batch pass).0
