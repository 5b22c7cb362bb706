-- A store is repaired, stage by stage.
use Rattle.std.proofs.Common.{◌≡◌, ◌⊎◌, ⊎_elim, inl, inr, ℕ, ◌+◌, List, ◌++◌, length, refl, sym, ap, subst, ◌∙◌, arith}
use Rattle.std.specs.Prelude.{true, false, Option, Result, Ok, Err, IfErr, IsErr, IsErrAnd}
use Rattle.std.specs.Option.{ForSome, option_map}
use Rattle.vl_disk.specs.Disk.{IsChangedBy}
use Rattle.vl_disk.specs.DiskState.{DiskState}
use Rattle.vl_disk.specs.MadeFile.{WhileMaking}
use Rattle.vl_disk.specs.Moments.{While, passes_weaker, past_of}
use Rattle.vl_disk.specs.laws.Standing.{holds_after}
use Rattle.vl_disk.specs.declared.name.Name.{Name}
use Rattle.vl_disk.specs.declared.name.Name.TheVariants.{Manifest}
use Rattle.vl_disk.specs.declared.watched.Watched.{Ghosts}
use Rattle.vl_manifest.specs.Making.{HasItsFrame, MakesManifest}
use Rattle.vl_manifest.specs.declared.edit.Edit.{Edit}
use Rattle.vl_manifest.specs.declared.fails.IoFail.{IoFail}
use Rattle.vl_manifest.specs.declared.fails.IoFail.TheVariants as fails
use Rattle.vl_manifest.specs.declared.manifest_log.ManifestLog.{ManifestLog}
use Rattle.vl_recover.specs.repairing.Fitting.{Fits, FitsBehind}
use Rattle.vl_recover.specs.repairing.Repairing.{Plan, WhileLast, WhileLog, WhileRepairing, WhileStrays, at_last}
use Rattle.vl_recover.specs.repairing.Repairing.{at_log, at_manifest, at_strays, behind_last, behind_log}
use Rattle.vl_recover.specs.repairing.Repairing.{behind_strays, calls_of_plan, calls_to_repair, repaired}
use Rattle.vl_recover.specs.repairing.Repairing.{with_manifest}
use Rattle.vl_recover.specs.repairing.PlanViews.{plan_view}
use Rattle.vl_recover.specs.opening.Plans.{calls_to_make}
use Rattle.vl_disk.specs.Faults.{after_calls}
use Rattle.vl_disk.specs.Performs.{FailedAt, Performs, calls_on}
use Rattle.vl_recover.specs.repairing.Steps.{MakesLog, Repairs, RepairsBehind, RepairsLast, RemovesAll, WhileBehind}
use Rattle.vl_recover.specs.repairing.Steps.{behind_manifest, calls_behind, files_behind, last_files, log_files}
use Rattle.vl_recover.proofs.repairs.Stepping.{last_count, log_count, named_on}
use Rattle.vl_recover.specs.declared.plan.RepairingPlan.{RepairingPlan}
use Rattle.vl_disk.specs.laws.Performing.{changed_tells, failed_before, failed_behind, failed_on, part_tells}
use Rattle.vl_disk.specs.laws.Performing.{performs_as, performs_stop, performs_then, same_tells}

false_true : false ≡ true → ⊥
false_true e = cc

-- ---- behind the new manifest

module _ {D : Type 0} (g : Ghosts D) (plan : Plan) where
  -- the log's stage failed
  pub log_stops : {T U V E F : Type 0} (old mid new : D) (first : Result T E) (x : T) (second : Result U F) (e : F) (result : Result V Name)
      → first ≡ Ok x → second ≡ Err e → IsErr result → RepairsLast g plan.last old mid first → MakesLog g plan.log mid new second
      → RepairsBehind g plan old new result
  log_stops {T = T} {U = U} {E = E} {F = F} old mid new first x second e result went failed stopped last log =
      performs_stop g old new (λ disk. behind_log plan.log (behind_last plan.last disk))
      (λ disk now. WhileLast plan.last disk now ⊎ WhileLog plan.log (behind_last plan.last disk) now) (WhileBehind plan)
      (calls_to_make plan.log + calls_to_repair plan.last) (calls_behind plan)
      (λ disk now during. ⊎_elim (λ (w : WhileLast plan.last disk now). inl w)
      (λ (w : WhileLog plan.log (behind_last plan.last disk) now). inr (inl w)) during)
      (behind_manifest plan) e result stopped (omega arith)
      (performs_then g (behind_last plan.last) (behind_log plan.log) (WhileLast plan.last) (WhileLog plan.log) (calls_to_repair plan.last)
      (calls_to_make plan.log) old mid new x (Err e)
      (subst (λ (r : Result T E). RepairsLast g plan.last old mid r) went last)
      (subst (λ (r : Result U F). MakesLog g plan.log mid new r) failed log))

  -- all stages
  pub all_behind : {T U V E F : Type 0} (old mid end new : D) (first : Result T E) (x : T) (second : Result U F) (y : U)
      (names : List Name) (result : Result V Name)
      → first ≡ Ok x → second ≡ Ok y → names ≡ plan.strays
      → RepairsLast g plan.last old mid first → MakesLog g plan.log mid end second → RemovesAll g names end new result
      → RepairsBehind g plan old new result
  all_behind {T = T} {U = U} {E = E} {F = F} old mid end new first x second y names result went then same last log strays =
      performs_as g old new (behind_manifest plan)
      (λ disk now. WhileLast plan.last disk now ⊎ (WhileLog plan.log (behind_last plan.last disk) now ⊎ WhileStrays plan.strays
      (behind_log plan.log (behind_last plan.last disk)) now))
      (WhileBehind plan) ((length plan.strays + calls_to_make plan.log) + calls_to_repair plan.last) (calls_behind plan)
      (λ disk now during. during) result (omega arith)
      (performs_then g (behind_last plan.last) (λ disk. behind_strays plan.strays (behind_log plan.log disk)) (WhileLast plan.last)
      (λ disk now. WhileLog plan.log disk now ⊎ WhileStrays plan.strays (behind_log plan.log disk) now)
      (calls_to_repair plan.last) (length plan.strays + calls_to_make plan.log) old mid new x result
      (subst (λ (r : Result T E). RepairsLast g plan.last old mid r) went last)
      (performs_then g (behind_log plan.log) (behind_strays plan.strays) (WhileLog plan.log) (WhileStrays plan.strays)
      (calls_to_make plan.log) (length plan.strays) mid end new y result
      (subst (λ (r : Result U F). MakesLog g plan.log mid end r) then log)
      (subst (λ (ns : List Name). RemovesAll g ns end new result) same strays)))

-- the same run, said of another result that failed,
pub fails_as : {D T U E F : Type 0} (g : Ghosts D) (after : DiskState → DiskState) (during : DiskState → DiskState → Type 0) (n : ℕ)
    (old new : D)
    (first : Result T E) (e : E) (result : Result U F) → first ≡ Err e → IsErr result → Performs g after during n old new first
    → Performs g after during n old new result
fails_as {T = T} {E = E} g after during n old new first e result is failed step =
    performs_stop g old new after during during n n (λ disk now w. w) after e result failed (omega arith)
    (subst (λ (r : Result T E). Performs g after during n old new r) is step)

-- and of another that passed
pub passes_as : {D T U E F : Type 0} (g : Ghosts D) (after : DiskState → DiskState) (during : DiskState → DiskState → Type 0) (n : ℕ)
    (old new : D)
    (first : Result T E) (x : T) (y : U) → first ≡ Ok x → Performs g after during n old new first
    → Performs {E = F} g after during n old new (Ok y)
passes_as {T = T} {E = E} {F = F} g after during n old new first x y is step = by
    (subst (λ (r : Result T E). Performs g after during n old new r) is step)
  where
    by : Performs {E = E} g after during n old new (Ok x) → Performs {E = F} g after during n old new (Ok y)
    by step = record { done = step.done; calls = step.calls; stops = tt; tells = step.tells; time = step.time; cause = step.cause }

-- what was so of the disk behind a change, said of the disk before it
pub so_before : (change : DiskState → DiskState) (old new : Option DiskState) (P : DiskState → Type 0) → IsChangedBy change old new
    → ForSome new P → ForSome old (λ disk. P (change disk))
so_before change old new P changed here disk is = here (change disk) (changed ∙ ap (option_map change) is)

-- ---- at which file the disk failed

module _ {D : Type 0} (g : Ghosts D) (plan : Plan) (old mid : D) where
  -- at the last log
  pub last_failed : {T U : Type 0} (last : Result T Name) (e : Name) (result : Result U Name) → last ≡ Err e → IsErr result
      → IsErrAnd result (λ f. f ≡ e)
      → IfErr last (FailedAt (last_files plan.last) (g.calls old) (g.calls mid))
      → IfErr result (FailedAt (files_behind plan) (g.calls old) (g.calls mid))
  last_failed last e result is stopped same at =
      named_on last e result (FailedAt (last_files plan.last) (g.calls old) (g.calls mid)) (FailedAt (files_behind plan) (g.calls old)
      (g.calls mid))
      is stopped same (λ name. failed_before (last_files plan.last) (log_files plan.log ++ plan.strays) (g.calls old) (g.calls mid) name) at

  -- the last log was repaired
  module _ {T : Type 0} (end : D) (last : Result T Name) (u : T) where
    last_calls : last ≡ Ok u → RepairsLast g plan.last old mid last → g.calls mid ≡ after_calls (length (last_files plan.last))
        (g.calls old)
    last_calls is repairs =
        (subst (λ (r : Result T Name). RepairsLast g plan.last old mid r) is repairs).calls
        ∙ ap (λ (n : ℕ). after_calls n (g.calls old)) (last_count plan.last)

    -- at the new log
    pub log_failed : {U : Type 0} (log : Result Unit Name) (e : Name) (result : Result U Name) → last ≡ Ok u → log ≡ Err e → IsErr result
        → IsErrAnd result (λ f. f ≡ e) → RepairsLast g plan.last old mid last
        → IfErr log (FailedAt (log_files plan.log) (g.calls mid) (g.calls end))
        → IfErr result (FailedAt (files_behind plan) (g.calls old) (g.calls end))
    log_failed log e result went is stopped same repairs at =
        named_on log e result (FailedAt (log_files plan.log) (g.calls mid) (g.calls end)) (FailedAt (files_behind plan) (g.calls old)
        (g.calls end))
        is stopped same (λ name failed. failed_behind (last_files plan.last) (log_files plan.log ++ plan.strays) (g.calls old)
        (g.calls mid) (g.calls end) name
        (last_calls went repairs) (failed_before (log_files plan.log) plan.strays (g.calls mid) (g.calls end) name failed)) at

    -- at a stray
    module _ (new : D) where
      pub strays_failed : {U : Type 0} (log : Result Unit Name) (v : Unit {0}) (names : List Name) (gone : Result Unit Name) (e : Name)
          (result : Result U Name)
          → last ≡ Ok u → log ≡ Ok v → gone ≡ Err e → IsErr result → IsErrAnd result (λ f. f ≡ e)
          → names ≡ plan.strays → RepairsLast g plan.last old mid last → MakesLog g plan.log mid end log
          → IfErr gone (FailedAt names (g.calls end) (g.calls new))
          → IfErr result (FailedAt (files_behind plan) (g.calls old) (g.calls new))
      strays_failed log v names gone e result went made is stopped named same repairs makes at =
          named_on gone e result (FailedAt names (g.calls end) (g.calls new)) (FailedAt (files_behind plan) (g.calls old) (g.calls new))
          is stopped named
          (λ name failed. failed_behind (last_files plan.last) (log_files plan.log ++ plan.strays) (g.calls old) (g.calls mid)
          (g.calls new) name
          (last_calls went repairs)
          (failed_behind (log_files plan.log) plan.strays (g.calls mid) (g.calls end) (g.calls new) name log_calls
          (subst (λ (ns : List Name). FailedAt ns (g.calls end) (g.calls new) name) same failed))) at
        where
          log_calls : g.calls end ≡ after_calls (length (log_files plan.log)) (g.calls mid)
          log_calls = (subst (λ (r : Result Unit Name). MakesLog g plan.log mid end r) made makes).calls
              ∙ ap (λ (n : ℕ). after_calls n (g.calls mid)) (log_count plan.log)

-- ---- with the new manifest

pub err_is : {A E : Type 0} (result : Result A E) (e : E) → IsErr result → IsErrAnd result (λ f. f ≡ e) → result ≡ Err e
err_is (Ok a) e failed is = absurd (false_true failed)
err_is (Err f) e failed is = ap (λ x. Err x) is

disk_room : (name : Name) → ◌≡◌ {A = Result ManifestLog IoFail} (Err (fails.Disk name)) (Err fails.NoMemory) → ⊥
disk_room name e = cc

module _ {D : Type 0} (g : Ghosts D) (plan : RepairingPlan) (edits : List Edit) (same : edits ≡ plan.edits.items) (old mid : D) where
  abbrev view : Plan
  view = plan_view plan

  abbrev Created : Result ManifestLog IoFail → Type 0
  Created result = MakesManifest g plan.manifest plan.edits.items old mid result

  created : (result : Result ManifestLog IoFail) → MakesManifest g plan.manifest edits old mid result → Created result
  created result makes = subst (λ (es : List Edit). MakesManifest g plan.manifest es old mid result) same makes

  -- it wasn't made
  pub create_stops : (made : Result ManifestLog IoFail) (e : IoFail) (result : Result ManifestLog IoFail) → made ≡ Err e → result ≡ Err e
      → MakesManifest g plan.manifest edits old mid made → Repairs g view old mid result
  create_stops made e result failed is makes =
      subst (λ (r : Result ManifestLog IoFail). Repairs g view old mid r) (sym is)
      (by e (created (Err e) (subst (λ (r : Result ManifestLog IoFail). MakesManifest g plan.manifest edits old mid r) failed makes)))
    where
      by : (e : IoFail) → Created (Err e) → Repairs g view old mid (Err e)
      by fails.NoMemory makes = record {
        manifest = tt;
        done = tt;
        calls = tt;
        stops = (0, omega arith, makes.answer.calls);
        at = tt;
        no_memory = λ _. makes.answer;
        tells = same_tells (g.told old) (g.told mid) makes.answer.told;
        time = passes_weaker (past_of g old) (past_of g mid)
            (While (g.told old) (WhileMaking (Manifest plan.manifest) view.piece)) (While (g.told old) (WhileRepairing view)) makes.time
            (λ now is disk told. at_manifest (is disk told));
        cause = makes.cause;
      }
      by (fails.Disk name) makes = record {
        manifest = tt;
        done = tt;
        calls = tt;
        stops = (makes.answer.stops.0, omega (arith, makes.answer.stops.2), makes.answer.stops.3);
        at = failed_before (calls_on 3 (Manifest plan.manifest)) (files_behind view) (g.calls old) (g.calls mid) name
            (subst (FailedAt (calls_on 3 (Manifest plan.manifest)) (g.calls old) (g.calls mid)) (sym makes.answer.name_is)
            (failed_on 3 (Manifest plan.manifest) (g.calls old) (g.calls mid) makes.answer.stops));
        no_memory = λ e. absurd (disk_room name e);
        tells = part_tells (Manifest plan.manifest) view.piece (g.told old) (g.told mid) makes.answer.part;
        time = passes_weaker (past_of g old) (past_of g mid)
            (While (g.told old) (WhileMaking (Manifest plan.manifest) view.piece)) (While (g.told old) (WhileRepairing view)) makes.time
            (λ now is disk told. at_manifest (is disk told));
        cause = makes.cause;
      }

  -- so is its frame
  pub frame_stops : (made : Result ManifestLog IoFail) (e : IoFail) (result : Result ManifestLog IoFail) → made ≡ Err e → result ≡ Err e
      → MakesManifest g plan.manifest edits old mid made → HasItsFrame plan.edits.items result
  frame_stops made e result failed is makes =
      subst (λ (r : Result ManifestLog IoFail). HasItsFrame plan.edits.items r) (failed ∙ sym is) (created made makes).frame

  module _ (log : ManifestLog) (made : Result ManifestLog IoFail) (went : made ≡ Ok log)
      (makes : MakesManifest g plan.manifest edits old mid made) where
    done_so : Created (Ok log)
    done_so = created (Ok log) (subst (λ (r : Result ManifestLog IoFail). MakesManifest g plan.manifest edits old mid r) went makes)

    -- what the last log is held as then, by what it was held as behind the manifest
    pub held_before : (P : DiskState → Type 0) → ForSome (g.told mid) P
        → ForSome (g.told old) (λ disk. P (with_manifest (plan_view plan) disk))
    held_before P here = so_before (with_manifest view) (g.told old) (g.told mid) P done_so.answer.file here

    -- its frame isn't too long
    pub frame_made : HasItsFrame plan.edits.items (Ok log)
    frame_made = done_so.frame

    pub frame_behind : (name : Name) → HasItsFrame plan.edits.items (Err (fails.Disk name))
    frame_behind name = done_so.frame

    -- the rest of the plan fits what stands then
    pub behind_fits : ForSome (g.told old) (Fits view) → ForSome (g.told mid) (FitsBehind view)
    behind_fits fits = holds_after (with_manifest view) (g.told old) (g.told mid) (Fits view) (FitsBehind view) done_so.answer.file
        (λ disk f. f.behind) fits

    first_step : Performs {E = Name} g (with_manifest view) (WhileMaking (Manifest plan.manifest) view.piece) 3 old mid (Ok log)
    first_step = record {
      done = done_so.answer.file;
      calls = done_so.answer.calls;
      stops = tt;
      tells = changed_tells (with_manifest view) (g.told old) (g.told mid) done_so.answer.file;
      time = done_so.time;
      cause = record {
        later = done_so.cause.later;
        rose = λ fault. absurd (false_true fault);
        steady = λ _. done_so.cause.steady
            (λ no. no);
      };
    }

    module _ (new : D) where
      both : {T : Type 0} (result : Result T Name) → RepairsBehind g view mid new result
          → Performs g (repaired view) (WhileRepairing view) (calls_of_plan view) old new result
      both result behind =
          performs_as g old new (repaired view) (λ disk now. WhileMaking (Manifest plan.manifest) view.piece disk now ⊎ WhileBehind view
          (with_manifest view disk) now) (WhileRepairing view)
          (calls_behind view + 3) (calls_of_plan view) into result (omega arith)
          (performs_then g (with_manifest view) (behind_manifest view) (WhileMaking (Manifest plan.manifest) view.piece)
          (WhileBehind view) 3 (calls_behind view)
          old mid new log result first_step behind)
        where
          into : (disk now : DiskState) → WhileMaking (Manifest plan.manifest) view.piece disk now ⊎ WhileBehind view
              (with_manifest view disk) now → WhileRepairing view disk now
          into disk now during = ⊎_elim
              (λ (w : WhileMaking (Manifest plan.manifest) view.piece disk now). at_manifest w)
              (λ (w : WhileBehind view (with_manifest view disk) now). ⊎_elim
              (λ (v : WhileLast view.last (with_manifest view disk) now). at_last v)
              (λ (v : WhileLog view.log (behind_last view.last (with_manifest view disk)) now
              ⊎ WhileStrays view.strays (behind_log view.log (behind_last view.last (with_manifest view disk))) now). ⊎_elim
              (λ (u : WhileLog view.log (behind_last view.last (with_manifest view disk)) now). at_log u)
              (λ (u : WhileStrays view.strays (behind_log view.log (behind_last view.last (with_manifest view disk))) now). at_strays u)
              v)
              w)
              during

      -- it was repaired
      pub all_repaired : {T : Type 0} (u : T) → RepairsBehind {E = Name} g view mid new (Ok u) → Repairs g view old new (Ok log)
      all_repaired u behind =
          let step = both (Ok u) behind in
          record {
            manifest = done_so.answer.log_is;
            done = step.done;
            calls = step.calls;
            stops = tt;
            at = tt;
            no_memory = λ e. absurd (ok_err log fails.NoMemory e);
            tells = step.tells;
            time = step.time;
            cause = record { later = step.cause.later; rose = λ fault. absurd fault; steady = λ _. step.cause.steady false_true };
          }
        where
          ok_err : (l : ManifestLog) (e : IoFail) → Ok l ≡ Err e → ⊥
          ok_err l e is = cc

      -- the disk failed
      pub repairing_fails : {T : Type 0} (name : Name) → FailedAt (files_behind view) (g.calls mid) (g.calls new) name
          → RepairsBehind {T = T} g view mid new (Err name) → Repairs g view old new (Err (fails.Disk name))
      repairing_fails name at behind =
          let step = both (Err name) behind in
          record {
            manifest = tt;
            done = tt;
            calls = tt;
            stops = (step.stops.0, step.stops.2, step.stops.3);
            at = failed_behind (calls_on 3 (Manifest plan.manifest)) (files_behind view) (g.calls old) (g.calls mid) (g.calls new) name
                done_so.answer.calls at;
            no_memory = λ e. absurd (disk_room name e);
            tells = step.tells;
            time = step.time;
            cause = record { later = step.cause.later; rose = λ _. step.cause.rose refl; steady = λ fine. absurd (fine tt) };
          }
