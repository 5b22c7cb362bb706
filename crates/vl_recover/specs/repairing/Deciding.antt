-- What an opening decides by what it found: the new state, the new log, what becomes of the last log, and whether a
-- number is used up.
use Rattle.std.specs.Prelude.{◌≡◌, ℕ, ◌+◌, max, ◌==◌, if◌then◌else◌, List, [], ◌∷◌, map, Option, None, Some, Result, Ok, Err}
use Rattle.std.specs.Option.{option_map}
use Rattle.vl_disk.specs.Crash.{Image}
use Rattle.vl_model.specs.Limits.{max_file_number}
use Rattle.vl_model.specs.declared.counter.Counter.{Counter}
use Rattle.vl_model.specs.declared.counter.Counter.TheVariants as counters
use Rattle.vl_manifest.specs.Manifest.{manifest_bytes}
use Rattle.vl_manifest.specs.States.{opened_state, whole_edits}
use Rattle.vl_manifest.specs.declared.state.ManifestState.{ManifestState}
use Rattle.vl_recover.specs.opening.Answers.{AnswersBy, Finds, Opened, held_log, used_up}
use Rattle.vl_recover.specs.repairing.Repairing.{Cut, Headed, IsPlan, Kept, NoLast, Plan, Rewritten}
use Rattle.vl_recover.specs.repairing.Repairing as repairing
use Rattle.vl_recover.specs.repairing.Holding.{hold_for}
use Rattle.vl_recover.specs.repairing.NextLogs.{made_of, number_of}
use Rattle.vl_recover.specs.repairing.PlanViews.{plan_view}
use Rattle.vl_recover.specs.opening.Finding.{last_log, last_of}
use Rattle.vl_recover.specs.opening.FoundTables.{all_found}
use Rattle.vl_recover.specs.opening.Opening.{FoundTable}
use Rattle.vl_recover.specs.opening.Plans.{active_log, new_state, passes}
use Rattle.vl_recover.specs.opening.Results.{recovery_by, frozen_log}
use Rattle.vl_recover.specs.declared.fails.OpenError.{OpenError}
use Rattle.vl_recover.specs.declared.fails.OpenError.TheVariants as why
use Rattle.vl_recover.specs.declared.found.Findings.{Findings}
use Rattle.vl_recover.specs.declared.found.HeldFiles.{HeldFiles}
use Rattle.vl_recover.specs.declared.found.LastLog.{LastLog}
use Rattle.vl_recover.specs.declared.plan.NextLog.{NextLog}
use Rattle.vl_recover.specs.declared.plan.NextLog.TheVariants as next
use Rattle.vl_recover.specs.declared.prepared.Prepared.{Prepared}

-- the log that takes commits then, by the new state and the last log
abbrev pub next_of : ManifestState → Option LastLog → NextLog
next_of state None = next.Made (max state.head state.next_log)
next_of state (Some last) = if last.has_frames then next.Made state.next_log else next.Last last.number

-- what becomes of the last log
abbrev pub step_for : Option LastLog → repairing.LastLog
step_for None = NoLast
step_for (Some last) =
    if last.header
    then (if last.length == last.end then Kept last.number else Cut last.number last.end)
    else (if last.length == 0 then Headed last.number else Rewritten last.number)

-- which number is used up, by the log that would be made and the greatest manifest's number
abbrev pub used_up_of : Option ℕ → ℕ → Option Counter
used_up_of log manifest =
    if passes log then Some counters.Log
    else (if manifest == max_file_number then Some counters.Manifest else None)

-- ---- the same by all that was found

abbrev pub state_for : Findings → ManifestState
state_for found = opened_state found.greatest.log found.greatest.table found.state

abbrev pub log_for : Findings → Option ℕ
log_for found = made_of (next_of (state_for found) found.last)

abbrev pub used_up_for : Findings → Option Counter
used_up_for found = used_up_of (log_for found) found.greatest.manifest

abbrev pub plan_for : Findings → Plan
plan_for found = record {
  manifest = found.greatest.manifest + 1;
  piece = manifest_bytes (found.greatest.manifest + 1) (whole_edits (state_for found) ∷ []);
  last = step_for found.last;
  log = log_for found;
  strays = found.strays.items;
}

-- it was decided so by what was found
pub record IsDecided (found : Findings) (prepared : Prepared) : Type 0 where
  pub unused : used_up_for found ≡ None
  pub number : prepared.number ≡ found.number
  pub state : prepared.state ≡ state_for found
  pub frozen : prepared.frozen.items ≡ found.frozen.items
  pub waiting : prepared.waiting.items ≡ found.waiting.items
  pub plan : plan_view prepared.plan ≡ plan_for found
  pub edits : prepared.plan.edits.items ≡ whole_edits prepared.state
  pub hold : prepared.plan.hold ≡ hold_for found.last
  pub active : prepared.active ≡ number_of (next_of (state_for found) found.last)

-- it was decided, or a number is used up, or memory ran out
abbrev pub DecidesSo : Findings → Result Prepared OpenError → Type 0
DecidesSo found (Ok prepared) = IsDecided found prepared
DecidesSo found (Err (why.Exhausted counter)) = used_up_for found ≡ Some counter
DecidesSo found (Err why.NoMemory) = Unit {0}
DecidesSo found (Err why.NotAStore) = ⊥
DecidesSo found (Err (why.NewerFormat format)) = ⊥
DecidesSo found (Err (why.Damaged name place)) = ⊥
DecidesSo found (Err (why.Disk name)) = ⊥

-- ---- and by what reads give

-- all is ready for the repairing of what an image has
pub record IsPrepared (image : Image) (prepared : Prepared) : Type 0 where
  pub finds : Finds image
  pub unused : used_up finds ≡ None
  pub number : prepared.number ≡ finds.opening.number
  pub state : prepared.state ≡ new_state finds.greatest finds.opening.state
  pub frozen : map frozen_log prepared.frozen.items ≡ map held_log finds.opening.logs
  pub plan : IsPlan finds (plan_view prepared.plan)
  pub hold : prepared.plan.hold ≡ hold_for (option_map last_log (last_of finds.logs))
  pub active : prepared.active ≡ active_log finds.greatest finds.opening.state finds.logs

-- the store that is opened then, with these tables
abbrev pub opened_by : Prepared → List (List FoundTable) → Opened
opened_by prepared levels = record {
  number = prepared.number;
  state = prepared.state;
  manifest = prepared.plan.manifest;
  levels = levels;
  frozen = map frozen_log prepared.frozen.items;
  active = prepared.active;
}

-- It is ready, with the tables opened, or that is the answer.
abbrev pub PreparesSo : {H : Type 0} → Image → Result (Prepared × HeldFiles H) OpenError → Type 0
PreparesSo image (Ok ready) = (is : IsPrepared image ready.0) × (all_found ready.1.levels ≡ is.finds.opening.levels)
PreparesSo image (Err why) = AnswersBy image (recovery_by why)
