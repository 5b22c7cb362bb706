-- What was decided by what was found is what is to be done by what reads give.
use Rattle.std.proofs.Common.{◌≡◌, ℕ, ◌+◌, List, [], ◌∷◌, map, refl, sym, ap, subst, ◌∙◌}
use Rattle.std.proofs.lemmas.Bool.{true≢false}
use Rattle.std.specs.Prelude.{Bool, true, false, ◌==◌, if◌then◌else◌, Option, None, Some, Result, Ok, Err, IfErr, IsErr, IsErrAnd}
use Rattle.std.specs.Option.{option_map}
use Rattle.vl_disk.specs.Crash.{Image}
use Rattle.vl_disk.specs.declared.name.Name.{Name}
use Rattle.vl_disk.specs.DiskState.{DiskState}
use Rattle.vl_manifest.specs.Manifest.{manifest_bytes}
use Rattle.vl_manifest.specs.States.{opened_state, whole_edits}
use Rattle.vl_manifest.specs.declared.state.ManifestState.{ManifestState}
use Rattle.vl_model.specs.declared.log_frame.LogFrame.{LogFrame}
use Rattle.vl_recover.specs.opening.Answers.{AnswersBy, AreStrayNames, used_up}
use Rattle.vl_recover.specs.repairing.Deciding.{DecidesSo, IsDecided, IsPrepared, PreparesSo, log_for, next_of}
use Rattle.vl_recover.specs.repairing.Deciding.{plan_for, state_for, step_for, used_up_for, used_up_of}
use Rattle.vl_recover.specs.opening.Finding.{IsFaultAt, IsFound, last_log, last_of}
use Rattle.vl_recover.specs.repairing.Holding.{hold_for}
use Rattle.vl_recover.specs.repairing.Repairing.{Cut, Headed, IsPlan, Kept, Plan, Rewritten, plan_of}
use Rattle.vl_recover.specs.repairing.Repairing as repairing
use Rattle.vl_recover.specs.opening.Opening.{FoundTable, IsNextLog, StandingLogs}
use Rattle.vl_recover.specs.opening.Plans.{Greatest, active_of, log_behind, log_made, new_state}
use Rattle.vl_recover.specs.repairing.NextLogs.{made_of, number_of}
use Rattle.vl_recover.specs.opening.Results.{HasFailed, recovery_by, frozen_log}
use Rattle.vl_recover.specs.opening.Walk.{StandingLog, content_end, keeps_header}
use Rattle.vl_seglog.specs.LogReading.{end_of, is_whole}
use Rattle.vl_seglog.specs.Frames.{frames_end}
use Rattle.vl_recover.specs.declared.fails.OpenError.{OpenError}
use Rattle.vl_recover.specs.declared.fails.OpenError.TheVariants as why
use Rattle.vl_recover.specs.declared.found.Findings.{Findings}
use Rattle.vl_recover.specs.declared.found.HeldFiles.{HeldFiles}
use Rattle.vl_recover.specs.declared.found.LastLog.{LastLog}
use Rattle.vl_memtable.specs.declared.frozen_log.FrozenLog.{FrozenLog}
use Rattle.vl_recover.specs.declared.prepared.Prepared.{Prepared}

false_true : false ≡ true → ⊥
false_true e = cc

-- what is decided by the last log is decided by all
abbrev ending : List StandingLog → Option LastLog
ending logs = option_map last_log (last_of logs)

log_is : (s : ManifestState) (logs : List StandingLog) → made_of (next_of s (ending logs)) ≡ log_made s logs
log_is s [] = refl
log_is s (q ∷ []) = by q.reading.frames refl
  where
    by : (frames : List LogFrame) → q.reading.frames ≡ frames → made_of (next_of s (ending (q ∷ []))) ≡ log_behind s q.reading.frames
    by [] is = rw is refl
    by (f ∷ fs) is = rw is refl
log_is s (q ∷ p ∷ ps) = log_is s (p ∷ ps)

active_is : (s : ManifestState) (logs : List StandingLog) → number_of (next_of s (ending logs)) ≡ active_of (log_made s logs) logs
active_is s [] = refl
active_is s (q ∷ []) = by q.reading.frames refl
  where
    by : (frames : List LogFrame) → q.reading.frames ≡ frames → number_of (next_of s (ending (q ∷ []))) ≡ active_of
        (log_behind s q.reading.frames) (q ∷ [])
    by [] is = rw is refl
    by (f ∷ fs) is = rw is refl
active_is s (q ∷ p ∷ ps) = active_is s (p ∷ ps) ∙ same (log_made s (p ∷ ps))
  where
    same : (log : Option ℕ) → active_of log (p ∷ ps) ≡ active_of log (q ∷ p ∷ ps)
    same None = refl
    same (Some number) = refl

-- a log with its header is whole where it ends with its content
whole_is : (image : Image) (least : ℕ) (q : StandingLog) → IsNextLog image least q
    → (format : ℕ) → q.reading.header ≡ Some format → q.reading.whole ≡ (q.length == content_end q.reading)
whole_is image least q next format header =
    next.reads.whole ∙ ap (λ (h : Option ℕ). is_whole h next.bytes q.reading.frames) header
    ∙ ap (λ (n : ℕ). n == frames_end format q.reading.frames) (sym next.length_is)
    ∙ ap (λ (h : Option ℕ). q.length == end_of h q.reading.frames) (sym header)

step_is : (image : Image) (least : ℕ) (logs : List StandingLog) → StandingLogs image least logs
    → step_for (ending logs) ≡ repairing.last_of logs
step_is image least [] standing = refl
step_is image least (q ∷ []) (next, rest) = by (keeps_header q.reading.header q.reading.frames) q.reading.header refl refl
  where
    by : (keeps : Bool) (header : Option ℕ) → keeps_header q.reading.header q.reading.frames ≡ keeps → q.reading.header ≡ header
        → (if keeps then (if q.length == content_end q.reading then Kept q.number else Cut q.number (content_end q.reading)) else
        (if q.length == 0 then Headed q.number else Rewritten q.number))
        ≡ (if keeps then (if q.reading.whole then Kept q.number else Cut q.number (content_end q.reading)) else
        (if q.length == 0 then Headed q.number else Rewritten q.number))
    by true (Some format) keeps is =
        ap (λ (whole : Bool). if whole then Kept q.number else Cut q.number (content_end q.reading))
        (sym (whole_is image least q next format is))
    by true None keeps is =
        absurd (true≢false (sym keeps ∙ ap (λ (h : Option ℕ). keeps_header h q.reading.frames) is))
    by false header keeps is = refl
step_is image least (q ∷ p ∷ ps) (next, rest) = step_is image (q.number + 1) (p ∷ ps) rest

module _ (image : Image) (found : Findings) (is : IsFound image found) where
  abbrev new : ManifestState
  new = new_state is.finds.greatest is.finds.opening.state

  state_same : state_for found ≡ new
  state_same =
      ap (λ (s : ManifestState). opened_state found.greatest.log found.greatest.table s) is.state
      ∙ ap (λ (g : Greatest). opened_state g.log g.table is.finds.opening.state) is.greatest

  log_same : log_for found ≡ log_made new is.finds.logs
  log_same =
      ap (λ (s : ManifestState). made_of (next_of s found.last)) state_same
      ∙ ap (λ (o : Option LastLog). made_of (next_of new o)) is.last
      ∙ log_is new is.finds.logs

  used_up_same : used_up_for found ≡ used_up is.finds
  used_up_same =
      ap (λ (l : Option ℕ). used_up_of l found.greatest.manifest) log_same
      ∙ ap (λ (g : Greatest). used_up_of (log_made new is.finds.logs) g.manifest) is.greatest

  plan_same : plan_for found ≡ plan_of is.finds found.strays.items
  plan_same =
      ap (λ (g : Greatest). of g.manifest (state_for found) (step_for found.last) (log_for found)) is.greatest
      ∙ ap (λ (s : ManifestState). of is.finds.greatest.manifest s (step_for found.last) (log_for found)) state_same
      ∙ ap (λ (l : repairing.LastLog). of is.finds.greatest.manifest new l (log_for found)) (ap step_for is.last
      ∙ step_is image is.finds.opening.state.head is.finds.logs is.finds.standing)
      ∙ ap (of is.finds.greatest.manifest new (repairing.last_of is.finds.logs)) log_same
    where
      of : ℕ → ManifestState → repairing.LastLog → Option ℕ → Plan
      of greatest state last log = record {
        manifest = greatest + 1;
        piece = manifest_bytes (greatest + 1) (whole_edits state ∷ []);
        last = last;
        log = log;
        strays = found.strays.items;
      }

  -- all is ready
  pub decided_prepared : (prepared : Prepared) → IsDecided found prepared → IsPrepared image prepared
  decided_prepared prepared decided = record {
    finds = is.finds;
    unused = sym used_up_same ∙ decided.unused;
    number = decided.number ∙ is.number;
    state = decided.state ∙ state_same;
    frozen = ap (λ (items : List FrozenLog). map frozen_log items) decided.frozen ∙ is.frozen;
    hold = decided.hold ∙ ap hold_for is.last;
    plan = record {
      strays = subst (AreStrayNames image is.finds.opening) (sym (ap (λ (p : Plan). p.strays) decided.plan)) is.strays;
      is = decided.plan ∙ plan_same ∙ ap (λ (names : List Name). plan_of is.finds names) (sym (ap (λ (p : Plan). p.strays) decided.plan));
    };
    active = decided.active ∙ ap (λ (s : ManifestState). number_of (next_of s found.last)) state_same
        ∙ ap (λ (o : Option LastLog). number_of (next_of new o)) is.last ∙ active_is new is.finds.logs;
  }

  -- with these tables
  pub decided_ready : (prepared : Prepared) → IsDecided found prepared → (levels : List (List FoundTable))
      → levels ≡ is.finds.opening.levels
      → (ready : IsPrepared image prepared) × (levels ≡ ready.finds.opening.levels)
  unfolding decided_prepared
  decided_ready prepared decided levels same = (decided_prepared prepared decided, same)

  -- or that is the answer
  pub decided_answer : (reason : OpenError) → DecidesSo found (Err reason) → AnswersBy image (recovery_by reason)
  decided_answer (why.Exhausted counter) used = (is.finds, sym used_up_same ∙ used)
  decided_answer why.NoMemory used = tt
  decided_answer why.NotAStore used = absurd used
  decided_answer (why.NewerFormat format) used = absurd used
  decided_answer (why.Damaged name place) used = absurd used
  decided_answer (why.Disk name) used = absurd used

-- the disk didn't fail
pub decided_fine : (found : Findings) (reason : OpenError) → DecidesSo found (Err reason) → HasFailed (recovery_by reason) → ⊥
decided_fine found (why.Exhausted counter) used failed = failed
decided_fine found why.NoMemory used failed = failed
decided_fine found why.NotAStore used failed = failed
decided_fine found (why.NewerFormat format) used failed = failed
decided_fine found (why.Damaged name place) used failed = failed
decided_fine found (why.Disk name) used failed = used

pub answer_by : {H : Type 0} (image : Image) (result : Result (Prepared × HeldFiles H) OpenError) (reason : OpenError) → IsErr result
    → IsErrAnd result (λ e. e ≡ reason)
    → AnswersBy image (recovery_by reason) → PreparesSo image result
answer_by image (Ok ready) reason failed is answer = absurd (false_true failed)
answer_by image (Err e) reason failed is answer = subst (λ (w : OpenError). AnswersBy image (recovery_by w)) (sym is) answer

-- the disk didn't fail
pub decided_at : {A : Type 0} (found : Findings) (told : Option DiskState) (result : Result A OpenError) (reason : OpenError)
    → IsErr result → IsErrAnd result (λ e. e ≡ reason)
    → DecidesSo found (Err reason) → IfErr result (IsFaultAt told)
decided_at found told (Ok a) reason failed is used = absurd (false_true failed)
decided_at found told (Err e) reason failed is used = subst (IsFaultAt told) (sym is) (by reason used)
  where
    by : (w : OpenError) → DecidesSo found (Err w) → IsFaultAt told w
    by (why.Exhausted counter) used = tt
    by why.NoMemory used = tt
    by why.NotAStore used = tt
    by (why.NewerFormat format) used = tt
    by (why.Damaged name place) used = tt
    by (why.Disk name) used = absurd used
