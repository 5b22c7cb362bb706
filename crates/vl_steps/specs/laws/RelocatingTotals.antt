-- What is so of a relocation whatever the engine stands for, at each of its exits; and of one that failed.
use Rattle.std.specs.Prelude.{◌≡◌, ◌≤◌, ℕ, zero, suc, ◌+◌, List, [], ◌∷◌, map, length, Option, Some, Result, Ok, Err, OnOk}
use Rattle.std.specs.Prelude.{IsTrue, refl}
use Rattle.std.specs.Option.{option_map}
use Rattle.std.proofs.Common.{sym, ap, subst, ◌∙◌, arith, ⊎_elim}
use Rattle.vl_engine_laws.specs.Carries.{HasSameFiles, SameFiles, StaysUntold}
use Rattle.vl_engine_laws.specs.MoveFacts.{HandsMove, move_frame, move_log}
use Rattle.vl_engine_laws.specs.Writing.{StopsWriting, WhileWriting, at_append, at_sync, written}
use Rattle.vl_engine_laws.specs.declared.kept.Core.{Core}
use Rattle.vl_engine_laws.specs.laws.Carrying.{IsWatched}
use Rattle.vl_disk.specs.Calls.{ChangesNothing}
use Rattle.vl_disk.specs.Crash.{WhileAppending, WhileSyncing}
use Rattle.vl_disk.specs.DiskState.{DiskState, appended, lengthened, synced}
use Rattle.vl_disk.specs.Faults.{after_calls}
use Rattle.vl_disk.specs.Moments.{While}
use Rattle.vl_disk.specs.declared.name.Name.TheVariants as names
use Rattle.vl_disk.specs.declared.name.Name.{Name}
use Rattle.vl_disk.specs.declared.watched.Watched.{Ghosts}
use Rattle.vl_steps.specs.laws.Filing.{files_changed, files_written}
use Rattle.vl_steps.specs.laws.RelocatingExits.{moves}
use Rattle.vl_steps.specs.laws.Ruled.{looked_none}
use Rattle.vl_steps.specs.laws.Untold.{untold_by}
use Rattle.vl_steps.specs.Relocating.{At, IsMovable, IsOfPass, LeavesAll, MoveLeavesDisk, MoveNotes, NotesMoves}
use Rattle.vl_steps.specs.Relocating.{RelocatesAs, batch_back, move_effects, moved_version}
use Rattle.vl_steps.specs.declared.fails.MoveFail.TheVariants as fails
use Rattle.vl_steps.specs.declared.fails.MoveFail.{MoveFail}
use Rattle.vl_engine_model.specs.Relocation as layout
use Rattle.vl_engine_model.specs.Relocation.{Candidate, moved_of}
use Rattle.vl_engine_model.specs.Rulings.Relocate.{moves_at}
use Rattle.vl_engine_model.specs.Sources.{sources}
use Rattle.vl_engine_model.specs.declared.layout.Layout.{Layout}
use Rattle.vl_model.specs.Formats.{log_format}
use Rattle.vl_model.specs.History.{History, last_number}
use Rattle.vl_model.specs.declared.log_frame.LogFrame.TheVariants.{Relocated}
use Rattle.vl_model.specs.declared.log_frame.Moved.{Moved}
use Rattle.vl_seglog.specs.Frames.{frame_at}
use Rattle.vl_seglog.specs.declared.sealed.SealedLog.{SealedLog}

-- ---- which files stand

files_themselves : (disk : DiskState) → HasSameFiles disk disk
files_themselves disk name = ((λ none. none, λ none. none), (λ none. none, λ none. none))

files_writing : (name : Name) (frame : List ℕ) (disk now : DiskState) → WhileWriting name frame disk now → HasSameFiles disk now
files_writing name frame disk now during = ⊎_elim
    (λ (appending : WhileAppending name frame disk now). ⊎_elim
    (λ (none : now ≡ disk). subst (HasSameFiles disk) (sym none) (files_themselves disk))
    (λ (some : (taken : ℕ) × (taken ≤ length frame) × (now ≡ appended name frame taken disk)).
    subst (HasSameFiles disk) (sym some.2) (files_changed name (lengthened frame some.0) disk))
    appending)
    (λ (syncing : WhileSyncing name (appended name frame (length frame) disk) now). ⊎_elim
    (λ (none : now ≡ appended name frame (length frame) disk).
    subst (HasSameFiles disk) (sym none) (files_changed name (lengthened frame (length frame)) disk))
    (λ (all : now ≡ synced name (appended name frame (length frame) disk)).
    subst (HasSameFiles disk) (sym all) (files_written name frame disk))
    syncing)
    during

same_state : (a b : DiskState) → Some a ≡ Some b → a ≡ b
same_state a b e = cc

-- ---- keys

keys_noted : (number : ℕ) (moved : List Moved)
    → moves_at number moved ≡ map (λ (key : List ℕ). (key, number)) (map (λ (m : Moved). m.key) moved)
keys_noted number [] = refl
keys_noted number (m ∷ ms) = ap (λ (ns : List (List ℕ × ℕ)). (m.key, number) ∷ ns) (keys_noted number ms)

as_many_keys : (moved : List Moved) → length (map (λ (m : Moved). m.key) moved) ≡ length moved
as_many_keys [] = refl
as_many_keys (m ∷ ms) = ap suc (as_many_keys ms)

module _ {D H R : Type 0} (g : Ghosts D) (bytes : H → Option (List ℕ)) (faults_of : R → ℕ) (old new : At D H R) (segment : ℕ)
    (batch : List Candidate) where
  abbrev Did : Result ℕ MoveFail → Type 0
  Did result = RelocatesAs g bytes faults_of old new segment batch result

  -- ---- the disk

  nothing : LeavesAll old new → ChangesNothing g old.disk new.disk ⊥
  nothing leaves = subst (λ (d : D). ChangesNothing g old.disk d ⊥) (sym leaves.disk) (looked_none g old.disk)

  -- Where nothing was moved and writing didn't fail, it was left alone.
  pub untouched_by : (result : Result ℕ MoveFail) → Did result → MoveLeavesDisk result → ChangesNothing g old.disk new.disk ⊥
  untouched_by (Ok zero) did leaves = nothing did.1
  untouched_by (Ok (suc n)) did leaves = absurd leaves
  untouched_by (Err (fails.Halted name)) did leaves = nothing did.2
  untouched_by (Err (fails.Exhausted back counter)) did leaves = nothing did.2
  untouched_by (Err (fails.Full back long frame)) did leaves = nothing did.2
  untouched_by (Err (fails.NoMemory back)) did leaves = did.1.disk
  untouched_by (Err (fails.Read name)) did leaves =
      subst (λ (d : D). ChangesNothing g old.disk d ⊥) (sym did.disk) (looked_none g old.disk)
  untouched_by (Err (fails.Disk name)) did leaves = absurd leaves
  untouched_by (Err (fails.Damaged back name place)) did leaves = nothing did.2

  -- Else two calls changed it.
  pub calls_by : (result : Result ℕ MoveFail) → Did result
      → OnOk result (g.calls new.disk ≡ after_calls (move_effects result).calls (g.calls old.disk))
  calls_by (Ok zero) did = ap (λ (d : D). g.calls d) did.1.disk
  calls_by (Ok (suc n)) did = did.moves.calls ∙ ap (after_calls 2) did.moves.hands.before.calls
  calls_by (Err why) did = tt

  -- What told nothing tells nothing then.
  pub untold_then : (result : Result ℕ MoveFail) → Did result → OnOk result (StaysUntold (g.told old.disk) (g.told new.disk))
  untold_then (Ok zero) did = λ none. ap (λ (d : D). g.told d) did.1.disk ∙ none
  untold_then (Ok (suc n)) did = untold_by (written (move_log old.core.front) (move_frame old.core.front did.moved))
      (g.told old.disk) (g.told did.moves.hands.mid) (g.told new.disk) did.moves.hands.before.told did.moves.changed
  untold_then (Err why) did = tt

  -- The same files stand,
  files_same : g.told new.disk ≡ g.told old.disk → SameFiles (g.told old.disk) (g.told new.disk)
  files_same told a b is_a is_b =
      subst (HasSameFiles a) (same_state a b (sym is_a ∙ sym told ∙ is_b)) (files_themselves a)

  files_left : LeavesAll old new → SameFiles (g.told old.disk) (g.told new.disk)
  files_left leaves = files_same (ap (λ (d : D). g.told d) leaves.disk)

  files_handed : IsWatched g → (moved : List Moved) → HandsMove g old.core.front moved old.disk new.disk
      → SameFiles (g.told old.disk) (g.told new.disk)
  files_handed watched moved hands a b is_a is_b =
      let told_mid : g.told hands.mid ≡ Some a = hands.before.told ∙ is_a in
      ⊎_elim
      (λ (was : g.states_since hands.mid (g.moment hands.mid) b).
      subst (HasSameFiles a) (sym (watched.only_now hands.mid a b told_mid was)) (files_themselves a))
      (λ (during : While (g.told hands.mid) (WhileWriting (move_log old.core.front) (move_frame old.core.front moved)) b).
      files_writing (move_log old.core.front) (move_frame old.core.front moved) a b (during a told_mid))
      (hands.time.nothing_else (g.moment hands.mid) b (omega arith)
      (watched.counts_now new.disk b (g.moment hands.mid) is_b hands.time.later))

  -- whatever it answers.
  pub files_by : IsWatched g → (result : Result ℕ MoveFail) → Did result → SameFiles (g.told old.disk) (g.told new.disk)
  files_by watched (Ok zero) did = files_left did.1
  files_by watched (Ok (suc n)) did = files_handed watched did.moved did.moves.hands
  files_by watched (Err (fails.Halted name)) did = files_left did.2
  files_by watched (Err (fails.Exhausted back counter)) did = files_left did.2
  files_by watched (Err (fails.Full back long frame)) did = files_left did.2
  files_by watched (Err (fails.NoMemory back)) did = files_same did.1.disk.told
  files_by watched (Err (fails.Read name)) did = files_same (ap (λ (d : D). g.told d) did.disk)
  files_by watched (Err (fails.Disk name)) did = files_handed watched did.moved did.failed.hands
  files_by watched (Err (fails.Damaged back name place)) did = files_left did.2

  -- ---- memory

  -- A batch that is handed back is the one that was given.
  pub back_by : (result : Result ℕ MoveFail) → Did result → (back : List Candidate) → batch_back result ≡ Some back → back ≡ batch
  back_by (Ok count) did back is = absurd cc
  back_by (Err (fails.Halted name)) did back is = absurd cc
  back_by (Err (fails.Exhausted given counter)) did back is = let same : given ≡ back = cc in sym same ∙ did.0
  back_by (Err (fails.Full given long frame)) did back is = let same : given ≡ back = cc in sym same ∙ did.0
  back_by (Err (fails.NoMemory given)) did back is = let same : given ≡ back = cc in sym same ∙ did.0
  back_by (Err (fails.Read name)) did back is = absurd cc
  back_by (Err (fails.Disk name)) did back is = absurd cc
  back_by (Err (fails.Damaged given name place)) did back is = let same : given ≡ back = cc in sym same ∙ did.0

  -- What steps need stays but for the epoch.
  pub steps_by : (result : Result ℕ MoveFail) → Did result
      → new.core.back ≡ record old.core.back { epoch = moved_version result old.core.back.epoch }
  steps_by (Ok zero) did = ap (λ (c : Core H). c.back) did.1.core
  steps_by (Ok (suc n)) did = did.moves.back
  steps_by (Err (fails.Halted name)) did = ap (λ (c : Core H). c.back) did.2.core
  steps_by (Err (fails.Exhausted back counter)) did = ap (λ (c : Core H). c.back) did.2.core
  steps_by (Err (fails.Full back long frame)) did = ap (λ (c : Core H). c.back) did.2.core
  steps_by (Err (fails.NoMemory back)) did = ap (λ (c : Core H). c.back) did.1.core
  steps_by (Err (fails.Read name)) did = ap (λ (c : Core H). c.back) did.core
  steps_by (Err (fails.Disk name)) did = ap (λ (c : Core H). c.back) did.failed.core
  steps_by (Err (fails.Damaged back name place)) did = ap (λ (c : Core H). c.back) did.2.core

  -- What lies behind the active memtable stays.
  pub logs_by : (result : Result ℕ MoveFail) → Did result → new.core.version.behind ≡ old.core.version.behind
  logs_by (Ok zero) did = ap (λ (c : Core H). c.version.behind) did.1.core
  logs_by (Ok (suc n)) did = did.moves.behind
  logs_by (Err (fails.Halted name)) did = ap (λ (c : Core H). c.version.behind) did.2.core
  logs_by (Err (fails.Exhausted back counter)) did = ap (λ (c : Core H). c.version.behind) did.2.core
  logs_by (Err (fails.Full back long frame)) did = ap (λ (c : Core H). c.version.behind) did.2.core
  logs_by (Err (fails.NoMemory back)) did = ap (λ (c : Core H). c.version.behind) did.1.core
  logs_by (Err (fails.Read name)) did = ap (λ (c : Core H). c.version.behind) did.core
  logs_by (Err (fails.Disk name)) did = ap (λ (c : Core H). c.version.behind) did.failed.core
  logs_by (Err (fails.Damaged back name place)) did = ap (λ (c : Core H). c.version.behind) did.2.core

  -- What was moved is noted for the open merge.
  pub merging_by : (result : Result ℕ MoveFail) → Did result
      → MoveNotes old.core.back.epoch old.merging new.merging result
  merging_by (Ok zero) did = did.1.merging
  merging_by (Ok (suc n)) did =
      let number = old.core.back.epoch + 1 in
      record {
        keys = map (λ (m : Moved). m.key) did.moved;
        count_is = as_many_keys did.moved ∙ sym did.count_is;
        noted = subst (NotesMoves old.merging new.merging) (keys_noted number did.moved) did.notes;
      }
  merging_by (Err (fails.Halted name)) did = did.2.merging
  merging_by (Err (fails.Exhausted back counter)) did = did.2.merging
  merging_by (Err (fails.Full back long frame)) did = did.2.merging
  merging_by (Err (fails.NoMemory back)) did = did.1.merging
  merging_by (Err (fails.Read name)) did = did.merging
  merging_by (Err (fails.Disk name)) did = did.merging
  merging_by (Err (fails.Damaged back name place)) did = did.2.merging

-- ---- where writing failed

-- a disk that was only looked at before was stopped as it was then
stops_earlier : {D : Type 0} (g : Ghosts D) (old mid new : D) (name : Name) (frame : List ℕ) → ChangesNothing g old mid ⊥
    → StopsWriting g name frame mid new → StopsWriting g name frame old new
stops_earlier g old mid new name frame before (at_append changed calls) = at_append
    (changed ∙ ap (option_map (appended name frame 0)) before.told) (calls ∙ ap (after_calls 1) before.calls)
stops_earlier g old mid new name frame before (at_sync changed calls passed) = at_sync
    (changed ∙ ap (option_map (appended name frame (length frame))) before.told) (calls ∙ ap (after_calls 2) before.calls)
    (record {
      mid = passed.mid;
      counted = passed.counted ∙ ap (after_calls 1) before.calls;
      steady = passed.steady ∙ before.cause.steady (λ failed. failed);
      as_planned = λ stop fails. passed.as_planned stop (before.time.as_planned stop fails);
    })

module _ {D H R : Type 0} (g : Ghosts D) (bytes : H → Option (List ℕ)) (faults_of : R → ℕ) (old new : At D H R) (log : SealedLog H)
    (batch : List Candidate) (h : History) (l : Layout) (p : layout.Pass)
    (of : IsOfPass bytes old.core log batch old.looks h l p) (name : Name)
    (did : RelocatesAs g bytes faults_of old new log.number batch (Err (fails.Disk name))) where
  -- The relocation is one that the ruling accepts,
  pub failed_by : IsMovable h l p batch
  failed_by =
      let may = moves g bytes faults_of old new log batch h l p of did.moved did.hands in
      record {
        moved = did.moved;
        moved_is = sym may.are;
        accepted = sym may.ruling;
        fits = did.failed.hands.has;
      }

  -- and a disk that fails cleanly was stopped while its frame was written.
  pub stopped_by : IsTrue g.fails_cleanly
      → StopsWriting g (names.Log l.active.number) (frame_at log_format l.active.number l.active.length
      (Relocated (moved_of (sources l) p.segment (last_number h) batch))) old.disk new.disk
  stopped_by clean =
      subst (λ (ms : List Moved). StopsWriting g (names.Log l.active.number)
      (frame_at log_format l.active.number l.active.length (Relocated ms)) old.disk new.disk)
      (sym (moves g bytes faults_of old new log batch h l p of did.moved did.hands).are)
      (subst (λ (n : ℕ). StopsWriting g (names.Log l.active.number)
      (frame_at log_format l.active.number n (Relocated did.moved)) old.disk new.disk) of.stands.fronts.length_is
      (subst (λ (n : ℕ). StopsWriting g (names.Log n)
      (frame_at log_format n old.core.front.log.length (Relocated did.moved)) old.disk new.disk) of.stands.fronts.number
      (stops_earlier g old.disk did.failed.hands.mid new.disk (move_log old.core.front) (move_frame old.core.front did.moved)
      did.failed.hands.before (did.failed.stopped clean))))
