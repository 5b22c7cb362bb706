-- What a commit answers where it was decided that it is written, whatever writing it came to; and where it wasn't.
use Rattle.std.specs.Prelude.{◌≡◌, ◌≤◌, ℕ, List, Option, None, Result, Ok, Err, IsTrue, refl}
use Rattle.std.specs.FinMap.{entries}
use Rattle.std.proofs.Common.{sym, ap, subst, ◌∙◌, arith}
use Rattle.vl_disk.specs.Calls.{ChangesNothing}
use Rattle.vl_disk.specs.Crash.{Unchanged}
use Rattle.vl_disk.specs.Moments.{While, passes_none, past_of}
use Rattle.vl_disk.specs.declared.name.Name.TheVariants as names
use Rattle.vl_disk.specs.declared.name.Name.{Name}
use Rattle.vl_disk.specs.declared.watched.Watched.{Ghosts}
use Rattle.vl_engine_laws.specs.laws.Carrying.{IsWatched}
use Rattle.vl_steps.specs.laws.Committing.{accepted, carries_failed_so, carries_refused, carries_unwritten}
use Rattle.vl_steps.specs.laws.Committing.{carries_written, fronts_failed, fronts_unwritten, fronts_written, next_is}
use Rattle.vl_steps.specs.laws.Committing.{stands_failed, stands_unwritten, stands_written}
use Rattle.vl_steps.specs.laws.Filing.{same_files, same_files_handed, stops_failed}
use Rattle.vl_engine_laws.specs.laws.Standing.{decides_as}
use Rattle.vl_steps.specs.Answers.{CommitFailed, IsWritable, commit_effects, commit_outcome}
use Rattle.vl_engine_laws.specs.Carries.{Carries, SameFiles}
use Rattle.vl_engine_laws.specs.Represents.{Fronts, IsLive, Represents, StandsFor, file_of}
use Rattle.vl_steps.specs.Steps.{IsUnwritten, WritesAs, log_of}
use Rattle.vl_engine_laws.specs.Writing.{StopsWriting}
use Rattle.vl_steps.specs.declared.done.Done.TheVariants as done
use Rattle.vl_steps.specs.declared.done.Done.{Done}
use Rattle.vl_steps.specs.declared.fails.CommitFail.TheVariants as fails
use Rattle.vl_steps.specs.declared.fails.CommitFail.{CommitFail}
use Rattle.vl_engine_laws.specs.declared.kept.Core.{Core}
use Rattle.vl_engine_laws.specs.laws.LiveLaws.{floor_below}
use Rattle.vl_engine_laws.specs.laws.RulingLaws.{ruled, ruled_so}
use Rattle.vl_conflict.specs.Recent.{Remembers}
use Rattle.vl_frame.specs.Runs.{HasFrame}
use Rattle.vl_front.specs.Decisions.{decision_of}
use Rattle.vl_front.specs.declared.decision.Decision.{Decision}
use Rattle.vl_engine_model.specs.Decides.{Answered, Decides, Failed, Otherwise, as_before, no_effects}
use Rattle.vl_engine_model.specs.Ruling.{Ruling, leaving}
use Rattle.vl_engine_model.specs.Rulings.Commit.{CommitAnswer, Transaction, commit_frame, commit_lost, commit_ruling, committed}
use Rattle.vl_engine_model.specs.Sources.{floor}
use Rattle.vl_engine_model.specs.declared.layout.Layout.{Layout}
use Rattle.vl_model.specs.Conflicts.{first_conflict}
use Rattle.vl_model.specs.Formats.{log_format}
use Rattle.vl_model.specs.History.{History}
use Rattle.vl_model.specs.Keys.{Writes}
use Rattle.vl_model.specs.Reads.{Read}
use Rattle.vl_model.specs.declared.log_frame.LogFrame.{LogFrame}
use Rattle.vl_seglog.specs.Frames.{frame_at, frames_grammar}

-- the ruling is that on what the front decided
pub ruling_so : {H : Type 0} (core : Core H) (h : History) (l : Layout) → Fronts core h l → (ticket number : ℕ)
    (reads : List Read) (writes : Writes) (d : Decision) → IsLive l ticket number
    → ((floor : ℕ) → Remembers floor h core.front.recent.named → floor ≤ number
    → d ≡ decision_of core.front (entries writes) (first_conflict h number reads))
    → ruled d l h (record { ticket = ticket; number = number; reads = reads; writes = entries writes })
    ≡ commit_ruling l h (record { ticket = ticket; number = number; reads = reads; writes = entries writes })
ruling_so core h l is ticket number reads writes d lives decided =
    let t : Transaction = record { ticket = ticket; number = number; reads = reads; writes = entries writes } in
    ap (λ (x : Decision). ruled x l h t) (decided (floor l h) is.front.remembers (floor_below l h ticket number lives))
    ∙ ruled_so core.front h l t (decides_as core h l is)

-- a disk that isn't asked stays as it is
pub looked_none : {D : Type 0} (g : Ghosts D) (disk : D) → ChangesNothing g disk disk ⊥
looked_none g disk = record {
  told = refl;
  calls = refl;
  time = passes_none (past_of g disk) (While (g.told disk) Unchanged);
  cause = record { later = omega arith; rose = λ failed. absurd failed; steady = λ passed. refl };
}

-- so nothing was written
pub unwritten_here : {D H : Type 0} (g : Ghosts D) (disk : D) (core : Core H) → IsUnwritten g disk disk core core
unwritten_here g disk core = record {
  front = record { oracle = refl; named = refl; log = record { log = refl; room = refl; halted = refl } };
  version = refl;
  disk = looked_none g disk;
}

module _ {D H : Type 0} (g : Ghosts D) (watched : IsWatched g) (bytes : H → Option (List ℕ)) (old new : D)
    (before after : Core H) (h : History) (l : Layout) (ticket number : ℕ) (reads : List Read) (writes : Writes)
    (back : after.back ≡ before.back) where
  abbrev t : Transaction
  t = record { ticket = ticket; number = number; reads = reads; writes = entries writes }

  abbrev ruling : Ruling CommitAnswer
  ruling = commit_ruling l h t

  abbrev otherwise : Otherwise
  otherwise = as_before l (commit_lost l t)

  -- It was refused, and the disk wasn't asked.
  pub carries_refused_by : (answer : CommitAnswer) (x : Layout) → leaving answer h x ≡ ruling → new ≡ old
      → Represents bytes before (g.told old) h l → Represents bytes after (g.told new) h x
      → Carries g bytes old new after h l ruling otherwise (Answered answer) no_effects
  carries_refused_by answer x is_ruling same is then =
      subst (λ (d : D). Carries g bytes old d after h l ruling otherwise (Answered answer) no_effects) (sym same)
      (carries_refused bytes before after h l ticket number reads writes back g watched old answer x is_ruling is
      (subst (λ (d : D). Represents bytes after (g.told d) h x) same then))

  its_name : Fronts before h l → (name : Name) → name ≡ log_of before.front → names.Log l.active.number ≡ name
  its_name is name named = sym (named ∙ ap (λ (n : ℕ). names.Log n) is.number)

  -- What was accepted met no conflict.
  pub no_conflict_by : committed l h t ≡ ruling → first_conflict h number reads ≡ None
  no_conflict_by write = (accepted bytes before after h l ticket number reads writes back write).no_conflict

  module _ {R : Type 0} (write : committed l h t ≡ ruling) where
    pub decides_by : (result : Result Done (CommitFail H R)) → WritesAs g old new before after ticket writes result
        → Fronts before h l
        → Decides (Fronts after) h l ruling otherwise (commit_outcome result) (commit_effects result)
    decides_by (Ok (done.At given)) (given_is, wrote) is =
        fronts_written bytes before after h l ticket number reads writes back write g old new wrote given given_is is
    decides_by (Ok done.Nothing) none is = absurd none
    decides_by (Err (fails.Halted name)) none is = absurd none
    decides_by (Err (fails.Exhausted txn)) none is = absurd none
    decides_by (Err (fails.Conflict key n)) none is = absurd none
    decides_by (Err (fails.Full txn long frame)) none is = absurd none
    decides_by (Err (fails.NoMemory txn)) un is =
        fronts_unwritten bytes before after h l ticket number reads writes back g old new un is
    decides_by (Err (fails.Disk name)) (named, failed) is =
        subst (λ (n : Name). Decides (Fronts after) h l ruling otherwise (Failed (file_of n)) no_effects) (its_name is name named)
        (fronts_failed bytes before after h l ticket number reads writes back write g old new failed no_effects is)

    pub stands_by : (result : Result Done (CommitFail H R)) → WritesAs g old new before after ticket writes result
        → StandsFor bytes before h l
        → Decides (StandsFor bytes after) h l ruling otherwise (commit_outcome result) (commit_effects result)
    stands_by (Ok (done.At given)) (given_is, wrote) is =
        stands_written bytes before after h l ticket number reads writes back write g old new wrote given given_is is
    stands_by (Ok done.Nothing) none is = absurd none
    stands_by (Err (fails.Halted name)) none is = absurd none
    stands_by (Err (fails.Exhausted txn)) none is = absurd none
    stands_by (Err (fails.Conflict key n)) none is = absurd none
    stands_by (Err (fails.Full txn long frame)) none is = absurd none
    stands_by (Err (fails.NoMemory txn)) un is =
        stands_unwritten bytes before after h l ticket number reads writes back g old new un is
    stands_by (Err (fails.Disk name)) (named, failed) is =
        subst (λ (n : Name). Decides (StandsFor bytes after) h l ruling otherwise (Failed (file_of n)) no_effects)
        (its_name is.fronts name named)
        (stands_failed bytes before after h l ticket number reads writes back write g old new failed no_effects is)

    pub carries_by : (result : Result Done (CommitFail H R)) → WritesAs g old new before after ticket writes result
        → Represents bytes before (g.told old) h l
        → Carries g bytes old new after h l ruling otherwise (commit_outcome result) (commit_effects result)
    carries_by (Ok (done.At given)) (given_is, wrote) is =
        carries_written bytes before after h l ticket number reads writes back write g old new wrote given given_is watched is
    carries_by (Ok done.Nothing) none is = absurd none
    carries_by (Err (fails.Halted name)) none is = absurd none
    carries_by (Err (fails.Exhausted txn)) none is = absurd none
    carries_by (Err (fails.Conflict key n)) none is = absurd none
    carries_by (Err (fails.Full txn long frame)) none is = absurd none
    carries_by (Err (fails.NoMemory txn)) un is =
        carries_unwritten bytes before after h l ticket number reads writes back g old new un watched is
    carries_by (Err (fails.Disk name)) (named, failed) is =
        subst (λ (n : Name). Carries g bytes old new after h l ruling otherwise (Failed (file_of n)) no_effects)
        (its_name is.stands.fronts name named)
        (carries_failed_so bytes before after h l ticket number reads writes back write g old new failed watched no_effects is)

    -- where the disk failed, it was to be written
    pub failed_by : (result : Result Done (CommitFail H R)) → WritesAs g old new before after ticket writes result
        → Fronts before h l → CommitFailed result → IsWritable l h t
    failed_by (Ok answer) wrote is stopped = absurd stopped
    failed_by (Err (fails.Halted name)) wrote is stopped = absurd stopped
    failed_by (Err (fails.Exhausted txn)) wrote is stopped = absurd stopped
    failed_by (Err (fails.Conflict key n)) wrote is stopped = absurd stopped
    failed_by (Err (fails.Full txn long frame)) wrote is stopped = absurd stopped
    failed_by (Err (fails.NoMemory txn)) wrote is stopped = absurd stopped
    failed_by (Err (fails.Disk name)) (named, failed) is stopped = record {
      accepted = sym write;
      fits = subst (λ (frame : LogFrame). HasFrame (frames_grammar log_format) frame)
          (next_is bytes before after h l ticket number reads writes back write is) failed.hands.has;
    }

  -- ---- whatever was decided

  module _ {R : Type 0} where
    pub stops_by : (result : Result Done (CommitFail H R)) → WritesAs g old new before after ticket writes result
        → Fronts before h l → IsTrue g.fails_cleanly → CommitFailed result
        → StopsWriting g (names.Log l.active.number)
        (frame_at log_format l.active.number l.active.length (commit_frame h (entries writes))) old new
    stops_by (Ok answer) wrote is clean stopped = absurd stopped
    stops_by (Err (fails.Halted name)) wrote is clean stopped = absurd stopped
    stops_by (Err (fails.Exhausted txn)) wrote is clean stopped = absurd stopped
    stops_by (Err (fails.Conflict key n)) wrote is clean stopped = absurd stopped
    stops_by (Err (fails.Full txn long frame)) wrote is clean stopped = absurd stopped
    stops_by (Err (fails.NoMemory txn)) wrote is clean stopped = absurd stopped
    stops_by (Err (fails.Disk name)) (named, failed) is clean stopped =
        stops_failed g old new before after ticket writes h l is failed clean

-- Whatever writing came to, the same files stand.
module _ {D H R : Type 0} (g : Ghosts D) (watched : IsWatched g) (old new : D) (before after : Core H) (ticket : ℕ)
    (writes : Writes) where
  pub files_by : (result : Result Done (CommitFail H R)) → WritesAs g old new before after ticket writes result
      → SameFiles (g.told old) (g.told new)
  files_by (Ok (done.At given)) (given_is, wrote) = same_files_handed g old new before after ticket writes watched wrote.hands
  files_by (Ok done.Nothing) none = absurd none
  files_by (Err (fails.Halted name)) none = absurd none
  files_by (Err (fails.Exhausted txn)) none = absurd none
  files_by (Err (fails.Conflict key n)) none = absurd none
  files_by (Err (fails.Full txn long frame)) none = absurd none
  files_by (Err (fails.NoMemory txn)) un = same_files g old new before after ticket writes un.disk.told
  files_by (Err (fails.Disk name)) (named, failed) = same_files_handed g old new before after ticket writes watched failed.hands
