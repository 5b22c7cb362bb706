-- A transaction commits: its writes become the next commit where nothing that it read was
-- overwritten.
use Rattle.std.specs.Prelude.{ℕ, ◌+◌, ◌==◌, nat_le, if◌then◌else◌, List, [], length, Option, Some, None}
use Rattle.std.specs.FinMap.{from_sorted}
use Rattle.vl_model.specs.Limits.{max_commit_number}
use Rattle.vl_model.specs.declared.change.Change.{Change}
use Rattle.vl_model.specs.History.{History, last_number, with_commit}
use Rattle.vl_model.specs.Reads.{Read}
use Rattle.vl_model.specs.Conflicts.{Named, first_conflict}
use Rattle.vl_model.specs.Frames.{frame_length}
use Rattle.vl_model.specs.declared.counter.Counter.{Counter}
use Rattle.vl_model.specs.declared.counter.Counter.TheVariants.{Commit as CommitNumber}
use Rattle.vl_model.specs.declared.log_frame.LogFrame.{LogFrame}
use Rattle.vl_model.specs.declared.log_frame.LogFrame.TheVariants.{Committed}
use Rattle.vl_engine_model.specs.Ruling.{Ruling, leaving, ended, logged}
use Rattle.vl_engine_model.specs.declared.file_name.FileName.{FileName}
use Rattle.vl_engine_model.specs.declared.layout.Layout.{Layout}

-- a transaction: its ticket, the number at which it reads, what it read and what it wrote, in key
-- order
pub record Transaction : Type 0 where
  pub ticket : ℕ
  pub number : ℕ
  pub reads : List Read
  pub writes : List (List ℕ × Change)

pub data CommitAnswer : Type 0 where
  At : ℕ → CommitAnswer
  Nothing : CommitAnswer
  Halted : FileName → CommitAnswer
  Exhausted : Counter → CommitAnswer
  -- the least key that was overwritten, and the last commit that names it
  Conflict : List ℕ → ℕ → CommitAnswer
  -- the length of the active log, and that of the frame
  Full : ℕ → ℕ → CommitAnswer

abbrev pub commit_frame : History → List (List ℕ × Change) → LogFrame
commit_frame h writes = Committed (last_number h + 1) writes

-- what is left where writing the frame fails, but for the halt
abbrev pub commit_lost : Layout → Transaction → Layout
commit_lost l t = ended t.ticket l

abbrev pub commit_ended : {A : Type 0} → A → Layout → History → Transaction → Ruling A
commit_ended answer l h t = leaving answer h (ended t.ticket l)

abbrev pub committed : Layout → History → Transaction → Ruling CommitAnswer
committed l h t = record {
  answer = At (last_number h + 1);
  history = with_commit h (from_sorted t.writes);
  layout = logged (commit_frame h t.writes) (ended t.ticket l);
  calls = 2;
  gone = [];
}

-- by the first conflict, where there is one
abbrev pub commit_checked : Layout → History → Transaction → Option Named → Ruling CommitAnswer
commit_checked l h t (Some named) = commit_ended (Conflict named.0 named.1) l h t
commit_checked l h t None =
    if nat_le (l.active.length + frame_length l.active.format (commit_frame h t.writes)) l.room then committed l h t
    else leaving (Full l.active.length (frame_length l.active.format (commit_frame h t.writes))) h l

abbrev pub commit_running : Layout → History → Transaction → Option Named → Ruling CommitAnswer
commit_running l h t conflict =
    if length t.writes == 0 then commit_ended Nothing l h t
    else (if nat_le max_commit_number (last_number h) then leaving (Exhausted CommitNumber) h l
    else commit_checked l h t conflict)

abbrev pub commit_unless : Option FileName → Layout → History → Transaction → Option Named
    → Ruling CommitAnswer
commit_unless (Some name) l h t conflict = commit_ended (Halted name) l h t
commit_unless None l h t conflict = commit_running l h t conflict

abbrev pub commit_ruling : Layout → History → Transaction → Ruling CommitAnswer
commit_ruling l h t = commit_unless l.halted l h t (first_conflict h t.number t.reads)
