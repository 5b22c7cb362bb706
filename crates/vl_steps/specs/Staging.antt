-- A commit that is staged: its frame, and its entries in memory.
use Rattle.std.specs.Prelude.{◌≡◌, ℕ, ◌+◌, ◌++◌, List, [], ◌∷◌}
use Rattle.std.specs.FinMap.{entries}
use Rattle.vl_steps.specs.declared.commit.StagedCommit.{StagedCommit}
use Rattle.vl_front.specs.Noting.{keys_of}
use Rattle.vl_front.specs.declared.front.Front.{Front}
use Rattle.vl_engine_model.specs.Logs.{frame_entries, logged_body}
use Rattle.vl_model.specs.Entries.{in_order}
use Rattle.vl_model.specs.Formats.{log_format}
use Rattle.vl_model.specs.Keys.{Writes}
use Rattle.vl_model.specs.declared.change.Change.{Change}
use Rattle.vl_model.specs.declared.entry.Entry.{Entry}
use Rattle.vl_model.specs.declared.log_frame.LogFrame.{LogFrame}
use Rattle.vl_model.specs.declared.log_frame.LogFrame.TheVariants.{Committed}
use Rattle.vl_model.specs.declared.pointer.Pointer.{Pointer}
use Rattle.vl_seglog.specs.Staging.{IsStaged, IsStagedFor}
use Rattle.vl_seglog.specs.Stored.{pointers_from}

-- the entry of a write whose record lies at this pointer
abbrev pub write_entry : ℕ → List ℕ × Change → Pointer → Entry
write_entry number write pointer = record { key = write.0; version = number; body = logged_body write.1 pointer }

-- those of a commit, whose records lie at these
abbrev pub commit_entries : ℕ → List (List ℕ × Change) → List Pointer → List Entry
commit_entries number [] pointers = []
commit_entries number (write ∷ writes) [] = []
commit_entries number (write ∷ writes) (pointer ∷ pointers) =
    write_entry number write pointer ∷ commit_entries number writes pointers

-- these lead to the records of a commit, wherever its frame is to stand
abbrev pub LeadTo : List Pointer → List (List ℕ × Change) → Type 0
LeadTo pointers writes = (segment : ℕ) × (place : ℕ) × (pointers ≡ pointers_from log_format segment place writes)

-- the frame by which these writes become the next commit
abbrev pub next_frame : Front → Writes → LogFrame
next_frame front writes = Committed (front.oracle.last + 1) (entries writes)

-- It is staged for the end of the front's log: the frame, the memtable of these entries with those of the commit over them, and
-- its keys.
pub record IsStagedCommit (front : Front) (active : List Entry) (writes : Writes) (staged : StagedCommit) : Type 0 where
  pub frame : IsStaged front.log.number front.log.length (next_frame front writes) staged.frame
  pub frame_for : IsStagedFor front.log staged.frame
  pub more : staged.active.entries
      ≡ in_order (frame_entries log_format front.log.number front.log.length (next_frame front writes) ++ active)
  pub keys : staged.keys.items ≡ keys_of (entries writes)
