-- A line leaves the layout that its ruling leaves.
use Rattle.std.proofs.Common.{◌≡◌, ℕ, ◌+◌, ◌==◌, Bool, true, false, cond, length, refl, ap, ◌∙◌}
use Rattle.std.specs.Prelude.{Option, None, Some, nat_le}
use Rattle.vl_engine_model.specs.AtAnswer.{Beginning, beginning_of}
use Rattle.vl_engine_model.specs.Ruling.{Ruling, leaving}
use Rattle.vl_engine_model.specs.Rulings.Begin as begin
use Rattle.vl_engine_model.specs.Rulings.Begin.{BeginAnswer, begin_ruling, begun}
use Rattle.vl_engine_model.specs.Rulings.Commit as commit
use Rattle.vl_engine_model.specs.Rulings.Commit.{CommitAnswer, Transaction, commit_checked, commit_ended, commit_frame, commit_ruling}
use Rattle.vl_engine_model.specs.Rulings.Commit.{commit_unless, committed}
use Rattle.vl_engine_model.specs.Store.Commits.{conflict_in, history_in}
use Rattle.vl_engine_model.specs.Store.Lines.{Name}
use Rattle.vl_engine_model.specs.Store.Reading.{begin_as, begun_by, commit_by, committed_by}
use Rattle.vl_engine_model.specs.Store.Things as things
use Rattle.vl_engine_model.specs.Store.Things.{ATransaction, Thing, thing_of}
use Rattle.vl_engine_model.specs.Tickets.{free_ticket, tickets_of}
use Rattle.vl_engine_model.specs.declared.file_name.FileName.{FileName}
use Rattle.vl_engine_model.specs.declared.layout.Layout.{Layout}
use Rattle.vl_model.specs.Conflicts.{Named}
use Rattle.vl_model.specs.Frames.{frame_length}
use Rattle.vl_model.specs.History.{History, last_number}
use Rattle.vl_model.specs.Limits.{max_commit_number, max_live}
use Rattle.vl_model.specs.declared.counter.Counter.TheVariants as counter
use Rattle.vl_script_model.specs.Sequential.{State, history_of}
use Rattle.vl_script_model.specs.laws.Laws.{IsSound}
use Rattle.vl_engine_model.specs.laws.CommitsLaws.{conflict_in-is}

module _ (s : things.State) where
  abbrev h : History
  h = history_in s.commits

  abbrev l : Layout
  l = s.layout

  -- where something begins
  pub begun_layout : (name : Name) (thing : Beginning → ℕ → ℕ → Thing) → thing_of s name ≡ None
      → (begin_as s name thing (thing_of s name)).state.layout ≡ (begin_ruling l h).layout
  begun_layout name thing free =
      ap (λ (o : Option Thing). (begin_as s name thing o).state.layout) free ∙ of (nat_le max_live (length l.live))
    where
      ticket : ℕ
      ticket = free_ticket (tickets_of l.live)

      of : (full : Bool)
          → let r : Ruling BeginAnswer = cond full (leaving begin.TooMany h l)
          (leaving (begin.Begun ticket (last_number h)) h (begun l ticket (last_number h))) in
          (begun_by s name (thing (beginning_of (begin_ruling l h).layout h)) r r.answer).state.layout ≡ r.layout
      of true = refl
      of false = refl

  -- and where it is to be the next commit
  module _ (name : Name) (t : Transaction) where
    abbrev IsLeft : Ruling CommitAnswer → Type 0
    IsLeft r = (committed_by s name t r r.answer).state.layout ≡ r.layout

    fits_left : (b : Bool) → IsLeft (cond b (committed l h t)
        (leaving (commit.Full l.active.length (frame_length l.active.format (commit_frame h t.writes))) h l))
    fits_left true = refl
    fits_left false = refl

    checked_left : (o : Option Named) → IsLeft (commit_checked l h t o)
    checked_left (Some named) = refl
    checked_left None = fits_left (nat_le (l.active.length + frame_length l.active.format (commit_frame h t.writes)) l.room)

    numbered_left : (b : Bool) (o : Option Named)
        → IsLeft (cond b (leaving (commit.Exhausted counter.Commit) h l) (commit_checked l h t o))
    numbered_left true o = refl
    numbered_left false o = checked_left o

    running_left : (b : Bool) (o : Option Named) → IsLeft (cond b (commit_ended commit.Nothing l h t)
        (cond (nat_le max_commit_number (last_number h)) (leaving (commit.Exhausted counter.Commit) h l) (commit_checked l h t o)))
    running_left true o = refl
    running_left false o = numbered_left (nat_le max_commit_number (last_number h)) o

    pub ruled_left : (halted : Option FileName) (o : Option Named) → IsLeft (commit_unless halted l h t o)
    ruled_left (Some file) o = refl
    ruled_left None o = running_left (length t.writes == 0) o

pub committed_layout : (s : State) (name : Name) (t : Transaction) (b : Beginning) → IsSound s
    → thing_of s.store name ≡ Some (ATransaction t b)
    → (commit_by s.store name (thing_of s.store name)).state.layout ≡ (commit_ruling s.store.layout (history_of s) t).layout
committed_layout s name t b sound there =
    ap (λ (o : Option Thing). (commit_by s.store name o).state.layout) there
    ∙ ruled_left s.store name t s.store.layout.halted (conflict_in s.store.commits t.number t.reads)
    ∙ ap (λ (r : Ruling CommitAnswer). r.layout)
    (ap (commit_unless s.store.layout.halted s.store.layout (history_of s) t)
    (conflict_in-is s.store.commits sound.proper.commits t.number t.reads))
