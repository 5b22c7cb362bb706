-- A commit's frame behind the active log of a disk that holds a layout: what a crash leaves meanwhile, and what is held
-- then.
use Rattle.std.specs.Prelude.{◌≡◌, ◌≤◌, ℕ, ◌+◌, List, [], ◌∷◌, Ok}
use Rattle.std.specs.FinMap.{from_sorted}
use Rattle.std.proofs.Common.{sym, subst, length-append, arith}
use Rattle.vl_disk.specs.DiskState.{DiskState}
use Rattle.vl_disk.specs.declared.name.Name.TheVariants.{Log}
use Rattle.vl_disk.specs.declared.name.Name.{Name}
use Rattle.vl_engine_laws.specs.Held.{Base, Holds, IsBase}
use Rattle.vl_engine_laws.specs.Pointed.{layout_logs}
use Rattle.vl_engine_laws.specs.Shown.{LeavesBetween}
use Rattle.vl_engine_laws.specs.Spared.{at_rest, Spares}
use Rattle.vl_engine_laws.specs.Writing as writing
use Rattle.vl_engine_laws.specs.Writing.{WhileWriting}
use Rattle.vl_engine_laws.specs.laws.AppendedLaws.{LeadsOn, appended_base, appended_holds, writing_opens_again, writing_shows}
use Rattle.vl_frame.specs.Runs.{HasFrame}
use Rattle.vl_engine_model.specs.Logs.{log_length}
use Rattle.vl_engine_model.specs.Ruling.{ended}
use Rattle.vl_engine_model.specs.Rulings.Commit.{Transaction, commit_frame, committed}
use Rattle.vl_engine_model.specs.Tidy.{IsTidy}
use Rattle.vl_engine_model.specs.declared.layout.Layout.{Layout}
use Rattle.vl_engine_model.specs.declared.live.Live.{Live}
use Rattle.vl_model.specs.History.{Extends, History, last_number, with_commit}
use Rattle.vl_model.specs.declared.log_frame.LogFrame.{LogFrame}
use Rattle.vl_model.specs.laws.HistoryLaws.{with_commit-extends}
use Rattle.vl_recover.specs.crash.Starts.{MayOpen}
use Rattle.vl_recover.specs.laws.crash.AppendLaws.{commit_counts}
use Rattle.vl_recover.specs.laws.crash.TornFrames.{frame_behind}
use Rattle.vl_recover.specs.opening.Walk.{counted_frame}
use Rattle.vl_seglog.specs.Frames.{frames_grammar}

-- of a transaction that commits, over a layout that a disk holds
module _ (b : Base) (l : Layout) (h : History) (t : Transaction) (base : IsBase b l h) (tidy : IsTidy (layout_logs l) l h) where
  abbrev longer : History
  longer = with_commit h (from_sorted t.writes)

  abbrev frame : LogFrame
  frame = commit_frame h t.writes

  abbrev bytes : List ℕ
  bytes = frame_behind l.active.format l.active.number l.active.frames frame

  abbrev log_name : Name
  log_name = Log l.active.number

  abbrev live : List Live
  live = (ended t.ticket l).live

  extends : Extends h longer
  extends = with_commit-extends h (from_sorted t.writes)

  one_more : last_number longer ≡ last_number h + 1
  one_more = omega (arith, length-append h.commits (from_sorted t.writes ∷ []))

  up : last_number h ≤ last_number longer
  up = omega (arith, one_more)

  leads : LeadsOn l frame h longer
  leads = subst (λ (n : ℕ). counted_frame (last_number h) (log_length l.active.format l.active.frames) frame ≡ Ok n) (sym one_more)
      (commit_counts (last_number h) (log_length l.active.format l.active.frames) t.writes)

  -- The same base is that of the layout with the commit.
  pub commit_base : Spares (at_rest (committed l h t).layout) (with_commit h (from_sorted t.writes))
      → IsBase b (committed l h t).layout (with_commit h (from_sorted t.writes))
  commit_base = appended_base b l h frame live l.epoch l.job longer extends up leads base tidy

  module _ (disk : DiskState) (holds : Holds b l disk)
      (has : HasFrame (frames_grammar l.active.format) (commit_frame h t.writes)) where
    -- After both calls the disk holds it.
    pub commit_holds : Holds b (committed l h t).layout (writing.written log_name bytes disk)
    commit_holds = appended_holds b l h frame live l.epoch l.job longer extends up leads base tidy disk holds has

    -- Whatever a crash leaves while the frame is written shows the history, or the one with the commit.
    pub commit_shows : IsTidy (layout_logs l) (committed l h t).layout (with_commit h (from_sorted t.writes))
        → Spares (at_rest (committed l h t).layout) (with_commit h (from_sorted t.writes))
        → (now : DiskState) → WhileWriting log_name bytes disk now
        → LeavesBetween h (with_commit h (from_sorted t.writes)) now
    commit_shows = writing_shows b l h frame live l.epoch l.job longer extends up leads base tidy disk holds has

    -- A store may be opened on the disk again, also where that failed.
    pub commit_opens_again : (now : DiskState) → WhileWriting log_name bytes disk now → MayOpen now
    commit_opens_again =
        writing_opens_again b l h frame live l.epoch l.job longer extends up leads base tidy disk holds has
