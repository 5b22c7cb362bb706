-- A relocation's frame behind the active log of a disk that holds a layout: what a crash leaves meanwhile, and what is held
-- then. The history is the same.
use Rattle.std.specs.Prelude.{◌≤◌, ℕ, ◌+◌, List, [], Option, refl}
use Rattle.std.proofs.Common.{sym, append-nil, arith}
use Rattle.vl_disk.specs.DiskState.{DiskState}
use Rattle.vl_disk.specs.declared.name.Name.TheVariants.{Log}
use Rattle.vl_disk.specs.declared.name.Name.{Name}
use Rattle.vl_engine_laws.specs.Held.{Base, Holds, IsBase}
use Rattle.vl_engine_laws.specs.Pointed.{layout_logs}
use Rattle.vl_engine_laws.specs.Shown.{LeavesBetween}
use Rattle.vl_engine_laws.specs.Spared.{at_rest, Spares}
use Rattle.vl_engine_laws.specs.Writing as writing
use Rattle.vl_engine_laws.specs.Writing.{WhileWriting}
use Rattle.vl_engine_laws.specs.laws.AppendedLaws.{LeadsOn, appended_base, appended_holds, writing_opens_again, writing_shows}
use Rattle.vl_frame.specs.Runs.{HasFrame}
use Rattle.vl_engine_model.specs.Rulings.Relocate.{relocated, with_moves}
use Rattle.vl_engine_model.specs.Tidy.{IsTidy}
use Rattle.vl_engine_model.specs.declared.job.OpenJob.{OpenJob}
use Rattle.vl_engine_model.specs.declared.layout.Layout.{Layout}
use Rattle.vl_model.specs.History.{Extends, History, last_number}
use Rattle.vl_model.specs.declared.log_frame.LogFrame.TheVariants.{Relocated}
use Rattle.vl_model.specs.declared.log_frame.LogFrame.{LogFrame}
use Rattle.vl_model.specs.declared.log_frame.Moved.{Moved}
use Rattle.vl_recover.specs.crash.Starts.{MayOpen}
use Rattle.vl_recover.specs.laws.crash.TornFrames.{frame_behind}
use Rattle.vl_seglog.specs.Frames.{frames_grammar}

-- of records that are moved, over a layout that a disk holds
module _ (b : Base) (l : Layout) (h : History) (moved : List Moved) (base : IsBase b l h) (tidy : IsTidy (layout_logs l) l h) where
  abbrev frame : LogFrame
  frame = Relocated moved

  abbrev bytes : List ℕ
  bytes = frame_behind l.active.format l.active.number l.active.frames frame

  abbrev log_name : Name
  log_name = Log l.active.number

  abbrev job : Option OpenJob
  job = with_moves (l.epoch + 1) moved l.job

  extends : Extends h h
  extends = record { first = refl; base = refl; later = []; commits = sym (append-nil h.commits) }

  up : last_number h ≤ last_number h
  up = omega arith

  leads : LeadsOn l frame h h
  leads = refl

  -- The same base is that of the layout with the records.
  pub relocated_base : Spares (at_rest (relocated l moved)) h → IsBase b (relocated l moved) h
  relocated_base = appended_base b l h frame l.live (l.epoch + 1) job h extends up leads base tidy

  module _ (disk : DiskState) (holds : Holds b l disk) (has : HasFrame (frames_grammar l.active.format) (Relocated moved)) where
    -- After both calls the disk holds it.
    pub relocated_holds : Holds b (relocated l moved) (writing.written log_name bytes disk)
    relocated_holds = appended_holds b l h frame l.live (l.epoch + 1) job h extends up leads base tidy disk holds has

    -- Whatever a crash leaves while the frame is written shows the history.
    pub relocating_shows : IsTidy (layout_logs l) (relocated l moved) h → Spares (at_rest (relocated l moved)) h
        → (now : DiskState) → WhileWriting log_name bytes disk now → LeavesBetween h h now
    relocating_shows = writing_shows b l h frame l.live (l.epoch + 1) job h extends up leads base tidy disk holds has

    -- A store may be opened on the disk again, also where that failed.
    pub relocating_opens_again : (now : DiskState) → WhileWriting log_name bytes disk now → MayOpen now
    relocating_opens_again =
        writing_opens_again b l h frame l.live (l.epoch + 1) job h extends up leads base tidy disk holds has
