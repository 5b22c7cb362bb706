-- The active log is sealed and its memtable frozen, and a new log is begun.
use Rattle.std.specs.Prelude.{◌+◌, if◌then◌else◌, List, [], ◌∷◌, Option, Some, None}
use Rattle.vl_model.specs.History.{History}
use Rattle.vl_model.specs.declared.counter.Counter.TheVariants as counter
use Rattle.vl_model.specs.declared.log_frame.LogFrame.{LogFrame}
use Rattle.vl_model.specs.Formats.{log_format}
use Rattle.vl_engine_model.specs.Logs.{new_segment}
use Rattle.vl_engine_model.specs.Ruling.{Ruling, leaving, StepAnswer, Stepped, Idle, Halted, Exhausted, has_no_number, has_no_epoch}
use Rattle.vl_engine_model.specs.declared.file_name.FileName.{FileName}
use Rattle.vl_engine_model.specs.declared.layout.Layout.{Layout}

abbrev pub rotated : Layout → Layout
rotated l = record l {
  active = new_segment log_format l.next_log [];
  frozen = l.active ∷ l.frozen;
  next_log = l.next_log + 1;
  epoch = l.epoch + 1;
}

-- by the frames of the active log: without any its memtable is empty
abbrev pub rotate_of : List LogFrame → Layout → History → Ruling StepAnswer
rotate_of [] l h = leaving Idle h l
rotate_of (f ∷ fs) l h =
    if has_no_number l.next_log 1 then leaving (Exhausted counter.Log) h l
    else (if has_no_epoch l then leaving (Exhausted counter.Version) h l
    else record { answer = Stepped l.active.number; history = h; layout = rotated l; calls = 3; gone = [] })

abbrev pub rotate_unless : Option FileName → Layout → History → Ruling StepAnswer
rotate_unless (Some name) l h = leaving (Halted name) h l
rotate_unless None l h = rotate_of l.active.frames l h

abbrev pub rotate_ruling : Layout → History → Ruling StepAnswer
rotate_ruling l h = rotate_unless l.halted l h
