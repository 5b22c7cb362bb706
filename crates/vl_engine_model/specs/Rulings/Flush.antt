-- The memtable that has been frozen for longest becomes a table in front of level 0.
use Rattle.std.specs.Prelude.{ℕ, ◌+◌, max, if◌then◌else◌, List, [], ◌∷◌, map, Option, Some, None}
use Rattle.vl_model.specs.History.{History}
use Rattle.vl_model.specs.Formats.{table_format}
use Rattle.vl_model.specs.Placement.{placed}
use Rattle.vl_model.specs.declared.counter.Counter.TheVariants as counter
use Rattle.vl_model.specs.declared.log_frame.LogFrame.{LogFrame}
use Rattle.vl_model.specs.declared.log_frame.LogFrame.TheVariants.{Committed, Relocated}
use Rattle.vl_engine_model.specs.Logs.{memtable}
use Rattle.vl_engine_model.specs.Tables.{new_table}
use Rattle.vl_engine_model.specs.Levels.{in_front}
use Rattle.vl_engine_model.specs.Sources.{oldest, but_oldest}
use Rattle.vl_engine_model.specs.Ruling.{Ruling, leaving, StepAnswer, Stepped, Idle, Halted, Exhausted, switched, has_no_number, has_no_epoch}
use Rattle.vl_engine_model.specs.declared.file_name.FileName.{FileName}
use Rattle.vl_engine_model.specs.declared.layout.Layout.{Layout}
use Rattle.vl_engine_model.specs.declared.segment.Segment.{Segment}
use Rattle.vl_engine_model.specs.declared.table.Table.{Table}

-- the table of a memtable's entries, each at its placement
abbrev pub flushed_table : Layout → Segment → Table
flushed_table l s = new_table table_format l.next_table (map placed (memtable s))

-- the last commit of some frames, or the number that was covered before
abbrev pub covered_by : List LogFrame → ℕ → ℕ
covered_by [] covered = covered
covered_by (Committed number writes ∷ fs) covered = covered_by fs (max covered number)
covered_by (Relocated records ∷ fs) covered = covered_by fs covered

abbrev pub flushed : Layout → Segment → Layout
flushed l s = switched [] (record l {
  frozen = but_oldest l.frozen;
  flushed = s ∷ l.flushed;
  levels = in_front (flushed_table l s) l.levels;
  covered = covered_by s.frames l.covered;
  next_table = l.next_table + 1;
  epoch = l.epoch + 1;
})

abbrev pub flush_of : Layout → History → Option Segment → Ruling StepAnswer
flush_of l h None = leaving Idle h l
flush_of l h (Some s) =
    if has_no_number l.next_table 1 then leaving (Exhausted counter.Table) h l
    else (if has_no_epoch l then leaving (Exhausted counter.Version) h l
    else record { answer = Stepped l.next_table; history = h; layout = flushed l s; calls = 5; gone = [] })

abbrev pub flush_unless : Option FileName → Layout → History → Ruling StepAnswer
flush_unless (Some name) l h = leaving (Halted name) h l
flush_unless None l h = flush_of l h (oldest l.frozen)

abbrev pub flush_ruling : Layout → History → Ruling StepAnswer
flush_ruling l h = flush_unless l.halted l h
