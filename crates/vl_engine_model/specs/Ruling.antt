-- What a call of an engine answers and what it leaves, and the changes that several calls share.
use Rattle.std.specs.Prelude.{ℕ, ◌+◌, ◌==◌, Bool, not, ◌&&◌, nat_lt, List, [], ◌∷◌, ◌++◌, map, Some}
use Rattle.std.specs.List.{filter}
use Rattle.vl_model.specs.Limits.{max_file_number, max_epoch}
use Rattle.vl_model.specs.History.{History}
use Rattle.vl_model.specs.declared.counter.Counter.{Counter}
use Rattle.vl_model.specs.declared.log_frame.LogFrame.{LogFrame}
use Rattle.vl_model.specs.Frames.{frame_length}
use Rattle.vl_engine_model.specs.Sources.{head, needed, tables, log_of, table_of, rising}
use Rattle.vl_engine_model.specs.Garbage.{live_bytes}
use Rattle.vl_engine_model.specs.declared.file_name.FileName.{FileName}
use Rattle.vl_engine_model.specs.declared.file_name.Retired.{Retired}
use Rattle.vl_engine_model.specs.declared.layout.Layout.{Layout}
use Rattle.vl_engine_model.specs.declared.live.Live.{Live}
use Rattle.vl_engine_model.specs.declared.live.Pin.{Pin}
use Rattle.vl_engine_model.specs.declared.segment.Segment.{Segment}
use Rattle.vl_engine_model.specs.declared.table.Table.{Table}

pub record Ruling (A : Type 0) : Type 0 where
  pub answer : A
  pub history : History
  pub layout : Layout
  -- how many calls change files
  pub calls : ℕ
  -- the files that are removed
  pub gone : List FileName

-- an answer that changes no file, over a layout that is left
abbrev pub leaving : {A : Type 0} → A → History → Layout → Ruling A
leaving answer h l = record { answer = answer; history = h; layout = l; calls = 0; gone = [] }

-- what rotation and flush answer: the segment that was sealed, or the table that was made
pub data StepAnswer : Type 0 where
  Stepped : ℕ → StepAnswer
  Idle : StepAnswer
  Halted : FileName → StepAnswer
  Exhausted : Counter → StepAnswer

-- ---- changes

-- a call failed at this file
abbrev pub halted_at : FileName → Layout → Layout
halted_at name l = record l { halted = Some name }

-- without the live transaction or view that has this ticket
abbrev pub ended : ℕ → Layout → Layout
ended ticket l = record l { live = filter (λ (x : Live). not (x.ticket == ticket)) l.live }

-- with one more frame in the active log
abbrev pub logged : LogFrame → Layout → Layout
logged f l =
    record l {
      active = record {
        format = l.active.format;
        number = l.active.number;
        length = l.active.length + frame_length l.active.format f;
        frames = l.active.frames ++ f ∷ [];
      };
    }

-- a pin of the version of this moment
abbrev pub pin_of : Layout → Pin
pin_of l = record { epoch = l.epoch; needs = needed l }

-- ---- retirement

-- below head, with nothing live
abbrev pub is_idle : Layout → Segment → Bool
is_idle l s = nat_lt s.number (head l) && (live_bytes (tables l) s.number == 0)

abbrev pub retired_at : ℕ → FileName → Retired
retired_at number file = record { file = file; epoch = number }

-- Retires at the epoch that a switch has made the tables that it dropped, and each segment
-- that is below head and has nothing live, the least first.
abbrev pub switched : List Table → Layout → Layout
switched dropped l = record l {
  flushed = filter (λ (s : Segment). not (is_idle l s)) l.flushed;
  retired = l.retired
      ++ map (retired_at l.epoch) (map table_of dropped ++ map log_of (rising (filter (is_idle l) l.flushed)));
}

-- ---- numbers

-- so many more files of a kind, of which the next has this number, would pass its greatest one
abbrev pub has_no_number : ℕ → ℕ → Bool
has_no_number next count = nat_lt (max_file_number + 1) (next + count)

-- no epoch is left
abbrev pub has_no_epoch : Layout → Bool
has_no_epoch l = nat_lt max_epoch (l.epoch + 1)
