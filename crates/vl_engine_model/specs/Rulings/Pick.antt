-- A pass begins over the segment with the greatest share of garbage.
use Rattle.std.specs.Prelude.{ℕ, ◌==◌, ◌||◌, nat_lt, if◌then◌else◌, List, [], ◌∷◌, Option, Some, None}
use Rattle.vl_model.specs.History.{History}
use Rattle.vl_engine_model.specs.Garbage.{best}
use Rattle.vl_engine_model.specs.Logs.{LogRecord, records}
use Rattle.vl_engine_model.specs.Relocation.{Pass}
use Rattle.vl_engine_model.specs.Sources.{sources}
use Rattle.vl_engine_model.specs.Ruling.{Ruling, leaving, pin_of}
use Rattle.vl_engine_model.specs.declared.job.OpenPass.{OpenPass}
use Rattle.vl_engine_model.specs.declared.layout.Layout.{Layout}
use Rattle.vl_engine_model.specs.declared.segment.Segment.{Segment}
use Rattle.vl_engine_model.specs.declared.segment.SegmentStat.{SegmentStat}

pub data PickAnswer : Type 0 where
  Picked : Pass → PickAnswer
  InvalidRequest : PickAnswer
  -- a pass over this segment is open
  Rejected : ℕ → PickAnswer
  NoRewrite : PickAnswer

-- the records of the segment with this number
abbrev pub records_in : ℕ → List Segment → List LogRecord
records_in number [] = []
records_in number (s ∷ ss) = if s.number == number then records s else records_in number ss

abbrev pub pass_over : Layout → ℕ → Pass
pass_over l segment =
    record { segment = segment; base = sources l; left = records_in segment l.flushed }

abbrev pub with_pass : ℕ → Layout → Layout
with_pass segment l = record l { pass = Some (record { segment = segment; pin = pin_of l }) }

abbrev pub pick_best : Layout → History → Option SegmentStat → Ruling PickAnswer
pick_best l h None = leaving NoRewrite h l
pick_best l h (Some x) = leaving (Picked (pass_over l x.segment)) h (with_pass x.segment l)

abbrev pub pick_unless : Option OpenPass → Layout → History → ℕ → Ruling PickAnswer
pick_unless (Some pass) l h percent = leaving (Rejected pass.segment) h l
pick_unless None l h percent = pick_best l h (best l percent)

-- with the least share in per cent
abbrev pub pick_ruling : Layout → History → ℕ → Ruling PickAnswer
pick_ruling l h percent =
    if percent == 0 || nat_lt 99 percent then leaving InvalidRequest h l
    else pick_unless l.pass l h percent
