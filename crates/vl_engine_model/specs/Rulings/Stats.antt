-- What there is of each segment, and how much of it is live.
use Rattle.std.specs.Prelude.{◌-◌, ◌^◌, min, List, ◌∷◌, ◌++◌, map}
use Rattle.vl_model.specs.History.{History}
use Rattle.vl_engine_model.specs.Garbage.{stat_of}
use Rattle.vl_engine_model.specs.Sources.{tables, rising}
use Rattle.vl_engine_model.specs.Ruling.{Ruling, leaving}
use Rattle.vl_engine_model.specs.declared.layout.Layout.{Layout}
use Rattle.vl_engine_model.specs.declared.segment.Segment.{Segment}
use Rattle.vl_engine_model.specs.declared.segment.SegmentStat.{SegmentStat}

-- the segments that aren't retired, by rising numbers
abbrev pub segments : Layout → List Segment
segments l = rising (l.active ∷ l.frozen ++ l.flushed)

-- what is told of live bytes ends with 64 bits
abbrev pub told : SegmentStat → SegmentStat
told x = record x { live = min x.live (2 ^ 64 - 1) }

abbrev pub stats_ruling : Layout → History → Ruling (List SegmentStat)
stats_ruling l h = leaving (map (λ (s : Segment). told (stat_of (tables l) s)) (segments l)) h l
