-- What is kept of the logs that are sealed and not retired, and that it is so of a layout.
use Rattle.std.specs.Prelude.{◌≡◌, ℕ, ◌-◌, min, Bool, not, ◌&&◌, ◌==◌, nat_lt, List, map}
use Rattle.vl_engine_model.specs.Ruling.{Ruling}
use Rattle.vl_engine_model.specs.Sources.{head, rising, tables}
use Rattle.vl_engine_model.specs.Tidy.{sealed}
use Rattle.vl_engine_model.specs.declared.layout.Layout.{Layout}
use Rattle.vl_engine_model.specs.declared.segment.Segment.{Segment}
use Rattle.vl_engine_model.specs.declared.segment.SegmentStat.{SegmentStat}
use Rattle.vl_stats.specs.Live.{AreOf, bytes_of}

-- each log with its length in bytes; how many bytes of each segment are live; and how many more logs may be sealed without
-- memory
pub record Tallied : Type 0 where
  pub logs : List (ℕ × ℕ)
  pub live : List (ℕ × ℕ)
  pub room : ℕ

-- a log's number and its length
abbrev pub length_of : Segment → ℕ × ℕ
length_of s = (s.number, s.length)

abbrev pub lengths_of : List Segment → List (ℕ × ℕ)
lengths_of ss = map length_of ss

-- its logs are those of the layout that are sealed and not retired, by rising numbers; what is live is what its tables lead to
pub record IsTally (tally : Tallied) (l : Layout) : Type 0 where
  pub logs : tally.logs ≡ lengths_of (rising (sealed l))
  pub live : AreOf (tables l) tally.live

-- the same stands for what a ruling leaves
abbrev pub LeavesTally : {A : Type 0} → Layout → Ruling A → Type 0
LeavesTally l r = (tally : Tallied) → IsTally tally l → IsTally tally r.layout

-- with these live bytes a log stays behind a switch: it isn't below head, or some of it is live
abbrev pub stays : ℕ → List (ℕ × ℕ) → ℕ × ℕ → Bool
stays head live log = not (nat_lt log.0 head && (bytes_of live log.0 == 0))

-- these are the live bytes of the layout, and this is its head
pub record IsOfLayout (live : List (ℕ × ℕ)) (number : ℕ) (l : Layout) : Type 0 where
  pub live_is : AreOf (tables l) live
  pub head_is : number ≡ head l

-- ---- what there is of a log

-- by its number and its length, where these are the live bytes
abbrev pub stat_by : List (ℕ × ℕ) → ℕ × ℕ → SegmentStat
stat_by live log = record { segment = log.0; bytes = log.1 - 16; live = bytes_of live log.0 }

-- with no more live than there is, which leaves as much garbage
abbrev pub capped : SegmentStat → SegmentStat
capped x = record x { live = min x.live x.bytes }

abbrev pub share_by : List (ℕ × ℕ) → ℕ × ℕ → SegmentStat
share_by live log = capped (stat_by live log)
