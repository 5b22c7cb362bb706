-- How much of a segment is garbage, and which segment has the greatest share of it.
use Rattle.std.specs.Prelude.{ℕ, ◌-◌, ◌*◌, Bool, ◌&&◌, ◌||◌, ◌==◌, nat_le, nat_lt, if◌then◌else◌, List, [], ◌∷◌, map, Option, Some, None}
use Rattle.std.specs.List.{sum_by, filter}
use Rattle.vl_model.specs.declared.entry.Entry.{Entry}
use Rattle.vl_model.specs.declared.entry.Body.{Body}
use Rattle.vl_model.specs.declared.entry.Body.TheVariants.{Inline, Gone, Far, Logged}
use Rattle.vl_engine_model.specs.Sources.{tables, head}
use Rattle.vl_engine_model.specs.declared.layout.Layout.{Layout}
use Rattle.vl_engine_model.specs.declared.segment.Segment.{Segment}
use Rattle.vl_engine_model.specs.declared.segment.SegmentStat.{SegmentStat}
use Rattle.vl_model.specs.declared.point.Point.{Point}
use Rattle.vl_engine_model.specs.declared.table.Table.{Table}

-- the length of a record where it lies in the segment
abbrev pub far_length : ℕ → Body → ℕ
far_length segment (Inline value) = 0
far_length segment Gone = 0
far_length segment (Far pointer) = if pointer.segment == segment then pointer.length else 0
far_length segment (Logged value pointer) = 0

-- the sum of the lengths of all records that some entries lead to in a segment
abbrev pub far_bytes : ℕ → List Entry → ℕ
far_bytes segment es = sum_by (λ (e : Entry). far_length segment e.body) es

-- the same by a footer
abbrev pub pointed_bytes : ℕ → List Point → ℕ
pointed_bytes segment ps = sum_by (λ (p : Point). if p.segment == segment then p.bytes else 0) ps

-- what is live of a segment: all that current tables lead to, by their footers
abbrev pub live_bytes : List Table → ℕ → ℕ
live_bytes ts segment = sum_by (λ (t : Table). pointed_bytes segment t.points) ts

-- what there is behind the header
abbrev pub segment_bytes : Segment → ℕ
segment_bytes s = s.length - 16

abbrev pub stat_of : List Table → Segment → SegmentStat
stat_of ts s = record { segment = s.number; bytes = segment_bytes s; live = live_bytes ts s.number }

-- what is garbage of it, none where more is live than there is
abbrev pub discard : SegmentStat → ℕ
discard x = x.bytes - x.live

-- there is something, and of it at least so many per cent is garbage
abbrev pub is_worth : ℕ → SegmentStat → Bool
is_worth percent x = nat_lt 0 x.bytes && nat_le (percent * x.bytes) (discard x * 100)

-- its share of garbage is the greater one, or is the same and its number is the lesser one
abbrev pub is_better : SegmentStat → SegmentStat → Bool
is_better x y =
    nat_lt (discard y * x.bytes) (discard x * y.bytes)
    || ((discard y * x.bytes == discard x * y.bytes) && nat_lt x.segment y.segment)

abbrev pub better_of : SegmentStat → Option SegmentStat → Option SegmentStat
better_of x None = Some x
better_of x (Some y) = if is_better x y then Some x else Some y

abbrev pub best_of : List SegmentStat → Option SegmentStat
best_of [] = None
best_of (x ∷ xs) = better_of x (best_of xs)

-- the segments that may be collected: below head, and not retired
abbrev pub collectable : Layout → List Segment
collectable l = filter (λ (s : Segment). nat_lt s.number (head l)) l.flushed

-- of those that are worth it the one with the greatest share of garbage
abbrev pub best : Layout → ℕ → Option SegmentStat
best l percent = best_of (filter (is_worth percent) (map (stat_of (tables l)) (collectable l)))
