-- What a layout has: its sources, its head, its floor, and what its version needs.
use Rattle.std.specs.Prelude.{ℕ, min, List, [], ◌∷◌, ◌++◌, map, Option, Some, None}
use Rattle.std.specs.List.{flat_map}
use Rattle.std.specs.Ordering.{nat_cmp}
use Rattle.vl_model.specs.Entries.{by_order}
use Rattle.vl_model.specs.History.{History, last_number}
use Rattle.vl_model.specs.declared.entry.Entry.{Entry}
use Rattle.vl_engine_model.specs.Logs.{memtable}
use Rattle.vl_engine_model.specs.declared.file_name.FileName.{FileName}
use Rattle.vl_engine_model.specs.declared.file_name.FileName.TheVariants.{Log as LogFile, Table as TableFile}
use Rattle.vl_engine_model.specs.declared.layout.Layout.{Layout}
use Rattle.vl_engine_model.specs.declared.live.Live.{Live}
use Rattle.vl_engine_model.specs.declared.segment.Segment.{Segment}
use Rattle.vl_model.specs.declared.point.Point.{Point}
use Rattle.vl_engine_model.specs.declared.table.Table.{Table}

-- the tables of all levels, the newest source first
abbrev pub tables : Layout → List Table
tables l = flat_map (λ level. level) l.levels

abbrev pub numbers_of : List Table → List ℕ
numbers_of ts = map (λ (t : Table). t.number) ts

abbrev pub table_entries : Table → List Entry
table_entries t = t.entries

-- the entries of all sources behind the active memtable: the frozen ones, and the tables
abbrev pub behind_active : Layout → List Entry
behind_active l = flat_map memtable l.frozen ++ flat_map table_entries (tables l)

-- all entries, end to end, the newest source first
abbrev pub sources : Layout → List Entry
sources l = memtable l.active ++ behind_active l

-- of the frozen logs the one that waits longest
abbrev pub oldest : List Segment → Option Segment
oldest [] = None
oldest (s ∷ []) = Some s
oldest (s ∷ t ∷ ss) = oldest (t ∷ ss)

abbrev pub but_oldest : List Segment → List Segment
but_oldest [] = []
but_oldest (s ∷ []) = []
but_oldest (s ∷ t ∷ ss) = s ∷ but_oldest (t ∷ ss)

abbrev pub number_or : Segment → Option Segment → ℕ
number_or active None = active.number
number_or active (Some s) = s.number

-- the least segment whose memtable isn't flushed
abbrev pub head : Layout → ℕ
head l = number_or l.active (oldest l.frozen)

abbrev pub least_number : ℕ → List Live → ℕ
least_number last [] = last
least_number last (x ∷ xs) = min x.number (least_number last xs)

-- the least number at which a live transaction or view reads, else the last one
abbrev pub floor : Layout → History → ℕ
floor l h = least_number (last_number h) l.live

abbrev pub log_of : Segment → FileName
log_of s = LogFile s.number

abbrev pub table_of : Table → FileName
table_of t = TableFile t.number

abbrev pub pointed_logs : Table → List FileName
pointed_logs t = map (λ (p : Point). LogFile p.segment) t.points

-- the files that the version needs: its tables, the logs into which they lead, and the logs of its
-- memtables
abbrev pub needed : Layout → List FileName
needed l =
    map table_of (tables l) ++ flat_map pointed_logs (tables l) ++ map log_of (l.active ∷ l.frozen)

-- a segment at its place among rising numbers
abbrev pub put_segment : Segment → List Segment → List Segment
put_segment s [] = s ∷ []
put_segment s (t ∷ ts) =
    by_order (nat_cmp s.number t.number) (s ∷ t ∷ ts) (s ∷ ts) (t ∷ put_segment s ts)

abbrev pub rising : List Segment → List Segment
rising [] = []
rising (s ∷ ss) = put_segment s (rising ss)
