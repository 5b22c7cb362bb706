-- Worked scripts, which hold by computing: what each line is answered.
use Rattle.std.proofs.Common.{◌≡◌, ℕ, List, [], ◌∷◌, ◌++◌, map, length, refl}
use Rattle.std.specs.Prelude.{replicate}
use Rattle.vl_model.specs.Keys.{tagged, untagged}
use Rattle.vl_model.specs.Placement.{placed}
use Rattle.vl_model.specs.declared.change.Change.TheVariants as change
use Rattle.vl_model.specs.declared.log_frame.LogFrame.{LogFrame}
use Rattle.vl_model.specs.declared.log_frame.LogFrame.TheVariants.{Committed}
use Rattle.vl_model.specs.declared.way.Way.TheVariants.{Up, Down}
use Rattle.vl_engine_model.specs.Logs.{memtable, new_segment}
use Rattle.vl_engine_model.specs.Start.{layout_at_start}
use Rattle.vl_engine_model.specs.Tables.{new_table}
use Rattle.vl_engine_model.specs.Sources.{tables}
use Rattle.vl_engine_model.specs.Store.Lines.{Line, Begin, View, Get, GetTagged, GetAt, Set, SetTagged, Delete, Scan}
use Rattle.vl_engine_model.specs.Store.Lines.{Commit, Drop, Rotate, Flush, Plan, Drain, Install, Pick, Batch, Move, Sweep}
use Rattle.vl_engine_model.specs.Store.Lines.{Stats, Keep, Answer, Done, Number, Value, ValueTagged, NoValue, Dropped, Rows}
use Rattle.vl_engine_model.specs.Store.Lines.{Taken, Unknown, ReadOnly, Invalid, Nothing, Conflict, Full, Raced, Rejected}
use Rattle.vl_engine_model.specs.Store.Lines.{NoRewrite, Found, End, Moved, Removed, Segments}
use Rattle.vl_engine_model.specs.Store.Dispatch.{answers, answers_until, calls_of, new_store, state_behind}
use Rattle.vl_engine_model.specs.Store.Things.{State}
use Rattle.vl_engine_model.specs.declared.segment.SegmentStat.{SegmentStat}
use Rattle.vl_engine_model.specs.declared.table.Table.{Table}

abbrev store : State
store = new_store 1073741824

-- the longest value that stands beside its key, and two longer ones
abbrev short : List ℕ
short = replicate 64 0xaa

abbrev long : List ℕ
long = replicate 65 0xaa

abbrev long_too : List ℕ
long_too = replicate 65 0xbb

abbrev n1 : List ℕ
n1 = 1 ∷ []

abbrev n2 : List ℕ
n2 = 2 ∷ []

abbrev n3 : List ℕ
n3 = 3 ∷ []

-- keys, which serve as names too
abbrev k1 : List ℕ
k1 = 0x61 ∷ []

abbrev k2 : List ℕ
k2 = 0x62 ∷ []

abbrev k3 : List ℕ
k3 = 0x63 ∷ []

abbrev k8 : List ℕ
k8 = 0x68 ∷ []

abbrev k10 : List ℕ
k10 = 0x6a ∷ []

abbrev low : List ℕ
low = 0x60 ∷ []

abbrev high : List ℕ
high = 0x70 ∷ []

abbrev t : List ℕ
t = 0x74 ∷ []

abbrev v : List ℕ
v = 0x76 ∷ []

abbrev w : List ℕ
w = 0x77 ∷ []

abbrev g : List ℕ
g = 0x67 ∷ []

abbrev j : List ℕ
j = 0x6a ∷ []

abbrev k : List ℕ
k = 0x6b ∷ []

abbrev o : List ℕ
o = 0x6f ∷ []

abbrev stat : ℕ → ℕ → ℕ → SegmentStat
stat segment bytes live = record { segment = segment; bytes = bytes; live = live }

-- a transaction of one write
abbrev sets : List ℕ → List ℕ → List Line
sets key value = Begin t ∷ Set t key value ∷ Commit t ∷ []

-- ---- conflicts

key_overwritten : answers store (Begin k1 ∷ Begin k2 ∷ Get k1 k1 ∷ Set k2 k1 n1 ∷ Commit k2 ∷ Set k1 k2 n1 ∷ Commit k1 ∷ [])
    ≡ Number 0 ∷ Number 0 ∷ NoValue ∷ Done ∷ Number 1 ∷ Done ∷ Conflict k1 1 ∷ []
key_overwritten = refl

nothing_written : answers store (Begin k1 ∷ Begin k2 ∷ Get k1 k1 ∷ Set k2 k1 n1 ∷ Commit k2 ∷ Commit k1 ∷ [])
    ≡ Number 0 ∷ Number 0 ∷ NoValue ∷ Done ∷ Number 1 ∷ Nothing ∷ []
nothing_written = refl

interval_overwritten : answers store
    (Begin k1 ∷ Begin k2 ∷ Scan Up k1 low high 10 ∷ Scan Up k2 low high 10 ∷ Set k1 k1 n1 ∷ Set k2 k2 n2 ∷ Commit k1 ∷ Commit k2 ∷ [])
    ≡ Number 0 ∷ Number 0 ∷ Rows [] ∷ Rows [] ∷ Done ∷ Done ∷ Number 1 ∷ Conflict k1 1 ∷ []
interval_overwritten = refl

abbrev limited : ℕ → List Line
limited rows = Begin t ∷ Set t k2 n1 ∷ Commit t ∷ Begin k1 ∷ Scan Up k1 low high rows ∷ Begin k2 ∷ Set k2 k8 n2 ∷ Commit
    k2 ∷ Set k1 k10 n3 ∷ Commit k1 ∷ []

limit_met : answers store (limited 1)
    ≡ Number 0 ∷ Done ∷ Number 1 ∷ Number 1 ∷ Rows ((k2, n1) ∷ []) ∷ Number 1 ∷ Done ∷ Number 2 ∷ Done ∷ Number 3 ∷ []
limit_met = refl

limit_not_met : answers store (limited 2)
    ≡ Number 0 ∷ Done ∷ Number 1 ∷ Number 1 ∷ Rows ((k2, n1) ∷ []) ∷ Number 1 ∷ Done ∷ Number 2 ∷ Done ∷ Conflict k8 2 ∷ []
limit_not_met = refl

-- ---- a short and a long value

abbrev two_values : List Line
two_values = Begin t ∷ Set t k1 short ∷ Set t k2 long ∷ Commit t ∷ Rotate ∷ Flush ∷ []

two_values_told : answers store (two_values ++ Stats ∷ [])
    ≡ Number 0 ∷ Done ∷ Done ∷ Number 1 ∷ Number 1 ∷ Number 1 ∷ Segments (stat 1 172 74 ∷ stat 2 0 0 ∷ []) ∷ []
two_values_told = refl

two_values_table : map (λ (x : Table). x.length) (tables (state_behind store two_values).layout) ≡ 279 ∷ []
two_values_table = refl

-- ---- an older version in the newest source

abbrev first_version : List Line
first_version = sets k1 long ++ Rotate ∷ Flush ∷ []

abbrev first_answers : List Answer
first_answers = Number 0 ∷ Done ∷ Number 1 ∷ Number 1 ∷ Number 1 ∷ []

older_moved : answers store
    (first_version ++ View v ∷ sets k1 long_too ++ Rotate ∷ Flush ∷ Pick g 1 ∷ Batch g ∷ Move g ∷ Batch g ∷ Drop g ∷ Get v
    k1 ∷ View w ∷ Get w k1 ∷ Stats ∷ [])
    ≡ first_answers ++ Number 1 ∷ Number 1 ∷ Done ∷ Number 2 ∷ Number 2 ∷ Number 2 ∷ Number 1 ∷ Found 1 ∷ Moved 1 ∷ End
    ∷ Done ∷ Value long ∷ Number 2 ∷ Value long_too
    ∷ Segments (stat 1 99 74 ∷ stat 2 99 74 ∷ stat 3 99 0 ∷ []) ∷ []
older_moved = refl

-- ---- a deletion that a merge drops, or must keep

abbrev other_three : List Line
other_three =
    Begin t ∷ Delete t k1 ∷ Commit t ∷ Rotate ∷ Flush ∷ sets k2 n1 ++ Rotate ∷ Flush ∷ sets k3 n1 ++ Rotate ∷ Flush ∷ []

abbrev four : List Line
four = first_version ++ other_three

abbrev three_answers : List Answer
three_answers = Number 1 ∷ Done ∷ Number 2 ∷ Number 2 ∷ Number 2 ∷ Number 2 ∷ Done ∷ Number 3 ∷ Number 3 ∷ Number 3
    ∷ Number 3 ∷ Done ∷ Number 4 ∷ Number 4 ∷ Number 4 ∷ []

abbrev revival : List Line
revival = Pick g 1 ∷ Batch g ∷ Plan j ∷ Move g ∷ Install j ∷ View v ∷ Get v k1 ∷ Plan k ∷ Install k ∷ Get v k1 ∷ Drop v
    ∷ Drop g ∷ Sweep ∷ []

-- logs 1 to 4, tables 1 to 4, and the table of the merge that raced
revived : answers store (four ++ revival)
    ≡ first_answers ++ three_answers ++ Number 1 ∷ Found 1 ∷ Number 2 ∷ Moved 1 ∷ Raced k1 ∷ Number 4 ∷ NoValue ∷ Number
    3 ∷ Done ∷ NoValue ∷ Done ∷ Done ∷ Removed 9 ∷ []
revived = refl

new_table_is : map (λ (x : Table). x.number) (tables (state_behind store (four ++ revival)).layout) ≡ 6 ∷ []
new_table_is = refl

stale_batch : answers store
    (four ++ Pick g 1 ∷ Batch g ∷ Plan j ∷ Install j ∷ Move g ∷ Batch g ∷ Drop g ∷ Sweep ∷ View v ∷ Get v k1 ∷ Get v k2 ∷ [])
    ≡ first_answers ++ three_answers ++ Number 1 ∷ Found 1 ∷ Number 2 ∷ Done ∷ Moved 0 ∷ End ∷ Done ∷ Removed 8 ∷ Number
    4 ∷ NoValue ∷ Value n1 ∷ []
stale_batch = refl

-- a merge beside a view of an older number, and without one
merged_under_a_view : answers store (first_version ++ View o ∷ other_three ++ Plan j ∷ Install j ∷ Get o k1 ∷ View w ∷ Get w k1 ∷ [])
    ≡ first_answers ++ Number 1 ∷ three_answers ++ Number 4 ∷ Done ∷ Value long ∷ Number 4 ∷ NoValue ∷ []
merged_under_a_view = refl

merged_alone : answers store (four ++ Plan j ∷ Install j ∷ View w ∷ Get w k1 ∷ [])
    ≡ first_answers ++ three_answers ++ Number 2 ∷ Done ∷ Number 4 ∷ NoValue ∷ []
merged_alone = refl

-- a merge that is given up: logs 2 to 4, and its table
given_up : answers store (four ++ Plan j ∷ Drop j ∷ Sweep ∷ []) ≡ first_answers ++ three_answers ++ Number 2 ∷ Done ∷ Removed 4 ∷ []
given_up = refl

-- ---- a pointer that is shadowed keeps its log alive until a drain

abbrev moved_once : List Line
moved_once = Pick g 1 ∷ Batch g ∷ Move g ∷ []

shadowed : answers store
    (first_version ++ moved_once ++ Drop g ∷ Sweep ∷ Drain j 1 ∷ Install j ∷ Sweep ∷ View v ∷ Get v k1 ∷ Rotate ∷ Flush
    ∷ View w ∷ Get w k1 ∷ [])
    ≡ first_answers ++ Number 1 ∷ Found 1 ∷ Moved 1 ∷ Done ∷ Removed 0 ∷ Number 0 ∷ Done ∷ Removed 2 ∷ Number 1 ∷ Value
    long ∷ Number 2 ∷ Number 2 ∷ Number 1 ∷ Value long ∷ []
shadowed = refl

pinned : answers store (first_version ++ View o ∷ moved_once ++ Drop g ∷ Sweep ∷ Drain j 1 ∷ Install j ∷ Sweep ∷ Get o
    k1 ∷ Drop o ∷ Sweep ∷ [])
    ≡ first_answers ++ Number 1 ∷ Number 1 ∷ Found 1 ∷ Moved 1 ∷ Done ∷ Removed 0 ∷ Number 0 ∷ Done ∷ Removed 0 ∷ Value
    long ∷ Done ∷ Removed 2 ∷ []
pinned = refl

-- behind the six calls of an opening; the move's append is the seventeenth call that changes files, its sync the next
calls_made : calls_of store (first_version ++ moved_once) ≡ 0 ∷ 0 ∷ 2 ∷ 3 ∷ 5 ∷ 0 ∷ 0 ∷ 2 ∷ []
calls_made = refl

-- and with a merge, two removals, and a second rotation and flush thirty are made
calls_to_the_end : calls_of (state_behind store (first_version ++ moved_once))
    (Drop g ∷ Sweep ∷ Drain j 1 ∷ Install j ∷ Sweep ∷ View v ∷ Get v k1 ∷ Rotate ∷ Flush ∷ [])
    ≡ 0 ∷ 0 ∷ 0 ∷ 2 ∷ 2 ∷ 0 ∷ 0 ∷ 3 ∷ 5 ∷ []
calls_to_the_end = refl

stopped_in_a_move : map (λ (stop : ℕ). length (answers_until stop 6 store (first_version ++ moved_once)))
    (16 ∷ 17 ∷ 18 ∷ []) ≡ 7 ∷ 7 ∷ 8 ∷ []
stopped_in_a_move = refl

-- ---- shares of garbage

picked_never : answers store (Pick g 0 ∷ Pick g 100 ∷ Pick g 50 ∷ []) ≡ Invalid ∷ Invalid ∷ NoRewrite ∷ []
picked_never = refl

picked_once : answers store (first_version ++ Pick g 1 ∷ Pick (0x68 ∷ []) 1 ∷ Pick (0x68 ∷ []) 0 ∷ []) ≡ first_answers
    ++ Number 1 ∷ Rejected 1 ∷ Invalid ∷ []
picked_once = refl

-- ---- a full log

full_log : answers (new_store 100) (sets k1 n1 ++ sets k1 n1 ++ sets k1 n1 ++ Rotate ∷ Commit t ∷ [])
    ≡ Number 0 ∷ Done ∷ Number 1 ∷ Number 1 ∷ Done ∷ Number 2 ∷ Number 2 ∷ Done ∷ Full 86 35 ∷ Number 1 ∷ Number 3 ∷ []
full_log = refl

-- ---- one long write

one_write_told : answers store (sets (1 ∷ 0xbf ∷ []) (replicate 123 1) ++ Stats ∷ []) ≡ Number 0 ∷ Done ∷ Number 1
    ∷ Segments (stat 1 158 0 ∷ []) ∷ []
one_write_told = refl

-- ---- own writes in a scan

own_writes : answers store
    (Begin t ∷ Set t k1 n1 ∷ Set t k2 n2 ∷ Commit t ∷ Begin k1 ∷ Set k1 k3 n3 ∷ Delete k1 k1 ∷ Scan Up k1 [] [] 10 ∷ Scan
    Down k1 [] [] 1 ∷ [])
    ≡ Number 0 ∷ Done ∷ Done ∷ Number 1 ∷ Number 1 ∷ Done ∷ Done ∷ Rows ((k2, n2) ∷ (k3, n3) ∷ []) ∷ Rows ((k3, n3) ∷ []) ∷ []
own_writes = refl

-- ---- a value's tag

tag_told : answers store
    (Begin t ∷ SetTagged t k1 long 7 ∷ GetTagged t k1 ∷ Commit t ∷ Rotate ∷ Flush ∷ View w ∷ GetTagged w k1 ∷ Get w k1
    ∷ GetTagged w k2 ∷ GetTagged w [] ∷ [])
    ≡ Number 0 ∷ Done ∷ ValueTagged (tagged long 7) ∷ Number 1 ∷ Number 1 ∷ Number 1 ∷ Number 1 ∷ ValueTagged
    (tagged long 7) ∷ Value long ∷ NoValue ∷ Invalid ∷ []
tag_told = refl

-- ---- files of the first formats, which an opening found: one commit of a short and a long value, in a table

abbrev first_frames : List LogFrame
first_frames = Committed 1 ((k1, change.Set (untagged short)) ∷ (k2, change.Set (untagged long)) ∷ []) ∷ []

abbrev first_table : Table
first_table = new_table 1 1 (map placed (memtable (new_segment 1 1 first_frames)))

abbrev first_store : State
first_store = record {
  commits = record { first = 1; base = (1, (k1, change.Set (untagged short)) ∷ (k2, change.Set (untagged long)) ∷ []) ∷ []; commits = [] };
  layout = layout_at_start 1073741824 (record {
    levels = (first_table ∷ []) ∷ [] ∷ [] ∷ [] ∷ [] ∷ [] ∷ [] ∷ [];
    logs = [];
    below = new_segment 1 1 first_frames ∷ [];
    active = 2;
    covered = 1;
    next_log = 2;
    next_table = 2;
    keep = 1;
    since = 0;
    gone = 1;
  });
  things = [];
}

-- what is moved gets the longer form, and the old records keep theirs
first_formats : answers first_store
    (View v ∷ GetTagged v k2 ∷ GetTagged v k1 ∷ Pick g 1 ∷ Batch g ∷ Move g ∷ Stats ∷ Begin t ∷ Set t k1 n1 ∷ Commit t ∷ Rotate ∷ [])
    ≡ Number 1 ∷ ValueTagged (untagged long) ∷ ValueTagged (untagged short) ∷ Number 1 ∷ Found 1 ∷ Moved 1 ∷ Segments
    (stat 1 170 73 ∷ stat 2 99 0 ∷ []) ∷ Number 1 ∷ Done ∷ Number 2 ∷ Number 2 ∷ []
first_formats = refl

first_lengths : (first_table.length ≡ 241) × (first_store.layout.next_log ≡ 3)
first_lengths = (refl, refl)

-- ---- names

names : answers store (Begin k1 ∷ Begin k1 ∷ Get k2 k1 ∷ View k3 ∷ Set k3 k1 n1 ∷ Install (0x71 ∷ []) ∷ [])
    ≡ Number 0 ∷ Taken k1 ∷ Unknown k2 ∷ Number 0 ∷ ReadOnly ∷ Unknown (0x71 ∷ []) ∷ []
names = refl

-- ---- older numbers

abbrev three_versions : List Line
three_versions = sets k1 n1 ++ sets k1 n2 ++ sets k1 n3

abbrev written_three : List Answer
written_three = Number 0 ∷ Done ∷ Number 1 ∷ Number 1 ∷ Done ∷ Number 2 ∷ Number 2 ∷ Done ∷ Number 3 ∷ []

two_are_kept : answers store
    (Keep 2 ∷ three_versions ++ View v ∷ GetAt v k1 3 ∷ GetAt v k1 2 ∷ GetAt v k1 1 ∷ GetAt v k1 4 ∷ GetAt v k2 0 ∷ [])
    ≡ Done ∷ written_three ++ Number 3 ∷ Value n3 ∷ Value n2 ∷ Dropped 2 ∷ Invalid ∷ NoValue ∷ []
two_are_kept = refl

one_is_kept : answers store (three_versions ++ View v ∷ GetAt v k1 2 ∷ []) ≡ written_three ++ Number 3 ∷ Dropped 3 ∷ []
one_is_kept = refl

kept_by_a_merge : answers store (Keep 2 ∷ four ++ Plan j ∷ Install j ∷ View v ∷ GetAt v k1 1 ∷ Get v k1 ∷ Keep 0 ∷ [])
    ≡ Done ∷ first_answers ++ three_answers ++ Number 4 ∷ Done ∷ Number 4 ∷ Value long ∷ NoValue ∷ Invalid ∷ []
kept_by_a_merge = refl
