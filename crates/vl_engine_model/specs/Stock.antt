-- What an engine keeps tidy of its files: which numbers were drawn, what is retired, and what pins need.
use Rattle.std.specs.Prelude.{◌≡◌, ◌⊎◌, ℕ, ◌<◌, ◌≤◌, ◌==◌, Bool, false, List, [], ◌∷◌, ◌++◌, map}
use Rattle.std.specs.List.{AllByRecursion, list_any}
use Rattle.vl_model.specs.Numbers.{has}
use Rattle.vl_model.specs.declared.entry.Entry.{Entry}
use Rattle.vl_model.specs.declared.entry.Body.{Body}
use Rattle.vl_model.specs.declared.entry.Body.TheVariants.{Inline, Gone, Far, Logged}
use Rattle.vl_model.specs.Cutting.{points_of}
use Rattle.vl_model.specs.declared.point.Point.{Point}
use Rattle.vl_engine_model.specs.Jobs.{AreDistinct, lent_numbers, loose}
use Rattle.vl_engine_model.specs.Rulings.Sweep.{is_same, pins}
use Rattle.vl_engine_model.specs.Sources.{needed, log_of, tables}
use Rattle.vl_engine_model.specs.declared.file_name.FileName.{FileName}
use Rattle.vl_engine_model.specs.declared.file_name.FileName.TheVariants.{Log, Table as TableFile, Manifest}
use Rattle.vl_engine_model.specs.declared.file_name.Retired.{Retired}
use Rattle.vl_engine_model.specs.declared.layout.Layout.{Layout}
use Rattle.vl_engine_model.specs.declared.live.Pin.{Pin}
use Rattle.vl_engine_model.specs.declared.segment.Segment.{Segment}
use Rattle.vl_engine_model.specs.declared.table.Table.{Table}

-- whether a file is among these
abbrev pub is_in : FileName → List FileName → Bool
is_in f fs = list_any (is_same f) fs

-- ---- tables

-- whether points lead into a segment
abbrev pub leads : ℕ → List Point → Bool
leads segment ps = list_any (λ (p : Point). segment == p.segment) ps

abbrev pub is_body_into : ℕ → Body → Bool
is_body_into segment (Inline value) = false
is_body_into segment Gone = false
is_body_into segment (Far pointer) = segment == pointer.segment
is_body_into segment (Logged value pointer) = false

-- whether an entry of a table leads into a segment
abbrev pub is_into : ℕ → Entry → Bool
is_into segment e = is_body_into segment e.body

abbrev pub HasBytesAt : Body → Type 0
HasBytesAt (Inline value) = Unit {0}
HasBytesAt Gone = Unit {0}
HasBytesAt (Far pointer) = 0 < pointer.length
HasBytesAt (Logged value pointer) = Unit {0}

-- a record has some length
abbrev pub HasBytes : Entry → Type 0
HasBytes e = HasBytesAt e.body

-- a table's footer is true, and its records have lengths
pub record IsFooted (t : Table) : Type 0 where
  pub points : t.points ≡ points_of t.entries
  pub bytes : AllByRecursion HasBytes t.entries

-- ---- numbers and pins

-- the file's number was given already
abbrev pub IsDrawn : ℕ → ℕ → FileName → Type 0
IsDrawn next_log next_table (Log n) = n < next_log
IsDrawn next_log next_table (TableFile n) = n < next_table
IsDrawn next_log next_table (Manifest n) = ⊥

abbrev pub IsUnneeded : List FileName → Retired → Type 0
IsUnneeded needs r = is_in r.file needs ≡ false

-- the pin is below the number that the file's retirement made, or doesn't need the file
abbrev pub IsOff : Pin → Retired → Type 0
IsOff p r = (p.epoch < r.epoch) ⊎ (is_in r.file p.needs ≡ false)

pub record IsPinned (version : ℕ) (retired : List Retired) (p : Pin) : Type 0 where
  pub old : p.epoch ≤ version
  pub off : AllByRecursion (IsOff p) retired

abbrev pub IsFalling : List Segment → Type 0
IsFalling [] = Unit {0}
IsFalling (s ∷ ss) = AllByRecursion (λ (t : Segment). t.number < s.number) ss × IsFalling ss

pub record IsStocked (l : Layout) : Type 0 where
  -- a retired file is needed by no source, and its number was given
  pub unneeded : AllByRecursion (IsUnneeded (needed l)) l.retired
  pub retired_drawn : AllByRecursion (λ (r : Retired). IsDrawn l.next_log l.next_table r.file) l.retired
  -- a pin at or above its retirement doesn't need it either
  pub pinned : AllByRecursion (IsPinned l.epoch l.retired) (pins l)
  pub tables_drawn : AllByRecursion (λ (t : Table). t.number < l.next_table) (tables l)
  pub logs_drawn : AllByRecursion (λ (s : Segment). s.number < l.next_log) (l.active ∷ l.frozen)
  pub flushed_drawn : AllByRecursion (λ (s : Segment). s.number < l.next_log) l.flushed
  -- the logs of memtables fall from the active one on
  pub falling : IsFalling (l.active ∷ l.frozen)
  pub footed : AllByRecursion IsFooted (tables l)

abbrev pub PointsDrawn : ℕ → Table → Type 0
PointsDrawn next_log t = AllByRecursion (λ (p : Point). p.segment < next_log) t.points

pub record IsDrawnWhole (l : Layout) : Type 0 where
  pub points : AllByRecursion (PointsDrawn l.next_log) (tables l)
  pub pins_drawn : AllByRecursion (λ (p : Pin). AllByRecursion (IsDrawn l.next_log l.next_table) p.needs) (pins l)

-- ---- what is lent

-- with the files that were lent to the open job as retired at 0
abbrev pub with_lent : Layout → Layout
with_lent l = record l { retired = loose (lent_numbers l.job) ++ l.retired }

-- the file isn't lent
abbrev pub IsNotLent : List ℕ → FileName → Type 0
IsNotLent lent (Log n) = Unit {0}
IsNotLent lent (TableFile n) = has n lent ≡ false
IsNotLent lent (Manifest n) = Unit {0}

abbrev pub files_of : List Retired → List FileName
files_of rs = map (λ (r : Retired). r.file) rs

-- no file stands twice
abbrev pub AreOnce : List FileName → Type 0
AreOnce [] = Unit {0}
AreOnce (f ∷ fs) = (is_in f fs ≡ false) × AreOnce fs

-- the log is none of these files
abbrev pub IsLogOff : List FileName → Segment → Type 0
IsLogOff fs s = is_in (log_of s) fs ≡ false

-- What an engine keeps of its files: lent ones are needed by nothing either, and none of them is
-- retired; no file is retired twice, and none of the logs that aren't retired.
pub record IsWellStocked (l : Layout) : Type 0 where
  pub stocked : IsStocked (with_lent l)
  pub drawn : IsDrawnWhole l
  pub lent_once : AreDistinct (lent_numbers l.job)
  pub lent_apart : AllByRecursion (λ (r : Retired). IsNotLent (lent_numbers l.job) r.file) l.retired
  pub once : AreOnce (files_of l.retired)
  pub flushed_apart : AllByRecursion (IsLogOff (files_of l.retired)) l.flushed

-- the numbers that logs and tables may still be given don't fall
pub record HaveRisen (before now : Layout) : Type 0 where
  pub log : before.next_log ≤ now.next_log
  pub table : before.next_table ≤ now.next_table

-- ---- what is removed

-- a file that is needed by no source, and by no pin
pub record IsLoose (l : Layout) (f : FileName) : Type 0 where
  pub sources : is_in f (needed l) ≡ false
  pub pins_off : AllByRecursion (λ (p : Pin). is_in f p.needs ≡ false) (pins l)
  pub drawn : IsDrawn l.next_log l.next_table f
