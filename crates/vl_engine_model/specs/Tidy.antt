-- What an engine keeps tidy, whatever is asked of it.
use Rattle.std.specs.Prelude.{◌≡◌, ℕ, ◌≤◌, ◌==◌, true, if◌then◌else◌, List, [], ◌∷◌, ◌++◌, map, Option, Some, None}
use Rattle.std.specs.List.{AllByRecursion}
use Rattle.vl_model.specs.History.{History, last_number}
use Rattle.vl_model.specs.Limits.{max_commit_number}
use Rattle.vl_model.specs.Placement.{is_body_placed}
use Rattle.vl_model.specs.Winners.{Logs}
use Rattle.vl_model.specs.declared.entry.Entry.{Entry}
use Rattle.vl_model.specs.declared.entry.Body.{Body}
use Rattle.vl_model.specs.declared.entry.Body.TheVariants.{Inline, Gone, Far, Logged}
use Rattle.vl_engine_model.specs.Jobs.{AreDistinct}
use Rattle.vl_engine_model.specs.Logs.{log_length}
use Rattle.vl_engine_model.specs.OpenJobs.{IsOpenWell}
use Rattle.vl_engine_model.specs.Ruling.{Ruling}
use Rattle.vl_engine_model.specs.Shown.{IsOf, ShowsLow}
use Rattle.vl_engine_model.specs.Sources.{sources, tables}
use Rattle.vl_engine_model.specs.Stock.{IsWellStocked}
use Rattle.vl_engine_model.specs.Tables.{new_table}
use Rattle.vl_engine_model.specs.TidyLevels.{AreLevels}
use Rattle.vl_engine_model.specs.declared.job.OpenJob.{OpenJob}
use Rattle.vl_engine_model.specs.declared.layout.Layout.{Layout}
use Rattle.vl_engine_model.specs.declared.segment.Segment.{Segment}
use Rattle.vl_engine_model.specs.declared.table.Table.{Table}

-- ---- logs

-- the logs that take no more frames, and aren't retired
abbrev pub sealed : Layout → List Segment
sealed l = l.frozen ++ l.flushed

abbrev pub log_numbers : List Segment → List ℕ
log_numbers ss = map (λ (s : Segment). s.number) ss

-- the log's length is that of its frames
abbrev pub IsTrueLog : Segment → Type 0
IsTrueLog s = s.length ≡ log_length s.format s.frames

-- the format of the log with this number
abbrev pub format_of : List Segment → ℕ → Option ℕ
format_of [] number = None
format_of (s ∷ ss) number = if s.number == number then Some s.format else format_of ss number

-- ---- tables

-- the table is what its entries come to
abbrev pub IsTrueTable : Table → Type 0
IsTrueTable t = t ≡ new_table t.format t.number t.entries

-- A value that stands beside its key is short enough, and a longer one lies in one of these logs, in whose
-- format its record has room for no shorter one.
abbrev pub IsPlacedAt : List Segment → List ℕ → Body → Type 0
IsPlacedAt ss key (Inline value) = is_body_placed 1 key (Inline value) ≡ true
IsPlacedAt ss key Gone = Unit {0}
IsPlacedAt ss key (Far pointer) = (format : ℕ) × (format_of ss pointer.segment ≡ Some format)
    × (is_body_placed format key (Far pointer) ≡ true)
IsPlacedAt ss key (Logged value pointer) = ⊥

abbrev pub IsPlacedIn : List Segment → Entry → Type 0
IsPlacedIn ss e = IsPlacedAt ss e.key e.body

-- ---- all of it

pub record IsTidy (logs : Logs) (l : Layout) (h : History) : Type 0 where
  -- files: numbers, what is retired, what pins need
  pub files : IsWellStocked l
  -- levels: seven, no number twice, true ranges, apart from level 1 on
  pub levels : AreLevels l.levels
  pub true_tables : AllByRecursion IsTrueTable (tables l)
  pub true_logs : AllByRecursion IsTrueLog (l.active ∷ sealed l)
  pub distinct : AreDistinct (log_numbers (l.active ∷ sealed l))
  -- a far value lies in a sealed log
  pub placed : AllByRecursion (λ (t : Table). AllByRecursion (IsPlacedIn (sealed l)) t.entries) (tables l)
  -- each entry is of a version of its key, so that none is above the last number
  pub versions : AllByRecursion (IsOf h) (sources l)
  pub last : last_number h ≤ max_commit_number
  pub some : 1 ≤ l.keep
  pub since : l.since ≤ last_number h
  -- each key is shown from the least number on at which it can be read
  pub shows : ShowsLow logs l h
  -- a job that is open can be put in
  pub job : (o : OpenJob) → l.job ≡ Some o → IsOpenWell l h o.job o.moved

-- all that a ruling leaves
abbrev pub IsRuledTidy : {A : Type 0} → Logs → Ruling A → Type 0
IsRuledTidy logs r = IsTidy logs r.layout r.history
