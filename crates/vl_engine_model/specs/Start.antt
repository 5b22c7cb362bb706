-- The layout that an opening leaves. Only here are all of its parts written.
use Rattle.std.specs.Prelude.{ℕ, ◌+◌, ◌<◌, max, Bool, true, false, not, List, [], ◌∷◌, ◌++◌, None}
use Rattle.std.specs.List.{AllByRecursion, filter, flat_map}
use Rattle.vl_model.specs.Formats.{log_format}
use Rattle.vl_model.specs.declared.log_frame.LogFrame.{LogFrame}
use Rattle.vl_engine_model.specs.Logs.{new_segment}
use Rattle.vl_engine_model.specs.Rising.{IsRising}
use Rattle.vl_engine_model.specs.Stock.{IsFooted, PointsDrawn}
use Rattle.vl_engine_model.specs.declared.layout.Layout.{Layout}
use Rattle.vl_engine_model.specs.declared.segment.Segment.{Segment}
use Rattle.vl_engine_model.specs.declared.table.Table.{Table}

-- what an opening found and made
pub record Recovered : Type 0 where
  -- the tables that the manifest names, level by level
  pub levels : List (List Table)
  -- the logs from head on, but for the active one, by rising numbers, and the ones below head into
  -- which tables lead
  pub logs : List Segment
  pub below : List Segment
  -- the number of the log that it left as the active one, or made, which has no frames and the format that
  -- is written
  pub active : ℕ
  -- what the manifest that it made says
  pub covered : ℕ
  pub next_log : ℕ
  pub next_table : ℕ
  pub keep : ℕ
  pub since : ℕ
  -- a manifest of before format 4 doesn't tell it: then it is the covered number
  pub gone : ℕ

abbrev pub is_any : List LogFrame → Bool
is_any [] = false
is_any (f ∷ fs) = true

abbrev pub has_frames : Segment → Bool
has_frames s = is_any s.frames

abbrev pub newest_first : List Segment → List Segment
newest_first [] = []
newest_first (s ∷ ss) = newest_first ss ++ s ∷ []

-- The logs with frames have memtables, and nothing is live, open, retired or failed. The next log has a
-- number above the active one's, which the manifest may not know.
abbrev pub layout_at_start : ℕ → Recovered → Layout
layout_at_start room found = record {
  active = new_segment log_format found.active [];
  frozen = newest_first (filter has_frames found.logs);
  flushed = filter (λ s. not (has_frames s)) found.logs ++ found.below;
  levels = found.levels;
  covered = found.covered;
  next_log = max found.next_log (found.active + 1);
  next_table = found.next_table;
  epoch = 0;
  room = room;
  live = [];
  job = None;
  pass = None;
  retired = [];
  halted = None;
  keep = found.keep;
  since = found.since;
  gone = found.gone;
}

-- the levels from 0 to the deepest, without tables
abbrev pub no_tables : List (List Table)
no_tables = [] ∷ [] ∷ [] ∷ [] ∷ [] ∷ [] ∷ [] ∷ []

-- an opening found nothing, and made the first log
abbrev pub nothing_found : Recovered
nothing_found = record {
  levels = no_tables;
  logs = [];
  below = [];
  active = 1;
  covered = 0;
  next_log = 1;
  next_table = 1;
  keep = 1;
  since = 0;
  gone = 0;
}

-- of a new store
abbrev pub fresh_layout : ℕ → Layout
fresh_layout room = layout_at_start room nothing_found

-- ---- what is so of what an opening found

abbrev pub number_of_log : Segment → ℕ
number_of_log s = s.number

abbrev pub tables_found : Recovered → List Table
tables_found found = flat_map (λ ts. ts) found.levels

-- its logs rise up to the active one; tables have true footers, and numbers below the next ones, as the
-- logs below head and those that points tell have
pub record IsWellRecovered (found : Recovered) : Type 0 where
  pub rising : IsRising number_of_log found.logs
  pub before : AllByRecursion (λ (s : Segment). s.number < found.active) found.logs
  pub below : AllByRecursion (λ (s : Segment). s.number < max found.next_log (found.active + 1)) found.below
  pub tables : AllByRecursion (λ (t : Table). t.number < found.next_table) (tables_found found)
  pub footed : AllByRecursion IsFooted (tables_found found)
  pub points : AllByRecursion (PointsDrawn (max found.next_log (found.active + 1))) (tables_found found)
