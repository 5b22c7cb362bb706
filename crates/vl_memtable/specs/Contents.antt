-- What a memtable shows: its entries in order, and how long its runs are.
use Rattle.std.specs.Prelude.{◌≡◌, ◌<◌, ℕ, true, List, [], ◌∷◌, ◌++◌, length, map, None}
use Rattle.std.specs.List.{AllByRecursion}
use Rattle.vl_model.specs.Entries.{in_order}
use Rattle.vl_model.specs.Winners.{exact}
use Rattle.vl_model.specs.declared.entry.Entry.{Entry}
use Rattle.vl_model.specs.declared.span.Span.{Span}
use Rattle.vl_model.specs.declared.way.Way.{Way}
use Rattle.vl_model.specs.EntryOrder.{IsInOrder, along, within}
use Rattle.vl_model.specs.Merging.{IsAlong}
use Rattle.vl_memtable.specs.Lengths.{doubles}

-- the entries in order, and the lengths of the runs, the newest first
pub record Contents : Type 0 where
  pub entries : List Entry
  pub lengths : List ℕ

-- the entries of all runs, end to end
abbrev pub all_of : List (List Entry) → List Entry
all_of [] = []
all_of (run ∷ runs) = run ++ all_of runs

abbrev pub contents_of : List (List Entry) → Contents
contents_of runs = record { entries = in_order (all_of runs); lengths = map length runs }

-- no key and version stands there twice
abbrev pub IsApart : List Entry → Type 0
IsApart es = length (in_order es) ≡ length es

-- of the runs, newest first, none is empty or has a key and version of another, and each has at least twice the
-- entries of the next newer one
pub record AreRuns (runs : List (List Entry)) : Type 0 where
  pub rising : AllByRecursion IsInOrder runs
  pub some : AllByRecursion (λ run. 0 < length run) runs
  pub apart : IsApart (all_of runs)
  pub double : doubles (map length runs) ≡ true

-- no entry has a key and version of these
abbrev pub IsNewTo : List Entry → List Entry → Type 0
IsNewTo es run = AllByRecursion (λ e. exact es e.key e.version ≡ None) run

-- what cursors have left is the entries of lists in order, one for each run, that have together all entries; and each
-- goes along the way, as a merge asks of its sources
pub record GiveAll (way : Way) (held : Contents) (left : List (List Entry)) : Type 0 where
  pub runs : List (List Entry)
  pub each : left ≡ map (along way) runs
  pub rising : AllByRecursion IsInOrder runs
  pub entries : held.entries ≡ in_order (all_of runs)
  pub lengths : held.lengths ≡ map length runs
  pub along : AllByRecursion (IsAlong way) left

-- likewise of cursors over the entries whose keys are in an interval
pub record GiveWithin (span : Span) (way : Way) (held : Contents) (left : List (List Entry)) : Type 0 where
  pub runs : List (List Entry)
  pub each : left ≡ map (λ run. along way (within span run)) runs
  pub rising : AllByRecursion IsInOrder runs
  pub entries : held.entries ≡ in_order (all_of runs)
  pub along : AllByRecursion (IsAlong way) left
