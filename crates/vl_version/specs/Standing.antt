-- What a scan answers of the blocks that stand, over any disk, also where its tables aren't true.
use Rattle.std.specs.declared.clone.Clone as Clone
use Rattle.vl_disk.specs.declared.reader.HeldFile as HeldFile
use Rattle.std.specs.Prelude.{◌≡◌, ◌⊎◌, ℕ, List, [], ◌∷◌, ◌++◌, map, Option, Some}
use Rattle.std.specs.List.{AllByRecursion, AllZip}
use Rattle.vl_disk.specs.declared.name.Name.{Name}
use Rattle.vl_disk.specs.declared.read_fault.ReadFault.TheVariants.{Damaged}
use Rattle.vl_merge.specs.Standing.{is_beyond}
use Rattle.vl_model.specs.Cutting.{joined}
use Rattle.vl_model.specs.Keys.{Pairs, Row, Writes}
use Rattle.vl_model.specs.Merging.{IsAlong}
use Rattle.vl_model.specs.Reads.{rows_of}
use Rattle.vl_model.specs.declared.entry.Entry.{Entry}
use Rattle.vl_model.specs.declared.span.Span.{Span}
use Rattle.vl_model.specs.declared.way.Way.{Way}
use Rattle.vl_table.specs.CursorParts.{entries_over}
use Rattle.vl_table.specs.declared.table.Table.{Table}
use Rattle.vl_txn.specs.Reads.{scan_of}
use Rattle.vl_version.specs.Gathered.{GiveWinners, span_of}
use Rattle.vl_version.specs.Gives.{left_in}
use Rattle.vl_version.specs.Scans.{MayStandFor, SomeAstray}
use Rattle.vl_version.specs.Sources.{in_memory, stored_in}
use Rattle.vl_version.specs.Whole.{LevelsReadTo, LevelsStop, met_of}
use Rattle.vl_version.specs.declared.levels.Levels.{Levels}
use Rattle.vl_version.specs.declared.source.Source.{Source}
use Rattle.vl_version.specs.declared.version.Version.{Version}

module _ {H : Type 0} (bytes_of : H → Option (List ℕ)) where
  module _ (span : Span) (way : Way) where
    -- Of one source these are the entries of the blocks that stand, as the way goes, cut to the interval. They are in order.
    pub record IsStanding (ts : List (Table H)) (es : List Entry) : Type 0 where
      pub told : entries_over bytes_of span way (met_of span ts) ≡ Some es
      pub along : IsAlong way es

    -- so it is of each table of level 0, the newest first, and of each deeper level
    pub record AreStanding (levels : Levels H) (tabled : List (List Entry)) : Type 0 where
      pub newest : List (List Entry)
      pub deeper : List (List Entry)
      pub each : AllZip (λ t es. IsStanding (t ∷ []) es) levels.newest.items newest
      pub all : AllZip IsStanding levels.deeper.items deeper
      pub are : tabled ≡ newest ++ deeper

    -- These are the entries in memory and of the blocks that stand, end to end, the newest source first.
    pub record HasStanding (version : Version H) (es : List Entry) : Type 0 where
      pub tabled : List (List Entry)
      pub tables : AreStanding version.behind.levels tabled
      pub entries : es ≡ in_memory version ++ joined tabled

  -- These rows are those of the scan of these entries; and of each source all was read whole up to a key behind each row's.
  pub record AreOver (version : Version H) (number : ℕ) (low high : List ℕ) (limit : ℕ) (way : Way) (own : Writes) (es : List Entry)
      (rows : List Row) : Type 0 where
    pub scanned : (pairs : Pairs) → MayStandFor (stored_in bytes_of version.behind.logs.items) es number pairs
        → rows ≡ rows_of pairs (scan_of low high limit way rows own)
    pub whole : AllByRecursion (λ row. LevelsReadTo bytes_of (span_of low high) way (is_beyond way row.0) version.behind.levels) rows

  -- so it is of the entries in memory and of the blocks that stand, whatever stands elsewhere
  abbrev pub RowsOver : Version H → (number : ℕ) → (low high : List ℕ) → (limit : ℕ) → Way → Writes → List Row → Type 0
  RowsOver version number low high limit way own rows =
      (es : List Entry) → HasStanding (span_of low high) way version es → AreOver version number low high limit way own es rows

  -- where damage is answered, it is of the next block that was to be read, or what counts of a key leads there
  abbrev pub DamagedOver : Version H → (number : ℕ) → (low high : List ℕ) → Way → Name → (place : ℕ) → Type 0
  DamagedOver version number low high way name place =
      (es : List Entry) → HasStanding (span_of low high) way version es
      → LevelsStop bytes_of (span_of low high) way version.behind.levels (Damaged name place)
      ⊎ SomeAstray (stored_in bytes_of version.behind.logs.items) es number name place

  -- ---- sources

  module _ {R : Type 0} {g : HeldFile.Ghosts H} {k : Clone.Ghosts H} (span : Span) (way : Way) where
    -- what is left of these sources is told, and of keys in the interval it has the winners of these entries
    pub record ShowWinners (es : List Entry) (sources : List (Source H R g k)) : Type 0 where
      pub left : List (List Entry)
      pub told : map (λ source. left_in bytes_of source) sources ≡ map Some left
      pub give : GiveWinners span way es left

    -- behind the entries of the sources before there are these in those after
    abbrev pub AddsShown : List Entry → List (Source H R g k) → List (Source H R g k) → Type 0
    AddsShown es old new = (before : List Entry) → ShowWinners before old → ShowWinners (before ++ es) new
