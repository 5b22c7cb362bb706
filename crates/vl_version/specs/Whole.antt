-- Up to where a scan read the tables whole, over any disk, also where its tables aren't true.
use Rattle.std.specs.declared.clone.Clone as Clone
use Rattle.vl_disk.specs.declared.reader.HeldFile as HeldFile
use Rattle.std.specs.Prelude.{◌<◌, ◌⊎◌, ℕ, Bool, false, not, List, [], ◌∷◌, length, Option}
use Rattle.std.specs.List.{AllByRecursion, AllZip, filter}
use Rattle.std.specs.Ordering.{is_gt, is_lt}
use Rattle.vl_disk.specs.declared.read_fault.ReadFault.{ReadFault}
use Rattle.vl_disk.specs.declared.read_fault.ReadFault.TheVariants.{NoMemory, Disk, Damaged}
use Rattle.vl_merge.specs.MergeOf.{OneMayFail}
use Rattle.vl_model.specs.Keys.{Row, key_cmp}
use Rattle.vl_model.specs.declared.entry.Entry.{Entry}
use Rattle.vl_model.specs.declared.span.Span.{Span}
use Rattle.vl_model.specs.declared.way.Way.{Way}
use Rattle.vl_model.specs.declared.way.Way.TheVariants.{Up, Down}
use Rattle.vl_table.specs.CursorStops.{MayStopOn}
use Rattle.vl_table.specs.MayHold.{meets}
use Rattle.vl_table.specs.ReadTo.{CursorStands, IsCopied, TablesReadTo}
use Rattle.vl_table.specs.Tables.{shape_of}
use Rattle.vl_table.specs.declared.table.Table.{Table}
use Rattle.vl_version.specs.Gives.{SourceMayFail}
use Rattle.vl_version.specs.declared.levels.Levels.{Levels}
use Rattle.vl_version.specs.declared.source.Source.{Source}
use Rattle.vl_version.specs.declared.source.Source.TheVariants.{Own, Held, Tables}

-- the entry doesn't come before this key, as the way goes
abbrev pub is_past : Way → List ℕ → Entry → Bool
is_past Up key e = not (is_lt (key_cmp e.key key))
is_past Down key e = not (is_gt (key_cmp e.key key))

-- one of these is so
abbrev pub OneOf : {X : Type 0} → (X → Type 0) → List X → Type 0
OneOf P [] = ⊥
OneOf P (x ∷ xs) = P x ⊎ OneOf P xs

-- those of tables whose ranges meet the interval
abbrev pub met_of : {H : Type 0} → Span → List (Table H) → List (Table H)
met_of span ts = filter (λ t. meets span (shape_of t)) ts

module _ {H : Type 0} (bytes_of : H → Option (List ℕ)) where
  -- these are copies of those of the tables that meet the interval
  abbrev pub AreMet : Span → List (Table H) → List (Table H) → Type 0
  AreMet span ts met = AllZip (IsCopied bytes_of) (met_of span ts) met

  module _ (span : Span) (way : Way) where
    -- of these tables the blocks that may have keys of the interval stand, up to one that has an entry of this kind, or all
    abbrev pub MetReadTo : (Entry → Bool) → List (Table H) → Type 0
    MetReadTo is_met ts = TablesReadTo bytes_of span way is_met (met_of span ts)

    -- so it is of each table by itself, and of the tables of each level, end to end
    abbrev pub EachReadTo : (Entry → Bool) → List (Table H) → Type 0
    EachReadTo is_met ts = AllByRecursion (λ t. MetReadTo is_met (t ∷ [])) ts

    abbrev pub AllReadTo : (Entry → Bool) → List (List (Table H)) → Type 0
    AllReadTo is_met levels = AllByRecursion (MetReadTo is_met) levels

    -- of each table of level 0, and of each deeper level
    pub record LevelsReadTo (is_met : Entry → Bool) (levels : Levels H) : Type 0 where
      pub newest : EachReadTo is_met levels.newest.items
      pub deeper : AllReadTo is_met levels.deeper.items

    -- What these rows say was read whole: all of each source where there are fewer than may be, and else each up to an entry
    -- whose key doesn't come before the last row's.
    pub record ScansWhole (levels : Levels H) (limit : ℕ) (rows : List Row) : Type 0 where
      pub all : length rows < limit → LevelsReadTo (λ _. false) levels
      pub to_rows : AllByRecursion (λ row. LevelsReadTo (is_past way row.0) levels) rows

    -- ---- faults

    -- reading those of these tables that meet the interval stops by this fault
    abbrev pub MetStop : ReadFault → List (Table H) → Type 0
    MetStop fault ts = MayStopOn bytes_of span way (met_of span ts) fault

    abbrev pub EachStops : ReadFault → List (Table H) → Type 0
    EachStops fault ts = OneOf (λ t. MetStop fault (t ∷ [])) ts

    abbrev pub OneStops : ReadFault → List (List (Table H)) → Type 0
    OneStops fault levels = OneOf (MetStop fault) levels

    -- Of a table of level 0 or of a deeper level the blocks that may have keys of the interval stand up to the one at which reading
    -- failed, which is of the named table, and doesn't stand there where the fault says so.
    abbrev pub LevelsStop : Levels H → ReadFault → Type 0
    LevelsStop levels NoMemory = Unit {0}
    LevelsStop levels (Disk name) = EachStops (Disk name) levels.newest.items ⊎ OneStops (Disk name) levels.deeper.items
    LevelsStop levels (Damaged name place) =
        EachStops (Damaged name place) levels.newest.items ⊎ OneStops (Damaged name place) levels.deeper.items

  -- ---- sources

  module _ {R : Type 0} {g : HeldFile.Ghosts H} {k : Clone.Ghosts H} where
    -- what is in memory stands
    abbrev pub SourceStands : Source H R g k → (Entry → Bool) → Type 0
    SourceStands (Own cursor) is_met = Unit {0}
    SourceStands (Held cursor) is_met = Unit {0}
    SourceStands (Tables cursor) is_met = CursorStands bytes_of cursor is_met

    abbrev pub SourcesStand : (Entry → Bool) → List (Source H R g k) → Type 0
    SourcesStand is_met sources = AllByRecursion (λ source. SourceStands source is_met) sources

    -- up to where the sources after stand, those before do, and so was this read
    abbrev pub AddReads : ((Entry → Bool) → Type 0) → List (Source H R g k) → List (Source H R g k) → Type 0
    AddReads P old new = (is_met : Entry → Bool) → SourcesStand is_met new → SourcesStand is_met old × P is_met

    -- one of these sources fails so
    abbrev pub SourcesFail : ReadFault → List (Source H R g k) → Type 0
    SourcesFail fault sources = OneMayFail (λ source why. SourceMayFail bytes_of source why) sources fault

    -- a fault of the sources after is one of those before, or so it is
    abbrev pub AddStops : (ReadFault → Type 0) → List (Source H R g k) → List (Source H R g k) → Type 0
    AddStops P old new = (fault : ReadFault) → SourcesFail fault new → SourcesFail fault old ⊎ P fault
