-- The changes since a number, as sources tell them, and what a cursor of them has left to give.
use Rattle.std.specs.declared.clone.Clone as Clone
use Rattle.vl_disk.specs.declared.reader.HeldFile as HeldFile
use Rattle.std.specs.Prelude.{◌≡◌, ◌⊎◌, ◌<◌, ◌≤◌, ◌==◌, ◌||◌, ℕ, zero, suc, Bool, false, nat_le, nat_lt, if◌then◌else◌}
use Rattle.std.specs.Prelude.{IsTrue, List, [], ◌∷◌, map, Option, Some, None, Result, Ok, Err}
use Rattle.std.specs.FinMap.{find, is_sorted}
use Rattle.std.specs.List.{AllZip, filter}
use Rattle.std.specs.Option.{option_map}
use Rattle.vl_disk.specs.declared.name.Name.{Name}
use Rattle.vl_disk.specs.declared.read_fault.ReadFault.{ReadFault}
use Rattle.vl_disk.specs.declared.read_fault.ReadFault.TheVariants.{NoMemory, Disk, Damaged}
use Rattle.vl_engine_model.specs.Changes.{change_to}
use Rattle.vl_merge.specs.Held.{held_budget, visible_left}
use Rattle.vl_merge.specs.Standing.{IsMetBy, IsUpward, StandsIn}
use Rattle.vl_merge.specs.Trees.{MayFailIn, tree_budget, tree_left}
use Rattle.vl_merge.specs.declared.hides.Hides.{Hides}
use Rattle.vl_merge.specs.declared.hides.Hides.TheVariants.{Gone, UpTo}
use Rattle.vl_model.specs.Keys.{Stored, key_cmp}
use Rattle.vl_model.specs.Winners.{Logs, resolved, resolved_at, winner}
use Rattle.vl_model.specs.declared.change.Change.{Change}
use Rattle.vl_model.specs.declared.change.Change.TheVariants.{Set}
use Rattle.vl_model.specs.declared.entry.Entry.{Entry}
use Rattle.vl_model.specs.declared.span.Span.{Span}
use Rattle.vl_model.specs.declared.way.Way.TheVariants.{Up}
use Rattle.vl_table.specs.declared.table.Table.{Table}
use Rattle.vl_version.specs.Gives.{SourceMayFail, left_in, source_budget}
use Rattle.vl_version.specs.Naming.{IsMetFault, IsScanFault}
use Rattle.vl_version.specs.Shared.{AreSameTables}
use Rattle.vl_version.specs.Sources.{AreTold, stored_in, tables_in}
use Rattle.vl_version.specs.Whole.{AllReadTo, EachReadTo, SourceStands}
use Rattle.vl_version.specs.declared.changes.Changes.{Changes}
use Rattle.vl_version.specs.declared.levels.Levels.{Levels}
use Rattle.vl_version.specs.declared.version.Version.{Version}
use Rattle.vl_version.specs.levels.LevelTables.{footer_of}

-- a key, and what is done to it
abbrev pub Write : Type 0
Write = List ℕ × Change

-- ---- what winners tell

-- Which winners aren't changes since a number: those that aren't above it. Since 0 all that stands is told, so no deletion is.
abbrev pub hiding : ℕ → Hides
hiding zero = Gone
hiding (suc since) = UpTo (suc since)

-- what a winner that leads to a value, or to none, tells of its key since a number
abbrev pub told_since : ℕ → Option Entry → Option Stored → Option Change
told_since zero winner value = option_map Set value
told_since (suc since) None value = None
told_since (suc since) (Some e) value = if nat_le e.version (suc since) then None else Some (change_to value)

-- the winner doesn't lead astray, and tells this
pub record Tells (logs : Logs) (since : ℕ) (w : Option Entry) (tells : Option Change) : Type 0 where
  pub value : Option Stored
  pub led : resolved_at logs w ≡ Some value
  pub change : tells ≡ told_since since w value

-- These are the changes since a number that sources tell at another one: their keys rise, and they have of each key just what
-- its winner tells.
pub record AreChanges (logs : Logs) (es : List Entry) (since number : ℕ) (ws : List Write) : Type 0 where
  pub rising : IsTrue (is_sorted key_cmp ws)
  pub told : (key : List ℕ) → Tells logs since (winner es key number) (find key_cmp key ws)

-- each of these changes is what one of these entries leads to, in their order
abbrev pub AreLed : Logs → List Entry → List Write → Type 0
AreLed logs [] [] = Unit {0}
AreLed logs [] (w ∷ ws) = ⊥
AreLed logs (e ∷ es) [] = ⊥
AreLed logs (e ∷ es) (w ∷ ws) =
    (w.0 ≡ e.key) × (option_map change_to (resolved logs e.key e.body) ≡ Some w.1) × AreLed logs es ws

-- ---- tables that needn't be read

-- all keys
abbrev pub everywhere : Span
everywhere = record { lo = None; hi = None; closed = false }

-- no entry is of this kind
abbrev pub nothing : Entry → Bool
nothing e = false

module _ {H : Type 0} where
  -- the table has something newer than a version, by its footer; since 0 each table counts
  abbrev pub is_since : ℕ → Table H → Bool
  is_since since t = (since == 0) || nat_lt since (footer_of t).greatest

  abbrev pub tables_since : ℕ → List (Table H) → List (Table H)
  tables_since since ts = filter (is_since since) ts

  -- these are shared of those, but for the tables that have nothing newer
  abbrev pub AreTablesSince : (H → Option (List ℕ)) → ℕ → (ts copies : List (Table H)) → Type 0
  AreTablesSince bytes_of since ts copies = AreSameTables bytes_of (tables_since since ts) copies

  pub record AreLevelsSince (bytes_of : H → Option (List ℕ)) (since : ℕ) (levels copies : Levels H) : Type 0 where
    pub newest : AreTablesSince bytes_of since levels.newest.items copies.newest.items
    pub deeper : AllZip (AreTablesSince bytes_of since) levels.deeper.items copies.deeper.items

  -- Of the tables that have something newer than a version all blocks stand, where their indexes rise.
  pub record AreReadSince (bytes_of : H → Option (List ℕ)) (since : ℕ) (levels : Levels H) : Type 0 where
    pub newest : EachReadTo bytes_of everywhere Up nothing (tables_since since levels.newest.items)
    pub deeper : AllReadTo bytes_of everywhere Up nothing (map (tables_since since) levels.deeper.items)

-- ---- a cursor

module _ {H R : Type 0} {g : HeldFile.Ghosts H} {k : Clone.Ghosts H} where
  -- how many changes it still gives at most
  abbrev pub changes_budget : Changes H R g k → ℕ
  changes_budget changes = held_budget changes.entries.held (tree_budget source_budget changes.entries.merge.sources)

  module _ (bytes_of : H → Option (List ℕ)) where
    -- the entries that are left, from the least key on, where they are told
    abbrev pub entries_left : Changes H R g k → Option (List Entry)
    entries_left changes = visible_left changes.entries.hides changes.entries.number changes.entries.held
        (tree_left (left_in bytes_of) changes.entries.merge.way changes.entries.merge.sources)

    -- what a fault of its sources may be
    abbrev pub ChangesMayFail : Changes H R g k → ReadFault → Type 0
    ChangesMayFail changes fault = MayFailIn (SourceMayFail bytes_of) changes.entries.merge.sources fault

    -- what it has still to go over stands, to its end
    abbrev pub StandsToEnd : Changes H R g k → Type 0
    StandsToEnd changes = IsMetBy nothing changes.entries.held
        ⊎ (IsUpward changes.entries.merge.way nothing → StandsIn (λ s is_met. SourceStands bytes_of s is_met) nothing changes.entries.merge.sources)

    -- It is one of the version since this number: it reads tables that have something newer, and no other.
    abbrev pub IsOver : Version H → (since : ℕ) → Changes H R g k → Type 0
    IsOver version since changes = (fault : ReadFault) → ChangesMayFail changes fault
        → IsMetFault bytes_of everywhere (tables_since since (tables_in version)) fault

    -- Just these changes are left to give, as the version's logs have the values. None of the tables that are still read is
    -- damaged.
    pub record HasLeft (version : Version H) (changes : Changes H R g k) (ws : List Write) : Type 0 where
      pub logs : AreTold bytes_of version.behind.logs.items
      pub left : List Entry
      pub told : entries_left changes ≡ Some left
      pub led : AreLed (stored_in bytes_of version.behind.logs.items) left ws
      pub sound : (name : Name) (place : ℕ) → ChangesMayFail changes (Damaged name place) → ⊥

-- a fault is of a table that has something newer, or of a log
abbrev pub IsChangeFault : {H : Type 0} → (H → Option (List ℕ)) → Version H → (since : ℕ) → ReadFault → Type 0
IsChangeFault bytes_of version since fault =
    IsScanFault bytes_of everywhere (tables_since since (tables_in version)) version.behind.logs.items fault

-- ---- the next change

-- one fewer may still come where one came
abbrev pub SpendsOne : {T : Type 0} → (before now : ℕ) → Option T → Type 0
SpendsOne before now None = now ≤ before
SpendsOne before now (Some given) = now < before

-- behind a fault the same are left, or all but the first of them
abbrev pub LeavesBehind : (List Write → Type 0) → List Write → Type 0
LeavesBehind Left ws = Left ws ⊎ ((first : Write) × (rest : List Write) × (ws ≡ first ∷ rest) × Left rest)

-- Of these changes the first is given, and the others are left; none is given only where none was left. Damage isn't met.
abbrev pub GivesNext : (Left : List Write → Type 0) → List Write → Result (Option (List ℕ × Option Stored)) ReadFault → Type 0
GivesNext Left ws (Ok None) = (ws ≡ []) × Left []
GivesNext Left ws (Ok (Some row)) = (rest : List Write) × (ws ≡ (row.0, change_to row.1) ∷ rest) × Left rest
GivesNext Left ws (Err NoMemory) = LeavesBehind Left ws
GivesNext Left ws (Err (Disk name)) = LeavesBehind Left ws
GivesNext Left ws (Err (Damaged name place)) = ⊥
