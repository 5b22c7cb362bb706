-- What a view tells of the changes since a number.
use Rattle.std.specs.Prelude.{◌≡◌, ◌⊎◌, ◌≤◌, ℕ, true, List, length, Option, Some}
use Rattle.std.specs.List.{AllByRecursion}
use Rattle.vl_engine_model.specs.Shown.{AreOf}
use Rattle.vl_engine_model.specs.Spared.{AreSpared}
use Rattle.vl_model.specs.Formats.{log_format}
use Rattle.vl_model.specs.History.{History, last_number, value_at}
use Rattle.vl_model.specs.Keys.{Stored, is_key_length, is_value_length, value_length}
use Rattle.vl_model.specs.Versions.{versions, versions_in}
use Rattle.vl_model.specs.Winners.{Logs, resolved, resolved_at, winner}
use Rattle.vl_model.specs.declared.entry.Entry.{Entry}
use Rattle.vl_reads.specs.declared.past.Past.{Past}
use Rattle.vl_reads.specs.declared.view.View.{View}
use Rattle.vl_version.specs.Sources.{HasEntries}
use Rattle.vl_version.specs.declared.version.Version.{Version}

-- the entry's key is within the limits, and so is the value that it leads to
abbrev pub IsLedLawful : Logs → Entry → Type 0
IsLedLawful logs e = (is_key_length (length e.key) ≡ true)
    × ((value : Stored) → resolved logs e.key e.body ≡ Some (Some value)
    → is_value_length log_format (value_length value) ≡ true)

-- The version shows what the history has at a number, by entries that are of versions of the history. Of a key's versions
-- it lacks only such as are at most `gone`, or are passed by one that is left and is at most the floor. Keys and values are
-- within the limits.
pub record ShowsChanges {H : Type 0} (bytes : H → Option (List ℕ)) (version : Version H) (past : Past) (number : ℕ)
    (h : History) : Type 0 where
  pub entries_of : List Entry
  pub logs : Logs
  pub has : HasEntries bytes version entries_of logs
  pub shows : (key : List ℕ) → resolved_at logs (winner entries_of key number) ≡ Some (value_at h number key)
  pub of : AreOf h entries_of
  pub whole : (key : List ℕ) → AreSpared (versions h key) (versions_in entries_of key) number past.floor 1 past.gone
  pub floor : past.floor ≤ number
  pub lawful : AllByRecursion (IsLedLawful logs) entries_of
  -- the number is one of the history's
  pub known : number ≤ last_number h

-- so does a view at its own number
abbrev pub TellsChanges : {H R : Type 0} → (H → Option (List ℕ)) → View H R → History → Type 0
TellsChanges bytes view h = ShowsChanges bytes view.version view.past view.number h

-- From `gone` up to its number a view tells of each number what was changed since then; and since 0 all that stands.
abbrev pub MayTellSince : Past → (number since : ℕ) → Type 0
MayTellSince past number since = (since ≡ 0) ⊎ ((past.gone ≤ since) × (since ≤ number))
