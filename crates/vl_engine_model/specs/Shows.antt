-- Sources answer as a history does.
use Rattle.std.specs.Prelude.{◌≡◌, ℕ, ◌+◌, ◌≤◌, if◌then◌else◌, List, [], ◌∷◌, Option, Some, None}
use Rattle.std.specs.List.{AllByRecursion}
use Rattle.vl_model.specs.Keys.{Stored}
use Rattle.vl_model.specs.History.{History, value_at}
use Rattle.vl_model.specs.Entries.{is_at}
use Rattle.vl_model.specs.Winners.{Logs, winner, resolved, resolved_at}
use Rattle.vl_model.specs.declared.entry.Entry.{Entry}

-- what each version of a key is: a value, or none where it is a deletion
abbrev pub Meaning : Type 0
Meaning = List ℕ → ℕ → Option Stored

-- the entry leads to what its key's version is
abbrev pub Means : Logs → Meaning → Entry → Type 0
Means logs meaning e = resolved logs e.key e.body ≡ Some (meaning e.key e.version)

-- how many of these entries are of a key and version
abbrev pub times : List ℕ → ℕ → List Entry → ℕ
times key version [] = 0
times key version (e ∷ es) = (if is_at key version e then 1 else 0) + times key version es

-- The sources, end to end, show of each key what the history gives it, from a number on that may be
-- the key's own.
pub record Shows (logs : Logs) (entries : List Entry) (h : History) (from : List ℕ → ℕ) (to : ℕ) : Type 0 where
  -- the winner leads to the value that stands there; no winner counts as none
  pub values : (key : List ℕ) (number : ℕ) → from key ≤ number → number ≤ to
      → resolved_at logs (winner entries key number) ≡ Some (value_at h number key)
  -- each body resolves, and those of one key and version do to the same
  pub meaning : Meaning
  pub resolves : AllByRecursion (Means logs meaning) entries
  -- a deletion is alone at its key and version
  pub gone_once : (key : List ℕ) (version : ℕ) → meaning key version ≡ None
      → times key version entries ≤ 1

-- no version is above a number
abbrev pub AreUpTo : ℕ → List Entry → Type 0
AreUpTo last entries = AllByRecursion (λ e. e.version ≤ last) entries

-- one entry in place of another: of the same key and version, and it leads to the same
pub record StandsFor (logs logs' : Logs) (old new : Entry) : Type 0 where
  pub key : new.key ≡ old.key
  pub version : new.version ≡ old.version
  pub leads : resolved logs' new.key new.body ≡ resolved logs old.key old.body
