-- What is asked and said of sources that show a history: by the laws of rulings and of merges.
use Rattle.std.specs.Prelude.{◌≡◌, ◌⊎◌, ℕ, ◌≤◌, true, List, ◌++◌, Some}
use Rattle.std.specs.List.{AllByRecursion, filter}
use Rattle.std.specs.Ordering.{eq_by_cmp}
use Rattle.vl_model.specs.Entries.{in_order}
use Rattle.vl_model.specs.History.{History, last_number}
use Rattle.vl_model.specs.Keys.{Stored, key_cmp}
use Rattle.vl_model.specs.Numbers.{AreAmong, has}
use Rattle.vl_model.specs.Placement.{placement}
use Rattle.vl_model.specs.Versions.{versions, versions_in, low}
use Rattle.vl_model.specs.Winners.{Logs, resolved}
use Rattle.vl_model.specs.declared.entry.Entry.{Entry}
use Rattle.vl_model.specs.declared.pointer.Pointer.{Pointer}
use Rattle.vl_engine_model.specs.Relocation.{Candidate}
use Rattle.vl_engine_model.specs.Ruling.{Ruling}
use Rattle.vl_engine_model.specs.Shows.{Shows}
use Rattle.vl_engine_model.specs.Sources.{sources, floor}
use Rattle.vl_engine_model.specs.declared.layout.Layout.{Layout}

-- ---- key by key

-- the entries of a key
abbrev pub of_key : List ℕ → List Entry → List Entry
of_key key es = filter (λ (e : Entry). eq_by_cmp key_cmp key e.key) es

-- Some entries of a list are gathered and put in order: of this key they stand side by side in the one list, and in order in
-- their place in the other.
pub record Gathers (key : List ℕ) (es some fs : List Entry) : Type 0 where
  pub front : List Entry
  pub behind : List Entry
  pub apart : of_key key es ≡ front ++ of_key key some ++ behind
  pub together : of_key key fs ≡ front ++ of_key key (in_order some) ++ behind

-- ---- by a ruling

-- the layout that a ruling leaves shows the history that it leaves, up to the last number
abbrev pub ShowsRuled : {A : Type 0} → Logs → (List ℕ → ℕ) → Ruling A → Type 0
ShowsRuled logs from r = Shows logs (sources r.layout) r.history from (last_number r.history)

-- the number from which on the key can be read
abbrev pub low_at : Layout → History → List ℕ → ℕ
low_at l h key = low h (floor l h) l.keep l.since key

-- each key from there on
abbrev pub ShowsLow : Logs → Layout → History → Type 0
ShowsLow logs l h = Shows logs (sources l) h (low_at l h) (last_number h)

-- in the logs each value of the memtable that is placed far is found
abbrev pub ArePlaced : Logs → List Entry → Type 0
ArePlaced logs es = AllByRecursion (λ (e : Entry). resolved logs e.key (placement e.body) ≡ resolved logs e.key e.body) es

-- in the logs nothing but its value stands where the candidate was found
abbrev pub IsThere : Logs → ℕ → Candidate → Type 0
IsThere logs segment c = (p : Pointer) (value : Stored) → p.segment ≡ segment → p.place ≡ c.place
    → logs p c.moved.key ≡ Some value → value ≡ c.moved.value

-- ---- by a merge

-- the entry's version is one of its key in the history
abbrev pub IsOf : History → Entry → Type 0
IsOf h e = has e.version (versions h e.key) ≡ true

-- the entries' versions are versions of the history
abbrev pub AreOf : History → List Entry → Type 0
AreOf h es = (key : List ℕ) → AreAmong (versions_in es key) (versions h key)

-- it keeps as many versions as are kept now, or its floor isn't above since
abbrev pub Fits : (keep at v since : ℕ) → Type 0
Fits keep at v since = (v ≤ keep) ⊎ (at ≤ since)
