-- The rows that a scan takes, one after the other.
use Rattle.std.specs.Prelude.{◌≡◌, ◌⊎◌, ℕ, false, List, [], ◌∷◌, ◌++◌, Some}
use Rattle.vl_disk.specs.declared.name.Name.{Name}
use Rattle.vl_model.specs.Entries.{is_gone}
use Rattle.vl_model.specs.Keys.{Row, Stored}
use Rattle.vl_model.specs.Winners.{Logs, resolved}
use Rattle.vl_model.specs.declared.entry.Entry.{Entry}
use Rattle.vl_version.specs.Answers.{IsAstray}

-- each of these rows is the key of one of these entries and the value to which that leads, in their order
abbrev pub AreRowsOf : Logs → List Entry → List Row → Type 0
AreRowsOf logs [] [] = Unit {0}
AreRowsOf logs [] (row ∷ rows) = ⊥
AreRowsOf logs (e ∷ es) [] = ⊥
AreRowsOf logs (e ∷ es) (row ∷ rows) =
    (row.0 ≡ e.key) × (resolved logs e.key e.body ≡ Some (Some row.1)) × AreRowsOf logs es rows

-- the entry isn't a deletion
abbrev pub IsKept : Entry → Type 0
IsKept e = is_gone e.body ≡ false

-- one of these entries leads astray at this place of this file
abbrev pub OneAstray : Logs → List Entry → Name → ℕ → Type 0
OneAstray logs [] name place = ⊥
OneAstray logs (e ∷ es) name place = IsAstray logs (Some e) name place ⊎ OneAstray logs es name place

-- one row more: the entry's key with the value to which it leads
pub record PushesRow (logs : Logs) (e : Entry) (old new : List Row) : Type 0 where
  pub value : Stored
  pub led : resolved logs e.key e.body ≡ Some (Some value)
  pub pushed : new ≡ old ++ (e.key, value) ∷ []
