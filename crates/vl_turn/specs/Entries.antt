-- Lists of entries, and the own entries of sessions.
use Rattle.std.specs.List.{filter}
use Rattle.std.specs.Prelude.{◌≡◌, ◌≢◌, ℕ, ◌<◌, ◌==◌, if◌then◌else◌, List, [], ◌∷◌, ◌++◌, Option, Some, None, length, nat_le}
use Rattle.vl_turn.specs.declared.view.Own.{Own}

module _ {E : Type 0} where
  -- the entries of one session, in their order
  abbrev pub entries_by : (E → ℕ) → ℕ → List E → List E
  entries_by by number es = filter (λ e. by e == number) es

  -- each entry is of one of the first `count` sessions
  abbrev pub AreNumbered : (E → ℕ) → ℕ → List E → Type 0
  AreNumbered by count [] = Unit {0}
  AreNumbered by count (e ∷ es) = (by e < count) × AreNumbered by count es

  -- of two lists the longer, and the first of two that are as long
  abbrev pub longer : List E → List E → List E
  longer xs ys = if nat_le (length ys) (length xs) then xs else ys

  abbrev pub shorter : List E → List E → List E
  shorter xs ys = if nat_le (length ys) (length xs) then ys else xs

  -- the list after a turn that entered this, or nothing
  abbrev pub with_entry : List E → Option E → List E
  with_entry list None = list
  with_entry list (Some e) = list ++ e ∷ []

  -- own entries after a turn of their one session
  abbrev pub own_grown : E → List (Own E) → List (Own E)
  own_grown e [] = []
  own_grown e (o ∷ os) = record { number = o.number; entries = o.entries ++ e ∷ [] } ∷ os

  abbrev pub own_after : List (Own E) → Option E → List (Own E)
  own_after owns None = owns
  own_after owns (Some e) = own_grown e owns

  -- none of these own entries are of the session with this number
  abbrev pub AreOthers : ℕ → List (Own E) → Type 0
  AreOthers number [] = Unit {0}
  AreOthers number (o ∷ os) = (o.number ≢ number) × AreOthers number os

  -- these own entries are of different sessions
  abbrev pub AreApart : List (Own E) → Type 0
  AreApart [] = Unit {0}
  AreApart (o ∷ os) = AreOthers o.number os × AreApart os

  -- of each of these sessions these are all its entries in the list, in order
  abbrev pub Owned : (E → ℕ) → List E → List (Own E) → Type 0
  Owned by list [] = Unit {0}
  Owned by list (o ∷ os) = (o.entries ≡ entries_by by o.number list) × Owned by list os

  -- these own entries are of some of the first `count` sessions
  abbrev pub AreAmong : ℕ → List (Own E) → Type 0
  AreAmong count [] = Unit {0}
  AreAmong count (o ∷ os) = (o.number < count) × AreAmong count os
