-- What a cursor gives, and that a failed read is counted.
use Rattle.std.specs.Prelude.{◌≡◌, ℕ, ◌+◌, ◌-◌, ◌^◌, ◌≤◌, ◌<◌, min, Bool, true, false, List, [], ◌∷◌, Option, Some, None}
use Rattle.std.specs.Option.{ForSome}
use Rattle.vl_model.specs.declared.entry.Entry.{Entry}

-- what was left before a call and what is left after it, by what it gave
abbrev pub Gives : Option (List Entry) → Option (List Entry) → Option Entry → Type 0
Gives before now None = ForSome before (λ left. (left ≡ []) × (now ≡ Some []))
Gives before now (Some entry) =
    ForSome before (λ left. (rest : List Entry) × (left ≡ entry ∷ rest) × (now ≡ Some rest))

-- what was told is left as it was; where nothing was told nothing is claimed
abbrev pub Keeps : Option (List Entry) → Option (List Entry) → Type 0
Keeps before now = ForSome before (λ left. now ≡ Some left)

-- at most as many may still come, and fewer where one came
abbrev pub Spends : ℕ → ℕ → Option Entry → Type 0
Spends before now None = now ≤ before
Spends before now (Some entry) = now < before

-- what came is an entry of this kind, or the end
abbrev pub IsReached : (Entry → Bool) → Option Entry → Type 0
IsReached is_met None = Unit {0}
IsReached is_met (Some entry) = is_met entry ≡ true

-- a fault was counted between these two readings of one count; a count at its type's end counts as risen
pub record HasRisen (before now : ℕ) : Type 0 where
  pub later : before ≤ now
  pub rose : min (before + 1) (2 ^ 64 - 1) ≤ now
  -- the count of what never fails, which is 2 ^ 64, doesn't rise
  pub counts : now < 2 ^ 64

-- of a call that failed: where it says that reading did, that was counted, and nothing was otherwise
abbrev pub IsCounted : Bool → ℕ → ℕ → Type 0
IsCounted true before now = HasRisen before now
IsCounted false before now = now ≡ before
