-- What each step on a word tells: of the token before it, the number that it found in the word, and
-- the token after it.
use Rattle.std.specs.Prelude.{◌≡◌, ◌≢◌, ℕ, List, [], ◌∷◌, Option, Some, None, IfSome}
use mathlib.Core.List.{IsPrefix}
use Rattle.atomic_table.specs.Table.{Me}
use Rattle.vl_turn.specs.declared.view.View.{View}
use Rattle.vl_turn.specs.Entries.{Owned}
use Rattle.vl_turn.specs.Views.{holding, entered, gave, opened, closing, looked, numbered}

-- what a token knows, and the slot that it holds, if it does
abbrev pub TokenState : Type 0 → Type 0 → Type 0
TokenState T E = Me (Option T) (View T E)

-- there is an entry, of the one session that the token has, and 1 is added; or none, and 0 is
abbrev pub MayEnter : {T E : Type 0} → (E → ℕ) → View T E → Option E → ℕ → Type 0
MayEnter by v None added = added ≡ 0
MayEnter {T} {E} by v (Some e) added =
    (added ≡ 1) × ((own : List E) × (v.owns ≡ record { number = by e; entries = own } ∷ []))

module _ {T E : Type 0} where
  -- a value is in the slot that the token holds, and stands for all that the token has seen
  abbrev pub HoldsValue : (T → T → List E → Type 0) → T → TokenState T E → Type 0
  HoldsValue stands start m = (value : T) × (m.1 ≡ (0, Some value) ∷ []) × stands start value m.0.seen

  -- the turn was free: the token has it now, with the slot, and has seen the whole list, for which
  -- the value stands; its own entries are all that its sessions have in the list
  pub record IsTaken (stands : T → T → List E → Type 0) (by : E → ℕ) (m m' : TokenState T E) : Type 0 where
    pub value : T
    pub list : List E
    pub later : IsPrefix m.0.seen list
    pub is : m' ≡ (holding m.0 list, (0, Some value) ∷ m.1)
    pub owns : Owned by list m.0.owns
    pub meaning : IfSome m.0.start (λ x. stands x value list)

  abbrev pub Takes : (T → T → List E → Type 0) → (E → ℕ) → TokenState T E → ℕ → TokenState T E → Type 0
  Takes stands by m found m' = (found ≡ 0 → IsTaken stands by m m') × (found ≢ 0 → m' ≡ m)

  abbrev pub Enters : Option E → TokenState T E → ℕ → TokenState T E → Type 0
  Enters e m found m' = m' ≡ (entered m.0 e, m.1)

  abbrev pub Gives : TokenState T E → ℕ → TokenState T E → Type 0
  Gives m found m' = m' ≡ (gave m.0, [])

  abbrev pub Loads : TokenState T E → ℕ → TokenState T E → Type 0
  Loads m found m' = (m' ≡ (looked m.0, m.1)) × IsPrefix m.0.lagging m.0.seen

  abbrev pub Numbers : TokenState T E → ℕ → TokenState T E → Type 0
  Numbers m found m' = (n : ℕ) → m.0.made ≡ Some n → m' ≡ (numbered n m.0, m.1)

  abbrev pub Opens : TokenState T E → ℕ → TokenState T E → Type 0
  Opens m found m' = m' ≡ (opened m.0, (0, None) ∷ m.1)

  abbrev pub Closes : TokenState T E → ℕ → TokenState T E → Type 0
  Closes m found m' = m' ≡ (closing m.0, [])
