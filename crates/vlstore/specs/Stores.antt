-- A store when it was made, and when it was closed.
use Rattle.std.specs.Prelude.{◌≡◌, ℕ, ◌+◌, Bool, List, [], ◌∷◌, ◌++◌, Option, Some}
use Rattle.atomic_table.specs.Seated.{TableId}
use Rattle.vl_engine_model.specs.declared.lock_history.LockEntry.{LockEntry}
use Rattle.vlstore.specs.Knowing.{Knows}
use Rattle.vlstore.specs.Standing.{Parts, Stands}
use Rattle.vlstore.specs.declared.fails.StoreFail.{StoreFail}
use Rattle.vlstore.specs.declared.fails.StoreFail.TheVariants as fails
use Rattle.vlstore.specs.declared.locked.Origin.{Origin}
use Rattle.vl_turn.specs.Entries.{AreAmong, AreApart, AreNumbered, entries_by}
use Rattle.vl_turn.specs.Views.{root}
use Rattle.vl_turn.specs.declared.view.Own.{Own}
use Rattle.vl_turn.specs.declared.view.View.{View}
use mathlib.Core.List.{IsPrefix}

-- the engine that comes back
abbrev pub refused : {E : Type 0} → StoreFail E → E
refused (fails.NoMemory engine) = engine

-- whose session an entry is
abbrev pub by : LockEntry → ℕ
by e = e.session

-- the token that numbers sessions, behind so many, while nothing is under the lock
abbrev pub numbering : {T : Type 0} → T → ℕ → View T LockEntry
numbering start n = record (root start) { made = Some n }

-- a store with a lock of this name, which was made so, and has no session yet
abbrev pub store_of : TableId → Origin → Bool → Knows
store_of name origin tells =
    record { store = name; origin = origin; tells = tells; session = 0; seen = []; own = [] }

-- the session with this number of a store that was just made: it has seen nothing, and made no step
pub record IsFirst (store : Knows) (n : ℕ) (v : Knows) : Type 0 where
  pub is : v ≡ record store { session = n; seen = []; own = [] }

-- so each of these is, from this number on
abbrev pub AreFirst : Knows → ℕ → List Knows → Type 0
AreFirst store n [] = Unit {0}
AreFirst store n (v ∷ vs) = IsFirst store n v × AreFirst store (n + 1) vs

-- each is of the store whose lock has this name
abbrev pub AreAt : TableId → List Knows → Type 0
AreAt name [] = Unit {0}
AreAt name (v ∷ vs) = (v.store ≡ name) × AreAt name vs

abbrev pub AreOf : Knows → List Knows → Type 0
AreOf store vs = AreAt store.store vs

-- what these sessions have of their own
abbrev pub owns_of : List Knows → List (Own LockEntry)
owns_of [] = []
owns_of (v ∷ vs) = record { number = v.session; entries = v.own } ∷ owns_of vs

-- these own entries stand among those
abbrev pub AreWithin : List (Own LockEntry) → List (Own LockEntry) → Type 0
AreWithin owns all = (before : List (Own LockEntry)) × (after : List (Own LockEntry)) × (all ≡ before ++ (owns ++ after))

-- what each has seen begins this list, and its own entries are among these
abbrev pub AreMet : List LockEntry → List (Own LockEntry) → List Knows → Type 0
AreMet seen owns [] = Unit {0}
AreMet seen owns (v ∷ vs) =
    (IsPrefix v.seen seen × AreWithin (record { number = v.session; entries = v.own } ∷ []) owns) × AreMet seen owns vs

-- what each session has seen begins the list, and its own steps are all of its in the list, in order
abbrev pub AreIn : List LockEntry → List Knows → Type 0
AreIn list [] = Unit {0}
AreIn list (v ∷ vs) = (IsPrefix v.seen list × (v.own ≡ entries_by by v.session list)) × AreIn list vs

-- The list of all steps that were made under the lock, when the store was closed with these sessions. The engine
-- stands for it, it has all that each of them knows, and each of its entries is of one of the sessions that were
-- made, of which there were so many.
pub record Closed {H L : Type 0} (bytes : H → Option (List ℕ)) (sure : Type 0) (store : Knows) (count : ℕ) (vs : List Knows)
    (x : Parts H L) : Type 0 where
  pub list : List LockEntry
  pub stands : Stands bytes sure store.origin store.tells list x
  pub all : AreIn list vs
  pub numbers : AreNumbered by count list
  -- no two of these are one session, and each was made
  pub apart : AreApart (owns_of vs)
  pub among : AreAmong count (owns_of vs)

-- The list of all steps that were made under the lock of a store whose sessions are gone. The engine stands for it,
-- and each of its entries is of one of the sessions that were made.
pub record Left {H L : Type 0} (bytes : H → Option (List ℕ)) (sure : Type 0) (store : Knows) (x : Parts H L) : Type 0 where
  pub list : List LockEntry
  pub stands : Stands bytes sure store.origin store.tells list x
  pub seen : IsPrefix store.seen list
  pub numbers : AreNumbered by store.session list
