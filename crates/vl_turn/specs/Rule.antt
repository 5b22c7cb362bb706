-- The rule of the lock: what is so between any two steps, of its three words, its slot and what
-- all tokens know. The list is what the value stands for, and is stored nowhere. Word 0 counts its
-- entries, word 1 is 1 while a token has the turn, word 2 counts the sessions. Both counts are kept
-- modulo 2 ^ 64.
use Rattle.std.specs.Prelude.{◌≡◌, ◌⊎◌, ℕ, ◌%◌, ◌^◌, ◌<◌, true, false, Bool, List, [], ◌∷◌, length, Option, Some, None, IfSome}
use mathlib.Core.List.{IsPrefix}
use mathlib.Core.Option.{none, some}
use mathlib.Core.Option as maybe
use lib.ListN.{get_elem?}
use Rattle.atomic_table.specs.Table.{State}
use Rattle.vl_turn.specs.declared.view.Own.{Own}
use Rattle.vl_turn.specs.declared.view.View.{View}
use Rattle.vl_turn.specs.Entries.{entries_by, AreNumbered, AreApart}

-- a session that was numbered, which the token `id` has, with all its entries so far; `token_of` says
-- whose each session is
abbrev pub OwnFits : {E : Type 0} → (E → ℕ) → List E → ℕ → (ℕ → ℕ) → ℕ → Own E → Type 0
OwnFits by list count token_of id own =
    (own.number < count) × (token_of own.number ≡ id) × (own.entries ≡ entries_by by own.number list)

abbrev pub OwnsFit : {E : Type 0} → (E → ℕ) → List E → ℕ → (ℕ → ℕ) → ℕ → List (Own E) → Type 0
OwnsFit by list count token_of id [] = Unit {0}
OwnsFit by list count token_of id (own ∷ owns) =
    OwnFits by list count token_of id own × OwnsFit by list count token_of id owns

-- what the token `id` knows is so; `root` is the one token that numbers sessions
pub record Fits {T E : Type 0} (by : E → ℕ) (start : T) (list : List E) (count : ℕ) (token_of : ℕ → ℕ) (root id : ℕ)
    (v : View T E) : Type 0 where
  pub same : IfSome v.start (λ x. x ≡ start)
  pub seen : IsPrefix v.seen list
  pub lagging : IsPrefix v.lagging v.seen
  pub owns : OwnsFit by list count token_of id v.owns
  pub apart : AreApart v.owns
  pub made : IfSome v.made (λ n. (n ≡ count) × (id ≡ root))

abbrev pub Table : Type 0 → Type 0 → Type 0
Table T E = State (Option T) (View T E)

-- nobody has the turn: the value is home, and stands for the list
pub record IsFree {T E : Type 0} (meaning : T → List E → Type 0) (s : Table T E) (list : List E) : Type 0 where
  pub value : T
  pub home : s.homes ≡ some (Some value) ∷ []
  pub stands : meaning value list
  pub nobody : (id : ℕ) (v : View T E) → get_elem? s.views id ≡ some v → v.holds ≡ false

-- the slot while a token has the turn: it is out with the token, or home with nothing in it
abbrev pub out_slot : {T : Type 0} → Bool → List (maybe.Option (Option T))
out_slot false = none ∷ []
out_slot true = some None ∷ []

-- one token has the turn, and has seen the whole list
pub record IsHeld {T E : Type 0} (s : Table T E) (list : List E) : Type 0 where
  pub holder : ℕ
  pub view : View T E
  pub at : get_elem? s.views holder ≡ some view
  pub holds : view.holds ≡ true
  pub knows : view.seen ≡ list
  pub out : s.homes ≡ out_slot view.closed
  pub alone : (id : ℕ) (v : View T E) → get_elem? s.views id ≡ some v → v.holds ≡ true → id ≡ holder

abbrev pub IsState : {T E : Type 0} → (T → List E → Type 0) → Table T E → List E → ℕ → Type 0
IsState meaning s list turn = ((turn ≡ 0) × IsFree meaning s list) ⊎ ((turn ≡ 1) × IsHeld s list)

pub record Kept {T E : Type 0} (meaning : T → List E → Type 0) (by : E → ℕ) (start : T) (s : Table T E) : Type 0 where
  pub list : List E
  pub turn : ℕ
  pub count : ℕ
  pub token_of : ℕ → ℕ
  pub root : ℕ
  pub words : s.words ≡ length list % 2 ^ 64 ∷ turn ∷ count % 2 ^ 64 ∷ []
  pub numbers : AreNumbered by count list
  pub views : (id : ℕ) (v : View T E) → get_elem? s.views id ≡ some v → Fits by start list count token_of root id v
  pub state : IsState meaning s list turn
