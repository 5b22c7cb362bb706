-- A token of the lock with a name, which was made with the value `start`.
use Rattle.std.specs.Prelude.{◌≡◌, ℕ, true, false, List, [], ◌∷◌, Option, Some, None, IfSome}
use mathlib.Core.List.{IsPrefix}
use Rattle.atomic_table.specs.Seated.{TableId}
use Rattle.atomic_table.specs.declared.shared.Seat.{Seat}
use Rattle.vl_turn.specs.declared.view.View.{View}
use Rattle.vl_turn.specs.Entries.{AreNumbered, AreApart, Owned, AreAmong}
use Rattle.vl_turn.specs.Views.{holding}

-- it doesn't have the turn
pub record IsTokenOf {T E : Type 0} (name : TableId) (start : T) (token : Seat (Option T) (View T E)) : Type 0 where
  pub here : token.table_id ≡ name
  pub from : token.me.0.start ≡ Some start
  pub idle : token.me.0.holds ≡ false
  pub unclosed : token.me.0.closed ≡ false
  pub slots : token.me.1 ≡ []

-- It can be made one with another token of the lock with this name: it is a token of it, and doesn't have the turn.
pub record MayJoin {T E : Type 0} (name : TableId) (token : Seat (Option T) (View T E)) : Type 0 where
  pub here : token.table_id ≡ name
  pub idle : token.me.0.holds ≡ false
  pub unclosed : token.me.0.closed ≡ false
  pub slots : token.me.1 ≡ []

-- it has the turn, and the value was taken out
pub record HasTurn {T E : Type 0} (name : TableId) (start : T) (token : Seat (Option T) (View T E)) : Type 0 where
  pub here : token.table_id ≡ name
  pub from : token.me.0.start ≡ Some start
  pub holds : token.me.0.holds ≡ true
  pub unclosed : token.me.0.closed ≡ false
  pub slots : token.me.1 ≡ (0, None) ∷ []

-- it has the turn, and no value is in the lock: it was not filled yet, or it was closed
pub record IsEmpty {T E : Type 0} (name : TableId) (start : T) (token : Seat (Option T) (View T E)) : Type 0 where
  pub here : token.table_id ≡ name
  pub from : token.me.0.start ≡ Some start
  pub holds : token.me.0.holds ≡ true
  pub closed : token.me.0.closed ≡ true
  pub slots : token.me.1 ≡ []

-- a turn began: all of the list is now seen, and the value stands for it; the token's own entries
-- are all that its sessions have in it
pub record Begins {T E : Type 0} (stands : T → T → List E → Type 0) (by : E → ℕ) (start : T) (v w : View T E) (value : T) : Type 0 where
  pub later : IsPrefix v.seen w.seen
  pub is : w ≡ holding v w.seen
  pub owns : Owned by w.seen w.owns
  pub meaning : stands start value w.seen

-- the list is whole: nothing will be entered any more; where the token knows how many sessions were
-- numbered, each entry is of one of these, and each of its own sessions is one of these
pub record IsWhole {T E : Type 0} (by : E → ℕ) (list : List E) (v : View T E) : Type 0 where
  pub owns : Owned by list v.owns
  pub apart : AreApart v.owns
  pub numbers : IfSome v.made (λ n. AreNumbered by n list × AreAmong n v.owns)

-- the lock was closed: the value stands for the whole list, which begins with all that the token
-- had seen
pub record Ends {T E : Type 0} (stands : T → T → List E → Type 0) (by : E → ℕ) (start : T) (v : View T E) (value : T) : Type 0 where
  pub list : List E
  pub later : IsPrefix v.seen list
  pub meaning : stands start value list
  pub whole : IsWhole by list v
