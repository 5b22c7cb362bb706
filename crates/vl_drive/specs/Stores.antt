-- A store with its shops, when it was opened and when it is closed.
use Rattle.std.specs.Prelude.{◌≡◌, ℕ, ◌+◌, true, List, [], ◌∷◌}
use Rattle.atomic_table.specs.Seated.{TableId}
use Rattle.vl_drive.specs.Knowing.{Knows}
use Rattle.vl_drive.specs.Steps.{Origin}

-- of which store's lock it is, what the store was before the first step, and how many sessions were made
pub record Opened : Type 0 where
  pub store : TableId
  pub origin : Origin
  pub count : ℕ

-- the session of a store with this number
pub record IsShopOf (o : Opened) (session : ℕ) (v : Knows) : Type 0 where
  pub store_is : v.store ≡ o.store
  pub origin_is : v.origin ≡ o.origin
  pub session_is : v.session ≡ session

-- it is sure, and has neither seen nor made a step
pub record IsFirst (o : Opened) (session : ℕ) (v : Knows) : Type 0 where
  pub of : IsShopOf o session v
  pub seen : v.seen ≡ []
  pub own : v.own ≡ []
  pub sure : v.sure ≡ true

-- so are these, from this number on
abbrev pub AreOf : Opened → (session : ℕ) → List Knows → Type 0
AreOf o session [] = Unit {0}
AreOf o session (v ∷ vs) = IsShopOf o session v × AreOf o (session + 1) vs

abbrev pub AreFirst : Opened → (session : ℕ) → List Knows → Type 0
AreFirst o session [] = Unit {0}
AreFirst o session (v ∷ vs) = IsFirst o session v × AreFirst o (session + 1) vs
