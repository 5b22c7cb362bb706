-- A store with all of its sessions as shops, when it is opened and when it was closed.
use Rattle.std.proofs.Common.{◌≡◌, ℕ, suc, ◌+◌, ◌<◌, Bool, true, false, List, [], ◌∷◌, length, map, refl, sym, ap, ◌∙◌, subst}
use Rattle.std.specs.List.{AllByRecursion}
use Rattle.std.specs.Prelude.{None, if◌then◌else◌, nat_le}
use Rattle.vl_drive.specs.Driven as drive
use Rattle.vl_drive.specs.Knowing as knowing
use Rattle.vl_drive.specs.Stores as stores
use Rattle.vl_engine_model.specs.LockHistory.{entries_by}
use Rattle.vl_engine_model.specs.Ruling.{leaving}
use Rattle.vl_engine_model.specs.Rulings.Begin.{BeginAnswer, Begun, TooMany, begin_ruling, begun}
use Rattle.vl_engine_model.specs.Tickets.{free_ticket, tickets_of}
use Rattle.vl_engine_model.specs.declared.layout.Layout.{Layout}
use Rattle.vl_engine_model.specs.declared.lock_history.LockEntry.{LockEntry}
use Rattle.vl_model.specs.History.{History, last_number}
use Rattle.vl_model.specs.Limits.{max_live}
use Rattle.vl_turn.specs.Entries.{AreNumbered}
use Rattle.vlstore.specs.Knowing.{Knows}
use Rattle.vlstore.specs.Shops.{AreSure, known_by, known_of, opened_by, origin_of, session_of}
use Rattle.vlstore.specs.Standing.{Parts}
use Rattle.vlstore.specs.Stores.{AreAt, AreFirst, AreIn, Closed, by}
use Rattle.vlstore.specs.declared.shop.SureSession.{SureSession}

-- ---- shops and sessions

pub map_same : {D H R W : Type 0} (xs : List (SureSession D H R W))
    → map known_of xs ≡ map known_by (map session_of xs)
map_same [] = refl
map_same (x ∷ xs) = ap (λ (vs : List knowing.Knows). known_of x ∷ vs) (map_same xs)

pub map_long : {X Y : Type 0} (f : X → Y) (xs : List X) → length (map f xs) ≡ length xs
map_long f [] = refl
map_long f (x ∷ xs) = ap suc (map_long f xs)

-- ---- a new store's

-- each is sure, where the store's disk told its bytes and it wasn't halted
pub first_sure : (store : Knows) (n : ℕ) (vs : List Knows) → store.tells ≡ true → store.origin.layout.halted ≡ None → AreFirst store n vs
    → AreSure vs
first_sure store n [] tells runs are = tt
first_sure store n (v ∷ vs) tells runs are = (
  (ap (λ (u : Knows). u.tells) are.0.is ∙ tells, ap (λ (u : Knows). u.origin.layout.halted) are.0.is ∙ runs),
  first_sure store (n + 1) vs tells runs are.1,
)

pub first_so : (store : Knows) (n : ℕ) (vs : List Knows) → AreFirst store n vs
    → stores.AreFirst (opened_by store) n (map known_by vs)
first_so store n [] are = tt
first_so store n (v ∷ vs) are = (
  record {
    of = record {
      store_is = ap (λ (u : Knows). u.store) are.0.is;
      origin_is = ap (λ (u : Knows). origin_of u.origin) are.0.is;
      session_is = ap (λ (u : Knows). u.session) are.0.is;
    };
    seen = ap (λ (u : Knows). u.seen) are.0.is;
    own = ap (λ (u : Knows). u.own) are.0.is;
    sure = refl;
  },
  first_so store (n + 1) vs are.1,
)

-- ---- a closed store's

pub at_so : (store : Knows) (n : ℕ) (vs : List Knows) → stores.AreOf (opened_by store) n (map known_by vs) → AreAt store.store vs
at_so store n [] are = tt
at_so store n (v ∷ vs) are = (are.0.store_is, at_so store (n + 1) vs are.1)

in_so : (store : Knows) (n : ℕ) (list : List LockEntry) (vs : List Knows) → stores.AreOf (opened_by store) n (map known_by vs)
    → AreIn list vs → drive.AreIn (origin_of store.origin) n list (map known_by vs)
in_so store n list [] are all = tt
in_so store n list (v ∷ vs) are all = (
  are.0.origin_is,
  are.0.session_is,
  all.0.0,
  all.0.1 ∙ ap (λ (k : ℕ). entries_by k list) are.0.session_is,
  in_so store (n + 1) list vs are.1 all.1,
)

numbers_so : (count : ℕ) (list : List LockEntry) → AreNumbered by count list
    → AllByRecursion (λ (e : LockEntry). e.session < count) list
numbers_so count [] are = tt
numbers_so count (e ∷ es) are = (are.0, numbers_so count es are.1)

pub closed_so : {H L : Type 0} (bytes : _) (sure : Type 0) (store : Knows) (vs : List Knows) (x : Parts H L) → store.tells ≡ true
    → length vs ≡ store.session → stores.AreOf (opened_by store) 0 (map known_by vs)
    → (closed : Closed bytes sure store store.session vs x)
    → drive.IsClosed (origin_of store.origin) (map known_by vs) closed.list
closed_so bytes sure store vs x tells many are closed = record {
  legal = (closed.stands.behind tells).legal;
  all = in_so store 0 closed.list vs are closed.all;
  numbers = subst (λ (n : ℕ). AllByRecursion (λ (e : LockEntry). e.session < n) closed.list) (sym (map_long known_by vs ∙ many))
      (numbers_so store.session closed.list closed.numbers);
}

-- a view reads at the last number
pub begun_number : (l : Layout) (h : History) (ticket number : ℕ) → Begun ticket number ≡ (begin_ruling l h).answer
    → number ≡ last_number h
begun_number l h ticket number is = of (nat_le max_live (length l.live)) is
  where
    at : BeginAnswer → ℕ
    at (Begun t n) = n
    at TooMany = number

    of : (b : Bool) → Begun ticket number ≡ (if b then leaving TooMany h l
        else leaving (Begun (free_ticket (tickets_of l.live)) (last_number h)) h
        (begun l (free_ticket (tickets_of l.live)) (last_number h))).answer → number ≡ last_number h
    of true is = absurd cc
    of false is = ap at is
