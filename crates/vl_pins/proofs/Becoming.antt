-- What becomes of the files that a stock has.
use Rattle.std.proofs.Common.{◌≡◌, ℕ, ◌+◌, ◌≤◌, Bool, true, false, List, ◌++◌, ◌∷◌, [], Some, refl, sym, ap, ◌∙◌, subst, arith}
use Rattle.std.proofs.Common.{vec_len, vec_capacity}
use Rattle.std.specs.Prelude.{Option, None, Result, Ok, Err, IfOk, OnOk, cond}
use Rattle.std.specs.VecDeque.{deque_len, deque_capacity}
use Rattle.vl_disk.specs.declared.name.Name.{Name}
use Rattle.vl_pins.specs.Files.{BecomesBy, Has, HasRoom, HasRoomIn, IsSameUse, Kept, gone_at, kept_in, put_if}
use Rattle.vl_pins.specs.declared.in_use.InUse.{InUse}
use Rattle.vl_pins.specs.declared.retired_file.RetiredFile.{RetiredFile}
use Rattle.vl_pins.specs.declared.stock.Stock.{Stock}

pub same_use : (u v : InUse) → Some u ≡ Some v → u ≡ v
same_use u v e = cc

module _ {L : Type 0} (old new : Stock L) (u v : InUse) (was : old.in_use ≡ Some u) (is : new.in_use ≡ Some v) where
  -- Where the files are changed so it has them then,
  pub becomes : (change : Kept L → Kept L) → change (kept_in u old) ≡ kept_in v new → BecomesBy change old new
  becomes change same kept has = record {
    in_use = v;
    is_some = is;
    kept_are = ap change (has.kept_are ∙ ap (λ (x : InUse). kept_in x old) (same_use has.in_use u (sym has.is_some ∙ was))) ∙ same;
  }

  -- and there is room,
  pub roomy : (t l n s k m : ℕ)
      → (vec_len u.tables + t ≤ vec_capacity u.tables → vec_len v.tables + s ≤ vec_capacity v.tables)
      → (vec_len u.logs + l ≤ vec_capacity u.logs → vec_len v.logs + k ≤ vec_capacity v.logs)
      → (deque_len old.trash + vec_len u.tables + vec_len u.logs + t + l + n ≤ deque_capacity old.trash
      → deque_len new.trash + vec_len v.tables + vec_len v.logs + s + k + m ≤ deque_capacity new.trash)
      → HasRoom old t l n → HasRoom new s k m
  roomy t l n s k m tables logs trash room =
      let e = same_use room.in_use u (sym room.is_some ∙ was) in record {
        in_use = v;
        is_some = is;
        tables_in = tables (subst (λ (x : InUse). vec_len x.tables + t ≤ vec_capacity x.tables) e room.tables_in);
        logs_in = logs (subst (λ (x : InUse). vec_len x.logs + l ≤ vec_capacity x.logs) e room.logs_in);
        trash = trash (subst (λ (x : InUse). deque_len old.trash + vec_len x.tables + vec_len x.logs + t + l + n
            ≤ deque_capacity old.trash) e room.trash);
      }

-- where a file was in use it is put behind the others, and else it isn't
pub put_one : {L : Type 0} (was : Bool) (epoch : ℕ) (name : Name) (trash : List (RetiredFile L)) → was ≡ true
    → put_if was epoch name trash ≡ trash ++ gone_at epoch name ∷ []
put_one was epoch name trash is = ap (λ (b : Bool). cond b (trash ++ gone_at epoch name ∷ []) trash) is

pub put_none : {L : Type 0} (was : Bool) (epoch : ℕ) (name : Name) (trash : List (RetiredFile L)) → was ≡ false
    → put_if was epoch name trash ≡ trash
put_none was epoch name trash is = ap (λ (b : Bool). cond b (trash ++ gone_at epoch name ∷ []) trash) is

-- ---- where the same files stay in use

-- it has the same in use
pub record IsStill (v : Option InUse) (u : InUse) : Type 0 where
  pub kept : InUse
  pub is_some : v ≡ Some kept
  pub tables : kept.tables.items ≡ u.tables.items
  pub logs : kept.logs.items ≡ u.logs.items

still : (o p : Option InUse) (u : InUse) → IsSameUse o p → o ≡ Some u → IsStill p u
still None p u same was = absurd (let no : None ≡ Some u = was in cc)
still (Some a) None u same was = absurd same
still (Some a) (Some b) u same was =
    let e = same_use a u was in record {
      kept = b;
      is_some = refl;
      tables = same.0 ∙ ap (λ (x : InUse). x.tables.items) e;
      logs = same.1 ∙ ap (λ (x : InUse). x.logs.items) e;
    }

pub kept_still : {L : Type 0} (old new : Stock L) → IsSameUse old.in_use new.in_use → new.trash.items ≡ old.trash.items
    → BecomesBy (λ kept. kept) old new
kept_still old new same trash kept has =
    let is = still old.in_use new.in_use has.in_use same has.is_some in record {
      in_use = is.kept;
      is_some = is.is_some;
      kept_are = has.kept_are ∙ (λ i. record { tables = sym is.tables i; logs = sym is.logs i; trash = sym trash i });
    }

pub none_still : (o p : Option InUse) → IsSameUse o p → o ≡ None → p ≡ None
none_still None None same none = refl
none_still None (Some b) same none = absurd same
none_still (Some a) p same none = absurd (let no : Some a ≡ None = none in cc)

-- ---- room

pub room_there : {E : Type 0} (v : InUse) (tables others : ℕ) (r : Result ℕ E)
    → OnOk r (vec_len v.tables + tables ≤ vec_capacity v.tables) → OnOk r (vec_len v.logs + 1 ≤ vec_capacity v.logs)
    → IfOk r (λ all. all ≡ vec_len v.tables + vec_len v.logs + tables + others + 1)
    → IfOk r (λ all. HasRoomIn (Some v) tables others all)
room_there v tables others (Ok n) a b c = record { kept = v; is_some = refl; tables_in = a; logs_in = b; all_are = c }
room_there v tables others (Err e) a b c = tt

pub roomy_then : {L E : Type 0} (stock : Stock L) (tables lent all : ℕ) (r : Result (Unit {0}) E) → HasRoomIn stock.in_use tables lent all
    → OnOk r (deque_len stock.trash + all ≤ deque_capacity stock.trash) → OnOk r (HasRoom stock tables 1 lent)
roomy_then stock tables lent all (Ok done) room reserved =
    let n = room.all_are in record {
      in_use = room.kept;
      is_some = room.is_some;
      tables_in = room.tables_in;
      logs_in = room.logs_in;
      trash = omega (arith, n, reserved);
    }
roomy_then stock tables lent all (Err e) room reserved = tt
