-- Tables that are put among those of a level, told step by step.
use Rattle.std.specs.Prelude.{if◌then◌else◌, Option, Result, Ok, Err, IsOk, is_ok, map, slice_set}
use Rattle.std.specs.List.{AllZip, insert}
use Rattle.std.proofs.Common.{◌≡◌, ℕ, zero, suc, ◌+◌, ◌-◌, ◌<◌, ◌≤◌, List, [], ◌∷◌, ◌++◌, length, take, drop, refl}
use Rattle.std.proofs.Common.{ap, sym, subst, ◌∙◌, arith, append_assoc, length-append}
use Rattle.vl_compact.proofs.PlaceLaws.{level_next, level_without, next_level}
use Rattle.vl_compact.proofs.Zips.{zip_length}
use Rattle.vl_compact.specs.Laid.{AreLevelsOf, AreTablesOf, IsTableOf}
use Rattle.vl_compact.specs.Places.{first_key, put_at}
use Rattle.vl_compact.specs.Replacing.{AreReady}
use Rattle.vl_compact.specs.declared.ready.ReadyLevels.{ReadyLevels}
use Rattle.vl_engine_model.specs.Levels.{at_level, level_at, replaced, without}
use Rattle.vl_engine_model.specs.declared.job.Target.{Target}
use Rattle.vl_engine_model.specs.declared.table.Table as laid
use Rattle.vl_table.specs.declared.table.Table.{Table}
use Rattle.vl_version.specs.declared.levels.Levels.{Levels}

-- ---- one table

pub room_less : (n m : ℕ) → n + 1 ≤ m → n < m
room_less n m le = omega (arith, le)

ok_left : {A B E : Type 0} (r : Result A E) (xs ys zs : List B) → IsOk r → zs ≡ (if is_ok r then xs else ys) → zs ≡ xs
ok_left (Ok a) xs ys zs ok is = is
ok_left (Err e) xs ys zs ok is = absurd cc

module _ {A B : Type 0} (R : A → B → Type 0) where
  zip_insert : (xs : List A) (ys zs : List B) (x : A) (y : B) (n : ℕ) → n ≡ length ys → AllZip R xs (ys ++ zs) → R x y
      → AllZip R (insert xs n x) (ys ++ y ∷ zs)
  zip_insert xs [] zs x y zero is zip one = (one, zip)
  zip_insert xs [] zs x y (suc n) is zip one = absurd (omega (arith, is))
  zip_insert [] (u ∷ ys) zs x y n is zip one = absurd zip
  zip_insert (w ∷ xs) (u ∷ ys) zs x y zero is zip one = absurd (omega (arith, is))
  zip_insert (w ∷ xs) (u ∷ ys) zs x y (suc n) is zip one = (zip.0, zip_insert xs ys zs x y n (omega (arith, is)) zip.1 one)

taken_length : (n : ℕ) (ts : List laid.Table) → n ≤ length ts → length (take n ts) ≡ n
taken_length zero ts le = refl
taken_length (suc n) [] le = absurd (omega (arith, le))
taken_length (suc n) (t ∷ ts) le = ap suc (taken_length n ts (omega (arith, le)))

module _ {H : Type 0} (bytes : H → Option (List ℕ)) where
  pub put_next : {E : Type 0} (xs ys : List (Table H)) (table : Table H) (ts new : List laid.Table) (t : laid.Table)
      (position next : ℕ) (r : Result (Unit {0}) E) → position ≤ length ts → next ≡ position + length new
      → AreTablesOf bytes xs (put_at position new ts) → IsTableOf bytes table t
      → IsOk r → ys ≡ (if is_ok r then insert xs next table else xs)
      → AreTablesOf bytes ys (put_at position (new ++ t ∷ []) ts)
  put_next xs ys table ts new t position next r within at zip one ok is =
      let front = take position ts in
      let back = drop position ts in
      let known = length-append front new in
      let taken = taken_length position ts within in
      let place : next ≡ length (front ++ new) = omega (arith, at, known, taken) in
      subst (λ (l : List (Table H)). AreTablesOf bytes l (put_at position (new ++ t ∷ []) ts))
      (sym (ok_left r (insert xs next table) xs ys ok is))
      (subst (AreTablesOf bytes (insert xs next table))
      (append_assoc front new (t ∷ back) ∙ ap (λ (l : List laid.Table). front ++ l) (sym (append_assoc new (t ∷ []) back)))
      (zip_insert (IsTableOf bytes) xs (front ++ new) back table t next place
      (subst (AreTablesOf bytes xs) (sym (append_assoc front new back)) zip) one))

  -- the place of the next one is there
  pub next_there : (xs : List (Table H)) (ts new : List laid.Table) (position next : ℕ) → position ≤ length ts
      → next ≡ position + length new → AreTablesOf bytes xs (put_at position new ts) → next ≤ length xs
  next_there xs ts new position next within at zip =
      let front = take position ts in
      let back = drop position ts in omega (
        arith,
        at,
        taken_length position ts within,
        zip_length (IsTableOf bytes) xs (put_at position new ts) zip,
        length-append front (new ++ back),
        length-append new back,
      )

  pub next_is : (next position : ℕ) (new : List laid.Table) (t : laid.Table) → next ≡ position + length new
      → next + 1 ≡ position + length (new ++ t ∷ [])
  next_is next position new t at = let known = length-append new (t ∷ []) in omega (arith, at, known)

  -- ---- all levels

  set_zip : (xs : List (List (Table H))) (ls : List (List laid.Table)) (n : ℕ) (f : List laid.Table → List laid.Table)
      (tables : List (Table H)) → AllZip (AreTablesOf bytes) xs ls → AreTablesOf bytes tables (f (level_at n ls))
      → AllZip (AreTablesOf bytes) (slice_set xs n tables) (at_level n f ls)
  set_zip [] [] n f tables zip are = tt
  set_zip [] (l ∷ ls) n f tables zip are = absurd zip
  set_zip (x ∷ xs) [] n f tables zip are = absurd zip
  set_zip (x ∷ xs) (l ∷ ls) zero f tables zip are = (are, zip.1)
  set_zip (x ∷ xs) (l ∷ ls) (suc n) f tables zip are =
      subst (AllZip (AreTablesOf bytes) (x ∷ slice_set xs n tables)) (sym (next_level n f l ls))
      (zip.0, set_zip xs ls n f tables zip.1 (subst (λ (ts : List laid.Table). AreTablesOf bytes tables (f ts)) (level_next n l ls) are))

  module _ (target : Target) (inputs : List ℕ) (first : Option (List ℕ)) (ls : List (List laid.Table)) (new : List laid.Table)
      (ready : ReadyLevels H) (are : AreReady bytes target inputs first ls new ready) (begins : first_key new ≡ first) where
    all_put : AllZip (AreTablesOf bytes) (slice_set (ready.newest.items ∷ ready.deeper.items) ready.level ready.tables.items)
        (replaced target inputs new ls)
    all_put = subst (AllZip (AreTablesOf bytes) (slice_set (ready.newest.items ∷ ready.deeper.items) ready.level ready.tables.items))
        (sym (are.place.puts new begins))
        (set_zip (ready.newest.items ∷ ready.deeper.items) (map (without inputs) ls) ready.level (put_at ready.position new)
        ready.tables.items are.others
        (subst (λ (ts : List laid.Table). AreTablesOf bytes ready.tables.items (put_at ready.position new ts))
        (sym (level_without inputs ready.level ls)) are.tables))

    pub put_front : (levels : Levels H) → ready.level ≡ 0 → levels.newest ≡ ready.tables → levels.deeper ≡ ready.deeper
        → AreLevelsOf bytes levels (replaced target inputs new ls)
    put_front levels front newest deeper =
        subst (λ (k : List (List (Table H))). AllZip (AreTablesOf bytes) k (replaced target inputs new ls))
        (ap (λ (n : ℕ). slice_set (ready.newest.items ∷ ready.deeper.items) n ready.tables.items) front
        ∙ sym (λ k. (newest k).items ∷ (deeper k).items))
        all_put

    pub put_deeper : (levels : Levels H) → (ready.level ≡ 0 → ⊥) → levels.newest ≡ ready.newest
        → levels.deeper.items ≡ slice_set ready.deeper.items (ready.level - 1) ready.tables.items
        → AreLevelsOf bytes levels (replaced target inputs new ls)
    put_deeper levels some newest deeper =
        subst (λ (k : List (List (Table H))). AllZip (AreTablesOf bytes) k (replaced target inputs new ls))
        (by ready.level some ∙ sym (λ k. (newest k).items ∷ deeper k))
        all_put
      where
        by : (n : ℕ) → (n ≡ 0 → ⊥) → slice_set (ready.newest.items ∷ ready.deeper.items) n ready.tables.items
            ≡ ready.newest.items ∷ slice_set ready.deeper.items (n - 1) ready.tables.items
        by zero some = absurd (some refl)
        by (suc n) some = ap (λ (m : ℕ). ready.newest.items ∷ slice_set ready.deeper.items m ready.tables.items) (less n)
          where
            less : (m : ℕ) → m ≡ suc m - 1
            less m = omega arith
