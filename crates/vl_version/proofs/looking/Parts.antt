-- Parts of lists.
use Rattle.std.specs.Prelude.{◌≡◌, ◌+◌, ◌<◌, ℕ, zero, suc, List, [], ◌∷◌, ◌++◌, length, get_or, take, drop}
use Rattle.std.specs.List.{AllByRecursion}
use Rattle.std.proofs.Common.{refl, ap, sym, ◌∙◌, append_assoc, append-nil, arith}
use Rattle.std.proofs.Math.Seq.{drop-cons}
use Rattle.std.proofs.lemmas.Grind.{take_at_read}
use Rattle.std.proofs.lemmas.List.{take-append-drop}
use Rattle.vl_table.specs.declared.table.Table.{Table}
use Rattle.vl_version.specs.levels.LevelTables.{all_tables}

module _ {X : Type 0} where
  -- an element with those before and behind it
  pub split_at : (xs : List X) (i : ℕ) (x : X) → i < length xs → x ≡ get_or xs i x → xs ≡ (take i xs ++ x ∷ []) ++ drop (suc i) xs
  split_at xs i x within is =
      sym (take-append-drop i xs)
      ∙ ap (λ (l : List X). take i xs ++ l) (drop-cons xs i x within ∙ ap (λ (y : X). y ∷ drop (suc i) xs) (sym is))
      ∙ sym (append_assoc (take i xs) (x ∷ []) (drop (suc i) xs))

  pub take_next : (xs : List X) (i : ℕ) (x : X) → i < length xs → x ≡ get_or xs i x → take (i + 1) xs ≡ take i xs ++ x ∷ []
  take_next xs i x within is = (take_at_read xs i x within).1 ∙ ap (λ (y : X). take i xs ++ y ∷ []) (sym is)

  pub all_get : (P : X → Type 0) (xs : List X) (i : ℕ) (d : X) → AllByRecursion P xs → i < length xs → P (get_or xs i d)
  all_get P [] i d all within = absurd (omega (arith, within))
  all_get P (x ∷ xs) zero d all within = all.0
  all_get P (x ∷ xs) (suc i) d all within = all_get P xs i d all.1 (omega (arith, within))

  pub all-front : (P : X → Type 0) (xs ys : List X) → AllByRecursion P (xs ++ ys) → AllByRecursion P xs
  all-front P [] ys all = tt
  all-front P (x ∷ xs) ys all = (all.0, all-front P xs ys all.1)

  pub all-back : (P : X → Type 0) (xs ys : List X) → AllByRecursion P (xs ++ ys) → AllByRecursion P ys
  all-back P [] ys all = all
  all-back P (x ∷ xs) ys all = all-back P xs ys all.1

  pub all-middle : (P : X → Type 0) (xs ys zs : List X) → AllByRecursion P ((xs ++ ys) ++ zs) → AllByRecursion P ys
  all-middle P xs ys zs all = all-back P xs ys (all-front P (xs ++ ys) zs all)

-- ---- tables of levels

module _ {H : Type 0} where
  tables-append : (ls ms : List (List (Table H))) → all_tables (ls ++ ms) ≡ all_tables ls ++ all_tables ms
  tables-append [] ms = refl
  tables-append (l ∷ ls) ms = ap (λ (ts : List (Table H)). l ++ ts) (tables-append ls ms)
      ∙ sym (append_assoc l (all_tables ls) (all_tables ms))

  pub tables-next : (levels : List (List (Table H))) (i : ℕ) (level : List (Table H)) → i < length levels → level ≡ get_or levels i level
      → all_tables (take (i + 1) levels) ≡ all_tables (take i levels) ++ level
  tables-next levels i level within is =
      ap all_tables (take_next levels i level within is) ∙ tables-append (take i levels) (level ∷ [])
      ∙ ap (λ (ts : List (Table H)). all_tables (take i levels) ++ ts) (append-nil level)

  pub tables-split : (levels : List (List (Table H))) (i : ℕ) (level : List (Table H)) → i < length levels → level ≡ get_or levels i level
      → all_tables levels ≡ (all_tables (take i levels) ++ level) ++ all_tables (drop (suc i) levels)
  tables-split levels i level within is =
      ap all_tables (split_at levels i level within is) ∙ tables-append (take i levels ++ level ∷ []) (drop (suc i) levels)
      ∙ ap (λ (ts : List (Table H)). ts ++ all_tables (drop (suc i) levels))
      (tables-append (take i levels) (level ∷ []) ∙ ap (λ (ts : List (Table H)). all_tables (take i levels) ++ ts) (append-nil level))

  pub tables-rest : (levels : List (List (Table H))) (i : ℕ) → all_tables levels ≡ all_tables (take i levels) ++ all_tables (drop i levels)
  tables-rest levels i = ap all_tables (sym (take-append-drop i levels)) ∙ tables-append (take i levels) (drop i levels)
