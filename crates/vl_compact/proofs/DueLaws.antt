-- Which level is due, told step by step.
use Rattle.std.specs.Prelude.{Bool, true, false, Option, Some, None, nat_le, nat_lt, ◌&&◌, ◌||◌, ◌==◌, if◌then◌else◌}
use Rattle.std.specs.List.{AllZip, sum_by}
use Rattle.std.proofs.Common.{◌≡◌, ℕ, ◌+◌, ◌-◌, ◌<◌, ◌≤◌, List, [], ◌∷◌, length, refl, ap, sym, ◌∙◌, arith}
use Rattle.std.proofs.lemmas.Bool.Decides.{nat_tests}
use Rattle.std.proofs.lemmas.List.Sums.{sum_by-cons}
use Rattle.vl_compact.proofs.Zips.{zip_length}
use Rattle.vl_compact.specs.Due.{has_due, is_full}
use Rattle.vl_engine_model.specs.Levels.{due_from, due_tables, is_due, level_bytes}
use Rattle.vl_engine_model.specs.declared.table.Table.{Table}
use Rattle.vl_table.specs.declared.table.Table.{Table as Known}

abbrev pub bytes_of : List Table → ℕ
bytes_of ts = sum_by (λ (t : Table). t.length) ts

-- ---- what is left of so many bytes

less_left : (left n rest : ℕ) → n ≤ left → nat_lt left (n + rest) ≡ nat_lt (left - n) rest
less_left left n rest le = grind (arith, nat_tests)

none_left : (left n rest : ℕ) → left < n → nat_lt left (n + rest) ≡ true
none_left left n rest lt = grind (arith, nat_tests)

module _ {A : Type 0} (size : A → ℕ) where
  pub nothing_over : (left : ℕ) (xs : List A) → xs ≡ [] → nat_lt left (sum_by size xs) ≡ false
  nothing_over left xs none = ap (λ (l : List A). nat_lt left (sum_by size l)) none ∙ never left
    where
      never : (n : ℕ) → nat_lt n 0 ≡ false
      never n = grind (arith, nat_tests)

  -- where the next file fits into what is left,
  pub over_next : (left n : ℕ) (x : A) (here rest : List A) → here ≡ x ∷ rest → n ≡ size x → n ≤ left
      → nat_lt left (sum_by size here) ≡ nat_lt (left - n) (sum_by size rest)
  over_next left n x here rest is long le =
      ap (λ (l : List A). nat_lt left (sum_by size l)) is
      ∙ ap (nat_lt left) (sum_by-cons size x rest ∙ ap (λ (m : ℕ). m + sum_by size rest) (sym long))
      ∙ less_left left n (sum_by size rest) le

  -- and where it doesn't
  pub over_here : (left n : ℕ) (x : A) (here rest : List A) → here ≡ x ∷ rest → n ≡ size x → left < n
      → nat_lt left (sum_by size here) ≡ true
  over_here left n x here rest is long lt =
      ap (λ (l : List A). nat_lt left (sum_by size l)) is
      ∙ ap (nat_lt left) (sum_by-cons size x rest ∙ ap (λ (m : ℕ). m + sum_by size rest) (sym long))
      ∙ none_left left n (sum_by size rest) lt

-- the first of these levels is due, or it is as with the others
pub due_here : (level : ℕ) (ts : List Table) (here rest : List (List Table)) → here ≡ ts ∷ rest → is_due level ts ≡ true
    → due_from level here ≡ Some level
due_here level ts here rest is due =
    ap (due_from level) is ∙ ap (λ (b : Bool). if b then Some level else due_from (level + 1) rest) due

pub due_next : (level : ℕ) (ts : List Table) (here rest : List (List Table)) → here ≡ ts ∷ rest → is_due level ts ≡ false
    → due_from level here ≡ due_from (level + 1) rest
due_next level ts here rest is due =
    ap (due_from level) is ∙ ap (λ (b : Bool). if b then Some level else due_from (level + 1) rest) due

-- ---- a level by itself

not_first : (level : ℕ) → 1 ≤ level → (level == 0) ≡ false
not_first level some = grind (arith, nat_tests)

shallow_is : (level : ℕ) → nat_le level 5 ≡ true → level ≤ 5
shallow_is level is = grind (arith, nat_tests)

-- whether a level is due that has so many tables, whose files are so long
abbrev Due : ℕ → (many long : ℕ) → Bool
Due level many long = if level == 0 then nat_le due_tables many else (nat_le level 5 && nat_lt (level_bytes level) long)

deeper_due : (level many long : ℕ) → 1 ≤ level → Due level many long ≡ (nat_le level 5 && nat_lt (level_bytes level) long)
deeper_due level many long some =
    ap (λ (b : Bool). if b then nat_le due_tables many else (nat_le level 5 && nat_lt (level_bytes level) long)) (not_first level some)

-- a level that may have so many bytes, and one that is never due
pub due_over : (level bytes : ℕ) (over : Bool) (many long : ℕ) → 1 ≤ level
    → Some bytes ≡ (if nat_le level 5 then Some (level_bytes level) else None) → over ≡ nat_lt bytes long → over ≡ Due level many long
due_over level bytes over many long some is tells = tells ∙ by (nat_le level 5) is ∙ sym (deeper_due level many long some)
  where
    by : (b : Bool) → Some bytes ≡ (if b then Some (level_bytes level) else None)
        → nat_lt bytes long ≡ (b && nat_lt (level_bytes level) long)
    by true is = let same : bytes ≡ level_bytes level = cc in ap (λ (n : ℕ). nat_lt n long) same
    by false is = absurd cc

pub due_never : (level many long : ℕ) → 1 ≤ level → None ≡ (if nat_le level 5 then Some (level_bytes level) else None)
    → false ≡ Due level many long
due_never level many long some is = by (nat_le level 5) is ∙ sym (deeper_due level many long some)
  where
    by : (b : Bool) → None ≡ (if b then Some (level_bytes level) else None) → false ≡ (b && nat_lt (level_bytes level) long)
    by true is = absurd cc
    by false is = refl

pub shallow_some : (level bytes : ℕ) → Some bytes ≡ (if nat_le level 5 then Some (level_bytes level) else None) → level ≤ 5
shallow_some level bytes is = by (nat_le level 5) (shallow_is level) is
  where
    by : (b : Bool) → (b ≡ true → level ≤ 5) → Some bytes ≡ (if b then Some (level_bytes level) else None) → level ≤ 5
    by true so is = so refl
    by false so is = absurd cc

-- ---- whatever stands in the tables

module _ {H : Type 0} (size : H → ℕ) where
  -- the first of these levels is due, or it is as with the others
  pub full_here : (level : ℕ) (ts : List (Known H)) (here rest : List (List (Known H))) → here ≡ ts ∷ rest → is_full size level ts ≡ true
      → has_due size level here ≡ true
  full_here level ts here rest is full = ap (has_due size level) is ∙ ap (λ (b : Bool). b || has_due size (level + 1) rest) full

  pub full_next : (level : ℕ) (ts : List (Known H)) (here rest : List (List (Known H))) → here ≡ ts ∷ rest → is_full size level ts ≡ false
      → has_due size level here ≡ has_due size (level + 1) rest
  full_next level ts here rest is full = ap (has_due size level) is ∙ ap (λ (b : Bool). b || has_due size (level + 1) rest) full

  pub many_full : (ts : List (Known H)) → 4 ≤ length ts → is_full size 0 ts ≡ true
  many_full ts many = by (length ts) many
    where
      by : (n : ℕ) → 4 ≤ n → nat_le 4 n ≡ true
      by n le = grind (arith, nat_tests)

  pub few_full : (ts : List (Known H)) → length ts < 4 → is_full size 0 ts ≡ false
  few_full ts few = by (length ts) few
    where
      by : (n : ℕ) → n < 4 → nat_le 4 n ≡ false
      by n lt = grind (arith, nat_tests)

-- ---- level 0

module _ {A : Type 0} (R : A → Table → Type 0) where
  pub top_due : (front : List A) (xs : List (List A)) (ls : List (List Table)) → AllZip (AllZip R) (front ∷ xs) ls
      → 4 ≤ length front → Some 0 ≡ due_from 0 ls
  top_due front xs [] zip many = absurd zip
  top_due front xs (l ∷ ls) zip many =
      sym (ap (λ (b : Bool). if b then Some 0 else due_from 1 ls) (by (length l) (omega (arith, zip_length R front l zip.0, many))))
    where
      by : (n : ℕ) → 4 ≤ n → nat_le 4 n ≡ true
      by n le = grind (arith, nat_tests)

  pub top_not : (front : List A) (xs : List (List A)) (ls : List (List Table)) (o : Option ℕ) → AllZip (AllZip R) (front ∷ xs) ls
      → length front < 4 → ((ds : List (List Table)) → AllZip (AllZip R) xs ds → o ≡ due_from 1 ds) → o ≡ due_from 0 ls
  top_not front xs [] o zip few so = absurd zip
  top_not front xs (l ∷ ls) o zip few so =
      so ls zip.1 ∙ sym (ap (λ (b : Bool). if b then Some 0 else due_from 1 ls)
      (by (length l) (omega (arith, zip_length R front l zip.0, few))))
    where
      by : (n : ℕ) → n < 4 → nat_le 4 n ≡ false
      by n lt = grind (arith, nat_tests)
