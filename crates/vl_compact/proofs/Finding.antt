-- Where tables are put, told step by step.
use Rattle.std.specs.Prelude.{Bool, true, false, if◌then◌else◌, Option, Some, None, map, min}
use Rattle.std.specs.List.{AllZip}
use Rattle.std.specs.Option.{option_map}
use Rattle.std.proofs.Common.{◌≡◌, ℕ, zero, suc, ◌+◌, ◌≤◌, List, [], ◌∷◌, ◌++◌, length, refl, ap, sym, ◌∙◌, arith}
use Rattle.vl_compact.specs.Places.{ends_before, found_at, index_of, input_from, place_before, put_at}
use Rattle.vl_engine_model.specs.Levels.{is_among, without}
use Rattle.vl_engine_model.specs.declared.table.Table.{Table}

-- ---- before a key

pub before_here : (at : ℕ) (key : List ℕ) (t : Table) (here rest all : List Table) → here ≡ t ∷ rest
    → place_before (Some key) all ≡ at + place_before (Some key) here → ends_before (Some key) t ≡ false
    → at ≡ place_before (Some key) all
before_here at key t here rest all is so other =
    let none : place_before (Some key) here ≡ 0 = ap (place_before (Some key)) is
    ∙ ap (λ (b : Bool). if b then suc (place_before (Some key) rest) else 0) other in
    omega (arith, so, none)

pub before_next : (at : ℕ) (key : List ℕ) (t : Table) (here rest all : List Table) → here ≡ t ∷ rest
    → place_before (Some key) all ≡ at + place_before (Some key) here → ends_before (Some key) t ≡ true
    → place_before (Some key) all ≡ (at + 1) + place_before (Some key) rest
before_next at key t here rest all is so one_is =
    let one : place_before (Some key) here ≡ suc (place_before (Some key) rest) = ap (place_before (Some key)) is
    ∙ ap (λ (b : Bool). if b then suc (place_before (Some key) rest) else 0) one_is in
    omega (arith, so, one)

pub before_end : (at : ℕ) (key : List ℕ) (here all : List Table) → here ≡ []
    → place_before (Some key) all ≡ at + place_before (Some key) here → at ≡ place_before (Some key) all
before_end at key here all is so =
    let none : place_before (Some key) here ≡ 0 = ap (place_before (Some key)) is in omega (arith, so, none)

pub before_first : (key : Option (List ℕ)) (all : List Table) → place_before key all ≡ 0 + place_before key all
before_first key all = omega arith

pub before_none : (ts : List Table) → length ts ≡ place_before None ts
before_none [] = refl
before_none (t ∷ ts) = ap suc (before_none ts)

-- ---- the first input of a level

pub index_first : (o : Option ℕ) → o ≡ option_map (λ (n : ℕ). n + 0) o
index_first None = refl
index_first (Some n) = ap Some (none n)
  where
    none : (n : ℕ) → n ≡ n + 0
    none n = omega arith

pub index_next : (inputs : List ℕ) (at : ℕ) (t : Table) (here rest : List Table) → here ≡ t ∷ rest → is_among inputs t ≡ false
    → option_map (λ (n : ℕ). n + at) (index_of inputs here) ≡ option_map (λ (n : ℕ). n + (at + 1)) (index_of inputs rest)
index_next inputs at t here rest is other =
    ap (λ (l : List Table). option_map (λ (n : ℕ). n + at) (index_of inputs l)) is
    ∙ ap (λ (b : Bool). option_map (λ (n : ℕ). n + at) (if b then Some 0 else option_map (λ n. n + 1) (index_of inputs rest))) other
    ∙ by (index_of inputs rest)
  where
    more : (n : ℕ) → (n + 1) + at ≡ n + (at + 1)
    more n = omega arith

    by : (o : Option ℕ) → option_map (λ (n : ℕ). n + at) (option_map (λ n. n + 1) o) ≡ option_map (λ (n : ℕ). n + (at + 1)) o
    by None = refl
    by (Some n) = ap Some (more n)

pub index_here : (inputs : List ℕ) (at : ℕ) (t : Table) (here rest : List Table) → here ≡ t ∷ rest → is_among inputs t ≡ true
    → Some at ≡ option_map (λ (n : ℕ). n + at) (index_of inputs here)
index_here inputs at t here rest is among =
    sym (ap (λ (l : List Table). option_map (λ (n : ℕ). n + at) (index_of inputs l)) is
    ∙ ap (λ (b : Bool). option_map (λ (n : ℕ). n + at) (if b then Some 0 else option_map (λ n. n + 1) (index_of inputs rest))) among
    ∙ ap Some none)
  where
    none : 0 + at ≡ at
    none = omega arith

pub index_end : (inputs : List ℕ) (at : ℕ) (here : List Table) → here ≡ []
    → None ≡ option_map (λ (n : ℕ). n + at) (index_of inputs here)
index_end inputs at here is = sym (ap (λ (l : List Table). option_map (λ (n : ℕ). n + at) (index_of inputs l)) is)

-- ---- of all levels

pub level_here : (inputs : List ℕ) (level position : ℕ) (ts : List Table) (here rest : List (List Table)) → here ≡ ts ∷ rest
    → Some position ≡ index_of inputs ts → (level, position) ≡ input_from level inputs here
level_here inputs level position ts here rest is found =
    ap (λ (o : Option ℕ). found_at level o (input_from (level + 1) inputs rest)) found ∙ sym (ap (input_from level inputs) is)

pub level_next : (inputs : List ℕ) (level : ℕ) (ts : List Table) (here rest : List (List Table)) → here ≡ ts ∷ rest
    → None ≡ index_of inputs ts → input_from level inputs here ≡ input_from (level + 1) inputs rest
level_next inputs level ts here rest is none =
    ap (input_from level inputs) is ∙ sym (ap (λ (o : Option ℕ). found_at level o (input_from (level + 1) inputs rest)) none)

module _ {A : Type 0} (R : A → Table → Type 0) where
  pub in_front : (inputs : List ℕ) (front : List A) (xs : List (List A)) (ls : List (List Table)) (position : ℕ)
      → AllZip (AllZip R) (front ∷ xs) ls → ((ts : List Table) → AllZip R front ts → Some position ≡ index_of inputs ts)
      → (0, position) ≡ input_from 0 inputs ls
  in_front inputs front xs [] position zip so = absurd zip
  in_front inputs front xs (l ∷ ls) position zip so = level_here inputs 0 position l (l ∷ ls) ls refl (so l zip.0)

  pub in_deeper : (inputs : List ℕ) (front : List A) (xs : List (List A)) (ls : List (List Table)) (place : ℕ × ℕ)
      → AllZip (AllZip R) (front ∷ xs) ls → ((ts : List Table) → AllZip R front ts → None ≡ index_of inputs ts)
      → ((ds : List (List Table)) → AllZip (AllZip R) xs ds → place ≡ input_from 1 inputs ds) → place ≡ input_from 0 inputs ls
  in_deeper inputs front xs [] place zip none so = absurd zip
  in_deeper inputs front xs (l ∷ ls) place zip none so = so ls zip.1 ∙ sym (level_next inputs 0 l (l ∷ ls) ls refl (none l zip.0))

-- ---- what is left of levels

pub left_next : (inputs : List ℕ) (some more : List (List Table)) (ts : List Table) → more ≡ some ++ ts ∷ []
    → map (without inputs) some ++ without inputs ts ∷ [] ≡ map (without inputs) more
left_next inputs some more ts is = sym (ap (map (without inputs)) is ∙ both some)
  where
    both : (ls : List (List Table)) → map (without inputs) (ls ++ ts ∷ []) ≡ map (without inputs) ls ++ without inputs ts ∷ []
    both [] = refl
    both (l ∷ ls) = ap (λ (k : List (List Table)). without inputs l ∷ k) (both ls)

module _ {A : Type 0} (R : A → Table → Type 0) where
  pub all_left : (inputs : List ℕ) (newest left : List A) (deeper left_deeper : List (List A)) (ls : List (List Table))
      → AllZip (AllZip R) (newest ∷ deeper) ls → ((ts : List Table) → AllZip R newest ts → AllZip R left (without inputs ts))
      → ((ds : List (List Table)) → AllZip (AllZip R) deeper ds → AllZip (AllZip R) left_deeper (map (without inputs) ds))
      → AllZip (AllZip R) (left ∷ left_deeper) (map (without inputs) ls)
  all_left inputs newest left deeper left_deeper [] zip first others = absurd zip
  all_left inputs newest left deeper left_deeper (l ∷ ls) zip first others = (first l zip.0, others ls zip.1)

pub none_put : (position : ℕ) (ts : List Table) → put_at position [] ts ≡ ts
none_put zero ts = refl
none_put (suc n) [] = refl
none_put (suc n) (t ∷ ts) = ap (λ (l : List Table). t ∷ l) (none_put n ts)

pub least_is : (next position len long : ℕ) → next ≡ min position len → len ≡ long → position ≤ long → next ≡ position + 0
least_is next position len long is same within = omega (arith, is, same, within)
