-- The edits of an install's switch, told step by step.
use Rattle.std.proofs.Common.{◌≡◌, ℕ, zero, suc, ◌+◌, ◌<◌, ◌≤◌, Bool, true, false, List, [], ◌∷◌, ◌++◌, length, drop}
use Rattle.std.proofs.Common.{get_or, refl, sym, ap, ◌∙◌, arith, append_assoc, append-nil}
use Rattle.std.specs.Prelude.{◌==◌, if◌then◌else◌, map, max}
use Rattle.std.specs.List.{filter}
use Rattle.std.proofs.lemmas.Bool.Decides.{nat_tests}
use Rattle.vl_back.specs.InstallEdits.{drops_of, gone_since}
use Rattle.vl_manifest.specs.Levels.{all_tables, is_in}
use Rattle.vl_manifest.specs.States.{level_adds}
use Rattle.vl_manifest.specs.declared.edit.Edit.TheVariants.{Add, Drop, Gone}
use Rattle.vl_manifest.specs.declared.edit.Edit.{Edit}

pub drop_here : {A : Type 0} (xs : List A) (i : ℕ) (x : A) → i < length xs → x ≡ get_or xs i x → drop i xs ≡ x ∷ drop (i + 1) xs
drop_here [] i x within is = absurd (omega (arith, within))
drop_here (y ∷ xs) zero x within is = ap (λ z. z ∷ xs) (sym is)
drop_here (y ∷ xs) (suc i) x within is =
    drop_here xs i x (omega (arith, within)) is ∙ ap (λ n. x ∷ drop n (y ∷ xs)) (more i)
  where
    more : (i : ℕ) → suc (i + 1) ≡ suc i + 1
    more i = omega arith

pub drop_item : (xs : List ℕ) (i : ℕ) → i < length xs → drop i xs ≡ get_or xs i 0 ∷ drop (i + 1) xs
drop_item xs i within = drop_here xs i (get_or xs i 0) within (any xs i 0 (get_or xs i 0) within)
  where
    any : (xs : List ℕ) (i d e : ℕ) → i < length xs → get_or xs i d ≡ get_or xs i e
    any [] i d e within = absurd (omega (arith, within))
    any (x ∷ xs) zero d e within = refl
    any (x ∷ xs) (suc i) d e within = any xs i d e (omega (arith, within))

pub drop_end : {A : Type 0} (xs : List A) (i : ℕ) → length xs ≤ i → drop i xs ≡ []
drop_end [] zero behind = refl
drop_end [] (suc i) behind = refl
drop_end (y ∷ xs) zero behind = absurd (omega (arith, behind))
drop_end (y ∷ xs) (suc i) behind = drop_end xs i (omega (arith, behind))

-- what was put behind the edits is what is left, step by step
pub step_more : (first old new one rest whole : List Edit) → new ≡ old ++ one → old ++ (one ++ rest) ≡ first ++ whole
    → new ++ rest ≡ first ++ whole
step_more first old new one rest whole is so = ap (λ (l : List Edit). l ++ rest) is ∙ append_assoc old one rest ∙ so

pub none_left : (first old rest whole : List Edit) → rest ≡ [] → old ++ rest ≡ first ++ whole → old ≡ first ++ whole
none_left first old rest whole none so = sym (append-nil old) ∙ ap (λ (l : List Edit). old ++ l) (sym none) ∙ so

-- ---- Drops

pub drops_one : (inputs : List ℕ) (t : ℕ) (rest : List ℕ) → drops_of inputs (t ∷ rest) ≡ drops_of inputs (t ∷ []) ++ drops_of inputs rest
drops_one inputs t rest = by (is_in t inputs)
  where
    by : (b : Bool) → map Drop (if b then t ∷ filter (λ n. is_in n inputs) rest else filter (λ n. is_in n inputs) rest)
        ≡ map Drop (if b then t ∷ [] else []) ++ map Drop (filter (λ n. is_in n inputs) rest)
    by true = refl
    by false = refl

drops_both : (inputs ts us : List ℕ) → drops_of inputs (ts ++ us) ≡ drops_of inputs ts ++ drops_of inputs us
drops_both inputs [] us = refl
drops_both inputs (t ∷ ts) us =
    drops_one inputs t (ts ++ us) ∙ ap (λ (l : List Edit). drops_of inputs (t ∷ []) ++ l) (drops_both inputs ts us)
    ∙ sym (append_assoc (drops_of inputs (t ∷ [])) (drops_of inputs ts) (drops_of inputs us))
    ∙ ap (λ (l : List Edit). l ++ drops_of inputs us) (sym (drops_one inputs t ts))

pub drop_there : (inputs : List ℕ) (t : ℕ) (here : Bool) → here ≡ is_in t inputs → here ≡ true → Drop t ∷ [] ≡ drops_of inputs (t ∷ [])
drop_there inputs t here is yes_is = sym (ap (λ (b : Bool). map Drop (if b then t ∷ [] else [])) (sym is ∙ yes_is))

pub no_drop : (inputs : List ℕ) (t : ℕ) (here : Bool) → here ≡ is_in t inputs → here ≡ false → [] ≡ drops_of inputs (t ∷ [])
no_drop inputs t here is not_is = sym (ap (λ (b : Bool). map Drop (if b then t ∷ [] else [])) (sym is ∙ not_is))

-- the next table of a level
pub table_dropped : (first old new : List Edit) (inputs tables here rest : List ℕ) (t : ℕ) → here ≡ t ∷ rest
    → new ≡ old ++ drops_of inputs (t ∷ []) → old ++ drops_of inputs here ≡ first ++ drops_of inputs tables
    → new ++ drops_of inputs rest ≡ first ++ drops_of inputs tables
table_dropped first old new inputs tables here rest t at is so =
    step_more first old new (drops_of inputs (t ∷ [])) (drops_of inputs rest) (drops_of inputs tables) is
    (ap (λ (l : List Edit). old ++ l) (sym (ap (drops_of inputs) at ∙ drops_one inputs t rest)) ∙ so)

-- the next level
pub level_dropped : (first old new : List Edit) (inputs : List ℕ) (levels here rest : List (List ℕ)) (ts : List ℕ) → here ≡ ts ∷ rest
    → new ≡ old ++ drops_of inputs ts → old ++ drops_of inputs (all_tables here) ≡ first ++ drops_of inputs (all_tables levels)
    → new ++ drops_of inputs (all_tables rest) ≡ first ++ drops_of inputs (all_tables levels)
level_dropped first old new inputs levels here rest ts at is so =
    step_more first old new (drops_of inputs ts) (drops_of inputs (all_tables rest)) (drops_of inputs (all_tables levels)) is
    (ap (λ (l : List Edit). old ++ l)
    (sym (ap (λ (ls : List (List ℕ)). drops_of inputs (all_tables ls)) at ∙ drops_both inputs ts (all_tables rest))) ∙ so)

-- ---- Adds

pub table_added : (first old new : List Edit) (level position at : ℕ) (tables here rest : List ℕ) (t : ℕ) → here ≡ t ∷ rest
    → new ≡ old ++ Add level (position + at) t ∷ []
    → old ++ level_adds level (position + at) here ≡ first ++ level_adds level position tables
    → new ++ level_adds level (position + (at + 1)) rest ≡ first ++ level_adds level position tables
table_added first old new level position at tables here rest t is_at is so =
    ap (λ (n : ℕ). new ++ level_adds level n rest) next
    ∙ step_more first old new (Add level (position + at) t ∷ []) (level_adds level ((position + at) + 1) rest)
    (level_adds level position tables) is
    (ap (λ (l : List ℕ). old ++ level_adds level (position + at) l) (sym is_at) ∙ so)
  where
    next : position + (at + 1) ≡ (position + at) + 1
    next = omega arith

pub first_added : (old : List Edit) (level position : ℕ) (tables : List ℕ)
    → old ++ level_adds level (position + 0) tables ≡ old ++ level_adds level position tables
first_added old level position tables = ap (λ (n : ℕ). old ++ level_adds level n tables) none
  where
    none : position + 0 ≡ position
    none = omega arith

-- ---- Gone

pub gone_more : (said gone : ℕ) → said < gone → Gone gone ∷ [] ≡ gone_since said (max said gone)
gone_more said gone less = ap (λ (n : ℕ). Gone n ∷ []) most ∙ sym (ap (λ (b : Bool). if b then [] else Gone (max said gone) ∷ []) apart)
  where
    most : gone ≡ max said gone
    most = omega (arith, less)

    apart : (said == max said gone) ≡ false
    apart = let is : gone ≡ max said gone = most in grind (arith, nat_tests, less, is)

pub gone_same : (said gone : ℕ) → gone ≤ said → [] ≡ gone_since said (max said gone)
gone_same said gone le = sym (ap (λ (b : Bool). if b then [] else Gone (max said gone) ∷ []) same)
  where
    most : said ≡ max said gone
    most = omega (arith, le)

    same : (said == max said gone) ≡ true
    same = let is : said ≡ max said gone = most in grind (arith, nat_tests, is)

-- ---- the whole

pub all_edits : (first dropped added last whole drops adds gone : List Edit) (next : Edit) → first ≡ [] → dropped ≡ first ++ drops
    → added ≡ dropped ++ adds → last ≡ added ++ next ∷ [] → whole ≡ last ++ gone → whole ≡ drops ++ (adds ++ (next ∷ gone))
all_edits first dropped added last whole drops adds gone next none is_dropped is_added is_last is_whole =
    is_whole ∙ ap (λ (l : List Edit). l ++ gone) is_last ∙ append_assoc added (next ∷ []) gone
    ∙ ap (λ (l : List Edit). l ++ next ∷ gone) is_added ∙ append_assoc dropped adds (next ∷ gone)
    ∙ ap (λ (l : List Edit). l ++ (adds ++ next ∷ gone)) (is_dropped ∙ ap (λ (l : List Edit). l ++ drops) none)
