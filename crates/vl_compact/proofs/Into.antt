-- The first table that leads into a segment, in tables end to end.
use Rattle.std.specs.Prelude.{Bool, true, false, ◌||◌, Option, Some, None, if◌then◌else◌}
use Rattle.std.specs.List.{AllZip, flat_map}
use Rattle.std.proofs.Common.{◌≡◌, ℕ, List, [], ◌∷◌, ◌++◌, refl, ap, sym, subst, ◌∙◌}
use Rattle.vl_compact.specs.Due.{has_leading, leads_into}
use Rattle.vl_compact.specs.Laid.{AreBoth}
use Rattle.vl_engine_model.specs.Levels.{first_into, has_point}
use Rattle.vl_engine_model.specs.declared.table.Table.{Table}
use Rattle.vl_table.specs.declared.table.Table.{Table as Known}

pub into_here : (segment : ℕ) (t : Table) (here rest : List Table) → here ≡ t ∷ rest → has_point segment t ≡ true
    → first_into segment here ≡ Some t
into_here segment t here rest is has =
    ap (first_into segment) is ∙ ap (λ (b : Bool). if b then Some t else first_into segment rest) has

pub into_next : (segment : ℕ) (t : Table) (here rest : List Table) → here ≡ t ∷ rest → has_point segment t ≡ false
    → first_into segment here ≡ first_into segment rest
into_next segment t here rest is has =
    ap (first_into segment) is ∙ ap (λ (b : Bool). if b then Some t else first_into segment rest) has

pub into_some : (segment : ℕ) (xs ys : List Table) (t : Table) → first_into segment xs ≡ Some t → first_into segment (xs ++ ys) ≡ Some t
into_some segment [] ys t is = absurd cc
into_some segment (x ∷ xs) ys t is = by (has_point segment x) (into_some segment xs ys t) is
  where
    by : (b : Bool) → (first_into segment xs ≡ Some t → first_into segment (xs ++ ys) ≡ Some t)
        → (if b then Some x else first_into segment xs) ≡ Some t → (if b then Some x else first_into segment (xs ++ ys)) ≡ Some t
    by true rest is = is
    by false rest is = rest is

pub into_none : (segment : ℕ) (xs ys : List Table) → first_into segment xs ≡ None → first_into segment (xs ++ ys) ≡ first_into segment ys
into_none segment [] ys is = refl
into_none segment (x ∷ xs) ys is = by (has_point segment x) (into_none segment xs ys) is
  where
    by : (b : Bool) → (first_into segment xs ≡ None → first_into segment (xs ++ ys) ≡ first_into segment ys)
        → (if b then Some x else first_into segment xs) ≡ None
        → (if b then Some x else first_into segment (xs ++ ys)) ≡ first_into segment ys
    by true rest is = absurd cc
    by false rest is = rest is

-- whatever stands in them, one of the first leads there, or it is as with the others
pub leading_here : {H : Type 0} (segment : ℕ) (t : Known H) (here rest : List (Known H)) → here ≡ t ∷ rest → leads_into segment t ≡ true
    → has_leading segment here ≡ true
leading_here segment t here rest is leads = ap (has_leading segment) is ∙ ap (λ (b : Bool). b || has_leading segment rest) leads

pub leading_next : {H : Type 0} (segment : ℕ) (t : Known H) (here rest : List (Known H)) → here ≡ t ∷ rest → leads_into segment t ≡ false
    → has_leading segment here ≡ has_leading segment rest
leading_next segment t here rest is leads = ap (has_leading segment) is ∙ ap (λ (b : Bool). b || has_leading segment rest) leads

pub leading_first : {H : Type 0} (segment : ℕ) (xs ys : List (Known H)) → has_leading segment xs ≡ true
    → has_leading segment (xs ++ ys) ≡ true
leading_first segment [] ys leads = absurd cc
leading_first segment (x ∷ xs) ys leads = by (leads_into segment x) (leading_first segment xs ys) leads
  where
    by : (b : Bool) → (has_leading segment xs ≡ true → has_leading segment (xs ++ ys) ≡ true) → (b || has_leading segment xs) ≡ true
        → (b || has_leading segment (xs ++ ys)) ≡ true
    by true later is = refl
    by false later is = later is

pub leading_behind : {H : Type 0} (segment : ℕ) (xs ys : List (Known H)) → has_leading segment xs ≡ false
    → has_leading segment (xs ++ ys) ≡ has_leading segment ys
leading_behind segment [] ys none = refl
leading_behind segment (x ∷ xs) ys none = by (leads_into segment x) (leading_behind segment xs ys) none
  where
    by : (b : Bool) → (has_leading segment xs ≡ false → has_leading segment (xs ++ ys) ≡ has_leading segment ys)
        → (b || has_leading segment xs) ≡ false → (b || has_leading segment (xs ++ ys)) ≡ has_leading segment ys
    by true later is = absurd cc
    by false later is = later is

module _ {A : Type 0} (R : A → Table → Type 0) where
  pub none_both : (o : Option Table) → AreBoth R None o → o ≡ None
  none_both None both = refl
  none_both (Some t) both = absurd both

  pub some_both : (a : A) (o p : Option Table) → AreBoth R (Some a) o → ((t : Table) → o ≡ Some t → p ≡ Some t) → AreBoth R (Some a) p
  some_both a None p both same = absurd both
  some_both a (Some t) p both same = subst (AreBoth R (Some a)) (sym (same t refl)) both

  -- one that stands in the first level, or in none of it
  pub in_level : (segment : ℕ) (a : A) (ts : List Table) (here rest : List (List Table)) → here ≡ ts ∷ rest
      → AreBoth R (Some a) (first_into segment ts) → AreBoth R (Some a) (first_into segment (flat_map (λ level. level) here))
  in_level segment a ts here rest is both =
      some_both a (first_into segment ts) (first_into segment (flat_map (λ level. level) here)) both
      (λ t found. ap (λ (l : List (List Table)). first_into segment (flat_map (λ level. level) l)) is
      ∙ into_some segment ts (flat_map (λ level. level) rest) t found)

  pub past_level : (segment : ℕ) (ts : List Table) (here rest : List (List Table)) → here ≡ ts ∷ rest
      → AreBoth R None (first_into segment ts)
      → first_into segment (flat_map (λ level. level) here) ≡ first_into segment (flat_map (λ level. level) rest)
  past_level segment ts here rest is both =
      ap (λ (l : List (List Table)). first_into segment (flat_map (λ level. level) l)) is
      ∙ into_none segment ts (flat_map (λ level. level) rest) (none_both (first_into segment ts) both)

  -- ---- of all levels

  pub front_into : (segment : ℕ) (front : List A) (xs : List (List A)) (ls : List (List Table)) (a : A) → AllZip (AllZip R) (front ∷ xs) ls
      → ((ts : List Table) → AllZip R front ts → AreBoth R (Some a) (first_into segment ts))
      → AreBoth R (Some a) (first_into segment (flat_map (λ level. level) ls))
  front_into segment front xs [] a zip so = absurd zip
  front_into segment front xs (l ∷ ls) a zip so = in_level segment a l (l ∷ ls) ls refl (so l zip.0)

  pub behind_into : (segment : ℕ) (front : List A) (xs : List (List A)) (ls : List (List Table)) (o : Option A)
      → AllZip (AllZip R) (front ∷ xs) ls → ((ts : List Table) → AllZip R front ts → AreBoth R None (first_into segment ts))
      → ((ds : List (List Table)) → AllZip (AllZip R) xs ds → AreBoth R o (first_into segment (flat_map (λ level. level) ds)))
      → AreBoth R o (first_into segment (flat_map (λ level. level) ls))
  behind_into segment front xs [] o zip none so = absurd zip
  behind_into segment front xs (l ∷ ls) o zip none so =
      subst (AreBoth R o) (sym (past_level segment l (l ∷ ls) ls refl (none l zip.0))) (so ls zip.1)
