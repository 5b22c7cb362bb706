-- Where levels don't overlap, and no number stands twice, the inputs of a plan and of a drain stand as an install wants them.
use Rattle.std.proofs.Common.{◌≡◌, ◌≢◌, ◌⊎◌, inl, inr, ⊎_elim, ℕ, ◌+◌, ◌-◌, ◌≤◌, ◌<◌, Bool, true, false, cond, not}
use Rattle.std.proofs.Common.{◌&&◌, ◌||◌, List, [], ◌∷◌, ◌++◌, map, refl, ap, sym, ◌∙◌, subst, arith, length}
use Rattle.std.proofs.lemmas.Bool.Decides.{nat_tests}
use Rattle.std.specs.Prelude.{Option, Some, None, ◌==◌, nat_lt}
use Rattle.std.specs.List.{AllByRecursion, flat_map, list_any, filter}
use Rattle.std.specs.Ordering.{is_lt}
use Rattle.vl_model.specs.History.{History}
use Rattle.vl_model.specs.laws.WinnerLaws.{key_tied}
use Rattle.vl_model.specs.declared.entry.Entry.{Entry}
use Rattle.vl_engine_model.specs.Levels.{is_among, level_at, lesser_key, greater_key, Range, widened, range_of, meets}
use Rattle.vl_engine_model.specs.Levels.{lesser_table, least_table, one_or_none, due_inputs, with_next, inputs_at}
use Rattle.vl_engine_model.specs.Levels.{has_point, first_into}
use Rattle.vl_engine_model.specs.Merging.{inputs_of, outside_of}
use Rattle.vl_engine_model.specs.Rulings.Plan.{job_of}
use Rattle.vl_engine_model.specs.Sources.{tables, numbers_of}
use Rattle.vl_engine_model.specs.declared.job.Target.TheVariants.{Level, InPlace}
use Rattle.vl_engine_model.specs.declared.layout.Layout.{Layout}
use Rattle.vl_engine_model.specs.TidyLevels.{Le, IsRanged, IsDistinct, IsApart, AreLevels}
use Rattle.vl_engine_model.specs.declared.table.Table.{Table}
use Rattle.vl_engine_model_laws.specs.laws.Gathered.{IsIdle, IsShaped, IsPair, IsClear, IsUntouched, IsParted}
use Rattle.vl_engine_model_laws.specs.laws.Lists.{true_false}
use Rattle.vl_engine_model.specs.OpenJobs.{IsFitted}
use Rattle.vl_engine_model_laws.specs.laws.Pairs.{IsWithin, le_then, lesser_left, lesser_right, greater_left, greater_right}
use Rattle.vl_engine_model_laws.specs.laws.Pairs.{distinct_parts, AreOther, others_turned, not_one_of, one_is, one_itself}
use Rattle.vl_engine_model_laws.specs.laws.Pairs.{holds, all_parts, all_both, all_weaker, all_filtered, apart_parted}
use Rattle.vl_engine_model_laws.specs.laws.Pairs.{all_parted, input_clear, untouched_by, range_clear}

-- ---- the inputs of a level

pub all_given : (P : Table → Type 0) (n : ℕ) (ts : List Table) → AllByRecursion P ts
    → AllByRecursion P (due_inputs n ts)
all_given P n ts all = elim (n == 0) as (λ b. AllByRecursion P (cond b ts (one_or_none (least_table ts)))) [
  | true ↦ all
  | false ↦ (least ts all).1
]
  where
    of_one : (o : Option Table) → Type 0
    of_one None = Unit {0}
    of_one (Some t) = P t

    lesser : (t : Table) (o : Option Table) → P t → of_one o → of_one (lesser_table t o)
    lesser t None here other = here
    lesser t (Some u) here other = elim (nat_lt u.number t.number) as (λ b. of_one (cond b (Some u) (Some t)))
        [ true ↦ other | false ↦ here ]

    as_list : (o : Option Table) → of_one o → AllByRecursion P (one_or_none o)
    as_list None one = tt
    as_list (Some t) one = (one, tt)

    least : (us : List Table) → AllByRecursion P us
        → of_one (least_table us) × AllByRecursion P (one_or_none (least_table us))
    least [] all = (tt, tt)
    least (u ∷ us) all =
        let later = least us all.1 in
        let one = lesser u (least_table us) all.0 later.0 in
        (one, as_list (least_table (u ∷ us)) one)

pub in_range : (ts : List Table) (range : Range) → range_of ts ≡ Some range
    → AllByRecursion (λ (t : Table). Le range.0 t.first × Le t.last range.1) ts
in_range [] range is = tt
in_range (t ∷ ts) range is = by (range_of ts) refl is (λ r rest. in_range ts r rest)
  where
    by : (o : Option Range) → range_of ts ≡ o → widened t (range_of ts) ≡ Some range
        → ((r : Range) → range_of ts ≡ Some r → AllByRecursion (λ (u : Table). Le r.0 u.first × Le u.last r.1) ts)
        → (Le range.0 t.first × Le t.last range.1) × AllByRecursion (λ (u : Table). Le range.0 u.first × Le u.last range.1) ts
    by None rest is later =
        let same : (t.first, t.last) ≡ range = the_one (t.first, t.last) range (sym (ap (widened t) rest) ∙ is) in (
          subst (λ (r : Range). Le r.0 t.first × Le t.last r.1) same (ap is_lt (key_tied t.first), ap is_lt (key_tied t.last)),
          none ts rest,
        )
      where
        the_one : (a b : Range) → Some a ≡ Some b → a ≡ b
        the_one a b e = cc

        none : (us : List Table) → range_of us ≡ None
            → AllByRecursion (λ (u : Table). Le range.0 u.first × Le u.last range.1) us
        none [] empty = tt
        none (u ∷ us) empty = absurd (some u (range_of us) empty)
          where
            some : (v : Table) (o : Option Range) → widened v o ≡ None → ⊥
            some v None e = cc
            some v (Some r) e = cc
    by (Some r) rest is later =
        let same : (lesser_key t.first r.0, greater_key t.last r.1) ≡ range =
        the_one (lesser_key t.first r.0, greater_key t.last r.1) range (sym (ap (widened t) rest) ∙ is) in
        subst (λ (w : Range). (Le w.0 t.first × Le t.last w.1) × AllByRecursion (λ (u : Table). Le w.0 u.first × Le u.last w.1) ts) same (
          (lesser_left t.first r.0, greater_left t.last r.1),
          all_weaker (λ (u : Table). Le r.0 u.first × Le u.last r.1)
              (λ (u : Table). Le (lesser_key t.first r.0) u.first × Le u.last (greater_key t.last r.1))
              (λ u is. (
                le_then (lesser_key t.first r.0) r.0 u.first (lesser_right t.first r.0) is.0,
                le_then u.last r.1
                    (greater_key t.last r.1) is.1 (greater_right t.last r.1),
              )) ts (later r rest),
        )
      where
        the_one : (a b : Range) → Some a ≡ Some b → a ≡ b
        the_one a b e = cc

pub only_one : (ts : List Table) → IsDistinct ts
    → AllByRecursion (λ (t : Table). AllByRecursion (λ (x : Table). x.number ≡ t.number → x ≡ t) ts) ts
only_one [] d = tt
only_one (t ∷ ts) d = (
  (
    (λ same. refl),
    all_weaker (λ (x : Table). x.number ≢ t.number) (λ (x : Table). x.number ≡ t.number → x ≡ t)
        (λ x apart same. absurd (apart same)) ts d.0,
  ),
  with_head ts d.0 (only_one ts d.1),
)
  where
    with_head : (us : List Table) → AllByRecursion (λ (u : Table). u.number ≢ t.number) us
        → AllByRecursion (λ (u : Table). AllByRecursion (λ (x : Table). x.number ≡ u.number → x ≡ u) ts) us
        → AllByRecursion (λ (u : Table). AllByRecursion (λ (x : Table). x.number ≡ u.number → x ≡ u) (t ∷ ts)) us
    with_head [] apart all = tt
    with_head (u ∷ us) apart all = (((λ same. absurd (apart.0 (sym same))), all.0), with_head us apart.1 all.1)

unfiltered : (P : Table → Type 0) (p : Table → Bool) (ts : List Table) → AllByRecursion P (filter p ts)
    → AllByRecursion (λ (t : Table). p t ≡ true → P t) ts
unfiltered P p [] all = tt
unfiltered P p (t ∷ ts) all = by (p t) refl all (λ rest. unfiltered P p ts rest)
  where
    by : (b : Bool) → p t ≡ b → AllByRecursion P (cond b (t ∷ filter p ts) (filter p ts))
        → (AllByRecursion P (filter p ts) → AllByRecursion (λ (u : Table). p u ≡ true → P u) ts)
        → (p t ≡ true → P t) × AllByRecursion (λ (u : Table). p u ≡ true → P u) ts
    by true is all later = ((λ passes. all.0), later all.1)
    by false is all later = ((λ passes. absurd (true_false (sym passes ∙ is))), later all)

module _ (n : ℕ) (A B : List Table) (distinct_A : IsDistinct A) (other : AreOther A B)
    (ranged_A : AllByRecursion IsRanged A) (ranged_B : AllByRecursion IsRanged B)
    (apart_A : 0 < n → IsApart A) (apart_B : IsApart B) where
  G : List Table
  G = due_inputs n A

  ins : List Table
  ins = with_next (due_inputs n A) B

  -- what is so of all of both is so of the inputs
  pub all_ins : (P : Table → Type 0) → AllByRecursion P A → AllByRecursion P B
      → AllByRecursion P (with_next (due_inputs n A) B)
  all_ins P a b =
      all_both P (due_inputs n A) (filter (meets (range_of (due_inputs n A))) B) (all_given P n A a)
      (all_filtered P (meets (range_of (due_inputs n A))) B b)

  pub met : AllByRecursion
      (λ (u : Table). meets (range_of (due_inputs n A)) u ≡ true → is_among (numbers_of (with_next (due_inputs n A) B)) u ≡ true) B
  met =
      let all = one_itself (λ t. Unit {0}) (with_next (due_inputs n A) B) in
      let both = all_parts (λ (u : Table). is_among (numbers_of (with_next (due_inputs n A) B)) u ≡ true)
      (due_inputs n A) (filter (meets (range_of (due_inputs n A))) B) all in
      unfiltered (λ (u : Table). is_among (numbers_of (with_next (due_inputs n A) B)) u ≡ true) (meets (range_of (due_inputs n A))) B both.1

  given_one : AllByRecursion (λ (u : Table). is_among (numbers_of (with_next (due_inputs n A) B)) u ≡ true) (due_inputs n A)
  given_one =
      (all_parts (λ (u : Table). is_among (numbers_of (with_next (due_inputs n A) B)) u ≡ true) (due_inputs n A)
      (filter (meets (range_of (due_inputs n A))) B) (one_itself (λ t. Unit {0}) (with_next (due_inputs n A) B))).0

  pub within : (range : Range) → range_of (due_inputs n A) ≡ Some range
      → AllByRecursion (λ (t : Table). is_among (numbers_of (with_next (due_inputs n A) B)) t ≡ true
      → Le range.0 t.first × Le t.last range.1) A
  within range is = each A other (only_one A distinct_A)
    where
      each : (ts : List Table)
          → AllByRecursion (λ (x : Table). AllByRecursion (λ (y : Table). y.number ≢ x.number) B) ts
          → AllByRecursion (λ (t : Table). AllByRecursion (λ (x : Table). x.number ≡ t.number → x ≡ t) A) ts
          → AllByRecursion (λ (t : Table). is_among (numbers_of (with_next (due_inputs n A) B)) t ≡ true
          → Le range.0 t.first × Le t.last range.1) ts
      each [] off one = tt
      each (t ∷ ts) off one = (
        (λ input.
            let W : Table → Type 0 = λ x. x.number ≡ t.number → Le range.0 t.first × Le t.last range.1 in
            let from_given : AllByRecursion W (due_inputs n A) =
            two (due_inputs n A) (in_range (due_inputs n A) range is) (all_given (λ (x : Table). x.number ≡ t.number → x ≡ t) n A one.0) in
            let from_next : AllByRecursion W (filter (meets (range_of (due_inputs n A))) B) =
            all_weaker (λ (y : Table). y.number ≢ t.number) W (λ y apart same. absurd (apart same))
            (filter (meets (range_of (due_inputs n A))) B)
            (all_filtered (λ (y : Table). y.number ≢ t.number) (meets (range_of (due_inputs n A))) B off.0) in
            let found = one_is t W (with_next (due_inputs n A) B)
            (all_both W (due_inputs n A) (filter (meets (range_of (due_inputs n A))) B) from_given from_next) input in
            found.2 found.1),
        each ts off.1 one.1,
      )
        where
          two : (xs : List Table)
              → AllByRecursion (λ (x : Table). Le range.0 x.first × Le x.last range.1) xs
              → AllByRecursion (λ (x : Table). x.number ≡ t.number → x ≡ t) xs
              → AllByRecursion (λ (x : Table). x.number ≡ t.number → Le range.0 t.first × Le t.last range.1) xs
          two [] a b = tt
          two (x ∷ xs) a b =
              ((λ same. subst (λ (y : Table). Le range.0 y.first × Le y.last range.1) (b.0 same) a.0), two xs a.1 b.1)

  -- where nothing is due_inputs there is no input
  pub none_given : range_of (due_inputs n A) ≡ None → with_next (due_inputs n A) B ≡ []
  none_given is = by (due_inputs n A) is
    where
      some : (v : Table) (o : Option Range) → widened v o ≡ None → ⊥
      some v None e = cc
      some v (Some r) e = cc

      none_met : (us : List Table) → filter (meets None) us ≡ []
      none_met [] = refl
      none_met (u ∷ us) = none_met us

      by : (xs : List Table) → range_of xs ≡ None → with_next xs B ≡ []
      by [] empty = none_met B
      by (x ∷ xs) empty = absurd (some x (range_of xs) empty)

  module _ (key : List ℕ) (keep : ℕ) (I O : List Entry) (floor : ℕ) where
    none_untouched : (ts : List Table) → with_next (due_inputs n A) B ≡ []
        → IsUntouched keep I O floor (numbers_of (with_next (due_inputs n A) B)) key ts
    none_untouched [] empty = tt
    none_untouched (t ∷ ts) empty = (
      (λ input. absurd (true_false
          (sym (sym (ap (λ (xs : List Table). is_among (numbers_of xs) t) empty) ∙ input)))),
      none_untouched ts empty,
    )

    first_parted : IsParted keep I O floor (numbers_of (with_next (due_inputs n A) B)) key A
    first_parted = by (n == 0) refl
      where
        by : (b : Bool) → (n == 0) ≡ b → IsParted keep I O floor (numbers_of (with_next (due_inputs n A) B)) key A
        by true is = (all_parted key keep I O floor (numbers_of (with_next (due_inputs n A) B)) A
            (subst (AllByRecursion (λ (u : Table). is_among (numbers_of (with_next (due_inputs n A) B)) u ≡ true))
            (ap (λ c. cond c A (one_or_none (least_table A))) is) given_one)).0
        by false is =
            let some : 0 < n = grind (arith, nat_tests, is) in apart_parted key keep I O floor
            (numbers_of (with_next (due_inputs n A) B)) A (apart_A some) ranged_A

    second_apart : (o : Option Range) → range_of (due_inputs n A) ≡ o
        → (IsUntouched keep I O floor (numbers_of (with_next (due_inputs n A) B)) key A
        × IsUntouched keep I O floor (numbers_of (with_next (due_inputs n A) B)) key B)
        ⊎ IsClear keep I O floor (numbers_of (with_next (due_inputs n A) B)) key B
    second_apart None is = let empty = none_given is in inl (none_untouched A empty, none_untouched B empty)
    second_apart (Some range) is =
        by_first (list_any (λ (t : Table). is_among (numbers_of (with_next (due_inputs n A) B)) t && holds key t) A) refl
      where
        by_second : (b : Bool)
            → list_any (λ (t : Table). is_among (numbers_of (with_next (due_inputs n A) B)) t && holds key t) B ≡ b
            → IsUntouched keep I O floor (numbers_of (with_next (due_inputs n A) B)) key A
            → (IsUntouched keep I O floor (numbers_of (with_next (due_inputs n A) B)) key A
            × IsUntouched keep I O floor (numbers_of (with_next (due_inputs n A) B)) key B)
            ⊎ IsClear keep I O floor (numbers_of (with_next (due_inputs n A) B)) key B
        by_second true is out =
            inr (input_clear key keep I O floor (numbers_of (with_next (due_inputs n A) B)) B apart_B ranged_B is)
        by_second false is out =
            inl (out, untouched_by key keep I O floor (numbers_of (with_next (due_inputs n A) B)) B is)

        by_first : (b : Bool)
            → list_any (λ (t : Table). is_among (numbers_of (with_next (due_inputs n A) B)) t && holds key t) A ≡ b
            → (IsUntouched keep I O floor (numbers_of (with_next (due_inputs n A) B)) key A
            × IsUntouched keep I O floor (numbers_of (with_next (due_inputs n A) B)) key B)
            ⊎ IsClear keep I O floor (numbers_of (with_next (due_inputs n A) B)) key B
        by_first true there = inr (range_clear key keep I O floor (numbers_of (with_next (due_inputs n A) B)) range A B
            (all_weaker (λ (t : Table). is_among (numbers_of (with_next (due_inputs n A) B)) t ≡ true
            → Le range.0 t.first × Le t.last range.1)
            (λ (t : Table). is_among (numbers_of (with_next (due_inputs n A) B)) t ≡ true
            → IsWithin key keep I O floor (numbers_of (with_next (due_inputs n A) B)) range t)
            (λ t w input. let both = w input in record { first = both.0; last = both.1 }) A (within range is))
            ranged_A
            (subst (λ (o : Option Range). AllByRecursion
            (λ (u : Table). meets o u ≡ true → is_among (numbers_of (with_next (due_inputs n A) B)) u ≡ true) B) is met)
            ranged_B there)
        by_first false none =
            by_second (list_any (λ (t : Table). is_among (numbers_of (with_next (due_inputs n A) B)) t && holds key t)
            B) refl (untouched_by key keep I O floor (numbers_of (with_next (due_inputs n A) B)) A none)

    pub pair_is : (deeper : List (List Table))
        → IsIdle keep I O floor (numbers_of (with_next (due_inputs n A) B)) (flat_map (λ ts. ts) deeper)
        → IsPair keep I O floor (numbers_of (with_next (due_inputs n A) B)) key A B deeper
    pair_is deeper idle = record { parted = first_parted; apart = second_apart (range_of (due_inputs n A)) refl; idle = idle }

-- ---- levels before it

module _ (keep : ℕ) (I O : List Entry) (floor : ℕ) (inputs : List ℕ) (key : List ℕ) where
  shaped_at : (pre : List (List Table)) (A B : List Table) (deeper : List (List Table))
      → IsIdle keep I O floor inputs (flat_map (λ ts. ts) pre) → IsPair keep I O floor inputs key A B deeper
      → IsShaped keep I O floor inputs key (length pre + 1) (pre ++ A ∷ B ∷ deeper)
  shaped_at [] A B deeper idle pair = inl (omega arith, pair)
  shaped_at (ts ∷ []) A B deeper idle pair =
      let both = all_parts (λ (t : Table). is_among inputs t ≡ false) ts [] idle in
      inr (omega arith, (both.0, inl (omega arith, pair)))
  shaped_at (ts ∷ us ∷ pre) A B deeper idle pair =
      let both = all_parts (λ (t : Table). is_among inputs t ≡ false) ts (flat_map (λ xs. xs) (us ∷ pre)) idle in
      let later = shaped_at (us ∷ pre) A B deeper both.1 pair in
      let same : length (us ∷ pre) + 1 ≡ length (ts ∷ us ∷ pre) + 1 - 1 = omega arith in
      inr (omega arith, (both.0, subst (λ (n : ℕ). IsShaped keep I O floor inputs key n ((us ∷ pre) ++ A ∷ B ∷ deeper)) same later))

pub record IsCut (n : ℕ) (levels : List (List Table)) : Type 0 where
  pub pre : List (List Table)
  pub first : List Table
  pub second : List Table
  pub deeper : List (List Table)
  pub whole : levels ≡ pre ++ first ∷ second ∷ deeper
  pub count : length pre ≡ n
  pub first_is : level_at n levels ≡ first
  pub second_is : level_at (n + 1) levels ≡ second

pub cut_at : (n : ℕ) (levels : List (List Table)) → n + 1 < length levels → IsCut n levels
cut_at n [] within = absurd (omega (arith, within))
cut_at n (A ∷ []) within = absurd (omega (arith, within))
cut_at n (A ∷ B ∷ deeper) within = by (n == 0) refl (λ less. cut_at (n - 1) (B ∷ deeper) less)
  where
    by : (b : Bool) → (n == 0) ≡ b → (n - 1 + 1 < length (B ∷ deeper) → IsCut (n - 1) (B ∷ deeper))
        → IsCut n (A ∷ B ∷ deeper)
    by true is later =
        let zero_is : n ≡ 0 = grind (arith, nat_tests, is) in
        let next : (n + 1 == 0) ≡ false = grind (arith, nat_tests) in
        let back : n + 1 - 1 ≡ 0 = omega (arith, zero_is) in
        record {
          pre = [];
          first = A;
          second = B;
          deeper = deeper;
          whole = refl;
          count = sym zero_is;
          first_is = ap (λ b. cond b A (level_at (n - 1) (B ∷ deeper))) is;
          second_is =
              ap (λ b. cond b A (level_at (n + 1 - 1) (B ∷ deeper))) next
              ∙ ap (λ (m : ℕ). level_at m (B ∷ deeper)) back;
        }
    by false is later =
        let some : 0 < n = grind (arith, nat_tests, is) in
        let c = later (omega (arith, within, some)) in
        let next : (n + 1 == 0) ≡ false = grind (arith, nat_tests) in
        let count = c.count in
        let back : n + 1 - 1 ≡ n - 1 + 1 = omega (arith, some) in
        record {
          pre = A ∷ c.pre;
          first = c.first;
          second = c.second;
          deeper = c.deeper;
          whole = ap (λ (xs : List (List Table)). A ∷ xs) c.whole;
          count = omega (arith, count, some);
          first_is = ap (λ b. cond b A (level_at (n - 1) (B ∷ deeper))) is ∙ c.first_is;
          second_is =
              ap (λ b. cond b A (level_at (n + 1 - 1) (B ∷ deeper))) next
              ∙ ap (λ (m : ℕ). level_at m (B ∷ deeper)) back ∙ c.second_is;
        }

pub flat_levels : (pre : List (List Table)) (others : List (List Table))
    → flat_map (λ ts. ts) (pre ++ others) ≡ flat_map (λ ts. ts) pre ++ flat_map (λ ts. ts) others
flat_levels [] others = refl
flat_levels (ts ∷ pre) others =
    ap (λ (xs : List Table). ts ++ xs) (flat_levels pre others)
    ∙ sym (Rattle.std.proofs.Common.append_assoc ts (flat_map (λ us. us) pre) (flat_map (λ us. us) others))

-- The inputs of a level stand as an install wants them.
pub plan_fitted : (l : Layout) (h : History) (n : ℕ) → AreLevels l.levels → n + 1 < length l.levels
    → IsFitted l (job_of l h (inputs_at n l.levels) (Level (n + 1))) (Level (n + 1))
plan_fitted l h n are within key =
    let c = cut_at n l.levels within in
    let A = c.first in
    let B = c.second in
    let D = flat_map (λ ts. ts) c.deeper in
    let job = job_of l h (inputs_at n l.levels) (Level (n + 1)) in
    let I = inputs_of job.base in
    let O = outside_of job.base in
    let pre = flat_map (λ ts. ts) c.pre in
    let flat : flat_map (λ ts. ts) l.levels ≡ pre ++ (A ++ (B ++ D)) =
    ap (λ (levels : List (List Table)). flat_map (λ ts. ts) levels) c.whole
    ∙ flat_levels c.pre (A ∷ B ∷ c.deeper) in
    let d0 = distinct_parts pre (A ++ (B ++ D)) (subst IsDistinct flat are.distinct) in
    let d1 = distinct_parts A (B ++ D) d0.1.0 in
    let d2 = distinct_parts B D d1.1.0 in
    let r0 = all_parts IsRanged pre (A ++ (B ++ D)) (subst (AllByRecursion IsRanged) flat are.ranged) in
    let r1 = all_parts IsRanged A (B ++ D) r0.1 in
    let r2 = all_parts IsRanged B D r1.1 in
    let off : AreOther A B =
    all_weaker (λ (x : Table). AllByRecursion (λ (y : Table). y.number ≢ x.number) (B ++ D))
    (λ (x : Table). AllByRecursion (λ (y : Table). y.number ≢ x.number) B)
    (λ x all. (all_parts (λ (y : Table). y.number ≢ x.number) B D all).0) A d1.1.1 in
    let off_D : AreOther A D =
    all_weaker (λ (x : Table). AllByRecursion (λ (y : Table). y.number ≢ x.number) (B ++ D))
    (λ (x : Table). AllByRecursion (λ (y : Table). y.number ≢ x.number) D)
    (λ x all. (all_parts (λ (y : Table). y.number ≢ x.number) B D all).1) A d1.1.1 in
    let apart_A : 0 < n → IsApart A = λ some. subst IsApart c.first_is (are.apart n some) in
    let apart_B : IsApart B = subst IsApart c.second_is (are.apart (n + 1) (omega arith)) in
    let ins = with_next (due_inputs n A) B in
    let inputs = numbers_of ins in
    let idle_pre : IsIdle job.keep I O job.floor inputs pre = all_weaker
    (λ (u : Table). AllByRecursion (λ (t : Table). t.number ≢ u.number) (A ++ (B ++ D))) (λ (u : Table). is_among inputs u ≡ false)
    (λ u all.
    let x = all_parts (λ (t : Table). t.number ≢ u.number) A (B ++ D) all in
    let y = all_parts (λ (t : Table). t.number ≢ u.number) B D x.1 in
    not_one_of u ins (all_ins n A B d1.0 off r1.0 r2.0 apart_A apart_B (λ (t : Table). t.number ≢ u.number) x.0 y.0)) pre d0.1.1 in
    let turned_A = others_turned A D off_D in
    let turned_B = others_turned B D d2.1.1 in
    let idle_D : IsIdle job.keep I O job.floor inputs D =
    both (λ (u : Table). is_among inputs u ≡ false) A B D turned_A turned_B
    (λ u a b. not_one_of u ins (all_ins n A B d1.0 off r1.0 r2.0 apart_A apart_B (λ (t : Table). t.number ≢ u.number) a b)) in
    let pair = pair_is n A B d1.0 off r1.0 r2.0 apart_A apart_B key job.keep I O job.floor c.deeper idle_D in
    let shaped : IsShaped job.keep I O job.floor inputs key (length c.pre + 1) (c.pre ++ A ∷ B ∷ c.deeper) =
    shaped_at job.keep I O job.floor inputs key c.pre A B c.deeper idle_pre pair in
    let same : numbers_of (inputs_at n l.levels) ≡ inputs =
    ap (λ (x : List Table). numbers_of (with_next (due_inputs n x) (level_at (n + 1) l.levels))) c.first_is
    ∙ ap (λ (y : List Table). numbers_of (with_next (due_inputs n A) y)) c.second_is in
    subst (λ (numbers : List ℕ). IsShaped job.keep I O job.floor numbers key (n + 1) l.levels) (sym same)
    (subst (λ (levels : List (List Table)). IsShaped job.keep I O job.floor inputs key (n + 1) levels) (sym c.whole)
    (subst (λ (m : ℕ). IsShaped job.keep I O job.floor inputs key (m + 1) (c.pre ++ A ∷ B ∷ c.deeper)) c.count shaped))
  where
    both : (P : Table → Type 0) (A B us : List Table)
        → AllByRecursion (λ (u : Table). AllByRecursion (λ (t : Table). t.number ≢ u.number) A) us
        → AllByRecursion (λ (u : Table). AllByRecursion (λ (t : Table). t.number ≢ u.number) B) us
        → ((u : Table) → AllByRecursion (λ (t : Table). t.number ≢ u.number) A
        → AllByRecursion (λ (t : Table). t.number ≢ u.number) B → P u)
        → AllByRecursion P us
    both P A B [] a b f = tt
    both P A B (u ∷ us) a b f = (f u a.0 b.0, both P A B us a.1 b.1 f)

-- ---- a drain

split_first : (segment : ℕ) (ts : List Table) (t : Table) → first_into segment ts ≡ Some t
    → (xs : List Table) × (ys : List Table) × (ts ≡ xs ++ t ∷ ys)
split_first segment [] t is = absurd cc
split_first segment (u ∷ us) t is = by (has_point segment u) refl (λ later. split_first segment us t later)
  where
    by : (b : Bool) → has_point segment u ≡ b
        → (first_into segment us ≡ Some t → (xs : List Table) × (ys : List Table) × (us ≡ xs ++ t ∷ ys))
        → (xs : List Table) × (ys : List Table) × (u ∷ us ≡ xs ++ t ∷ ys)
    by true has later =
        let same : u ≡ t = the_one u t (sym (ap (λ b. cond b (Some u) (first_into segment us)) has) ∙ is) in
        ([], us, ap (λ (x : Table). x ∷ us) same)
      where
        the_one : (a b : Table) → Some a ≡ Some b → a ≡ b
        the_one a b e = cc
    by false has later =
        let rest = later (sym (ap (λ b. cond b (Some u) (first_into segment us)) has) ∙ is) in
        (u ∷ rest.0, rest.1, ap (λ (ts : List Table). u ∷ ts) rest.2)

pub drain_fitted : (l : Layout) (h : History) (segment : ℕ) (t : Table) → IsDistinct (tables l)
    → first_into segment (tables l) ≡ Some t
    → IsFitted l (job_of l h (t ∷ []) InPlace) InPlace
drain_fitted l h segment t distinct is =
    let s = split_first segment (tables l) t is in
    let d = distinct_parts s.0 (t ∷ s.1) (subst IsDistinct s.2 distinct) in
    let here : (t.number == t.number) ≡ true = grind (arith, nat_tests) in (
      s.0,
      t,
      s.1,
      s.2,
      (before s.0 d.1.1, (ap (λ b. b || false) here, after s.1 d.1.0.0)),
    )
  where
    before : (us : List Table)
        → AllByRecursion (λ (x : Table). AllByRecursion (λ (y : Table). y.number ≢ x.number)
        (t ∷ (split_first segment (tables l) t is).1)) us
        → AllByRecursion (λ (u : Table). is_among (t.number ∷ []) u ≡ false) us
    before [] all = tt
    before (u ∷ us) all = (not_one_of u (t ∷ []) (all.0.0, tt), before us all.1)

    after : (us : List Table) → AllByRecursion (λ (u : Table). u.number ≢ t.number) us
        → AllByRecursion (λ (u : Table). is_among (t.number ∷ []) u ≡ false) us
    after [] all = tt
    after (u ∷ us) all = (not_one_of u (t ∷ []) ((λ same. all.0 (sym same)), tt), after us all.1)
