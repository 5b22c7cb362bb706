-- Rows in a strict order: two lists that agree on each key up to the last of some first rows begin
-- with the same rows.
use Rattle.std.proofs.Common.{◌≡◌, ℕ, zero, suc, Bool, true, false, cond, ◌&&◌, List, [], ◌∷◌, ◌++◌, length, take}
use Rattle.std.proofs.Common.{reverse, refl, ap, sym, ◌∙◌, subst, arith}
use Rattle.std.specs.Prelude.{T, Option, Some, None}
use Rattle.std.specs.Ordering.{eq_by_cmp, is_eq, is_lt, is_gt, ordering_reverse}
use Rattle.std.specs.declared.cmp.Ordering.{Ordering}
use Rattle.std.specs.declared.cmp.Ordering.TheVariants.{Less, Equal, Greater}
use Rattle.std.specs.List.{AllByRecursion}
use Rattle.std.specs.Cmp.{IsTotalOrder, tied_itself}
use Rattle.std.specs.FinMap.{find, IsAntisymmetric}
use Rattle.std.specs.FinMap.Entries.{is_sorted, below_all}
use Rattle.std.proofs.lemmas.List.{reverse-append}
use Rattle.vl_model.specs.Keys.{Stored, Row}
use Rattle.vl_model.specs.Reads.{last_key}

pub first_part : (a b : Bool) → T (a && b) → T a
first_part true b both = tt
first_part false b both = absurd both

pub second_part : (a b : Bool) → T (a && b) → T b
second_part true b both = both
second_part false b both = absurd both

both_parts : (a b : Bool) → T a → T b → T (a && b)
both_parts true b x y = y
both_parts false b x y = absurd x

is_less : (r : Ordering) → T (is_lt r) → r ≡ Less
is_less Less lt = refl
is_less Equal lt = absurd lt
is_less Greater lt = absurd lt

less_is : (r : Ordering) → r ≡ Less → T (is_lt r)
less_is r is = subst (λ (s : Ordering). T (is_lt s)) (sym is) tt

turned_less : (r : Ordering) → ordering_reverse r ≡ Greater → r ≡ Less
turned_less Less is = refl
turned_less Equal is = absurd cc
turned_less Greater is = absurd cc

some_same : (x y : List ℕ) → Some x ≡ Some y → x ≡ y
some_same x y is = cc

abbrev or_else : Option Stored → Option Stored → Option Stored
or_else (Some v) other = Some v
or_else None other = other

module _ (R : List ℕ → List ℕ → Ordering) (o : IsTotalOrder R) (exact : IsAntisymmetric R) where
  -- a key below all isn't found
  none_below : (q : List ℕ) (es : List Row) → T (below_all R q es) → find R q es ≡ None
  none_below q [] below = refl
  none_below q (e ∷ es) below =
      ap (λ r. cond (is_eq r) (Some e.1) (find R q es)) (is_less (R q e.0) (first_part (is_lt (R q e.0)) (below_all R q es) below))
      ∙ none_below q es (second_part (is_lt (R q e.0)) (below_all R q es) below)

  below_later : (q k : List ℕ) (es : List Row) → R q k ≡ Less → T (below_all R k es)
      → T (below_all R q es)
  below_later q k [] less below = tt
  below_later q k (e ∷ es) less below =
      both_parts (is_lt (R q e.0)) (below_all R q es)
      (less_is (R q e.0) (o.trans q k e.0 less (is_less (R k e.0) (first_part (is_lt (R k e.0)) (below_all R k es) below))))
      (below_later q k es less (second_part (is_lt (R k e.0)) (below_all R k es) below))

  -- nor one before the first
  none_before : (q : List ℕ) (e : Row) (es : List Row) → R q e.0 ≡ Less → T (is_sorted R (e ∷ es))
      → find R q (e ∷ es) ≡ None
  none_before q e es less rising =
      none_below q (e ∷ es) (both_parts (is_lt (R q e.0)) (below_all R q es) (less_is (R q e.0) less)
      (below_later q e.0 es less (first_part (below_all R e.0 es) (is_sorted R es) rising)))

  found_first : (e : Row) (es : List Row) → find R e.0 (e ∷ es) ≡ Some e.1
  found_first e es = ap (λ r. cond (is_eq r) (Some e.1) (find R e.0 es)) (tied_itself o e.0)

  below_taken : (k : List ℕ) (n : ℕ) (es : List Row) → T (below_all R k es)
      → T (below_all R k (take n es))
  below_taken k zero es below = tt
  below_taken k (suc n) [] below = tt
  below_taken k (suc n) (e ∷ es) below =
      both_parts (is_lt (R k e.0)) (below_all R k (take n es)) (first_part (is_lt (R k e.0)) (below_all R k es) below)
      (below_taken k n es (second_part (is_lt (R k e.0)) (below_all R k es) below))

  last_above : (k last : List ℕ) (es : List Row) → T (below_all R k es) → last_key es ≡ Some last
      → R k last ≡ Less
  last_above k last [] below is = absurd cc
  last_above k last (e ∷ []) below is =
      ap (R k) (some_same last e.0 (sym is)) ∙ is_less (R k e.0) (first_part (is_lt (R k e.0)) true below)
  last_above k last (e ∷ f ∷ fs) below is =
      last_above k last (f ∷ fs) (second_part (is_lt (R k e.0)) (below_all R k (f ∷ fs)) below) is

  -- the first row isn't behind the last of those taken
  first_up_to : (e : Row) (es : List Row) (last : List ℕ) → T (below_all R e.0 es)
      → last_key (e ∷ es) ≡ Some last → is_gt (R e.0 last) ≡ false
  first_up_to e [] last below is = ap (λ k. is_gt (R e.0 k)) (some_same last e.0 (sym is)) ∙ ap is_gt (tied_itself o e.0)
  first_up_to e (f ∷ fs) last below is = ap is_gt (last_above e.0 last (f ∷ fs) below is)

  up_to_chain : (q k last : List ℕ) → R q k ≡ Less → is_gt (R k last) ≡ false
      → is_gt (R q last) ≡ false
  up_to_chain q k last less up = by_order (R k last) refl up
    where
      by_order : (r : Ordering) → R k last ≡ r → is_gt r ≡ false → is_gt (R q last) ≡ false
      by_order Less is up = ap is_gt (o.trans q k last less is)
      by_order Equal is up = ap (λ j. is_gt (R q j)) (sym (exact k last is)) ∙ ap is_gt less
      by_order Greater is up = absurd cc

  rest_agrees : (q : List ℕ) (e : Row) (es fs : List Row) → T (below_all R e.0 es)
      → T (below_all R e.0 fs) → find R q (e ∷ es) ≡ find R q (e ∷ fs) → find R q es ≡ find R q fs
  rest_agrees q e es fs below_es below_fs = by_test (eq_by_cmp R q e.0) refl
    where
      gone : eq_by_cmp R q e.0 ≡ true → (gs : List Row) → T (below_all R e.0 gs)
          → find R q gs ≡ None
      gone is gs below = ap (λ k. find R k gs) (exact q e.0 (tied (R q e.0) is)) ∙ none_below e.0 gs below
        where
          tied : (r : Ordering) → is_eq r ≡ true → r ≡ Equal
          tied Less t = absurd cc
          tied Equal t = refl
          tied Greater t = absurd cc

      by_test : (b : Bool) → eq_by_cmp R q e.0 ≡ b
          → cond b (Some e.1) (find R q es) ≡ cond b (Some e.1) (find R q fs)
          → find R q es ≡ find R q fs
      by_test true is same = gone is es below_es ∙ sym (gone is fs below_fs)
      by_test false is same = same

  -- what is left to compare behind the first row, where more is taken
  behind_first : (n : ℕ) (e : Row) (es fs : List Row) (last : List ℕ)
      → length (take (suc n) (e ∷ es)) ≡ suc n → last_key (take (suc n) (e ∷ es)) ≡ Some last
      → (length (take n es) ≡ n → last_key (take n es) ≡ Some last → take n es ≡ take n fs)
      → take n es ≡ take n fs
  behind_first zero e es fs last full is rest = refl
  behind_first (suc n) e [] fs last full is rest = absurd (omega (arith, full))
  behind_first (suc n) e (z ∷ zs) fs last full is rest = rest (omega (arith, full)) is

  pub same_front : (n : ℕ) (es fs : List Row) (last : List ℕ) → T (is_sorted R es)
      → T (is_sorted R fs) → length (take n es) ≡ n → last_key (take n es) ≡ Some last
      → ((q : List ℕ) → is_gt (R q last) ≡ false → find R q es ≡ find R q fs)
      → take n es ≡ take n fs
  same_front zero es fs last rising_es rising_fs full is agree = refl
  same_front (suc n) [] fs last rising_es rising_fs full is agree = absurd cc
  same_front (suc n) (e ∷ es) [] last rising_es rising_fs full is agree =
      absurd (none_some e.1 (sym
      (agree e.0 (first_up_to e (take n es) last
      (below_taken e.0 n es (first_part (below_all R e.0 es) (is_sorted R es) rising_es)) is)) ∙ found_first e es))
    where
      none_some : (v : Stored) → None ≡ Some v → ⊥
      none_some v h = cc
  same_front (suc n) (e ∷ es) (f ∷ fs) last rising_es rising_fs full is agree =
      by_order (R e.0 f.0) refl
      (λ agrees. behind_first n e es fs last full is
      (λ rest_full rest_is. same_front n es fs last later_es later_fs rest_full rest_is agrees))
    where
      below_es : T (below_all R e.0 es)
      below_es = first_part (below_all R e.0 es) (is_sorted R es) rising_es

      below_fs : T (below_all R f.0 fs)
      below_fs = first_part (below_all R f.0 fs) (is_sorted R fs) rising_fs

      later_es : T (is_sorted R es)
      later_es = second_part (below_all R e.0 es) (is_sorted R es) rising_es

      later_fs : T (is_sorted R fs)
      later_fs = second_part (below_all R f.0 fs) (is_sorted R fs) rising_fs

      first_up : is_gt (R e.0 last) ≡ false
      first_up = first_up_to e (take n es) last (below_taken e.0 n es below_es) is

      none_some : (v : Stored) → None ≡ Some v → ⊥
      none_some v h = cc

      same_value : (v w : Stored) → Some v ≡ Some w → v ≡ w
      same_value v w h = cc

      by_order : (r : Ordering) → R e.0 f.0 ≡ r
          → (((q : List ℕ) → is_gt (R q last) ≡ false → find R q es ≡ find R q fs) → take n es ≡ take n fs)
          → e ∷ take n es ≡ f ∷ take n fs
      by_order Less less rest =
          absurd (none_some e.1 (sym (none_before e.0 f fs less rising_fs) ∙ sym (agree e.0 first_up) ∙ found_first e es))
      by_order Greater greater rest =
          let less : R f.0 e.0 ≡ Less = turned_less (R f.0 e.0) (sym (o.antisymm e.0 f.0) ∙ greater) in
          absurd (none_some f.1 (sym (none_before f.0 e es less rising_es)
          ∙ agree f.0 (up_to_chain f.0 e.0 last less first_up) ∙ found_first f fs))
      by_order Equal tied rest =
          let keys : e.0 ≡ f.0 = exact e.0 f.0 tied in
          let values : e.1 ≡ f.1 = same_value e.1 f.1
          (sym (found_first e es) ∙ agree e.0 first_up ∙ ap (λ (k : List ℕ). find R k (f ∷ fs)) keys ∙ found_first f fs) in
          let same : e ≡ f = λ i. (keys i, values i) in
          let agrees : (q : List ℕ) → is_gt (R q last) ≡ false → find R q es ≡ find R q fs = λ q up.
          rest_agrees q e es fs below_es (subst (λ (k : List ℕ). T (below_all R k fs)) (sym keys) below_fs)
          (agree q up ∙ ap (λ (g : Row). find R q (g ∷ fs)) (sym same)) in
          ap (λ (g : Row). g ∷ take n es) same ∙ ap (λ gs. f ∷ gs) (rest agrees)

-- ---- turned round

abbrev pub back : (List ℕ → List ℕ → Ordering) → List ℕ → List ℕ → Ordering
back R a b = R b a

module _ (R : List ℕ → List ℕ → Ordering) (o : IsTotalOrder R) where
  all_below : (k : List ℕ) (es : List Row) → T (below_all R k es)
      → AllByRecursion (λ (e : Row). T (is_lt (R k e.0))) es
  all_below k [] below = tt
  all_below k (e ∷ es) below =
      (first_part (is_lt (R k e.0)) (below_all R k es) below, all_below k es (second_part (is_lt (R k e.0)) (below_all R k es) below))

  all_both : (P : Row → Type 0) (es fs : List Row) → AllByRecursion P es → AllByRecursion P fs
      → AllByRecursion P (es ++ fs)
  all_both P [] fs some others = others
  all_both P (e ∷ es) fs some others = (some.0, all_both P es fs some.1 others)

  all_back : (P : Row → Type 0) (es : List Row) → AllByRecursion P es
      → AllByRecursion P (reverse es)
  all_back P [] all = tt
  all_back P (e ∷ es) all = subst (AllByRecursion P) (sym (reverse-append (e ∷ []) es))
      (all_both P (reverse es) (e ∷ []) (all_back P es all.1) (all.0, tt))

  below_more : (k : List ℕ) (es : List Row) (f : Row) → T (below_all (back R) k es)
      → T (is_lt (R f.0 k)) → T (below_all (back R) k (es ++ f ∷ []))
  below_more k [] f below less = both_parts (is_lt (R f.0 k)) true less tt
  below_more k (e ∷ es) f below less =
      both_parts (is_lt (R e.0 k)) (below_all (back R) k (es ++ f ∷ [])) (first_part (is_lt (R e.0 k)) (below_all (back R) k es) below)
      (below_more k es f (second_part (is_lt (R e.0 k)) (below_all (back R) k es) below) less)

  sorted_more : (es : List Row) (f : Row) → T (is_sorted (back R) es)
      → AllByRecursion (λ (e : Row). T (is_lt (R f.0 e.0))) es
      → T (is_sorted (back R) (es ++ f ∷ []))
  sorted_more [] f falling all = tt
  sorted_more (e ∷ es) f falling all =
      both_parts (below_all (back R) e.0 (es ++ f ∷ [])) (is_sorted (back R) (es ++ f ∷ []))
      (below_more e.0 es f (first_part (below_all (back R) e.0 es) (is_sorted (back R) es) falling) all.0)
      (sorted_more es f (second_part (below_all (back R) e.0 es) (is_sorted (back R) es) falling) all.1)

  -- rising rows turned round fall
  pub sorted_back : (es : List Row) → T (is_sorted R es) → T (is_sorted (back R) (reverse es))
  sorted_back [] rising = tt
  sorted_back (e ∷ es) rising =
      subst (λ (gs : List Row). T (is_sorted (back R) gs)) (sym (reverse-append (e ∷ []) es))
      (sorted_more (reverse es) e (sorted_back es (second_part (below_all R e.0 es) (is_sorted R es) rising))
      (all_back (λ (g : Row). T (is_lt (R e.0 g.0))) es (all_below e.0 es (first_part (below_all R e.0 es) (is_sorted R es) rising))))

  eq_back : (q k : List ℕ) → is_eq (R k q) ≡ is_eq (R q k)
  eq_back q k = ap is_eq (o.antisymm k q) ∙ turned (R q k)
    where
      turned : (r : Ordering) → is_eq (ordering_reverse r) ≡ is_eq r
      turned Less = refl
      turned Equal = refl
      turned Greater = refl

  find_more : (q : List ℕ) (es : List Row) (f : Row)
      → find (back R) q (es ++ f ∷ []) ≡ or_else (find (back R) q es) (find R q (f ∷ []))
  find_more q [] f = ap (λ b. cond b (Some f.1) None) (eq_back q f.0)
  find_more q (e ∷ es) f = by_test (is_eq (R e.0 q)) (find_more q es f)
    where
      by_test : (b : Bool)
          → find (back R) q (es ++ f ∷ []) ≡ or_else (find (back R) q es) (find R q (f ∷ []))
          → cond b (Some e.1) (find (back R) q (es ++ f ∷ [])) ≡ or_else (cond b (Some e.1) (find (back R) q es)) (find R q (f ∷ []))
      by_test true rest = refl
      by_test false rest = rest

module _ (R : List ℕ → List ℕ → Ordering) (o : IsTotalOrder R) (exact : IsAntisymmetric R) where
  -- and each key is found there as it was
  pub find_back : (q : List ℕ) (es : List Row) → T (is_sorted R es)
      → find (back R) q (reverse es) ≡ find R q es
  find_back q [] rising = refl
  find_back q (e ∷ es) rising =
      ap (λ (gs : List Row). find (back R) q gs) (reverse-append (e ∷ []) es)
      ∙ find_more R o q (reverse es) e
      ∙ ap (λ found. or_else found (find R q (e ∷ []))) (find_back q es (second_part (below_all R e.0 es) (is_sorted R es) rising))
      ∙ by_test (eq_by_cmp R q e.0) refl
    where
      tied : (r : Ordering) → is_eq r ≡ true → r ≡ Equal
      tied Less t = absurd cc
      tied Equal t = refl
      tied Greater t = absurd cc

      gone : eq_by_cmp R q e.0 ≡ true → find R q es ≡ None
      gone is = ap (λ k. find R k es) (exact q e.0 (tied (R q e.0) is))
          ∙ none_below R o exact e.0 es (first_part (below_all R e.0 es) (is_sorted R es) rising)

      none_left : (o : Option Stored) → or_else o None ≡ o
      none_left None = refl
      none_left (Some v) = refl

      by_test : (b : Bool) → eq_by_cmp R q e.0 ≡ b
          → or_else (find R q es) (cond b (Some e.1) None) ≡ cond b (Some e.1) (find R q es)
      by_test true is = ap (λ found. or_else found (Some e.1)) (gone is)
      by_test false is = none_left (find R q es)
