-- Laws of tallies: a rotation puts a log more at its place, and a switch leaves those that a test of their numbers leaves.
use Rattle.std.proofs.Common.{◌≡◌, ℕ, ◌≤◌, ◌<◌, Bool, true, false, cond, not, ◌&&◌, List, [], ◌∷◌, ◌++◌}
use Rattle.std.proofs.Common.{refl, ap, sym, ◌∙◌, subst, arith}
use Rattle.std.proofs.lemmas.Bool.Decides.{nat_tests}
use Rattle.std.proofs.lemmas.Cmp.{ranked}
use Rattle.std.specs.Prelude.{◌==◌, nat_lt}
use Rattle.std.specs.FinMap.{put}
use Rattle.std.specs.List.{AllByRecursion, filter}
use Rattle.std.specs.Ordering.{nat_cmp}
use Rattle.std.specs.declared.cmp.Ordering.{Ordering}
use Rattle.std.specs.declared.cmp.Ordering.TheVariants.{Less, Equal, Greater}
use Rattle.vl_model.specs.Entries.{by_order}
use Rattle.vl_engine_model.specs.Garbage.{live_bytes}
use Rattle.vl_engine_model.specs.Ruling.{switched}
use Rattle.vl_engine_model.specs.Sources.{but_oldest, head, put_segment, rising, tables}
use Rattle.vl_engine_model.specs.Stock.{IsFalling}
use Rattle.vl_engine_model.specs.Tidy.{sealed}
use Rattle.vl_engine_model.specs.declared.layout.Layout.{Layout}
use Rattle.vl_engine_model.specs.declared.segment.Segment.{Segment}
use Rattle.vl_engine_model.specs.declared.table.Table.{Table}
use Rattle.vl_engine_model.specs.laws.RisingLaws.{map-filter}
use Rattle.vl_engine_model_laws.specs.laws.Files.{all_filtered, all_weaker, true_false}
use Rattle.vl_engine_model_laws.specs.laws.Once.{IsUp}
use Rattle.vl_engine_model_laws.specs.laws.Stock.{head_least}
use Rattle.vl_stats.specs.Tallies.{IsOfLayout, lengths_of, stays}

-- ---- a log more

pub lengths_put : (s : Segment) (ss : List Segment)
    → lengths_of (put_segment s ss) ≡ put nat_cmp s.number s.length (lengths_of ss)
lengths_put s [] = refl
lengths_put s (t ∷ ts) = by (nat_cmp s.number t.number) refl (lengths_put s ts)
  where
    by : (r : Ordering) → nat_cmp s.number t.number ≡ r
        → lengths_of (put_segment s ts) ≡ put nat_cmp s.number s.length (lengths_of ts)
        → lengths_of (by_order r (s ∷ t ∷ ts) (s ∷ ts) (t ∷ put_segment s ts))
        ≡ by_order r ((s.number, s.length) ∷ (t.number, t.length) ∷ lengths_of ts) ((t.number, s.length) ∷ lengths_of ts)
        ((t.number, t.length) ∷ put nat_cmp s.number s.length (lengths_of ts))
    by Less is later = refl
    by Equal is later =
        let same : s.number ≡ t.number = ranked s.number t.number Equal (sym is) in
        ap (λ (n : ℕ). (n, s.length) ∷ lengths_of ts) same
    by Greater is later = ap (λ xs. (t.number, t.length) ∷ xs) later

-- ---- rising logs

all_put : (P : Segment → Type 0) (s : Segment) (ss : List Segment) → P s → AllByRecursion P ss
    → AllByRecursion P (put_segment s ss)
all_put P s [] here all = (here, tt)
all_put P s (t ∷ ts) here all = elim (nat_cmp s.number t.number) as
    (λ r. AllByRecursion P (by_order r (s ∷ t ∷ ts) (s ∷ ts) (t ∷ put_segment s ts))) [
      | Less ↦ (here, all)
      | Equal ↦ (here, all.1)
      | Greater ↦ (all.0, all_put P s ts here all.1)
    ]

above : (m n : ℕ) → m < n → (ss : List Segment) → AllByRecursion (λ (s : Segment). n < s.number) ss
    → AllByRecursion (λ (s : Segment). m < s.number) ss
above m n less ss all =
    all_weaker (λ (s : Segment). n < s.number) (λ (s : Segment). m < s.number) (λ s more. omega (arith, less, more)) ss all

up_put : (s : Segment) (ss : List Segment) → IsUp ss → IsUp (put_segment s ss)
up_put s [] up = (tt, tt)
up_put s (t ∷ ts) up = by (nat_cmp s.number t.number) refl (up_put s ts up.1)
  where
    by : (r : Ordering) → nat_cmp s.number t.number ≡ r → IsUp (put_segment s ts)
        → IsUp (by_order r (s ∷ t ∷ ts) (s ∷ ts) (t ∷ put_segment s ts))
    by Less is later =
        let less : s.number < t.number = ranked s.number t.number Less (sym is) in
        ((less, above s.number t.number less ts up.0), up)
    by Equal is later =
        let same : s.number ≡ t.number = ranked s.number t.number Equal (sym is) in
        (subst (λ (n : ℕ). AllByRecursion (λ (u : Segment). n < u.number) ts) (sym same) up.0, up.1)
    by Greater is later =
        let less : t.number < s.number = ranked s.number t.number Greater (sym is) in
        (all_put (λ (u : Segment). t.number < u.number) s ts less up.0, later)

up_rising : (ss : List Segment) → IsUp (rising ss)
up_rising [] = tt
up_rising (s ∷ ss) = up_put s (rising ss) (up_rising ss)

-- ---- a test of numbers

is_less : (m n : ℕ) → m < n → nat_cmp m n ≡ Less
is_less m n less =
    let low : nat_lt m n ≡ true = grind (arith, nat_tests) in
    ap (λ b. cond b Less (cond (m == n) Equal Greater)) low

in_front : (s : Segment) (ts : List Segment) → AllByRecursion (λ (t : Segment). s.number < t.number) ts
    → put_segment s ts ≡ s ∷ ts
in_front s [] all = refl
in_front s (t ∷ ts) all =
    ap (λ r. by_order r (s ∷ t ∷ ts) (s ∷ ts) (t ∷ put_segment s ts)) (is_less s.number t.number all.0)

module _ (q : ℕ → Bool) where
  abbrev passes : Segment → Bool
  passes s = q s.number

  filter-put : (s : Segment) (ts : List Segment) → IsUp ts
      → filter passes (put_segment s ts) ≡ cond (q s.number) (put_segment s (filter passes ts)) (filter passes ts)
  filter-put s [] up = refl
  filter-put s (t ∷ ts) up = by (nat_cmp s.number t.number) refl (filter-put s ts up.1)
    where
      front : (b : Bool) → nat_cmp s.number t.number ≡ Less
          → AllByRecursion (λ (u : Segment). s.number < u.number) (cond b (t ∷ filter passes ts) (filter passes ts))
      front b is =
          let less : s.number < t.number = ranked s.number t.number Less (sym is) in
          let later : AllByRecursion (λ (u : Segment). s.number < u.number) (filter passes ts) =
          all_filtered (λ (u : Segment). s.number < u.number) passes ts (above s.number t.number less ts up.0) in
          elim b as (λ c. AllByRecursion (λ (u : Segment). s.number < u.number) (cond c (t ∷ filter passes ts) (filter passes ts))) [
            | true ↦ (less, later)
            | false ↦ later
          ]

      equal : (a b : Bool) → a ≡ b → nat_cmp s.number t.number ≡ Equal
          → cond a (s ∷ filter passes ts) (filter passes ts)
          ≡ cond a (put_segment s (cond b (t ∷ filter passes ts) (filter passes ts))) (cond b (t ∷ filter passes ts) (filter passes ts))
      equal true true same is = sym (ap
          (λ r. by_order r (s ∷ t ∷ filter passes ts) (s ∷ filter passes ts) (t ∷ put_segment s (filter passes ts))) is)
      equal false false same is = refl
      equal true false same is = absurd (true_false same)
      equal false true same is = absurd (true_false (sym same))

      greater : (a b : Bool) (xs : List Segment) → nat_cmp s.number t.number ≡ Greater
          → xs ≡ cond a (put_segment s (filter passes ts)) (filter passes ts)
          → cond b (t ∷ xs) xs
          ≡ cond a (put_segment s (cond b (t ∷ filter passes ts) (filter passes ts))) (cond b (t ∷ filter passes ts) (filter passes ts))
      greater true true xs is later = ap (λ zs. t ∷ zs) later ∙ sym (ap
          (λ r. by_order r (s ∷ t ∷ filter passes ts) (s ∷ filter passes ts) (t ∷ put_segment s (filter passes ts))) is)
      greater true false xs is later = later
      greater false true xs is later = ap (λ zs. t ∷ zs) later
      greater false false xs is later = later

      by : (r : Ordering) → nat_cmp s.number t.number ≡ r
          → filter passes (put_segment s ts) ≡ cond (q s.number) (put_segment s (filter passes ts)) (filter passes ts)
          → filter passes (by_order r (s ∷ t ∷ ts) (s ∷ ts) (t ∷ put_segment s ts))
          ≡ cond (q s.number) (put_segment s (filter passes (t ∷ ts))) (filter passes (t ∷ ts))
      by Less is later =
          ap (λ xs. cond (q s.number) xs (filter passes (t ∷ ts))) (sym (in_front s (filter passes (t ∷ ts)) (front (q t.number) is)))
      by Equal is later =
          equal (q s.number) (q t.number) (ap q (ranked s.number t.number Equal (sym is))) is
      by Greater is later = greater (q s.number) (q t.number) (filter passes (put_segment s ts)) is later

  -- whether a test goes before or behind the putting in order
  pub rising-filter : (ss : List Segment) → rising (filter passes ss) ≡ filter passes (rising ss)
  rising-filter [] = refl
  rising-filter (s ∷ ss) =
      let later = rising-filter ss in
      elim (q s.number) as (λ b. rising (cond b (s ∷ filter passes ss) (filter passes ss))
      ≡ cond b (put_segment s (filter passes (rising ss))) (filter passes (rising ss))) [
        | true ↦ ap (λ xs. put_segment s xs) later
        | false ↦ later
      ]
      ∙ sym (filter-put s (rising ss) (up_rising ss))

  -- those in front all pass
  all_pass : (xs ys : List Segment) → AllByRecursion (λ (s : Segment). q s.number ≡ true) xs
      → filter passes (xs ++ ys) ≡ xs ++ filter passes ys
  all_pass [] ys all = refl
  all_pass (x ∷ xs) ys all =
      ap (λ b. cond b (x ∷ filter passes (xs ++ ys)) (filter passes (xs ++ ys))) all.0
      ∙ ap (λ zs. x ∷ zs) (all_pass xs ys all.1)

  -- none of those in front passes
  pub none_pass : (xs ys : List Segment) → AllByRecursion (λ (s : Segment). q s.number ≡ false) xs
      → filter passes (xs ++ ys) ≡ filter passes ys
  none_pass [] ys all = refl
  none_pass (x ∷ xs) ys all =
      ap (λ b. cond b (x ∷ filter passes (xs ++ ys)) (filter passes (xs ++ ys))) all.0
      ∙ none_pass xs ys all.1

-- ---- a switch

filter_alike : {X : Type 0} (p q : X → Bool) → ((x : X) → p x ≡ q x) → (xs : List X) → filter p xs ≡ filter q xs
filter_alike p q same [] = refl
filter_alike p q same (x ∷ xs) =
    ap (λ b. cond b (x ∷ filter p xs) (filter p xs)) (same x)
    ∙ ap (λ zs. cond (q x) (x ∷ zs) zs) (filter_alike p q same xs)

module _ (l : Layout) (dropped : List Table) (falling : IsFalling (l.active ∷ l.frozen)) where
  abbrev stays_there : ℕ → Bool
  stays_there n = not (nat_lt n (head l) && (live_bytes (tables l) n == 0))

  frozen_stay : AllByRecursion (λ (s : Segment). stays_there s.number ≡ true) l.frozen
  frozen_stay =
      all_weaker (λ (s : Segment). head l ≤ s.number) (λ (s : Segment). stays_there s.number ≡ true)
      (λ s least.
      let high : nat_lt s.number (head l) ≡ false = grind (arith, nat_tests, least) in
      ap (λ b. not (b && (live_bytes (tables l) s.number == 0))) high)
      l.frozen (head_least l falling).1

  -- of the logs those stay that the test leaves
  sealed_behind : rising (sealed (switched dropped l)) ≡ filter (passes stays_there) (rising (sealed l))
  sealed_behind =
      ap rising (sym (all_pass stays_there l.frozen l.flushed frozen_stay))
      ∙ rising-filter stays_there (sealed l)

  pub switched_logs : (live : List (ℕ × ℕ)) (number : ℕ) → IsOfLayout live number (switched dropped l)
      → lengths_of (rising (sealed (switched dropped l))) ≡ filter (stays number live) (lengths_of (rising (sealed l)))
  switched_logs live number is =
      ap lengths_of sealed_behind
      ∙ map-filter (λ (s : Segment). (s.number, s.length)) (passes stays_there) (λ (p : ℕ × ℕ). stays_there p.0) (λ s. refl)
      (rising (sealed l))
      ∙ filter_alike (λ (p : ℕ × ℕ). stays_there p.0) (stays number live) (λ p.
      ap (λ (n : ℕ). not (nat_lt p.0 n && (live_bytes (tables l) p.0 == 0))) (sym is.head_is)
      ∙ ap (λ (n : ℕ). not (nat_lt p.0 number && (n == 0))) (sym (is.live_is p.0)))
      (lengths_of (rising (sealed l)))

-- ---- the oldest frozen log goes

pub falling_less : (a : Segment) (ss : List Segment) → IsFalling (a ∷ ss) → IsFalling (a ∷ but_oldest ss)
falling_less a [] falling = falling
falling_less a (s ∷ []) falling = (tt, tt)
falling_less a (s ∷ t ∷ ts) falling = (below (s ∷ t ∷ ts) falling.0, falling_less s (t ∷ ts) falling.1)
  where
    below : (us : List Segment) → AllByRecursion (λ (u : Segment). u.number < a.number) us
        → AllByRecursion (λ (u : Segment). u.number < a.number) (but_oldest us)
    below [] all = tt
    below (u ∷ []) all = tt
    below (u ∷ v ∷ vs) all = (all.0, below (v ∷ vs) all.1)
