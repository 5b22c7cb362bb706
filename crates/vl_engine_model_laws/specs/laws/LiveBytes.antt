-- Live bytes, kept by what each switch adds and drops, are the sums over the tables of the moment.
use Rattle.std.proofs.Common.{◌≡◌, ℕ, ◌+◌, ◌-◌, ◌*◌, ◌^◌, ◌≤◌, ◌<◌, Bool, true, false, cond, not, ◌&&◌, ◌||◌, List}
use Rattle.std.proofs.Common.{[], ◌∷◌, ◌++◌, map, length, refl, ap, sym, ◌∙◌, arith}
use Rattle.std.proofs.lemmas.Bool.Decides.{nat_tests}
use Rattle.std.proofs.lemmas.List.Sums.{sum_by-cons}
use Rattle.std.specs.Prelude.{nat_le, nat_lt, ◌==◌, if◌then◌else◌}
use Rattle.std.specs.List.{flat_map, filter}
use Rattle.std.specs.Ordering.{nat_cmp}
use Rattle.std.specs.FinMap.{nat_cmp-IsAntisymmetric}
use Rattle.std.specs.declared.cmp.Ordering.TheVariants.{Less, Equal, Greater}
use Rattle.vl_model.specs.Entries.{by_order}
use Rattle.vl_model.specs.declared.log_frame.LogFrame.{LogFrame}
use Rattle.vl_model.specs.declared.log_frame.Moved.{Moved}
use Rattle.vl_model.specs.Cutting.{pointed}
use Rattle.vl_model.specs.declared.point.Point.{Point}
use Rattle.vl_engine_model.specs.Garbage.{pointed_bytes, live_bytes, discard, is_worth, is_better}
use Rattle.vl_engine_model.specs.Levels.{is_among, in_front, replaced, without, at_level, in_key_order, is_before}
use Rattle.vl_engine_model.specs.Ruling.{logged}
use Rattle.vl_engine_model.specs.Rulings.Flush.{flushed, flushed_table}
use Rattle.vl_engine_model.specs.Rulings.Install.{installed}
use Rattle.vl_engine_model.specs.Rulings.Relocate.{relocated}
use Rattle.vl_engine_model.specs.Rulings.Rotate.{rotated}
use Rattle.vl_engine_model.specs.Rulings.Stats.{told}
use Rattle.vl_engine_model.specs.Sources.{tables}
use Rattle.vl_engine_model.specs.Jobs.{Made}
use Rattle.vl_engine_model.specs.declared.job.Job.{Job}
use Rattle.vl_engine_model.specs.declared.job.Target.TheVariants.{Level, InPlace}
use Rattle.vl_engine_model.specs.declared.layout.Layout.{Layout}
use Rattle.vl_engine_model.specs.declared.segment.Segment.{Segment}
use Rattle.vl_engine_model.specs.declared.segment.SegmentStat.{SegmentStat}
use Rattle.vl_engine_model.specs.declared.table.Table.{Table}

module _ (segment : ℕ) where
  live-cons : (t : Table) (ts : List Table)
      → live_bytes (t ∷ ts) segment ≡ pointed_bytes segment t.points + live_bytes ts segment
  live-cons t ts = sum_by-cons (λ (u : Table). pointed_bytes segment u.points) t ts

  live-append : (ts us : List Table) → live_bytes (ts ++ us) segment ≡ live_bytes ts segment + live_bytes us segment
  live-append [] us = omega arith
  live-append (t ∷ ts) us =
      let a = live-cons t (ts ++ us) in let b = live-cons t ts in let c = live-append ts us in omega (arith, a, b, c)

  -- ---- a flush

  pub live-flushed : (l : Layout) (s : Segment) (level : List Table) (deeper : List (List Table))
      → l.levels ≡ level ∷ deeper
      → live_bytes (tables (flushed l s)) segment
      ≡ pointed_bytes segment (flushed_table l s).points + live_bytes (tables l) segment
  live-flushed l s level deeper are =
      ap (λ (levels : List (List Table)). live_bytes (flat_map (λ ts. ts) (in_front (flushed_table l s) levels)) segment) are
      ∙ live-cons (flushed_table l s) (flat_map (λ ts. ts) (level ∷ deeper))
      ∙ ap (λ (levels : List (List Table)). pointed_bytes segment (flushed_table l s).points + live_bytes
      (flat_map (λ ts. ts) levels) segment) (sym are)

  -- ---- an install

  module _ (inputs : List ℕ) (new : List Table) where
    live-key_order : (ts : List Table)
        → live_bytes (in_key_order new ts) segment ≡ live_bytes new segment + live_bytes ts segment
    live-key_order [] = omega arith
    live-key_order (t ∷ ts) =
        elim (is_before t new) as
        (λ b. live_bytes (cond b (t ∷ in_key_order new ts) (new ++ t ∷ ts)) segment ≡ live_bytes new segment
        + live_bytes (t ∷ ts) segment) [
          | true ↦ (let a = live-cons t (in_key_order new ts) in let b = live-key_order ts in let c = live-cons t ts
              in omega (arith, a, b, c))
          | false ↦ live-append new (t ∷ ts)
        ]

    live-without : (ts : List Table)
        → live_bytes (without inputs ts) segment + live_bytes (filter (is_among inputs) ts) segment
        ≡ live_bytes ts segment
    live-without [] = refl
    live-without (t ∷ ts) =
        let later = live-without ts in
        let whole = live-cons t ts in
        elim (is_among inputs t) as
        (λ b. live_bytes (cond (not b) (t ∷ without inputs ts) (without inputs ts)) segment + live_bytes
        (cond b (t ∷ filter (is_among inputs) ts) (filter (is_among inputs) ts)) segment ≡ live_bytes (t ∷ ts) segment) [
          | true ↦ (let a = live-cons t (filter (is_among inputs) ts) in omega (arith, later, whole, a))
          | false ↦ (let a = live-cons t (without inputs ts) in omega (arith, later, whole, a))
        ]

    filter-append : (ts us : List Table)
        → filter (is_among inputs) (ts ++ us) ≡ filter (is_among inputs) ts ++ filter (is_among inputs) us
    filter-append [] us = refl
    filter-append (t ∷ ts) us = elim (is_among inputs t) as
        (λ b. cond b (t ∷ filter (is_among inputs) (ts ++ us)) (filter (is_among inputs) (ts ++ us)) ≡ cond b
        (t ∷ filter (is_among inputs) ts) (filter (is_among inputs) ts) ++ filter (is_among inputs) us) [
          | true ↦ ap (λ xs. t ∷ xs) (filter-append ts us)
          | false ↦ filter-append ts us
        ]

    live-levels_without : (levels : List (List Table))
        → live_bytes (flat_map (λ ts. ts) (map (without inputs) levels)) segment + live_bytes
        (filter (is_among inputs) (flat_map (λ ts. ts) levels)) segment
        ≡ live_bytes (flat_map (λ ts. ts) levels) segment
    live-levels_without [] = refl
    live-levels_without (ts ∷ deeper) =
        let later = live-levels_without deeper in
        let here = live-without ts in
        let a = live-append (without inputs ts) (flat_map (λ xs. xs) (map (without inputs) deeper)) in
        let b = live-append ts (flat_map (λ xs. xs) deeper) in
        let c = live-append (filter (is_among inputs) ts) (filter (is_among inputs) (flat_map (λ xs. xs) deeper)) in
        let d = ap (λ (xs : List Table). live_bytes xs segment) (filter-append ts (flat_map (λ xs. xs) deeper)) in
        omega (arith, later, here, a, b, c, d)

    live-at_level : (n : ℕ) (levels : List (List Table)) → n < length levels
        → live_bytes (flat_map (λ ts. ts) (at_level n (in_key_order new) levels)) segment
        ≡ live_bytes new segment + live_bytes (flat_map (λ ts. ts) levels) segment
    live-at_level n [] within = absurd (omega (arith, within))
    live-at_level n (ts ∷ deeper) within =
        by_test (n == 0) refl (λ less. live-at_level (n - 1) deeper less)
      where
        by_test : (b : Bool) → (n == 0) ≡ b
            → (n - 1 < length deeper → live_bytes (flat_map (λ xs. xs) (at_level (n - 1) (in_key_order new) deeper))
            segment ≡ live_bytes new segment + live_bytes (flat_map (λ xs. xs) deeper) segment)
            → live_bytes (flat_map (λ xs. xs)
            (cond b (in_key_order new ts ∷ deeper) (ts ∷ at_level (n - 1) (in_key_order new) deeper))) segment
            ≡ live_bytes new segment + live_bytes (flat_map (λ xs. xs) (ts ∷ deeper)) segment
        by_test true is later =
            let a = live-append (in_key_order new ts) (flat_map (λ xs. xs) deeper) in
            let b = live-append ts (flat_map (λ xs. xs) deeper) in
            let c = live-key_order ts in omega (arith, a, b, c)
        by_test false is later =
            let some : 0 < n = grind (arith, nat_tests, is) in
            let d = later (omega (arith, within, some)) in
            let a = live-append ts (flat_map (λ xs. xs) (at_level (n - 1) (in_key_order new) deeper)) in
            let b = live-append ts (flat_map (λ xs. xs) deeper) in
            omega (arith, a, b, d)

    nothing : 0 ≡ 0 * live_bytes new segment + 0
    nothing = omega arith

    -- in place of each input all new tables stand: so of one input it is right, and of several not
    live-in_place : (ts : List Table)
        → live_bytes (flat_map (λ t. cond (is_among inputs t) new (t ∷ [])) ts) segment + live_bytes (filter (is_among inputs) ts) segment
        ≡ length (filter (is_among inputs) ts) * live_bytes new segment + live_bytes ts segment
    live-in_place [] = nothing
    live-in_place (t ∷ ts) =
        let later = live-in_place ts in
        let whole = live-cons t ts in
        elim (is_among inputs t) as
        (λ b. live_bytes (cond b new (t ∷ []) ++ flat_map (λ u. cond (is_among inputs u) new (u ∷ [])) ts) segment
        + live_bytes (cond b (t ∷ filter (is_among inputs) ts) (filter (is_among inputs) ts)) segment ≡ length
        (cond b (t ∷ filter (is_among inputs) ts) (filter (is_among inputs) ts)) * live_bytes new segment + live_bytes (t ∷ ts) segment) [
          | true ↦ (
              let a = live-append new (flat_map (λ u. cond (is_among inputs u) new (u ∷ [])) ts) in
              let b = live-cons t (filter (is_among inputs) ts) in
              let c : (length (filter (is_among inputs) ts) + 1) * live_bytes new segment ≡ length
              (filter (is_among inputs) ts) * live_bytes new segment + live_bytes new segment = omega arith in
              omega (arith, later, whole, a, b, c))
          | false ↦ (
              let a = live-cons t (flat_map (λ u. cond (is_among inputs u) new (u ∷ [])) ts) in
              omega (arith, later, whole, a))
        ]

    length-append' : (xs ys : List Table) → length (xs ++ ys) ≡ length xs + length ys
    length-append' [] ys = omega arith
    length-append' (x ∷ xs) ys = let later = length-append' xs ys in omega (arith, later)

    times_more : (m n k : ℕ) → (m + n) * k ≡ m * k + n * k
    times_more m n k = omega arith

    live-levels_in_place : (levels : List (List Table))
        → live_bytes (flat_map (λ ts. ts) (map (flat_map (λ t. cond (is_among inputs t) new (t ∷ []))) levels)) segment
        + live_bytes (filter (is_among inputs) (flat_map (λ ts. ts) levels)) segment
        ≡ length (filter (is_among inputs) (flat_map (λ ts. ts) levels)) * live_bytes new segment + live_bytes
        (flat_map (λ ts. ts) levels) segment
    live-levels_in_place [] = nothing
    live-levels_in_place (ts ∷ deeper) =
        let F = filter (is_among inputs) ts in
        let G = filter (is_among inputs) (flat_map (λ xs. xs) deeper) in
        let later = live-levels_in_place deeper in
        let here = live-in_place ts in
        let a = live-append (flat_map (λ t. cond (is_among inputs t) new (t ∷ [])) ts)
        (flat_map (λ xs. xs) (map (flat_map (λ t. cond (is_among inputs t) new (t ∷ []))) deeper)) in
        let b = live-append ts (flat_map (λ xs. xs) deeper) in
        let c = live-append F G in
        let d = ap (λ (xs : List Table). live_bytes xs segment) (filter-append ts (flat_map (λ xs. xs) deeper)) in
        let e : length (filter (is_among inputs) (ts ++ flat_map (λ xs. xs) deeper)) ≡ length F + length G =
        ap (λ (xs : List Table). length xs) (filter-append ts (flat_map (λ xs. xs) deeper))
        ∙ length-append' F G in
        let f : length (filter (is_among inputs) (ts ++ flat_map (λ xs. xs) deeper)) * live_bytes new segment ≡ length F
        * live_bytes new segment + length G * live_bytes new segment =
        ap (λ (n : ℕ). n * live_bytes new segment) e
        ∙ times_more (length F) (length G) (live_bytes new segment) in
        omega (arith, later, here, a, b, c, d, f)

  -- What a switch of a merge adds and drops: for a level that there is, or for one input that stands once.
  pub live-installed_level : (l : Layout) (job : Job) (made : Made) (n : ℕ) → job.target ≡ Level n → n < length l.levels
      → live_bytes (tables (installed job made l)) segment + live_bytes (filter (is_among job.inputs) (tables l)) segment
      ≡ live_bytes (made.tables) segment + live_bytes (tables l) segment
  live-installed_level l job made n is within =
      let new = made.tables in
      let same = ap (λ target. live_bytes (flat_map (λ ts. ts) (replaced target job.inputs new l.levels)) segment) is in
      let many = length-map (without job.inputs) l.levels in
      let a = live-at_level job.inputs new n (map (without job.inputs) l.levels) (omega (arith, within, many)) in
      let b = live-levels_without job.inputs new l.levels in
      omega (arith, same, a, b)
    where
      length-map : (f : List Table → List Table) (xs : List (List Table)) → length (map f xs) ≡ length xs
      length-map f [] = refl
      length-map f (x ∷ xs) = let later = length-map f xs in omega (arith, later)

  pub live-installed_in_place : (l : Layout) (job : Job) (made : Made) → job.target ≡ InPlace
      → length (filter (is_among job.inputs) (tables l)) ≡ 1
      → live_bytes (tables (installed job made l)) segment + live_bytes (filter (is_among job.inputs) (tables l)) segment
      ≡ live_bytes (made.tables) segment + live_bytes (tables l) segment
  live-installed_in_place l job made is one =
      let new = made.tables in
      let same = ap (λ target. live_bytes (flat_map (λ ts. ts) (replaced target job.inputs new l.levels)) segment) is in
      let b = live-levels_in_place job.inputs new l.levels in
      let c : length (filter (is_among job.inputs) (tables l)) * live_bytes new segment ≡ live_bytes new segment =
      ap (λ (n : ℕ). n * live_bytes new segment) one ∙ omega arith in
      omega (arith, same, b, c)

  -- nothing else changes them
  pub live-others : (l : Layout) (f : LogFrame) (ms : List Moved)
      → (live_bytes (tables (logged f l)) segment ≡ live_bytes (tables l) segment)
      × (live_bytes (tables (rotated l)) segment ≡ live_bytes (tables l) segment)
      × (live_bytes (tables (relocated l ms)) segment ≡ live_bytes (tables l) segment)
  live-others l f ms = (refl, refl, refl)

-- ---- as a map of sums that is kept

-- with a table's points more
abbrev pub with_points : List Point → List Point → List Point
with_points [] sums = sums
with_points (p ∷ ps) sums = pointed p.segment p.bytes (with_points ps sums)

-- so many bytes of a segment fewer
abbrev pub fewer : ℕ → ℕ → List Point → List Point
fewer segment bytes [] = []
fewer segment bytes (p ∷ ps) =
    by_order (nat_cmp segment p.segment) (p ∷ ps)
    (record { segment = p.segment; bytes = p.bytes - bytes } ∷ ps)
    (p ∷ fewer segment bytes ps)

module _ (segment : ℕ) where
  point-cons : (p : Point) (ps : List Point)
      → pointed_bytes segment (p ∷ ps) ≡ (if p.segment == segment then p.bytes else 0) + pointed_bytes segment ps
  point-cons p ps = sum_by-cons (λ (q : Point). if q.segment == segment then q.bytes else 0) p ps

  more : (b : Bool) (m n : ℕ) → cond b (m + n) 0 ≡ cond b n 0 + cond b m 0
  more true m n = omega arith
  more false m n = refl

  pointed_more : (to bytes : ℕ) (ps : List Point)
      → pointed_bytes segment (pointed to bytes ps) ≡ (if to == segment then bytes else 0) + pointed_bytes segment ps
  pointed_more to bytes [] = point-cons (record { segment = to; bytes = bytes }) []
  pointed_more to bytes (p ∷ ps) =
      elim (nat_cmp to p.segment) as (λ r. nat_cmp to p.segment ≡ r
      → pointed_bytes segment (by_order r (record { segment = to; bytes = bytes } ∷ p ∷ ps)
      (record { segment = p.segment; bytes = p.bytes + bytes } ∷ ps) (p ∷ pointed to bytes ps))
      ≡ (if to == segment then bytes else 0) + pointed_bytes segment (p ∷ ps)) [
        | Less ↦ λ is. point-cons (record { segment = to; bytes = bytes }) (p ∷ ps)
        | Equal ↦ λ is.
            let same : to ≡ p.segment = nat_cmp-IsAntisymmetric to p.segment is in
            let front = point-cons (record { segment = p.segment; bytes = p.bytes + bytes }) ps in
            let back = point-cons p ps in
            let both = more (p.segment == segment) p.bytes bytes in
            let here : (if to == segment then bytes else 0) ≡ (if p.segment == segment then bytes else 0) =
            ap (λ (s : ℕ). if s == segment then bytes else 0) same in
            omega (arith, front, back, both, here)
        | Greater ↦ λ is.
            let front = point-cons p (pointed to bytes ps) in
            let back = point-cons p ps in
            let later = pointed_more to bytes ps in
            omega (arith, front, back, later)
      ] refl

  -- adding a table's points adds what the table has
  pub with_points-sum : (ps sums : List Point)
      → pointed_bytes segment (with_points ps sums) ≡ pointed_bytes segment ps + pointed_bytes segment sums
  with_points-sum [] sums = omega arith
  with_points-sum (p ∷ ps) sums =
      let a = pointed_more p.segment p.bytes (with_points ps sums) in
      let b = with_points-sum ps sums in
      let c = point-cons p ps in
      omega (arith, a, b, c)

-- ---- what is told with 64 bits decides the same

told_discard : (x : SegmentStat) → x.bytes ≤ 2 ^ 64 - 1 → discard (told x) ≡ discard x
told_discard x fits = omega (arith, fits)

pub told_worth : (percent : ℕ) (x : SegmentStat) → x.bytes ≤ 2 ^ 64 - 1 → is_worth percent (told x) ≡ is_worth percent x
told_worth percent x fits = ap (λ d. nat_lt 0 x.bytes && nat_le (percent * x.bytes) (d * 100)) (told_discard x fits)

pub told_better : (x y : SegmentStat) → x.bytes ≤ 2 ^ 64 - 1 → y.bytes ≤ 2 ^ 64 - 1
    → is_better (told x) (told y) ≡ is_better x y
told_better x y fits fits' =
    ap (λ d. nat_lt (discard (told y) * x.bytes) (d * y.bytes) ||
    ((discard (told y) * x.bytes == d * y.bytes) && nat_lt x.segment y.segment)) (told_discard x fits)
    ∙ ap (λ d. nat_lt (d * x.bytes) (discard x * y.bytes) ||
    ((d * x.bytes == discard x * y.bytes) && nat_lt x.segment y.segment)) (told_discard y fits')
