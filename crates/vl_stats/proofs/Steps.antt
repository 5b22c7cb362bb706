-- Sums that grow and shrink point by point and footer by footer, and what a switch of tables makes of them.
use Rattle.std.proofs.Common.{◌≡◌, ℕ, ◌+◌, ◌<◌, ◌≤◌, List, [], ◌∷◌, map, length, take, get_or, refl, ap, sym, ◌∙◌, subst, arith, zero-add}
use Rattle.std.specs.Prelude.{Option, ◌==◌, if◌then◌else◌}
use Rattle.std.specs.List.{sum_by}
use Rattle.std.proofs.lemmas.List.{take_all}
use Rattle.std.proofs.lemmas.List.Sums.{sum_by-cons, sum_by_more}
use Rattle.vl_model.specs.declared.point.Point.{Point}
use Rattle.vl_engine_model.specs.Garbage.{live_bytes, pointed_bytes}
use Rattle.vl_engine_model.specs.declared.table.Table.{Table}
use Rattle.vl_stats.specs.Live.{AreOf, IsSwitch, bytes_of, points_of_tables}
use Rattle.vl_stats.specs.Sums.{Adds, Takes, bytes_at}

-- ---- one change behind another

pub adds_none : (old : ℕ → Option ℕ) (more : ℕ → ℕ) → ((s : ℕ) → more s ≡ 0) → Adds old old more
adds_none old more none = λ s. let e = none s in omega (arith, e)

adds_then : (old mid new : ℕ → Option ℕ) (a b both : ℕ → ℕ) → Adds old mid a → Adds mid new b
    → ((s : ℕ) → both s ≡ a s + b s) → Adds old new both
adds_then old mid new a b both f g is = λ s.
    let e = is s in
    let one = f s in
    let two = g s in
    omega (arith, one, two, e)

pub takes_none : (old : ℕ → Option ℕ) (fewer : ℕ → ℕ) → ((s : ℕ) → fewer s ≡ 0) → Takes old old fewer
takes_none old fewer none = λ s fits. let e = none s in omega (arith, e)

takes_then : (old mid new : ℕ → Option ℕ) (a b both : ℕ → ℕ) → Takes old mid a → Takes mid new b
    → ((s : ℕ) → both s ≡ a s + b s) → Takes old new both
takes_then old mid new a b both f g is = λ s fits.
    let e = is s in
    let one = f s (omega (arith, fits, e)) in
    let two = g s (omega (arith, fits, e, one)) in
    omega (arith, one, two, e)

-- ---- point by point

module _ (ps : List Point) where
  points_more : (i : ℕ) (d : Point) → i < length ps → (s : ℕ)
      → pointed_bytes s (take (i + 1) ps) ≡ pointed_bytes s (take i ps) + pointed_bytes s (get_or ps i d ∷ [])
  points_more i d less s =
      let f : Point → ℕ = λ (q : Point). if q.segment == s then q.bytes else 0 in
      let a = sum_by_more f ps i d less in
      let b : pointed_bytes s (get_or ps i d ∷ []) ≡ f (get_or ps i d) = zero-add (f (get_or ps i d)) in
      omega (arith, a, b)

  pub adds_point : (old mid new : ℕ → Option ℕ) (i : ℕ) (d : Point) → i < length ps
      → Adds old mid (λ s. pointed_bytes s (take i ps)) → Adds mid new (λ s. pointed_bytes s (get_or ps i d ∷ []))
      → Adds old new (λ s. pointed_bytes s (take (i + 1) ps))
  adds_point old mid new i d less f g =
      adds_then old mid new (λ s. pointed_bytes s (take i ps)) (λ s. pointed_bytes s (get_or ps i d ∷ []))
      (λ s. pointed_bytes s (take (i + 1) ps)) f g (points_more i d less)

  pub takes_point : (old mid new : ℕ → Option ℕ) (i : ℕ) (d : Point) → i < length ps
      → Takes old mid (λ s. pointed_bytes s (take i ps)) → Takes mid new (λ s. pointed_bytes s (get_or ps i d ∷ []))
      → Takes old new (λ s. pointed_bytes s (take (i + 1) ps))
  takes_point old mid new i d less f g =
      takes_then old mid new (λ s. pointed_bytes s (take i ps)) (λ s. pointed_bytes s (get_or ps i d ∷ []))
      (λ s. pointed_bytes s (take (i + 1) ps)) f g (points_more i d less)

  pub adds_points : (old new : ℕ → Option ℕ) (i : ℕ) → length ps ≤ i → Adds old new (λ s. pointed_bytes s (take i ps))
      → Adds old new (λ s. pointed_bytes s ps)
  adds_points old new i all f =
      subst (λ (qs : List Point). Adds old new (λ s. pointed_bytes s qs)) (take_all i ps all) f

  pub takes_points : (old new : ℕ → Option ℕ) (i : ℕ) → length ps ≤ i → Takes old new (λ s. pointed_bytes s (take i ps))
      → Takes old new (λ s. pointed_bytes s ps)
  takes_points old new i all f =
      subst (λ (qs : List Point). Takes old new (λ s. pointed_bytes s qs)) (take_all i ps all) f

-- ---- footer by footer

parts_more : {X : Type 0} (f : X → ℕ) (xs : List X) (i : ℕ) (x : X) → i < length xs → x ≡ get_or xs i x
    → sum_by f (take (i + 1) xs) ≡ sum_by f (take i xs) + f x
parts_more f xs i x less is = let a = sum_by_more f xs i x less in let b = ap f is in omega (arith, a, b)

module _ {X : Type 0} (fs : List X) (points : X → List Point) where
  footers_more : (i : ℕ) (x : X) (ps : List Point) → i < length fs → x ≡ get_or fs i x → ps ≡ points x → (s : ℕ)
      → sum_by (λ f. pointed_bytes s (points f)) (take (i + 1) fs)
      ≡ sum_by (λ f. pointed_bytes s (points f)) (take i fs) + pointed_bytes s ps
  footers_more i x ps less is same s =
      let a = parts_more (λ f. pointed_bytes s (points f)) fs i x less is in
      let b = ap (pointed_bytes s) same in
      omega (arith, a, b)

  pub adds_footer : (old mid new : ℕ → Option ℕ) (i : ℕ) (x : X) (ps : List Point) → i < length fs → x ≡ get_or fs i x
      → ps ≡ points x → Adds old mid (λ s. sum_by (λ f. pointed_bytes s (points f)) (take i fs))
      → Adds mid new (λ s. pointed_bytes s ps)
      → Adds old new (λ s. sum_by (λ f. pointed_bytes s (points f)) (take (i + 1) fs))
  adds_footer old mid new i x ps less is same f g =
      adds_then old mid new (λ s. sum_by (λ f. pointed_bytes s (points f)) (take i fs)) (λ s. pointed_bytes s ps)
      (λ s. sum_by (λ f. pointed_bytes s (points f)) (take (i + 1) fs)) f g (footers_more i x ps less is same)

  pub takes_footer : (old mid new : ℕ → Option ℕ) (i : ℕ) (x : X) (ps : List Point) → i < length fs → x ≡ get_or fs i x
      → ps ≡ points x → Takes old mid (λ s. sum_by (λ f. pointed_bytes s (points f)) (take i fs))
      → Takes mid new (λ s. pointed_bytes s ps)
      → Takes old new (λ s. sum_by (λ f. pointed_bytes s (points f)) (take (i + 1) fs))
  takes_footer old mid new i x ps less is same f g =
      takes_then old mid new (λ s. sum_by (λ f. pointed_bytes s (points f)) (take i fs)) (λ s. pointed_bytes s ps)
      (λ s. sum_by (λ f. pointed_bytes s (points f)) (take (i + 1) fs)) f g (footers_more i x ps less is same)

  pub adds_footers : (old new : ℕ → Option ℕ) (i : ℕ) → length fs ≤ i
      → Adds old new (λ s. sum_by (λ f. pointed_bytes s (points f)) (take i fs))
      → Adds old new (λ s. sum_by (λ f. pointed_bytes s (points f)) fs)
  adds_footers old new i all f =
      subst (λ (xs : List X). Adds old new (λ s. sum_by (λ f. pointed_bytes s (points f)) xs)) (take_all i fs all) f

  pub takes_footers : (old new : ℕ → Option ℕ) (i : ℕ) → length fs ≤ i
      → Takes old new (λ s. sum_by (λ f. pointed_bytes s (points f)) (take i fs))
      → Takes old new (λ s. sum_by (λ f. pointed_bytes s (points f)) fs)
  takes_footers old new i all f =
      subst (λ (xs : List X). Takes old new (λ s. sum_by (λ f. pointed_bytes s (points f)) xs)) (take_all i fs all) f

-- ---- a switch

sum_by_map : {X Y : Type 0} (h : Y → ℕ) (g : X → Y) (xs : List X) → sum_by h (map g xs) ≡ sum_by (λ x. h (g x)) xs
sum_by_map h g [] = refl
sum_by_map h g (x ∷ xs) =
    let a = sum_by-cons h (g x) (map g xs) in
    let b = sum_by-cons (λ y. h (g y)) x xs in
    let later = sum_by_map h g xs in
    omega (arith, a, b, later)

-- footers with the points of these tables have their bytes
pub footers_are : {X : Type 0} (fs : List X) (points : X → List Point) (ts : List Table) → map points fs ≡ points_of_tables ts
    → (s : ℕ) → sum_by (λ f. pointed_bytes s (points f)) fs ≡ live_bytes ts s
footers_are fs points ts is s =
    sym (sum_by_map (pointed_bytes s) points fs)
    ∙ ap (λ (xs : List (List Point)). sum_by (pointed_bytes s) xs) is
    ∙ sum_by_map (pointed_bytes s) (λ (t : Table). t.points) ts

pub switched : (was : List (ℕ × ℕ)) (copy mid new : ℕ → Option ℕ) (a d : ℕ → ℕ) (before came gone after : List Table)
    → ((s : ℕ) → bytes_at copy s ≡ bytes_of was s) → Adds copy mid a → Takes mid new d → AreOf before was
    → ((s : ℕ) → a s ≡ live_bytes came s) → ((s : ℕ) → d s ≡ live_bytes gone s) → IsSwitch before came gone after
    → (s : ℕ) → bytes_at new s ≡ live_bytes after s
switched was copy mid new a d before came gone after same adds takes of_before came_is gone_is switch s =
    let b = of_before s in
    let e = same s in
    let x = came_is s in
    let y = gone_is s in
    let counts = switch s in
    let one = adds s in
    let two = takes s (omega (arith, b, e, x, y, counts, one)) in
    omega (arith, b, e, x, y, counts, one, two)
