-- A log put at its place among others, and the best of logs that are looked at from the last on.
use Rattle.std.proofs.Common.{◌≡◌, ℕ, suc, ◌+◌, ◌-◌, ◌<◌, ◌≤◌, Bool, true, false, cond, ◌&&◌, List, [], ◌∷◌, ◌++◌}
use Rattle.std.proofs.Common.{map, length, take, drop, set, get_or}
use Rattle.std.proofs.Common.{refl, ap, sym, ◌∙◌, subst, arith}
use Rattle.std.proofs.lemmas.Bool.Decides.{nat_tests}
use Rattle.std.proofs.lemmas.List.{take-append-drop, drop_more, drop_all, set_split}
use Rattle.std.specs.Prelude.{Option, ◌==◌, nat_lt, if◌then◌else◌}
use Rattle.std.specs.FinMap.{put}
use Rattle.std.specs.List.{AllByRecursion, filter, insert}
use Rattle.std.specs.Ordering.{nat_cmp}
use Rattle.std.specs.declared.cmp.Ordering.TheVariants.{Less, Equal, Greater}
use Rattle.vl_model.specs.Entries.{by_order}
use Rattle.vl_engine_model.specs.Garbage.{best_of, better_of, is_worth}
use Rattle.vl_engine_model.specs.declared.segment.SegmentStat.{SegmentStat}
use Rattle.vl_stats.specs.Places.{IsPlaceOf}

-- ---- a log at its place

compared : (m n : ℕ) (b c : Bool) → nat_lt m n ≡ b → (m == n) ≡ c → nat_cmp m n ≡ cond b Less (cond c Equal Greater)
compared m n b c less same =
    ap (λ a. cond a Less (cond (m == n) Equal Greater)) less ∙ ap (λ a. cond b Less (cond a Equal Greater)) same

put_behind : (n v : ℕ) (front back : List (ℕ × ℕ)) → AllByRecursion (λ (e : ℕ × ℕ). e.0 < n) front
    → put nat_cmp n v (front ++ back) ≡ front ++ put nat_cmp n v back
put_behind n v [] back all = refl
put_behind n v (e ∷ es) back all =
    let less = all.0 in
    let low : nat_lt n e.0 ≡ false = grind (arith, nat_tests, less) in
    let off : (n == e.0) ≡ false = grind (arith, nat_tests, less) in
    ap (λ r. by_order r ((n, v) ∷ e ∷ (es ++ back)) ((e.0, v) ∷ (es ++ back)) (e ∷ put nat_cmp n v (es ++ back)))
    (compared n e.0 false false low off)
    ∙ ap (λ xs. e ∷ xs) (put_behind n v es back all.1)

module _ (logs : List (ℕ × ℕ)) (log : ℕ × ℕ) (at : ℕ) (place : IsPlaceOf logs log.0 at) where
  put_there : put nat_cmp log.0 log.1 logs ≡ take at logs ++ put nat_cmp log.0 log.1 (drop at logs)
  put_there =
      ap (put nat_cmp log.0 log.1) (sym (take-append-drop at logs))
      ∙ put_behind log.0 log.1 (take at logs) (drop at logs) place.below

  pub put_same : (x : ℕ × ℕ) → at < length logs → x ≡ get_or logs at x → x.0 ≡ log.0
      → set logs at log ≡ put nat_cmp log.0 log.1 logs
  put_same x within is same =
      let here : nat_lt log.0 x.0 ≡ false = grind (arith, nat_tests, same) in
      let tied : (log.0 == x.0) ≡ true = grind (arith, nat_tests, same) in
      let behind : put nat_cmp log.0 log.1 (drop at logs) ≡ log ∷ drop (at + 1) logs =
      ap (put nat_cmp log.0 log.1) (drop_more logs at x within ∙ ap (λ y. y ∷ drop (at + 1) logs) (sym is))
      ∙ ap (λ r. by_order r (log ∷ x ∷ drop (at + 1) logs) ((x.0, log.1) ∷ drop (at + 1) logs)
      (x ∷ put nat_cmp log.0 log.1 (drop (at + 1) logs))) (compared log.0 x.0 false true here tied)
      ∙ ap (λ (n : ℕ). (n, log.1) ∷ drop (at + 1) logs) same in
      set_split logs at log within
      ∙ ap (λ (n : ℕ). take at logs ++ log ∷ drop n logs) (let e : suc at ≡ at + 1 = omega arith in e)
      ∙ ap (λ xs. take at logs ++ xs) (sym behind)
      ∙ sym put_there

  pub put_before : (x : ℕ × ℕ) → at < length logs → x ≡ get_or logs at x → (x.0 ≡ log.0 → ⊥)
      → insert logs at log ≡ put nat_cmp log.0 log.1 logs
  put_before x within is other =
      let least : log.0 ≤ x.0 = subst (λ (y : ℕ × ℕ). log.0 ≤ y.0) (sym is) (place.next x within) in
      let low : nat_lt log.0 x.0 ≡ true = grind (arith, nat_tests, least, other) in
      let e = drop_more logs at x within ∙ ap (λ y. y ∷ drop (at + 1) logs) (sym is) in
      ap (λ xs. take at logs ++ xs)
      (ap (λ xs. log ∷ xs) e
      ∙ sym (ap (put nat_cmp log.0 log.1) e
      ∙ ap (λ b. by_order (cond b Less (cond (log.0 == x.0) Equal Greater)) (log ∷ x ∷ drop (at + 1) logs)
      ((x.0, log.1) ∷ drop (at + 1) logs) (x ∷ put nat_cmp log.0 log.1 (drop (at + 1) logs))) low))
      ∙ sym put_there

  pub put_last : length logs ≤ at → insert logs at log ≡ put nat_cmp log.0 log.1 logs
  put_last all =
      let e = drop_all at logs all in
      ap (λ xs. take at logs ++ log ∷ xs) e
      ∙ ap (λ xs. take at logs ++ put nat_cmp log.0 log.1 xs) (sym e)
      ∙ sym put_there

-- ---- the best

module _ {X : Type 0} (percent : ℕ) (share : X → SegmentStat) (below : X → Bool) where
  abbrev pub best_among : List X → Option SegmentStat
  best_among xs = best_of (filter (is_worth percent) (map share (filter below xs)))

  abbrev pub with_one : X → Option SegmentStat → Option SegmentStat
  with_one x best = if below x && is_worth percent (share x) then better_of (share x) best else best

  best_more : (x : X) (xs : List X) → with_one x (best_among xs) ≡ best_among (x ∷ xs)
  best_more x xs = by (below x) (is_worth percent (share x)) refl
    where
      by : (a b : Bool) → is_worth percent (share x) ≡ b
          → (if a && b then better_of (share x) (best_among xs) else best_among xs)
          ≡ best_of (filter (is_worth percent) (map share (cond a (x ∷ filter below xs) (filter below xs))))
      by true true is = sym (ap (λ c. best_of (cond c (share x ∷ filter (is_worth percent) (map share (filter below xs)))
          (filter (is_worth percent) (map share (filter below xs))))) is)
      by true false is = sym (ap (λ c. best_of (cond c (share x ∷ filter (is_worth percent) (map share (filter below xs)))
          (filter (is_worth percent) (map share (filter below xs))))) is)
      by false b is = refl

  -- with one more log in front
  pub best_step : (xs : List X) (i : ℕ) (d : X) (best : Option SegmentStat) → 0 < i → i ≤ length xs
      → best ≡ best_among (drop i xs) → with_one (get_or xs (i - 1) d) best ≡ best_among (drop (i - 1) xs)
  best_step xs i d best some within so_far =
      let e : i - 1 + 1 ≡ i = omega (arith, some) in
      ap (with_one (get_or xs (i - 1) d)) so_far
      ∙ best_more (get_or xs (i - 1) d) (drop i xs)
      ∙ ap best_among (sym (drop_more xs (i - 1) d (omega (arith, some, within))
      ∙ ap (λ (n : ℕ). get_or xs (i - 1) d ∷ drop n xs) e))
