-- Two lists in order merged into one, a step at a time.
use Rattle.std.proofs.Common.{◌≡◌, ℕ, zero, suc, ◌+◌, ◌<◌, ◌≤◌, List, [], ◌∷◌, ◌++◌, length, drop, get_or, refl, ap}
use Rattle.std.proofs.Common.{sym, ◌∙◌, subst, arith, append-nil, append_assoc}
use Rattle.std.proofs.Math.Seq.{drop-cons}
use Rattle.std.specs.declared.cmp.Ordering.TheVariants.{Less, Equal, Greater}
use Rattle.vl_model.specs.Entries.{entry_cmp, put, in_order}
use Rattle.vl_model.specs.declared.entry.Entry.{Entry}
use Rattle.vl_model.specs.EntryOrder.{IsInOrder}
use Rattle.vl_model.specs.laws.OrderLaws.{entry_total, IsBefore, IsRising, before-all, all-append, in_order-least}
use Rattle.vl_model.specs.laws.OrderLaws.{in_order-rising, put-equal, rising, turned}

-- what stands at a place, and what comes behind it
pub drop_at : (es : List Entry) (i : ℕ) (e : Entry) → i < length es → e ≡ get_or es i e → drop i es ≡ e ∷ drop (i + 1) es
drop_at es i e within is =
    drop-cons es i e within ∙ ap (λ x. x ∷ drop (suc i) es) (sym is) ∙ ap (λ n. e ∷ drop n es) (more i)
  where
    more : (n : ℕ) → suc n ≡ n + 1
    more n = omega arith

rising-drop : (i : ℕ) (es : List Entry) → IsRising es → IsRising (drop i es)
rising-drop zero es are = are
rising-drop (suc i) [] are = tt
rising-drop (suc i) (e ∷ es) are = rising-drop i es are.1

module _ (newer older : List Entry) where
  -- what is merged, and what of both is still to come
  abbrev pub Merges : List Entry → ℕ → ℕ → Type 0
  Merges both i j = both ++ in_order (drop i newer ++ drop j older) ≡ in_order (newer ++ older)

  rising_at : (es : List Entry) (i : ℕ) (e : Entry) → IsInOrder es → drop i es ≡ e ∷ drop (i + 1) es → IsBefore e (drop (i + 1) es)
  rising_at es i e are is = (subst IsRising is (rising-drop i es (rising es are))).0

  pushed : (both : List Entry) (e : Entry) (now rest : List Entry) → in_order now ≡ e ∷ in_order rest
      → (both ++ e ∷ []) ++ in_order rest ≡ both ++ in_order now
  pushed both e now rest is = append_assoc both (e ∷ []) (in_order rest) ∙ ap (λ l. both ++ l) (sym is)

  module _ (both : List Entry) (i j : ℕ) (a b : Entry) (new : IsInOrder newer) (old : IsInOrder older)
      (at_a : drop i newer ≡ a ∷ drop (i + 1) newer) (at_b : drop j older ≡ b ∷ drop (j + 1) older) where
    both_there : drop i newer ++ drop j older ≡ a ∷ (drop (i + 1) newer ++ b ∷ drop (j + 1) older)
    both_there = ap (λ l. l ++ drop j older) at_a ∙ ap (λ l. a ∷ (drop (i + 1) newer ++ l)) at_b

    pub takes_newer : Merges both i j → entry_cmp a b ≡ Less → Merges (both ++ a ∷ []) (i + 1) j
    takes_newer so less =
        pushed both a (drop i newer ++ drop j older) (drop (i + 1) newer ++ drop j older) first ∙ so
      where
        first : in_order (drop i newer ++ drop j older) ≡ a ∷ in_order (drop (i + 1) newer ++ drop j older)
        first =
            ap in_order (ap (λ l. l ++ drop j older) at_a)
            ∙ in_order-least [] a (drop (i + 1) newer ++ drop j older) tt
            (all-append (λ f. entry_cmp a f ≡ Less) (drop (i + 1) newer) (drop j older) (rising_at newer i a new at_a)
            (subst (IsBefore a) (sym at_b) (less, before-all a b (drop (j + 1) older) less (rising_at older j b old at_b))))

    before_tied : (es : List Entry) → entry_cmp a b ≡ Equal → IsBefore a es → IsBefore b es
    before_tied [] tied before = tt
    before_tied (e ∷ es) tied before = (sym (entry_total.congr a b e tied) ∙ before.0, before_tied es tied before.1)

    pub takes_both : Merges both i j → entry_cmp a b ≡ Equal → Merges (both ++ a ∷ []) (i + 1) (j + 1)
    takes_both so tied =
        pushed both a (drop i newer ++ drop j older) (drop (i + 1) newer ++ drop (j + 1) older) first ∙ so
      where
        first : in_order (drop i newer ++ drop j older) ≡ a ∷ in_order (drop (i + 1) newer ++ drop (j + 1) older)
        first =
            ap in_order both_there
            ∙ ap (put a) (in_order-least (drop (i + 1) newer) b (drop (j + 1) older)
            (before_tied (drop (i + 1) newer) tied (rising_at newer i a new at_a)) (rising_at older j b old at_b))
            ∙ put-equal a b (in_order (drop (i + 1) newer ++ drop (j + 1) older)) tied

    pub takes_older : Merges both i j → entry_cmp a b ≡ Greater → Merges (both ++ b ∷ []) i (j + 1)
    takes_older so greater =
        pushed both b (drop i newer ++ drop j older) (drop i newer ++ drop (j + 1) older) first ∙ so
      where
        less : entry_cmp b a ≡ Less
        less = turned a b Greater greater

        first : in_order (drop i newer ++ drop j older) ≡ b ∷ in_order (drop i newer ++ drop (j + 1) older)
        first =
            ap (λ l. in_order (drop i newer ++ l)) at_b
            ∙ in_order-least (drop i newer) b (drop (j + 1) older)
            (subst (IsBefore b) (sym at_a) (less, before-all b a (drop (i + 1) newer) less (rising_at newer i a new at_a)))
            (rising_at older j b old at_b)

  drop_past : (es : List Entry) (i : ℕ) → length es ≤ i → drop i es ≡ []
  drop_past [] zero past = refl
  drop_past [] (suc i) past = refl
  drop_past (e ∷ es) zero past = absurd (omega arith)
  drop_past (e ∷ es) (suc i) past = drop_past es i (omega arith)

  -- where one has nothing left, the rest of the other comes as it is
  pub ends_newer : (both : List Entry) (i j : ℕ) → IsInOrder older → length newer ≤ i → Merges both i j
      → (both ++ drop i newer) ++ drop j older ≡ in_order (newer ++ older)
  ends_newer both i j old past so =
      ap (λ l. (both ++ l) ++ drop j older) (drop_past newer i past) ∙ ap (λ l. l ++ drop j older) (append-nil both)
      ∙ ap (λ l. both ++ l) (sym (in_order-rising (drop j older) (rising-drop j older (rising older old))))
      ∙ ap (λ l. both ++ in_order (l ++ drop j older)) (sym (drop_past newer i past)) ∙ so

  pub ends_older : (both : List Entry) (i j : ℕ) → IsInOrder newer → length older ≤ j → Merges both i j
      → (both ++ drop i newer) ++ drop j older ≡ in_order (newer ++ older)
  ends_older both i j new past so =
      ap (λ l. (both ++ drop i newer) ++ l) (drop_past older j past) ∙ append-nil (both ++ drop i newer)
      ∙ ap (λ l. both ++ l) (sym (in_order-rising (drop i newer) (rising-drop i newer (rising newer new))))
      ∙ ap (λ l. both ++ in_order l) (sym (append-nil (drop i newer)))
      ∙ ap (λ l. both ++ in_order (drop i newer ++ l)) (sym (drop_past older j past)) ∙ so
