-- Bytes hold one list of batches and are one thing behind them; and a stream that is written holds what was written.
use Rattle.std.specs.Prelude.{◌≡◌, ◌≢◌, ◌⊎◌, ℕ, ◌+◌, T, Bool, true, false, ◌&&◌, List, [], ◌∷◌, ◌++◌, map, length, refl}
use Rattle.std.specs.FinMap.{is_sorted}
use Rattle.std.specs.FinMap.Entries.{below_all}
use Rattle.std.specs.List.{AllByRecursion}
use Rattle.std.specs.Ordering.{is_lt}
use Rattle.std.proofs.Common.{sym, ap, subst, ◌∙◌, ⊎_elim, length-append, arith}
use Rattle.vl_frame.specs.Runs.{Grammar, HasFrame, item_frame, run_bytes}
use Rattle.vl_frame.specs.laws.RunLaws.{one_item}
use Rattle.vl_model.specs.Keys.{key_cmp}
use Rattle.vl_stream.specs.laws.BatchLaws.{batches_whole}
use Rattle.vl_stream.specs.Batches.{Write, batches, joined}
use Rattle.vl_stream.specs.Pieces.{End, Piece, Records}
use Rattle.vl_stream.specs.Streams.{DamagedAt, Ends, Found, Holds, IsAbove, StandsNoNext, Whole}
use Rattle.vl_stream.specs.Streams.{behind_end, frames, last_key}

-- ---- both parts of a test

first_part : (a b : Bool) → T (a && b) → T a
first_part true b p = tt
first_part false b p = absurd p

second_part : (a b : Bool) → T (a && b) → T b
second_part true b p = p
second_part false b p = absurd p

-- ---- constructors

abbrev is_records : Piece → List Write
is_records (Records ws) = ws
is_records (End number count) = []

abbrev is_number : Piece → ℕ
is_number (Records ws) = 0
is_number (End number count) = number

abbrev Apart : Piece → Type 0
Apart (Records ws) = ⊥
Apart (End number count) = Unit {0}

ends_apart : (ws : List Write) (number count : ℕ) → Records ws ≡ End number count → ⊥
ends_apart ws number count is = subst Apart (sym is) tt

module _ (G : Grammar Piece) where
  one_end : (at count : ℕ) (bytes : List ℕ) (p q : Ends G at count bytes) → (p.number ≡ q.number) × (p.rest ≡ q.rest)
  one_end at count bytes p q =
      let one = one_item G 0 at bytes (End p.number count) (End q.number count) p.rest q.rest p.stands q.stands in
      (ap is_number one.0, one.1)

  -- Bytes hold one list of batches, and are whole or damaged at one place.
  pub one_holding : (at : ℕ) (key : List ℕ) (count : ℕ) (bytes : List ℕ) (bs cs : List (List Write)) (f g : Found)
      → Holds G at key count bytes bs f → Holds G at key count bytes cs g → (bs ≡ cs) × (f ≡ g)
  one_holding at key count bytes [] [] Whole Whole p q = (refl, refl)
  one_holding at key count bytes [] [] Whole (DamagedAt place) p q = absurd (⊎_elim
      (λ (none : (place ≡ at) × StandsNoNext G at key count bytes). none.1 (End p.0.number count) p.0.rest p.0.stands refl)
      (λ (more : (e : Ends G at count bytes) × (e.rest ≢ []) × (place ≡ behind_end G at count e.number)).
      more.1 ((one_end at count bytes more.0 p.0).1 ∙ p.1)) q)
  one_holding at key count bytes [] [] (DamagedAt place) Whole p q = absurd (⊎_elim
      (λ (none : (place ≡ at) × StandsNoNext G at key count bytes). none.1 (End q.0.number count) q.0.rest q.0.stands refl)
      (λ (more : (e : Ends G at count bytes) × (e.rest ≢ []) × (place ≡ behind_end G at count e.number)).
      more.1 ((one_end at count bytes more.0 q.0).1 ∙ q.1)) p)
  one_holding at key count bytes [] [] (DamagedAt place) (DamagedAt other) p q = (
    refl,
    ap DamagedAt (⊎_elim
        (λ (none : (place ≡ at) × StandsNoNext G at key count bytes). ⊎_elim
        (λ (none' : (other ≡ at) × StandsNoNext G at key count bytes). none.0 ∙ sym none'.0)
        (λ (more : (e : Ends G at count bytes) × (e.rest ≢ []) × (other ≡ behind_end G at count e.number)).
        absurd (none.1 (End more.0.number count) more.0.rest more.0.stands refl)) q)
        (λ (more : (e : Ends G at count bytes) × (e.rest ≢ []) × (place ≡ behind_end G at count e.number)). ⊎_elim
        (λ (none' : (other ≡ at) × StandsNoNext G at key count bytes).
        absurd (none'.1 (End more.0.number count) more.0.rest more.0.stands refl))
        (λ (more' : (e : Ends G at count bytes) × (e.rest ≢ []) × (other ≡ behind_end G at count e.number)).
        more.2 ∙ ap (behind_end G at count) (one_end at count bytes more.0 more'.0).0 ∙ sym more'.2) q) p),
  )
  one_holding at key count bytes [] (c ∷ cs) Whole g p q =
      absurd (ends_apart c p.0.number count (one_item G 0 at bytes (Records c) (End p.0.number count) q.0 p.0.rest q.1 p.0.stands).0)
  one_holding at key count bytes [] (c ∷ cs) (DamagedAt place) g p q = absurd (⊎_elim
      (λ (none : (place ≡ at) × StandsNoNext G at key count bytes). none.1 (Records c) q.0 q.1 q.2)
      (λ (more : (e : Ends G at count bytes) × (e.rest ≢ []) × (place ≡ behind_end G at count e.number)).
      ends_apart c more.0.number count
      (one_item G 0 at bytes (Records c) (End more.0.number count) q.0 more.0.rest q.1 more.0.stands).0) p)
  one_holding at key count bytes (b ∷ bs) [] f Whole p q =
      absurd (ends_apart b q.0.number count (one_item G 0 at bytes (Records b) (End q.0.number count) p.0 q.0.rest p.1 q.0.stands).0)
  one_holding at key count bytes (b ∷ bs) [] f (DamagedAt place) p q = absurd (⊎_elim
      (λ (none : (place ≡ at) × StandsNoNext G at key count bytes). none.1 (Records b) p.0 p.1 p.2)
      (λ (more : (e : Ends G at count bytes) × (e.rest ≢ []) × (place ≡ behind_end G at count e.number)).
      ends_apart b more.0.number count
      (one_item G 0 at bytes (Records b) (End more.0.number count) p.0 more.0.rest p.1 more.0.stands).0) q)
  one_holding at key count bytes (b ∷ bs) (c ∷ cs) f g p q =
      let one = one_item G 0 at bytes (Records b) (Records c) p.0 q.0 p.1 q.1 in
      let same : b ≡ c = ap is_records one.0 in
      let tail = subst (λ (x : List Write). Holds G (at + length (item_frame G 0 at (Records x))) (last_key key x) (count + length x) p.0 cs g)
      (sym same)
      (subst (λ (r : List ℕ). Holds G (at + length (item_frame G 0 at (Records c))) (last_key key c) (count + length c) r cs g) (sym one.1) q.3) in
      let more = one_holding (at + length (item_frame G 0 at (Records b))) (last_key key b) (count + length b) p.0 bs cs f g p.3 tail in
      (ap (λ (x : List Write). x ∷ bs) same ∙ ap (λ (xs : List (List Write)). c ∷ xs) more.0, more.1)

  -- ---- what is written

  -- each batch's keys are above the last one's
  abbrev pub AreAbove : List ℕ → List (List Write) → Type 0
  AreAbove key [] = Unit {0}
  AreAbove key (b ∷ bs) = IsAbove key b × AreAbove (last_key key b) bs

  count_same : (at count other : ℕ) (key : List ℕ) (bytes : List ℕ) (bs : List (List Write)) (f : Found) → other ≡ count
      → Holds G at key other bytes bs f → Holds G at key count bytes bs f
  count_same at count other key bytes bs f same holds = subst (λ (n : ℕ). Holds G at key n bytes bs f) same holds

  pub holds_written : (at : ℕ) (key : List ℕ) (count : ℕ) (bs : List (List Write)) (number : ℕ)
      → AllByRecursion (λ (b : List Write). HasFrame G (Records b)) bs
      → HasFrame G (End number (count + length (joined bs))) → AreAbove key bs
      → Holds G at key count (run_bytes G 0 at (map Records bs ++ End number (count + length (joined bs)) ∷ [])) bs Whole
  holds_written at key count [] number have end above =
      let same : count + 0 ≡ count = omega arith in
      let ends : HasFrame G (End number count) = subst (λ (n : ℕ). HasFrame G (End number n)) same end in
      subst (λ (n : ℕ). (e : Ends G at count (run_bytes G 0 at (End number n ∷ []))) × (e.rest ≡ [])) (sym same) (
        record {
          number = number;
          rest = [];
          stands = record { lawful = ends.lawful; short = ends.short; spelled = refl };
        },
        refl,
      )
  holds_written at key count (b ∷ bs) number have end above =
      let next = at + length (item_frame G 0 at (Records b)) in
      let total : count + length b + length (joined bs) ≡ count + length (b ++ joined bs) = omega (arith, length-append b (joined bs)) in (
        run_bytes G 0 next (map Records bs ++ End number (count + length (b ++ joined bs)) ∷ []),
        record { lawful = have.0.lawful; short = have.0.short; spelled = refl },
        above.0,
        subst (λ (n : ℕ). Holds G next (last_key key b) (count + length b) (run_bytes G 0 next (map Records bs ++ End number n ∷ [])) bs Whole)
            total (holds_written next (last_key key b) (count + length b) bs number have.1
            (subst (λ (n : ℕ). HasFrame G (End number n)) (sym total) end) above.1),
      )

  below_last : (key : List ℕ) (b ws : List Write) → T (below_all key_cmp key (b ++ ws)) → T (is_sorted key_cmp (b ++ ws))
      → T (below_all key_cmp (last_key key b) ws)
  below_last key [] ws below rising = below
  below_last key (w ∷ b) ws below rising =
      below_last w.0 b ws (first_part (below_all key_cmp w.0 (b ++ ws)) (is_sorted key_cmp (b ++ ws)) rising)
      (second_part (below_all key_cmp w.0 (b ++ ws)) (is_sorted key_cmp (b ++ ws)) rising)

  sorted_back : (b ws : List Write) → T (is_sorted key_cmp (b ++ ws)) → T (is_sorted key_cmp ws)
  sorted_back [] ws rising = rising
  sorted_back (w ∷ b) ws rising = sorted_back b ws (second_part (below_all key_cmp w.0 (b ++ ws)) (is_sorted key_cmp (b ++ ws)) rising)

  first_above : (key : List ℕ) (b ws : List Write) → T (below_all key_cmp key (b ++ ws)) → IsAbove key b
  first_above key [] ws below = tt
  first_above key (w ∷ b) ws below = first_part (is_lt (key_cmp key w.0)) (below_all key_cmp key (b ++ ws)) below

  pub are_above : (key : List ℕ) (bs : List (List Write)) → T (below_all key_cmp key (joined bs)) → T (is_sorted key_cmp (joined bs))
      → AreAbove key bs
  are_above key [] below rising = tt
  are_above key (b ∷ bs) below rising = (
    first_above key b (joined bs) below,
    are_above (last_key key b) bs (below_last key b (joined bs) below rising) (sorted_back b (joined bs) rising),
  )

  -- A stream that is written of records in key order holds them, in their batches.
  pub holds_frames : (number : ℕ) (ws : List Write) → T (below_all key_cmp [] ws) → T (is_sorted key_cmp ws)
      → AllByRecursion (λ (b : List Write). HasFrame G (Records b)) (batches ws)
      → HasFrame G (End number (length ws)) → Holds G 16 [] 0 (frames G number ws) (batches ws) Whole
  holds_frames number ws below rising have end =
      let whole = batches_whole ws in
      let none : 0 + length (joined (batches ws)) ≡ length (joined (batches ws)) = omega arith in
      subst (λ (xs : List Write). Holds G 16 [] 0 (run_bytes G 0 16 (map Records (batches ws) ++ End number (length xs) ∷ [])) (batches ws) Whole)
      whole
      (subst (λ (n : ℕ). Holds G 16 [] 0 (run_bytes G 0 16 (map Records (batches ws) ++ End number n ∷ [])) (batches ws) Whole)
      none
      (holds_written 16 [] 0 (batches ws) number have
      (subst (λ (n : ℕ). HasFrame G (End number n)) (sym none)
      (subst (λ (xs : List Write). HasFrame G (End number (length xs))) (sym whole) end))
      (are_above [] (batches ws) (subst (λ (xs : List Write). T (below_all key_cmp [] xs)) (sym whole) below)
      (subst (λ (xs : List Write). T (is_sorted key_cmp xs)) (sym whole) rising))))
