-- The batches of a pass, up to none, are all that it finds.
use Rattle.std.proofs.Common.{◌≡◌, ◌⊎◌, inl, inr, ℕ, zero, suc, ◌+◌, ◌≤◌, List, [], ◌∷◌, ◌++◌, length, refl, ap, sym, ◌∙◌, subst, arith}
use Rattle.std.proofs.lemmas.Bool.{and_parts}
use Rattle.std.proofs.lemmas.Bool.Decides.{nat_tests}
use Rattle.std.proofs.lemmas.List.{length-append}
use Rattle.std.proofs.lemmas.List.Sums.{sum_by-cons}
use Rattle.std.specs.Prelude.{Option, Some, None, ◌==◌, ◌&&◌, ◌||◌, Bool, true, false, nat_le, nat_lt}
use Rattle.std.specs.List.{flat_map}
use Rattle.vl_model.specs.declared.entry.Entry.{Entry}
use Rattle.vl_engine_model.specs.Logs.{LogRecord}
use Rattle.vl_engine_model.specs.Relocation.{Candidate, Pass, batch_with, found_in, has_room, if_any, next_batch, taken_from, value_lengths}
use Rattle.vl_model.specs.Keys.{value_length}
use Rattle.vl_model.specs.Limits.{max_batch_bytes, max_batch_records}
use Rattle.vl_engine_model_laws.specs.Passes.{AreBatches, IsWithinLimits, found_all, found_by}
use Rattle.vl_engine_model_laws.specs.laws.Moves.{at_most_one, taken_parts}

-- ---- what is taken

-- where this is found of the first record, none is taken only if nothing is found behind it either
abbrev IsLeft : List Entry → ℕ → ℕ → LogRecord → List LogRecord → List Candidate → Type 0
IsLeft base segment bytes r rs f =
    (batch_with (has_room 0 bytes (value_lengths f)) f (taken_from base segment 0 bytes rs)
    (taken_from base segment (0 + 1) (bytes + value_lengths f) rs) ([], r ∷ rs)).0 ≡ []
    → f ++ found_all base segment rs ≡ []

-- the first record that is found is taken, however long it is
none_taken : (base : List Entry) (segment bytes : ℕ) (rs : List LogRecord) → (taken_from base segment 0 bytes rs).0 ≡ []
    → found_all base segment rs ≡ []
none_taken base segment bytes [] none = refl
none_taken base segment bytes (r ∷ rs) none = by (at_most_one base segment r) (none_taken base segment bytes rs)
  where
    by : (found_in base segment r ≡ []) ⊎ ((c : Candidate) × (found_in base segment r ≡ c ∷ []))
        → ((taken_from base segment 0 bytes rs).0 ≡ [] → found_all base segment rs ≡ [])
        → found_all base segment (r ∷ rs) ≡ []
    by (inl unfound) later = subst (IsLeft base segment bytes r rs) (sym unfound) later none
    by (inr one) later = subst (IsLeft base segment bytes r rs) (sym one.1) (λ empty. absurd cc) none

-- what is taken at first
abbrev taken : Pass → List Candidate
taken pass = (taken_from pass.base pass.segment 0 0 pass.left).0

any_none : (cs : List Candidate) → if_any cs ≡ None → cs ≡ []
any_none [] is = refl
any_none (c ∷ cs) is = absurd cc

any_some : (cs batch : List Candidate) → if_any cs ≡ Some batch → (cs ≡ batch) × (1 ≤ length batch)
any_some [] batch is = absurd cc
any_some (c ∷ cs) batch is =
    let same : c ∷ cs ≡ batch = cc in (same, subst (λ (b : List Candidate). 1 ≤ length b) same (omega arith))

front_empty : (xs ys : List Candidate) → xs ++ ys ≡ [] → xs ≡ []
front_empty [] ys is = refl
front_empty (x ∷ xs) ys is = absurd cc

-- ---- a batch

pub batch_some : (pass : Pass) (batch : List Candidate) → (next_batch pass).0 ≡ Some batch → 1 ≤ length batch
batch_some pass batch is = (any_some (taken pass) batch is).1

pub batch_found : (pass : Pass) (batch : List Candidate) → (next_batch pass).0 ≡ Some batch
    → batch ++ found_by (next_batch pass).1 ≡ found_by pass
batch_found pass batch is =
    ap (λ (b : List Candidate). b ++ found_by (next_batch pass).1) (sym (any_some (taken pass) batch is).0)
    ∙ taken_parts pass.base pass.segment 0 0 pass.left

pub none_left : (pass : Pass) → (next_batch pass).0 ≡ None → found_by pass ≡ []
none_left pass is = none_taken pass.base pass.segment 0 pass.left (any_none (taken pass) is)

pub none_given : (pass : Pass) → found_by pass ≡ [] → (next_batch pass).0 ≡ None
none_given pass is =
    ap if_any (front_empty (taken pass) (found_by (next_batch pass).1) (taken_parts pass.base pass.segment 0 0 pass.left ∙ is))

-- ---- all batches

pub batches_all : (pass : Pass) (batches : List (List Candidate)) → AreBatches batches pass
    → flat_map (λ (batch : List Candidate). batch) batches ≡ found_by pass
batches_all pass [] are = sym (none_left pass are)
batches_all pass (batch ∷ batches) are =
    ap (λ (cs : List Candidate). batch ++ cs) (batches_all (next_batch pass).1 batches are.1)
    ∙ batch_found pass batch are.0

-- with at most so many records left to find
batches_within : (n : ℕ) (pass : Pass) → length (found_by pass) ≤ n
    → (batches : List (List Candidate)) × AreBatches batches pass
batches_within zero pass le = ([], none_given pass (no_length (found_by pass) le))
  where
    no_length : (cs : List Candidate) → length cs ≤ 0 → cs ≡ []
    no_length [] le = refl
    no_length (c ∷ cs) le = absurd (omega (arith, le))
batches_within (suc n) pass le = by (next_batch pass).0 refl (batches_within n (next_batch pass).1)
  where
    by : (o : Option (List Candidate)) → (next_batch pass).0 ≡ o
        → (length (found_by (next_batch pass).1) ≤ n → (batches : List (List Candidate)) × AreBatches batches (next_batch pass).1)
        → (batches : List (List Candidate)) × AreBatches batches pass
    by None is later = ([], is)
    by (Some batch) is later =
        let all = ap length (batch_found pass batch is) in
        let both = length-append batch (found_by (next_batch pass).1) in
        let some = batch_some pass batch is in
        let rest = later (omega (arith, le, all, both, some)) in
        (batch ∷ rest.0, (is, rest.1))

pub batches_are : (pass : Pass) → (batches : List (List Candidate)) × AreBatches batches pass
batches_are pass = batches_within (length (found_by pass)) pass (omega arith)

-- ---- within the limits

-- nothing, or so much that with what stands before it the limits are kept
abbrev Fits : ℕ → ℕ → List Candidate → Type 0
Fits count bytes cs = (cs ≡ [])
    ⊎ ((count + length cs ≤ max_batch_records) × (bytes + value_lengths cs ≤ max_batch_bytes))

lengths-cons : (c : Candidate) (cs : List Candidate)
    → value_lengths (c ∷ cs) ≡ value_length c.moved.value + value_lengths cs
lengths-cons c cs = sum_by-cons (λ (d : Candidate). value_length d.moved.value) c cs

-- one more in front of what fits
one_fits : (count bytes : ℕ) (c : Candidate) (cs : List Candidate) → count + 1 ≤ max_batch_records
    → bytes + value_lengths (c ∷ []) ≤ max_batch_bytes → Fits (count + 1) (bytes + value_lengths (c ∷ [])) cs
    → Fits count bytes (c ∷ cs)
one_fits count bytes c cs few small (inl none) = inr (
  let one : length (c ∷ cs) ≡ 1 = ap (λ (l : List Candidate). length (c ∷ l)) none in omega (arith, one, few),
  let same : value_lengths (c ∷ cs) ≡ value_lengths (c ∷ []) =
      ap (λ (l : List Candidate). value_lengths (c ∷ l)) none in
      omega (arith, same, small),
)
one_fits count bytes c cs few small (inr fits) = inr (
  omega (arith, fits.0),
  omega (arith, fits.1, lengths-cons c cs, lengths-cons c []),
)

module _ (base : List Entry) (segment : ℕ) where
  abbrev IsFitting : ℕ → ℕ → LogRecord → List LogRecord → List Candidate → Type 0
  IsFitting count bytes r rs f =
      Fits count bytes (batch_with (has_room count bytes (value_lengths f)) f (taken_from base segment count bytes rs)
      (taken_from base segment (count + 1) (bytes + value_lengths f) rs) ([], r ∷ rs)).0

  -- behind a first record all that is taken keeps the limits
  later_fits : (count bytes : ℕ) (rs : List LogRecord) → 1 ≤ count
      → Fits count bytes (taken_from base segment count bytes rs).0
  later_fits count bytes [] some = inl refl
  later_fits count bytes (r ∷ rs) some =
      by (at_most_one base segment r) (later_fits count bytes rs some)
      (λ c. later_fits (count + 1) (bytes + value_lengths (c ∷ [])) rs (omega arith))
    where
      Behind : Type 0
      Behind =
          (c : Candidate) → Fits (count + 1) (bytes + value_lengths (c ∷ []))
          (taken_from base segment (count + 1) (bytes + value_lengths (c ∷ [])) rs).0

      room : Behind → (c : Candidate) (b : Bool) → has_room count bytes (value_lengths (c ∷ [])) ≡ b
          → Fits count bytes (batch_with b (c ∷ []) (taken_from base segment count bytes rs)
          (taken_from base segment (count + 1) (bytes + value_lengths (c ∷ [])) rs) ([], r ∷ rs)).0
      room behind c true is =
          let not_first : (count == 0) ≡ false = grind (arith, nat_tests) in
          let both : (nat_lt count max_batch_records && nat_le (bytes + value_lengths (c ∷ [])) max_batch_bytes) ≡ true =
          sym (ap (λ (b : Bool). b ||
          (nat_lt count max_batch_records && nat_le (bytes + value_lengths (c ∷ [])) max_batch_bytes)) not_first)
          ∙ is in
          let parts = and_parts (nat_lt count max_batch_records) (nat_le (bytes + value_lengths (c ∷ [])) max_batch_bytes) both in
          one_fits count bytes c _ (let test = parts.0 in grind (arith, nat_tests)) (let test = parts.1 in grind (arith, nat_tests))
          (behind c)
      room behind c false is = inl refl

      by : (found_in base segment r ≡ []) ⊎ ((c : Candidate) × (found_in base segment r ≡ c ∷ []))
          → Fits count bytes (taken_from base segment count bytes rs).0 → Behind
          → Fits count bytes (taken_from base segment count bytes (r ∷ rs)).0
      by (inl unfound) passed behind = subst (IsFitting count bytes r rs) (sym unfound) passed
      by (inr one) passed behind =
          subst (IsFitting count bytes r rs) (sym one.1) (room behind one.0 (has_room count bytes (value_lengths (one.0 ∷ []))) refl)

  within_first : (c : Candidate) (cs : List Candidate) → Fits 1 (0 + value_lengths (c ∷ [])) cs
      → IsWithinLimits (c ∷ cs)
  within_first c cs (inl none) =
      inl (let one : length (c ∷ cs) ≡ 1 = ap (λ (l : List Candidate). length (c ∷ l)) none in omega (arith, one))
  within_first c cs (inr fits) =
      inr (omega (arith, fits.0), omega (arith, fits.1, lengths-cons c cs, lengths-cons c []))

  abbrev IsWithin : LogRecord → List LogRecord → List Candidate → Type 0
  IsWithin r rs f =
      IsWithinLimits (batch_with (has_room 0 0 (value_lengths f)) f (taken_from base segment 0 0 rs)
      (taken_from base segment (0 + 1) (0 + value_lengths f) rs) ([], r ∷ rs)).0

  all_within : (rs : List LogRecord) → IsWithinLimits (taken_from base segment 0 0 rs).0
  all_within [] = inl (omega arith)
  all_within (r ∷ rs) = by (at_most_one base segment r) (all_within rs)
    where
      by : (found_in base segment r ≡ []) ⊎ ((c : Candidate) × (found_in base segment r ≡ c ∷ []))
          → IsWithinLimits (taken_from base segment 0 0 rs).0
          → IsWithinLimits (taken_from base segment 0 0 (r ∷ rs)).0
      by (inl unfound) passed = subst (IsWithin r rs) (sym unfound) passed
      by (inr one) passed = subst (IsWithin r rs) (sym one.1)
          (within_first one.0 _ (later_fits 1 (0 + value_lengths (one.0 ∷ [])) rs (omega arith)))

pub batch_within : (pass : Pass) (batch : List Candidate) → (next_batch pass).0 ≡ Some batch → IsWithinLimits batch
batch_within pass batch is =
    subst IsWithinLimits (any_some (taken pass) batch is).0 (all_within pass.base pass.segment pass.left)
