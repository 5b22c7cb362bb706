-- Look-ups in entries in order that are cut into parts, one part after the other.
use Rattle.std.specs.Prelude.{◌≡◌, ◌+◌, ◌≤◌, ℕ, true, false, List, [], ◌∷◌, ◌++◌, length, drop, Option, Some, None}
use Rattle.std.specs.List.{AllByRecursion}
use Rattle.std.proofs.Common.{refl, ap, sym, cond, ◌∙◌, append_assoc, length-append, arith}
use Rattle.std.proofs.lemmas.List.{drop_at, length-drop}
use Rattle.vl_model.specs.declared.entry.Entry.{Entry}
use Rattle.vl_model.specs.Lookups.{is_ahead, or_else, first_failing, first_over}
use Rattle.vl_model.specs.laws.LookupLaws.{first_failing-append, none_failing}

-- ---- in one part

pub all_passed : (key : List ℕ) (version : ℕ) (es taken : List Entry) → es ≡ taken
    → AllByRecursion (λ e. is_ahead key version e ≡ true) taken
    → first_failing (is_ahead key version) es ≡ None
all_passed key version es taken is ahead = ap (first_failing (is_ahead key version)) is ∙ none_failing (is_ahead key version) taken ahead

pub stops_at : (key : List ℕ) (version : ℕ) (es taken : List Entry) (e : Entry) (later : List Entry)
    → es ≡ taken ++ e ∷ later → AllByRecursion (λ e. is_ahead key version e ≡ true) taken
    → is_ahead key version e ≡ false → first_failing (is_ahead key version) es ≡ Some e
stops_at key version es taken e later is ahead stop =
    ap (first_failing (is_ahead key version)) is ∙ first_failing-append (is_ahead key version) taken (e ∷ later)
    ∙ ap (λ o. or_else o (first_failing (is_ahead key version) (e ∷ later))) (none_failing (is_ahead key version) taken ahead)
    ∙ ap (λ b. cond b (first_failing (is_ahead key version) later) (Some e)) stop

-- ---- part by part

module _ (key : List ℕ) (version : ℕ) where
  module _ (i : ℕ) (parts front : List (List Entry)) (part : List Entry) (back : List (List Entry))
      (split : parts ≡ front ++ part ∷ back) (counted : length front ≡ i) where
    -- from a part on
    from_part : first_over key version (drop i parts) ≡ or_else (first_failing (is_ahead key version) part)
        (first_over key version (drop (i + 1) parts))
    from_part =
        ap (λ l. first_over key version (drop i l)) split ∙ ap (first_over key version) (drop_at front (part ∷ back) i counted)
        ∙ ap (λ l. or_else (first_failing (is_ahead key version) part) (first_over key version l))
        (sym (ap (drop (i + 1)) (split ∙ sym (append_assoc front (part ∷ []) back))
        ∙ drop_at (front ++ part ∷ []) back (i + 1) (omega (arith, counted, length-append front (part ∷ [])))))

    pub goes_behind : (whole : Option Entry) → first_failing (is_ahead key version) part ≡ None
        → first_over key version (drop i parts) ≡ whole → first_over key version (drop (i + 1) parts) ≡ whole
    goes_behind whole none so_far = sym (from_part ∙ ap (λ o. or_else o (first_over key version (drop (i + 1) parts))) none) ∙ so_far

    pub stops_in : (whole : Option Entry) (e : Entry) → first_failing (is_ahead key version) part ≡ Some e
        → first_over key version (drop i parts) ≡ whole → first_failing (is_ahead key version) part ≡ whole
    stops_in whole e some so_far = some ∙ sym (from_part ∙ ap (λ o. or_else o (first_over key version (drop (i + 1) parts))) some) ∙ so_far

  pub none_over : (i : ℕ) (parts : List (List Entry)) → length parts ≤ i → first_over key version (drop i parts) ≡ None
  none_over i parts past = by (drop i parts) (omega (arith, past, length-drop i parts))
    where
      by : (ps : List (List Entry)) → length ps ≡ 0 → first_over key version ps ≡ None
      by [] none = refl
      by (p ∷ ps) none = absurd (omega arith)
