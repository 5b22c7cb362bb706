-- The bits of a key, one more at a time.
use Rattle.std.proofs.Common.{◌≡◌, ℕ, zero, suc, ◌+◌, ◌*◌, ◌<◌, Bool, true, false, ◌==◌, ◌&&◌, ◌||◌, List, [], ◌∷◌}
use Rattle.std.proofs.Common.{◌++◌, length, get_or, take, refl, ap, sym, ◌∙◌, arith, add-one}
use Rattle.std.proofs.lemmas.Bool.Decides.{nat_tests}
use Rattle.std.specs.List.{list_any}
use Rattle.std.proofs.lemmas.List.Folds.{list_any-append}
use Rattle.std.proofs.Math.Seq.{take-suc}
use Rattle.vl_filter.specs.Bits.{is_set}
use Rattle.vl_filter.specs.Filters.{are_set, is_marked}
use Rattle.vl_filter.specs.Places.{has_place, has_place_below, place}
use Rattle.vl_filter.specs.declared.hashes.Hashes.{Hashes}

or_assoc : (a b c : Bool) → (a || (b || c)) ≡ ((a || b) || c)
or_assoc true b c = refl
or_assoc false b c = refl

or_turned : (a b : Bool) → (a || b) ≡ (b || a)
or_turned true true = refl
or_turned true false = refl
or_turned false true = refl
or_turned false false = refl

or_none : (b : Bool) → (b || false) ≡ b
or_none true = refl
or_none false = refl

and_true : (a b : Bool) → a ≡ true → b ≡ true → (a && b) ≡ true
and_true true b is also = also
and_true false b is also = absurd cc

-- ---- bits that are written

module _ (bits : ℕ) (hashes : Hashes) (n p : ℕ) where
  -- one place more
  pub more_place : (a b c : Bool) → a ≡ (p == place bits hashes n || b) → b ≡ (has_place_below bits hashes n p || c)
      → a ≡ (has_place_below bits hashes (n + 1) p || c)
  more_place a b c one before =
      one ∙ ap (λ t. p == place bits hashes n || t) before
      ∙ or_assoc (p == place bits hashes n) (has_place_below bits hashes n p) c
      ∙ ap (λ k. has_place_below bits hashes k p || c) (sym (add-one n))

-- one key more
pub more_key : (bits : ℕ) (list : List Hashes) (i : ℕ) (hashes : Hashes) (p : ℕ) (a b c : Bool) → i < length list
    → hashes ≡ get_or list i hashes
    → a ≡ (has_place bits hashes p || b) → b ≡ (is_marked bits (take i list) p || c)
    → a ≡ (is_marked bits (take (i + 1) list) p || c)
more_key bits list i hashes p a b c within is one before =
    let test : Hashes → Bool = λ k. has_place bits k p in
    let more : list_any test (take (i + 1) list) ≡ (list_any test (take i list) || has_place bits hashes p) =
    ap (list_any test) (ap (λ n. take n list) (add-one i) ∙ take-suc list i hashes within)
    ∙ ap (λ k. list_any test (take i list ++ k ∷ [])) (sym is)
    ∙ list_any-append test (take i list) (hashes ∷ [])
    ∙ ap (λ t. list_any test (take i list) || t) (or_none (has_place bits hashes p)) in
    one ∙ ap (λ t. has_place bits hashes p || t) before
    ∙ or_assoc (has_place bits hashes p) (list_any test (take i list)) c
    ∙ ap (λ t. t || c) (or_turned (has_place bits hashes p) (list_any test (take i list)) ∙ sym more)

pub more_key_at : (bits : ℕ) (list : List Hashes) (i : ℕ) (d : Hashes) (p : ℕ) (a b c : Bool) → i < length list
    → a ≡ (has_place bits (get_or list i d) p || b) → b ≡ (is_marked bits (take i list) p || c)
    → a ≡ (is_marked bits (take (i + 1) list) p || c)
more_key_at bits list i d p a b c within one before =
    more_key bits list i (get_or list i d) p a b c within (get_or-any list i d (get_or list i d) within) one before
  where
    get_or-any : (list : List Hashes) (i : ℕ) (d e : Hashes) → i < length list → get_or list i d ≡ get_or list i e
    get_or-any [] i d e within = absurd (omega arith)
    get_or-any (h ∷ list) zero d e within = refl
    get_or-any (h ∷ list) (suc i) d e within = get_or-any list i d e (omega arith)

-- ---- bits that are read

-- one is 0
pub not_all : (bytes : List ℕ) (hashes : Hashes) (n m : ℕ) → n < m
    → is_set bytes (place (8 * length bytes) hashes n) ≡ false → are_set bytes hashes m ≡ false
not_all bytes hashes n zero below unset = absurd (omega arith)
not_all bytes hashes n (suc m) below unset = by (λ less. not_all bytes hashes n m less unset) (n == m) refl
  where
    dropped : (a b : Bool) → b ≡ false → (a && b) ≡ false
    dropped true b is = is
    dropped false b is = refl

    by : (n < m → are_set bytes hashes m ≡ false) → (t : Bool) → (n == m) ≡ t → are_set bytes hashes (suc m) ≡ false
    by rest true is =
        let same : m ≡ n = grind (arith, nat_tests) in
        ap (λ k. is_set bytes (place (8 * length bytes) hashes k) && are_set bytes hashes m) same
        ∙ ap (λ t. t && are_set bytes hashes m) unset
    by rest false is = dropped (is_set bytes (place (8 * length bytes) hashes m)) (are_set bytes hashes m) (rest (grind (arith, nat_tests)))

pub more_set : (bytes : List ℕ) (hashes : Hashes) (n : ℕ) → is_set bytes (place (8 * length bytes) hashes n) ≡ true
    → are_set bytes hashes n ≡ true
    → are_set bytes hashes (n + 1) ≡ true
more_set bytes hashes n set before =
    ap (are_set bytes hashes) (add-one n) ∙ and_true (is_set bytes (place (8 * length bytes) hashes n)) (are_set bytes hashes n) set before

-- ---- all seven bits

module _ (hashes : Hashes) (n : ℕ) where
  pub all_set : (bytes : List ℕ) → n ≡ 7 → are_set bytes hashes n ≡ true → true ≡ are_set bytes hashes 7
  all_set bytes whole is = sym is ∙ ap (are_set bytes hashes) whole

  pub one_unset : (bytes : List ℕ) (bits q : ℕ) (b : Bool) → n < 7 → bits ≡ 8 * length bytes → q ≡ place bits hashes n
      → b ≡ is_set bytes q → b ≡ false
      → false ≡ are_set bytes hashes 7
  one_unset bytes bits q b within bits_is q_is b_is unset =
      sym (not_all bytes hashes n 7 within (ap (is_set bytes) (sym (q_is ∙ ap (λ k. place k hashes n) bits_is)) ∙ sym b_is ∙ unset))
