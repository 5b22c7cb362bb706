-- Own entries, as the list grows and sessions are numbered and joined.
use Rattle.std.proofs.Common.{◌≡◌, ◌≢◌, ℕ, ◌+◌, ◌<◌, ◌==◌, eq-eqb, ne_eqb, Bool, true, false, if◌then◌else◌, List, []}
use Rattle.std.proofs.Common.{◌∷◌, ◌++◌, sym, refl, ap, ◌∙◌, arith}
use Rattle.vl_turn.specs.declared.view.Own.{Own}
use Rattle.vl_turn.specs.Entries.{entries_by, AreNumbered, AreOthers, AreApart, Owned, AreAmong}
use Rattle.vl_turn.specs.Rule.{OwnsFit}

module _ {E : Type 0} (by : E → ℕ) where
  -- the entries of a session, with an entry more in the list

  pub of_another : (list : List E) (e : E) (n : ℕ) → by e ≢ n → entries_by by n (list ++ e ∷ []) ≡ entries_by by n list
  of_another [] e n other = ap (λ b. if b then e ∷ [] else []) (ne_eqb (by e) n other)
  of_another (x ∷ xs) e n other = ap (λ es. if by x == n then x ∷ es else es) (of_another xs e n other)

  behind : (x e : E) (es : List E) (b : Bool) → (if b then x ∷ (es ++ e ∷ []) else es ++ e ∷ []) ≡ (if b then x ∷ es else es) ++ e ∷ []
  behind x e es true = refl
  behind x e es false = refl

  pub of_this : (list : List E) (e : E) → entries_by by (by e) (list ++ e ∷ []) ≡ entries_by by (by e) list ++ e ∷ []
  of_this [] e = ap (λ b. if b then e ∷ [] else []) (eq-eqb (by e) (by e) refl)
  of_this (x ∷ xs) e = ap (λ es. if by x == by e then x ∷ es else es) (of_this xs e) ∙ behind x e (entries_by by (by e) xs) (by x == by e)

  -- the next session has none yet
  pub of_next : (count : ℕ) (list : List E) → AreNumbered by count list → entries_by by count list ≡ []
  of_next count [] all = refl
  of_next count (x ∷ xs) all =
      let below : by x < count = all.0 in
      ap (λ b. if b then x ∷ entries_by by count xs else entries_by by count xs)
      (ne_eqb (by x) count (λ e. omega arith)) ∙ of_next count xs all.1

  pub numbered_grown : (count : ℕ) (list : List E) (e : E) → AreNumbered by count list → by e < count
      → AreNumbered by count (list ++ e ∷ [])
  numbered_grown count [] e all below = (below, tt)
  numbered_grown count (x ∷ xs) e all below = (all.0, numbered_grown count xs e all.1 below)

  pub numbered_more : (count : ℕ) (list : List E) → AreNumbered by count list → AreNumbered by (count + 1) list
  numbered_more count [] all = tt
  numbered_more count (x ∷ xs) all = (let below : by x < count = all.0 in omega arith, numbered_more count xs all.1)

  -- the sessions of a token

  pub owned : (list : List E) (count : ℕ) (token_of : ℕ → ℕ) (id : ℕ) (os : List (Own E))
      → OwnsFit by list count token_of id os → Owned by list os
  owned list count token_of id [] fit = tt
  owned list count token_of id (o ∷ os) fit = (fit.0.2, owned list count token_of id os fit.1)

  pub among : (list : List E) (count : ℕ) (token_of : ℕ → ℕ) (id : ℕ) (os : List (Own E))
      → OwnsFit by list count token_of id os → AreAmong count os
  among list count token_of id [] fit = tt
  among list count token_of id (o ∷ os) fit = (fit.0.0, among list count token_of id os fit.1)

  -- an entry of another token's session
  pub fit_grown : (list : List E) (count : ℕ) (token_of : ℕ → ℕ) (id j : ℕ) (e : E) (os : List (Own E))
      → token_of (by e) ≡ id → j ≢ id → OwnsFit by list count token_of j os → OwnsFit by (list ++ e ∷ []) count token_of j os
  fit_grown list count token_of id j e [] its other fit = tt
  fit_grown list count token_of id j e (o ∷ os) its other fit =
      let f = fit.0 in
      let apart : by e ≢ o.number = λ is. other (sym f.1 ∙ (ap token_of (sym is) ∙ its)) in
      ((f.0, f.1, f.2 ∙ sym (of_another list e o.number apart)), fit_grown list count token_of id j e os its other fit.1)

  -- with one session more, which the token `id` has
  abbrev pub token_more : (ℕ → ℕ) → ℕ → ℕ → ℕ → ℕ
  token_more token_of count id n = if n == count then id else token_of n

  pub fit_more : (list : List E) (count : ℕ) (token_of : ℕ → ℕ) (id j : ℕ) (os : List (Own E))
      → OwnsFit by list count token_of j os → OwnsFit by list (count + 1) (token_more token_of count id) j os
  fit_more list count token_of id j [] fit = tt
  fit_more list count token_of id j (o ∷ os) fit =
      let f = fit.0 in
      let below : o.number < count = f.0 in (
        (
          omega arith,
          ap (λ b. if b then id else token_of o.number) (ne_eqb o.number count (λ e. omega arith))
              ∙ f.1,
          f.2,
        ),
        fit_more list count token_of id j os fit.1,
      )

  -- what the token `other` had, the token `id` has
  abbrev pub token_moved : (ℕ → ℕ) → ℕ → ℕ → ℕ → ℕ
  token_moved token_of other id n = if token_of n == other then id else token_of n

  pub fit_stays : (list : List E) (count : ℕ) (token_of : ℕ → ℕ) (other id j : ℕ) (os : List (Own E)) → j ≢ other
      → OwnsFit by list count token_of j os → OwnsFit by list count (token_moved token_of other id) j os
  fit_stays list count token_of other id j [] apart fit = tt
  fit_stays list count token_of other id j (o ∷ os) apart fit =
      let f = fit.0 in (
        (
          f.0,
          ap (λ b. if b then id else token_of o.number) (ne_eqb (token_of o.number) other (λ e. apart (sym f.1 ∙ e)))
              ∙ f.1,
          f.2,
        ),
        fit_stays list count token_of other id j os apart fit.1,
      )

  pub fit_moves : (list : List E) (count : ℕ) (token_of : ℕ → ℕ) (other id : ℕ) (os : List (Own E))
      → OwnsFit by list count token_of other os → OwnsFit by list count (token_moved token_of other id) id os
  fit_moves list count token_of other id [] fit = tt
  fit_moves list count token_of other id (o ∷ os) fit =
      let f = fit.0 in (
        (f.0, ap (λ b. if b then id else token_of o.number) (eq-eqb (token_of o.number) other f.1), f.2),
        fit_moves list
            count token_of other id os fit.1,
      )

  pub fit_both : (list : List E) (count : ℕ) (token_of : ℕ → ℕ) (id : ℕ) (os ps : List (Own E))
      → OwnsFit by list count token_of id os → OwnsFit by list count token_of id ps → OwnsFit by list count token_of id (os ++ ps)
  fit_both list count token_of id [] ps fit also = also
  fit_both list count token_of id (o ∷ os) ps fit also = (fit.0, fit_both list count token_of id os ps fit.1 also)

  -- sessions differ

  pub next_differs : (list : List E) (count : ℕ) (token_of : ℕ → ℕ) (id : ℕ) (os : List (Own E))
      → OwnsFit by list count token_of id os → AreOthers count os
  next_differs list count token_of id [] fit = tt
  next_differs list count token_of id (o ∷ os) fit =
      let below : o.number < count = fit.0.0 in
      ((λ e. omega arith), next_differs list count token_of id os fit.1)

  others_elsewhere : (list : List E) (count : ℕ) (token_of : ℕ → ℕ) (id other n : ℕ) (ps : List (Own E))
      → token_of n ≡ id → other ≢ id → OwnsFit by list count token_of other ps → AreOthers n ps
  others_elsewhere list count token_of id other n [] mine apart fit = tt
  others_elsewhere list count token_of id other n (p ∷ ps) mine apart fit =
      let its : token_of p.number ≡ other = fit.0.1 in
      ((λ e. apart (sym its ∙ (ap token_of e ∙ mine))), others_elsewhere list count token_of id other n ps mine apart fit.1)

  others_both : (n : ℕ) (os ps : List (Own E)) → AreOthers n os → AreOthers n ps → AreOthers n (os ++ ps)
  others_both n [] ps these those = those
  others_both n (o ∷ os) ps these those = (these.0, others_both n os ps these.1 those)

  -- the sessions of two tokens
  pub apart_both : (list : List E) (count : ℕ) (token_of : ℕ → ℕ) (id other : ℕ) (os ps : List (Own E)) → other ≢ id
      → OwnsFit by list count token_of id os → OwnsFit by list count token_of other ps → AreApart os → AreApart ps → AreApart (os ++ ps)
  apart_both list count token_of id other [] ps tokens fit fits differ differs = differs
  apart_both list count token_of id other (o ∷ os) ps tokens fit fits differ differs = (
    others_both o.number os ps differ.0 (others_elsewhere list count token_of id other o.number ps fit.0.1 tokens fits),
    apart_both list count token_of id other os ps tokens fit.1 fits differ.1 differs,
  )
