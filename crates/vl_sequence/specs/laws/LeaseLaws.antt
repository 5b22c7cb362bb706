-- Leases don't meet and rise, whoever took them, and the key's value is above them.
use Rattle.std.specs.Prelude.{◌≡◌, ◌≢◌, ◌≤◌, ◌-◌, ℕ, List, [], ◌∷◌, ◌++◌, map, min, Option, None, Some, refl}
use Rattle.std.specs.FinMap.{get}
use Rattle.std.proofs.Common.{sym, ap, subst, ◌∙◌, ⊎_elim, append_assoc, arith}
use Rattle.vl_model.specs.History.{Extends, History, last_change, last_number, past_value, value_at, value_left}
use Rattle.vl_model.specs.Keys.{Stored, Writes}
use Rattle.vl_model.specs.declared.change.Change.{Change}
use Rattle.vl_model.specs.laws.HistoryLaws.{min-high, take_all, value_at-extends, value_at-first, value_left-newer}
use Rattle.vl_sequence.specs.Leases.{AreRising, AreUpTo, IsIn, IsLease, Lease, OnlyLeases, Raises, lease_of, leased, leases}
use Rattle.vl_sequence.specs.Leases.{leases_from, number_in, value_behind}
use Rattle.vl_sequence.specs.Takings.{Has}

pub some_same : {A : Type 0} (a b : A) → Some a ≡ Some b → a ≡ b
some_same a b is = cc

module _ (key : List ℕ) where
  -- the value behind commits is what the last of them that names the key leaves
  pub value_behind-last : (old : Option Stored) (ws : List Writes) → value_behind key old ws ≡ value_left old (last_change ws key)
  value_behind-last old [] = refl
  value_behind-last old (w ∷ later) =
      value_behind-last (value_left old (get w key)) later ∙ value_left-newer old (get w key) (last_change later key)

  -- ---- they rise

  lease_is : (old : Option Stored) (change : Change) (r : Raises old change)
      → leased old (Some change) ≡ record { first = r.first; end = r.end } ∷ []
  lease_is old change r =
      ap (λ o. lease_of o (number_in (value_left old (Some change)))) r.told ∙ ap (lease_of (Some r.first)) r.tells

  pub rise : (old : Option Stored) (ws : List Writes) (n : ℕ) → number_in old ≡ Some n → OnlyLeases key old ws
      → AreRising n (leases_from key old ws)
  rise old [] n told only = tt
  rise old (w ∷ later) n told only = by (get w key) only.0 (λ m is. rise (value_left old (get w key)) later m is only.1)
    where
      by : (o : Option Change) → IsLease old o
          → ((m : ℕ) → number_in (value_left old o) ≡ Some m → AreRising m (leases_from key (value_left old o) later))
          → AreRising n (leased old o ++ leases_from key (value_left old o) later)
      by None is rest = rest n told
      by (Some change) is rest =
          let same : n ≡ is.first = some_same n is.first (sym told ∙ is.told) in
          let more = is.more in
          subst (λ (ls : List Lease). AreRising n (ls ++ leases_from key (value_left old (Some change)) later))
          (sym (lease_is old change is))
          (omega (arith, same), more, rest is.end is.tells)

  -- ---- the key's value is above them

  pub number_behind : (old : Option Stored) (ws : List Writes) (n : ℕ) → number_in old ≡ Some n → OnlyLeases key old ws
      → (m : ℕ) × (number_in (value_behind key old ws) ≡ Some m) × (n ≤ m) × AreUpTo m (leases_from key old ws)
  number_behind old [] n told only = (n, told, omega arith, tt)
  number_behind old (w ∷ later) n told only =
      by (get w key) only.0 (λ m is. number_behind (value_left old (get w key)) later m is only.1)
    where
      by : (o : Option Change) → IsLease old o
          → ((k : ℕ) → number_in (value_left old o) ≡ Some k
          → (m : ℕ) × (number_in (value_behind key (value_left old o) later) ≡ Some m) × (k ≤ m) × AreUpTo m (leases_from key (value_left old o) later))
          → (m : ℕ) × (number_in (value_behind key (value_left old o) later) ≡ Some m) × (n ≤ m)
          × AreUpTo m (leased old o ++ leases_from key (value_left old o) later)
      by None is rest = rest n told
      by (Some change) is rest =
          let same : n ≡ is.first = some_same n is.first (sym told ∙ is.told) in
          let more = is.more in
          let behind = rest is.end is.tells in
          let up = behind.2 in (
            behind.0,
            behind.1,
            omega (arith, same, more, up),
            subst (λ (ls : List Lease). AreUpTo behind.0 (ls ++ leases_from key (value_left old (Some change)) later))
                (sym (lease_is old change is)) (up, behind.3),
          )

  -- What is leased by commits is below the key's value behind them, and the value never falls.
  pub leased_below : (old : Option Stored) (ws : List Writes) (n m : ℕ) → number_in old ≡ Some n → OnlyLeases key old ws
      → number_in (value_behind key old ws) ≡ Some m → (n ≤ m) × AreUpTo m (leases_from key old ws)
  leased_below old ws n m told only tells =
      let b = number_behind old ws n told only in
      let same = some_same b.0 m (sym b.1 ∙ tells) in
      (subst (λ (k : ℕ). n ≤ k) same b.2, subst (λ (k : ℕ). AreUpTo k (leases_from key old ws)) same b.3)

  -- ---- of more commits

  pub value_behind-more : (old : Option Stored) (xs ys : List Writes)
      → value_behind key old (xs ++ ys) ≡ value_behind key (value_behind key old xs) ys
  value_behind-more old [] ys = refl
  value_behind-more old (x ∷ xs) ys = value_behind-more (value_left old (get x key)) xs ys

  pub leases_from-more : (old : Option Stored) (xs ys : List Writes)
      → leases_from key old (xs ++ ys) ≡ leases_from key old xs ++ leases_from key (value_behind key old xs) ys
  leases_from-more old [] ys = refl
  leases_from-more old (x ∷ xs) ys =
      ap (λ ls. leased old (get x key) ++ ls) (leases_from-more (value_left old (get x key)) xs ys)
      ∙ sym (append_assoc (leased old (get x key)) (leases_from key (value_left old (get x key)) xs)
      (leases_from key (value_behind key (value_left old (get x key)) xs) ys))

  pub only-front : (old : Option Stored) (xs ys : List Writes) → OnlyLeases key old (xs ++ ys) → OnlyLeases key old xs
  only-front old [] ys only = tt
  only-front old (x ∷ xs) ys only = (only.0, only-front (value_left old (get x key)) xs ys only.1)

  pub only-back : (old : Option Stored) (xs ys : List Writes) → OnlyLeases key old (xs ++ ys)
      → OnlyLeases key (value_behind key old xs) ys
  only-back old [] ys only = only
  only-back old (x ∷ xs) ys only = only-back (value_left old (get x key)) xs ys only.1

  -- What was leased before a stop is below the first number that is leased behind it: the image shows at least the commits that were
  -- acknowledged, so `xs`, and maybe `ys`, some of those that were not; behind that are the commits of the store that was opened again.
  pub apart_over_stops : (old : Option Stored) (xs ys zs : List Writes) (n : ℕ) → number_in old ≡ Some n
      → OnlyLeases key old (xs ++ ys) → OnlyLeases key (value_behind key old (xs ++ ys)) zs
      → (m : ℕ) × AreUpTo m (leases_from key old xs) × AreRising m (leases_from key (value_behind key old (xs ++ ys)) zs)
  apart_over_stops old xs ys zs n told only later =
      let first = number_behind old xs n told (only-front old xs ys only) in
      let then_ = number_behind (value_behind key old xs) ys first.0 first.1 (only-back old xs ys only) in
      let same = value_behind-more old xs ys in
      let up = then_.2 in (
        first.0,
        first.3,
        lower (leases_from key (value_behind key old (xs ++ ys)) zs) up
            (rise (value_behind key old (xs ++ ys)) zs then_.0 (ap number_in same ∙ then_.1) later),
      )
    where
      lower : {a b : ℕ} (ls : List Lease) → a ≤ b → AreRising b ls → AreRising a ls
      lower [] le rising = tt
      lower (l ∷ ls) le rising = let low = rising.0 in (omega (arith, le, low), rising.1, rising.2)

  -- ---- of a history

  pub value_behind-all : (h : History) → value_behind key (value_at h h.first key) h.commits ≡ value_at h (last_number h) key
  value_behind-all h =
      value_behind-last (value_at h h.first key) h.commits
      ∙ ap (λ v. value_left v (last_change h.commits key)) (value_at-first h h.first key (omega arith))
      ∙ ap (λ (n : ℕ). value_left (past_value h.base n key) (last_change h.commits key)) (sym (min-high (last_number h) h.first (omega arith)))
      ∙ ap (λ ws. value_left (past_value h.base (min (last_number h) h.first) key) (last_change ws key))
      (sym (take_all h.commits (last_number h - h.first) (omega arith)))

  pub leases_rise : (h : History) (n : ℕ) → number_in (value_at h h.first key) ≡ Some n
      → OnlyLeases key (value_at h h.first key) h.commits → AreRising n (leases h key)
  leases_rise h n told only = rise (value_at h h.first key) h.commits n told only

  pub leases_below : (h : History) (n : ℕ) → number_in (value_at h h.first key) ≡ Some n
      → OnlyLeases key (value_at h h.first key) h.commits
      → (m : ℕ) × (number_in (value_at h (last_number h) key) ≡ Some m) × (n ≤ m) × AreUpTo m (leases h key)
  leases_below h n told only =
      let b = number_behind (value_at h h.first key) h.commits n told only in
      (b.0, ap number_in (sym (value_behind-all h)) ∙ b.1, b.2, b.3)

  -- So of the histories before a stop and behind the opening: what was acknowledged before is below the first number that is leased then.
  pub apart_over_openings : (h image later : History) (n : ℕ) → Extends h image
      → value_at later later.first key ≡ value_at image (last_number image) key → number_in (value_at h h.first key) ≡ Some n
      → OnlyLeases key (value_at image image.first key) image.commits → OnlyLeases key (value_at later later.first key) later.commits
      → (m : ℕ) × AreUpTo m (leases h key) × AreRising m (leases later key)
  apart_over_openings h image later n e stands told only then_ =
      let first : value_at image image.first key ≡ value_at h h.first key =
      ap (λ (k : ℕ). value_at image k key) e.first ∙ value_at-extends h image e h.first key (omega arith) in
      let all : value_behind key (value_at h h.first key) (h.commits ++ e.later) ≡ value_at later later.first key =
      ap (λ v. value_behind key v (h.commits ++ e.later)) (sym first)
      ∙ ap (value_behind key (value_at image image.first key)) (sym e.commits) ∙ value_behind-all image ∙ sym stands in
      let before : OnlyLeases key (value_at h h.first key) (h.commits ++ e.later) =
      subst (λ (ws : List Writes). OnlyLeases key (value_at h h.first key) ws) e.commits
      (subst (λ (v : Option Stored). OnlyLeases key v image.commits) first only) in
      let apart = apart_over_stops (value_at h h.first key) h.commits e.later later.commits n told before
      (subst (λ (v : Option Stored). OnlyLeases key v later.commits) (sym all) then_) in
      (apart.0, apart.1, subst (λ (v : Option Stored). AreRising apart.0 (leases_from key v later.commits)) all apart.2)

-- ---- of sessions

-- Where they rise from a number on, each begins there or above it.
pub below_rising : (n : ℕ) (ts : List (ℕ × Lease)) (session : ℕ) (l : Lease) → AreRising n (map (λ (t : ℕ × Lease). t.1) ts)
    → Has ts session l → n ≤ l.first
below_rising n [] session l rising has = absurd has
below_rising n (t ∷ ts) session l rising has = ⊎_elim
    (λ (here : (t.0 ≡ session) × (t.1 ≡ l)). subst (λ (x : Lease). n ≤ x.first) here.1 rising.0)
    (λ (later : Has ts session l).
    let le = below_rising t.1.end ts session l rising.2 later in
    let low = rising.0 in
    let less = rising.1 in
    omega (arith, le, low, less))
    has

-- Two sessions never hold the same number.
pub sessions_apart : (n : ℕ) (ts : List (ℕ × Lease)) (s t : ℕ) (l m : Lease) (x : ℕ)
    → AreRising n (map (λ (t : ℕ × Lease). t.1) ts) → s ≢ t → Has ts s l → Has ts t m → IsIn l x → IsIn m x → ⊥
sessions_apart n [] s t l m x rising apart p q in_l in_m = absurd p
sessions_apart n (u ∷ us) s t l m x rising apart p q in_l in_m = ⊎_elim
    (λ (here : (u.0 ≡ s) × (u.1 ≡ l)). ⊎_elim
    (λ (here' : (u.0 ≡ t) × (u.1 ≡ m)). apart (sym here.0 ∙ here'.0))
    (λ (later : Has us t m).
    let le = below_rising u.1.end us t m rising.2 later in
    let end : u.1.end ≡ l.end = ap (λ (k : Lease). k.end) here.1 in
    let up = in_l.1 in
    let low = in_m.0 in
    omega (arith, le, end, up, low)) q)
    (λ (later : Has us s l). ⊎_elim
    (λ (here : (u.0 ≡ t) × (u.1 ≡ m)).
    let le = below_rising u.1.end us s l rising.2 later in
    let end : u.1.end ≡ m.end = ap (λ (k : Lease). k.end) here.1 in
    let up = in_m.1 in
    let low = in_l.0 in
    omega (arith, le, end, up, low))
    (λ (later' : Has us t m). sessions_apart u.1.end us s t l m x rising.2 apart later later' in_l in_m) q)
    p
