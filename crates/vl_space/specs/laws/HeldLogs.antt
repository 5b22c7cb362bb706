-- Which logs the version behind a switch holds, by what is kept of live bytes.
use Rattle.std.specs.Prelude.{◌≡◌, ℕ, ◌==◌, ◌&&◌, ◌||◌, nat_lt, not, Bool, true, false, if◌then◌else◌, List, [], ◌∷◌, map, Option, refl}
use Rattle.std.specs.List.{AllByRecursion, AllZip, filter}
use Rattle.std.proofs.Common.{sym, ap, subst, ◌∙◌, arith}
use Rattle.std.proofs.lemmas.Bool.Decides.{nat_tests}
use Rattle.vl_engine_laws.specs.declared.kept.Core.{Core}
use Rattle.vl_space.specs.laws.Tallying.{has_first, has_later}
use Rattle.vl_space.specs.Collecting.{head_in, idle_in}
use Rattle.vl_space.specs.Retiring.{HoldsNeeded, is_idle_in, is_idle_log}
use Rattle.vl_model.specs.Numbers.{has}
use Rattle.vl_seglog.specs.declared.sealed.SealedLog.{SealedLog}
use Rattle.vl_stats.specs.Live.{bytes_of}
use Rattle.vl_stats.specs.Tallies.{Tallied}
use Rattle.vl_version.specs.Needed.{is_kept, levels_into}
use Rattle.vl_version.specs.Shared.{AreSameLogs, IsSameLog}
use Rattle.vl_version.specs.declared.levels.Levels.{Levels}

abbrev numbers : {H : Type 0} → List (SealedLog H) → List ℕ
numbers {H} logs = map (λ (log : SealedLog H). log.number) logs

module _ (live : List (ℕ × ℕ)) where
  abbrev is_dead : ℕ → Bool
  is_dead n = bytes_of live n == 0

module _ {H : Type 0} (live : List (ℕ × ℕ)) where
  -- Among the idle ones is a number that is one of theirs, where nothing of it is live.
  has_idle : (n : ℕ) (logs : List (SealedLog H)) → has n (idle_in live logs) ≡ (has n (numbers logs) && is_dead live n)
  has_idle n [] = refl
  has_idle n (x ∷ logs) = by (is_dead live x.number) refl (x.number == n) refl (has_idle n logs)
    where
      not_dead : (b : Bool) → (b && false) ≡ false
      not_dead true = refl
      not_dead false = refl

      by : (d : Bool) → is_dead live x.number ≡ d → (e : Bool) → (x.number == n) ≡ e
          → has n (idle_in live logs) ≡ (has n (numbers logs) && is_dead live n)
          → has n (numbers (if d then x ∷ filter (λ (y : SealedLog H). is_dead live y.number) logs
          else filter (λ (y : SealedLog H). is_dead live y.number) logs)) ≡ ((e || has n (numbers logs)) && is_dead live n)
      by true dead true here later =
          let same : x.number ≡ n = grind (arith, nat_tests, here) in
          ap (λ (b : Bool). b || has n (idle_in live logs)) here ∙ sym (subst (λ (k : ℕ). is_dead live k ≡ true) same dead)
      by true dead false other later = ap (λ (b : Bool). b || has n (idle_in live logs)) other ∙ later
      by false alive true here later =
          let same : x.number ≡ n = grind (arith, nat_tests, here) in
          let not_so : is_dead live n ≡ false = subst (λ (k : ℕ). is_dead live k ≡ false) same alive in
          later ∙ ap (λ (b : Bool). has n (numbers logs) && b) not_so ∙ not_dead (has n (numbers logs)) ∙ sym not_so
      by false alive false other later = later

  each_in : (logs all : List (SealedLog H)) → ((n : ℕ) → has n (numbers logs) ≡ true → has n (numbers all) ≡ true)
      → AllByRecursion (λ (x : SealedLog H). has x.number (idle_in live all) ≡ is_dead live x.number) logs
  each_in [] all within = tt
  each_in (x ∷ logs) all within = (
    has_idle x.number all ∙ ap (λ (b : Bool). b && is_dead live x.number) (within x.number (has_first x.number (numbers logs))),
    each_in logs all (λ n is. within n (has_later n x.number (numbers logs) is)),
  )

stays_alike : (among dead below into : Bool) → among ≡ dead → (not among || (not below || into)) ≡ (not (below && dead) || into)
stays_alike true true true into same = refl
stays_alike true true false into same = refl
stays_alike false false true into same = refl
stays_alike false false false into same = refl
stays_alike true false below into same = absurd cc
stays_alike false true below into same = absurd cc

module _ {H : Type 0} (bytes : H → Option (List ℕ)) (live : List (ℕ × ℕ)) (idle : List ℕ) (head : ℕ) (levels : Levels H)
    (test : ℕ → Bool) (test_is : (n : ℕ) → test n ≡ is_idle_log head live n) where
  abbrev stays : ℕ → Bool
  stays n = not (test n) || levels_into n levels

  numbers_left : (xs ys : List (SealedLog H)) → AreSameLogs bytes xs ys
      → AllByRecursion (λ (x : SealedLog H). has x.number idle ≡ (bytes_of live x.number == 0)) xs
      → numbers (filter (is_kept idle head levels) ys) ≡ filter stays (numbers xs)
  numbers_left [] [] same known = refl
  numbers_left [] (y ∷ ys) same known = absurd same
  numbers_left (x ∷ xs) [] same known = absurd same
  numbers_left (x ∷ xs) (y ∷ ys) same known =
      by (is_kept idle head levels y) (stays x.number) alike (numbers_left xs ys same.1 known.1)
    where
      alike : is_kept idle head levels y ≡ stays x.number
      alike =
          ap (λ (n : ℕ). not (has n idle) || (not (nat_lt n head) || levels_into n levels)) same.0.number
          ∙ stays_alike (has x.number idle) (bytes_of live x.number == 0) (nat_lt x.number head) (levels_into x.number levels) known.0
          ∙ ap (λ (b : Bool). not b || levels_into x.number levels) (sym (test_is x.number))

      by : (a b : Bool) → a ≡ b → numbers (filter (is_kept idle head levels) ys) ≡ filter stays (numbers xs)
          → numbers (if a then y ∷ filter (is_kept idle head levels) ys else filter (is_kept idle head levels) ys)
          ≡ (if b then x.number ∷ filter stays (numbers xs) else filter stays (numbers xs))
      by true true is later =
          ap (λ (n : ℕ). n ∷ numbers (filter (is_kept idle head levels) ys)) same.0.number
          ∙ ap (λ (ns : List ℕ). x.number ∷ ns) later
      by false false is later = later
      by true false is later = absurd cc
      by false true is later = absurd cc

-- A version that lets go of logs of which nothing is live holds those that it needs.
pub holds_needed : {H : Type 0} (bytes : H → Option (List ℕ)) (before after : Core H) (next : List (SealedLog H)) (least head : ℕ)
    (live : List (ℕ × ℕ)) (tally : Option Tallied) → AreSameLogs bytes before.version.behind.logs.items next
    → after.version.behind.logs.items
    ≡ filter (is_kept (idle_in live before.version.behind.logs.items) least after.version.behind.levels) next
    → least ≡ head_in after → head ≡ head_in after → ((n : ℕ) → is_idle_in head tally n ≡ is_idle_log head live n)
    → HoldsNeeded before after tally
holds_needed {H} bytes before after next least head live tally same left least_is head_is idle =
    ap numbers (left ∙ ap (λ (n : ℕ).
    filter (is_kept (idle_in live before.version.behind.logs.items) n after.version.behind.levels) next) least_is)
    ∙ numbers_left bytes live (idle_in live before.version.behind.logs.items) (head_in after) after.version.behind.levels
    (is_idle_in (head_in after) tally)
    (subst (λ (k : ℕ). (n : ℕ) → is_idle_in k tally n ≡ is_idle_log k live n) head_is idle)
    before.version.behind.logs.items next same
    (each_in live before.version.behind.logs.items before.version.behind.logs.items (λ n is. is))
