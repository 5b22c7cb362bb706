-- Logs by their numbers: which of them a pointer leads into, and that this stays where others are dropped.
use Rattle.std.specs.Prelude.{◌≡◌, ℕ, ◌==◌, ◌||◌, Bool, true, false, if◌then◌else◌, List, [], ◌∷◌, ◌++◌, Some, refl}
use Rattle.std.specs.List.{filter}
use Rattle.std.proofs.Common.{sym, ap, ◌∙◌, arith}
use Rattle.std.proofs.lemmas.Bool.Decides.{nat_tests}
use Rattle.vl_disk.specs.declared.name.Name.{Name}
use Rattle.vl_disk.specs.declared.name.Name.TheVariants.{Log}
use Rattle.vl_engine_laws.specs.Pointed.{segment_at}
use Rattle.vl_engine_laws.specs.laws.KeptLaws.{AreOtherLogs}
use Rattle.vl_engine_model.specs.Jobs.{AreDistinct}
use Rattle.vl_engine_model.specs.Tidy.{format_of, log_numbers}
use Rattle.vl_engine_model.specs.declared.segment.Segment.{Segment}
use Rattle.vl_model.specs.Numbers as numbers
use Rattle.vl_recover.specs.laws.crash.AlikeLaws.{log_same}

-- one that stands among others has a number that is among theirs
pub not_among : (n : ℕ) (ss : List Segment) → numbers.has n (log_numbers ss) ≡ false → (log : Segment)
    → segment_at ss n ≡ Some log → ⊥
not_among n [] none log at = absurd cc
not_among n (s ∷ ss) none log at = by (λ never is. not_among n ss never log is) (s.number == n) none at
  where
    by : (numbers.has n (log_numbers ss) ≡ false → segment_at ss n ≡ Some log → ⊥)
        → (b : Bool) → (b || numbers.has n (log_numbers ss)) ≡ false → (if b then Some s else segment_at ss n) ≡ Some log → ⊥
    by later true never is = absurd (let both : true ≡ false = never in cc)
    by later false never is = later never is

pub other_logs : (n : ℕ) (ss : List Segment) → numbers.has n (log_numbers ss) ≡ false → AreOtherLogs (Log n) ss
other_logs n [] none = tt
other_logs n (s ∷ ss) none = by (other_logs n ss) (s.number == n) refl none
  where
    by : (numbers.has n (log_numbers ss) ≡ false → AreOtherLogs (Log n) ss)
        → (b : Bool) → (s.number == n) ≡ b → (b || numbers.has n (log_numbers ss)) ≡ false → AreOtherLogs (Log n) (s ∷ ss)
    by later true at never = absurd (let both : true ≡ false = never in cc)
    by later false at never = (
      λ e. absurd (let same : s.number ≡ n = log_same s.number n e in
          let one : (s.number == n) ≡ true = grind (arith, nat_tests, same) in
          let both : true ≡ false = sym one ∙ at in cc),
      later never,
    )

pub other_behind : (name : Name) (xs ys : List Segment) → AreOtherLogs name (xs ++ ys) → AreOtherLogs name ys
other_behind name [] ys all = all
other_behind name (x ∷ xs) ys all = other_behind name xs ys all.1

-- The log with this number is found whose format is told.
pub of_format : (ss : List Segment) (n f : ℕ) → format_of ss n ≡ Some f → (log : Segment) × (segment_at ss n ≡ Some log)
of_format [] n f is = absurd cc
of_format (s ∷ ss) n f is = by (of_format ss n f) (s.number == n) is
  where
    by : (format_of ss n ≡ Some f → (log : Segment) × (segment_at ss n ≡ Some log))
        → (b : Bool) → (if b then Some s.format else format_of ss n) ≡ Some f
        → (log : Segment) × ((if b then Some s else segment_at ss n) ≡ Some log)
    by later true told = (s, refl)
    by later false told = later told

-- A log among others of which none in front has its number is found.
pub segment_there : (xs : List Segment) (s : Segment) (ys : List Segment) → AreDistinct (log_numbers (xs ++ s ∷ ys))
    → segment_at (xs ++ s ∷ ys) s.number ≡ Some s
segment_there [] s ys distinct =
    let here : (s.number == s.number) ≡ true = grind (arith, nat_tests) in
    ap (λ (b : Bool). if b then Some s else segment_at ys s.number) here
segment_there (x ∷ xs) s ys distinct = by (segment_there xs s ys distinct.1) (x.number == s.number) refl
  where
    by : segment_at (xs ++ s ∷ ys) s.number ≡ Some s → (b : Bool) → (x.number == s.number) ≡ b
        → (if b then Some x else segment_at (xs ++ s ∷ ys) s.number) ≡ Some s
    by later true at =
        let same : x.number ≡ s.number = grind (arith, nat_tests, at) in
        absurd (not_among x.number (xs ++ s ∷ ys) distinct.0 s (ap (segment_at (xs ++ s ∷ ys)) same ∙ later))
    by later false at = later

-- What is found where some were dropped was found before.
module _ (q : Segment → Bool) (n : ℕ) (log : Segment) where
  filtered_wider : (ys : List Segment) → AreDistinct (log_numbers ys) → segment_at (filter q ys) n ≡ Some log
      → segment_at ys n ≡ Some log
  filtered_wider [] distinct is = is
  filtered_wider (y ∷ ys) distinct is = by (filtered_wider ys distinct.1) (q y) (y.number == n) refl is
    where
      by : (segment_at (filter q ys) n ≡ Some log → segment_at ys n ≡ Some log)
          → (a b : Bool) → (y.number == n) ≡ b → segment_at (if a then y ∷ filter q ys else filter q ys) n ≡ Some log
          → (if b then Some y else segment_at ys n) ≡ Some log
      by later true true at found = sym (ap (λ (c : Bool). if c then Some y else segment_at (filter q ys) n) at) ∙ found
      by later true false at found =
          later (sym (ap (λ (c : Bool). if c then Some y else segment_at (filter q ys) n) at) ∙ found)
      by later false true at found =
          let same : y.number ≡ n = grind (arith, nat_tests, at) in
          absurd (not_among y.number ys distinct.0 log (ap (segment_at ys) same ∙ later found))
      by later false false at found = later found

  pub segment_wider : (xs ys : List Segment) → AreDistinct (log_numbers (xs ++ ys))
      → segment_at (xs ++ filter q ys) n ≡ Some log → segment_at (xs ++ ys) n ≡ Some log
  segment_wider [] ys distinct is = filtered_wider ys distinct is
  segment_wider (x ∷ xs) ys distinct is = by (segment_wider xs ys distinct.1) (x.number == n) is
    where
      by : (segment_at (xs ++ filter q ys) n ≡ Some log → segment_at (xs ++ ys) n ≡ Some log)
          → (b : Bool) → (if b then Some x else segment_at (xs ++ filter q ys) n) ≡ Some log
          → (if b then Some x else segment_at (xs ++ ys) n) ≡ Some log
      by later true found = found
      by later false found = later found
