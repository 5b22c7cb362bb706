-- The logs of a store that was just opened are those that are sealed in the layout at its start.
use Rattle.std.specs.Prelude.{◌≡◌, ℕ, Bool, true, false, not, ◌==◌, ◌||◌, nat_lt, if◌then◌else◌, List, [], ◌∷◌}
use Rattle.std.specs.Prelude.{◌++◌, Option, refl}
use Rattle.std.specs.List.{AllByRecursion, AllZip, filter}
use Rattle.std.proofs.Common.{sym, ap, subst, arith, inl, inr}
use Rattle.std.proofs.lemmas.Bool.Decides.{nat_tests}
use Rattle.vl_engine_laws.specs.Begun.{as_led, layout_begun, led_below}
use Rattle.vl_engine_laws.specs.Shown.{HasFramedAmong, Shown}
use Rattle.vl_engine_laws.specs.laws.BegunLaws.{one_opening}
use Rattle.vl_engine_laws.specs.laws.FileLaws.{all_back, all_front, all_more}
use Rattle.vl_disk.specs.Crash.{Image}
use Rattle.vl_engine_model.specs.Start.{has_frames, newest_first}
use Rattle.vl_engine_model.specs.Tidy.{log_numbers, sealed}
use Rattle.vl_engine_model.specs.declared.layout.Layout.{Layout}
use Rattle.vl_engine_model.specs.declared.segment.Segment.{Segment}
use Rattle.vl_model.specs.History.{History, last_number}
use Rattle.vl_model.specs.Numbers.{has}
use Rattle.vl_recover.specs.opening.Answers.{Finds, logs_then}
use Rattle.vl_recover.specs.opening.HeldFiles.{AreHeldLogs, IsHeldLog, IsReadLog, but_last}
use Rattle.vl_recover.specs.opening.Opening.{IsAmong, Opening, led_into}
use Rattle.vl_seglog.specs.declared.sealed.SealedLog.{SealedLog}

abbrev AreIn : List ℕ → List Segment → Type 0
AreIn ns ss = AllByRecursion (λ (s : Segment). has s.number ns ≡ true) ss

later_too : (n m : ℕ) (ns : List ℕ) → has n ns ≡ true → has n (m ∷ ns) ≡ true
later_too n m ns is = by (m == n)
  where
    by : (b : Bool) → (b || has n ns) ≡ true
    by true = refl
    by false = is

-- each is one of them
all_in : (ss : List Segment) → AreIn (log_numbers ss) ss
all_in [] = tt
all_in (s ∷ ss) =
    let same : (s.number == s.number) ≡ true = grind (arith, nat_tests) in
    (ap (λ (b : Bool). b || has s.number (log_numbers ss)) same, more ss (all_in ss))
  where
    more : (ts : List Segment) → AreIn (log_numbers ss) ts → AreIn (s.number ∷ log_numbers ss) ts
    more [] all = tt
    more (t ∷ ts) all = (later_too t.number s.number (log_numbers ss) all.0, more ts all.1)

module _ (P : Segment → Type 0) where
  from_newest : (ss : List Segment) → AllByRecursion P (newest_first ss) → AllByRecursion P ss
  from_newest [] all = tt
  from_newest (s ∷ ss) all =
      ((all_back P (newest_first ss) (s ∷ []) all).0, from_newest ss (all_front P (newest_first ss) (s ∷ []) all))

  from_both : (p : Segment → Bool) (ss : List Segment) → AllByRecursion P (filter p ss)
      → AllByRecursion P (filter (λ (s : Segment). not (p s)) ss) → AllByRecursion P ss
  from_both p [] some others = tt
  from_both p (s ∷ ss) some others = by (p s) some others (λ a b. from_both p ss a b)
    where
      by : (b : Bool) → AllByRecursion P (if b then s ∷ filter p ss else filter p ss)
          → AllByRecursion P (if not b then s ∷ filter (λ (t : Segment). not (p t)) ss else filter (λ (t : Segment). not (p t)) ss)
          → (AllByRecursion P (filter p ss) → AllByRecursion P (filter (λ (t : Segment). not (p t)) ss) → AllByRecursion P ss)
          → P s × AllByRecursion P ss
      by true a b later = (a.0, later a.1 b)
      by false a b later = (b.0, later a b.1)

below_numbers : {image : Image} {among : List Segment} (head : ℕ) (ns : List ℕ)
    (led : (n : ℕ) → IsAmong ns n → HasFramedAmong image among n)
    → log_numbers (led_below head ns led) ≡ filter (λ (n : ℕ). nat_lt n head) ns
below_numbers head [] led = refl
below_numbers head (n ∷ ns) led = by (nat_lt n head) (below_numbers head ns (λ m is. led m (inr is)))
  where
    by : (b : Bool) → log_numbers (led_below head ns (λ m is. led m (inr is))) ≡ filter (λ (k : ℕ). nat_lt k head) ns
        → log_numbers (if b then as_led n (led n (inl refl))
        ∷ led_below head ns (λ m is. led m (inr is)) else led_below head ns (λ m is. led m (inr is)))
        ≡ (if b then n ∷ filter (λ (k : ℕ). nat_lt k head) ns else filter (λ (k : ℕ). nat_lt k head) ns)
    by true later = ap (λ (ks : List ℕ). n ∷ ks) later
    by false later = later

module _ {H : Type 0} (bytes : H → Option (List ℕ)) {read : Image} (found : Finds read) (h : History)
    (shown : Shown read h (last_number h)) (room : ℕ) where
  abbrev begun : Layout
  begun = layout_begun room found shown (but_last (logs_then found))

  abbrev before : List Segment
  before = but_last (logs_then found)

  abbrev head : ℕ
  head = found.opening.state.head

  abbrev led : List ℕ
  led = led_into shown.opening.levels

  abbrev below : List Segment
  below = led_below head led shown.led

  abbrev numbers : List ℕ
  numbers = log_numbers (sealed begun)

  abbrev IsIn : SealedLog H → Type 0
  IsIn x = has x.number numbers ≡ true

  abbrev some : List Segment
  some = newest_first (filter has_frames before)

  abbrev others : List Segment
  others = filter (λ (s : Segment). not (has_frames s)) before

  all : AreIn numbers (some ++ (others ++ below))
  all = all_in (some ++ (others ++ below))

  rest : AreIn numbers (others ++ below)
  rest = all_back (λ (s : Segment). has s.number numbers ≡ true) some (others ++ below) all

  before_in : AreIn numbers before
  before_in = from_both (λ (s : Segment). has s.number numbers ≡ true) has_frames before
      (from_newest (λ (s : Segment). has s.number numbers ≡ true) (filter has_frames before)
      (all_front (λ (s : Segment). has s.number numbers ≡ true) some (others ++ below) all))
      (all_front (λ (s : Segment). has s.number numbers ≡ true) others below rest)

  upper_in : (xs : List (SealedLog H)) (ss : List Segment) → AllZip (IsHeldLog bytes) xs ss → AreIn numbers ss → AllByRecursion IsIn xs
  upper_in [] ss zip all_are = tt
  upper_in (x ∷ xs) [] zip all_are = absurd zip
  upper_in (x ∷ xs) (s ∷ ss) zip all_are =
      (subst (λ (n : ℕ). has n numbers ≡ true) (sym zip.0.number_is) all_are.0, upper_in xs ss zip.1 all_are.1)

  numbers_in : (ss : List Segment) → AreIn numbers ss → AllByRecursion (λ (n : ℕ). has n numbers ≡ true) (log_numbers ss)
  numbers_in [] are = tt
  numbers_in (s ∷ ss) are = (are.0, numbers_in ss are.1)

  lower_in : (xs : List (SealedLog H)) (ns : List ℕ) → AllZip (IsReadLog bytes read) xs ns
      → AllByRecursion (λ (n : ℕ). has n numbers ≡ true) ns → AllByRecursion IsIn xs
  lower_in [] ns zip are = tt
  lower_in (x ∷ xs) [] zip are = absurd zip
  lower_in (x ∷ xs) (n ∷ ns) zip are =
      (subst (λ (m : ℕ). has m numbers ≡ true) (sym zip.0.number_is) are.0, lower_in xs ns zip.1 are.1)

  pub sealed_begun : (logs : List (SealedLog H)) → AreHeldLogs bytes found logs → AllByRecursion IsIn logs
  sealed_begun logs are = subst (AllByRecursion IsIn) (sym are.split)
      (all_more IsIn are.lower are.upper
      (lower_in are.lower (filter (λ (n : ℕ). nat_lt n head) led)
      (subst (λ (o : Opening). AllZip (IsReadLog bytes read) are.lower (filter (λ (n : ℕ). nat_lt n head) (led_into o.levels)))
      (sym (one_opening found h shown room)) are.lower_are)
      (subst (AllByRecursion (λ (n : ℕ). has n numbers ≡ true)) (below_numbers head led shown.led)
      (numbers_in below (all_back (λ (s : Segment). has s.number numbers ≡ true) others below rest))))
      (upper_in are.upper before are.upper_are before_in))
