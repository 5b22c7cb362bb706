-- The logs that the footers of tables name are those that their entries lead into.
use Rattle.std.specs.Prelude.{◌≡◌, ◌⊎◌, ◌<◌, ℕ, ◌+◌, ◌==◌, nat_lt, if◌then◌else◌, Bool, true, false, List, [], ◌∷◌, map, refl}
use Rattle.std.specs.List.{AllByRecursion}
use Rattle.std.specs.Ordering.{nat_cmp}
use Rattle.std.specs.declared.cmp.Ordering.{Ordering}
use Rattle.std.specs.declared.cmp.Ordering.TheVariants.{Equal, Greater, Less}
use Rattle.std.proofs.Common.{subst, inl, inr, ⊎_elim, arith}
use Rattle.std.proofs.lemmas.Bool.Decides.{nat_tests}
use Rattle.vl_model.specs.Cutting.{pointed, points_of, with_point}
use Rattle.vl_model.specs.declared.point.Point.{Point}
use Rattle.vl_engine_laws.specs.Files.{found_levels, found_of}
use Rattle.vl_engine_laws.specs.Shown.{tables_among}
use Rattle.vl_engine_laws.specs.laws.FileLaws.{all_back, all_each, all_front, all_more}
use Rattle.vl_engine_model.specs.Rising.{IsRising}
use Rattle.vl_engine_model.specs.declared.table.Table.{Table}
use Rattle.vl_model.specs.Entries.{by_order}
use Rattle.vl_model.specs.declared.entry.Body.{Body}
use Rattle.vl_model.specs.declared.entry.Body.TheVariants.{Far, Gone, Inline, Logged}
use Rattle.vl_model.specs.declared.entry.Entry.{Entry}
use Rattle.vl_recover.specs.opening.Opening.{FoundTable, IsAmong, led_by, led_into, led_through, put_number, put_points}

-- of what is so of logs by their numbers
module _ (P : ℕ → Type 0) where
  -- where the body leads into a log, it is so of that
  abbrev pub IsFarTo : Body → Type 0
  IsFarTo (Inline value) = Unit {0}
  IsFarTo Gone = Unit {0}
  IsFarTo (Far p) = P p.segment
  IsFarTo (Logged value p) = Unit {0}

  abbrev pub AreFarTo : List Entry → Type 0
  AreFarTo es = AllByRecursion (λ (e : Entry). IsFarTo e.body) es

  abbrev pub ArePointsTo : List Point → Type 0
  ArePointsTo ps = AllByRecursion (λ (p : Point). P p.segment) ps

  pointed_in : (segment bytes : ℕ) (ps : List Point) → P segment → ArePointsTo ps → ArePointsTo (pointed segment bytes ps)
  pointed_in segment bytes [] here all = (here, tt)
  pointed_in segment bytes (p ∷ ps) here all = by (pointed_in segment bytes ps here all.1) (nat_cmp segment p.segment)
    where
      by : ArePointsTo (pointed segment bytes ps) → (r : Ordering)
          → ArePointsTo (by_order r (record { segment = segment; bytes = bytes } ∷ p ∷ ps)
          (record { segment = p.segment; bytes = p.bytes + bytes } ∷ ps) (p ∷ pointed segment bytes ps))
      by later Less = (here, all)
      by later Equal = (all.0, all.1)
      by later Greater = (all.0, later)

  body_in : (body : Body) (ps : List Point) → IsFarTo body → ArePointsTo ps → ArePointsTo (with_point body ps)
  body_in (Inline value) ps here all = all
  body_in Gone ps here all = all
  body_in (Far p) ps here all = pointed_in p.segment p.length ps here all
  body_in (Logged value p) ps here all = all

  -- Points lead where entries do.
  pub points_in : (es : List Entry) → AreFarTo es → ArePointsTo (points_of es)
  points_in [] far = tt
  points_in (e ∷ es) far = body_in e.body (points_of es) far.0 (points_in es far.1)

  number_in : (n : ℕ) (ns : List ℕ) → P n → AllByRecursion P ns → AllByRecursion P (put_number n ns)
  number_in n [] here all = (here, tt)
  number_in n (m ∷ ms) here all = by (number_in n ms here all.1) (nat_lt n m) (n == m)
    where
      by : AllByRecursion P (put_number n ms) → (less same : Bool)
          → AllByRecursion P (if less then n ∷ m ∷ ms else (if same then m ∷ ms else m ∷ put_number n ms))
      by later true same = (here, all)
      by later false true = all
      by later false false = (all.0, later)

  put_in : (ps : List Point) (ns : List ℕ) → ArePointsTo ps → AllByRecursion P ns → AllByRecursion P (put_points ps ns)
  put_in [] ns points all = all
  put_in (p ∷ ps) ns points all = put_in ps (put_number p.segment ns) points.1 (number_in p.segment ns points.0 all)

  level_in : (ts : List Table) (ns : List ℕ) → AllByRecursion (λ (t : Table). ArePointsTo (points_of t.entries)) ts
      → AllByRecursion P ns → AllByRecursion P (led_by (map found_of ts) ns)
  level_in [] ns points all = all
  level_in (t ∷ ts) ns points all =
      level_in ts (put_points (points_of t.entries) ns) points.1 (put_in (points_of t.entries) ns points.0 all)

  through_in : (levels : List (List Table)) (ns : List ℕ)
      → AllByRecursion (λ (t : Table). ArePointsTo (points_of t.entries)) (tables_among levels) → AllByRecursion P ns
      → AllByRecursion P (led_through (found_levels levels) ns)
  through_in [] ns points all = all
  through_in (ts ∷ levels) ns points all = through_in levels (led_by (map found_of ts) ns)
      (all_back (λ (t : Table). ArePointsTo (points_of t.entries)) ts (tables_among levels) points)
      (level_in ts ns (all_front (λ (t : Table). ArePointsTo (points_of t.entries)) ts (tables_among levels) points) all)

  -- So are all logs that footers name.
  pub led_in : (levels : List (List Table)) → AllByRecursion (λ (t : Table). AreFarTo t.entries) (tables_among levels)
      → AllByRecursion P (led_into (found_levels levels))
  led_in levels far = through_in levels []
      (all_each (λ (t : Table). AreFarTo t.entries) (λ (t : Table). ArePointsTo (points_of t.entries)) (tables_among levels)
      (λ t are. points_in t.entries are) far) tt

  pub among_in : (ns : List ℕ) (n : ℕ) → AllByRecursion P ns → IsAmong ns n → P n
  among_in [] n all among = absurd among
  among_in (m ∷ ms) n all among = ⊎_elim
      (λ (same : m ≡ n). subst P same all.0)
      (λ (later : IsAmong ms n). among_in ms n all.1 later)
      among

-- ---- each footer's points are named

put_has : (n : ℕ) (ns : List ℕ) → IsAmong (put_number n ns) n
put_has n [] = inl refl
put_has n (m ∷ ms) = by (put_has n ms) (nat_lt n m) (n == m) refl
  where
    by : IsAmong (put_number n ms) n → (less same : Bool) → (n == m) ≡ same
        → IsAmong (if less then n ∷ m ∷ ms else (if same then m ∷ ms else m ∷ put_number n ms)) n
    by later true same at = inl refl
    by later false true at = inl (let is : m ≡ n = grind (arith, nat_tests, at) in is)
    by later false false at = inr later

put_keeps : (n : ℕ) (ns : List ℕ) (k : ℕ) → IsAmong ns k → IsAmong (put_number n ns) k
put_keeps n [] k among = absurd among
put_keeps n (m ∷ ms) k among = by (put_keeps n ms k) (nat_lt n m) (n == m) among
  where
    by : (IsAmong ms k → IsAmong (put_number n ms) k) → (less same : Bool) → (m ≡ k) ⊎ IsAmong ms k
        → IsAmong (if less then n ∷ m ∷ ms else (if same then m ∷ ms else m ∷ put_number n ms)) k
    by later true same is = inr is
    by later false true is = is
    by later false false (inl here) = inl here
    by later false false (inr rest) = inr (later rest)

points_keep : (ps : List Point) (ns : List ℕ) (k : ℕ) → IsAmong ns k → IsAmong (put_points ps ns) k
points_keep [] ns k among = among
points_keep (p ∷ ps) ns k among = points_keep ps (put_number p.segment ns) k (put_keeps p.segment ns k among)

points_each : (ps : List Point) (ns : List ℕ) → ArePointsTo (IsAmong (put_points ps ns)) ps
points_each [] ns = tt
points_each (p ∷ ps) ns = (
  points_keep ps (put_number p.segment ns) p.segment (put_has p.segment ns),
  points_each ps (put_number p.segment ns),
)

points_wider : (P Q : ℕ → Type 0) → ((n : ℕ) → P n → Q n) → (ps : List Point) → ArePointsTo P ps → ArePointsTo Q ps
points_wider P Q more ps all = all_each (λ (p : Point). P p.segment) (λ (p : Point). Q p.segment) ps (λ p is. more p.segment is) all

level_keeps : (ts : List Table) (ns : List ℕ) (k : ℕ) → IsAmong ns k → IsAmong (led_by (map found_of ts) ns) k
level_keeps [] ns k among = among
level_keeps (t ∷ ts) ns k among =
    level_keeps ts (put_points (points_of t.entries) ns) k (points_keep (points_of t.entries) ns k among)

level_each : (ts : List Table) (ns : List ℕ)
    → AllByRecursion (λ (t : Table). ArePointsTo (IsAmong (led_by (map found_of ts) ns)) (points_of t.entries)) ts
level_each [] ns = tt
level_each (t ∷ ts) ns =
    let here = put_points (points_of t.entries) ns in (
      points_wider (IsAmong here) (IsAmong (led_by (map found_of ts) here)) (level_keeps ts here) (points_of t.entries)
          (points_each (points_of t.entries) ns),
      level_each ts here,
    )

through_keeps : (levels : List (List Table)) (ns : List ℕ) (k : ℕ) → IsAmong ns k → IsAmong (led_through (found_levels levels) ns) k
through_keeps [] ns k among = among
through_keeps (ts ∷ levels) ns k among =
    through_keeps levels (led_by (map found_of ts) ns) k (level_keeps ts ns k among)

through_each : (levels : List (List Table)) (ns : List ℕ)
    → AllByRecursion (λ (t : Table). ArePointsTo (IsAmong (led_through (found_levels levels) ns)) (points_of t.entries))
    (tables_among levels)
through_each [] ns = tt
through_each (ts ∷ levels) ns =
    let here = led_by (map found_of ts) ns in
    let all = IsAmong (led_through (found_levels levels) here) in
    all_more (λ (t : Table). ArePointsTo all (points_of t.entries)) ts (tables_among levels)
    (all_each (λ (t : Table). ArePointsTo (IsAmong here) (points_of t.entries)) (λ (t : Table). ArePointsTo all (points_of t.entries)) ts
    (λ t are. points_wider (IsAmong here) all (through_keeps levels here) (points_of t.entries) are) (level_each ts ns))
    (through_each levels here)

-- The logs that a table's footer tells are among those that all of them lead into.
pub points_led : (levels : List (List Table))
    → AllByRecursion (λ (t : Table). ArePointsTo (IsAmong (led_into (found_levels levels))) (points_of t.entries)) (tables_among levels)
points_led levels = through_each levels []

-- A table in front of level 0 leads into no more logs than its entries do.
pub led_more : (P : ℕ → Type 0) (t : Table) (level : List Table) (deeper : List (List Table)) → AreFarTo P t.entries → (n : ℕ)
    → IsAmong (led_into (found_levels ((t ∷ level) ∷ deeper))) n
    → P n ⊎ IsAmong (led_into (found_levels (level ∷ deeper))) n
led_more P t level deeper far n among =
    among_in Either (led_into (found_levels ((t ∷ level) ∷ deeper))) n
    (through_in Either ((t ∷ level) ∷ deeper) [] (
      points_wider P Either (λ m is. inl is) (points_of t.entries) (points_in P t.entries far),
      all_each (λ (u : Table). ArePointsTo before (points_of u.entries)) (λ (u : Table). ArePointsTo Either (points_of u.entries))
          (tables_among (level ∷ deeper))
          (λ u are. points_wider before Either (λ m is. inr is) (points_of u.entries) are) (points_led (level ∷ deeper)),
    ) tt)
    among
  where
    before : ℕ → Type 0
    before m = IsAmong (led_into (found_levels (level ∷ deeper))) m

    Either : ℕ → Type 0
    Either m = P m ⊎ IsAmong (led_into (found_levels (level ∷ deeper))) m

-- ---- they rise

abbrev pub AreRisingNumbers : List ℕ → Type 0
AreRisingNumbers ns = IsRising (λ (n : ℕ). n) ns

put_rises : (n : ℕ) (ns : List ℕ) → AreRisingNumbers ns → AreRisingNumbers (put_number n ns)
put_rises n [] rising = (tt, tt)
put_rises n (m ∷ ms) rising = by (nat_lt n m) (n == m) refl refl (put_rises n ms rising.1)
  where
    by : (less same : Bool) → nat_lt n m ≡ less → (n == m) ≡ same → AreRisingNumbers (put_number n ms)
        → AreRisingNumbers (if less then n ∷ m ∷ ms else (if same then m ∷ ms else m ∷ put_number n ms))
    by true same is at later =
        let below : n < m = grind (arith, nat_tests, is) in
        ((below, all_each (λ (k : ℕ). m < k) (λ (k : ℕ). n < k) ms (λ k more. omega (arith, below, more)) rising.0), rising)
    by false true is at later = rising
    by false false is at later =
        let above : m < n = grind (arith, nat_tests, is, at) in
        (number_in (λ (k : ℕ). m < k) n ms above rising.0, later)

points_rise : (ps : List Point) (ns : List ℕ) → AreRisingNumbers ns → AreRisingNumbers (put_points ps ns)
points_rise [] ns rising = rising
points_rise (p ∷ ps) ns rising = points_rise ps (put_number p.segment ns) (put_rises p.segment ns rising)

level_rises : (ts : List FoundTable) (ns : List ℕ) → AreRisingNumbers ns → AreRisingNumbers (led_by ts ns)
level_rises [] ns rising = rising
level_rises (t ∷ ts) ns rising = level_rises ts (put_points t.said.foot.points ns) (points_rise t.said.foot.points ns rising)

through_rises : (levels : List (List FoundTable)) (ns : List ℕ) → AreRisingNumbers ns → AreRisingNumbers (led_through levels ns)
through_rises [] ns rising = rising
through_rises (ts ∷ levels) ns rising = through_rises levels (led_by ts ns) (level_rises ts ns rising)

-- The logs that footers lead into rise.
pub led_rise : (levels : List (List FoundTable)) → AreRisingNumbers (led_into levels)
led_rise levels = through_rises levels [] tt
