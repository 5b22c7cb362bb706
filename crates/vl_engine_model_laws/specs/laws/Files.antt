-- Lists of files, and which of them entries and tables lead into.
use Rattle.std.proofs.Common.{◌≡◌, ◌⊎◌, inl, inr, ⊎_elim, ℕ, ◌+◌, ◌<◌, Bool, true, false, cond, ◌||◌, List, [], ◌∷◌}
use Rattle.std.proofs.Common.{◌++◌, map, refl, ap, sym, ◌∙◌, subst, arith}
use Rattle.std.proofs.lemmas.Bool.Decides.{nat_tests}
use Rattle.std.proofs.lemmas.List.Sums.{sum_by-cons}
use Rattle.std.specs.Prelude.{◌==◌, if◌then◌else◌}
use Rattle.std.specs.List.{AllByRecursion, flat_map, list_any, filter}
use Rattle.std.specs.Ordering.{nat_cmp}
use Rattle.std.specs.FinMap.{nat_cmp-IsAntisymmetric}
use Rattle.std.specs.declared.cmp.Ordering.TheVariants.{Less, Equal, Greater}
use Rattle.vl_model.specs.Entries.{by_order}
use Rattle.vl_model.specs.declared.entry.Entry.{Entry}
use Rattle.vl_model.specs.declared.entry.Body.{Body}
use Rattle.vl_model.specs.declared.entry.Body.TheVariants.{Inline, Gone, Far, Logged}
use Rattle.vl_model.specs.Cutting.{pointed, with_point, points_of}
use Rattle.vl_model.specs.declared.point.Point.{Point}
use Rattle.vl_engine_model.specs.Garbage.{pointed_bytes, live_bytes}
use Rattle.vl_engine_model.specs.Rulings.Sweep.{is_same}
use Rattle.vl_engine_model.specs.declared.file_name.FileName.{FileName}
use Rattle.vl_engine_model.specs.declared.file_name.FileName.TheVariants.{Log, Table as TableFile, Manifest}
use Rattle.vl_engine_model.specs.declared.table.Table.{Table}
use Rattle.vl_engine_model.specs.Stock.{leads, is_body_into, is_into, HasBytesAt, HasBytes, IsFooted}

pub true_false : true ≡ false → ⊥
true_false is = cc

pub or_cases : (a b : Bool) → (a || b) ≡ true → (a ≡ true) ⊎ (b ≡ true)
or_cases true b h = inl refl
or_cases false b h = inr h

pub or_right : (a b : Bool) → b ≡ true → (a || b) ≡ true
or_right true b h = refl
or_right false b h = h

pub or_left : (a b : Bool) → a ≡ true → (a || b) ≡ true
or_left a b h = ap (λ c. c || b) h

pub or_false : (a b : Bool) → (a || b) ≡ false → (a ≡ false) × (b ≡ false)
or_false true b h = absurd (true_false h)
or_false false b h = (refl, h)

pub neither : (a b : Bool) → a ≡ false → b ≡ false → (a || b) ≡ false
neither true b is h = absurd (true_false is)
neither false b is h = h

pub is_not : (b : Bool) → (b ≡ true → ⊥) → b ≡ false
is_not true never = absurd (never refl)
is_not false never = refl

module _ {X : Type 0} where
  pub any-append : (p : X → Bool) (xs ys : List X)
      → list_any p (xs ++ ys) ≡ (list_any p xs || list_any p ys)
  any-append p [] ys = refl
  any-append p (x ∷ xs) ys = ap (λ b. p x || b) (any-append p xs ys) ∙ assoc (p x) (list_any p xs) (list_any p ys)
    where
      assoc : (a b c : Bool) → (a || (b || c)) ≡ ((a || b) || c)
      assoc true b c = refl
      assoc false b c = refl

  pub all_weaker : (P Q : X → Type 0) → ((x : X) → P x → Q x) → (xs : List X)
      → AllByRecursion P xs → AllByRecursion Q xs
  all_weaker P Q weaker [] all = tt
  all_weaker P Q weaker (x ∷ xs) all = (weaker x all.0, all_weaker P Q weaker xs all.1)

  pub all_both : (P : X → Type 0) (xs ys : List X) → AllByRecursion P xs → AllByRecursion P ys
      → AllByRecursion P (xs ++ ys)
  all_both P [] ys some others = others
  all_both P (x ∷ xs) ys some others = (some.0, all_both P xs ys some.1 others)

  pub all_parts : (P : X → Type 0) (xs ys : List X) → AllByRecursion P (xs ++ ys)
      → AllByRecursion P xs × AllByRecursion P ys
  all_parts P [] ys all = (tt, all)
  all_parts P (x ∷ xs) ys all = let both = all_parts P xs ys all.1 in ((all.0, both.0), both.1)

  pub all_filtered : (P : X → Type 0) (p : X → Bool) (xs : List X) → AllByRecursion P xs
      → AllByRecursion P (filter p xs)
  all_filtered P p [] all = tt
  all_filtered P p (x ∷ xs) all = elim (p x) as (λ b. AllByRecursion P (cond b (x ∷ filter p xs) (filter p xs))) [
    | true ↦ (all.0, all_filtered P p xs all.1)
    | false ↦ all_filtered P p xs all.1
  ]

  -- what is so of all and what passes the test is so of what is left
  pub all_passed : (P Q : X → Type 0) (p : X → Bool) → ((x : X) → P x → p x ≡ true → Q x)
      → (xs : List X) → AllByRecursion P xs → AllByRecursion Q (filter p xs)
  all_passed P Q p gives [] all = tt
  all_passed P Q p gives (x ∷ xs) all = by_test (p x) refl (all_passed P Q p gives xs all.1)
    where
      by_test : (b : Bool) → p x ≡ b → AllByRecursion Q (filter p xs)
          → AllByRecursion Q (cond b (x ∷ filter p xs) (filter p xs))
      by_test true is later = (gives x all.0 is, later)
      by_test false is later = later

  -- where a test is passed, one of them passes it, of which all is so that is so of all
  pub picked : (P : X → Type 0) (p : X → Bool) (xs : List X) → AllByRecursion P xs
      → list_any p xs ≡ true → (x : X) × (p x ≡ true) × P x
  picked P p [] all h = absurd (true_false (sym h))
  picked P p (x ∷ xs) all h =
      ⊎_elim (λ (here : p x ≡ true). (x, here, all.0)) (λ (later : list_any p xs ≡ true). picked P p xs all.1 later)
      (or_cases (p x) (list_any p xs) h)

  pub everything : (xs : List X) → AllByRecursion (λ (x : X). Unit {0}) xs
  everything [] = tt
  everything (x ∷ xs) = (tt, everything xs)

  pub any_alike : (p q : X → Bool) → ((x : X) → p x ≡ true → q x ≡ true) → (xs : List X)
      → list_any p xs ≡ true → list_any q xs ≡ true
  any_alike p q gives [] there = there
  any_alike p q gives (x ∷ xs) there = ⊎_elim
      (λ (here : p x ≡ true). or_left (q x) (list_any q xs) (gives x here))
      (λ (later : list_any p xs ≡ true). or_right (q x) (list_any q xs) (any_alike p q gives xs later))
      (or_cases (p x) (list_any p xs) there)

-- for each test: where it is passed, it is passed by some of all
pub seen_by : {X Y : Type 0} (p : Y → X → Bool) (xs : List X)
    → AllByRecursion (λ (x : X). (y : Y) → p y x ≡ true → list_any (p y) xs ≡ true) xs
seen_by p [] = tt
seen_by {X} {Y} p (x ∷ xs) = (
  (λ y is. or_left (p y x) (list_any (p y) xs) is),
  all_weaker (λ (z : X). (y : Y) → p y z ≡ true → list_any (p y) xs ≡ true)
      (λ (z : X). (y : Y) → p y z ≡ true → list_any (p y) (x ∷ xs) ≡ true)
      (λ z is y at. or_right (p y x) (list_any (p y) xs) (is y at)) xs (seen_by p xs),
)

module _ {X Y : Type 0} where
  pub any-map : (p : Y → Bool) (f : X → Y) (xs : List X)
      → list_any p (map f xs) ≡ list_any (λ (x : X). p (f x)) xs
  any-map p f [] = refl
  any-map p f (x ∷ xs) = ap (λ b. p (f x) || b) (any-map p f xs)

  pub any-flat_map : (p : Y → Bool) (f : X → List Y) (xs : List X)
      → list_any p (flat_map f xs) ≡ list_any (λ (x : X). list_any p (f x)) xs
  any-flat_map p f [] = refl
  any-flat_map p f (x ∷ xs) =
      any-append p (f x) (flat_map f xs) ∙ ap (λ b. list_any p (f x) || b) (any-flat_map p f xs)

  pub all_mapped : (P : Y → Type 0) (f : X → Y) (xs : List X) → AllByRecursion (λ (x : X). P (f x)) xs
      → AllByRecursion P (map f xs)
  all_mapped P f [] all = tt
  all_mapped P f (x ∷ xs) all = (all.0, all_mapped P f xs all.1)

  pub all_unmapped : (P : Y → Type 0) (f : X → Y) (xs : List X) → AllByRecursion P (map f xs)
      → AllByRecursion (λ (x : X). P (f x)) xs
  all_unmapped P f [] all = tt
  all_unmapped P f (x ∷ xs) all = (all.0, all_unmapped P f xs all.1)

-- ---- names

pub same_file : (f g : FileName) → is_same f g ≡ true → f ≡ g
same_file (Log a) (Log b) is = let e : a ≡ b = grind (arith, nat_tests, is) in ap Log e
same_file (Log a) (TableFile b) is = absurd (true_false (sym is))
same_file (Log a) (Manifest b) is = absurd (true_false (sym is))
same_file (TableFile a) (Log b) is = absurd (true_false (sym is))
same_file (TableFile a) (TableFile b) is = let e : a ≡ b = grind (arith, nat_tests, is) in ap TableFile e
same_file (TableFile a) (Manifest b) is = absurd (true_false (sym is))
same_file (Manifest a) (Log b) is = absurd (true_false (sym is))
same_file (Manifest a) (TableFile b) is = absurd (true_false (sym is))
same_file (Manifest a) (Manifest b) is = let e : a ≡ b = grind (arith, nat_tests, is) in ap Manifest e

pub itself : (f : FileName) → is_same f f ≡ true
itself (Log a) = grind (arith, nat_tests)
itself (TableFile a) = grind (arith, nat_tests)
itself (Manifest a) = grind (arith, nat_tests)

-- ---- points

module _ (segment : ℕ) where
  or_twice : (a b c : Bool) → a ≡ b → (b || c) ≡ (a || (b || c))
  or_twice true b c is = ap (λ x. x || c) (sym is)
  or_twice false b c is = refl

  or_swap : (a b c : Bool) → (b || (a || c)) ≡ (a || (b || c))
  or_swap true true c = refl
  or_swap true false c = refl
  or_swap false true c = refl
  or_swap false false c = refl

  leads-pointed : (to bytes : ℕ) (ps : List Point)
      → leads segment (pointed to bytes ps) ≡ ((segment == to) || leads segment ps)
  leads-pointed to bytes [] = refl
  leads-pointed to bytes (p ∷ ps) =
      elim (nat_cmp to p.segment) as (λ r. nat_cmp to p.segment ≡ r
      → leads segment (by_order r (record { segment = to; bytes = bytes } ∷ p ∷ ps)
      (record { segment = p.segment; bytes = p.bytes + bytes } ∷ ps) (p ∷ pointed to bytes ps)) ≡
      ((segment == to) || ((segment == p.segment) || leads segment ps))) [
        | Less ↦ λ is. refl
        | Equal ↦ λ is. or_twice (segment == to) (segment == p.segment) (leads segment ps)
            (ap (λ (n : ℕ). segment == n) (nat_cmp-IsAntisymmetric to p.segment is))
        | Greater ↦ λ is. ap (λ b. (segment == p.segment) || b) (leads-pointed to bytes ps)
            ∙ or_swap (segment == to) (segment == p.segment) (leads segment ps)
      ] refl

  leads-with : (body : Body) (ps : List Point)
      → leads segment (with_point body ps) ≡ (is_body_into segment body || leads segment ps)
  leads-with (Inline value) ps = refl
  leads-with Gone ps = refl
  leads-with (Far pointer) ps = leads-pointed pointer.segment pointer.length ps
  leads-with (Logged value pointer) ps = refl

  -- points lead where entries lead
  pub leads-points : (es : List Entry) → leads segment (points_of es) ≡ list_any (is_into segment) es
  leads-points [] = refl
  leads-points (e ∷ es) = leads-with e.body (points_of es) ∙ ap (λ b. is_into segment e || b) (leads-points es)

-- each point has some bytes
abbrev pub HasSome : Point → Type 0
HasSome p = 0 < p.bytes

some_pointed : (to bytes : ℕ) (ps : List Point) → 0 < bytes → AllByRecursion HasSome ps
    → AllByRecursion HasSome (pointed to bytes ps)
some_pointed to bytes [] some all = (some, tt)
some_pointed to bytes (p ∷ ps) some all =
    elim (nat_cmp to p.segment) as
    (λ r. AllByRecursion HasSome
    (by_order r (record { segment = to; bytes = bytes } ∷ p ∷ ps)
    (record { segment = p.segment; bytes = p.bytes + bytes } ∷ ps) (p ∷ pointed to bytes ps))) [
      | Less ↦ (some, all)
      | Equal ↦ ((let one = all.0 in omega (arith, some, one)), all.1)
      | Greater ↦ (all.0, some_pointed to bytes ps some all.1)
    ]

some_with : (body : Body) (ps : List Point) → HasBytesAt body → AllByRecursion HasSome ps
    → AllByRecursion HasSome (with_point body ps)
some_with (Inline value) ps has all = all
some_with Gone ps has all = all
some_with (Far pointer) ps has all = some_pointed pointer.segment pointer.length ps has all
some_with (Logged value pointer) ps has all = all

pub some_points : (es : List Entry) → AllByRecursion HasBytes es → AllByRecursion HasSome (points_of es)
some_points [] all = tt
some_points (e ∷ es) all = some_with e.body (points_of es) all.0 (some_points es all.1)

-- ---- nothing live

module _ (segment : ℕ) where
  none_pointed : (ps : List Point) → AllByRecursion HasSome ps → pointed_bytes segment ps ≡ 0
      → leads segment ps ≡ false
  none_pointed [] some none = refl
  none_pointed (p ∷ ps) some none =
      let all : (if p.segment == segment then p.bytes else 0) + pointed_bytes segment ps ≡ 0 =
      sym (sum_by-cons (λ (q : Point). if q.segment == segment then q.bytes else 0) p ps) ∙ none in
      let later : pointed_bytes segment ps ≡ 0 = omega (arith, all) in
      let here : (if p.segment == segment then p.bytes else 0) ≡ 0 = omega (arith, all) in
      neither (segment == p.segment) (leads segment ps) (by_test (p.segment == segment) refl here) (none_pointed ps some.1 later)
    where
      by_test : (b : Bool) → (p.segment == segment) ≡ b → (if b then p.bytes else 0) ≡ 0
          → (segment == p.segment) ≡ false
      by_test true is none = absurd (let one = some.0 in omega (arith, none, one))
      by_test false is none = grind (arith, nat_tests)

  -- where nothing is live of a segment no table leads into it
  pub none_live : (ts : List Table) → AllByRecursion IsFooted ts → live_bytes ts segment ≡ 0
      → list_any (λ (t : Table). leads segment t.points) ts ≡ false
  none_live [] footed none = refl
  none_live (t ∷ ts) footed none =
      let all : pointed_bytes segment t.points + live_bytes ts segment ≡ 0 =
      sym (sum_by-cons (λ (u : Table). pointed_bytes segment u.points) t ts) ∙ none in
      let later : live_bytes ts segment ≡ 0 = omega (arith, all) in
      let here : pointed_bytes segment t.points ≡ 0 = omega (arith, all) in
      neither (leads segment t.points) (list_any (λ (u : Table). leads segment u.points) ts)
      (none_pointed t.points (subst (AllByRecursion HasSome) (sym footed.0.points) (some_points t.entries footed.0.bytes)) here)
      (none_live ts footed.1 later)
