-- What is left of the files in use where logs or tables are retired, and what waits then.
use Rattle.std.proofs.Common.{◌≡◌, ℕ, Bool, true, false, cond, not, ◌&&◌, ◌||◌, List, [], ◌∷◌, ◌++◌, map}
use Rattle.std.proofs.Common.{refl, ap, sym, ◌∙◌, subst, arith, append_assoc}
use Rattle.std.proofs.lemmas.Bool.Decides.{nat_tests}
use Rattle.std.specs.Prelude.{◌==◌}
use Rattle.std.specs.List.{AllByRecursion, filter}
use Rattle.vl_disk.specs.declared.name.Name.{Name}
use Rattle.vl_disk.specs.declared.name.Name.TheVariants as names
use Rattle.vl_space.specs.laws.Retired.Changing.{filter_both, nothing_behind}
use Rattle.vl_space.specs.laws.Tallying.{AreUp, has_above}
use Rattle.vl_space.specs.Retiring.{retiring}
use Rattle.vl_engine_model.specs.Jobs.{AreDistinct}
use Rattle.vl_model.specs.Numbers.{has}
use Rattle.vl_pins.specs.Files.{Kept, gone_at, log_retired, logs_retired, put_if, table_retired, tables_retired}
use Rattle.vl_pins.specs.InUse.{but}
use Rattle.vl_pins.specs.declared.retired_file.RetiredFile.{RetiredFile}

-- ---- numbers

either : (a b : Bool) → (a || b) ≡ false → (a ≡ false) × (b ≡ false)
either true b is = absurd (let no : true ≡ false = is in cc)
either false b is = (refl, is)

pub all_weaker : {X : Type 0} (P Q : X → Type 0) → ((x : X) → P x → Q x) → (xs : List X) → AllByRecursion P xs → AllByRecursion Q xs
all_weaker P Q gives [] all = tt
all_weaker P Q gives (x ∷ xs) all = (gives x all.0, all_weaker P Q gives xs all.1)

pub filter_alike : {X : Type 0} (p q : X → Bool) (xs : List X) → AllByRecursion (λ (x : X). p x ≡ q x) xs → filter p xs ≡ filter q xs
filter_alike p q [] same = refl
filter_alike p q (x ∷ xs) same =
    ap (λ b. cond b (x ∷ filter p xs) (filter p xs)) same.0 ∙ ap (λ ys. cond (q x) (x ∷ ys) ys) (filter_alike p q xs same.1)

pub each : {X : Type 0} (P : X → Type 0) → ((x : X) → P x) → (xs : List X) → AllByRecursion P xs
each P is [] = tt
each P is (x ∷ xs) = (is x, each P is xs)

-- one test behind another
pub filter_twice : (p q r : ℕ → Bool) → ((n : ℕ) → r n ≡ (p n && q n)) → (ns : List ℕ) → filter q (filter p ns) ≡ filter r ns
filter_twice p q r same [] = refl
filter_twice p q r same (n ∷ ns) =
    by (p n) (filter_twice p q r same ns) ∙ ap (λ b. cond b (n ∷ filter r ns) (filter r ns)) (sym (same n))
  where
    by : (b : Bool) → filter q (filter p ns) ≡ filter r ns
        → filter q (cond b (n ∷ filter p ns) (filter p ns)) ≡ cond (b && q n) (n ∷ filter r ns) (filter r ns)
    by true later = ap (λ xs. cond (q n) (n ∷ xs) xs) later
    by false later = later

pub same_either_way : (a b : ℕ) → (a == b) ≡ (b == a)
same_either_way a b = by (a == b) (b == a) refl refl
  where
    by : (x y : Bool) → (a == b) ≡ x → (b == a) ≡ y → x ≡ y
    by true true is other = refl
    by false false is other = refl
    by true false is other = absurd (let e : a ≡ b = grind (arith, nat_tests, is) in
        let no : (b == a) ≡ true = grind (arith, nat_tests, e) in let f : true ≡ false = sym no ∙ other in cc)
    by false true is other = absurd (let e : b ≡ a = grind (arith, nat_tests, other) in
        let no : (a == b) ≡ true = grind (arith, nat_tests, e) in let f : true ≡ false = sym no ∙ is in cc)

-- a number is among others that pass a test where it is among them and passes it
pub has_filtered : (p : ℕ → Bool) (n : ℕ) (ns : List ℕ) → has n (filter p ns) ≡ (has n ns && p n)
has_filtered p n [] = refl
has_filtered p n (m ∷ ns) = by (p m) (m == n) refl refl (has_filtered p n ns)
  where
    and_false : (b : Bool) → (b && false) ≡ false
    and_false true = refl
    and_false false = refl

    by : (a b : Bool) → p m ≡ a → (m == n) ≡ b → has n (filter p ns) ≡ (has n ns && p n)
        → has n (cond a (m ∷ filter p ns) (filter p ns)) ≡ ((b || has n ns) && p n)
    by true true passes is later =
        let e : m ≡ n = grind (arith, nat_tests, is) in
        ap (λ c. c || has n (filter p ns)) is ∙ sym (ap p (sym e) ∙ passes)
    by true false passes is later = ap (λ c. c || has n (filter p ns)) is ∙ later
    by false true passes is later =
        let e : m ≡ n = grind (arith, nat_tests, is) in
        let fails : p n ≡ false = ap p (sym e) ∙ passes in
        later ∙ ap (λ c. has n ns && c) fails ∙ and_false (has n ns) ∙ sym fails
    by false false passes is later = later

-- each of some is among them
pub all_there : (ns : List ℕ) → AllByRecursion (λ (n : ℕ). has n ns ≡ true) ns
all_there [] = tt
all_there (n ∷ ns) = (
  (let same : (n == n) ≡ true = grind (arith, nat_tests) in ap (λ b. b || has n ns) same),
  all_weaker (λ m. has m ns ≡ true) (λ m. has m (n ∷ ns) ≡ true)
      (λ m is. ap (λ b. (n == m) || b) is ∙ or_true (n == m)) ns (all_there ns),
)
  where
    or_true : (b : Bool) → (b || true) ≡ true
    or_true true = refl
    or_true false = refl

-- where another number is taken out it is still there
pub still_there : (n m : ℕ) (ns : List ℕ) → (n == m) ≡ false → has m ns ≡ true → has m (but n ns) ≡ true
still_there n m ns other is =
    has_filtered (λ (k : ℕ). not (k == n)) m ns
    ∙ ap (λ b. b && not (m == n)) is ∙ ap not (same_either_way m n ∙ other)

-- so with each of some
all_still : (n : ℕ) (ks ns : List ℕ) → has n ks ≡ false → AllByRecursion (λ (k : ℕ). has k ns ≡ true) ks
    → AllByRecursion (λ (k : ℕ). has k (but n ns) ≡ true) ks
all_still n [] ns none all = tt
all_still n (k ∷ ks) ns none all =
    let parts = either (k == n) (has n ks) none in
    (still_there n k ns (same_either_way n k ∙ parts.0) all.0, all_still n ks ns parts.1 all.1)

-- numbers that rise are distinct
pub up_distinct : (ns : List ℕ) → AreUp ns → AreDistinct ns
up_distinct [] up = tt
up_distinct (n ∷ ns) up = (by (has n ns) refl, up_distinct ns up.1)
  where
    by : (b : Bool) → has n ns ≡ b → b ≡ false
    by true is = absurd (let less = has_above n n ns up.0 is in omega (arith, less))
    by false is = refl

pub distinct_filtered : (p : ℕ → Bool) (ns : List ℕ) → AreDistinct ns → AreDistinct (filter p ns)
distinct_filtered p [] distinct = tt
distinct_filtered p (n ∷ ns) distinct = by (p n) (distinct_filtered p ns distinct.1)
  where
    by : (b : Bool) → AreDistinct (filter p ns) → AreDistinct (cond b (n ∷ filter p ns) (filter p ns))
    by true later = (has_filtered p n ns ∙ ap (λ c. c && p n) distinct.0, later)
    by false later = later

-- ---- where several are retired

module _ {L : Type 0} (version : ℕ) where
  put_one : (was : Bool) (name : Name) (trash : List (RetiredFile L)) → was ≡ true
      → put_if was version name trash ≡ trash ++ gone_at version name ∷ []
  put_one was name trash is = ap (λ (b : Bool). cond b (trash ++ gone_at version name ∷ []) trash) is

  -- the logs, as files that are retired
  abbrev pub gone_logs : List ℕ → List (RetiredFile L)
  gone_logs ns = map (λ (n : ℕ). gone_at version (names.Log n)) ns

  abbrev pub gone_tables : List ℕ → List (RetiredFile L)
  gone_tables ns = map (λ (n : ℕ). gone_at version (names.Table n)) ns

  pub logs_left : (ns : List ℕ) (kept : Kept L)
      → (logs_retired version ns kept).logs ≡ filter (λ (m : ℕ). not (has m ns)) kept.logs
  logs_left [] kept = sym (all kept.logs)
    where
      all : (ms : List ℕ) → filter (λ (m : ℕ). true) ms ≡ ms
      all [] = refl
      all (m ∷ ms) = ap (λ xs. m ∷ xs) (all ms)
  logs_left (n ∷ ns) kept =
      logs_left ns (log_retired version n kept)
      ∙ filter_twice (λ (m : ℕ). not (m == n)) (λ (m : ℕ). not (has m ns)) (λ (m : ℕ). not ((n == m) || has m ns))
      (λ m. ap (λ b. not (b || has m ns)) (same_either_way n m) ∙ morgan (m == n) (has m ns)) kept.logs
    where
      morgan : (a b : Bool) → not (a || b) ≡ (not a && not b)
      morgan true b = refl
      morgan false b = refl

  pub logs_tables : (ns : List ℕ) (kept : Kept L) → (logs_retired version ns kept).tables ≡ kept.tables
  logs_tables [] kept = refl
  logs_tables (n ∷ ns) kept = logs_tables ns (log_retired version n kept)

  pub logs_wait : (ns : List ℕ) (kept : Kept L) → AreDistinct ns → AllByRecursion (λ (n : ℕ). has n kept.logs ≡ true) ns
      → (logs_retired version ns kept).trash ≡ kept.trash ++ gone_logs ns
  logs_wait [] kept distinct there = sym (nothing_behind kept.trash)
  logs_wait (n ∷ ns) kept distinct there =
      logs_wait ns (log_retired version n kept) distinct.1 (all_still n ns kept.logs distinct.0 there.1)
      ∙ ap (λ t. t ++ gone_logs ns) (put_one (has n kept.logs) (names.Log n) kept.trash there.0)
      ∙ append_assoc kept.trash (gone_at version (names.Log n) ∷ []) (gone_logs ns)

  -- ---- tables

  pub tables_left : (ns : List ℕ) (kept : Kept L)
      → (tables_retired version ns kept).tables ≡ filter (λ (m : ℕ). not (has m ns)) kept.tables
  tables_left [] kept = sym (all kept.tables)
    where
      all : (ms : List ℕ) → filter (λ (m : ℕ). true) ms ≡ ms
      all [] = refl
      all (m ∷ ms) = ap (λ xs. m ∷ xs) (all ms)
  tables_left (n ∷ ns) kept =
      tables_left ns (table_retired version n kept)
      ∙ filter_twice (λ (m : ℕ). not (m == n)) (λ (m : ℕ). not (has m ns)) (λ (m : ℕ). not ((n == m) || has m ns))
      (λ m. ap (λ b. not (b || has m ns)) (same_either_way n m) ∙ morgan (m == n) (has m ns)) kept.tables
    where
      morgan : (a b : Bool) → not (a || b) ≡ (not a && not b)
      morgan true b = refl
      morgan false b = refl

  pub tables_logs : (ns : List ℕ) (kept : Kept L) → (tables_retired version ns kept).logs ≡ kept.logs
  tables_logs [] kept = refl
  tables_logs (n ∷ ns) kept = tables_logs ns (table_retired version n kept)

  pub tables_wait : (ns : List ℕ) (kept : Kept L) → AreDistinct ns → AllByRecursion (λ (n : ℕ). has n kept.tables ≡ true) ns
      → (tables_retired version ns kept).trash ≡ kept.trash ++ gone_tables ns
  tables_wait [] kept distinct there = sym (nothing_behind kept.trash)
  tables_wait (n ∷ ns) kept distinct there =
      tables_wait ns (table_retired version n kept) distinct.1 (all_still n ns kept.tables distinct.0 there.1)
      ∙ ap (λ t. t ++ gone_tables ns) (put_one (has n kept.tables) (names.Table n) kept.trash there.0)
      ∙ append_assoc kept.trash (gone_at version (names.Table n) ∷ []) (gone_tables ns)

  -- ---- the idle logs

  module _ (idle : ℕ → Bool) (kept : Kept L) where
    -- those that aren't idle are left
    pub retiring_logs : (retiring version idle kept).logs ≡ filter (λ (n : ℕ). not (idle n)) kept.logs
    retiring_logs =
        logs_left (filter idle kept.logs) kept
        ∙ filter_alike (λ (m : ℕ). not (has m (filter idle kept.logs))) (λ (n : ℕ). not (idle n)) kept.logs
        (all_weaker (λ m. has m kept.logs ≡ true) (λ m. not (has m (filter idle kept.logs)) ≡ not (idle m))
        (λ m is. ap not (has_filtered idle m kept.logs ∙ ap (λ b. b && idle m) is)) kept.logs (all_there kept.logs))

    pub retiring_tables : (retiring version idle kept).tables ≡ kept.tables
    retiring_tables = logs_tables (filter idle kept.logs) kept

    -- and the others wait
    pub retiring_wait : AreDistinct kept.logs → (retiring version idle kept).trash ≡ kept.trash ++ gone_logs (filter idle kept.logs)
    retiring_wait distinct =
        logs_wait (filter idle kept.logs) kept (distinct_filtered idle kept.logs distinct)
        (passing idle kept.logs kept.logs (all_there kept.logs))
      where
        passing : (p : ℕ → Bool) (ms ns : List ℕ) → AllByRecursion (λ (n : ℕ). has n ns ≡ true) ms
            → AllByRecursion (λ (n : ℕ). has n ns ≡ true) (filter p ms)
        passing p [] ns all = tt
        passing p (m ∷ ms) ns all = by (p m) (passing p ms ns all.1)
          where
            by : (b : Bool) → AllByRecursion (λ (n : ℕ). has n ns ≡ true) (filter p ms)
                → AllByRecursion (λ (n : ℕ). has n ns ≡ true) (cond b (m ∷ filter p ms) (filter p ms))
            by true later = (all.0, later)
            by false later = later
