-- A history as plain lists has the values, contents, versions and conflicts of the history that it is.
use Rattle.std.proofs.Common.{◌≡◌, ℕ, zero, suc, ◌+◌, ◌-◌, ◌≤◌, ◌<◌, Bool, true, false, cond, not, List, [], ◌∷◌}
use Rattle.std.proofs.Common.{◌++◌, map, take, refl, ap, sym, ◌∙◌, arith}
use Rattle.std.proofs.lemmas.Bool.{false≢true}
use Rattle.std.proofs.lemmas.Bool.Decides.{nat_tests}
use Rattle.std.specs.Prelude.{T, min, nat_le, is_some, Option, Some, None, ◌&&◌}
use Rattle.std.specs.declared.cmp.Ordering.TheVariants.{Equal}
use Rattle.std.specs.Cmp.Lexicographic.{nat_list_cmp_total}
use Rattle.std.specs.List.{AllByRecursion, filter}
use Rattle.std.specs.Ordering.{eq_by_cmp, is_eq, nat_cmp}
use Rattle.std.specs.FinMap.{entries, entries_sorted, find, from_sorted, get, get-entries, get-from_sorted, entries-from_sorted}
use Rattle.std.specs.FinMap.Entries.{is_sorted, is_sorted-put, is_sorted-where_key, find-put, find-where_key, same_entries}
use Rattle.vl_model.specs.Conflicts.{named_from, is_overwritten, first_of, first_conflict}
use Rattle.vl_model.specs.History.{contents_at, commits_up_to, known_up_to, last_change, newer, value_at, value_left}
use Rattle.vl_model.specs.Keys.{Row, Writes, key_cmp}
use Rattle.vl_model.specs.Reads.{Read, rows_written}
use Rattle.vl_model.specs.declared.change.Change.{Change}
use Rattle.vl_model.specs.declared.change.Change.TheVariants.{Set, Delete}
use Rattle.vl_model.specs.Numbers.{low_of}
use Rattle.vl_model.specs.Versions.{naming, versions, low, numbered}
use Rattle.vl_model.specs.laws.HistoryLaws.{get-contents_at, value_left-newer}
use Rattle.vl_model.specs.laws.WinnerLaws.{key_exact, key_tied, same_key}
use Rattle.vl_engine_model.specs.Store.Commits.{Changes, Commits, history_in, numbered_changes, changes_up_to, last_in}
use Rattle.vl_engine_model.specs.Store.Commits.{value_in, rows_after, rows_in, conflict_in, known_versions, low_in}
use Rattle.vl_engine_model.specs.Store.Commits.{AreProper}

first_part : (a b : Bool) → T (a && b) → T a
first_part true b both = tt
first_part false b both = absurd both

second_part : (a b : Bool) → T (a && b) → T b
second_part true b both = both
second_part false b both = absurd both

-- ---- as maps

as_map : ℕ × Changes → ℕ × Writes
as_map c = (c.0, from_sorted c.1)

module _ (p : Commits) (proper : AreProper p) where
  -- ---- conflicts

  entries_are : (cs : List Changes) → AllByRecursion (λ (c : Changes). T (is_sorted key_cmp c)) cs
      → map entries (map (λ (c : Changes). from_sorted {R = key_cmp} c) cs) ≡ cs
  entries_are [] all = refl
  entries_are (c ∷ cs) all =
      ap (λ (x : Changes). x ∷ map entries (map (λ (d : Changes). from_sorted {R = key_cmp} d) cs)) (entries-from_sorted key_cmp c all.0)
      ∙ ap (λ (xs : List Changes). c ∷ xs) (entries_are cs all.1)

  pub conflict_in-is : (n : ℕ) (reads : List Read) → conflict_in p n reads ≡ first_conflict (history_in p) n reads
  conflict_in-is n reads =
      ap (λ (cs : List Changes). first_of (filter (is_overwritten n reads) (named_from (p.first + 1) cs [])))
      (sym (entries_are p.commits proper.commits))

-- ---- values

last_in-append : (cs ds : List (ℕ × Changes)) (key : List ℕ) → last_in (cs ++ ds) key ≡ newer (last_in cs key) (last_in ds key)
last_in-append [] ds key = none_first (last_in ds key)
  where
    none_first : (o : Option Change) → o ≡ newer None o
    none_first None = refl
    none_first (Some c) = refl
last_in-append (c ∷ cs) ds key = ap (newer (find key_cmp key c.1)) (last_in-append cs ds key)
    ∙ assoc (find key_cmp key c.1) (last_in cs key) (last_in ds key)
  where
    assoc : (a b d : Option Change) → newer a (newer b d) ≡ newer (newer a b) d
    assoc a b None = refl
    assoc a b (Some x) = refl

filter-append : {X : Type 0} (q : X → Bool) (xs ys : List X) → filter q (xs ++ ys) ≡ filter q xs ++ filter q ys
filter-append q [] ys = refl
filter-append q (x ∷ xs) ys = elim (q x) as
    (λ b. cond b (x ∷ filter q (xs ++ ys)) (filter q (xs ++ ys)) ≡ cond b (x ∷ filter q xs) (filter q xs) ++ filter q ys) [
      | true ↦ ap (λ zs. x ∷ zs) (filter-append q xs ys)
      | false ↦ filter-append q xs ys
    ]

-- of two bounds the lesser counts
filter-twice : (m n : ℕ) (cs : List (ℕ × Changes))
    → filter (λ (c : ℕ × Changes). nat_le c.0 n) (filter (λ (c : ℕ × Changes). nat_le c.0 m) cs) ≡ filter
    (λ (c : ℕ × Changes). nat_le c.0 (min n m)) cs
filter-twice m n [] = refl
filter-twice m n (c ∷ cs) = by_tests (nat_le c.0 m) (nat_le c.0 n) refl refl (filter-twice m n cs)
  where
    by_tests : (a b : Bool) → nat_le c.0 m ≡ a → nat_le c.0 n ≡ b
        → filter (λ (d : ℕ × Changes). nat_le d.0 n) (filter (λ (d : ℕ × Changes). nat_le d.0 m) cs) ≡ filter
        (λ (d : ℕ × Changes). nat_le d.0 (min n m)) cs
        → filter (λ (d : ℕ × Changes). nat_le d.0 n)
        (cond a (c ∷ filter (λ (d : ℕ × Changes). nat_le d.0 m) cs) (filter (λ (d : ℕ × Changes). nat_le d.0 m) cs)) ≡
        filter (λ (d : ℕ × Changes). nat_le d.0 (min n m)) (c ∷ cs)
    by_tests true true is_m is_n later =
        let both : nat_le c.0 (min n m) ≡ true = let low : c.0 ≤ m = grind (arith, nat_tests, is_m) in let less : c.0
        ≤ n = grind (arith, nat_tests, is_n) in at_most c.0 (min n m) (omega (arith, low, less)) in
        ap (λ b. cond b (c ∷ filter (λ (d : ℕ × Changes). nat_le d.0 n) (filter (λ (d : ℕ × Changes). nat_le d.0 m) cs))
        (filter (λ (d : ℕ × Changes). nat_le d.0 n) (filter (λ (d : ℕ × Changes). nat_le d.0 m) cs))) is_n
        ∙ ap (λ xs. c ∷ xs) later
        ∙ sym (ap (λ b. cond b (c ∷ filter (λ (d : ℕ × Changes). nat_le d.0 (min n m)) cs)
        (filter (λ (d : ℕ × Changes). nat_le d.0 (min n m)) cs)) both)
      where
        at_most : (x y : ℕ) → x ≤ y → nat_le x y ≡ true
        at_most x y le = grind (arith, nat_tests)
    by_tests true false is_m is_n later =
        let neither : nat_le c.0 (min n m) ≡ false = let more : n < c.0 = grind (arith, nat_tests, is_n) in above c.0
        (min n m) (omega (arith, more)) in
        ap (λ b. cond b (c ∷ filter (λ (d : ℕ × Changes). nat_le d.0 n) (filter (λ (d : ℕ × Changes). nat_le d.0 m) cs))
        (filter (λ (d : ℕ × Changes). nat_le d.0 n) (filter (λ (d : ℕ × Changes). nat_le d.0 m) cs))) is_n
        ∙ later
        ∙ sym (ap (λ b. cond b (c ∷ filter (λ (d : ℕ × Changes). nat_le d.0 (min n m)) cs)
        (filter (λ (d : ℕ × Changes). nat_le d.0 (min n m)) cs)) neither)
      where
        above : (x y : ℕ) → y < x → nat_le x y ≡ false
        above x y less = grind (arith, nat_tests)
    by_tests false b is_m is_n later =
        let neither : nat_le c.0 (min n m) ≡ false = let more : m < c.0 = grind (arith, nat_tests, is_m) in above c.0
        (min n m) (omega (arith, more)) in
        later ∙ sym (ap (λ b. cond b (c ∷ filter (λ (d : ℕ × Changes). nat_le d.0 (min n m)) cs)
        (filter (λ (d : ℕ × Changes). nat_le d.0 (min n m)) cs)) neither)
      where
        above : (x y : ℕ) → y < x → nat_le x y ≡ false
        above x y less = grind (arith, nat_tests)

module _ (key : List ℕ) where
  -- the last that is known of a base is that of its map
  known : (n : ℕ) (cs : List (ℕ × Changes)) → AllByRecursion (λ (c : ℕ × Changes). T (is_sorted key_cmp c.1)) cs
      → last_in (filter (λ (c : ℕ × Changes). nat_le c.0 n) cs) key
      ≡ last_change (map (λ (c : ℕ × Writes). c.1)
      (filter (λ (c : ℕ × Writes). nat_le c.0 n) (map (λ (c : ℕ × Changes). (c.0, from_sorted c.1)) cs))) key
  known n [] all = refl
  known n (c ∷ cs) all = by_test (nat_le c.0 n) (known n cs all.1)
    where
      by_test : (b : Bool) → last_in (filter (λ (d : ℕ × Changes). nat_le d.0 n) cs) key
          ≡ last_change (map (λ (d : ℕ × Writes). d.1)
          (filter (λ (d : ℕ × Writes). nat_le d.0 n) (map (λ (d : ℕ × Changes). (d.0, from_sorted d.1)) cs))) key
          → last_in (cond b (c ∷ filter (λ (d : ℕ × Changes). nat_le d.0 n) cs) (filter (λ (d : ℕ × Changes). nat_le d.0 n) cs)) key
          ≡ last_change (map (λ (d : ℕ × Writes). d.1)
          (cond b ((c.0, from_sorted c.1) ∷ filter (λ (d : ℕ × Writes). nat_le d.0 n)
          (map (λ (d : ℕ × Changes). (d.0, from_sorted d.1)) cs))
          (filter (λ (d : ℕ × Writes). nat_le d.0 n) (map (λ (d : ℕ × Changes). (d.0, from_sorted d.1)) cs)))) key
      by_test true later = ap (λ o. newer o (last_in (filter (λ (d : ℕ × Changes). nat_le d.0 n) cs) key))
          (sym (get-from_sorted key_cmp c.1 key all.0)) ∙ ap (newer (get (from_sorted c.1) key)) later
      by_test false later = later

  -- and the last of the commits up to a number
  made : (n m : ℕ) (cs : List Changes) → AllByRecursion (λ (c : Changes). T (is_sorted key_cmp c)) cs
      → last_in (filter (λ (c : ℕ × Changes). nat_le c.0 n) (numbered_changes m cs)) key ≡ last_change
      (take ((n + 1) - m) (map from_sorted cs)) key
  made n m [] all = sym (nothing ((n + 1) - m))
    where
      nothing : (k : ℕ) → last_change (take k []) key ≡ None
      nothing zero = refl
      nothing (suc k) = refl
  made n m (c ∷ cs) all = by_test (nat_le m n) refl (made n (m + 1) cs all.1)
    where
      none_above : (k : ℕ) (ds : List Changes) → n < k
          → last_in (filter (λ (d : ℕ × Changes). nat_le d.0 n) (numbered_changes k ds)) key ≡ None
      none_above k [] less = refl
      none_above k (d ∷ ds) less =
          let no_more : nat_le k n ≡ false = grind (arith, nat_tests) in
          ap (λ b. last_in (cond b ((k, d) ∷ filter (λ (x : ℕ × Changes). nat_le x.0 n) (numbered_changes (k + 1) ds))
          (filter (λ (x : ℕ × Changes). nat_le x.0 n) (numbered_changes (k + 1) ds))) key) no_more
          ∙ none_above (k + 1) ds (omega (arith, less))

      by_test : (b : Bool) → nat_le m n ≡ b
          → last_in (filter (λ (d : ℕ × Changes). nat_le d.0 n) (numbered_changes (m + 1) cs)) key ≡ last_change
          (take ((n + 1) - (m + 1)) (map from_sorted cs)) key
          → last_in (cond b ((m, c) ∷ filter (λ (d : ℕ × Changes). nat_le d.0 n) (numbered_changes (m + 1) cs))
          (filter (λ (d : ℕ × Changes). nat_le d.0 n) (numbered_changes (m + 1) cs))) key ≡ last_change
          (take ((n + 1) - m) (from_sorted c ∷ map from_sorted cs)) key
      by_test true is later =
          let one_more : (n + 1) - m ≡ suc ((n + 1) - (m + 1)) = let le : m ≤ n = grind (arith, nat_tests) in omega (arith, le) in
          ap (λ o. newer o (last_in (filter (λ (d : ℕ × Changes). nat_le d.0 n) (numbered_changes (m + 1) cs)) key))
          (sym (get-from_sorted key_cmp c key all.0))
          ∙ ap (newer (get (from_sorted c) key)) later
          ∙ sym (ap (λ k. last_change (take k (from_sorted c ∷ map from_sorted cs)) key) one_more)
      by_test false is later =
          let less : n < m = grind (arith, nat_tests) in
          let none : (n + 1) - m ≡ 0 = omega (arith, less) in
          none_above (m + 1) cs (omega (arith, less)) ∙ sym (ap (λ k. last_change (take k (from_sorted c ∷ map from_sorted cs)) key) none)

module _ (p : Commits) (proper : AreProper p) where
  last_up_to : (n : ℕ) (key : List ℕ)
      → last_in (changes_up_to p n) key ≡ newer (last_change (known_up_to (min n p.first) (history_in p).base) key)
      (last_change (commits_up_to (history_in p) n) key)
  last_up_to n key =
      ap (λ (cs : List (ℕ × Changes)). last_in cs key)
      (filter-append (λ (c : ℕ × Changes). nat_le c.0 n) (filter (λ (c : ℕ × Changes). nat_le c.0 p.first) p.base)
      (numbered_changes (p.first + 1) p.commits))
      ∙ last_in-append (filter (λ (c : ℕ × Changes). nat_le c.0 n)
      (filter (λ (c : ℕ × Changes). nat_le c.0 p.first) p.base))
      (filter (λ (c : ℕ × Changes). nat_le c.0 n) (numbered_changes (p.first + 1) p.commits)) key
      ∙ ap (λ (cs : List (ℕ × Changes)). newer (last_in cs key)
      (last_in (filter (λ (c : ℕ × Changes). nat_le c.0 n) (numbered_changes (p.first + 1) p.commits)) key))
      (filter-twice p.first n p.base)
      ∙ ap (λ o. newer o (last_in (filter (λ (c : ℕ × Changes). nat_le c.0 n) (numbered_changes (p.first + 1) p.commits)) key))
      (known key (min n p.first) p.base proper.base
      ∙ sym (ap (λ (cs : List (ℕ × Writes)). last_change
      (map (λ (c : ℕ × Writes). c.1) (filter (λ (c : ℕ × Writes). nat_le c.0 (min n p.first)) cs)) key)
      (entries-from_sorted nat_cmp (map (λ (c : ℕ × Changes). (c.0, from_sorted c.1)) p.base) proper.numbers)))
      ∙ ap (newer (last_change (known_up_to (min n p.first) (history_in p).base) key))
      (made key n (p.first + 1) p.commits proper.commits ∙ ap (λ k. last_change (take k (map from_sorted p.commits)) key) (omega arith))

  pub value_in-is : (n : ℕ) (key : List ℕ) → value_in p n key ≡ value_at (history_in p) n key
  value_in-is n key =
      ap (value_left None) (last_up_to n key)
      ∙ sym (value_left-newer None (last_change (known_up_to (min n p.first) (history_in p).base) key)
      (last_change (commits_up_to (history_in p) n) key))

-- ---- contents

tie_alike : (f : List ℕ → Bool) (q x : List ℕ) → key_cmp q x ≡ Equal → f x ≡ f q
tie_alike f q x tied = ap f (sym (key_exact q x tied))

sorted_written : (ws : Changes) (rows : List Row) → T (is_sorted key_cmp rows) → T (is_sorted key_cmp (rows_written ws rows))
sorted_written [] rows rising = rising
sorted_written ((key, Set value) ∷ ws) rows rising = is_sorted-put key_cmp nat_list_cmp_total key value
    (rows_written ws rows) (sorted_written ws rows rising)
sorted_written ((key, Delete) ∷ ws) rows rising = is_sorted-where_key key_cmp (λ k. not (eq_by_cmp key_cmp key k))
    (rows_written ws rows) (sorted_written ws rows rising)

-- a key that is written has what the first of its writes leaves
find_written : (ws : Changes) (rows : List Row) (q : List ℕ)
    → find key_cmp q (rows_written ws rows) ≡ value_left (find key_cmp q rows) (find key_cmp q ws)
find_written [] rows q = refl
find_written ((key, Set value) ∷ ws) rows q =
    find-put key_cmp nat_list_cmp_total q key value (rows_written ws rows)
    ∙ by_test (eq_by_cmp key_cmp q key) (find_written ws rows q)
  where
    by_test : (b : Bool) → find key_cmp q (rows_written ws rows) ≡ value_left (find key_cmp q rows) (find key_cmp q ws)
        → cond b (Some value) (find key_cmp q (rows_written ws rows)) ≡ value_left (find key_cmp q rows)
        (cond b (Some (Set value)) (find key_cmp q ws))
    by_test true later = refl
    by_test false later = later
find_written ((key, Delete) ∷ ws) rows q =
    find-where_key key_cmp (λ k. not (eq_by_cmp key_cmp key k)) q (tie_alike (λ k. not (eq_by_cmp key_cmp key k)) q) (rows_written ws rows)
    ∙ by_test (eq_by_cmp key_cmp q key) (eq_by_cmp key_cmp key q) (turned_round q key) (find_written ws rows q)
  where
    by_test : (b c : Bool) → c ≡ b → find key_cmp q (rows_written ws rows) ≡ value_left (find key_cmp q rows) (find key_cmp q ws)
        → cond (not c) (find key_cmp q (rows_written ws rows)) None ≡ value_left (find key_cmp q rows)
        (cond b (Some Delete) (find key_cmp q ws))
    by_test true true same later = refl
    by_test true false same later = absurd (false≢true same)
    by_test false true same later = absurd (false≢true (sym same))
    by_test false false same later = later

    turned_round : (a b : List ℕ) → eq_by_cmp key_cmp b a ≡ eq_by_cmp key_cmp a b
    turned_round a b = by_tests (eq_by_cmp key_cmp b a) (eq_by_cmp key_cmp a b) refl refl
      where
        by_tests : (x y : Bool) → eq_by_cmp key_cmp b a ≡ x → eq_by_cmp key_cmp a b ≡ y → x ≡ y
        by_tests true true p r = refl
        by_tests false false p r = refl
        by_tests true false p r = sym (sym r ∙ ap (λ k. eq_by_cmp key_cmp a k) (same_key b a p) ∙ ap is_eq (key_tied a))
        by_tests false true p r = sym p ∙ ap (λ k. eq_by_cmp key_cmp b k) (same_key a b r) ∙ ap is_eq (key_tied b)

sorted_after : (rows : List Row) (cs : List (ℕ × Changes)) → T (is_sorted key_cmp rows) → T (is_sorted key_cmp (rows_after rows cs))
sorted_after rows [] rising = rising
sorted_after rows (c ∷ cs) rising = sorted_after (rows_written c.1 rows) cs (sorted_written c.1 rows rising)

find_after : (rows : List Row) (cs : List (ℕ × Changes)) (q : List ℕ)
    → find key_cmp q (rows_after rows cs) ≡ value_left (find key_cmp q rows) (last_in cs q)
find_after rows [] q = refl
find_after rows (c ∷ cs) q =
    find_after (rows_written c.1 rows) cs q
    ∙ ap (λ o. value_left o (last_in cs q)) (find_written c.1 rows q)
    ∙ value_left-newer (find key_cmp q rows) (find key_cmp q c.1) (last_in cs q)

module _ (p : Commits) (proper : AreProper p) where
  -- the rows at a number are the contents there
  pub rows_in-are : (n : ℕ) → rows_in p n ≡ entries (contents_at (history_in p) n)
  rows_in-are n =
      same_entries key_cmp nat_list_cmp_total key_exact' (rows_in p n) (entries (contents_at (history_in p) n))
      (sorted_after [] (changes_up_to p n) tt) (entries_sorted (contents_at (history_in p) n))
      (λ q. find_after [] (changes_up_to p n) q ∙ value_in-is p proper n q ∙ sym (get-contents_at (history_in p) n q)
      ∙ get-entries (contents_at (history_in p) n) q)
    where
      key_exact' : (x y : List ℕ) → key_cmp x y ≡ Equal → x ≡ y
      key_exact' x y tied = key_exact x y tied

-- ---- versions

module _ (key : List ℕ) where
  numbers-append : (cs ds : List (ℕ × Changes))
      → map (λ (c : ℕ × Changes). c.0) (filter (λ (c : ℕ × Changes). is_some (find key_cmp key c.1)) (cs ++ ds))
      ≡ map (λ (c : ℕ × Changes). c.0) (filter (λ (c : ℕ × Changes). is_some (find key_cmp key c.1)) cs) ++ map
      (λ (c : ℕ × Changes). c.0) (filter (λ (c : ℕ × Changes). is_some (find key_cmp key c.1)) ds)
  numbers-append [] ds = refl
  numbers-append (c ∷ cs) ds = by_test (is_some (find key_cmp key c.1)) (numbers-append cs ds)
    where
      by_test : (b : Bool) → map (λ (d : ℕ × Changes). d.0) (filter (λ (d : ℕ × Changes). is_some (find key_cmp key d.1)) (cs ++ ds))
          ≡ map (λ (d : ℕ × Changes). d.0) (filter (λ (d : ℕ × Changes). is_some (find key_cmp key d.1)) cs) ++ map
          (λ (d : ℕ × Changes). d.0) (filter (λ (d : ℕ × Changes). is_some (find key_cmp key d.1)) ds)
          → map (λ (d : ℕ × Changes). d.0)
          (cond b (c ∷ filter (λ (d : ℕ × Changes). is_some (find key_cmp key d.1)) (cs ++ ds))
          (filter (λ (d : ℕ × Changes). is_some (find key_cmp key d.1)) (cs ++ ds)))
          ≡ map (λ (d : ℕ × Changes). d.0)
          (cond b (c ∷ filter (λ (d : ℕ × Changes). is_some (find key_cmp key d.1)) cs)
          (filter (λ (d : ℕ × Changes). is_some (find key_cmp key d.1)) cs)) ++ map (λ (d : ℕ × Changes). d.0)
          (filter (λ (d : ℕ × Changes). is_some (find key_cmp key d.1)) ds)
      by_test true later = ap (λ ns. c.0 ∷ ns) later
      by_test false later = later

  naming-append : (cs ds : List (ℕ × Writes)) → naming key (cs ++ ds) ≡ naming key cs ++ naming key ds
  naming-append [] ds = refl
  naming-append (c ∷ cs) ds = by_test (is_some (get c.1 key)) (naming-append cs ds)
    where
      by_test : (b : Bool) → naming key (cs ++ ds) ≡ naming key cs ++ naming key ds
          → map (λ (d : ℕ × Writes). d.0)
          (cond b (c ∷ filter (λ (d : ℕ × Writes). is_some (get d.1 key)) (cs ++ ds))
          (filter (λ (d : ℕ × Writes). is_some (get d.1 key)) (cs ++ ds)))
          ≡ map (λ (d : ℕ × Writes). d.0)
          (cond b (c ∷ filter (λ (d : ℕ × Writes). is_some (get d.1 key)) cs)
          (filter (λ (d : ℕ × Writes). is_some (get d.1 key)) cs)) ++ naming key ds
      by_test true later = ap (λ ns. c.0 ∷ ns) later
      by_test false later = later

  named_one : (n : ℕ) (c : Changes) (ns ms : List ℕ) → T (is_sorted key_cmp c) → ns ≡ ms
      → cond (is_some (find key_cmp key c)) (n ∷ ns) ns ≡ cond (is_some (get (from_sorted {R = key_cmp} c) key)) (n ∷ ms) ms
  named_one n c ns ms rising same =
      ap (λ xs. cond (is_some (find key_cmp key c)) (n ∷ xs) xs) same
      ∙ ap (λ (o : Option Change). cond (is_some o) (n ∷ ms) ms) (sym (get-from_sorted key_cmp c key rising))

  chosen : {X : Type 0} (f : X → ℕ) (b : Bool) (x : X) (xs : List X) → map f (cond b (x ∷ xs) xs) ≡ cond b (f x ∷ map f xs) (map f xs)
  chosen f true x xs = refl
  chosen f false x xs = refl

  named_base : (m : ℕ) (cs : List (ℕ × Changes)) → AllByRecursion (λ (c : ℕ × Changes). T (is_sorted key_cmp c.1)) cs
      → map (λ (c : ℕ × Changes). c.0)
      (filter (λ (c : ℕ × Changes). is_some (find key_cmp key c.1)) (filter (λ (c : ℕ × Changes). nat_le c.0 m) cs))
      ≡ naming key (filter (λ (c : ℕ × Writes). nat_le c.0 m) (map (λ (c : ℕ × Changes). (c.0, from_sorted c.1)) cs))
  named_base m [] all = refl
  named_base m (c ∷ cs) all = by_test (nat_le c.0 m) (named_base m cs all.1)
    where
      by_test : (b : Bool)
          → map (λ (d : ℕ × Changes). d.0)
          (filter (λ (d : ℕ × Changes). is_some (find key_cmp key d.1)) (filter (λ (d : ℕ × Changes). nat_le d.0 m) cs))
          ≡ naming key (filter (λ (d : ℕ × Writes). nat_le d.0 m) (map (λ (d : ℕ × Changes). (d.0, from_sorted d.1)) cs))
          → map (λ (d : ℕ × Changes). d.0)
          (filter (λ (d : ℕ × Changes). is_some (find key_cmp key d.1))
          (cond b (c ∷ filter (λ (d : ℕ × Changes). nat_le d.0 m) cs) (filter (λ (d : ℕ × Changes). nat_le d.0 m) cs)))
          ≡ naming key (cond b ((c.0, from_sorted c.1) ∷ filter (λ (d : ℕ × Writes). nat_le d.0 m)
          (map (λ (d : ℕ × Changes). (d.0, from_sorted d.1)) cs))
          (filter (λ (d : ℕ × Writes). nat_le d.0 m) (map (λ (d : ℕ × Changes). (d.0, from_sorted d.1)) cs)))
      by_test false later = later
      by_test true later =
          chosen (λ (d : ℕ × Changes). d.0) (is_some (find key_cmp key c.1)) c
          (filter (λ (d : ℕ × Changes). is_some (find key_cmp key d.1)) (filter (λ (d : ℕ × Changes). nat_le d.0 m) cs))
          ∙ named_one c.0 c.1 _ _ all.0 later
          ∙ sym (chosen (λ (d : ℕ × Writes). d.0) (is_some (get (from_sorted {R = key_cmp} c.1) key))
          (c.0, from_sorted c.1) (filter (λ (d : ℕ × Writes). is_some (get d.1 key))
          (filter (λ (d : ℕ × Writes). nat_le d.0 m) (map (λ (d : ℕ × Changes). (d.0, from_sorted d.1)) cs))))

  named_commits : (m : ℕ) (cs : List Changes) → AllByRecursion (λ (c : Changes). T (is_sorted key_cmp c)) cs
      → map (λ (c : ℕ × Changes). c.0) (filter (λ (c : ℕ × Changes). is_some (find key_cmp key c.1)) (numbered_changes m cs))
      ≡ naming key (numbered m (map from_sorted cs))
  named_commits m [] all = refl
  named_commits m (c ∷ cs) all =
      chosen (λ (d : ℕ × Changes). d.0) (is_some (find key_cmp key c)) (m, c)
      (filter (λ (d : ℕ × Changes). is_some (find key_cmp key d.1)) (numbered_changes (m + 1) cs))
      ∙ named_one m c _ _ all.0 (named_commits (m + 1) cs all.1)
      ∙ sym (chosen (λ (d : ℕ × Writes). d.0) (is_some (get (from_sorted {R = key_cmp} c) key)) (m, from_sorted c)
      (filter (λ (d : ℕ × Writes). is_some (get d.1 key)) (numbered (m + 1) (map from_sorted cs))))

module _ (p : Commits) (proper : AreProper p) where
  pub known_versions-are : (key : List ℕ) → known_versions p key ≡ versions (history_in p) key
  known_versions-are key =
      numbers-append key (filter (λ (c : ℕ × Changes). nat_le c.0 p.first) p.base) (numbered_changes (p.first + 1) p.commits)
      ∙ ap (λ ns. ns ++ map (λ (c : ℕ × Changes). c.0)
      (filter (λ (c : ℕ × Changes). is_some (find key_cmp key c.1)) (numbered_changes (p.first + 1) p.commits)))
      (named_base key p.first p.base proper.base
      ∙ sym (ap (λ (cs : List (ℕ × Writes)). naming key (filter (λ (c : ℕ × Writes). nat_le c.0 p.first) cs))
      (entries-from_sorted nat_cmp (map (λ (c : ℕ × Changes). (c.0, from_sorted c.1)) p.base) proper.numbers)))
      ∙ ap (λ ns. naming key (filter (λ (c : ℕ × Writes). nat_le c.0 p.first) (entries (history_in p).base)) ++ ns)
      (named_commits key (p.first + 1) p.commits proper.commits)
      ∙ sym (naming-append key (filter (λ (c : ℕ × Writes). nat_le c.0 p.first) (entries (history_in p).base))
      (numbered (p.first + 1) (history_in p).commits))

  pub low_in-is : (floor keep since : ℕ) (key : List ℕ) → low_in p floor keep since key ≡ low (history_in p) floor keep since key
  low_in-is floor keep since key = ap (λ ns. low_of ns floor keep since) (known_versions-are key)
