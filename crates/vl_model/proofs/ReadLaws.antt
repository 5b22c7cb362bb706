-- Reads that no later commit overwrote are explained at every later number too.
use Rattle.std.proofs.Common.{length-take, ◌≡◌, ℕ, ◌+◌, ◌-◌, ◌≤◌, ◌<◌, suc, Bool, true, false, cond, not, ◌&&◌, ◌||◌}
use Rattle.std.proofs.Common.{List, [], ◌∷◌, length, take, reverse, refl, ap, sym, ◌∙◌, arith, ⊎_elim}
use Rattle.std.proofs.lemmas.Bool.{cases_lt}
use Rattle.std.proofs.lemmas.Bool.Decides.{nat_tests}
use Rattle.std.specs.Prelude.{T, Option, Some, None, min, nat_le, nat_lt, if◌then◌else◌}
use Rattle.std.specs.Option.{option_map}
use Rattle.std.specs.Ordering.{eq_by_cmp, is_eq, is_lt, is_gt, ordering_reverse}
use Rattle.std.specs.declared.cmp.Ordering.{Ordering}
use Rattle.std.specs.declared.cmp.Ordering.TheVariants.{Less, Equal, Greater}
use Rattle.std.specs.Cmp.{back_total}
use Rattle.std.specs.Cmp.Lexicographic.{nat_list_cmp_total}
use Rattle.std.specs.FinMap.{entries, entries_sorted, find, get, get-entries}
use Rattle.std.specs.FinMap.Entries.{is_sorted, where_key, is_sorted-put, is_sorted-where_key, find-put, find-where_key, same_entries}
use Rattle.vl_model.specs.Keys.{Stored, Row, Writes, Pairs, key_cmp}
use Rattle.vl_model.specs.History.{History, past_value, newer, last_change, last_naming, value_left, value_at, contents_at, last_number}
use Rattle.vl_model.specs.laws.HistoryLaws.{take_all, get-contents_at, past_stays}
use Rattle.vl_model.specs.Reads.{Scan, Read, KeyRead, RangeRead, is_within, rows_written, in_direction, scanned}
use Rattle.vl_model.specs.Reads.{bound, last_key, covered_to, covered, is_from, is_up_to, is_in_span, is_read_by}
use Rattle.vl_model.specs.Reads.{is_read, IsExplainedRead, IsExplained}
use Rattle.vl_model.specs.Conflicts.{Named, is_overwritten, overwritten, passing, first_of, first_conflict}
use Rattle.vl_model.specs.laws.ConflictLaws.{find-overwritten}
use Rattle.vl_model.proofs.SortedRows.{back, same_front, sorted_back, find_back}
use Rattle.vl_model.specs.laws.WinnerLaws.{key_exact, key_tied}
use Rattle.vl_model.specs.declared.change.Change.{Change}
use Rattle.vl_model.specs.declared.change.Change.TheVariants.{Set, Delete}
use Rattle.vl_model.specs.declared.way.Way.{Way}
use Rattle.vl_model.specs.declared.way.Way.TheVariants.{Up, Down}

-- ---- a key that no later commit names

abbrev IsNotAbove : ℕ → Option ℕ → Type 0
IsNotAbove n None = Unit {0}
IsNotAbove n (Some m) = m ≤ n

later_not_above : (n : ℕ) (a b : Option ℕ) → IsNotAbove n (newer a b) → IsNotAbove n b
later_not_above n a None up = tt
later_not_above n a (Some m) up = up

one_some : (a b : ℕ) → Some a ≡ Some b → a ≡ b
one_some a b is = cc

named_from_here : (number : ℕ) (cs : List Writes) (q : List ℕ) (m : ℕ)
    → last_naming number cs q ≡ Some m → number ≤ m
named_from_here number [] q m is = absurd cc
named_from_here number (w ∷ later) q m is =
    by_later (last_naming (number + 1) later q) (λ n is_n. named_from_here (number + 1) later q n is_n) is
  where
    by_first : (o : Option Change) → newer (option_map (λ change. number) o) None ≡ Some m
        → number ≤ m
    by_first None is = absurd cc
    by_first (Some change) is = let same = one_some number m is in omega (arith, same)

    by_later : (o : Option ℕ) → ((n : ℕ) → o ≡ Some n → number + 1 ≤ n)
        → newer (option_map (λ change. number) (get w q)) o ≡ Some m → number ≤ m
    by_later None from all = by_first (get w q) all
    by_later (Some n) from all = let same = one_some n m all in let least = from n refl in omega (arith, same, least)

never_named : (number : ℕ) (cs : List Writes) (q : List ℕ) → last_naming number cs q ≡ None
    → last_change cs q ≡ None
never_named number [] q is = refl
never_named number (w ∷ later) q is = by_parts (get w q) (last_naming (number + 1) later q)
    (λ none. never_named (number + 1) later q none) is
  where
    by_parts : (first : Option Change) (o : Option ℕ) → (o ≡ None → last_change later q ≡ None)
        → newer (option_map (λ change. number) first) o ≡ None
        → newer first (last_change later q) ≡ None
    by_parts None None rest is = ap (newer None) (rest refl)
    by_parts (Some change) None rest is = absurd cc
    by_parts first (Some n) rest is = absurd cc

change_stays : (cs : List Writes) (number n : ℕ) (q : List ℕ)
    → IsNotAbove n (last_naming number cs q)
    → last_change (take (n + 1 - number) cs) q ≡ last_change cs q
change_stays [] number n q up = ap (λ (cs : List Writes). last_change cs q) (take_all [] (n + 1 - number) (omega arith))
change_stays (w ∷ later) number n q up = ⊎_elim
    (λ (less : n < number).
    let none : n + 1 - number ≡ 0 = omega (arith, less) in
    ap (λ k. last_change (take k (w ∷ later)) q) none
    ∙ sym (never_named number (w ∷ later) q (unnamed less (last_naming number (w ∷ later) q) refl up)))
    (λ (least : number ≤ n).
    let more : n + 1 - number ≡ suc (n + 1 - (number + 1)) = omega (arith, least) in
    ap (λ k. last_change (take k (w ∷ later)) q) more
    ∙ ap (newer (get w q)) (change_stays later (number + 1) n q
    (later_not_above n (option_map (λ change. number) (get w q)) (last_naming (number + 1) later q) up)))
    (cases_lt n number)
  where
    unnamed : n < number → (o : Option ℕ) → last_naming number (w ∷ later) q ≡ o → IsNotAbove n o
        → last_naming number (w ∷ later) q ≡ None
    unnamed less None is up = is
    unnamed less (Some m) is up = absurd (let least = named_from_here number (w ∷ later) q m is in omega (arith, less, least, up))

-- what stood at a number stands at the last one, where no later commit names the key
pub value_stays : (h : History) (n : ℕ) (q : List ℕ) → h.first ≤ n
    → IsNotAbove n (last_naming (h.first + 1) h.commits q)
    → value_at h (last_number h) q ≡ value_at h n q
value_stays h n q least up =
    let whole : take (h.first + length h.commits - h.first) h.commits ≡ h.commits = take_all h.commits
    (h.first + length h.commits - h.first) (omega arith) in
    let count : n + 1 - (h.first + 1) ≡ n - h.first = omega arith in
    let old = past_value h.base (min n h.first) q in
    ap (λ (o : Option Stored). value_left o (last_change (take (h.first + length h.commits - h.first) h.commits) q))
    (past_stays h (h.first + length h.commits) n q (omega arith) least)
    ∙ ap (λ (cs : List Writes). value_left old (last_change cs q)) whole
    ∙ ap (value_left old) (sym (change_stays h.commits (h.first + 1) n q up))
    ∙ ap (λ k. value_left old (last_change (take k h.commits) q)) count

not_overwritten : (h : History) (n : ℕ) (reads : List Read) (q : List ℕ)
    → overwritten h n reads ≡ [] → is_read reads q ≡ true
    → IsNotAbove n (last_naming (h.first + 1) h.commits q)
not_overwritten h n reads q none covers = by_last (last_naming (h.first + 1) h.commits q)
    (sym (find-overwritten h n reads q) ∙ ap (find key_cmp q) none)
  where
    by_test : (m : ℕ) (t : Bool) → nat_lt n m ≡ t
        → (if t && is_read reads q then Some m else None) ≡ None → m ≤ n
    by_test m false less is = grind (arith, nat_tests)
    by_test m true less is = absurd (some_none m (ap (λ (b : Bool). if b then Some m else None) (sym covers) ∙ is))
      where
        some_none : (k : ℕ) → Some k ≡ None → ⊥
        some_none k h = cc

    by_last : (o : Option ℕ) → passing (is_overwritten n reads) q o ≡ None → IsNotAbove n o
    by_last None is = tt
    by_last (Some m) is = by_test m (nat_lt n m) refl is

-- ---- rows under own writes

sorted_written : (own : List (List ℕ × Change)) (rows : List Row) → T (is_sorted key_cmp rows)
    → T (is_sorted key_cmp (rows_written own rows))
sorted_written [] rows rising = rising
sorted_written ((key, Set value) ∷ own) rows rising = is_sorted-put key_cmp nat_list_cmp_total key value
    (rows_written own rows) (sorted_written own rows rising)
sorted_written ((key, Delete) ∷ own) rows rising = is_sorted-where_key key_cmp (λ k. not (eq_by_cmp key_cmp key k))
    (rows_written own rows) (sorted_written own rows rising)

-- tests of keys that tie answer alike
tie_alike : (p : List ℕ → Bool) (q x : List ℕ) → key_cmp q x ≡ Equal → p x ≡ p q
tie_alike p q x tied = ap p (sym (key_exact q x tied))

same_written : (own : List (List ℕ × Change)) (xs ys : List Row) (q : List ℕ)
    → find key_cmp q xs ≡ find key_cmp q ys
    → find key_cmp q (rows_written own xs) ≡ find key_cmp q (rows_written own ys)
same_written [] xs ys q same = same
same_written ((key, Set value) ∷ own) xs ys q same =
    find-put key_cmp nat_list_cmp_total q key value (rows_written own xs)
    ∙ ap (cond (eq_by_cmp key_cmp q key) (Some value)) (same_written own xs ys q same)
    ∙ sym (find-put key_cmp nat_list_cmp_total q key value (rows_written own ys))
same_written ((key, Delete) ∷ own) xs ys q same =
    let p : List ℕ → Bool = λ k. not (eq_by_cmp key_cmp key k) in
    find-where_key key_cmp p q (tie_alike p q) (rows_written own xs)
    ∙ ap (λ found. cond (p q) found None) (same_written own xs ys q same)
    ∙ sym (find-where_key key_cmp p q (tie_alike p q) (rows_written own ys))

-- ---- a scan

length-take_le : (n : ℕ) (rows : List Row) → length (take n rows) ≤ n
length-take_le n rows = let is = length-take n rows in omega (arith, is)

and_true : (b : Bool) → (b && true) ≡ b
and_true true = refl
and_true false = refl

and_first : (a b : Bool) → (a && b) ≡ true → a ≡ true
and_first true b h = refl
and_first false b h = absurd cc

and_both : (a b : Bool) → a ≡ true → b ≡ true → (a && b) ≡ true
and_both true b p q = q
and_both false b p q = absurd cc

-- from the empty key on stands every key
from_empty : (q : List ℕ) → not (is_lt (key_cmp q [])) ≡ true
from_empty [] = refl
from_empty (b ∷ q) = refl

-- the whole interval, as what is covered
is_whole : (low high q : List ℕ)
    → is_in_span (record { lo = bound low; hi = bound high; closed = false }) q ≡ is_within low high q
is_whole [] [] q = sym (from_empty q)
is_whole [] (h ∷ hs) q = sym (ap (λ b. b && is_lt (key_cmp q (h ∷ hs))) (from_empty q))
is_whole (l ∷ ls) [] q = and_true (not (is_lt (key_cmp q (l ∷ ls))))
is_whole (l ∷ ls) (h ∷ hs) q = refl

within_from : (low high q : List ℕ) → is_within low high q ≡ true → is_from (bound low) q ≡ true
within_from [] high q within = refl
within_from (l ∷ ls) [] q within = within
within_from (l ∷ ls) (h ∷ hs) q within = and_first (not (is_lt (key_cmp q (l ∷ ls)))) (is_lt (key_cmp q (h ∷ hs))) within

within_below : (low high q : List ℕ) → is_within low high q ≡ true
    → is_up_to (bound high) false q ≡ true
within_below low [] q within = refl
within_below low (h ∷ hs) q within = second (not (is_lt (key_cmp q low))) (is_lt (key_cmp q (h ∷ hs))) within
  where
    second : (a b : Bool) → (a && b) ≡ true → b ≡ true
    second true b h = h
    second false b h = absurd cc

-- not behind a key is not above it, seen from either
not_behind : (q k : List ℕ) → is_gt (key_cmp q k) ≡ false → not (is_lt (key_cmp k q)) ≡ true
not_behind q k up = by_order (key_cmp k q) (nat_list_cmp_total.antisymm q k)
  where
    by_order : (r : Ordering) → key_cmp q k ≡ ordering_reverse r → not (is_lt r) ≡ true
    by_order Less is = absurd (true_false (sym (ap is_gt is) ∙ up))
      where
        true_false : true ≡ false → ⊥
        true_false h = cc
    by_order Equal is = refl
    by_order Greater is = refl

module _ (scan : Scan) (own : List (List ℕ × Change)) (xs ys : List Row) (rising_xs : T (is_sorted key_cmp xs))
    (rising_ys : T (is_sorted key_cmp ys)) where
  cut : List Row → List Row
  cut rows = where_key key_cmp (is_within scan.low scan.high) (rows_written own rows)

  rising_cut : (rows : List Row) → T (is_sorted key_cmp rows) → T (is_sorted key_cmp (cut rows))
  unfolding cut
  rising_cut rows rising = is_sorted-where_key key_cmp (is_within scan.low scan.high) (rows_written own rows)
      (sorted_written own rows rising)

  -- what agrees at a key of the interval agrees behind the own writes
  agrees_cut : (q : List ℕ)
      → (is_within scan.low scan.high q ≡ true → find key_cmp q xs ≡ find key_cmp q ys)
      → find key_cmp q (cut xs) ≡ find key_cmp q (cut ys)
  unfolding cut
  agrees_cut q agree =
      find-where_key key_cmp (is_within scan.low scan.high) q (tie_alike (is_within scan.low scan.high) q) (rows_written own xs)
      ∙ by_test (is_within scan.low scan.high q) refl
      ∙ sym (find-where_key key_cmp (is_within scan.low scan.high) q (tie_alike (is_within scan.low scan.high) q) (rows_written own ys))
    where
      by_test : (b : Bool) → is_within scan.low scan.high q ≡ b
          → cond (is_within scan.low scan.high q) (find key_cmp q (rows_written own xs)) None ≡ cond
          (is_within scan.low scan.high q) (find key_cmp q (rows_written own ys)) None
      by_test true within = ap (λ found. cond (is_within scan.low scan.high q) found None) (same_written own xs ys q (agree within))
      by_test false out = ap (λ b. cond b (find key_cmp q (rows_written own xs)) None) out
          ∙ sym (ap (λ b. cond b (find key_cmp q (rows_written own ys)) None) out)

  -- as far as it came, in either direction
  same_taken : (w : Way) (last : List ℕ)
      → ((q : List ℕ) → is_in_span (covered_to scan w (Some last)) q ≡ true → find key_cmp q xs ≡ find key_cmp q ys)
      → length (take scan.limit (in_direction w (cut xs))) ≡ scan.limit
      → last_key (take scan.limit (in_direction w (cut xs))) ≡ Some last
      → take scan.limit (in_direction w (cut xs)) ≡ take scan.limit (in_direction w (cut ys))
  same_taken Up last agree full is =
      same_front key_cmp nat_list_cmp_total key_exact scan.limit (cut xs) (cut ys) last (rising_cut xs rising_xs)
      (rising_cut ys rising_ys) full is
      (λ q up. agrees_cut q (λ within. agree q
      (and_both (is_from (bound scan.low) q) (not (is_lt (key_cmp last q))) (within_from scan.low scan.high q within)
      (not_behind q last up))))
  same_taken Down last agree full is =
      same_front (back key_cmp) (back_total nat_list_cmp_total) (λ a b tied. sym (key_exact b a tied)) scan.limit
      (reverse (cut xs)) (reverse (cut ys)) last
      (sorted_back key_cmp nat_list_cmp_total (cut xs) (rising_cut xs rising_xs))
      (sorted_back key_cmp nat_list_cmp_total (cut ys) (rising_cut ys rising_ys)) full is
      (λ q up.
      find_back key_cmp nat_list_cmp_total key_exact q (cut xs) (rising_cut xs rising_xs)
      ∙ agrees_cut q (λ within. agree q
      (and_both (not (is_lt (key_cmp q last))) (is_up_to (bound scan.high) false q) (not_behind last q up)
      (within_below scan.low scan.high q within)))
      ∙ sym (find_back key_cmp nat_list_cmp_total key_exact q (cut ys) (rising_cut ys rising_ys)))

  -- the whole interval
  same_whole : ((q : List ℕ) → is_in_span (covered_to scan scan.way None) q ≡ true → find key_cmp q xs ≡ find key_cmp q ys)
      → cut xs ≡ cut ys
  same_whole agree =
      same_entries key_cmp nat_list_cmp_total key_exact (cut xs) (cut ys) (rising_cut xs rising_xs) (rising_cut ys rising_ys)
      (λ q. agrees_cut q (λ within. agree q (is_whole scan.low scan.high q ∙ within)))

  pub same_scanned : scan.rows ≡ scanned scan own xs
      → ((q : List ℕ) → is_in_span (covered scan) q ≡ true → find key_cmp q xs ≡ find key_cmp q ys)
      → scan.rows ≡ scanned scan own ys
  unfolding cut
  same_scanned gave agree = by_last (if nat_le scan.limit (length scan.rows) then last_key scan.rows else None) refl agree
    where
      parts : (t : Bool) (last : List ℕ) → nat_le scan.limit (length scan.rows) ≡ t
          → (if t then last_key scan.rows else None) ≡ Some last
          → (scan.limit ≤ length scan.rows) × (last_key scan.rows ≡ Some last)
      parts true last met is = ((let m = met in grind (arith, nat_tests)), is)
      parts false last met is = absurd cc

      by_last : (o : Option (List ℕ))
          → (if nat_le scan.limit (length scan.rows) then last_key scan.rows else None) ≡ o
          → ((q : List ℕ) → is_in_span (covered_to scan scan.way o) q ≡ true → find key_cmp q xs ≡ find key_cmp q ys)
          → scan.rows ≡ scanned scan own ys
      by_last None is agree = gave ∙ ap (λ rows. take scan.limit (in_direction scan.way rows)) (same_whole agree)
      by_last (Some last) is agree =
          let both = parts (nat_le scan.limit (length scan.rows)) last refl is in
          let most = length-take_le scan.limit
          (in_direction scan.way (where_key key_cmp (is_within scan.low scan.high) (rows_written own xs))) in
          let count = ap length gave in
          let full : length (take scan.limit
          (in_direction scan.way (where_key key_cmp (is_within scan.low scan.high) (rows_written own xs)))) ≡
          scan.limit = let least = both.0 in omega (arith, least, most, count) in
          gave ∙ same_taken scan.way last agree full (ap last_key (sym gave) ∙ both.1)

-- ---- reads

found_in : (pairs : Pairs) (q : List ℕ) → find key_cmp q (entries pairs) ≡ get pairs q
found_in pairs q = sym (get-entries pairs q)

no_first : (named : List Named) → first_of named ≡ None → named ≡ []
no_first [] none = refl
no_first (x ∷ xs) none = absurd cc

module _ (h : History) (n : ℕ) where
  stays_found : (q : List ℕ) → value_at h (last_number h) q ≡ value_at h n q
      → find key_cmp q (entries (contents_at h n)) ≡ find key_cmp q (entries (contents_at h (last_number h)))
  stays_found q same =
      found_in (contents_at h n) q ∙ get-contents_at h n q ∙ sym same ∙ sym (get-contents_at h (last_number h) q)
      ∙ sym (found_in (contents_at h (last_number h)) q)

  read_stays : (read : Read)
      → ((q : List ℕ) → is_read_by q read ≡ true → value_at h (last_number h) q ≡ value_at h n q)
      → IsExplainedRead h n read → IsExplainedRead h (last_number h) read
  read_stays (KeyRead key answer) stays explained = explained ∙ sym (stays key (ap is_eq (key_tied key)))
  read_stays (RangeRead scan) stays explained =
      same_scanned scan (entries scan.own) (entries (contents_at h n)) (entries (contents_at h (last_number h)))
      (entries_sorted (contents_at h n)) (entries_sorted (contents_at h (last_number h)))
      explained (λ q inside. stays_found q (stays q inside))

  all_stay : (reads : List Read)
      → ((q : List ℕ) → is_read reads q ≡ true → value_at h (last_number h) q ≡ value_at h n q)
      → IsExplained h n reads → IsExplained h (last_number h) reads
  all_stay [] stays explained = tt
  all_stay (read ∷ reads) stays explained = (
    read_stays read (λ q covers. stays q (ap (λ b. b || is_read reads q) covers)) explained.0,
    all_stay reads (λ q covers. stays q (later (is_read_by q read) (is_read reads q) covers)) explained.1,
  )
    where
      later : (a b : Bool) → b ≡ true → (a || b) ≡ true
      later true b is = refl
      later false b is = is

  -- Reads that nothing overwrote are explained at the last number as well as at their own.
  pub reads_stay_explained : (reads : List Read) → h.first ≤ n → overwritten h n reads ≡ []
      → IsExplained h n reads → IsExplained h (last_number h) reads
  reads_stay_explained reads least none explained =
      all_stay reads (λ q covers. value_stays h n q least (not_overwritten h n reads q none covers)) explained

  pub explained_without_conflict : (reads : List Read) → h.first ≤ n → first_conflict h n reads ≡ None
      → IsExplained h n reads → IsExplained h (last_number h) reads
  explained_without_conflict reads least none explained = reads_stay_explained reads least (no_first (overwritten h n reads) none) explained
