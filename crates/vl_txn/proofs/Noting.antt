-- What one more note covers.
use Rattle.std.proofs.Common.{◌≡◌, ℕ, suc, Bool, true, false, cond, ◌||◌, List, [], ◌∷◌, ◌++◌, length, slice_get}
use Rattle.std.proofs.Common.{refl, ap, sym, ◌∙◌, arith, ◌-◌, ◌<◌, ◌≤◌, Bor, Option, Some, None, is_some, map, Result}
use Rattle.std.proofs.Common.{Ok, Err, OnOk}
use Rattle.std.specs.Prelude.{nat_le}
use Rattle.std.proofs.lemmas.Bool.Decides.{nat_tests}
use Rattle.std.specs.Option.{option_map, option_copied}
use Rattle.std.specs.FinMap.{get}
use Rattle.std.specs.List.{list_any}
use Rattle.std.specs.BTreeSet.{insert_key}
use Rattle.std.specs.Cmp.Lexicographic.{nat_list_cmp_total}
use Rattle.std.specs.declared.cmp.Ordering.{Ordering}
use Rattle.std.specs.declared.cmp.Ordering.TheVariants.{Less, Equal, Greater}
use Rattle.std.specs.Ordering.{eq_by_cmp, is_eq, match_ordering, ordering_reverse}
use Rattle.vl_model.specs.Keys.{Stored, Row, Writes, key_cmp}
use Rattle.vl_model.specs.Notes.{is_noted, AreNotesOf}
use Rattle.vl_model.specs.Reads.{Read, KeyRead, RangeRead, Scan, covered, covered_to, last_key, is_in_span, is_read_by}
use Rattle.vl_model.specs.declared.change.Change.{Change}
use Rattle.vl_model.specs.declared.span.Span.{Span}
use Rattle.vl_model.specs.declared.way.Way.{Way}
use Rattle.vl_model.specs.declared.way.Way.TheVariants.{Up, Down}
use Rattle.vl_txn.specs.Reads.{Notes, has_key, with_key, after_get, scan_of, NotesGet, NotesScan, AddsSpan, covered_up_to}

-- ---- tests joined

or_false : (b : Bool) → (b || false) ≡ b
or_false true = refl
or_false false = refl

or_true : (b : Bool) → (b || true) ≡ true
or_true true = refl
or_true false = refl

or_assoc : (a b c : Bool) → ((a || b) || c) ≡ (a || (b || c))
or_assoc true b c = refl
or_assoc false b c = refl

or_comm : (a b : Bool) → (a || b) ≡ (b || a)
or_comm true b = sym (or_true b)
or_comm false b = sym (or_false b)

or_again : (a b : Bool) → ((a || b) || a) ≡ (a || b)
or_again true b = refl
or_again false b = or_false b

any-append : {X : Type 0} (test : X → Bool) (xs : List X) (y : X) → list_any test (xs ++ (y ∷ [])) ≡ (list_any test xs || test y)
any-append test [] y = or_false (test y)
any-append test (x ∷ xs) y = ap (λ b. test x || b) (any-append test xs y) ∙ sym (or_assoc (test x) (list_any test xs) (test y))

key_between : (k s n : Bool) → ((k || n) || s) ≡ ((k || s) || n)
key_between true s n = refl
key_between false s n = or_comm n s

span_behind : (k s n : Bool) → (k || (s || n)) ≡ ((k || s) || n)
span_behind true s n = refl
span_behind false s n = refl

-- ---- one more key in a set

as_equal : (o : Ordering) → is_eq o ≡ true → o ≡ Equal
as_equal Less is = absurd cc
as_equal Equal is = refl
as_equal Greater is = absurd cc

-- a key compares to equal ones alike
equal_alike : (q key x : List ℕ) → key_cmp key x ≡ Equal → eq_by_cmp key_cmp q key ≡ eq_by_cmp key_cmp q x
equal_alike q key x equal =
    ap is_eq
    (nat_list_cmp_total.antisymm q key ∙ ap ordering_reverse (nat_list_cmp_total.congr key x q equal)
    ∙ sym (nat_list_cmp_total.antisymm q x))

any-insert_key : (q key : List ℕ) (keys : List (List ℕ))
    → list_any (eq_by_cmp key_cmp q) (insert_key key_cmp keys key) ≡ (list_any (eq_by_cmp key_cmp q) keys || eq_by_cmp key_cmp q key)
any-insert_key q key [] = or_false (eq_by_cmp key_cmp q key)
any-insert_key q key (x ∷ xs) = by (key_cmp key x) refl (any-insert_key q key xs)
  where
    by : (o : Ordering) → key_cmp key x ≡ o
        → list_any (eq_by_cmp key_cmp q) (insert_key key_cmp xs key) ≡ (list_any (eq_by_cmp key_cmp q) xs || eq_by_cmp key_cmp q key)
        → list_any (eq_by_cmp key_cmp q) (match_ordering o (key ∷ x ∷ xs) (x ∷ xs) (x ∷ insert_key key_cmp xs key))
        ≡ (list_any (eq_by_cmp key_cmp q) (x ∷ xs) || eq_by_cmp key_cmp q key)
    by Less is later = or_comm (eq_by_cmp key_cmp q key) (list_any (eq_by_cmp key_cmp q) (x ∷ xs))
    by Equal is later =
        sym (or_again (eq_by_cmp key_cmp q x) (list_any (eq_by_cmp key_cmp q) xs))
        ∙ ap (λ b. list_any (eq_by_cmp key_cmp q) (x ∷ xs) || b) (sym (equal_alike q key x is))
    by Greater is later =
        ap (λ b. eq_by_cmp key_cmp q x || b) later
        ∙ sym (or_assoc (eq_by_cmp key_cmp q x) (list_any (eq_by_cmp key_cmp q) xs) (eq_by_cmp key_cmp q key))

-- equal keys are in the same lists
any_alike : (q key : List ℕ) (keys : List (List ℕ)) → key_cmp q key ≡ Equal
    → list_any (eq_by_cmp key_cmp q) keys ≡ list_any (eq_by_cmp key_cmp key) keys
any_alike q key [] equal = refl
any_alike q key (x ∷ xs) equal =
    ap (λ r. is_eq r || list_any (eq_by_cmp key_cmp q) xs) (nat_list_cmp_total.congr q key x equal)
    ∙ ap (λ b. eq_by_cmp key_cmp key x || b) (any_alike q key xs equal)

-- a key that is there is there once more
any_there : (q key : List ℕ) (keys : List (List ℕ)) → list_any (eq_by_cmp key_cmp key) keys ≡ true
    → list_any (eq_by_cmp key_cmp q) keys ≡ (list_any (eq_by_cmp key_cmp q) keys || eq_by_cmp key_cmp q key)
any_there q key keys there = by (eq_by_cmp key_cmp q key) refl
  where
    by : (b : Bool) → eq_by_cmp key_cmp q key ≡ b → list_any (eq_by_cmp key_cmp q) keys ≡ (list_any (eq_by_cmp key_cmp q) keys || b)
    by true is = any_alike q key keys (as_equal (key_cmp q key) is) ∙ there ∙ sym (or_true (list_any (eq_by_cmp key_cmp q) keys))
    by false is = sym (or_false (list_any (eq_by_cmp key_cmp q) keys))

any-with_key : (q : List ℕ) (notes : Notes) (key : List ℕ)
    → list_any (eq_by_cmp key_cmp q) (with_key notes key).keys ≡ (list_any (eq_by_cmp key_cmp q) notes.keys || eq_by_cmp key_cmp q key)
any-with_key q notes key = by (has_key notes key) refl
  where
    by : (b : Bool) → has_key notes key ≡ b
        → list_any (eq_by_cmp key_cmp q) (cond b notes (record notes { keys = insert_key key_cmp notes.keys key })).keys
        ≡ (list_any (eq_by_cmp key_cmp q) notes.keys || eq_by_cmp key_cmp q key)
    by true there = any_there q key notes.keys there
    by false there = any-insert_key q key notes.keys

spans-with_key : (notes : Notes) (key : List ℕ) → (with_key notes key).spans ≡ notes.spans
spans-with_key notes key = elim (has_key notes key) as
    (λ b. (cond b notes (record notes { keys = insert_key key_cmp notes.keys key })).spans ≡ notes.spans) [
      | true ↦ refl
      | false ↦ refl
    ]

-- ---- what the notes cover

key_noted : (notes : Notes) (key : List ℕ) (reads : List Read) (answer : Option Stored) → AreNotesOf reads notes.keys notes.spans
    → AreNotesOf (reads ++ (KeyRead key answer ∷ [])) (with_key notes key).keys (with_key notes key).spans
key_noted notes key reads answer are q =
    ap (λ b. b || list_any (λ span. is_in_span span q) (with_key notes key).spans) (any-with_key q notes key)
    ∙ ap (λ (spans : List Span). (list_any (eq_by_cmp key_cmp q) notes.keys || eq_by_cmp key_cmp q key) || list_any
    (λ span. is_in_span span q) spans) (spans-with_key notes key)
    ∙ key_between (list_any (eq_by_cmp key_cmp q) notes.keys) (list_any (λ span. is_in_span span q) notes.spans) (eq_by_cmp key_cmp q key)
    ∙ ap (λ b. b || eq_by_cmp key_cmp q key) (are q)
    ∙ sym (any-append (is_read_by q) reads (KeyRead key answer))

pub span_noted : (scan : Writes → Scan) (notes : Notes) (new : Notes) → AddsSpan scan notes new → NotesScan scan notes new
span_noted scan notes new adds reads own are q =
    ap (λ (n : Notes). is_noted n.keys n.spans q) (adds own)
    ∙ ap (λ b. list_any (eq_by_cmp key_cmp q) notes.keys || b) (any-append (λ span. is_in_span span q) notes.spans (covered (scan own)))
    ∙ span_behind (list_any (eq_by_cmp key_cmp q) notes.keys) (list_any (λ span. is_in_span span q) notes.spans)
    (is_in_span (covered (scan own)) q)
    ∙ ap (λ b. b || is_in_span (covered (scan own)) q) (are q)
    ∙ sym (any-append (is_read_by q) reads (RangeRead (scan own)))

-- a get is noted just where the key isn't written
pub get_noted : (own : Writes) (key : List ℕ) (old new : Notes) → new ≡ after_get own key old → NotesGet own key old new
get_noted own key old new is reads answer are = by_test (is_some (get own key)) is
  where
    by_test : (b : Bool) → new ≡ cond b old (with_key old key)
        → AreNotesOf (cond b reads (reads ++ (KeyRead key answer ∷ []))) new.keys new.spans
    by_test true same q = ap (λ (n : Notes). is_noted n.keys n.spans q) same ∙ are q
    by_test false same q = ap (λ (n : Notes). is_noted n.keys n.spans q) same ∙ key_noted old key reads answer are q

-- ---- the interval

pub last_key-last : (rows : List Row) → last_key rows ≡ option_map (λ (row : Row). row.0) (slice_get rows (length rows - 1))
last_key-last [] = refl
last_key-last (row ∷ []) = refl
last_key-last (row ∷ next ∷ rows) = last_key-last (next ∷ rows)
    ∙ ap (λ n. option_map (λ (row : Row). row.0) (slice_get (row ∷ next ∷ rows) n)) (deeper (length rows))
  where
    deeper : (n : ℕ) → suc (suc n - 1) ≡ suc (suc n) - 1
    deeper n = omega arith

covered_by_key : (low high : List ℕ) (limit : ℕ) (way : Way) (rows : List Row) (own : Writes) (o : Option Row)
    → covered_up_to low high way o ≡ covered_to (scan_of low high limit way rows own) way (option_map (λ (row : Row). row.0) o)
covered_by_key low high limit Up rows own None = refl
covered_by_key low high limit Down rows own None = refl
covered_by_key low high limit Up rows own (Some row) = refl
covered_by_key low high limit Down rows own (Some row) = refl

-- up to the last row where there are as many as the limit, and else the whole
pub covered-scan : (low high : List ℕ) (limit : ℕ) (way : Way) (rows : List Row) (own : Writes) (last : Option Row)
    → last ≡ cond (nat_le limit (length rows)) (slice_get rows (length rows - 1)) None
    → covered_up_to low high way last ≡ covered (scan_of low high limit way rows own)
covered-scan low high limit way rows own last is =
    ap (covered_up_to low high way) is
    ∙ covered_by_key low high limit way rows own (cond (nat_le limit (length rows)) (slice_get rows (length rows - 1)) None)
    ∙ ap (covered_to (scan_of low high limit way rows own) way) (by_test (nat_le limit (length rows)))
  where
    by_test : (b : Bool) → option_map (λ (row : Row). row.0) (cond b (slice_get rows (length rows - 1)) None) ≡ cond b (last_key rows) None
    by_test true = sym (last_key-last rows)
    by_test false = refl

as_le : (n m : ℕ) → n ≤ m → nat_le n m ≡ true
as_le n m le = grind (arith, nat_tests)

as_above : (n m : ℕ) → m < n → nat_le n m ≡ false
as_above n m above = grind (arith, nat_tests)

pub as_many : (rows : List Row) (limit : ℕ) → limit ≤ length rows
    → cond (nat_le limit (length rows)) (slice_get rows (length rows - 1)) None ≡ slice_get rows (length rows - 1)
as_many rows limit le = ap (λ b. cond b (slice_get rows (length rows - 1)) None) (as_le limit (length rows) le)

pub fewer : (rows : List Row) (limit : ℕ) → length rows < limit
    → cond (nat_le limit (length rows)) (slice_get rows (length rows - 1)) None ≡ None
fewer rows limit above = ap (λ b. cond b (slice_get rows (length rows - 1)) None) (as_above limit (length rows) above)

-- ---- an own write

pub written_alike : (lent : Option (Bor Change)) (b : Bool) (found : Option Change) → option_copied lent ≡ found
    → b ≡ is_some lent → is_some found ≡ b
written_alike None b found is same = ap is_some (sym is) ∙ sym same
written_alike (Some change) b found is same = ap is_some (sym is) ∙ sym same

pub in_the_good : {T E P Q : Type 0} (r : Result T E) → (P → Q) → OnOk r P → OnOk r Q
in_the_good (Ok x) goes is = goes is
in_the_good (Err e) goes is = tt

-- ---- keys that are held in some way

module _ {X : Type 0} (key_of : X → List ℕ) where
  pub any-keys : (key : List ℕ) (held : List X)
      → list_any (λ x. is_eq (key_cmp key (key_of x))) held ≡ list_any (eq_by_cmp key_cmp key) (map key_of held)
  any-keys key [] = refl
  any-keys key (x ∷ xs) = ap (λ b. is_eq (key_cmp key (key_of x)) || b) (any-keys key xs)

  pub keys-insert_key : (new : X) (held : List X)
      → map key_of (insert_key (λ x y. key_cmp (key_of x) (key_of y)) held new) ≡ insert_key key_cmp (map key_of held) (key_of new)
  keys-insert_key new [] = refl
  keys-insert_key new (x ∷ xs) = elim (key_cmp (key_of new) (key_of x)) as
      (λ o. map key_of (match_ordering o (new ∷ x ∷ xs) (x ∷ xs) (x ∷ insert_key (λ x y. key_cmp (key_of x) (key_of y)) xs new))
      ≡ match_ordering o (key_of new ∷ key_of x ∷ map key_of xs) (key_of x ∷ map key_of xs)
      (key_of x ∷ insert_key key_cmp (map key_of xs) (key_of new))) [
        | Less ↦ refl
        | Equal ↦ refl
        | Greater ↦ ap (λ ks. key_of x ∷ ks) (keys-insert_key new xs)
      ]
