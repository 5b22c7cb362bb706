-- The contents at a number, changed by what a backup since then tells, are the contents at the other.
use Rattle.std.specs.Prelude.{◌≡◌, ◌<◌, ◌≤◌, ℕ, zero, suc, ◌+◌, ◌&&◌, T, Bool, true, false, nat_le, nat_lt}
use Rattle.std.specs.Prelude.{List, [], ◌∷◌, ◌++◌, map, Option, None, Some, refl}
use Rattle.std.specs.Option.{option_map}
use Rattle.std.specs.FinMap.{empty, entries, find, get, insert, entries_sorted, get-entries, get-empty, get-insert, get-remove}
use Rattle.std.specs.FinMap.{same_map, nat_cmp-IsAntisymmetric, slice_cmp-IsAntisymmetric}
use Rattle.std.specs.FinMap.Entries.{below_all, is_sorted}
use Rattle.std.specs.Cmp.Lexicographic.{nat_list_cmp_total}
use Rattle.std.specs.List.{AllByRecursion, filter}
use Rattle.std.specs.Ordering.{eq_by_cmp, is_lt, nat_cmp}
use Rattle.std.proofs.Common.{sym, ap, subst, ◌∙◌, cond, append-nil, arith}
use Rattle.std.proofs.lemmas.Bool.Decides.{nat_tests}
use Rattle.std.proofs.lemmas.List.{map-append}
use Rattle.vl_model.specs.History.{History, changed_by, contents_at, last_change, newer, value_at, value_left}
use Rattle.vl_model.specs.Keys.{Pairs, Row, Stored, Writes, key_cmp}
use Rattle.vl_model.specs.Versions.{Numbered, all_numbered}
use Rattle.vl_model.specs.declared.change.Change.{Change}
use Rattle.vl_model.specs.declared.change.Change.TheVariants.{Set, Delete}
use Rattle.vl_model.specs.laws.HistoryLaws.{get-contents_at, value_left-newer}
use Rattle.vl_engine_model.specs.Changes.{as_set, changes, changes_between, is_between, written_by, written_over}
use Rattle.vl_engine_model_laws.specs.laws.KnownVersions.{AreSorted, IsBelow, change-append, first_below, if_kept, is_below_first, is_below_rest}
use Rattle.vl_engine_model_laws.specs.laws.KnownVersions.{known_value, left_by, numbers_rise, rest_sorted, up_to, value_at-known, writes_of}

-- ---- what changes come to

cond-newer : (b : Bool) (old : Option Change) (mid : Option Change) (change : Change) (later : Option Change)
    → mid ≡ newer old later → cond b (Some change) mid ≡ newer old (cond b (Some change) later)
cond-newer true old mid change later e = refl
cond-newer false old mid change later e = e

pub get-written_over : (writes : Writes) (ws : List (List ℕ × Change)) (q : List ℕ)
    → get (written_over writes ws) q ≡ newer (get writes q) (find key_cmp q ws)
get-written_over writes [] q = refl
get-written_over writes (w ∷ ws) q =
    get-insert nat_list_cmp_total (written_over writes ws) w.0 w.1 q
    ∙ cond-newer (eq_by_cmp key_cmp q w.0) (get writes q) (get (written_over writes ws) q) w.1 (find key_cmp q ws)
    (get-written_over writes ws q)

three : (a b c : Option Change) → newer (newer a b) c ≡ newer a (newer b c)
three a b None = refl
three a b (Some c) = refl

pub get-written_by : (writes : Writes) (later : List Writes) (q : List ℕ)
    → get (written_by writes later) q ≡ newer (get writes q) (last_change later q)
get-written_by writes [] q = refl
get-written_by writes (w ∷ later) q =
    get-written_by (written_over writes (entries w)) later q
    ∙ ap (λ o. newer o (last_change later q))
    (get-written_over writes (entries w) q ∙ ap (newer (get writes q)) (sym (get-entries w q)))
    ∙ three (get writes q) (get w q) (last_change later q)

nothing_before : (o : Option Change) → newer None o ≡ o
nothing_before None = refl
nothing_before (Some c) = refl

between : (since number : ℕ) → List Numbered → List Numbered
between since number cs = filter (is_between since number) cs

pub get-changes_between : (h : History) (since number : ℕ) (q : List ℕ)
    → get (changes_between h since number) q ≡ last_change (map writes_of (filter (is_between since number) (all_numbered h))) q
get-changes_between h since number q =
    get-written_by empty (map writes_of (filter (is_between since number) (all_numbered h))) q
    ∙ ap (λ o. newer o (last_change (map writes_of (filter (is_between since number) (all_numbered h))) q))
    (get-empty key_cmp q)
    ∙ nothing_before (last_change (map writes_of (filter (is_between since number) (all_numbered h))) q)

-- ---- rising numbers part at a number

is_less : (k n : ℕ) → T (is_lt (nat_cmp k n)) → k < n
is_less k n lt = by_test (nat_lt k n) refl lt
  where
    by_test : (b : Bool) → nat_lt k n ≡ b → T (is_lt (nat_cmp k n)) → k < n
    by_test true is lt = grind (arith, nat_tests)
    by_test false is lt = grind (arith, nat_tests, lt)

none_up : (m k : ℕ) (cs : List Numbered) → m ≤ k → IsBelow k cs → up_to m cs ≡ []
none_up m k [] le below = refl
none_up m k (c ∷ cs) le below = by (nat_le c.0 m) refl (none_up m k cs le (is_below_rest c cs k below))
  where
    by : (b : Bool) → nat_le c.0 m ≡ b → up_to m cs ≡ [] → if_kept b c (up_to m cs) ≡ []
    by true is later =
        let less = is_less k c.0 (is_below_first c cs k below) in
        let low : c.0 ≤ m = grind (arith, nat_tests, is) in absurd (omega (arith, less, low, le))
    by false is later = later

pub parted : (m n : ℕ) (cs : List Numbered) → m ≤ n → AreSorted cs
    → up_to n cs ≡ up_to m cs ++ filter (is_between m n) cs
parted m n [] le sorted = refl
parted m n (c ∷ cs) le sorted =
    by (nat_le c.0 m) (nat_lt m c.0) (nat_le c.0 n) refl refl refl (parted m n cs le (rest_sorted c cs sorted))
  where
    by : (a b t : Bool) → nat_le c.0 m ≡ a → nat_lt m c.0 ≡ b → nat_le c.0 n ≡ t
        → up_to n cs ≡ up_to m cs ++ filter (is_between m n) cs
        → if_kept t c (up_to n cs) ≡ if_kept a c (up_to m cs) ++ if_kept (b && t) c (filter (is_between m n) cs)
    by true false true p q r later = ap (λ (ds : List Numbered). c ∷ ds) later
    by true true t p q r later = absurd (grind (arith, nat_tests, p, q))
    by true false false p q r later = absurd (grind (arith, nat_tests, p, q, r))
    by false false t p q r later = absurd (grind (arith, nat_tests, p, q))
    by false true false p q r later = later
    by false true true p q r later =
        let high : m < c.0 = grind (arith, nat_tests, q) in
        ap (λ (ds : List Numbered). c ∷ ds) later
        ∙ ap (λ (ds : List Numbered). c ∷ (ds ++ filter (is_between m n) cs)) (none_up m c.0 cs (omega (arith, high)) (first_below c cs sorted))
        ∙ ap (λ (ds : List Numbered). ds ++ (c ∷ filter (is_between m n) cs))
        (sym (none_up m c.0 cs (omega (arith, high)) (first_below c cs sorted)))

-- ---- what stands at the later number

pub value_at-later : (h : History) (m n : ℕ) (q : List ℕ) → m ≤ n
    → value_at h n q ≡ value_left (value_at h m q) (get (changes_between h m n) q)
unfolding known_value
value_at-later h m n q le =
    let old : List Numbered = up_to m (all_numbered h) in
    let new : List Numbered = filter (is_between m n) (all_numbered h) in
    value_at-known h n q
    ∙ ap (λ (cs : List Numbered). left_by (map writes_of cs) q) (parted m n (all_numbered h) le (numbers_rise h))
    ∙ ap (λ (ws : List Writes). left_by ws q) (map-append writes_of old new)
    ∙ ap (value_left None) (change-append q (map writes_of old) (map writes_of new))
    ∙ sym (value_left-newer None (last_change (map writes_of old) q) (last_change (map writes_of new) q))
    ∙ ap (λ v. value_left v (last_change (map writes_of new) q)) (sym (value_at-known h m q))
    ∙ ap (value_left (value_at h m q)) (sym (get-changes_between h m n q))

cond-left : (b : Bool) (old mid : Option Stored) (change : Change) (later : Option Change) → mid ≡ value_left old later
    → cond b (value_left mid (Some change)) mid ≡ value_left old (cond b (Some change) later)
cond-left true old mid (Set value) later e = refl
cond-left true old mid Delete later e = refl
cond-left false old mid change later e = e

get-changed : (pairs : Pairs) (key : List ℕ) (change : Change) (q : List ℕ)
    → get (Rattle.vl_model.specs.History.changed pairs key change) q ≡ cond (eq_by_cmp key_cmp q key) (value_left (get pairs q) (Some change)) (get pairs q)
get-changed pairs key (Set value) q = get-insert nat_list_cmp_total pairs key value q
get-changed pairs key Delete q = get-remove nat_list_cmp_total pairs key q

pub get-changed_by : (pairs : Pairs) (writes : List (List ℕ × Change)) (q : List ℕ)
    → get (changed_by pairs writes) q ≡ value_left (get pairs q) (find key_cmp q writes)
get-changed_by pairs [] q = refl
get-changed_by pairs (write ∷ others) q =
    get-changed (changed_by pairs others) write.0 write.1 q
    ∙ cond-left (eq_by_cmp key_cmp q write.0) (get pairs q) (get (changed_by pairs others) q) write.1
    (find key_cmp q others) (get-changed_by pairs others q)

pub same_pairs : (a b : Pairs) → ((q : List ℕ) → get a q ≡ get b q) → a ≡ b
same_pairs a b same = same_map nat_list_cmp_total (slice_cmp-IsAntisymmetric nat_cmp-IsAntisymmetric) a b same

-- Since a number above 0: what stood there, changed, is what stands at the later number.
pub contents_later : (h : History) (since number : ℕ) → suc since ≤ number
    → changed_by (contents_at h (suc since)) (changes h (suc since) number) ≡ contents_at h number
contents_later h since number le =
    same_pairs (changed_by (contents_at h (suc since)) (changes h (suc since) number)) (contents_at h number) (λ q.
    get-changed_by (contents_at h (suc since)) (changes h (suc since) number) q
    ∙ ap (λ v. value_left v (find key_cmp q (changes h (suc since) number))) (get-contents_at h (suc since) q)
    ∙ ap (value_left (value_at h (suc since) q)) (sym (get-entries (changes_between h (suc since) number) q))
    ∙ sym (value_at-later h (suc since) number q le)
    ∙ sym (get-contents_at h number q))

-- ---- since 0

find_set : (q : List ℕ) (rows : List Row)
    → find key_cmp q (map as_set rows) ≡ option_map Set (find key_cmp q rows)
find_set q [] = refl
find_set q (row ∷ rows) = elim (eq_by_cmp key_cmp q row.0) as
    (λ b. cond b (Some (Set row.1)) (find key_cmp q (map as_set rows)) ≡ option_map Set
    (cond b (Some row.1) (find key_cmp q rows))) [
      | true ↦ refl
      | false ↦ find_set q rows
    ]

left_by_set : (o : Option Stored) → value_left None (option_map Set o) ≡ o
left_by_set None = refl
left_by_set (Some value) = refl

-- Since 0: nothing, changed, is all that stands.
pub contents_from_nothing : (h : History) (number : ℕ)
    → changed_by empty (changes h 0 number) ≡ contents_at h number
contents_from_nothing h number =
    let nothing : Pairs = empty in
    same_pairs (changed_by nothing (changes h 0 number)) (contents_at h number) (λ q.
    get-changed_by nothing (changes h 0 number) q
    ∙ ap (λ v. value_left v (find key_cmp q (changes h 0 number))) (get-empty key_cmp q)
    ∙ ap (value_left None) (find_set q (entries (contents_at h number)))
    ∙ left_by_set (find key_cmp q (entries (contents_at h number)))
    ∙ sym (get-entries (contents_at h number) q))

-- ---- they rise

below_set : (key : List ℕ) (rows : List Row) → below_all key_cmp key (map as_set rows) ≡ below_all key_cmp key rows
below_set key [] = refl
below_set key (row ∷ rows) = ap (λ (b : Bool). is_lt (key_cmp key row.0) && b) (below_set key rows)

sorted_set : (rows : List Row) → is_sorted key_cmp (map as_set rows) ≡ is_sorted key_cmp rows
sorted_set [] = refl
sorted_set (row ∷ rows) =
    ap (λ (b : Bool). b && is_sorted key_cmp (map as_set rows)) (below_set row.0 rows)
    ∙ ap (λ (b : Bool). below_all key_cmp row.0 rows && b) (sorted_set rows)

-- What a backup tells is in key order.
pub changes_rise : (h : History) (since number : ℕ) → T (is_sorted key_cmp (changes h since number))
changes_rise h zero number = subst T (sym (sorted_set (entries (contents_at h number)))) (entries_sorted (contents_at h number))
changes_rise h (suc since) number = entries_sorted (changes_between h (suc since) number)
