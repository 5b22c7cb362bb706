-- Laws of histories, for the proofs of every crate above: what stands at a key, as the contents
-- have it, before any commit and after one more.
use Rattle.std.proofs.Common.{◌≡◌, ◌+◌, ◌-◌, ◌≤◌, ℕ, List, [], ◌∷◌, ◌++◌, length, take, refl, ap, sym, ◌∙◌, cond, Bool, true, false, arith}
use Rattle.std.proofs.Common.{length-append}
use Rattle.std.proofs.lemmas.List.{take-append-le}
use Rattle.std.proofs.lemmas.Grind.{common_steps}
use Rattle.std.proofs.lemmas.Bool.Decides.{nat_tests}
use Rattle.std.specs.Prelude.{T, Option, Some, None, min, nat_le, ◌&&◌, map}
use Rattle.std.specs.Option.{option_map}
use Rattle.std.specs.List.{filter}
use Rattle.std.specs.FinMap.{get, entries, entries_sorted, find, empty, from_sorted, entries-from_sorted}
use Rattle.std.specs.FinMap.{get-from_sorted, get-empty, get-insert, get-remove, get-entries, len-entries, len-empty}
use Rattle.std.specs.FinMap.{same_map, nat_cmp-IsAntisymmetric, slice_cmp-IsAntisymmetric}
use Rattle.std.specs.FinMap.Entries.{is_sorted, below_all}
use Rattle.std.specs.Cmp.Lexicographic.{nat_list_cmp_total}
use Rattle.std.specs.Ordering.{eq_by_cmp, is_lt, nat_cmp}
use Rattle.vl_model.specs.Keys.{Stored, Row, Pairs, Writes, key_cmp}
use Rattle.vl_model.specs.History.{History, Past, standing_at, past_value, known_up_to, Extends, newer, last_change}
use Rattle.vl_model.specs.History.{value_left, value_at, changed, changed_by, pairs_after, contents_at, commits_up_to}
use Rattle.vl_model.specs.History.{last_number, with_commit}
use Rattle.vl_model.specs.declared.change.Change.{Change}
use Rattle.vl_model.specs.declared.change.Change.TheVariants.{Set, Delete}

-- one change reaches its own key and no other
get-changed : (pairs : Pairs) (key : List ℕ) (change : Change) (q : List ℕ)
    → get (changed pairs key change) q ≡ cond (eq_by_cmp key_cmp q key) (value_left (get pairs q) (Some change)) (get pairs q)
get-changed pairs key (Set value) q = get-insert nat_list_cmp_total pairs key value q
get-changed pairs key Delete q = get-remove nat_list_cmp_total pairs key q

value_left-cond : (b : Bool) (old mid : Option Stored) (change : Change) (later : Option Change)
    → mid ≡ value_left old later
    → cond b (value_left mid (Some change)) mid ≡ value_left old (cond b (Some change) later)
value_left-cond true old mid (Set value) later e = refl
value_left-cond true old mid Delete later e = refl
value_left-cond false old mid change later e = e

get-changed_by : (pairs : Pairs) (writes : List (List ℕ × Change)) (q : List ℕ)
    → get (changed_by pairs writes) q ≡ value_left (get pairs q) (find key_cmp q writes)
get-changed_by pairs [] q = refl
get-changed_by pairs (write ∷ others) q =
    get-changed (changed_by pairs others) write.0 write.1 q
    ∙ value_left-cond (eq_by_cmp key_cmp q write.0) (get pairs q) (get (changed_by pairs others) q) write.1
    (find key_cmp q others) (get-changed_by pairs others q)

-- what came first counts only where nothing came later
pub value_left-newer : (old : Option Stored) (first later : Option Change)
    → value_left (value_left old first) later ≡ value_left old (newer first later)
value_left-newer old first None = refl
value_left-newer old first (Some (Set value)) = refl
value_left-newer old first (Some Delete) = refl

get-pairs_after : (pairs : Pairs) (commits : List Writes) (q : List ℕ)
    → get (pairs_after pairs commits) q ≡ value_left (get pairs q) (last_change commits q)
get-pairs_after pairs [] q = refl
get-pairs_after pairs (writes ∷ later) q =
    get-pairs_after (changed_by pairs (entries writes)) later q
    ∙ ap (λ v. value_left v (last_change later q))
    (get-changed_by pairs (entries writes) q ∙ ap (value_left (get pairs q)) (sym (get-entries writes q)))
    ∙ value_left-newer (get pairs q) (get writes q) (last_change later q)

pub get-contents_at : (h : History) (n : ℕ) (q : List ℕ) → get (contents_at h n) q ≡ value_at h n q
get-contents_at h n q =
    get-pairs_after (pairs_after empty (known_up_to (min n h.first) h.base)) (commits_up_to h n) q
    ∙ ap (λ old. value_left old (last_change (commits_up_to h n) q))
    (get-pairs_after empty (known_up_to (min n h.first) h.base) q
    ∙ ap (λ old. value_left old (last_change (known_up_to (min n h.first) h.base) q)) (get-empty key_cmp q))

-- the lesser of two
pub min-low : (m n : ℕ) → m ≤ n → min m n ≡ m
min-low m n le = grind (arith, nat_tests)

pub min-high : (m n : ℕ) → n ≤ m → min m n ≡ n
min-high m n le = grind (arith, nat_tests)

pub past_stays : (h : History) (m n : ℕ) (q : List ℕ) → h.first ≤ m → h.first ≤ n
    → past_value h.base (min m h.first) q ≡ past_value h.base (min n h.first) q
past_stays h m n q low high =
    ap (λ k. past_value h.base k q) (min-high m h.first low ∙ sym (min-high n h.first high))

-- a commit behind the others is the last that may name the key
last_change-append : (commits : List Writes) (writes : Writes) (q : List ℕ)
    → last_change (commits ++ (writes ∷ [])) q ≡ newer (last_change commits q) (get writes q)
last_change-append [] writes q = newer-none (get writes q)
  where
    newer-none : (x : Option Change) → newer x None ≡ newer None x
    newer-none None = refl
    newer-none (Some x) = refl
last_change-append (first ∷ later) writes q =
    ap (newer (get first q)) (last_change-append later writes q) ∙ newer-newer (get first q) (last_change later q) (get writes q)
  where
    newer-newer : (a b c : Option Change) → newer a (newer b c) ≡ newer (newer a b) c
    newer-newer a b None = refl
    newer-newer a b (Some c) = refl

pub take_all : (commits : List Writes) (n : ℕ) → length commits ≤ n → take n commits ≡ commits
take_all commits n le = grind (arith, common_steps)

pub value_at-with_commit : (h : History) (writes : Writes) (q : List ℕ)
    → value_at (with_commit h writes) (last_number h + 1) q ≡ value_left (value_at h (last_number h) q) (get writes q)
value_at-with_commit h writes q =
    let last = h.first + length h.commits in
    ap (λ cs. value_left (past_value h.base (min (last + 1) h.first) q) (last_change cs q))
    (take_all (h.commits ++ (writes ∷ [])) (last + 1 - h.first) (omega (arith, length-append h.commits (writes ∷ []))))
    ∙ ap (λ old. value_left old (last_change (h.commits ++ (writes ∷ [])) q)) (past_stays h (last + 1) last q (omega arith) (omega arith))
    ∙ ap (value_left (past_value h.base (min last h.first) q)) (last_change-append h.commits writes q)
    ∙ sym (value_left-newer (past_value h.base (min last h.first) q) (last_change h.commits q) (get writes q))
    ∙ ap (λ cs. value_left (value_left (past_value h.base (min last h.first) q) (last_change cs q)) (get writes q))
    (sym (take_all h.commits (last - h.first) (omega arith)))

-- up to the first number what stands is the base's
pub value_at-first : (h : History) (n : ℕ) (q : List ℕ) → n ≤ h.first
    → value_at h n q ≡ past_value h.base n q
value_at-first h n q le =
    let none : n - h.first ≡ 0 = omega arith in
    ap (λ m. value_left (past_value h.base (min n h.first) q) (last_change (take m h.commits) q)) none
    ∙ ap (λ k. past_value h.base k q) (min-low n h.first le)

-- what stood at a number stays, whatever is committed after it
pub value_at-extends : (least most : History) → Extends least most → (n : ℕ) (q : List ℕ)
    → n ≤ last_number least → value_at most n q ≡ value_at least n q
value_at-extends least most e n q le =
    ap (λ (b : ℕ). value_left (past_value most.base (min n b) q) (last_change (take (n - b) most.commits) q)) e.first
    ∙ ap (λ (base : Past). value_left (past_value base (min n least.first) q) (last_change (take (n - least.first) most.commits) q)) e.base
    ∙ ap (λ (cs : List Writes). value_left (past_value least.base (min n least.first) q)
    (last_change (take (n - least.first) cs) q)) e.commits
    ∙ ap (λ (cs : List Writes). value_left (past_value least.base (min n least.first) q) (last_change cs q))
    (take-append-le (n - least.first) least.commits e.later (omega arith))

pub last_number-extends : (least most : History) → Extends least most
    → last_number least ≤ last_number most
last_number-extends least most e =
    let first = e.first in
    let count = ap length e.commits in
    let both = length-append least.commits e.later in
    omega arith

pub with_commit-extends : (h : History) (writes : Writes) → Extends h (with_commit h writes)
with_commit-extends h writes = record { first = refl; base = refl; later = writes ∷ []; commits = refl }

pub value_at-before : (h : History) (writes : Writes) (n : ℕ) (q : List ℕ) → n ≤ last_number h
    → value_at (with_commit h writes) n q ≡ value_at h n q
value_at-before h writes n q le = value_at-extends h (with_commit h writes) (with_commit-extends h writes) n q le

-- ---- a base without versions

none_at_all : {A : Type 0} → (xs : List A) → length xs ≡ 0 → xs ≡ []
none_at_all [] is = refl
none_at_all (x ∷ xs) is = absurd (omega arith)

pub past_value-empty : (n : ℕ) (q : List ℕ) → past_value empty n q ≡ None
past_value-empty n q =
    let past : Past = empty in
    let nothing : entries past ≡ [] = none_at_all (entries past) (sym (len-entries past) ∙ len-empty nat_cmp Writes) in
    ap (λ (cs : List (ℕ × Writes)). value_left None
    (last_change (map (λ (c : ℕ × Writes). c.1) (filter (λ (c : ℕ × Writes). nat_le c.0 n) cs)) q)) nothing

-- ---- a base of one version for each key

below_set : (key : List ℕ) (rows : List Row) → T (below_all key_cmp key rows)
    → T (below_all key_cmp key (map (λ (row : Row). (row.0, Set row.1)) rows))
below_set key [] below = tt
below_set key (row ∷ rows) below = both (is_lt (key_cmp key row.0)) (λ later. below_set key rows later) below
  where
    both : (b : Bool) → (T (below_all key_cmp key rows) → T (below_all key_cmp key (map (λ (x : Row). (x.0, Set x.1)) rows)))
        → T (b && below_all key_cmp key rows) → T (b && below_all key_cmp key (map (λ (x : Row). (x.0, Set x.1)) rows))
    both true then later = then later
    both false then later = absurd later

sorted_set : (rows : List Row) → T (is_sorted key_cmp rows)
    → T (is_sorted key_cmp (map (λ (row : Row). (row.0, Set row.1)) rows))
sorted_set [] rising = tt
sorted_set (row ∷ rows) rising = both (below_all key_cmp row.0 rows)
    (below_all key_cmp row.0 (map (λ (x : Row). (x.0, Set x.1)) rows)) (below_set row.0 rows) (λ later. sorted_set rows later) rising
  where
    both : (a b : Bool) → (T a → T b) → (T (is_sorted key_cmp rows) → T (is_sorted key_cmp (map (λ (x : Row). (x.0, Set x.1)) rows)))
        → T (a && is_sorted key_cmp rows) → T (b && is_sorted key_cmp (map (λ (x : Row). (x.0, Set x.1)) rows))
    both true true below then later = then later
    both true false below then later = absurd (below tt)
    both false b below then later = absurd later

find_set : (q : List ℕ) (rows : List Row)
    → find key_cmp q (map (λ (row : Row). (row.0, Set row.1)) rows) ≡ option_map Set (find key_cmp q rows)
find_set q [] = refl
find_set q (row ∷ rows) = elim (eq_by_cmp key_cmp q row.0) as
    (λ b. cond b (Some (Set row.1)) (find key_cmp q (map (λ (x : Row). (x.0, Set x.1)) rows)) ≡ option_map Set
    (cond b (Some row.1) (find key_cmp q rows))) [
      | true ↦ refl
      | false ↦ find_set q rows
    ]

left_by_set : (o : Option Stored) → value_left None (option_map Set o) ≡ o
left_by_set None = refl
left_by_set (Some value) = refl

-- from its number on it gives what stood
pub past_value-standing_at : (m n : ℕ) (pairs : Pairs) (q : List ℕ) → m ≤ n
    → past_value (standing_at m pairs) n q ≡ get pairs q
past_value-standing_at m n pairs q le =
    let writes : Writes = from_sorted (map (λ (row : Row). (row.0, Set row.1)) (entries pairs)) in
    let counted : nat_le m n ≡ true = grind (arith, nat_tests) in
    ap (λ (cs : List (ℕ × Writes)). value_left None
    (last_change (map (λ (c : ℕ × Writes). c.1) (filter (λ (c : ℕ × Writes). nat_le c.0 n) cs)) q))
    (entries-from_sorted nat_cmp ((m, writes) ∷ []) tt)
    ∙ ap (λ b. value_left None (last_change (map (λ (c : ℕ × Writes). c.1) (cond b ((m, writes) ∷ []) [])) q)) counted
    ∙ ap (value_left None) (get-from_sorted key_cmp (map (λ (row : Row). (row.0, Set row.1)) (entries pairs)) q
    (sorted_set (entries pairs) (entries_sorted pairs)) ∙ find_set q (entries pairs) ∙ ap (option_map Set) (sym (get-entries pairs q)))
    ∙ left_by_set (get pairs q)

-- a history that begins with it begins with what stood
pub contents_at-standing_at : (m : ℕ) (pairs : Pairs)
    → contents_at (record { first = m; base = standing_at m pairs; commits = [] }) m ≡ pairs
contents_at-standing_at m pairs =
    let h : History = record { first = m; base = standing_at m pairs; commits = [] } in
    same_map nat_list_cmp_total (slice_cmp-IsAntisymmetric nat_cmp-IsAntisymmetric) (contents_at h m) pairs
    (λ q. get-contents_at h m q ∙ value_at-first h m q (omega arith) ∙ past_value-standing_at m m pairs q (omega arith))
