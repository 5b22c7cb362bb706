-- What a load makes of a stream's records, and what it makes again.
use Rattle.std.specs.Prelude.{◌≡◌, ℕ, ◌+◌, T, IsTrue, Bool, true, false, ◌&&◌, List, [], ◌∷◌, ◌++◌, map, Option, None, Some, refl}
use Rattle.std.specs.FinMap.{find, from_sorted, get, get-from_sorted, is_sorted}
use Rattle.std.specs.FinMap.Entries.{below_all}
use Rattle.std.specs.Ordering.{eq_by_cmp, is_eq, is_lt}
use Rattle.std.specs.declared.cmp.Ordering.{Ordering}
use Rattle.std.specs.declared.cmp.Ordering.TheVariants.{Less, Equal, Greater}
use Rattle.std.proofs.Common.{sym, ap, subst, ◌∙◌, cond, length-append, arith}
use Rattle.vl_model.specs.History.{History, changed_by, contents_at, last_change, last_number, newer, value_at, value_left, with_commit}
use Rattle.vl_model.specs.Keys.{Pairs, Stored, Writes, key_cmp}
use Rattle.vl_model.specs.declared.change.Change.{Change}
use Rattle.vl_model.specs.declared.change.Change.TheVariants.{Set, Delete}
use Rattle.vl_model.specs.laws.HistoryLaws.{get-contents_at, value_at-with_commit, value_left-newer}
use Rattle.vl_model.specs.laws.WinnerLaws.{same_key}
pub use Rattle.vl_stream.specs.Batches.{AreRising}
use Rattle.vl_stream.specs.Batches.{Write, joined}
use Rattle.vl_engine_model_laws.specs.laws.ChangeLaws.{get-changed_by, same_pairs}
use Rattle.vl_stream.specs.Loads.{loaded}
use Rattle.vl_engine_model_laws.specs.laws.KnownVersions.{first_part, second_part}

abbrev pub as_writes : List Write → Writes
as_writes b = from_sorted b

pub value_at-loaded : (h : History) (bs : List (List Write)) (q : List ℕ)
    → value_at (loaded h bs) (last_number (loaded h bs)) q ≡ value_left (value_at h (last_number h) q) (last_change (map as_writes bs) q)
value_at-loaded h [] q = refl
value_at-loaded h (b ∷ bs) q =
    let next : History = with_commit h (as_writes b) in
    let count : last_number next ≡ last_number h + 1 = omega (arith, length-append h.commits (as_writes b ∷ [])) in
    value_at-loaded next bs q
    ∙ ap (λ n. value_left (value_at next n q) (last_change (map as_writes bs) q)) count
    ∙ ap (λ v. value_left v (last_change (map as_writes bs) q)) (value_at-with_commit h (as_writes b) q)
    ∙ value_left-newer (value_at h (last_number h) q) (get (as_writes b) q) (last_change (map as_writes bs) q)

-- a batch more is a commit more
pub loaded-append : (h : History) (bs cs : List (List Write)) → loaded h (bs ++ cs) ≡ loaded (loaded h bs) cs
loaded-append h [] cs = refl
loaded-append h (b ∷ bs) cs = loaded-append (with_commit h (from_sorted b)) bs cs

-- what a test says
pub of_test : (b : Bool) → IsTrue b → T b
of_test b is = subst T (sym is) tt

-- ---- of keys that rise each is named once

both_parts : (a b : Bool) → T a → T b → T (a && b)
both_parts true b p q = q
both_parts false b p q = absurd p

pub rising_front : (b ws : List Write) → AreRising (b ++ ws) → AreRising b
rising_front [] ws rising = tt
rising_front (w ∷ b) ws rising =
    both_parts (below_all key_cmp w.0 b) (is_sorted key_cmp b)
    (below_front b (first_part (below_all key_cmp w.0 (b ++ ws)) (is_sorted key_cmp (b ++ ws)) rising))
    (rising_front b ws (second_part (below_all key_cmp w.0 (b ++ ws)) (is_sorted key_cmp (b ++ ws)) rising))
  where
    below_front : (xs : List Write) → T (below_all key_cmp w.0 (xs ++ ws)) → T (below_all key_cmp w.0 xs)
    below_front [] below = tt
    below_front (x ∷ xs) below =
        both_parts (is_lt (key_cmp w.0 x.0)) (below_all key_cmp w.0 xs)
        (first_part (is_lt (key_cmp w.0 x.0)) (below_all key_cmp w.0 (xs ++ ws)) below)
        (below_front xs (second_part (is_lt (key_cmp w.0 x.0)) (below_all key_cmp w.0 (xs ++ ws)) below))

pub rising_back : (b ws : List Write) → AreRising (b ++ ws) → AreRising ws
rising_back [] ws rising = rising
rising_back (w ∷ b) ws rising =
    rising_back b ws (second_part (below_all key_cmp w.0 (b ++ ws)) (is_sorted key_cmp (b ++ ws)) rising)

below_back : (key : List ℕ) (b ws : List Write) → T (below_all key_cmp key (b ++ ws)) → T (below_all key_cmp key ws)
below_back key [] ws below = below
below_back key (w ∷ b) ws below =
    below_back key b ws (second_part (is_lt (key_cmp key w.0)) (below_all key_cmp key (b ++ ws)) below)

-- what is below all of them isn't found
pub not_found : (q : List ℕ) (ws : List Write) → T (below_all key_cmp q ws) → find key_cmp q ws ≡ None
not_found q [] below = refl
not_found q (w ∷ ws) below = by (key_cmp q w.0) (first_part (is_lt (key_cmp q w.0)) (below_all key_cmp q ws) below)
    (not_found q ws (second_part (is_lt (key_cmp q w.0)) (below_all key_cmp q ws) below))
  where
    by : (o : Ordering) → T (is_lt o) → find key_cmp q ws ≡ None
        → cond (is_eq o) (Some w.1) (find key_cmp q ws) ≡ None
    by Less less later = later
    by Equal less later = absurd less
    by Greater less later = absurd less

newer_apart : (b : Bool) (c : Change) (front back all : Option Change) → (b ≡ true → back ≡ None) → all ≡ newer front back
    → cond b (Some c) all ≡ newer (cond b (Some c) front) back
newer_apart true c front None all none later = refl
newer_apart true c front (Some x) all none later = absurd (no (none refl))
  where
    no : Some x ≡ None → ⊥
    no is = cc
newer_apart false c front back all none later = later

find-both : (q : List ℕ) (b ws : List Write) → AreRising (b ++ ws)
    → find key_cmp q (b ++ ws) ≡ newer (find key_cmp q b) (find key_cmp q ws)
find-both q [] ws rising = nothing (find key_cmp q ws)
  where
    nothing : (o : Option Change) → o ≡ newer None o
    nothing None = refl
    nothing (Some c) = refl
find-both q (w ∷ b) ws rising =
    newer_apart (eq_by_cmp key_cmp q w.0) w.1 (find key_cmp q b) (find key_cmp q ws) (find key_cmp q (b ++ ws))
    (λ same. ap (λ k. find key_cmp k ws) (same_key q w.0 same) ∙ not_found w.0 ws
    (below_back w.0 b ws (first_part (below_all key_cmp w.0 (b ++ ws)) (is_sorted key_cmp (b ++ ws)) rising)))
    (find-both q b ws (second_part (below_all key_cmp w.0 (b ++ ws)) (is_sorted key_cmp (b ++ ws)) rising))

pub last_change-batches : (q : List ℕ) (bs : List (List Write)) → AreRising (joined bs)
    → last_change (map as_writes bs) q ≡ find key_cmp q (joined bs)
last_change-batches q [] rising = refl
last_change-batches q (b ∷ bs) rising =
    ap (λ o. newer o (last_change (map as_writes bs) q)) (get-from_sorted key_cmp b q (rising_front b (joined bs) rising))
    ∙ ap (newer (find key_cmp q b)) (last_change-batches q bs (rising_back b (joined bs) rising))
    ∙ sym (find-both q b (joined bs) rising)

-- ---- what a load makes

-- The contents are those before, changed by the records.
pub contents_loaded : (h : History) (bs : List (List Write)) → AreRising (joined bs)
    → contents_at (loaded h bs) (last_number (loaded h bs)) ≡ changed_by (contents_at h (last_number h)) (joined bs)
contents_loaded h bs rising =
    same_pairs (contents_at (loaded h bs) (last_number (loaded h bs))) (changed_by (contents_at h (last_number h)) (joined bs)) (λ q.
    get-contents_at (loaded h bs) (last_number (loaded h bs)) q
    ∙ value_at-loaded h bs q
    ∙ ap (value_left (value_at h (last_number h) q)) (last_change-batches q bs rising)
    ∙ ap (λ v. value_left v (find key_cmp q (joined bs))) (sym (get-contents_at h (last_number h) q))
    ∙ sym (get-changed_by (contents_at h (last_number h)) (joined bs) q))

-- ---- loaded again

covered : (old : Option Stored) (front all : Option Change) → ((c : Change) → front ≡ Some c → all ≡ Some c)
    → value_left (value_left old front) all ≡ value_left old all
covered old None all covers = refl
covered old (Some c) all covers =
    ap (value_left (value_left old (Some c))) (covers c refl) ∙ again c ∙ sym (ap (value_left old) (covers c refl))
  where
    again : (x : Change) → value_left (value_left old (Some c)) (Some x) ≡ value_left old (Some x)
    again (Set value) = refl
    again Delete = refl

found_front : (q : List ℕ) (c : Change) (b ws : List Write) → find key_cmp q b ≡ Some c → find key_cmp q (b ++ ws) ≡ Some c
found_front q c [] ws found = absurd (no found)
  where
    no : None ≡ Some c → ⊥
    no is = cc
found_front q c (w ∷ b) ws found = by (eq_by_cmp key_cmp q w.0) found (λ later. found_front q c b ws later)
  where
    by : (t : Bool) → cond t (Some w.1) (find key_cmp q b) ≡ Some c
        → (find key_cmp q b ≡ Some c → find key_cmp q (b ++ ws) ≡ Some c)
        → cond t (Some w.1) (find key_cmp q (b ++ ws)) ≡ Some c
    by true is later = is
    by false is later = later is

-- Where a front of the records was loaded before, loading all of them comes to the same.
pub changed_again : (pairs : Pairs) (front back : List Write)
    → changed_by (changed_by pairs front) (front ++ back) ≡ changed_by pairs (front ++ back)
changed_again pairs front back =
    same_pairs (changed_by (changed_by pairs front) (front ++ back)) (changed_by pairs (front ++ back)) (λ q.
    get-changed_by (changed_by pairs front) (front ++ back) q
    ∙ ap (λ v. value_left v (find key_cmp q (front ++ back))) (get-changed_by pairs front q)
    ∙ covered (get pairs q) (find key_cmp q front) (find key_cmp q (front ++ back))
    (λ c found. found_front q c front back found)
    ∙ sym (get-changed_by pairs (front ++ back) q))
