-- What is shown hangs on each key's entries alone, and not on their order but for entries of one
-- key and version.
use Rattle.std.proofs.Common.{◌≡◌, ℕ, ◌+◌, ◌≤◌, Bool, true, false, cond, ◌&&◌, List, [], ◌∷◌, ◌++◌, refl, ap, sym}
use Rattle.std.proofs.Common.{◌∙◌, subst, arith, zero-add}
use Rattle.std.specs.Prelude.{◌==◌}
use Rattle.std.specs.List.{AllByRecursion}
use Rattle.std.specs.Ordering.{eq_by_cmp, is_eq}
use Rattle.std.specs.declared.cmp.Ordering.TheVariants.{Less, Equal, Greater}
use Rattle.vl_model.specs.Keys.{key_cmp}
use Rattle.vl_model.specs.History.{History}
use Rattle.vl_model.specs.Entries.{entry_cmp, by_order, put, in_order}
use Rattle.vl_model.specs.Winners.{Logs, newest_of, winner, resolved_at}
use Rattle.vl_model.specs.laws.WinnerLaws.{winner-append, winner-middle, winner-in_order, winner-of_key, key_tied}
use Rattle.vl_model.specs.declared.entry.Entry.{Entry}
use Rattle.vl_engine_model.specs.Shows.{Shows, Means, times}
use Rattle.vl_engine_model.specs.laws.ShowsLaws.{shows_as, all_parts, all_both, times-append}
use Rattle.vl_engine_model.specs.Shown.{of_key, Gathers}

-- ---- in order

all-put : (P : Entry → Type 0) (e : Entry) (es : List Entry) → P e → AllByRecursion P es
    → AllByRecursion P (put e es)
all-put P e [] here all = (here, tt)
all-put P e (f ∷ fs) here all = elim (entry_cmp e f) as (λ r. AllByRecursion P (by_order r (e ∷ f ∷ fs) (e ∷ fs) (f ∷ put e fs))) [
  | Less ↦ (here, all)
  | Equal ↦ (here, all.1)
  | Greater ↦ (all.0, all-put P e fs here all.1)
]

times-put : (key : List ℕ) (version : ℕ) (e : Entry) (es : List Entry)
    → times key version (put e es) ≤ times key version (e ∷ es)
times-put key version e [] = omega arith
times-put key version e (f ∷ fs) =
    let later = times-put key version e fs in
    elim (entry_cmp e f) as (λ r. times key version (by_order r (e ∷ f ∷ fs) (e ∷ fs) (f ∷ put e fs)) ≤ times key version (e ∷ f ∷ fs)) [
      | Less ↦ omega arith
      | Equal ↦ omega arith
      | Greater ↦ omega (arith, later)
    ]

pub all-in_order : (P : Entry → Type 0) (es : List Entry) → AllByRecursion P es
    → AllByRecursion P (in_order es)
all-in_order P [] all = tt
all-in_order P (e ∷ es) all = all-put P e (in_order es) all.0 (all-in_order P es all.1)

times-in_order : (key : List ℕ) (version : ℕ) (es : List Entry)
    → times key version (in_order es) ≤ times key version es
times-in_order key version [] = omega arith
times-in_order key version (e ∷ es) = let here = times-put key version e (in_order es) in let later = times-in_order key
    version es in omega arith

-- entries in front of others in order, taken in among these
pub all-taken_in : (P : Entry → Type 0) (es fs : List Entry) → AllByRecursion P (es ++ in_order fs)
    → AllByRecursion P (in_order (es ++ fs))
all-taken_in P [] fs all = all
all-taken_in P (e ∷ es) fs all = all-put P e (in_order (es ++ fs)) all.0 (all-taken_in P es fs all.1)

times-taken_in : (key : List ℕ) (version : ℕ) (es fs : List Entry)
    → times key version (in_order (es ++ fs)) ≤ times key version (es ++ in_order fs)
times-taken_in key version [] fs = omega arith
times-taken_in key version (e ∷ es) fs = let here = times-put key version e (in_order (es ++ fs)) in let
    later = times-taken_in key version es fs in omega arith

winner-taken_in : (key : List ℕ) (number : ℕ) (es fs : List Entry)
    → winner (in_order (es ++ fs)) key number ≡ winner (es ++ in_order fs) key number
winner-taken_in key number es fs =
    winner-in_order key number (es ++ fs)
    ∙ winner-append key number es fs
    ∙ ap (newest_of (winner es key number)) (sym (winner-in_order key number fs))
    ∙ sym (winner-append key number es (in_order fs))

-- Entries in front of a memtable, taken in by it, show the same.
pub shows_taken_in : (logs : Logs) (new old back : List Entry) (h : History) (from : List ℕ → ℕ) (to : ℕ)
    → Shows logs ((new ++ in_order old) ++ back) h from to
    → Shows logs (in_order (new ++ old) ++ back) h from to
shows_taken_in logs new old back h from to shows =
    shows_as logs logs ((new ++ in_order old) ++ back) (in_order (new ++ old) ++ back) h from to shows
    (λ key number low high. ap (resolved_at logs)
    (winner-middle key number [] (in_order (new ++ old)) (new ++ in_order old) back (winner-taken_in key number new old)))
    (λ meaning all. let both = all_parts (Means logs meaning) (new ++ in_order old) back all in
    all_both (Means logs meaning) (in_order (new ++ old)) back (all-taken_in (Means logs meaning) new old both.0) both.1)
    (λ key version.
    let a = times-append key version (in_order (new ++ old)) back in
    let b = times-append key version (new ++ in_order old) back in
    let less = times-taken_in key version new old in
    omega arith)

-- Entries in the middle, put in order, show the same.
pub shows_in_order : (logs : Logs) (front es back : List Entry) (h : History) (from : List ℕ → ℕ) (to : ℕ)
    → Shows logs (front ++ es ++ back) h from to
    → Shows logs (front ++ in_order es ++ back) h from to
shows_in_order logs front es back h from to shows =
    shows_as logs logs (front ++ es ++ back) (front ++ in_order es ++ back) h from to shows
    (λ key number low high. ap (resolved_at logs) (winner-middle key number front (in_order es) es back (winner-in_order key number es)))
    (λ meaning all.
    let outer = all_parts (Means logs meaning) (front ++ es) back all in
    let inner = all_parts (Means logs meaning) front es outer.0 in
    all_both (Means logs meaning) (front ++ in_order es) back
    (all_both (Means logs meaning) front (in_order es) inner.0 (all-in_order (Means logs meaning) es inner.1)) outer.1)
    (λ key version.
    let a = times-append key version (front ++ in_order es) back in
    let b = times-append key version front (in_order es) in
    let c = times-append key version (front ++ es) back in
    let d = times-append key version front es in
    let less = times-in_order key version es in
    omega arith)

-- ---- key by key

all_of_key : (P : Entry → Type 0) (key : List ℕ) (es : List Entry) → AllByRecursion P es
    → AllByRecursion P (of_key key es)
all_of_key P key [] all = tt
all_of_key P key (e ∷ es) all = elim (eq_by_cmp key_cmp key e.key) as (λ b. AllByRecursion P (cond b (e ∷ of_key key es) (of_key key es))) [
  | true ↦ (all.0, all_of_key P key es all.1)
  | false ↦ all_of_key P key es all.1
]

tail_of_key : (P : Entry → Type 0) (key : List ℕ) (e : Entry) (es : List Entry)
    → AllByRecursion P (of_key key (e ∷ es)) → AllByRecursion P (of_key key es)
tail_of_key P key e es = by_test (eq_by_cmp key_cmp key e.key)
  where
    by_test : (b : Bool) → AllByRecursion P (cond b (e ∷ of_key key es) (of_key key es))
        → AllByRecursion P (of_key key es)
    by_test true all = all.1
    by_test false all = all

head_of_key : (P : Entry → Type 0) (e : Entry) (es : List Entry)
    → AllByRecursion P (of_key e.key (e ∷ es)) → P e
head_of_key P e es all = (subst (λ b. AllByRecursion P (cond b (e ∷ of_key e.key es) (of_key e.key es))) (ap is_eq (key_tied e.key)) all).0

all_by_key : (P : Entry → Type 0) (es : List Entry)
    → ((key : List ℕ) → AllByRecursion P (of_key key es)) → AllByRecursion P es
all_by_key P [] all = tt
all_by_key P (e ∷ es) all = (head_of_key P e es (all e.key), all_by_key P es (λ key. tail_of_key P key e es (all key)))

times-of_key : (key : List ℕ) (version : ℕ) (es : List Entry)
    → times key version (of_key key es) ≡ times key version es
times-of_key key version [] = refl
times-of_key key version (e ∷ es) =
    elim (eq_by_cmp key_cmp key e.key) as
    (λ b. eq_by_cmp key_cmp key e.key ≡ b → times key version (cond b (e ∷ of_key key es) (of_key key es)) ≡ cond
    (eq_by_cmp key_cmp key e.key && (e.version == version)) 1 0 + times key version es) [
      | true ↦ λ is. ap (λ n. cond (eq_by_cmp key_cmp key e.key && (e.version == version)) 1 0 + n) (times-of_key key version es)
      | false ↦ λ is. times-of_key key version es ∙ sym (zero-add (times key version es))
          ∙ ap (λ b. cond (b && (e.version == version)) 1 0 + times key version es) (sym is)
    ] refl

-- Where each key has the same entries in the same order, the same is shown: entries of other keys
-- may stand between them or not.
pub shows_by_key : (logs : Logs) (es fs : List Entry) (h : History) (from : List ℕ → ℕ) (to : ℕ)
    → ((key : List ℕ) → of_key key fs ≡ of_key key es) → Shows logs es h from to
    → Shows logs fs h from to
shows_by_key logs es fs h from to same shows =
    shows_as logs logs es fs h from to shows
    (λ key number low high. ap (resolved_at logs)
    (sym (winner-of_key key number fs) ∙ ap (λ (xs : List Entry). winner xs key number) (same key) ∙ winner-of_key key number es))
    (λ meaning all. all_by_key (Means logs meaning) fs
    (λ key. subst (AllByRecursion (Means logs meaning)) (sym (same key)) (all_of_key (Means logs meaning) key es all)))
    (λ key version.
    let here = times-of_key key version fs in
    let there = times-of_key key version es in
    let between = ap (λ (xs : List Entry). times key version xs) (same key) in
    omega arith)

-- ---- gathered

-- what is so of a key's entries is so of them in order
own_in_order : (P : Entry → Type 0) (key : List ℕ) (es : List Entry)
    → AllByRecursion P (of_key key es) → AllByRecursion P (of_key key (in_order es))
own_in_order P key es all = to_key (in_order es)
    (all-in_order (λ (e : Entry). eq_by_cmp key_cmp key e.key ≡ true → P e) es (from_key es all))
  where
    from_key : (xs : List Entry) → AllByRecursion P (of_key key xs)
        → AllByRecursion (λ (e : Entry). eq_by_cmp key_cmp key e.key ≡ true → P e) xs
    from_key [] all = tt
    from_key (x ∷ xs) all = (first (eq_by_cmp key_cmp key x.key) all, from_key xs (tail_of_key P key x xs all))
      where
        first : (b : Bool) → AllByRecursion P (cond b (x ∷ of_key key xs) (of_key key xs))
            → b ≡ true → P x
        first true all is = all.0
        first false all is = absurd cc

    to_key : (xs : List Entry)
        → AllByRecursion (λ (e : Entry). eq_by_cmp key_cmp key e.key ≡ true → P e) xs
        → AllByRecursion P (of_key key xs)
    to_key [] all = tt
    to_key (x ∷ xs) all = elim (eq_by_cmp key_cmp key x.key) as
        (λ b. eq_by_cmp key_cmp key x.key ≡ b → AllByRecursion P (cond b (x ∷ of_key key xs) (of_key key xs))) [
          | true ↦ λ is. (all.0 is, to_key xs all.1)
          | false ↦ λ is. to_key xs all.1
        ] refl

module _ (logs : Logs) (es some fs : List Entry) (gathers : (key : List ℕ) → Gathers key es some fs) where
  gathered_winner : (key : List ℕ) (number : ℕ) → winner fs key number ≡ winner es key number
  gathered_winner key number =
      let g = gathers key in
      sym (winner-of_key key number fs)
      ∙ ap (λ (xs : List Entry). winner xs key number) g.together
      ∙ winner-middle key number g.front (of_key key (in_order some)) (of_key key some) g.behind
      (winner-of_key key number (in_order some) ∙ winner-in_order key number some ∙ sym (winner-of_key key number some))
      ∙ ap (λ (xs : List Entry). winner xs key number) (sym g.apart)
      ∙ winner-of_key key number es

  gathered_own : (P : Entry → Type 0) (key : List ℕ) → AllByRecursion P es
      → AllByRecursion P (of_key key fs)
  gathered_own P key all =
      let g = gathers key in
      let outer = all_parts P (g.front ++ of_key key some) g.behind (subst (AllByRecursion P) g.apart (all_of_key P key es all)) in
      let inner = all_parts P g.front (of_key key some) outer.0 in
      subst (AllByRecursion P) (sym g.together)
      (all_both P (g.front ++ of_key key (in_order some)) g.behind
      (all_both P g.front (of_key key (in_order some)) inner.0 (own_in_order P key some inner.1)) outer.1)

  gathered_times : (key : List ℕ) (version : ℕ) → times key version fs ≤ times key version es
  gathered_times key version =
      let g = gathers key in
      let own_fs = times-of_key key version fs in
      let own_es = times-of_key key version es in
      let now = ap (λ (xs : List Entry). times key version xs) g.together in
      let before = ap (λ (xs : List Entry). times key version xs) g.apart in
      let now_parts = times-append key version (g.front ++ of_key key (in_order some)) g.behind in
      let now_front = times-append key version g.front (of_key key (in_order some)) in
      let before_parts = times-append key version (g.front ++ of_key key some) g.behind in
      let before_front = times-append key version g.front (of_key key some) in
      let ordered = times-in_order key version some in
      let own_ordered = times-of_key key version (in_order some) in
      let own_some = times-of_key key version some in
      omega arith

  -- Entries gathered from several places show the same, where none of another place stands between those of one key.
  pub shows_gathered : (h : History) (from : List ℕ → ℕ) (to : ℕ) → Shows logs es h from to
      → Shows logs fs h from to
  shows_gathered h from to shows =
      shows_as logs logs es fs h from to shows
      (λ key number low high. ap (resolved_at logs) (gathered_winner key number))
      (λ meaning all. all_by_key (Means logs meaning) fs (λ key. gathered_own (Means logs meaning) key all))
      gathered_times
