-- The entries of a commit in front of the sources show the history with that commit.
use Rattle.std.proofs.Common.{◌≡◌, ℕ, ◌+◌, ◌≤◌, ◌<◌, Bool, true, false, cond, ◌&&◌, List, [], ◌∷◌, ◌++◌, map, refl}
use Rattle.std.proofs.Common.{ap, sym, ◌∙◌, subst, arith, ⊎_elim, zero-add}
use Rattle.std.proofs.lemmas.Bool.{cases_lt}
use Rattle.std.proofs.lemmas.Bool.Decides.{nat_tests}
use Rattle.std.specs.Prelude.{T, Option, Some, None, nat_le, ◌==◌, if◌then◌else◌}
use Rattle.std.specs.Ordering.{eq_by_cmp, is_eq, is_lt}
use Rattle.std.specs.List.{AllByRecursion}
use Rattle.std.specs.declared.cmp.Ordering.{Ordering}
use Rattle.std.specs.declared.cmp.Ordering.TheVariants.{Less, Equal, Greater}
use Rattle.std.specs.FinMap.{entries, find, get-entries, entries_sorted}
use Rattle.std.specs.FinMap.Entries.{is_sorted, below_all}
use Rattle.vl_model.specs.Keys.{Stored, Writes, key_cmp}
use Rattle.vl_model.specs.Frames.{record_length}
use Rattle.vl_model.specs.History.{History, value_at, value_left, last_number, with_commit}
use Rattle.vl_model.specs.laws.HistoryLaws.{value_at-with_commit, value_at-before}
use Rattle.vl_model.specs.Winners.{Logs, counts, only_if, newest_of, winner, resolved, resolved_at}
use Rattle.vl_model.specs.laws.WinnerLaws.{winner-append, same_key, key_tied}
use Rattle.vl_model.specs.declared.change.Change.{Change}
use Rattle.vl_model.specs.declared.change.Change.TheVariants.{Set, Delete}
use Rattle.vl_model.specs.declared.entry.Entry.{Entry}
use Rattle.vl_model.specs.declared.pointer.Pointer.{Pointer}
use Rattle.vl_engine_model.specs.Logs.{committed_records, record_entry, logged_body, pointer_to}
use Rattle.vl_engine_model.specs.Shows.{Shows, Meaning, Means, AreUpTo, times}
use Rattle.vl_engine_model.specs.laws.ShowsLaws.{all_both, times-append}

abbrev pub committed_entries : (format segment place number : ℕ) → List (List ℕ × Change) → List Entry
committed_entries format segment place number writes = map (record_entry format segment) (committed_records format place number writes)

-- what a change makes of its key
abbrev pub change_meant : Option Change → Option Stored
change_meant change = value_left None change

logged_leads : (logs : Logs) (key : List ℕ) (change : Change) (p : Pointer)
    → resolved logs key (logged_body change p) ≡ Some (change_meant (Some change))
logged_leads logs key (Set value) p = refl
logged_leads logs key Delete p = refl

-- ---- each key of a map is found with what it has there

first_part : (a b : Bool) → T (a && b) → T a
first_part true b both = tt
first_part false b both = absurd both

second_part : (a b : Bool) → T (a && b) → T b
second_part true b both = both
second_part false b both = absurd both

not_tied : (r : Ordering) → T (is_lt r) → is_eq r ≡ false
not_tied Less lt = refl
not_tied Equal lt = absurd lt
not_tied Greater lt = absurd lt

not_after : (r : Ordering) → T (is_lt r) → r ≡ Equal → ⊥
not_after Less lt e = cc
not_after Equal lt e = lt
not_after Greater lt e = cc

-- each change is the one that its key finds
abbrev pub AreFound : List (List ℕ × Change) → List (List ℕ × Change) → Type 0
AreFound all some = AllByRecursion (λ w. find key_cmp w.0 all ≡ Some w.1) some

find_first : (w : List ℕ × Change) (ws : List (List ℕ × Change))
    → find key_cmp w.0 (w ∷ ws) ≡ Some w.1
find_first w ws = ap (λ r. cond (is_eq r) (Some w.1) (find key_cmp w.0 ws)) (key_tied w.0)

apart_from : (key other : List ℕ) → T (is_lt (key_cmp key other))
    → eq_by_cmp key_cmp other key ≡ false
apart_from key other lt = by_test (eq_by_cmp key_cmp other key) refl
  where
    by_test : (b : Bool) → eq_by_cmp key_cmp other key ≡ b → eq_by_cmp key_cmp other key ≡ false
    by_test false is = is
    by_test true is =
        let same : other ≡ key = same_key other key is in
        let tied : key_cmp key other ≡ Equal = ap (key_cmp key) same ∙ key_tied key in
        absurd (not_after (key_cmp key other) lt tied)

found_later : (w : List ℕ × Change) (all ws : List (List ℕ × Change)) → T (below_all key_cmp w.0 ws)
    → AreFound all ws → AreFound (w ∷ all) ws
found_later w all [] below found = tt
found_later w all (v ∷ vs) below found = (
  ap (λ b. cond b (Some w.1) (find key_cmp v.0 all))
      (apart_from w.0 v.0 (first_part (is_lt (key_cmp w.0 v.0)) (below_all key_cmp w.0 vs) below)) ∙ found.0,
  found_later w all vs (second_part (is_lt (key_cmp w.0 v.0)) (below_all key_cmp w.0 vs) below) found.1,
)

pub all_found : (ws : List (List ℕ × Change)) → T (is_sorted key_cmp ws) → AreFound ws ws
all_found [] rising = tt
all_found (w ∷ ws) rising = (
  find_first w ws,
  found_later w ws ws (first_part (below_all key_cmp w.0 ws) (is_sorted key_cmp ws) rising)
      (all_found ws (second_part (below_all key_cmp w.0 ws) (is_sorted key_cmp ws) rising)),
)

-- ---- a commit's winners

module _ (format segment number : ℕ) where
  -- below its number a commit doesn't count
  early : (key : List ℕ) (n place : ℕ) (ws : List (List ℕ × Change)) → n < number
      → winner (committed_entries format segment place number ws) key n ≡ None
  early key n place [] lt = refl
  early key n place (w ∷ ws) lt =
      let not_yet : nat_le number n ≡ false = grind (arith, nat_tests) in
      let first : Entry = record_entry format segment (record { key = w.0; version = number; change = w.1; place = place }) in
      ap (λ b. newest_of (only_if b first)
      (winner (committed_entries format segment (place + record_length format w.0 w.1) number ws) key n))
      (neither (eq_by_cmp key_cmp key w.0) (nat_le number n) not_yet)
      ∙ early key n (place + record_length format w.0 w.1) ws lt
    where
      neither : (a b : Bool) → b ≡ false → (a && b) ≡ false
      neither true b e = e
      neither false b e = refl

  -- from its number on it is the winner of each key that it names
  abbrev IsNamed : Logs → Option Entry → Option Change → Type 0
  IsNamed logs None None = Unit {0}
  IsNamed logs None (Some change) = ⊥
  IsNamed logs (Some e) None = ⊥
  IsNamed logs (Some e) (Some change) = (e.version ≡ number) × (resolved logs e.key e.body ≡ Some (change_meant (Some change)))

  late : (logs : Logs) (key : List ℕ) (n place : ℕ) (ws : List (List ℕ × Change)) → number ≤ n
      → IsNamed logs (winner (committed_entries format segment place number ws) key n) (find key_cmp key ws)
  late logs key n place [] le = tt
  late logs key n place (w ∷ ws) le = by_test (eq_by_cmp key_cmp key w.0) refl
      (late logs key n (place + record_length format w.0 w.1) ws le)
    where
      first : Entry
      first = record_entry format segment (record { key = w.0; version = number; change = w.1; place = place })

      rest : Option Entry
      rest = winner (committed_entries format segment (place + record_length format w.0 w.1) number ws) key n

      counted : nat_le number n ≡ true
      counted = grind (arith, nat_tests)

      newest : (r : Option Entry) (c : Option Change) → IsNamed logs r c
          → newest_of (Some first) r ≡ Some first
      newest None c is = refl
      newest (Some f) None is = absurd is
      newest (Some f) (Some c) is = let v = is.0 in let t : nat_le f.version number ≡ true = grind (arith, nat_tests)
          in ap (λ b. cond b (Some first) (Some f)) t

      by_test : (b : Bool) → eq_by_cmp key_cmp key w.0 ≡ b → IsNamed logs rest (find key_cmp key ws)
          → IsNamed logs (newest_of (only_if (eq_by_cmp key_cmp key w.0 && nat_le number n) first) rest) (find key_cmp key (w ∷ ws))
      by_test true is later =
          subst (λ b. IsNamed logs (newest_of (only_if (b && nat_le number n) first) rest)
          (cond b (Some w.1) (find key_cmp key ws))) (sym is)
          (subst (λ b. IsNamed logs (newest_of (only_if b first) rest) (Some w.1)) (sym counted)
          (subst (λ r. IsNamed logs r (Some w.1)) (sym (newest rest (find key_cmp key ws) later)) (
            refl,
            logged_leads logs w.0 w.1
                (pointer_to format segment (record { key = w.0; version = number; change = w.1; place = place })),
          )))
      by_test false is later =
          subst (λ b. IsNamed logs (newest_of (only_if (b && nat_le number n) first) rest)
          (cond b (Some w.1) (find key_cmp key ws))) (sym is) later

-- ---- winners of older entries

-- entries of versions of at most a number have the same winner from there on, and it is such an
-- entry
abbrev IsAtMost : ℕ → Option Entry → Type 0
IsAtMost last None = Unit {0}
IsAtMost last (Some e) = e.version ≤ last

either_at_most : (last : ℕ) (a b : Option Entry) → IsAtMost last a → IsAtMost last b
    → IsAtMost last (newest_of a b)
either_at_most last None b p q = q
either_at_most last (Some e) None p q = p
either_at_most last (Some e) (Some f) p q = elim (nat_le f.version e.version) as
    (λ t. IsAtMost last (cond t (Some e) (Some f))) [ true ↦ p | false ↦ q ]

winner_at_most : (last n : ℕ) (key : List ℕ) (es : List Entry) → AreUpTo last es
    → IsAtMost last (winner es key n)
winner_at_most last n key [] up = tt
winner_at_most last n key (e ∷ es) up =
    either_at_most last (only_if (counts key n e) e) (winner es key n)
    (elim (counts key n e) as (λ t. IsAtMost last (only_if t e)) [ true ↦ up.0 | false ↦ tt ]) (winner_at_most last n key es up.1)

pub same_from : (last n : ℕ) (key : List ℕ) (es : List Entry) → AreUpTo last es → last ≤ n
    → winner es key n ≡ winner es key last
same_from last n key [] up le = refl
same_from last n key (e ∷ es) up le =
    let below = up.0 in
    let here : nat_le e.version n ≡ true = grind (arith, nat_tests) in
    let there : nat_le e.version last ≡ true = grind (arith, nat_tests) in
    ap (λ b. newest_of (only_if (eq_by_cmp key_cmp key e.key && b) e) (winner es key n)) (here ∙ sym there)
    ∙ ap (newest_of (only_if (counts key last e) e)) (same_from last n key es up.1 le)

-- ---- how often a key and version stand

-- older entries aren't of the commit's version
times_above : (key : List ℕ) (version last : ℕ) (es : List Entry) → AreUpTo last es → last < version
    → times key version es ≡ 0
times_above key version last [] up lt = refl
times_above key version last (e ∷ es) up lt =
    let below = up.0 in
    let apart : (e.version == version) ≡ false = grind (arith, nat_tests) in
    ap (λ b. cond b 1 0 + times key version es) (neither (eq_by_cmp key_cmp key e.key) (e.version == version) apart)
    ∙ zero-add (times key version es) ∙ times_above key version last es up.1 lt
  where
    neither : (a b : Bool) → b ≡ false → (a && b) ≡ false
    neither true b e = e
    neither false b e = refl

module _ (format segment number : ℕ) (key : List ℕ) (version : ℕ) where
  -- nor are the commit's of an older version
  times_other : (place : ℕ) (ws : List (List ℕ × Change)) → (number == version) ≡ false
      → times key version (committed_entries format segment place number ws) ≡ 0
  times_other place [] apart = refl
  times_other place (w ∷ ws) apart =
      ap (λ b. cond b 1 0 + times key version
      (committed_entries format segment (place + record_length format w.0 w.1) number ws))
      (neither (eq_by_cmp key_cmp key w.0) (number == version) apart)
      ∙ zero-add (times key version (committed_entries format segment (place + record_length format w.0 w.1) number ws))
      ∙ times_other (place + record_length format w.0 w.1) ws apart
    where
      neither : (a b : Bool) → b ≡ false → (a && b) ≡ false
      neither true b e = e
      neither false b e = refl

  below_none : (place : ℕ) (ws : List (List ℕ × Change)) → T (below_all key_cmp key ws)
      → times key version (committed_entries format segment place number ws) ≡ 0
  below_none place [] below = refl
  below_none place (w ∷ ws) below =
      ap (λ b. cond (b && (number == version)) 1 0 + times key version
      (committed_entries format segment (place + record_length format w.0 w.1) number ws))
      (not_tied (key_cmp key w.0) (first_part (is_lt (key_cmp key w.0)) (below_all key_cmp key ws) below))
      ∙ zero-add (times key version (committed_entries format segment (place + record_length format w.0 w.1) number ws))
      ∙ below_none (place + record_length format w.0 w.1) ws (second_part (is_lt (key_cmp key w.0)) (below_all key_cmp key ws) below)

  -- no key comes twice in a commit
  once : (place : ℕ) (ws : List (List ℕ × Change)) → T (is_sorted key_cmp ws)
      → times key version (committed_entries format segment place number ws) ≤ 1
  once place [] rising = omega arith
  once place (w ∷ ws) rising =
      by_test (eq_by_cmp key_cmp key w.0) refl
      (once (place + record_length format w.0 w.1) ws (second_part (below_all key_cmp w.0 ws) (is_sorted key_cmp ws) rising))
    where
      rest : ℕ
      rest = times key version (committed_entries format segment (place + record_length format w.0 w.1) number ws)

      one_at_most : (b : Bool) → cond b 1 0 + 0 ≤ 1
      one_at_most true = omega arith
      one_at_most false = omega arith

      by_test : (b : Bool) → eq_by_cmp key_cmp key w.0 ≡ b → rest ≤ 1
          → cond (eq_by_cmp key_cmp key w.0 && (number == version)) 1 0 + rest ≤ 1
      by_test false is later = subst (λ b. cond (b && (number == version)) 1 0 + rest ≤ 1) (sym is) (omega (arith, later))
      by_test true is later =
          let none : rest ≡ 0 = below_none (place + record_length format w.0 w.1) ws
          (subst (λ (k : List ℕ). T (below_all key_cmp k ws)) (sym (same_key key w.0 is))
          (first_part (below_all key_cmp w.0 ws) (is_sorted key_cmp ws) rising)) in
          subst (λ n. cond (eq_by_cmp key_cmp key w.0 && (number == version)) 1 0 + n ≤ 1) (sym none)
          (one_at_most (eq_by_cmp key_cmp key w.0 && (number == version)))

-- ---- the history with the commit

module _ (logs : Logs) (es : List Entry) (h : History) (from : List ℕ → ℕ) (writes : Writes) (format segment place : ℕ) where
  meant : Meaning → Meaning
  meant meaning key version = if version == last_number h + 1 then change_meant (find key_cmp key (entries writes)) else meaning key version

  older : (meaning : Meaning) (key : List ℕ) (version : ℕ) → (version == last_number h + 1) ≡ false
      → meant meaning key version ≡ meaning key version
  unfolding meant
  older meaning key version t = ap (λ b. cond b (change_meant (find key_cmp key (entries writes))) (meaning key version)) t

  not_new : (version : ℕ) → version ≤ last_number h → (version == last_number h + 1) ≡ false
  not_new version le = grind (arith, nat_tests)

  newer : (meaning : Meaning) (key : List ℕ)
      → meant meaning key (last_number h + 1) ≡ change_meant (find key_cmp key (entries writes))
  unfolding meant
  newer meaning key =
      let t : (last_number h + 1 == last_number h + 1) ≡ true = grind (arith, nat_tests) in
      ap (λ b. cond b (change_meant (find key_cmp key (entries writes))) (meaning key (last_number h + 1))) t

  old_mean : (meaning : Meaning) (fs : List Entry) → AreUpTo (last_number h) fs
      → AllByRecursion (Means logs meaning) fs → AllByRecursion (Means logs (meant meaning)) fs
  old_mean meaning [] up all = tt
  old_mean meaning (f ∷ fs) up
      all = (all.0 ∙ ap Some (sym (older meaning f.key f.version (not_new f.version up.0))), old_mean meaning fs up.1 all.1)

  new_mean : (meaning : Meaning) (at : ℕ) (ws : List (List ℕ × Change))
      → AreFound (entries writes) ws
      → AllByRecursion (Means logs (meant meaning)) (committed_entries format segment at (last_number h + 1) ws)
  new_mean meaning at [] found = tt
  new_mean meaning at (w ∷ ws) found = (
    logged_leads logs w.0 w.1 _ ∙ ap Some (sym (newer meaning w.0 ∙ ap change_meant found.0)),
    new_mean meaning
        (at + record_length format w.0 w.1) ws found.1,
  )

  at_last : (o : Option Change) (new old : Option Entry) (value : Option Stored)
      → IsNamed format segment (last_number h + 1) logs new o → IsAtMost (last_number h) old
      → resolved_at logs old ≡ Some value
      → resolved_at logs (newest_of new old) ≡ Some (value_left value o)
  at_last None None old value named up leads = leads
  at_last None (Some e) old value named up leads = absurd named
  at_last (Some c) None old value named up leads = absurd named
  at_last (Some (Set v)) (Some e) None value named up leads = named.1
  at_last (Some Delete) (Some e) None value named up leads = named.1
  at_last (Some (Set v)) (Some e) (Some f) value named up leads =
      let n = named.0 in let t : nat_le f.version e.version ≡ true = grind (arith, nat_tests) in ap
      (λ b. resolved_at logs (cond b (Some e) (Some f))) t ∙ named.1
  at_last (Some Delete) (Some e) (Some f) value named up leads =
      let n = named.0 in let t : nat_le f.version e.version ≡ true = grind (arith, nat_tests) in ap
      (λ b. resolved_at logs (cond b (Some e) (Some f))) t ∙ named.1

  new : List Entry
  new = committed_entries format segment place (last_number h + 1) (entries writes)

  alone : (meaning : Meaning) → AreUpTo (last_number h) es
      → ((key : List ℕ) (version : ℕ) → meaning key version ≡ None → times key version es ≤ 1)
      → (key : List ℕ) (version : ℕ) → meant meaning key version ≡ None
      → times key version (new ++ es) ≤ 1
  unfolding new
  alone meaning up few key version none = by_test (version == last_number h + 1) refl
    where
      both : times key version (committed_entries format segment place (last_number h + 1) (entries writes) ++ es) ≡
          times key version (committed_entries format segment place (last_number h + 1) (entries writes)) + times key version es
      both = times-append key version (committed_entries format segment place (last_number h + 1) (entries writes)) es

      by_test : (b : Bool) → (version == last_number h + 1) ≡ b
          → times key version (committed_entries format segment place (last_number h + 1) (entries writes) ++ es) ≤ 1
      by_test true is =
          let same : version ≡ last_number h + 1 = grind (arith, nat_tests) in
          let front = once format segment (last_number h + 1) key version place (entries writes) (entries_sorted writes) in
          let back : times key version es ≡ 0 = times_above key version (last_number h) es up (omega arith) in
          omega (arith, both, front, back)
      by_test false is =
          let apart : (last_number h + 1 == version) ≡ false = grind (arith, nat_tests) in
          let front = times_other format segment (last_number h + 1) key version place (entries writes) apart in
          let back = few key version (sym (older meaning key version is) ∙ none) in
          omega (arith, both, front, back)

  pub shows_committed : AreUpTo (last_number h) es → ((key : List ℕ) → from key ≤ last_number h)
      → Shows logs es h from (last_number h)
      → Shows logs (committed_entries format segment place (last_number h + 1) (entries writes) ++ es)
      (with_commit h writes) from (last_number h + 1)
  unfolding new
  shows_committed up begins shows = record {
    values = λ key n low high. ⊎_elim
        (λ (before : n < last_number h + 1).
        ap (resolved_at logs) (winner-append key n (committed_entries format segment place (last_number h + 1) (entries writes)) es
        ∙ ap (λ w. newest_of w (winner es key n)) (early format segment (last_number h + 1) key n place (entries writes) before))
        ∙ shows.values key n low (omega arith) ∙ ap Some (sym (value_at-before h writes n key (omega arith))))
        (λ (there : last_number h + 1 ≤ n).
        let is : n ≡ last_number h + 1 = omega arith in
        let old_is : resolved_at logs (winner es key n) ≡ Some (value_at h (last_number h) key) =
        ap (resolved_at logs) (same_from (last_number h) n key es up (omega arith))
        ∙ shows.values key (last_number h) (begins key) (omega arith) in
        ap (resolved_at logs) (winner-append key n (committed_entries format segment place (last_number h + 1) (entries writes)) es)
        ∙ at_last (find key_cmp key (entries writes))
        (winner (committed_entries format segment place (last_number h + 1) (entries writes)) key n) (winner es key n)
        (value_at h (last_number h) key)
        (late format segment (last_number h + 1) logs key n place (entries writes) there)
        (winner_at_most (last_number h) n key es up) old_is
        ∙ ap Some (ap (value_left (value_at h (last_number h) key)) (sym (get-entries writes key))
        ∙ sym (value_at-with_commit h writes key) ∙ ap (λ m. value_at (with_commit h writes) m key) (sym is)))
        (cases_lt n (last_number h + 1));
    meaning = meant shows.meaning;
    resolves = all_both (Means logs (meant shows.meaning)) (committed_entries format segment place (last_number h + 1) (entries writes)) es
        (new_mean shows.meaning place (entries writes) (all_found (entries writes) (entries_sorted writes)))
        (old_mean shows.meaning es up shows.resolves);
    gone_once = alone shows.meaning up shows.gone_once;
  }
