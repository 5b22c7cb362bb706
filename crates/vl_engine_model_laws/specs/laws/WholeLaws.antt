-- Sources that have lost nothing but what is at most `gone` tell just the changes since there.
use Rattle.std.specs.Prelude.{◌≡◌, ◌⊎◌, ◌<◌, ◌≤◌, ℕ, ◌+◌, Bool, true, false, ◌&&◌, ◌||◌, nat_le, nat_lt, ◌==◌}
use Rattle.std.specs.Prelude.{List, [], ◌∷◌, map, is_some, Option, None, Some, refl}
use Rattle.std.specs.Option.{option_map}
use Rattle.std.specs.FinMap.{get}
use Rattle.std.specs.List.{filter}
use Rattle.std.specs.Ordering.{eq_by_cmp}
use Rattle.std.proofs.Common.{sym, ap, subst, ◌∙◌, cond, inl, inr, ⊎_elim, arith}
use Rattle.std.proofs.lemmas.Bool.Decides.{nat_tests}
use Rattle.vl_engine_model.specs.Shown.{AreOf}
use Rattle.vl_engine_model.specs.Spared.{AreSpared, Passes}
use Rattle.vl_model.specs.History.{History, last_change, newer, value_at, value_left}
use Rattle.vl_model.specs.Keys.{Stored, Writes, key_cmp}
use Rattle.vl_model.specs.Numbers.{greater, greatest_below, has}
use Rattle.vl_model.specs.Versions.{Numbered, all_numbered, naming, versions, versions_in}
use Rattle.vl_model.specs.Winners.{Logs, counts, newest_of, only_if, resolved, resolved_at, winner}
use Rattle.vl_model.specs.declared.change.Change.{Change}
use Rattle.vl_model.specs.declared.change.Change.TheVariants.{Set, Delete}
use Rattle.vl_model.specs.declared.entry.Entry.{Entry}
use Rattle.vl_model.specs.laws.NumberLaws as laws
use Rattle.vl_model.specs.laws.NumberLaws.{IsFound, greatest-found, greatest-reaches}
use Rattle.vl_engine_model_laws.specs.laws.ChangeLaws.{get-changes_between, value_at-later}
use Rattle.vl_engine_model.specs.Changes.{above, change_to, changes_between, is_between, told, told_if}
use Rattle.vl_engine_model_laws.specs.laws.KnownVersions.{writes_of}

true_false : true ≡ false → ⊥
true_false is = cc

abbrev version_of : Entry → ℕ
version_of e = e.version

-- ---- the version of a winner

greater-newest : (a b : Option Entry)
    → option_map version_of (newest_of a b) ≡ greater (option_map version_of a) (option_map version_of b)
greater-newest None b = refl
greater-newest (Some e) None = refl
greater-newest (Some e) (Some f) = elim (nat_le f.version e.version) as
    (λ t. option_map version_of (cond t (Some e) (Some f)) ≡ cond t (Some e.version) (Some f.version))
    [ true ↦ refl | false ↦ refl ]

-- it is the greatest of the key's versions among the entries that is at most the number
pub winner-version : (key : List ℕ) (number : ℕ) (es : List Entry)
    → option_map version_of (winner es key number) ≡ greatest_below (number + 1) (versions_in es key)
winner-version key number [] = refl
winner-version key number (e ∷ es) =
    greater-newest (only_if (counts key number e) e) (winner es key number)
    ∙ by_key (eq_by_cmp key_cmp key e.key) (winner-version key number es)
  where
    le_lt : nat_le e.version number ≡ nat_lt e.version (number + 1)
    le_lt = grind (arith, nat_tests)

    by_number : (b c : Bool) → b ≡ c → option_map version_of (only_if b e) ≡ cond c (Some e.version) None
    by_number true true is = refl
    by_number true false is = absurd cc
    by_number false true is = absurd cc
    by_number false false is = refl

    by_key : (b : Bool) → option_map version_of (winner es key number) ≡ greatest_below (number + 1) (versions_in es key)
        → greater (option_map version_of (only_if (b && nat_le e.version number) e)) (option_map version_of (winner es key number))
        ≡ greatest_below (number + 1) (map version_of
        (cond b (e ∷ filter (λ (x : Entry). eq_by_cmp key_cmp key x.key) es) (filter (λ (x : Entry). eq_by_cmp key_cmp key x.key) es)))
    by_key true later =
        ap (λ o. greater o (option_map version_of (winner es key number)))
        (by_number (nat_le e.version number) (nat_lt e.version (number + 1)) le_lt)
        ∙ ap (greater (cond (nat_lt e.version (number + 1)) (Some e.version) None)) later
    by_key false later = later

-- ---- versions above a number

not_above : (since m : ℕ) → m ≤ since → above since (Some m) ≡ None
not_above since m le = let no : nat_lt since m ≡ false = grind (arith, nat_tests) in ap (λ t. cond t (Some m) None) no

-- Since a number from `gone` on the winner's version and the history's newest are the same, or neither is above it.
pub newest_seen : (h : History) (es : List Entry) (to floor gone since number : ℕ) (key : List ℕ)
    → gone ≤ since → floor ≤ number → number ≤ to → AreOf h es → AreSpared (versions h key) (versions_in es key) to floor 1 gone
    → above since (option_map version_of (winner es key number)) ≡ above since (greatest_below (number + 1) (versions h key))
newest_seen h es to floor gone since number key old up le of whole =
    ap (above since) (winner-version key number es)
    ∙ by_newest (greatest_below (number + 1) (versions h key)) (greatest_below (number + 1) (versions_in es key))
    (greatest-found (number + 1) (versions h key)) (greatest-found (number + 1) (versions_in es key))
    (λ m there less. greatest-reaches m (number + 1) (versions h key) there less)
    (λ m there less. greatest-reaches m (number + 1) (versions_in es key) there less)
  where
    by_newest : (b a : Option ℕ)
        → IsFound (number + 1) (versions h key) b → IsFound (number + 1) (versions_in es key) a
        → ((m : ℕ) → has m (versions h key) ≡ true → m < number + 1 → laws.Reaches m b)
        → ((m : ℕ) → has m (versions_in es key) ≡ true → m < number + 1 → laws.Reaches m a)
        → above since a ≡ above since b
    by_newest None None found_b found_a all_b all_a = refl
    by_newest None (Some w) found_b found_a all_b all_a = absurd (all_b w (of key w found_a.1) found_a.0)
    by_newest (Some m) a found_b found_a all_b all_a = by_there (has m (versions_in es key)) refl
      where
        least : (w : ℕ) → has w (versions_in es key) ≡ true → w < number + 1 → w ≤ m
        least w there less = all_b w (of key w there) less

        same_as : (o : Option ℕ) → IsFound (number + 1) (versions_in es key) o → laws.Reaches m o → o ≡ Some m
        same_as None found r = absurd r
        same_as (Some w) found r = let l = least w found.1 found.0 in let same : w ≡ m = omega (arith, l, r) in ap Some same

        none_above : (o : Option ℕ) → IsFound (number + 1) (versions_in es key) o → m ≤ since → above since o ≡ None
        none_above None found low = refl
        none_above (Some w) found low = let l = least w found.1 found.0 in not_above since w (omega (arith, l, low))

        passes : (o : Option ℕ) → IsFound (floor + 1) (versions_in es key) o → Passes m o → ⊥
        passes None found p = p
        passes (Some w) found p = let less = found.0 in let l = least w found.1 (omega (arith, less, up)) in omega (arith, l, p)

        by_there : (t : Bool) → has m (versions_in es key) ≡ t → above since a ≡ above since (Some m)
        by_there true there = ap (above since) (same_as a found_a (all_a m there found_b.0))
        by_there false there =
            let less = found_b.0 in
            ⊎_elim
            (λ (was : m ≤ gone). none_above a found_a (omega (arith, was, old)) ∙ sym (not_above since m (omega (arith, was, old))))
            (λ (p : Passes m (greatest_below (floor + 1) (versions_in es key))).
            absurd (passes (greatest_below (floor + 1) (versions_in es key)) (greatest-found (floor + 1) (versions_in es key)) p))
            (whole m (omega (arith, less, le)) found_b.1 there)

-- ---- commits above a number

module _ (since number : ℕ) (q : List ℕ) where
  abbrev between : List Numbered → List Numbered
  between cs = filter (is_between since number) cs

  abbrev made : List Numbered → Option Change
  made cs = last_change (map writes_of (between cs)) q

  newer_none : (a b : Option Change) → newer a b ≡ None → (a ≡ None) × (b ≡ None)
  newer_none a None is = (is, refl)
  newer_none a (Some c) is = absurd (cc)

  none_some : {A : Type 0} → (o : Option A) → o ≡ None → is_some o ≡ true → ⊥
  none_some None is some = cc
  none_some (Some x) is some = cc

  bounds : (c : Numbered) → is_between since number c ≡ true → (since < c.0) × (c.0 ≤ number)
  bounds c is = by (nat_lt since c.0) (nat_le c.0 number) refl refl is
    where
      by : (a b : Bool) → nat_lt since c.0 ≡ a → nat_le c.0 number ≡ b → (a && b) ≡ true → (since < c.0) × (c.0 ≤ number)
      by true true p r is = (grind (arith, nat_tests, p), grind (arith, nat_tests, r))
      by true false p r is = absurd (true_false (sym is))
      by false b p r is = absurd (true_false (sym is))

  within : (c : Numbered) → since < c.0 → c.0 ≤ number → is_between since number c ≡ true
  within c more up =
      let a : nat_lt since c.0 ≡ true = grind (arith, nat_tests, more) in
      let b : nat_le c.0 number ≡ true = grind (arith, nat_tests, up) in
      ap (λ t. t && nat_le c.0 number) a ∙ b

  abbrev numbers_if : Bool → Numbered → List Numbered → List ℕ
  numbers_if s c cs = map (λ (x : Numbered). x.0) (cond s (c ∷ filter (λ (x : Numbered). is_some (get x.1 q)) cs)
      (filter (λ (x : Numbered). is_some (get x.1 q)) cs))

  abbrev made_if : Bool → Numbered → List Numbered → Option Change
  made_if t c cs = last_change (map writes_of (cond t (c ∷ between cs) (between cs))) q

  -- where nothing was made of the key none of its versions is there
  none_there : (cs : List Numbered) → made cs ≡ None → (m : ℕ) → since < m → m ≤ number → has m (naming q cs) ≡ false
  none_there [] none m more up = refl
  none_there (c ∷ cs) none m more up =
      by (is_between since number c) (is_some (get c.1 q)) refl refl none (λ n. none_there cs n m more up)
    where
      rest : (t : Bool) → made_if t c cs ≡ None → made cs ≡ None
      rest true n = (newer_none (get c.1 q) (made cs) n).1
      rest false n = n

      other : (e : Bool) → (c.0 == m) ≡ e → (t : Bool) → is_between since number c ≡ t → is_some (get c.1 q) ≡ true
          → made_if t c cs ≡ None → has m (naming q cs) ≡ false → (e || has m (naming q cs)) ≡ false
      other false is t between some n later = later
      other true is true between some n later =
          absurd (none_some (get c.1 q) (newer_none (get c.1 q) (made cs) n).0 some)
      other true is false between some n later =
          let same : c.0 ≡ m = grind (arith, nat_tests, is) in
          absurd (true_false (sym (within c (omega (arith, same, more)) (omega (arith, same, up))) ∙ between))

      by : (t s : Bool) → is_between since number c ≡ t → is_some (get c.1 q) ≡ s → made_if t c cs ≡ None
          → (made cs ≡ None → has m (naming q cs) ≡ false) → has m (numbers_if s c cs) ≡ false
      by t false between some n later = later (rest t n)
      by t true between some n later = other (c.0 == m) refl t between some n (later (rest t n))

  has_more : (s : Bool) (m : ℕ) (c : Numbered) (cs : List Numbered) → has m (naming q cs) ≡ true → has m (numbers_if s c cs) ≡ true
  has_more false m c cs there = there
  has_more true m c cs there = elim (c.0 == m) as (λ b. (b || has m (naming q cs)) ≡ true) [ true ↦ refl | false ↦ there ]

  -- where something was made of it one of its versions is there
  some_there : (cs : List Numbered) (change : Change) → made cs ≡ Some change
      → (m : ℕ) × (since < m) × (m ≤ number) × (has m (naming q cs) ≡ true)
  some_there [] change is = absurd cc
  some_there (c ∷ cs) change is =
      by (is_between since number c) (is_some (get c.1 q)) refl refl is (λ n. some_there cs change n)
    where
      more : (s : Bool) → ((m : ℕ) × (since < m) × (m ≤ number) × (has m (naming q cs) ≡ true))
          → (m : ℕ) × (since < m) × (m ≤ number) × (has m (numbers_if s c cs) ≡ true)
      more s found = (found.0, found.1, found.2, has_more s found.0 c cs found.3)

      here : has c.0 (numbers_if true c cs) ≡ true
      here = let same : (c.0 == c.0) ≡ true = grind (arith, nat_tests) in ap (λ b. b || has c.0 (naming q cs)) same

      behind : (o p : Option Change) → is_some o ≡ false → newer o p ≡ Some change → p ≡ Some change
      behind None None none n = n
      behind None (Some x) none n = n
      behind (Some x) p none n = absurd (true_false none)

      by : (t s : Bool) → is_between since number c ≡ t → is_some (get c.1 q) ≡ s → made_if t c cs ≡ Some change
          → (made cs ≡ Some change → (m : ℕ) × (since < m) × (m ≤ number) × (has m (naming q cs) ≡ true))
          → (m : ℕ) × (since < m) × (m ≤ number) × (has m (numbers_if s c cs) ≡ true)
      by false s between some n later = more s (later n)
      by true true between some n later = (c.0, (bounds c between).0, (bounds c between).1, here)
      by true false between some n later = more false (later (behind (get c.1 q) (made cs) some n))

-- ---- what is told

none_above : (since number : ℕ) (numbers : List ℕ) → ((m : ℕ) → since < m → m ≤ number → has m numbers ≡ false)
    → above since (greatest_below (number + 1) numbers) ≡ None
none_above since number numbers none = by (greatest_below (number + 1) numbers) (greatest-found (number + 1) numbers)
  where
    by : (o : Option ℕ) → IsFound (number + 1) numbers o → above since o ≡ None
    by None found = refl
    by (Some m) found = test (nat_lt since m) refl
      where
        test : (t : Bool) → nat_lt since m ≡ t → cond t (Some m) None ≡ None
        test false is = refl
        test true is =
            let less : since < m = grind (arith, nat_tests, is) in
            let up = found.0 in
            absurd (true_false (sym found.1 ∙ none m less (omega (arith, up))))

some_above : (since number m : ℕ) (numbers : List ℕ) → since < m → m ≤ number → has m numbers ≡ true
    → is_some (above since (greatest_below (number + 1) numbers)) ≡ true
some_above since number m numbers more up there =
    by (greatest_below (number + 1) numbers) (greatest-reaches m (number + 1) numbers there (omega (arith, up)))
  where
    by : (o : Option ℕ) → laws.Reaches m o → is_some (above since o) ≡ true
    by None r = absurd r
    by (Some w) r = let less : nat_lt since w ≡ true = grind (arith, nat_tests, more, r) in ap (λ t. is_some (cond t (Some w) None)) less

told_none : (logs : Logs) (since : ℕ) (o : Option Entry) → above since (option_map version_of o) ≡ None → told logs since o ≡ None
told_none logs since None none = refl
told_none logs since (Some e) none = by (nat_lt since e.version) none
  where
    by : (t : Bool) → cond t (Some e.version) None ≡ None → told_if t (resolved logs e.key e.body) ≡ None
    by false n = refl
    by true n = absurd (cc)

told_some : (logs : Logs) (since : ℕ) (o : Option Entry) (value : Option Stored) → is_some (above since (option_map version_of o)) ≡ true
    → resolved_at logs o ≡ Some value → told logs since o ≡ Some (change_to value)
told_some logs since None value some led = absurd (true_false (sym some))
told_some logs since (Some e) value some led = by (nat_lt since e.version) some
  where
    by : (t : Bool) → is_some (cond t (Some e.version) None) ≡ true → told_if t (resolved logs e.key e.body) ≡ Some (change_to value)
    by false n = absurd (true_false (sym n))
    by true n = ap (option_map change_to) led

-- Since a number from `gone` on, what the winner tells of a key is what the history changed there.
pub told_changes : (h : History) (es : List Entry) (logs : Logs) (to floor gone since number : ℕ) (key : List ℕ)
    → gone ≤ since → floor ≤ number → number ≤ to → since ≤ number → AreOf h es → AreSpared (versions h key) (versions_in es key) to floor 1 gone
    → resolved_at logs (winner es key number) ≡ Some (value_at h number key)
    → told logs since (winner es key number) ≡ get (changes_between h since number) key
told_changes h es logs to floor gone since number key old up le least of whole led =
    by (made since number key (all_numbered h)) refl ∙ sym (get-changes_between h since number key)
  where
    seen : above since (option_map version_of (winner es key number)) ≡ above since (greatest_below (number + 1) (versions h key))
    seen = newest_seen h es to floor gone since number key old up le of whole

    value_is : (c : Change) → made since number key (all_numbered h) ≡ Some c → change_to (value_at h number key) ≡ c
    value_is c is = ap change_to (value_at-later h since number key least
        ∙ ap (value_left (value_at h since key)) (get-changes_between h since number key ∙ is)) ∙ left c
      where
        left : (x : Change) → change_to (value_left (value_at h since key) (Some x)) ≡ x
        left (Set value) = refl
        left Delete = refl

    by : (o : Option Change) → made since number key (all_numbered h) ≡ o
        → told logs since (winner es key number) ≡ made since number key (all_numbered h)
    by None is = told_none logs since (winner es key number)
        (seen ∙ none_above since number (versions h key) (none_there since number key (all_numbered h) is)) ∙ sym is
    by (Some c) is =
        let found = some_there since number key (all_numbered h) c is in
        told_some logs since (winner es key number) (value_at h number key)
        (ap is_some seen ∙ some_above since number found.0 (versions h key) found.1 found.2 found.3) led
        ∙ ap Some (value_is c is) ∙ sym is

-- ---- sources that needn't be read

abbrev pub is_newer : ℕ → Entry → Bool
is_newer since e = nat_lt since e.version

abbrev IsOld : ℕ → Option Entry → Type 0
IsOld since None = Unit {0}
IsOld since (Some e) = e.version ≤ since

abbrev AreLike : ℕ → Option Entry → Option Entry → Type 0
AreLike since a b = (a ≡ b) ⊎ (IsOld since a × IsOld since b)

old_tells : (logs : Logs) (since : ℕ) (o : Option Entry) → IsOld since o → told logs since o ≡ None
old_tells logs since None old = refl
old_tells logs since (Some e) old =
    let no : nat_lt since e.version ≡ false = grind (arith, nat_tests, old) in ap (λ b. told_if b (resolved logs e.key e.body)) no

-- behind one that is above since those that aren't don't count
new_first : (since : ℕ) (e : Entry) (w : Option Entry) → since < e.version → IsOld since w → newest_of (Some e) w ≡ Some e
new_first since e None new old = refl
new_first since e (Some f) new old =
    let first : nat_le f.version e.version ≡ true = grind (arith, nat_tests, new, old) in ap (λ b. cond b (Some e) (Some f)) first

old_first : (since : ℕ) (e : Entry) (w : Option Entry) → e.version ≤ since → AreLike since (newest_of (Some e) w) w
old_first since e None old = inr (old, tt)
old_first since e (Some f) old = by (nat_le f.version e.version) refl
  where
    by : (b : Bool) → nat_le f.version e.version ≡ b → AreLike since (cond b (Some e) (Some f)) (Some f)
    by false is = inl refl
    by true is = let le : f.version ≤ e.version = grind (arith, nat_tests, is) in inr (old, omega (arith, le, old))

like_then : (since : ℕ) (a b c : Option Entry) → AreLike since a b → AreLike since b c → AreLike since a c
like_then since a b c p q = ⊎_elim
    (λ (same : a ≡ b). subst (λ (x : Option Entry). AreLike since x c) (sym same) q)
    (λ (old : IsOld since a × IsOld since b). ⊎_elim
    (λ (same : b ≡ c). inr (old.0, subst (IsOld since) same old.1))
    (λ (old' : IsOld since b × IsOld since c). inr (old.0, old'.1)) q) p

like_newest : (since : ℕ) (e : Entry) (b : Bool) (w v : Option Entry) → since < e.version → AreLike since w v
    → AreLike since (newest_of (only_if b e) w) (newest_of (only_if b e) v)
like_newest since e false w v new like = like
like_newest since e true w v new like = ⊎_elim
    (λ (same : w ≡ v). inl (ap (newest_of (Some e)) same))
    (λ (old : IsOld since w × IsOld since v). inl (new_first since e w new old.0 ∙ sym (new_first since e v new old.1))) like

skipped : (since : ℕ) (key : List ℕ) (number : ℕ) (es : List Entry)
    → AreLike since (winner es key number) (winner (filter (is_newer since) es) key number)
skipped since key number [] = inl refl
skipped since key number (e ∷ es) = by (nat_lt since e.version) refl (skipped since key number es)
  where
    by : (b : Bool) → nat_lt since e.version ≡ b → AreLike since (winner es key number) (winner (filter (is_newer since) es) key number)
        → AreLike since (newest_of (only_if (counts key number e) e) (winner es key number))
        (winner (cond b (e ∷ filter (is_newer since) es) (filter (is_newer since) es)) key number)
    by true is later =
        let new : since < e.version = grind (arith, nat_tests, is) in
        like_newest since e (counts key number e) (winner es key number) (winner (filter (is_newer since) es) key number) new later
    by false is later =
        let old : e.version ≤ since = grind (arith, nat_tests, is) in
        like_then since (newest_of (only_if (counts key number e) e) (winner es key number)) (winner es key number)
        (winner (filter (is_newer since) es) key number) (one (counts key number e) old) later
      where
        one : (c : Bool) → e.version ≤ since → AreLike since (newest_of (only_if c e) (winner es key number)) (winner es key number)
        one false old = inl refl
        one true old = old_first since e (winner es key number) old

-- Entries of a version that isn't above since tell nothing: a table whose footer's greatest version isn't needn't be read.
pub told_skipped : (logs : Logs) (since : ℕ) (key : List ℕ) (number : ℕ) (es : List Entry)
    → told logs since (winner es key number) ≡ told logs since (winner (filter (is_newer since) es) key number)
told_skipped logs since key number es = ⊎_elim
    (λ (same : winner es key number ≡ winner (filter (is_newer since) es) key number). ap (told logs since) same)
    (λ (old : IsOld since (winner es key number) × IsOld since (winner (filter (is_newer since) es) key number)).
    old_tells logs since (winner es key number) old.0
    ∙ sym (old_tells logs since (winner (filter (is_newer since) es) key number) old.1))
    (skipped since key number es)
