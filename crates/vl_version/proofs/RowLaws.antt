-- Entries of which each key stands once, as a way goes, give the rows that a finite map has that way.
use Rattle.std.proofs.Common.{◌≡◌, ℕ, zero, suc, ◌≤◌, Bool, true, false, cond, ◌&&◌, List, [], ◌∷◌, ◌++◌, length, map, take}
use Rattle.std.proofs.Common.{reverse, refl, ap, sym, ◌∙◌, subst, arith}
use Rattle.std.proofs.lemmas.List.{reverse-append, reverse-reverse, take-map}
use Rattle.std.specs.Prelude.{T, Option, Some, None, IsSome, unwrap_or}
use Rattle.std.specs.Cmp.Lexicographic.{nat_list_cmp_total}
use Rattle.std.specs.FinMap.{find}
use Rattle.std.specs.FinMap.Entries.{below_all, is_sorted, same_entries}
use Rattle.std.specs.List.{AllByRecursion, filter}
use Rattle.std.specs.Ordering.{eq_by_cmp, is_eq, is_gt, is_lt, nat_cmp, ordering_then}
use Rattle.std.specs.declared.cmp.Ordering.{Ordering}
use Rattle.std.specs.declared.cmp.Ordering.TheVariants.{Less, Equal, Greater}
use Rattle.vl_model.specs.Keys.{Row, Stored, key_cmp, untagged}
use Rattle.vl_model.specs.Entries.{is_gone}
use Rattle.vl_model.specs.Order.{way_cmp}
use Rattle.vl_model.specs.Reads.{in_direction}
use Rattle.vl_model.specs.laws.WinnerLaws.{key_exact, key_tied}
use Rattle.vl_model.specs.Winners.{Logs, resolved, resolved_at, winner}
use Rattle.vl_model.specs.declared.entry.Body.{Body}
use Rattle.vl_model.specs.declared.entry.Body.TheVariants.{Far, Gone, Inline, Logged}
use Rattle.vl_model.specs.declared.entry.Entry.{Entry}
use Rattle.vl_model.specs.declared.way.Way.{Way}
use Rattle.vl_model.specs.declared.way.Way.TheVariants.{Up, Down}
use Rattle.vl_model.specs.Merging.{IsAlong, IsFirst}
use Rattle.vl_merge.specs.declared.hides.Hides.TheVariants as hiding
use Rattle.vl_merge.specs.Visible.{shown}
use Rattle.vl_version.specs.Rows.{AreRowsOf}
use Rattle.vl_version.specs.Scans.{MayHave}
use Rattle.vl_version.proofs.Winning.{winner-key}

-- the entries of a key
abbrev pub of_key : List ℕ → List Entry → List Entry
of_key key es = filter (λ (e : Entry). eq_by_cmp key_cmp key e.key) es

-- no key stands there twice
abbrev pub AreOnce : List Entry → Type 0
AreOnce es = (key : List ℕ) → length (of_key key es) ≤ 1

-- entries as the way up goes through them
abbrev upwards : Way → List Entry → List Entry
upwards Up es = es
upwards Down es = reverse es

-- ---- key by key

-- what holds of each key's entries holds of all
pub all_by_key : (P : Entry → Type 0) (es : List Entry) → ((key : List ℕ) → AllByRecursion P (of_key key es)) → AllByRecursion P es
all_by_key P [] all = tt
all_by_key P (e ∷ es) all = (
  (subst (λ b. AllByRecursion P (cond b (e ∷ of_key e.key es) (of_key e.key es))) (ap is_eq (key_tied e.key)) (all e.key)).0,
  all_by_key P es (λ key. later key (eq_by_cmp key_cmp key e.key) (all key)),
)
  where
    later : (key : List ℕ) (b : Bool) → AllByRecursion P (cond b (e ∷ of_key key es) (of_key key es)) → AllByRecursion P (of_key key es)
    later key true all = all.1
    later key false all = all

of_key-append : (key : List ℕ) (es fs : List Entry) → of_key key (es ++ fs) ≡ of_key key es ++ of_key key fs
of_key-append key [] fs = refl
of_key-append key (e ∷ es) fs = by (eq_by_cmp key_cmp key e.key) (of_key-append key es fs)
  where
    by : (b : Bool) → of_key key (es ++ fs) ≡ of_key key es ++ of_key key fs
        → cond b (e ∷ of_key key (es ++ fs)) (of_key key (es ++ fs)) ≡ cond b (e ∷ of_key key es) (of_key key es) ++ of_key key fs
    by true same = ap (λ l. e ∷ l) same
    by false same = same

of_key-reverse : (key : List ℕ) (es : List Entry) → of_key key (reverse es) ≡ reverse (of_key key es)
of_key-reverse key [] = refl
of_key-reverse key (e ∷ es) =
    ap (of_key key) (reverse-append (e ∷ []) es) ∙ of_key-append key (reverse es) (e ∷ [])
    ∙ ap (λ l. l ++ of_key key (e ∷ [])) (of_key-reverse key es) ∙ by (eq_by_cmp key_cmp key e.key)
  where
    append-none : (fs : List Entry) → fs ++ [] ≡ fs
    append-none [] = refl
    append-none (f ∷ fs) = ap (λ l. f ∷ l) (append-none fs)

    by : (b : Bool) → reverse (of_key key es) ++ cond b (e ∷ []) [] ≡ reverse (cond b (e ∷ of_key key es) (of_key key es))
    by true = sym (reverse-append (e ∷ []) (of_key key es))
    by false = append-none (reverse (of_key key es))

reverse-one : (es : List Entry) → length es ≤ 1 → reverse es ≡ es
reverse-one [] one = refl
reverse-one (e ∷ []) one = refl
reverse-one (e ∷ f ∷ es) one = absurd (omega arith)

of_key-upwards : (way : Way) (es : List Entry) → AreOnce es → (key : List ℕ) → of_key key (upwards way es) ≡ of_key key es
of_key-upwards Up es once key = refl
of_key-upwards Down es once key = of_key-reverse key es ∙ reverse-one (of_key key es) (once key)

-- ---- upwards

first-last : (e f : Entry) (es : List Entry) → IsFirst Up e es → is_gt (way_cmp Up e f) ≡ false → IsFirst Up e (es ++ f ∷ [])
first-last e f [] first last = (last, tt)
first-last e f (g ∷ es) first last = (first.0, first-last e f es first.1 last)

along-last : (es : List Entry) (e : Entry) → IsAlong Up es → AllByRecursion (λ f. is_gt (way_cmp Up f e) ≡ false) es
    → IsAlong Up (es ++ e ∷ [])
along-last [] e along before = (tt, tt)
along-last (f ∷ es) e along before = (first-last f e es along.0 before.0, along-last es e along.1 before.1)

all-last : (P : Entry → Type 0) (es : List Entry) (e : Entry) → AllByRecursion P es → P e → AllByRecursion P (es ++ e ∷ [])
all-last P [] e all last = (last, tt)
all-last P (f ∷ es) e all last = (all.0, all-last P es e all.1 last)

all-reverse : (P : Entry → Type 0) (es : List Entry) → AllByRecursion P es → AllByRecursion P (reverse es)
all-reverse P [] all = tt
all-reverse P (e ∷ es) all = subst (AllByRecursion P) (sym (reverse-append (e ∷ []) es))
    (all-last P (reverse es) e (all-reverse P es all.1) all.0)

along-reverse : (es : List Entry) → IsAlong Down es → IsAlong Up (reverse es)
along-reverse [] along = tt
along-reverse (e ∷ es) along =
    subst (IsAlong Up) (sym (reverse-append (e ∷ []) es))
    (along-last (reverse es) e (along-reverse es along.1) (all-reverse (λ f. is_gt (way_cmp Up f e) ≡ false) es along.0))

along-upwards : (way : Way) (es : List Entry) → IsAlong way es → IsAlong Up (upwards way es)
along-upwards Up es along = along
along-upwards Down es along = along-reverse es along

map-reverse : (f : Entry → Row) (es : List Entry) → map f (reverse es) ≡ reverse (map f es)
map-reverse f [] = refl
map-reverse f (e ∷ es) =
    ap (map f) (reverse-append (e ∷ []) es) ∙ append (reverse es) ∙ ap (λ l. l ++ f e ∷ []) (map-reverse f es)
    ∙ sym (reverse-append (f e ∷ []) (map f es))
  where
    append : (fs : List Entry) → map f (fs ++ e ∷ []) ≡ map f fs ++ f e ∷ []
    append [] = refl
    append (g ∷ fs) = ap (λ l. f g ∷ l) (append fs)

-- ---- keys rise

pub both_parts : (a b : Bool) → T a → T b → T (a && b)
both_parts true b p q = q
both_parts false b p q = absurd p

none_behind : (e : Entry) (es : List Entry) → length (e ∷ es) ≤ 1 → es ≡ []
none_behind e [] le = refl
none_behind e (f ∷ fs) le = absurd (omega (arith, le))

pub once_later : (e : Entry) (es : List Entry) → AreOnce (e ∷ es) → AreOnce es
once_later e es once key = by (eq_by_cmp key_cmp key e.key) (once key)
  where
    by : (b : Bool) → length (cond b (e ∷ of_key key es) (of_key key es)) ≤ 1 → length (of_key key es) ≤ 1
    by true le = omega (arith, le)
    by false le = le

pub no_other : (e : Entry) (es : List Entry) → AreOnce (e ∷ es) → of_key e.key es ≡ []
no_other e es once =
    none_behind e (of_key e.key es)
    (subst (λ b. length (cond b (e ∷ of_key e.key es) (of_key e.key es)) ≤ 1) (ap is_eq (key_tied e.key)) (once e.key))

-- each of these keys is above the key
abbrev pub AreAbove : List ℕ → List Entry → Type 0
AreAbove key es = AllByRecursion (λ (f : Entry). key_cmp key f.key ≡ Less) es

pub all_above : (e : Entry) (es : List Entry) → IsFirst Up e es → of_key e.key es ≡ [] → AreAbove e.key es
all_above e [] first none = tt
all_above e (f ∷ fs) first none = by (λ rest. all_above e fs first.1 rest) (key_cmp e.key f.key) refl first.0 none
  where
    by : (of_key e.key fs ≡ [] → AreAbove e.key fs) → (r : Ordering) → key_cmp e.key f.key ≡ r
        → is_gt (ordering_then r (nat_cmp f.version e.version)) ≡ false
        → cond (is_eq r) (f ∷ of_key e.key fs) (of_key e.key fs) ≡ [] → AreAbove e.key (f ∷ fs)
    by later Less is up none = (is, later none)
    by later Equal is up none = absurd cc
    by later Greater is up none = absurd cc

-- ---- the rows of a list of rows, for these entries

-- the key of an entry with what some rows have there
abbrev row_at : List Row → Entry → Row
row_at rows e = (e.key, unwrap_or (find key_cmp e.key rows) (untagged []))

below-rows : (cut : List Row) (key : List ℕ) (es : List Entry) → AreAbove key es → T (below_all key_cmp key (map (row_at cut) es))
below-rows cut key [] above = tt
below-rows cut key (f ∷ fs) above =
    both_parts (is_lt (key_cmp key f.key)) (below_all key_cmp key (map (row_at cut) fs))
    (subst (λ r. T (is_lt r)) (sym above.0) tt) (below-rows cut key fs above.1)

sorted-rows : (cut : List Row) (es : List Entry) → IsAlong Up es → AreOnce es → T (is_sorted key_cmp (map (row_at cut) es))
sorted-rows cut [] along once = tt
sorted-rows cut (e ∷ es) along once =
    both_parts (below_all key_cmp e.key (map (row_at cut) es)) (is_sorted key_cmp (map (row_at cut) es))
    (below-rows cut e.key es (all_above e es along.0 (no_other e es once))) (sorted-rows cut es along.1 (once_later e es once))

abbrev first_of : List Row → List Entry → Option Stored
first_of cut [] = None
first_of cut (e ∷ es) = Some (row_at cut e).1

find-rows : (cut : List Row) (key : List ℕ) (es : List Entry) → find key_cmp key (map (row_at cut) es) ≡ first_of cut (of_key key es)
find-rows cut key [] = refl
find-rows cut key (e ∷ es) = by (eq_by_cmp key_cmp key e.key) (find-rows cut key es)
  where
    by : (b : Bool) → find key_cmp key (map (row_at cut) es) ≡ first_of cut (of_key key es)
        → cond b (Some (row_at cut e).1) (find key_cmp key (map (row_at cut) es)) ≡ first_of cut
        (cond b (e ∷ of_key key es) (of_key key es))
    by true later = refl
    by false later = later

-- ---- entries that are seen of others

-- of a key that is seen the rows have what it leads to, or something where it leads nowhere
abbrev Is_seen : Logs → List Row → Entry → Type 0
Is_seen logs cut e = (is_gone e.body ≡ false) × MayHave (resolved logs e.key e.body) (find key_cmp e.key cut)

led_by : (logs : Logs) (key : List ℕ) (body : Body) (value : Option Stored) → is_gone body ≡ false
    → MayHave (resolved logs key body) value → IsSome value
led_by logs key (Inline v) value kept have = subst IsSome (sym have) refl
led_by logs key Gone value kept have = absurd cc
led_by logs key (Far pointer) value kept have = by (logs pointer key) have
  where
    by : (o : Option Stored) → MayHave
        (elim o as (λ _. Option (Option Stored)) [ Some v ↦ Some (Some v) | None ↦ None ]) value → IsSome value
    by None have = have
    by (Some v) have = subst IsSome (sym have) refl
led_by logs key (Logged v pointer) value kept have = subst IsSome (sym have) refl

unwrapped : (value : Option Stored) → IsSome value → Some (unwrap_or value (untagged [])) ≡ value
unwrapped None some = absurd cc
unwrapped (Some v) some = refl

module _ (logs : Logs) (all : List Entry) (number : ℕ) (cut : List Row)
    (have : (key : List ℕ) → MayHave (resolved_at logs (winner all key number)) (find key_cmp key cut)) where
  seen_of : (key : List ℕ) (w : Option Entry) → winner all key number ≡ w → AllByRecursion (Is_seen logs cut) (shown hiding.Gone w)
  seen_of key None is = tt
  seen_of key (Some e) is = by (is_gone e.body) refl
    where
      by : (b : Bool) → is_gone e.body ≡ b → AllByRecursion (Is_seen logs cut) (cond b [] (e ∷ []))
      by true gone = tt
      by false kept = (
        (
          kept,
          subst (λ (k : List ℕ). MayHave (resolved logs e.key e.body) (find key_cmp k cut)) (winner-key key number all e is)
              (subst (λ (w : Option Entry). MayHave (resolved_at logs w) (find key_cmp key cut)) is (have key)),
        ),
        tt,
      )

  gone-none : (key : List ℕ) (body : Body) (value : Option Stored) → is_gone body ≡ true
      → MayHave (resolved logs key body) value → None ≡ value
  gone-none key (Inline v) value gone have = absurd cc
  gone-none key Gone value gone have = sym have
  gone-none key (Far pointer) value gone have = absurd cc
  gone-none key (Logged v pointer) value gone have = absurd cc

  first-shown : (key : List ℕ) (w : Option Entry) → winner all key number ≡ w → first_of cut (shown hiding.Gone w) ≡ find key_cmp key cut
  first-shown key None is =
      sym (subst (λ (w : Option Entry). MayHave (resolved_at logs w) (find key_cmp key cut)) is (have key))
  first-shown key (Some e) is = by (is_gone e.body) refl
    where
      here : MayHave (resolved logs e.key e.body) (find key_cmp key cut)
      here = subst (λ (w : Option Entry). MayHave (resolved_at logs w) (find key_cmp key cut)) is (have key)

      by : (b : Bool) → is_gone e.body ≡ b → first_of cut (cond b [] (e ∷ [])) ≡ find key_cmp key cut
      by true gone = gone-none e.key e.body (find key_cmp key cut) gone here
      by false kept =
          ap (λ k. Some (unwrap_or (find key_cmp k cut) (untagged []))) (sym (winner-key key number all e is))
          ∙ unwrapped (find key_cmp key cut) (led_by logs e.key e.body (find key_cmp key cut) kept here)

  shown-once : (w : Option Entry) → length (shown hiding.Gone w) ≤ 1
  shown-once None = omega arith
  shown-once (Some e) = by (is_gone e.body)
    where
      by : (b : Bool) → length (cond b [] (e ∷ [])) ≤ 1
      by true = omega arith
      by false = omega arith

  module _ (way : Way) (seen : List Entry) (along : IsAlong way seen)
      (winners : (key : List ℕ) → of_key key seen ≡ shown hiding.Gone (winner all key number))
      (sorted : T (is_sorted key_cmp cut)) where
    once : AreOnce seen
    once key = subst (λ (es : List Entry). length es ≤ 1) (sym (winners key)) (shown-once (winner all key number))

    once-up : AreOnce (upwards way seen)
    once-up key = subst (λ (es : List Entry). length es ≤ 1) (sym (of_key-upwards way seen once key)) (once key)

    rows-cut : map (row_at cut) (upwards way seen) ≡ cut
    rows-cut =
        same_entries key_cmp nat_list_cmp_total key_exact (map (row_at cut) (upwards way seen)) cut
        (sorted-rows cut (upwards way seen) (along-upwards way seen along) once-up) sorted
        (λ key. find-rows cut key (upwards way seen) ∙ ap (first_of cut) (of_key-upwards way seen once key ∙ winners key)
        ∙ first-shown key (winner all key number) refl)

    turned : (w : Way) → map (row_at cut) (upwards w seen) ≡ cut → map (row_at cut) seen ≡ in_direction w cut
    turned Up same = same
    turned Down same =
        sym (reverse-reverse (map (row_at cut) seen)) ∙ ap reverse (sym (map-reverse (row_at cut) seen) ∙ same)

    all_seen : AllByRecursion (Is_seen logs cut) seen
    all_seen = all_by_key (Is_seen logs cut) seen
        (λ key. subst (AllByRecursion (Is_seen logs cut)) (sym (winners key))
        (seen_of key (winner all key number) refl))

    led-same : (led : Option (Option Stored)) (v : Stored) (value : Option Stored) → led ≡ Some (Some v)
        → MayHave led value → v ≡ unwrap_or value (untagged [])
    led-same led v value is may =
        let same : value ≡ Some v = subst (λ l. MayHave l value) is may in sym (ap (λ o. unwrap_or o (untagged [])) same)

    rows-taken : (n : ℕ) (es : List Entry) (rows : List Row) → AllByRecursion (Is_seen logs cut) es → AreRowsOf logs (take n es) rows
        → rows ≡ map (row_at cut) (take n es)
    rows-taken zero es [] all are = refl
    rows-taken zero es (row ∷ rows) all are = absurd are
    rows-taken (suc n) [] [] all are = refl
    rows-taken (suc n) [] (row ∷ rows) all are = absurd are
    rows-taken (suc n) (e ∷ es) [] all are = absurd are
    rows-taken (suc n) (e ∷ es) (row ∷ rows) all are =
        let first : row ≡ row_at cut e = λ i.
        (are.0 i, led-same (resolved logs e.key e.body) row.1 (find key_cmp e.key cut) are.1 all.0.1 i) in
        let later = rows-taken n es rows all.1 are.2 in
        ap (λ r. r ∷ rows) first ∙ ap (λ l. row_at cut e ∷ l) later

    -- the first so many rows of entries that are seen of others are those of rows that have what the winners lead to
    pub rows_are_taken : (n : ℕ) (rows : List Row) → AreRowsOf logs (take n seen) rows → rows ≡ take n (in_direction way cut)
    rows_are_taken n rows are =
        rows-taken n seen rows all_seen are ∙ sym (take-map (row_at cut) n seen) ∙ ap (take n) (turned way rows-cut)
