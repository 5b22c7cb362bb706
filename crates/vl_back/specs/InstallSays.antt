-- What the frame of an install makes of a state.
use Rattle.std.specs.Prelude.{◌≡◌, ◌⊎◌, ◌==◌, ◌&&◌, ◌||◌, ◌+◌, ℕ, Bool, true, false, not, nat_le, if◌then◌else◌, List}
use Rattle.std.specs.Prelude.{[], ◌∷◌, ◌++◌, length, map, drop, Option, None, Some, refl}
use Rattle.std.specs.List.{AllByRecursion, filter, insert}
use Rattle.std.specs.Option.{option_map}
use Rattle.std.proofs.Common.{sym, ap, subst, ◌∙◌, arith, append_assoc, length-append, ⊎_elim}
use Rattle.std.proofs.lemmas.Bool.{and_from, le-leb}
use Rattle.std.proofs.lemmas.Bool.Decides.{nat_tests}
use Rattle.std.proofs.lemmas.List.{take_at, drop_at}
use Rattle.vl_back.specs.InstallEdits.{Replacing, drops_of, gone_since, install_switch, left_levels, left_tables}
use Rattle.vl_manifest.specs.Levels.{all_tables, is_in, is_other, put_at, taken_out}
use Rattle.vl_manifest.specs.States.{all_applied, are_next, as_draft, finish, given_if, is_file_number, is_gone}
use Rattle.vl_manifest.specs.States.{level_adds, next_state, then_applied, with_levels}
use Rattle.vl_manifest.specs.declared.edit.Edit.TheVariants.{Drop, Gone, Next}
use Rattle.vl_manifest.specs.declared.edit.Edit.{Edit}
use Rattle.vl_manifest.specs.declared.state.ManifestState.{ManifestState}
use Rattle.vl_manifest.specs.declared.version_builder.VersionBuilder.{VersionBuilder}
use Rattle.vl_manifest.specs.laws.TableLists.{AreOnce, all-filter, all-parts, all_tables-append, is_in-append}
use Rattle.vl_manifest.specs.laws.TableLists.{is_in-parts, once-filter, taken_out-tables}

true_false : true ≡ false → ⊥
true_false is = cc

-- ---- what is taken out

-- The one test after the other is both.
two_filters : (p q r : ℕ → Bool) → ((t : ℕ) → (q t && p t) ≡ r t) → (ts : List ℕ) → filter p (filter q ts) ≡ filter r ts
two_filters p q r same [] = refl
two_filters p q r same (t ∷ ts) = by (q t) (p t) (r t) (same t) (two_filters p q r same ts) refl
  where
    by : (a b c : Bool) → (a && b) ≡ c → filter p (filter q ts) ≡ filter r ts → p t ≡ b
        → filter p (if a then t ∷ filter q ts else filter q ts) ≡ (if c then t ∷ filter r ts else filter r ts)
    by true true true both later is =
        ap (λ (x : Bool). if x then t ∷ filter p (filter q ts) else filter p (filter q ts)) is
        ∙ ap (λ (us : List ℕ). t ∷ us) later
    by true true false both later is = absurd (true_false both)
    by true false true both later is = absurd (true_false (sym both))
    by true false false both later is =
        ap (λ (x : Bool). if x then t ∷ filter p (filter q ts) else filter p (filter q ts)) is ∙ later
    by false b true both later is = absurd (true_false (sym both))
    by false b false both later is = later

filter_all : (p : ℕ → Bool) (ts : List ℕ) → AllByRecursion (λ (t : ℕ). p t ≡ true) ts → filter p ts ≡ ts
filter_all p [] all = refl
filter_all p (t ∷ ts) all = ap (λ (b : Bool). if b then t ∷ filter p ts else filter p ts) all.0
    ∙ ap (λ (us : List ℕ). t ∷ us) (filter_all p ts all.1)

left_none : (levels : List (List ℕ)) → left_levels [] levels ≡ levels
left_none [] = refl
left_none (ts ∷ levels) =
    ap (λ (us : List ℕ). us ∷ left_levels [] levels) (filter_all (λ t. true) ts (always ts))
    ∙ ap (λ (ls : List (List ℕ)). ts ∷ ls) (left_none levels)
  where
    always : (us : List ℕ) → AllByRecursion (λ (t : ℕ). true ≡ true) us
    always [] = tt
    always (u ∷ us) = (refl, always us)

turned : (a b : ℕ) → (a == b) ≡ (b == a)
turned a b = by (a == b) (b == a) refl refl
  where
    by : (x y : Bool) → (a == b) ≡ x → (b == a) ≡ y → x ≡ y
    by true true p q = refl
    by false false p q = refl
    by true false p q = absurd (grind (arith, nat_tests, p, q))
    by false true p q = absurd (grind (arith, nat_tests, p, q))

left_one : (n : ℕ) (ns : List ℕ) (levels : List (List ℕ)) → left_levels ns (taken_out n levels) ≡ left_levels (n ∷ ns) levels
left_one n ns [] = refl
left_one n ns (ts ∷ levels) =
    ap (λ (us : List ℕ). us ∷ left_levels ns (taken_out n levels))
    (two_filters (λ t. not (is_in t ns)) (is_other n) (λ t. not (is_in t (n ∷ ns))) same ts)
    ∙ ap (λ (ls : List (List ℕ)). left_tables (n ∷ ns) ts ∷ ls) (left_one n ns levels)
  where
    both : (a b : Bool) → (not a && not b) ≡ not (a || b)
    both true b = refl
    both false b = refl

    same : (t : ℕ) → (is_other n t && not (is_in t ns)) ≡ not (is_in t (n ∷ ns))
    same t = both (t == n) (is_in t ns) ∙ ap (λ (b : Bool). not (b || is_in t ns)) (turned t n)

-- one that isn't taken out is there still
still_in : (n m : ℕ) (ts : List ℕ) → (m == n) ≡ false → is_in m ts ≡ true → is_in m (filter (is_other n) ts) ≡ true
still_in n m [] apart there = there
still_in n m (t ∷ ts) apart there = by (t == n) refl (t == m) refl there (still_in n m ts apart)
  where
    by : (a : Bool) → (t == n) ≡ a → (b : Bool) → (t == m) ≡ b → (b || is_in m ts) ≡ true
        → (is_in m ts ≡ true → is_in m (filter (is_other n) ts) ≡ true)
        → is_in m (if not a then t ∷ filter (is_other n) ts else filter (is_other n) ts) ≡ true
    by true is true at either later =
        absurd (let no : (m == n) ≡ true = grind (arith, nat_tests, is, at) in true_false (sym no ∙ apart))
    by true is false at either later = later either
    by false is true at either later = ap (λ (c : Bool). c || is_in m (filter (is_other n) ts)) at
    by false is false at either later = ap (λ (c : Bool). c || is_in m (filter (is_other n) ts)) at ∙ later either

none_either : (a b : Bool) → (a || b) ≡ false → (a ≡ false) × (b ≡ false)
none_either true b e = absurd (true_false e)
none_either false b e = (refl, e)

pub drops_say : (ns : List ℕ) (es : List Edit) (d : VersionBuilder) → AreOnce ns
    → AllByRecursion (λ (n : ℕ). is_in n (all_tables d.levels) ≡ true) ns
    → all_applied (map Drop ns ++ es) d ≡ all_applied es (with_levels d (left_levels ns d.levels))
drops_say [] es d once there = ap (λ (ls : List (List ℕ)). all_applied es (with_levels d ls)) (sym (left_none d.levels))
drops_say (n ∷ ns) es d once there =
    ap (λ (b : Bool). then_applied (all_applied (map Drop ns ++ es)) (given_if b (with_levels d (taken_out n d.levels)))) there.0
    ∙ drops_say ns es (with_levels d (taken_out n d.levels)) once.1 (each ns once.0 there.1)
    ∙ ap (λ (ls : List (List ℕ)). all_applied es (with_levels d ls)) (left_one n ns d.levels)
  where
    each : (ms : List ℕ) → is_in n ms ≡ false → AllByRecursion (λ (m : ℕ). is_in m (all_tables d.levels) ≡ true) ms
        → AllByRecursion (λ (m : ℕ). is_in m (all_tables (taken_out n d.levels)) ≡ true) ms
    each [] none all = tt
    each (m ∷ ms) none all =
        let parts = none_either (m == n) (is_in n ms) none in (
          ap (is_in m) (taken_out-tables n d.levels) ∙ still_in n m (all_tables d.levels) parts.0 all.0,
          each ms parts.1 all.1,
        )

-- Of all tables those that are inputs
module _ (inputs : List ℕ) where
  abbrev input : ℕ → Bool
  input t = is_in t inputs

  filter_is : (t : ℕ) (ts : List ℕ) → is_in t (filter input ts) ≡ (is_in t ts && input t)
  filter_is t [] = refl
  filter_is t (u ∷ us) = by (input u) refl (u == t) refl (filter_is t us)
    where
      off : (b : Bool) → (b && false) ≡ false
      off true = refl
      off false = refl

      by : (a : Bool) → input u ≡ a → (b : Bool) → (u == t) ≡ b → is_in t (filter input us) ≡ (is_in t us && input t)
          → is_in t (if a then u ∷ filter input us else filter input us) ≡ ((b || is_in t us) && input t)
      by true is true at later =
          let same : u ≡ t = grind (arith, nat_tests, at) in
          ap (λ (c : Bool). c || is_in t (filter input us)) at ∙ sym (ap input (sym same) ∙ is)
      by true is false at later = ap (λ (c : Bool). c || is_in t (filter input us)) at ∙ later
      by false is true at later =
          let same : u ≡ t = grind (arith, nat_tests, at) in
          let none : input t ≡ false = ap input (sym same) ∙ is in
          later ∙ ap (λ (c : Bool). is_in t us && c) none ∙ off (is_in t us) ∙ sym none
      by false is false at later = later

  filter_alike : (p q : ℕ → Bool) (ts : List ℕ) → AllByRecursion (λ (t : ℕ). p t ≡ q t) ts → filter p ts ≡ filter q ts
  filter_alike p q [] all = refl
  filter_alike p q (t ∷ ts) all =
      ap (λ (b : Bool). if b then t ∷ filter p ts else filter p ts) all.0 ∙ by (q t) (filter_alike p q ts all.1)
    where
      by : (b : Bool) → filter p ts ≡ filter q ts
          → (if b then t ∷ filter p ts else filter p ts) ≡ (if b then t ∷ filter q ts else filter q ts)
      by true later = ap (λ (us : List ℕ). t ∷ us) later
      by false later = later

  -- those that stand among these tables
  alike_left : (tables ts : List ℕ) → AllByRecursion (λ (t : ℕ). is_in t tables ≡ true) ts
      → left_tables (filter input tables) ts ≡ left_tables inputs ts
  alike_left tables ts all =
      filter_alike (λ t. not (is_in t (filter input tables))) (λ t. not (is_in t inputs)) ts (each ts all)
    where
      each : (us : List ℕ) → AllByRecursion (λ (t : ℕ). is_in t tables ≡ true) us
          → AllByRecursion (λ (t : ℕ). not (is_in t (filter input tables)) ≡ not (is_in t inputs)) us
      each [] one = tt
      each (u ∷ us) one =
          (ap not (filter_is u tables ∙ ap (λ (b : Bool). b && is_in u inputs) one.0), each us one.1)

  alike_levels : (tables : List ℕ) (levels : List (List ℕ))
      → AllByRecursion (λ (t : ℕ). is_in t tables ≡ true) (all_tables levels)
      → left_levels (filter input tables) levels ≡ left_levels inputs levels
  alike_levels tables [] all = refl
  alike_levels tables (ts ∷ levels) all =
      let parts = all-parts (λ (t : ℕ). is_in t tables ≡ true) ts (all_tables levels) all in
      ap (λ (us : List ℕ). us ∷ left_levels (filter input tables) levels) (alike_left tables ts parts.0)
      ∙ ap (λ (ls : List (List ℕ)). left_tables inputs ts ∷ ls) (alike_levels tables levels parts.1)

all_in : (ts more : List ℕ) → AllByRecursion (λ (t : ℕ). is_in t (more ++ ts) ≡ true) ts
all_in [] more = tt
all_in (t ∷ ts) more = (
  behind more,
  subst (λ (us : List ℕ). AllByRecursion (λ (u : ℕ). is_in u us ≡ true) ts) (append_assoc more (t ∷ []) ts)
      (all_in ts (more ++ t ∷ [])),
)
  where
    or_true : (b : Bool) → (b || true) ≡ true
    or_true true = refl
    or_true false = refl

    behind : (us : List ℕ) → is_in t (us ++ t ∷ ts) ≡ true
    behind [] = let same : (t == t) ≡ true = grind (arith, nat_tests) in ap (λ (b : Bool). b || is_in t ts) same
    behind (u ∷ us) = ap (λ (b : Bool). (u == t) || b) (behind us) ∙ or_true (u == t)

-- The Drops of an install's frame take the inputs out.
pub inputs_drop : (inputs : List ℕ) (es : List Edit) (d : VersionBuilder) → AreOnce (all_tables d.levels)
    → all_applied (drops_of inputs (all_tables d.levels) ++ es) d ≡ all_applied es (with_levels d (left_levels inputs d.levels))
inputs_drop inputs es d once =
    drops_say (filter (λ t. is_in t inputs) (all_tables d.levels)) es d
    (once-filter (λ t. is_in t inputs) (all_tables d.levels) once)
    (all-filter (λ (t : ℕ). is_in t (all_tables d.levels) ≡ true) (λ t. is_in t inputs) (all_tables d.levels)
    (all_in (all_tables d.levels) []))
    ∙ ap (λ (ls : List (List ℕ)). all_applied es (with_levels d ls))
    (alike_levels inputs (all_tables d.levels) d.levels (all_in (all_tables d.levels) []))

-- ---- what is put in

put_middle : (front : List (List ℕ)) (xs ys : List ℕ) (back : List (List ℕ)) (table : ℕ)
    → put_at (length front) (length xs) table (front ++ (xs ++ ys) ∷ back) ≡ Some (front ++ (xs ++ table ∷ ys) ∷ back)
put_middle [] xs ys back table =
    ap (option_map (λ (l : List ℕ). l ∷ back)) (
    let long = length-append xs ys in
    let fits : nat_le (length xs) (length (xs ++ ys)) ≡ true = le-leb (length xs) (length (xs ++ ys)) (omega (arith, long)) in
    ap (λ (b : Bool). if b then Some (insert (xs ++ ys) (length xs) table) else None) fits
    ∙ ap (λ (l : List ℕ). Some (l ++ table ∷ drop (length xs) (xs ++ ys))) (take_at xs ys (length xs) refl)
    ∙ ap (λ (l : List ℕ). Some (xs ++ table ∷ l)) (drop_at xs ys (length xs) refl))
put_middle (f ∷ front) xs ys back table =
    ap (option_map (λ (l : List (List ℕ)). f ∷ l)) (put_middle front xs ys back table)

-- the tables of levels of which this is one
tables_with : (front : List (List ℕ)) (ts : List ℕ) (back : List (List ℕ))
    → all_tables (front ++ ts ∷ back) ≡ all_tables front ++ (ts ++ all_tables back)
tables_with front ts back = all_tables-append front (ts ∷ back)

-- a number that isn't there, nor is the one that is put in
none_more : (front : List (List ℕ)) (xs ys : List ℕ) (back : List (List ℕ)) (t n : ℕ) → (t == n) ≡ false
    → is_in n (all_tables (front ++ (xs ++ ys) ∷ back)) ≡ false
    → is_in n (all_tables (front ++ ((xs ++ t ∷ []) ++ ys) ∷ back)) ≡ false
none_more front xs ys back t n apart none =
    let parts = is_in-parts n (all_tables front) ((xs ++ ys) ++ all_tables back)
    (ap (is_in n) (sym (tables_with front (xs ++ ys) back)) ∙ none) in
    let level = is_in-parts n (xs ++ ys) (all_tables back) parts.1 in
    let two = is_in-parts n xs ys level.0 in
    ap (is_in n) (tables_with front ((xs ++ t ∷ []) ++ ys) back)
    ∙ is_in-append n (all_tables front) (((xs ++ t ∷ []) ++ ys) ++ all_tables back) parts.0
    (is_in-append n ((xs ++ t ∷ []) ++ ys) (all_tables back)
    (is_in-append n (xs ++ t ∷ []) ys (is_in-append n xs (t ∷ []) two.0 (ap (λ (b : Bool). b || false) apart)) two.1) level.1)

pub adds_say : (front : List (List ℕ)) (xs new ys : List ℕ) (back : List (List ℕ)) (es : List Edit) (d : VersionBuilder)
    → AllByRecursion (λ (t : ℕ). is_file_number t ≡ true) new → AreOnce new
    → AllByRecursion (λ (t : ℕ). is_in t (all_tables (front ++ (xs ++ ys) ∷ back)) ≡ false) new
    → all_applied (level_adds (length front) (length xs) new ++ es) (with_levels d (front ++ (xs ++ ys) ∷ back))
    ≡ all_applied es (with_levels d (front ++ (xs ++ (new ++ ys)) ∷ back))
adds_say front xs [] ys back es d fit once new = refl
adds_say front xs (t ∷ ts) ys back es d fit once new =
    let levels = front ++ (xs ++ ys) ∷ back in
    let passes : (is_file_number t && not (is_in t (all_tables levels))) ≡ true =
    and_from (is_file_number t) (not (is_in t (all_tables levels))) fit.0 (ap not new.0) in
    let place : length (xs ++ t ∷ []) ≡ length xs + 1 = length-append xs (t ∷ []) in
    let level : xs ++ t ∷ ys ≡ (xs ++ t ∷ []) ++ ys = sym (append_assoc xs (t ∷ []) ys) in
    let rest = λ (ls : List (List ℕ)) (n : ℕ). all_applied (level_adds (length front) n ts ++ es) (with_levels d ls) in
    ap (λ (b : Bool). then_applied (all_applied (level_adds (length front) (length xs + 1) ts ++ es))
    (if b then option_map (with_levels (with_levels d levels)) (put_at (length front) (length xs) t levels) else None)) passes
    ∙ ap (λ (o : Option (List (List ℕ))). then_applied (all_applied (level_adds (length front) (length xs + 1) ts ++ es))
    (option_map (with_levels (with_levels d levels)) o)) (put_middle front xs ys back t)
    ∙ ap (λ (n : ℕ). all_applied (level_adds (length front) n ts ++ es) (with_levels d (front ++ (xs ++ t ∷ ys) ∷ back)))
    (sym place)
    ∙ ap (λ (l : List ℕ). all_applied (level_adds (length front) (length (xs ++ t ∷ [])) ts ++ es)
    (with_levels d (front ++ l ∷ back))) level
    ∙ adds_say front (xs ++ t ∷ []) ts ys back es d fit.1 once.1 (each ts once.0 new.1)
    ∙ ap (λ (l : List ℕ). all_applied es (with_levels d (front ++ l ∷ back))) (append_assoc xs (t ∷ []) (ts ++ ys))
  where
    each : (us : List ℕ) → is_in t us ≡ false
        → AllByRecursion (λ (u : ℕ). is_in u (all_tables (front ++ (xs ++ ys) ∷ back)) ≡ false) us
        → AllByRecursion (λ (u : ℕ). is_in u (all_tables (front ++ ((xs ++ t ∷ []) ++ ys) ∷ back)) ≡ false) us
    each [] apart none = tt
    each (u ∷ us) apart none =
        let parts = none_either (u == t) (is_in t us) apart in
        (none_more front xs ys back t u (turned t u ∙ parts.0) none.0, each us parts.1 none.1)

-- ---- the frame

-- what is so of tables that take the place of others in a state
pub record CanReplace (r : Replacing) (s : ManifestState) : Type 0 where
  -- no table stands twice
  pub once : AreOnce (all_tables s.levels)
  -- the level that is put into, without the inputs
  pub front : List (List ℕ)
  pub before : List ℕ
  pub behind : List ℕ
  pub back : List (List ℕ)
  pub are : left_levels r.inputs s.levels ≡ front ++ (before ++ behind) ∷ back
  pub level : r.level ≡ length front
  pub position : r.position ≡ length before
  -- the new tables have numbers of their own, which no table had
  pub numbers : AllByRecursion (λ (t : ℕ). is_file_number t ≡ true) r.made
  pub distinct : AreOnce r.made
  pub new : AllByRecursion (λ (t : ℕ). is_in t (all_tables s.levels) ≡ false) r.made
  pub next : are_next r.next_log r.next_table ≡ true
  pub gone : (s.gone ≡ r.gone) ⊎ (is_gone r.gone ≡ true)

-- the state behind it
abbrev pub replaced_state : Replacing → List (List ℕ) → ManifestState → ManifestState
replaced_state r levels s = record s { levels = levels; next_log = r.next_log; next_table = r.next_table; gone = r.gone }

module _ (r : Replacing) (s : ManifestState) (can : CanReplace r s) where
  abbrev pub levels_then : List (List ℕ)
  levels_then = can.front ++ (can.before ++ (r.made ++ can.behind)) ∷ can.back

  abbrev with_tables : VersionBuilder
  with_tables = with_levels (as_draft s) levels_then

  abbrev with_next : VersionBuilder
  with_next = record with_tables { next = Some (r.next_log, r.next_table) }

  gone_say : all_applied (gone_since s.gone r.gone) with_next ≡ Some (record with_next { gone = r.gone })
  gone_say = by (s.gone == r.gone) refl
    where
      passes : (s.gone == r.gone) ≡ false → is_gone r.gone ≡ true
      passes apart = ⊎_elim
          (λ (same : s.gone ≡ r.gone).
          absurd (let no : (s.gone == r.gone) ≡ true = grind (arith, nat_tests, same) in true_false (sym no ∙ apart)))
          (λ (fits : is_gone r.gone ≡ true). fits) can.gone

      by : (b : Bool) → (s.gone == r.gone) ≡ b
          → all_applied (if b then [] else Gone r.gone ∷ []) with_next ≡ Some (record with_next { gone = r.gone })
      by true is =
          let same : s.gone ≡ r.gone = grind (arith, nat_tests, is) in
          ap (λ (n : ℕ). Some (record with_next { gone = n })) same
      by false is = ap (λ (b : Bool). then_applied (all_applied []) (given_if b (record with_next { gone = r.gone }))) (passes is)

  none_left : (t : ℕ) (levels : List (List ℕ)) → is_in t (all_tables levels) ≡ false
      → is_in t (all_tables (left_levels r.inputs levels)) ≡ false
  none_left t [] none = refl
  none_left t (ts ∷ levels) none =
      let parts = is_in-parts t ts (all_tables levels) none in
      is_in-append t (left_tables r.inputs ts) (all_tables (left_levels r.inputs levels)) (fewer ts parts.0)
      (none_left t levels parts.1)
    where
      fewer : (us : List ℕ) → is_in t us ≡ false → is_in t (left_tables r.inputs us) ≡ false
      fewer [] off = refl
      fewer (u ∷ us) off = let two = none_either (u == t) (is_in t us) off in by (not (is_in u r.inputs)) two.0 (fewer us two.1)
        where
          by : (b : Bool) → (u == t) ≡ false → is_in t (left_tables r.inputs us) ≡ false
              → is_in t (if b then u ∷ left_tables r.inputs us else left_tables r.inputs us) ≡ false
          by true apart rest = ap (λ (c : Bool). c || is_in t (left_tables r.inputs us)) apart ∙ rest
          by false apart rest = rest

  new_left : (ts : List ℕ) → AllByRecursion (λ (t : ℕ). is_in t (all_tables s.levels) ≡ false) ts
      → AllByRecursion (λ (t : ℕ). is_in t (all_tables (can.front ++ (can.before ++ can.behind) ∷ can.back)) ≡ false) ts
  new_left [] all = tt
  new_left (t ∷ ts) all = (
    ap (λ (ls : List (List ℕ)). is_in t (all_tables ls)) (sym can.are)
        ∙ none_left t s.levels all.0,
    new_left ts all.1,
  )

  -- What an install's frame makes of a state.
  pub install_says : next_state (install_switch r s) s ≡ Some (replaced_state r levels_then s)
  install_says =
      let last : List Edit = Next r.next_log r.next_table ∷ gone_since s.gone r.gone in
      ap finish (inputs_drop r.inputs (level_adds r.level r.position r.made ++ last) (as_draft s) can.once)
      ∙ ap (λ (ls : List (List ℕ)). finish (all_applied (level_adds r.level r.position r.made ++ last)
      (with_levels (as_draft s) ls))) can.are
      ∙ ap (λ (n : ℕ). finish (all_applied (level_adds n r.position r.made ++ last)
      (with_levels (as_draft s) (can.front ++ (can.before ++ can.behind) ∷ can.back)))) can.level
      ∙ ap (λ (n : ℕ). finish (all_applied (level_adds (length can.front) n r.made ++ last)
      (with_levels (as_draft s) (can.front ++ (can.before ++ can.behind) ∷ can.back)))) can.position
      ∙ ap finish (adds_say can.front can.before r.made can.behind can.back last (as_draft s) can.numbers can.distinct
      (new_left r.made can.new))
      ∙ ap (λ (b : Bool). finish (then_applied (all_applied (gone_since s.gone r.gone)) (given_if b with_next))) can.next
      ∙ ap finish gone_say

-- It can be so of a state with another next table, and makes the same of it.
module _ (r : Replacing) (s : ManifestState) (can : CanReplace r s) (n : ℕ) where
  pub can_either : CanReplace r (record s { next_table = n })
  can_either = record {
    once = can.once;
    front = can.front;
    before = can.before;
    behind = can.behind;
    back = can.back;
    are = can.are;
    level = can.level;
    position = can.position;
    numbers = can.numbers;
    distinct = can.distinct;
    new = can.new;
    next = can.next;
    gone = can.gone;
  }

  pub install_either : next_state (install_switch r s) (record s { next_table = n }) ≡ Some (replaced_state r (levels_then r s can) s)
  unfolding can_either
  install_either = install_says r (record s { next_table = n }) can_either
