-- What the edits of an install tell where a manifest takes them: its tables have numbers that files may have, and the next
-- numbers are in range; and what they leave of what it said.
use Rattle.std.specs.Prelude.{◌≡◌, ◌==◌, ◌&&◌, ◌+◌, ℕ, Bool, true, false, not, if◌then◌else◌, List, [], ◌∷◌, ◌++◌}
use Rattle.std.specs.Prelude.{map, Option, None, Some, refl}
use Rattle.std.specs.List.{AllByRecursion, filter}
use Rattle.std.specs.Option.{option_map}
use Rattle.std.proofs.Common.{sym, ap, append_assoc, ◌∙◌}
use Rattle.std.proofs.lemmas.Bool.{and_parts}
use Rattle.vl_back.specs.InstallEdits.{Replacing, drops_of, gone_since, install_switch}
use Rattle.vl_engine_laws.specs.laws.FileLaws.{all_back, all_front}
use Rattle.vl_manifest.specs.Levels.{all_tables, is_in, put_at, taken_out}
use Rattle.vl_manifest.specs.States.{all_applied, applied, are_next, as_draft, finish, given_if, is_file_number}
use Rattle.vl_manifest.specs.States.{is_gone, is_keep, level_adds, next_state, then_applied, with_both, with_levels}
use Rattle.vl_manifest.specs.declared.edit.Edit.TheVariants.{Add, Drop, Gone, Head, Keep, Next}
use Rattle.vl_manifest.specs.declared.edit.Edit.{Edit}
use Rattle.vl_manifest.specs.declared.state.ManifestState.{ManifestState}
use Rattle.vl_manifest.specs.declared.version_builder.VersionBuilder.{VersionBuilder}

none_some : {A : Type 0} (x : A) → ◌≡◌ {A = Option A} None (Some x) → ⊥
none_some x e = cc

-- ---- what an edit asks by itself

abbrev pub FitsAlone : Edit → Type 0
FitsAlone (Add level position table) = is_file_number table ≡ true
FitsAlone (Drop table) = Unit {0}
FitsAlone (Head segment number) = Unit {0}
FitsAlone (Next log table) = are_next log table ≡ true
FitsAlone (Keep versions since) = Unit {0}
FitsAlone (Gone number) = Unit {0}

passes : {A : Type 0} (b : Bool) (o : Option A) (x : A) → (if b then o else None) ≡ Some x → b ≡ true
passes true o x is = refl
passes false o x is = absurd (none_some x is)

fits_alone : (e : Edit) (d x : VersionBuilder) → applied e d ≡ Some x → FitsAlone e
fits_alone (Add level position table) d x is =
    (and_parts (is_file_number table) (not (is_in table (all_tables d.levels)))
    (passes (is_file_number table && not (is_in table (all_tables d.levels)))
    (option_map (with_levels d) (put_at level position table d.levels)) x is)).0
fits_alone (Drop table) d x is = tt
fits_alone (Head segment number) d x is = tt
fits_alone (Next log table) d x is = passes (are_next log table) (Some (record d { next = Some (log, table) })) x is
fits_alone (Keep versions since) d x is = tt
fits_alone (Gone number) d x is = tt

all_fit : (es : List Edit) (d x : VersionBuilder) → all_applied es d ≡ Some x → AllByRecursion FitsAlone es
all_fit [] d x is = tt
all_fit (e ∷ es) d x is = by (λ y goes. all_fit es y x goes) (applied e d) refl is
  where
    by : ((y : VersionBuilder) → all_applied es y ≡ Some x → AllByRecursion FitsAlone es) → (o : Option VersionBuilder)
        → applied e d ≡ o → then_applied (all_applied es) o ≡ Some x → AllByRecursion FitsAlone (e ∷ es)
    by rest None at is = absurd (none_some x is)
    by rest (Some y) at is = (fits_alone e d y at, rest y is)

finished_fit : (es : List Edit) (d : VersionBuilder) (t : ManifestState) → finish (all_applied es d) ≡ Some t
    → AllByRecursion FitsAlone es
finished_fit es d t is = by (all_applied es d) refl is
  where
    by : (o : Option VersionBuilder) → all_applied es d ≡ o → finish o ≡ Some t → AllByRecursion FitsAlone es
    by None at is = absurd (none_some t is)
    by (Some x) at is = all_fit es d x at

adds_fit : (level position : ℕ) (ts : List ℕ) → AllByRecursion FitsAlone (level_adds level position ts)
    → AllByRecursion (λ (t : ℕ). is_file_number t ≡ true) ts
adds_fit level position [] all = tt
adds_fit level position (t ∷ ts) all = (all.0, adds_fit level (position + 1) ts all.1)

module _ (r : Replacing) (s t : ManifestState) (is : next_state (install_switch r s) s ≡ Some t) where
  abbrev last : List Edit
  last = Next r.next_log r.next_table ∷ gone_since s.gone r.gone

  all_behind : AllByRecursion FitsAlone (level_adds r.level r.position r.made ++ last)
  all_behind = all_back FitsAlone (drops_of r.inputs (all_tables s.levels)) (level_adds r.level r.position r.made ++ last)
      (finished_fit (install_switch r s) (as_draft s) t is)

  -- Each of its tables has a number that files may have,
  pub edits_fit : AllByRecursion (λ (n : ℕ). is_file_number n ≡ true) r.made
  edits_fit = adds_fit r.level r.position r.made (all_front FitsAlone (level_adds r.level r.position r.made) last all_behind)

  -- and the next numbers are in range.
  pub next_fits : are_next r.next_log r.next_table ≡ true
  next_fits = (all_back FitsAlone (level_adds r.level r.position r.made) last all_behind).0

-- ---- what next numbers it gives

-- the edits behind others are applied to some draft
behind : (xs ys : List Edit) (d : VersionBuilder) (t : ManifestState) → finish (all_applied (xs ++ ys) d) ≡ Some t
    → (e : VersionBuilder) × (finish (all_applied ys e) ≡ Some t)
behind [] ys d t is = (d, is)
behind (x ∷ xs) ys d t is = by (λ y goes. behind xs ys y t goes) (applied x d) is
  where
    by : ((y : VersionBuilder) → finish (all_applied (xs ++ ys) y) ≡ Some t
        → (e : VersionBuilder) × (finish (all_applied ys e) ≡ Some t)) → (o : Option VersionBuilder)
        → finish (then_applied (all_applied (xs ++ ys)) o) ≡ Some t → (e : VersionBuilder) × (finish (all_applied ys e) ≡ Some t)
    by rest None is = absurd (none_some t is)
    by rest (Some y) is = rest y is

module _ (log table : ℕ) (t : ManifestState) where
  -- these numbers are given next
  abbrev Gives : Type 0
  Gives = (t.next_log ≡ log) × (t.next_table ≡ table)

  some_next : (x : ManifestState) → Some x ≡ Some t → (t.next_log ≡ x.next_log) × (t.next_table ≡ x.next_table)
  some_next x e =
      let same : x ≡ t = cc in
      (sym (ap (λ (s : ManifestState). s.next_log) same), sym (ap (λ (s : ManifestState). s.next_table) same))

  by_head : (d : VersionBuilder) (head : Option (ℕ × ℕ)) → with_both d head (Some (log, table)) ≡ Some t → Gives
  by_head d None is = absurd (none_some t is)
  by_head d (Some p) is = some_next _ is

  by_gone : (d : VersionBuilder) (gone : ℕ) (c : Bool)
      → finish (then_applied (all_applied []) (given_if c (record d { next = Some (log, table); gone = gone }))) ≡ Some t
      → Gives
  by_gone d gone true is = by_head (record d { next = Some (log, table); gone = gone }) d.head is
  by_gone d gone false is = absurd (none_some t is)

  by_same : (d : VersionBuilder) (gone : ℕ) (c : Bool)
      → finish (all_applied (if c then [] else Gone gone ∷ []) (record d { next = Some (log, table) })) ≡ Some t
      → Gives
  by_same d gone true is = by_head (record d { next = Some (log, table) }) d.head is
  by_same d gone false is = by_gone d gone (is_gone gone) is

  by_next : (d : VersionBuilder) (before gone : ℕ) (c : Bool)
      → finish (then_applied (all_applied (gone_since before gone)) (given_if c (record d { next = Some (log, table) }))) ≡ Some t
      → Gives
  by_next d before gone true is = by_same d gone (before == gone) is
  by_next d before gone false is = absurd (none_some t is)

-- The next numbers are those that were told.
pub install_gives : (r : Replacing) (s t : ManifestState) → next_state (install_switch r s) s ≡ Some t
    → (t.next_log ≡ r.next_log) × (t.next_table ≡ r.next_table)
install_gives r s t is =
    let last : List Edit = Next r.next_log r.next_table ∷ gone_since s.gone r.gone in
    let (d, adds) = behind (drops_of r.inputs (all_tables s.levels)) (level_adds r.level r.position r.made ++ last) (as_draft s) t is in
    let (e, rest) = behind (level_adds r.level r.position r.made) last d t adds in
    by_next r.next_log r.next_table t e s.gone r.gone (are_next r.next_log r.next_table) rest

pub install_next : (r : Replacing) (s t : ManifestState) → next_state (install_switch r s) s ≡ Some t
    → t.next_table ≡ r.next_table
install_next r s t is = (install_gives r s t is).1

-- ---- what it leaves

some_draft : (x y : VersionBuilder) → Some x ≡ Some y → x ≡ y
some_draft x y e = cc

-- the head isn't said anew
abbrev LeavesHead : Edit → Type 0
LeavesHead (Add level position table) = Unit {0}
LeavesHead (Drop table) = Unit {0}
LeavesHead (Head segment number) = ⊥
LeavesHead (Next log table) = Unit {0}
LeavesHead (Keep versions since) = Unit {0}
LeavesHead (Gone number) = Unit {0}

given_head : (c : Bool) (d y x : VersionBuilder) → y.head ≡ d.head → given_if c y ≡ Some x → x.head ≡ d.head
given_head true d y x same is = ap (λ (z : VersionBuilder). z.head) (sym (some_draft y x is)) ∙ same
given_head false d y x same is = absurd (none_some x is)

head_one : (e : Edit) (d x : VersionBuilder) → LeavesHead e → applied e d ≡ Some x → x.head ≡ d.head
head_one (Add level position table) d x leaves is =
    by (is_file_number table && not (is_in table (all_tables d.levels))) (put_at level position table d.levels) is
  where
    by : (c : Bool) (o : Option (List (List ℕ))) → (if c then option_map (with_levels d) o else None) ≡ Some x → x.head ≡ d.head
    by true None is = absurd (none_some x is)
    by true (Some levels) is = ap (λ (z : VersionBuilder). z.head) (sym (some_draft (with_levels d levels) x is))
    by false o is = absurd (none_some x is)
head_one (Drop table) d x leaves is =
    given_head (is_in table (all_tables d.levels)) d (with_levels d (taken_out table d.levels)) x refl is
head_one (Head segment number) d x leaves is = absurd leaves
head_one (Next log table) d x leaves is = given_head (are_next log table) d (record d { next = Some (log, table) }) x refl is
head_one (Keep versions since) d x leaves is =
    given_head (is_keep versions since) d (record d { keep = versions; since = since }) x refl is
head_one (Gone number) d x leaves is = given_head (is_gone number) d (record d { gone = number }) x refl is

head_all : (es : List Edit) (d x : VersionBuilder) → AllByRecursion LeavesHead es → all_applied es d ≡ Some x → x.head ≡ d.head
head_all [] d x leave is = ap (λ (z : VersionBuilder). z.head) (sym (some_draft d x is))
head_all (e ∷ es) d x leave is = by (λ y goes. head_all es y x leave.1 goes) (applied e d) refl is
  where
    by : ((y : VersionBuilder) → all_applied es y ≡ Some x → x.head ≡ y.head) → (o : Option VersionBuilder) → applied e d ≡ o
        → then_applied (all_applied es) o ≡ Some x → x.head ≡ d.head
    by rest None at is = absurd (none_some x is)
    by rest (Some y) at is = rest y is ∙ head_one e d y leave.0 at

drops_leave : (ns : List ℕ) (es : List Edit) → AllByRecursion LeavesHead es → AllByRecursion LeavesHead (map Drop ns ++ es)
drops_leave [] es leave = leave
drops_leave (n ∷ ns) es leave = (tt, drops_leave ns es leave)

adds_leave : (level position : ℕ) (ts : List ℕ) (es : List Edit) → AllByRecursion LeavesHead es
    → AllByRecursion LeavesHead (level_adds level position ts ++ es)
adds_leave level position [] es leave = leave
adds_leave level position (t ∷ ts) es leave = (tt, adds_leave level (position + 1) ts es leave)

last_leave : (log table before after : ℕ) → AllByRecursion LeavesHead (Next log table ∷ gone_since before after)
last_leave log table before after = (tt, by (before == after))
  where
    by : (c : Bool) → AllByRecursion LeavesHead (if c then [] else Gone after ∷ [])
    by true = tt
    by false = (tt, tt)

-- Its head is as before.
pub install_head : (r : Replacing) (s t : ManifestState) → next_state (install_switch r s) s ≡ Some t → t.head ≡ s.head
install_head r s t is = by (all_applied (install_switch r s) (as_draft s)) refl is
  where
    leave : AllByRecursion LeavesHead (install_switch r s)
    leave = drops_leave (filter (λ (n : ℕ). is_in n r.inputs) (all_tables s.levels))
        (level_adds r.level r.position r.made ++ (Next r.next_log r.next_table ∷ gone_since s.gone r.gone))
        (adds_leave r.level r.position r.made (Next r.next_log r.next_table ∷ gone_since s.gone r.gone)
        (last_leave r.next_log r.next_table s.gone r.gone))

    some_state : (a b : ManifestState) → Some a ≡ Some b → b.head ≡ a.head
    some_state a b e = let same : a ≡ b = cc in sym (ap (λ (z : ManifestState). z.head) same)

    ended : (d : VersionBuilder) (next : Option (ℕ × ℕ)) → with_both d (Some (s.head, s.covered)) next ≡ Some t → t.head ≡ s.head
    ended d None is = absurd (none_some t is)
    ended d (Some q) is = some_state _ t is

    by : (o : Option VersionBuilder) → all_applied (install_switch r s) (as_draft s) ≡ o → finish o ≡ Some t → t.head ≡ s.head
    by None at is = absurd (none_some t is)
    by (Some x) at is = ended x x.next
        (ap (λ (p : Option (ℕ × ℕ)). with_both x p x.next) (sym (head_all (install_switch r s) (as_draft s) x leave at)) ∙ is)

-- ---- over another next table

abbrev with_next : Option (ℕ × ℕ) → VersionBuilder → VersionBuilder
with_next n d = record d { next = n }

-- it says of tables alone
abbrev OfTables : Edit → Type 0
OfTables (Add level position table) = Unit {0}
OfTables (Drop table) = Unit {0}
OfTables (Head segment number) = ⊥
OfTables (Next log table) = ⊥
OfTables (Keep versions since) = ⊥
OfTables (Gone number) = ⊥

moves_one : (e : Edit) (n : Option (ℕ × ℕ)) (d : VersionBuilder) → OfTables e
    → applied e (with_next n d) ≡ option_map (with_next n) (applied e d)
moves_one (Add level position table) n d of =
    by (is_file_number table && not (is_in table (all_tables d.levels))) (put_at level position table d.levels)
  where
    by : (c : Bool) (o : Option (List (List ℕ))) → (if c then option_map (with_levels (with_next n d)) o else None)
        ≡ option_map (with_next n) (if c then option_map (with_levels d) o else None)
    by true None = refl
    by true (Some levels) = refl
    by false o = refl
moves_one (Drop table) n d of = by (is_in table (all_tables d.levels))
  where
    by : (c : Bool) → given_if c (with_levels (with_next n d) (taken_out table d.levels))
        ≡ option_map (with_next n) (given_if c (with_levels d (taken_out table d.levels)))
    by true = refl
    by false = refl
moves_one (Head segment number) n d of = absurd of
moves_one (Next log table) n d of = absurd of
moves_one (Keep versions since) n d of = absurd of
moves_one (Gone number) n d of = absurd of

moves_all : (es : List Edit) (n : Option (ℕ × ℕ)) (d : VersionBuilder) → AllByRecursion OfTables es
    → all_applied es (with_next n d) ≡ option_map (with_next n) (all_applied es d)
moves_all [] n d of = refl
moves_all (e ∷ es) n d of =
    ap (then_applied (all_applied es)) (moves_one e n d of.0) ∙ by (λ y. moves_all es n y of.1) (applied e d)
  where
    by : ((y : VersionBuilder) → all_applied es (with_next n y) ≡ option_map (with_next n) (all_applied es y))
        → (o : Option VersionBuilder) → then_applied (all_applied es) (option_map (with_next n) o)
        ≡ option_map (with_next n) (then_applied (all_applied es) o)
    by rest None = refl
    by rest (Some y) = rest y

applied_both : (xs ys : List Edit) (d : VersionBuilder)
    → all_applied (xs ++ ys) d ≡ then_applied (all_applied ys) (all_applied xs d)
applied_both [] ys d = refl
applied_both (x ∷ xs) ys d = by (λ y. applied_both xs ys y) (applied x d)
  where
    by : ((y : VersionBuilder) → all_applied (xs ++ ys) y ≡ then_applied (all_applied ys) (all_applied xs y))
        → (o : Option VersionBuilder) → then_applied (all_applied (xs ++ ys)) o
        ≡ then_applied (all_applied ys) (then_applied (all_applied xs) o)
    by rest None = refl
    by rest (Some y) = rest y

drops_of_tables : (ns : List ℕ) (es : List Edit) → AllByRecursion OfTables es → AllByRecursion OfTables (map Drop ns ++ es)
drops_of_tables [] es of = of
drops_of_tables (n ∷ ns) es of = (tt, drops_of_tables ns es of)

adds_of_tables : (level position : ℕ) (ts : List ℕ) → AllByRecursion OfTables (level_adds level position ts)
adds_of_tables level position [] = tt
adds_of_tables level position (t ∷ ts) = (tt, adds_of_tables level (position + 1) ts)

-- Whatever number the next table had, it comes to the same.
pub install_any_next : (r : Replacing) (s : ManifestState) (n : ℕ)
    → next_state (install_switch r s) (record s { next_table = n }) ≡ next_state (install_switch r s) s
install_any_next r s n =
    ap finish (ap (λ (es : List Edit). all_applied es (as_draft (record s { next_table = n }))) (sym parts)
    ∙ applied_both front last (as_draft (record s { next_table = n }))
    ∙ ap (then_applied (all_applied last)) (moves_all front (Some (s.next_log, n)) (as_draft s) of)
    ∙ by (all_applied front (as_draft s))
    ∙ sym (applied_both front last (as_draft s)) ∙ ap (λ (es : List Edit). all_applied es (as_draft s)) parts)
  where
    last : List Edit
    last = Next r.next_log r.next_table ∷ gone_since s.gone r.gone

    drops : List Edit
    drops = drops_of r.inputs (all_tables s.levels)

    adds : List Edit
    adds = level_adds r.level r.position r.made

    front : List Edit
    front = drops ++ adds

    parts : front ++ last ≡ install_switch r s
    parts = append_assoc drops adds last

    of : AllByRecursion OfTables front
    of = drops_of_tables (filter (λ (k : ℕ). is_in k r.inputs) (all_tables s.levels)) adds
        (adds_of_tables r.level r.position r.made)

    by : (o : Option VersionBuilder) → then_applied (all_applied last) (option_map (with_next (Some (s.next_log, n))) o)
        ≡ then_applied (all_applied last) o
    by None = refl
    by (Some x) = refl
