-- The entries that a planned merge has of its sources are those of its inputs, end to end.
use Rattle.std.proofs.Common.{◌≡◌, ◌≢◌, ◌⊎◌, inl, inr, ⊎_elim, ℕ, ◌+◌, ◌-◌, ◌<◌, Bool, true, false, ◌||◌, List, []}
use Rattle.std.proofs.Common.{◌∷◌, ◌++◌, refl, ap, sym, ◌∙◌, subst, arith}
use Rattle.std.proofs.lemmas.Bool.Decides.{nat_tests}
use Rattle.std.specs.Prelude.{Option, Some, None, ◌==◌, nat_lt, if◌then◌else◌}
use Rattle.std.specs.List.{AllByRecursion, filter, flat_map}
use Rattle.vl_engine_model.specs.Levels.{due_inputs, inputs_at, is_among, least_table, lesser_table, level_at, meets, one_or_none, range_of}
use Rattle.vl_engine_model.specs.Logs.{memtable}
use Rattle.vl_engine_model.specs.Merging.{Sourced, inputs_of}
use Rattle.vl_engine_model.specs.Rulings.Plan.{marked_as, sourced}
use Rattle.vl_engine_model.specs.Sources.{numbers_of, table_entries, tables}
use Rattle.vl_engine_model.specs.TidyLevels.{AreLevels, IsDistinct}
use Rattle.vl_engine_model.specs.declared.layout.Layout.{Layout}
use Rattle.vl_engine_model.specs.declared.table.Table.{Table}
use Rattle.vl_engine_model_laws.specs.laws.Pairs.{not_one_of}
use Rattle.vl_model.specs.declared.entry.Entry.{Entry}

-- ---- some of the tables, in their order

-- these tables are some of those, in the same order
abbrev pub IsPart : List Table → List Table → Type 0
IsPart xs [] = xs ≡ []
IsPart xs (t ∷ ts) = IsPart xs ts ⊎ ((ys : List Table) × (xs ≡ t ∷ ys) × IsPart ys ts)

pub none_part : (ts : List Table) → IsPart [] ts
none_part [] = refl
none_part (t ∷ ts) = inl (none_part ts)

pub whole_part : (ts : List Table) → IsPart ts ts
whole_part [] = refl
whole_part (t ∷ ts) = inr (ts, refl, whole_part ts)

filtered_part : (p : Table → Bool) (ts : List Table) → IsPart (filter p ts) ts
filtered_part p [] = refl
filtered_part p (t ∷ ts) = by (p t) (filtered_part p ts)
  where
    by : (b : Bool) → IsPart (filter p ts) ts → IsPart (if b then t ∷ filter p ts else filter p ts) (t ∷ ts)
    by true rest = inr (filter p ts, refl, rest)
    by false rest = inl rest

least_part : (ts : List Table) → IsPart (one_or_none (least_table ts)) ts
least_part [] = refl
least_part (t ∷ ts) = by (least_table ts) (least_part ts)
  where
    lesser : (b : Bool) (u : Table) → IsPart (u ∷ []) ts → IsPart (one_or_none (if b then Some u else Some t)) (t ∷ ts)
    lesser true u rest = inl rest
    lesser false u rest = inr ([], refl, none_part ts)

    by : (o : Option Table) → IsPart (one_or_none o) ts → IsPart (one_or_none (lesser_table t o)) (t ∷ ts)
    by None rest = inr ([], refl, none_part ts)
    by (Some u) rest = lesser (nat_lt u.number t.number) u rest

behind_part : (ts ys us : List Table) → IsPart ys us → IsPart ys (ts ++ us)
behind_part [] ys us part = part
behind_part (t ∷ ts) ys us part = inl (behind_part ts ys us part)

both_parts : (xs ts ys us : List Table) → IsPart xs ts → IsPart ys us → IsPart (xs ++ ys) (ts ++ us)
both_parts xs [] ys us none part = subst (λ (zs : List Table). IsPart (zs ++ ys) us) (sym none) part
both_parts xs (t ∷ ts) ys us one part = ⊎_elim
    (λ (later : IsPart xs ts). inl (both_parts xs ts ys us later part))
    (λ (here : (zs : List Table) × (xs ≡ t ∷ zs) × IsPart zs ts).
    inr (here.0 ++ ys, ap (λ (ws : List Table). ws ++ ys) here.1, both_parts here.0 ts ys us here.2 part))
    one

front_part : (xs ts us : List Table) → IsPart xs ts → IsPart xs (ts ++ us)
front_part xs [] us none = subst (λ (zs : List Table). IsPart zs us) (sym none) (none_part us)
front_part xs (t ∷ ts) us part = ⊎_elim
    (λ (later : IsPart xs ts). inl (front_part xs ts us later))
    (λ (here : (zs : List Table) × (xs ≡ t ∷ zs) × IsPart zs ts). inr (here.0, here.1, front_part here.0 ts us here.2))
    part

-- what is so of all is so of some
part_all : (P : Table → Type 0) (xs ts : List Table) → IsPart xs ts → AllByRecursion P ts → AllByRecursion P xs
part_all P xs [] none all = subst (AllByRecursion P) (sym none) tt
part_all P xs (t ∷ ts) part all = ⊎_elim
    (λ (later : IsPart xs ts). part_all P xs ts later all.1)
    (λ (here : (ys : List Table) × (xs ≡ t ∷ ys) × IsPart ys ts).
    subst (AllByRecursion P) (sym here.1) (all.0, part_all P here.0 ts here.2 all.1))
    part

-- ---- those of a level and of the next one

first_part : (levels : List (List Table)) (ys : List Table) → IsPart ys (level_at 0 levels)
    → IsPart ys (flat_map (λ level. level) levels)
first_part [] ys part = part
first_part (level ∷ deeper) ys part = front_part ys level (flat_map (λ level. level) deeper) part

levels_part : (n : ℕ) (levels : List (List Table)) (xs ys : List Table) → IsPart xs (level_at n levels)
    → IsPart ys (level_at (n + 1) levels) → IsPart (xs ++ ys) (flat_map (λ level. level) levels)
levels_part n [] xs ys one two = ap (λ (zs : List Table). zs ++ ys) one ∙ two
levels_part n (level ∷ deeper) xs ys one two =
    by (n == 0) refl one (λ part next. levels_part (n - 1) deeper xs ys part next)
  where
    deep : (m k : ℕ) → m ≡ k → IsPart ys (level_at m deeper) → IsPart ys (level_at k deeper)
    deep m k is part = subst (λ (i : ℕ). IsPart ys (level_at i deeper)) is part

    next : (b : Bool) → (n + 1 == 0) ≡ b → IsPart ys (if b then level else level_at (n + 1 - 1) deeper)
        → IsPart ys (level_at n deeper)
    next true is part = absurd (let no : n + 1 ≡ 0 = grind (arith, nat_tests, is) in omega (arith, no))
    next false is part = deep (n + 1 - 1) n (omega arith) part

    behind : IsPart ys (level_at n deeper)
    behind = next (n + 1 == 0) refl two

    by : (b : Bool) → (n == 0) ≡ b → IsPart xs (if b then level else level_at (n - 1) deeper)
        → (IsPart xs (level_at (n - 1) deeper) → IsPart ys (level_at (n - 1 + 1) deeper)
        → IsPart (xs ++ ys) (flat_map (λ level. level) deeper))
        → IsPart (xs ++ ys) (level ++ flat_map (λ level. level) deeper)
    by true is part later =
        let zero_is : n ≡ 0 = grind (arith, nat_tests, is) in
        both_parts xs level ys (flat_map (λ level. level) deeper) part (first_part deeper ys (deep n 0 zero_is behind))
    by false is part later =
        let some : 0 < n = grind (arith, nat_tests, is) in
        behind_part level (xs ++ ys) (flat_map (λ level. level) deeper)
        (later part (deep n (n - 1 + 1) (omega (arith, some)) behind))

due_part : (n : ℕ) (ts : List Table) → IsPart (due_inputs n ts) ts
due_part n ts = by (n == 0)
  where
    by : (b : Bool) → IsPart (if b then ts else one_or_none (least_table ts)) ts
    by true = whole_part ts
    by false = least_part ts

-- The inputs of a level are some of all tables, in the order of the sources.
pub inputs_part : (n : ℕ) (levels : List (List Table)) → IsPart (inputs_at n levels) (flat_map (λ level. level) levels)
inputs_part n levels =
    levels_part n levels (due_inputs n (level_at n levels))
    (filter (meets (range_of (due_inputs n (level_at n levels)))) (level_at (n + 1) levels))
    (due_part n (level_at n levels))
    (filtered_part (meets (range_of (due_inputs n (level_at n levels)))) (level_at (n + 1) levels))

-- ---- by their numbers

-- Where no number stands twice, those of all tables that have the numbers of some of them are just these.
pub numbered_part : (xs ts : List Table) → IsDistinct ts → IsPart xs ts → filter (is_among (numbers_of xs)) ts ≡ xs
numbered_part xs [] distinct none = sym none
numbered_part xs (t ∷ ts) distinct part = ⊎_elim
    (λ (later : IsPart xs ts).
    ap (λ b. if b then t ∷ filter (is_among (numbers_of xs)) ts else filter (is_among (numbers_of xs)) ts)
    (not_one_of t xs (part_all (λ (u : Table). u.number ≢ t.number) xs ts later distinct.0))
    ∙ numbered_part xs ts distinct.1 later)
    (λ (here : (ys : List Table) × (xs ≡ t ∷ ys) × IsPart ys ts).
    first here.0 here.1 here.2 (numbered_part here.0 ts distinct.1 here.2))
    part
  where
    one : (t.number == t.number) ≡ true
    one = grind (arith, nat_tests)

    -- none of those behind it has its number
    rest : (ys us : List Table) → AllByRecursion (λ (u : Table). u.number ≢ t.number) us
        → filter (is_among (t.number ∷ numbers_of ys)) us ≡ filter (is_among (numbers_of ys)) us
    rest ys [] other = refl
    rest ys (u ∷ us) other =
        let apart : (t.number == u.number) ≡ false = (let not_same = other.0 in grind (arith, nat_tests, not_same)) in
        ap (λ b. if b || is_among (numbers_of ys) u then u ∷ filter (is_among (t.number ∷ numbers_of ys)) us
        else filter (is_among (t.number ∷ numbers_of ys)) us) apart
        ∙ ap (λ (ws : List Table). if is_among (numbers_of ys) u then u ∷ ws else ws) (rest ys us other.1)

    first : (ys : List Table) → xs ≡ t ∷ ys → IsPart ys ts → filter (is_among (numbers_of ys)) ts ≡ ys
        → filter (is_among (numbers_of xs)) (t ∷ ts) ≡ xs
    first ys is part same =
        ap (λ (zs : List Table). filter (is_among (numbers_of zs)) (t ∷ ts)) is
        ∙ ap (λ b. if b || is_among (numbers_of ys) t then t ∷ filter (is_among (t.number ∷ numbers_of ys)) ts
        else filter (is_among (t.number ∷ numbers_of ys)) ts) one
        ∙ ap (λ (us : List Table). t ∷ us) (rest ys ts distinct.0 ∙ same)
        ∙ sym is

-- ---- their entries

inputs_none : (es : List Entry) (ss : List Sourced) → inputs_of (marked_as false es ++ ss) ≡ inputs_of ss
inputs_none [] ss = refl
inputs_none (e ∷ es) ss = inputs_none es ss

inputs_all : (es : List Entry) (ss : List Sourced) → inputs_of (marked_as true es ++ ss) ≡ es ++ inputs_of ss
inputs_all [] ss = refl
inputs_all (e ∷ es) ss = ap (λ (fs : List Entry). e ∷ fs) (inputs_all es ss)

inputs_tables : (p : Table → Bool) (ts : List Table)
    → inputs_of (flat_map (λ (t : Table). marked_as (p t) t.entries) ts) ≡ flat_map table_entries (filter p ts)
inputs_tables p [] = refl
inputs_tables p (t ∷ ts) = by (p t) (inputs_tables p ts)
  where
    others : List Sourced
    others = flat_map (λ (u : Table). marked_as (p u) u.entries) ts

    by : (b : Bool) → inputs_of others ≡ flat_map table_entries (filter p ts)
        → inputs_of (marked_as b t.entries ++ others) ≡ flat_map table_entries (if b then t ∷ filter p ts else filter p ts)
    by true rest = inputs_all t.entries others ∙ ap (λ (es : List Entry). t.entries ++ es) rest
    by false rest = inputs_none t.entries others ∙ rest

-- What the inputs of some tables have is what these have, end to end.
pub sourced_part : (l : Layout) (xs : List Table) → IsDistinct (tables l) → IsPart xs (tables l)
    → inputs_of (sourced l (numbers_of xs)) ≡ flat_map table_entries xs
sourced_part l xs distinct part =
    inputs_none (flat_map memtable (l.active ∷ l.frozen))
    (flat_map (λ (t : Table). marked_as (is_among (numbers_of xs) t) t.entries) (tables l))
    ∙ inputs_tables (is_among (numbers_of xs)) (tables l)
    ∙ ap (flat_map table_entries) (numbered_part xs (tables l) distinct part)

pub sourced_level : (l : Layout) (n : ℕ) → AreLevels l.levels
    → inputs_of (sourced l (numbers_of (inputs_at n l.levels))) ≡ flat_map table_entries (inputs_at n l.levels)
sourced_level l n are = sourced_part l (inputs_at n l.levels) are.distinct (inputs_part n l.levels)
