-- Of the level into which a merge is planned each table that isn't an input lies on one side of all keys of the inputs.
use Rattle.std.proofs.Common.{◌≡◌, ◌≢◌, inl, inr, ⊎_elim, ℕ, ◌+◌, ◌<◌, Bool, true, false, List, [], ◌∷◌, ◌++◌, ap}
use Rattle.std.proofs.Common.{sym, ◌∙◌, refl, subst, arith, length}
use Rattle.std.specs.Prelude.{Option, Some, None}
use Rattle.std.specs.List.{AllByRecursion, flat_map}
use Rattle.vl_model.specs.History.{History}
use Rattle.vl_model.specs.declared.entry.Entry.{Entry}
use Rattle.vl_engine_model.specs.Levels.{Range, due_inputs, inputs_at, is_among, level_at, range_of, with_next}
use Rattle.vl_engine_model.specs.Merging.{Sourced, if_so, inputs_of}
use Rattle.vl_engine_model.specs.OpenJobs.{IsBesideAll, IsRoomy}
use Rattle.vl_engine_model.specs.Rulings.Plan.{job_of, marked_as, sourced}
use Rattle.vl_engine_model.specs.Sources.{numbers_of, tables}
use Rattle.vl_engine_model.specs.TidyLevels.{AreLevels, IsApart, IsDistinct, IsRanged, IsWide}
use Rattle.vl_engine_model.specs.declared.job.Target.TheVariants.{Level}
use Rattle.vl_engine_model.specs.declared.layout.Layout.{Layout}
use Rattle.vl_engine_model.specs.declared.table.Table.{Table}
use Rattle.vl_engine_model_laws.specs.laws.Aside.{AreAbove, AreBelow, IsBeside, all_beside}
use Rattle.vl_engine_model_laws.specs.laws.Beside.{inputs_front}
use Rattle.vl_engine_model_laws.specs.laws.Keeps.{in_memory, marked_tables}
use Rattle.vl_engine_model_laws.specs.laws.Lists.{true_false}
use Rattle.vl_engine_model_laws.specs.laws.Outputs.{Lt}
use Rattle.vl_engine_model_laws.specs.laws.Pairs.{AreOther, all_parts, all_weaker, distinct_parts, not_one_of, others_turned}
use Rattle.vl_engine_model_laws.specs.laws.Planned.{IsCut, all_ins, cut_at, flat_levels, none_given}

-- ---- the inputs' entries

all_if_so : (Q : Entry → Type 0) (b : Bool) (e : Entry) (es : List Entry) → Q e → AllByRecursion Q es
    → AllByRecursion Q (if_so b e es)
all_if_so Q true e es here all = (here, all)
all_if_so Q false e es here all = all

-- what is so of each input's entries is so of the inputs' entries
pub inputs_only : (Q : Entry → Type 0) (inputs : List ℕ) (ts : List Table)
    → AllByRecursion (λ (t : Table). is_among inputs t ≡ true → AllByRecursion Q t.entries) ts
    → AllByRecursion Q (inputs_of (marked_tables inputs ts))
inputs_only Q inputs [] all = tt
inputs_only Q inputs (t ∷ ts) all = by (is_among inputs t) all.0 (inputs_only Q inputs ts all.1)
  where
    these : (es : List Entry) (ss : List Sourced) → AllByRecursion Q es → AllByRecursion Q (inputs_of ss)
        → AllByRecursion Q (inputs_of (marked_as true es ++ ss))
    these [] ss some all = all
    these (e ∷ es) ss some all = (some.0, these es ss some.1 all)

    none : (es : List Entry) (ss : List Sourced) → AllByRecursion Q (inputs_of ss)
        → AllByRecursion Q (inputs_of (marked_as false es ++ ss))
    none [] ss all = all
    none (e ∷ es) ss all = none es ss all

    by : (b : Bool) → (b ≡ true → AllByRecursion Q t.entries)
        → AllByRecursion Q (inputs_of (marked_tables inputs ts))
        → AllByRecursion Q (inputs_of (marked_as b t.entries ++ marked_tables inputs ts))
    by true some later = these t.entries (marked_tables inputs ts) (some refl) later
    by false some later = none t.entries (marked_tables inputs ts) later

pub sourced_inputs : (Q : Entry → Type 0) (l : Layout) (inputs : List ℕ)
    → AllByRecursion (λ (t : Table). is_among inputs t ≡ true → AllByRecursion Q t.entries) (tables l)
    → AllByRecursion Q (inputs_of (sourced l inputs))
sourced_inputs Q l inputs all =
    inputs_front Q (in_memory l) (marked_tables inputs (tables l)) (inputs_only Q inputs (tables l) all)

all_both : (P : Table → Type 0) (xs ys : List Table) → AllByRecursion P xs → AllByRecursion P ys
    → AllByRecursion P (xs ++ ys)
all_both P [] ys a b = b
all_both P (x ∷ xs) ys a b = (a.0, all_both P xs ys a.1 b)

idle_have : (Q : Entry → Type 0) (inputs : List ℕ) (ts : List Table)
    → AllByRecursion (λ (t : Table). is_among inputs t ≡ false) ts
    → AllByRecursion (λ (t : Table). is_among inputs t ≡ true → AllByRecursion Q t.entries) ts
idle_have Q inputs ts idle =
    all_weaker (λ (t : Table). is_among inputs t ≡ false)
    (λ (t : Table). is_among inputs t ≡ true → AllByRecursion Q t.entries) (λ t out is. absurd (true_false (sym is ∙ out))) ts idle

-- The level into which a level is merged has room for what the merge makes.
pub plan_roomy : (l : Layout) (h : History) (n : ℕ) → AreLevels l.levels → n + 1 < length l.levels
    → IsRoomy l.levels (job_of l h (inputs_at n l.levels) (Level (n + 1))) (Level (n + 1))
plan_roomy l h n are within = (
  omega arith,
  (
    within,
    subst (λ (us : List Table). AllByRecursion
        (λ (u : Table). is_among (numbers_of (inputs_at n l.levels)) u ≡ false
        → IsBesideAll (inputs_of (sourced l (numbers_of (inputs_at n l.levels)))) u) us) (sym c.second_is)
        (subst (λ (ns : List ℕ). AllByRecursion
        (λ (u : Table). is_among ns u ≡ false → IsBesideAll (inputs_of (sourced l ns)) u) B) (sym same)
        (by (range_of (due_inputs n A)) refl)),
  ),
)
  where
    c : IsCut n l.levels
    c = cut_at n l.levels within

    A : List Table
    A = c.first

    B : List Table
    B = c.second

    D : List Table
    D = flat_map (λ ts. ts) c.deeper

    pre : List Table
    pre = flat_map (λ ts. ts) c.pre

    ins : List Table
    ins = with_next (due_inputs n A) B

    same : numbers_of (inputs_at n l.levels) ≡ numbers_of ins
    same =
        ap (λ (x : List Table). numbers_of (with_next (due_inputs n x) (level_at (n + 1) l.levels))) c.first_is
        ∙ ap (λ (y : List Table). numbers_of (with_next (due_inputs n A) y)) c.second_is

    flat : tables l ≡ pre ++ (A ++ (B ++ D))
    flat =
        ap (λ (levels : List (List Table)). flat_map (λ ts. ts) levels) c.whole
        ∙ flat_levels c.pre (A ∷ B ∷ c.deeper)

    d0 : IsDistinct pre × (IsDistinct (A ++ (B ++ D))
        × AllByRecursion (λ (x : Table). AllByRecursion (λ (y : Table). y.number ≢ x.number) (A ++ (B ++ D))) pre)
    d0 = let d = distinct_parts pre (A ++ (B ++ D)) (subst IsDistinct flat are.distinct) in (d.0, (d.1.0, d.1.1))

    d1 : IsDistinct A × (IsDistinct (B ++ D) × AreOther A (B ++ D))
    d1 = let d = distinct_parts A (B ++ D) d0.1.0 in (d.0, (d.1.0, d.1.1))

    d2 : IsDistinct B × (IsDistinct D × AreOther B D)
    d2 = let d = distinct_parts B D d1.1.0 in (d.0, (d.1.0, d.1.1))

    off : AreOther A B
    off =
        all_weaker (λ (x : Table). AllByRecursion (λ (y : Table). y.number ≢ x.number) (B ++ D))
        (λ (x : Table). AllByRecursion (λ (y : Table). y.number ≢ x.number) B)
        (λ x all. (all_parts (λ (y : Table). y.number ≢ x.number) B D all).0) A d1.1.1

    off_D : AreOther A D
    off_D =
        all_weaker (λ (x : Table). AllByRecursion (λ (y : Table). y.number ≢ x.number) (B ++ D))
        (λ (x : Table). AllByRecursion (λ (y : Table). y.number ≢ x.number) D)
        (λ x all. (all_parts (λ (y : Table). y.number ≢ x.number) B D all).1) A d1.1.1

    of_two : (P : Table → Type 0) → AllByRecursion P (tables l) → AllByRecursion P A × AllByRecursion P B
    of_two P all =
        let r0 = all_parts P pre (A ++ (B ++ D)) (subst (AllByRecursion P) flat all) in
        let r1 = all_parts P A (B ++ D) r0.1 in
        (r1.0, (all_parts P B D r1.1).0)

    apart_A : 0 < n → IsApart A
    apart_A some = subst IsApart c.first_is (are.apart n some)

    apart_B : IsApart B
    apart_B = subst IsApart c.second_is (are.apart (n + 1) (omega arith))

    not_in : (u : Table) → AllByRecursion (λ (t : Table). t.number ≢ u.number) A
        → AllByRecursion (λ (t : Table). t.number ≢ u.number) B → is_among (numbers_of ins) u ≡ false
    not_in u a b =
        not_one_of u ins (all_ins n A B d1.0 off (of_two IsRanged are.ranged).0 (of_two IsRanged are.ranged).1 apart_A
        apart_B (λ (t : Table). t.number ≢ u.number) a b)

    idle_pre : AllByRecursion (λ (u : Table). is_among (numbers_of ins) u ≡ false) pre
    idle_pre =
        all_weaker (λ (u : Table). AllByRecursion (λ (t : Table). t.number ≢ u.number) (A ++ (B ++ D)))
        (λ (u : Table). is_among (numbers_of ins) u ≡ false)
        (λ u all.
        let x = all_parts (λ (t : Table). t.number ≢ u.number) A (B ++ D) all in
        let y = all_parts (λ (t : Table). t.number ≢ u.number) B D x.1 in
        not_in u x.0 y.0) pre d0.1.1

    idle_D : AllByRecursion (λ (u : Table). is_among (numbers_of ins) u ≡ false) D
    idle_D = both D (others_turned A D off_D) (others_turned B D d2.1.1)
      where
        both : (us : List Table)
            → AllByRecursion (λ (u : Table). AllByRecursion (λ (t : Table). t.number ≢ u.number) A) us
            → AllByRecursion (λ (u : Table). AllByRecursion (λ (t : Table). t.number ≢ u.number) B) us
            → AllByRecursion (λ (u : Table). is_among (numbers_of ins) u ≡ false) us
        both [] a b = tt
        both (u ∷ us) a b = (not_in u a.0 b.0, both us a.1 b.1)

    -- what is so of the inputs of both levels is so of all inputs' entries
    of_inputs : (Q : Entry → Type 0)
        → AllByRecursion (λ (t : Table). is_among (numbers_of ins) t ≡ true → AllByRecursion Q t.entries) A
        → AllByRecursion (λ (t : Table). is_among (numbers_of ins) t ≡ true → AllByRecursion Q t.entries) B
        → AllByRecursion Q (inputs_of (sourced l (numbers_of ins)))
    of_inputs Q a b =
        let P : Table → Type 0 = λ t. is_among (numbers_of ins) t ≡ true → AllByRecursion Q t.entries in
        sourced_inputs Q l (numbers_of ins)
        (subst (AllByRecursion P) (sym flat) (all_both P pre (A ++ (B ++ D)) (idle_have Q (numbers_of ins) pre idle_pre)
        (all_both P A (B ++ D) a (all_both P B D b (idle_have Q (numbers_of ins) D idle_D)))))

    by : (o : Option Range) → range_of (due_inputs n A) ≡ o
        → AllByRecursion (λ (u : Table). is_among (numbers_of ins) u ≡ false → IsBesideAll (inputs_of (sourced l (numbers_of ins))) u) B
    by None is =
        let empty = none_given n A B d1.0 off (of_two IsRanged are.ranged).0 (of_two IsRanged are.ranged).1 apart_A apart_B is in
        all_weaker (λ (u : Table). Unit {0})
        (λ (u : Table). is_among (numbers_of ins) u ≡ false → IsBesideAll (inputs_of (sourced l (numbers_of ins))) u)
        (λ u any out. inl (sourced_inputs (λ (e : Entry). Lt u.last e.key) l (numbers_of ins)
        (idle_have (λ (e : Entry). Lt u.last e.key) (numbers_of ins) (tables l)
        (subst (λ (ts : List Table). AllByRecursion (λ (t : Table). is_among (numbers_of ts) t ≡ false) (tables l))
        (sym empty) (nowhere (tables l))))))
        B (anything B)
      where
        nowhere : (ts : List Table) → AllByRecursion (λ (t : Table). is_among [] t ≡ false) ts
        nowhere [] = tt
        nowhere (t ∷ ts) = (refl, nowhere ts)

        anything : (ts : List Table) → AllByRecursion (λ (t : Table). Unit {0}) ts
        anything [] = tt
        anything (t ∷ ts) = (tt, anything ts)
    by (Some range) is =
        all_weaker (λ (u : Table). is_among (numbers_of ins) u ≡ false
        → IsBeside n A B d1.0 d2.0 off (of_two IsRanged are.ranged).0 (of_two IsRanged are.ranged).1 apart_A apart_B
        (of_two IsWide are.wide).1 range is u)
        (λ (u : Table). is_among (numbers_of ins) u ≡ false → IsBesideAll (inputs_of (sourced l (numbers_of ins))) u)
        (λ u beside out. ⊎_elim
        (λ (above : AreAbove (λ t. is_among (numbers_of ins) t) u.last A
        × AreAbove (λ t. is_among (numbers_of ins) t) u.last B). inl (of_inputs (λ (e : Entry). Lt u.last e.key) above.0 above.1))
        (λ (below : AreBelow (λ t. is_among (numbers_of ins) t) u.first A
        × AreBelow (λ t. is_among (numbers_of ins) t) u.first B). inr (of_inputs (λ (e : Entry). Lt e.key u.first) below.0 below.1))
        (beside out)) B
        (all_beside n A B d1.0 d2.0 off (of_two IsRanged are.ranged).0 (of_two IsRanged are.ranged).1 apart_A apart_B
        (of_two IsWide are.wide).1 range is)
