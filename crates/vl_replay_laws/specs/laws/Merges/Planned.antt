-- What the ruling on a plan or a drain leaves, where it plans a merge: a job of tables that stand.
use Rattle.std.proofs.Common.{◌≡◌, ℕ, zero, suc, ◌+◌, ◌==◌, Bool, true, false, cond, ◌&&◌, List, [], ◌∷◌, ◌++◌, refl}
use Rattle.std.proofs.Common.{ap, sym, ◌∙◌, subst, arith}
use Rattle.std.proofs.lemmas.Bool.Decides.{nat_tests}
use Rattle.std.specs.List.{flat_map}
use Rattle.std.specs.Prelude.{Option, None, Some, nat_le, nat_lt}
use Rattle.vl_engine_model.specs.Levels.{due_from, due_tables, first_into, inputs_at, is_due, level_bytes}
use Rattle.vl_engine_model.specs.Ruling.{leaving}
use Rattle.vl_engine_model.specs.Rulings.Drain.{drain_of, drain_ruling, drain_unless}
use Rattle.vl_engine_model.specs.Rulings.Fresh.{drawn}
use Rattle.vl_engine_model.specs.Rulings.Plan.{job_of, plan_of, plan_ruling, plan_unless, planned, with_job}
use Rattle.vl_engine_model.specs.Sources.{tables}
use Rattle.vl_engine_model.specs.declared.job.Job.{Job}
use Rattle.vl_engine_model.specs.declared.job.OpenJob.{OpenJob}
use Rattle.vl_engine_model.specs.declared.job.Target.TheVariants.{InPlace, Level}
use Rattle.vl_engine_model.specs.declared.layout.Layout.{Layout}
use Rattle.vl_engine_model.specs.declared.table.Table.{Table}
use Rattle.vl_model.specs.History.{History}
use Rattle.vl_replay_laws.specs.Choosing.{chosen}
use Rattle.vl_replay_laws.specs.Drawn.{drawn_all}
use Rattle.vl_replay_laws.specs.declared.choice.Choice.{Choice}
use Rattle.vl_replay_laws.specs.declared.choice.Choice.TheVariants.{Due, LeadsInto}
use Rattle.vl_script_model.specs.Durable.{without_merges}

none_some : {T : Type 0} (x : T) → None ≡ Some x → ⊥
none_some x e = cc

some_same : {T : Type 0} (x y : T) → Some x ≡ Some y → x ≡ y
some_same x y e = cc

-- a level that is due isn't empty
due_some : (level : ℕ) (ts : List Table) → is_due level ts ≡ true → ts ≡ [] → ⊥
due_some level ts due none = no (subst (λ (us : List Table). is_due level us ≡ true) none due)
  where
    few : nat_le due_tables 0 ≡ true → ⊥
    few e = grind (arith, nat_tests)

    bare : (bytes : ℕ) (rest : Bool) → (rest && nat_lt bytes 0) ≡ true → ⊥
    bare bytes false e = cc
    bare bytes true e = grind (arith, nat_tests)

    by : (b : Bool) → cond b (nat_le due_tables 0) (nat_le level 5 && nat_lt (level_bytes level) 0) ≡ true → ⊥
    by true e = few e
    by false e = bare (level_bytes level) (nat_le level 5) e

    no : is_due level [] ≡ true → ⊥
    no e = by (level == 0) e

none_before : (xs ys : List Table) → xs ++ ys ≡ [] → (xs ≡ []) × (ys ≡ [])
none_before [] ys is = (refl, is)
none_before (x ∷ xs) ys is = absurd cc

due_stand : (level : ℕ) (levels : List (List Table)) (n : ℕ) → due_from level levels ≡ Some n
    → flat_map (λ (ts : List Table). ts) levels ≡ [] → ⊥
due_stand level [] n is none = none_some n is
due_stand level (ts ∷ deeper) n is none =
    let both = none_before ts (flat_map (λ (us : List Table). us) deeper) none in
    by (is_due level ts) refl is (λ later. due_stand (level + 1) deeper n later both.1) both.0
  where
    by : (b : Bool) → is_due level ts ≡ b → cond b (Some level) (due_from (level + 1) deeper) ≡ Some n
        → (due_from (level + 1) deeper ≡ Some n → ⊥) → ts ≡ [] → ⊥
    by true due is later none = due_some level ts due none
    by false due is later none = later is

-- what was planned
pub record Plans (choice : Choice) (l : Layout) (h : History) (job : Job) : Type 0 where
  pub none : l.job ≡ None
  pub ruled : chosen choice l h ≡ planned l h job
  pub tables : tables l ≡ [] → ⊥

module _ (l : Layout) (h : History) where
  due_planned : (job : Job) → (plan_ruling l h).answer ≡ Some job → Plans Due l h job
  due_planned job is = of l.job refl is
    where
      due : (o : Option ℕ) → due_from 0 l.levels ≡ o → l.job ≡ None → (plan_of l h o).answer ≡ Some job → Plans Due l h job
      due None due_is none is = absurd (none_some job is)
      due (Some level) due_is none is =
          let same : job_of l h (inputs_at level l.levels) (Level (level + 1)) ≡ job = some_same _ _ is in
          record {
            none = none;
            ruled = ap (λ (o : Option OpenJob). plan_unless o l h) none ∙ ap (λ (o : Option ℕ). plan_of l h o) due_is
                ∙ ap (planned l h) same;
            tables = due_stand 0 l.levels level due_is;
          }

      of : (o : Option OpenJob) → l.job ≡ o → (plan_unless o l h).answer ≡ Some job → Plans Due l h job
      of (Some other) busy is = absurd (none_some job is)
      of None none is = due (due_from 0 l.levels) refl none is

  none_due : (plan_ruling l h).answer ≡ None → plan_ruling l h ≡ leaving None h l
  none_due is = of l.job is
    where
      due : (o : Option ℕ) → (plan_of l h o).answer ≡ None → plan_of l h o ≡ leaving None h l
      due None is = refl
      due (Some level) is = absurd (none_some _ (sym is))

      of : (o : Option OpenJob) → (plan_unless o l h).answer ≡ None → plan_unless o l h ≡ leaving None h l
      of (Some other) is = refl
      of None is = due (due_from 0 l.levels) is

  module _ (segment : ℕ) where
    drain_planned : (job : Job) → (drain_ruling l h segment).answer ≡ Some job → Plans (LeadsInto segment) l h job
    drain_planned job is = of l.job refl is
      where
        first : (o : Option Table) → first_into segment (tables l) ≡ o → l.job ≡ None → (drain_of l h o).answer ≡ Some job
            → Plans (LeadsInto segment) l h job
        first None first_is none is = absurd (none_some job is)
        first (Some t) first_is none is =
            let same : job_of l h (t ∷ []) InPlace ≡ job = some_same _ _ is in
            record {
              none = none;
              ruled = ap (λ (o : Option OpenJob). drain_unless o l h segment) none ∙ ap (λ (o : Option Table). drain_of l h o) first_is
                  ∙ ap (planned l h) same;
              tables = λ bare. none_some t (subst (λ (ts : List Table). first_into segment ts ≡ Some t) bare first_is);
            }

        of : (o : Option OpenJob) → l.job ≡ o → (drain_unless o l h segment).answer ≡ Some job → Plans (LeadsInto segment) l h job
        of (Some other) busy is = absurd (none_some job is)
        of None none is = first (first_into segment (tables l)) refl none is

    none_leads : (drain_ruling l h segment).answer ≡ None → drain_ruling l h segment ≡ leaving None h l
    none_leads is = of l.job is
      where
        first : (o : Option Table) → (drain_of l h o).answer ≡ None → drain_of l h o ≡ leaving None h l
        first None is = refl
        first (Some t) is = absurd (none_some _ (sym is))

        of : (o : Option OpenJob) → (drain_unless o l h segment).answer ≡ None → drain_unless o l h segment ≡ leaving None h l
        of (Some other) is = refl
        of None is = first (first_into segment (tables l)) is

-- one was
pub plan_some : (choice : Choice) (l : Layout) (h : History) (job : Job) → (chosen choice l h).answer ≡ Some job → Plans choice l h job
plan_some Due l h job is = due_planned l h job is
plan_some (LeadsInto segment) l h job is = drain_planned l h segment job is

-- none was
pub plan_none : (choice : Choice) (l : Layout) (h : History) → (chosen choice l h).answer ≡ None → chosen choice l h ≡ leaving None h l
plan_none Due l h is = none_due l h is
plan_none (LeadsInto segment) l h is = none_leads l h segment is

-- while one is open none is planned
pub plan_busy : (choice : Choice) (l : Layout) (h : History) (other : OpenJob) → l.job ≡ Some other → chosen choice l h ≡ leaving None h l
plan_busy Due l h other is = ap (λ (o : Option OpenJob). plan_unless o l h) is
plan_busy (LeadsInto segment) l h other is = ap (λ (o : Option OpenJob). drain_unless o l h segment) is

-- numbers that were drawn for it, and the job itself, aren't counted
pub drawn_beside : (n : ℕ) (l : Layout) → without_merges (drawn_all n l) ≡ without_merges l
drawn_beside zero l = refl
drawn_beside (suc n) l = drawn_beside n (drawn l)

pub planned_beside : (job : Job) (l : Layout) → without_merges (with_job job l) ≡ without_merges l
planned_beside job l = refl
