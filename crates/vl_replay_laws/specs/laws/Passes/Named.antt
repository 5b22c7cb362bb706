-- Merges beside a name that stands for a pass.
use Rattle.std.proofs.Common.{◌≡◌, ⊎_elim, List, sym, ◌∙◌, subst}
use Rattle.std.specs.Prelude.{Option, None, Some}
use Rattle.vl_engine_model.specs.Jobs.{Made}
use Rattle.vl_engine_model.specs.Relocation.{Candidate, Pass}
use Rattle.vl_engine_model.specs.Store.Lines.{Name}
use Rattle.vl_engine_model.specs.Store.Things.{AJob, APass, Thing, named, thing_in, without_name}
use Rattle.vl_engine_model.specs.declared.job.Job.{Job}
use Rattle.vl_replay_laws.specs.laws.Merges.Keeping.{SameJobs, SamePasses}
use Rattle.vl_replay_laws.specs.laws.Names.Lookups.{thing_beside, thing_gone, thing_left, thing_put}
use Rattle.vl_replay_laws.specs.laws.Names.Standings.{same_or_not}

-- it stands for no merge
abbrev pub IsNoJob : Option Thing → Type 0
IsNoJob o = (job : Job) (made : Made) → o ≡ Some (AJob job made) → ⊥

abbrev pub IsNoPass : Option Thing → Type 0
IsNoPass o = (p : Pass) (batch : Option (List Candidate)) → o ≡ Some (APass p batch) → ⊥

none_some : {T : Type 0} (x : T) → None ≡ Some x → ⊥
none_some x e = cc

pub pass_no_job : (p : Pass) (batch : Option (List Candidate)) → IsNoJob (Some (APass p batch))
pass_no_job p batch job made e = cc

job_no_pass : (job : Job) (made : Made) → IsNoPass (Some (AJob job made))
job_no_pass job made p batch e = cc

module _ (ts : List (Name × Thing)) (name : Name) where
  module _ (none : IsNoJob (thing_in ts name)) where
    apart_of : (q : Name) (job : Job) (made : Made) → thing_in ts q ≡ Some (AJob job made) → q ≡ name → ⊥
    apart_of q job made is same = none job made (subst (λ (n : Name). thing_in ts n ≡ Some (AJob job made)) same is)

    -- where the name stands for a pass then
    pub jobs_beside : (p : Pass) (batch : Option (List Candidate)) → SameJobs ts (named name (APass p batch) ts)
    jobs_beside p batch = record {
      ours = λ q job made is. ⊎_elim
          (λ (same : q ≡ name). absurd (pass_no_job p batch job made (sym (thing_put name (APass p batch) ts)
          ∙ subst (λ (n : Name). thing_in (named name (APass p batch) ts) n ≡ Some (AJob job made)) same is)))
          (λ (apart : q ≡ name → ⊥). sym (thing_beside name q apart (APass p batch) ts) ∙ is)
          (same_or_not q name);
      still = λ q job made is. thing_beside name q (apart_of q job made is) (APass p batch) ts ∙ is;
    }

    -- and where it is free
    pub jobs_without_pass : SameJobs ts (without_name name ts)
    jobs_without_pass = record {
      ours = λ q job made is. ⊎_elim
          (λ (same : q ≡ name). absurd (none_some (AJob job made) (sym (thing_gone name ts)
          ∙ subst (λ (n : Name). thing_in (without_name name ts) n ≡ Some (AJob job made)) same is)))
          (λ (apart : q ≡ name → ⊥). sym (thing_left name q apart ts) ∙ is)
          (same_or_not q name);
      still = λ q job made is. thing_left name q (apart_of q job made is) ts ∙ is;
    }

  pub jobs_with_pass : thing_in ts name ≡ None → (p : Pass) (batch : Option (List Candidate)) → SameJobs ts (named name (APass p batch) ts)
  jobs_with_pass bare = jobs_beside (λ job made is. none_some (AJob job made) (sym bare ∙ is))

  module _ (none : IsNoPass (thing_in ts name)) where
    apart_from : (q : Name) (p : Pass) (batch : Option (List Candidate)) → thing_in ts q ≡ Some (APass p batch) → q ≡ name → ⊥
    apart_from q p batch is same = none p batch (subst (λ (n : Name). thing_in ts n ≡ Some (APass p batch)) same is)

    -- passes beside a name that stands for a merge
    pub passes_beside : (job : Job) (made : Made) → SamePasses ts (named name (AJob job made) ts)
    passes_beside job made = record {
      ours = λ q p batch is. ⊎_elim
          (λ (same : q ≡ name). absurd (job_no_pass job made p batch (sym (thing_put name (AJob job made) ts)
          ∙ subst (λ (n : Name). thing_in (named name (AJob job made) ts) n ≡ Some (APass p batch)) same is)))
          (λ (apart : q ≡ name → ⊥). sym (thing_beside name q apart (AJob job made) ts) ∙ is)
          (same_or_not q name);
      still = λ q p batch is. thing_beside name q (apart_from q p batch is) (AJob job made) ts ∙ is;
    }

    pub passes_without_job : SamePasses ts (without_name name ts)
    passes_without_job = record {
      ours = λ q p batch is. ⊎_elim
          (λ (same : q ≡ name). absurd (none_some (APass p batch) (sym (thing_gone name ts)
          ∙ subst (λ (n : Name). thing_in (without_name name ts) n ≡ Some (APass p batch)) same is)))
          (λ (apart : q ≡ name → ⊥). sym (thing_left name q apart ts) ∙ is)
          (same_or_not q name);
      still = λ q p batch is. thing_left name q (apart_from q p batch is) ts ∙ is;
    }
