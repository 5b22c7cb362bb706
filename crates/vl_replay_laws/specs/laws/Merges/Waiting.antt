-- The merge that waits, behind lines that leave it alone, and which names are in use.
use Rattle.std.proofs.Common.{◌≡◌, ℕ, Bool, true, false, List, [], refl, ap, sym, ◌∙◌, subst}
use Rattle.std.specs.Prelude.{Option, None, Some, OnOk, Result, Ok, Err}
use Rattle.std.specs.Option.{is_some, option_map_or}
use Rattle.std.specs.Str.{bytes_eq}
use Rattle.std.proofs.lemmas.Slice.Eq.{bytes_eq-Decides}
use Rattle.vl_compact.specs.declared.job.Job.{Job as TheJob}
use Rattle.vl_disk.specs.declared.writer.Writer.{Ghosts as Writers}
use Rattle.vl_engine_laws.specs.Lent.{Opens}
use Rattle.vl_engine_laws.specs.declared.open.OpenMerge.{OpenMerge}
use Rattle.vl_engine_model.specs.Jobs.{Made}
use Rattle.vl_engine_model.specs.Store.Lines.{Name}
use Rattle.vl_engine_model.specs.Store.Things as things
use Rattle.vl_engine_model.specs.Store.Things.{AJob, Step, Thing, thing_in}
use Rattle.vl_engine_model.specs.declared.job.Job.{Job}
use Rattle.vl_engine_model.specs.declared.layout.Layout.{Layout}
use Rattle.vl_version.specs.declared.base.Base.{Base}
use Rattle.vl_replay_laws.specs.Replaying.{Merges, TakesPlanned, Waits}
use Rattle.vl_script_model.specs.declared.fails.Halt.{Halt}
use Rattle.vl_replay_laws.specs.declared.planned.Planned.{Planned}
use Rattle.vl_replay_laws.specs.laws.Merges.Keeping.{KeepsMerges, SameJobs}

pub on_ok_of : {T : Type 0} (r : Result T Halt) (P : Type 0) → P → OnOk r P
on_ok_of (Ok x) P p = p
on_ok_of (Err e) P p = tt

some_job : (o : Option Thing) (job : Job) (made : Made) → o ≡ Some (AJob job made) → is_some o ≡ true
some_job o job made is = ap is_some is

module _ {W H R : Type 0} (writers : Writers W) (bytes : H → Option (List ℕ)) {g : _} where
  -- ---- a line that leaves it alone

  waits_on : (planned : Option (Planned (Base H R) H W g)) (ts us : List (Name × Thing)) (l m : Layout) → m.job ≡ l.job → SameJobs ts us
      → Waits writers bytes planned ts l → Waits writers bytes planned us m
  waits_on None ts us l m job jobs (none, free) = (job ∙ none, λ name j made is. free name j made (jobs.ours name j made is))
  waits_on (Some planned) ts us l m job jobs waits = record {
    open_job = waits.open_job;
    is_open = job ∙ waits.is_open;
    has = waits.has;
    merge = waits.merge;
    there = jobs.still _ _ _ waits.there;
    only = λ name j made is. waits.only name j made (jobs.ours name j made is);
    lent = waits.lent;
  }

  module _ (merging merging' : Option OpenMerge) (planned planned' : Option (Planned (Base H R) H W g))
      (same : merging' ≡ merging) (still : planned' ≡ planned) where
    pub merges_on : (ts us : List (Name × Thing)) (l m : Layout) → m.job ≡ l.job → SameJobs ts us
        → Merges writers bytes merging planned ts l → Merges writers bytes merging' planned' us m
    merges_on ts us l m job jobs merges =
        subst (λ (o : Option OpenMerge). Merges writers bytes o planned' us m) (sym same)
        (subst (λ (p : Option (Planned (Base H R) H W g)). Merges writers bytes merging p us m) (sym still) (record {
          opens = subst (Opens merging) (sym job) merges.opens;
          waits = waits_on planned ts us l m job jobs merges.waits;
        }))

    -- so it is behind a step
    pub merges_behind : (s : things.State) (x : Step) → KeepsMerges s x → Merges writers bytes merging planned s.things s.layout
        → Merges writers bytes merging' planned' x.state.things x.state.layout
    merges_behind s x keeps merges = merges_on s.things x.state.things s.layout x.state.layout keeps.job keeps.jobs merges

  -- none is open where a store was just opened
  pub none_merges : (merging : Option OpenMerge) → merging ≡ None → (ts : List (Name × Thing)) (l : Layout) → l.job ≡ None → ts ≡ []
      → Merges {H = H} {R = R} writers bytes {g = g} merging None ts l
  none_merges merging none ts l closed bare = record {
    opens = subst (λ (o : Option OpenMerge). Opens o l.job) (sym none) (subst (Opens None) (sym closed) tt);
    waits = (
      closed,
      λ name job made there. absurd
          (none_there name job made (subst (λ (us : List (Name × Thing)). thing_in us name ≡ Some (AJob job made)) bare there)),
    );
  }
    where
      none_there : (name : Name) (job : Job) (made : Made) → None ≡ Some (AJob job made) → ⊥
      none_there name job made e = cc

  -- ---- names

  -- the name of the one that waits
  abbrev pub is_waiting : Name → Option (Planned (Base H R) H W g) → Bool
  is_waiting name planned = option_map_or (λ (waiting : Planned (Base H R) H W g). bytes_eq name waiting.name) planned false

  -- it stands for something
  pub waiting_there : (planned : Option (Planned (Base H R) H W g)) (ts : List (Name × Thing)) (l : Layout)
      (name : Name) → Waits writers bytes planned ts l
      → is_waiting name planned ≡ true → is_some (thing_in ts name) ≡ true
  waiting_there None ts l name waits is = absurd cc
  waiting_there (Some planned) ts l name waits is =
      let same : name ≡ planned.name = (bytes_eq-Decides name planned.name).0 is in
      subst (λ (n : Name). is_some (thing_in ts n) ≡ true) (sym same) (some_job _ _ _ waits.there)

  -- another name stands for no merge
  pub waiting_free : (planned : Option (Planned (Base H R) H W g)) (ts : List (Name × Thing)) (l : Layout) (name : Name)
      → Waits writers bytes planned ts l
      → is_waiting name planned ≡ false → (job : Job) (made : Made) → thing_in ts name ≡ Some (AJob job made) → ⊥
  waiting_free None ts l name (none, free) is job made there = free name job made there
  waiting_free (Some planned) ts l name waits is job made there =
      true_false (sym ((bytes_eq-Decides name planned.name).1 (waits.only name job made there)) ∙ is)
    where
      true_false : true ≡ false → ⊥
      true_false e = cc

-- ---- it was taken out, or not

module _ {V H W : Type 0} {g : _} where
  -- the one that was there has the name, and goes
  pub takes : (name : Name) (old new : Option (Planned V H W g)) (p : Planned V H W g) → old ≡ Some p
      → option_map_or (λ (waiting : Planned V H W g). bytes_eq name waiting.name) old false ≡ true → new ≡ None
      → TakesPlanned name old new (Some p.job)
  takes name None new p is named none = absurd cc
  takes name (Some q) new p is named none =
      let one : q ≡ p = same q p is in
      (none, sym ((bytes_eq-Decides name q.name).0 named), sym (ap (λ (x : Planned V H W g). x.job) one))
    where
      same : (a b : Planned V H W g) → Some a ≡ Some b → a ≡ b
      same a b e = cc

  pub took : (q name : Name) → q ≡ name → (planned new : Option (Planned V H W g)) (result : Option (TheJob V H W g)) (job : TheJob V H W g)
      → TakesPlanned q planned new result → result ≡ Some job
      → (p : Planned V H W g) × (planned ≡ Some p) × (p.name ≡ name) × (job ≡ p.job) × (new ≡ None)
  took q name same None new result job (none, nothing) is = absurd (none_job job (sym nothing ∙ is))
    where
      none_job : (j : TheJob V H W g) → None ≡ Some j → ⊥
      none_job j e = cc
  took q name same (Some p) new None job taken is = absurd cc
  took q name same (Some p) new (Some j) job (none, named, job_is) is =
      (p, refl, named ∙ same, sym (one j job is) ∙ job_is, none)
    where
      one : (a b : TheJob V H W g) → Some a ≡ Some b → a ≡ b
      one a b e = cc

  pub took_none : (q name : Name) → q ≡ name → (planned new : Option (Planned V H W g)) (result : Option (TheJob V H W g))
      → TakesPlanned q planned new result → result ≡ None
      → (new ≡ planned) × ((p : Planned V H W g) → planned ≡ Some p → p.name ≡ name → ⊥)
  took_none q name same None new result (none, nothing) is = (none, λ p there. absurd (none_there p there))
    where
      none_there : (p : Planned V H W g) → None ≡ Some p → ⊥
      none_there p e = cc
  took_none q name same (Some p) new None (still, other) is =
      (still, λ p' there named. other (subst (λ (x : Planned V H W g). x.name ≡ q) (sym (one p p' there)) (named ∙ sym same)))
    where
      one : (a b : Planned V H W g) → Some a ≡ Some b → a ≡ b
      one a b e = cc
  took_none q name same (Some p) new (Some j) taken is = absurd cc

-- a name that isn't that of the one that waits stands for no merge
pub no_merge_named : {W H R : Type 0} (writers : Writers W) (bytes : H → Option (List ℕ)) {g : _}
    (planned : Option (Planned (Base H R) H W g))
    (ts : List (Name × Thing)) (l : Layout) (name : Name) → Waits writers bytes planned ts l
    → ((p : Planned (Base H R) H W g) → planned ≡ Some p → p.name ≡ name → ⊥)
    → (job : Job) (made : Made) → thing_in ts name ≡ Some (AJob job made) → ⊥
no_merge_named writers bytes None ts l name (none, free) other job made there = free name job made there
no_merge_named writers bytes (Some p) ts l name waits other job made there = other p refl (sym (waits.only name job made there))
