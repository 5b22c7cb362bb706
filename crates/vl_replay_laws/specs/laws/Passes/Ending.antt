-- The end of the pass that is open: its name is free, and it is open no more. And what is beside it where another name is ended.
use Rattle.std.proofs.Common.{◌≡◌, ⊎_elim, ℕ, ◌≤◌, List, ◌++◌, refl, ap, sym, ◌∙◌, subst}
use Rattle.std.specs.Prelude.{Option, None, Some, Ok, IsTrue}
use Rattle.vl_collect.specs.declared.pass.Pass.{Pass as ThePass}
use Rattle.vl_engine_laws.specs.MayStep.{Fits}
use Rattle.vl_engine_laws.specs.Represents as engine
use Rattle.vl_engine_laws.specs.Shown.{Shown}
use Rattle.vl_engine_laws.specs.declared.kept.Core.{Core}
use Rattle.vl_engine_laws.specs.laws.Lasting.{lasts_same}
use Rattle.vl_disk.specs.DiskState.{DiskState}
use Rattle.vl_disk.specs.declared.watched.Watched.{Ghosts}
use Rattle.vl_disk.specs.declared.writer.Writer.{Ghosts as Writers}
use Rattle.vl_space.specs.Collecting.{Collects}
use Rattle.vl_engine_laws.specs.Lent.{StandsOpen}
use Rattle.vl_space.specs.declared.kept.Collecting.{Collecting}
use Rattle.vl_engine_laws.specs.declared.open.OpenMerge.{OpenMerge}
use Rattle.vl_engine_model.specs.Relocation.{Candidate, Pass}
use Rattle.vl_engine_model.specs.Rulings.EndPass.{without_pass}
use Rattle.vl_engine_model.specs.Sources.{tables}
use Rattle.vl_engine_model.specs.Store.Dispatch.{drop_by}
use Rattle.vl_engine_model.specs.Store.Lines as store_lines
use Rattle.vl_engine_model.specs.Store.Lines.{Name}
use Rattle.vl_engine_model.specs.Store.Things as things
use Rattle.vl_engine_model.specs.Store.Things.{AJob, APass, ATransaction, AView, Step, Thing, thing_in, thing_of, without_name, without_thing}
use Rattle.vl_engine_model.specs.declared.job.OpenPass.{OpenPass}
use Rattle.vl_engine_model.specs.declared.layout.Layout.{Layout}
use Rattle.vl_engine_model.specs.declared.segment.Segment.{Segment}
use Rattle.vl_engine_model.specs.declared.table.Table.{Table}
use Rattle.vl_model.specs.History.{History}
use Rattle.vl_version.specs.declared.base.Base.{Base}
use Rattle.vl_script_model.specs.Durable.{CarriesOut}
use Rattle.vl_replay_laws.specs.Passing.{IsPassing, Passes, TakesPass}
use Rattle.vl_replay_laws.specs.Replaying.{MakesStep, Merges, StandsIn, state_by}
use Rattle.vl_script_model.specs.Sequential.{State, history_of}
use Rattle.vl_replay_laws.specs.Standing.{Corresponds, Stand, open_in}
use Rattle.vl_script_model.specs.Stored.{IsStopped, IsStored}
use Rattle.vl_replay_laws.specs.declared.open.Open.{Open}
use Rattle.vl_replay_laws.specs.declared.open.Thing.TheVariants.{Transaction, View}
use Rattle.vl_replay_laws.specs.declared.open.Thing.{Thing as Opened}
use Rattle.vl_replay_laws.specs.declared.passing.Passing.{Passing}
use Rattle.vl_replay_laws.specs.declared.planned.Planned.{Planned}
use Rattle.vl_script_model.specs.laws.Laws.{IsSound, state_after-sound}
use Rattle.vl_script.specs.declared.answer.Answer.TheVariants as answers
use Rattle.vl_script.specs.declared.line.Line.TheVariants as lines
use Rattle.vl_script_model.specs.laws.DiskSteps.{IsWatched}
use Rattle.vl_replay_laws.specs.laws.Merges.Keeping.{KeepsMerges, SamePasses}
use Rattle.vl_replay_laws.specs.laws.Merges.Planning.{IsBeside, stays_so}
use Rattle.vl_replay_laws.specs.laws.Merges.Waiting.{merges_behind}
use Rattle.vl_replay_laws.specs.laws.Names.Lookups.{taken_none, thing_gone, thing_left}
use Rattle.vl_replay_laws.specs.laws.Names.Standings.{same_or_not, stands_without}
use Rattle.vl_replay_laws.specs.laws.Passes.Named.{IsNoPass, jobs_without_pass, pass_no_job, passes_without_job}
use Rattle.vl_replay_laws.specs.laws.Passes.Standing.{collects_with, passes_on, still_carries}

-- ---- what is taken out

module _ {V H : Type 0} where
  pub took_pass : (q name : Name) → q ≡ name → (passing new : Option (Passing V H)) (result : Option (ThePass V H)) (pass : ThePass V H)
      → TakesPass q passing new result → result ≡ Some pass
      → (p : Passing V H) × (passing ≡ Some p) × (p.name ≡ name) × (pass ≡ p.pass) × (new ≡ None)
  took_pass q name same None new result pass (none, nothing) is = absurd (none_pass pass (sym nothing ∙ is))
    where
      none_pass : (p : ThePass V H) → None ≡ Some p → ⊥
      none_pass p e = cc
  took_pass q name same (Some p) new None pass taken is = absurd cc
  took_pass q name same (Some p) new (Some t) pass (none, named, pass_is) is =
      (p, refl, named ∙ same, sym (one t pass is) ∙ pass_is, none)
    where
      one : (a b : ThePass V H) → Some a ≡ Some b → a ≡ b
      one a b e = cc

  pub took_no_pass : (q name : Name) → q ≡ name → (passing new : Option (Passing V H)) (result : Option (ThePass V H))
      → TakesPass q passing new result → result ≡ None
      → (new ≡ passing) × ((p : Passing V H) → passing ≡ Some p → p.name ≡ name → ⊥)
  took_no_pass q name same None new result (none, nothing) is = (none, λ p there. absurd (none_there p there))
    where
      none_there : (p : Passing V H) → None ≡ Some p → ⊥
      none_there p e = cc
  took_no_pass q name same (Some p) new None (still, other) is =
      (still, λ p' there named. other (subst (λ (x : Passing V H). x.name ≡ q) (sym (one p p' there)) (named ∙ sym same)))
    where
      one : (a b : Passing V H) → Some a ≡ Some b → a ≡ b
      one a b e = cc
  took_no_pass q name same (Some p) new (Some t) taken is = absurd cc

-- ---- it is ended

-- a name of a pass is none of a reader
no_opened : {H R : Type 0} (bytes : H → Option (List ℕ)) (h : History) (l : Layout) (o : Option (Opened H R)) (p : Pass)
    (batch : Option (List Candidate)) → Corresponds bytes h l o (Some (APass p batch)) → o ≡ None
no_opened bytes h l None p batch is = refl
no_opened bytes h l (Some (Transaction txn)) p batch is = absurd is
no_opened bytes h l (Some (View view)) p batch is = absurd is

none_there : (p : Pass) (batch : Option (List Candidate)) → None ≡ Some (APass p batch) → ⊥
none_there p batch e = cc

module _ {H R S : Type 0} (bytes : H → Option (List ℕ)) (told : Option DiskState) (before after : Core H) (os : List (Open H S)) (s : State)
    (stands : StandsIn bytes told before os s) (passing : Passing (Base H R) H)
    (going : IsPassing bytes passing s.store.things s.store.layout) (name : Name) (named : passing.name ≡ name)
    (core : after ≡ before) where
  abbrev h : History
  h = history_of s

  abbrev l : Layout
  l = s.store.layout

  abbrev dropped : Layout
  dropped = without_pass l

  abbrev dropping : Step
  dropping = drop_by s.store name (thing_of s.store name)

  abbrev ended : Step
  ended = record { answer = store_lines.Done; state = without_thing s.store dropped name; calls = 0 }

  there : thing_of s.store name ≡ Some (APass going.pass passing.batch)
  there = subst (λ (n : Name). thing_in s.store.things n ≡ Some (APass going.pass passing.batch)) named going.there

  ended_is : dropping ≡ ended
  ended_is = ap (drop_by s.store name) there

  free : open_in os name ≡ None
  free = no_opened bytes h l (open_in os name) going.pass passing.batch
      (subst (Corresponds bytes h l (open_in os name)) there (stands.names.each name))

  beside : IsBeside l dropped
  beside = record { live = refl; bare = λ ticket none. none }

  ended_names : Stand bytes os (without_name name s.store.things) h dropped
  ended_names = stands_without bytes s.store.things h h l dropped os os stands.names name None (taken_none name os stands.names.once free)
      (λ other apart x y at is. stays_so bytes h l dropped beside os s.store.things stands.names x y is)

  module _ (merging : Option OpenMerge) (opens : StandsOpen bytes after merging h dropped) (fits : Fits told after h dropped)
      (represents : IsTrue s.openable → engine.Represents bytes after told h dropped) where
    pub end_makes : MakesStep bytes told after os s dropping (Ok answers.Done)
    end_makes = subst (λ (x : Step). MakesStep bytes told after os s x (Ok answers.Done)) (sym ended_is) (
      refl,
      (record {
        engine = opens.stands;
        names = ended_names;
        sound = subst (λ (x : Step). IsSound (state_by s x)) ended_is (state_after-sound s (lines.Drop name) stands.sound);
        held = λ openable. (represents openable).held stands.running;
        running = stands.running;
        fits = fits;
        within = subst (λ (c : Core H). c.back.state.next_log ≤ c.back.next_log) (sym core) stands.within;
      }),
    )

  -- none is open then
  pub end_passes : (kept : Collecting) → Collects after kept dropped
      → Passes {H = H} {R = R} bytes after kept None dropping.state.things dropping.state.layout
  end_passes kept collects = subst (λ (x : Step). Passes {H = H} {R = R} bytes after kept None x.state.things x.state.layout)
      (sym ended_is) (record {
        collects = collects;
        is_open = (
          refl,
          λ other p batch is. ⊎_elim
              (λ (same : other ≡ name). none_there p batch (sym (thing_gone name s.store.things)
              ∙ subst (λ (n : Name). thing_in (without_name name s.store.things) n ≡ Some (APass p batch)) same is))
              (λ (apart : other ≡ name → ⊥). apart
              (going.only other p batch (sym (thing_left name other apart s.store.things) ∙ is) ∙ named))
              (same_or_not other name),
        );
      })

  -- and a merge goes on
  pub end_merges : {W : Type 0} (w : Writers W) {k : Writers W} (merging merging' : Option OpenMerge)
      (planned : Option (Planned (Base H R) H W k))
      → merging' ≡ merging → Merges w bytes merging planned s.store.things l
      → Merges w bytes merging' planned dropping.state.things dropping.state.layout
  end_merges w merging merging' planned same merges = merges_behind w bytes merging merging' planned planned same refl s.store dropping
      (subst (λ (x : Step). KeepsMerges s.store x) (sym ended_is) (record {
        job = refl;
        jobs = jobs_without_pass s.store.things name (λ job made is. pass_no_job going.pass passing.batch job made (sym there ∙ is));
      })) merges

module _ {D H R S : Type 0} (g : Ghosts D) (watched : IsWatched g) (bytes : H → Option (List ℕ)) (disk : D) (before after : Core H)
    (os : List (Open H S)) (s : State) (stands : StandsIn bytes (g.told disk) before os s) (passing : Passing (Base H R) H)
    (going : IsPassing bytes passing s.store.things s.store.layout)
    (name : Name) (named : passing.name ≡ name) (core : after ≡ before) where
  pub end_carries : (IsTrue s.openable → engine.Represents bytes after (g.told disk) (history_of s) (without_pass s.store.layout))
      → CarriesOut g IsStored Shown IsStopped disk disk s (state_by s (drop_by s.store name (thing_of s.store name))) (Ok answers.Done)
  end_carries represents =
      let y : Step = record { answer = store_lines.Done; state = without_thing s.store (without_pass s.store.layout) name; calls = 0 } in
      subst (λ (x : Step). CarriesOut g IsStored Shown IsStopped disk disk s (state_by s x) (Ok answers.Done))
      (sym (ended_is bytes (g.told disk) before after os s stands passing going name named core))
      (still_carries g watched bytes disk before after os s stands (ap (λ (c : Core H). c.back) core) y refl refl stands.running refl refl
      answers.Done represents)

-- ---- another name is

abbrev Rest : Type 0
Rest = Option OpenPass × ℕ × List Segment × List Segment × List (List Table)

abbrev rest_of : Layout → Rest
rest_of l = (l.pass, l.active.number, l.frozen, l.flushed, l.levels)

drop_rest : (s : things.State) (name : Name) (o : Option Thing) → IsNoPass o → rest_of (drop_by s name o).state.layout ≡ rest_of s.layout
drop_rest s name None none = refl
drop_rest s name (Some (ATransaction t b)) none = refl
drop_rest s name (Some (AView v b)) none = refl
drop_rest s name (Some (AJob job made)) none = refl
drop_rest s name (Some (APass p batch)) none = absurd (none p batch refl)

drop_names : (s : things.State) (name : Name) → IsNoPass (thing_of s name) → (o : Option Thing) → IsNoPass o
    → SamePasses s.things (drop_by s name o).state.things
drop_names s name bare None none = record { ours = λ q p batch is. is; still = λ q p batch is. is }
drop_names s name bare (Some (ATransaction t b)) none = passes_without_job s.things name bare
drop_names s name bare (Some (AView v b)) none = passes_without_job s.things name bare
drop_names s name bare (Some (AJob job made)) none = passes_without_job s.things name bare
drop_names s name bare (Some (APass p batch)) none = absurd (none p batch refl)

-- The pass goes on then.
pub drop_passes : {H R : Type 0} (bytes : H → Option (List ℕ)) (before after : Core H) (old new : Collecting)
    (passing : Option (Passing (Base H R) H)) (s : things.State) (name : Name) → IsNoPass (thing_of s name)
    → after.version.behind.logs ≡ before.version.behind.logs → new ≡ old
    → Passes bytes before old passing s.things s.layout
    → Passes bytes after new passing (drop_by s name (thing_of s name)).state.things (drop_by s name (thing_of s name)).state.layout
drop_passes bytes before after old new passing s name none logs kept passes =
    let x = drop_by s name (thing_of s name) in
    let l : Layout = s.layout in
    let m : Layout = x.state.layout in
    let rest = drop_rest s name (thing_of s name) none in
    let sealed_is = ap (λ (w : Rest). w.2 ++ w.3) rest in
    passes_on bytes before after old new passing s x
    (record { pass = ap (λ (w : Rest). w.0) rest; names = drop_names s name none (thing_of s name) none })
    (λ log lasts. lasts_same bytes log l lasts m sealed_is (ap (λ (w : Rest). w.1) rest))
    (collects_with before after old new logs kept l m sealed_is (ap (λ (w : Rest). tables (record m { levels = w.4 })) rest)
    (ap (λ (w : Rest). w.3) rest) (ap (λ (w : Rest). w.0) rest) passes.collects) passes
