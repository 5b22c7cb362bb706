-- The end of the merge that waits: its name is free, and its files stand beside the layout.
use Rattle.std.proofs.Common.{◌≡◌, ℕ, ◌≤◌, List, refl, ap, sym, ◌∙◌, subst}
use Rattle.std.specs.Prelude.{Option, None, Some, Ok, IsTrue}
use Rattle.vl_compact.specs.Progress.{made_of}
use Rattle.vl_disk.specs.DiskState.{DiskState}
use Rattle.vl_disk.specs.declared.watched.Watched.{Ghosts}
use Rattle.vl_disk.specs.declared.writer.Writer.{Ghosts as Writers}
use Rattle.vl_engine_laws.specs.Lent.{StandsOpen}
use Rattle.vl_engine_laws.specs.Represents as engine
use Rattle.vl_engine_laws.specs.Shown.{Shown}
use Rattle.vl_engine_laws.specs.MayStep.{Fits}
use Rattle.vl_engine_laws.specs.declared.kept.Core.{Core}
use Rattle.vl_engine_laws.specs.declared.open.OpenMerge.{OpenMerge}
use Rattle.vl_engine_model.specs.Jobs.{Made, job_ended}
use Rattle.vl_engine_model.specs.Store.Dispatch.{drop_by}
use Rattle.vl_engine_model.specs.Store.Lines as store_lines
use Rattle.vl_engine_model.specs.Store.Lines.{Name}
use Rattle.vl_engine_model.specs.Store.Things.{AJob, Step, thing_in, thing_of, without_name, without_thing}
use Rattle.vl_engine_model.specs.declared.job.Job.{Job}
use Rattle.vl_engine_model.specs.declared.job.OpenJob.{OpenJob}
use Rattle.vl_engine_model.specs.declared.layout.Layout.{Layout}
use Rattle.vl_model.specs.History.{History}
use Rattle.vl_version.specs.declared.base.Base.{Base}
use Rattle.vl_script_model.specs.Durable.{CarriesOut, HoldsState, LeadsTo}
use Rattle.vl_replay_laws.specs.Replaying.{MakesStep, Merges, StandsIn, state_by}
use Rattle.vl_script_model.specs.Sequential.{State, history_of}
use Rattle.vl_replay_laws.specs.Standing.{Corresponds, Stand, open_in}
use Rattle.vl_script_model.specs.Stopped.{AreNumberedUpTo}
use Rattle.vl_script_model.specs.Stored.{IsStopped, IsStored}
use Rattle.vl_replay_laws.specs.declared.open.Open.{Open}
use Rattle.vl_replay_laws.specs.declared.open.Thing.{Thing as Opened}
use Rattle.vl_replay_laws.specs.declared.open.Thing.TheVariants.{Transaction, View}
use Rattle.vl_replay_laws.specs.declared.planned.Planned.{Planned}
use Rattle.vl_script_model.specs.laws.Laws.{IsSound, state_after-sound}
use Rattle.vl_script.specs.declared.answer.Answer.TheVariants as answers
use Rattle.vl_script.specs.declared.line.Line.TheVariants as lines
use Rattle.vl_script_model.specs.laws.DiskSteps.{IsWatched, opens_again, rests_until}
use Rattle.vl_script_model.specs.laws.Betweens.{extends_same}
use Rattle.vl_script_model.specs.laws.HeldDisk.{stored_by}
use Rattle.vl_script_model.specs.laws.ShownDisk.{shown_stays, stored_exactly}
use Rattle.vl_replay_laws.specs.laws.Merges.Planning.{IsBeside, ended_is_beside, stays_so}
use Rattle.vl_replay_laws.specs.laws.Names.Lookups.{taken_none, thing_gone, thing_left}
use Rattle.vl_replay_laws.specs.laws.Names.Standings.{same_or_not, stands_without}
use Rattle.std.proofs.Common.{⊎_elim}

-- a name of a merge is none of a reader
no_opened : {H R : Type 0} (bytes : H → Option (List ℕ)) (h : History) (l : Layout) (o : Option (Opened H R)) (job : Job) (made : Made)
    → Corresponds bytes h l o (Some (AJob job made)) → o ≡ None
no_opened bytes h l None job made is = refl
no_opened bytes h l (Some (Transaction txn)) job made is = absurd is
no_opened bytes h l (Some (View view)) job made is = absurd is

none_there : (job : Job) (made : Made) → None ≡ Some (AJob job made) → ⊥
none_there job made e = cc

itself_beside : (l : Layout) → IsBeside l l
itself_beside l = record { live = refl; bare = λ ticket none. none }

module _ {W H R S : Type 0} (w : Writers W) (bytes : H → Option (List ℕ)) {k : Writers W} (seen now : Option DiskState)
    (before after : Core H)
    (merging merging' : Option OpenMerge) (os : List (Open H S)) (s : State) (stands : StandsIn bytes seen before os s)
    (p : Planned (Base H R) H W k) (merges : Merges w bytes merging (Some p) s.store.things s.store.layout)
    (name : Name) (named : p.name ≡ name)
    -- what the engine is behind it
    (core : after ≡ before) where
  abbrev h : History
  h = history_of s

  abbrev l : Layout
  l = s.store.layout

  abbrev o : OpenJob
  o = merges.waits.open_job

  abbrev made : Made
  made = made_of p.job merges.waits.open_job.job

  abbrev dropped : Layout
  dropped = job_ended made l

  there : thing_of s.store name ≡ Some (AJob o.job made)
  there = subst (λ (n : Name). thing_in s.store.things n ≡ Some (AJob o.job made)) named merges.waits.there

  abbrev ended : Step
  ended = record { answer = store_lines.Done; state = without_thing s.store dropped name; calls = 0 }

  ended_is : drop_by s.store name (thing_of s.store name) ≡ ended
  ended_is = ap (drop_by s.store name) there

  free : open_in os name ≡ None
  free = no_opened bytes h l (open_in os name) o.job made (subst (Corresponds bytes h l (open_in os name)) there (stands.names.each name))

  ended_names : Stand bytes os (without_name name s.store.things) h dropped
  ended_names = stands_without bytes s.store.things h h l dropped os os stands.names name None (taken_none name os stands.names.once free)
      (λ other apart x y at is. stays_so bytes h l dropped (ended_is_beside made l l (itself_beside l)) os
      s.store.things stands.names x y is)

  module _ (opens : StandsOpen bytes after merging' h dropped) (fits : Fits now after h dropped)
      (represents : IsTrue s.openable → engine.Represents bytes after now h dropped) where
    pub drop_makes : MakesStep bytes now after os s (drop_by s.store name (thing_of s.store name)) (Ok answers.Done)
    drop_makes = subst (λ (x : Step). MakesStep bytes now after os s x (Ok answers.Done)) (sym ended_is) (
      refl,
      (record {
        engine = opens.stands;
        names = ended_names;
        sound = subst (λ (x : Step). IsSound (state_by s x)) ended_is (state_after-sound s (lines.Drop name) stands.sound);
        held = λ openable. (represents openable).held stands.running;
        running = stands.running;
        fits = fits;
        within = subst (λ (c : Core H). c.back.state.next_log ≤ c.back.next_log) (sym core) stands.within;
      }),
    )

    pub drop_merges : let x = drop_by s.store name (thing_of s.store name) in
        Merges {H = H} {R = R} w bytes {g = k} merging' None x.state.things x.state.layout
    drop_merges = subst (λ (x : Step). Merges {H = H} {R = R} w bytes {g = k} merging' None x.state.things
        x.state.layout) (sym ended_is) (record {
          opens = opens.opens;
          waits = (
            refl,
            λ other job' made' is. ⊎_elim
                (λ (same : other ≡ name). none_there job' made' (sym (thing_gone name s.store.things)
                ∙ subst (λ (n : Name). thing_in (without_name name s.store.things) n ≡ Some (AJob job' made')) same is))
                (λ (apart : other ≡ name → ⊥). apart
                (merges.waits.only other job' made' (sym (thing_left name other apart s.store.things) ∙ is) ∙ named))
                (same_or_not other name),
          );
        })

-- ---- the disk, which isn't asked

module _ {D W H R S : Type 0} (g : Ghosts D) (watched : IsWatched g) (w : Writers W) (bytes : H → Option (List ℕ))
    {k : Writers W} (disk : D) (before after : Core H)
    (merging : Option OpenMerge) (os : List (Open H S)) (s : State) (stands : StandsIn bytes (g.told disk) before os s)
    (p : Planned (Base H R) H W k) (merges : Merges w bytes merging (Some p) s.store.things s.store.layout)
    (name : Name) (named : p.name ≡ name)
    (core : after ≡ before) where
  pub drop_carries : (IsTrue s.openable → engine.Represents bytes after (g.told disk) (history_of s)
      (job_ended (made_of p.job merges.waits.open_job.job) s.store.layout))
      → CarriesOut g IsStored Shown IsStopped disk disk s (state_by s (drop_by s.store name (thing_of s.store name))) (Ok answers.Done)
  drop_carries represents held =
      let l : Layout = s.store.layout in
      let m : Layout = job_ended (made_of p.job merges.waits.open_job.job) l in
      let is = ended_is w bytes (g.told disk) (g.told disk) before after merging merging os s stands p merges name named core in
      let y : Step = record { answer = store_lines.Done; state = without_thing s.store m name; calls = 0 } in
      let after_held : HoldsState g IsStored (state_by s y) disk = record {
        calls = held.calls;
        there = stored_by bytes after (g.told disk) (state_by s y) (history_of s) m refl refl held.there.2.openable
            stands.running (represents held.there.2.openable)
            (subst (λ (c : Core H). c.back.state.next_log ≤ c.back.next_log) (sym core) stands.within)
            held.there.2.next_log held.there.2.next_drawn
            (λ now told. subst (AreNumberedUpTo s.files) (some_same held.there.0 now (sym held.there.1 ∙ told)) held.there.2.numbered);
      } in
      subst (λ (x : Step). LeadsTo g IsStored Shown IsStopped disk disk s (state_by s x) (Ok answers.Done)) (sym is) (record {
        answered = after_held;
        short = λ halts. absurd halts;
        tells = opens_again g watched IsStored Shown IsStopped shown_stays stored_exactly s disk held;
        through = rests_until g watched IsStored Shown IsStopped shown_stays stored_exactly s
            (history_of (state_by s y)) (extends_same (history_of s) (history_of (state_by s y)) refl) disk held;
        stopped = λ halts. absurd halts;
      })
    where
      some_same : (a b : DiskState) → Some a ≡ Some b → a ≡ b
      some_same a b e = cc
