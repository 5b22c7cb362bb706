-- The open pass behind lines that leave it alone, and what a line makes that changes what a name stands for which doesn't read.
use Rattle.std.proofs.Common.{◌≡◌, ⊎_elim, true, ℕ, ◌≤◌, ◌+◌, List, ◌++◌, refl, ap, sym, ◌∙◌, subst}
use Rattle.std.specs.Prelude.{Option, None, Some, IsTrue, Ok, Err, Vec}
use Rattle.std.specs.Global.{Global}
use Rattle.std.specs.List.{AllByRecursion}
use Rattle.std.specs.Option.{option_map}
use Rattle.vl_model.specs.Numbers.{has}
use Rattle.vl_back.specs.declared.back.Back.{Back}
use Rattle.vl_engine_laws.specs.Lasts.{Lasts}
use Rattle.vl_engine_laws.specs.Passing.{AreReadable}
use Rattle.vl_engine_laws.specs.Represents as engine
use Rattle.vl_engine_laws.specs.Shown.{Shown}
use Rattle.vl_engine_laws.specs.declared.kept.Core.{Core}
use Rattle.vl_engine_laws.specs.laws.Lasting.{lasts_same}
use Rattle.vl_disk.specs.DiskState.{DiskState}
use Rattle.vl_disk.specs.Faults.{after_calls}
use Rattle.vl_disk.specs.declared.watched.Watched.{Ghosts}
use Rattle.vl_space.specs.Collecting.{Collects, Tallies}
use Rattle.vl_space.specs.declared.kept.Collecting.{Collecting}
use Rattle.vl_engine_model.specs.Sources.{rising, tables}
use Rattle.vl_engine_model.specs.Store.Commits.{history_in}
use Rattle.vl_engine_model.specs.Store.Lines.{Name}
use Rattle.vl_engine_model.specs.Store.Things as things
use Rattle.vl_engine_model.specs.Store.Things.{APass, Step, Thing, named, thing_in, thing_of}
use Rattle.vl_engine_model.specs.Tidy.{log_numbers, sealed}
use Rattle.vl_engine_model.specs.declared.job.OpenJob.{OpenJob}
use Rattle.vl_engine_model.specs.declared.job.OpenPass.{OpenPass}
use Rattle.vl_engine_model.specs.declared.layout.Layout.{Layout}
use Rattle.vl_engine_model.specs.declared.segment.Segment.{Segment}
use Rattle.vl_engine_model.specs.declared.table.Table.{Table}
use Rattle.vl_model.specs.History.{History}
use Rattle.vl_seglog.specs.declared.sealed.SealedLog.{SealedLog}
use Rattle.vl_stats.specs.Tallies.{Tallied, lengths_of}
use Rattle.vl_stats.specs.Live.{AreOf}
use Rattle.vl_version.specs.declared.base.Base.{Base}
use Rattle.vl_script_model.specs.Durable.{CarriesOut}
use Rattle.vl_replay_laws.specs.Passing.{IsOpenPass, Passes}
use Rattle.vl_script_model.specs.Readers.{IsReader}
use Rattle.vl_replay_laws.specs.Replaying.{StandsIn, state_by}
use Rattle.vl_script_model.specs.Sequential.{State, history_of}
use Rattle.vl_replay_laws.specs.Standing.{Corresponds, Stand, open_in}
use Rattle.vl_script_model.specs.Stopped.{AreNumberedUpTo}
use Rattle.vl_script_model.specs.Stored.{IsStopped, IsStored}
use Rattle.vl_script_model.specs.declared.fails.Halt.TheVariants as why
use Rattle.vl_replay_laws.specs.declared.open.Open.{Open}
use Rattle.vl_replay_laws.specs.declared.passing.Passing.{Passing}
use Rattle.vl_script.specs.declared.answer.Answer.{Answer}
use Rattle.vl_script_model.specs.laws.Betweens.{extends_same}
use Rattle.vl_script_model.specs.laws.DiskSteps.{IsWatched, opens_again, own_commits, rests_until}
use Rattle.vl_script_model.specs.laws.HeldDisk.{stored_by}
use Rattle.vl_script_model.specs.laws.ShownDisk.{shown_stays, stored_exactly}
use Rattle.vl_replay_laws.specs.laws.Merges.Keeping.{KeepsPasses, KeepsWork, passes_kept, work_of}
use Rattle.vl_replay_laws.specs.laws.Merges.Planning.{IsBeside, stays_so}
use Rattle.vl_replay_laws.specs.laws.Names.Lookups.{thing_beside, thing_put}
use Rattle.vl_replay_laws.specs.laws.Names.Standings.{same_or_not}

-- ---- what is kept of logs

abbrev Work : Type 0
Work = Option OpenJob × Option OpenPass × ℕ × List Segment × List Segment × List (List Table)

module _ (l m : Layout) (same : work_of m ≡ work_of l) where
  pub sealed_same : sealed m ≡ sealed l
  sealed_same = ap (λ (w : Work). w.3 ++ w.4) same

  pub tables_same : tables m ≡ tables l
  tables_same = ap (λ (w : Work). tables (record m { levels = w.5 })) same

  pub number_same : m.active.number ≡ l.active.number
  number_same = ap (λ (w : Work). w.2) same

  pub flushed_same : m.flushed ≡ l.flushed
  flushed_same = ap (λ (w : Work). w.4) same

  pub pass_same : m.pass ≡ l.pass
  pass_same = ap (λ (w : Work). w.1) same

module _ {H : Type 0} (before after : Core H) (old new : Collecting) (logs : after.version.behind.logs ≡ before.version.behind.logs)
    (kept : new ≡ old) (l m : Layout) where
  -- What is kept of logs stays the layout's where its logs and its tables stay.
  pub collects_with : sealed m ≡ sealed l → tables m ≡ tables l → m.flushed ≡ l.flushed → m.pass ≡ l.pass
      → Collects before old l → Collects after new m
  collects_with sealed_is tables_is flushed_is pass_is collects =
      subst (λ (c : Collecting). Collects after c m) (sym kept) (record {
        tally = tallies old.tally collects.tally;
        passing = collects.passing ∙ ap (option_map (λ (p : OpenPass). p.segment)) (sym pass_is);
        readable = subst (λ (ss : List Segment). AreReadable (record m { flushed = ss })) (sym flushed_is) collects.readable;
      })
    where
      tallies : (tally : Option Tallied) → Tallies before.version.behind.logs.items tally l
          → Tallies after.version.behind.logs.items tally m
      tallies None is =
          subst (λ (v : Vec (SealedLog H) Global).
          AllByRecursion (λ (log : SealedLog H). has log.number (log_numbers (sealed m)) ≡ true) v.items) (sym logs)
          (subst (λ (ss : List Segment). AllByRecursion (λ (log : SealedLog H). has log.number (log_numbers ss) ≡ true)
          before.version.behind.logs.items) (sym sealed_is) is)
      tallies (Some tally) is = record {
        logs = is.logs ∙ ap (λ (ss : List Segment). lengths_of (rising ss)) (sym sealed_is);
        live = subst (λ (ts : List Table). AreOf ts tally.live) (sym tables_is) is.live;
      }

  pub collects_still : work_of m ≡ work_of l → Collects before old l → Collects after new m
  collects_still same = collects_with (sealed_same l m same) (tables_same l m same) (flushed_same l m same) (pass_same l m same)

-- ---- the open pass

-- the log lasts that a pass goes over
pub lasts_still : {H : Type 0} (bytes : H → Option (List ℕ)) (log : SealedLog H) (l m : Layout) → work_of m ≡ work_of l
    → Lasts bytes log l → Lasts bytes log m
lasts_still bytes log l m same lasts = lasts_same bytes log l lasts m (sealed_same l m same) (number_same l m same)

module _ {H R : Type 0} (bytes : H → Option (List ℕ)) where
  -- It goes on behind a step that leaves it, where its log lasts.
  pub pass_on : (s : things.State) (x : Step) → KeepsPasses s x
      → ((log : SealedLog H) → Lasts bytes log s.layout → Lasts bytes log x.state.layout) → (passing : Option (Passing (Base H R) H))
      → IsOpenPass bytes passing s.things s.layout → IsOpenPass bytes passing x.state.things x.state.layout
  pass_on s x keeps lasts None (none, free) = (keeps.pass ∙ none, λ name p batch is. free name p batch (keeps.names.ours name p batch is))
  pass_on s x keeps lasts (Some passing) going = record {
    pass = going.pass;
    is_open = ap (option_map (λ (p : OpenPass). p.segment)) keeps.pass ∙ going.is_open;
    goes = going.goes;
    looks = going.looks;
    there = keeps.names.still _ _ _ going.there;
    only = λ name p batch is. going.only name p batch (keeps.names.ours name p batch is);
    lasts = lasts passing.pass.log going.lasts;
    whole = going.whole;
    batch = going.batch;
  }

  module _ (before after : Core H) (old new : Collecting) (passing : Option (Passing (Base H R) H)) (s : things.State) (x : Step) where
    -- so it does where what is kept is the layout's again,
    pub passes_on : KeepsPasses s x → ((log : SealedLog H) → Lasts bytes log s.layout → Lasts bytes log x.state.layout)
        → Collects after new x.state.layout → Passes bytes before old passing s.things s.layout
        → Passes bytes after new passing x.state.things x.state.layout
    passes_on keeps lasts collects passes = record {
      collects = collects;
      is_open = pass_on s x keeps lasts passing passes.is_open;
    }

    -- and where the step leaves all of this.
    pub passes_behind : (logs : after.version.behind.logs ≡ before.version.behind.logs) (kept : new ≡ old) → KeepsWork s x
        → Passes bytes before old passing s.things s.layout → Passes bytes after new passing x.state.things x.state.layout
    passes_behind logs kept keeps passes =
        passes_on (passes_kept s x keeps) (λ log. lasts_still bytes log s.layout x.state.layout keeps.layout)
        (collects_still before after old new logs kept s.layout x.state.layout keeps.layout passes.collects) passes

-- ---- names that stand for what doesn't read

module _ {H R : Type 0} (bytes : H → Option (List ℕ)) (h : History) (l m : Layout) (beside : IsBeside l m)
    (os : List (Open H R)) (ts : List (Name × Thing)) (stand : Stand bytes os ts h l) where
  -- A name that no reader has stands for it then.
  pub names_with_work : (name : Name) → open_in os name ≡ None → (y : Thing) → (IsReader y → ⊥)
      → Corresponds {H = H} {R = R} bytes h m None (Some y) → Stand bytes os (named name y ts) h m
  names_with_work name free y works there = record {
    each = λ q. ⊎_elim
        (λ (same : q ≡ name). subst (λ (p : Name). Corresponds bytes h m (open_in os p) (thing_in (named name y ts) p)) (sym same)
        (subst (λ (x : Option _). Corresponds {H = H} {R = R} bytes h m x (thing_in (named name y ts) name)) (sym free)
        (subst (Corresponds {H = H} {R = R} bytes h m None) (sym (thing_put name y ts)) there)))
        (λ (apart : q ≡ name → ⊥). subst (Corresponds bytes h m (open_in os q)) (sym (thing_beside name q apart y ts))
        (stays_so bytes h l m beside os ts stand (open_in os q) (thing_in ts q) (stand.each q)))
        (same_or_not q name);
    once = stand.once;
    apart = λ a b x z at_a at_b reads_x reads_z same. stand.apart a b x z (before a x at_a reads_x)
        (before b z at_b reads_z) reads_x reads_z same;
  }
    where
      one : (a b : Thing) → Some a ≡ Some b → a ≡ b
      one a b e = cc

      before : (a : Name) (x : Thing) → thing_in (named name y ts) a ≡ Some x → IsReader x → thing_in ts a ≡ Some x
      before a x is reads = ⊎_elim
          (λ (same : a ≡ name). absurd (works (subst IsReader (sym (one y x (sym (thing_put name y ts)
          ∙ subst (λ (p : Name). thing_in (named name y ts) p ≡ Some x) same is))) reads)))
          (λ (apart : a ≡ name → ⊥). sym (thing_beside name a apart y ts) ∙ is)
          (same_or_not a name)

-- ---- the disk, which isn't asked

module _ {D H R : Type 0} (g : Ghosts D) (watched : IsWatched g) (bytes : H → Option (List ℕ)) (disk : D) (before after : Core H)
    (os : List (Open H R)) (s : State) (stands : StandsIn bytes (g.told disk) before os s) (back : after.back ≡ before.back)
    (x : Step) (commits : x.state.commits ≡ s.store.commits) (calls : x.calls ≡ 0)
    (running : x.state.layout.halted ≡ None) (next_log : x.state.layout.next_log ≡ s.store.layout.next_log)
    (next_table : x.state.layout.next_table ≡ s.store.layout.next_table) where
  -- A step that makes no call is carried out where the engine represents what it leaves.
  pub still_carries : (answer : Answer)
      → (IsTrue s.openable → engine.Represents bytes after (g.told disk) (history_of s) x.state.layout)
      → CarriesOut g IsStored Shown IsStopped disk disk s (state_by s x) (Ok answer)
  still_carries answer represents held = record {
    answered = record {
      calls = held.calls ∙ sym (ap (λ (n : ℕ). after_calls n s.calls) calls);
      there = stored_by bytes after (g.told disk) (state_by s x) (history_of s) x.state.layout refl (ap history_in commits)
          held.there.2.openable running (represents held.there.2.openable)
          (subst (λ (b : Back). b.state.next_log ≤ b.next_log) (sym back) stands.within)
          (subst (λ (n : ℕ). n ≤ s.files + 1) (sym next_log) held.there.2.next_log)
          (subst (λ (n : ℕ). n ≤ s.files + 1) (sym next_table) held.there.2.next_drawn)
          (λ now told. subst (AreNumberedUpTo s.files) (some_same held.there.0 now (sym held.there.1 ∙ told)) held.there.2.numbered);
    };
    short = λ halts. absurd halts;
    tells = opens_again g watched IsStored Shown IsStopped shown_stays stored_exactly s disk held;
    through = rests_until g watched IsStored Shown IsStopped shown_stays stored_exactly s
        (history_of (state_by s x)) (extends_same (history_of s) (history_of (state_by s x)) (ap history_in commits)) disk held;
    stopped = λ halts. absurd halts;
  }
    where
      some_same : (a b : DiskState) → Some a ≡ Some b → a ≡ b
      some_same a b e = cc

module _ {D : Type 0} (g : Ghosts D) (watched : IsWatched g) (disk : D) (s : State) (x : Step)
    (commits : x.state.commits ≡ s.store.commits) where
  -- Where memory ran out nothing was done.
  pub out_carries : CarriesOut {T = Answer} g IsStored Shown IsStopped disk disk s (state_by s x) (Err why.NoMemory)
  out_carries held = record {
    answered = tt;
    short = λ halts. own_commits g IsStored s (state_by s x) disk held;
    tells = opens_again g watched IsStored Shown IsStopped shown_stays stored_exactly s disk held;
    through = rests_until g watched IsStored Shown IsStopped shown_stays stored_exactly s
        (history_of (state_by s x)) (extends_same (history_of s) (history_of (state_by s x)) (ap history_in commits)) disk held;
    stopped = λ halts. absurd halts;
  }
