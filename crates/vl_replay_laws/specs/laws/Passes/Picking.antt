-- What a pick makes of a state, by what the engine's call is said to have done.
use Rattle.std.proofs.Common.{◌≡◌, ⊎_elim, ℕ, ◌==◌, ◌||◌, Bool, true, false, cond, List, refl, ap, sym, ◌∙◌, subst}
use Rattle.std.specs.Prelude.{Option, None, Some, Ok, Err, Result, nat_lt}
use Rattle.std.specs.Option.{option_map}
use Rattle.vl_collect.specs.declared.pass.Pass.{Pass as ThePass}
use Rattle.vl_engine_laws.specs.Lasts.{Lasts}
use Rattle.vl_engine_laws.specs.Represents as engine
use Rattle.vl_engine_laws.specs.declared.kept.Core.{Core}
use Rattle.vl_disk.specs.DiskState.{DiskState}
use Rattle.vl_space.specs.Collecting.{Collects, FitsLooks, IsPicked, pick_outcome}
use Rattle.vl_space.specs.declared.fails.PickFail.{PickFail}
use Rattle.vl_space.specs.declared.kept.Collecting.{Collecting}
use Rattle.vl_engine_model.specs.Decides.{Answered}
use Rattle.vl_engine_model.specs.Garbage.{best}
use Rattle.vl_engine_model.specs.Relocation.{Candidate, Pass}
use Rattle.vl_engine_model.specs.Ruling.{Ruling, leaving}
use Rattle.vl_engine_model.specs.Rulings.Pick as pick
use Rattle.vl_engine_model.specs.Rulings.Pick.{PickAnswer, pick_best, pick_ruling, pick_unless, with_pass}
use Rattle.vl_engine_model.specs.Store.Dispatch.{pick_as, picked_by}
use Rattle.vl_engine_model.specs.Store.Lines as store_lines
use Rattle.vl_engine_model.specs.Store.Lines.{Name}
use Rattle.vl_engine_model.specs.Store.Things.{APass, Step, Thing, only, thing_in, thing_of, with_thing}
use Rattle.vl_engine_model.specs.declared.job.OpenPass.{OpenPass}
use Rattle.vl_engine_model.specs.declared.layout.Layout.{Layout}
use Rattle.vl_engine_model.specs.declared.segment.SegmentStat.{SegmentStat}
use Rattle.vl_model.specs.History.{History}
use Rattle.vl_version.specs.declared.base.Base.{Base}
use Rattle.vl_replay_laws.specs.Passing.{IsOpenPass, Passes}
use Rattle.vl_replay_laws.specs.Replaying.{MakesStep, StandsIn, state_by}
use Rattle.vl_script_model.specs.Sequential.{IsPrinted, State, history_of}
use Rattle.vl_replay_laws.specs.Standing.{open_in}
use Rattle.vl_replay_laws.specs.declared.open.Open.{Open}
use Rattle.vl_replay_laws.specs.declared.passing.Passing.{Passing}
use Rattle.vl_script_model.specs.laws.Laws.{IsSound, state_after-sound}
use Rattle.vl_script.specs.declared.answer.Answer.{Answer}
use Rattle.vl_script.specs.declared.answer.Answer.TheVariants as answers
use Rattle.vl_script.specs.declared.line.Line.TheVariants as lines
use Rattle.vl_script_model.specs.laws.Growing.{Keeps, stats_keeps}
use Rattle.vl_replay_laws.specs.laws.Merges.Keeping.{KeepsMerges, same_jobs}
use Rattle.vl_replay_laws.specs.laws.Merges.Planning.{IsBeside}
use Rattle.vl_replay_laws.specs.laws.Names.BeginMaking.{kept_makes, stands_as, unread_of}
use Rattle.vl_replay_laws.specs.laws.Names.Lookups.{thing_beside, thing_put}
use Rattle.vl_replay_laws.specs.laws.Names.Serving.{Serves}
use Rattle.vl_replay_laws.specs.laws.Names.Standings.{same_or_not}
use Rattle.vl_replay_laws.specs.laws.Passes.Named.{jobs_with_pass}
use Rattle.vl_replay_laws.specs.laws.Passes.Standing.{names_with_work}

-- ---- a ruling by its answer

module _ (l : Layout) (h : History) where
  abbrev pub ruling_of : PickAnswer → Ruling PickAnswer
  ruling_of (pick.Picked p) = leaving (pick.Picked p) h (with_pass p.segment l)
  ruling_of pick.InvalidRequest = leaving pick.InvalidRequest h l
  ruling_of (pick.Rejected segment) = leaving (pick.Rejected segment) h l
  ruling_of pick.NoRewrite = leaving pick.NoRewrite h l

  abbrev IsSo : Ruling PickAnswer → Type 0
  IsSo r = r ≡ ruling_of r.answer

  by_best : (o : Option SegmentStat) → IsSo (pick_best l h o)
  by_best None = refl
  by_best (Some x) = refl

  by_open : (o : Option OpenPass) (percent : ℕ) → IsSo (pick_unless o l h percent)
  by_open (Some pass) percent = refl
  by_open None percent = by_best (best l percent)

  by_percent : (b : Bool) (percent : ℕ) → IsSo (cond b (leaving pick.InvalidRequest h l) (pick_unless l.pass l h percent))
  by_percent true percent = refl
  by_percent false percent = by_open l.pass percent

  pub answers_ruling : (percent : ℕ) (a : PickAnswer) → a ≡ (pick_ruling l h percent).answer → pick_ruling l h percent ≡ ruling_of a
  answers_ruling percent a is = by_percent ((percent == 0) || nat_lt 99 percent) percent ∙ ap ruling_of (sym is)

  -- where one was picked none was open
  none_of_open : (o : Option OpenPass) (percent : ℕ) (p : Pass) → pick.Picked p ≡ (pick_unless o l h percent).answer → o ≡ None
  none_of_open (Some pass) percent p is = absurd cc
  none_of_open None percent p is = refl

  none_of_percent : (b : Bool) (percent : ℕ) (p : Pass)
      → pick.Picked p ≡ (cond b (leaving pick.InvalidRequest h l) (pick_unless l.pass l h percent)).answer → l.pass ≡ None
  none_of_percent true percent p is = absurd cc
  none_of_percent false percent p is = none_of_open l.pass percent p is

  pub none_open : (percent : ℕ) (p : Pass) → pick.Picked p ≡ (pick_ruling l h percent).answer → l.pass ≡ None
  none_open percent p is = none_of_percent ((percent == 0) || nat_lt 99 percent) percent p is

-- ---- one was picked

module _ {H S : Type 0} (bytes : H → Option (List ℕ)) (told : Option DiskState) (before after : Core H) (os : List (Open H S)) (s : State)
    (stands : StandsIn bytes told before os s) (back : after.back ≡ before.back) (name : Name) (bare : thing_of s.store name ≡ None)
    (percent : ℕ) where
  abbrev h : History
  h = history_of s

  abbrev l : Layout
  l = s.store.layout

  abbrev r : Ruling PickAnswer
  r = pick_ruling l h percent

  abbrev picking : Step
  picking = pick_as s.store name percent (thing_of s.store name)

  free : open_in os name ≡ None
  free = unread_of bytes h l (open_in os name) (thing_of s.store name) (stands.names.each name) bare

  module _ {R : Type 0} (pass : ThePass (Base H R) H) (picked : IsPicked bytes pass r.layout r.answer) where
    abbrev its : Pass
    its = picked.of

    abbrev next : Layout
    next = with_pass picked.of.segment l

    ruled : r ≡ leaving (pick.Picked picked.of) h next
    ruled = answers_ruling l h percent (pick.Picked picked.of) (sym picked.answer_is)

    abbrev picked_step : Step
    picked_step = record {
      answer = store_lines.Number picked.of.segment;
      state = with_thing s.store next name (APass picked.of None);
      calls = 0;
    }

    step_is : picking ≡ picked_step
    step_is = ap (pick_as s.store name percent) bare ∙ ap (λ (q : Ruling PickAnswer). picked_by s.store name q q.answer) ruled

    beside : IsBeside l next
    beside = record { live = refl; bare = λ ticket none. none }

    pub picked_makes : Serves bytes told s.openable after r.history r.layout
        → MakesStep bytes told after os s picking (Ok (answers.Number pass.log.number))
    picked_makes there =
        subst (λ (y : Step). MakesStep bytes told after os s y (Ok (answers.Number pass.log.number))) (sym step_is) (
          ap store_lines.Number picked.goes.segment,
          stands_as bytes told told before after os s stands back os picked_step
              (subst (λ (q : Ruling PickAnswer). Serves bytes told s.openable after q.history q.layout) ruled there)
              (names_with_work bytes h l next beside os s.store.things stands.names name free (APass picked.of None) (λ reads. reads) tt)
              (subst (λ (y : Step). IsSound (state_by s y)) step_is (state_after-sound s (lines.Pick name percent) stands.sound)) refl,
        )

    -- it is the open one then
    pub picked_passes : (kept : Collecting) (passing : Option (Passing (Base H R) H)) → IsOpenPass bytes passing s.store.things l
        → Collects after kept r.layout → FitsLooks bytes pass
        → Passes bytes after kept (Some (record { name = name; pass = pass; batch = None })) picking.state.things picking.state.layout
    picked_passes kept passing open_before collects looks =
        subst
        (λ (y : Step). Passes bytes after kept (Some (record { name = name; pass = pass; batch = None })) y.state.things y.state.layout)
        (sym step_is) (record {
          collects = subst (λ (q : Ruling PickAnswer). Collects after kept q.layout) ruled collects;
          is_open = record {
            pass = picked.of;
            is_open = refl;
            goes = picked.goes;
            looks = looks;
            there = thing_put name (APass picked.of None) s.store.things;
            only = λ other p batch is. ⊎_elim
                (λ (same : other ≡ name). same)
                (λ (apart : other ≡ name → ⊥). absurd (no_other passing open_before other p batch
                (sym (thing_beside name other apart (APass picked.of None) s.store.things) ∙ is)))
                (same_or_not other name);
            lasts = subst (λ (q : Ruling PickAnswer). Lasts bytes pass.log q.layout) ruled picked.lasts;
            whole = picked.whole;
            batch = λ batch e. absurd (none_some batch e);
          };
        })
      where
        none_some : {T : Type 0} (x : T) → None ≡ Some x → ⊥
        none_some x e = cc

        -- none was open before
        no_other : (passing : Option (Passing (Base H R) H)) → IsOpenPass bytes passing s.store.things l → (other : Name) (p : Pass)
            (batch : Option (List Candidate)) → thing_in s.store.things other ≡ Some (APass p batch) → ⊥
        no_other None (none, free) other p batch there = free other p batch there
        no_other (Some passing) going other p batch there =
            none_some going.pass.segment
            (sym (ap (option_map (λ (o : OpenPass). o.segment)) (none_open l h percent picked.of (sym picked.answer_is)))
            ∙ going.is_open)

    pub picked_represents : engine.Represents bytes after told r.history r.layout
        → engine.Represents bytes after told (history_of s) picking.state.layout
    picked_represents represents =
        subst (λ (y : Step). engine.Represents bytes after told (history_of s) y.state.layout) (sym step_is)
        (subst (λ (q : Ruling PickAnswer). engine.Represents bytes after told q.history q.layout) ruled represents)

    pub picked_calls : picking.calls ≡ 0
    picked_calls = ap (λ (y : Step). y.calls) step_is

    pub picked_running : picking.state.layout.halted ≡ None
    picked_running = ap (λ (y : Step). y.state.layout.halted) step_is ∙ stands.running

    pub picked_next_log : picking.state.layout.next_log ≡ l.next_log
    picked_next_log = ap (λ (y : Step). y.state.layout.next_log) step_is

    pub picked_next_table : picking.state.layout.next_table ≡ l.next_table
    picked_next_table = ap (λ (y : Step). y.state.layout.next_table) step_is

  -- ---- it was refused

  -- by these answers, which change nothing
  abbrev pub IsRefusal : PickAnswer → store_lines.Answer → Type 0
  IsRefusal (pick.Picked p) told = ⊥
  IsRefusal pick.InvalidRequest told = told ≡ store_lines.Invalid
  IsRefusal (pick.Rejected segment) told = told ≡ store_lines.Rejected segment
  IsRefusal pick.NoRewrite told = told ≡ store_lines.NoRewrite

  pub refused_step : (a : PickAnswer) (answer : store_lines.Answer) → IsRefusal a answer → a ≡ r.answer
      → picking ≡ only answer s.store
  refused_step a answer refusal is =
      ap (pick_as s.store name percent) bare
      ∙ ap (λ (q : Ruling PickAnswer). picked_by s.store name q q.answer) (answers_ruling l h percent a is)
      ∙ by a answer refusal
    where
      by : (a : PickAnswer) (answer : store_lines.Answer) → IsRefusal a answer
          → picked_by s.store name (ruling_of l h a) (ruling_of l h a).answer ≡ only answer s.store
      by (pick.Picked p) answer refusal = absurd refusal
      by pick.InvalidRequest answer same = ap (λ (x : store_lines.Answer). only x s.store) (sym same)
      by (pick.Rejected segment) answer same = ap (λ (x : store_lines.Answer). only x s.store) (sym same)
      by pick.NoRewrite answer same = ap (λ (x : store_lines.Answer). only x s.store) (sym same)

  module _ (a : PickAnswer) (answer : store_lines.Answer) (refusal : IsRefusal a answer) (is : a ≡ r.answer) where
    pub refused_makes : (told_answer : Answer) → IsPrinted told_answer answer → Serves bytes told s.openable after h l
        → MakesStep bytes told after os s picking (Ok told_answer)
    refused_makes told_answer same there =
        kept_makes bytes told told before after os s stands back os picking told_answer answer (refused_step a answer refusal is) same there
        stands.names

    pub refused_keeps : Keeps s.store picking
    refused_keeps = subst (Keeps s.store) (sym (refused_step a answer refusal is)) (stats_keeps s.store answer)

    pub refused_passes : {R : Type 0} (old new : Collecting) (passing : Option (Passing (Base H R) H)) → after ≡ before
        → Collects after new l → Passes bytes before old passing s.store.things l
        → Passes bytes after new passing picking.state.things picking.state.layout
    refused_passes old new passing core collects passes =
        subst (λ (y : Step). Passes bytes after new passing y.state.things y.state.layout) (sym (refused_step a answer refusal is))
        (record { collects = collects; is_open = passes.is_open })

-- The line leaves the layout that the ruling leaves.
pub picked_layout : (s : State) (name : Name) (percent : ℕ) → thing_of s.store name ≡ None
    → (pick_as s.store name percent (thing_of s.store name)).state.layout ≡ (pick_ruling s.store.layout (history_of s) percent).layout
picked_layout s name percent bare =
    ap (λ (o : Option Thing). (pick_as s.store name percent o).state.layout) bare
    ∙ ap (λ (q : Ruling PickAnswer). (picked_by s.store name q q.answer).state.layout) ruled
    ∙ by (pick_ruling s.store.layout (history_of s) percent).answer
    ∙ ap (λ (q : Ruling PickAnswer). q.layout) (sym ruled)
  where
    ruled : pick_ruling s.store.layout (history_of s) percent
        ≡ ruling_of s.store.layout (history_of s) (pick_ruling s.store.layout (history_of s) percent).answer
    ruled = answers_ruling s.store.layout (history_of s) percent (pick_ruling s.store.layout (history_of s) percent).answer refl

    by : (a : PickAnswer) → (picked_by s.store name (ruling_of s.store.layout (history_of s) a)
        (ruling_of s.store.layout (history_of s) a).answer).state.layout ≡ (ruling_of s.store.layout (history_of s) a).layout
    by (pick.Picked p) = refl
    by pick.InvalidRequest = refl
    by (pick.Rejected segment) = refl
    by pick.NoRewrite = refl

-- an answer's outcome is what it was answered by
pub refusal_so : {P : Type 0} (ruled : PickAnswer) (a : PickAnswer) (fail : PickFail) → pick_outcome {P = P} ruled (Err fail) ≡ Answered a
    → (result : Result P PickFail) → result ≡ Err fail → pick_outcome ruled result ≡ Answered a
refusal_so ruled a fail is result same = ap (pick_outcome ruled) same ∙ is

-- ---- the merge that waits

-- a pick leaves it alone, and its name
pub pick_keeps_merges : (s : State) (name : Name) (percent : ℕ) → thing_of s.store name ≡ None
    → KeepsMerges s.store (pick_as s.store name percent (thing_of s.store name))
pick_keeps_merges s name percent bare =
    subst (λ (o : Option Thing). KeepsMerges s.store (pick_as s.store name percent o)) (sym bare)
    (subst (λ (q : Ruling PickAnswer). KeepsMerges s.store (picked_by s.store name q q.answer))
    (sym (answers_ruling s.store.layout (history_of s) percent (pick_ruling s.store.layout (history_of s) percent).answer refl))
    (by (pick_ruling s.store.layout (history_of s) percent).answer))
  where
    by : (a : PickAnswer) → KeepsMerges s.store (picked_by s.store name (ruling_of s.store.layout (history_of s) a)
        (ruling_of s.store.layout (history_of s) a).answer)
    by (pick.Picked p) = record { job = refl; jobs = jobs_with_pass s.store.things name bare p None }
    by pick.InvalidRequest = record { job = refl; jobs = same_jobs s.store.things s.store.things refl }
    by (pick.Rejected segment) = record { job = refl; jobs = same_jobs s.store.things s.store.things refl }
    by pick.NoRewrite = record { job = refl; jobs = same_jobs s.store.things s.store.things refl }
