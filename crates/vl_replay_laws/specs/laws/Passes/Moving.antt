-- What a move makes of a state, by what the engine's relocation is said to have done.
use Rattle.std.proofs.Common.{◌≡◌, ⊎_elim, ℕ, ◌≤◌, ◌+◌, nat_le, true, false, cond, Bool, List, [], ◌∷◌, length}
use Rattle.std.proofs.Common.{refl, ap, sym, ◌∙◌, subst}
use Rattle.std.specs.Prelude.{Option, None, Some, Ok}
use Rattle.std.specs.Option.{option_map}
use Rattle.vl_collect.specs.Passing.{IsWholeFrom}
use Rattle.vl_collect.specs.declared.pass.Pass.{Pass as ThePass}
use Rattle.vl_engine_laws.specs.Lasts.{Lasts}
use Rattle.vl_engine_laws.specs.declared.kept.Core.{Core}
use Rattle.vl_engine_laws.specs.laws.Lasting.{lasts_same}
use Rattle.vl_engine_laws.specs.laws.RelocateRulings.{history_is}
use Rattle.vl_disk.specs.DiskState.{DiskState}
use Rattle.vl_space.specs.Collecting.{FitsLooks, GoesOver}
use Rattle.vl_engine_laws.specs.Lent.{Opens}
use Rattle.vl_engine_laws.specs.Lent.{StandsOpen}
use Rattle.vl_space.specs.declared.kept.Collecting.{Collecting}
use Rattle.vl_engine_laws.specs.declared.open.OpenMerge.{OpenMerge}
use Rattle.vl_engine_model.specs.Decides.{Answered, Decides, Effects, Otherwise, Outcome}
use Rattle.vl_engine_model.specs.Relocation.{Candidate, Pass, moved_of}
use Rattle.vl_engine_model.specs.Ruling.{Ruling, has_no_epoch, leaving}
use Rattle.vl_engine_model.specs.Rulings.Relocate as move
use Rattle.vl_engine_model.specs.Rulings.Relocate.{MoveAnswer, relocate_of, relocate_ruling, relocate_unless, relocated}
use Rattle.vl_engine_model.specs.Sources.{sources, tables}
use Rattle.vl_engine_model.specs.Store.Dispatch.{move_by, moved_by}
use Rattle.vl_engine_model.specs.Store.Lines as store_lines
use Rattle.vl_engine_model.specs.Store.Lines.{Name}
use Rattle.vl_engine_model.specs.Store.Things as things
use Rattle.vl_engine_model.specs.Store.Things.{APass, Step, Thing, named, only, thing_in, thing_of}
use Rattle.vl_engine_model.specs.Tidy.{sealed}
use Rattle.vl_engine_model.specs.declared.file_name.FileName.{FileName}
use Rattle.vl_engine_model.specs.declared.job.OpenPass.{OpenPass}
use Rattle.vl_engine_model.specs.declared.layout.Layout.{Layout}
use Rattle.vl_model.specs.Frames.{frame_length}
use Rattle.vl_model.specs.History.{History, last_number}
use Rattle.vl_model.specs.declared.counter.Counter.TheVariants as counters
use Rattle.vl_model.specs.declared.log_frame.LogFrame.TheVariants.{Relocated}
use Rattle.vl_model.specs.declared.log_frame.Moved.{Moved}
use Rattle.vl_version.specs.declared.base.Base.{Base}
use Rattle.vl_replay_laws.specs.Passing.{IsPassing, Passes}
use Rattle.vl_replay_laws.specs.Replaying.{MakesStep, StandsIn, state_by}
use Rattle.vl_script_model.specs.Sequential.{IsPrinted, State, history_of}
use Rattle.vl_replay_laws.specs.Standing.{open_in}
use Rattle.vl_replay_laws.specs.declared.open.Open.{Open}
use Rattle.vl_replay_laws.specs.declared.passing.Passing.{Passing}
use Rattle.vl_script_model.specs.laws.Laws.{IsSound, state_after-sound}
use Rattle.vl_script.specs.declared.answer.Answer.{Answer}
use Rattle.vl_script.specs.declared.answer.Answer.TheVariants as answers
use Rattle.vl_script.specs.declared.line.Line.TheVariants as lines
use Rattle.vl_replay_laws.specs.laws.Merges.Planning.{IsBeside}
use Rattle.vl_replay_laws.specs.laws.Names.Lookups.{thing_beside, thing_put}
use Rattle.vl_replay_laws.specs.laws.Names.Serving.{Serves}
use Rattle.vl_replay_laws.specs.laws.Names.Standings.{same_or_not}
use Rattle.vl_replay_laws.specs.laws.Names.Untabled.{reads_same}
use Rattle.vl_replay_laws.specs.laws.Passes.Batching.{unread_pass}
use Rattle.vl_replay_laws.specs.laws.Passes.Standing.{collects_with, names_with_work}

-- ---- what a ruling leaves

module _ (l : Layout) (h : History) where
  -- what is so of the layout, and of each with records that were moved, is so of what it leaves
  module _ (P : Layout → Type 0) (stays : P l) (more : (moved : List Moved) → P (relocated l moved)) where
    by_fit : (moved : List Moved) (used fits : Bool)
        → P (cond used (leaving (move.Exhausted counters.Version) h l)
        (cond fits (record { answer = move.Moves (length moved); history = h; layout = relocated l moved; calls = 2; gone = [] })
        (leaving (move.Full l.active.length (frame_length l.active.format (Relocated moved))) h l))).layout
    by_fit moved true fits = stays
    by_fit moved false true = more moved
    by_fit moved false false = stays

    of : (moved : List Moved) → P (relocate_of l h moved).layout
    of [] = stays
    of (m ∷ ms) = by_fit (m ∷ ms) (has_no_epoch l)
        (nat_le (l.active.length + frame_length l.active.format (Relocated (m ∷ ms))) l.room)

    unless : (halted : Option FileName) (p : Pass) (batch : List Candidate) → P (relocate_unless halted l h p batch).layout
    unless (Some name) p batch = stays
    unless None p batch = of (moved_of (sources l) p.segment (last_number h) batch)

    pub leaves_so : (p : Pass) (batch : List Candidate) → P (relocate_ruling l h p batch).layout
    leaves_so p batch = unless l.halted p batch

  -- ---- one that is refused

  abbrev pub IsRefusal : MoveAnswer → Type 0
  IsRefusal (move.Moves n) = ⊥
  IsRefusal (move.Halted file) = Unit {0}
  IsRefusal (move.Exhausted c) = Unit {0}
  IsRefusal (move.Full long frame) = Unit {0}

  abbrev LeavesAll : Ruling MoveAnswer → Type 0
  LeavesAll r = IsRefusal r.answer → r ≡ leaving r.answer h l

  refused_fit : (moved : List Moved) (used fits : Bool)
      → LeavesAll (cond used (leaving (move.Exhausted counters.Version) h l)
      (cond fits (record { answer = move.Moves (length moved); history = h; layout = relocated l moved; calls = 2; gone = [] })
      (leaving (move.Full l.active.length (frame_length l.active.format (Relocated moved))) h l)))
  refused_fit moved true fits refused = refl
  refused_fit moved false true refused = absurd refused
  refused_fit moved false false refused = refl

  refused_of : (moved : List Moved) → LeavesAll (relocate_of l h moved)
  refused_of [] = λ refused. absurd refused
  refused_of (m ∷ ms) = refused_fit (m ∷ ms) (has_no_epoch l)
      (nat_le (l.active.length + frame_length l.active.format (Relocated (m ∷ ms))) l.room)

  refused_unless : (halted : Option FileName) (p : Pass) (batch : List Candidate) → LeavesAll (relocate_unless halted l h p batch)
  refused_unless (Some name) p batch = λ refused. refl
  refused_unless None p batch = refused_of (moved_of (sources l) p.segment (last_number h) batch)

  pub refused_leaves : (p : Pass) (batch : List Candidate) (a : MoveAnswer) → a ≡ (relocate_ruling l h p batch).answer → IsRefusal a
      → relocate_ruling l h p batch ≡ leaving a h l
  refused_leaves p batch a is refused =
      refused_unless l.halted p batch (subst IsRefusal is refused) ∙ ap (λ (b : MoveAnswer). leaving b h l) (sym is)

  -- ---- while it isn't halted

  abbrev pub IsNoHalt : MoveAnswer → Type 0
  IsNoHalt (move.Moves n) = Unit {0}
  IsNoHalt (move.Halted file) = ⊥
  IsNoHalt (move.Exhausted c) = Unit {0}
  IsNoHalt (move.Full long frame) = Unit {0}

  goes_fit : (moved : List Moved) (used fits : Bool)
      → IsNoHalt (cond used (leaving (move.Exhausted counters.Version) h l)
      (cond fits (record { answer = move.Moves (length moved); history = h; layout = relocated l moved; calls = 2; gone = [] })
      (leaving (move.Full l.active.length (frame_length l.active.format (Relocated moved))) h l))).answer
  goes_fit moved true fits = tt
  goes_fit moved false true = tt
  goes_fit moved false false = tt

  goes_of : (moved : List Moved) → IsNoHalt (relocate_of l h moved).answer
  goes_of [] = tt
  goes_of (m ∷ ms) = goes_fit (m ∷ ms) (has_no_epoch l)
      (nat_le (l.active.length + frame_length l.active.format (Relocated (m ∷ ms))) l.room)

  pub goes_on : (p : Pass) (batch : List Candidate) → l.halted ≡ None → IsNoHalt (relocate_ruling l h p batch).answer
  goes_on p batch running = subst (λ (f : Option FileName). IsNoHalt (relocate_unless f l h p batch).answer) (sym running)
      (goes_of (moved_of (sources l) p.segment (last_number h) batch))

-- what it leaves of logs, tables and passes
pub record KeepsLogs (l m : Layout) : Type 0 where
  pub live : m.live ≡ l.live
  pub retired : m.retired ≡ l.retired
  pub tables : tables m ≡ tables l
  pub sealed : sealed m ≡ sealed l
  pub flushed : m.flushed ≡ l.flushed
  pub pass : m.pass ≡ l.pass
  pub number : m.active.number ≡ l.active.number
  pub halted : m.halted ≡ l.halted
  pub next_log : m.next_log ≡ l.next_log
  pub next_table : m.next_table ≡ l.next_table

pub keeps_logs : (l : Layout) (h : History) (p : Pass) (batch : List Candidate) → KeepsLogs l (relocate_ruling l h p batch).layout
keeps_logs l h p batch = leaves_so l h (KeepsLogs l)
    (record {
      live = refl;
      retired = refl;
      tables = refl;
      sealed = refl;
      flushed = refl;
      pass = refl;
      number = refl;
      halted = refl;
      next_log = refl;
      next_table = refl;
    })
    (λ moved. record {
      live = refl;
      retired = refl;
      tables = refl;
      sealed = refl;
      flushed = refl;
      pass = refl;
      number = refl;
      halted = refl;
      next_log = refl;
      next_table = refl;
    }) p batch

-- what is decided of something is decided of what follows from it
pub decides_weaker : {A : Type 0} (P Q : History → Layout → Type 0) → ((k : History) (m : Layout) → P k m → Q k m)
    → (h : History) (l : Layout) (ruling : Ruling A) (otherwise : Otherwise) (outcome : Outcome A) (effects : Effects)
    → Decides P h l ruling otherwise outcome effects → Decides Q h l ruling otherwise outcome effects
decides_weaker P Q weaker h l ruling otherwise outcome effects d = record {
  answered = λ a is. ((d.answered a is).0, weaker _ _ (d.answered a is).1);
  did = d.did;
  no_memory = λ is. (weaker _ _ (d.no_memory is).0, (d.no_memory is).1);
  failed = λ name is. ((d.failed name is).0, weaker _ _ (d.failed name is).1);
  damaged = λ name place is. (weaker _ _ (d.damaged name place is).0, (d.damaged name place is).1);
}

-- where a batch waits its name stands for it
pub waits_there : {H R : Type 0} (bytes : H → Option (List ℕ)) (core : Core H) (collecting : Collecting) (s : things.State) (name : Name)
    (going : Passing (Base H R) H) (passes : Passes bytes core collecting (Some going) s.things s.layout) → name ≡ going.name
    → (batch : List Candidate) → going.batch ≡ Some batch → thing_of s name ≡ Some (APass passes.is_open.pass (Some batch))
waits_there bytes core collecting s name going passes name_is batch waits =
    ap (thing_in s.things) name_is ∙ passes.is_open.there ∙ ap (λ (b : Option (List Candidate)). Some (APass passes.is_open.pass b)) waits

-- ---- steps

module _ {H S : Type 0} (bytes : H → Option (List ℕ)) (seen now : Option DiskState) (before after : Core H) (os : List (Open H S))
    (s : State) (stands : StandsIn bytes seen before os s) (name : Name) (p : Pass) (batch : List Candidate)
    (there : thing_of s.store name ≡ Some (APass p (Some batch))) where
  abbrev h : History
  h = history_of s

  abbrev l : Layout
  l = s.store.layout

  abbrev r : Ruling MoveAnswer
  r = relocate_ruling l h p batch

  abbrev pub moving : Step
  moving = move_by s.store name (thing_of s.store name)

  abbrev by : MoveAnswer → Step
  by a = moved_by s.store name p r a

  pub step_by : (a : MoveAnswer) → a ≡ r.answer → moving ≡ by a
  step_by a same = ap (move_by s.store name) there ∙ ap by (sym same)

  free : open_in os name ≡ None
  free = unread_pass bytes h l (open_in os name) p (Some batch) (thing_of s.store name) (stands.names.each name) there

  keeps : KeepsLogs l r.layout
  keeps = keeps_logs l h p batch

  beside : IsBeside l r.layout
  beside = record {
    live = keeps.live;
    bare = reads_same l r.layout keeps.live keeps.tables keeps.retired;
  }

  sound_by : (a : MoveAnswer) → a ≡ r.answer → IsSound (state_by s (by a))
  sound_by a same = subst (λ (y : Step). IsSound (state_by s y)) (step_by a same) (state_after-sound s (lines.Move name) stands.sound)

  -- it is refused by such an answer, and nothing is changed
  abbrev pub refused_told : MoveAnswer → store_lines.Answer
  refused_told (move.Moves n) = store_lines.Moved n
  refused_told (move.Halted file) = store_lines.Halted file
  refused_told (move.Exhausted c) = store_lines.Exhausted c
  refused_told (move.Full long frame) = store_lines.Full long frame

  refused_step : (a : MoveAnswer) → IsRefusal l h a → by a ≡ only (refused_told a) s.store
  refused_step (move.Moves n) refused = absurd refused
  refused_step (move.Halted file) refused = refl
  refused_step (move.Exhausted c) refused = refl
  refused_step (move.Full long frame) refused = refl

  pub refused_is : (a : MoveAnswer) → a ≡ r.answer → IsRefusal l h a → moving ≡ only (refused_told a) s.store
  refused_is a same refused = step_by a same ∙ refused_step a refused

  -- ---- by what the engine decided

  module _ (within : after.back.state.next_log ≤ after.back.next_log) (otherwise : Otherwise) (effects : Effects) where
    abbrev pub AnsweredBy : MoveAnswer → Type 0
    AnsweredBy a = Decides (Serves bytes now s.openable after) h l r otherwise (Answered a) effects

    pub moved_makes : (n : ℕ) → AnsweredBy (move.Moves n) → MakesStep bytes now after os s moving (Ok (answers.Moved n))
    moved_makes n decides =
        let (same, there_then) = decides.answered (move.Moves n) refl in
        let on = subst (λ (k : History). Serves bytes now s.openable after k r.layout) (history_is l h p batch) there_then in
        subst (λ (y : Step). MakesStep bytes now after os s y (Ok (answers.Moved n))) (sym (step_by (move.Moves n) same)) (
          refl,
          record {
            engine = on.stands;
            names = names_with_work bytes h l r.layout beside os s.store.things stands.names name free (APass p None) (λ reads. reads) tt;
            sound = sound_by (move.Moves n) same;
            held = λ openable. on.held openable (keeps.halted ∙ stands.running);
            running = keeps.halted ∙ stands.running;
            fits = on.fits;
            within = within;
          },
        )

    pub refused_makes : (a : MoveAnswer) (told : Answer) → IsRefusal l h a → IsPrinted told (refused_told a) → (o : Outcome MoveAnswer)
        → o ≡ Answered a → Decides (Serves bytes now s.openable after) h l r otherwise o effects
        → MakesStep bytes now after os s moving (Ok told)
    refused_makes a told refused is o came decided =
        let decides : AnsweredBy a =
        subst (λ (o : Outcome MoveAnswer). Decides (Serves bytes now s.openable after) h l r otherwise o effects) came decided in
        let (same, there_then) = decides.answered a refl in
        let on = subst (λ (q : Ruling MoveAnswer). Serves bytes now s.openable after q.history q.layout)
        (refused_leaves l h p batch a same refused) there_then in
        subst (λ (y : Step). MakesStep bytes now after os s y (Ok told)) (sym (refused_is a same refused)) (
          is,
          record {
            engine = on.stands;
            names = stands.names;
            sound = subst (λ (y : Step). IsSound (state_by s y)) (refused_step a refused) (sound_by a same);
            held = λ openable. on.held openable stands.running;
            running = stands.running;
            fits = on.fits;
            within = within;
          },
        )

    -- an engine that stands for what isn't halted isn't halted
    pub never_halted : (file : FileName) → AnsweredBy (move.Halted file) → ⊥
    never_halted file decides = subst (λ (a : MoveAnswer). IsNoHalt l h a)
        (sym (decides.answered (move.Halted file) refl).0) (goes_on l h p batch stands.running)

  -- ---- the merge that is open

  module _ (merging : Option OpenMerge) (otherwise : Otherwise) (effects : Effects) where
    pub moved_opens : (n : ℕ) → Decides (StandsOpen bytes after merging) h l r otherwise (Answered (move.Moves n)) effects
        → Opens merging moving.state.layout.job
    moved_opens n decides =
        let (same, open_then) = decides.answered (move.Moves n) refl in
        subst (λ (y : Step). Opens merging y.state.layout.job) (sym (step_by (move.Moves n) same)) open_then.opens

    pub refused_opens : (a : MoveAnswer) → IsRefusal l h a → (o : Outcome MoveAnswer) → o ≡ Answered a
        → Decides (StandsOpen bytes after merging) h l r otherwise o effects → Opens merging moving.state.layout.job
    refused_opens a refused o came decided =
        let decides =
        subst (λ (o : Outcome MoveAnswer). Decides (StandsOpen bytes after merging) h l r otherwise o effects) came decided in
        let (same, open_then) = decides.answered a refl in
        subst (λ (y : Step). Opens merging y.state.layout.job) (sym (refused_is a same refused))
        (subst (λ (q : Ruling MoveAnswer). Opens merging q.layout.job) (refused_leaves l h p batch a same refused) open_then.opens)

  -- ---- the pass that is open

  module _ {R : Type 0} (old new : Collecting) (kept : new ≡ old) (logs : after.version.behind.logs ≡ before.version.behind.logs)
      (going next : Passing (Base H R) H) (passes : Passes bytes before old (Some going) s.store.things l) (name_is : name ≡ going.name)
      (its : passes.is_open.pass ≡ p) (keeps_name : next.name ≡ going.name) (keeps_pass : next.pass ≡ going.pass) where
    new_name : next.name ≡ name
    new_name = keeps_name ∙ sym name_is

    pub moved_passes : (n : ℕ) → move.Moves n ≡ r.answer → next.batch ≡ None
        → Passes bytes after new (Some next) moving.state.things moving.state.layout
    moved_passes n same none =
        subst (λ (y : Step). Passes bytes after new (Some next) y.state.things y.state.layout) (sym (step_by (move.Moves n) same)) (record {
          collects = collects_with before after old new logs kept l r.layout keeps.sealed keeps.tables keeps.flushed keeps.pass
              passes.collects;
          is_open = record {
            pass = p;
            is_open = ap (option_map (λ (o : OpenPass). o.segment)) keeps.pass ∙ passes.is_open.is_open
                ∙ ap (λ (q : Pass). Some q.segment) its;
            goes = subst (λ (x : ThePass (Base H R) H). GoesOver bytes x p) (sym keeps_pass)
                (subst (λ (q : Pass). GoesOver bytes going.pass q) its passes.is_open.goes);
            looks = subst (λ (x : ThePass (Base H R) H). FitsLooks bytes x) (sym keeps_pass) passes.is_open.looks;
            there = subst (λ (m : Name). thing_in (named name (APass p None) s.store.things) m ≡ Some (APass p next.batch)) (sym new_name)
                (thing_put name (APass p None) s.store.things ∙ ap (λ (b : Option (List Candidate)). Some (APass p b)) (sym none));
            only = λ q o b e. ⊎_elim
                (λ (at : q ≡ name). at ∙ sym new_name)
                (λ (apart : q ≡ name → ⊥). passes.is_open.only q o b (sym (thing_beside name q apart (APass p None) s.store.things) ∙ e)
                ∙ sym keeps_name)
                (same_or_not q name);
            lasts = subst (λ (x : ThePass (Base H R) H). Lasts bytes x.log r.layout) (sym keeps_pass)
                (lasts_same bytes going.pass.log l passes.is_open.lasts r.layout keeps.sealed keeps.number);
            whole = subst (λ (x : ThePass (Base H R) H). IsWholeFrom bytes x.log x.at.place) (sym keeps_pass) passes.is_open.whole;
            batch = λ cs e. absurd (none_some cs (sym none ∙ e));
          };
        })
      where
        none_some : (cs : List Candidate) → None ≡ Some cs → ⊥
        none_some cs e = cc

    pub refused_passes : (a : MoveAnswer) → a ≡ r.answer → IsRefusal l h a → next ≡ going
        → Passes bytes after new (Some next) moving.state.things moving.state.layout
    refused_passes a same refused still =
        subst (λ (y : Step). Passes bytes after new (Some next) y.state.things y.state.layout) (sym (refused_is a same refused)) (record {
          collects = collects_with before after old new logs kept l l refl refl refl refl passes.collects;
          is_open = subst (λ (x : Passing (Base H R) H). IsPassing bytes x s.store.things l) (sym still) passes.is_open;
        })
