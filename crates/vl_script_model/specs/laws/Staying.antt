-- A line that is told neither a number nor `ok`, nor that records were moved or files removed, leaves the layout as it is, but for
-- what lives and for merges that were given up.
use Rattle.std.proofs.Common.{◌≡◌, inl, inr, ℕ, ◌+◌, Bool, true, false, cond, List, [], ◌∷◌, ◌++◌, refl, ap, ◌∙◌}
use Rattle.std.specs.List.{filter}
use Rattle.std.specs.Prelude.{◌==◌, ◌||◌, nat_lt, Option, None, Some}
use Rattle.vl_engine_model.specs.Jobs.{Made, job_ended, loose}
use Rattle.vl_engine_model.specs.Levels.{due_from, first_into}
use Rattle.vl_engine_model.specs.Merging.{outputs}
use Rattle.vl_engine_model.specs.Rulings.Drain.{drain_of, drain_ruling, drain_unless}
use Rattle.vl_engine_model.specs.Rulings.Fresh as fresh
use Rattle.vl_engine_model.specs.Rulings.Fresh.{FreshAnswer, drawn, fresh_ruling, fresh_unless}
use Rattle.vl_engine_model.specs.Rulings.Install as install
use Rattle.vl_engine_model.specs.Rulings.Install.{InstallAnswer, install_checked, install_ruling, install_unless, installed, moved_since, race}
use Rattle.vl_engine_model.specs.Rulings.Plan.{plan_of, plan_ruling, plan_unless}
use Rattle.vl_model.specs.Conflicts.{Named}
use Rattle.vl_model.specs.declared.entry.Entry.{Entry}
use Rattle.vl_engine_model.specs.Ruling.{Exhausted, Halted, Idle, Ruling, StepAnswer, Stepped, has_no_number, has_no_epoch, leaving}
use Rattle.vl_engine_model.specs.Rulings.Flush.{flush_of, flush_unless, flushed}
use Rattle.vl_engine_model.specs.Rulings.Rotate.{rotate_of, rotate_unless, rotated}
use Rattle.vl_engine_model.specs.Rulings.Keep as keep
use Rattle.vl_engine_model.specs.Rulings.Keep.{KeepAnswer, keep_unless}
use Rattle.vl_engine_model.specs.Rulings.Sweep.{sweep_ruling, sweep_unless}
use Rattle.vl_engine_model.specs.Sources.{numbers_of, oldest, tables}
use Rattle.vl_engine_model.specs.Store.Commits.{history_in}
use Rattle.vl_engine_model.specs.Store.Dispatch.{fill, filled, install_by, install_told, keep_told, made_of, move_by, moved_by}
use Rattle.vl_engine_model.specs.Store.Dispatch.{pick_as, picked_by, plan_as, planned_by, step_told, sweep_told}
use Rattle.vl_engine_model.specs.Relocation.{Pass}
use Rattle.vl_engine_model.specs.Rulings.Pick as pick
use Rattle.vl_engine_model.specs.Rulings.Pick.{PickAnswer, pick_ruling}
use Rattle.vl_engine_model.specs.Rulings.Relocate as relocate
use Rattle.vl_engine_model.specs.Rulings.Relocate.{MoveAnswer, relocate_ruling}
use Rattle.vl_engine_model.specs.Store.Lines as store
use Rattle.vl_engine_model.specs.Store.Lines.{Name}
use Rattle.vl_engine_model.specs.Store.Things as things
use Rattle.vl_engine_model.specs.Store.Things.{AJob, APass, ATransaction, AView, Step, Thing, thing_of}
use Rattle.vl_engine_model.specs.declared.file_name.Retired.{Retired}
use Rattle.vl_engine_model.specs.declared.job.Job.{Job}
use Rattle.vl_engine_model.specs.declared.job.OpenJob.{OpenJob}
use Rattle.vl_engine_model.specs.declared.file_name.FileName.{FileName}
use Rattle.vl_engine_model.specs.declared.layout.Layout.{Layout}
use Rattle.vl_engine_model.specs.declared.segment.Segment.{Segment}
use Rattle.vl_engine_model.specs.declared.table.Table.{Table}
use Rattle.vl_model.specs.History.{History}
use Rattle.vl_model.specs.declared.counter.Counter.TheVariants as counter
use Rattle.vl_model.specs.declared.log_frame.LogFrame.{LogFrame}
use Rattle.vl_script_model.specs.Durable.{was_needed, without_merges}
use Rattle.vl_script_model.specs.Sequential.{State, answer_to, counted, history_of, state_after}
use Rattle.vl_script_model.specs.laws.Laws.{IsSound, Stepping, keeps_or}
use Rattle.vl_script.specs.declared.line.Line.{Line}
use Rattle.vl_script.specs.declared.line.Line.TheVariants.{Begin, View, Get, Set, SetTagged, GetTagged, GetAt, Scan}
use Rattle.vl_script.specs.declared.line.Line.TheVariants.{Delete, Commit, Drop, Rotate, Flush, Keep, Plan, Drain, Install}
use Rattle.vl_script.specs.declared.line.Line.TheVariants.{Sweep, Stats, Pick, Batch, Move}

-- the ruling on a step leaves the layout, and makes no call, unless it is answered by a number
pub record Stays (l : Layout) (r : Ruling StepAnswer) : Type 0 where
  pub stays : ((n : ℕ) → step_told r.answer ≡ store.Number n → ⊥) → r.layout ≡ l
  pub calls : ((n : ℕ) → step_told r.answer ≡ store.Number n → ⊥) → r.calls ≡ 0

-- so it is with a change of how many versions are kept, unless it is done
pub record StaysKept (l : Layout) (r : Ruling KeepAnswer) : Type 0 where
  pub stays : (keep_told r.answer ≡ store.Done → ⊥) → r.layout ≡ l
  pub calls : (keep_told r.answer ≡ store.Done → ⊥) → r.calls ≡ 0

module _ (l : Layout) (h : History) where
  left : (a : StepAnswer) → Stays l (leaving a h l)
  left a = record { stays = λ none. refl; calls = λ none. refl }

  stepped : (n : ℕ) (m : Layout) (calls : ℕ)
      → Stays l (record { answer = Stepped n; history = h; layout = m; calls = calls; gone = [] })
  stepped n m calls = record { stays = λ none. absurd (none n refl); calls = λ none. absurd (none n refl) }

  either : (b : Bool) (x y : Ruling StepAnswer) → Stays l x → Stays l y → Stays l (cond b x y)
  either true x y p q = p
  either false x y p q = q

  by_frames : (fs : List LogFrame) → Stays l (rotate_of fs l h)
  by_frames [] = left Idle
  by_frames (f ∷ fs) = either (has_no_number l.next_log 1) _ _ (left (Exhausted counter.Log))
      (either (has_no_epoch l) _ _ (left (Exhausted counter.Version)) (stepped l.active.number (rotated l) 3))

  pub rotate_stays : (halted : Option FileName) → Stays l (rotate_unless halted l h)
  rotate_stays (Some file) = left (Halted file)
  rotate_stays None = by_frames l.active.frames

  by_oldest : (o : Option Segment) → Stays l (flush_of l h o)
  by_oldest None = left Idle
  by_oldest (Some log) = either (has_no_number l.next_table 1) _ _ (left (Exhausted counter.Table))
      (either (has_no_epoch l) _ _ (left (Exhausted counter.Version)) (stepped l.next_table (flushed l log) 5))

  pub flush_stays : (halted : Option FileName) → Stays l (flush_unless halted l h)
  flush_stays (Some file) = left (Halted file)
  flush_stays None = by_oldest (oldest l.frozen)

module _ (l : Layout) (h : History) (v : ℕ) where
  kept_left : (a : KeepAnswer) → StaysKept l (leaving a h l)
  kept_left a = record { stays = λ none. refl; calls = λ none. refl }

  one : (b : Bool) (x y : Ruling KeepAnswer) → StaysKept l x → StaysKept l y → StaysKept l (cond b x y)
  one true x y p q = p
  one false x y p q = q

  pub keep_stays : (halted : Option FileName) → StaysKept l (keep_unless halted l h v)
  keep_stays (Some file) = kept_left (keep.Halted file)
  keep_stays None = one ((v == 0) || nat_lt 16 v) _ _ (kept_left keep.InvalidRequest)
      (one (v == l.keep) _ _ (kept_left keep.Kept) (record { stays = λ none. absurd (none refl); calls = λ none. absurd (none refl) }))

-- and with a sweep, unless it is told how many files it removed
pub sweep_stays : (l : Layout) (h : History) → ((n : ℕ) → sweep_told (sweep_ruling l h).answer ≡ store.Removed n → ⊥)
    → (sweep_ruling l h).layout ≡ l
sweep_stays l h = of l.halted
  where
    of : (halted : Option FileName) → ((n : ℕ) → sweep_told (sweep_unless halted None l h).answer ≡ store.Removed n → ⊥)
        → (sweep_unless halted None l h).layout ≡ l
    of (Some file) none = refl
    of None none = absurd (none _ refl)

-- ---- merges that end without their tables

-- files of no version are none that was needed
loose_unneeded : (numbers : List ℕ) → filter was_needed (loose numbers) ≡ []
loose_unneeded [] = refl
loose_unneeded (n ∷ ns) = loose_unneeded ns

needed_beside : (old : List Retired) (numbers : List ℕ) → filter was_needed (old ++ loose numbers) ≡ filter was_needed old
needed_beside [] numbers = loose_unneeded numbers
needed_beside (r ∷ old) numbers = by (was_needed r) (needed_beside old numbers)
  where
    by : (b : Bool) → filter was_needed (old ++ loose numbers) ≡ filter was_needed old
        → cond b (r ∷ filter was_needed (old ++ loose numbers)) (filter was_needed (old ++ loose numbers))
        ≡ cond b (r ∷ filter was_needed old) (filter was_needed old)
    by true same = ap (λ (rs : List Retired). r ∷ rs) same
    by false same = same

pub ended_stays : (made : Made) (l : Layout) → without_merges (job_ended made l) ≡ without_merges l
ended_stays made l = ap (λ (rs : List Retired). record (without_merges l) { retired = rs })
    (needed_beside l.retired (numbers_of made.tables ++ made.leavings))

-- a number that was drawn isn't counted
fresh_stays : (l : Layout) (h : History) → without_merges (fresh_ruling l h).layout ≡ without_merges l
fresh_stays l h = of l.halted
  where
    by : (b : Bool) → without_merges (cond b (leaving (fresh.Exhausted counter.Table) h l)
        (record { answer = fresh.Drawn l.next_table; history = h; layout = drawn l; calls = 1; gone = [] })).layout ≡ without_merges l
    by true = refl
    by false = refl

    of : (halted : Option FileName) → without_merges (fresh_unless halted l h).layout ≡ without_merges l
    of (Some file) = refl
    of None = by (has_no_number l.next_table 1)

module _ (s : things.State) where
  abbrev NoNumber : Step → Type 0
  NoNumber x = (n : ℕ) → x.answer ≡ store.Number n → ⊥

  abbrev Same : Layout → Step → Type 0
  Same l x = without_merges x.state.layout ≡ without_merges l

  filled_stays : (l : Layout) (made : Made) (calls : ℕ) (more : Step) (a : FreshAnswer) → NoNumber (filled s l made calls more a)
      → (NoNumber more → Same l more) → Same l (filled s l made calls more a)
  filled_stays l made calls more (fresh.Drawn n) none then = then none
  filled_stays l made calls more (fresh.Halted file) none then = ended_stays made l
  filled_stays l made calls more (fresh.Exhausted c) none then = ended_stays made l

  fill_stays : (output : List (List Entry)) (name : Name) (job : Job) (l : Layout) (numbers : List ℕ) (calls : ℕ)
      → NoNumber (fill s name job l output numbers calls) → Same l (fill s name job l output numbers calls)
  fill_stays [] name job l numbers calls none = absurd (none _ refl)
  fill_stays (es ∷ output) name job l numbers calls none =
      let h = history_in s.commits in
      filled_stays l (made_of job numbers) calls _ (fresh_ruling l h).answer none
      (λ none. fill_stays output name job (fresh_ruling l h).layout (numbers ++ l.next_table ∷ []) (calls + 1) none ∙ fresh_stays l h)

  -- a ruling on which tables are merged
  abbrev Begins : Ruling (Option Job) → Type 0
  Begins r = without_merges r.layout ≡ without_merges s.layout

  plan_begins : Begins (plan_ruling s.layout (history_in s.commits))
  plan_begins = of s.layout.job
    where
      by : (due : Option ℕ) → Begins (plan_of s.layout (history_in s.commits) due)
      by None = refl
      by (Some level) = refl

      of : (open_one : Option OpenJob) → Begins (plan_unless open_one s.layout (history_in s.commits))
      of (Some job) = refl
      of None = by (due_from 0 s.layout.levels)

  drain_begins : (segment : ℕ) → Begins (drain_ruling s.layout (history_in s.commits) segment)
  drain_begins segment = of s.layout.job
    where
      by : (first : Option Table) → Begins (drain_of s.layout (history_in s.commits) first)
      by None = refl
      by (Some t) = refl

      of : (open_one : Option OpenJob) → Begins (drain_unless open_one s.layout (history_in s.commits) segment)
      of (Some job) = refl
      of None = by (first_into segment (tables s.layout))

  planned_stays : (name : Name) (r : Ruling (Option Job)) (o : Option Job) → Begins r
      → NoNumber (planned_by s name r o) → Same s.layout (planned_by s name r o)
  planned_stays name r None begins none = refl
  planned_stays name r (Some job) begins none = fill_stays (outputs job) name job r.layout [] 0 none ∙ begins

  plan_stays : (name : Name) (r : Ruling (Option Job)) (o : Option Thing) → Begins r
      → NoNumber (plan_as s name r o) → Same s.layout (plan_as s name r o)
  plan_stays name r None begins none = planned_stays name r r.answer begins none
  plan_stays name r (Some thing) begins none = refl

  abbrev Ends : Ruling InstallAnswer → Type 0
  Ends r = (install_told r.answer ≡ store.Done → ⊥) → without_merges r.layout ≡ without_merges s.layout

  ended_install : (job : Job) (made : Made) → let r = install_ruling s.layout (history_in s.commits) job made in
      (install_told r.answer ≡ store.Done → ⊥) → without_merges r.layout ≡ without_merges s.layout
  ended_install job made = of s.layout.halted
    where
      by : (b : Bool) → Ends (cond b (leaving (install.Exhausted counter.Version) (history_in s.commits) (job_ended made s.layout))
          (record {
            answer = install.Installed;
            history = history_in s.commits;
            layout = installed job made s.layout;
            calls = 2;
            gone = [];
          }))
      by true undone = ended_stays made s.layout
      by false undone = absurd (undone refl)

      race_by : (o : Option Named) → Ends (install_checked s.layout (history_in s.commits) job made o)
      race_by (Some named) undone = ended_stays made s.layout
      race_by None undone = by (has_no_epoch s.layout) undone

      of : (halted : Option FileName) → Ends (install_unless halted s.layout (history_in s.commits) job made)
      of (Some file) undone = ended_stays made s.layout
      of None undone = race_by (race job (moved_since s.layout.job)) undone

  install_stays : (name : Name) (o : Option Thing) → ((install_by s name o).answer ≡ store.Done → ⊥) → Same s.layout (install_by s name o)
  install_stays name None undone = refl
  install_stays name (Some (ATransaction t b)) undone = refl
  install_stays name (Some (AView v b)) undone = refl
  install_stays name (Some (AJob job made)) undone = ended_install job made undone
  install_stays name (Some (APass pass batch)) undone = refl

-- ---- passes

module _ (s : things.State) where
  picked_stays : (name : Name) (r : Ruling PickAnswer) (a : PickAnswer) → let x = picked_by s name r a in
      ((n : ℕ) → x.answer ≡ store.Number n → ⊥) → x.state.layout ≡ s.layout
  picked_stays name r (pick.Picked pass) none = absurd (none pass.segment refl)
  picked_stays name r pick.InvalidRequest none = refl
  picked_stays name r (pick.Rejected segment) none = refl
  picked_stays name r pick.NoRewrite none = refl

  pub pick_stays : (name : Name) (percent : ℕ) (o : Option Thing) → let x = pick_as s name percent o in
      ((n : ℕ) → x.answer ≡ store.Number n → ⊥) → x.state.layout ≡ s.layout
  pick_stays name percent None none =
      let r = pick_ruling s.layout (history_in s.commits) percent in picked_stays name r r.answer none
  pick_stays name percent (Some thing) none = refl

  moved_stays : (name : Name) (pass : Pass) (r : Ruling MoveAnswer) (a : MoveAnswer) → let x = moved_by s name pass r a in
      ((n : ℕ) → x.answer ≡ store.Moved n → ⊥) → x.state.layout ≡ s.layout
  moved_stays name pass r (relocate.Moves n) none = absurd (none n refl)
  moved_stays name pass r (relocate.Halted file) none = refl
  moved_stays name pass r (relocate.Exhausted c) none = refl
  moved_stays name pass r (relocate.Full long frame) none = refl

  pub move_stays : (name : Name) (o : Option Thing) → let x = move_by s name o in
      ((n : ℕ) → x.answer ≡ store.Moved n → ⊥) → x.state.layout ≡ s.layout
  move_stays name None none = refl
  move_stays name (Some (ATransaction t b)) none = refl
  move_stays name (Some (AView v b)) none = refl
  move_stays name (Some (AJob job made)) none = refl
  move_stays name (Some (APass pass None)) none = refl
  move_stays name (Some (APass pass (Some batch))) none =
      let r = relocate_ruling s.layout (history_in s.commits) pass batch in moved_stays name pass r r.answer none

pub layout_stays : (s : State) (line : Line) → IsSound s → ((n : ℕ) → answer_to s line ≡ store.Number n → ⊥)
    → (answer_to s line ≡ store.Done → ⊥) → ((n : ℕ) → answer_to s line ≡ store.Moved n → ⊥)
    → ((n : ℕ) → answer_to s line ≡ store.Removed n → ⊥)
    → without_merges (state_after s line).store.layout ≡ without_merges s.store.layout
layout_stays s line sound none undone unmoved unremoved = elim (keeps_or s line sound) [
  | inl keeps ↦ ap without_merges keeps.layout
  | inr (inl (t, b, name, is, thing, adds)) ↦ absurd (none _ adds.answer)
  | inr (inr steps) ↦ of_step line steps none undone unmoved unremoved
]
  where
    l : Layout
    l = s.store.layout

    Still : Line → Type 0
    Still other = ((n : ℕ) → answer_to s other ≡ store.Number n → ⊥) → (answer_to s other ≡ store.Done → ⊥)
        → ((n : ℕ) → answer_to s other ≡ store.Moved n → ⊥) → ((n : ℕ) → answer_to s other ≡ store.Removed n → ⊥)
        → without_merges (state_after s other).store.layout ≡ without_merges s.store.layout

    of_step : (other : Line) → Stepping s other → Still other
    of_step (Begin name) steps = absurd steps.is
    of_step (View name) steps = absurd steps.is
    of_step (Get name key) steps = absurd steps.is
    of_step (GetTagged name key) steps = absurd steps.is
    of_step (GetAt name key number) steps = absurd steps.is
    of_step (Scan name low high limit way) steps = absurd steps.is
    of_step (Set name key value) steps = absurd steps.is
    of_step (SetTagged name key value tag) steps = absurd steps.is
    of_step (Delete name key) steps = absurd steps.is
    of_step (Commit name) steps = absurd steps.is
    of_step (Drop name) steps = λ none undone unmoved unremoved. absurd (undone (steps.ended name refl))
    of_step Rotate steps = λ none undone unmoved unremoved. ap without_merges ((rotate_stays l (history_of s) l.halted).stays none)
    of_step Flush steps = λ none undone unmoved unremoved. ap without_merges ((flush_stays l (history_of s) l.halted).stays none)
    of_step (Keep versions) steps = λ none undone unmoved unremoved. ap without_merges
        ((keep_stays l (history_of s) versions l.halted).stays undone)
    of_step (Plan name) steps = λ none undone unmoved unremoved. plan_stays s.store name (plan_ruling l (history_of s))
        (thing_of s.store name) (plan_begins s.store) (λ n is. none _ (ap counted is))
    of_step (Drain name segment) steps = λ none undone unmoved unremoved. plan_stays s.store name (drain_ruling l (history_of s) segment)
        (thing_of s.store name) (drain_begins s.store segment) (λ n is. none _ (ap counted is))
    of_step (Install name) steps = λ none undone unmoved unremoved. install_stays s.store name (thing_of s.store name) undone
    of_step Sweep steps = λ none undone unmoved unremoved. ap without_merges (sweep_stays l (history_of s) unremoved)
    of_step Stats steps = absurd steps.is
    of_step (Pick name percent) steps = λ none undone unmoved unremoved. ap without_merges
        (pick_stays s.store name percent (thing_of s.store name) none)
    of_step (Batch name) steps = absurd steps.is
    of_step (Move name) steps = λ none undone unmoved unremoved. ap without_merges (move_stays s.store name (thing_of s.store name) unmoved)
