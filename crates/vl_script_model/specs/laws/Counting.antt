-- A line that is told neither a number nor `ok`, nor that records were moved or files removed, makes no call; but a merge that is
-- given up does, one for each number that it was given, and a file by each.
use Rattle.std.proofs.Common.{◌≡◌, inl, inr, ℕ, ◌+◌, Bool, true, false, cond, List, [], ◌∷◌, ◌++◌, refl, ap, ◌∙◌, arith}
use Rattle.std.specs.Prelude.{Option, None, Some}
use Rattle.vl_engine_model.specs.Jobs.{Made, job_ended}
use Rattle.vl_engine_model.specs.Levels.{due_from, first_into}
use Rattle.vl_engine_model.specs.Merging.{outputs}
use Rattle.vl_engine_model.specs.Ruling.{Exhausted, Halted, Idle, Ruling, StepAnswer, Stepped, has_no_epoch, has_no_number, leaving}
use Rattle.vl_engine_model.specs.Rulings.Drain.{drain_of, drain_ruling, drain_unless}
use Rattle.vl_engine_model.specs.Rulings.Fresh as fresh
use Rattle.vl_engine_model.specs.Rulings.Fresh.{FreshAnswer, drawn, fresh_ruling, fresh_unless}
use Rattle.vl_engine_model.specs.Rulings.Install as install
use Rattle.vl_engine_model.specs.Rulings.Install.{InstallAnswer, install_checked, install_ruling, install_unless, installed, moved_since, race}
use Rattle.vl_engine_model.specs.Rulings.Pick as pick
use Rattle.vl_engine_model.specs.Rulings.Pick.{PickAnswer, pick_ruling}
use Rattle.vl_engine_model.specs.Rulings.Plan.{plan_of, plan_ruling, plan_unless}
use Rattle.vl_engine_model.specs.Rulings.Relocate as relocate
use Rattle.vl_engine_model.specs.Rulings.Relocate.{MoveAnswer, relocate_ruling}
use Rattle.vl_engine_model.specs.Rulings.Flush.{flush_ruling}
use Rattle.vl_engine_model.specs.Rulings.Rotate.{rotate_ruling}
use Rattle.vl_engine_model.specs.Rulings.Sweep.{sweep_ruling, sweep_unless}
use Rattle.vl_engine_model.specs.Relocation.{Pass}
use Rattle.vl_engine_model.specs.Sources.{tables}
use Rattle.vl_engine_model.specs.Store.Commits.{history_in}
use Rattle.vl_engine_model.specs.Store.Dispatch.{fill, filled, install_by, install_told, made_of, move_by, moved_by, pick_as, picked_by}
use Rattle.vl_engine_model.specs.Store.Dispatch.{plan_as, planned_by, step_told, sweep_told}
use Rattle.vl_engine_model.specs.Store.Lines as store
use Rattle.vl_engine_model.specs.Store.Lines.{Name}
use Rattle.vl_engine_model.specs.Store.Things as things
use Rattle.vl_engine_model.specs.Store.Things.{AJob, APass, ATransaction, AView, Step, Thing, thing_of}
use Rattle.vl_engine_model.specs.declared.file_name.FileName.{FileName}
use Rattle.vl_engine_model.specs.declared.job.Job.{Job}
use Rattle.vl_engine_model.specs.declared.job.OpenJob.{OpenJob}
use Rattle.vl_engine_model.specs.declared.layout.Layout.{Layout}
use Rattle.vl_engine_model.specs.declared.table.Table.{Table}
use Rattle.vl_model.specs.Conflicts.{Named}
use Rattle.vl_model.specs.History.{History}
use Rattle.vl_model.specs.declared.counter.Counter.TheVariants as counter
use Rattle.vl_model.specs.declared.entry.Entry.{Entry}
use Rattle.vl_script.specs.declared.line.Line.{Line}
use Rattle.vl_script.specs.declared.line.Line.TheVariants.{Begin, View, Get, Set, SetTagged, GetTagged, GetAt, Scan}
use Rattle.vl_script.specs.declared.line.Line.TheVariants.{Delete, Commit, Drop, Rotate, Flush, Keep, Plan, Drain, Install}
use Rattle.vl_script.specs.declared.line.Line.TheVariants.{Sweep, Stats, Pick, Batch, Move}
use Rattle.vl_script_model.specs.Sequential.{State, answer_to, files_behind, history_of, state_after, step_to}
use Rattle.vl_script_model.specs.laws.Growing.{Keeps}
use Rattle.vl_script_model.specs.laws.Laws.{IsSound, Stepping, keeps_or}
use Rattle.vl_script_model.specs.laws.Staying.{flush_stays, keep_stays, move_stays, pick_stays, rotate_stays, sweep_stays}

-- a line's calls are numbers that were given to merges, each of which made a file
pub record Counts (s : State) (line : Line) : Type 0 where
  pub numbers : (state_after s line).store.layout.next_table ≡ s.store.layout.next_table + (step_to s line).calls
  pub files : (state_after s line).files ≡ s.files + (step_to s line).calls

-- ---- merges

module _ (s : things.State) where
  abbrev Gives : Layout → (calls : ℕ) → Step → Type 0
  Gives l calls x = x.state.layout.next_table + calls ≡ l.next_table + x.calls

  -- the next number is drawn, or none is
  next_drawn : (l : Layout) (h : History) (made : Made) (calls : ℕ) (more : Step)
      → Gives (fresh_ruling l h).layout (calls + 1) more → Gives l calls (filled s l made calls more (fresh_ruling l h).answer)
  next_drawn l h made calls more = of l.halted
    where
      Next : Ruling FreshAnswer → Type 0
      Next r = Gives r.layout (calls + 1) more → Gives l calls (filled s l made calls more r.answer)

      by : (b : Bool) → Next (cond b (leaving (fresh.Exhausted counter.Table) h l)
          (record { answer = fresh.Drawn l.next_table; history = h; layout = drawn l; calls = 1; gone = [] }))
      by true then = refl
      by false then = omega (arith, then)

      of : (halted : Option FileName) → Next (fresh_unless halted l h)
      of (Some file) then = refl
      of None then = by (has_no_number l.next_table 1) then

  fill_gives : (output : List (List Entry)) (name : Name) (job : Job) (l : Layout) (numbers : List ℕ) (calls : ℕ)
      → Gives l calls (fill s name job l output numbers calls)
  fill_gives [] name job l numbers calls = refl
  fill_gives (es ∷ output) name job l numbers calls =
      let h = history_in s.commits in
      next_drawn l h (made_of job numbers) calls
      (fill s name job (fresh_ruling l h).layout output (numbers ++ l.next_table ∷ []) (calls + 1))
      (fill_gives output name job (fresh_ruling l h).layout (numbers ++ l.next_table ∷ []) (calls + 1))

  -- a ruling on which tables are merged gives no number
  abbrev GivesNone : Ruling (Option Job) → Type 0
  GivesNone r = r.layout.next_table ≡ s.layout.next_table

  plan_gives : GivesNone (plan_ruling s.layout (history_in s.commits))
  plan_gives = of s.layout.job
    where
      by : (due : Option ℕ) → GivesNone (plan_of s.layout (history_in s.commits) due)
      by None = refl
      by (Some level) = refl

      of : (open_one : Option OpenJob) → GivesNone (plan_unless open_one s.layout (history_in s.commits))
      of (Some job) = refl
      of None = by (due_from 0 s.layout.levels)

  drain_gives : (segment : ℕ) → GivesNone (drain_ruling s.layout (history_in s.commits) segment)
  drain_gives segment = of s.layout.job
    where
      by : (first : Option Table) → GivesNone (drain_of s.layout (history_in s.commits) first)
      by None = refl
      by (Some t) = refl

      of : (open_one : Option OpenJob) → GivesNone (drain_unless open_one s.layout (history_in s.commits) segment)
      of (Some job) = refl
      of None = by (first_into segment (tables s.layout))

  -- what a line does that plans a merge
  abbrev Counted : Step → Type 0
  Counted x = x.state.layout.next_table ≡ s.layout.next_table + x.calls

  planned_counts : (name : Name) (r : Ruling (Option Job)) (o : Option Job) → GivesNone r → Counted (planned_by s name r o)
  planned_counts name r None none = omega arith
  planned_counts name r (Some job) none = let gives = fill_gives (outputs job) name job r.layout [] 0 in omega (arith, gives, none)

  plan_counts : (name : Name) (r : Ruling (Option Job)) (o : Option Thing) → GivesNone r → Counted (plan_as s name r o)
  plan_counts name r None none = planned_counts name r r.answer none
  plan_counts name r (Some thing) none = omega arith

  -- an install that isn't done gives no number, and makes no call
  abbrev EndsAlone : Ruling InstallAnswer → Type 0
  EndsAlone r = (install_told r.answer ≡ store.Done → ⊥) → (r.layout.next_table ≡ s.layout.next_table) × (r.calls ≡ 0)

  ended_alone : (job : Job) (made : Made) → EndsAlone (install_ruling s.layout (history_in s.commits) job made)
  ended_alone job made = of s.layout.halted
    where
      by : (b : Bool) → EndsAlone (cond b
          (leaving (install.Exhausted counter.Version) (history_in s.commits) (job_ended made s.layout)) (record {
            answer = install.Installed;
            history = history_in s.commits;
            layout = installed job made s.layout;
            calls = 2;
            gone = [];
          }))
      by true undone = (refl, refl)
      by false undone = absurd (undone refl)

      race_by : (o : Option Named) → EndsAlone (install_checked s.layout (history_in s.commits) job made o)
      race_by (Some named) undone = (refl, refl)
      race_by None undone = by (has_no_epoch s.layout) undone

      of : (halted : Option FileName) → EndsAlone (install_unless halted s.layout (history_in s.commits) job made)
      of (Some file) undone = (refl, refl)
      of None undone = race_by (race job (moved_since s.layout.job)) undone

  abbrev Alone : Step → Type 0
  Alone x = (x.state.layout.next_table ≡ s.layout.next_table) × (x.calls ≡ 0)

  install_alone : (name : Name) (o : Option Thing) → ((install_by s name o).answer ≡ store.Done → ⊥) → Alone (install_by s name o)
  install_alone name None undone = (refl, refl)
  install_alone name (Some (ATransaction t b)) undone = (refl, refl)
  install_alone name (Some (AView v b)) undone = (refl, refl)
  install_alone name (Some (AJob job made)) undone = ended_alone job made undone
  install_alone name (Some (APass pass batch)) undone = (refl, refl)

  -- ---- passes

  picked_alone : (name : Name) (r : Ruling PickAnswer) (a : PickAnswer) → let x = picked_by s name r a in
      ((n : ℕ) → x.answer ≡ store.Number n → ⊥) → x.calls ≡ 0
  picked_alone name r (pick.Picked pass) none = absurd (none pass.segment refl)
  picked_alone name r pick.InvalidRequest none = refl
  picked_alone name r (pick.Rejected segment) none = refl
  picked_alone name r pick.NoRewrite none = refl

  pick_alone : (name : Name) (percent : ℕ) (o : Option Thing) → let x = pick_as s name percent o in
      ((n : ℕ) → x.answer ≡ store.Number n → ⊥) → x.calls ≡ 0
  pick_alone name percent None none = let r = pick_ruling s.layout (history_in s.commits) percent in picked_alone name r r.answer none
  pick_alone name percent (Some thing) none = refl

  moved_alone : (name : Name) (pass : Pass) (r : Ruling MoveAnswer) (a : MoveAnswer) → let x = moved_by s name pass r a in
      ((n : ℕ) → x.answer ≡ store.Moved n → ⊥) → x.calls ≡ 0
  moved_alone name pass r (relocate.Moves n) none = absurd (none n refl)
  moved_alone name pass r (relocate.Halted file) none = refl
  moved_alone name pass r (relocate.Exhausted c) none = refl
  moved_alone name pass r (relocate.Full long frame) none = refl

  move_alone : (name : Name) (o : Option Thing) → let x = move_by s name o in
      ((n : ℕ) → x.answer ≡ store.Moved n → ⊥) → x.calls ≡ 0
  move_alone name None none = refl
  move_alone name (Some (ATransaction t b)) none = refl
  move_alone name (Some (AView v b)) none = refl
  move_alone name (Some (AJob job made)) none = refl
  move_alone name (Some (APass pass None)) none = refl
  move_alone name (Some (APass pass (Some batch))) none =
      let r = relocate_ruling s.layout (history_in s.commits) pass batch in moved_alone name pass r r.answer none

-- ---- steps on files

-- one that is told no number makes no file
no_file : (a : StepAnswer) → ((n : ℕ) → step_told a ≡ store.Number n → ⊥) → (files : ℕ) → files_behind (step_told a) files ≡ files
no_file (Stepped n) none files = absurd (none n refl)
no_file Idle none files = refl
no_file (Halted file) none files = refl
no_file (Exhausted c) none files = refl

-- a sweep that isn't told how many files it removed makes no call
sweep_alone : (l : Layout) (h : History) → ((n : ℕ) → sweep_told (sweep_ruling l h).answer ≡ store.Removed n → ⊥)
    → (sweep_ruling l h).calls ≡ 0
sweep_alone l h = of l.halted
  where
    of : (halted : Option FileName) → ((n : ℕ) → sweep_told (sweep_unless halted None l h).answer ≡ store.Removed n → ⊥)
        → (sweep_unless halted None l h).calls ≡ 0
    of (Some file) none = refl
    of None none = absurd (none _ refl)

-- ---- lines

module _ (s : State) (line : Line) where
  -- a line that makes no call and no file, and leaves the next number
  alone_counts : (state_after s line).store.layout.next_table ≡ s.store.layout.next_table → (step_to s line).calls ≡ 0
      → (state_after s line).files ≡ s.files → Counts s line
  alone_counts numbers calls files = record { numbers = omega (arith, numbers, calls); files = omega (arith, files, calls) }

  -- one that keeps the layout but for what lives
  keeps_counts : Keeps s.store (step_to s line) → (state_after s line).files ≡ s.files → Counts s line
  keeps_counts keeps files = alone_counts (ap (λ (l : Layout). l.next_table) keeps.layout) keeps.calls files

-- whatever it is, where it makes no call it makes no file but by a step on files
makes_no_file : (s : State) (line : Line) → ((n : ℕ) → answer_to s line ≡ store.Number n → ⊥) → (step_to s line).calls ≡ 0
    → (state_after s line).files ≡ s.files
makes_no_file s (Begin name) none calls = refl
makes_no_file s (View name) none calls = refl
makes_no_file s (Get name key) none calls = refl
makes_no_file s (GetTagged name key) none calls = refl
makes_no_file s (GetAt name key number) none calls = refl
makes_no_file s (Scan name low high limit way) none calls = refl
makes_no_file s (Set name key value) none calls = refl
makes_no_file s (SetTagged name key value tag) none calls = refl
makes_no_file s (Delete name key) none calls = refl
makes_no_file s (Commit name) none calls = refl
makes_no_file s (Drop name) none calls = refl
makes_no_file s Rotate none calls = no_file (rotate_ruling s.store.layout (history_of s)).answer none s.files
makes_no_file s Flush none calls = no_file (flush_ruling s.store.layout (history_of s)).answer none s.files
makes_no_file s (Keep versions) none calls = refl
makes_no_file s (Plan name) none calls = omega (arith, calls)
makes_no_file s (Drain name segment) none calls = omega (arith, calls)
makes_no_file s (Install name) none calls = refl
makes_no_file s Sweep none calls = refl
makes_no_file s Stats none calls = refl
makes_no_file s (Pick name percent) none calls = refl
makes_no_file s (Batch name) none calls = refl
makes_no_file s (Move name) none calls = refl

pub line_counts : (s : State) (line : Line) → IsSound s → ((n : ℕ) → answer_to s line ≡ store.Number n → ⊥)
    → (answer_to s line ≡ store.Done → ⊥) → ((n : ℕ) → answer_to s line ≡ store.Moved n → ⊥)
    → ((n : ℕ) → answer_to s line ≡ store.Removed n → ⊥) → Counts s line
line_counts s line sound none undone unmoved unremoved = elim (keeps_or s line sound) [
  | inl keeps ↦ keeps_counts s line keeps (makes_no_file s line none keeps.calls)
  | inr (inl (t, b, name, is, thing, adds)) ↦ absurd (none _ adds.answer)
  | inr (inr steps) ↦ of_step line steps none undone unmoved unremoved
]
  where
    l : Layout
    l = s.store.layout

    h : History
    h = history_of s

    Still : Line → Type 0
    Still other = ((n : ℕ) → answer_to s other ≡ store.Number n → ⊥) → (answer_to s other ≡ store.Done → ⊥)
        → ((n : ℕ) → answer_to s other ≡ store.Moved n → ⊥) → ((n : ℕ) → answer_to s other ≡ store.Removed n → ⊥)
        → Counts s other

    same : (m : Layout) → m ≡ l → m.next_table ≡ l.next_table
    same m is = ap (λ (x : Layout). x.next_table) is

    of_step : (other : Line) → Stepping s other → Still other
    of_step (Begin name) steps = absurd steps.is
    of_step (View name) steps = absurd steps.is
    of_step (Get name key) steps = absurd steps.is
    of_step (GetTagged name key) steps = absurd steps.is
    of_step (GetAt name key number) steps = absurd steps.is
    of_step (Scan name low high limit way) steps = absurd steps.is
    of_step (Set name key value) steps = absurd steps.is
    of_step (SetTagged name key value tag) steps = absurd steps.is
    of_step (Delete name key) steps = absurd steps.is
    of_step (Commit name) steps = absurd steps.is
    of_step (Drop name) steps = λ none undone unmoved unremoved. absurd (undone (steps.ended name refl))
    of_step Rotate steps = λ none undone unmoved unremoved. (
        let stays = rotate_stays l h l.halted in
        alone_counts s Rotate (same _ (stays.stays none)) (stays.calls none) (makes_no_file s Rotate none (stays.calls none))
        )
    of_step Flush steps = λ none undone unmoved unremoved. (
        let stays = flush_stays l h l.halted in
        alone_counts s Flush (same _ (stays.stays none)) (stays.calls none) (makes_no_file s Flush none (stays.calls none))
        )
    of_step (Keep versions) steps = λ none undone unmoved unremoved. (
        let stays = keep_stays l h versions l.halted in
        alone_counts s (Keep versions) (same _ (stays.stays undone)) (stays.calls undone) refl
        )
    of_step (Plan name) steps = λ none undone unmoved unremoved. record {
      numbers = plan_counts s.store name (plan_ruling l h) (thing_of s.store name) (plan_gives s.store);
      files = refl;
    }
    of_step (Drain name segment) steps = λ none undone unmoved unremoved. record {
      numbers = plan_counts s.store name (drain_ruling l h segment) (thing_of s.store name) (drain_gives s.store segment);
      files = refl;
    }
    of_step (Install name) steps = λ none undone unmoved unremoved. (
        let alone = install_alone s.store name (thing_of s.store name) undone in
        alone_counts s (Install name) alone.0 alone.1 refl
        )
    of_step Sweep steps = λ none undone unmoved unremoved.
        alone_counts s Sweep (same _ (sweep_stays l h unremoved)) (sweep_alone l h unremoved) refl
    of_step Stats steps = absurd steps.is
    of_step (Pick name percent) steps = λ none undone unmoved unremoved.
        alone_counts s (Pick name percent) (same _ (pick_stays s.store name percent (thing_of s.store name) none))
        (pick_alone s.store name percent (thing_of s.store name) none) refl
    of_step (Batch name) steps = absurd steps.is
    of_step (Move name) steps = λ none undone unmoved unremoved.
        alone_counts s (Move name) (same _ (move_stays s.store name (thing_of s.store name) unmoved))
        (move_alone s.store name (thing_of s.store name) unmoved) refl
