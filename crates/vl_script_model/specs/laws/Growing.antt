-- What a line leaves of the commits and of the layout: it keeps them, but for what lives, or a commit adds one.
use Rattle.std.proofs.Common.{◌≡◌, ◌⊎◌, inl, inr, ℕ, ◌+◌, ◌==◌, Bool, true, false, ◌&&◌, not, List, [], ◌∷◌, ◌++◌, map, length, refl}
use Rattle.std.proofs.Common.{ap, sym, ◌∙◌}
use Rattle.std.specs.Prelude.{Option, Some, None, nat_le, if◌then◌else◌}
use Rattle.std.specs.FinMap.{find, from_sorted, put}
use Rattle.vl_model.specs.Conflicts.{Named}
use Rattle.vl_model.specs.Formats.{log_format}
use Rattle.vl_model.specs.Frames.{frame_length}
use Rattle.vl_model.specs.History.{History, last_number, with_commit}
use Rattle.vl_model.specs.Keys.{Stored, Writes, key_cmp, is_key_length, is_value_length, value_bytes}
use Rattle.vl_model.specs.Limits.{max_commit_number, max_key_bytes, max_live}
use Rattle.vl_model.specs.declared.change.Change.{Change}
use Rattle.vl_model.specs.declared.counter.Counter.TheVariants.{Commit as CommitNumber}
use Rattle.vl_model.specs.declared.way.Way.{Way}
use Rattle.vl_engine_model.specs.AtAnswer.{Beginning, beginning_of}
use Rattle.vl_engine_model.specs.Jobs.{Made}
use Rattle.vl_engine_model.specs.Merging.{outputs}
use Rattle.vl_engine_model.specs.Relocation.{Candidate, Pass, next_batch}
use Rattle.vl_engine_model.specs.Ruling.{Ruling, ended, leaving, logged}
use Rattle.vl_engine_model.specs.Rulings.Begin as begin
use Rattle.vl_engine_model.specs.Rulings.Begin.{BeginAnswer, begin_ruling, begun}
use Rattle.vl_engine_model.specs.Rulings.Commit as commit
use Rattle.vl_engine_model.specs.Rulings.Commit.{CommitAnswer, Transaction, commit_checked, commit_ended, commit_frame}
use Rattle.vl_engine_model.specs.Rulings.Commit.{commit_running, commit_unless, committed}
use Rattle.vl_engine_model.specs.Rulings.Fresh as fresh
use Rattle.vl_engine_model.specs.Rulings.Fresh.{FreshAnswer, fresh_ruling}
use Rattle.vl_engine_model.specs.Rulings.Pick as pick
use Rattle.vl_engine_model.specs.Rulings.Pick.{PickAnswer, pick_ruling}
use Rattle.vl_engine_model.specs.Rulings.Relocate as relocate
use Rattle.vl_engine_model.specs.Rulings.Relocate.{MoveAnswer, relocate_ruling}
use Rattle.vl_engine_model.specs.Store.Commits.{Changes, Commits, conflict_in, history_in, with_changes}
use Rattle.vl_engine_model.specs.Store.Dispatch.{batch_by, drop_by, fill, filled, found_by, install_by, made_of, move_by}
use Rattle.vl_engine_model.specs.Store.Dispatch.{moved_by, pick_as, picked_by, plan_as, planned_by}
use Rattle.vl_engine_model.specs.Store.Lines.{Answer, Done, Name, Number}
use Rattle.vl_engine_model.specs.Store.Reading.{begin_as, begun_by, commit_by, committed_by, get_at_by, get_by, get_own}
use Rattle.vl_engine_model.specs.Store.Reading.{is_small_enough, scan_by, write_by}
use Rattle.vl_engine_model.specs.Store.Things.{Thing, ATransaction, AView, AJob, APass, State, Step, only}
use Rattle.vl_engine_model.specs.Tickets.{free_ticket, tickets_of}
use Rattle.vl_engine_model.specs.declared.file_name.FileName.{FileName}
use Rattle.vl_engine_model.specs.declared.job.Job.{Job}
use Rattle.vl_script_model.specs.Readers.{IsReader}
use Rattle.vl_engine_model.specs.declared.layout.Layout.{Layout}
use Rattle.vl_model.specs.declared.entry.Entry.{Entry}

-- one more commit
map-more : (cs : List Changes) (c : Changes) → map from_sorted (cs ++ c ∷ []) ≡ map from_sorted cs ++ from_sorted {R = key_cmp} c ∷ []
map-more [] c = refl
map-more (d ∷ cs) c = ap (λ (xs : List Writes). from_sorted d ∷ xs) (map-more cs c)

pub history_more : (p : Commits) (c : Changes) → history_in (with_changes p c) ≡ with_commit (history_in p) (from_sorted c)
history_more p c = ap (λ (cs : List Writes). record (history_in p) { commits = cs }) (map-more p.commits c)

module _ (s : State) where
  abbrev h : History
  h = history_in s.commits

  abbrev l : Layout
  l = s.layout

  -- the commits stay, and the layout but for what lives
  pub record Keeps (x : Step) : Type 0 where
    pub commits : x.state.commits ≡ s.commits
    pub layout : x.state.layout ≡ record s.layout { live = x.state.layout.live }
    pub calls : x.calls ≡ 0

  -- this transaction became the next commit
  pub record Adds (x : Step) (t : Transaction) : Type 0 where
    pub answer : x.answer ≡ Number (last_number (history_in s.commits) + 1)
    pub commits : x.state.commits ≡ with_changes s.commits t.writes
    pub layout : x.state.layout ≡ logged (commit_frame (history_in s.commits) t.writes) (ended t.ticket s.layout)
    pub calls : x.calls ≡ 2
    -- nothing that it read was overwritten
    pub none : conflict_in s.commits t.number t.reads ≡ None
    -- and it wrote something
    pub some : t.writes ≡ [] → ⊥

  kept_alike : (x : Step) → x.state.commits ≡ s.commits
      → x.state.layout ≡ record s.layout { live = x.state.layout.live } → x.calls ≡ 0 → Keeps x
  kept_alike x commits layout calls = record { commits = commits; layout = layout; calls = calls }

  either : (b : Bool) (x y : Step) → Keeps x → Keeps y → Keeps (if b then x else y)
  either true x y p q = p
  either false x y p q = q

  -- ---- begins

  begun_keeps : (name : Name) (thing : ℕ → ℕ → Thing) (b : Bool) (ticket : ℕ)
      → let r : Ruling BeginAnswer = if b then leaving begin.TooMany h l else leaving
      (begin.Begun ticket (last_number h)) h (begun l ticket (last_number h)) in Keeps (begun_by s name thing r r.answer)
  begun_keeps name thing true ticket = kept_alike _ refl refl refl
  begun_keeps name thing false ticket = kept_alike _ refl refl refl

  pub begin_keeps : (name : Name) (thing : Beginning → ℕ → ℕ → Thing) (o : Option Thing) → Keeps (begin_as s name thing o)
  begin_keeps name thing (Some other) = kept_alike _ refl refl refl
  begin_keeps name thing None =
      begun_keeps name (thing (beginning_of (begin_ruling l h).layout h)) (nat_le max_live (length l.live))
      (free_ticket (tickets_of l.live))

  -- ---- reads and writes

  own_keeps : (name : Name) (tell : Option Stored → Answer) (t : Transaction) (b : Beginning) (key : List ℕ)
      (o : Option Change) → Keeps (get_own s name tell t b key o)
  own_keeps name tell t b key (Some change) = kept_alike _ refl refl refl
  own_keeps name tell t b key None = kept_alike _ refl refl refl

  pub get_keeps : (name : Name) (tell : Option Stored → Answer) (key : List ℕ) (o : Option Thing) → Keeps (get_by s name tell key o)
  get_keeps name tell key None = kept_alike _ refl refl refl
  get_keeps name tell key (Some (AJob job made)) = kept_alike _ refl refl refl
  get_keeps name tell key (Some (APass pass batch)) = kept_alike _ refl refl refl
  get_keeps name tell key (Some (AView v b)) = either (is_key_length (length key)) _ _ (kept_alike _ refl refl refl)
      (kept_alike _ refl refl refl)
  get_keeps name tell key (Some (ATransaction t b)) =
      either (is_key_length (length key)) _ _ (own_keeps name tell t b key (find key_cmp key t.writes)) (kept_alike _ refl refl refl)

  pub get_at_keeps : (name : Name) (key : List ℕ) (number : ℕ) (o : Option Thing) → Keeps (get_at_by s name key number o)
  get_at_keeps name key number None = kept_alike _ refl refl refl
  get_at_keeps name key number (Some (AJob job made)) = kept_alike _ refl refl refl
  get_at_keeps name key number (Some (APass pass batch)) = kept_alike _ refl refl refl
  get_at_keeps name key number (Some (AView v b)) = kept_alike _ refl refl refl
  get_at_keeps name key number (Some (ATransaction t b)) = kept_alike _ refl refl refl

  pub scan_keeps : (way : Way) (name : Name) (low high : List ℕ) (limit : ℕ) (o : Option Thing)
      → Keeps (scan_by s way name low high limit o)
  scan_keeps way name low high limit None = kept_alike _ refl refl refl
  scan_keeps way name low high limit (Some (AJob job made)) = kept_alike _ refl refl refl
  scan_keeps way name low high limit (Some (APass pass batch)) = kept_alike _ refl refl refl
  scan_keeps way name low high limit (Some (AView v b)) =
      either (nat_le (length low) max_key_bytes && nat_le (length high) max_key_bytes) _ _ (kept_alike _ refl refl refl)
      (kept_alike _ refl refl refl)
  scan_keeps way name low high limit (Some (ATransaction t b)) =
      either (nat_le (length low) max_key_bytes && nat_le (length high) max_key_bytes) _ _ (kept_alike _ refl refl refl)
      (kept_alike _ refl refl refl)

  pub write_keeps : (name : Name) (key : List ℕ) (change : Change) (o : Option Thing) → Keeps (write_by s name key change o)
  write_keeps name key change None = kept_alike _ refl refl refl
  write_keeps name key change (Some (AJob job made)) = kept_alike _ refl refl refl
  write_keeps name key change (Some (APass pass batch)) = kept_alike _ refl refl refl
  write_keeps name key change (Some (AView v b)) = kept_alike _ refl refl refl
  write_keeps name key change (Some (ATransaction t b)) =
      either (not (is_key_length (length key) && is_value_length log_format (length (value_bytes change)))) _ _
      (kept_alike _ refl refl refl)
      (either (is_small_enough (put key_cmp key change t.writes)) _ _ (kept_alike _ refl refl refl) (kept_alike _ refl refl refl))

  -- ---- ends

  -- of what reads; the end of a merge or a pass is told by `ok`
  pub drop_or : (name : Name) (o : Option Thing)
      → Keeps (drop_by s name o) ⊎ (((drop_by s name o).state.commits ≡ s.commits) × ((drop_by s name o).answer ≡ Done))
  drop_or name None = inl (kept_alike _ refl refl refl)
  drop_or name (Some (ATransaction t b)) = inl (kept_alike _ refl refl refl)
  drop_or name (Some (AView v b)) = inl (kept_alike _ refl refl refl)
  drop_or name (Some (AJob job made)) = inr (refl, refl)
  drop_or name (Some (APass pass batch)) = inr (refl, refl)

  -- where the name stands for a reader, or for nothing
  pub drop_keeps : (name : Name) (o : Option Thing) → ((x : Thing) → o ≡ Some x → IsReader x) → Keeps (drop_by s name o)
  drop_keeps name None only = kept_alike _ refl refl refl
  drop_keeps name (Some (ATransaction t b)) only = kept_alike _ refl refl refl
  drop_keeps name (Some (AView v b)) only = kept_alike _ refl refl refl
  drop_keeps name (Some (AJob job made)) only = absurd (only (AJob job made) refl)
  drop_keeps name (Some (APass pass batch)) only = absurd (only (APass pass batch) refl)

  -- ---- passes

  found_keeps : (name : Name) (next : Option (List Candidate) × Pass) (o : Option (List Candidate)) → Keeps (found_by s name next o)
  found_keeps name next None = kept_alike _ refl refl refl
  found_keeps name next (Some batch) = kept_alike _ refl refl refl

  pub batch_keeps : (name : Name) (o : Option Thing) → Keeps (batch_by s name o)
  batch_keeps name None = kept_alike _ refl refl refl
  batch_keeps name (Some (ATransaction t b)) = kept_alike _ refl refl refl
  batch_keeps name (Some (AView v b)) = kept_alike _ refl refl refl
  batch_keeps name (Some (AJob job made)) = kept_alike _ refl refl refl
  batch_keeps name (Some (APass pass (Some batch))) = kept_alike _ refl refl refl
  batch_keeps name (Some (APass pass None)) = found_keeps name (next_batch pass) (next_batch pass).0

  -- what is told of logs changes nothing
  pub stats_keeps : (answer : Answer) → Keeps (only answer s)
  stats_keeps answer = kept_alike _ refl refl refl

  picked_commits : (name : Name) (r : Ruling PickAnswer) (a : PickAnswer) → (picked_by s name r a).state.commits ≡ s.commits
  picked_commits name r (pick.Picked pass) = refl
  picked_commits name r pick.InvalidRequest = refl
  picked_commits name r (pick.Rejected segment) = refl
  picked_commits name r pick.NoRewrite = refl

  pub pick_commits : (name : Name) (percent : ℕ) (o : Option Thing) → (pick_as s name percent o).state.commits ≡ s.commits
  pick_commits name percent (Some other) = refl
  pick_commits name percent None = picked_commits name (pick_ruling l h percent) (pick_ruling l h percent).answer

  moved_commits : (name : Name) (pass : Pass) (r : Ruling MoveAnswer) (a : MoveAnswer)
      → (moved_by s name pass r a).state.commits ≡ s.commits
  moved_commits name pass r (relocate.Moves n) = refl
  moved_commits name pass r (relocate.Halted file) = refl
  moved_commits name pass r (relocate.Exhausted c) = refl
  moved_commits name pass r (relocate.Full long frame) = refl

  pub move_commits : (name : Name) (o : Option Thing) → (move_by s name o).state.commits ≡ s.commits
  move_commits name None = refl
  move_commits name (Some (ATransaction t b)) = refl
  move_commits name (Some (AView v b)) = refl
  move_commits name (Some (AJob job made)) = refl
  move_commits name (Some (APass pass None)) = refl
  move_commits name (Some (APass pass (Some batch))) =
      moved_commits name pass (relocate_ruling l h pass batch) (relocate_ruling l h pass batch).answer

  -- ---- merges

  filled_commits : (l' : Layout) (made : Made) (calls : ℕ) (more : Step) (a : FreshAnswer) → more.state.commits ≡ s.commits
      → (filled s l' made calls more a).state.commits ≡ s.commits
  filled_commits l' made calls more (fresh.Drawn n) is = is
  filled_commits l' made calls more (fresh.Halted file) is = refl
  filled_commits l' made calls more (fresh.Exhausted c) is = refl

  fill_commits : (output : List (List Entry)) (name : Name) (job : Job) (l' : Layout) (numbers : List ℕ) (calls : ℕ)
      → (fill s name job l' output numbers calls).state.commits ≡ s.commits
  fill_commits [] name job l' numbers calls = refl
  fill_commits (es ∷ output) name job l' numbers calls =
      filled_commits l' (made_of job numbers) calls _ (fresh_ruling l' h).answer
      (fill_commits output name job (fresh_ruling l' h).layout (numbers ++ l'.next_table ∷ []) (calls + 1))

  planned_commits : (name : Name) (r : Ruling (Option Job)) (o : Option Job) → (planned_by s name r o).state.commits ≡ s.commits
  planned_commits name r None = refl
  planned_commits name r (Some job) = fill_commits (outputs job) name job r.layout [] 0

  pub plan_commits : (name : Name) (r : Ruling (Option Job)) (o : Option Thing) → (plan_as s name r o).state.commits ≡ s.commits
  plan_commits name r None = planned_commits name r r.answer
  plan_commits name r (Some thing) = refl

  pub install_commits : (name : Name) (o : Option Thing) → (install_by s name o).state.commits ≡ s.commits
  install_commits name None = refl
  install_commits name (Some (ATransaction t b)) = refl
  install_commits name (Some (AView v b)) = refl
  install_commits name (Some (AJob job made)) = refl
  install_commits name (Some (APass pass batch)) = refl

  -- it is answered no number
  abbrev pub IsNoNumber : Step → Type 0
  IsNoNumber x = (n : ℕ) → x.answer ≡ Number n → ⊥

  abbrev KeepsOr : Transaction → Step → Type 0
  KeepsOr t x = (Keeps x × IsNoNumber x) ⊎ Adds x t

  module _ (name : Name) (t : Transaction) where
    abbrev by : Ruling CommitAnswer → Step
    by r = committed_by s name t r r.answer

    fits_or : (b : Bool) → conflict_in s.commits t.number t.reads ≡ None → (t.writes ≡ [] → ⊥)
        → KeepsOr t (by (if b then committed l h t else leaving
        (commit.Full l.active.length (frame_length l.active.format (commit_frame h t.writes))) h l))
    fits_or true none some = inr (record { answer = refl; commits = refl; layout = refl; calls = refl; none = none; some = some })
    fits_or false none some = inl (kept_alike _ refl refl refl, λ n e. cc)

    checked_or : (o : Option Named) → conflict_in s.commits t.number t.reads ≡ o → (t.writes ≡ [] → ⊥)
        → KeepsOr t (by (commit_checked l h t o))
    checked_or (Some named) is some = inl (kept_alike _ refl refl refl, λ n e. cc)
    checked_or None is some = fits_or (nat_le (l.active.length + frame_length l.active.format (commit_frame h t.writes)) l.room) is some

    numbered_or : (b : Bool) (o : Option Named) → conflict_in s.commits t.number t.reads ≡ o → (t.writes ≡ [] → ⊥)
        → KeepsOr t (by (if b then leaving (commit.Exhausted CommitNumber) h l else commit_checked l h t o))
    numbered_or true o is some = inl (kept_alike _ refl refl refl, λ n e. cc)
    numbered_or false o is some = checked_or o is some

    running_or : (b : Bool) (o : Option Named) → (length t.writes == 0) ≡ b → conflict_in s.commits t.number t.reads ≡ o
        → KeepsOr t (by (if b then commit_ended commit.Nothing l h t else
        (if nat_le max_commit_number (last_number h) then leaving (commit.Exhausted CommitNumber) h l else commit_checked l h t o)))
    running_or true o empty is = inl (kept_alike _ refl refl refl, λ n e. cc)
    running_or false o empty is = numbered_or (nat_le max_commit_number (last_number h)) o is
        (λ none. let all = sym empty ∙ ap (λ (ws : Changes). length ws == 0) none in cc)

    unless_or : (halted : Option FileName) (o : Option Named) → conflict_in s.commits t.number t.reads ≡ o
        → KeepsOr t (by (commit_unless halted l h t o))
    unless_or (Some file) o is = inl (kept_alike _ refl refl refl, λ n e. cc)
    unless_or None o is = running_or (length t.writes == 0) o refl is

  -- a commit keeps them, or adds the writes of what its name stands for
  pub commit_or : (name : Name) (o : Option Thing)
      → (Keeps (commit_by s name o) × IsNoNumber (commit_by s name o))
      ⊎ ((t : Transaction) × (b : Beginning) × (o ≡ Some (ATransaction t b)) × Adds (commit_by s name o) t)
  commit_or name None = inl (kept_alike _ refl refl refl, λ n e. cc)
  commit_or name (Some (AJob job made)) = inl (kept_alike _ refl refl refl, λ n e. cc)
  commit_or name (Some (APass pass batch)) = inl (kept_alike _ refl refl refl, λ n e. cc)
  commit_or name (Some (AView v b)) = inl (kept_alike _ refl refl refl, λ n e. cc)
  commit_or name (Some (ATransaction t b)) = elim (unless_or name t l.halted (conflict_in s.commits t.number t.reads) refl) [
    | inl keeps ↦ inl keeps
    | inr adds ↦ inr (t, b, refl, adds)
  ]
