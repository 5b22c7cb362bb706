-- Which lines leave the open merge, the open pass and their names alone, and the logs: all but those of merges and passes and steps
-- on files.
use Rattle.std.proofs.Common.{◌≡◌, ◌⊎◌, ⊎_elim, inl, inr, ℕ, ◌+◌, ◌==◌, ◌||◌, ◌&&◌, Bool, true, false, cond, not}
use Rattle.std.proofs.Common.{List, [], ◌∷◌, length, refl, ap, sym, ◌∙◌, subst}
use Rattle.std.specs.Prelude.{Option, None, Some, nat_le, nat_lt}
use Rattle.std.specs.FinMap.{find, put}
use Rattle.std.specs.Ordering.{eq_by_cmp}
use Rattle.vl_engine_model.specs.AtAnswer.{Beginning, beginning_of}
use Rattle.vl_engine_model.specs.Jobs.{Made}
use Rattle.vl_engine_model.specs.Ruling.{Ruling, StepAnswer, has_no_number, has_no_epoch, leaving}
use Rattle.vl_engine_model.specs.Rulings.Begin as begin
use Rattle.vl_engine_model.specs.Rulings.Begin.{BeginAnswer, begin_ruling, begun}
use Rattle.vl_engine_model.specs.Rulings.Commit as commit
use Rattle.vl_engine_model.specs.Rulings.Commit.{CommitAnswer, Transaction, commit_checked, commit_ended, commit_frame, commit_unless, committed}
use Rattle.vl_engine_model.specs.Rulings.Flush.{flush_of, flush_unless}
use Rattle.vl_engine_model.specs.Rulings.Keep.{keep_unless}
use Rattle.vl_engine_model.specs.Rulings.Rotate.{rotate_of, rotate_unless}
use Rattle.vl_engine_model.specs.Sources.{oldest}
use Rattle.vl_engine_model.specs.Store.Commits.{conflict_in, history_in}
use Rattle.vl_engine_model.specs.Store.Dispatch.{drop_by, keep_by, step_by}
use Rattle.vl_engine_model.specs.Store.Lines.{Answer, Name}
use Rattle.vl_engine_model.specs.Store.Reading.{a_transaction, a_view, begin_as, begun_by, commit_by, committed_by}
use Rattle.vl_engine_model.specs.Store.Reading.{get_at_by, get_by, get_own, is_small_enough, scan_by, write_by}
use Rattle.vl_engine_model.specs.Store.Things as things
use Rattle.vl_engine_model.specs.Store.Things.{AJob, APass, ATransaction, AView, Step, Thing, named, only, thing_in, thing_of}
use Rattle.vl_engine_model.specs.Store.Things.{without_name}
use Rattle.vl_engine_model.specs.Tickets.{free_ticket, tickets_of}
use Rattle.vl_engine_model.specs.declared.file_name.FileName.{FileName}
use Rattle.vl_engine_model.specs.declared.job.Job.{Job}
use Rattle.vl_engine_model.specs.declared.job.OpenJob.{OpenJob}
use Rattle.vl_engine_model.specs.declared.job.OpenPass.{OpenPass}
use Rattle.vl_engine_model.specs.declared.table.Table.{Table}
use Rattle.vl_engine_model.specs.Relocation.{Candidate, Pass}
use Rattle.vl_engine_model.specs.declared.layout.Layout.{Layout}
use Rattle.vl_engine_model.specs.declared.segment.Segment.{Segment}
use Rattle.vl_model.specs.Conflicts.{Named}
use Rattle.vl_model.specs.Formats.{log_format}
use Rattle.vl_model.specs.Frames.{frame_length}
use Rattle.vl_model.specs.History.{History, last_number}
use Rattle.vl_model.specs.Keys.{Stored, is_key_length, is_value_length, key_cmp, value_bytes}
use Rattle.vl_model.specs.Limits.{max_commit_number, max_key_bytes, max_live}
use Rattle.vl_model.specs.declared.change.Change.{Change}
use Rattle.vl_model.specs.declared.counter.Counter.TheVariants as counter
use Rattle.vl_model.specs.declared.log_frame.LogFrame.{LogFrame}
use Rattle.vl_model.specs.declared.way.Way.{Way}
use Rattle.vl_script_model.specs.Readers.{IsReader}
use Rattle.vl_replay_laws.specs.laws.Names.Lookups.{named_so, own_name, thing_beside, thing_gone, thing_left, thing_put}

-- the same names stand for the same things that don't read: merges and passes
pub record SameWork (ts us : List (Name × Thing)) : Type 0 where
  pub ours : (name : Name) (x : Thing) → (IsReader x → ⊥) → thing_in us name ≡ Some x → thing_in ts name ≡ Some x
  pub still : (name : Name) (x : Thing) → (IsReader x → ⊥) → thing_in ts name ≡ Some x → thing_in us name ≡ Some x

-- what a layout has of the open merge, of the open pass, and of logs and tables
abbrev pub work_of : Layout → Option OpenJob × Option OpenPass × ℕ × List Segment × List Segment × List (List Table)
work_of l = (l.job, l.pass, l.active.number, l.frozen, l.flushed, l.levels)

-- a step leaves these, and these names
pub record KeepsWork (s : things.State) (x : Step) : Type 0 where
  pub layout : work_of x.state.layout ≡ work_of s.layout
  pub names : SameWork s.things x.state.things

-- ---- merges alone

-- it stands for a merge
abbrev pub IsJobAt : List (Name × Thing) → Name → Job → Made → Type 0
IsJobAt ts name job made = thing_in ts name ≡ Some (AJob job made)

-- the same names stand for the same merges
pub record SameJobs (ts us : List (Name × Thing)) : Type 0 where
  pub ours : (name : Name) (job : Job) (made : Made) → IsJobAt us name job made → IsJobAt ts name job made
  pub still : (name : Name) (job : Job) (made : Made) → IsJobAt ts name job made → IsJobAt us name job made

-- a step leaves the layout's open merge, and these names
pub record KeepsMerges (s : things.State) (x : Step) : Type 0 where
  pub job : x.state.layout.job ≡ s.layout.job
  pub jobs : SameJobs s.things x.state.things

pub same_jobs : (ts us : List (Name × Thing)) → us ≡ ts → SameJobs ts us
same_jobs ts us same = record {
  ours = λ q job made is. subst (λ (xs : List (Name × Thing)). IsJobAt xs q job made) same is;
  still = λ q job made is. subst (λ (xs : List (Name × Thing)). IsJobAt xs q job made) (sym same) is;
}

pub merges_kept : (s : things.State) (x : Step) → KeepsWork s x → KeepsMerges s x
merges_kept s x keeps = record {
  job = ap (λ (w : Option OpenJob × Option OpenPass × ℕ × List Segment × List Segment × List (List Table)). w.0) keeps.layout;
  jobs = record {
    ours = λ q job made is. keeps.names.ours q (AJob job made) (λ reads. reads) is;
    still = λ q job made is. keeps.names.still q (AJob job made) (λ reads. reads) is;
  };
}

-- ---- passes alone

-- it stands for a pass
abbrev pub IsPassAt : List (Name × Thing) → Name → Pass → Option (List Candidate) → Type 0
IsPassAt ts name p batch = thing_in ts name ≡ Some (APass p batch)

-- the same names stand for the same passes
pub record SamePasses (ts us : List (Name × Thing)) : Type 0 where
  pub ours : (name : Name) (p : Pass) (batch : Option (List Candidate)) → IsPassAt us name p batch → IsPassAt ts name p batch
  pub still : (name : Name) (p : Pass) (batch : Option (List Candidate)) → IsPassAt ts name p batch → IsPassAt us name p batch

-- a step leaves the layout's open pass, and these names
pub record KeepsPasses (s : things.State) (x : Step) : Type 0 where
  pub pass : x.state.layout.pass ≡ s.layout.pass
  pub names : SamePasses s.things x.state.things

pub same_passes : (ts us : List (Name × Thing)) → us ≡ ts → SamePasses ts us
same_passes ts us same = record {
  ours = λ q p batch is. subst (λ (xs : List (Name × Thing)). IsPassAt xs q p batch) same is;
  still = λ q p batch is. subst (λ (xs : List (Name × Thing)). IsPassAt xs q p batch) (sym same) is;
}

pub passes_kept : (s : things.State) (x : Step) → KeepsWork s x → KeepsPasses s x
passes_kept s x keeps = record {
  pass = ap (λ (w : Option OpenJob × Option OpenPass × ℕ × List Segment × List Segment × List (List Table)). w.1) keeps.layout;
  names = record {
    ours = λ q p batch is. keeps.names.ours q (APass p batch) (λ reads. reads) is;
    still = λ q p batch is. keeps.names.still q (APass p batch) (λ reads. reads) is;
  };
}

-- ---- names

-- two names, by whether they are one
same_or_not : (a b : Name) → (a ≡ b) ⊎ (a ≡ b → ⊥)
same_or_not a b = of (eq_by_cmp key_cmp a b) refl
  where
    true_false : true ≡ false → ⊥
    true_false e = cc

    of : (t : Bool) → eq_by_cmp key_cmp a b ≡ t → (a ≡ b) ⊎ (a ≡ b → ⊥)
    of true is = inl (named_so a b is)
    of false is = inr (λ same. true_false (sym (subst (λ (c : Name). eq_by_cmp key_cmp a c ≡ true) same (own_name a)) ∙ is))

-- it is nothing, or reads
abbrev pub IsNoWork : Option Thing → Type 0
IsNoWork o = (x : Thing) → o ≡ Some x → IsReader x

none_work : IsNoWork None
none_work x e = absurd cc

reader_work : (y : Thing) → IsReader y → IsNoWork (Some y)
reader_work y reads x e = subst IsReader (same e) reads
  where
    same : Some y ≡ Some x → y ≡ x
    same e = cc

module _ (ts : List (Name × Thing)) (name : Name) (none : IsNoWork (thing_in ts name)) where
  -- another name then
  apart_of : (q : Name) (x : Thing) → (IsReader x → ⊥) → thing_in ts q ≡ Some x → q ≡ name → ⊥
  apart_of q x works is same = works (none x (subst (λ (n : Name). thing_in ts n ≡ Some x) same is))

  none_some : (x : Thing) → None ≡ Some x → ⊥
  none_some x e = cc

  pub work_without : SameWork ts (without_name name ts)
  work_without = record {
    ours = λ q x works is. ⊎_elim
        (λ (same : q ≡ name). absurd
        (none_some x (sym (thing_gone name ts) ∙ subst (λ (n : Name). thing_in (without_name name ts) n ≡ Some x) same is)))
        (λ (apart : q ≡ name → ⊥). sym (thing_left name q apart ts) ∙ is)
        (same_or_not q name);
    still = λ q x works is. thing_left name q (apart_of q x works is) ts ∙ is;
  }

  pub work_with : (y : Thing) → IsReader y → SameWork ts (named name y ts)
  work_with y reads = record {
    ours = λ q x works is. ⊎_elim
        (λ (same : q ≡ name). absurd (works (reader_work y reads x
        (sym (thing_put name y ts) ∙ subst (λ (n : Name). thing_in (named name y ts) n ≡ Some x) same is))))
        (λ (apart : q ≡ name → ⊥). sym (thing_beside name q apart y ts) ∙ is)
        (same_or_not q name);
    still = λ q x works is. thing_beside name q (apart_of q x works is) y ts ∙ is;
  }

pub same_work : (ts us : List (Name × Thing)) → us ≡ ts → SameWork ts us
same_work ts us same = record {
  ours = λ q x works is. subst (λ (xs : List (Name × Thing)). thing_in xs q ≡ Some x) same is;
  still = λ q x works is. subst (λ (xs : List (Name × Thing)). thing_in xs q ≡ Some x) (sym same) is;
}

-- ---- by each line

module _ (s : things.State) where
  abbrev h : History
  h = history_in s.commits

  abbrev l : Layout
  l = s.layout

  quiet : (x : Step) → work_of x.state.layout ≡ work_of s.layout → x.state.things ≡ s.things → KeepsWork s x
  quiet x layout same = record { layout = layout; names = same_work s.things x.state.things same }

  -- a line that is only answered
  pub only_keeps_work : (answer : Answer) → KeepsWork s (only answer s)
  only_keeps_work answer = quiet (only answer s) refl refl

  with_reader : (x : Step) (name : Name) (thing : Thing) → IsReader thing → IsNoWork (thing_of s name)
      → work_of x.state.layout ≡ work_of s.layout → x.state.things ≡ named name thing s.things → KeepsWork s x
  with_reader x name thing reads none layout same = record {
    layout = layout;
    names = subst (SameWork s.things) (sym same) (work_with s.things name none thing reads);
  }

  without_reader : (x : Step) (name : Name) → IsNoWork (thing_of s name) → work_of x.state.layout ≡ work_of s.layout
      → x.state.things ≡ without_name name s.things → KeepsWork s x
  without_reader x name none layout same = record {
    layout = layout;
    names = subst (SameWork s.things) (sym same) (work_without s.things name none);
  }

  either : (b : Bool) (x y : Step) → KeepsWork s x → KeepsWork s y → KeepsWork s (cond b x y)
  either true x y p q = p
  either false x y p q = q

  no_work : (o : Option Thing) (name : Name) → thing_of s name ≡ o → IsNoWork o → IsNoWork (thing_of s name)
  no_work o name is none x e = none x (sym is ∙ e)

  txn_no_work : (t : Transaction) (b : Beginning) → IsNoWork (Some (ATransaction t b))
  txn_no_work t b = reader_work (ATransaction t b) tt

  -- begins
  begun_keeps : (name : Name) (thing : ℕ → ℕ → Thing) → ((ticket number : ℕ) → IsReader (thing ticket number))
      → IsNoWork (thing_of s name) → (b : Bool) (ticket : ℕ)
      → let r : Ruling BeginAnswer = cond b (leaving begin.TooMany h l)
      (leaving (begin.Begun ticket (last_number h)) h (begun l ticket (last_number h))) in
      KeepsWork s (begun_by s name thing r r.answer)
  begun_keeps name thing reads none true ticket = quiet _ refl refl
  begun_keeps name thing reads none false ticket = with_reader _ name (thing ticket (last_number h))
      (reads ticket (last_number h)) none refl refl

  begin_keeps : (name : Name) (thing : Beginning → ℕ → ℕ → Thing) → ((b : Beginning) (ticket number : ℕ) → IsReader (thing b ticket number))
      → (o : Option Thing) → thing_of s name ≡ o → KeepsWork s (begin_as s name thing o)
  begin_keeps name thing reads (Some other) is = quiet _ refl refl
  begin_keeps name thing reads None is =
      begun_keeps name (thing (beginning_of (begin_ruling l h).layout h))
      (reads (beginning_of (begin_ruling l h).layout h)) (no_work None name is none_work)
      (nat_le max_live (length l.live)) (free_ticket (tickets_of l.live))

  pub transaction_keeps_work : (name : Name) → KeepsWork s (begin_as s name a_transaction (thing_of s name))
  transaction_keeps_work name = begin_keeps name a_transaction (λ b ticket number. tt) (thing_of s name) refl

  pub view_keeps_work : (name : Name) → KeepsWork s (begin_as s name a_view (thing_of s name))
  view_keeps_work name = begin_keeps name a_view (λ b ticket number. tt) (thing_of s name) refl

  -- reads and writes
  own_keeps : (name : Name) (tell : Option Stored → Answer) (t : Transaction) (b : Beginning) (key : List ℕ)
      (o : Option Change) → IsNoWork (thing_of s name)
      → KeepsWork s (get_own s name tell t b key o)
  own_keeps name tell t b key (Some change) none = quiet _ refl refl
  own_keeps name tell t b key None none = with_reader _ name _ tt none refl refl

  pub get_keeps_work : (name : Name) (tell : Option Stored → Answer) (key : List ℕ) (o : Option Thing)
      → thing_of s name ≡ o → KeepsWork s (get_by s name tell key o)
  get_keeps_work name tell key None is = quiet _ refl refl
  get_keeps_work name tell key (Some (AJob job made)) is = quiet _ refl refl
  get_keeps_work name tell key (Some (APass pass batch)) is = quiet _ refl refl
  get_keeps_work name tell key (Some (AView v b)) is = either (is_key_length (length key)) _ _ (quiet _ refl refl) (quiet _ refl refl)
  get_keeps_work name tell key (Some (ATransaction t b)) is =
      either (is_key_length (length key)) _ _
      (own_keeps name tell t b key (find key_cmp key t.writes) (no_work _ name is (txn_no_work t b))) (quiet _ refl refl)

  pub get_at_keeps_work : (name : Name) (key : List ℕ) (number : ℕ) (o : Option Thing) → KeepsWork s (get_at_by s name key number o)
  get_at_keeps_work name key number None = quiet _ refl refl
  get_at_keeps_work name key number (Some (AJob job made)) = quiet _ refl refl
  get_at_keeps_work name key number (Some (APass pass batch)) = quiet _ refl refl
  get_at_keeps_work name key number (Some (AView v b)) = quiet _ refl refl
  get_at_keeps_work name key number (Some (ATransaction t b)) = quiet _ refl refl

  pub scan_keeps_work : (way : Way) (name : Name) (low high : List ℕ) (limit : ℕ) (o : Option Thing)
      → thing_of s name ≡ o → KeepsWork s (scan_by s way name low high limit o)
  scan_keeps_work way name low high limit None is = quiet _ refl refl
  scan_keeps_work way name low high limit (Some (AJob job made)) is = quiet _ refl refl
  scan_keeps_work way name low high limit (Some (APass pass batch)) is = quiet _ refl refl
  scan_keeps_work way name low high limit (Some (AView v b)) is =
      either (nat_le (length low) max_key_bytes && nat_le (length high) max_key_bytes) _ _ (quiet _ refl refl) (quiet _ refl refl)
  scan_keeps_work way name low high limit (Some (ATransaction t b)) is =
      either (nat_le (length low) max_key_bytes && nat_le (length high) max_key_bytes) _ _
      (with_reader _ name _ tt (no_work _ name is (txn_no_work t b)) refl refl) (quiet _ refl refl)

  pub write_keeps_work : (name : Name) (key : List ℕ) (change : Change) (o : Option Thing) → thing_of s name ≡ o
      → KeepsWork s (write_by s name key change o)
  write_keeps_work name key change None is = quiet _ refl refl
  write_keeps_work name key change (Some (AJob job made)) is = quiet _ refl refl
  write_keeps_work name key change (Some (APass pass batch)) is = quiet _ refl refl
  write_keeps_work name key change (Some (AView v b)) is = quiet _ refl refl
  write_keeps_work name key change (Some (ATransaction t b)) is =
      either (not (is_key_length (length key) && is_value_length log_format (length (value_bytes change)))) _ _ (quiet _ refl refl)
      (either (is_small_enough (put key_cmp key change t.writes)) _ _
      (with_reader _ name _ tt (no_work _ name is (txn_no_work t b)) refl refl) (quiet _ refl refl))

  -- ends
  pub drop_keeps_work : (name : Name) (o : Option Thing) → thing_of s name ≡ o
      → ((x : Thing) → o ≡ Some x → IsReader x) → KeepsWork s (drop_by s name o)
  drop_keeps_work name None is only = quiet _ refl refl
  drop_keeps_work name (Some (ATransaction t b)) is only = without_reader _ name (no_work _ name is (txn_no_work t b)) refl refl
  drop_keeps_work name (Some (AView v b)) is only = without_reader _ name (no_work _ name is (reader_work (AView v b) tt)) refl refl
  drop_keeps_work name (Some (AJob job made)) is only = absurd (only _ refl)
  drop_keeps_work name (Some (APass pass batch)) is only = absurd (only _ refl)

  module _ (name : Name) (t : Transaction) (none : IsNoWork (thing_of s name)) where
    abbrev by : Ruling CommitAnswer → Step
    by r = committed_by s name t r r.answer

    fits_keep : (b : Bool) → KeepsWork s
        (by (cond b (committed l h t) (leaving (commit.Full l.active.length (frame_length l.active.format (commit_frame h t.writes))) h l)))
    fits_keep true = without_reader _ name none refl refl
    fits_keep false = quiet _ refl refl

    checked_keep : (o : Option Named) → KeepsWork s (by (commit_checked l h t o))
    checked_keep (Some named) = without_reader _ name none refl refl
    checked_keep None = fits_keep (nat_le (l.active.length + frame_length l.active.format (commit_frame h t.writes)) l.room)

    numbered_keep : (b : Bool) (o : Option Named)
        → KeepsWork s (by (cond b (leaving (commit.Exhausted counter.Commit) h l) (commit_checked l h t o)))
    numbered_keep true o = quiet _ refl refl
    numbered_keep false o = checked_keep o

    running_keep : (b : Bool) (o : Option Named)
        → KeepsWork s (by (cond b (commit_ended commit.Nothing l h t)
        (cond (nat_le max_commit_number (last_number h)) (leaving (commit.Exhausted counter.Commit) h l) (commit_checked l h t o))))
    running_keep true o = without_reader _ name none refl refl
    running_keep false o = numbered_keep (nat_le max_commit_number (last_number h)) o

    unless_keep : (halted : Option FileName) (o : Option Named) → KeepsWork s (by (commit_unless halted l h t o))
    unless_keep (Some file) o = without_reader _ name none refl refl
    unless_keep None o = running_keep (length t.writes == 0) o

  pub commit_keeps_work : (name : Name) (o : Option Thing) → thing_of s name ≡ o → KeepsWork s (commit_by s name o)
  commit_keeps_work name None is = quiet _ refl refl
  commit_keeps_work name (Some (AJob job made)) is = quiet _ refl refl
  commit_keeps_work name (Some (APass pass batch)) is = quiet _ refl refl
  commit_keeps_work name (Some (AView v b)) is = quiet _ refl refl
  commit_keeps_work name (Some (ATransaction t b)) is =
      unless_keep name t (no_work _ name is (txn_no_work t b)) l.halted (conflict_in s.commits t.number t.reads)

  -- how many versions are kept
  choose : {A : Type 0} (b : Bool) (r q : Ruling A) → work_of r.layout ≡ work_of l → work_of q.layout ≡ work_of l
      → work_of (cond b r q).layout ≡ work_of l
  choose true r q here there = here
  choose false r q here there = there

  keep_work : (v : ℕ) (o : Option FileName) → work_of (keep_unless o l h v).layout ≡ work_of l
  keep_work v (Some file) = refl
  keep_work v None = choose ((v == 0) || nat_lt 16 v) _ _ refl (choose (v == l.keep) _ _ refl refl)

  pub keep_keeps_work : (v : ℕ) → KeepsWork s (keep_by s (keep_unless l.halted l h v))
  keep_keeps_work v = quiet _ (keep_work v l.halted) refl

  -- ---- steps on files, which leave the open merge and the open pass

  -- what a ruling leaves of them
  abbrev Opens : {A : Type 0} → Ruling A → Type 0
  Opens r = (r.layout.job ≡ l.job) × (r.layout.pass ≡ l.pass)

  either_opens : {A : Type 0} (b : Bool) (r q : Ruling A) → Opens r → Opens q → Opens (cond b r q)
  either_opens true r q here there = here
  either_opens false r q here there = there

  rotate_opens : (o : Option FileName) → Opens (rotate_unless o l h)
  rotate_opens (Some file) = (refl, refl)
  rotate_opens None = of l.active.frames
    where
      of : (frames : List LogFrame) → Opens (rotate_of frames l h)
      of [] = (refl, refl)
      of (f ∷ fs) = either_opens (has_no_number l.next_log 1) _ _ (refl, refl)
          (either_opens (has_no_epoch l) _ _ (refl, refl) (refl, refl))

  flush_opens : (o : Option FileName) → Opens (flush_unless o l h)
  flush_opens (Some file) = (refl, refl)
  flush_opens None = of (oldest l.frozen)
    where
      of : (o : Option Segment) → Opens (flush_of l h o)
      of None = (refl, refl)
      of (Some log) = either_opens (has_no_number l.next_table 1) _ _ (refl, refl)
          (either_opens (has_no_epoch l) _ _ (refl, refl) (refl, refl))

  step_keeps_merges : (r : Ruling StepAnswer) → Opens r → KeepsMerges s (step_by s r)
  step_keeps_merges r opens = record { job = opens.0; jobs = same_jobs s.things s.things refl }

  step_keeps_passes : (r : Ruling StepAnswer) → Opens r → KeepsPasses s (step_by s r)
  step_keeps_passes r opens = record { pass = opens.1; names = same_passes s.things s.things refl }

  pub rotate_keeps_merges : KeepsMerges s (step_by s (rotate_unless l.halted l h))
  rotate_keeps_merges = step_keeps_merges (rotate_unless l.halted l h) (rotate_opens l.halted)

  pub rotate_keeps_passes : KeepsPasses s (step_by s (rotate_unless l.halted l h))
  rotate_keeps_passes = step_keeps_passes (rotate_unless l.halted l h) (rotate_opens l.halted)

  pub flush_keeps_merges : KeepsMerges s (step_by s (flush_unless l.halted l h))
  flush_keeps_merges = step_keeps_merges (flush_unless l.halted l h) (flush_opens l.halted)

  pub flush_keeps_passes : KeepsPasses s (step_by s (flush_unless l.halted l h))
  flush_keeps_passes = step_keeps_passes (flush_unless l.halted l h) (flush_opens l.halted)
