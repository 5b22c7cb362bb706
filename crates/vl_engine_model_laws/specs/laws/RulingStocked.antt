-- Whatever a call answers, what is so of an engine's files is so of the layout that it leaves.
use Rattle.std.proofs.Common.{◌≡◌, ℕ, ◌+◌, Bool, true, false, cond, not, ◌&&◌, ◌||◌, List, [], ◌∷◌, ◌++◌, map, length, refl}
use Rattle.std.specs.Prelude.{Option, Some, None, nat_le, nat_lt, ◌==◌, if◌then◌else◌}
use Rattle.std.specs.List.{AllByRecursion, list_any, filter}
use Rattle.vl_model.specs.Conflicts.{Named, first_conflict}
use Rattle.vl_model.specs.Frames.{frame_length}
use Rattle.vl_model.specs.History.{History, last_number}
use Rattle.vl_model.specs.Limits.{max_commit_number, max_live}
use Rattle.vl_model.specs.declared.log_frame.LogFrame.{LogFrame}
use Rattle.vl_model.specs.declared.log_frame.LogFrame.TheVariants.{Relocated}
use Rattle.vl_model.specs.declared.log_frame.Moved.{Moved}
use Rattle.vl_engine_model.specs.Jobs.{Made, loose, lent_numbers, AreLent}
use Rattle.vl_engine_model.specs.Relocation.{Pass, Candidate, moved_of}
use Rattle.vl_engine_model.specs.Ruling.{Ruling, ended, has_no_number, has_no_epoch}
use Rattle.vl_engine_model.specs.Rulings.Begin.{begin_ruling}
use Rattle.vl_engine_model.specs.Rulings.Commit.{Transaction, committed, commit_checked, commit_running, commit_unless}
use Rattle.vl_engine_model.specs.Rulings.Commit.{commit_ruling, commit_frame}
use Rattle.vl_engine_model.specs.Rulings.Flush.{flush_of, flush_unless, flush_ruling}
use Rattle.vl_engine_model.specs.Rulings.Fresh.{fresh_unless, fresh_ruling}
use Rattle.vl_engine_model.specs.Rulings.Keep.{keep_unless, keep_ruling}
use Rattle.vl_engine_model.specs.Rulings.Relocate.{relocate_of, relocate_unless, relocate_ruling}
use Rattle.vl_engine_model.specs.Rulings.Rotate.{rotate_of, rotate_unless, rotate_ruling}
use Rattle.vl_engine_model.specs.Rulings.Sweep.{pins, is_held, is_retired_up_to, swept, sweep_unless}
use Rattle.vl_engine_model.specs.Sources.{oldest, sources, tables}
use Rattle.vl_engine_model.specs.Stock.{leads, IsFooted, PointsDrawn, with_lent, IsWellStocked, IsLoose}
use Rattle.vl_engine_model.specs.TidyLevels.{IsDistinct}
use Rattle.vl_engine_model.specs.declared.file_name.FileName.{FileName}
use Rattle.vl_engine_model.specs.declared.file_name.Retired.{Retired}
use Rattle.vl_engine_model.specs.declared.job.Job.{Job}
use Rattle.vl_engine_model.specs.declared.job.OpenJob.{OpenJob}
use Rattle.vl_engine_model.specs.declared.layout.Layout.{Layout}
use Rattle.vl_engine_model.specs.declared.segment.Segment.{Segment}
use Rattle.vl_engine_model.specs.declared.table.Table.{Table}
use Rattle.vl_engine_model_laws.specs.laws.Files.{all_weaker}
use Rattle.vl_engine_model_laws.specs.laws.Stock.{swept_are_loose}
use Rattle.vl_engine_model.specs.Levels.{due_from, first_into}
use Rattle.vl_engine_model.specs.Garbage.{best}
use Rattle.vl_engine_model.specs.Rulings.Abandon.{abandon_ruling}
use Rattle.vl_engine_model.specs.Rulings.Drain.{drain_of, drain_unless, drain_ruling}
use Rattle.vl_engine_model.specs.Rulings.EndPass.{end_pass_ruling}
use Rattle.vl_engine_model.specs.Rulings.Forget.{forget_ruling}
use Rattle.vl_engine_model.specs.Rulings.Install.{race, moved_since, install_checked, install_unless, install_ruling}
use Rattle.vl_engine_model.specs.Rulings.Pick.{pick_best, pick_unless, pick_ruling}
use Rattle.vl_engine_model.specs.Rulings.Plan.{plan_of, plan_unless, plan_ruling}
use Rattle.vl_engine_model.specs.Rulings.Release.{release_ruling}
use Rattle.vl_engine_model.specs.Rulings.Sweep.{sweep_ruling, sweep_to_ruling}
use Rattle.vl_engine_model.specs.Rulings.View.{View}
use Rattle.vl_engine_model.specs.declared.job.OpenPass.{OpenPass}
use Rattle.vl_engine_model.specs.declared.segment.SegmentStat.{SegmentStat}
use Rattle.vl_engine_model_laws.specs.laws.WellInstalled.{well_installed}
use Rattle.vl_engine_model_laws.specs.laws.WellStocked.{well_begun, well_ended, well_picked, well_pass_ended, well_logged}
use Rattle.vl_engine_model_laws.specs.laws.WellStocked.{well_keeping, well_rotated, well_relocated, well_flushed}
use Rattle.vl_engine_model_laws.specs.laws.WellStocked.{well_swept, well_planned, well_drawn, well_job_ended}

abbrev pub LeavesWell : {A : Type 0} → Ruling A → Type 0
LeavesWell r = IsWellStocked r.layout

either : {A : Type 0} (b : Bool) (x y : Ruling A) → LeavesWell x → LeavesWell y → LeavesWell (if b then x else y)
either true x y one other = one
either false x y one other = other

module _ (l : Layout) (h : History) (w : IsWellStocked l) where
  pub begin_well : LeavesWell (begin_ruling l h)
  begin_well = either (nat_le max_live (length l.live)) _ _ w (well_begun l w _ (last_number h))

  -- ---- a commit

  checked_well : (t : Transaction) (conflict : Option Named) → LeavesWell (commit_checked l h t conflict)
  checked_well t (Some named) = well_ended l w t.ticket
  checked_well t None =
      either (nat_le (l.active.length + frame_length l.active.format (commit_frame h t.writes)) l.room)
      (committed l h t) _ (well_logged (ended t.ticket l) (well_ended l w t.ticket) (commit_frame h t.writes)) w

  running_well : (t : Transaction) (conflict : Option Named) → LeavesWell (commit_running l h t conflict)
  running_well t conflict =
      either (length t.writes == 0) _ _ (well_ended l w t.ticket)
      (either (nat_le max_commit_number (last_number h)) _ _ w (checked_well t conflict))

  unless_well : (t : Transaction) (conflict : Option Named) (halted : Option FileName)
      → LeavesWell (commit_unless halted l h t conflict)
  unless_well t conflict (Some name) = well_ended l w t.ticket
  unless_well t conflict None = running_well t conflict

  pub commit_well : (t : Transaction) → LeavesWell (commit_ruling l h t)
  commit_well t = unless_well t (first_conflict h t.number t.reads) l.halted

  pub forget_well : (t : Transaction) → LeavesWell (forget_ruling l h t)
  forget_well t = well_ended l w t.ticket

  pub release_well : (v : View) → LeavesWell (release_ruling l h v)
  release_well v = well_ended l w v.ticket

  -- ---- a rotation, a flush, a relocation

  rotate_of-well : (frames : List LogFrame) → LeavesWell (rotate_of frames l h)
  rotate_of-well [] = w
  rotate_of-well (f ∷ fs) =
      either (has_no_number l.next_log 1) _ _ w (either (has_no_epoch l) _ _ w (well_rotated l w))

  rotate_unless-well : (halted : Option FileName) → LeavesWell (rotate_unless halted l h)
  rotate_unless-well (Some name) = w
  rotate_unless-well None = rotate_of-well l.active.frames

  pub rotate_well : LeavesWell (rotate_ruling l h)
  rotate_well = rotate_unless-well l.halted

  flush_of-well : (level : List Table) (deeper : List (List Table)) → l.levels ≡ level ∷ deeper
      → (o : Option Segment) → oldest l.frozen ≡ o
      → LeavesWell (flush_of l h o)
  flush_of-well level deeper are None is = w
  flush_of-well level deeper are (Some s) is =
      either (has_no_number l.next_table 1) _ _ w (either (has_no_epoch l) _ _ w (well_flushed l w s level deeper is are))

  flush_unless-well : (level : List Table) (deeper : List (List Table)) → l.levels ≡ level ∷ deeper
      → (halted : Option FileName) → LeavesWell (flush_unless halted l h)
  flush_unless-well level deeper are (Some name) = w
  flush_unless-well level deeper are None = flush_of-well level deeper are (oldest l.frozen) refl

  pub flush_well : (level : List Table) (deeper : List (List Table)) → l.levels ≡ level ∷ deeper
      → LeavesWell (flush_ruling l h)
  flush_well level deeper are = flush_unless-well level deeper are l.halted

  relocate_of-well : (moved : List Moved) → LeavesWell (relocate_of l h moved)
  relocate_of-well [] = w
  relocate_of-well (m ∷ ms) =
      either (has_no_epoch l) _ _ w
      (either (nat_le (l.active.length + frame_length l.active.format (Relocated (m ∷ ms))) l.room) _ _ (well_relocated l w (m ∷ ms)) w)

  relocate_unless-well : (pass : Pass) (batch : List Candidate) (halted : Option FileName)
      → LeavesWell (relocate_unless halted l h pass batch)
  relocate_unless-well pass batch (Some name) = w
  relocate_unless-well pass batch None = relocate_of-well (moved_of (sources l) pass.segment (last_number h) batch)

  pub relocate_well : (pass : Pass) (batch : List Candidate) → LeavesWell (relocate_ruling l h pass batch)
  relocate_well pass batch = relocate_unless-well pass batch l.halted

  -- ---- jobs

  plan_of-well : (o : Option ℕ) → LeavesWell (plan_of l h o)
  plan_of-well None = w
  plan_of-well (Some level) = well_planned l w _

  plan_unless-well : (o : Option OpenJob) → LeavesWell (plan_unless o l h)
  plan_unless-well (Some job) = w
  plan_unless-well None = plan_of-well (due_from 0 l.levels)

  pub plan_well : LeavesWell (plan_ruling l h)
  plan_well = plan_unless-well l.job

  drain_of-well : (o : Option Table) → LeavesWell (drain_of l h o)
  drain_of-well None = w
  drain_of-well (Some t) = well_planned l w _

  drain_unless-well : (segment : ℕ) (o : Option OpenJob) → LeavesWell (drain_unless o l h segment)
  drain_unless-well segment (Some job) = w
  drain_unless-well segment None = drain_of-well (first_into segment (tables l))

  pub drain_well : (segment : ℕ) → LeavesWell (drain_ruling l h segment)
  drain_well segment = drain_unless-well segment l.job

  fresh_unless-well : (halted : Option FileName) → LeavesWell (fresh_unless halted l h)
  fresh_unless-well (Some name) = w
  fresh_unless-well None = either (has_no_number l.next_table 1) _ _ w (well_drawn l w)

  pub fresh_well : LeavesWell (fresh_ruling l h)
  fresh_well = fresh_unless-well l.halted

  pub abandon_well : (job : Job) (made : Made) → AreLent (lent_numbers l.job) made
      → LeavesWell (abandon_ruling l h job made)
  abandon_well job made are = well_job_ended l w made are

  module _ (job : Job) (made : Made) (are : AreLent (lent_numbers l.job) made)
      (standing : AllByRecursion (λ (n : ℕ). list_any (λ (t : Table). n == t.number) (tables l) ≡ true) job.inputs)
      (footed : AllByRecursion IsFooted made.tables)
      (into : (n : ℕ) → AllByRecursion
      (λ (t : Table). leads n t.points ≡ true → list_any (λ (u : Table). leads n u.points) (tables l) ≡ true) made.tables)
      (below : AllByRecursion (PointsDrawn l.next_log) made.tables) (distinct : IsDistinct (tables l)) where
    install_checked-well : (o : Option Named) → LeavesWell (install_checked l h job made o)
    install_checked-well (Some named) = well_job_ended l w made are
    install_checked-well None =
        either (has_no_epoch l) _ _ (well_job_ended l w made are) (well_installed l w job made are standing footed into below distinct)

    install_unless-well : (halted : Option FileName) → LeavesWell (install_unless halted l h job made)
    install_unless-well (Some name) = well_job_ended l w made are
    install_unless-well None = install_checked-well (race job (moved_since l.job))

    pub install_well : LeavesWell (install_ruling l h job made)
    install_well = install_unless-well l.halted

  -- ---- a pass

  pick_best-well : (o : Option SegmentStat) → LeavesWell (pick_best l h o)
  pick_best-well None = w
  pick_best-well (Some x) = well_picked l w x.segment

  pick_unless-well : (percent : ℕ) (o : Option OpenPass) → LeavesWell (pick_unless o l h percent)
  pick_unless-well percent (Some pass) = w
  pick_unless-well percent None = pick_best-well (best l percent)

  pub pick_well : (percent : ℕ) → LeavesWell (pick_ruling l h percent)
  pick_well percent = either ((percent == 0) || nat_lt 99 percent) _ _ w (pick_unless-well percent l.pass)

  pub end_pass_well : (pass : Pass) → LeavesWell (end_pass_ruling l h pass)
  end_pass_well pass = well_pass_ended l w

  -- ---- a sweep, and how many versions are kept

  sweep_unless-well : (least : Option ℕ) (halted : Option FileName) → LeavesWell (sweep_unless halted least l h)
  sweep_unless-well least (Some name) = w
  sweep_unless-well least None = well_swept l w (swept least l)

  pub sweep_well : LeavesWell (sweep_ruling l h)
  sweep_well = sweep_unless-well None l.halted

  pub sweep_to_well : (least : ℕ) → LeavesWell (sweep_to_ruling l h least)
  sweep_to_well least = sweep_unless-well (Some least) l.halted

  keep_unless-well : (v : ℕ) (halted : Option FileName) → LeavesWell (keep_unless halted l h v)
  keep_unless-well v (Some name) = w
  keep_unless-well v None =
      either ((v == 0) || nat_lt 16 v) _ _ w (either (v == l.keep) _ _ w (well_keeping l w v h))

  pub keep_well : (v : ℕ) → LeavesWell (keep_ruling l h v)
  keep_well v = keep_unless-well v l.halted

  -- what a sweep removes is needed by no source and no pin
  pub removed_are_loose : (least : Option ℕ) → AllByRecursion (IsLoose l) (swept least l)
  removed_are_loose least =
      all_weaker (IsLoose (with_lent l)) (IsLoose l)
      (λ f is. record { sources = is.sources; pins_off = is.pins_off; drawn = is.drawn }) (swept least l)
      (more l.retired (swept_are_loose least (with_lent l) w.stocked))
    where
      more : (rs : List Retired)
          → AllByRecursion (IsLoose (with_lent l))
          (map (λ (r : Retired). r.file)
          (filter (λ r. not (is_held (pins l) r) && is_retired_up_to least r) (loose (lent_numbers l.job) ++ rs)))
          → AllByRecursion (IsLoose (with_lent l))
          (map (λ (r : Retired). r.file) (filter (λ r. not (is_held (pins l) r) && is_retired_up_to least r) rs))
      more rs all = behind (loose (lent_numbers l.job)) all
        where
          behind : (xs : List Retired)
              → AllByRecursion (IsLoose (with_lent l))
              (map (λ (r : Retired). r.file) (filter (λ r. not (is_held (pins l) r) && is_retired_up_to least r) (xs ++ rs)))
              → AllByRecursion (IsLoose (with_lent l))
              (map (λ (r : Retired). r.file) (filter (λ r. not (is_held (pins l) r) && is_retired_up_to least r) rs))
          behind [] all = all
          behind (x ∷ xs) all = by_test (not (is_held (pins l) x) && is_retired_up_to least x) all (behind xs)
            where
              by_test : (b : Bool)
                  → AllByRecursion (IsLoose (with_lent l))
                  (map (λ (r : Retired). r.file)
                  (cond b (x ∷ filter (λ r. not (is_held (pins l) r) && is_retired_up_to least r) (xs ++ rs))
                  (filter (λ r. not (is_held (pins l) r) && is_retired_up_to least r) (xs ++ rs))))
                  → (AllByRecursion (IsLoose (with_lent l))
                  (map (λ (r : Retired). r.file)
                  (filter (λ r. not (is_held (pins l) r) && is_retired_up_to least r) (xs ++ rs)))
                  → AllByRecursion (IsLoose (with_lent l))
                  (map (λ (r : Retired). r.file) (filter (λ r. not (is_held (pins l) r) && is_retired_up_to least r) rs)))
                  → AllByRecursion (IsLoose (with_lent l))
                  (map (λ (r : Retired). r.file) (filter (λ r. not (is_held (pins l) r) && is_retired_up_to least r) rs))
              by_test true all goes = goes all.1
              by_test false all goes = goes all
