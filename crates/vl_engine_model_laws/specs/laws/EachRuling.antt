-- What is so of a layout and its history is so of what a call leaves, if it is so of each change that the
-- call may make.
use Rattle.std.proofs.Common.{◌≡◌, ℕ, ◌+◌, Bool, true, false, ◌||◌, List, [], ◌∷◌, length, refl}
use Rattle.std.specs.Prelude.{Option, Some, None, nat_le, nat_lt, ◌==◌, if◌then◌else◌}
use Rattle.std.specs.FinMap.{from_sorted}
use Rattle.vl_model.specs.Conflicts.{Named, first_conflict}
use Rattle.vl_model.specs.Frames.{frame_length}
use Rattle.vl_model.specs.History.{History, last_number, with_commit}
use Rattle.vl_model.specs.Limits.{max_commit_number, max_live}
use Rattle.vl_model.specs.declared.log_frame.LogFrame.{LogFrame}
use Rattle.vl_model.specs.declared.log_frame.LogFrame.TheVariants.{Relocated}
use Rattle.vl_model.specs.declared.log_frame.Moved.{Moved}
use Rattle.vl_engine_model.specs.Garbage.{best}
use Rattle.vl_engine_model.specs.Jobs.{Made, job_ended}
use Rattle.vl_engine_model.specs.Levels.{due_from, first_into}
use Rattle.vl_engine_model.specs.Relocation.{Pass, Candidate, moved_of}
use Rattle.vl_engine_model.specs.Ruling.{Ruling, ended, logged, has_no_number, has_no_epoch}
use Rattle.vl_engine_model.specs.Rulings.Begin.{begun, begin_ruling}
use Rattle.vl_engine_model.specs.Rulings.Commit.{Transaction, committed, commit_checked, commit_running, commit_unless}
use Rattle.vl_engine_model.specs.Rulings.Commit.{commit_ruling, commit_frame}
use Rattle.vl_engine_model.specs.Rulings.Drain.{drain_of, drain_unless, drain_ruling}
use Rattle.vl_engine_model.specs.Rulings.Flush.{flushed, flush_of, flush_unless, flush_ruling}
use Rattle.vl_engine_model.specs.Rulings.Fresh.{drawn, fresh_unless, fresh_ruling}
use Rattle.vl_engine_model.specs.Rulings.Install.{installed, race, moved_since, install_checked, install_unless, install_ruling}
use Rattle.vl_engine_model.specs.Rulings.Keep.{keeping, keep_unless, keep_ruling}
use Rattle.vl_engine_model.specs.Rulings.Pick.{pick_best, pick_unless, pick_ruling, with_pass}
use Rattle.vl_engine_model.specs.Rulings.Plan.{plan_of, plan_unless, plan_ruling, with_job}
use Rattle.vl_engine_model.specs.Rulings.Relocate.{relocated, relocate_of, relocate_unless, relocate_ruling}
use Rattle.vl_engine_model.specs.Rulings.Rotate.{rotated, rotate_of, rotate_unless, rotate_ruling}
use Rattle.vl_engine_model.specs.Rulings.Sweep.{sweep_ruling, sweep_to_ruling, sweep_unless, swept, without_files}
use Rattle.vl_engine_model.specs.Sources.{oldest, sources, tables}
use Rattle.vl_engine_model.specs.Tickets.{free_ticket, tickets_of}
use Rattle.vl_engine_model.specs.declared.file_name.FileName.{FileName}
use Rattle.vl_engine_model.specs.declared.job.Job.{Job}
use Rattle.vl_engine_model.specs.declared.job.OpenJob.{OpenJob}
use Rattle.vl_engine_model.specs.declared.job.OpenPass.{OpenPass}
use Rattle.vl_engine_model.specs.declared.layout.Layout.{Layout}
use Rattle.vl_engine_model.specs.declared.segment.Segment.{Segment}
use Rattle.vl_engine_model.specs.declared.segment.SegmentStat.{SegmentStat}
use Rattle.vl_engine_model.specs.declared.table.Table.{Table}

module _ (P : Layout → History → Type 0) where
  -- it is so of what the ruling leaves
  abbrev pub Leaves : {A : Type 0} → Ruling A → Type 0
  Leaves r = P r.layout r.history

  either : {A : Type 0} (b : Bool) (x y : Ruling A) → Leaves x → (b ≡ false → Leaves y) → Leaves (if b then x else y)
  either true x y one other = one
  either false x y one other = other refl

  module _ (l : Layout) (h : History) (w : P l h) where
    pub begin_leaves : (nat_le max_live (length l.live) ≡ false → P (begun l (free_ticket (tickets_of l.live)) (last_number h)) h)
        → Leaves (begin_ruling l h)
    begin_leaves one = either (nat_le max_live (length l.live)) _ _ w one

    -- ---- a commit, and ends

    module _ (t : Transaction) (end : P (ended t.ticket l) h)
        (goes : P (logged (commit_frame h t.writes) (ended t.ticket l)) (with_commit h (from_sorted t.writes))) where
      checked_leaves : (conflict : Option Named) → Leaves (commit_checked l h t conflict)
      checked_leaves (Some named) = end
      checked_leaves None =
          either (nat_le (l.active.length + frame_length l.active.format (commit_frame h t.writes)) l.room)
          (committed l h t) _ goes (λ no. w)

      running_leaves : (conflict : Option Named) → Leaves (commit_running l h t conflict)
      running_leaves conflict =
          either (length t.writes == 0) _ _ end
          (λ some. either (nat_le max_commit_number (last_number h)) _ _ w (λ low. checked_leaves conflict))

      unless_leaves : (conflict : Option Named) (halted : Option FileName)
          → Leaves (commit_unless halted l h t conflict)
      unless_leaves conflict (Some name) = end
      unless_leaves conflict None = running_leaves conflict

      pub commit_leaves : Leaves (commit_ruling l h t)
      commit_leaves = unless_leaves (first_conflict h t.number t.reads) l.halted

    -- ---- a rotation, a flush, a relocation

    module _ (goes : P (rotated l) h) where
      rotate_of-leaves : (frames : List LogFrame) → Leaves (rotate_of frames l h)
      rotate_of-leaves [] = w
      rotate_of-leaves (f ∷ fs) =
          either (has_no_number l.next_log 1) _ _ w (λ one. either (has_no_epoch l) _ _ w (λ two. goes))

      rotate_unless-leaves : (halted : Option FileName) → Leaves (rotate_unless halted l h)
      rotate_unless-leaves (Some name) = w
      rotate_unless-leaves None = rotate_of-leaves l.active.frames

      pub rotate_leaves : Leaves (rotate_ruling l h)
      rotate_leaves = rotate_unless-leaves l.halted

    module _ (goes : (s : Segment) → P (flushed l s) h) where
      flush_of-leaves : (o : Option Segment) → Leaves (flush_of l h o)
      flush_of-leaves None = w
      flush_of-leaves (Some s) =
          either (has_no_number l.next_table 1) _ _ w (λ one. either (has_no_epoch l) _ _ w (λ two. goes s))

      flush_unless-leaves : (halted : Option FileName) → Leaves (flush_unless halted l h)
      flush_unless-leaves (Some name) = w
      flush_unless-leaves None = flush_of-leaves (oldest l.frozen)

      pub flush_leaves : Leaves (flush_ruling l h)
      flush_leaves = flush_unless-leaves l.halted

    module _ (goes : (moved : List Moved) → P (relocated l moved) h) where
      relocate_of-leaves : (moved : List Moved) → Leaves (relocate_of l h moved)
      relocate_of-leaves [] = w
      relocate_of-leaves (m ∷ ms) =
          either (has_no_epoch l) _ _ w
          (λ one. either (nat_le (l.active.length + frame_length l.active.format (Relocated (m ∷ ms))) l.room) _ _
          (goes (m ∷ ms)) (λ two. w))

      relocate_unless-leaves : (pass : Pass) (batch : List Candidate) (halted : Option FileName)
          → Leaves (relocate_unless halted l h pass batch)
      relocate_unless-leaves pass batch (Some name) = w
      relocate_unless-leaves pass batch None =
          relocate_of-leaves (moved_of (sources l) pass.segment (last_number h) batch)

      pub relocate_leaves : (pass : Pass) (batch : List Candidate) → Leaves (relocate_ruling l h pass batch)
      relocate_leaves pass batch = relocate_unless-leaves pass batch l.halted

    -- ---- jobs

    module _ (goes : (job : Job) → P (with_job job l) h) where
      plan_of-leaves : (o : Option ℕ) → Leaves (plan_of l h o)
      plan_of-leaves None = w
      plan_of-leaves (Some level) = goes _

      plan_unless-leaves : (o : Option OpenJob) → Leaves (plan_unless o l h)
      plan_unless-leaves (Some job) = w
      plan_unless-leaves None = plan_of-leaves (due_from 0 l.levels)

      pub plan_leaves : Leaves (plan_ruling l h)
      plan_leaves = plan_unless-leaves l.job

      drain_of-leaves : (o : Option Table) → Leaves (drain_of l h o)
      drain_of-leaves None = w
      drain_of-leaves (Some t) = goes _

      drain_unless-leaves : (segment : ℕ) (o : Option OpenJob) → Leaves (drain_unless o l h segment)
      drain_unless-leaves segment (Some job) = w
      drain_unless-leaves segment None = drain_of-leaves (first_into segment (tables l))

      pub drain_leaves : (segment : ℕ) → Leaves (drain_ruling l h segment)
      drain_leaves segment = drain_unless-leaves segment l.job

    module _ (goes : P (drawn l) h) where
      fresh_unless-leaves : (halted : Option FileName) → Leaves (fresh_unless halted l h)
      fresh_unless-leaves (Some name) = w
      fresh_unless-leaves None = either (has_no_number l.next_table 1) _ _ w (λ one. goes)

      pub fresh_leaves : Leaves (fresh_ruling l h)
      fresh_leaves = fresh_unless-leaves l.halted

    module _ (job : Job) (made : Made) (end : P (job_ended made l) h) (goes : P (installed job made l) h) where
      install_checked-leaves : (o : Option Named) → Leaves (install_checked l h job made o)
      install_checked-leaves (Some named) = end
      install_checked-leaves None = either (has_no_epoch l) _ _ end (λ one. goes)

      install_unless-leaves : (halted : Option FileName) → Leaves (install_unless halted l h job made)
      install_unless-leaves (Some name) = end
      install_unless-leaves None = install_checked-leaves (race job (moved_since l.job))

      pub install_leaves : Leaves (install_ruling l h job made)
      install_leaves = install_unless-leaves l.halted

    -- ---- a pass

    module _ (goes : (segment : ℕ) → P (with_pass segment l) h) where
      pick_best-leaves : (o : Option SegmentStat) → Leaves (pick_best l h o)
      pick_best-leaves None = w
      pick_best-leaves (Some x) = goes x.segment

      pick_unless-leaves : (percent : ℕ) (o : Option OpenPass) → Leaves (pick_unless o l h percent)
      pick_unless-leaves percent (Some pass) = w
      pick_unless-leaves percent None = pick_best-leaves (best l percent)

      pub pick_leaves : (percent : ℕ) → Leaves (pick_ruling l h percent)
      pick_leaves percent =
          either ((percent == 0) || nat_lt 99 percent) _ _ w (λ one. pick_unless-leaves percent l.pass)

    -- ---- a sweep, and how many versions are kept

    module _ (goes : (gone : List FileName) → P (without_files gone l) h) where
      sweep_unless-leaves : (least : Option ℕ) (halted : Option FileName) → Leaves (sweep_unless halted least l h)
      sweep_unless-leaves least (Some name) = w
      sweep_unless-leaves least None = goes (swept least l)

      pub sweep_leaves : Leaves (sweep_ruling l h)
      sweep_leaves = sweep_unless-leaves None l.halted

      pub sweep_to_leaves : (least : ℕ) → Leaves (sweep_to_ruling l h least)
      sweep_to_leaves least = sweep_unless-leaves (Some least) l.halted

    module _ (v : ℕ) (goes : P (keeping v h l) h) where
      keep_unless-leaves : (halted : Option FileName) → Leaves (keep_unless halted l h v)
      keep_unless-leaves (Some name) = w
      keep_unless-leaves None =
          either ((v == 0) || nat_lt 16 v) _ _ w (λ one. either (v == l.keep) _ _ w (λ two. goes))

      pub keep_leaves : Leaves (keep_ruling l h v)
      keep_leaves = keep_unless-leaves l.halted
