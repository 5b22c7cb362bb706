-- Whatever a call answers, the numbers to be drawn next don't fall.
use Rattle.std.proofs.Common.{◌≡◌, ℕ, ◌+◌, Bool, true, false, List, [], ◌∷◌, length, refl, arith}
use Rattle.std.specs.Prelude.{◌||◌, Option, Some, None, nat_le, nat_lt, ◌==◌, if◌then◌else◌}
use Rattle.vl_model.specs.Conflicts.{Named, first_conflict}
use Rattle.vl_model.specs.Frames.{frame_length}
use Rattle.vl_model.specs.History.{History, last_number}
use Rattle.vl_model.specs.Limits.{max_commit_number, max_live}
use Rattle.vl_model.specs.declared.log_frame.LogFrame.{LogFrame}
use Rattle.vl_model.specs.declared.log_frame.LogFrame.TheVariants.{Relocated}
use Rattle.vl_model.specs.declared.log_frame.Moved.{Moved}
use Rattle.vl_engine_model.specs.Jobs.{Made}
use Rattle.vl_engine_model.specs.Relocation.{Pass, Candidate, moved_of}
use Rattle.vl_engine_model.specs.Ruling.{Ruling, has_no_number, has_no_epoch}
use Rattle.vl_engine_model.specs.Rulings.Begin.{begin_ruling}
use Rattle.vl_engine_model.specs.Rulings.Commit.{Transaction, committed, commit_checked, commit_running, commit_unless}
use Rattle.vl_engine_model.specs.Rulings.Commit.{commit_ruling, commit_frame}
use Rattle.vl_engine_model.specs.Rulings.Flush.{flushed, flush_of, flush_unless, flush_ruling}
use Rattle.vl_engine_model.specs.Rulings.Fresh.{drawn, fresh_unless, fresh_ruling}
use Rattle.vl_engine_model.specs.Rulings.Keep.{keep_unless, keep_ruling}
use Rattle.vl_engine_model.specs.Rulings.Relocate.{relocate_of, relocate_unless, relocate_ruling}
use Rattle.vl_engine_model.specs.Rulings.Rotate.{rotated, rotate_of, rotate_unless, rotate_ruling}
use Rattle.vl_engine_model.specs.Rulings.Sweep.{sweep_unless}
use Rattle.vl_engine_model.specs.Sources.{oldest, sources, tables}
use Rattle.vl_engine_model.specs.Stock.{HaveRisen}
use Rattle.vl_engine_model.specs.declared.file_name.FileName.{FileName}
use Rattle.vl_engine_model.specs.declared.job.Job.{Job}
use Rattle.vl_engine_model.specs.declared.job.OpenJob.{OpenJob}
use Rattle.vl_engine_model.specs.declared.layout.Layout.{Layout}
use Rattle.vl_engine_model.specs.declared.segment.Segment.{Segment}
use Rattle.vl_engine_model.specs.declared.table.Table.{Table}
use Rattle.vl_engine_model.specs.Levels.{due_from, first_into}
use Rattle.vl_engine_model.specs.Garbage.{best}
use Rattle.vl_engine_model.specs.Rulings.Abandon.{abandon_ruling}
use Rattle.vl_engine_model.specs.Rulings.Drain.{drain_of, drain_unless, drain_ruling}
use Rattle.vl_engine_model.specs.Rulings.EndPass.{end_pass_ruling}
use Rattle.vl_engine_model.specs.Rulings.Forget.{forget_ruling}
use Rattle.vl_engine_model.specs.Rulings.Install.{race, moved_since, install_checked, install_unless, install_ruling}
use Rattle.vl_engine_model.specs.Rulings.Pick.{pick_best, pick_unless, pick_ruling}
use Rattle.vl_engine_model.specs.Rulings.Plan.{plan_of, plan_unless, plan_ruling}
use Rattle.vl_engine_model.specs.Rulings.Release.{release_ruling}
use Rattle.vl_engine_model.specs.Rulings.Sweep.{sweep_ruling, sweep_to_ruling}
use Rattle.vl_engine_model.specs.Rulings.View.{View}
use Rattle.vl_engine_model.specs.declared.job.OpenPass.{OpenPass}
use Rattle.vl_engine_model.specs.declared.segment.SegmentStat.{SegmentStat}

-- no number that was drawn is drawn again
abbrev Rises : {A : Type 0} → Layout → Ruling A → Type 0
Rises l r = HaveRisen l r.layout

either : {A : Type 0} (l : Layout) (b : Bool) (x y : Ruling A) → Rises l x → Rises l y → Rises l (if b then x else y)
either l true x y one other = one
either l false x y one other = other

module _ (l : Layout) (h : History) where
  w : HaveRisen l l
  w = record { log = omega arith; table = omega arith }

  log_more : HaveRisen l (rotated l)
  log_more = record { log = omega arith; table = omega arith }

  table_more : (x : Layout) → x.next_log ≡ l.next_log → x.next_table ≡ l.next_table + 1 → HaveRisen l x
  table_more x log table = record { log = omega (arith, log); table = omega (arith, table) }

  pub begin_rises : Rises l (begin_ruling l h)
  begin_rises = either l (nat_le max_live (length l.live)) _ _ w (record { log = omega arith; table = omega arith })

  -- ---- a commit

  checked_rises : (t : Transaction) (conflict : Option Named) → Rises l (commit_checked l h t conflict)
  checked_rises t (Some named) = record { log = omega arith; table = omega arith }
  checked_rises t None =
      either l (nat_le (l.active.length + frame_length l.active.format (commit_frame h t.writes)) l.room)
      (committed l h t) _ (record { log = omega arith; table = omega arith }) w

  running_rises : (t : Transaction) (conflict : Option Named) → Rises l (commit_running l h t conflict)
  running_rises t conflict =
      either l (length t.writes == 0) _ _ (record { log = omega arith; table = omega arith })
      (either l (nat_le max_commit_number (last_number h)) _ _ w (checked_rises t conflict))

  unless_rises : (t : Transaction) (conflict : Option Named) (halted : Option FileName)
      → Rises l (commit_unless halted l h t conflict)
  unless_rises t conflict (Some name) = record { log = omega arith; table = omega arith }
  unless_rises t conflict None = running_rises t conflict

  pub commit_rises : (t : Transaction) → Rises l (commit_ruling l h t)
  commit_rises t = unless_rises t (first_conflict h t.number t.reads) l.halted

  pub forget_rises : (t : Transaction) → Rises l (forget_ruling l h t)
  forget_rises t = record { log = omega arith; table = omega arith }

  pub release_rises : (v : View) → Rises l (release_ruling l h v)
  release_rises v = record { log = omega arith; table = omega arith }

  -- ---- a rotation, a flush, a relocation

  rotate_of-rises : (frames : List LogFrame) → Rises l (rotate_of frames l h)
  rotate_of-rises [] = w
  rotate_of-rises (f ∷ fs) =
      either l (has_no_number l.next_log 1) _ _ w (either l (has_no_epoch l) _ _ w log_more)

  rotate_unless-rises : (halted : Option FileName) → Rises l (rotate_unless halted l h)
  rotate_unless-rises (Some name) = w
  rotate_unless-rises None = rotate_of-rises l.active.frames

  pub rotate_rises : Rises l (rotate_ruling l h)
  rotate_rises = rotate_unless-rises l.halted

  flush_of-rises : (o : Option Segment) → oldest l.frozen ≡ o
      → Rises l (flush_of l h o)
  flush_of-rises None is = w
  flush_of-rises (Some s) is =
      either l (has_no_number l.next_table 1) _ _ w (either l (has_no_epoch l) _ _ w (table_more (flushed l s) refl refl))

  flush_unless-rises : (halted : Option FileName) → Rises l (flush_unless halted l h)
  flush_unless-rises (Some name) = w
  flush_unless-rises None = flush_of-rises (oldest l.frozen) refl

  pub flush_rises : Rises l (flush_ruling l h)
  flush_rises = flush_unless-rises l.halted

  relocate_of-rises : (moved : List Moved) → Rises l (relocate_of l h moved)
  relocate_of-rises [] = w
  relocate_of-rises (m ∷ ms) =
      either l (has_no_epoch l) _ _ w
      (either l (nat_le (l.active.length + frame_length l.active.format (Relocated (m ∷ ms))) l.room) _ _
      (record { log = omega arith; table = omega arith }) w)

  relocate_unless-rises : (pass : Pass) (batch : List Candidate) (halted : Option FileName)
      → Rises l (relocate_unless halted l h pass batch)
  relocate_unless-rises pass batch (Some name) = w
  relocate_unless-rises pass batch None =
      relocate_of-rises (moved_of (sources l) pass.segment (last_number h) batch)

  pub relocate_rises : (pass : Pass) (batch : List Candidate) → Rises l (relocate_ruling l h pass batch)
  relocate_rises pass batch = relocate_unless-rises pass batch l.halted

  -- ---- jobs

  plan_of-rises : (o : Option ℕ) → Rises l (plan_of l h o)
  plan_of-rises None = w
  plan_of-rises (Some level) = record { log = omega arith; table = omega arith }

  plan_unless-rises : (o : Option OpenJob) → Rises l (plan_unless o l h)
  plan_unless-rises (Some job) = w
  plan_unless-rises None = plan_of-rises (due_from 0 l.levels)

  pub plan_rises : Rises l (plan_ruling l h)
  plan_rises = plan_unless-rises l.job

  drain_of-rises : (o : Option Table) → Rises l (drain_of l h o)
  drain_of-rises None = w
  drain_of-rises (Some t) = record { log = omega arith; table = omega arith }

  drain_unless-rises : (segment : ℕ) (o : Option OpenJob) → Rises l (drain_unless o l h segment)
  drain_unless-rises segment (Some job) = w
  drain_unless-rises segment None = drain_of-rises (first_into segment (tables l))

  pub drain_rises : (segment : ℕ) → Rises l (drain_ruling l h segment)
  drain_rises segment = drain_unless-rises segment l.job

  fresh_unless-rises : (halted : Option FileName) → Rises l (fresh_unless halted l h)
  fresh_unless-rises (Some name) = w
  fresh_unless-rises None = either l (has_no_number l.next_table 1) _ _ w (table_more (drawn l) refl refl)

  pub fresh_rises : Rises l (fresh_ruling l h)
  fresh_rises = fresh_unless-rises l.halted

  pub abandon_rises : (job : Job) (made : Made) → Rises l (abandon_ruling l h job made)
  abandon_rises job made = record { log = omega arith; table = omega arith }

  module _ (job : Job) (made : Made) where
    install_checked-rises : (o : Option Named) → Rises l (install_checked l h job made o)
    install_checked-rises (Some named) = record { log = omega arith; table = omega arith }
    install_checked-rises None =
        either l (has_no_epoch l) _ _ (record { log = omega arith; table = omega arith })
        (record { log = omega arith; table = omega arith })

    install_unless-rises : (halted : Option FileName) → Rises l (install_unless halted l h job made)
    install_unless-rises (Some name) = record { log = omega arith; table = omega arith }
    install_unless-rises None = install_checked-rises (race job (moved_since l.job))

    pub install_rises : Rises l (install_ruling l h job made)
    install_rises = install_unless-rises l.halted

  -- ---- a pass

  pick_best-rises : (o : Option SegmentStat) → Rises l (pick_best l h o)
  pick_best-rises None = w
  pick_best-rises (Some x) = record { log = omega arith; table = omega arith }

  pick_unless-rises : (percent : ℕ) (o : Option OpenPass) → Rises l (pick_unless o l h percent)
  pick_unless-rises percent (Some pass) = w
  pick_unless-rises percent None = pick_best-rises (best l percent)

  pub pick_rises : (percent : ℕ) → Rises l (pick_ruling l h percent)
  pick_rises percent = either l ((percent == 0) || nat_lt 99 percent) _ _ w (pick_unless-rises percent l.pass)

  pub end_pass_rises : (pass : Pass) → Rises l (end_pass_ruling l h pass)
  end_pass_rises pass = record { log = omega arith; table = omega arith }

  -- ---- a sweep, and how many versions are kept

  sweep_unless-rises : (least : Option ℕ) (halted : Option FileName) → Rises l (sweep_unless halted least l h)
  sweep_unless-rises least (Some name) = w
  sweep_unless-rises least None = record { log = omega arith; table = omega arith }

  pub sweep_rises : Rises l (sweep_ruling l h)
  sweep_rises = sweep_unless-rises None l.halted

  pub sweep_to_rises : (least : ℕ) → Rises l (sweep_to_ruling l h least)
  sweep_to_rises least = sweep_unless-rises (Some least) l.halted

  keep_unless-rises : (v : ℕ) (halted : Option FileName) → Rises l (keep_unless halted l h v)
  keep_unless-rises v (Some name) = w
  keep_unless-rises v None =
      either l ((v == 0) || nat_lt 16 v) _ _ w (either l (v == l.keep) _ _ w (record { log = omega arith; table = omega arith }))

  pub keep_rises : (v : ℕ) → Rises l (keep_ruling l h v)
  keep_rises v = keep_unless-rises v l.halted
