-- A log over which a pass goes lasts: whatever an engine does meanwhile, a log of its number among the sealed ones is that log.
use Rattle.std.specs.Prelude.{◌≡◌, ◌<◌, ℕ, ◌+◌, ◌==◌, ◌||◌, nat_le, nat_lt, if◌then◌else◌, Bool, true, false, not}
use Rattle.std.specs.Prelude.{List, [], ◌∷◌, length, Option, None, Some, refl}
use Rattle.std.proofs.Common.{sym, ap, subst, ◌∙◌, arith}
use Rattle.std.proofs.lemmas.Bool.Decides.{nat_tests}
use Rattle.vl_engine_laws.specs.Lasts.{Lasts}
use Rattle.vl_engine_laws.specs.Pointed.{layout_logs, segment_at}
use Rattle.vl_engine_laws.specs.laws.FlushTidy.{IsWider}
use Rattle.vl_engine_laws.specs.laws.SegmentLaws.{segment_wider}
use Rattle.vl_engine_model.specs.Garbage.{best}
use Rattle.vl_engine_model.specs.Jobs.{Made, job_ended}
use Rattle.vl_engine_model.specs.Levels.{due_from, in_front, inputs_at}
use Rattle.vl_engine_model.specs.Relocation.{Candidate, Pass, moved_of}
use Rattle.vl_engine_model.specs.Ruling.{Ruling, ended, halted_at, has_no_number, has_no_epoch, is_idle}
use Rattle.vl_engine_model.specs.Rulings.Abandon.{abandon_ruling}
use Rattle.vl_engine_model.specs.Rulings.Begin.{begin_ruling, begun}
use Rattle.vl_engine_model.specs.Rulings.Commit.{Transaction, commit_checked, commit_frame, commit_ruling, commit_running}
use Rattle.vl_engine_model.specs.Rulings.Commit.{commit_unless, committed}
use Rattle.vl_engine_model.specs.Rulings.EndPass.{end_pass_ruling, without_pass}
use Rattle.vl_engine_model.specs.Rulings.Flush.{flush_of, flush_ruling, flush_unless, flushed, flushed_table}
use Rattle.vl_engine_model.specs.Rulings.Fresh.{drawn, fresh_ruling, fresh_unless}
use Rattle.vl_engine_model.specs.Rulings.Install.{install_checked, install_ruling, install_unless, installed, moved_since, put_in, race}
use Rattle.vl_engine_model.specs.Rulings.Keep.{keep_ruling, keep_unless, keeping}
use Rattle.vl_engine_model.specs.Rulings.Pick.{pick_best, pick_ruling, pick_unless, with_pass}
use Rattle.vl_engine_model.specs.Rulings.Plan.{job_of, plan_of, plan_ruling, plan_unless, with_job}
use Rattle.vl_engine_model.specs.Rulings.Relocate.{relocate_of, relocate_ruling, relocate_unless, relocated}
use Rattle.vl_engine_model.specs.Rulings.Rotate.{rotate_of, rotate_ruling, rotate_unless, rotated}
use Rattle.vl_engine_model.specs.Sources.{but_oldest, oldest, sources}
use Rattle.vl_engine_model.specs.Tickets.{free_ticket, tickets_of}
use Rattle.vl_engine_model.specs.Tidy.{IsTidy, log_numbers, sealed}
use Rattle.vl_engine_model.specs.declared.file_name.FileName.{FileName}
use Rattle.vl_engine_model.specs.declared.job.Job.{Job}
use Rattle.vl_engine_model.specs.declared.job.OpenJob.{OpenJob}
use Rattle.vl_engine_model.specs.declared.job.OpenPass.{OpenPass}
use Rattle.vl_engine_model.specs.declared.job.Target.TheVariants.{Level}
use Rattle.vl_engine_model.specs.declared.layout.Layout.{Layout}
use Rattle.vl_engine_model.specs.declared.segment.Segment.{Segment}
use Rattle.vl_engine_model.specs.declared.segment.SegmentStat.{SegmentStat}
use Rattle.vl_engine_model_laws.specs.laws.TidyLogs.{sealed_same}
use Rattle.vl_engine_model.specs.Jobs.{AreDistinct}
use Rattle.vl_model.specs.Conflicts.{Named, first_conflict}
use Rattle.vl_model.specs.Frames.{frame_length}
use Rattle.vl_model.specs.History.{History, last_number}
use Rattle.vl_model.specs.Limits.{max_commit_number, max_live}
use Rattle.vl_model.specs.declared.log_frame.LogFrame.TheVariants.{Relocated}
use Rattle.vl_model.specs.declared.log_frame.LogFrame.{LogFrame}
use Rattle.vl_model.specs.declared.log_frame.Moved.{Moved}
use Rattle.vl_seglog.specs.declared.sealed.SealedLog.{SealedLog}

-- ---- fewer sealed logs

-- behind a flush those before it are among those,
pub flushed_wider : (l : Layout) (s : Segment) → oldest l.frozen ≡ Some s → AreDistinct (log_numbers (sealed l))
    → IsWider (sealed (flushed l s)) (sealed l)
flushed_wider l s waits distinct n log at =
    ap (λ (ss : List Segment). segment_at ss n) (sym (sealed_same l s waits))
    ∙ segment_wider (λ (x : Segment). not (is_idle unswitched x)) n log (but_oldest l.frozen) (s ∷ l.flushed)
    (subst (λ (ss : List Segment). AreDistinct (log_numbers ss)) (sym (sealed_same l s waits)) distinct) at
  where
    unswitched : Layout
    unswitched = record l {
      frozen = but_oldest l.frozen;
      flushed = s ∷ l.flushed;
      levels = in_front (flushed_table l s) l.levels;
      covered = (flushed l s).covered;
      next_table = l.next_table + 1;
      epoch = l.epoch + 1;
    }

-- and behind an install.
pub installed_wider : (l : Layout) (job : Job) (made : Made) → AreDistinct (log_numbers (sealed l))
    → IsWider (sealed (installed job made l)) (sealed l)
installed_wider l job made distinct n log at =
    segment_wider (λ (x : Segment). not (is_idle (put_in job made l) x)) n log l.frozen l.flushed distinct at

module _ {H : Type 0} (bytes : H → Option (List ℕ)) (log : SealedLog H) (l : Layout) (lasts : Lasts bytes log l) where
  -- what else changes doesn't matter
  pub lasts_by : (next : Layout) → IsWider (sealed next) (sealed l) → next.active.number ≡ l.active.number → Lasts bytes log next
  lasts_by next wider number = record {
    still = λ s at. lasts.still s (wider log.number s at);
    below = subst (λ (n : ℕ). log.number < n) (sym number) lasts.below;
  }

  pub lasts_same : (next : Layout) → sealed next ≡ sealed l → next.active.number ≡ l.active.number → Lasts bytes log next
  lasts_same next same = lasts_by next (λ n s at. ap (λ (ss : List Segment). segment_at ss n) (sym same) ∙ at)

  -- a halt
  pub lasts_halted : (name : FileName) → Lasts bytes log (halted_at name l)
  lasts_halted name = lasts_same (halted_at name l) refl refl

  -- a log that is sealed meanwhile has another number
  pub lasts_rotated : l.active.number < l.next_log → Lasts bytes log (rotated l)
  lasts_rotated drawn = record {
    still = λ s at. lasts.still s (sym (ap (λ (b : Bool). if b then Some l.active else segment_at (sealed l) log.number) other) ∙ at);
    below = let below = lasts.below in omega (arith, below, drawn);
  }
    where
      other : (l.active.number == log.number) ≡ false
      other = let below = lasts.below in grind (arith, nat_tests, below)

-- ---- ruling by ruling

module _ {H : Type 0} (bytes : H → Option (List ℕ)) (log : SealedLog H) (l : Layout) (h : History) (lasts : Lasts bytes log l) where
  -- it lasts behind the ruling
  abbrev pub LastsRuled : {A : Type 0} → Ruling A → Type 0
  LastsRuled r = Lasts bytes log r.layout

  either : {A : Type 0} (b : Bool) (x y : Ruling A) → LastsRuled x → LastsRuled y → LastsRuled (if b then x else y)
  either true x y one other = one
  either false x y one other = other

  same : (next : Layout) → sealed next ≡ sealed l → next.active.number ≡ l.active.number → Lasts bytes log next
  same = lasts_same bytes log l lasts

  -- begins and ends

  pub begin_lasts : LastsRuled (begin_ruling l h)
  begin_lasts = either (nat_le max_live (length l.live)) _ _ lasts
      (same (begun l (free_ticket (tickets_of l.live)) (last_number h)) refl refl)

  pub ended_lasts : (ticket : ℕ) → Lasts bytes log (ended ticket l)
  ended_lasts ticket = same (ended ticket l) refl refl

  -- commits

  checked_lasts : (t : Transaction) (conflict : Option Named) → LastsRuled (commit_checked l h t conflict)
  checked_lasts t (Some named) = ended_lasts t.ticket
  checked_lasts t None =
      either (nat_le (l.active.length + frame_length l.active.format (commit_frame h t.writes)) l.room) (committed l h t) _
      (same (committed l h t).layout refl refl) lasts

  running_lasts : (t : Transaction) (conflict : Option Named) → LastsRuled (commit_running l h t conflict)
  running_lasts t conflict =
      either (length t.writes == 0) _ _ (ended_lasts t.ticket)
      (either (nat_le max_commit_number (last_number h)) _ _ lasts (checked_lasts t conflict))

  commit_by : (halted : Option FileName) (t : Transaction) (conflict : Option Named)
      → LastsRuled (commit_unless halted l h t conflict)
  commit_by (Some name) t conflict = ended_lasts t.ticket
  commit_by None t conflict = running_lasts t conflict

  pub commit_lasts : (t : Transaction) → LastsRuled (commit_ruling l h t)
  commit_lasts t = commit_by l.halted t (first_conflict h t.number t.reads)

  -- rotations

  rotate_by : l.active.number < l.next_log → (frames : List LogFrame) → LastsRuled (rotate_of frames l h)
  rotate_by drawn [] = lasts
  rotate_by drawn (f ∷ fs) =
      either (has_no_number l.next_log 1) _ _ lasts
      (either (has_no_epoch l) _ _ lasts (lasts_rotated bytes log l lasts drawn))

  rotate_halted : l.active.number < l.next_log → (halted : Option FileName) → LastsRuled (rotate_unless halted l h)
  rotate_halted drawn (Some name) = lasts
  rotate_halted drawn None = rotate_by drawn l.active.frames

  pub rotate_lasts : IsTidy (layout_logs l) l h → LastsRuled (rotate_ruling l h)
  rotate_lasts tidy = rotate_halted tidy.files.stocked.logs_drawn.0 l.halted

  -- flushes

  flush_by : AreDistinct (log_numbers (sealed l)) → (o : Option Segment) → oldest l.frozen ≡ o → LastsRuled (flush_of l h o)
  flush_by distinct None waits = lasts
  flush_by distinct (Some s) waits =
      either (has_no_number l.next_table 1) _ _ lasts
      (either (has_no_epoch l) _ _ lasts
      (lasts_by bytes log l lasts (flushed l s) (flushed_wider l s waits distinct) refl))

  flush_halted : AreDistinct (log_numbers (sealed l)) → (halted : Option FileName) → LastsRuled (flush_unless halted l h)
  flush_halted distinct (Some name) = lasts
  flush_halted distinct None = flush_by distinct (oldest l.frozen) refl

  pub flush_lasts : IsTidy (layout_logs l) l h → LastsRuled (flush_ruling l h)
  flush_lasts tidy = flush_halted tidy.distinct.1 l.halted

  -- merges

  plan_by : (o : Option ℕ) → LastsRuled (plan_of l h o)
  plan_by None = lasts
  plan_by (Some level) = same (with_job (job_of l h (inputs_at level l.levels) (Level (level + 1))) l) refl refl

  plan_open : (o : Option OpenJob) → LastsRuled (plan_unless o l h)
  plan_open (Some job) = lasts
  plan_open None = plan_by (due_from 0 l.levels)

  pub plan_lasts : LastsRuled (plan_ruling l h)
  plan_lasts = plan_open l.job

  fresh_by : (halted : Option FileName) → LastsRuled (fresh_unless halted l h)
  fresh_by (Some name) = lasts
  fresh_by None = either (has_no_number l.next_table 1) _ _ lasts (same (drawn l) refl refl)

  pub fresh_lasts : LastsRuled (fresh_ruling l h)
  fresh_lasts = fresh_by l.halted

  pub job_ended_lasts : (made : Made) → Lasts bytes log (job_ended made l)
  job_ended_lasts made = same (job_ended made l) refl refl

  pub abandon_lasts : (job : Job) (made : Made) → LastsRuled (abandon_ruling l h job made)
  abandon_lasts job made = job_ended_lasts made

  install_by : AreDistinct (log_numbers (sealed l)) → (job : Job) (made : Made) (raced : Option Named)
      → LastsRuled (install_checked l h job made raced)
  install_by distinct job made (Some named) = job_ended_lasts made
  install_by distinct job made None =
      either (has_no_epoch l) _ _ (job_ended_lasts made)
      (lasts_by bytes log l lasts (installed job made l) (installed_wider l job made distinct) refl)

  install_halted : AreDistinct (log_numbers (sealed l)) → (halted : Option FileName) (job : Job) (made : Made)
      → LastsRuled (install_unless halted l h job made)
  install_halted distinct (Some name) job made = job_ended_lasts made
  install_halted distinct None job made = install_by distinct job made (race job (moved_since l.job))

  pub install_lasts : IsTidy (layout_logs l) l h → (job : Job) (made : Made) → LastsRuled (install_ruling l h job made)
  install_lasts tidy = install_halted tidy.distinct.1 l.halted

  -- how many versions are kept

  keep_by : (halted : Option FileName) (v : ℕ) → LastsRuled (keep_unless halted l h v)
  keep_by (Some name) v = lasts
  keep_by None v =
      either ((v == 0) || nat_lt 16 v) _ _ lasts (either (v == l.keep) _ _ lasts (same (keeping v h l) refl refl))

  pub keep_lasts : (v : ℕ) → LastsRuled (keep_ruling l h v)
  keep_lasts = keep_by l.halted

  -- passes

  relocate_by : (moved : List Moved) → LastsRuled (relocate_of l h moved)
  relocate_by [] = lasts
  relocate_by (m ∷ ms) =
      either (has_no_epoch l) _ _ lasts
      (either (nat_le (l.active.length + frame_length l.active.format (Relocated (m ∷ ms))) l.room) _ _
      (same (relocated l (m ∷ ms)) refl refl) lasts)

  relocate_halted : (halted : Option FileName) (pass : Pass) (batch : List Candidate)
      → LastsRuled (relocate_unless halted l h pass batch)
  relocate_halted (Some name) pass batch = lasts
  relocate_halted None pass batch = relocate_by (moved_of (sources l) pass.segment (last_number h) batch)

  pub relocate_lasts : (pass : Pass) (batch : List Candidate) → LastsRuled (relocate_ruling l h pass batch)
  relocate_lasts = relocate_halted l.halted

  pick_by : (o : Option SegmentStat) → LastsRuled (pick_best l h o)
  pick_by None = lasts
  pick_by (Some x) = same (with_pass x.segment l) refl refl

  pick_open : (o : Option OpenPass) (percent : ℕ) → LastsRuled (pick_unless o l h percent)
  pick_open (Some pass) percent = lasts
  pick_open None percent = pick_by (best l percent)

  pub pick_lasts : (percent : ℕ) → LastsRuled (pick_ruling l h percent)
  pick_lasts percent = either ((percent == 0) || nat_lt 99 percent) _ _ lasts (pick_open l.pass percent)

  pub end_pass_lasts : (pass : Pass) → LastsRuled (end_pass_ruling l h pass)
  end_pass_lasts pass = same (without_pass l) refl refl
