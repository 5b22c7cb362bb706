-- What a rotation, a flush and an install leave of a tally, and what a tally tells of its layout.
use Rattle.std.proofs.Common.{◌≡◌, ℕ, ◌+◌, ◌-◌, ◌^◌, min, Bool, true, false, cond, List, [], ◌∷◌, ◌++◌, map, length}
use Rattle.std.proofs.Common.{refl, ap, sym, ◌∙◌, subst, arith}
use Rattle.std.proofs.lemmas.List.Sums.{sum_by-cons}
use Rattle.std.specs.Prelude.{Option, Some, None, if◌then◌else◌}
use Rattle.std.specs.FinMap.{put}
use Rattle.std.specs.List.{filter}
use Rattle.std.specs.Ordering.{nat_cmp}
use Rattle.vl_model.specs.Conflicts.{Named}
use Rattle.vl_model.specs.History.{History}
use Rattle.vl_model.specs.Limits.{max_level}
use Rattle.vl_model.specs.Winners.{Logs}
use Rattle.vl_model.specs.declared.log_frame.LogFrame.{LogFrame}
use Rattle.vl_engine_model.specs.Garbage.{pointed_bytes, stat_of}
use Rattle.vl_engine_model.specs.Jobs.{Made}
use Rattle.vl_engine_model.specs.Levels.{in_front, is_among}
use Rattle.vl_engine_model.specs.OpenJobs.{IsFitted, IsIdle, IsRoomy}
use Rattle.vl_engine_model.specs.Ruling.{Ruling, StepAnswer, Stepped, has_no_number, has_no_epoch}
use Rattle.vl_engine_model.specs.Rulings.Flush.{covered_by, flush_of, flush_ruling, flush_unless, flushed, flushed_table}
use Rattle.vl_engine_model.specs.Rulings.Install.{InstallAnswer, Installed, install_checked, install_ruling, install_unless}
use Rattle.vl_engine_model.specs.Rulings.Install.{installed, moved_since, put_in, race}
use Rattle.vl_engine_model.specs.Rulings.Rotate.{rotate_of, rotate_ruling, rotate_unless, rotated}
use Rattle.vl_engine_model.specs.Rulings.Stats.{segments, told}
use Rattle.vl_engine_model.specs.Sources.{but_oldest, oldest, rising, tables}
use Rattle.vl_engine_model.specs.Stock.{IsFalling}
use Rattle.vl_engine_model.specs.Tidy.{IsTidy, sealed}
use Rattle.vl_engine_model.specs.declared.file_name.FileName.{FileName}
use Rattle.vl_engine_model.specs.declared.job.Job.{Job}
use Rattle.vl_engine_model.specs.declared.job.OpenJob.{OpenJob}
use Rattle.vl_engine_model.specs.declared.job.Target.{Target}
use Rattle.vl_engine_model.specs.declared.job.Target.TheVariants.{Level, InPlace}
use Rattle.vl_engine_model.specs.declared.layout.Layout.{Layout}
use Rattle.vl_engine_model.specs.declared.segment.Segment.{Segment}
use Rattle.vl_engine_model.specs.declared.table.Table.{Table}
use Rattle.vl_engine_model_laws.specs.laws.LiveBytes.{live-flushed, live-installed_level, live-installed_in_place}
use Rattle.vl_engine_model_laws.specs.laws.TidyLogs.{sealed_same}
use Rattle.vl_stats.specs.Live.{AreOf, IsSwitch}
use Rattle.vl_stats.specs.Tallies.{IsOfLayout, IsTally, Tallied, length_of, lengths_of, stat_by, stays}
use Rattle.vl_stats.specs.laws.TallyLaws.{falling_less, lengths_put, switched_logs}

-- ---- calls that are done

-- what is so of each layout that a call leaves where it is done is so of what its ruling leaves
module _ (P : Layout → Type 0) (l : Layout) (h : History) where
  abbrev StepLeaves : ℕ → Ruling StepAnswer → Type 0
  StepLeaves n r = r.answer ≡ Stepped n → P r.layout

  one_step : (n : ℕ) (b : Bool) (r s : Ruling StepAnswer) → StepLeaves n r → StepLeaves n s → StepLeaves n (if b then r else s)
  one_step n true r s one other = one
  one_step n false r s one other = other

  module _ (goes : P (rotated l)) (n : ℕ) where
    frames_leave : (fs : List LogFrame) → StepLeaves n (rotate_of fs l h)
    frames_leave [] = λ is. absurd cc
    frames_leave (f ∷ fs) =
        one_step n (has_no_number l.next_log 1) _ _ (λ is. absurd cc)
        (one_step n (has_no_epoch l) _ _ (λ is. absurd cc) (λ is. goes))

    unhalted_rotation : (o : Option FileName) → StepLeaves n (rotate_unless o l h)
    unhalted_rotation (Some name) = λ is. absurd cc
    unhalted_rotation None = frames_leave l.active.frames

    pub rotation_leaves : StepLeaves n (rotate_ruling l h)
    rotation_leaves = unhalted_rotation l.halted

  module _ (goes : (s : Segment) → oldest l.frozen ≡ Some s → P (flushed l s)) (n : ℕ) where
    oldest_leaves : (o : Option Segment) → oldest l.frozen ≡ o → StepLeaves n (flush_of l h o)
    oldest_leaves None waits = λ is. absurd cc
    oldest_leaves (Some s) waits =
        one_step n (has_no_number l.next_table 1) _ _ (λ is. absurd cc)
        (one_step n (has_no_epoch l) _ _ (λ is. absurd cc) (λ is. goes s waits))

    unhalted_flush : (o : Option FileName) → StepLeaves n (flush_unless o l h)
    unhalted_flush (Some name) = λ is. absurd cc
    unhalted_flush None = oldest_leaves (oldest l.frozen) refl

    pub flush_leaves : StepLeaves n (flush_ruling l h)
    flush_leaves = unhalted_flush l.halted

  abbrev InstallLeaves : Ruling InstallAnswer → Type 0
  InstallLeaves r = r.answer ≡ Installed → P r.layout

  one_install : (b : Bool) (r s : Ruling InstallAnswer) → InstallLeaves r → InstallLeaves s → InstallLeaves (if b then r else s)
  one_install true r s one other = one
  one_install false r s one other = other

  module _ (job : Job) (made : Made) (goes : P (installed job made l)) where
    raced_leaves : (o : Option Named) → InstallLeaves (install_checked l h job made o)
    raced_leaves (Some named) = λ is. absurd cc
    raced_leaves None = one_install (has_no_epoch l) _ _ (λ is. absurd cc) (λ is. goes)

    unhalted_install : (o : Option FileName) → InstallLeaves (install_unless o l h job made)
    unhalted_install (Some name) = λ is. absurd cc
    unhalted_install None = raced_leaves (race job (moved_since l.job))

    pub install_leaves : InstallLeaves (install_ruling l h job made)
    install_leaves = unhalted_install l.halted

-- ---- live bytes

some_level : (levels : List (List Table)) (n : ℕ) → length levels ≡ n + 1
    → (level : List Table) × (deeper : List (List Table)) × (levels ≡ level ∷ deeper)
some_level [] n is = absurd (omega (arith, is))
some_level (level ∷ deeper) n is = (level, deeper, refl)

pub switch_flushed : (logs : Logs) (l : Layout) (h : History) (s : Segment) → IsTidy logs l h
    → IsSwitch (tables l) (flushed_table l s ∷ []) [] (tables (flushed l s))
switch_flushed logs l h s tidy = λ segment.
    let some = some_level l.levels max_level tidy.levels.seven in
    let a = live-flushed segment l s some.0 some.1 some.2 in
    let b = sum_by-cons (λ (t : Table). pointed_bytes segment t.points) (flushed_table l s) [] in
    omega (arith, a, b)

idle_filtered : (inputs : List ℕ) (ts : List Table) → IsIdle inputs ts → filter (is_among inputs) ts ≡ []
idle_filtered inputs [] idle = refl
idle_filtered inputs (t ∷ ts) idle =
    ap (λ b. cond b (t ∷ filter (is_among inputs) ts) (filter (is_among inputs) ts)) idle.0 ∙ idle_filtered inputs ts idle.1

one_filtered : (inputs : List ℕ) (xs : List Table) (t : Table) (ys : List Table) → IsIdle inputs xs → is_among inputs t ≡ true
    → IsIdle inputs ys → filter (is_among inputs) (xs ++ t ∷ ys) ≡ t ∷ []
one_filtered inputs [] t ys before here behind =
    ap (λ b. cond b (t ∷ filter (is_among inputs) ys) (filter (is_among inputs) ys)) here
    ∙ ap (λ (zs : List Table). t ∷ zs) (idle_filtered inputs ys behind)
one_filtered inputs (x ∷ xs) t ys before here behind =
    ap (λ b. cond b (x ∷ filter (is_among inputs) (xs ++ t ∷ ys)) (filter (is_among inputs) (xs ++ t ∷ ys))) before.0
    ∙ one_filtered inputs xs t ys before.1 here behind

pub switch_installed : (logs : Logs) (l : Layout) (h : History) (o : OpenJob) (made : Made) → IsTidy logs l h → l.job ≡ Some o
    → IsSwitch (tables l) made.tables (filter (is_among o.job.inputs) (tables l)) (tables (installed o.job made l))
switch_installed logs l h o made tidy is =
    let well = tidy.job o is in
    by o.job.target refl well.roomy well.fitted
  where
    by : (to : Target) → o.job.target ≡ to → IsRoomy l.levels o.job to → IsFitted l o.job to
        → IsSwitch (tables l) made.tables (filter (is_among o.job.inputs) (tables l)) (tables (installed o.job made l))
    by (Level n) to roomy fitted = λ segment. live-installed_level segment l o.job made n to roomy.1.0
    by InPlace to roomy fitted = λ segment.
        live-installed_in_place segment l o.job made to
        (ap (λ (ts : List Table). length (filter (is_among o.job.inputs) ts)) fitted.3
        ∙ ap (λ (ts : List Table). length ts)
        (one_filtered o.job.inputs fitted.0 fitted.1 fitted.2 fitted.4.0 fitted.4.1.0 fitted.4.1.1))

-- ---- tallies

module _ (old new : Tallied) (l : Layout) (old_is : IsTally old l) where
  pub tally_rotated : (log : ℕ × ℕ) → log ≡ length_of l.active → new.logs ≡ put nat_cmp log.0 log.1 old.logs
      → new.live ≡ old.live → IsTally new (rotated l)
  tally_rotated log active logs live = record {
    logs = logs
        ∙ ap (λ (x : ℕ × ℕ). put nat_cmp x.0 x.1 old.logs) active
        ∙ ap (put nat_cmp l.active.number l.active.length) old_is.logs
        ∙ sym (lengths_put l.active (rising (sealed l)));
    live = subst (AreOf (tables l)) (sym live) old_is.live;
  }

  module _ (live : List (ℕ × ℕ)) (number : ℕ) (logs : new.logs ≡ filter (stays number live) old.logs) (live_now : new.live ≡ live)
      (falling : IsFalling (l.active ∷ l.frozen)) where
    -- with the table of a log, before files retire
    abbrev with_table : Segment → Layout
    with_table s = record l {
      frozen = but_oldest l.frozen;
      flushed = s ∷ l.flushed;
      levels = in_front (flushed_table l s) l.levels;
      covered = covered_by s.frames l.covered;
      next_table = l.next_table + 1;
      epoch = l.epoch + 1;
    }

    pub tally_flushed : (s : Segment) → oldest l.frozen ≡ Some s → IsOfLayout live number (flushed l s) → IsTally new (flushed l s)
    tally_flushed s waits of = record {
      logs = logs
          ∙ ap (filter (stays number live)) (old_is.logs ∙ ap (λ ss. lengths_of (rising ss)) (sym (sealed_same l s waits)))
          ∙ sym (switched_logs (with_table s) [] (falling_less l.active l.frozen falling) live number of);
      live = subst (AreOf (tables (flushed l s))) (sym live_now) of.live_is;
    }

    pub tally_installed : (job : Job) (made : Made) → IsOfLayout live number (installed job made l) → IsTally new (installed job made l)
    tally_installed job made of = record {
      logs = logs
          ∙ ap (filter (stays number live)) old_is.logs
          ∙ sym (switched_logs (put_in job made l) (filter (is_among job.inputs) (tables l)) falling live number of);
      live = subst (AreOf (tables (installed job made l))) (sym live_now) of.live_is;
    }

-- ---- what is told

told_are : (live : List (ℕ × ℕ)) (ts : List Table) → AreOf ts live → (ss : List Segment)
    → map (λ (log : ℕ × ℕ). told (stat_by live log)) (lengths_of ss) ≡ map (λ (s : Segment). told (stat_of ts s)) ss
told_are live ts of [] = refl
told_are live ts of (s ∷ ss) =
    ap (λ (n : ℕ). record { segment = s.number; bytes = s.length - 16; live = min n (2 ^ 64 - 1) }
    ∷ map (λ (log : ℕ × ℕ). told (stat_by live log)) (lengths_of ss)) (of s.number)
    ∙ ap (λ xs. told (stat_of ts s) ∷ xs) (told_are live ts of ss)

pub stats_of_tally : (tally : Tallied) (l : Layout) (active : ℕ × ℕ) → IsTally tally l → active ≡ length_of l.active
    → map (λ (log : ℕ × ℕ). told (stat_by tally.live log)) (put nat_cmp active.0 active.1 tally.logs)
    ≡ map (λ (s : Segment). told (stat_of (tables l) s)) (segments l)
stats_of_tally tally l active is active_is =
    ap (map (λ (log : ℕ × ℕ). told (stat_by tally.live log)))
    (ap (λ (x : ℕ × ℕ). put nat_cmp x.0 x.1 tally.logs) active_is
    ∙ ap (put nat_cmp l.active.number l.active.length) is.logs
    ∙ sym (lengths_put l.active (rising (sealed l))))
    ∙ told_are tally.live (tables l) is.live (segments l)
