-- What an engine keeps of where space comes back from stays what the layout has of it, where logs, tables and the
-- open pass stay.
use Rattle.std.proofs.Common.{◌≡◌, ℕ, List, [], ◌∷◌, length, refl, sym, ap, ◌∙◌, subst, T}
use Rattle.std.specs.Prelude.{Bool, true, false, IsTrue, ◌==◌, ◌+◌, nat_le, if◌then◌else◌, Option, None, Some, Vec, is_some}
use Rattle.std.specs.Global.{Global}
use Rattle.std.specs.List.{AllByRecursion}
use Rattle.std.specs.Option.{option_map}
use Rattle.vl_engine_laws.specs.Passing.{AreReadable}
use Rattle.vl_engine_laws.specs.declared.kept.Core.{Core}
use Rattle.vl_space.specs.Collecting.{Collects, Tallies}
use Rattle.vl_space.specs.declared.kept.Collecting.{Collecting}
use Rattle.vl_engine_model.specs.Decides.{Decides, Effects, Outcome, as_before}
use Rattle.vl_engine_model.specs.Ruling.{Ruling, halted_at, has_no_number, has_no_epoch, leaving}
use Rattle.vl_engine_model.specs.Rulings.Begin.{begin_ruling}
use Rattle.vl_engine_model.specs.Rulings.Commit as commit
use Rattle.vl_engine_model.specs.Rulings.Commit.{CommitAnswer, Transaction, commit_checked}
use Rattle.vl_engine_model.specs.Rulings.Commit.{commit_ended, commit_frame, commit_lost, commit_ruling}
use Rattle.vl_engine_model.specs.Rulings.Commit.{commit_running, commit_unless, committed}
use Rattle.vl_engine_model.specs.Levels.{due_from, first_into}
use Rattle.vl_engine_model.specs.Relocation.{Candidate, Pass, moved_of}
use Rattle.vl_engine_model.specs.Rulings.Drain.{drain_of, drain_ruling, drain_unless}
use Rattle.vl_engine_model.specs.Rulings.Fresh.{fresh_ruling, fresh_unless}
use Rattle.vl_engine_model.specs.Rulings.Plan.{plan_of, plan_ruling, plan_unless}
use Rattle.vl_engine_model.specs.Rulings.Relocate.{relocate_of, relocate_ruling, relocate_unless}
use Rattle.vl_engine_model.specs.Sources.{rising, sources, tables}
use Rattle.vl_engine_model.specs.Tidy.{log_numbers, sealed}
use Rattle.vl_engine_model.specs.declared.file_name.FileName.{FileName}
use Rattle.vl_engine_model.specs.declared.job.OpenJob.{OpenJob}
use Rattle.vl_engine_model.specs.declared.job.OpenPass.{OpenPass}
use Rattle.vl_engine_model.specs.declared.layout.Layout.{Layout}
use Rattle.vl_engine_model.specs.declared.segment.Segment.{Segment}
use Rattle.vl_engine_model.specs.declared.table.Table.{Table}
use Rattle.vl_model.specs.Conflicts.{Named, first_conflict}
use Rattle.vl_model.specs.Frames.{frame_length}
use Rattle.vl_model.specs.History.{History, last_number}
use Rattle.vl_model.specs.Limits.{max_commit_number, max_live}
use Rattle.vl_model.specs.Numbers.{has}
use Rattle.vl_model.specs.declared.counter.Counter.TheVariants as counter
use Rattle.vl_model.specs.declared.log_frame.LogFrame.TheVariants.{Relocated}
use Rattle.vl_model.specs.declared.log_frame.Moved.{Moved}
use Rattle.vl_seglog.specs.declared.sealed.SealedLog.{SealedLog}
use Rattle.vl_stats.specs.Live.{AreOf}
use Rattle.vl_stats.specs.Tallies.{Tallied, lengths_of}

-- the logs and the tables are the same
pub record SameLogs (l m : Layout) : Type 0 where
  pub sealed_is : sealed m ≡ sealed l
  pub tables_are : tables m ≡ tables l
  pub flushed_is : m.flushed ≡ l.flushed

-- and so are the open pass and the open merge
pub record SameWork (l m : Layout) : Type 0 where
  pub sealed_is : sealed m ≡ sealed l
  pub tables_are : tables m ≡ tables l
  pub flushed_is : m.flushed ≡ l.flushed
  pub pass_is : m.pass ≡ l.pass
  pub job_is : m.job ≡ l.job

pub logs_of : (l m : Layout) → SameWork l m → SameLogs l m
logs_of l m same = record { sealed_is = same.sealed_is; tables_are = same.tables_are; flushed_is = same.flushed_is }

pub same_logs : (l : Layout) → SameLogs l l
same_logs l = record { sealed_is = refl; tables_are = refl; flushed_is = refl }

pub same_work : (l : Layout) → SameWork l l
same_work l = record { sealed_is = refl; tables_are = refl; flushed_is = refl; pass_is = refl; job_is = refl }

module _ {H : Type 0} (before after : Core H) (old new : Collecting) (logs : after.version.behind.logs ≡ before.version.behind.logs)
    (kept : new ≡ old) where
  pub collects_with : (l m : Layout) → SameLogs l m → m.pass ≡ l.pass → Collects before old l → Collects after new m
  collects_with l m same pass_is collects =
      subst (λ (c : Collecting). Collects after c m) (sym kept) (record {
        tally = tallies old.tally collects.tally;
        passing = collects.passing ∙ ap (option_map (λ (p : OpenPass). p.segment)) (sym pass_is);
        readable = subst (λ (ss : List Segment). AreReadable (record m { flushed = ss })) (sym same.flushed_is) collects.readable;
      })
    where
      tallies : (tally : Option Tallied) → Tallies before.version.behind.logs.items tally l
          → Tallies after.version.behind.logs.items tally m
      tallies None is =
          subst (λ (v : Vec (SealedLog H) Global). AllByRecursion
          (λ (log : SealedLog H). has log.number (log_numbers (sealed m)) ≡ true) v.items)
          (sym logs)
          (subst (λ (ss : List Segment). AllByRecursion (λ (log : SealedLog H). has log.number (log_numbers ss) ≡ true)
          before.version.behind.logs.items) (sym same.sealed_is) is)
      tallies (Some tally) is = record {
        logs = is.logs ∙ ap (λ (ss : List Segment). lengths_of (rising ss)) (sym same.sealed_is);
        live = subst (λ (ts : List Table). AreOf ts tally.live) (sym same.tables_are) is.live;
      }

  pub collects_on : (l m : Layout) → SameWork l m → Collects before old l → Collects after new m
  collects_on l m same = collects_with l m (logs_of l m same) same.pass_is

  -- so it is of a call that leaves these, whatever it came to
  pub collects_by : {A : Type 0} (stands : History → Layout → Type 0) (h : History) (l lost : Layout) (r : Ruling A) (outcome : Outcome A)
      (effects : Effects) → Decides stands h l r (as_before l lost) outcome effects → SameWork l r.layout → SameWork l lost
      → Collects before old l → Decides (λ _ m. Collects after new m) h l r (as_before l lost) outcome effects
  collects_by stands h l lost r outcome effects decides same lost_same collects = record {
    answered = λ a at. ((decides.answered a at).0, collects_on l r.layout same collects);
    did = decides.did;
    no_memory = λ at. (collects_on l l (same_work l) collects, (decides.no_memory at).1);
    failed = λ name at. (
      (decides.failed name at).0,
      collects_on l (halted_at name lost) (record {
        sealed_is = lost_same.sealed_is;
        tables_are = lost_same.tables_are;
        flushed_is = lost_same.flushed_is;
        pass_is = lost_same.pass_is;
        job_is = lost_same.job_is;
      }) collects,
    );
    damaged = λ name place at. (collects_on l l (same_work l) collects, (decides.damaged name place at).1);
  }

  -- so it is of a call that leaves logs, tables and the open pass
  pub collects_past : {A : Type 0} (stands : History → Layout → Type 0) (h : History) (l lost : Layout) (r : Ruling A) (outcome : Outcome A)
      (effects : Effects) → Decides stands h l r (as_before l lost) outcome effects → SameLogs l r.layout → r.layout.pass ≡ l.pass
      → SameLogs l lost → lost.pass ≡ l.pass
      → Collects before old l → Decides (λ _ m. Collects after new m) h l r (as_before l lost) outcome effects
  collects_past stands h l lost r outcome effects decides same pass_is lost_same lost_pass collects = record {
    answered = λ a at. ((decides.answered a at).0, collects_with l r.layout same pass_is collects);
    did = decides.did;
    no_memory = λ at. (collects_with l l (same_logs l) refl collects, (decides.no_memory at).1);
    failed = λ name at. (
      (decides.failed name at).0,
      collects_with l (halted_at name lost)
          (record { sealed_is = lost_same.sealed_is; tables_are = lost_same.tables_are; flushed_is = lost_same.flushed_is })
          lost_pass collects,
    );
    damaged = λ name place at. (collects_with l l (same_logs l) refl collects, (decides.damaged name place at).1);
  }

-- ---- rulings

abbrev Same : {A : Type 0} → Layout → Ruling A → Type 0
Same l r = SameWork l r.layout

either : {A : Type 0} (P : Ruling A → Type 0) (b : Bool) (r s : Ruling A) → P r → P s → P (if b then r else s)
either P true r s of_r of_s = of_r
either P false r s of_r of_s = of_s

module _ (l : Layout) (h : History) where
  abbrev all : (m : Layout) → sealed m ≡ sealed l → tables m ≡ tables l → m.flushed ≡ l.flushed → m.pass ≡ l.pass → m.job ≡ l.job
      → SameWork l m
  all m a b c d e = record { sealed_is = a; tables_are = b; flushed_is = c; pass_is = d; job_is = e }

  pub begin_same : Same l (begin_ruling l h)
  begin_same = either (Same l) (nat_le max_live (length l.live)) _ _ (same_work l) (all _ refl refl refl refl refl)

  module _ (t : Transaction) where
    checked : (conflict : Option Named) → Same l (commit_checked l h t conflict)
    checked (Some named) = all _ refl refl refl refl refl
    checked None =
        either (Same l) (nat_le (l.active.length + frame_length l.active.format (commit_frame h t.writes)) l.room) (committed l h t)
        (leaving (commit.Full l.active.length (frame_length l.active.format (commit_frame h t.writes))) h l)
        (all _ refl refl refl refl refl) (same_work l)

    running : (conflict : Option Named) → Same l (commit_running l h t conflict)
    running conflict =
        either (Same l) (length t.writes == 0) (commit_ended commit.Nothing l h t) _ (all _ refl refl refl refl refl)
        (either (Same l) (nat_le max_commit_number (last_number h)) (leaving (commit.Exhausted counter.Commit) h l)
        (commit_checked l h t conflict) (same_work l) (checked conflict))

    unless : (halted : Option FileName) (conflict : Option Named) → Same l (commit_unless halted l h t conflict)
    unless (Some name) conflict = all _ refl refl refl refl refl
    unless None conflict = running conflict

    pub commit_same : Same l (commit_ruling l h t)
    commit_same = unless l.halted (first_conflict h t.number t.reads)

    pub lost_same : SameWork l (commit_lost l t)
    lost_same = all _ refl refl refl refl refl

  -- ---- merges and passes

  -- what a call leaves of logs, tables and the open pass, where it leaves these
  abbrev pub LeavesPass : {A : Type 0} → Ruling A → Type 0
  LeavesPass r = SameLogs l r.layout × (r.layout.pass ≡ l.pass)

  plan_level : (level : Option ℕ) → LeavesPass (plan_of l h level)
  plan_level None = (same_logs l, refl)
  plan_level (Some level) = (record { sealed_is = refl; tables_are = refl; flushed_is = refl }, refl)

  plan_free : (j : Option OpenJob) → LeavesPass (plan_unless j l h)
  plan_free None = plan_level (due_from 0 l.levels)
  plan_free (Some j) = (same_logs l, refl)

  pub plan_leaves : LeavesPass (plan_ruling l h)
  plan_leaves = plan_free l.job

  drain_table : (t : Option Table) → LeavesPass (drain_of l h t)
  drain_table None = (same_logs l, refl)
  drain_table (Some t) = (record { sealed_is = refl; tables_are = refl; flushed_is = refl }, refl)

  drain_free : (segment : ℕ) (j : Option OpenJob) → LeavesPass (drain_unless j l h segment)
  drain_free segment None = drain_table (first_into segment (tables l))
  drain_free segment (Some j) = (same_logs l, refl)

  pub drain_leaves : (segment : ℕ) → LeavesPass (drain_ruling l h segment)
  drain_leaves segment = drain_free segment l.job

  fresh_halted : (halted : Option FileName) → LeavesPass (fresh_unless halted l h)
  fresh_halted (Some name) = (same_logs l, refl)
  fresh_halted None = either LeavesPass (has_no_number l.next_table 1) _ _ (same_logs l, refl)
      (record { sealed_is = refl; tables_are = refl; flushed_is = refl }, refl)

  pub fresh_leaves : LeavesPass (fresh_ruling l h)
  fresh_leaves = fresh_halted l.halted

  moves_of : (ms : List Moved) → LeavesPass (relocate_of l h ms)
  moves_of [] = (same_logs l, refl)
  moves_of (m ∷ ms) =
      either LeavesPass (has_no_epoch l) _ _ (same_logs l, refl)
      (either LeavesPass (nat_le (l.active.length + frame_length l.active.format (Relocated (m ∷ ms))) l.room) _ _
      (record { sealed_is = refl; tables_are = refl; flushed_is = refl }, refl) (same_logs l, refl))

  moves : (halted : Option FileName) (pass : Pass) (batch : List Candidate) → LeavesPass (relocate_unless halted l h pass batch)
  moves (Some name) pass batch = (same_logs l, refl)
  moves None pass batch = moves_of (moved_of (sources l) pass.segment (last_number h) batch)

  pub relocate_leaves : (pass : Pass) (batch : List Candidate) → LeavesPass (relocate_ruling l h pass batch)
  relocate_leaves pass batch = moves l.halted pass batch

-- ---- what a disk tells

pub told_some : {X : Type 0} (o p : Option X) → is_some o ≡ true → (p ≡ None → o ≡ None) → (x : X) × (p ≡ Some x)
told_some o (Some x) is alike = (x, refl)
told_some None None is alike = absurd (false_true is)
  where
    false_true : false ≡ true → ⊥
    false_true e = subst IsNot e tt
      where
        IsNot : Bool → Type 0
        IsNot true = ⊥
        IsNot false = Unit {0}
told_some (Some x) None is alike = absurd (subst IsNone (sym (alike refl)) tt)
  where
    IsNone : {X : Type 0} → Option X → Type 0
    IsNone None = Unit {0}
    IsNone (Some x) = ⊥

-- what tests true is true
pub is_so : (b : Bool) → T b → IsTrue b
is_so true so = refl
is_so false so = absurd so
