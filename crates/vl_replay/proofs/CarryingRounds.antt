-- What each way in which a round of a merge ends comes to.
use Rattle.std.specs.Prelude.{◌≡◌, ◌<◌, ◌≤◌, ◌++◌, ℕ, List, [], ◌∷◌, length, map, Option, Some, Result, Ok, Err}
use Rattle.std.specs.Option.{ForSome}
use Rattle.std.proofs.Common.{refl, ap, sym, ◌∙◌, subst, arith}
use Rattle.std.proofs.lemmas.List.{map-append}
use Rattle.vl_compact.specs.Progress.{IsFresh, KeepsAll, Takes}
use Rattle.vl_compact.specs.declared.files.Lent.{Lent}
use Rattle.vl_compact.specs.declared.files.Synced.{Synced}
use Rattle.vl_compact.specs.declared.job.Job.{Job as TheJob}
use Rattle.vl_compact.specs.declared.job_reader.JobReader.{JobReader}
use Rattle.vl_disk.specs.DiskState.{new_file}
use Rattle.vl_disk.specs.declared.name.Name.{Name}
use Rattle.vl_disk.specs.declared.watched.Watched.{Ghosts}
use Rattle.vl_disk.specs.declared.writer.Writer.{Ghosts as Writers}
use Rattle.vl_steps.specs.Drawing.{IsSameJob}
use Rattle.vl_steps.specs.Merging.{HasAllMerge, HasMerge, made_numbers}
use Rattle.vl_steps.specs.laws.SameJobs.{has_same}
use Rattle.vl_steps.specs.declared.fails.StepFail.{StepFail}
use Rattle.vl_steps.specs.declared.fails.StepFail.TheVariants as fails
use Rattle.vl_engine_laws.specs.declared.kept.Core.{Core}
use Rattle.vl_engine_laws.specs.declared.open.OpenMerge.{OpenMerge}
use Rattle.vl_engine_model.specs.Merging.{outputs}
use Rattle.vl_engine_model.specs.declared.job.Job.{Job}
use Rattle.vl_model.specs.Limits.{max_file_number}
use Rattle.vl_table.specs.declared.block_reader.BlockReader.{BlockReader}
use Rattle.vl_disk.specs.declared.read_fault.ReadFault.{ReadFault}
use Rattle.vl_disk.specs.declared.read_fault.ReadFault.TheVariants as faults
use Rattle.vl_version.specs.Bases.{Fits}
use Rattle.vl_version.specs.declared.base.Base.{Base}
use Rattle.vl_replay_laws.specs.Drawn.{IsServing, drawn_state}
use Rattle.vl_script_model.specs.Halts.{HaltsByDisk}
use Rattle.vl_replay.specs.Rounds.{EndsRound, IsUnderWay, Rounds, halt_by, round_by}
use Rattle.vl_script_model.specs.Sequential.{State, history_of}
use Rattle.vl_replay.specs.declared.tables.Round.{Round}
use Rattle.vl_replay.specs.declared.tables.Round.TheVariants as rounds
use Rattle.vl_script_model.specs.declared.fails.Halt.{Halt}
use Rattle.vl_replay_laws.specs.laws.Merges.Rounds.{rests}
use Rattle.vl_replay.proofs.CarryingDraws.{Came, Draws, exhausted_came, exhausted_is, exhausted_past, failed_came}
use Rattle.vl_replay.proofs.CarryingDraws.{failed_fits, failed_name, lent_came, lent_fits, lent_number, never_halted}
use Rattle.vl_replay.proofs.CarryingDraws.{short_came}
use Rattle.vl_replay.proofs.CarryingJob.{not_by_disk}
use Rattle.vl_replay_laws.specs.laws.Merges.Lists.{drawn_none}
use Rattle.vl_script_model.specs.laws.DiskSteps.{IsWatched}

none_one : ◌≡◌ {A = ℕ} 0 1 → ⊥
none_one e = cc

-- what is so of a disk's file that tells a new one
pub fresh_file : {A : Type 0} (o : Option A) (x : A) → o ≡ Some x → ForSome o (λ f. f ≡ x)
fresh_file o x is y told = let e : Some y ≡ Some x = sym told ∙ is in cc

module _ {D H R W : Type 0} (g : Ghosts D) (watched : IsWatched g) (writers : Writers W) (bytes : H → Option (List ℕ))
    (s : State) (j : Job) where
  -- a fault of reading or writing ends it
  ends_halted : {k : _} (first last : TheJob (Base H R) H W k) (reader : JobReader R (BlockReader R)) (count : ℕ) (fault : ReadFault)
      → ((name : Name) (place : ℕ) → fault ≡ faults.Damaged name place → ⊥)
      → EndsRound writers bytes first last reader s j count (Err (halt_by fault))
  ends_halted first last reader count faults.NoMemory sound = tt
  ends_halted first last reader count (faults.Disk name) sound = tt
  ends_halted first last reader count (faults.Damaged name place) sound = sound name place refl

  -- before a file is lent the engine isn't asked
  module _ (disk : D) (core : Core H) (merging : Option OpenMerge) {k : _} (first last : TheJob (Base H R) H W k)
      (was now : JobReader R (BlockReader R)) (way : IsUnderWay writers bytes (g.told disk) core merging first was s j) where
    unmoved : IsServing bytes (g.told disk) core merging (drawn_state 0 s)
    unmoved = subst (λ (t : State). IsServing bytes (g.told disk) core merging t) (sym (drawn_none s)) way.serves

    pub unread : (fault : ReadFault) → ((name : Name) (place : ℕ) → fault ≡ faults.Damaged name place → ⊥)
        → Rounds g writers bytes disk disk core merging first last now s j (Err (halt_by fault))
    unread fault sound = record {
      count = 0;
      one = omega arith;
      wanted = λ one. absurd (none_one one);
      fits = λ one. absurd (none_one one);
      serves = λ fine. unmoved;
      ends = ends_halted first last now 0 fault sound;
      disk = rests g watched disk s (Err (halt_by fault)) (not_by_disk Round fault);
    }

    pub ended : KeepsAll first last → HasMerge writers bytes last j → HasAllMerge writers bytes last j
        → Rounds g writers bytes disk disk core merging first last now s j (Ok rounds.Ended)
    ended kept merge all = record {
      count = 0;
      one = omega arith;
      wanted = λ one. absurd (none_one one);
      fits = λ one. absurd (none_one one);
      serves = λ fine. unmoved;
      ends = (
        refl,
        record {
          has = all;
          merge = merge;
          numbers = ap (λ (x : TheJob (Base H R) H W k). made_numbers x) kept;
          leavings = ap (λ (x : TheJob (Base H R) H W k). x.leavings.items) kept;
        },
      );
      disk = rests g watched disk s (Ok rounds.Ended) (λ by. by);
    }

  -- behind a file that was asked for
  module _ (old new : D) (before after : Core H) (was_open is_open : Option OpenMerge) {k : _}
      (first asked roomy last : TheJob (Base H R) H W k)
      (was between now : JobReader R (BlockReader R)) (way : IsUnderWay writers bytes (g.told old) before was_open first was s j)
      (kept : KeepsAll first asked) (has : HasMerge writers bytes asked j)
      (short : length asked.made.items < length (outputs j))
      (fits : Fits bytes asked.base.version between.looks) (same : IsSameJob asked roomy) where
    missing : length first.made.items < length (outputs j)
    missing = subst (λ (ts : List (Synced W k)). length ts < length (outputs j)) (ap (λ (x : TheJob (Base H R) H W k). x.made.items) kept)
        short

    none_lent : (result : Result Round Halt) → Came g bytes old new after is_open s 0 result
        → EndsRound writers bytes first roomy now s j 0 result → Rounds g writers bytes old new after is_open first roomy now s j result
    none_lent result came ends = record {
      count = 0;
      one = omega arith;
      wanted = λ one. absurd (none_one one);
      fits = λ one. absurd (none_one one);
      serves = came.serves;
      ends = ends;
      disk = came.disk;
    }

    -- none was lent
    pub unlent : (fail : StepFail) → Draws {W = W} g bytes before after old new was_open is_open {k = k}
        (history_of s) s.store.layout (Err fail)
        → Rounds g writers bytes old new after is_open first roomy now s j (round_by fail)
    unlent (fails.Exhausted counter) d = none_lent (round_by (fails.Exhausted counter))
        (exhausted_came g watched bytes before after old new was_open is_open s way.serves counter d) (
          refl,
          missing,
          exhausted_is g watched bytes before after old new was_open is_open s way.serves counter d,
          exhausted_past g watched bytes before after old new was_open is_open s way.serves counter d,
          has_same writers bytes asked roomy j same has,
          ap (λ (ts : List (Synced W k)). map (λ (t : Synced W k). t.number) ts) same.made
              ∙ ap (λ (x : TheJob (Base H R) H W k). made_numbers x) kept,
          same.leavings ∙ ap (λ (x : TheJob (Base H R) H W k). x.leavings.items) kept,
        )
    unlent fails.NoMemory d = none_lent (round_by fails.NoMemory)
        (short_came g watched bytes before after old new was_open is_open s way.serves d) tt
    unlent (fails.Halted name) d = absurd (never_halted g watched bytes before after old new was_open is_open s way.serves name d)
    unlent (fails.Disk name) d = none_lent (round_by (fails.Disk name))
        (failed_came g watched bytes before after old new was_open is_open s way.serves name d) (
          refl,
          missing,
          failed_fits g watched bytes before after old new was_open is_open s way.serves name d,
          failed_name g watched bytes before after old new was_open is_open s way.serves name d,
        )

    -- the file is one that nothing was done with
    pub is_fresh : (file : Lent W k) → ForSome (g.told old) (λ _. writers.file file.writer ≡ Some new_file) → IsFresh writers file
    is_fresh file empty =
        let may = way.serves.fits.running way.serves.running in
        fresh_file (writers.file file.writer) new_file (empty may.state may.told_is)

    -- one was lent
    module _ (file : Lent W k) (d : Draws g bytes before after old new was_open is_open (history_of s) s.store.layout (Ok file)) where
      came : {T : Type 0} (result : Result T Halt) → (HaltsByDisk result → ⊥) → Came g bytes old new after is_open s 1 result
      came result sound = lent_came g watched bytes before after old new was_open is_open s way.serves file d result sound

      drawn_fits : s.store.layout.next_table ≤ max_file_number
      drawn_fits = lent_fits g watched bytes before after old new was_open is_open s way.serves file d

      -- and couldn't be filled
      pub unfilled : (fault : ReadFault) → ((name : Name) (place : ℕ) → fault ≡ faults.Damaged name place → ⊥)
          → Rounds g writers bytes old new after is_open first last now s j (Err (halt_by fault))
      unfilled fault sound =
          let all = came (Err (halt_by fault)) (not_by_disk Round fault) in
          record {
            count = 1;
            one = omega arith;
            wanted = λ one. missing;
            fits = λ one. drawn_fits;
            serves = all.serves;
            ends = ends_halted first last now 1 fault sound;
            disk = all.disk;
          }

      -- or became a table
      pub filled : Takes writers file roomy last → HasMerge writers bytes last j → Fits bytes last.base.version now.looks
          → Rounds g writers bytes old new after is_open first last now s j (Ok rounds.Made)
      filled takes has_more fits_still =
          let all = came (Ok rounds.Made) (λ by. by) in
          record {
            count = 1;
            one = omega arith;
            wanted = λ one. missing;
            fits = λ one. drawn_fits;
            serves = all.serves;
            ends = (
              refl,
              record {
                has = has_more;
                fits = fits_still;
                numbers = ap (λ (ts : List (Synced W k)). map (λ (t : Synced W k). t.number) ts) made_are
                    ∙ (map-append (λ (t : Synced W k). t.number) first.made.items (takes.table ∷ [])
                    ∙ ap (λ (n : ℕ). made_numbers first ++ n ∷ [])
                    (takes.number ∙ lent_number g watched bytes before after old new was_open is_open s way.serves file d));
                leavings = ap (λ v. v.items) takes.leavings ∙ (same.leavings ∙ ap (λ (x : TheJob (Base H R) H W k). x.leavings.items) kept);
              },
            );
            disk = all.disk;
          }
        where
          made_are : last.made.items ≡ first.made.items ++ takes.table ∷ []
          made_are = takes.made ∙ ap (λ (ts : List (Synced W k)). ts ++ takes.table ∷ [])
              (same.made ∙ ap (λ (x : TheJob (Base H R) H W k). x.made.items) kept)
