-- A merge that makes its tables one after the other: what each round adds, and what it comes to in the end.
use Rattle.std.specs.Prelude.{◌≡◌, ◌⊎◌, ◌+◌, ◌≤◌, ◌++◌, ℕ, List, [], ◌∷◌, length, map, Option, None, Some, Result, Ok, Err, IsErrAnd}
use Rattle.std.proofs.Common.{⊎_elim, inl, inr, refl, ap, sym, ◌∙◌, subst, arith}
use Rattle.std.proofs.lemmas.List.{length-map}
use Rattle.vl_compact.specs.Progress.{IsNew, IsTableFile, made_of}
use Rattle.vl_compact.specs.declared.files.Lent.{Lent}
use Rattle.vl_compact.specs.declared.files.Synced.{Synced}
use Rattle.vl_compact.specs.declared.job.Job.{Job as TheJob}
use Rattle.vl_compact.specs.declared.job_reader.JobReader.{JobReader}
use Rattle.vl_disk.specs.declared.name.Name.TheVariants.{Table}
use Rattle.vl_disk.specs.declared.watched.Watched.{Ghosts}
use Rattle.vl_disk.specs.declared.writer.Writer.{Ghosts as Writers}
use Rattle.vl_steps.specs.Merging.{made_numbers}
use Rattle.vl_engine_laws.specs.declared.kept.Core.{Core}
use Rattle.vl_engine_laws.specs.declared.open.OpenMerge.{OpenMerge}
use Rattle.vl_engine_model.specs.Jobs.{tables_made}
use Rattle.vl_engine_model.specs.Merging.{outputs}
use Rattle.vl_engine_model.specs.declared.job.Job.{Job}
use Rattle.vl_model.specs.Limits.{max_file_number}
use Rattle.vl_model.specs.declared.counter.Counter.{Counter}
use Rattle.vl_table.specs.declared.block_reader.BlockReader.{BlockReader}
use Rattle.vl_version.specs.Bases.{Fits}
use Rattle.vl_version.specs.declared.base.Base.{Base}
use Rattle.vl_replay_laws.specs.Drawn.{DrawsOn, EndsMerging, HasTablesFrom, IsPlanned, IsServing, Merged, drawn_state, numbers_from}
use Rattle.vl_script_model.specs.Durable.{HoldsState}
use Rattle.vl_script_model.specs.Halts.{HaltsByDisk}
use Rattle.vl_replay.specs.Rounds.{HasThem, IsUnderWay, Rounds}
use Rattle.vl_script_model.specs.Sequential.{State}
use Rattle.vl_script_model.specs.Stored.{IsStored}
use Rattle.vl_replay.specs.declared.tables.Round.{Round}
use Rattle.vl_replay.specs.declared.tables.Round.TheVariants as rounds
use Rattle.vl_script_model.specs.declared.fails.Halt.{Halt}
use Rattle.vl_script_model.specs.declared.fails.Halt.TheVariants as halts
use Rattle.vl_replay_laws.specs.laws.Merges.Rounds.{draws_then, rests}
use Rattle.vl_replay_laws.specs.laws.Merges.Lists.{drawn_none, length-from, length-zip, next_drawn, no_longer, one_from, state_then}
use Rattle.vl_script_model.specs.laws.DiskSteps.{IsWatched}

-- what ends by want of memory is that
pub out_is : {T : Type 0} (result : Result T Halt) → IsErrAnd result (λ halt. halt ≡ halts.NoMemory) → result ≡ Err halts.NoMemory
out_is (Ok done) out = absurd out
out_is (Err halt) out = ap Err out

-- not ended yet
abbrev pub unended : Result (Option Counter) Halt
unended = Ok None

-- The merge was planned in a state, and made so many tables since.
pub record SoFar {D H R W : Type 0} (g : Ghosts D) (writers : Writers W) (bytes : H → Option (List ℕ)) (old now : D) (core : Core H)
    (merging : Option OpenMerge) {k : _} (job : TheJob (Base H R) H W k) (reader : JobReader R (BlockReader R)) (s : State) (j : Job)
    : Type 0 where
  pub count : ℕ
  pub fits : count ≡ 0 ⊎ (s.store.layout.next_table + count ≤ max_file_number + 1)
  pub way : IsUnderWay writers bytes (g.told now) core merging job reader (drawn_state count s) j
  pub numbers : made_numbers job ≡ numbers_from s.store.layout.next_table count
  pub no_leavings : job.leavings.items ≡ []
  pub disk : HoldsState g IsStored s old → DrawsOn g old now s count unended

module _ {D H R W : Type 0} (g : Ghosts D) (watched : IsWatched g) (writers : Writers W) (bytes : H → Option (List ℕ))
    (s : State) (j : Job) where
  -- It was just planned.
  pub planned_so_far : (disk : D) (core : Core H) (merging : Option OpenMerge) {k : _} (job : TheJob (Base H R) H W k)
      (reader : JobReader R (BlockReader R)) → IsPlanned writers bytes (g.told disk) core merging job s j → IsNew job
      → Fits bytes job.base.version reader.looks → SoFar g writers bytes disk disk core merging job reader s j
  planned_so_far disk core merging {k} job reader planned new fits = record {
    count = 0;
    fits = inl refl;
    way = record {
      serves = subst (λ (t : State). IsServing bytes (g.told disk) core merging t) (sym (drawn_none s)) planned.serves;
      has = planned.has;
      fits = fits;
    };
    numbers = ap (λ (ts : List (Synced W k)). map (λ (t : Synced W k). t.number) ts) new.made;
    no_leavings = new.leavings;
    disk = rests g watched disk s unended (λ by. by);
  }

  module _ (old mid new : D) (before after : Core H) (was_open is_open : Option OpenMerge) {k : _} (first last : TheJob (Base H R) H W k)
      (was now : JobReader R (BlockReader R)) (so_far : SoFar g writers bytes old mid before was_open first was s j)
      (steady : g.faults mid ≡ g.faults old) where
    next_is : (drawn_state so_far.count s).store.layout.next_table ≡ s.store.layout.next_table + so_far.count
    next_is = next_drawn so_far.count s.store.layout

    made_count : length first.made.items ≡ so_far.count
    made_count = sym (length-map first.made.items (λ (t : Synced W k). t.number))
        ∙ (ap length so_far.numbers ∙ length-from s.store.layout.next_table so_far.count)

    few : so_far.count ≤ length (outputs j)
    few = let up = no_longer (IsTableFile writers) first.made.items (outputs j) so_far.way.has.made in omega (arith, up, made_count)

    module _ (result : Result Round Halt)
        (round : Rounds g writers bytes mid new after is_open first last now (drawn_state so_far.count s) j result) where
      either : (round.count ≡ 0) ⊎ (round.count ≡ 1)
      either = let one = round.one in grind (arith, one)

      fits_all : so_far.count + round.count ≡ 0 ⊎ (s.store.layout.next_table + (so_far.count + round.count) ≤ max_file_number + 1)
      fits_all = ⊎_elim
          (λ (none : round.count ≡ 0). ⊎_elim
          (λ (no : so_far.count ≡ 0). inl (omega (arith, none, no)))
          (λ (fits : s.store.layout.next_table + so_far.count ≤ max_file_number + 1). inr (omega (arith, none, fits)))
          so_far.fits)
          (λ (one : round.count ≡ 1). let up = round.fits one in let e = next_is in inr (omega (arith, one, up, e)))
          either

      few_all : so_far.count + round.count ≤ length (outputs j)
      few_all = ⊎_elim
          (λ (none : round.count ≡ 0). let up = few in omega (arith, none, up))
          (λ (one : round.count ≡ 1). let up = round.wanted one in let e = made_count in omega (arith, one, up, e))
          either

      serves_all : (HaltsByDisk result → ⊥) → IsServing bytes (g.told new) after is_open (drawn_state (so_far.count + round.count) s)
      serves_all fine = subst (λ (t : State). IsServing bytes (g.told new) after is_open t)
          (state_then so_far.count round.count s) (round.serves fine)

      disk_all : HoldsState g IsStored s old → DrawsOn g old new s (so_far.count + round.count) result
      disk_all held =
          let one = so_far.disk held in
          draws_then g watched old mid new s so_far.count round.count unended result steady one (round.disk (one.held (λ by. by)))

    -- A round made one table more.
    pub one_so_far : Rounds g writers bytes mid new after is_open first last now (drawn_state so_far.count s) j (Ok rounds.Made)
        → SoFar g writers bytes old new after is_open last now s j
    one_so_far round =
        let (one, makes) = round.ends in
        record {
          count = so_far.count + round.count;
          fits = fits_all (Ok rounds.Made) round;
          way = record { serves = serves_all (Ok rounds.Made) round (λ by. by); has = makes.has; fits = makes.fits };
          numbers = makes.numbers
              ∙ (ap (λ (m : ℕ). made_numbers first ++ m ∷ []) next_is
              ∙ (ap (λ (ns : List ℕ). ns ++ (s.store.layout.next_table + so_far.count) ∷ []) so_far.numbers
              ∙ (one_from s.store.layout.next_table so_far.count
              ∙ ap (λ (m : ℕ). numbers_from s.store.layout.next_table (so_far.count + m)) (sym one))));
          no_leavings = makes.leavings ∙ so_far.no_leavings;
          disk = λ held. as_unended (disk_all (Ok rounds.Made) round held);
        }
      where
        as_unended : {count : ℕ} → DrawsOn g old new s count (Ok rounds.Made) → DrawsOn g old new s count unended
        as_unended x = record {
          held = λ fine. x.held (λ by. by);
          tells = x.tells;
          through = x.through;
          passed = λ by. absurd by;
          calls = λ by. absurd by;
          stopped = λ by clean. absurd by;
        }

    -- what it ended by
    over : (ended : Result (Option Counter) Halt) (result : Result Round Halt)
        (round : Rounds g writers bytes mid new after is_open first last now (drawn_state so_far.count s) j result)
        → ((HaltsByDisk ended → ⊥) → HaltsByDisk result → ⊥) → (HaltsByDisk ended → HaltsByDisk result)
        → EndsMerging writers bytes last s j (so_far.count + round.count) ended
        → Merged g writers bytes old new after is_open last s j ended
    over ended result round back forth ends = record {
      count = so_far.count + round.count;
      few = few_all result round;
      fits = fits_all result round;
      serves = λ fine. serves_all result round (back fine);
      ends = ends;
      disk = λ held. let x = disk_all result round held in
          record {
            held = λ fine. x.held (back fine);
            tells = x.tells;
            through = x.through;
            passed = λ by. x.passed (forth by);
            calls = λ by. x.calls (forth by);
            stopped = λ by clean. x.stopped (forth by) clean;
          };
    }

    none_more : {m : ℕ} → m ≡ 0 → so_far.count ≡ so_far.count + m
    none_more e = omega (arith, e)

    -- It has all of its tables.
    pub all_made : Rounds g writers bytes mid new after is_open first last now (drawn_state so_far.count s) j (Ok rounds.Ended)
        → Merged g writers bytes old new after is_open last s j (Ok None)
    all_made round =
        let (none, them) = round.ends in
        let whole : so_far.count ≡ length (outputs j) = count_all them in
        over (Ok None) (Ok rounds.Ended) round (λ fine by. by) (λ by. absurd by)
        (subst (λ (c : ℕ). EndsMerging writers bytes last s j c (Ok None)) (none_more none) (whole, has_tables them whole))
      where
        count_all : HasThem writers bytes first last j → so_far.count ≡ length (outputs j)
        count_all them =
            sym (length-from s.store.layout.next_table so_far.count) ∙ (ap length (sym so_far.numbers) ∙ (ap length (sym them.numbers)
            ∙ (length-map last.made.items (λ (t : Synced W k). t.number)
            ∙ length-zip (IsTableFile writers) last.made.items (outputs j) them.has.made)))

        has_tables : HasThem writers bytes first last j → so_far.count ≡ length (outputs j)
            → HasTablesFrom writers bytes last j s.store.layout.next_table
        has_tables them whole = record {
          has = them.has;
          merge = them.merge;
          made = ap (λ (ns : List ℕ). record {
            tables = tables_made ns (outputs j);
            leavings = map
                (λ (f : Lent W k). f.number) last.leavings.items;
          })
              (them.numbers ∙ (so_far.numbers ∙ ap (numbers_from s.store.layout.next_table) whole))
              ∙ ap (λ (fs : List (Lent W k)). record {
                tables = tables_made (numbers_from s.store.layout.next_table (length (outputs j))) (outputs j);
                leavings = map (λ (f : Lent W k). f.number) fs;
              }) (them.leavings ∙ so_far.no_leavings);
        }

    -- No number is left.
    pub used_up : (counter : Counter)
        → Rounds g writers bytes mid new after is_open first last now (drawn_state so_far.count s) j (Ok (rounds.Exhausted counter))
        → Merged g writers bytes old new after is_open last s j (Ok (Some counter))
    used_up counter round =
        let (none, missing, is, past, has, numbers, leavings) = round.ends in
        over (Ok (Some counter)) (Ok (rounds.Exhausted counter)) round (λ fine by. by) (λ by. absurd by)
        (subst (λ (c : ℕ). EndsMerging writers bytes last s j c (Ok (Some counter))) (none_more none) (
          (let e = made_count in omega (arith, e, missing)),
          is,
          (let e = next_is in omega (arith, e, past)),
          has,
          made_so numbers
              leavings,
        ))
      where
        made_so : made_numbers last ≡ made_numbers first → last.leavings.items ≡ first.leavings.items
            → made_of last j ≡ record {
              tables = tables_made (numbers_from s.store.layout.next_table so_far.count) (outputs j);
              leavings = [];
            }
        made_so numbers leavings = ap (λ (ns : List ℕ). record {
          tables = tables_made ns (outputs j);
          leavings = map
              (λ (f : Lent W k). f.number) last.leavings.items;
        })
            (numbers ∙ so_far.numbers)
            ∙ ap (λ (fs : List (Lent W k)). record {
              tables = tables_made (numbers_from s.store.layout.next_table so_far.count) (outputs j);
              leavings = map (λ (f : Lent W k). f.number) fs;
            }) (leavings ∙ so_far.no_leavings)

    -- It stopped.
    pub halted : (halt : Halt)
        → Rounds g writers bytes mid new after is_open first last now (drawn_state so_far.count s) j (Err halt)
        → Merged g writers bytes old new after is_open last s j (Err halt)
    halted halts.NoMemory round = over (Err halts.NoMemory) (Err halts.NoMemory) round (λ fine by. by) (λ by. absurd by) tt
    halted (halts.Read name) round = over (Err (halts.Read name)) (Err (halts.Read name)) round (λ fine by. by) (λ by. absurd by) tt
    halted (halts.Halted name) round = absurd round.ends
    halted (halts.Damaged name place) round = absurd round.ends
    halted (halts.Disk name) round =
        let (none, missing, fits, is) = round.ends in
        over (Err (halts.Disk name)) (Err (halts.Disk name)) round (λ fine by. fine by) (λ by. by)
        (subst (λ (c : ℕ). EndsMerging writers bytes last s j c (Err (halts.Disk name))) (none_more none)
        ((let e = made_count in omega (arith, e, missing)), (let e = next_is in omega (arith, e, fits)), is ∙ ap Table next_is))

  -- Memory ran out before the first round.
  pub not_begun : (disk : D) (core : Core H) (merging : Option OpenMerge) {k : _} (job : TheJob (Base H R) H W k)
      → IsPlanned writers bytes (g.told disk) core merging job s j
      → Merged g writers bytes disk disk core merging job s j (Err halts.NoMemory)
  not_begun disk core merging job planned = record {
    count = 0;
    few = omega arith;
    fits = inl refl;
    serves = λ fine. subst (λ (t : State). IsServing bytes (g.told disk) core merging t) (sym (drawn_none s)) planned.serves;
    ends = tt;
    disk = rests g watched disk s (Err halts.NoMemory) (λ by. by);
  }
