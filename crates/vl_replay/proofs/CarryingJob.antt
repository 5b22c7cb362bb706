-- What the calls of a round do to a merge's job: what it has, its files, and why reading or writing it failed.
use Rattle.std.specs.Prelude.{◌≡◌, ◌+◌, ◌-◌, ◌^◌, ◌≤◌, ℕ, zero, suc, min, true, List, [], ◌∷◌, ◌++◌, map}
use Rattle.std.specs.Prelude.{Option, None, Some, Err, IsSome, is_some, slice_get, ◌⊎◌}
use Rattle.std.specs.List.{AllByRecursion}
use Rattle.std.specs.Option.{ForSome}
use Rattle.std.proofs.Common.{⊎_elim, refl, ap, sym, ◌∙◌, subst, arith, append-nil}
use Rattle.std.proofs.lemmas.List.{map-append}
use Rattle.std.proofs.lemmas.List.Elements.{All-from_recursion}
use Rattle.vl_model.specs.Cursors.{HasRisen}
use Rattle.vl_disk.specs.laws.Counting.{rose_at_all}
use Rattle.vl_compact.specs.Keys.{behind}
use Rattle.vl_compact.specs.Lending.{FailsWriting, HasFailed, IsSteady, Wanted}
use Rattle.vl_compact.specs.Progress.{FailsWith, IsNew, IsTableFile, KeepsAll, Leaves, Takes}
use Rattle.vl_compact.specs.Reading.{Counts, FailsReading, IsMemory, IsOfFiles, IsOfSources, IsSure, MayWhere, NoneRose, counts}
use Rattle.vl_compact.specs.Stops.{MayStopIn}
use Rattle.vl_compact.specs.declared.files.Lent.{Lent}
use Rattle.vl_compact.specs.declared.files.Synced.{Synced}
use Rattle.vl_compact.specs.declared.job.Job.{Job as TheJob}
use Rattle.vl_compact.specs.laws.SureReaders.{filled_surely, read_surely}
use Rattle.vl_compact.specs.laws.TrueInputs.{no_damage as no_damaged_input}
use Rattle.vl_compact.specs.declared.job_reader.JobReader.{JobReader}
use Rattle.vl_disk.specs.Calls.{ChangesNothing}
use Rattle.vl_disk.specs.DiskState.{new_file}
use Rattle.vl_disk.specs.Faults.{HasCause, HasCounted, Rose, never}
use Rattle.vl_disk.specs.declared.name.Name.{Name}
use Rattle.vl_disk.specs.declared.watched.Watched.{Ghosts}
use Rattle.vl_disk.specs.declared.writer.Writer.{Ghosts as Writers}
use Rattle.vl_engine_laws.specs.Carries.{StaysUntold}
use Rattle.vl_engine_laws.specs.declared.kept.Core.{Core}
use Rattle.vl_steps.specs.Drawing.{DrawsCore, FreshLeavesDisk, IsLentMore, IsNewTo, IsSameJob, IsSameMerge}
use Rattle.vl_steps.specs.Installing.{numbers_in}
use Rattle.vl_steps.specs.Merging.{HasMerge, IsJustOpen, made_numbers}
use Rattle.vl_engine.specs.UnderWay.{IsUnderWay}
use Rattle.vl_steps.specs.Stepping.{StepFailed}
use Rattle.vl_steps.specs.declared.fails.StepFail.{StepFail}
use Rattle.vl_steps.specs.declared.fails.StepFail.TheVariants as fails
use Rattle.vl_engine_laws.specs.declared.open.OpenMerge.{OpenMerge}
use Rattle.vl_engine_model.specs.Jobs.{AreDistinct}
use Rattle.vl_engine_model.specs.declared.job.Job.{Job}
use Rattle.vl_model.specs.Numbers.{has}
use Rattle.vl_model.specs.declared.entry.Entry.{Entry}
use Rattle.vl_table.specs.CursorParts.{MayFailOn, is_disk_fault}
use Rattle.vl_table.specs.OfTables.{AreOf}
use Rattle.vl_table.specs.Seeks.{IsBadBlock}
use Rattle.vl_table.specs.Tables.{IsOf, shape_of}
use Rattle.vl_table.specs.declared.block_reader.BlockReader.{BlockReader}
use Rattle.vl_disk.specs.declared.read_fault.ReadFault.{ReadFault}
use Rattle.vl_disk.specs.declared.read_fault.ReadFault.TheVariants.{Damaged, Disk, NoMemory}
use Rattle.vl_table.specs.declared.table.Table.{Table}
use Rattle.vl_table.specs.laws.TrueBlocks.{no_bad_block}
use Rattle.vl_version.specs.Bases.{Fits}
use Rattle.vl_version.specs.Sources.{tables_in}
use Rattle.vl_version.specs.declared.base.Base.{Base}
use Rattle.vl_script_model.specs.Failing.{ByReader, ByWriter, ReaderFailed, beside}
use Rattle.vl_script_model.specs.Halts.{HaltsByDisk, HaltsByReader}
use Rattle.vl_replay.specs.Handed.{MayHandIn}
use Rattle.vl_space.specs.Removing.{are_distinct}
use Rattle.vl_replay.specs.Rounds.{HasLent, halt_by, round_by}
use Rattle.vl_replay_laws.specs.laws.Merges.Lists.{all_among, all_more, apart_all, more_distinct}

-- ---- what it has

pub fits_same : {H R W : Type 0} (bytes : H → Option (List ℕ)) {k : _} (old new : TheJob (Base H R) H W k) (reader : BlockReader R)
    → IsSameJob old new → Fits bytes old.base.version reader → Fits bytes new.base.version reader
fits_same {H} {R} {W} bytes {k} old new reader same fits =
    subst (λ (x : TheJob (Base H R) H W k). Fits bytes x.base.version reader) (sym same.same) fits

-- so it is where it read on, or where it took a table
pub fits_kept : {H R W : Type 0} (bytes : H → Option (List ℕ)) {k : _} (old new : TheJob (Base H R) H W k) (reader : BlockReader R)
    → KeepsAll old new → Fits bytes old.base.version reader → Fits bytes new.base.version reader
fits_kept {H} {R} {W} bytes {k} old new reader kept fits =
    subst (λ (x : TheJob (Base H R) H W k). Fits bytes x.base.version reader) (sym kept) fits

pub fits_taken : {H R W : Type 0} (writers : Writers W) (bytes : H → Option (List ℕ)) {k : _} (file : Lent W k)
    (old new : TheJob (Base H R) H W k)
    (reader : BlockReader R) → Takes writers file old new → Fits bytes old.base.version reader → Fits bytes new.base.version reader
fits_taken {H} {R} {W} writers bytes {k} file old new reader takes fits =
    subst (λ (x : TheJob (Base H R) H W k). Fits bytes x.base.version reader) (sym takes.kept) fits

-- ---- damage

module _ {H : Type 0} (bytes : H → Option (List ℕ)) where
  pub is_at : (ts : List (Table H)) (ess : List (List Entry)) (i : ℕ) (t : Table H) → AreOf bytes ts ess → slice_get ts i ≡ Some t
      → (es : List Entry) × IsOf bytes t es
  is_at [] [] i t all found = absurd (let no : None ≡ Some t = found in cc)
  is_at [] (es ∷ ess) i t all found = absurd all
  is_at (x ∷ ts) [] i t all found = absurd all
  is_at (x ∷ ts) (es ∷ ess) zero t all found = (es, subst (λ (y : Table H). IsOf bytes y es) (some_same x t found) all.0)
    where
      some_same : (a b : Table H) → Some a ≡ Some b → a ≡ b
      some_same a b e = cc
  is_at (x ∷ ts) (es ∷ ess) (suc i) t all found = is_at ts ess i t all.1 found

  -- no table is damaged whose file has its bytes
  undamaged : (t : Table H) (es : List Entry) (place : ℕ) → IsOf bytes t es
      → ForSome (bytes t.held) (λ all. IsBadBlock (shape_of t) all place) → ⊥
  undamaged t es place is bad = no_bad_block bytes t es place is (bad _ is.told)

module _ {H R W : Type 0} (writers : Writers W) (bytes : H → Option (List ℕ)) {k : _} (job : TheJob (Base H R) H W k)
    (reader : BlockReader R)
    (j : Job) (is : HasMerge writers bytes job j) (fits : Fits bytes job.base.version reader) (c : Counts) where
  no_damage : (name : Name) (place : ℕ) → FailsReading is_disk_fault
      (MayWhere (Fits bytes job.base.version reader) (MayFailOn bytes (tables_in job.base.version))) is_disk_fault
      (MayStopIn bytes job.after job.inputs.tables.items) c (Damaged name place) → ⊥
  no_damage name place fails = ⊎_elim
      (λ (out : IsMemory c (Damaged name place)). let no = out.is in absurd (damaged_memory no))
      (λ (other : IsOfSources is_disk_fault (MayWhere (Fits bytes job.base.version reader)
      (MayFailOn bytes (tables_in job.base.version))) c (Damaged name place)
      ⊎ IsOfFiles is_disk_fault (MayStopIn bytes job.after job.inputs.tables.items) c (Damaged name place)). ⊎_elim
      (λ (of : IsOfSources is_disk_fault (MayWhere (Fits bytes job.base.version reader)
      (MayFailOn bytes (tables_in job.base.version))) c (Damaged name place)).
      let (i, t, found, named, bad) = of.had fits in
      let (es, its) = is_at bytes (tables_in job.base.version) is.is.base.tabled i t is.is.base.tables found in
      undamaged bytes t es place its bad)
      (λ (of : IsOfFiles is_disk_fault (MayStopIn bytes job.after job.inputs.tables.items) c (Damaged name place)).
      no_damaged_input bytes job.after job.inputs.tables.items is.is.tables name place is.is.inputs of.had)
      other)
      fails
    where
      damaged_memory : Damaged name place ≡ NoMemory → ⊥
      damaged_memory e = cc

  -- nothing that the merge reads is damaged
  pub sound_reading : (fault : ReadFault) → FailsReading is_disk_fault
      (MayWhere (Fits bytes job.base.version reader) (MayFailOn bytes (tables_in job.base.version))) is_disk_fault
      (MayStopIn bytes job.after job.inputs.tables.items) c fault → (name : Name) (place : ℕ) → fault ≡ Damaged name place → ⊥
  sound_reading fault fails name place is_damage = no_damage name place (subst (FailsReading is_disk_fault
      (MayWhere (Fits bytes job.base.version reader) (MayFailOn bytes (tables_in job.base.version))) is_disk_fault
      (MayStopIn bytes job.after job.inputs.tables.items) c) is_damage fails)

  pub sound_filling : {g : _} (file : Lent W g) (old new : TheJob (Base H R) H W g) (fault : ReadFault) → FailsWith writers
      (FailsReading is_disk_fault
      (MayWhere (Fits bytes job.base.version reader) (MayFailOn bytes (tables_in job.base.version))) is_disk_fault
      (MayStopIn bytes job.after job.inputs.tables.items)) c file old new fault → (name : Name) (place : ℕ) → fault ≡ Damaged name place → ⊥
  sound_filling file old new fault (leaving, left, fails) name place is_damage = ⊎_elim
      (λ (read : FailsReading is_disk_fault
      (MayWhere (Fits bytes job.base.version reader) (MayFailOn bytes (tables_in job.base.version))) is_disk_fault
      (MayStopIn bytes job.after job.inputs.tables.items) c fault × IsSteady writers file leaving). sound_reading fault read.0 name place is_damage)
      (λ (wrote : FailsWriting writers file leaving fault × NoneRose c). ⊎_elim
      (λ (out : Wanted writers file leaving fault). damaged_memory (sym is_damage ∙ out.is))
      (λ (failed : HasFailed writers file leaving fault). damaged_disk (sym is_damage ∙ failed.named))
      wrote.0)
      fails
    where
      damaged_memory : Damaged name place ≡ NoMemory → ⊥
      damaged_memory e = cc

      damaged_disk : {other : Name} → Damaged name place ≡ Disk other → ⊥
      damaged_disk e = cc

-- ---- what failed

-- a halt by a fault of reading or writing isn't one by the disk
pub not_by_disk : (T : Type 0) (fault : ReadFault) → HaltsByDisk {T = T} (Err (halt_by fault)) → ⊥
not_by_disk T NoMemory by = by
not_by_disk T (Disk name) by = by
not_by_disk T (Damaged name place) by = by

-- what has risen was counted
pub risen_counted : (before now : ℕ) → HasRisen before now → HasCounted now
risen_counted before now risen =
    rose_at_all before now (record { later = risen.later; more = risen.rose; counts = risen.counts })

module _ {R W : Type 0} (reads : R → ℕ) (writers : Writers W) (old new : JobReader R (BlockReader R)) where
  abbrev its : Counts
  its = counts (λ (l : BlockReader R). reads l.reader) reads old new

  -- one of the two readers has counted it
  read_failed : (may their : ReadFault → Type 0) (name : Name) → FailsReading is_disk_fault may is_disk_fault their its (Disk name)
      → ReaderFailed (beside reads writers.faults)
  read_failed may their name fails = ⊎_elim
      (λ (out : IsMemory its (Disk name)). absurd (disk_memory out.is))
      (λ (other : IsOfSources is_disk_fault may its (Disk name) ⊎ IsOfFiles is_disk_fault their its (Disk name)). ⊎_elim
      (λ (of : IsOfSources is_disk_fault may its (Disk name)). record {
        reader = ByReader new.looks.reader;
        some = risen_counted (reads old.looks.reader) (reads new.looks.reader) of.counted;
      })
      (λ (of : IsOfFiles is_disk_fault their its (Disk name)). record {
        reader = ByReader new.files;
        some = risen_counted (reads old.files) (reads new.files) of.counted;
      })
      other)
      fails
    where
      disk_memory : Disk name ≡ NoMemory → ⊥
      disk_memory e = cc

  pub reading_failed : (T : Type 0) (may their : ReadFault → Type 0) (fault : ReadFault)
      → FailsReading is_disk_fault may is_disk_fault their its fault
      → HaltsByReader {T = T} (Err (halt_by fault)) → ReaderFailed (beside reads writers.faults)
  reading_failed T may their NoMemory fails by = absurd by
  reading_failed T may their (Disk name) fails by = read_failed may their name fails
  reading_failed T may their (Damaged name place) fails by = absurd by

  pub filling_failed : (T : Type 0) {V H : Type 0} (may their : ReadFault → Type 0) {g : _} (file : Lent W g)
      (first last : TheJob V H W g) (fault : ReadFault)
      → FailsWith writers (FailsReading is_disk_fault may is_disk_fault their) its file first last fault
      → HaltsByReader {T = T} (Err (halt_by fault)) → ReaderFailed (beside reads writers.faults)
  filling_failed T may their file first last NoMemory fails by = absurd by
  filling_failed T may their file first last (Damaged name place) fails by = absurd by
  filling_failed T may their file first last (Disk name) (leaving, left, fails) by = ⊎_elim
      (λ (read : FailsReading is_disk_fault may is_disk_fault their its (Disk name) × IsSteady writers file leaving).
      read_failed may their name read.0)
      (λ (wrote : FailsWriting writers file leaving (Disk name) × NoneRose its). ⊎_elim
      (λ (out : Wanted writers file leaving (Disk name)). absurd (disk_memory out.is))
      (λ (failed : HasFailed writers file leaving (Disk name)). let rose : Rose (writers.faults file.writer)
      (writers.faults leaving.writer) = failed.rose in
      record { reader = ByWriter leaving.writer; some = rose_at_all (writers.faults file.writer) (writers.faults leaving.writer) rose })
      wrote.0)
      fails
    where
      disk_memory : Disk name ≡ NoMemory → ⊥
      disk_memory e = cc

  module _ (sure : IsSure (λ (l : BlockReader R). reads l.reader) reads old) where
    -- and none fails that never does
    pub reading_sure : (T : Type 0) (may their : ReadFault → Type 0) (fault : ReadFault)
        → FailsReading is_disk_fault may is_disk_fault their its fault → HaltsByReader {T = T} (Err (halt_by fault)) → ⊥
    reading_sure T may their NoMemory fails by = by
    reading_sure T may their (Disk name) fails by =
        read_surely (λ (l : BlockReader R). reads l.reader) reads may their old new sure (Disk name) name fails refl
    reading_sure T may their (Damaged name place) fails by = by

    pub filling_sure : (T : Type 0) {V H : Type 0} (may their : ReadFault → Type 0) {g : _} (file : Lent W g)
        (first last : TheJob V H W g) (fault : ReadFault) → writers.faults file.writer ≡ never
        → FailsWith writers (FailsReading is_disk_fault may is_disk_fault their) its file first last fault
        → HaltsByReader {T = T} (Err (halt_by fault)) → ⊥
    filling_sure T may their file first last NoMemory writes fails by = by
    filling_sure T may their file first last (Disk name) writes fails by =
        filled_surely (λ (l : BlockReader R). reads l.reader) reads may their old new sure writers file first last (Disk name) name
        writes fails refl
    filling_sure T may their file first last (Damaged name place) writes fails by = by

-- ---- its files

telling : {A : Type 0} (old new : Option A) (x : A) → (old ≡ None → new ≡ None) → new ≡ Some x → (y : A) × (old ≡ Some y)
telling None new x stays is = absurd (let no : None ≡ Some x = sym (stays refl) ∙ is in cc)
telling (Some y) new x stays is = (y, refl)

none_tell : {W : Type 0} (w : Writers W) {s : _} (fs : List (Lent W s)) → fs ≡ []
    → AllByRecursion (λ (f : Lent W s). IsSome (w.file f.writer)) fs
none_tell {W} w {s} fs none =
    subst (λ (fs : List (Lent W s)). AllByRecursion (λ (f : Lent W s). IsSome (w.file f.writer)) fs) (sym none) tt

-- What failed at a file that wasn't lent was the disk,
pub unlent_cause : (A : Type 0) (before now : ℕ) (fail : StepFail) → HasCause before now (StepFailed {T = A} (Err fail))
    → HasCause before now (HaltsByDisk (round_by fail))
unlent_cause A before now (fails.Exhausted counter) cause = cause
unlent_cause A before now fails.NoMemory cause = cause
unlent_cause A before now (fails.Disk name) cause = cause
unlent_cause A before now (fails.Halted name) cause = cause

-- and nothing beside it, where the engine ran.
pub unlent_fault : {H W : Type 0} (w : Writers W) (before after : Core H) (fail : StepFail) → before.front.halted ≡ None
    → DrawsCore {W = W} before after {g = w} (Err fail) → HaltsByReader (round_by fail) → ⊥
unlent_fault w before after (fails.Exhausted counter) running draws by = by
unlent_fault w before after fails.NoMemory running draws by = by
unlent_fault w before after (fails.Disk name) running draws by = by
unlent_fault w before after (fails.Halted name) running draws by = none_halts name (sym running ∙ draws.0)
  where
    none_halts : (name : Name) → None ≡ Some name → ⊥
    none_halts name e = cc

-- Unless the disk failed at the file that wasn't lent, it was left alone.
pub unlent_tells : {D H W : Type 0} (g : Ghosts D) (w : Writers W) (before after : Core H) (old new : D) (fail : StepFail)
    → DrawsCore {W = W} before after {g = w} (Err fail) → (FreshLeavesDisk {W = W} {g = w} (Err fail) → ChangesNothing g old new ⊥)
    → after.front.halted ≡ None → StaysUntold (g.told old) (g.told new)
unlent_tells g w before after old new (fails.Halted name) core untouched running none = (untouched tt).told ∙ none
unlent_tells g w before after old new (fails.Exhausted counter) core untouched running none = (untouched tt).told ∙ none
unlent_tells g w before after old new fails.NoMemory core untouched running none = (untouched tt).told ∙ none
unlent_tells g w before after old new (fails.Disk name) core untouched running none =
    absurd (let no : None ≡ Some name = sym running ∙ ap (λ (c : Core _). c.front.halted) core in cc)

module _ {D V H W : Type 0} (g : Ghosts D) (w : Writers W) {s : _} where
  -- One that was just planned has none.
  pub just_planned : (disk : D) (merging : Option OpenMerge) (job : TheJob V H W s) → IsJustOpen merging → IsNew job
      → HasLent g w disk merging job
  just_planned disk merging job begun new = record {
    merge = begun.merge;
    is_open = begun.is_open;
    files = ap (λ (ts : List (Synced W s)). map (λ (t : Synced W s). t.number) ts) new.made ∙ sym begun.lent;
    no_leavings = new.leavings;
    distinct = subst AreDistinct (sym begun.lent) tt;
    tells = λ state is. subst (λ (ts : List (Synced W s)). AllByRecursion (λ (t : Synced W s). IsSome (w.file t.writer)) ts)
        (sym new.made) tt;
  }

  -- reading on keeps them
  pub still_lent : (disk : D) (merging : Option OpenMerge) (old new : TheJob V H W s) → KeepsAll old new → HasLent g w disk merging old
      → HasLent g w disk merging new
  still_lent disk merging old new kept lent = subst (λ (x : TheJob V H W s). HasLent g w disk merging x) (sym kept) (record {
    merge = lent.merge;
    is_open = lent.is_open;
    files = lent.files;
    no_leavings = lent.no_leavings;
    distinct = lent.distinct;
    tells = lent.tells;
  })

  -- a table more was made, in a file that was lent for it
  pub one_lent : (old new : D) (was now : Option OpenMerge) (first asked roomy last : TheJob V H W s) (file : Lent W s)
      → HasLent g w old was first → KeepsAll first asked → IsSameJob asked roomy → Takes w file roomy last
      → IsLentMore was now file.number → IsNewTo was file.number → ForSome (g.told old) (λ _. w.file file.writer ≡ Some new_file)
      → StaysUntold (g.told old) (g.told new) → HasLent g w new now last
  one_lent old new was now first asked roomy last file lent kept same takes more apart empty untold = record {
    merge = more.next;
    is_open = more.is_open;
    files = ap (λ (ts : List (Synced W s)). map (λ (t : Synced W s). t.number) ts) made_are
        ∙ (map-append (λ (t : Synced W s). t.number) first.made.items (takes.table ∷ [])
        ∙ (ap (λ (n : ℕ). made_numbers first ++ n ∷ []) takes.number
        ∙ (ap (λ (ns : List ℕ). ns ++ file.number ∷ []) (lent.files ∙ ap (λ (m : OpenMerge). m.lent.items) merge_is) ∙ sym more.lent)));
    no_leavings = ap (λ l. l.items) takes.leavings ∙
        (same.leavings ∙ (ap (λ (x : TheJob V H W s). x.leavings.items) kept ∙ lent.no_leavings));
    distinct = subst AreDistinct (sym more.lent) (more_distinct more.merge.lent.items file.number
        (subst (λ (m : OpenMerge). AreDistinct m.lent.items) merge_is lent.distinct) (apart more.merge more.was_open));
    tells = λ state is.
        let (before, was_told) = telling (g.told old) (g.told new) state untold is in
        subst (λ (ts : List (Synced W s)). AllByRecursion (λ (t : Synced W s). IsSome (w.file t.writer)) ts) (sym made_are)
        (all_more (λ (t : Synced W s). IsSome (w.file t.writer)) first.made.items takes.table (lent.tells before was_told)
        (takes.tells (subst (λ (o : Option _). IsSome o) (sym (empty before was_told)) refl)));
  }
    where
      made_are : last.made.items ≡ first.made.items ++ takes.table ∷ []
      made_are = takes.made ∙ ap (λ (ts : List (Synced W s)). ts ++ takes.table ∷ [])
          (same.made ∙ ap (λ (x : TheJob V H W s). x.made.items) kept)

      merge_is : lent.merge ≡ more.merge
      merge_is = let e : Some lent.merge ≡ Some more.merge = sym lent.is_open ∙ more.was_open in cc

  lent_numbers : (disk : D) (merging : Option OpenMerge) (job : TheJob V H W s) (lent : HasLent g w disk merging job)
      → numbers_in job ≡ lent.merge.lent.items
  lent_numbers disk merging job lent =
      ap (λ (fs : List (Lent W s)). made_numbers job ++ map (λ (f : Lent W s). f.number) fs) lent.no_leavings
      ∙ (append-nil (made_numbers job) ∙ lent.files)

  -- One that has ended can be handed in.
  pub may_hand_in : (disk : D) (merging : Option OpenMerge) (job : TheJob V H W s) → HasLent g w disk merging job → job.ended ≡ true
      → MayHandIn g w disk merging job
  may_hand_in disk merging job lent ended = record {
    ended = ended;
    is_open = ap (λ (o : Option OpenMerge). is_some o) lent.is_open;
    drawn = λ merge is. All-from_recursion (λ (n : ℕ). has n merge.lent.items ≡ true) (numbers_in job)
        (subst (λ (m : OpenMerge). AllByRecursion (λ (n : ℕ). has n m.lent.items ≡ true) (numbers_in job)) (its_merge merge is)
        (subst (AllByRecursion (λ (n : ℕ). has n lent.merge.lent.items ≡ true)) (sym numbers_are) (all_among lent.merge.lent.items)));
    distinct = ap are_distinct numbers_are ∙ apart_all lent.merge.lent.items lent.distinct;
    tells = λ state told. All-from_recursion (λ (t : Synced W s). IsSome (w.file t.writer)) job.made.items (lent.tells state told);
    leavings_tell = λ state told. All-from_recursion (λ (f : Lent W s). IsSome (w.file f.writer)) job.leavings.items
        (none_tell w job.leavings.items lent.no_leavings);
  }
    where
      its_merge : (merge : OpenMerge) → merging ≡ Some merge → lent.merge ≡ merge
      its_merge merge is = let e : Some lent.merge ≡ Some merge = sym lent.is_open ∙ is in cc

      numbers_are : numbers_in job ≡ lent.merge.lent.items
      numbers_are = lent_numbers disk merging job lent

  -- ---- so that it can be given up

  -- its files are just those that were lent to the open merge
  its_files : (disk : D) (halted : Option Name) (merging : Option OpenMerge) (job : TheJob V H W s) (merge : OpenMerge)
      → merging ≡ Some merge → numbers_in job ≡ merge.lent.items → AreDistinct merge.lent.items
      → (halted ≡ None → ForSome (g.told disk) (λ _. AllByRecursion (λ (t : Synced W s). IsSome (w.file t.writer)) job.made.items))
      → (halted ≡ None → ForSome (g.told disk) (λ _. AllByRecursion (λ (f : Lent W s). IsSome (w.file f.writer)) job.leavings.items))
      → IsUnderWay g w disk halted merging job
  its_files disk halted merging job merge is numbers distinct tells leavings_tell = record {
    merge = merge;
    is_open = is;
    drawn = subst (AllByRecursion (λ (n : ℕ). has n merge.lent.items ≡ true)) (sym numbers) (all_among merge.lent.items);
    distinct = subst AreDistinct (sym numbers) distinct;
    tells = tells;
    leavings_tell = leavings_tell;
  }

  -- where each of them became a table
  pub lent_under_way : (disk : D) (halted : Option Name) (merging : Option OpenMerge) (job : TheJob V H W s)
      → HasLent g w disk merging job → IsUnderWay g w disk halted merging job
  lent_under_way disk halted merging job lent =
      its_files disk halted merging job lent.merge lent.is_open (lent_numbers disk merging job lent) lent.distinct
      (λ running. lent.tells) (λ running state told. none_tell w job.leavings.items lent.no_leavings)

  -- where it was lent no more
  pub refused_under_way : (old new : D) (halted : Option Name) (was now : Option OpenMerge) (first asked roomy : TheJob V H W s)
      → HasLent g w old was first → KeepsAll first asked → IsSameJob asked roomy → IsSameMerge was now
      → (halted ≡ None → StaysUntold (g.told old) (g.told new)) → IsUnderWay g w new halted now roomy
  refused_under_way old new halted was now first asked roomy lent kept same stays untold =
      its_files new halted now roomy stays.next stays.is_open
      (ap (λ (ts : List (Synced W s)). map (λ (t : Synced W s). t.number) ts ++ map (λ (f : Lent W s). f.number) roomy.leavings.items)
      made_are
      ∙ (ap (λ (fs : List (Lent W s)). made_numbers first ++ map (λ (f : Lent W s). f.number) fs) none_left
      ∙ (append-nil (made_numbers first) ∙ (lent.files ∙ lent_are))))
      (subst AreDistinct lent_are lent.distinct)
      (λ running state told. let (before, was_told) = telling (g.told old) (g.told new) state (untold running) told in
      subst (λ (ts : List (Synced W s)). AllByRecursion (λ (t : Synced W s). IsSome (w.file t.writer)) ts) (sym made_are)
      (lent.tells before was_told))
      (λ running state told. none_tell w roomy.leavings.items none_left)
    where
      made_are : roomy.made.items ≡ first.made.items
      made_are = same.made ∙ ap (λ (x : TheJob V H W s). x.made.items) kept

      none_left : roomy.leavings.items ≡ []
      none_left = same.leavings ∙ (ap (λ (x : TheJob V H W s). x.leavings.items) kept ∙ lent.no_leavings)

      lent_are : lent.merge.lent.items ≡ stays.next.lent.items
      lent_are =
          let e : Some lent.merge ≡ Some stays.merge = sym lent.is_open ∙ stays.was_open in
          let merge_is : lent.merge ≡ stays.merge = cc in
          ap (λ (m : OpenMerge). m.lent.items) merge_is ∙ sym stays.lent

  -- where the last one became no table
  pub left_under_way : (old new : D) (halted : Option Name) (was now : Option OpenMerge) (first asked roomy last : TheJob V H W s)
      (file : Lent W s) → HasLent g w old was first → KeepsAll first asked → IsSameJob asked roomy → Leaves w file roomy last
      → IsLentMore was now file.number → IsNewTo was file.number → ForSome (g.told old) (λ _. w.file file.writer ≡ Some new_file)
      → StaysUntold (g.told old) (g.told new) → IsUnderWay g w new halted now last
  left_under_way old new halted was now first asked roomy last file lent kept same leaves more apart empty untold =
      its_files new halted now last more.next more.is_open
      (ap (λ (ts : List (Synced W s)). map (λ (t : Synced W s). t.number) ts ++ map (λ (f : Lent W s). f.number) last.leavings.items)
      made_are
      ∙ (ap (λ (fs : List (Lent W s)). made_numbers first ++ map (λ (f : Lent W s). f.number) fs) left_is
      ∙ (ap (λ (n : ℕ). made_numbers first ++ n ∷ []) leaves.number
      ∙ (ap (λ (ns : List ℕ). ns ++ file.number ∷ []) (lent.files ∙ ap (λ (m : OpenMerge). m.lent.items) merge_is) ∙ sym more.lent))))
      (subst AreDistinct (sym more.lent) (more_distinct more.merge.lent.items file.number
      (subst (λ (m : OpenMerge). AreDistinct m.lent.items) merge_is lent.distinct) (apart more.merge more.was_open)))
      (λ running state told. let (before, was_told) = telling (g.told old) (g.told new) state untold told in
      subst (λ (ts : List (Synced W s)). AllByRecursion (λ (t : Synced W s). IsSome (w.file t.writer)) ts) (sym made_are)
      (lent.tells before was_told))
      (λ running state told. let (before, was_told) = telling (g.told old) (g.told new) state untold told in
      subst (λ (fs : List (Lent W s)). AllByRecursion (λ (f : Lent W s). IsSome (w.file f.writer)) fs) (sym left_is)
      (leaves.tells (subst (λ (o : Option _). IsSome o) (sym (empty before was_told)) refl), tt))
    where
      made_are : last.made.items ≡ first.made.items
      made_are = ap (λ (x : TheJob V H W s). x.made.items) leaves.kept
          ∙ (same.made ∙ ap (λ (x : TheJob V H W s). x.made.items) kept)

      left_is : last.leavings.items ≡ leaves.leaving ∷ []
      left_is = leaves.left ∙ ap (λ (fs : List (Lent W s)). fs ++ leaves.leaving ∷ [])
          (same.leavings ∙ (ap (λ (x : TheJob V H W s). x.leavings.items) kept ∙ lent.no_leavings))

      merge_is : lent.merge ≡ more.merge
      merge_is = let e : Some lent.merge ≡ Some more.merge = sym lent.is_open ∙ more.was_open in cc
