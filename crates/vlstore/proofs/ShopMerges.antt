-- A merge over disks that never fail: it is refused where numbers ran out, or since a relocation came between.
use Rattle.std.proofs.Common.{◌≡◌, ◌≢◌, ℕ, ◌+◌, ◌≤◌, List, [], length, refl, sym, subst, inl, inr}
use Rattle.std.specs.Prelude.{Bool, true, false, if◌then◌else◌, Option, None, Some, Result, Ok, Err, IfErr, IsErrAnd, ⊤}
use Rattle.vl_compact.specs.Stops.{MayStopIn}
use Rattle.vl_compact.specs.laws.TrueInputs.{no_damage}
use Rattle.vl_disk.specs.Faults.{NoneCounted}
use Rattle.vl_disk.specs.declared.read_fault.ReadFault.TheVariants as read
use Rattle.vl_disk.specs.declared.read_fault.ReadFault.{ReadFault}
use Rattle.vl_disk.specs.declared.writer.Writer.{Ghosts as Writers}
use Rattle.vl_disk.specs.laws.Counting.{none_rose}
use Rattle.vl_drive.specs.Refused as drive
use Rattle.vl_drive.specs.declared.fails.StepFail.TheVariants as shop
use Rattle.vl_drive.specs.declared.fails.StepFail.{StepFail}
use Rattle.vl_engine.specs.declared.fails.MergeFail.TheVariants as merge
use Rattle.vl_engine.specs.declared.fails.MergeFail.{MergeFail}
use Rattle.vl_engine_model.specs.Ruling.{has_no_number, leaving}
use Rattle.vl_engine_model.specs.Rulings.Fresh as fresh
use Rattle.vl_engine_model.specs.Rulings.Fresh.{fresh_ruling, fresh_unless}
use Rattle.vl_engine_model.specs.Rulings.Install as install
use Rattle.vl_engine_model.specs.Rulings.Install.{InstallAnswer, install_ruling}
use Rattle.vl_engine_model.specs.Rulings.Plan.{plan_ruling}
use Rattle.vl_engine_model.specs.declared.file_name.FileName.{FileName}
use Rattle.vl_engine_model.specs.declared.layout.Layout.{Layout}
use Rattle.vl_engine_model.specs.declared.lock_history.LockEntry.{LockEntry}
use Rattle.vl_model.specs.Cursors.{IsCounted}
use Rattle.vl_model.specs.History.{History}
use Rattle.vl_model.specs.Limits.{max_file_number}
use Rattle.vl_model.specs.declared.counter.Counter.TheVariants as counters
use Rattle.vl_model.specs.declared.counter.Counter.{Counter}
use Rattle.vl_table.specs.CursorParts.{MayFailOn, is_disk_fault}
use Rattle.vl_version.specs.Sources.{tables_in}
use Rattle.vlstore.proofs.PassLaws.{none_bad, none_risen}
use Rattle.vlstore.proofs.Stores.{prefix_on}
use Rattle.vlstore.specs.Knowing.{GoesOn, Knows}
use Rattle.vlstore.specs.Lists.{history_by, layout_by}
use Rattle.vlstore.specs.Refused.{Between, FailsMaking, IsOutOfTables, IsRefused, WasRefused}
use Rattle.vlstore.specs.Shops.{known_by}

-- where no file is made for want of numbers, they are those of tables
tables_out : (l : Layout) (h : History) (counter : Counter) → (fresh_ruling l h).answer ≡ fresh.Exhausted counter
    → (fresh_ruling l h).answer ≡ fresh.Exhausted counters.Table
tables_out l h counter is = by l.halted is
  where
    counted : (b : Bool) → (if b then leaving (fresh.Exhausted counters.Table) h l
        else record { answer = fresh.Drawn l.next_table; history = h; layout = fresh.drawn l; calls = 1; gone = [] }).answer
        ≡ fresh.Exhausted counter
        → (if b then leaving (fresh.Exhausted counters.Table) h l
        else record { answer = fresh.Drawn l.next_table; history = h; layout = fresh.drawn l; calls = 1; gone = [] }).answer
        ≡ fresh.Exhausted counters.Table
    counted true e = refl
    counted false e = absurd (let no : fresh.Drawn l.next_table ≡ fresh.Exhausted counter = e in cc)

    by : (o : Option FileName) → (fresh_unless o l h).answer ≡ fresh.Exhausted counter
        → (fresh_unless o l h).answer ≡ fresh.Exhausted counters.Table
    by None e = counted (has_no_number l.next_table 1) e
    by (Some name) e = absurd (let no : fresh.Halted name ≡ fresh.Exhausted counter = e in cc)

module _ {H R W : Type 0} (sure : Type 0) (surely : sure) (writers : Writers W) (bytes : H → Option (List ℕ)) (faults_of : R → ℕ)
    (steady : (r : R) → NoneCounted (faults_of r)) (never : (w : W) → NoneCounted (writers.faults w)) (v m w : Knows) where
  -- Nothing is read that isn't whole, and no file fails.
  making_wants : (fault : ReadFault) → FailsMaking v m sure writers bytes faults_of fault → fault ≡ read.NoMemory
  making_wants fault made = elim made.fails [
    | inl reads ↦ elim reads.cause [
      | inl memory ↦ memory.is
      | inr rest ↦ elim rest [
        | inl sources ↦ looked fault (sources.had made.due.looks) (faults_of reads.before.looks.reader)
            (faults_of reads.after.looks.reader) (steady reads.after.looks.reader) sources.counted
        | inr files ↦ taken fault files.had (faults_of reads.before.files) (faults_of reads.after.files) (steady reads.after.files)
            files.counted
      ]
    ]
    | inr writes ↦ elim writes.cause [
      | inl wanted ↦ wanted.is
      | inr failed ↦ absurd (none_rose (writers.faults writes.file.writer) (writers.faults writes.leaving.writer)
          (never writes.leaving.writer) failed.rose)
    ]
  ]
    where
      looked : (f : ReadFault) → MayFailOn bytes (tables_in made.job.base.version) f → (before now : ℕ) → NoneCounted now
          → IsCounted (is_disk_fault f) before now → f ≡ read.NoMemory
      looked read.NoMemory may before now none counted = refl
      looked (read.Disk name) may before now none counted = absurd (none_risen before now none counted)
      looked (read.Damaged name place) may before now none counted =
          let has = made.due.has.is.base in
          absurd (none_bad bytes (tables_in made.job.base.version) has.tabled has.tables name place may)

      taken : (f : ReadFault) → MayStopIn bytes made.key made.job.inputs.tables.items f → (before now : ℕ) → NoneCounted now
          → IsCounted (is_disk_fault f) before now → f ≡ read.NoMemory
      taken read.NoMemory may before now none counted = refl
      taken (read.Disk name) may before now none counted = absurd (none_risen before now none counted)
      taken (read.Damaged name place) may before now none counted =
          let has = made.due.has.is in
          absurd (no_damage bytes made.key made.job.inputs.tables.items has.tables name place has.inputs may)

  module _ (on : GoesOn m w) (own : w.own ≡ m.own) (runs : v.origin.layout.halted ≡ None) where
    between : (P Q : Layout → History → Type 0) → ((l : Layout) (h : History) → P l h → Q l h) → Between v m P
        → drive.Between (known_by v) (known_by w) Q
    between P Q so at = record {
      before = at.before;
      later = at.later;
      within = prefix_on at.before m.seen w.seen at.within on.seen;
      was = so (layout_by v.origin at.before) (history_by v.origin at.before) at.was;
    }

    tables : (counter : Counter) → IsOutOfTables v m counter → drive.WantsTables (known_by v) (known_by w)
    tables counter (inl at) = inl (between (λ l h. (fresh_ruling l h).answer ≡ fresh.Exhausted counter)
        (λ l h. (fresh_ruling l h).answer ≡ fresh.Exhausted counters.Table) (λ l h. tables_out l h counter) at)
    tables counter (inr took) =
        inr (subst (λ (es : List LockEntry). max_file_number + length v.own ≤ length es) (sym own) took.took)

    answered : (answer : InstallAnswer) → WasRefused v m answer → drive.WasAnswered (known_by v) (known_by w) answer
    answered answer refused = record {
      planned = refused.planned;
      due = between (λ l h. (plan_ruling l h).answer ≡ Some refused.planned) (λ l h. (plan_ruling l h).answer ≡ Some refused.planned)
          (λ l h is. is) refused.due;
      made = refused.made;
      ruled = between (λ l h. (install_ruling l h refused.planned refused.made).answer ≡ answer)
          (λ l h. (install_ruling l h refused.planned refused.made).answer ≡ answer) (λ l h is. is) refused.refused;
    }

    not_merged : (fail : MergeFail) → fail ≢ merge.NoMemory → IsRefused v m sure writers bytes faults_of fail
        → drive.WasNotMerged (known_by v) (known_by w)
    not_merged (merge.Halted name) some why = absurd (why.never surely runs)
    not_merged (merge.Exhausted counter) some (inl out) = inl (tables counter out)
    not_merged (merge.Exhausted counter) some (inr refused) = inr (inl (counter, answered (install.Exhausted counter) refused))
    not_merged merge.Raced some (key, number, refused) = inr (inr (key, number, answered (install.Raced key number) refused))
    not_merged merge.NoMemory some why = absurd (some refl)
    not_merged (merge.Disk name) some (inl fails) =
        absurd (let no : read.Disk name ≡ read.NoMemory = making_wants (read.Disk name) fails in cc)
    not_merged (merge.Disk name) some (inr failed) = absurd (failed.never surely)
    not_merged (merge.Damaged name place) some fails =
        absurd (let no : read.Damaged name place ≡ read.NoMemory = making_wants (read.Damaged name place) fails in cc)

    -- So it is with a shop's answer.
    pub merge_refused : (answer : Result (Option ℕ) MergeFail) (r : Result ⊤ StepFail)
        → IfErr r (λ fail. fail ≡ shop.Refused → IsErrAnd answer (λ why. why ≢ merge.NoMemory))
        → IfErr answer (IsRefused v m sure writers bytes faults_of)
        → IfErr r (λ fail. fail ≡ shop.Refused → drive.WasNotMerged (known_by v) (known_by w))
    merge_refused answer (Ok done) so why = tt
    merge_refused (Ok kept) (Err fail) so why = λ is. absurd (so is)
    merge_refused (Err reason) (Err fail) so why = λ is. not_merged reason (so is) why
