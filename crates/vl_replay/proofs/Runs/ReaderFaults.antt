-- An opening that failed: by the disk, which counts it, or by the reader that it made.
use Rattle.std.proofs.Common.{◌≡◌, ◌⊎◌, ⊎_elim, inl, inr, ℕ, refl, sym, subst}
use Rattle.std.specs.Prelude.{Option, None, Some}
use Rattle.vl_disk.specs.laws.Counting.{counted_or_not, none_counted}
use Rattle.vl_disk.specs.Crash.{Image}
use Rattle.vl_disk.specs.DiskState.{DiskState}
use Rattle.vl_disk.specs.Faults.{HasCause, HasCounted, NoneCounted, Rose}
use Rattle.vl_disk.specs.Started.{IsRead}
use Rattle.vl_disk.specs.declared.name.Name.{Name}
use Rattle.vl_disk.specs.declared.watched.Watched.{Ghosts}
use Rattle.vl_engine.specs.Opening.{IsDiskFault, IsFault}
use Rattle.vl_io.specs.declared.sink.Sink as sink
use Rattle.vl_recover.specs.declared.fails.OpenError.{OpenError}
use Rattle.vl_recover.specs.declared.fails.OpenError.TheVariants as why
use Rattle.vl_recover.specs.opening.Opening.{NamesNoTable}
use Rattle.vl_recover.specs.opening.Results.{counted}
use Rattle.vl_script_model.specs.Durable.{IsAsBefore}
use Rattle.vl_script_model.specs.Endings.{CountsFaultsOf, TheDisk}
use Rattle.vl_script_model.specs.Failing.{ReaderFailed}
use Rattle.vl_script_model.specs.Opening.{ending_unopened, why_refused}
use Rattle.vl_script_model.specs.Start.{EndsAtTables, FailsAtTables}
use Rattle.vl_script_model.specs.Steps.{EndsFor, FinishesBy}
use Rattle.vl_script_model.specs.declared.ending.Ending.{Ending}
use Rattle.vl_script_model.specs.declared.fails.Refusal.{Refusal}
use Rattle.vl_replay.proofs.Runs.OpenedRuns.{counts_disk}
use Rattle.vl_replay.proofs.Runs.Refusals.{fault_for, fault_of, no_fault}

-- where the reader has counted none, a fault is the disk's
by_disk_itself : (n : ℕ) (reason : OpenError) → NoneCounted n → IsFault (Some reason) → IsDiskFault n (Some reason)
by_disk_itself n why.NotAStore none fault = fault
by_disk_itself n (why.NewerFormat format) none fault = fault
by_disk_itself n (why.Damaged name place) none fault = fault
by_disk_itself n (why.Exhausted counter) none fault = fault
by_disk_itself n why.NoMemory none fault = fault
by_disk_itself n (why.Disk name) none fault = none

-- and where the disk failed, the reader has counted none
none_read : (n : ℕ) (reason : OpenError) → IsDiskFault n (Some reason) → NoneCounted n
none_read n why.NotAStore fault = absurd fault
none_read n (why.NewerFormat format) fault = absurd fault
none_read n (why.Damaged name place) fault = absurd fault
none_read n (why.Exhausted counter) fault = absurd fault
none_read n why.NoMemory fault = absurd fault
none_read n (why.Disk name) fault = fault

fault_at_all : (n : ℕ) (reason : OpenError) → IsDiskFault n (Some reason) → IsFault (Some reason)
fault_at_all n why.NotAStore fault = fault
fault_at_all n (why.NewerFormat format) fault = fault
fault_at_all n (why.Damaged name place) fault = fault
fault_at_all n (why.Exhausted counter) fault = fault
fault_at_all n why.NoMemory fault = fault
fault_at_all n (why.Disk name) fault = tt

-- So the disk counts it.
disk_cause : (before now n : ℕ) (reason : OpenError) → NoneCounted n → HasCause before now (IsDiskFault n (Some reason))
    → HasCause before now (IsFault (Some reason))
disk_cause before now n reason none cause = record {
  later = cause.later;
  rose = λ fault. cause.rose (by_disk_itself n reason none fault);
  steady = λ sound. cause.steady (λ fault. sound (fault_at_all n reason fault));
}

-- a reader that has counted some failed
reader_failed : {R : Type 0} (faults : R → ℕ) (reader : Option R) → HasCounted (counted faults reader) → ReaderFailed faults
reader_failed faults None some = absurd (none_counted.none some)
reader_failed faults (Some reader) some = record { reader = reader; some = some }

module _ {D R : Type 0} (g : Ghosts D) (faults : R → ℕ) (old new : D) (reader : Option R) (reason : OpenError)
    (cause : HasCause (g.faults old) (g.faults new) (IsDiskFault (counted faults reader) (Some reason)))
    (unread : (state : DiskState) (read : Image) → g.told old ≡ Some state → IsRead read state → NamesNoTable read
    → NoneCounted (counted faults reader)) (unmoved : HasCounted (counted faults reader) → IsAsBefore g old new)
    (sure : g.gives_steady old → NoneCounted (counted faults reader)) where
  -- the reader failed
  at_tables : HasCounted (counted faults reader) → FailsAtTables g faults old new
  at_tables some = record {
    reader = reader_failed faults reader some;
    gives = λ gives. (sure gives).none some;
    tables = λ state read told is_read none. (unread state read told is_read none).none some;
    steady = cause.steady (λ fault. (none_read (counted faults reader) reason fault).none some);
    unchanged = unmoved some;
  }

  -- A fault is counted, by one of the two.
  pub by_either : IsFault (Some reason) → Rose (g.faults old) (g.faults new) ⊎ FailsAtTables g faults old new
  by_either fault = ⊎_elim
      (λ (some : HasCounted (counted faults reader)). inr (at_tables some))
      (λ (none : NoneCounted (counted faults reader)). inl (cause.rose (by_disk_itself (counted faults reader) reason none fault)))
      (counted_or_not (counted faults reader))

  -- Where the disk counted none it was left alone.
  pub left_as_before : ((IsFault (Some reason) → ⊥) → IsAsBefore g old new) → (Rose (g.faults old) (g.faults new) → ⊥)
      → IsAsBefore g old new
  left_as_before left_alone sound = by reason refl
    where
      of_fault : IsFault (Some reason) → IsAsBefore g old new
      of_fault fault = ⊎_elim
          (λ (rose : Rose (g.faults old) (g.faults new)). absurd (sound rose))
          (λ (tables : FailsAtTables g faults old new). tables.unchanged)
          (by_either fault)

      by : (w : OpenError) → reason ≡ w → IsAsBefore g old new
      by why.NotAStore is = left_alone (λ fault. subst (λ (w : OpenError). IsFault (Some w)) is fault)
      by (why.NewerFormat format) is = left_alone (λ fault. subst (λ (w : OpenError). IsFault (Some w)) is fault)
      by (why.Damaged name place) is = left_alone (λ fault. subst (λ (w : OpenError). IsFault (Some w)) is fault)
      by (why.Exhausted counter) is = left_alone (λ fault. subst (λ (w : OpenError). IsFault (Some w)) is fault)
      by why.NoMemory is = left_alone (λ fault. subst (λ (w : OpenError). IsFault (Some w)) is fault)
      by (why.Disk name) is = of_fault (subst (λ (w : OpenError). IsFault (Some w)) (sym is) tt)

  module _ {K : Type 0} (k : sink.Ghosts K) (sink sink' : K) (how : OpenError) (result : Ending) (for : EndsFor reason how)
      (finishes : FinishesBy k sink sink' (ending_unopened how) result) where
    counted_none : NoneCounted (counted faults reader) → CountsFaultsOf TheDisk (Some result) (g.faults old) (g.faults new)
    counted_none none = counts_disk k sink sink' how result finishes (g.faults old) (g.faults new) (IsFault (Some reason))
        (fault_of reason how for) (fault_for reason how for)
        (disk_cause (g.faults old) (g.faults new) (counted faults reader) reason none cause)

    -- The run ended by the disk, which counted it, or since reads of tables failed.
    pub disk_or_tables : CountsFaultsOf TheDisk (Some result) (g.faults old) (g.faults new)
        ⊎ EndsAtTables g faults k old new sink sink' result
    disk_or_tables = by reason refl
      where
        -- what isn't a fault at all isn't one of the reader
        sound : (IsFault (Some reason) → ⊥) → CountsFaultsOf TheDisk (Some result) (g.faults old) (g.faults new)
        sound none = counts_disk k sink sink' how result finishes (g.faults old) (g.faults new) (IsFault (Some reason))
            (fault_of reason how for) (fault_for reason how for) (record {
              later = cause.later;
              rose = λ fault. absurd (none fault);
              steady = λ not. cause.steady (λ fault. not (fault_at_all (counted faults reader) reason fault));
            })

        no_refusal : (name : Name) → reason ≡ why.Disk name → (refusal : Refusal) → reason ≡ why_refused refusal → ⊥
        no_refusal name is refusal refused = no_fault refusal
            (subst (λ (w : OpenError). IsFault (Some w)) refused (subst (λ (w : OpenError). IsFault (Some w)) (sym is) tt))

        at_reader : (name : Name) → reason ≡ why.Disk name → HasCounted (counted faults reader)
            → EndsAtTables g faults k old new sink sink' result
        at_reader name is some = (
          at_tables some,
          subst (λ (w : OpenError). FinishesBy k sink sink' (ending_unopened w) result) is
              (⊎_elim
              (λ (same : how ≡ reason). subst (λ (w : OpenError). FinishesBy k sink sink' (ending_unopened w) result) same finishes)
              (λ (out : (how ≡ why.NoMemory) × ((other : Refusal) × (reason ≡ why_refused other))).
              absurd (no_refusal name is out.1.0 out.1.1))
              for),
        )

        by_count : (name : Name) → reason ≡ why.Disk name
            → CountsFaultsOf TheDisk (Some result) (g.faults old) (g.faults new) ⊎ EndsAtTables g faults k old new sink sink' result
        by_count name is = ⊎_elim
            (λ (some : HasCounted (counted faults reader)). inr (at_reader name is some))
            (λ (none : NoneCounted (counted faults reader)). inl (counted_none none))
            (counted_or_not (counted faults reader))

        by : (w : OpenError) → reason ≡ w
            → CountsFaultsOf TheDisk (Some result) (g.faults old) (g.faults new) ⊎ EndsAtTables g faults k old new sink sink' result
        by why.NotAStore is = inl (sound (λ fault. subst (λ (w : OpenError). IsFault (Some w)) is fault))
        by (why.NewerFormat format) is = inl (sound (λ fault. subst (λ (w : OpenError). IsFault (Some w)) is fault))
        by (why.Damaged name place) is = inl (sound (λ fault. subst (λ (w : OpenError). IsFault (Some w)) is fault))
        by (why.Exhausted counter) is = inl (sound (λ fault. subst (λ (w : OpenError). IsFault (Some w)) is fault))
        by why.NoMemory is = inl (sound (λ fault. subst (λ (w : OpenError). IsFault (Some w)) is fault))
        by (why.Disk name) is = by_count name is
