-- What a search for blocks out of order says of a merge's inputs.
use Rattle.std.proofs.Common.{◌≡◌, inr, ℕ, Bool, List, [], ◌∷◌, Option, Some, ap, subst, ◌∙◌}
use Rattle.std.specs.List.{slice_get}
use Rattle.std.specs.Option.{ForSome}
use Rattle.std.specs.Prelude.{Err, unwrap_or}
use Rattle.vl_compact.proofs.Lefts.{only}
use Rattle.vl_compact.specs.Filling.{StopsFilling}
use Rattle.vl_compact.specs.Lending.{IsSteady}
use Rattle.vl_compact.specs.Reading.{Counts, FailsReading, NoneRose, counts}
use Rattle.vl_compact.specs.Stops.{MayStopIn}
use Rattle.vl_compact.specs.declared.files.Lent.{Lent}
use Rattle.vl_compact.specs.declared.fill_fail.FillFail.{FillFail}
use Rattle.vl_compact.specs.declared.fill_fail.FillFail.TheVariants.{NotInOrder}
use Rattle.vl_compact.specs.declared.job_reader.JobReader.{JobReader}
use Rattle.vl_disk.specs.declared.name.Name.TheVariants.{Table as table_name}
use Rattle.vl_disk.specs.declared.writer.Writer.{Ghosts}
use Rattle.vl_disk.specs.declared.read_fault.ReadFault.{ReadFault}
use Rattle.vl_disk.specs.declared.read_fault.ReadFault.TheVariants.{NoMemory, Disk, Damaged}
use Rattle.vl_model.specs.Cursors.{IsCounted}
use Rattle.vl_table.specs.BlockOrder.{IsOutOfOrder, SaysOrder, TableBreaksAt}
use Rattle.vl_table.specs.CursorParts.{MayFailOn, is_disk_fault}
use Rattle.vl_table.specs.Tables.{number_of, shape_of}
use Rattle.vl_table.specs.declared.table.Table.{Table}

module _ {H : Type 0} (bytes_of : H → Option (List ℕ)) (after : Option (List ℕ)) (tables : List (Table H)) (t : Table H) (i : ℕ)
    (there : slice_get tables i ≡ Some t) where
  -- the order of its blocks breaks there
  pub breaks_there : (number place : ℕ) → number ≡ number_of t
      → ForSome (bytes_of t.held) (λ bytes. IsOutOfOrder (shape_of t) bytes place)
      → MayStopIn bytes_of after tables (Damaged (table_name number) place)
  breaks_there number place is out = (i, t, there, ap table_name is, inr (λ bytes told. (out bytes told).breaks))

  -- and so it does where a block that is reached in the search doesn't stand
  pub fails_there : (fault : ReadFault) → MayFailOn bytes_of (t ∷ []) fault → SaysOrder bytes_of t (Err fault)
      → MayStopIn bytes_of after tables fault
  fails_there NoMemory may says = tt
  fails_there (Disk name) may says = (i, may.1, there ∙ only bytes_of t may.1 may.0 may.2, may.3)
  fails_there (Damaged name place) may says =
      let same = only bytes_of t may.1 may.0 may.2 in (
        i,
        may.1,
        there ∙ same,
        may.3,
        inr (subst (λ (u : Table H). TableBreaksAt bytes_of u place) (ap (λ (o : Option (Table H)). unwrap_or o t) same) says),
      )

-- where an entry isn't in order nothing is counted
pub none_counted : {W : Type 0} (writer : Ghosts W) {g : _} (of_sources of_files : ReadFault → Bool) (may : ReadFault → Type 0)
    {their may_files : ReadFault → Type 0} (so : (fault : ReadFault) → their fault → may_files fault) (c : Counts) (old new : Lent W g)
    (fail : FillFail) → fail ≡ NotInOrder → StopsFilling writer (FailsReading of_sources may of_files their) c old new fail
    → NoneRose c × IsSteady writer old new
none_counted writer of_sources of_files may {their} so c old new fail is stops =
    subst (StopsFilling writer (FailsReading of_sources may of_files their) c old new) is stops

-- What it answers is a fault of the inputs' files, behind reading that counted none.
pub searched : {R L : Type 0} (sources : L → ℕ) (files : R → ℕ) (of_sources : ReadFault → Bool) (may may_files : ReadFault → Type 0)
    (old mid : JobReader R L) (now : R) (fault : ReadFault) → NoneRose (counts sources files old mid) → may_files fault
    → IsCounted (is_disk_fault fault) (files mid.files) (files now)
    → FailsReading of_sources may is_disk_fault may_files (counts sources files old (record { files = now; looks = mid.looks })) fault
searched sources files of_sources may may_files old mid now fault none had counted = inr (inr record {
  had = had;
  counted = subst (λ n. IsCounted (is_disk_fault fault) n (files now)) none.files counted;
  steady = none.sources;
})
