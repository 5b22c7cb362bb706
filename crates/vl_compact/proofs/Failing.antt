-- A fault behind steps that counted none is one of all of them.
use Rattle.std.proofs.Common.{◌≡◌, inl, inr, ℕ, Bool, ap, subst, sym, ◌∙◌}
use Rattle.std.specs.Prelude.{Result, Ok, Err, IsErrAnd, IfErr}
use Rattle.vl_compact.specs.Filling.{FailsFilling, StopsFilling}
use Rattle.vl_compact.specs.Lending.{FailsWriting, IsSteady}
use Rattle.vl_compact.specs.Reading.{FailsReading, MayWhere, NoneRose, counts}
use Rattle.vl_compact.specs.declared.files.Lent.{Lent}
use Rattle.vl_compact.specs.declared.fill_fail.FillFail.{FillFail}
use Rattle.vl_compact.specs.declared.fill_fail.FillFail.TheVariants.{Fault, NotInOrder}
use Rattle.vl_compact.specs.declared.job_reader.JobReader.{JobReader}
use Rattle.vl_disk.specs.Faults.{Rose}
use Rattle.vl_disk.specs.declared.name.Name.TheVariants.{Table as table_name}
use Rattle.vl_disk.specs.declared.writer.Writer.{Ghosts}
use Rattle.vl_model.specs.Cursors.{IsCounted}
use Rattle.vl_disk.specs.declared.read_fault.ReadFault.{ReadFault}
use Rattle.vl_disk.specs.declared.read_fault.ReadFault.TheVariants.{Disk}

-- so of reading: what there may be later there may be where what held at first still holds
module _ {R L : Type 0} (sources : L → ℕ) (files : R → ℕ) (of_sources of_files : ReadFault → Bool) (old mid new : JobReader R L)
    (steady : NoneRose (counts sources files old mid)) where
  pub reads_later : (fits fits' : Type 0) (may may_files may_files' : ReadFault → Type 0) → (fits → fits')
      → ((fault : ReadFault) → may_files' fault → may_files fault) → (fault : ReadFault)
      → FailsReading of_sources (MayWhere fits' may) of_files may_files' (counts sources files mid new) fault
      → FailsReading of_sources (MayWhere fits may) of_files may_files (counts sources files old new) fault
  reads_later fits fits' may may_files may_files' holds keeps fault (inl memory) = inl record {
    is = memory.is;
    steady = record { sources = memory.steady.sources ∙ steady.sources; files = memory.steady.files ∙ steady.files };
  }
  reads_later fits fits' may may_files may_files' holds keeps fault (inr (inl one)) = inr (inl record {
    had = λ fit. one.had (holds fit);
    counted = subst (λ n. IsCounted (of_sources fault) n (sources new.looks)) steady.sources one.counted;
    steady = one.steady ∙ steady.files;
  })
  reads_later fits fits' may may_files may_files' holds keeps fault (inr (inr one)) = inr (inr record {
    had = keeps fault one.had;
    counted = subst (λ n. IsCounted (of_files fault) n (files new.files)) steady.files one.counted;
    steady = one.steady ∙ steady.sources;
  })

  -- and of writing a file, to which the steps before handed out something
  module _ {W : Type 0} (writer : Ghosts W) where
    pub fills_later : {g : _} (lent between then : Lent W g) → between.number ≡ lent.number → IsSteady writer lent between
        → (fits fits' : Type 0) (may may_files may_files' : ReadFault → Type 0) → (fits → fits')
        → ((fault : ReadFault) → may_files' fault → may_files fault) → (fault : ReadFault)
        → FailsFilling writer (FailsReading of_sources (MayWhere fits' may) of_files may_files') (counts sources files mid new)
        between then fault
        → FailsFilling writer (FailsReading of_sources (MayWhere fits may) of_files may_files) (counts sources files old new)
        lent then fault
    fills_later lent between then number still fits fits' may may_files may_files' holds keeps fault (inl (reads, steady_then)) =
        inl (reads_later fits fits' may may_files may_files' holds keeps fault reads, steady_then ∙ still)
    fills_later lent between then number still fits fits' may may_files may_files' holds keeps fault (inr (writes, none)) = inr (
      by writes,
      record { sources = none.sources ∙ steady.sources; files = none.files ∙ steady.files },
    )
      where
        by : FailsWriting writer between then fault → FailsWriting writer lent then fault
        by (inl memory) = inl record { is = memory.is; steady = memory.steady ∙ still }
        by (inr failed) = inr record {
          named = failed.named ∙ ap (λ n. Disk (table_name n)) number;
          rose = subst (λ n. Rose n (writer.faults then.writer)) still failed.rose;
        }

    -- so too where an entry isn't behind the one before it
    pub stops_later : {g : _} (lent between then : Lent W g) → between.number ≡ lent.number → IsSteady writer lent between
        → (fits fits' : Type 0) (may may_files may_files' : ReadFault → Type 0) → (fits → fits')
        → ((fault : ReadFault) → may_files' fault → may_files fault) → (fail : FillFail)
        → StopsFilling writer (FailsReading of_sources (MayWhere fits' may) of_files may_files') (counts sources files mid new)
        between then fail
        → StopsFilling writer (FailsReading of_sources (MayWhere fits may) of_files may_files) (counts sources files old new)
        lent then fail
    stops_later lent between then number still fits fits' may may_files may_files' holds keeps (Fault fault) stops =
        fills_later lent between then number still fits fits' may may_files may_files' holds keeps fault stops
    stops_later lent between then number still fits fits' may may_files may_files' holds keeps NotInOrder (none, steady_then) =
        (record { sources = none.sources ∙ steady.sources; files = none.files ∙ steady.files }, steady_then ∙ still)

-- what is said of a fault is said of a call that passes it on
pub passed_on : {A E : Type 0} (e : E) (result : Result A E) (P : E → Type 0) → IsErrAnd result (λ f. f ≡ e) → P e → IfErr result P
passed_on e (Ok x) P is so = tt
passed_on e (Err f) P is so = subst P (sym is) so
