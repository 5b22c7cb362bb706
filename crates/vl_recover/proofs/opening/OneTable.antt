-- One table is opened, or is damaged.
use Rattle.std.proofs.Common.{◌≡◌, ℕ, List, subst}
use Rattle.std.specs.Prelude.{Some, Err}
use Rattle.std.specs.FinMap.{get}
use Rattle.vl_disk.specs.Crash.{Image}
use Rattle.vl_disk.specs.declared.name.Name.TheVariants.{Table as table_file}
use Rattle.vl_recover.specs.opening.FoundTables.{found_table}
use Rattle.vl_recover.specs.opening.OpenedTables.{IsNoTable}
use Rattle.vl_recover.specs.opening.Opening.{StandsTable, damaged}
use Rattle.vl_recover.specs.opening.Results.{HasFailed, recovery_by}
use Rattle.vl_recover.specs.opening.TableFaults.{open_error}
use Rattle.vl_disk.specs.Faults.{HasCause, HasCounted, NoneCounted}
use Rattle.vl_table.specs.Answers.{Failed, IsAnswer, IsNamed}
use Rattle.vl_table.specs.Opening.{IsDamaged, IsRead, said_by}
use Rattle.vl_table.specs.Tables.{number_of, shape_of}
use Rattle.vl_disk.specs.declared.read_fault.ReadFault.{ReadFault}
use Rattle.vl_disk.specs.declared.read_fault.ReadFault.TheVariants as faults
use Rattle.vl_table.specs.declared.table.Table.{Table}

-- what the reader counted is answered as a fault
pub fault_read : (T : Type 0) (before now : ℕ) (fault : ReadFault) → NoneCounted before → HasCause before now (Failed {T = T} (Err fault))
    → HasCounted now → HasFailed (recovery_by (open_error fault))
fault_read T before now faults.NoMemory fresh cause some = absurd (fresh.none (subst HasCounted (cause.steady (λ none. none)) some))
fault_read T before now (faults.Disk name) fresh cause some = tt
fault_read T before now (faults.Damaged name place) fresh cause some = absurd (fresh.none (subst HasCounted (cause.steady (λ none. none)) some))

module _ (image : Image) (number : ℕ) (bytes : List ℕ) (stands : get image (table_file number) ≡ Some bytes) where
  pub table_reads : {H : Type 0} (t : Table H) → number_of t ≡ number → IsRead number bytes (said_by (shape_of t))
      → StandsTable image number (found_table t)
  table_reads t numbered reads = record { numbered = numbered; bytes = bytes; stands = stands; reads = reads }

  pub table_fails : (H : Type 0) (fault : ReadFault) → IsNamed {T = Table H} number (Err fault)
      → IsAnswer {T = Table H} (λ t. IsRead number bytes (said_by (shape_of t))) (IsDamaged number bytes) (Err fault)
      → IsNoTable image number (open_error fault)
  table_fails H faults.NoMemory named is = tt
  table_fails H (faults.Disk name) named is = tt
  table_fails H (faults.Damaged name place) named is = (λ before. damaged bytes stands is, named)
