-- Why a call on a file that a job is lent failed.
use Rattle.std.specs.Prelude.{◌≡◌, ◌⊎◌}
use Rattle.vl_compact.specs.declared.files.Lent.{Lent}
use Rattle.vl_disk.specs.Faults.{Rose}
use Rattle.vl_disk.specs.declared.name.Name.TheVariants.{Table as table_name}
use Rattle.vl_disk.specs.declared.writer.Writer.{Ghosts}
use Rattle.vl_disk.specs.declared.read_fault.ReadFault.{ReadFault}
use Rattle.vl_disk.specs.declared.read_fault.ReadFault.TheVariants.{NoMemory, Disk}

module _ {W : Type 0} (writer : Ghosts W) where
  -- the writer counted no fault
  abbrev pub IsSteady : {g : _} → (old new : Lent W g) → Type 0
  IsSteady old new = writer.faults new.writer ≡ writer.faults old.writer

  -- memory was wanting
  pub record Wanted {g : _} (old new : Lent W g) (fault : ReadFault) : Type 0 where
    pub is : fault ≡ NoMemory
    pub steady : IsSteady old new

  -- writing failed, and the writer has counted it
  pub record HasFailed {g : _} (old new : Lent W g) (fault : ReadFault) : Type 0 where
    pub named : fault ≡ Disk (table_name old.number)
    pub rose : Rose (writer.faults old.writer) (writer.faults new.writer)

  abbrev pub FailsWriting : {g : _} → (old new : Lent W g) → ReadFault → Type 0
  FailsWriting old new fault = Wanted old new fault ⊎ HasFailed old new fault
