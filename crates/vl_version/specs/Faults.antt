-- Which fault of a read says that reading failed.
use Rattle.std.specs.Prelude.{Result, Ok, Err}
use Rattle.vl_disk.specs.declared.read_fault.ReadFault.{ReadFault}
use Rattle.vl_disk.specs.declared.read_fault.ReadFault.TheVariants.{NoMemory, Disk, Damaged}

-- reading failed
abbrev pub Failed : {T : Type 0} → Result T ReadFault → Type 0
Failed (Ok x) = ⊥
Failed (Err NoMemory) = ⊥
Failed (Err (Disk name)) = Unit {0}
Failed (Err (Damaged name place)) = ⊥
