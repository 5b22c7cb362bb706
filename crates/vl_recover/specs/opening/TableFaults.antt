-- What is answered where a table wasn't opened.
use Rattle.vl_recover.specs.declared.fails.OpenError.{OpenError}
use Rattle.vl_recover.specs.declared.fails.OpenError.TheVariants as why
use Rattle.vl_disk.specs.declared.read_fault.ReadFault.{ReadFault}
use Rattle.vl_disk.specs.declared.read_fault.ReadFault.TheVariants as faults

abbrev pub open_error : ReadFault → OpenError
open_error faults.NoMemory = why.NoMemory
open_error (faults.Disk name) = why.Disk name
open_error (faults.Damaged name place) = why.Damaged name place
