-- A key's refusal, and a version's fault, as those of a read.
use Rattle.vl_reads.specs.declared.fails.ReadFail.{ReadFail}
use Rattle.vl_reads.specs.declared.fails.ReadFail.TheVariants as why
use Rattle.vl_reads.specs.declared.fails.ReadFault.{ReadFault}
use Rattle.vl_reads.specs.declared.fails.ReadFault.TheVariants as into
use Rattle.vl_txn.specs.declared.key_fail.KeyFail.{KeyFail}
use Rattle.vl_txn.specs.declared.key_fail.KeyFail.TheVariants.{EmptyKey, KeyTooLong}
use Rattle.vl_disk.specs.declared.read_fault.ReadFault as version
use Rattle.vl_disk.specs.declared.read_fault.ReadFault.TheVariants as fault

abbrev pub as_read_fail : KeyFail → ReadFail
as_read_fail EmptyKey = why.EmptyKey
as_read_fail KeyTooLong = why.KeyTooLong

abbrev pub as_read_fault : KeyFail → ReadFault
as_read_fault EmptyKey = into.EmptyKey
as_read_fault KeyTooLong = into.KeyTooLong

abbrev pub as_failed_read : version.ReadFault → ReadFail
as_failed_read fault.NoMemory = why.NoMemory
as_failed_read (fault.Disk name) = why.Disk name
as_failed_read (fault.Damaged name place) = why.Damaged name place
