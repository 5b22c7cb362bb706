-- What backups and loads fail by, as what fails below them says it.
use Rattle.vl_backup.specs.declared.fails.BackupFail.{BackupFail}
use Rattle.vl_backup.specs.declared.fails.BackupFail.TheVariants as backup
use Rattle.vl_backup.specs.declared.fails.LoadFail.{LoadFail}
use Rattle.vl_backup.specs.declared.fails.LoadFail.TheVariants as load
use Rattle.vl_stream.specs.declared.fail.StreamFail.{StreamFail}
use Rattle.vl_stream.specs.declared.fail.StreamFail.TheVariants as stream
use Rattle.vl_disk.specs.declared.errors.DiskFail.{DiskFail}
use Rattle.vl_disk.specs.declared.errors.DiskFail.TheVariants as disk
use Rattle.vl_disk.specs.declared.read_fault.ReadFault.{ReadFault}
use Rattle.vl_disk.specs.declared.read_fault.ReadFault.TheVariants as read
use Rattle.vl_oracle.specs.declared.begin_fail.BeginFail.{BeginFail}
use Rattle.vl_oracle.specs.declared.begin_fail.BeginFail.TheVariants as begin
use Rattle.vl_steps.specs.declared.fails.StepFail.{StepFail}
use Rattle.vl_steps.specs.declared.fails.StepFail.TheVariants as step

-- a frame was not written
abbrev pub put_fail : DiskFail → BackupFail
put_fail disk.NoMemory = backup.NoMemory
put_fail disk.Failed = backup.Write

-- a change was not read
abbrev pub read_fail : ReadFault → BackupFail
read_fail read.NoMemory = backup.NoMemory
read_fail (read.Disk name) = backup.Disk name
read_fail (read.Damaged name place) = backup.Damaged name place

-- a batch was not read
abbrev pub stream_fail : StreamFail → LoadFail
stream_fail stream.NotABackup = load.NotABackup
stream_fail (stream.NewerFormat format) = load.NewerFormat format
stream_fail (stream.Damaged place) = load.Damaged place
stream_fail stream.Read = load.Read
stream_fail stream.NoMemory = load.NoMemory

-- a batch's transaction was not begun
abbrev pub begin_fail : BeginFail → LoadFail
begin_fail begin.TooMany = load.TooMany
begin_fail begin.NoMemory = load.NoMemory

-- the log was not rotated
abbrev pub step_fail : StepFail → LoadFail
step_fail (step.Halted name) = load.Halted name
step_fail (step.Exhausted counter) = load.Exhausted counter
step_fail step.NoMemory = load.NoMemory
step_fail (step.Disk name) = load.Disk name
