-- No disk in memory of the sure kind fails, nor what reads and writes its files.
use Rattle.vl_disk.specs.Faults.{never}
use Rattle.vl_disk.specs.laws.Counting.{never_counted, zero_counted}
use Rattle.vl_mem.specs.SureDisk.{faults_on, never_fails}
use Rattle.vl_mem.specs.declared.steady_reader.SteadyReader.{SteadyReader}
use Rattle.vl_mem.specs.declared.steady_writer.SteadyWriter.{SteadyWriter}
use Rattle.vlstore.specs.Standing.{NeverFails}

pub sure_disks : NeverFails faults_on (λ (reader : SteadyReader). never) (λ (writer : SteadyWriter). never)
sure_disks = record {
  disks = λ disk. zero_counted (faults_on disk) (never_fails disk);
  readers = λ reader. never_counted;
  writers = λ writer. never_counted;
}
