use Rattle.std.proofs.Common.{inl, refl, sym}
use Rattle.vl_script_model.specs.Endings.{disk_fault_line}
use Rattle.vl_recover.specs.declared.fails.OpenError.TheVariants.{Disk}
use Rattle.vl_replay.proofs.refuse.end_unopened.Goals as goal

pub returns-in-Disk : goal.returns-in-Disk
returns-in-Disk g c = (Disk c.in-Disk.name, inl (sym c.in-Disk.is), (disk_fault_line, refl, c.finish-in-Disk.ensures))
