use Rattle.std.proofs.Common.{◌≡◌, [], take}
use Rattle.vl_version.specs.Naming.{MeetFaults}
use Rattle.vl_version.specs.Whole.{AreMet}
use Rattle.vl_version.proofs.TableSources.{HaveFirst}
use Rattle.vl_version.proofs.gather.tables.meeting.Given as goal

abbrev pub invariant-loop-table : goal.invariant-loop-table
invariant-loop-table g l = record {
  have : HaveFirst g.H.HeldFile.bytes l.span l.tables l.table-index l.met.items;
  none : l.tables ≡ [] → l.met.items ≡ [];
  faults : MeetFaults g.H.HeldFile.bytes l.span (take l.table-index l.tables) l.met.items;
  copies : AreMet g.H.HeldFile.bytes l.span (take l.table-index l.tables) l.met.items;
}
