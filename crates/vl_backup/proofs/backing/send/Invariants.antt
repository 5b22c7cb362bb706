use Rattle.std.proofs.Common.{◌≡◌}
use Rattle.vl_backup.proofs.Sending.{Sends}
use Rattle.vl_engine_model.specs.Changes.{changes}
use Rattle.vl_model.specs.History.{History}
use Rattle.vl_reads.specs.Changes.{MayTellSince, TellsChanges}
use Rattle.vl_reads.specs.Reading.{OnlyReads}
use Rattle.vl_reads.specs.Sees.{SeesAlone}
use Rattle.vl_version.specs.Changes.{AreReadSince, HasLeft, IsOver, StandsToEnd, changes_budget}
use Rattle.vl_backup.proofs.backing.send.Given as goal

-- the changes that were given stand in the stream, and the others are left
abbrev pub invariant-loop-changes : goal.invariant-loop-changes
invariant-loop-changes g l = record {
  sends : (h : History) → TellsChanges g.H.HeldFile.bytes l.fn.view h → MayTellSince l.fn.view.past l.fn.view.number l.since
      → Sends (g.K.Sink.held l.fn.sink) (g.K.Sink.held l.sink) l.since l.packer.at l.packer.records
      l.packer.waiting.records.items (HasLeft g.H.HeldFile.bytes l.view.version l.changes) (changes h l.since l.fn.view.number);
  over : IsOver g.H.HeldFile.bytes l.fn.view.version l.since l.changes;
  whole : StandsToEnd g.H.HeldFile.bytes l.changes → AreReadSince g.H.HeldFile.bytes l.since l.fn.view.version.behind.levels;
  keeps : OnlyReads l.fn.view l.view;
  still : (h : History) → SeesAlone g.H.HeldFile.bytes l.fn.view h → SeesAlone g.H.HeldFile.bytes l.view h;
  reads : g.R.Reader.faults l.view.reader.reader ≡ g.R.Reader.faults l.fn.view.reader.reader;
  puts : g.K.Sink.faults l.sink ≡ g.K.Sink.faults l.fn.sink;
}

abbrev pub decreases-loop-changes : goal.decreases-loop-changes
decreases-loop-changes g l = changes_budget l.changes
