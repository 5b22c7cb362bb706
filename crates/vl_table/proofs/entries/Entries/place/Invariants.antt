use Rattle.std.proofs.Common.{◌-◌, ◌≤◌, List, length}
use Rattle.std.specs.List.{prefix_len}
use Rattle.vl_model.specs.declared.entry.Entry.{Entry}
use Rattle.vl_model.specs.Lookups.{is_ahead}
use Rattle.vl_table.specs.Scans.{Lists}
use Rattle.vl_table.proofs.EntrySteps.{Between}
use Rattle.vl_table.proofs.entries.Entries.place.Given as goal

abbrev pub invariant-halves : goal.invariant-halves
invariant-halves l = (l.high ≤ length l.self.starts.now)
    × ((es : List Entry) → Lists l.self es → Between l.low l.high (prefix_len (is_ahead l.key l.version) es))

abbrev pub decreases-halves : goal.decreases-halves
decreases-halves l = l.high - l.low
