use Rattle.std.proofs.Common.{◌≡◌, ◌∷◌, []}
use Rattle.vl_table.specs.Kept.{Files}
use Rattle.vl_table.specs.KeptBlocks.{ReadsOf}
use Rattle.vl_table.proofs.SeekSteps.{Seeking}
use Rattle.vl_table.proofs.table.Table.seek.Given as goal

abbrev pub invariant-loop-at : goal.invariant-loop-at
invariant-loop-at g l = record {
  steady : g.R.Reader.faults l.reader.reader ≡ g.R.Reader.faults l.fn.reader.reader;
  so : (files : Files) → ReadsOf g.H.HeldFile.bytes files l.fn.reader (l.self ∷ [])
      → Seeking g.H.HeldFile.bytes l.self l.key l.version files (g.R.Reader.faults l.fn.reader.reader)
      (g.R.Reader.faults l.reader.reader) l.reader l.at;
}
