use Rattle.std.proofs.Common.{◌≡◌, ◌++◌, ℕ, List, drop}
use Rattle.std.specs.List.{All}
use Rattle.vl_collect.specs.Batches.{IsLawful, IsOldOrOf, MayMove, Rise, found_place, read_place}
use Rattle.vl_collect.proofs.Rising.{InFront}
use Rattle.vl_collect.proofs.take.take_found.Given as goal
use Rattle.vl_collect.specs.Passing.{HasEntries}
use Rattle.vl_collect.specs.Taking.{candidates, outcome, records_as}
use Rattle.vl_engine_model.specs.Logs.{LogRecord}
use Rattle.vl_model.specs.declared.entry.Entry.{Entry}

abbrev pub invariant-loop-at : goal.invariant-loop-at
invariant-loop-at g l = record {
  same : (entries : List Entry) → g.V.Sources.fits l.base l.initial.looks → HasEntries g.V.Sources.has l.base entries
      → (others : List LogRecord)
      → outcome entries l.segment (candidates l.initial.batch.items) (records_as (drop l.done l.records) ++ others)
      ≡ outcome entries l.segment (candidates l.batch.items) (records_as (drop l.at l.records) ++ others);
  rises : (low high : ℕ) → Rise found_place 0 l.initial.batch.items low → Rise read_place low (drop l.done l.records) high
      → InFront l.batch.items (drop l.at l.records) high;
  lawful : All MayMove l.records → All IsLawful l.initial.batch.items → All IsLawful l.batch.items;
  read : All (IsOldOrOf l.initial.batch.items l.records) l.batch.items;
  fits : g.V.Sources.fits l.base l.initial.looks → g.V.Sources.fits l.base l.looks;
  steady : g.V.Sources.faults l.looks ≡ g.V.Sources.faults l.initial.looks;
}
