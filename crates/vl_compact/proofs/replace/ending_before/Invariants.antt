use Rattle.std.proofs.Common.{◌≡◌, ◌+◌, ◌-◌, List, length, drop}
use Rattle.std.specs.Prelude.{Some}
use Rattle.vl_compact.specs.Laid.{AreTablesOf}
use Rattle.vl_compact.specs.Places.{place_before}
use Rattle.vl_engine_model.specs.declared.table.Table as laid
use Rattle.vl_compact.proofs.replace.ending_before.Given as goal

abbrev pub invariant-loop-at : goal.invariant-loop-at
invariant-loop-at g l = (ts : List laid.Table) → AreTablesOf g.H.HeldFile.bytes l.tables ts
    → place_before (Some l.key) ts ≡ l.at + place_before (Some l.key) (drop l.at ts)

abbrev pub decreases-loop-at : goal.decreases-loop-at
decreases-loop-at g l = length l.tables - l.at
