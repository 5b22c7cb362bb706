use Rattle.std.proofs.Common.{◌≡◌, ℕ, ◌+◌, List, drop}
use Rattle.std.specs.Option.{option_map}
use Rattle.vl_compact.specs.Laid.{AreTablesOf}
use Rattle.vl_compact.specs.Places.{index_of}
use Rattle.vl_engine_model.specs.declared.table.Table as laid
use Rattle.vl_compact.proofs.replace.input_among.Given as goal

abbrev pub invariant-loop-at : goal.invariant-loop-at
invariant-loop-at g l = (ts : List laid.Table) → AreTablesOf g.H.HeldFile.bytes l.tables ts
    → index_of l.inputs ts ≡ option_map (λ (n : ℕ). n + l.at) (index_of l.inputs (drop l.at ts))
