-- What is left of a cursor over a table.
use Rattle.std.specs.Prelude.{◌≡◌, ℕ, List, Option, Some}
use Rattle.vl_compact.specs.Keys.{behind}
use Rattle.vl_engine_model.specs.declared.table.Table.{Table}
use Rattle.vl_model.specs.declared.entry.Entry.{Entry}

-- the table's entries behind a key
abbrev pub HasBehind : {C : Type 0} → (C → Option (List Entry)) → Option (List ℕ) → C → Table → Type 0
HasBehind left after c t = left c ≡ Some (behind after t.entries)
