-- Tables that were opened, without where they lie in memory.
use Rattle.std.specs.Global.{Global}
use Rattle.std.specs.Prelude.{List, Vec, map}
use Rattle.vl_recover.specs.opening.Opening.{FoundTable}
use Rattle.vl_table.specs.Opening.{said_by}
use Rattle.vl_table.specs.Tables.{number_of, shape_of}
use Rattle.vl_table.specs.declared.table.Table.{Table}

module _ {H : Type 0} where
  abbrev pub found_table : Table H → FoundTable
  found_table t = record { number = number_of t; said = said_by (shape_of t) }

  abbrev pub found_list : List (Table H) → List FoundTable
  found_list ts = map found_table ts

  abbrev pub found_level : Vec (Table H) Global → List FoundTable
  found_level ts = found_list ts.items

  abbrev pub all_found : Vec (Vec (Table H) Global) Global → List (List FoundTable)
  all_found levels = map found_level levels.items
