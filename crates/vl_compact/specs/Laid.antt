-- Which tables of a layout are those of a store.
use Rattle.std.specs.Prelude.{◌≡◌, ℕ, List, ◌∷◌, Option, Some, None}
use Rattle.std.specs.List.{AllZip}
use Rattle.vl_engine_model.specs.Tidy.{IsTrueTable}
use Rattle.vl_engine_model.specs.declared.table.Table as laid
use Rattle.vl_table.specs.Tables.{IsOf, number_of, shape_of}
use Rattle.vl_table.specs.declared.table.Table.{Table}
use Rattle.vl_version.specs.declared.levels.Levels.{Levels}

-- both are there, and go together, or neither is
abbrev pub AreBoth : {A B : Type 0} → (A → B → Type 0) → Option A → Option B → Type 0
AreBoth R None None = Unit {0}
AreBoth R None (Some b) = ⊥
AreBoth R (Some a) None = ⊥
AreBoth R (Some a) (Some b) = R a b

-- the tables by their levels, level 0 first
abbrev pub by_level : {H : Type 0} → Levels H → List (List (Table H))
by_level levels = levels.newest.items ∷ levels.deeper.items

module _ {H : Type 0} (bytes : H → Option (List ℕ)) where
  -- a table, by its file's bytes, and the layout's is what its entries come to
  pub record IsTableOf (table : Table H) (t : laid.Table) : Type 0 where
    pub of : IsOf bytes table t.entries
    pub number : number_of table ≡ t.number
    pub format : (shape_of table).format ≡ t.format
    pub true_table : IsTrueTable t

  abbrev pub AreTablesOf : List (Table H) → List laid.Table → Type 0
  AreTablesOf tables ts = AllZip IsTableOf tables ts

  -- so it is for each table of each level
  abbrev pub AreLevelsOf : Levels H → List (List laid.Table) → Type 0
  AreLevelsOf levels ls = AllZip AreTablesOf (by_level levels) ls
