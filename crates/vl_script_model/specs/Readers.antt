-- Which things read, and what of a store no reader asks files for.
use Rattle.std.specs.Prelude.{◌≡◌, Bool, true, false, []}
use Rattle.std.specs.List.{filter}
use Rattle.vl_engine_model.specs.Sources.{tables}
use Rattle.vl_engine_model.specs.Store.Things.{Thing, ATransaction, AView, AJob, APass}
use Rattle.vl_engine_model.specs.declared.file_name.FileName.{FileName}
use Rattle.vl_engine_model.specs.declared.file_name.FileName.TheVariants.{Log, Table, Manifest}
use Rattle.vl_engine_model.specs.declared.file_name.Retired.{Retired}
use Rattle.vl_engine_model.specs.declared.layout.Layout.{Layout}

-- a transaction or a view
abbrev pub IsReader : Thing → Type 0
IsReader (ATransaction t b) = Unit {0}
IsReader (AView v b) = Unit {0}
IsReader (AJob job made) = ⊥
IsReader (APass pass batch) = ⊥

abbrev pub is_table : FileName → Bool
is_table (Log n) = false
is_table (Table n) = true
is_table (Manifest n) = false

-- No table stands, and none waits for its removal: what began before a merge dropped its inputs may still read these, and no sweep
-- removes them until it has ended.
abbrev pub IsWithoutTables : Layout → Type 0
IsWithoutTables l = (tables l ≡ []) × (filter (λ (r : Retired). is_table r.file) l.retired ≡ [])
