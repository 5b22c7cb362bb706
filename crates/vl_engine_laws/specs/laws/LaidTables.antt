-- The tables of a version that has a layout are the layout's too where they are taken end to end.
use Rattle.std.specs.Prelude.{ℕ, List, [], ◌∷◌, ◌++◌, Option}
use Rattle.std.specs.List.{AllZip, flat_map}
use Rattle.vl_engine_laws.specs.Laid.{AreTablesOf, HasLayout, IsTableOf, by_level}
use Rattle.vl_engine_model.specs.Sources.{tables}
use Rattle.vl_engine_model.specs.declared.layout.Layout.{Layout}
use Rattle.vl_engine_model.specs.declared.table.Table as laid
use Rattle.vl_table.specs.declared.table.Table.{Table}
use Rattle.vl_version.specs.Sources.{tables_in}
use Rattle.vl_version.specs.declared.version.Version.{Version}
use Rattle.vl_version.specs.levels.LevelTables.{all_tables}

-- two lists side by side, and two more behind them
pub zip_more : {A B : Type 0} (R : A → B → Type 0) (xs us : List A) (ys vs : List B) → AllZip R xs ys → AllZip R us vs
    → AllZip R (xs ++ us) (ys ++ vs)
zip_more R [] us [] vs a b = b
zip_more R [] us (y ∷ ys) vs a b = absurd a
zip_more R (x ∷ xs) us [] vs a b = absurd a
zip_more R (x ∷ xs) us (y ∷ ys) vs a b = (a.0, zip_more R xs us ys vs a.1 b)

module _ {H : Type 0} (bytes : H → Option (List ℕ)) where
  levels_flat : (levels : List (List (Table H))) (ls : List (List laid.Table)) → AllZip (AreTablesOf bytes) levels ls
      → AreTablesOf bytes (all_tables levels) (flat_map (λ level. level) ls)
  levels_flat [] [] zip = tt
  levels_flat [] (us ∷ ls) zip = absurd zip
  levels_flat (ts ∷ levels) [] zip = absurd zip
  levels_flat (ts ∷ levels) (us ∷ ls) zip =
      zip_more (IsTableOf bytes) ts (all_tables levels) us (flat_map (λ level. level) ls) zip.0 (levels_flat levels ls zip.1)

  pub tables_are : (version : Version H) (l : Layout) → HasLayout bytes version l
      → AreTablesOf bytes (tables_in version) (tables l)
  tables_are version l has = levels_flat (by_level version.behind.levels) l.levels has.levels
