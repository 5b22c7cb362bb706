-- In which order the tables of a level are.
use Rattle.std.specs.Prelude.{◌≡◌, ℕ, Bool, false, List, [], ◌∷◌, ◌++◌}
use Rattle.std.specs.List.{AllByRecursion}
use Rattle.std.specs.Ordering.{is_gt}
use Rattle.std.specs.declared.cmp.Ordering.TheVariants.{Less}
use Rattle.vl_model.specs.Keys.{key_cmp}
use Rattle.vl_table.specs.declared.body.footer.Footer.{Footer}
use Rattle.vl_table.specs.Tables.{shape_of}
use Rattle.vl_table.specs.declared.table.Table.{Table}

module _ {H : Type 0} where
  abbrev pub footer_of : Table H → Footer
  footer_of t = (shape_of t).footer

  -- each table ends before the next one begins, by their footers
  abbrev pub AreApart : List (Table H) → Type 0
  AreApart [] = Unit {0}
  AreApart (t ∷ []) = Unit {0}
  AreApart (t ∷ u ∷ us) = (key_cmp (footer_of t).last (footer_of u).first ≡ Less) × AreApart (u ∷ us)

  -- by its footer no table ends before it begins
  abbrev pub AreRanged : List (Table H) → Type 0
  AreRanged ts = AllByRecursion (λ (t : Table H). is_gt (key_cmp (footer_of t).first (footer_of t).last) ≡ false) ts

  -- the table's last key is below the key
  abbrev pub ends_before : List ℕ → Table H → Bool
  ends_before key t = is_gt (key_cmp key (footer_of t).last)

  -- the tables of some levels, end to end
  abbrev pub all_tables : List (List (Table H)) → List (Table H)
  all_tables [] = []
  all_tables (ts ∷ levels) = ts ++ all_tables levels

  -- in each level the tables are apart
  abbrev pub AreAllApart : List (List (Table H)) → Type 0
  AreAllApart levels = AllByRecursion AreApart levels

  -- and have ranges, as far as footers can tell
  abbrev pub AreAllRanged : List (List (Table H)) → Type 0
  AreAllRanged levels = AllByRecursion AreRanged levels
