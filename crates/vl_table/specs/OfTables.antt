-- Which entries tables have.
use Rattle.std.specs.Prelude.{ℕ, Option, List, [], ◌∷◌}
use Rattle.vl_model.specs.declared.entry.Entry.{Entry}
use Rattle.vl_table.specs.Tables.{IsOf}
use Rattle.vl_table.specs.declared.table.Table.{Table}

-- each of these tables has these entries
abbrev pub AreOf : {H : Type 0} → (H → Option (List ℕ)) → List (Table H) → List (List Entry) → Type 0
AreOf bytes_of [] [] = Unit {0}
AreOf bytes_of [] (es ∷ ess) = ⊥
AreOf bytes_of (t ∷ ts) [] = ⊥
AreOf bytes_of (t ∷ ts) (es ∷ ess) = IsOf bytes_of t es × AreOf bytes_of ts ess
