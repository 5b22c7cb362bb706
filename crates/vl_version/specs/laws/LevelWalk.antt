-- What is taken of the tables of all levels, level by level.
use Rattle.std.specs.Prelude.{◌≡◌, ◌<◌, ◌≤◌, ◌+◌, ℕ, length, List, [], ◌∷◌, ◌++◌, refl}
use Rattle.std.proofs.Common.{sym, ap, ◌∙◌, append_assoc, get_or, take}
use Rattle.std.proofs.lemmas.List.{take_all, take_more}
use Rattle.vl_table.specs.declared.table.Table.{Table}
use Rattle.vl_version.specs.levels.LevelTables.{all_tables}

module _ {H : Type 0} where
  all_tables-more : (levels : List (List (Table H))) (level : List (Table H))
      → all_tables (levels ++ level ∷ []) ≡ all_tables levels ++ level
  all_tables-more [] level = nil level
    where
      nil : (ts : List (Table H)) → ts ++ [] ≡ ts
      nil [] = refl
      nil (t ∷ ts) = ap (λ (us : List (Table H)). t ∷ us) (nil ts)
  all_tables-more (l ∷ levels) level =
      ap (λ (ts : List (Table H)). l ++ ts) (all_tables-more levels level) ∙ sym (append_assoc l (all_tables levels) level)

  -- what is taken of tables, so that it is taken of one level behind another
  module _ {Y : Type 0} (f : List (Table H) → List Y) (both : (ts us : List (Table H)) → f (ts ++ us) ≡ f ts ++ f us)
      (newest : List (Table H)) (deeper : List (List (Table H))) where
    pub levels_next : (old new : List Y) (i : ℕ) (level : List (Table H)) → i < length deeper → level ≡ get_or deeper i level
        → old ≡ f newest ++ f (all_tables (take i deeper)) → new ≡ old ++ f level
        → new ≡ f newest ++ f (all_tables (take (i + 1) deeper))
    levels_next old new i level within at is put =
        put
        ∙ ap (λ (ps : List Y). ps ++ f level) is
        ∙ append_assoc (f newest) (f (all_tables (take i deeper))) (f level)
        ∙ ap (λ (ps : List Y). f newest ++ ps) (sym (both (all_tables (take i deeper)) level)
        ∙ ap f (sym (all_tables-more (take i deeper) level)
        ∙ ap all_tables (ap (λ (l : List (Table H)). take i deeper ++ l ∷ []) at ∙ sym (take_more deeper i level within))))

    pub levels_end : (all : List Y) (i : ℕ) → length deeper ≤ i → all ≡ f newest ++ f (all_tables (take i deeper))
        → all ≡ f (newest ++ all_tables deeper)
    levels_end all i end is =
        is ∙ ap (λ (ls : List (List (Table H))). f newest ++ f (all_tables ls)) (take_all i deeper end)
        ∙ sym (both newest (all_tables deeper))

    pub levels_begin : (none put : List Y) → f [] ≡ [] → none ≡ [] → put ≡ none ++ f newest
        → put ≡ f newest ++ f (all_tables (take 0 deeper))
    levels_begin none put nothing empty is =
        is ∙ ap (λ (ps : List Y). ps ++ f newest) empty ∙ sym (nil (f newest))
        ∙ ap (λ (ps : List Y). f newest ++ ps) (sym nothing)
      where
        nil : (ps : List Y) → ps ++ [] ≡ ps
        nil [] = refl
        nil (p ∷ ps) = ap (λ (qs : List Y). p ∷ qs) (nil ps)
