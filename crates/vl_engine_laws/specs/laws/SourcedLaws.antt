-- The entries of a version that has a layout are the layout's sources, as what looks up in them has them.
use Rattle.std.specs.Prelude.{◌≡◌, ℕ, Bool, false, List, [], ◌∷◌, ◌++◌, Option, refl}
use Rattle.std.proofs.Common.{sym, ap, ◌∙◌}
use Rattle.vl_model.specs.Cutting.{joined}
use Rattle.vl_engine_laws.specs.Laid.{HasLayout}
use Rattle.vl_engine_laws.specs.Pointed.{layout_logs}
use Rattle.vl_engine_laws.specs.laws.LaidLaws.{laid_entries}
use Rattle.vl_engine_model.specs.Sources.{sources}
use Rattle.vl_engine_model.specs.Tidy.{IsTidy}
use Rattle.vl_engine_model.specs.declared.layout.Layout.{Layout}
use Rattle.vl_merge.specs.Marked.{Marked, all_of}
use Rattle.vl_model.specs.History.{History}
use Rattle.vl_model.specs.declared.entry.Entry.{Entry}
use Rattle.vl_table.specs.OfTables.{AreOf}
use Rattle.vl_table.specs.declared.table.Table.{Table}
use Rattle.vl_version.specs.Bases.{HasSources, is_input, marked_as, marked_sources, marked_tables}
use Rattle.vl_version.specs.Sources.{in_memory, tables_in}
use Rattle.vl_version.specs.declared.version.Version.{Version}

all_marked : (b : Bool) (es : List Entry) → all_of (marked_as b es) ≡ es
all_marked b [] = refl
all_marked b (e ∷ es) = ap (λ (xs : List Entry). e ∷ xs) (all_marked b es)

all_parts : (xs ys : List Marked) → all_of (xs ++ ys) ≡ all_of xs ++ all_of ys
all_parts [] ys = refl
all_parts (x ∷ xs) ys = ap (λ (es : List Entry). x.1 ∷ es) (all_parts xs ys)

module _ {H : Type 0} (bytes : H → Option (List ℕ)) where
  all_tables : (inputs : List ℕ) (ts : List (Table H)) (tabled : List (List Entry)) → AreOf bytes ts tabled
      → all_of (marked_tables inputs ts tabled) ≡ joined tabled
  all_tables inputs [] [] are = refl
  all_tables inputs [] (es ∷ ess) are = absurd are
  all_tables inputs (t ∷ ts) [] are = absurd are
  all_tables inputs (t ∷ ts) (es ∷ ess) are =
      all_parts (marked_as (is_input inputs t) es) (marked_tables inputs ts ess)
      ∙ ap (λ (xs : List Entry). xs ++ all_of (marked_tables inputs ts ess)) (all_marked (is_input inputs t) es)
      ∙ ap (λ (xs : List Entry). es ++ xs) (all_tables inputs ts ess are.1)

  -- the version has these entries, whichever tables are inputs
  pub record HasMarked (version : Version H) (inputs : List ℕ) (es : List Entry) : Type 0 where
    pub marked : List Marked
    pub has : HasSources bytes version inputs marked
    pub are : all_of marked ≡ es

  pub laid_marked : (version : Version H) (l : Layout) (h : History) (inputs : List ℕ) → HasLayout bytes version l
      → IsTidy (layout_logs l) l h → HasMarked version inputs (sources l)
  laid_marked version l h inputs has tidy =
      let laid = laid_entries bytes version l has h tidy in
      record {
        marked = marked_sources inputs version laid.tabled;
        has = record { tabled = laid.tabled; tables = laid.tables; in_order = laid.in_order; entries = refl };
        are = all_parts (marked_as false (in_memory version)) (marked_tables inputs (tables_in version) laid.tabled)
            ∙ ap (λ (xs : List Entry). xs ++ all_of (marked_tables inputs (tables_in version) laid.tabled))
            (all_marked false (in_memory version))
            ∙ ap (λ (xs : List Entry). in_memory version ++ xs) (all_tables inputs (tables_in version) laid.tabled laid.tables)
            ∙ sym laid.entries;
      }
