-- The sources of a merge of some tables: which entries they have, each with whether one of the merge's inputs has it.
use Rattle.std.specs.Prelude.{◌≡◌, ℕ, ◌==◌, Bool, false, List, [], ◌∷◌, ◌++◌, map, Option}
use Rattle.std.specs.List.{list_any}
use Rattle.vl_merge.specs.Marked.{Marked}
use Rattle.vl_model.specs.declared.entry.Entry.{Entry}
use Rattle.vl_table.specs.Kept.{Files}
use Rattle.vl_table.specs.KeptBlocks.{ReadsOf}
use Rattle.vl_table.specs.OfTables.{AreOf}
use Rattle.vl_table.specs.Tables.{number_of}
use Rattle.vl_table.specs.declared.block_reader.BlockReader.{BlockReader}
use Rattle.vl_table.specs.declared.table.Table.{Table}
use Rattle.vl_version.specs.Sources.{in_memory, tables_in}
use Rattle.vl_version.specs.declared.version.Version.{Version}
use Rattle.vl_version.specs.levels.LevelsLooked.{AreInOrder}

abbrev pub marked_as : Bool → List Entry → List Marked
marked_as input es = map (λ e. (input, e)) es

module _ {H : Type 0} where
  -- the table's number is one of these
  abbrev pub is_input : List ℕ → Table H → Bool
  is_input inputs t = list_any (λ number. number == number_of t) inputs

  -- the entries of tables, end to end, each with whether its table is an input
  abbrev pub marked_tables : List ℕ → List (Table H) → List (List Entry) → List Marked
  marked_tables inputs [] ess = []
  marked_tables inputs (t ∷ ts) [] = []
  marked_tables inputs (t ∷ ts) (es ∷ ess) = marked_as (is_input inputs t) es ++ marked_tables inputs ts ess

  -- the entries of all sources, the newest source first: no input has what is in memory
  abbrev pub marked_sources : List ℕ → Version H → List (List Entry) → List Marked
  marked_sources inputs version tabled =
      marked_as false (in_memory version) ++ marked_tables inputs (tables_in version) tabled

  -- These are the entries of all sources, end to end, the newest source first, each with whether one of the inputs has it. The
  -- tables are true, and lie in order in their levels.
  pub record HasSources (bytes_of : H → Option (List ℕ)) (version : Version H) (inputs : List ℕ) (ms : List Marked) : Type 0 where
    pub tabled : List (List Entry)
    pub tables : AreOf bytes_of (tables_in version) tabled
    pub in_order : AreInOrder version.behind.levels
    pub entries : ms ≡ marked_sources inputs version tabled

  -- what the reader keeps is of the files of the version's tables
  abbrev pub Fits : {R : Type 0} → (H → Option (List ℕ)) → Version H → BlockReader R → Type 0
  Fits bytes_of version reader = (files : Files) × ReadsOf bytes_of files reader (tables_in version)
