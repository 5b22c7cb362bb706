-- What becomes of a table that goes to its file piece by piece.
use Rattle.std.specs.Prelude.{◌≡◌, ◌⊎◌, ℕ, Bool, true, List, [], ◌∷◌, ◌++◌, not, Some, None}
use Rattle.std.specs.Arc.{arc_value}
use Rattle.std.specs.List.{AllByRecursion, filter}
use Rattle.std.specs.Option.{ForSome}
use Rattle.vl_table.specs.body.Bytes.{table_bytes}
use Rattle.vl_model.specs.Cutting.{last_key}
use Rattle.vl_table.specs.body.Shapes.{IsShapeOf}
use Rattle.vl_table.specs.declared.body.shape.TableShape.{TableShape}
use Rattle.vl_compact.specs.FirstTable.{first_table, table_and_rest}
use Rattle.vl_compact.specs.Keeps.{Stage}
use Rattle.vl_compact.specs.Keys.{all_named, is_past, up_to}
use Rattle.vl_compact.specs.Lending.{FailsWriting, IsSteady}
use Rattle.vl_compact.specs.Reading.{Counts, NoneRose}
use Rattle.vl_compact.specs.Walking.{is_behind, spent, walk}
use Rattle.vl_compact.specs.declared.files.Lent.{Lent}
use Rattle.vl_compact.specs.declared.fill.Filled.{Filled}
use Rattle.vl_compact.specs.declared.fill_fail.FillFail.{FillFail}
use Rattle.vl_compact.specs.declared.fill_fail.FillFail.TheVariants.{Fault, NotInOrder}
use Rattle.vl_disk.specs.declared.writer.Writer.{Ghosts}
use Rattle.vl_engine_model.specs.declared.job.Job.{Job}
use Rattle.vl_model.specs.Conflicts.{Named}
use Rattle.vl_model.specs.Formats.{table_format}
use Rattle.vl_model.specs.declared.entry.Entry.{Entry}
use Rattle.vl_disk.specs.declared.read_fault.ReadFault.{ReadFault}
use Rattle.vl_table.specs.writer.Writing.{IsWriting}
use Rattle.vl_table.specs.declared.writer.table_writer.TableWriter.{TableWriter}

-- A table is being written whose last key is this one,
pub record EndsWith (table : TableWriter) (key : List ℕ) : Type 0 where
  pub number : ℕ
  pub entries : List Entry
  pub given : List ℕ
  pub writing : IsWriting table number entries given
  pub last : last_key entries ≡ key

-- and all was read up to that, which is said of each kind of entries.
pub record HasReadFor (stands_to : (Entry → Bool) → Type 0) (table : TableWriter) : Type 0 where
  pub key : List ℕ
  pub ends : EndsWith table key
  pub read : stands_to (is_behind (Some key))

module _ {W : Type 0} (writer : Ghosts W) where
  -- a table is being written to the file: it has these entries, and the file has what was given out of it
  pub record IsWrittenTo {g : _} (lent : Lent W g) (table : TableWriter) (es : List Entry) : Type 0 where
    pub given : List ℕ
    pub writing : IsWriting table lent.number es given
    pub file : ForSome (writer.file lent.writer) (λ f. f.bytes ≡ given)

  -- the file has the bytes of the table of these entries, and the shape is theirs
  pub record IsWhole {g : _} (lent : Lent W g) (es : List Entry) (shape : TableShape) : Type 0 where
    pub format : shape.format ≡ table_format
    pub shape_is : IsShapeOf lent.number es shape
    pub file : ForSome (writer.file lent.writer) (λ f. f.bytes ≡ table_bytes table_format lent.number es)

  -- Entries that are kept were added behind the first one, up to one that closes the table, or all of them; and what of the
  -- needless deletions wasn't found lies behind the last of them.
  pub record Adds {g : _} (j : Job) (first : Entry) (old : Stage) (found : List Named) (lent : Lent W g)
      (table : TableWriter) : Type 0 where
    pub all : List Entry
    pub others : List Entry
    pub later : List Named
    pub written : IsWrittenTo lent table all
    pub cut : table_and_rest (first ∷ []) (walk j old.place old.left) ≡ (all, others)
    pub found_are : old.found ++ all_named (spent j old.place old.left) ≡ found ++ later
    pub behind : AllByRecursion (λ (n : Named). is_past (Some (last_key all)) n.0 ≡ true) later

  -- The first table of what is left was written, and the needless deletions up to its last key were found.
  pub record Fills {g : _} (j : Job) (left : List Entry) (lent : Lent W g) (filled : Filled) : Type 0 where
    pub first : Entry
    pub more : List Entry
    pub kept : walk j None left ≡ first ∷ more
    pub whole : IsWhole lent (first_table (first ∷ more)).0 (arc_value filled.shape)
    pub last : filled.last ≡ last_key (first_table (first ∷ more)).0
    pub found_are : filled.found.items ≡ all_named (up_to (Some filled.last) (spent j None left))

  -- A call that reads and writes failed: reading did, by what a fault of that is, or writing.
  abbrev pub FailsFilling : {g : _} → (Counts → ReadFault → Type 0) → Counts → (old new : Lent W g) → ReadFault → Type 0
  FailsFilling reads c old new fault =
      (reads c fault × IsSteady writer old new) ⊎ (FailsWriting writer old new fault × NoneRose c)

  -- An entry wasn't added: writing failed, or it isn't behind the one before it, which counts nothing.
  abbrev pub StopsAdding : {g : _} → (old new : Lent W g) → FillFail → Type 0
  StopsAdding old new (Fault fault) = FailsWriting writer old new fault
  StopsAdding old new NotInOrder = IsSteady writer old new

  -- A table wasn't filled: reading or writing failed, or an entry isn't behind the one before it, which counts nothing.
  abbrev pub StopsFilling : {g : _} → (Counts → ReadFault → Type 0) → Counts → (old new : Lent W g) → FillFail → Type 0
  StopsFilling reads c old new (Fault fault) = FailsFilling reads c old new fault
  StopsFilling reads c old new NotInOrder = NoneRose c × IsSteady writer old new

-- those of some keys with their versions that aren't behind this key
abbrev pub named_up_to : List ℕ → List Named → List Named
named_up_to last ns = filter (λ (n : Named). not (is_past (Some last) n.0)) ns
