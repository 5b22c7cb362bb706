-- How far a job has come with its merge. Nothing here hangs on the disk, but on what writers tell.
use Rattle.std.specs.Prelude.{◌≡◌, ℕ, ◌≤◌, ◌<◌, Bool, false, true, List, [], ◌∷◌, ◌++◌, length, map, take, drop}
use Rattle.std.specs.Prelude.{Option, None, Some, vec_capacity, vec_len, IsSome}
use Rattle.std.specs.Arc.{arc_value}
use Rattle.std.specs.List.{AllZip, flat_map}
use Rattle.std.specs.Option.{ForSome, IfNone}
use Rattle.vl_table.specs.body.Bytes.{table_bytes}
use Rattle.vl_table.specs.body.Shapes.{IsShapeOf}
use Rattle.vl_compact.specs.Filling.{FailsFilling}
use Rattle.vl_compact.specs.Keys.{all_named, behind, up_to}
use Rattle.vl_compact.specs.Laid.{AreTablesOf}
use Rattle.vl_compact.specs.Next.{IsFirstOf}
use Rattle.vl_compact.specs.Reading.{Counts}
use Rattle.vl_compact.specs.Stops.{InputsReadOn, InputsReadTo, MayStopIn}
use Rattle.vl_compact.specs.declared.fill.Filled.{Filled}
use Rattle.vl_compact.specs.declared.files.Lent.{Lent}
use Rattle.vl_compact.specs.declared.files.Synced.{Synced}
use Rattle.vl_compact.specs.declared.job.Job.{Job}
use Rattle.vl_compact.specs.declared.next.Next.{Next}
use Rattle.vl_disk.specs.DiskState.{new_file, settled}
use Rattle.vl_disk.specs.declared.writer.Writer.{Ghosts}
use Rattle.vl_engine_model.specs.Jobs.{Made, tables_made}
use Rattle.vl_engine_model.specs.Merging.{inputs_of, merged_entries, needless, outputs}
use Rattle.vl_engine_model.specs.Sources.{numbers_of, table_entries}
use Rattle.vl_engine_model.specs.Tables.{cut_into_tables}
use Rattle.vl_engine_model.specs.declared.job.Job as laid_job
use Rattle.vl_engine_model.specs.declared.table.Table as laid
use Rattle.vl_merge.specs.Marked.{Marked}
use Rattle.vl_merge.specs.Standing.{IsUpward}
use Rattle.vl_model.specs.Merging.{merged}
use Rattle.vl_model.specs.Entries.{in_order}
use Rattle.vl_model.specs.Formats.{table_format}
use Rattle.vl_model.specs.declared.entry.Entry.{Entry}
use Rattle.vl_model.specs.declared.way.Way.TheVariants.{Up}
use Rattle.vl_disk.specs.declared.read_fault.ReadFault.{ReadFault}

-- which of some entries are done: those up to a key, or all at the end
abbrev pub done_by : Bool → Option (List ℕ) → List Entry → List Entry
done_by true after es = es
done_by false after es = up_to after es

-- what a merge's inputs have behind a key, as it comes
abbrev pub left_behind : laid_job.Job → Option (List ℕ) → List Entry
left_behind j after = merged Up (behind after (inputs_of j.base))

module _ {W : Type 0} (writer : Ghosts W) where
  -- nothing was done with the file since it was made
  abbrev pub IsFresh : {g : _} → Lent W g → Type 0
  IsFresh file = ForSome (writer.file file.writer) (λ f. f ≡ new_file)

  -- each of its bytes is durable
  abbrev pub IsSettled : {g : _} → Lent W g → Type 0
  IsSettled file = ForSome (writer.file file.writer) (λ f. f ≡ settled f.bytes)

  -- The file has the bytes of the table of these entries, each of which is durable, and the shape is theirs.
  pub record IsTableFile {g : _} (table : Synced W g) (es : List Entry) : Type 0 where
    pub format : (arc_value table.shape).format ≡ table_format
    pub shape : IsShapeOf table.number es (arc_value table.shape)
    pub file : ForSome (writer.file table.writer) (λ f. f ≡ settled (table_bytes table_format table.number es))

  module _ {V H : Type 0} (bytes : H → Option (List ℕ)) (has : V → List ℕ → List Marked → Type 0) where
    -- The job does the merge of a layout's job.
    pub record IsJobOf {g : _} (job : Job V H W g) (j : laid_job.Job) : Type 0 where
      pub tables : List laid.Table
      pub inputs : AreTablesOf bytes job.inputs.tables.items tables
      pub numbers : j.inputs ≡ numbers_of tables
      pub base : has job.base j.inputs j.base
      -- the inputs' entries are those of the tables, end to end
      pub entries : inputs_of j.base ≡ flat_map table_entries tables
      pub target : job.inputs.target ≡ j.target
      pub floor : job.floor ≡ j.floor
      pub keep : job.keep ≡ j.keep
      pub some : 1 ≤ j.keep

    -- The job has made the first tables of its merge. The others are made of what the merge keeps behind a key, and of the
    -- keys up to that one, or of all once it has ended, it has the deletions that were needless.
    pub record Has {g : _} (job : Job V H W g) (j : laid_job.Job) : Type 0 where
      pub is : IsJobOf job j
      pub made : AllZip IsTableFile job.made.items (take (length job.made.items) (outputs j))
      pub others : drop (length job.made.items) (outputs j) ≡ cut_into_tables (behind job.after (merged_entries j))
      pub needless_are : job.needless.items ≡ all_named (done_by job.ended job.after (in_order (needless j)))
      -- where it has ended, none is missing
      pub ended : job.ended ≡ true → length job.made.items ≡ length (outputs j)

    -- The job has all of its merge.
    pub record HasAll {g : _} (job : Job V H W g) (j : laid_job.Job) : Type 0 where
      pub is : IsJobOf job j
      pub made : AllZip IsTableFile job.made.items (outputs j)
      pub needless_are : job.needless.items ≡ all_named (in_order (needless j))

    -- What is kept first of what its tables don't have: where nothing is, it has all of its merge, and else a table is missing.
    pub record Answers {g : _} {C : Type 0} (left : C → Option (List Entry)) (job : Job V H W g) (j : laid_job.Job)
        (next : Option (Next C)) : Type 0 where
      pub state : Has job j
      pub all : IfNone next (HasAll job j)
      pub first : ForSome next (IsFirstOf left j (left_behind j job.after))
      pub missing : ForSome next (λ _. length job.made.items < length (outputs j))

-- ---- what a call leaves

-- this file became the table that comes behind others
pub record HasTaken {W : Type 0} {g : _} (lent : Lent W g) (filled : Filled) (old new : List (Synced W g)) : Type 0 where
  pub table : Synced W g
  pub number : table.number ≡ lent.number
  pub writer : table.writer ≡ lent.writer
  pub shape : table.shape ≡ filled.shape
  pub made : new ≡ old ++ table ∷ []

module _ {V H W : Type 0} where
  -- it has made nothing yet
  pub record IsNew {g : _} (job : Job V H W g) : Type 0 where
    pub after : job.after ≡ None
    pub made : job.made.items ≡ []
    pub leavings : job.leavings.items ≡ []
    pub needless_are : job.needless.items ≡ []
    pub ended : job.ended ≡ false

  -- Whatever is told: of its inputs all was read up to the last key of its tables, and to their end once it has ended.
  pub record HasRead {g : _} (bytes : H → Option (List ℕ)) (job : Job V H W g) : Type 0 where
    pub on : InputsReadOn bytes None job.after job.inputs.tables.items
    pub rest : job.ended ≡ true → InputsReadTo bytes job.after (λ _. false) job.inputs.tables.items

  -- Whatever is told: it was read of the job's inputs behind that key, where they stop is where its cursor may, and the job hasn't
  -- ended.
  pub record IsNextOf {g : _} {C : Type 0} (stands_to : C → (Entry → Bool) → Type 0) (may_fail : C → ReadFault → Type 0)
      (bytes : H → Option (List ℕ)) (job : Job V H W g) (next : Next C) : Type 0 where
    pub going : job.ended ≡ false
    pub may_stop : (fault : ReadFault) → may_fail next.keeping.cursor fault → MayStopIn bytes job.after job.inputs.tables.items fault
    pub stands : (is_met : Entry → Bool) → IsUpward Up is_met → stands_to next.keeping.cursor is_met
        → InputsReadTo bytes job.after is_met job.inputs.tables.items

  -- room for one table more, and for one file that didn't become one
  pub record HasRoom {g : _} (job : Job V H W g) : Type 0 where
    pub made : vec_len job.made < vec_capacity job.made
    pub leavings : vec_len job.leavings < vec_capacity job.leavings

  -- what it is, and its files, are as before
  abbrev pub KeepsAll : {g : _} → (old new : Job V H W g) → Type 0
  KeepsAll old new = new ≡ record old { needless = new.needless; ended = new.ended }

module _ {V H W : Type 0} (writer : Ghosts W) where
  -- All is as before but that this file, which didn't become a table, is the last of its leavings.
  pub record Leaves {g : _} (fresh : Lent W g) (old new : Job V H W g) : Type 0 where
    pub leaving : Lent W g
    pub number : leaving.number ≡ fresh.number
    pub kept : new ≡ record old { leavings = new.leavings; needless = new.needless }
    pub left : new.leavings.items ≡ old.leavings.items ++ leaving ∷ []
    pub needless_are : new.needless.items ≡ old.needless.items
    -- a writer that told its file tells it
    pub tells : IsSome (writer.file fresh.writer) → IsSome (writer.file leaving.writer)

  -- One table more was made, which has the number of the file.
  pub record Takes {g : _} (fresh : Lent W g) (old new : Job V H W g) : Type 0 where
    pub table : Synced W g
    pub number : table.number ≡ fresh.number
    pub made : new.made.items ≡ old.made.items ++ table ∷ []
    -- it goes on behind that table's last key
    pub last : new.after ≡ Some (arc_value table.shape).footer.last
    pub leavings : new.leavings ≡ old.leavings
    pub ended : new.ended ≡ old.ended
    -- what it merges, and its other files, are as before
    pub kept : new ≡ record old { after = new.after; made = new.made; needless = new.needless }
    -- a writer that told its file tells it
    pub tells : IsSome (writer.file fresh.writer) → IsSome (writer.file table.writer)
    -- and each byte of it is durable
    pub durable : ForSome (writer.file table.writer) (λ f. f ≡ settled f.bytes)

  -- A call that reads and writes failed: reading did, by what a fault of that is, or writing the file, which is a leaving.
  abbrev pub FailsWith : {g : _} → (Counts → ReadFault → Type 0) → Counts → Lent W g → (old new : Job V H W g) → ReadFault → Type 0
  FailsWith {g} reads c fresh old new fault = (leaving : Lent W g) × (new.leavings.items ≡ old.leavings.items ++ leaving ∷ [])
      × FailsFilling writer reads c fresh leaving fault

-- what a job's tables and leavings are to a layout's job
abbrev pub made_of : {V H W : Type 0} {g : _} → Job V H W g → laid_job.Job → Made
made_of {W = W} job j = record {
  tables = tables_made (map (λ (t : Synced W _). t.number) job.made.items) (outputs j);
  leavings = map (λ (f : Lent W _). f.number) job.leavings.items;
}
