-- Which files of a store are in use, and which wait for their removal.
use Rattle.std.specs.Prelude.{◌≡◌, ◌+◌, ◌≤◌, ℕ, nat_le, Bool, true, if◌then◌else◌, List, [], ◌∷◌, ◌++◌}
use Rattle.std.specs.Prelude.{Option, None, Some, vec_capacity, vec_len}
use Rattle.std.specs.List.{filter}
use Rattle.std.specs.VecDeque.{deque_len, deque_capacity}
use Rattle.vl_disk.specs.declared.name.Name.TheVariants as names
use Rattle.vl_disk.specs.declared.name.Name.{Name}
use Rattle.vl_engine_model.specs.Ruling.{retired_at}
use Rattle.vl_engine_model.specs.declared.file_name.FileName.TheVariants as files
use Rattle.vl_engine_model.specs.declared.file_name.FileName.{FileName}
use Rattle.vl_engine_model.specs.declared.file_name.Retired.{Retired}
use Rattle.vl_model.specs.Numbers.{has}
use Rattle.vl_pins.specs.InUse.{but}
use Rattle.vl_pins.specs.declared.in_use.InUse.{InUse}
use Rattle.vl_pins.specs.declared.retired_file.RetiredFile.{RetiredFile}
use Rattle.vl_pins.specs.declared.stock.Stock.{Stock}

-- a file's name as a layout has it
abbrev pub file_of : Name → FileName
file_of (names.Log n) = files.Log n
file_of (names.Table n) = files.Table n
file_of (names.Manifest n) = files.Manifest n

-- The tables and the sealed logs that are in use, and the retired files that wait, the earliest retired first.
pub record Kept (L : Type 0) : Type 0 where
  pub tables : List ℕ
  pub logs : List ℕ
  pub trash : List (RetiredFile L)

-- ---- room

-- the same files are in use, if they are kept
abbrev pub IsSameUse : (old new : Option InUse) → Type 0
IsSameUse None None = Unit {0}
IsSameUse None (Some v) = ⊥
IsSameUse (Some u) None = ⊥
IsSameUse (Some u) (Some v) = (v.tables.items ≡ u.tables.items) × (v.logs.items ≡ u.logs.items)

-- they are kept, with room for so many tables more and for one log; with so many others there are so many then
pub record HasRoomIn (in_use : Option InUse) (tables others all : ℕ) : Type 0 where
  pub kept : InUse
  pub is_some : in_use ≡ Some kept
  pub tables_in : vec_len kept.tables + tables ≤ vec_capacity kept.tables
  pub logs_in : vec_len kept.logs + 1 ≤ vec_capacity kept.logs
  pub all_are : all ≡ vec_len kept.tables + vec_len kept.logs + tables + others + 1

-- ---- what becomes of them

module _ {L : Type 0} where
  -- a retired file as a layout has it
  abbrev pub retired_of : RetiredFile L → Retired
  retired_of file = retired_at file.epoch (file_of file.name)

  -- a file that is retired by a step that made this epoch, and one that was lent and is left
  abbrev pub gone_at : ℕ → Name → RetiredFile L
  gone_at epoch name = record { name = name; epoch = epoch; lent = None }

  abbrev pub left_at : ℕ → L → RetiredFile L
  left_at table lent = record { name = names.Table table; epoch = 0; lent = Some lent }

  abbrev pub with_tables : List ℕ → Kept L → Kept L
  with_tables ns kept = record kept { tables = kept.tables ++ ns }

  abbrev pub log_sealed : ℕ → Kept L → Kept L
  log_sealed n kept = record kept { logs = kept.logs ++ n ∷ [] }

  -- A file is put behind the others that wait, if it was in use.
  abbrev pub put_if : Bool → ℕ → Name → List (RetiredFile L) → List (RetiredFile L)
  put_if was epoch name trash = if was then trash ++ gone_at epoch name ∷ [] else trash

  abbrev pub table_retired : (epoch n : ℕ) → Kept L → Kept L
  table_retired epoch n kept = record kept
      { tables = but n kept.tables; trash = put_if (has n kept.tables) epoch (names.Table n) kept.trash }

  abbrev pub log_retired : (epoch n : ℕ) → Kept L → Kept L
  log_retired epoch n kept = record kept
      { logs = but n kept.logs; trash = put_if (has n kept.logs) epoch (names.Log n) kept.trash }

  -- so it is with several, one after the other
  abbrev pub tables_retired : ℕ → List ℕ → Kept L → Kept L
  tables_retired epoch [] kept = kept
  tables_retired epoch (n ∷ ns) kept = tables_retired epoch ns (table_retired epoch n kept)

  abbrev pub logs_retired : ℕ → List ℕ → Kept L → Kept L
  logs_retired epoch [] kept = kept
  logs_retired epoch (n ∷ ns) kept = logs_retired epoch ns (log_retired epoch n kept)

  -- ---- where they are kept

  abbrev pub kept_in : InUse → Stock L → Kept L
  kept_in in_use stock = record { tables = in_use.tables.items; logs = in_use.logs.items; trash = stock.trash.items }

  -- The stock has these files.
  pub record Has (stock : Stock L) (kept : Kept L) : Type 0 where
    pub in_use : InUse
    pub is_some : stock.in_use ≡ Some in_use
    pub kept_are : kept ≡ kept_in in_use stock

  -- It has whatever a change makes of the files that it had.
  abbrev pub BecomesBy : (Kept L → Kept L) → (old new : Stock L) → Type 0
  BecomesBy change old new = (kept : Kept L) → Has old kept → Has new (change kept)

  -- There is room for so many tables more and so many logs; and each file can be retired without memory, these and so many that
  -- are lent among them.
  pub record HasRoom (stock : Stock L) (tables logs lent : ℕ) : Type 0 where
    pub in_use : InUse
    pub is_some : stock.in_use ≡ Some in_use
    pub tables_in : vec_len in_use.tables + tables ≤ vec_capacity in_use.tables
    pub logs_in : vec_len in_use.logs + logs ≤ vec_capacity in_use.logs
    pub trash : deque_len stock.trash + vec_len in_use.tables + vec_len in_use.logs + tables + logs + lent
        ≤ deque_capacity stock.trash

  -- ---- what is taken out

  -- it was retired at this number or below it
  abbrev pub is_up_to : ℕ → RetiredFile L → Bool
  is_up_to bound file = nat_le file.epoch bound

  -- The first of which this is so is taken out of those that wait.
  pub record IsTaken (bound : ℕ) (old new : List (RetiredFile L)) (file : RetiredFile L) : Type 0 where
    pub before : List (RetiredFile L)
    pub behind : List (RetiredFile L)
    pub old_are : old ≡ before ++ file ∷ behind
    pub held : filter (is_up_to bound) before ≡ []
    pub free : is_up_to bound file ≡ true
    pub new_are : new ≡ before ++ behind

  -- It is so of none.
  pub record IsNoneTaken (bound : ℕ) (old new : List (RetiredFile L)) : Type 0 where
    pub held : filter (is_up_to bound) old ≡ []
    pub same : new ≡ old

  abbrev pub TakesUpTo : ℕ → (old new : List (RetiredFile L)) → Option (RetiredFile L) → Type 0
  TakesUpTo bound old new None = IsNoneTaken bound old new
  TakesUpTo bound old new (Some file) = IsTaken bound old new file
