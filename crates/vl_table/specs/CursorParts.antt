-- The blocks that a cursor over tables reads, one after the other.
use Rattle.std.specs.Prelude.{◌≡◌, ℕ, Bool, true, false, if◌then◌else◌, Option, Some, None, List, [], ◌∷◌, ◌++◌, length, map}
use Rattle.std.specs.List.{AllByRecursion, list_all, slice_get, sum_by}
use Rattle.std.specs.Option.{ForSome, option_and_then, option_map}
use Rattle.vl_model.specs.declared.entry.Entry.{Entry}
use Rattle.vl_model.specs.declared.span.Span.{Span}
use Rattle.vl_model.specs.declared.way.Way.{Way}
use Rattle.vl_model.specs.EntryOrder.{within}
use Rattle.vl_table.specs.declared.body.index.BlockPlace.{BlockPlace}
use Rattle.vl_disk.specs.declared.name.Name.{Name}
use Rattle.vl_disk.specs.declared.name.Name.TheVariants.{Table as table_name}
use Rattle.vl_table.specs.Kept.{NoBlock, StandsBlock}
use Rattle.vl_table.specs.Seeks.{IsBadBlock}
use Rattle.vl_table.specs.SpanBlocks.{blocks_in, rises_over}
use Rattle.vl_table.specs.Standing.{standing_entries}
use Rattle.vl_table.specs.Stretches.{on_way, stretch_of}
use Rattle.vl_table.specs.Tables.{number_of, shape_of}
use Rattle.vl_disk.specs.declared.read_fault.ReadFault.{ReadFault}
use Rattle.vl_disk.specs.declared.read_fault.ReadFault.TheVariants.{NoMemory, Disk, Damaged}
use Rattle.vl_table.specs.declared.stretch.Stretch.{Stretch}
use Rattle.vl_table.specs.declared.table.Table.{Table}

-- a block, by its table and what the index says of it
abbrev pub Block : Type 0 → Type 0
Block H = Table H × BlockPlace

module _ {H : Type 0} where
  abbrev pub index_of : Table H → List BlockPlace
  index_of t = (shape_of t).blocks.items

  -- the index of a table, which may be none
  abbrev pub index_in : Option (Table H) → List BlockPlace
  index_in None = []
  index_in (Some t) = index_of t

  -- the blocks at these positions of a table's index, as a way goes through them
  abbrev pub blocks_at : Way → Option (Table H) → Stretch → List (Block H)
  blocks_at way None s = []
  blocks_at way (Some t) s = map (λ p. (t, p)) (on_way way (stretch_of s (index_of t)))

  -- those of tables that may have keys of the interval
  abbrev pub blocks_over : Span → Way → List (Table H) → List (Block H)
  blocks_over span way [] = []
  blocks_over span way (t ∷ ts) = blocks_at way (Some t) (blocks_in span (shape_of t)) ++ blocks_over span way ts

  -- whether the tables' indexes rise, as far as the interval can tell
  abbrev pub rise_over : Span → List (Table H) → Bool
  rise_over span ts = list_all (λ t. rises_over span (index_of t)) ts

  -- how many blocks tables have
  abbrev pub block_count : List (Table H) → ℕ
  block_count ts = sum_by (λ t. length (index_of t)) ts

  module _ (bytes_of : H → Option (List ℕ)) where
    -- The entries of the blocks that stand whose keys are in the interval, as a way goes through them, where the tables' bytes are
    -- told. A block that doesn't stand has none.
    abbrev pub entries_told : Span → Way → List (Block H) → Option (List Entry)
    entries_told span way [] = Some []
    entries_told span way (b ∷ bs) =
        option_and_then (λ bytes. option_map (λ later. within span (on_way way
        (standing_entries (shape_of b.0).format (number_of b.0) bytes b.1)) ++ later)
        (entries_told span way bs)) (bytes_of b.0.held)

    -- so it is of the blocks of these tables that may have keys of the interval, where the tables' indexes rise
    abbrev pub entries_over : Span → Way → List (Table H) → Option (List Entry)
    entries_over span way ts = if rise_over span ts then entries_told span way (blocks_over span way (on_way way ts)) else None

    -- the block stands, where its table's bytes are told, and has these entries
    abbrev pub StandsWith : Block H → List Entry → Type 0
    StandsWith b es = ForSome (bytes_of b.0.held)
        (λ bytes. StandsBlock (shape_of b.0).format (number_of b.0) bytes b.1.place b.1.length es)

    -- each of these blocks stands
    abbrev pub AllStand : List (Block H) → Type 0
    AllStand bs = AllByRecursion (λ b. (es : List Entry) × StandsWith b es) bs

    -- What a fault of a cursor over tables may be: want of memory, or one that names one of them; and where it says that this
    -- table is damaged, a block that its index names doesn't stand there.
    abbrev pub MayFailOn : List (Table H) → ReadFault → Type 0
    MayFailOn ts NoMemory = Unit {0}
    MayFailOn ts (Disk name) = (i : ℕ) × (t : Table H) × (slice_get ts i ≡ Some t) × (name ≡ table_name (number_of t))
    MayFailOn ts (Damaged name place) = (i : ℕ) × (t : Table H) × (slice_get ts i ≡ Some t) × (name ≡ table_name (number_of t))
        × ForSome (bytes_of t.held) (λ bytes. IsBadBlock (shape_of t) bytes place)

    -- the first of these blocks is the one at the place of the named table, and doesn't stand
    pub record IsFirstBad (bs : List (Block H)) (name : Name) (place : ℕ) : Type 0 where
      pub block : Block H
      pub later : List (Block H)
      pub first : bs ≡ block ∷ later
      pub named : name ≡ table_name (number_of block.0)
      pub none : ForSome (bytes_of block.0.held) (λ bytes. NoBlock (shape_of block.0).format (number_of block.0) block.1 bytes place)

    -- the first of these blocks is one of the named table
    pub record IsFirstOf (bs : List (Block H)) (name : Name) : Type 0 where
      pub block : Block H
      pub later : List (Block H)
      pub first : bs ≡ block ∷ later
      pub named : name ≡ table_name (number_of block.0)

    -- reading fails at the first of these blocks: it is of the named table, and where the fault is damage, it doesn't stand
    abbrev pub StopsBefore : List (Block H) → ReadFault → Type 0
    StopsBefore bs NoMemory = Unit {0}
    StopsBefore bs (Disk name) = IsFirstOf bs name
    StopsBefore bs (Damaged name place) = IsFirstBad bs name place

-- whether reading failed
abbrev pub is_disk_fault : ReadFault → Bool
is_disk_fault NoMemory = false
is_disk_fault (Disk name) = true
is_disk_fault (Damaged name place) = false
