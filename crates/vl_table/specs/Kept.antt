-- A block that stands in a table's file, and one that is kept.
use Rattle.std.specs.Prelude.{◌≡◌, ◌==◌, ◌&&◌, ℕ, Bool, false, List, Option, Some, None, drop, take}
use Rattle.vl_frame.specs.Frame.{frame_bytes}
use Rattle.vl_frame.specs.declared.kinds.FrameKind.TheVariants as kinds
use Rattle.vl_model.specs.declared.entry.Entry.{Entry}
use Rattle.vl_table.specs.body.Blocks.{SpellsBlock}
use Rattle.vl_table.specs.body.Starts.{AreStarts}
use Rattle.vl_table.specs.declared.body.index.BlockPlace.{BlockPlace}
use Rattle.vl_table.specs.declared.body.shape.TableShape.{TableShape}
use Rattle.vl_table.specs.Begun.{FrameAt}
use Rattle.vl_table.specs.declared.slot.BlockId.{BlockId}
use Rattle.vl_table.specs.declared.slot.Slot.{Slot}

-- a block of so many bytes stands at the place, with these entries
pub record StandsBlock (format number : ℕ) (bytes : List ℕ) (place size : ℕ) (es : List Entry) : Type 0 where
  pub body : List ℕ
  pub frame : FrameAt number bytes place size kinds.Block body
  pub says : SpellsBlock format body es

-- none does, and that is the damage
abbrev pub NoBlock : ℕ → ℕ → BlockPlace → List ℕ → ℕ → Type 0
NoBlock format number p bytes damage =
    ((es : List Entry) → StandsBlock format number bytes p.place p.length es → ⊥) × (damage ≡ p.place)

-- the same of a block by all that names it
abbrev pub IsMissing : BlockId → List ℕ → ℕ → Type 0
IsMissing id bytes damage =
    ((es : List Entry) → StandsBlock id.format id.number bytes id.place id.length es → ⊥) × (damage ≡ id.place)

-- the block that an index names
abbrev pub id_of : TableShape → BlockPlace → BlockId
id_of s p = record { format = s.format; number = s.number; place = p.place; length = p.length }

abbrev pub is_same_block : BlockId → BlockId → Bool
is_same_block a b = (a.format == b.format) && (a.number == b.number) && (a.place == b.place) && (a.length == b.length)

-- whether the slot has this block
abbrev pub has_block : BlockId → Slot → Bool
has_block id slot = by slot.block
  where
    by : Option BlockId → Bool
    by None = false
    by (Some b) = is_same_block b id

-- this is the frame of the block that stands in the bytes, with these entries, which begin at these places
pub record HasFrame (id : BlockId) (bytes frame starts : List ℕ) (es : List Entry) : Type 0 where
  pub stands : StandsBlock id.format id.number bytes id.place id.length es
  pub framed : frame ≡ frame_bytes id.number id.place kinds.Block stands.body
  pub are : AreStarts id.format (drop 4 stands.body) starts es

-- the slot has the block that stands in these bytes, with these entries
pub record HasBlock (slot : Slot) (id : BlockId) (bytes : List ℕ) (es : List Entry) : Type 0 where
  pub block : slot.block ≡ Some id
  pub has : HasFrame id bytes (take id.length slot.frame.items) (take slot.count slot.starts.items) es

-- the bytes of files, by the numbers of their tables
abbrev pub Files : Type 0
Files = ℕ → Option (List ℕ)

-- the slot's block, if it has one, stands in the file of its table
abbrev pub IsKept : Files → Slot → Type 0
IsKept files slot = (id : BlockId) → slot.block ≡ Some id → (bytes : List ℕ) → files id.number ≡ Some bytes
    → (es : List Entry) × HasBlock slot id bytes es
