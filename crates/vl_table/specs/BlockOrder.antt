-- The blocks of a table in the order of its index.
use Rattle.std.specs.Prelude.{◌≡◌, ℕ, Bool, true, Option, Some, None, Result, Ok, Err, List, ◌∷◌, ◌++◌}
use Rattle.std.specs.List.{AllZip}
use Rattle.std.specs.Option.{ForSome}
use Rattle.vl_disk.specs.declared.read_fault.ReadFault.{ReadFault}
use Rattle.vl_disk.specs.declared.read_fault.ReadFault.TheVariants.{NoMemory, Disk, Damaged}
use Rattle.vl_model.specs.Cutting.{joined}
use Rattle.vl_model.specs.declared.entry.Entry.{Entry}
use Rattle.vl_table.specs.Kept.{StandsBlock}
use Rattle.vl_table.specs.Standing.{is_in_front}
use Rattle.vl_table.specs.Tables.{shape_of}
use Rattle.vl_table.specs.body.Blocks.{entries}
use Rattle.vl_table.specs.body.Lists.{AreOrdered}
use Rattle.vl_table.specs.declared.body.index.BlockPlace.{BlockPlace}
use Rattle.vl_table.specs.declared.body.shape.TableShape.{TableShape}
use Rattle.vl_table.specs.declared.table.Table.{Table}

-- whether a block with these entries may stand behind the entry that came last
abbrev pub may_follow : Option Entry → List Entry → Bool
may_follow None es = true
may_follow (Some e) es = is_in_front e es

module _ (s : TableShape) (bytes : List ℕ) where
  -- the block stands, with these entries
  abbrev pub Stands : BlockPlace → List Entry → Type 0
  Stands p es = StandsBlock s.format s.number bytes p.place p.length es

  -- these blocks stand, and end to end they have these entries, which are in order
  pub record StandInOrder (ps : List BlockPlace) (es : List Entry) : Type 0 where
    pub each : List (List Entry)
    pub stand : AllZip Stands ps each
    pub are : joined each ≡ es
    pub ordered : AreOrdered (entries s.format) es

  -- Each block before this place stands, and they are in order; the one at it doesn't stand, or isn't in order behind them.
  pub record BreaksAt (place : ℕ) : Type 0 where
    pub before : List BlockPlace
    pub block : BlockPlace
    pub later : List BlockPlace
    pub parts : s.blocks.items ≡ before ++ block ∷ later
    pub passed : List Entry
    pub stood : StandInOrder before passed
    pub breaks : (es : List Entry) → Stands block es → AreOrdered (entries s.format) (passed ++ es) → ⊥
    pub place_is : place ≡ block.place

  -- it breaks there, though the block at the place stands
  pub record IsOutOfOrder (place : ℕ) : Type 0 where
    pub breaks : BreaksAt place
    pub has : List Entry
    pub stands : Stands breaks.block has

  -- all blocks that the index names stand in order
  abbrev pub AreInOrder : Type 0
  AreInOrder = (es : List Entry) × StandInOrder s.blocks.items es

module _ {H : Type 0} (bytes_of : H → Option (List ℕ)) where
  -- so a table breaks, where its bytes are told
  abbrev pub TableBreaksAt : Table H → ℕ → Type 0
  TableBreaksAt t place = ForSome (bytes_of t.held) (λ bytes. BreaksAt (shape_of t) bytes place)

  -- The place is that of the first block out of order, and none is answered only where all are in order. Damage is at the first
  -- block that doesn't stand, behind others in order.
  abbrev pub SaysOrder : Table H → Result (Option ℕ) ReadFault → Type 0
  SaysOrder t (Ok None) = ForSome (bytes_of t.held) (λ bytes. AreInOrder (shape_of t) bytes)
  SaysOrder t (Ok (Some place)) = ForSome (bytes_of t.held) (λ bytes. IsOutOfOrder (shape_of t) bytes place)
  SaysOrder t (Err NoMemory) = Unit {0}
  SaysOrder t (Err (Disk name)) = Unit {0}
  SaysOrder t (Err (Damaged name place)) = TableBreaksAt t place
