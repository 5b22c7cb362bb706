-- A block that the index names and that does not stand.
use Rattle.std.specs.Prelude.{◌≡◌, ◌<◌, ℕ, List, length, get_or}
use Rattle.vl_table.specs.declared.body.index.BlockPlace.{BlockPlace}
use Rattle.vl_table.specs.declared.body.shape.TableShape.{TableShape}
use Rattle.vl_table.specs.Kept.{NoBlock}

-- a block that the index names doesn't stand where and as long as it says: there the table is damaged
pub record IsBadBlock (s : TableShape) (bytes : List ℕ) (damage : ℕ) : Type 0 where
  pub at : ℕ
  pub place : BlockPlace
  pub named : at < length s.blocks.items
  pub place_is : place ≡ get_or s.blocks.items at place
  pub none : NoBlock s.format s.number place bytes damage
