-- What a cache keeps.
use Rattle.std.specs.Prelude.{◌≡◌, ℕ, Bool, List, length, Contains, Option, Some}
use Rattle.std.specs.Map.{lookup}
use Rattle.vl_disk.specs.declared.name.Name.{Name}
use Rattle.vl_disk.specs.DiskState.{bytes_at}
use Rattle.vl_disk.specs.Held.{AgreeAt}
use Rattle.vl_cache.specs.declared.block.Block.{Block}
use Rattle.vl_cache.specs.declared.kept.Kept.{Kept}
use Rattle.vl_cache.specs.contracts.block.BlockPartialEq.TheImpl as block_equal

-- the same bytes of files of one name
abbrev pub block_eq : Block → Block → Bool
block_eq = (block_equal.ghosts).eq

module _ {H : Type 0} where
  -- what is kept under a block is what its file has there, as far as that tells
  pub record IsOf (bytes_of : H → Option (List ℕ)) (block : Block) (kept : Kept H) : Type 0 where
    pub size : length kept.bytes.items ≡ block.len
    pub told : (bytes : List ℕ) → bytes_of kept.held ≡ Some bytes → kept.bytes.items ≡ bytes_at block.place block.len bytes

  abbrev pub AreOf : (H → Option (List ℕ)) → List (Block × Kept H) → Type 0
  AreOf bytes_of entries = (block : Block) (kept : Kept H) → Contains entries (block, kept) → IsOf bytes_of block kept

  -- A read is a hit where one of that name, place and length is kept, of a file that is the same there.
  pub record IsHit (bytes_of : H → Option (List ℕ)) (named : H → Name) (entries : List (Block × Kept H)) (held : H) (block : Block)
      (kept : Kept H) : Type 0 where
    pub found : lookup (block_eq block) entries ≡ Some kept
    pub name : named held ≡ named kept.held
    pub same : AgreeAt block.place block.len (bytes_of held) (bytes_of kept.held)
