-- What a look-up meets in a table's blocks where its index rises, also if the table isn't true: so no answer hides a block
-- that doesn't stand.
use Rattle.std.specs.Prelude.{◌≡◌, ℕ, List, [], ◌∷◌, drop, Option, Some, None, Result, Ok, Err}
use Rattle.std.specs.List.{prefix_len}
use Rattle.std.specs.Option.{ForSome, option_map}
use Rattle.vl_table.specs.declared.body.index.BlockPlace.{BlockPlace}
use Rattle.vl_model.specs.declared.entry.Entry.{Entry}
use Rattle.vl_disk.specs.declared.read_fault.ReadFault.{ReadFault}
use Rattle.vl_model.specs.Lookups.{is_ahead, is_below, IsParted, first_failing}
use Rattle.vl_table.specs.body.Founds.{found_of}
use Rattle.vl_table.specs.declared.body.found.Found.{Found}
use Rattle.vl_table.specs.declared.body.shape.TableShape.{TableShape}
use Rattle.vl_table.specs.Kept.{StandsBlock}
use Rattle.vl_table.specs.Tables.{shape_of}
use Rattle.vl_table.specs.declared.table.Table.{Table}

-- what is found is a block's first entry at or behind the place, and where the block has none, what is met behind it
abbrev pub MeetsFirst : (first found : Option Entry) → (behind : Type 0) → Type 0
MeetsFirst None found behind = behind
MeetsFirst (Some e) found behind = found ≡ Some e

-- The first entry at or behind the place of a key and a version that these blocks have. Each block up to it stands.
abbrev pub Meets : (format number : ℕ) → (bytes key : List ℕ) → (version : ℕ) → List BlockPlace → (found : Option Entry)
    → Type 0
Meets format number bytes key version [] found = found ≡ None
Meets format number bytes key version (p ∷ later) found =
    (es : List Entry) × StandsBlock format number bytes p.place p.length es
    × MeetsFirst (first_failing (is_ahead key version) es) found (Meets format number bytes key version later found)

-- how many blocks a look-up passes over: those in front whose last key is below the key
abbrev pub passed_over : List ℕ → List BlockPlace → ℕ
passed_over key ps = prefix_len (λ (p : BlockPlace). is_below key p.last) ps

-- the last keys in an index rise, as far as a key can tell
abbrev pub Rises : List ℕ → List BlockPlace → Type 0
Rises key ps = IsParted (λ (p : BlockPlace). is_below key p.last) ps

-- Where the index rises, this is what a look-up makes of the entry that it meets in the blocks that it doesn't pass over.
pub record Looks (makes : Option Entry → Option Entry) (s : TableShape) (key : List ℕ) (version : ℕ)
    (bytes : List ℕ) (found : Option Entry) : Type 0 where
  pub met : Rises key s.blocks.items
      → (first : Option Entry)
      × Meets s.format s.number bytes key version (drop (passed_over key s.blocks.items) s.blocks.items) first
      × (found ≡ makes first)

-- an answer is so, of a table that tells its bytes
abbrev pub LooksIn : {H : Type 0} → (H → Option (List ℕ)) → (makes : Option Entry → Option Entry) → Table H → List ℕ → ℕ
    → Result (Option Found) ReadFault → Type 0
LooksIn bytes_of makes t key version (Ok found) =
    ForSome (bytes_of t.held) (λ bytes. Looks makes (shape_of t) key version bytes (option_map (found_of key) found))
LooksIn bytes_of makes t key version (Err e) = Unit {0}
