-- What a table that is being written has.
use Rattle.vl_model.specs.Formats.{table_format}
use Rattle.std.specs.Prelude.{◌∷◌, [], ◌≤◌, ◌<◌, ◌^◌, ◌≡◌, ℕ, ◌+◌, List, ◌++◌, length, map}
use Rattle.std.specs.List.{sum_by, AllByRecursion}
use Rattle.vl_filter.specs.Places.{hashes_of}
use Rattle.vl_model.specs.Entries.{in_order}
use Rattle.vl_model.specs.declared.entry.Entry.{Entry}
use Rattle.vl_model.specs.Cutting.{block_frame_length, blocks, blocks_from, first_key, keys_of, last_key, points_of}
use Rattle.vl_table.specs.body.Blocks.{block_body, entries}
use Rattle.vl_table.specs.body.Entries.{IsEntry}
use Rattle.vl_table.specs.body.Lists.{IsNext, last_item}
use Rattle.vl_table.specs.writer.Bodies.{HasBody}
use Rattle.vl_table.specs.writer.PointSums.{points_in}
use Rattle.vl_table.specs.body.Bytes.{block_places, blocks_bytes, greatest_version, table_header}
use Rattle.vl_table.specs.declared.writer.blocks_writer.BlocksWriter.{BlocksWriter}
use Rattle.vl_table.specs.declared.writer.summary.Summary.{Summary}
use Rattle.vl_table.specs.declared.writer.table_writer.TableWriter.{TableWriter}

-- where these blocks end, behind a table's header
abbrev pub end_of : List (List Entry) → ℕ
end_of bs = 16 + sum_by (block_frame_length table_format) bs

-- where the blocks of a table with these entries end
abbrev pub blocks_end : List Entry → ℕ
blocks_end es = end_of (blocks table_format es)

-- these blocks were closed, and the open one has these entries
pub record HasBlocks (w : BlocksWriter) (closed : List (List Entry)) (open_block : List Entry) : Type 0 where
  pub place : w.place ≡ 16 + sum_by (block_frame_length table_format) closed
  pub written : HasBody w.written open_block
  pub places : w.closed.items ≡ block_places table_format 16 closed

-- the version of the last of some entries
abbrev pub last_version : List Entry → ℕ
last_version [] = 0
last_version (e ∷ []) = e.version
last_version (e ∷ f ∷ fs) = last_version (f ∷ fs)

-- the first key, the last key and version, the count, the greatest version and the points of these entries, and the hashes of
-- their keys
pub record Sums (s : Summary) (es : List Entry) : Type 0 where
  pub first : s.first ≡ first_key es
  pub last : s.last ≡ last_key es
  pub last_version : s.last_version ≡ last_version es
  pub count : s.count ≡ length es
  pub greatest : s.greatest ≡ greatest_version es
  pub points : points_in s.points ≡ points_of es
  pub keys : s.keys.items ≡ map hashes_of (keys_of es)

-- an entry may come behind these in a table: it is one that a table may have, and its place is behind the last
pub record MayCome (es : List Entry) (e : Entry) : Type 0 where
  pub entry : IsEntry table_format e
  pub next : IsNext (entries table_format) (last_item es) e

-- These entries were added, and these bytes of their table were given out: those of the blocks that are closed.
pub record IsWriting (w : TableWriter) (number : ℕ) (es : List Entry) (given : List ℕ) : Type 0 where
  pub some : 1 ≤ length es
  pub closed : List (List Entry)
  pub open_block : List Entry
  pub numbered : w.blocks.number ≡ number
  pub fits : number < 2 ^ 32
  pub has : HasBlocks w.blocks closed open_block
  pub sums : Sums w.summary es
  pub each : AllByRecursion (IsEntry table_format) es
  pub ordered : in_order es ≡ es
  pub given_out : given ≡ table_header table_format number ++ blocks_bytes table_format number 16 closed
  pub last : last_key open_block ≡ last_key es
  -- whatever comes, this is how it is cut
  pub cut : (later : List Entry) → blocks table_format (es ++ later)
      ≡ closed ++ blocks_from table_format open_block (length (block_body table_format open_block)) later

-- The same, and the open block has room for this entry, or no entry yet.
pub record HasRoom (w : TableWriter) (number : ℕ) (es : List Entry) (given : List ℕ) (e : Entry) : Type 0 where
  pub some : 1 ≤ length es
  pub closed : List (List Entry)
  pub open_block : List Entry
  pub numbered : w.blocks.number ≡ number
  pub fits : number < 2 ^ 32
  pub has : HasBlocks w.blocks closed open_block
  pub sums : Sums w.summary es
  pub each : AllByRecursion (IsEntry table_format) es
  pub ordered : in_order es ≡ es
  pub given_out : given ≡ table_header table_format number ++ blocks_bytes table_format number 16 closed
  pub cut : (later : List Entry) → blocks table_format (es ++ e ∷ later)
      ≡ closed ++ blocks_from table_format (open_block ++ e ∷ []) (length (block_body table_format (open_block ++ e ∷ []))) later

-- a piece was appended, of which this holds
abbrev pub Appended : List ℕ → List ℕ → (List ℕ → Type 0) → Type 0
Appended old new P = (piece : List ℕ) × (new ≡ old ++ piece) × P piece
