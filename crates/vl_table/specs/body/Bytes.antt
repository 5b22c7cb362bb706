-- The bytes of a table, in each format.
use Rattle.std.specs.Prelude.{◌≡◌, ℕ, ◌+◌, ◌*◌, ◌≤◌, ◌<◌, ◌^◌, max, true, if◌then◌else◌, Option, Some, None, List, [], ◌∷◌, ◌++◌, length}
use Rattle.std.specs.List.{sum_by, AllByRecursion}
use Rattle.byteorder.specs.Endian.{big_bytes}
use Rattle.vl_filter.specs.Filters as filters
use Rattle.vl_filter.specs.Filters.{byte_count, filter_body}
use Rattle.vl_frame.specs.Frame.{frame_bytes}
use Rattle.vl_frame.specs.Header.{header_bytes}
use Rattle.vl_frame.specs.declared.kinds.FileKind.TheVariants as files
use Rattle.vl_frame.specs.declared.kinds.FrameKind.TheVariants as kinds
use Rattle.vl_model.specs.Entries.{in_order}
use Rattle.vl_model.specs.declared.entry.Entry.{Entry}
use Rattle.vl_model.specs.Cutting.{block_frame_length, blocks, filter_frame_length, first_key, index_frame_length}
use Rattle.vl_model.specs.Cutting.{keys_of, last_key, points_of}
use Rattle.vl_table.specs.body.Blocks.{IsBlock, block_body}
use Rattle.vl_table.specs.body.Entries.{IsEntry}
use Rattle.vl_table.specs.body.Footer.{Foot, IsHead, footer_body, points}
use Rattle.vl_model.specs.Formats.{has_filter}
use Rattle.vl_table.specs.body.Index.{index_body, places}
use Rattle.vl_table.specs.body.Lists.{AreLawful}
use Rattle.vl_table.specs.declared.body.footer_head.FramePlace.{FramePlace}
use Rattle.vl_table.specs.declared.body.index.BlockPlace.{BlockPlace}

-- the first bytes of the table with this number
abbrev pub table_header : ℕ → ℕ → List ℕ
table_header format number = header_bytes files.Table format number

-- ---- blocks and index

-- the frames of blocks, one behind the other, the first of them at a place
abbrev pub blocks_bytes : ℕ → ℕ → ℕ → List (List Entry) → List ℕ
blocks_bytes format number at [] = []
blocks_bytes format number at (b ∷ bs) =
    frame_bytes number at kinds.Block (block_body format b)
    ++ blocks_bytes format number (at + block_frame_length format b) bs

-- what the index says of these blocks
abbrev pub block_places : ℕ → ℕ → List (List Entry) → List BlockPlace
block_places format at [] = []
block_places format at (b ∷ bs) =
    record { place = at; length = block_frame_length format b; last = last_key b }
    ∷ block_places format (at + block_frame_length format b) bs

-- the index stands behind the blocks
abbrev pub index_place : ℕ → List (List Entry) → ℕ
index_place format bs = 16 + sum_by (block_frame_length format) bs

abbrev pub index_bytes : ℕ → ℕ → List (List Entry) → List ℕ
index_bytes format number bs =
    frame_bytes number (index_place format bs) kinds.Index (index_body (block_places format 16 bs))

-- ---- the filter

-- the filter stands behind the index
abbrev pub filter_place : ℕ → List (List Entry) → ℕ
filter_place format bs = index_place format bs + index_frame_length bs

-- the frame of the filter of all keys, where the format has one
abbrev pub filter_bytes : ℕ → ℕ → List Entry → List (List Entry) → List ℕ
filter_bytes format number es bs =
    if has_filter format then frame_bytes number (filter_place format bs) kinds.Filter (filter_body (keys_of es)) else []

-- the bits of that filter, which are none where the format has no filter
abbrev pub filter_bits : ℕ → List Entry → List ℕ
filter_bits format es = if has_filter format then filters.filter_bytes (keys_of es) else []

-- where the footer says that it stands
abbrev pub filter_said : ℕ → List Entry → List (List Entry) → Option FramePlace
filter_said format es bs =
    if has_filter format
    then Some (record { place = filter_place format bs; length = filter_frame_length format es })
    else None

-- ---- the footer

abbrev pub greatest_version : List Entry → ℕ
greatest_version [] = 0
greatest_version (e ∷ es) = max e.version (greatest_version es)

-- what the footer of a table with these entries in these blocks says
abbrev pub foot : ℕ → List Entry → List (List Entry) → Foot
foot format es bs = record {
  head = record {
    filter = filter_said format es bs;
    index_place = index_place format bs;
    index_length = index_frame_length bs;
    count = length es;
    greatest = greatest_version es;
    first = first_key es;
    last = last_key es;
  };
  points = points_of es;
}

-- the footer stands behind index and filter
abbrev pub footer_place : ℕ → List Entry → List (List Entry) → ℕ
footer_place format es bs = filter_place format bs + filter_frame_length format es

abbrev pub footer_bytes : ℕ → ℕ → List Entry → List (List Entry) → List ℕ
footer_bytes format number es bs =
    frame_bytes number (footer_place format es bs) kinds.Footer (footer_body (foot format es bs))

-- ---- the whole file

-- header, blocks, index, filter, footer, and the footer's place
abbrev pub file_bytes : ℕ → ℕ → List Entry → List (List Entry) → List ℕ
file_bytes format number es bs =
    table_header format number ++ (blocks_bytes format number 16 bs ++ (index_bytes format number bs
    ++ (filter_bytes format number es bs ++ (footer_bytes format number es bs ++ big_bytes 8 (footer_place format es bs)))))

-- the table with this number and these entries in this format, which has no other bytes
abbrev pub table_bytes : ℕ → ℕ → List Entry → List ℕ
table_bytes format number es = file_bytes format number es (blocks format es)

-- entries that a table may have, of which there is one at least
pub record AreTabled (format : ℕ) (es : List Entry) : Type 0 where
  pub some : 1 ≤ length es
  pub each : AllByRecursion (IsEntry format) es
  pub ordered : in_order es ≡ es

-- Entries of which there is a table with this number in this format: they are lawful and in order, and its frames have room
-- for what they are to say.
pub record IsTable (format number : ℕ) (es : List Entry) : Type 0 where
  pub tabled : AreTabled format es
  pub numbered : number < 2 ^ 32
  pub each : AllByRecursion (IsBlock format) (blocks format es)
  pub short : AllByRecursion (λ b. length (block_body format b) < 2 ^ 32) (blocks format es)
  pub index : AreLawful places (block_places format 16 (blocks format es))
  pub index_short : length (index_body (block_places format 16 (blocks format es))) < 2 ^ 32
  pub filter_short : has_filter format ≡ true → 8 * byte_count (length (keys_of es)) < 2 ^ 32
  pub head : IsHead format (foot format es (blocks format es)).head
  pub points : AreLawful points (foot format es (blocks format es)).points
  pub footer_short : length (footer_body (foot format es (blocks format es))) < 2 ^ 32
  pub place : footer_place format es (blocks format es) < 2 ^ 64
