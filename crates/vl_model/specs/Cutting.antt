-- How entries are cut into blocks, and how long they are there; what a table's footer says of them.
use Rattle.std.specs.Prelude.{ℕ, ◌+◌, ◌*◌, ◌/◌, max, nat_le, if◌then◌else◌, List, [], ◌∷◌, ◌++◌, length}
use Rattle.std.specs.List.{sum_by}
use Rattle.std.specs.Ordering.{eq_by_cmp, nat_cmp}
use Rattle.vl_model.specs.Entries.{by_order}
use Rattle.vl_model.specs.Keys.{key_cmp}
use Rattle.vl_model.specs.declared.entry.Entry.{Entry}
use Rattle.vl_model.specs.declared.entry.Body.{Body}
use Rattle.vl_model.specs.declared.entry.Body.TheVariants.{Inline, Gone, Far, Logged}
use Rattle.vl_model.specs.Formats.{has_filter, has_tags}
use Rattle.vl_model.specs.declared.point.Point.{Point}

-- ---- blocks

-- a block's body has at most so many bytes, or one entry
abbrev pub max_block_bytes : ℕ
max_block_bytes = 4096

-- So the longest body is that of one entry, with the longest key and the longest value beside it. No store writes a longer
-- one, and none is read.
abbrev pub longest_body : ℕ
longest_body = 4177

-- a value's tag, where the format has them
abbrev pub tag_length : ℕ → ℕ
tag_length format = if has_tags format then 1 else 0

-- behind its kind a value's tag, length and bytes, nothing, or a pointer; a table has no other bodies
abbrev pub body_length : ℕ → Body → ℕ
body_length format (Inline value) = tag_length format + 1 + length value.bytes
body_length format Gone = 0
body_length format (Far pointer) = 16
body_length format (Logged value pointer) = 0

-- the key's length, the key, the version, the body's kind and the body
abbrev pub entry_length : ℕ → Entry → ℕ
entry_length format e = 2 + length e.key + 8 + 1 + body_length format e.body

-- the body of a block with one entry: a count and the entry
abbrev pub begun_length : ℕ → Entry → ℕ
begun_length format e = 4 + entry_length format e

-- the open block has these entries, and its body so many bytes
abbrev pub blocks_from : ℕ → List Entry → ℕ → List Entry → List (List Entry)
blocks_from format open_block bytes [] = open_block ∷ []
blocks_from format open_block bytes (e ∷ es) =
    if nat_le (bytes + entry_length format e) max_block_bytes
    then blocks_from format (open_block ++ e ∷ []) (bytes + entry_length format e) es
    else open_block ∷ blocks_from format (e ∷ []) (begun_length format e) es

-- entries in blocks: each goes into the open block where that has room
abbrev pub blocks : ℕ → List Entry → List (List Entry)
blocks format [] = []
blocks format (e ∷ es) = blocks_from format (e ∷ []) (begun_length format e) es

-- ---- keys

abbrev pub first_key : List Entry → List ℕ
first_key [] = []
first_key (e ∷ es) = e.key

abbrev pub last_key : List Entry → List ℕ
last_key [] = []
last_key (e ∷ []) = e.key
last_key (e ∷ f ∷ fs) = last_key (f ∷ fs)

-- a key in front of keys that don't begin with it
abbrev pub with_key : List ℕ → List (List ℕ) → List (List ℕ)
with_key key [] = key ∷ []
with_key key (k ∷ ks) = if eq_by_cmp key_cmp key k then k ∷ ks else key ∷ k ∷ ks

-- the keys of entries in order, each once
abbrev pub keys_of : List Entry → List (List ℕ)
keys_of [] = []
keys_of (e ∷ es) = with_key e.key (keys_of es)

-- ---- segments led into

-- so many bytes more of records in this segment
abbrev pub pointed : ℕ → ℕ → List Point → List Point
pointed segment bytes [] = record { segment = segment; bytes = bytes } ∷ []
pointed segment bytes (p ∷ ps) =
    by_order (nat_cmp segment p.segment)
    (record { segment = segment; bytes = bytes } ∷ p ∷ ps)
    (record { segment = p.segment; bytes = p.bytes + bytes } ∷ ps)
    (p ∷ pointed segment bytes ps)

abbrev pub with_point : Body → List Point → List Point
with_point (Inline value) ps = ps
with_point Gone ps = ps
with_point (Far pointer) ps = pointed pointer.segment pointer.length ps
with_point (Logged value pointer) ps = ps

-- the segments that entries lead into, rising, each with the sum of the lengths of these records
abbrev pub points_of : List Entry → List Point
points_of [] = []
points_of (e ∷ es) = with_point e.body (points_of es)

-- ---- a table's bytes

-- kind, length and check around a body
abbrev pub around : ℕ → ℕ
around body = body + 13

abbrev pub block_frame_length : ℕ → List Entry → ℕ
block_frame_length format block = around (4 + sum_by (entry_length format) block)

-- a count; of each block place, length and last key
abbrev pub index_frame_length : List (List Entry) → ℕ
index_frame_length bs = around (4 + sum_by (λ block. 14 + length (last_key block)) bs)

-- how many bytes a filter of so many keys has: ten bits for each key, and at least 64
abbrev pub filter_length : ℕ → ℕ
filter_length keys = max ((keys * 10 + 7) / 8) 8

-- the count of bits, and the bits; where the format has no filter no bytes
abbrev pub filter_frame_length : ℕ → List Entry → ℕ
filter_frame_length format es = if has_filter format then around (4 + filter_length (length (keys_of es))) else 0

-- the filter frame's place and length, where the format has one
abbrev pub filter_place_length : ℕ → ℕ
filter_place_length format = if has_filter format then 12 else 0

-- behind these the index frame's place and length, the count of entries, the greatest version, the
-- first and the last key, the points
abbrev pub footer_frame_length : ℕ → List Entry → ℕ
footer_frame_length format es =
    around (filter_place_length format
    + (8 + 4 + 8 + 8 + 2 + length (first_key es) + 2 + length (last_key es) + 4 + 12 * length (points_of es)))

-- the length of the file with these blocks, and with these entries in them
abbrev pub file_length : ℕ → List Entry → List (List Entry) → ℕ
file_length format es bs =
    16 + sum_by (block_frame_length format) bs + index_frame_length bs + filter_frame_length format es
    + footer_frame_length format es + 8

abbrev pub table_length : ℕ → List Entry → ℕ
table_length format es = file_length format es (blocks format es)

-- lists of entries, end to end
abbrev pub joined : List (List Entry) → List Entry
joined [] = []
joined (es ∷ others) = es ++ joined others
