-- Which entries the blocks have that stand in a table's bytes, as it is computed.
use Rattle.std.specs.Prelude.{ℕ, Bool, true, false, ◌&&◌, ◌||◌, ◌==◌, ◌^◌, nat_le, nat_lt, if◌then◌else◌, List, [], ◌∷◌, length}
use Rattle.std.specs.List.{list_all}
use Rattle.std.specs.Ordering.{eq_by_cmp, is_lt}
use Rattle.vl_disk.specs.DiskState.{bytes_at}
use Rattle.vl_frame.specs.Frame.{frame_bytes, frame_length}
use Rattle.vl_frame.specs.declared.kinds.FrameKind.TheVariants as kinds
use Rattle.vl_model.specs.Cutting.{longest_body}
use Rattle.vl_model.specs.Entries.{entry_cmp}
use Rattle.vl_model.specs.Formats.{has_tags}
use Rattle.vl_model.specs.Keys.{is_key_length, key_cmp}
use Rattle.vl_model.specs.Limits.{max_inline_bytes}
use Rattle.vl_model.specs.declared.entry.Body.{Body}
use Rattle.vl_model.specs.declared.entry.Body.TheVariants.{Inline, Gone, Far, Logged}
use Rattle.vl_model.specs.declared.entry.Entry.{Entry}
use Rattle.vl_table.specs.BlockEntries.{block_entries}
use Rattle.vl_table.specs.body.Blocks.{block_body}
use Rattle.vl_table.specs.declared.body.index.BlockPlace.{BlockPlace}

-- whether a table may have this body, this entry, and these entries in one block
abbrev pub is_body : ℕ → Body → Bool
is_body format (Inline value) =
    nat_le (length value.bytes) max_inline_bytes && (nat_lt value.tag (2 ^ 8) && (has_tags format || (value.tag == 0)))
is_body format Gone = true
is_body format (Far p) = nat_lt p.segment (2 ^ 32) && (nat_lt p.place (2 ^ 64) && nat_lt p.length (2 ^ 32))
is_body format (Logged value pointer) = false

abbrev pub is_entry : ℕ → Entry → Bool
is_entry format e = is_key_length (length e.key) && (nat_lt e.version (2 ^ 64) && is_body format e.body)

abbrev pub is_in_front : Entry → List Entry → Bool
is_in_front e [] = true
is_in_front e (f ∷ fs) = is_lt (entry_cmp e f)

abbrev pub are_ordered : List Entry → Bool
are_ordered [] = true
are_ordered (e ∷ es) = is_in_front e es && are_ordered es

abbrev pub is_block : ℕ → List Entry → Bool
is_block format es = nat_lt (length es) (2 ^ 32) && (list_all (is_entry format) es && are_ordered es)

-- whether a block with these entries stands where and as long as the index says
unfoldable pub is_standing : ℕ → ℕ → List ℕ → BlockPlace → List Entry → Bool
is_standing format number bytes p es =
    is_block format es && (nat_le (length (block_body format es)) longest_body
    && ((p.length == frame_length (length (block_body format es)))
    && eq_by_cmp key_cmp (bytes_at p.place p.length bytes) (frame_bytes number p.place kinds.Block (block_body format es))))

-- the entries of the block that stands there, and none where none does (`blocks_have_what_stands`)
unfoldable pub standing_entries : ℕ → ℕ → List ℕ → BlockPlace → List Entry
standing_entries format number bytes p =
    if is_standing format number bytes p (block_entries format bytes p) then block_entries format bytes p else []
