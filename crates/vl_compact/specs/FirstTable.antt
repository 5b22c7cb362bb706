-- How what a merge keeps is cut: its first table, and the rest.
use Rattle.std.specs.Prelude.{ℕ, Bool, ◌&&◌, not, nat_le, if◌then◌else◌, List, [], ◌∷◌, ◌++◌}
use Rattle.std.specs.List.{sum_by}
use Rattle.std.specs.Ordering.{eq_by_cmp}
use Rattle.vl_engine_model.specs.Tables.{full_table_bytes}
use Rattle.vl_model.specs.Cutting.{block_frame_length, blocks, last_key}
use Rattle.vl_model.specs.Formats.{table_format}
use Rattle.vl_model.specs.Keys.{key_cmp}
use Rattle.vl_model.specs.declared.entry.Entry.{Entry}

-- the lengths of the block frames of a table with these entries, added up
abbrev pub frames_length : List Entry → ℕ
frames_length table = sum_by (block_frame_length table_format) (blocks table_format table)

-- an entry of a new key closes the table where its block frames have reached the measure of a full table
abbrev pub closes : List Entry → Entry → Bool
closes table e = not (eq_by_cmp key_cmp (last_key table) e.key) && nat_le full_table_bytes (frames_length table)

-- the table that begins with these, which are closed before the first of the others that closes it, and the rest
abbrev pub table_and_rest : List Entry → List Entry → List Entry × List Entry
table_and_rest table [] = (table, [])
table_and_rest table (e ∷ es) = if closes table e then (table, e ∷ es) else table_and_rest (table ++ e ∷ []) es

-- the first table of some entries, and the rest
abbrev pub first_table : List Entry → List Entry × List Entry
first_table [] = ([], [])
first_table (e ∷ es) = table_and_rest (e ∷ []) es
