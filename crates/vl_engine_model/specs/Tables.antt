-- How entries are cut into tables.
use Rattle.std.specs.Prelude.{ℕ, ◌+◌, ◌&&◌, not, nat_le, if◌then◌else◌, List, [], ◌∷◌, ◌++◌}
use Rattle.std.specs.Ordering.{eq_by_cmp}
use Rattle.vl_model.specs.Formats.{table_format}
use Rattle.vl_model.specs.Keys.{key_cmp}
use Rattle.vl_model.specs.declared.entry.Entry.{Entry}
use Rattle.vl_model.specs.Cutting.{around, begun_length, entry_length, first_key, last_key, max_block_bytes, points_of, table_length}
use Rattle.vl_engine_model.specs.declared.table.Table.{Table}

-- a merge closes a table whose block frames have so many bytes
abbrev pub full_table_bytes : ℕ
full_table_bytes = 2097152

-- the table of a format with this number and these entries
abbrev pub new_table : (format number : ℕ) → List Entry → Table
new_table format number es = record {
  format = format;
  number = number;
  length = table_length format es;
  entries = es;
  points = points_of es;
  first = first_key es;
  last = last_key es;
}

-- ---- what a merge makes, in the format that is written

-- The open table has these entries, which end with this key; its closed blocks' frames have so many
-- bytes, and the body of its open block so many.
abbrev pub tables_from : List Entry → List ℕ → ℕ → ℕ → List Entry → List (List Entry)
tables_from table key closed open_bytes [] = table ∷ []
tables_from table key closed open_bytes (e ∷ es) =
    if not (eq_by_cmp key_cmp key e.key) && nat_le full_table_bytes (closed + around open_bytes)
    then table ∷ tables_from (e ∷ []) e.key 0 (begun_length table_format e) es
    else (if nat_le (open_bytes + entry_length table_format e) max_block_bytes
    then tables_from (table ++ e ∷ []) e.key closed (open_bytes + entry_length table_format e) es
    else tables_from (table ++ e ∷ []) e.key (closed + around open_bytes) (begun_length table_format e) es)

-- Entries cut into tables: one is closed before the first entry of a new key where its block
-- frames, the open one counted, have reached the measure of a full table.
abbrev pub cut_into_tables : List Entry → List (List Entry)
cut_into_tables [] = []
cut_into_tables (e ∷ es) = tables_from (e ∷ []) e.key 0 (begun_length table_format e) es
