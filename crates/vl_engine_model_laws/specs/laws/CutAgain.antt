-- Entries that are left behind a table that is closed are cut as if they were all: so a merge may begin anew behind each of
-- its tables.
use Rattle.std.proofs.Common.{◌≡◌, ℕ, ◌+◌, Bool, true, false, not, ◌&&◌, List, [], ◌∷◌, ◌++◌, refl, ap, sym}
use Rattle.std.specs.Prelude.{nat_le, if◌then◌else◌}
use Rattle.std.specs.Ordering.{eq_by_cmp}
use Rattle.vl_model.specs.Keys.{key_cmp}
use Rattle.vl_model.specs.declared.entry.Entry.{Entry}
use Rattle.vl_model.specs.Cutting.{around, begun_length, entry_length, max_block_bytes}
use Rattle.vl_model.specs.Cutting.{joined}
use Rattle.vl_engine_model.specs.laws.TableLaws.{cut-whole}
use Rattle.vl_engine_model.specs.Tables.{full_table_bytes, tables_from, cut_into_tables}
use Rattle.vl_model.specs.Formats.{table_format}

-- the tables behind the first are those of what they hold
abbrev pub IsAgain : List (List Entry) → Type 0
IsAgain [] = Unit {0}
IsAgain (t ∷ ts) = ts ≡ cut_into_tables (joined ts)

by_test : (b : Bool) (x y : List (List Entry)) → IsAgain x → IsAgain y → IsAgain (if b then x else y)
by_test true x y one other = one
by_test false x y one other = other

from_again : (table : List Entry) (key : List ℕ) (closed open_bytes : ℕ) (es : List Entry)
    → IsAgain (tables_from table key closed open_bytes es)
from_again table key closed open_bytes [] = refl
from_again table key closed open_bytes (e ∷ es) =
    let grown : List (List Entry) =
    tables_from (table ++ e ∷ []) e.key closed (open_bytes + entry_length table_format e) es in
    let next : List (List Entry) =
    tables_from (table ++ e ∷ []) e.key (closed + around open_bytes) (begun_length table_format e) es in
    let rest : List (List Entry) = tables_from (e ∷ []) e.key 0 (begun_length table_format e) es in
    by_test (not (eq_by_cmp key_cmp key e.key) && nat_le full_table_bytes (closed + around open_bytes)) (table ∷ rest)
    (if nat_le (open_bytes + entry_length table_format e) max_block_bytes then grown else next)
    (sym (ap cut_into_tables (cut-whole (e ∷ es))))
    (by_test (nat_le (open_bytes + entry_length table_format e) max_block_bytes) grown next
    (from_again (table ++ e ∷ []) e.key closed (open_bytes + entry_length table_format e) es)
    (from_again (table ++ e ∷ []) e.key (closed + around open_bytes) (begun_length table_format e) es))

pub cut_again : (es : List Entry) → IsAgain (cut_into_tables es)
cut_again [] = tt
cut_again (e ∷ es) = from_again (e ∷ []) e.key 0 (begun_length table_format e) es
