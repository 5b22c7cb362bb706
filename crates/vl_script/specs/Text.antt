-- What is printed of a store's contents, of clients over a store, and of numbers that they were given.
use Rattle.std.specs.Prelude.{ℕ, List, [], ◌∷◌, ◌++◌, codes, length}
use Rattle.std.specs.FinMap.{entries}
use Rattle.std.specs.Fmt.{decimal}
use Rattle.vl_model.specs.Keys.{Pairs, Row}
use Rattle.vl_script.specs.Script.{bytes_text}

-- a key and its value, with a space between them, as a line
abbrev pub row_text : Row → List ℕ
row_text row = bytes_text row.0 ++ (32 ∷ []) ++ bytes_text row.1.bytes ++ (10 ∷ [])

-- a line for each row
abbrev pub rows_text : List Row → List ℕ
rows_text [] = []
rows_text (row ∷ rows) = row_text row ++ rows_text rows

-- the number at which the store was reopened, how many rows there are, and the rows
abbrev pub contents_text : ℕ → List Row → List ℕ
contents_text number rows =
    codes "reopened " ++ decimal number ++ (10 ∷ []) ++ codes "rows " ++ decimal (length rows) ++ (10 ∷ []) ++ rows_text rows

-- the same of pairs, which are printed with their keys rising
abbrev pub reopened_text : ℕ → Pairs → List ℕ
reopened_text number pairs = contents_text number (entries pairs)

-- what clients over a store came to: a line for the commits, one for the conflicts, and one for the sum of all balances
abbrev pub driven_text : (commits conflicts total : ℕ) → List ℕ
driven_text commits conflicts total =
    codes "commits " ++ decimal commits ++ (10 ∷ []) ++ codes "conflicts " ++ decimal conflicts ++ (10 ∷ [])
    ++ codes "total " ++ decimal total ++ (10 ∷ [])

-- what clients were given over a store: a line for the numbers, one for their leases, and one for the least number that isn't leased
abbrev pub counted_text : (given leases next : ℕ) → List ℕ
counted_text given leases next =
    codes "given " ++ decimal given ++ (10 ∷ []) ++ codes "leases " ++ decimal leases ++ (10 ∷ [])
    ++ codes "next " ++ decimal next ++ (10 ∷ [])
