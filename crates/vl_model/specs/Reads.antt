-- What a transaction notes of its reads, which keys that covers, and what it means that a history
-- explains them.
use Rattle.std.specs.Prelude.{◌≡◌, ℕ, Bool, true, false, ◌&&◌, not, nat_le, if◌then◌else◌, List, [], ◌∷◌, length}
use Rattle.std.specs.Prelude.{take, reverse, Option, Some, None}
use Rattle.std.specs.FinMap.{entries, put}
use Rattle.std.specs.Ordering.{is_lt, eq_by_cmp}
use Rattle.std.specs.List.{AllByRecursion, filter, list_any}
use Rattle.vl_model.specs.Keys.{Stored, Row, Pairs, Writes, key_cmp}
use Rattle.vl_model.specs.History.{History, value_at, contents_at}
use Rattle.vl_model.specs.declared.change.Change.{Change}
use Rattle.vl_model.specs.declared.change.Change.TheVariants.{Set, Delete}
use Rattle.vl_model.specs.declared.span.Span.{Span}
use Rattle.vl_model.specs.declared.way.Way.{Way}
use Rattle.vl_model.specs.declared.way.Way.TheVariants.{Up, Down}

-- a scan: its bounds, of which an empty upper one is no end; how many rows it may give and in which
-- direction; the transaction's own writes at that moment; and the rows that it gave
pub record Scan : Type 0 where
  pub low : List ℕ
  pub high : List ℕ
  pub limit : ℕ
  pub way : Way
  pub own : Writes
  pub rows : List Row

-- a read that a transaction noted: a key without an own write, with the answer; or a scan
pub data Read : Type 0 where
  KeyRead : List ℕ → Option Stored → Read
  RangeRead : Scan → Read

-- ---- the rows of a scan

-- whether a key is in an interval, from low on and below high; an empty high is no end
abbrev pub is_within : List ℕ → List ℕ → List ℕ → Bool
is_within low [] key = not (is_lt (key_cmp key low))
is_within low (b ∷ bs) key = not (is_lt (key_cmp key low)) && is_lt (key_cmp key (b ∷ bs))

-- rising rows after one write
abbrev pub row_written : List ℕ → Change → List Row → List Row
row_written key (Set value) rows = put key_cmp key value rows
row_written key Delete rows = filter (λ row. not (eq_by_cmp key_cmp key row.0)) rows

-- and after writes to different keys
abbrev pub rows_written : List (List ℕ × Change) → List Row → List Row
rows_written [] rows = rows
rows_written (write ∷ others) rows = row_written write.0 write.1 (rows_written others rows)

-- rising rows in a direction
abbrev pub in_direction : Way → List Row → List Row
in_direction Up rows = rows
in_direction Down rows = reverse rows

-- of rising rows under own writes those in the interval, in the direction, as many as the limit
-- allows
abbrev pub scanned : Scan → List (List ℕ × Change) → List Row → List Row
scanned scan own rows =
    take scan.limit (in_direction scan.way (filter (λ row. is_within scan.low scan.high row.0) (rows_written own rows)))

-- the rows that a scan of these pairs gives
abbrev pub rows_of : Pairs → Scan → List Row
rows_of pairs scan = scanned scan (entries scan.own) (entries pairs)

-- ---- what is covered

-- a bound as the end of an interval
abbrev pub bound : List ℕ → Option (List ℕ)
bound [] = None
bound (b ∷ bs) = Some (b ∷ bs)

abbrev pub last_key : List Row → Option (List ℕ)
last_key [] = None
last_key (row ∷ []) = Some row.0
last_key (row ∷ next ∷ rows) = last_key (next ∷ rows)

-- from the bound at which the scan starts to its last key, that key included; where there is no
-- last key, all
abbrev pub covered_to : Scan → Way → Option (List ℕ) → Span
covered_to scan way None = record { lo = bound scan.low; hi = bound scan.high; closed = false }
covered_to scan Up (Some last) = record { lo = bound scan.low; hi = Some last; closed = true }
covered_to scan Down (Some last) = record { lo = Some last; hi = bound scan.high; closed = false }

-- The interval that a scan covers: one that gave as many rows as its limit covers as far as it
-- came, one that gave fewer the whole of its interval.
abbrev pub covered : Scan → Span
covered scan =
    covered_to scan scan.way (if nat_le scan.limit (length scan.rows) then last_key scan.rows else None)

abbrev pub is_from : Option (List ℕ) → List ℕ → Bool
is_from None key = true
is_from (Some low) key = not (is_lt (key_cmp key low))

-- below the upper end, or at it where it belongs to the interval
abbrev pub is_up_to : Option (List ℕ) → Bool → List ℕ → Bool
is_up_to None closed key = true
is_up_to (Some high) false key = is_lt (key_cmp key high)
is_up_to (Some high) true key = not (is_lt (key_cmp high key))

abbrev pub is_in_span : Span → List ℕ → Bool
is_in_span span key = is_from span.lo key && is_up_to span.hi span.closed key

-- the read covers the key: it is of that key, or a scan over it
abbrev pub is_read_by : List ℕ → Read → Bool
is_read_by key (KeyRead read answer) = eq_by_cmp key_cmp key read
is_read_by key (RangeRead scan) = is_in_span (covered scan) key

abbrev pub is_read : List Read → List ℕ → Bool
is_read reads key = list_any (is_read_by key) reads

-- ---- what explains reads

-- the answer is that of the history at the number
abbrev pub IsExplainedRead : History → ℕ → Read → Type 0
IsExplainedRead h n (KeyRead key answer) = answer ≡ value_at h n key
IsExplainedRead h n (RangeRead scan) = scan.rows ≡ rows_of (contents_at h n) scan

-- each noted answer is that of the history at the number
abbrev pub IsExplained : History → ℕ → List Read → Type 0
IsExplained h n reads = AllByRecursion (IsExplainedRead h n) reads
