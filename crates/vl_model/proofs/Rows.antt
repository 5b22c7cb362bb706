-- Worked rows of scans, conflicts and placing, which hold by computing.
use Rattle.std.proofs.Common.{◌≡◌, ◌+◌, ℕ, List, [], ◌∷◌, map, replicate, refl, ap}
use Rattle.std.specs.Prelude.{true, false, Option, Some, None}
use Rattle.std.specs.FinMap.{empty, from_sorted, entries-from_sorted}
use Rattle.vl_model.specs.Keys.{Row, key_cmp, untagged}
use Rattle.vl_model.specs.Reads.{Scan, Read, KeyRead, RangeRead, scanned, covered, is_in_span}
use Rattle.vl_model.specs.Conflicts.{Named, named_from, is_overwritten, first_of, first_conflict}
use Rattle.vl_model.specs.Placement.{is_body_placed}
use Rattle.vl_model.specs.declared.change.Change.{Change}
use Rattle.vl_model.specs.declared.change.Change.TheVariants.{Set, Delete}
use Rattle.vl_model.specs.declared.entry.Body.{Body}
use Rattle.vl_model.specs.declared.entry.Body.TheVariants.{Inline, Far}
use Rattle.vl_model.specs.declared.way.Way.{Way}
use Rattle.vl_model.specs.declared.way.Way.TheVariants.{Up, Down}
use Rattle.std.specs.List.{filter}

-- ---- rows of scans: keys 61 and 62, hexadecimal, are committed

abbrev scan_of : List ℕ → List ℕ → ℕ → Way → List Row → Scan
scan_of low high limit way rows =
    record { low = low; high = high; limit = limit; way = way; own = empty; rows = rows }

abbrev two_rows : List Row
two_rows = (0x61 ∷ [], untagged (1 ∷ [])) ∷ (0x62 ∷ [], untagged (2 ∷ [])) ∷ []

-- a scan under own writes, of which one is a deletion
abbrev own_writes : List (List ℕ × Change)
own_writes = (0x61 ∷ [], Delete) ∷ (0x63 ∷ [], Set (untagged (3 ∷ []))) ∷ []

own_writes_up : scanned (scan_of [] [] 10 Up []) own_writes two_rows ≡
    (0x62 ∷ [], untagged (2 ∷ [])) ∷ (0x63 ∷ [], untagged (3 ∷ [])) ∷ []
own_writes_up = refl

own_writes_down : scanned (scan_of [] [] 1 Down []) own_writes two_rows ≡ (0x63 ∷ [], untagged (3 ∷ [])) ∷ []
own_writes_down = refl

-- the upper bound is left out, the lower one isn't
bounds : scanned (scan_of (0x61 ∷ []) (0x62 ∷ []) 10 Up []) [] two_rows ≡ (0x61 ∷ [], untagged (1 ∷ [])) ∷ []
bounds = refl

empty_interval : scanned (scan_of (0x62 ∷ []) (0x62 ∷ []) 10 Up []) own_writes two_rows ≡ []
empty_interval = refl

turned_interval : scanned (scan_of (0x63 ∷ []) (0x61 ∷ []) 10 Down []) own_writes two_rows ≡ []
turned_interval = refl

-- ---- conflicts

-- the first conflict, by what the commits name
abbrev conflict_in : List (List (List ℕ × Change)) → ℕ → List Read → Option Named
conflict_in commits number reads =
    first_of (filter (is_overwritten number reads) (named_from 1 commits []))

-- another transaction commits the key that was read
key_read : conflict_in (((0x61 ∷ [], Set (untagged (1 ∷ []))) ∷ []) ∷ []) 0 (KeyRead (0x61 ∷ []) None ∷ []) ≡
    Some (0x61 ∷ [], 1)
key_read = refl

-- the interval was empty when it was scanned
interval_read : conflict_in (((0x61 ∷ [], Set (untagged (1 ∷ []))) ∷ []) ∷ []) 0
    (RangeRead (scan_of (0x60 ∷ []) (0x70 ∷ []) 10 Up []) ∷ []) ≡
    Some (0x61 ∷ [], 1)
interval_read = refl

-- 62 is committed first, and 68 after a scan that gave the one row 62
abbrev later_commit : List (List (List ℕ × Change))
later_commit = ((0x62 ∷ [], Set (untagged (1 ∷ []))) ∷ []) ∷ ((0x68 ∷ [], Set (untagged (2 ∷ []))) ∷ []) ∷ []

abbrev one_row : ℕ → Way → Read
one_row limit way = RangeRead (scan_of (0x60 ∷ []) (0x70 ∷ []) limit way ((0x62 ∷ [], untagged (1 ∷ [])) ∷ []))

limit_met : conflict_in later_commit 1 (one_row 1 Up ∷ []) ≡ None
limit_met = refl

limit_not_met : conflict_in later_commit 1 (one_row 2 Up ∷ []) ≡ Some (0x68 ∷ [], 2)
limit_not_met = refl

-- downwards what is above the row is covered, and what is below isn't
limit_met_down : conflict_in later_commit 1 (one_row 1 Down ∷ []) ≡ Some (0x68 ∷ [], 2)
limit_met_down = refl

below_not_covered : is_in_span (covered (scan_of (0x60 ∷ []) (0x70 ∷ []) 1 Down ((0x62 ∷ [], untagged (1 ∷ [])) ∷ []))) (0x61 ∷ []) ≡
    false
below_not_covered = refl

-- the last key is covered, and the upper bound isn't
last_covered : map (is_in_span (covered (scan_of (0x60 ∷ []) (0x70 ∷ []) 1 Up ((0x62 ∷ [], untagged (1 ∷ [])) ∷ []))))
    ((0x62 ∷ []) ∷ (0x62 ∷ 0 ∷ []) ∷ []) ≡
    true ∷ false ∷ []
last_covered = refl

bound_not_covered : map (is_in_span
    (covered (scan_of (0x60 ∷ []) (0x70 ∷ []) 2 Down ((0x62 ∷ [], untagged (1 ∷ [])) ∷ [])))) ((0x60 ∷ []) ∷ (0x70 ∷ []) ∷ []) ≡
    true ∷ false ∷ []
bound_not_covered = refl

-- an empty interval covers nothing
nothing_covered : conflict_in later_commit 1 (RangeRead (scan_of (0x68 ∷ []) (0x68 ∷ []) 1 Up []) ∷ []) ≡
    None
nothing_covered = refl

-- the least key is answered, with the last commit that names it
least_key : conflict_in (((0x62 ∷ [], Set (untagged (1 ∷ []))) ∷ []) ∷ ((0x61 ∷ [], Delete) ∷ [])
    ∷ ((0x61 ∷ [], Set (untagged [])) ∷ (0x62 ∷ [], Delete) ∷ []) ∷ []) 0 (KeyRead (0x62 ∷ []) None ∷ KeyRead (0x61 ∷ []) None ∷ []) ≡
    Some (0x61 ∷ [], 3)
least_key = refl

-- the same of a history: its commits are finite maps
abbrev write_61 : List (List ℕ × Change)
write_61 = (0x61 ∷ [], Set (untagged (1 ∷ []))) ∷ []

key_read_in_history : first_conflict (record { first = 0; base = empty; commits = from_sorted write_61 ∷ [] }) 0
    (KeyRead (0x61 ∷ []) None ∷ []) ≡
    Some (0x61 ∷ [], 1)
key_read_in_history =
    ap (λ (writes : List (List ℕ × Change)). conflict_in (writes ∷ []) 0 (KeyRead (0x61 ∷ []) None ∷ []))
    (entries-from_sorted key_cmp write_61 tt)

-- ---- placing: the key 61 has one byte, so in format 1 the record of a value of 64 bytes takes 72, and in
-- format 2 it takes 73

abbrev far_of : ℕ → Body
far_of length = Far (record { segment = 1; place = 16; length = length })

short_is_inline : is_body_placed 2 (0x61 ∷ []) (Inline (untagged (replicate 64 0))) ≡ true
short_is_inline = refl

long_is_not_inline : is_body_placed 2 (0x61 ∷ []) (Inline (untagged (replicate 65 0))) ≡ false
long_is_not_inline = refl

long_is_far : map (λ format. is_body_placed format (0x61 ∷ []) (far_of (72 + format))) (1 ∷ 2 ∷ []) ≡
    true ∷ true ∷ []
long_is_far = refl

short_is_not_far : map (λ format. is_body_placed format (0x61 ∷ []) (far_of (71 + format))) (1 ∷ 2 ∷ []) ≡
    false ∷ false ∷ []
short_is_not_far = refl
