-- What is kept of live bytes, and what a switch of tables does to them.
use Rattle.std.specs.Prelude.{◌≡◌, ◌+◌, ℕ, List, map, unwrap_or}
use Rattle.std.specs.BTreeMap.{is_at}
use Rattle.std.specs.Map.{lookup}
use Rattle.std.specs.Ordering.{nat_cmp}
use Rattle.vl_model.specs.declared.point.Point.{Point}
use Rattle.vl_engine_model.specs.Garbage.{live_bytes}
use Rattle.vl_engine_model.specs.declared.table.Table.{Table}

-- of segments with their bytes, how many a segment has; one that isn't there has none
abbrev pub bytes_of : List (ℕ × ℕ) → ℕ → ℕ
bytes_of sums segment = unwrap_or (lookup (is_at (nat_cmp segment)) sums) 0

-- these are the live bytes of each segment where there are these tables, summed anew
abbrev pub AreOf : List Table → List (ℕ × ℕ) → Type 0
AreOf ts sums = (segment : ℕ) → bytes_of sums segment ≡ live_bytes ts segment

abbrev pub points_of_tables : List Table → List (List Point)
points_of_tables ts = map (λ (t : Table). t.points) ts

-- The tables after a switch lead, with those that it drops, to as many bytes of each segment as the tables before it with
-- those that it adds.
abbrev pub IsSwitch : (before added dropped after : List Table) → Type 0
IsSwitch before added dropped after = (segment : ℕ)
    → live_bytes after segment + live_bytes dropped segment ≡ live_bytes added segment + live_bytes before segment

-- Whatever tables the first are the live bytes of, the second are those of the tables after a switch that adds and drops
-- tables with these points.
abbrev pub Switches : (was now : List (ℕ × ℕ)) (added dropped : List (List Point)) → Type 0
Switches was now added dropped = (before came gone after : List Table) → AreOf before was
    → added ≡ points_of_tables came → dropped ≡ points_of_tables gone → IsSwitch before came gone after → AreOf after now
