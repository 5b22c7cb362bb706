-- The segments that a table leads into, as a map has them.
use Rattle.std.specs.Prelude.{ℕ, List, map}
use Rattle.std.specs.BTreeMap.{BTreeMap}
use Rattle.vl_model.specs.declared.point.Point.{Point}

-- a segment and a sum as a point
abbrev pub point_of : ℕ × ℕ → Point
point_of e = record { segment = e.0; bytes = e.1 }

-- the sums, rising by segment
abbrev pub points_in : BTreeMap ℕ ℕ → List Point
points_in sums = map point_of sums.entries
