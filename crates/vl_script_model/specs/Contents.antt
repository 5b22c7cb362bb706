-- All rows of a store, as they are read piece by piece.
use Rattle.std.specs.Prelude.{◌≡◌, ◌<◌, ℕ, List, length, take}
use Rattle.vl_model.specs.Keys.{Row}

-- how many rows are read at a time
abbrev pub rows_at_once : ℕ
rows_at_once = 4096

-- Some first rows of all were read, the last time so many of them. Where these were fewer than are read at a time, all were.
pub record AreRead (all rows : List Row) (read : ℕ) : Type 0 where
  pub first : rows ≡ take (length rows) all
  pub whole : read < rows_at_once → rows ≡ all
