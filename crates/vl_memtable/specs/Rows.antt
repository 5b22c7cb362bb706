-- How long the runs are after commits of one write each.
use Rattle.std.specs.Prelude.{ℕ, zero, suc, List, []}
use Rattle.vl_memtable.specs.Lengths.{lengths_with}

-- the lengths after so many runs of one entry, from none on
abbrev pub after_runs_of_one : ℕ → List ℕ
after_runs_of_one zero = []
after_runs_of_one (suc n) = lengths_with 1 (after_runs_of_one n)
