-- What holds of every memtable: its runs double, so they are few.
use Rattle.std.specs.Prelude.{◌≡◌, ◌+◌, ◌^◌, ◌<◌, ◌≤◌, true, length, sum}
use Rattle.std.specs.List.{AllByRecursion}
use Rattle.vl_memtable.specs.Contents.{Contents}
use Rattle.vl_memtable.specs.Lengths.{doubles}

-- none of its runs is empty, each has at least twice the entries of the next newer one, and together they
-- have as many as the memtable: so there are at most a logarithm of them
pub record HasFewRuns (held : Contents) : Type 0 where
  pub some : AllByRecursion (λ n. 0 < n) held.lengths
  pub double : doubles held.lengths ≡ true
  pub whole : sum held.lengths ≡ length held.entries
  pub few : 2 ^ length held.lengths ≤ length held.entries + 1
