use Rattle.std.specs.Prelude.{◌≡◌, take}
use Rattle.vl_steps.specs.Staging.{commit_entries}
use Rattle.vl_steps.proofs.commit.run_of.Given as goal

-- the entries of the writes so far
abbrev pub invariant-loop-i : goal.invariant-loop-i
invariant-loop-i l = l.all.items ≡ commit_entries l.number (take l.i l.writes) l.pointers
