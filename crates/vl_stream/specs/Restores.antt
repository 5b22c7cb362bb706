-- What stood where the changes begin that a backup tells.
use Rattle.std.specs.Prelude.{ℕ, zero, suc}
use Rattle.std.specs.FinMap.{empty}
use Rattle.vl_model.specs.History.{History, contents_at}
use Rattle.vl_model.specs.Keys.{Pairs}

-- what stood at the number since which a backup tells; since 0 nothing did
abbrev pub stood_at : History → ℕ → Pairs
stood_at h zero = empty
stood_at h (suc since) = contents_at h (suc since)
