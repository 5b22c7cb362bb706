-- Transactions with few and short writes, which pass no limit.
use Rattle.std.specs.Prelude.{◌≡◌, ◌≤◌, ◌<◌, ℕ, List, length, true}
use Rattle.std.specs.FinMap.{entries, len}
use Rattle.std.specs.List.{AllByRecursion}
use Rattle.vl_model.specs.Keys.{Writes, is_key_length, value_bytes}
use Rattle.vl_model.specs.declared.change.Change.{Change}

-- to a lawful key, of at most 80 bytes
abbrev pub IsShort : List ℕ × Change → Type 0
IsShort write = (is_key_length (length write.0) ≡ true) × (length (value_bytes write.1) ≤ 80)

-- few writes, each of them short
pub record IsSmall (writes : Writes) : Type 0 where
  pub few : len writes < 64
  pub short : AllByRecursion IsShort (entries writes)
