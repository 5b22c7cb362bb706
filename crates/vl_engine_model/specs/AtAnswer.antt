-- What a read at an older number is answered.
use Rattle.std.specs.Prelude.{ℕ, ◌==◌, nat_lt, if◌then◌else◌, List, length, Option}
use Rattle.vl_model.specs.History.{History, value_at}
use Rattle.vl_model.specs.Keys.{Stored}
use Rattle.vl_model.specs.Limits.{max_key_bytes}
use Rattle.vl_model.specs.Versions.{low}
use Rattle.vl_engine_model.specs.Sources.{floor}
use Rattle.vl_engine_model.specs.declared.layout.Layout.{Layout}

-- the floor, and how many versions were kept and since when, where something began
pub record Beginning : Type 0 where
  pub floor : ℕ
  pub keep : ℕ
  pub since : ℕ

-- of a layout in which it lives already, so that the floor counts the number at which it reads itself
abbrev pub beginning_of : Layout → History → Beginning
beginning_of l h = record { floor = floor l h; keep = l.keep; since = l.since }

-- in the order in which they are tested
pub data AtAnswer : Type 0 where
  EmptyKey : AtAnswer
  KeyTooLong : AtAnswer
  -- the number asked for is above that at which it reads, which is this
  Ahead : ℕ → AtAnswer
  -- it is below the least one at which the key can be read, which is this
  Dropped : ℕ → AtAnswer
  -- what the key has there
  Found : Option Stored → AtAnswer

-- by the number at which it reads, the least one at which the key can be read, and what the key has at
-- the one asked for
abbrev pub at_answer_by : ℕ → ℕ → Option Stored → List ℕ → ℕ → AtAnswer
at_answer_by number least value key n =
    if length key == 0 then EmptyKey
    else (if nat_lt max_key_bytes (length key) then KeyTooLong
    else (if nat_lt number n then Ahead number
    else (if nat_lt n least then Dropped least
    else Found value)))

-- of what began so and reads at this number: past its own writes, and nothing is noted
abbrev pub at_answer : History → Beginning → ℕ → List ℕ → ℕ → AtAnswer
at_answer h b number key n = at_answer_by number (low h b.floor b.keep b.since key) (value_at h n key) key n
