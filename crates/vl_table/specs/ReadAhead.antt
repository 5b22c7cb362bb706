-- What was read of a table before it is asked for.
use Rattle.std.specs.Prelude.{◌≡◌, ℕ, List, ◌++◌, drop, Option}
use Rattle.std.specs.Option.{ForSome}
use Rattle.vl_table.specs.declared.read.Ahead.{Ahead}

-- the file has these bytes at their place
abbrev pub AheadOf : List ℕ → Ahead → Type 0
AheadOf bytes a = (rest : List ℕ) × (drop a.place bytes ≡ a.bytes.items ++ rest)

-- so it is where its bytes are told
abbrev pub IsAhead : Option (List ℕ) → Ahead → Type 0
IsAhead told a = ForSome told (λ bytes. AheadOf bytes a)
