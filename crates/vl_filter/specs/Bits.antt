-- Single bits of bytes.
use Rattle.std.specs.Prelude.{ℕ, ◌/◌, ◌%◌, ◌==◌, Bool, List, get_or}
use Rattle.std.specs.Int.{bit_at}

-- whether the bit at a place is 1: in each byte the least bit comes first
unfoldable pub is_set : List ℕ → ℕ → Bool
is_set bytes place = bit_at (get_or bytes (place / 8) 0) (place % 8) == 1
