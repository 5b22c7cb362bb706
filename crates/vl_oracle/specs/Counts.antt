-- How many read at each number, and the map that keeps it.
use Rattle.std.specs.Prelude.{◌≡◌, ◌≤◌, ◌==◌, ◌+◌, ℕ, if◌then◌else◌, List, [], ◌∷◌, length, Option, Some, None, IsSome, unwrap_or}
use Rattle.vl_model.specs.Limits.{max_live}
use Rattle.vl_oracle.specs.LiveTickets.{LiveTickets, Ticket, AreLive}

-- how many of these read at a number
abbrev pub uses : ℕ → List Ticket → ℕ
uses number [] = 0
uses number (live ∷ others) = (if live.1 == number then 1 else 0) + uses number others

-- a count of none has no entry
abbrev pub counted : ℕ → Option ℕ
counted count = if count == 0 then None else Some count

-- what stands at n, where n had `old` and the count of a number has changed
abbrev pub with_count : ℕ → ℕ → Option ℕ → ℕ → Option ℕ
with_count count number old n = if number == n then counted count else old

-- how many a map has at a number
abbrev pub count_at : (ℕ → Option ℕ) → ℕ → ℕ
count_at standing number = unwrap_or (standing number) 0

-- a map after one of its numbers got this count
abbrev pub IsRecounted : ℕ → ℕ → (ℕ → Option ℕ) → (ℕ → Option ℕ) → Type 0
IsRecounted count number old new = (n : ℕ) → new n ≡ with_count count number (old n) n

-- the least at which something stands, and none where nothing does anywhere
abbrev pub IsLeastKey : (ℕ → Option ℕ) → Option ℕ → Type 0
IsLeastKey standing None = (n : ℕ) → standing n ≡ None
IsLeastKey standing (Some least) = IsSome (standing least) × ((n : ℕ) → IsSome (standing n) → least ≤ n)

-- what an oracle keeps, where `standing` is the map of counts
pub record IsKept (live : LiveTickets) (standing : ℕ → Option ℕ) : Type 0 where
  pub are : AreLive live
  pub few : length live.tickets ≤ max_live
  pub counts : (n : ℕ) → standing n ≡ counted (uses n live.tickets)
