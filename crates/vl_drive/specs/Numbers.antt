-- The numbers that a client draws, and the transfers that it makes of them.
use Rattle.std.specs.Prelude.{ℕ, zero, suc, ◌+◌, ◌*◌, ◌/◌, ◌%◌, ◌^◌}
use Rattle.vl_drive.specs.declared.transfer.Transfer.{Transfer}

-- the number behind another one
abbrev pub next_number : ℕ → ℕ
next_number x = (x * 6364136223846793005 + 1442695040888963407) % 2 ^ 64

-- the number of a client's turn, where a seed stands before the first
abbrev pub number_in_turn : (seed turn : ℕ) → ℕ
number_in_turn seed zero = seed
number_in_turn seed (suc n) = next_number (number_in_turn seed n)

-- the bits of a number from a place on, modulo a bound
abbrev pub bits_from : (place bound x : ℕ) → ℕ
bits_from place bound x = (x / 2 ^ place) % bound

-- the transfer of a number, between two of 64 accounts
abbrev pub transfer_of : ℕ → Transfer
transfer_of x = record {
  from = bits_from 33 64 x;
  to = (bits_from 33 64 x + 1 + bits_from 40 63 x) % 64;
  most = bits_from 50 100 x;
}

-- each client has a seed of its own
abbrev pub seed_of : (seed client : ℕ) → ℕ
seed_of seed client = (seed + client) % 2 ^ 64

-- the transfer of a client's turn; turns count from 1
abbrev pub transfer_in : (seed client turn : ℕ) → Transfer
transfer_in seed client turn = transfer_of (number_in_turn (seed_of seed client) turn)
