-- The lines of a benchmark, from a seed and a number of rounds.
use Rattle.std.specs.Prelude.{◌==◌, ℕ, zero, suc, ◌+◌, ◌*◌, ◌/◌, ◌%◌, ◌^◌, Bool, if◌then◌else◌}
use Rattle.std.specs.Prelude.{List, [], ◌∷◌, ◌++◌, codes, replicate}
use Rattle.vl_model.specs.declared.way.Way.TheVariants.{Up}
use Rattle.vl_script.specs.declared.line.Line.{Line}
use Rattle.vl_script.specs.declared.line.Line.TheVariants.{Begin, View, Set, Scan, Delete, Commit, Drop}
use Rattle.vl_script.specs.declared.line.Line.TheVariants.{Rotate, Flush, Plan, Install, Stats, Pick, Batch, Move, Sweep}

-- ---- numbers

-- the number behind another one: each round has one, and the seed is that of the round before the first
abbrev pub next_number : ℕ → ℕ
next_number x = (x * 6364136223846793005 + 1442695040888963407) % 2 ^ 64

-- the bits of a number from a place on, modulo a bound
abbrev pub bits_from : (place bound x : ℕ) → ℕ
bits_from place bound x = (x / 2 ^ place) % bound

-- ---- a round

-- one of 1,024 keys, of two bytes
abbrev pub key_from : ℕ → List ℕ
key_from x = bits_from 33 1024 x / 256 ∷ bits_from 33 1024 x % 256 ∷ []

-- up to 255 bytes, which all tell the round
abbrev pub value_from : (round x : ℕ) → List ℕ
value_from round x = replicate (bits_from 40 256 x) (round % 256)

-- one write in eight is a deletion
abbrev pub is_deletion : ℕ → Bool
is_deletion x = bits_from 50 8 x == 0

abbrev pub write_line : (round x : ℕ) → Line
write_line round x =
    if is_deletion x then Delete (codes "t") (key_from x) else Set (codes "t") (key_from x) (value_from round x)

-- so many batches, each moved, and the end of the pass
abbrev pub batch_lines : ℕ → List Line
batch_lines zero = Drop (codes "g") ∷ []
batch_lines (suc n) = Batch (codes "g") ∷ Move (codes "g") ∷ batch_lines n

-- every 256th round ends with a pass over the log with the most garbage
abbrev pub pass_lines : (round : ℕ) → List Line
pass_lines round = if round % 256 == 0 then Pick (codes "g") 30 ∷ batch_lines 8 else []

-- every 64th round writes a table, merges what is due and removes what isn't needed
abbrev pub upkeep_lines : (round : ℕ) → List Line
upkeep_lines round = if round % 64 == 0
    then Rotate ∷ Flush ∷ Plan (codes "j") ∷ Install (codes "j") ∷ Sweep ∷ pass_lines round else []

-- a transaction with one write, and what comes behind it
abbrev pub round_lines : (round x : ℕ) → List Line
round_lines round x = Begin (codes "t") ∷ write_line round x ∷ Commit (codes "t") ∷ upkeep_lines round

-- ---- the whole

-- all that stands at the end, and how much of it is live
abbrev pub last_lines : List Line
last_lines = View (codes "v") ∷ Scan (codes "v") [] [] 65535 Up ∷ Drop (codes "v") ∷ Stats ∷ []

-- so many rounds more, behind a round and its number, and the end
abbrev pub lines_behind : (left round x : ℕ) → List Line
lines_behind zero round x = last_lines
lines_behind (suc n) round x =
    round_lines (round + 1) (next_number x) ++ lines_behind n (round + 1) (next_number x)

-- the lines of so many rounds, which count from 1
abbrev pub bench_lines : (seed count : ℕ) → List Line
bench_lines seed count = lines_behind count 0 seed
