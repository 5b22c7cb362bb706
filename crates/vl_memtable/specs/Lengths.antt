-- How long the runs of a memtable are, the newest first.
use Rattle.std.specs.Prelude.{ℕ, ◌+◌, ◌*◌, Bool, true, ◌&&◌, nat_lt, nat_le, if◌then◌else◌, List, [], ◌∷◌, length}

-- With a run of so many entries more: as long as the first old one has less than twice as many, it
-- joins the new one.
abbrev pub lengths_with : ℕ → List ℕ → List ℕ
lengths_with n [] = n ∷ []
lengths_with n (first ∷ rest) =
    if nat_lt first (2 * n) then lengths_with (n + first) rest else n ∷ first ∷ rest

-- all entries are in one run, where there are any
abbrev pub one_run : {A : Type 0} → List A → List ℕ
one_run [] = []
one_run (e ∷ es) = length (e ∷ es) ∷ []

-- each has at least twice the entries of the next newer one
abbrev pub doubles : List ℕ → Bool
doubles [] = true
doubles (newer ∷ []) = true
doubles (newer ∷ older ∷ rest) = nat_le (2 * newer) older && doubles (older ∷ rest)
