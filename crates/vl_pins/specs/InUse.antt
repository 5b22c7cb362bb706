-- What becomes of the numbers of files that are in use.
use Rattle.std.specs.Prelude.{ℕ, ◌==◌, not, List}
use Rattle.std.specs.List.{filter}

-- all but this number
abbrev pub but : ℕ → List ℕ → List ℕ
but n ns = filter (λ (m : ℕ). not (m == n)) ns
