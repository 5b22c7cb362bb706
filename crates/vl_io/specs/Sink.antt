-- What a sink takes: pieces, each behind the bytes that it took before.
use Rattle.std.specs.Prelude.{◌≡◌, ◌++◌, ◌≤◌, List, None, Option, Some, length, take, ℕ}

-- These bytes were taken behind what was held. What is told stays told, and what is not told stays so.
abbrev pub Takes : Option (List ℕ) → Option (List ℕ) → List ℕ → Type 0
Takes None after taken = after ≡ None
Takes (Some bytes) None taken = ⊥
Takes (Some bytes) (Some bytes_after) taken = bytes_after ≡ bytes ++ taken

-- some front of the piece was taken: none of it, part of it or all of it
abbrev pub TakesPrefix : Option (List ℕ) → Option (List ℕ) → List ℕ → Type 0
TakesPrefix before after piece = (n : ℕ) × (n ≤ length piece) × Takes before after (take n piece)
