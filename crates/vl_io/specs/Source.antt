-- What a source gives: the bytes of an input, from its front.
use Rattle.std.specs.Prelude.{◌≡◌, ◌++◌, List, None, Option, Some, ℕ}

-- These bytes were given from the front of what was left. What is told stays told, and what is not told stays so.
abbrev pub HandsOver : Option (List ℕ) → Option (List ℕ) → List ℕ → Type 0
HandsOver None after given = after ≡ None
HandsOver (Some rest) None given = ⊥
HandsOver (Some rest) (Some rest_after) given = rest ≡ given ++ rest_after
