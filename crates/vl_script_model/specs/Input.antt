-- Reading lines: how the bytes that a source had left become lines.
use Rattle.std.specs.Prelude.{◌≡◌, ◌≢◌, ◌<◌, ℕ, Bool, true, false, List, [], ◌∷◌, ◌++◌, length, Option, Some, None}
use Rattle.std.specs.List.{AllByRecursion}
use Rattle.vl_script.specs.Script.{lines_of}
use Rattle.vl_script.specs.declared.next.Next.{Next}
use Rattle.vl_script.specs.declared.next.Next.TheVariants.{Line, LastLine, TooLong, End}
use Rattle.vl_script.specs.Script.{longest_line}

-- no byte of these ends a line
abbrev pub HasNoLineEnd : List ℕ → Type 0
HasNoLineEnd bytes = AllByRecursion (λ b. b ≢ 10) bytes

-- the line took the bytes up to a line's end, which has gone too, or all of them where there is none
abbrev pub TakesLineEnd : Bool → List ℕ → List ℕ → List ℕ → List ℕ → Type 0
TakesLineEnd true old new line line' =
    (piece : List ℕ) × (old ≡ piece ++ 10 ∷ new) × HasNoLineEnd piece × (line' ≡ line ++ piece)
TakesLineEnd false old new line line' = (new ≡ []) × HasNoLineEnd old × (line' ≡ line ++ old)

-- a source gave more bytes, or had no more
abbrev pub Refills : Bool → Option (List ℕ) → Option (List ℕ) → List ℕ → Type 0
Refills true None left' given = (left' ≡ None) × (0 < length given)
Refills true (Some left) left' given =
    (rest : List ℕ) × (left' ≡ Some rest) × (left ≡ given ++ rest) × (0 < length given)
Refills false None left' given = (left' ≡ None) × (given ≡ [])
Refills false (Some left) left' given = (left' ≡ Some []) × (left ≡ []) × (given ≡ [])

-- what was found at the front of the bytes that a buffer and a source had: a line with its end; a line without one,
-- which the source's end ends; a line that is longer than any of the language; or the source's end
abbrev pub ReadsLine : Next → List ℕ → List ℕ → List ℕ → Option (List ℕ) → Type 0
ReadsLine Line had line buffer left =
    (rest : List ℕ) × (left ≡ Some rest) × (had ≡ line ++ 10 ∷ (buffer ++ rest)) × HasNoLineEnd line
ReadsLine LastLine had line buffer left =
    (left ≡ Some []) × (had ≡ line) × HasNoLineEnd line × (0 < length line)
ReadsLine TooLong had line buffer left =
    (text : List ℕ) × (texts : List (List ℕ)) × (lines_of had ≡ text ∷ texts)
    × (longest_line < length text)
ReadsLine End had line buffer left = (left ≡ Some []) × (had ≡ [])

-- the source failed before a line had ended in what it gave
abbrev pub FailsWithin : List ℕ → Option (List ℕ) → Type 0
FailsWithin had left =
    (given : List ℕ) × (rest : List ℕ) × (left ≡ Some rest) × (had ≡ given ++ rest)
    × HasNoLineEnd given
