-- Blocks hold the entries of their table, all and in order, and none is empty or longer than the longest body.
use Rattle.std.proofs.Common.{◌≡◌, ℕ, ◌+◌, ◌≤◌, Bool, true, false, cond, List, [], ◌∷◌, ◌++◌, length, length-append}
use Rattle.std.proofs.Common.{refl, ap, ◌∙◌, append_assoc, arith}
use Rattle.std.specs.Prelude.{nat_le, if◌then◌else◌}
use Rattle.std.specs.List.{AllByRecursion, sum_by}
use Rattle.std.proofs.lemmas.Bool.Decides.{nat_tests}
use Rattle.std.proofs.lemmas.List.Sums.{sum_by-append, sum_by-cons}
use Rattle.vl_model.specs.declared.entry.Entry.{Entry}
use Rattle.vl_model.specs.Cutting.{begun_length, blocks, blocks_from, entry_length, joined, longest_body, max_block_bytes}

one_more : (open_part : List Entry) (e : Entry) (es : List Entry)
    → (open_part ++ e ∷ []) ++ es ≡ open_part ++ e ∷ es
one_more open_part e es = append_assoc open_part (e ∷ []) es

by_test : (P : List Entry) (b : Bool) (x y : List (List Entry)) → joined x ≡ P → joined y ≡ P
    → joined (if b then x else y) ≡ P
by_test P true x y one other = one
by_test P false x y one other = other

blocks_from-whole : (format : ℕ) (open_block : List Entry) (bytes : ℕ) (es : List Entry)
    → joined (blocks_from format open_block bytes es) ≡ open_block ++ es
blocks_from-whole format open_block bytes [] = refl
blocks_from-whole format open_block bytes (e ∷ es) =
    by_test (open_block ++ e ∷ es) (nat_le (bytes + entry_length format e) max_block_bytes)
    (blocks_from format (open_block ++ e ∷ []) (bytes + entry_length format e) es)
    (open_block ∷ blocks_from format (e ∷ []) (begun_length format e) es)
    (blocks_from-whole format (open_block ++ e ∷ []) (bytes + entry_length format e) es ∙ one_more open_block e es)
    (ap (λ xs. open_block ++ xs) (blocks_from-whole format (e ∷ []) (begun_length format e) es))

pub blocks-whole : (format : ℕ) (es : List Entry) → joined (blocks format es) ≡ es
blocks-whole format [] = refl
blocks-whole format (e ∷ es) = blocks_from-whole format (e ∷ []) (begun_length format e) es

-- ---- no block is empty

by_test-some : (t : Bool) (x y : List (List Entry)) → AllByRecursion (λ b. 1 ≤ length b) x → AllByRecursion (λ b. 1 ≤ length b) y
    → AllByRecursion (λ b. 1 ≤ length b) (cond t x y)
by_test-some true x y one other = one
by_test-some false x y one other = other

blocks_from-some : (format : ℕ) (open_block : List Entry) (bytes : ℕ) (es : List Entry) → 1 ≤ length open_block
    → AllByRecursion (λ b. 1 ≤ length b) (blocks_from format open_block bytes es)
blocks_from-some format open_block bytes [] some = (some, tt)
blocks_from-some format open_block bytes (e ∷ es) some =
    by_test-some (nat_le (bytes + entry_length format e) max_block_bytes)
    (blocks_from format (open_block ++ e ∷ []) (bytes + entry_length format e) es)
    (open_block ∷ blocks_from format (e ∷ []) (begun_length format e) es)
    (blocks_from-some format (open_block ++ e ∷ []) (bytes + entry_length format e) es (omega (arith, length-append open_block (e ∷ []))))
    (some, blocks_from-some format (e ∷ []) (begun_length format e) es (omega arith))

pub blocks-some : (format : ℕ) (es : List Entry) → AllByRecursion (λ b. 1 ≤ length b) (blocks format es)
blocks-some format [] = tt
blocks-some format (e ∷ es) = blocks_from-some format (e ∷ []) (begun_length format e) es (omega arith)

-- ---- no block is longer than the longest body

-- the body of a block with these entries has so many bytes
abbrev counted_length : ℕ → List Entry → ℕ
counted_length format es = 4 + sum_by (entry_length format) es

by_test-fit : (P : List Entry → Type 0) (t : Bool) (x y : List (List Entry)) → (t ≡ true → AllByRecursion P x)
    → AllByRecursion P y → AllByRecursion P (cond t x y)
by_test-fit P true x y one other = one refl
by_test-fit P false x y one other = other

below : (m n : ℕ) → nat_le m n ≡ true → m ≤ n
below m n is = grind (arith, nat_tests)

module _ (format : ℕ) where
  blocks_from-fit : (open_block : List Entry) (bytes : ℕ) (es : List Entry) → bytes ≡ counted_length format open_block
      → bytes ≤ longest_body
      → AllByRecursion (λ (e : Entry). begun_length format e ≤ longest_body) es
      → AllByRecursion (λ (b : List Entry). counted_length format b ≤ longest_body) (blocks_from format open_block bytes es)
  blocks_from-fit open_block bytes [] is fits each = (omega (arith, is, fits), tt)
  blocks_from-fit open_block bytes (e ∷ es) is fits each =
      by_test-fit (λ (b : List Entry). counted_length format b ≤ longest_body) (nat_le (bytes + entry_length format e) max_block_bytes)
      (blocks_from format (open_block ++ e ∷ []) (bytes + entry_length format e) es)
      (open_block ∷ blocks_from format (e ∷ []) (begun_length format e) es)
      (λ room.
      blocks_from-fit (open_block ++ e ∷ []) (bytes + entry_length format e) es
      (omega (arith, is, sum_by-append (entry_length format) open_block (e ∷ []), sum_by-cons (entry_length format) e []))
      (omega (arith, below (bytes + entry_length format e) max_block_bytes room)) each.1) (
        omega (arith, is, fits),
        blocks_from-fit (e ∷ []) (begun_length format e) es (omega (arith, sum_by-cons (entry_length format) e [])) each.0 each.1,
      )

  pub blocks-fit : (es : List Entry) → AllByRecursion (λ (e : Entry). begun_length format e ≤ longest_body) es
      → AllByRecursion (λ (b : List Entry). counted_length format b ≤ longest_body) (blocks format es)
  blocks-fit [] each = tt
  blocks-fit (e ∷ es) each =
      blocks_from-fit (e ∷ []) (begun_length format e) es (omega (arith, sum_by-cons (entry_length format) e [])) each.0 each.1
