-- Which items bytes begin with, and which they hold.
use Rattle.std.specs.Prelude.{◌≡◌, ◌⊎◌, ℕ, ◌+◌, List, [], ◌∷◌, ◌++◌, length, refl}
use Rattle.std.proofs.Common.{sym, ap, subst, ◌∙◌, inl, inr, ⊎_elim}
use Rattle.vl_frame.specs.Begins.{BeginsAs}
use Rattle.vl_frame.specs.Runs.{Grammar, ReadsAs, item_frame}
use Rattle.vl_frame.specs.laws.RunLaws.{one_item}

-- of the file with this number
module _ {Item : Type 0} (G : Grammar Item) (number : ℕ) where
  -- Bytes begin with what they hold.
  pub reads_begins : (at : ℕ) (bytes : List ℕ) (items : List Item) → ReadsAs G number at bytes items → BeginsAs G number at bytes items
  reads_begins at bytes [] reads = tt
  reads_begins at bytes (item ∷ items) (rest, stands, reads) =
      (rest, stands, reads_begins (at + length (item_frame G number at item)) rest items reads)

  -- what is said of the bytes behind an item is said of those behind the same
  behind_same : (P : ℕ → List ℕ → Type 0) (at : ℕ) (a b : Item) (rest other : List ℕ) → a ≡ b → rest ≡ other
      → P (at + length (item_frame G number at b)) other → P (at + length (item_frame G number at a)) rest
  behind_same P at a b rest other same same_rest holds =
      subst (λ (x : Item). P (at + length (item_frame G number at x)) rest) (sym same)
      (subst (λ (r : List ℕ). P (at + length (item_frame G number at b)) r) (sym same_rest) holds)

  -- The items that bytes begin with begin the items that they hold.
  pub reads_past : (at : ℕ) (bytes : List ℕ) (items others : List Item)
      → BeginsAs G number at bytes items → ReadsAs G number at bytes others → (more : List Item) × (others ≡ items ++ more)
  reads_past at bytes [] others p q = (others, refl)
  reads_past at bytes (a ∷ items) [] p q = absurd (q a p.0 p.1)
  reads_past at bytes (a ∷ items) (b ∷ others) p q =
      let one = one_item G number at bytes a b p.0 q.0 p.1 q.1 in
      let tail = behind_same (λ (n : ℕ) (r : List ℕ). ReadsAs G number n r others) at a b p.0 q.0 one.0 one.1 q.2 in
      let past = reads_past (at + length (item_frame G number at a)) p.0 items others p.2 tail in
      (past.0, ap (λ (x : Item). x ∷ others) (sym one.0) ∙ ap (λ (l : List Item). a ∷ l) past.1)

  -- Of two lists of items that the same bytes begin with, one begins the other.
  pub one_begins : (at : ℕ) (bytes : List ℕ) (items others : List Item)
      → BeginsAs G number at bytes items → BeginsAs G number at bytes others
      → ((more : List Item) × (others ≡ items ++ more)) ⊎ ((more : List Item) × (items ≡ others ++ more))
  one_begins at bytes [] others p q = inl (others, refl)
  one_begins at bytes (a ∷ items) [] p q = inr (a ∷ items, refl)
  one_begins at bytes (a ∷ items) (b ∷ others) p q =
      let one = one_item G number at bytes a b p.0 q.0 p.1 q.1 in
      let tail = behind_same (λ (n : ℕ) (r : List ℕ). BeginsAs G number n r others) at a b p.0 q.0 one.0 one.1 q.2 in
      ⊎_elim
      (λ (longer : (more : List Item) × (others ≡ items ++ more)).
      inl (longer.0, ap (λ (x : Item). x ∷ others) (sym one.0) ∙ ap (λ (l : List Item). a ∷ l) longer.1))
      (λ (shorter : (more : List Item) × (items ≡ others ++ more)).
      inr (shorter.0, ap (λ (x : Item). x ∷ items) one.0 ∙ ap (λ (l : List Item). b ∷ l) shorter.1))
      (one_begins (at + length (item_frame G number at a)) p.0 items others p.2 tail)
