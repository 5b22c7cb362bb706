-- Items one behind the other, whatever they are, of which each is spelled in one way.
use Rattle.std.specs.Prelude.{◌≡◌, ℕ, List, [], ◌∷◌, ◌++◌, length}
use Rattle.std.specs.List.{AllByRecursion}

-- How an item is spelled. At the front of the same bytes stands one lawful item at most, and the same stands
-- behind it.
pub record Spelling (Item : Type 0) : Type 1 where
  pub bytes : Item → List ℕ
  pub lawful : Item → Type 0
  pub one : (a b : Item) (rest other : List ℕ) → lawful a → lawful b
      → bytes a ++ rest ≡ bytes b ++ other → (a ≡ b) × (rest ≡ other)

module _ {Item : Type 0} (S : Spelling Item) where
  -- items, one behind the other
  abbrev pub series_bytes : List Item → List ℕ
  series_bytes [] = []
  series_bytes (item ∷ items) = S.bytes item ++ series_bytes items

  -- so many lawful items, one behind the other, are the bytes
  pub record IsSeries (bytes : List ℕ) (count : ℕ) (items : List Item) : Type 0 where
    pub counted : length items ≡ count
    pub lawful : AllByRecursion S.lawful items
    pub spelled : bytes ≡ series_bytes items
