-- Items that are spelled one behind the other, in their order.
use Rattle.std.specs.Prelude.{◌≡◌, ◌<◌, ◌^◌, ℕ, List, [], ◌∷◌, ◌++◌, length, Option, Some, None}
use Rattle.std.specs.List.{AllByRecursion}
use Rattle.byteorder.specs.Endian.{big_bytes}

-- How an item is spelled, which items are lawful, and which may stand right behind which. At the front of the same bytes one
-- lawful item is spelled at most.
pub record Spelling (Item : Type 0) : Type 1 where
  pub bytes : Item → List ℕ
  pub lawful : Item → Type 0
  pub before : Item → Item → Type 0
  pub one : (a b : Item) (x y : List ℕ) → lawful a → lawful b → bytes a ++ x ≡ bytes b ++ y → (a ≡ b) × (x ≡ y)

module _ {Item : Type 0} (S : Spelling Item) where
  abbrev pub items_bytes : List Item → List ℕ
  items_bytes [] = []
  items_bytes (a ∷ items) = S.bytes a ++ items_bytes items

  -- their count in four bytes, and the items
  abbrev pub counted_bytes : List Item → List ℕ
  counted_bytes items = big_bytes 4 (length items) ++ items_bytes items

  -- an item may stand in front of these
  abbrev pub IsInFront : Item → List Item → Type 0
  IsInFront a [] = Unit {0}
  IsInFront a (b ∷ items) = S.before a b

  -- each may stand right behind the one before it
  abbrev pub AreOrdered : List Item → Type 0
  AreOrdered [] = Unit {0}
  AreOrdered (a ∷ items) = IsInFront a items × AreOrdered items

  -- items that can be counted, lawful and in order; there may be none
  pub record AreLawful (items : List Item) : Type 0 where
    pub few : length items < 2 ^ 32
    pub each : AllByRecursion S.lawful items
    pub ordered : AreOrdered items

  -- the bytes are those of so many lawful items in order
  pub record IsRun (bytes : List ℕ) (count : ℕ) (items : List Item) : Type 0 where
    pub counted : length items ≡ count
    pub each : AllByRecursion S.lawful items
    pub ordered : AreOrdered items
    pub spelled : bytes ≡ items_bytes items

  -- an item may stand behind the last of some, or there is none of these
  abbrev pub IsNext : Option Item → Item → Type 0
  IsNext None b = Unit {0}
  IsNext (Some a) b = S.before a b

module _ {Item : Type 0} where
  -- the last of some items
  abbrev pub last_item : List Item → Option Item
  last_item [] = None
  last_item (a ∷ []) = Some a
  last_item (a ∷ b ∷ items) = last_item (b ∷ items)
