-- The frames that some bytes begin with, whatever stands behind them, and the places of frames in a file.
use Rattle.std.specs.Prelude.{◌≡◌, ℕ, ◌+◌, List, [], ◌∷◌, length, drop}
use Rattle.vl_frame.specs.Runs.{Grammar, StandsAt, item_frame}

-- what a frame says, and the place where it stands
pub record Placed (Item : Type 0) : Type 0 where
  pub place : ℕ
  pub item : Item

-- of the file with this number
module _ {Item : Type 0} (G : Grammar Item) (number : ℕ) where
  -- items with the places of their frames, which stand one behind the other
  abbrev pub placed : ℕ → List Item → List (Placed Item)
  placed at [] = []
  placed at (item ∷ items) = record { place = at; item = item } ∷ placed (at + length (item_frame G number at item)) items

  -- some item's frame stands at a place of a file with these bytes
  abbrev pub SpellsAt : List ℕ → ℕ → List ℕ → Type 0
  SpellsAt bytes at some =
      (item : Item) × (rest : List ℕ) × StandsAt G number at (drop at bytes) item rest × (some ≡ item_frame G number at item)

  -- The bytes begin with the frames of these items, whatever stands behind them: more frames or not.
  abbrev pub BeginsAs : ℕ → List ℕ → List Item → Type 0
  BeginsAs at bytes [] = Unit {0}
  BeginsAs at bytes (item ∷ items) =
      (rest : List ℕ) × StandsAt G number at bytes item rest × BeginsAs (at + length (item_frame G number at item)) rest items
