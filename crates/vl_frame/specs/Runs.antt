-- Frames one behind the other, whatever they say: which of them bytes hold.
use Rattle.std.specs.Prelude.{◌≡◌, ℕ, ◌+◌, ◌<◌, ◌^◌, List, [], ◌∷◌, ◌++◌, length}
use Rattle.vl_frame.specs.Frame.{file_of, frame_bytes}
use Rattle.vl_frame.specs.declared.kinds.FileKind.{FileKind}
use Rattle.vl_frame.specs.declared.kinds.FrameKind.{FrameKind}

-- What the frames of one kind of file say. Each item has a frame's kind and a body, and the lawful ones that a
-- frame can hold are spelled in one way.
pub record Grammar (Item : Type 0) : Type 1 where
  pub file : FileKind
  pub kind : Item → FrameKind
  pub body : Item → List ℕ
  pub lawful : Item → Type 0
  pub in_file : (item : Item) → file_of (kind item) ≡ file
  pub one : (a b : Item) → lawful a → lawful b → length (body a) < 2 ^ 32 → kind a ≡ kind b → body a ≡ body b → a ≡ b

-- an item that a frame can hold
pub record HasFrame {Item : Type 0} (G : Grammar Item) (item : Item) : Type 0 where
  pub lawful : G.lawful item
  pub short : length (G.body item) < 2 ^ 32

-- of the file with this number
module _ {Item : Type 0} (G : Grammar Item) (number : ℕ) where
  -- the frame of an item at a place
  abbrev pub item_frame : ℕ → Item → List ℕ
  item_frame at item = frame_bytes number at (G.kind item) (G.body item)

  -- the frames of these items, one behind the other, the first of them at a place
  abbrev pub run_bytes : ℕ → List Item → List ℕ
  run_bytes at [] = []
  run_bytes at (item ∷ items) = item_frame at item ++ run_bytes (at + length (item_frame at item)) items

  -- The item's frame stands at the front of the bytes, which are those of the file from a place on, and the
  -- rest follows.
  pub record StandsAt (at : ℕ) (bytes : List ℕ) (item : Item) (rest : List ℕ) : Type 0 where
    pub lawful : G.lawful item
    pub short : length (G.body item) < 2 ^ 32
    pub spelled : bytes ≡ item_frame at item ++ rest

  -- no item's frame stands at the front
  abbrev pub StandsNone : ℕ → List ℕ → Type 0
  StandsNone at bytes = (item : Item) (rest : List ℕ) → StandsAt at bytes item rest → ⊥

  -- the bytes are the frames of these items, one behind the other, and where they end no item's stands
  abbrev pub ReadsAs : ℕ → List ℕ → List Item → Type 0
  ReadsAs at bytes [] = StandsNone at bytes
  ReadsAs at bytes (item ∷ items) =
      (rest : List ℕ) × StandsAt at bytes item rest × ReadsAs (at + length (item_frame at item)) rest items
