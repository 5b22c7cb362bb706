-- Blocks that were tested.
use Rattle.std.specs.Prelude.{◌≡◌, ◌-◌, ◌<◌, ◌^◌, ℕ, List, Option, Some, drop, length, take}
use Rattle.vl_table.specs.body.Blocks.{IsSomeBlock}
use Rattle.vl_disk.specs.DiskState.{bytes_at}
use Rattle.vl_frame.specs.Frame.{frame_bytes, frame_length}
use Rattle.vl_frame.specs.declared.kinds.FrameKind.TheVariants as kinds
use Rattle.vl_table.specs.declared.slot.BlockId.{BlockId}

-- what stands behind a frame's head and before its check
abbrev pub body_in : List ℕ → List ℕ
body_in frame = take (length frame - 8 - 5) (drop 5 frame)

-- these bytes are a frame of the block that is named, whole and with its check
abbrev pub IsFrameOf : BlockId → List ℕ → Type 0
IsFrameOf id frame = (frame ≡ frame_bytes id.number id.place kinds.Block (body_in frame)) × (length (body_in frame) < 2 ^ 32)
    × (id.length ≡ frame_length (length (body_in frame)))

-- and its body is that of some block
abbrev pub IsBlockFrame : BlockId → List ℕ → Type 0
IsBlockFrame id frame = IsFrameOf id frame × IsSomeBlock id.format (body_in frame)

-- such a frame stands where the block is named, in a file that tells its bytes
abbrev pub IsTested : {H : Type 0} → (H → Option (List ℕ)) → H → BlockId → Type 0
IsTested bytes_of held id = (bytes : List ℕ) → bytes_of held ≡ Some bytes → IsBlockFrame id (bytes_at id.place id.length bytes)
