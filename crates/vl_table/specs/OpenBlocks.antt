-- The entries of a block that lies in memory.
use Rattle.std.specs.Prelude.{◌≡◌, ◌≤◌, ℕ, List, drop, length, map, take}
use Rattle.std.specs.List.{AllByRecursion}
use Rattle.vl_model.specs.declared.entry.Entry.{Entry}
use Rattle.vl_table.specs.body.Entries.{IsEntry}
use Rattle.vl_table.specs.body.Starts.{StartsAt}
use Rattle.vl_table.specs.BlockEntries.{entry_in}

-- an entry that a table may have begins at a place of the bytes
pub record Begins (format : ℕ) (bytes : List ℕ) (place : ℕ) : Type 0 where
  pub entry : Entry
  pub lawful : IsEntry format entry
  pub starts : StartsAt format bytes place entry

-- what the bytes say at these places
abbrev pub said_at : ℕ → List ℕ → List ℕ → List Entry
said_at format bytes places = map (λ place. entry_in format (drop place bytes)) places

-- A frame, of which each of the first places is the beginning of an entry, in the bytes behind head and count; and room for any.
pub record IsOpen (format : ℕ) (frame places : List ℕ) (count : ℕ) : Type 0 where
  pub room : length frame ≡ 4190
  pub places_room : length places ≡ 347
  pub within : count ≤ 347
  pub each : AllByRecursion (Begins format (drop 9 frame)) (take count places)
