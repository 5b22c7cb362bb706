-- The image that a crash of a disk in memory leaves, by what becomes of what isn't durable.
use Rattle.std.specs.Prelude.{ℕ, ◌+◌, ◌-◌, ◌/◌, List, [], ◌∷◌, ◌++◌, length, take, Option, None, Some, if◌then◌else◌}
use Rattle.std.specs.Option.{option_and_then, option_map}
use Rattle.std.specs.FinMap.{get, empty, insert, keys}
use Rattle.vl_disk.specs.declared.name.Name.{Name}
use Rattle.vl_disk.specs.Crash.{Image, last_file}
use Rattle.vl_disk.specs.DiskState.{File, DiskState}
use Rattle.vl_mem.specs.declared.outcome.Outcome.{Outcome}
use Rattle.vl_mem.specs.declared.outcome.Outcome.TheVariants.{Lost, Kept, Halved}

-- the bytes up to the synced length
abbrev pub durable_bytes : File → List ℕ
durable_bytes file = take file.synced file.bytes

-- and the first half, rounded down, of those past it
abbrev pub half_torn_bytes : File → List ℕ
half_torn_bytes file = take (file.synced + (length file.bytes - file.synced) / 2) file.bytes

-- what stays where all is lost that isn't durable
abbrev pub lasting_bytes : File → Option (List ℕ)
lasting_bytes file = if file.lasting then Some (durable_bytes file) else None

-- what a crash leaves under one name, by the file that stands there and the one that was removed there
abbrev pub left_of : Outcome → Option File → Option File → Option (List ℕ)
left_of Lost standing removed = option_and_then lasting_bytes (last_file standing removed)
left_of Kept standing removed = option_map (λ file. file.bytes) standing
left_of Halved standing removed = option_map half_torn_bytes standing

-- the image with these bytes under this name, if there are any
abbrev pub with_bytes : Name → Option (List ℕ) → Image → Image
with_bytes name None image = image
with_bytes name (Some bytes) image = insert image name bytes

-- the image that has what is left of each of these names
abbrev pub image_at : (Name → Option (List ℕ)) → List Name → Image
image_at left [] = empty
image_at left (name ∷ names) = with_bytes name (left name) (image_at left names)

-- what a crash leaves of the disk
abbrev pub crash_image : Outcome → DiskState → Image
crash_image outcome disk = image_at (λ name. left_of outcome (get disk.standing name) (get disk.removed name))
    (keys disk.standing ++ keys disk.removed)
