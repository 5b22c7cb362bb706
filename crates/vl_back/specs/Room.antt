-- The room that a disk has for the names that a step doesn't change.
use Rattle.std.specs.Prelude.{◌≡◌, ◌≢◌}
use Rattle.vl_disk.specs.Spare.{Spare}
use Rattle.vl_disk.specs.declared.name.Name.{Name}

-- it is as it was for every name but these two
abbrev pub SameSpareBeside : Name → Name → (Name → Spare) → (Name → Spare) → Type 0
SameSpareBeside one two old new = (other : Name) → other ≢ one → other ≢ two → new other ≡ old other
