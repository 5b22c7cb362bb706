-- What is behind the memtable that takes commits, wherever it stands.
use Rattle.std.specs.Arc.{arc_value}
use Rattle.vl_version.specs.declared.behind.Behind.{Behind}
use Rattle.vl_version.specs.declared.behind.Place.{Place}
use Rattle.vl_version.specs.declared.behind.Place.TheVariants.{Own, Shared}

abbrev pub behind_of : {H : Type 0} → Place H → Behind H
behind_of (Own behind) = behind
behind_of (Shared behind) = arc_value behind
