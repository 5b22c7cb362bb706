-- What a replayer asks of a line.
use Rattle.std.specs.Prelude.{◌≤◌}
use Rattle.vl_script.specs.declared.line.Line.{Line}
use Rattle.vl_script.specs.declared.line.Line.TheVariants.{Begin, View, Get, Set, SetTagged, GetTagged, Scan, Delete}
use Rattle.vl_script.specs.declared.line.Line.TheVariants.{Commit, Drop, Rotate, Flush, Keep, GetAt, Plan, Drain, Install}
use Rattle.vl_script.specs.declared.line.Line.TheVariants.{Sweep, Stats, Pick, Batch, Move}

-- a scan asks for one row at least, as each does that is a line of the language
abbrev pub AsksForRow : Line → Type 0
AsksForRow (Begin name) = Unit {0}
AsksForRow (View name) = Unit {0}
AsksForRow (Get name key) = Unit {0}
AsksForRow (GetTagged name key) = Unit {0}
AsksForRow (Set name key value) = Unit {0}
AsksForRow (SetTagged name key value tag) = Unit {0}
AsksForRow (Scan name low high limit way) = 1 ≤ limit
AsksForRow (Delete name key) = Unit {0}
AsksForRow (Commit name) = Unit {0}
AsksForRow (Drop name) = Unit {0}
AsksForRow Rotate = Unit {0}
AsksForRow Flush = Unit {0}
AsksForRow (Keep versions) = Unit {0}
AsksForRow (GetAt name key number) = Unit {0}
AsksForRow (Plan name) = Unit {0}
AsksForRow (Drain name segment) = Unit {0}
AsksForRow (Install name) = Unit {0}
AsksForRow Sweep = Unit {0}
AsksForRow Stats = Unit {0}
AsksForRow (Pick name percent) = Unit {0}
AsksForRow (Batch name) = Unit {0}
AsksForRow (Move name) = Unit {0}
