-- What an opening gives, where a store was opened and where not.
use Rattle.std.specs.Prelude.{Result, Ok, Err}
use Rattle.vl_recover.specs.declared.fails.OpenFail.{OpenFail}
use Rattle.vl_replay.specs.declared.replayer.Replayer.{Replayer}

-- the disk behind an opening: in the store, or handed back. The type of a store names all that its disk has.
abbrev pub disk_behind : {D Held Reader Writer R : Type 0} {watched : _} {held : _} {cloned : _} {read : _} {write : _}
    → Result (Replayer D Held Reader Writer watched held cloned read write) (OpenFail D R) → D
disk_behind (Ok replayer) = replayer.served.engine.disk
disk_behind (Err fail) = fail.disk
