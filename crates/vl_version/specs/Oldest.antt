-- Which frozen log is flushed next, and which stay.
use Rattle.std.specs.Prelude.{List, [], ◌∷◌, Option, Some, None}
use Rattle.vl_memtable.specs.declared.frozen_log.FrozenLog.{FrozenLog}

-- the last of some frozen logs, of which the newest comes first
abbrev pub oldest_frozen : List FrozenLog → Option FrozenLog
oldest_frozen [] = None
oldest_frozen (log ∷ []) = Some log
oldest_frozen (log ∷ next ∷ logs) = oldest_frozen (next ∷ logs)

-- and the others
abbrev pub but_oldest : List FrozenLog → List FrozenLog
but_oldest [] = []
but_oldest (log ∷ []) = []
but_oldest (log ∷ next ∷ logs) = log ∷ but_oldest (next ∷ logs)
