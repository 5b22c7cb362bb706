-- The value that comes back.
use Rattle.vl_turn.specs.declared.fails.LockFail.{LockFail}
use Rattle.vl_turn.specs.declared.fails.LockFail.TheVariants as fail

abbrev pub refused : {T : Type 0} → LockFail T → T
refused (fail.NoMemory value) = value
