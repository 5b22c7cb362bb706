-- What callers see of a lock: which one it is, and the value with which it was made.
use Rattle.atomic_table.specs.Seated.{TableId}
use Rattle.vl_turn.specs.declared.raw.RawLock.{RawLock}
use Rattle.vl_turn.specs.declared.lock.TurnLock.{TurnLock}

module _ {T E : Type 0} where
  abbrev pub raw_name : RawLock T E → TableId
  raw_name raw = raw.table.shared.table_id

  abbrev pub raw_start : RawLock T E → T
  raw_start raw = raw.table.shared.key.value

  -- no other lock has this name
  abbrev pub lock_name : TurnLock T E → TableId
  lock_name lock = raw_name lock.raw

  abbrev pub lock_start : TurnLock T E → T
  lock_start lock = raw_start lock.raw
