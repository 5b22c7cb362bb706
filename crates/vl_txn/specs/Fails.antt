-- A key's refusal as that of a write.
use Rattle.vl_txn.specs.declared.key_fail.KeyFail.{KeyFail}
use Rattle.vl_txn.specs.declared.key_fail.KeyFail.TheVariants.{EmptyKey as NoKey, KeyTooLong as LongKey}
use Rattle.vl_txn.specs.declared.set_fail.SetFail.{SetFail}
use Rattle.vl_txn.specs.declared.set_fail.SetFail.TheVariants.{EmptyKey, KeyTooLong}

abbrev pub as_set_fail : KeyFail → SetFail
as_set_fail NoKey = EmptyKey
as_set_fail LongKey = KeyTooLong
