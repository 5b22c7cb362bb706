-- Why an entry wasn't added, by why its table wasn't written on.
use Rattle.vl_table.specs.declared.writer.add_fail.AddFail.{AddFail}
use Rattle.vl_table.specs.declared.writer.add_fail.AddFail.TheVariants as add
use Rattle.vl_table.specs.declared.writer.write_fail.WriteFail.{WriteFail}
use Rattle.vl_table.specs.declared.writer.write_fail.WriteFail.TheVariants.{NoMemory, TooLong}

abbrev pub write_failed : WriteFail → AddFail
write_failed NoMemory = add.NoMemory
write_failed TooLong = add.TooLong
