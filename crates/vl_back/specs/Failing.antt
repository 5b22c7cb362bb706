-- Why a table wasn't spelled, by why an entry wasn't added to it.
use Rattle.vl_back.specs.declared.stage_fail.StageFail.{StageFail}
use Rattle.vl_back.specs.declared.stage_fail.StageFail.TheVariants.{NoMemory, NotLawful}
use Rattle.vl_table.specs.declared.writer.add_fail.AddFail.{AddFail}
use Rattle.vl_table.specs.declared.writer.add_fail.AddFail.TheVariants as add

abbrev pub add_failed : AddFail → StageFail
add_failed add.NoMemory = NoMemory
add_failed add.TooLong = NoMemory
add_failed add.NotLawful = NotLawful
