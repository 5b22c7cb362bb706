-- Why an opening was refused, and how its run ends.
use Rattle.vl_disk.specs.Crash.{Image}
use Rattle.vl_recover.specs.opening.Answers.{AnswersBy}
use Rattle.vl_recover.specs.opening.Results.{recovery_by}
use Rattle.vl_recover.specs.declared.fails.OpenError.{OpenError}
use Rattle.vl_recover.specs.declared.fails.OpenError.TheVariants as why
use Rattle.vl_script_model.specs.declared.ending.Ending.{Ending}
use Rattle.vl_script_model.specs.declared.ending.Ending.TheVariants.{Refused, NoMemory, DiskFault}
use Rattle.vl_script_model.specs.declared.fails.Refusal.{Refusal}
use Rattle.vl_script_model.specs.declared.fails.Refusal.TheVariants as refusals

-- an opening refused what stands on the disk
abbrev pub why_refused : Refusal → OpenError
why_refused refusals.NotAStore = why.NotAStore
why_refused (refusals.NewerFormat format) = why.NewerFormat format
why_refused (refusals.Damaged name place) = why.Damaged name place
why_refused (refusals.Exhausted counter) = why.Exhausted counter

-- how a run ends whose store wasn't opened
abbrev pub ending_unopened : OpenError → Ending
ending_unopened why.NotAStore = Refused refusals.NotAStore
ending_unopened (why.NewerFormat format) = Refused (refusals.NewerFormat format)
ending_unopened (why.Damaged name place) = Refused (refusals.Damaged name place)
ending_unopened (why.Exhausted counter) = Refused (refusals.Exhausted counter)
ending_unopened why.NoMemory = NoMemory
ending_unopened (why.Disk name) = DiskFault

-- what reads give is refused so
abbrev pub IsRefused : Image → Refusal → Type 0
IsRefused read refusal = AnswersBy read (recovery_by (why_refused refusal))
