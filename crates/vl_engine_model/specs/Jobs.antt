-- What a job makes beside the engine, and what becomes of its files when it ends.
use Rattle.std.specs.Prelude.{◌≡◌, ℕ, false, true, List, [], ◌∷◌, ◌++◌, map, length, Option, Some, None}
use Rattle.std.specs.List.{AllByRecursion}
use Rattle.vl_model.specs.Formats.{table_format}
use Rattle.vl_model.specs.Numbers.{has}
use Rattle.vl_model.specs.declared.entry.Entry.{Entry}
use Rattle.vl_engine_model.specs.Merging.{outputs}
use Rattle.vl_engine_model.specs.Ruling.{retired_at}
use Rattle.vl_engine_model.specs.Sources.{numbers_of}
use Rattle.vl_engine_model.specs.Tables.{new_table}
use Rattle.vl_engine_model.specs.declared.file_name.FileName.TheVariants.{Table as TableFile}
use Rattle.vl_engine_model.specs.declared.file_name.Retired.{Retired}
use Rattle.vl_engine_model.specs.declared.job.Job.{Job}
use Rattle.vl_engine_model.specs.declared.job.OpenJob.{OpenJob}
use Rattle.vl_engine_model.specs.declared.layout.Layout.{Layout}
use Rattle.vl_engine_model.specs.declared.table.Table.{Table}

-- What a job has when it is handed in: the tables that it made, in key order, and its leavings, which
-- are the numbers of the files that didn't become tables.
pub record Made : Type 0 where
  pub tables : List Table
  pub leavings : List ℕ

abbrev pub nothing_made : Made
nothing_made = record { tables = []; leavings = [] }

-- the tables of some entry lists, each with a number that was drawn for it
abbrev pub tables_made : List ℕ → List (List Entry) → List Table
tables_made [] output = []
tables_made (n ∷ ns) [] = []
tables_made (n ∷ ns) (es ∷ output) = new_table table_format n es ∷ tables_made ns output

-- the numbers that were drawn for the open job
abbrev pub lent_numbers : Option OpenJob → List ℕ
lent_numbers None = []
lent_numbers (Some job) = job.lent

-- files that no version ever needed count as retired at 0, so that no pin holds them
abbrev pub loose : List ℕ → List Retired
loose numbers = map (λ n. retired_at 0 (TableFile n)) numbers

-- A job ends without its switch: its tables and leavings are retired, and its inputs are free again.
abbrev pub job_ended : Made → Layout → Layout
job_ended made l =
    record l { job = None; retired = l.retired ++ loose (numbers_of made.tables ++ made.leavings) }

-- ---- what is so of what is handed in

abbrev pub AreDistinct : List ℕ → Type 0
AreDistinct [] = Unit {0}
AreDistinct (n ∷ ns) = (has n ns ≡ false) × AreDistinct ns

-- each file has a number of its own, which was drawn for the job
pub record AreLent (lent : List ℕ) (made : Made) : Type 0 where
  pub drawn : AllByRecursion (λ n. has n lent ≡ true) (numbers_of made.tables ++ made.leavings)
  pub distinct : AreDistinct (numbers_of made.tables ++ made.leavings)

-- its tables are all that the merge makes
pub record AreOutputs (job : Job) (made : Made) : Type 0 where
  pub numbers : List ℕ
  pub tables : made.tables ≡ tables_made numbers (outputs job)
  pub enough : length numbers ≡ length (outputs job)
