-- The next table of a merge gets its number and its file, which the worker then fills.
use Rattle.std.specs.Prelude.{ℕ, ◌+◌, if◌then◌else◌, [], ◌∷◌, ◌++◌, Option, Some, None}
use Rattle.vl_model.specs.History.{History}
use Rattle.vl_model.specs.declared.counter.Counter.{Counter}
use Rattle.vl_model.specs.declared.counter.Counter.TheVariants as counter
use Rattle.vl_engine_model.specs.Ruling.{Ruling, leaving, has_no_number}
use Rattle.vl_engine_model.specs.declared.file_name.FileName.{FileName}
use Rattle.vl_engine_model.specs.declared.job.OpenJob.{OpenJob}
use Rattle.vl_engine_model.specs.declared.layout.Layout.{Layout}

pub data FreshAnswer : Type 0 where
  -- the table's number
  Drawn : ℕ → FreshAnswer
  Halted : FileName → FreshAnswer
  Exhausted : Counter → FreshAnswer

abbrev pub lent_to : ℕ → Option OpenJob → Option OpenJob
lent_to number None = None
lent_to number (Some job) = Some (record job { lent = job.lent ++ number ∷ [] })

abbrev pub drawn : Layout → Layout
drawn l = record l { next_table = l.next_table + 1; job = lent_to l.next_table l.job }

abbrev pub fresh_unless : Option FileName → Layout → History → Ruling FreshAnswer
fresh_unless (Some name) l h = leaving (Halted name) h l
fresh_unless None l h =
    if has_no_number l.next_table 1 then leaving (Exhausted counter.Table) h l
    else record { answer = Drawn l.next_table; history = h; layout = drawn l; calls = 1; gone = [] }

-- for the open job
abbrev pub fresh_ruling : Layout → History → Ruling FreshAnswer
fresh_ruling l h = fresh_unless l.halted l h
