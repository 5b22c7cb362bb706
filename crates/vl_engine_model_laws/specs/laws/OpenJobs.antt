-- What an open job asks of the sources that it is put into later.
use Rattle.std.specs.Prelude.{ℕ, Bool, true, false, not, List, [], ◌∷◌}
use Rattle.vl_model.specs.declared.entry.Entry.{Entry}
use Rattle.vl_engine_model.specs.Merging.{Sourced, inputs_of, outside_of, is_dropped}
use Rattle.vl_engine_model.specs.declared.job.Job.{Job}
use Rattle.vl_engine_model.specs.Marks.{Marked}
use Rattle.vl_engine_model.specs.OpenJobs.{Preceded, preceded}

-- ---- what the job drops of the sources of a moment

-- whether the plan drops the entry at a place
abbrev pub drops_at : ℕ → List Entry → List Entry → ℕ → Preceded → Bool
drops_at keep inputs outside floor p = is_dropped keep inputs outside floor p.newer p.entry

abbrev pub head_mark : ℕ → List Entry → List Entry → ℕ → Bool → List Preceded → Entry → Marked
head_mark keep inputs outside floor true (p ∷ ps) e =
    record { input = true; kept = not (drops_at keep inputs outside floor p); entry = e }
head_mark keep inputs outside floor true [] e = record { input = true; kept = true; entry = e }
head_mark keep inputs outside floor false ps e = record { input = false; kept = true; entry = e }

abbrev pub rest_preceded : Bool → List Preceded → List Preceded
rest_preceded true (p ∷ ps) = ps
rest_preceded true [] = []
rest_preceded false ps = ps

-- the sources of a moment by the plan's marks: of each input's entry that of its place then
abbrev pub marked_by : ℕ → List Entry → List Entry → ℕ → List Preceded → List Sourced → List Marked
marked_by keep inputs outside floor ps [] = []
marked_by keep inputs outside floor ps (s ∷ ss) =
    head_mark keep inputs outside floor s.0 ps s.1 ∷ marked_by keep inputs outside floor (rest_preceded s.0 ps) ss

-- the marks of a job's plan over the sources of a moment
abbrev pub marks_now : Job → List Sourced → List Marked
marks_now job now =
    marked_by job.keep (inputs_of job.base) (outside_of job.base) job.floor (preceded [] job.base) now
