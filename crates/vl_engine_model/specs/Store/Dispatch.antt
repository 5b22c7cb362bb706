-- Each line's step: what it is answered, and what it leaves.
use Rattle.std.specs.Prelude.{ℕ, ◌+◌, nat_le, if◌then◌else◌, List, [], ◌∷◌, ◌++◌, length, Option, Some, None}
use Rattle.vl_model.specs.Keys.{tagged, untagged}
use Rattle.vl_model.specs.declared.change.Change.TheVariants as change
use Rattle.vl_model.specs.declared.entry.Entry.{Entry}
use Rattle.vl_engine_model.specs.Jobs.{Made, tables_made, job_ended}
use Rattle.vl_engine_model.specs.Merging.{kept, outputs}
use Rattle.vl_engine_model.specs.Relocation.{Pass, Candidate, next_batch}
use Rattle.vl_engine_model.specs.Ruling.{Ruling, StepAnswer}
use Rattle.vl_engine_model.specs.Ruling as step
use Rattle.vl_engine_model.specs.Rulings.Abandon.{abandon_ruling}
use Rattle.vl_engine_model.specs.Rulings.Drain.{drain_ruling}
use Rattle.vl_engine_model.specs.Rulings.EndPass.{end_pass_ruling}
use Rattle.vl_engine_model.specs.Rulings.Flush.{flush_ruling}
use Rattle.vl_engine_model.specs.Rulings.Forget.{forget_ruling}
use Rattle.vl_engine_model.specs.Rulings.Fresh as fresh
use Rattle.vl_engine_model.specs.Rulings.Fresh.{FreshAnswer, fresh_ruling}
use Rattle.vl_engine_model.specs.Rulings.Install as install
use Rattle.vl_engine_model.specs.Rulings.Install.{InstallAnswer, install_ruling}
use Rattle.vl_engine_model.specs.Rulings.Keep as keep
use Rattle.vl_engine_model.specs.Rulings.Keep.{KeepAnswer, keep_ruling}
use Rattle.vl_engine_model.specs.Rulings.Pick as pick
use Rattle.vl_engine_model.specs.Rulings.Pick.{PickAnswer, pick_ruling}
use Rattle.vl_engine_model.specs.Rulings.Plan.{plan_ruling}
use Rattle.vl_engine_model.specs.Rulings.Release.{release_ruling}
use Rattle.vl_engine_model.specs.Rulings.Relocate as relocate
use Rattle.vl_engine_model.specs.Rulings.Relocate.{MoveAnswer, relocate_ruling}
use Rattle.vl_engine_model.specs.Rulings.Rotate.{rotate_ruling}
use Rattle.vl_engine_model.specs.Rulings.Stats.{stats_ruling}
use Rattle.vl_engine_model.specs.Rulings.Sweep as sweep
use Rattle.vl_engine_model.specs.Rulings.Sweep.{SweepAnswer, sweep_ruling}
use Rattle.vl_engine_model.specs.Start.{fresh_layout}
use Rattle.vl_engine_model.specs.Store.Commits.{history_in}
use Rattle.vl_engine_model.specs.Store.Lines.{Name, Line, Begin, View, Get, GetTagged, GetAt, Set, SetTagged, Delete, Scan}
use Rattle.vl_engine_model.specs.Store.Lines.{Commit, Drop, Rotate, Flush, Plan, Drain, Install, Pick, Batch, Move, Sweep}
use Rattle.vl_engine_model.specs.Store.Lines.{Stats, Keep, Answer, Done, Number, Taken, Unknown, Invalid, Full, Exhausted}
use Rattle.vl_engine_model.specs.Store.Lines.{Idle, Raced, Rejected, NoRewrite, Found, End, Moved, Removed, Segments}
use Rattle.vl_engine_model.specs.Store.Lines.{Halted}
use Rattle.vl_engine_model.specs.Store.Reading.{answer_of, answer_with_tag, a_transaction, a_view, begin_as, get_by}
use Rattle.vl_engine_model.specs.Store.Reading.{get_at_by, scan_by, write_by, commit_by}
use Rattle.vl_engine_model.specs.Store.Things.{Thing, ATransaction, AView, AJob, APass, State, Step, only, thing_of, with_thing, without_thing}
use Rattle.vl_engine_model.specs.declared.job.Job.{Job}
use Rattle.vl_engine_model.specs.declared.layout.Layout.{Layout}

-- ---- an end

abbrev pub ended_by : {A : Type 0} → State → Name → Ruling A → Step
ended_by s name r = record { answer = Done; state = without_thing s r.layout name; calls = r.calls }

abbrev pub drop_by : State → Name → Option Thing → Step
drop_by s name None = only (Unknown name) s
drop_by s name (Some (ATransaction t b)) = ended_by s name (forget_ruling s.layout (history_in s.commits) t)
drop_by s name (Some (AView v b)) = ended_by s name (release_ruling s.layout (history_in s.commits) v)
drop_by s name (Some (AJob job made)) = ended_by s name (abandon_ruling s.layout (history_in s.commits) job made)
drop_by s name (Some (APass pass batch)) = ended_by s name (end_pass_ruling s.layout (history_in s.commits) pass)

-- ---- rotate and flush

abbrev pub step_told : StepAnswer → Answer
step_told (step.Stepped n) = Number n
step_told step.Idle = Idle
step_told (step.Halted file) = Halted file
step_told (step.Exhausted c) = Exhausted c

abbrev pub step_by : State → Ruling StepAnswer → Step
step_by s r = record { answer = step_told r.answer; state = record s { layout = r.layout }; calls = r.calls }

-- ---- jobs

abbrev pub made_of : Job → List ℕ → Made
made_of job numbers = record { tables = tables_made numbers (outputs job); leavings = [] }

-- by what drawing a number answers; where it is refused the job ends, and its name is free
abbrev pub filled : State → Layout → Made → ℕ → Step → FreshAnswer → Step
filled s l made calls more (fresh.Drawn n) = more
filled s l made calls more (fresh.Halted file) = record
    { answer = Halted file; state = record s { layout = job_ended made l }; calls = calls }
filled s l made calls more (fresh.Exhausted c) = record
    { answer = Exhausted c; state = record s { layout = job_ended made l }; calls = calls }

-- a job draws a number for each table, and fills it
abbrev pub fill : State → Name → Job → Layout → List (List Entry) → List ℕ → ℕ → Step
fill s name job l [] numbers calls = record {
  answer = Number (length (kept job));
  state = with_thing s l name (AJob job (made_of job numbers));
  calls = calls;
}
fill s name job l (es ∷ output) numbers calls =
    filled s l (made_of job numbers) calls
    (fill s name job (fresh_ruling l (history_in s.commits)).layout output (numbers ++ l.next_table ∷ []) (calls + 1))
    (fresh_ruling l (history_in s.commits)).answer

abbrev pub planned_by : State → Name → Ruling (Option Job) → Option Job → Step
planned_by s name r None = only Idle s
planned_by s name r (Some job) = fill s name job r.layout (outputs job) [] 0

abbrev pub plan_as : State → Name → Ruling (Option Job) → Option Thing → Step
plan_as s name r (Some other) = only (Taken name) s
plan_as s name r None = planned_by s name r r.answer

abbrev pub install_told : InstallAnswer → Answer
install_told install.Installed = Done
install_told (install.Halted file) = Halted file
install_told (install.Raced key number) = Raced key
install_told (install.Exhausted c) = Exhausted c

-- the name is free again whatever it answers
abbrev pub install_by : State → Name → Option Thing → Step
install_by s name None = only (Unknown name) s
install_by s name (Some (ATransaction t b)) = only (Unknown name) s
install_by s name (Some (AView v b)) = only (Unknown name) s
install_by s name (Some (APass pass batch)) = only (Unknown name) s
install_by s name (Some (AJob job made)) =
    let r = install_ruling s.layout (history_in s.commits) job made in
    record { answer = install_told r.answer; state = without_thing s r.layout name; calls = r.calls }

-- ---- passes

abbrev pub picked_by : State → Name → Ruling PickAnswer → PickAnswer → Step
picked_by s name r (pick.Picked pass) =
    record { answer = Number pass.segment; state = with_thing s r.layout name (APass pass None); calls = r.calls }
picked_by s name r pick.InvalidRequest = only Invalid s
picked_by s name r (pick.Rejected segment) = only (Rejected segment) s
picked_by s name r pick.NoRewrite = only NoRewrite s

abbrev pub pick_as : State → Name → ℕ → Option Thing → Step
pick_as s name percent (Some other) = only (Taken name) s
pick_as s name percent None =
    let r = pick_ruling s.layout (history_in s.commits) percent in picked_by s name r r.answer

abbrev pub found_by : State → Name → Option (List Candidate) × Pass → Option (List Candidate) → Step
found_by s name next None =
    record { answer = End; state = with_thing s s.layout name (APass next.1 None); calls = 0 }
found_by s name next (Some batch) =
    record { answer = Found (length batch); state = with_thing s s.layout name (APass next.1 (Some batch)); calls = 0 }

abbrev pub batch_by : State → Name → Option Thing → Step
batch_by s name None = only (Unknown name) s
batch_by s name (Some (ATransaction t b)) = only (Unknown name) s
batch_by s name (Some (AView v b)) = only (Unknown name) s
batch_by s name (Some (AJob job made)) = only (Unknown name) s
batch_by s name (Some (APass pass (Some batch))) = only (Taken name) s
batch_by s name (Some (APass pass None)) = let next = next_batch pass in found_by s name next next.0

-- a batch that was refused waits on
abbrev pub moved_by : State → Name → Pass → Ruling MoveAnswer → MoveAnswer → Step
moved_by s name pass r (relocate.Moves n) =
    record { answer = Moved n; state = with_thing s r.layout name (APass pass None); calls = r.calls }
moved_by s name pass r (relocate.Halted file) = only (Halted file) s
moved_by s name pass r (relocate.Exhausted c) = only (Exhausted c) s
moved_by s name pass r (relocate.Full length frame) = only (Full length frame) s

abbrev pub move_by : State → Name → Option Thing → Step
move_by s name None = only (Unknown name) s
move_by s name (Some (ATransaction t b)) = only (Unknown name) s
move_by s name (Some (AView v b)) = only (Unknown name) s
move_by s name (Some (AJob job made)) = only (Unknown name) s
move_by s name (Some (APass pass None)) = only Idle s
move_by s name (Some (APass pass (Some batch))) =
    let r = relocate_ruling s.layout (history_in s.commits) pass batch in moved_by s name pass r r.answer

-- ---- removal, and how many versions are kept

abbrev pub sweep_told : SweepAnswer → Answer
sweep_told (sweep.Removed count) = Removed count
sweep_told (sweep.Halted file) = Halted file

abbrev pub sweep_by : State → Ruling SweepAnswer → Step
sweep_by s r = record { answer = sweep_told r.answer; state = record s { layout = r.layout }; calls = r.calls }

abbrev pub keep_told : KeepAnswer → Answer
keep_told keep.Kept = Done
keep_told (keep.Halted file) = Halted file
keep_told keep.InvalidRequest = Invalid

abbrev pub keep_by : State → Ruling KeepAnswer → Step
keep_by s r = record { answer = keep_told r.answer; state = record s { layout = r.layout }; calls = r.calls }

-- ---- all lines

abbrev pub step_of : State → Line → Step
step_of s (Begin name) = begin_as s name a_transaction (thing_of s name)
step_of s (View name) = begin_as s name a_view (thing_of s name)
step_of s (Get name key) = get_by s name answer_of key (thing_of s name)
step_of s (GetTagged name key) = get_by s name answer_with_tag key (thing_of s name)
step_of s (GetAt name key n) = get_at_by s name key n (thing_of s name)
step_of s (Set name key value) = write_by s name key (change.Set (untagged value)) (thing_of s name)
step_of s (SetTagged name key value tag) = write_by s name key (change.Set (tagged value tag)) (thing_of s name)
step_of s (Delete name key) = write_by s name key change.Delete (thing_of s name)
step_of s (Scan way name low high limit) = scan_by s way name low high limit (thing_of s name)
step_of s (Commit name) = commit_by s name (thing_of s name)
step_of s (Drop name) = drop_by s name (thing_of s name)
step_of s Rotate = step_by s (rotate_ruling s.layout (history_in s.commits))
step_of s Flush = step_by s (flush_ruling s.layout (history_in s.commits))
step_of s (Plan name) = plan_as s name (plan_ruling s.layout (history_in s.commits)) (thing_of s name)
step_of s (Drain name segment) = plan_as s name (drain_ruling s.layout (history_in s.commits) segment) (thing_of s name)
step_of s (Install name) = install_by s name (thing_of s name)
step_of s (Pick name percent) = pick_as s name percent (thing_of s name)
step_of s (Batch name) = batch_by s name (thing_of s name)
step_of s (Move name) = move_by s name (thing_of s name)
step_of s Sweep = sweep_by s (sweep_ruling s.layout (history_in s.commits))
step_of s Stats = only (Segments (stats_ruling s.layout (history_in s.commits)).answer) s
step_of s (Keep v) = keep_by s (keep_ruling s.layout (history_in s.commits) v)

abbrev pub answer_to : State → Line → Answer
answer_to s line = (step_of s line).answer

abbrev pub state_after : State → Line → State
state_after s line = (step_of s line).state

-- ---- a script

-- a new store with this room
abbrev pub new_store : ℕ → State
new_store room = record { commits = record { first = 0; base = []; commits = [] }; layout = fresh_layout room; things = [] }

abbrev pub answers : State → List Line → List Answer
answers s [] = []
answers s (line ∷ lines) = (step_of s line).answer ∷ answers (step_of s line).state lines

abbrev pub state_behind : State → List Line → State
state_behind s [] = s
state_behind s (line ∷ lines) = state_behind (step_of s line).state lines

-- how many calls of each line change files
abbrev pub calls_of : State → List Line → List ℕ
calls_of s [] = []
calls_of s (line ∷ lines) = (step_of s line).calls ∷ calls_of (step_of s line).state lines

-- the answers before the line whose calls pass a stop, where so many calls were made before
abbrev pub answers_until : ℕ → ℕ → State → List Line → List Answer
answers_until stop calls s [] = []
answers_until stop calls s (line ∷ lines) =
    if nat_le (calls + (step_of s line).calls) stop
    then (step_of s line).answer ∷ answers_until stop (calls + (step_of s line).calls) (step_of s line).state lines
    else []
