-- What a line makes of a state that plans a merge, whichever tables are chosen.
use Rattle.std.proofs.Common.{◌≡◌, ℕ, ◌+◌, refl}
use Rattle.vl_disk.specs.declared.name.Name.{Name as FileName}
use Rattle.vl_engine_model.specs.Rulings.Drain.{drain_ruling}
use Rattle.vl_engine_model.specs.Rulings.Plan.{plan_ruling}
use Rattle.vl_engine_model.specs.Store.Dispatch.{plan_as}
use Rattle.vl_engine_model.specs.Store.Lines.{Name}
use Rattle.vl_engine_model.specs.Store.Things.{Step, thing_of}
use Rattle.vl_replay_laws.specs.Choosing.{chosen, line_for}
use Rattle.vl_replay_laws.specs.Replaying.{state_by_plan}
use Rattle.vl_replay_laws.specs.declared.choice.Choice.{Choice}
use Rattle.vl_replay_laws.specs.declared.choice.Choice.TheVariants.{Due, LeadsInto}
use Rattle.vl_script_model.specs.Failing.{FailsAt, IsTableBetween}
use Rattle.vl_script_model.specs.Sequential.{State, counted, history_of, state_after, step_to}
use Rattle.vl_script_model.specs.laws.Growing.{plan_commits}

-- what it is told is counted
abbrev pub counted_step : Step → Step
counted_step x = record x { answer = counted x.answer }

pub step_for : (choice : Choice) (s : State) (name : Name)
    → step_to s (line_for choice name)
    ≡ counted_step (plan_as s.store name (chosen choice s.store.layout (history_of s)) (thing_of s.store name))
step_for Due s name = refl
step_for (LeadsInto segment) s name = refl

-- it makes a file by each of its calls
pub behind_for : (choice : Choice) (s : State) (name : Name)
    → state_after s (line_for choice name) ≡ state_by_plan s (step_to s (line_for choice name))
behind_for Due s name = refl
behind_for (LeadsInto segment) s name = refl

pub files_for : (choice : Choice) (s : State) (name : Name)
    → (state_after s (line_for choice name)).files ≡ s.files + (step_to s (line_for choice name)).calls
files_for Due s name = refl
files_for (LeadsInto segment) s name = refl

-- the commits stay
pub commits_for : (choice : Choice) (s : State) (name : Name) → (step_to s (line_for choice name)).state.commits ≡ s.store.commits
commits_for Due s name = plan_commits s.store name (plan_ruling s.store.layout (history_of s)) (thing_of s.store name)
commits_for (LeadsInto segment) s name =
    plan_commits s.store name (drain_ruling s.store.layout (history_of s) segment) (thing_of s.store name)

-- the disk fails it at a table that it makes
pub fails_for : (choice : Choice) (manifest : ℕ) (s : State) (name : Name) (file : FileName)
    → IsTableBetween s.store.layout.next_table (state_after s (line_for choice name)).store.layout.next_table file
    → FailsAt manifest (line_for choice name) s file
fails_for Due manifest s name file at = at
fails_for (LeadsInto segment) manifest s name file at = at
