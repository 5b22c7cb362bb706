-- What the names of a script stand for.
use Rattle.std.specs.Prelude.{ℕ, if◌then◌else◌, List, [], ◌∷◌, Option, Some, None, not}
use Rattle.std.specs.List.{filter}
use Rattle.std.specs.Ordering.{eq_by_cmp}
use Rattle.vl_model.specs.Keys.{key_cmp}
use Rattle.vl_engine_model.specs.AtAnswer.{Beginning}
use Rattle.vl_engine_model.specs.Jobs.{Made}
use Rattle.vl_engine_model.specs.Relocation.{Pass, Candidate}
use Rattle.vl_engine_model.specs.Rulings.Commit.{Transaction}
use Rattle.vl_engine_model.specs.Rulings.View.{View}
use Rattle.vl_engine_model.specs.Store.Commits.{Commits}
use Rattle.vl_engine_model.specs.Store.Lines.{Name, Answer}
use Rattle.vl_engine_model.specs.declared.job.Job.{Job}
use Rattle.vl_engine_model.specs.declared.layout.Layout.{Layout}

pub data Thing : Type 0 where
  ATransaction : Transaction → Beginning → Thing
  AView : View → Beginning → Thing
  AJob : Job → Made → Thing
  -- with the batch that waits
  APass : Pass → Option (List Candidate) → Thing

pub record State : Type 0 where
  pub commits : Commits
  pub layout : Layout
  pub things : List (Name × Thing)

-- a line's answer, the state that it leaves, and how many of its calls change files
pub record Step : Type 0 where
  pub answer : Answer
  pub state : State
  pub calls : ℕ

-- a line that changes nothing
abbrev pub only : Answer → State → Step
only answer s = record { answer = answer; state = s; calls = 0 }

abbrev pub thing_in : List (Name × Thing) → Name → Option Thing
thing_in [] name = None
thing_in (t ∷ ts) name = if eq_by_cmp key_cmp name t.0 then Some t.1 else thing_in ts name

abbrev pub thing_of : State → Name → Option Thing
thing_of s name = thing_in s.things name

-- without the name, which is free again
abbrev pub without_name : Name → List (Name × Thing) → List (Name × Thing)
without_name name ts = filter (λ (t : Name × Thing). not (eq_by_cmp key_cmp name t.0)) ts

abbrev pub named : Name → Thing → List (Name × Thing) → List (Name × Thing)
named name thing ts = (name, thing) ∷ without_name name ts

-- over another layout, with a name that stands for this
abbrev pub with_thing : State → Layout → Name → Thing → State
with_thing s l name thing = record s { layout = l; things = named name thing s.things }

-- over another layout, without a name
abbrev pub without_thing : State → Layout → Name → State
without_thing s l name = record s { layout = l; things = without_name name s.things }
