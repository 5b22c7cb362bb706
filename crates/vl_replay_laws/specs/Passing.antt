-- The pass that is open: what a script's state has of it, and what its lines come to.
use Rattle.std.specs.Prelude.{◌≡◌, ℕ, List, Option, None, Some, Result, Ok, Err, is_some, true}
use Rattle.std.specs.Option.{ForSome}
use Rattle.vl_collect.specs.Passing.{IsWholeFrom}
use Rattle.vl_disk.specs.declared.read_fault.ReadFault.{ReadFault}
use Rattle.vl_disk.specs.declared.read_fault.ReadFault.TheVariants as faults
use Rattle.vl_collect.specs.declared.pass.Pass.{Pass as ThePass}
use Rattle.vl_engine_laws.specs.MoveFacts.{AreThere}
use Rattle.vl_engine_laws.specs.Lasts.{Lasts}
use Rattle.vl_engine_laws.specs.declared.kept.Core.{Core}
use Rattle.vl_space.specs.Collecting.{Collects, FitsLooks, GoesOver, passed_in}
use Rattle.vl_steps.specs.declared.fails.MoveFail.{MoveFail}
use Rattle.vl_steps.specs.declared.fails.MoveFail.TheVariants as unmoved
use Rattle.vl_space.specs.declared.fails.PickFail.{PickFail}
use Rattle.vl_space.specs.declared.fails.PickFail.TheVariants as unpicked
use Rattle.vl_space.specs.declared.kept.Collecting.{Collecting}
use Rattle.vl_engine_model.specs.Relocation.{Candidate, Pass}
use Rattle.vl_engine_model.specs.Store.Lines.{Name}
use Rattle.vl_engine_model.specs.Store.Things as things
use Rattle.vl_engine_model.specs.Store.Things.{APass, Thing, thing_in, thing_of}
use Rattle.vl_engine_model.specs.declared.layout.Layout.{Layout}
use Rattle.vl_script_model.specs.Sequential.{State}
use Rattle.vl_script_model.specs.declared.fails.Halt.{Halt}
use Rattle.vl_script_model.specs.declared.fails.Halt.TheVariants as halts
use Rattle.vl_replay_laws.specs.declared.passing.Passing.{Passing}
use Rattle.vl_script.specs.declared.answer.Answer.{Answer}
use Rattle.vl_script.specs.declared.answer.Answer.TheVariants as answers
use Rattle.vl_script.specs.declared.line.Line.{Line}
use Rattle.vl_script.specs.declared.line.Line.TheVariants as lines
use Rattle.vl_version.specs.declared.base.Base.{Base}

-- ---- names

-- the name that a line lets stand for something
abbrev pub name_made : Line → Option Name
name_made (lines.Begin name) = Some name
name_made (lines.View name) = Some name
name_made (lines.Plan name) = Some name
name_made (lines.Drain name segment) = Some name
name_made (lines.Pick name percent) = Some name
name_made line = None

-- where that name stands for something already it was told, and else none
abbrev pub TellsUsed : State → Line → Option Name → Type 0
TellsUsed s line None = (name : Name) → name_made line ≡ Some name → thing_of s.store name ≡ None
TellsUsed s line (Some name) = (name_made line ≡ Some name) × (is_some (thing_of s.store name) ≡ true)

-- the name stands for no pass
abbrev pub NamesNoPass : Name → State → Type 0
NamesNoPass name s = (pass : Pass) (batch : Option (List Candidate)) → thing_in s.store.things name ≡ Some (APass pass batch) → ⊥

-- ---- the pass that is open

-- It is the open one, and goes over what the layout's does. Its name stands for it in the state, with the batch that waits, and no
-- other name stands for a pass. Where the layout has its log yet it is the same log, whose frames reach to its end; and where the
-- records of the batch were found nothing but their values stands.
pub record IsPassing {H R : Type 0} (bytes : H → Option (List ℕ)) (passing : Passing (Base H R) H) (ts : List (Name × Thing))
    (l : Layout) : Type 0 where
  pub pass : Pass
  pub is_open : passed_in l ≡ Some pass.segment
  pub goes : GoesOver bytes passing.pass pass
  pub looks : FitsLooks bytes passing.pass
  pub there : thing_in ts passing.name ≡ Some (APass pass passing.batch)
  pub only : (name : Name) (p : Pass) (batch : Option (List Candidate)) → thing_in ts name ≡ Some (APass p batch) → name ≡ passing.name
  pub lasts : Lasts bytes passing.pass.log l
  pub whole : IsWholeFrom bytes passing.pass.log passing.pass.at.place
  pub batch : ForSome passing.batch (AreThere bytes passing.pass.log)

-- so it is with the one that is open; and where none is, the layout has none, and no name stands for one
abbrev pub IsOpenPass : {H R : Type 0} → (H → Option (List ℕ)) → Option (Passing (Base H R) H) → List (Name × Thing) → Layout → Type 0
IsOpenPass bytes None ts l =
    (l.pass ≡ None) × ((name : Name) (p : Pass) (batch : Option (List Candidate)) → thing_in ts name ≡ Some (APass p batch) → ⊥)
IsOpenPass bytes (Some passing) ts l = IsPassing bytes passing ts l

-- What the engine keeps of where space comes back from is the layout's, and so is the open pass.
pub record Passes {H R : Type 0} (bytes : H → Option (List ℕ)) (core : Core H) (collecting : Collecting)
    (passing : Option (Passing (Base H R) H)) (ts : List (Name × Thing)) (l : Layout) : Type 0 where
  pub collects : Collects core collecting l
  pub is_open : IsOpenPass bytes passing ts l

-- so it is in this state of the store
abbrev pub PassesIn : {H R : Type 0} → (H → Option (List ℕ)) → Core H → Collecting → Option (Passing (Base H R) H) → things.State → Type 0
PassesIn bytes core collecting passing store = Passes bytes core collecting passing store.things store.layout

-- The open pass was taken out where it has this name, and else it stays.
abbrev pub TakesPass : {V H : Type 0} → Name → (old new : Option (Passing V H)) → Option (ThePass V H) → Type 0
TakesPass name None new result = (new ≡ None) × (result ≡ None)
TakesPass name (Some passing) new None = (new ≡ Some passing) × (passing.name ≡ name → ⊥)
TakesPass name (Some passing) new (Some pass) = (new ≡ None) × (passing.name ≡ name) × (pass ≡ passing.pass)

-- ---- what its lines are told

abbrev pub pick_answer : {V H : Type 0} → Result (ThePass V H) PickFail → Result Answer Halt
pick_answer (Ok pass) = Ok (answers.Number pass.log.number)
pick_answer (Err unpicked.InvalidRequest) = Ok answers.Invalid
pick_answer (Err (unpicked.Rejected segment)) = Ok (answers.Rejected segment)
pick_answer (Err unpicked.NoRewrite) = Ok answers.NoRewrite
pick_answer (Err unpicked.NoMemory) = Err halts.NoMemory

-- whose reading failed
abbrev pub halt_at : ReadFault → Halt
halt_at faults.NoMemory = halts.NoMemory
halt_at (faults.Disk name) = halts.Read name
halt_at (faults.Damaged name place) = halts.Damaged name place

-- An engine is halted only behind a fault, at which its replayer halts too.
abbrev pub move_answer : Result ℕ MoveFail → Result Answer Halt
move_answer (Ok count) = Ok (answers.Moved count)
move_answer (Err (unmoved.Halted name)) = Err (halts.Halted name)
move_answer (Err (unmoved.Exhausted batch counter)) = Ok (answers.Exhausted counter)
move_answer (Err (unmoved.Full batch length frame)) = Ok answers.Full
move_answer (Err (unmoved.NoMemory batch)) = Err halts.NoMemory
move_answer (Err (unmoved.Disk name)) = Err (halts.Disk name)
move_answer (Err (unmoved.Read name)) = Err (halts.Read name)
move_answer (Err (unmoved.Damaged batch name place)) = Err (halts.Damaged name place)
