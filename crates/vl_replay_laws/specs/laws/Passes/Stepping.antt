-- What a step on files leaves where it is answered.
use Rattle.std.proofs.Common.{ℕ, List, refl}
use Rattle.std.specs.Prelude.{Option, None, Some, Result, Ok, Err, OnOk}
use Rattle.vl_engine_laws.specs.Lasts.{Lasts}
use Rattle.vl_engine_laws.specs.declared.kept.Core.{Core}
use Rattle.vl_space.specs.Collecting.{Collects}
use Rattle.vl_steps.specs.Stepping.{step_outcome}
use Rattle.vl_space.specs.declared.kept.Collecting.{Collecting}
use Rattle.vl_steps.specs.declared.fails.StepFail.{StepFail}
use Rattle.vl_steps.specs.declared.fails.StepFail.TheVariants as undone
use Rattle.vl_engine_model.specs.Decides.{Decides, Effects, Otherwise}
use Rattle.vl_engine_model.specs.Ruling.{Ruling, StepAnswer}
use Rattle.vl_engine_model.specs.Ruling as rulings
use Rattle.vl_engine_model.specs.Store.Things as things
use Rattle.vl_engine_model.specs.Store.Things.{Step}
use Rattle.vl_engine_model.specs.declared.layout.Layout.{Layout}
use Rattle.vl_model.specs.History.{History}
use Rattle.vl_seglog.specs.declared.sealed.SealedLog.{SealedLog}
use Rattle.vl_version.specs.declared.base.Base.{Base}
use Rattle.vl_replay_laws.specs.Passing.{Passes}
use Rattle.vl_replay_laws.specs.Standing.{step_answer}
use Rattle.vl_script_model.specs.declared.fails.Halt.{Halt}
use Rattle.vl_replay_laws.specs.declared.passing.Passing.{Passing}
use Rattle.vl_script.specs.declared.answer.Answer.{Answer}
use Rattle.vl_replay_laws.specs.laws.Merges.Keeping.{KeepsPasses}
use Rattle.vl_replay_laws.specs.laws.Passes.Standing.{passes_on}

module _ (leaves : History → Layout → Type 0) (h : History) (l : Layout) (r : Ruling StepAnswer) (otherwise : Otherwise)
    (effects : Effects) where
  pub step_leaves : (result : Result (Option ℕ) StepFail) → Decides leaves h l r otherwise (step_outcome result) effects
      → OnOk (step_answer result) (leaves r.history r.layout)
  step_leaves (Ok (Some number)) decides = (decides.answered (rulings.Stepped number) refl).1
  step_leaves (Ok None) decides = (decides.answered rulings.Idle refl).1
  step_leaves (Err (undone.Exhausted c)) decides = (decides.answered (rulings.Exhausted c) refl).1
  step_leaves (Err undone.NoMemory) decides = tt
  step_leaves (Err (undone.Disk name)) decides = tt
  step_leaves (Err (undone.Halted name)) decides = tt

-- An open pass goes on behind it.
module _ {H R : Type 0} (bytes : H → Option (List ℕ)) (before after : Core H) (old new : Collecting)
    (passing : Option (Passing (Base H R) H)) (s : things.State) (x : Step) where
  pub passes_stepped : (result : Result Answer Halt) → KeepsPasses s x
      → ((log : SealedLog H) → Lasts bytes log s.layout → Lasts bytes log x.state.layout)
      → OnOk result (Collects after new x.state.layout) → Passes bytes before old passing s.things s.layout
      → OnOk result (Passes bytes after new passing x.state.things x.state.layout)
  passes_stepped (Ok answer) keeps lasts collects passes = passes_on bytes before after old new passing s x keeps lasts collects passes
  passes_stepped (Err halt) keeps lasts collects passes = tt
