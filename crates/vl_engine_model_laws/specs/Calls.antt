-- The calls that may change an engine's layout or its history, each with what is handed in, and the ruling on each. What
-- is so whatever is asked of an engine is said once, of any call.
use Rattle.std.specs.Prelude.{ℕ, List, Option}
use Rattle.vl_model.specs.History.{History}
use Rattle.vl_engine_model.specs.Jobs.{Made}
use Rattle.vl_engine_model.specs.Relocation.{Candidate, Pass}
use Rattle.vl_engine_model.specs.Ruling.{Ruling, StepAnswer}
use Rattle.vl_engine_model.specs.Rulings.Abandon.{abandon_ruling}
use Rattle.vl_engine_model.specs.Rulings.Begin.{BeginAnswer, begin_ruling}
use Rattle.vl_engine_model.specs.Rulings.Commit.{CommitAnswer, Transaction, commit_ruling}
use Rattle.vl_engine_model.specs.Rulings.Drain.{drain_ruling}
use Rattle.vl_engine_model.specs.Rulings.EndPass.{end_pass_ruling}
use Rattle.vl_engine_model.specs.Rulings.Flush.{flush_ruling}
use Rattle.vl_engine_model.specs.Rulings.Forget.{forget_ruling}
use Rattle.vl_engine_model.specs.Rulings.Fresh.{FreshAnswer, fresh_ruling}
use Rattle.vl_engine_model.specs.Rulings.Install.{InstallAnswer, install_ruling}
use Rattle.vl_engine_model.specs.Rulings.Keep.{KeepAnswer, keep_ruling}
use Rattle.vl_engine_model.specs.Rulings.Pick.{PickAnswer, pick_ruling}
use Rattle.vl_engine_model.specs.Rulings.Plan.{plan_ruling}
use Rattle.vl_engine_model.specs.Rulings.Release.{release_ruling}
use Rattle.vl_engine_model.specs.Rulings.Relocate.{MoveAnswer, relocate_ruling}
use Rattle.vl_engine_model.specs.Rulings.Rotate.{rotate_ruling}
use Rattle.vl_engine_model.specs.Rulings.Sweep.{SweepAnswer, sweep_ruling, sweep_to_ruling}
use Rattle.vl_engine_model.specs.Rulings.View.{View, view_ruling}
use Rattle.vl_engine_model.specs.declared.job.Job.{Job}
use Rattle.vl_engine_model.specs.declared.layout.Layout.{Layout}

pub data Call : Type 0 where
  Begin : Call
  -- of a view
  BeginView : Call
  Commit : Transaction → Call
  Forget : Transaction → Call
  Release : View → Call
  Rotate : Call
  Flush : Call
  Relocate : Pass → List Candidate → Call
  Plan : Call
  -- of a segment
  Drain : ℕ → Call
  Fresh : Call
  Abandon : Job → Made → Call
  Install : Job → Made → Call
  -- with a percentage
  Pick : ℕ → Call
  EndPass : Pass → Call
  Sweep : Call
  -- where others may still look at each version from this number on
  SweepTo : ℕ → Call
  -- so many versions of a key
  Keep : ℕ → Call

abbrev pub AnswerTo : Call → Type 0
AnswerTo Begin = BeginAnswer
AnswerTo BeginView = BeginAnswer
AnswerTo (Commit t) = CommitAnswer
AnswerTo (Forget t) = Unit {0}
AnswerTo (Release v) = Unit {0}
AnswerTo Rotate = StepAnswer
AnswerTo Flush = StepAnswer
AnswerTo (Relocate pass batch) = MoveAnswer
AnswerTo Plan = Option Job
AnswerTo (Drain segment) = Option Job
AnswerTo Fresh = FreshAnswer
AnswerTo (Abandon job made) = Unit {0}
AnswerTo (Install job made) = InstallAnswer
AnswerTo (Pick percent) = PickAnswer
AnswerTo (EndPass pass) = Unit {0}
AnswerTo Sweep = SweepAnswer
AnswerTo (SweepTo least) = SweepAnswer
AnswerTo (Keep v) = KeepAnswer

abbrev pub ruling_on : (call : Call) → Layout → History → Ruling (AnswerTo call)
ruling_on Begin l h = begin_ruling l h
ruling_on BeginView l h = view_ruling l h
ruling_on (Commit t) l h = commit_ruling l h t
ruling_on (Forget t) l h = forget_ruling l h t
ruling_on (Release v) l h = release_ruling l h v
ruling_on Rotate l h = rotate_ruling l h
ruling_on Flush l h = flush_ruling l h
ruling_on (Relocate pass batch) l h = relocate_ruling l h pass batch
ruling_on Plan l h = plan_ruling l h
ruling_on (Drain segment) l h = drain_ruling l h segment
ruling_on Fresh l h = fresh_ruling l h
ruling_on (Abandon job made) l h = abandon_ruling l h job made
ruling_on (Install job made) l h = install_ruling l h job made
ruling_on (Pick percent) l h = pick_ruling l h percent
ruling_on (EndPass pass) l h = end_pass_ruling l h pass
ruling_on Sweep l h = sweep_ruling l h
ruling_on (SweepTo least) l h = sweep_to_ruling l h least
ruling_on (Keep v) l h = keep_ruling l h v
