-- What a line is answered where its name is in use, and what a text is, by its line.
use Rattle.std.proofs.Common.{◌≡◌, ◌∙◌, inl, inr, ap, sym, subst, refl, ℕ, List}
use Rattle.std.specs.Bool.{⊤}
use Rattle.std.specs.Prelude.{Option, None, Some, Result, Ok, Err, IfErr, IsErrAnd}
use Rattle.vl_disk.specs.declared.watched.Watched.{Ghosts}
use Rattle.vl_disk.specs.declared.writer.Writer.{Ghosts as Writers}
use Rattle.vl_replay.specs.AsCalled.{AnswersLine}
use Rattle.vl_replay.specs.declared.replayer.Served.{Served}
use Rattle.vl_replay_laws.specs.Passing.{name_made}
use Rattle.vl_replay_laws.specs.Standing.{keep_answer, step_answer, sweep_answer}
use Rattle.vl_replay_laws.specs.declared.passing.Passing.{Passing}
use Rattle.vl_script.specs.Script.{line_of}
use Rattle.vl_script.specs.declared.answer.Answer.{Answer}
use Rattle.vl_script.specs.declared.answer.Answer.TheVariants.{Idle}
use Rattle.vl_script.specs.declared.line.Line.{Line}
use Rattle.vl_script.specs.declared.line.Line.TheVariants as lines
use Rattle.vl_script_model.specs.Called.{Answering, HaltsAsLine}
use Rattle.vl_script_model.specs.Halts.{ReadsWell}
use Rattle.vl_script_model.specs.declared.fails.Halt.{Halt}
use Rattle.vl_script_model.specs.declared.fails.Halt.TheVariants.{NoMemory}
use Rattle.vl_space.specs.declared.fails.SweepFail.{SweepFail}
use Rattle.vl_space.specs.declared.fails.SweepFail.TheVariants as unswept
use Rattle.vl_steps.specs.declared.fails.KeepFail.{KeepFail}
use Rattle.vl_steps.specs.declared.fails.KeepFail.TheVariants as unkept
use Rattle.vl_steps.specs.declared.fails.StepFail.{StepFail}
use Rattle.vl_steps.specs.declared.fails.StepFail.TheVariants as undone
use Rattle.vl_version.specs.declared.base.Base.{Base}

module _ {D Held Reader Writer : Type 0} {watched : _} {held : _} {cloned : _} {read : _} {write : _} (g : Ghosts D)
    (bytes : Held → Option (List ℕ)) (faults : Reader → ℕ) (writers : Writers Writer)
    (old new : Served D Held Reader Writer watched held cloned read write)
    (passing : Option (Passing (Base Held Reader) Held)) (result : Result Answer Halt) (sound : ReadsWell result)
    (busy : result ≡ Ok Idle → ⊥) where
  -- A line that makes a name is answered so where it reads well, and isn't told that there is nothing to do.
  pub named_answers : (line : Line) → (name_made line ≡ None → ⊥) → AnswersLine g bytes faults writers old new passing line result
  named_answers (lines.Begin name) made = sound
  named_answers (lines.View name) made = sound
  named_answers (lines.Get name key) made = absurd (made refl)
  named_answers (lines.GetTagged name key) made = absurd (made refl)
  named_answers (lines.Scan name low high limit way) made = absurd (made refl)
  named_answers (lines.Set name key value) made = absurd (made refl)
  named_answers (lines.SetTagged name key value tag) made = absurd (made refl)
  named_answers (lines.Delete name key) made = absurd (made refl)
  named_answers (lines.Commit name) made = absurd (made refl)
  named_answers (lines.Drop name) made = absurd (made refl)
  named_answers lines.Rotate made = absurd (made refl)
  named_answers lines.Flush made = absurd (made refl)
  named_answers (lines.Keep versions) made = absurd (made refl)
  named_answers (lines.GetAt name key number) made = absurd (made refl)
  named_answers (lines.Plan name) made = (λ idle. absurd (busy idle), inl sound)
  named_answers (lines.Drain name segment) made = (λ idle. absurd (busy idle), inl sound)
  named_answers (lines.Install name) made = absurd (made refl)
  named_answers lines.Sweep made = absurd (made refl)
  named_answers lines.Stats made = absurd (made refl)
  named_answers (lines.Pick name percent) made = sound
  named_answers (lines.Batch name) made = absurd (made refl)
  named_answers (lines.Move name) made = absurd (made refl)

-- ---- what reads nothing

-- a step on files reads well
pub step_reads_well : (stepped : Result (Option ℕ) StepFail) (result : Result Answer Halt) → result ≡ step_answer stepped → ReadsWell result
step_reads_well stepped result is = subst (λ (r : Result Answer Halt). ReadsWell r) (sym is) (of stepped)
  where
    of : (s : Result (Option ℕ) StepFail) → ReadsWell (step_answer s)
    of (Ok (Some number)) = tt
    of (Ok None) = tt
    of (Err (undone.Exhausted counter)) = tt
    of (Err undone.NoMemory) = tt
    of (Err (undone.Disk name)) = tt
    of (Err (undone.Halted name)) = tt

-- so does a change of how many versions are kept,
pub keep_reads_well : (kept : Result ⊤ KeepFail) (result : Result Answer Halt) → result ≡ keep_answer kept → ReadsWell result
keep_reads_well kept result is = subst (λ (r : Result Answer Halt). ReadsWell r) (sym is) (of kept)
  where
    of : (k : Result ⊤ KeepFail) → ReadsWell (keep_answer k)
    of (Ok done) = tt
    of (Err unkept.InvalidRequest) = tt
    of (Err unkept.NoMemory) = tt
    of (Err (unkept.Disk name)) = tt
    of (Err (unkept.Halted name)) = tt

-- or a sweep
pub sweep_reads_well : (swept : Result ℕ SweepFail) (result : Result Answer Halt) → result ≡ sweep_answer swept → ReadsWell result
sweep_reads_well swept result is = subst (λ (r : Result Answer Halt). ReadsWell r) (sym is) (of swept)
  where
    of : (s : Result ℕ SweepFail) → ReadsWell (sweep_answer s)
    of (Ok count) = tt
    of (Err (unswept.Disk name)) = tt
    of (Err (unswept.Halted name)) = tt

-- ---- texts

module _ (of_line : Answering) (text : List ℕ) where
  -- memory ran out
  pub halted_out : {T : Type 0} (r : Result T Halt) → IsErrAnd r (λ halt. halt ≡ NoMemory) → IfErr r (HaltsAsLine of_line text)
  halted_out (Ok x) out = tt
  halted_out (Err halt) out = inl out

  -- or the line was halted so
  pub halted_line : {T : Type 0} (carried : Result Answer Halt) (r : Result T Halt) (why : Halt) → carried ≡ Err why
      → IsErrAnd r (λ halt. halt ≡ why) → (line : Line) → line_of text ≡ Some line → of_line line carried
      → IfErr r (HaltsAsLine of_line text)
  halted_line carried (Ok x) why was is line at called = tt
  halted_line carried (Err halt) why was is line at called =
      inr (line, at, subst (of_line line) (was ∙ ap Err (sym is)) called)
