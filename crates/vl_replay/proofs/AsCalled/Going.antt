-- A batch is answered what its pass gave, and a move what it came to.
use Rattle.std.proofs.Common.{◌≡◌, ◌∙◌, inl, inr, ap, sym, subst, refl, ⊎_elim, ℕ, Bool, true, List}
use Rattle.std.specs.Prelude.{Option, None, Some, Result, Ok, Err, IsErr, IsErrAnd, is_some}
use Rattle.std.specs.Str.{bytes_eq}
use Rattle.vl_collect.specs.Faults.{Counts, FailsPassing, IsOfLog, IsOfLooks, IsTheirs, LacksMemory}
use Rattle.vl_disk.specs.declared.read_fault.ReadFault.{ReadFault}
use Rattle.vl_disk.specs.declared.watched.Watched.{Ghosts}
use Rattle.vl_engine_model.specs.Relocation.{Candidate}
use Rattle.vl_engine_model.specs.Store.Lines.{Name}
use Rattle.vl_replay_laws.specs.declared.passing.Passing.{Passing}
use Rattle.vl_script.specs.declared.answer.Answer.{Answer}
use Rattle.vl_script_model.specs.declared.fails.Halt.{Halt}
use Rattle.vl_script_model.specs.declared.fails.Halt.TheVariants.{NoMemory}
use Rattle.vl_steps.specs.Relocating.{At}
use Rattle.vl_table.specs.declared.block_reader.BlockReader.{BlockReader}
use Rattle.vl_version.specs.declared.base.Base.{Base}
use Rattle.vl_replay.specs.AsCalled.{AnswersBatch, AnswersBatchOf, AnswersMove, AnswersMoveOf}

-- what fails for want of memory is answered so
pub out_of_memory : {T : Type 0} (r : Result T Halt) → IsErr r → IsErrAnd r (λ halt. halt ≡ NoMemory) → r ≡ Err NoMemory
out_of_memory (Ok x) err out = cc
out_of_memory (Err halt) err out = ap Err out

-- where nothing is said of them
abbrev pub no_counts : Counts
no_counts = record { sources_before = 0; sources_after = 0; files_before = 0; files_after = 0 }

pub some_of : {X : Type 0} (o : Option X) → is_some o ≡ true → (x : X) × (o ≡ Some x)
some_of None is = absurd cc
some_of (Some x) is = (x, refl)

-- what fails by a fault that there may be fails by one that there may be otherwise
pub passing_weaker : (is_read : ReadFault → Bool) (may other : ReadFault → Type 0) → ((f : ReadFault) → may f → other f)
    → (number : ℕ) (bad : ℕ → Type 0) (c : Counts) (fault : ReadFault)
    → FailsPassing is_read may number bad c fault → FailsPassing is_read other number bad c fault
passing_weaker is_read may other weaker number bad c fault fails = ⊎_elim
    (λ (of : IsOfLooks is_read may c fault). inl (record {
      fails = ⊎_elim
          (λ (lacks : LacksMemory c.sources_before c.sources_after fault). inl lacks)
          (λ (theirs : IsTheirs is_read may c.sources_before c.sources_after fault). inr (record {
            told = theirs.told;
            is = theirs.is;
            had = weaker theirs.told theirs.had;
            counted = theirs.counted;
          })) of.fails;
      steady = of.steady;
    }))
    (λ (of : IsOfLog number bad c fault). inr of)
    fails

module _ {H R : Type 0} (bytes : H → Option (List ℕ)) (passing : Option (Passing (Base H R) H)) (going : Passing (Base H R) H)
    (is : passing ≡ Some going) (name : Name) (named : Bool) (test : bytes_eq name going.name ≡ named)
    (waiting : Option (List Candidate)) (waits : going.batch ≡ waiting) (result : Result Answer Halt) where
  pub batch_answered : AnswersBatchOf bytes named waiting going.pass name result → AnswersBatch bytes passing name result
  batch_answered answered =
      subst (λ (p : Option (Passing (Base H R) H)). AnswersBatch bytes p name result) (sym is)
      (subst (λ (b : Bool). AnswersBatchOf bytes b going.batch going.pass name result) (sym test)
      (subst (λ (w : Option (List Candidate)). AnswersBatchOf bytes named w going.pass name result) (sym waits) answered))

  pub move_answered : {D : Type 0} (g : Ghosts D) (faults : R → ℕ) (old new : BlockReader R → At D H R)
      → AnswersMoveOf g bytes named waiting faults old new going.pass.log.number name result
      → AnswersMove g bytes passing faults old new name result
  move_answered g faults old new answered =
      subst (λ (p : Option (Passing (Base H R) H)). AnswersMove g bytes p faults old new name result) (sym is)
      (subst (λ (b : Bool). AnswersMoveOf g bytes b going.batch faults old new going.pass.log.number name result) (sym test)
      (subst (λ (w : Option (List Candidate)). AnswersMoveOf g bytes named w faults old new going.pass.log.number name result) (sym waits)
      answered))
