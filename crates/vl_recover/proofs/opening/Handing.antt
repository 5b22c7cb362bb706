-- What a stage refuses, handed on.
use Rattle.std.proofs.Common.{◌≡◌, subst, sym}
use Rattle.std.specs.Prelude.{false, true, Result, Ok, Err, IsErr, IsErrAnd}
use Rattle.vl_recover.specs.declared.fails.OpenError.{OpenError}
use Rattle.vl_recover.specs.declared.fails.OpenError.TheVariants as why
use Rattle.vl_recover.specs.opening.Leading.{AnswersStage}
use Rattle.vl_recover.specs.opening.OpenedTables.{AnswersAs}
use Rattle.vl_recover.specs.opening.Opening.{Damaged, NewerFormat, NotAStore, Refusal}

false_true : false ≡ true → ⊥
false_true e = cc

-- the refusal of a stage is that of another
pub of_stage : {A B : Type 0} (first : Result A Refusal → Type 0) (second : Result B Refusal → Type 0)
    → ((why : Refusal) → first (Err why) → second (Err why)) → (e : OpenError) → AnswersStage first (Err e) → AnswersStage second (Err e)
of_stage first second onto why.NotAStore is = onto NotAStore is
of_stage first second onto (why.NewerFormat format) is = onto (NewerFormat format) is
of_stage first second onto (why.Damaged name place) is = onto (Damaged name place) is
of_stage first second onto (why.Exhausted counter) is = absurd is
of_stage first second onto why.NoMemory is = tt
of_stage first second onto (why.Disk name) is = tt

-- the answer is that refusal
pub as_handed : {T A : Type 0} (f : T → A) (stage : Result A Refusal → Type 0) (result : Result T OpenError) (e : OpenError)
    → IsErr result → IsErrAnd result (λ g. g ≡ e) → AnswersStage stage (Err e) → AnswersAs f stage result
as_handed f stage (Ok x) e failed same is = absurd (false_true failed)
as_handed f stage (Err g) e failed same is = subst (λ (x : OpenError). AnswersStage stage (Err x)) (sym same) is

-- where memory ran out
pub room_handed : {T A : Type 0} (f : T → A) (stage : Result A Refusal → Type 0) (result : Result T OpenError)
    → IsErr result → IsErrAnd result (λ g. g ≡ why.NoMemory) → AnswersAs f stage result
room_handed f stage result failed same = as_handed f stage result why.NoMemory failed same tt
