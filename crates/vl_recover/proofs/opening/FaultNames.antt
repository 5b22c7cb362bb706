-- The name that is answered where the disk failed while it was only read.
use Rattle.std.proofs.Common.{◌≡◌, subst, sym}
use Rattle.std.specs.Prelude.{false, true, Result, Ok, Err, IfErr, IsErr, IsErrAnd}
use Rattle.vl_disk.specs.declared.name.Name.{Name}
use Rattle.vl_recover.specs.declared.fails.OpenError.{OpenError}
use Rattle.vl_recover.specs.declared.fails.OpenError.TheVariants as why
use Rattle.vl_recover.specs.opening.Finding.{IsFault, IsFaultOf}

false_true : false ≡ true → ⊥
false_true e = cc

-- what is so of a name is so of the answer
of_weaker : (P Q : Name → Type 0) → ((name : Name) → P name → Q name) → (e : OpenError) → IsFaultOf P e → IsFaultOf Q e
of_weaker P Q onto why.NotAStore at = tt
of_weaker P Q onto (why.NewerFormat format) at = tt
of_weaker P Q onto (why.Damaged name place) at = tt
of_weaker P Q onto (why.Exhausted counter) at = tt
of_weaker P Q onto why.NoMemory at = tt
of_weaker P Q onto (why.Disk name) at = onto name at

-- an answer that is handed on
pub handed_on : {A B : Type 0} (first : Result A OpenError) (e : OpenError) (result : Result B OpenError) (P Q : Name → Type 0)
    → first ≡ Err e → IsErr result → IsErrAnd result (λ f. f ≡ e) → ((name : Name) → P name → Q name)
    → IfErr first (IsFaultOf P) → IfErr result (IsFaultOf Q)
handed_on first e (Ok b) P Q is failed same onto at = absurd (false_true failed)
handed_on {A = A} first e (Err f) P Q is failed same onto at =
    subst (IsFaultOf Q) (sym same)
    (of_weaker P Q onto e (subst (λ (r : Result A OpenError). IfErr r (IsFaultOf P)) is at))

-- one that is no fault
pub no_fault_at : {A : Type 0} (result : Result A OpenError) (P : Name → Type 0) → (IsFault result → ⊥) → IfErr result (IsFaultOf P)
no_fault_at (Ok a) P none = tt
no_fault_at (Err why.NotAStore) P none = tt
no_fault_at (Err (why.NewerFormat format)) P none = tt
no_fault_at (Err (why.Damaged name place)) P none = tt
no_fault_at (Err (why.Exhausted counter)) P none = tt
no_fault_at (Err why.NoMemory) P none = tt
no_fault_at (Err (why.Disk name)) P none = absurd (none tt)
