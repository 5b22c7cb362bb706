-- What is said of None, where nothing else is left.
use Rattle.std.proofs.Common.{◌≡◌, refl}
use Rattle.std.specs.Prelude.{Option, Some, None, IfNone}

pub at_none : {A : Type 0} (o : Option A) (P : Type 0) → ((x : A) → o ≡ Some x → ⊥) → IfNone o P → P
at_none None P other p = p
at_none (Some x) P other p = absurd (other x refl)
