-- What holds of a result that is handed on.
use Rattle.std.specs.Prelude.{◌≡◌, true, false, Option, None, Some, Result, Ok, Err, IfOk, IfNone}

pub none_weaker : {T E : Type 0} (r : Result (Option T) E) (P Q : Type 0) → (P → Q) → IfOk r (λ read. IfNone read P)
    → IfOk r (λ read. IfNone read Q)
none_weaker (Ok None) P Q f p = f p
none_weaker (Ok (Some x)) P Q f p = tt
none_weaker (Err e) P Q f p = tt

pub if_none_weaker : {T : Type 0} (o : Option T) (P Q : Type 0) → (P → Q) → IfNone o P → IfNone o Q
if_none_weaker None P Q f p = f p
if_none_weaker (Some x) P Q f p = tt

pub true_false : true ≡ false → ⊥
true_false e = cc
