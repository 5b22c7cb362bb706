-- What a sink takes, piece by piece.
use Rattle.std.specs.Prelude.{ℕ, List, [], ◌++◌, Option, None, Some, refl}
use Rattle.std.proofs.Common.{sym, ap, ◌∙◌, append_assoc, append-nil}
use Rattle.vl_io.specs.Sink.{Takes}

pub takes_none : (held : Option (List ℕ)) → Takes held held []
takes_none None = refl
takes_none (Some bytes) = sym (append-nil bytes)

pub takes_then : (a b c : Option (List ℕ)) (x y : List ℕ) → Takes a b x → Takes b c y → Takes a c (x ++ y)
takes_then None None c x y p q = q
takes_then None (Some b) c x y p q = absurd (cc)
takes_then (Some a) None c x y p q = absurd p
takes_then (Some a) (Some b) None x y p q = absurd q
takes_then (Some a) (Some b) (Some c) x y p q = q ∙ ap (λ (l : List ℕ). l ++ y) p ∙ append_assoc a x y
