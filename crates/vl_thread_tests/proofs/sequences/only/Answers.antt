use Rattle.std.proofs.Common.{◌≡◌, List, [], ◌∷◌, ◌++◌, Option, Some, None, IfSome, length, length-append, refl, ap, ◌∙◌, arith}
use Rattle.std.specs.Option.{option_to_list}
use Rattle.vl_thread_tests.proofs.sequences.only.Goals as goal

none_left : {A : Type 0} (xs : List A) → length xs ≡ 0 → xs ≡ []
none_left [] none = refl
none_left (x ∷ xs) none = absurd (omega arith)

-- what is taken from the end of a list of one is all of it
of : {A : Type 0} (xs rest : List A) (taken : Option A) → xs ≡ rest ++ option_to_list taken → length xs ≡ 1
    → IfSome taken (λ x. xs ≡ x ∷ [])
of xs rest None is one = tt
of xs rest (Some x) is one =
    is ∙ ap (λ (front : List _). front ++ x ∷ [])
    (none_left rest (omega (arith, one, ap length is, length-append rest (x ∷ []))))

pub returns : goal.returns
returns g c = of c.args.all.items c.pop.new.self.items c.pop.result c.pop.ensures.items c.requires
