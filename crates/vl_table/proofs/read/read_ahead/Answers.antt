use Rattle.std.proofs.Common.{◌≡◌, ◌∙◌, ap, sym, refl, subst, List, ℕ}
use Rattle.std.specs.Prelude.{◌++◌, drop}
use Rattle.std.proofs.lemmas.List.{take-append-drop}
use Rattle.vl_table.specs.ReadAhead.{AheadOf}
use Rattle.vl_table.specs.declared.read.Ahead.{Ahead}
use Rattle.vl_table.proofs.AnswerSteps.{and_then, gives}
use Rattle.vl_table.proofs.read.read_ahead.Goals as goal

pub returns : goal.returns
returns g c =
    let ahead : Ahead = record { place = c.args.place; bytes = c.in_ok-bytes.bytes } in
    and_then _ _ _ c.args.number _ _ (λ bytes (a : Ahead). a ≡ ahead) _ _ (λ bytes damage. ⊥) _ c.in_ok-bytes.bytes _
    (λ bytes told read a is. subst (AheadOf bytes) (sym is) (
      drop c.args.count (drop c.args.place bytes),
      sym (take-append-drop c.args.count (drop c.args.place bytes))
          ∙ ap (λ (l : List ℕ). l ++ drop c.args.count (drop c.args.place bytes)) (sym read),
    ))
    (λ bytes told read damage none. absurd none)
    c.in_ok-bytes.ensures
    (gives _ c.args.number _ _ _ ahead (λ bytes told. refl))
