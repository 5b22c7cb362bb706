use Rattle.std.proofs.Common.{append_assoc, ◌≡◌, ◌++◌, ◌∷◌, [], ℕ, List, ◌∙◌, ap, sym}
use Rattle.std.proofs.lemmas.Result.{IfOk-weaker}
use Rattle.std.specs.Fmt.{decimal}
use Rattle.std.specs.Prelude.{codes}
use Rattle.vl_disk.specs.declared.name.Name.{Name}
use Rattle.vl_script_model.specs.Endings.{damage_line}
use Rattle.vl_replay.proofs.refuse.damage_line.Goals as goal

-- behind the kind: the file's number, and the place
regrouped : (number place : List ℕ) → number ++ (codes " at " ++ (place ++ (10 ∷ []))) ≡ ((number ++ codes " at ") ++ place) ++ (10 ∷ [])
regrouped number place = sym
    (append_assoc (number ++ codes " at ") place (10 ∷ []) ∙ append_assoc number (codes " at ") (place ++ (10 ∷ [])))

pub returns-in-Log : goal.returns-in-Log
returns-in-Log c =
    IfOk-weaker c.format.result _ _
    (λ line is. is ∙ ap (λ (l : List ℕ). codes "damaged log " ++ l) (regrouped (decimal c.in-Log.number) (decimal c.args.place))
    ∙ sym (ap (λ (name : Name). damage_line name c.args.place) c.in-Log.is)) c.format.ensures.ok

pub returns-in-Table : goal.returns-in-Table
returns-in-Table c =
    IfOk-weaker c.format-in-Table.result _ _
    (λ line is. is ∙ ap (λ (l : List ℕ). codes "damaged table " ++ l) (regrouped (decimal c.in-Table.number) (decimal c.args.place))
    ∙ sym (ap (λ (name : Name). damage_line name c.args.place) c.in-Table.is)) c.format-in-Table.ensures.ok

pub returns-in-Manifest : goal.returns-in-Manifest
returns-in-Manifest c =
    IfOk-weaker c.format-in-Manifest.result _ _
    (λ line is. is ∙ ap (λ (l : List ℕ). codes "damaged manifest " ++ l) (regrouped (decimal c.in-Manifest.number) (decimal c.args.place))
    ∙ sym (ap (λ (name : Name). damage_line name c.args.place) c.in-Manifest.is)) c.format-in-Manifest.ensures.ok
