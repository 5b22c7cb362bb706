use Rattle.std.proofs.Common.{sym, ◌∙◌, ap, ◌++◌}
use Rattle.std.proofs.lemmas.List.{append-nil}
use Rattle.vl_mem.specs.Kept.{standing_names}
use Rattle.vl_mem.proofs.names.names_of.Goals as goal

pub returns-clause-names : goal.returns-clause-names
returns-clause-names c = sym (append-nil c.loop-name.names.items)
    ∙ ap (λ es. c.loop-name.names.items ++ standing_names es) (sym c.in-None.ensures.steps.0) ∙ c.loop-name.invariant
