use Rattle.std.proofs.Common.{◌≡◌, ◌∷◌, ◌++◌, [], true, false, ap, ◌∙◌}
use Rattle.std.specs.Ordering.{eq_by_cmp}
use Rattle.vl_model.specs.Keys.{key_cmp}
use Rattle.vl_table.proofs.Written.{picked, unpicked}
use Rattle.vl_table.proofs.writer.summary.note_key.Goals as goal

pub returns-then-is_eq : goal.returns-then-is_eq
returns-then-is_eq c =
    let same : eq_by_cmp key_cmp c.args.last.now c.args.key.now ≡ true = cc in
    picked _ _ _ same

pub returns : goal.returns
returns c =
    let apart : eq_by_cmp key_cmp c.args.last.now c.args.key.now ≡ false = cc in
    c.in_ok-push.ensures.items ∙ ap (λ h. c.args.keys.now.items ++ h ∷ []) c.of.ensures ∙ unpicked _ _ _ apart
