use Rattle.std.proofs.Common.{◌≡◌, ap, sym, ◌∙◌, false, true, length, List, ℕ}
use Rattle.std.specs.Prelude.{◌==◌}
use Rattle.std.specs.List.{filter}
use Rattle.vl_version.specs.Own.{is_key_below}
use Rattle.vl_version.proofs.CutLaws.{Write, cut_both}
use Rattle.vl_version.proofs.own.cut.Goals as goal

pub returns-else-is_empty : goal.returns-else-is_empty
returns-else-is_empty c =
    let high = c.args.high.now in
    c.cut_back.ensures ∙ ap (λ (ws : List Write). filter (is_key_below high) ws) c.cut_front-rest.ensures.cut
    ∙ cut_both c.args.low.now high c.args.writes.now
    (λ none. let no : false ≡ true = sym c.if-is_empty.false ∙ c.is_empty.ensures ∙ ap (λ (h : List ℕ). length h == 0) none in absurd cc)
