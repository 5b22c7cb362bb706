use Rattle.std.proofs.Common.{ℕ, List, map, nat_lt, subst, sym, ap, ◌∙◌}
use Rattle.std.specs.List.{filter}
use Rattle.vl_engine_model.specs.Garbage.{best_of, is_worth}
use Rattle.vl_engine_model.specs.Sources.{rising}
use Rattle.vl_engine_model.specs.Tidy.{sealed}
use Rattle.vl_stats.specs.Tallies.{IsTally, Tallied, lengths_of, share_by}
use Rattle.vl_stats.specs.laws.BestLaws.{best_of_tally, number_of}
use Rattle.vl_stats.proofs.tally.Tally.best.Goals as goal

pub returns : goal.returns
returns c = λ logs l h tidy is head_is.
    let inside = subst (λ (t : Tallied). IsTally t l) (sym c.self.view_is) is in
    c.segment_of.ensures
    ∙ ap number_of
    (c.best_below.ensures
    ∙ ap (λ (xs : List (ℕ × ℕ)). best_of (filter (is_worth c.args.percent) (map (share_by c.self.inside.live)
    (filter (λ (log : ℕ × ℕ). nat_lt log.0 c.args.head) xs)))) (c.deref.ensures.value ∙ inside.logs)
    ∙ ap (λ (n : ℕ). best_of (filter (is_worth c.args.percent) (map (share_by c.self.inside.live)
    (filter (λ (log : ℕ × ℕ). nat_lt log.0 n) (lengths_of (rising (sealed l))))))) head_is)
    ∙ best_of_tally c.best_has_the_greatest_share.ensures l c.self.inside.live c.args.percent tidy.files.stocked.falling
    tidy.distinct inside.live
