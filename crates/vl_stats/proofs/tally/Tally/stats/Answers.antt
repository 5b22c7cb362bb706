use Rattle.std.proofs.Common.{◌≡◌, ℕ, Result, Ok, Err, IfOk, map, ap, ◌∙◌}
use Rattle.std.specs.FinMap.{put}
use Rattle.std.specs.Ordering.{nat_cmp}
use Rattle.vl_engine_model.specs.Rulings.Stats.{told}
use Rattle.vl_stats.specs.Tallies.{Tallied, stat_by}
use Rattle.vl_stats.specs.laws.RulingLaws.{stats_of_tally}
use Rattle.vl_stats.proofs.tally.Tally.stats.Goals as goal

weaker : {A E : Type 0} (r : Result A E) (P Q : A → Type 0) → ((a : A) → P a → Q a) → IfOk r P → IfOk r Q
weaker (Ok a) P Q f all = f a all
weaker (Err e) P Q f all = tt

pub returns : goal.returns
returns c = weaker c.stats_of.result _ _ (λ stats told_is l h is active.
    let logs : c.deref-2.result.now ≡ put nat_cmp c.args.active.0 c.args.active.1 c.self.inside.logs.items =
    c.deref-2.ensures.value
    ∙ c.put_log.ensures.logs
    ∙ ap (put nat_cmp c.args.active.0 c.args.active.1)
    (c.reserve.ensures.items ∙ c.in_ok-logs.ensures.items ∙ c.deref.ensures.value) in
    told_is
    ∙ ap (map (λ (log : ℕ × ℕ). told (stat_by c.self.inside.live log))) logs
    ∙ ap (λ (t : Tallied). map (λ (log : ℕ × ℕ). told (stat_by t.live log)) (put nat_cmp c.args.active.0 c.args.active.1 t.logs))
    c.self.view_is
    ∙ stats_of_tally c.args.self.now l c.args.active is active)
    c.stats_of.ensures
