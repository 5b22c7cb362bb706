use Rattle.std.proofs.Common.{◌≡◌, ℕ, List, ap, ◌∙◌}
use Rattle.std.specs.List.{sum_by}
use Rattle.std.specs.Ordering.{nat_cmp}
use Rattle.std.specs.BTreeMap.{get}
use Rattle.std.proofs.lemmas.Map.Entries.{entries_from_clone}
use Rattle.vl_engine_model.specs.Garbage.{pointed_bytes}
use Rattle.vl_stats.specs.Live.{bytes_of}
use Rattle.vl_stats.proofs.Steps.{footers_are, switched}
use Rattle.vl_stats.proofs.live_bytes.LiveBytes.with.Goals as goal

pub returns : goal.returns
returns c = λ before came gone after of_before came_is gone_is switch.
    let copied : c.in_ok-sums.sums.entries ≡ c.self.inside.sums.entries =
    entries_from_clone (λ (x y : ℕ). y ≡ x) (λ (x y : ℕ). y ≡ x) (λ x y same. same) (λ x y same. same)
    c.self.inside.sums.entries c.in_ok-sums.sums.entries c.in_ok-sums.ensures.cases in
    switched c.args.self.now (get nat_cmp c.in_ok-sums.sums) (get nat_cmp c.add_footers.new.sums) (get nat_cmp c.take_footers.new.sums)
    (λ s. sum_by (λ f. pointed_bytes s f.now.points.items) c.args.added.now)
    (λ s. sum_by (λ f. pointed_bytes s f.now.points.items) c.args.dropped.now)
    before came gone after (λ s. ap (λ (es : List (ℕ × ℕ)). bytes_of es s) (copied ∙ c.self.view_is))
    c.in_ok-add_footers.ensures.adds c.take_footers.ensures.takes of_before
    (footers_are c.args.added.now (λ f. f.now.points.items) came came_is)
    (footers_are c.args.dropped.now (λ f. f.now.points.items) gone gone_is) switch
