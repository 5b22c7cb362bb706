use Rattle.std.proofs.Common.{ap, ◌∙◌, ◌+◌, ◌≡◌, map, ℕ, Option}
use Rattle.std.specs.Ordering.{nat_cmp}
use Rattle.std.specs.BTreeMap.{insert_entry, is_at}
use Rattle.std.specs.Map.{lookup}
use Rattle.std.specs.Option.{unwrap_or}
use Rattle.vl_table.specs.writer.PointSums.{point_of}
use Rattle.vl_table.proofs.PointLaws.{points-insert}
use Rattle.vl_table.proofs.writer.point_sums.add_point.Goals as goal

pub returns : goal.returns
returns c =
    let m = c.args.sums.now in
    let before : c.unwrap_or-before.result ≡ unwrap_or (lookup (is_at (nat_cmp c.args.segment)) m.entries) 0 =
    c.unwrap_or-before.ensures ∙ ap (λ (o : Option ℕ). unwrap_or o 0) (c.copied.ensures ∙ c.get.ensures.value) in
    let sum : c.in-Some.sum ≡ unwrap_or (lookup (is_at (nat_cmp c.args.segment)) m.entries) 0 + c.args.bytes =
    c.in-Some.ensures.1 ∙ ap (λ (n : ℕ). n + c.args.bytes) before in
    ap (map point_of) (c.in_ok-insert.ensures.entries ∙ ap (insert_entry nat_cmp m.entries c.args.segment) sum)
    ∙ points-insert c.args.segment c.args.bytes m.entries c.in_ok-insert.ensures.was_ordered
