use Rattle.std.proofs.Common.{rules, ◌≡◌, [], ◌∷◌, ◌++◌, length, map, ap, sym, ◌∙◌, subst, arith, append_assoc}
use Rattle.std.specs.List.{AllByRecursion}
use Rattle.std.specs.Vec.Iter.{into_iter_items}
use Rattle.vl_sequence.proofs.Gathering.{all_more, map_more}
use Rattle.vl_sequence.specs.Clients.{IsOfLease, IsSeated, shop_of}
use Rattle.vl_sequence.proofs.clients.seated.Goals as goal

pub loop-shop-preserved : goal.loop-shop-preserved
loop-shop-preserved g c =
    let knows = g.S.Shop.knows in
    let inv = c.loop-shop.invariant in
    let shop = c.in-Some.shop in
    let left = into_iter_items c.next.new.self in
    let before = c.loop-shop.clients.items in
    let client = c.in_ok-seat.field-0 in
    let more : into_iter_items c.loop-shop.shop-iterator ≡ shop ∷ left = c.in-Some.ensures.steps.0 in
    let items : c.push.new.self.items ≡ before ++ client ∷ [] = search rules in
    let shops = ap (map shop_of) items ∙ map_more shop_of before client ∙ ap (λ x. map shop_of before ++ x ∷ []) c.in_ok-seat.ensures.shop in (
      let was = inv.0 in let gone = c.in-Some.ensures.steps.1 in let short = ap length more in omega arith,
      ap (λ xs. xs ++ left) shops ∙ (append_assoc (map shop_of before) (shop ∷ []) left
          ∙ (ap (λ xs. map shop_of before ++ xs) (sym more) ∙ inv.1)),
      subst (AllByRecursion (IsSeated knows)) (sym items) (all_more (IsSeated knows) before client inv.2 c.in_ok-seat.ensures.seated),
      subst (AllByRecursion (IsOfLease c.args.lease)) (sym items)
          (all_more (IsOfLease c.args.lease) before client inv.3 c.in_ok-seat.ensures.lease),
    )
