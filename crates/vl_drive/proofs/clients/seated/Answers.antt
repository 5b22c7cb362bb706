use Rattle.std.proofs.Common.{rules, ◌≡◌, ◌+◌, [], ◌∷◌, ◌++◌, length, map, ap, sym, ◌∙◌, subst, arith, append_assoc, append-nil, length-append}
use Rattle.std.specs.List.{AllByRecursion}
use Rattle.std.specs.Vec.Iter.{into_iter_items}
use Rattle.vl_drive.proofs.Gathering.{map_length, map_more, nothing_left, seated_length, seated_more}
use Rattle.vl_drive.proofs.Playing.{on_itself}
use Rattle.vl_drive.specs.Clients.{HasOpened, IsNewAt}
use Rattle.vl_drive.specs.Knowing.{GoesOn}
use Rattle.vl_drive.specs.Modest.{IsModest}
use Rattle.vl_drive.specs.Players.{AreSeated, IsSeated}
use mathlib.Core.List.{IsPrefix}
use Rattle.vl_drive.proofs.clients.seated.Goals as goal

pub introduced-requires-clause-store : goal.introduced-requires-clause-store
introduced-requires-clause-store g c κs within =
    let knows = g.S.Shop.knows in
    let inv = c.loop-shop.invariant in
    let more : into_iter_items c.loop-shop.shop-iterator ≡ c.in-Some.shop ∷ into_iter_items c.next.new.self = c.in-Some.ensures.steps.0 in
    let rest = subst (λ xs. AllByRecursion (IsNewAt (knows c.args.keeper).store) (map knows xs)) more inv.1 in
    ap (λ v. v.store) inv.0 ∙ sym rest.0.store_is

pub loop-shop-preserved : goal.loop-shop-preserved
loop-shop-preserved g c =
    let knows = g.S.Shop.knows in
    let inv = c.loop-shop.invariant in
    let shop = c.in-Some.shop in
    let left = into_iter_items c.next.new.self in
    let players = c.loop-shop.players.items in
    let player = c.seat-player.result in
    let more : into_iter_items c.loop-shop.shop-iterator ≡ shop ∷ left = c.in-Some.ensures.steps.0 in
    let rest = subst (λ xs. AllByRecursion (IsNewAt (knows c.args.keeper).store) (map knows xs)) more inv.1 in
    let met = inv.3 in
    let items : c.push.new.self.items ≡ players ++ player ∷ [] = search rules in
    let counted = map_length knows met.0 in
    let number = c.seat-player.ensures.client in
    let before = met.3 in
    let note = (knows c.args.keeper).seen in
    let seat : IsSeated knows note (0 + length (map knows met.0)) (knows shop) player = record {
      number = omega (arith, counted, number, before);
      plays = c.seat-player.ensures.keeps_up;
      on = subst (λ s. GoesOn (knows shop) (knows s)) (sym c.seat-player.ensures.shop) c.in_ok-met.ensures.met.on;
      own = ap (λ s. (knows s).own) c.seat-player.ensures.shop ∙ c.in_ok-met.ensures.met.own ∙ rest.0.own;
      met = subst (λ s. IsPrefix note (knows s).seen) (sym c.seat-player.ensures.shop)
          (subst (λ v. IsPrefix v.seen (knows c.in_ok-met.met).seen) inv.0 c.in_ok-met.ensures.met.noted);
    } in
    let seated = seated_more knows note 0 (map knows met.0) players (knows shop) player met.2 seat in (
      c.introduced.ensures.same ∙ inv.0,
      rest.1,
      let was = inv.2 in let gone = c.in-Some.ensures.steps.1 in let short = ap length more in omega arith,
      (
        met.0 ++ shop ∷ [],
        append_assoc met.0 (shop ∷ []) left ∙ (ap (λ xs. met.0 ++ xs) (sym more) ∙ met.1),
        subst (λ ps. AreSeated knows note 0 (map knows (met.0 ++ shop ∷ [])) ps) (sym items)
            (subst (λ vs. AreSeated knows note 0 vs (players ++ player ∷ [])) (sym (map_more knows met.0 shop)) seated),
        omega (arith, before, length-append met.0 (shop ∷ [])),
      ),
    )

pub returns-clause-ready : goal.returns-clause-ready
returns-clause-ready g c =
    let knows = g.S.Shop.knows in
    let inv = c.loop-shop.invariant in
    let met = inv.3 in
    let players = c.loop-shop.players.items in
    let last = c.seat-last.result in
    let items : c.push-2.new.self.items ≡ players ++ last ∷ [] = search rules in
    let none : into_iter_items c.loop-shop.shop-iterator ≡ [] = nothing_left _ (sym inv.2 ∙ c.in-None.ensures.steps.0) in
    let all = sym (append-nil met.0) ∙ (ap (λ xs. met.0 ++ xs) (sym none) ∙ met.1) in
    let same = ap knows c.seat-last.ensures.shop ∙ inv.0 in (
      players,
      last,
      items,
      subst (λ xs. AreSeated knows (knows c.args.keeper).seen 0 (map knows xs) players) all met.2,
      record {
        keeps = c.seat-last.ensures.keeps_up;
        on = subst (GoesOn (knows c.args.keeper)) (sym same) (on_itself (knows c.args.keeper));
        opened = subst (HasOpened (knows c.args.keeper).seen) (sym same) c.requires.opened;
        modest = subst (IsModest 0) (sym same) c.requires.modest;
      },
    )

pub returns-clause-few : goal.returns-clause-few
returns-clause-few g c =
    let knows = g.S.Shop.knows in
    let inv = c.loop-shop.invariant in
    let met = inv.3 in
    let players = c.loop-shop.players.items in
    let last = c.seat-last.result in
    let items : c.push-2.new.self.items ≡ players ++ last ∷ [] = search rules in
    let none : into_iter_items c.loop-shop.shop-iterator ≡ [] = nothing_left _ (sym inv.2 ∙ c.in-None.ensures.steps.0) in
    let all = sym (append-nil met.0) ∙ (ap (λ xs. met.0 ++ xs) (sym none) ∙ met.1) in
    let long = ap length items ∙ length-append players (last ∷ []) in
    let seated = seated_length knows (knows c.args.keeper).seen 0 (map knows met.0) players met.2 in
    let mapped = map_length knows met.0 in
    let whole = ap length all in
    let few = c.requires.few in
    omega (arith, long, seated, mapped, whole, few)
