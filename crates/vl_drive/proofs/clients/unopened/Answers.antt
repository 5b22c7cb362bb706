use Rattle.std.proofs.Common.{rules, ◌≡◌, [], ◌∷◌, ◌++◌, map, sym, subst}
use Rattle.std.specs.List.{AllZip}
use Rattle.vl_drive.proofs.Gathering.{cause_last, modest_last, on_last}
use Rattle.vl_drive.specs.Knowing.{GoesOn}
use Rattle.vl_drive.specs.Modest.{AreModest}
use Rattle.vl_drive.specs.Players.{IsCauseOfOne}
use Rattle.vl_drive.specs.Playing.{IsTrouble}
use Rattle.vl_drive.proofs.clients.unopened.Goals as goal

pub returns-in-Stopped-clause-stopped : goal.returns-in-Stopped-clause-stopped
returns-in-Stopped-clause-stopped g c v on is =
    let knows = g.S.Shop.knows in
    let xs = c.args.shops.items in
    let items : c.push.new.self.items ≡ xs ++ c.args.keeper ∷ [] = search rules in (
      subst (λ ys. AllZip GoesOn (map knows xs ++ v ∷ []) (map knows ys)) (sym items) (on_last knows xs v c.args.keeper on),
      subst (λ ys. IsCauseOfOne c.in-Stopped.cause (map knows xs ++ v ∷ []) (map knows ys)) (sym items)
          (cause_last knows c.in-Stopped.cause xs v c.args.keeper
          (subst (λ t. IsTrouble v (knows c.args.keeper) t) c.in-Stopped.is is)),
    )

pub returns-in-Stopped-clause-modest : goal.returns-in-Stopped-clause-modest
returns-in-Stopped-clause-modest g c turns all modest =
    let knows = g.S.Shop.knows in
    let xs = c.args.shops.items in
    let items : c.push.new.self.items ≡ xs ++ c.args.keeper ∷ [] = search rules in
    subst (λ ys. AreModest turns (map knows ys)) (sym items) (modest_last knows turns xs c.args.keeper all modest)
