use Rattle.std.proofs.Common.{[], ◌∷◌, length, map, ap, sym, ◌∙◌, subst, arith, length-append}
use Rattle.std.specs.List.{AllByRecursion, AllZip}
use Rattle.std.specs.Prelude.{IfErr, IfOk}
use Rattle.vl_drive.proofs.Gathering.{map_more, new_front, new_last, new_modest}
use Rattle.vl_drive.proofs.Modesty.{modest_more}
use Rattle.vl_drive.specs.Clients.{IsNewAt}
use Rattle.vl_drive.specs.Knowing.{GoesOn}
use Rattle.vl_drive.specs.Players.{IsStopped}
use Rattle.vl_drive.proofs.clients.drive.Goals as goal

pub played-requires-clause-few : goal.played-requires-clause-few
played-requires-clause-few g c κs within =
    let all = ap length c.in-Some.ensures.items ∙ length-append c.pop.new.self.items (c.in-Some.keeper ∷ []) in
    let most = c.requires.count.1 in
    omega (arith, all, most)

pub played-requires-clause-new : goal.played-requires-clause-new
played-requires-clause-new g c κs within =
    let knows = g.S.Shop.knows in
    let front = c.pop.new.self.items in
    let keeper = c.in-Some.keeper in
    let store = c.requires.new.0 in
    let all = subst (λ xs. AllByRecursion (IsNewAt store) (map knows xs)) c.in-Some.ensures.items c.requires.new.1 in
    let last = new_last knows store front keeper all in
    subst (λ s. AllByRecursion (IsNewAt s) (map knows front)) (sym (c.open_accounts.ensures.on.store ∙ last.store_is))
    (new_front knows store front keeper all)

pub played-requires-clause-opened : goal.played-requires-clause-opened
played-requires-clause-opened g c κs within =
    let knows = g.S.Shop.knows in
    let store = c.requires.new.0 in
    let all = subst (λ xs. AllByRecursion (IsNewAt store) (map knows xs)) c.in-Some.ensures.items c.requires.new.1 in
    c.in-Ok.ensures.opened (new_last knows store c.pop.new.self.items c.in-Some.keeper all).own

pub returns-in-Ok-clause-on : goal.returns-in-Ok-clause-on
returns-in-Ok-clause-on g c =
    let knows = g.S.Shop.knows in
    let all = ap (map knows) c.in-Some.ensures.items ∙ map_more knows c.pop.new.self.items c.in-Some.keeper in
    subst (λ vs. IfOk c.played.result (λ r. AllZip GoesOn vs (map knows r.1.items))) (sym all)
    (c.played.ensures.on (knows c.in-Some.keeper) c.open_accounts.ensures.on)

pub returns-in-Ok-clause-stopped : goal.returns-in-Ok-clause-stopped
returns-in-Ok-clause-stopped g c =
    let knows = g.S.Shop.knows in
    let all = ap (map knows) c.in-Some.ensures.items ∙ map_more knows c.pop.new.self.items c.in-Some.keeper in
    subst (λ vs. IfErr c.played.result (IsStopped knows vs)) (sym all)
    (c.played.ensures.stopped (knows c.in-Some.keeper) c.open_accounts.ensures.on)

pub returns-in-Err-clause-stopped : goal.returns-in-Err-clause-stopped
returns-in-Err-clause-stopped g c =
    let knows = g.S.Shop.knows in
    let all = ap (map knows) c.in-Some.ensures.items ∙ map_more knows c.pop.new.self.items c.in-Some.keeper in
    subst (λ vs. IsStopped knows vs c.unopened.result) (sym all)
    (c.unopened.ensures.stopped (knows c.in-Some.keeper) c.open_accounts.ensures.on c.in-Err.ensures.trouble)

pub played-requires-clause-modest : goal.played-requires-clause-modest
played-requires-clause-modest g c κs within =
    let knows = g.S.Shop.knows in
    let store = c.requires.new.0 in
    let all = subst (λ xs. AllByRecursion (IsNewAt store) (map knows xs)) c.in-Some.ensures.items c.requires.new.1 in
    c.open_accounts.ensures.modest (new_last knows store c.pop.new.self.items c.in-Some.keeper all).own

pub returns-in-Err-clause-modest : goal.returns-in-Err-clause-modest
returns-in-Err-clause-modest g c =
    let knows = g.S.Shop.knows in
    let store = c.requires.new.0 in
    let front = c.pop.new.self.items in
    let all = subst (λ xs. AllByRecursion (IsNewAt store) (map knows xs)) c.in-Some.ensures.items c.requires.new.1 in
    let own = (new_last knows store front c.in-Some.keeper all).own in
    c.unopened.ensures.modest c.args.txns (new_modest knows store c.args.txns front (new_front knows store front c.in-Some.keeper all))
    (modest_more 0 c.args.txns (knows c.open_accounts.new.shop) (omega arith) (c.open_accounts.ensures.modest own))
