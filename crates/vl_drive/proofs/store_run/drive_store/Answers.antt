use Rattle.std.proofs.Common.{◌≡◌, ◌+◌, length, map, sym, subst, arith}
use Rattle.vl_drive.proofs.Gathering.{map_length}
use Rattle.vl_drive.proofs.WholeList.{list-driven}
use Rattle.vl_drive.proofs.WholeStore.{first_new, none_stops, numbers_reach, of_later, total_fits, zip_length}
use Rattle.vl_drive.specs.Accounts.{total_after}
use Rattle.vl_drive.specs.Clients.{count_all}
use Rattle.vl_drive.specs.Driven.{HasDriven, IsDriven}
use Rattle.vl_drive.specs.Steps.{history_by, is_put}
use Rattle.vl_drive.specs.declared.store_run.Driven.{Driven}
use Rattle.vl_drive.proofs.store_run.drive_store.Goals as goal

pub drive-requires-clause-new : goal.drive-requires-clause-new
drive-requires-clause-new g c κs within =
    let o = g.T.Shops.opened c.in_ok-store.store in
    (o.store, first_new o 0 (map g.T.Shop.Shop.knows c.in_ok-store.shops.items) c.in_ok-store.ensures.first)

pub close-requires-clause-all : goal.close-requires-clause-all
close-requires-clause-all g c =
    let knows = g.T.Shop.Shop.knows in
    let was = c.in_ok-store.shops.items in
    let now = c.in-Ok.shops.items in
    let same = zip_length (map knows was) (map knows now) c.in-Ok.ensures.on in
    let long = map_length knows was in
    let long2 = map_length knows now in
    let count = c.in_ok-store.ensures.count.0 in
    let all = c.in_ok-store.ensures.count.1 in
    omega (arith, same, long, long2, count, all)

pub close-requires-clause-of : goal.close-requires-clause-of
close-requires-clause-of g c =
    let knows = g.T.Shop.Shop.knows in
    of_later (g.T.Shops.opened c.in_ok-store.store) 0 (map knows c.in_ok-store.shops.items) (map knows c.in-Ok.shops.items)
    c.in_ok-store.ensures.first c.in-Ok.ensures.on

pub total-requires : goal.total-requires
total-requires g c =
    let knows = g.T.Shop.Shop.knows in
    let o = (g.T.Shops.opened c.in_ok-store.store).origin in
    let now = map knows c.in-Ok.shops.items in
    let closed = c.in_ok-closed-in-Ok.ensures in
    let same = zip_length (map knows c.in_ok-store.shops.items) now c.in-Ok.ensures.on in
    let long = map_length knows c.in_ok-store.shops.items in
    let count = c.in_ok-store.ensures.count.0 in
    let driven = list-driven o c.args.clients c.args.seed c.args.txns now closed.0 (omega (arith, same, long, count)) c.in-Ok.ensures.driven
    closed.1 in
    record { shown = (history_by o closed.0, closed.2, total_fits (total_after (history_by o closed.0)) driven.total) }

pub close-requires-in-Err-Stopped-clause-all : goal.close-requires-in-Err-Stopped-clause-all
close-requires-in-Err-Stopped-clause-all g c =
    let knows = g.T.Shop.Shop.knows in
    let was = c.in_ok-store.shops.items in
    let now = c.in-Err-Stopped.shops.items in
    let stopped = rw c.in-Err-Stopped.field-0-is at c.in-Err-Stopped.ensures.stopped in
    let same = zip_length (map knows was) (map knows now) stopped.0 in
    let long = map_length knows was in
    let long2 = map_length knows now in
    let count = c.in_ok-store.ensures.count.0 in
    let all = c.in_ok-store.ensures.count.1 in
    omega (arith, same, long, long2, count, all)

pub close-requires-in-Err-Stopped-clause-of : goal.close-requires-in-Err-Stopped-clause-of
close-requires-in-Err-Stopped-clause-of g c =
    let knows = g.T.Shop.Shop.knows in
    let stopped = rw c.in-Err-Stopped.field-0-is at c.in-Err-Stopped.ensures.stopped in
    of_later (g.T.Shops.opened c.in_ok-store.store) 0 (map knows c.in_ok-store.shops.items) (map knows c.in-Err-Stopped.shops.items)
    c.in_ok-store.ensures.first stopped.0

pub unreachable-requires : goal.unreachable-requires
unreachable-requires g c =
    let knows = g.T.Shop.Shop.knows in
    let o = g.T.Shops.opened c.in_ok-store.store in
    let was = map knows c.in_ok-store.shops.items in
    let now = map knows c.in-Err-Stopped.shops.items in
    let stopped = rw c.in-Err-Stopped.field-0-is at c.in-Err-Stopped.ensures.stopped in
    let modest = rw c.in-Err-Stopped.field-0-is at c.in-Err-Stopped.ensures.modest in
    let closed = c.in_ok-_closed-in-Err-Stopped.ensures in
    let same = zip_length was now stopped.0 in
    let long = map_length knows c.in_ok-store.shops.items in
    let count = c.in_ok-store.ensures.count.0 in
    let most = c.requires.1 in
    let all : length now ≡ c.args.clients + 1 = omega (arith, same, long, count) in
    none_stops o c.args.txns was now closed.0 c.in_ok-store.ensures.first stopped.0 modest closed.1 c.in_ok-store.ensures.nothing
    (omega (arith, all, most))
    (numbers_reach o.origin.number c.args.clients c.args.txns (length now) c.in_ok-store.ensures.number all most c.ranges.txns.fits)
    c.in-Err-Stopped.field-0-1 stopped.1

pub returns-in_ok-total-in-Ok : goal.returns-in_ok-total-in-Ok
returns-in_ok-total-in-Ok g c =
    let knows = g.T.Shop.Shop.knows in
    let o = (g.T.Shops.opened c.in_ok-store.store).origin in
    let now = map knows c.in-Ok.shops.items in
    let closed = c.in_ok-closed-in-Ok.ensures in
    let same = zip_length (map knows c.in_ok-store.shops.items) now c.in-Ok.ensures.on in
    let long = map_length knows c.in_ok-store.shops.items in
    let count = c.in_ok-store.ensures.count.0 in
    let driven = list-driven o c.args.clients c.args.seed c.args.txns now closed.0 (omega (arith, same, long, count)) c.in-Ok.ensures.driven
    closed.1 in
    let came : Driven = record {
      commits = c.in-Ok.tally.commits;
      conflicts = c.in-Ok.tally.conflicts;
      total = c.in_ok-total-in-Ok.total;
    } in
    let has : HasDriven c.args.clients c.args.txns c.args.seed came = record {
      origin = o;
      list = closed.0;
      new = c.in_ok-store.ensures.number;
      driven = subst (λ n. IsDriven o c.args.clients c.args.txns c.args.seed n c.in-Ok.tally.conflicts closed.0) (sym c.in-Ok.ensures.commits)
          (subst (λ n. IsDriven o c.args.clients c.args.txns c.args.seed (count_all is_put now) n closed.0) (sym c.in-Ok.ensures.conflicts) driven);
      total = c.in_ok-total-in-Ok.ensures.total (history_by o closed.0) closed.2;
    } in
    (has, c.total.ensures.still (history_by o closed.0) closed.2)
