use Rattle.std.proofs.Common.{◌≡◌, length, map, arith}
use Rattle.vl_drive.specs.Steps.{history_by}
use Rattle.vl_sequence.proofs.Gathering.{map_length}
use Rattle.vl_sequence.proofs.WholeIds.{all_counted, end_told, first_new, none_stops, of_later, zip_length}
use Rattle.vl_sequence.proofs.ids.count_ids.Goals as goal

pub take_all-requires-clause-new : goal.take_all-requires-clause-new
take_all-requires-clause-new g c κs within =
    let o = g.T.Shops.opened c.in_ok-store.store in
    first_new c.args.lease o 0 (map g.T.Shop.Shop.knows c.in_ok-store.shops.items) c.in_ok-store.ensures.first

-- the shops come back, all of them and in their order

pub close-requires-clause-all : goal.close-requires-clause-all
close-requires-clause-all g c =
    let knows = g.T.Shop.Shop.knows in
    let was = c.in_ok-store.shops.items in
    let now = c.in-Ok.shops.items in
    let same = zip_length (map knows was) (map knows now) c.in-Ok.ensures.on in
    let long = map_length knows was in
    let long2 = map_length knows now in
    let count = c.in_ok-store.ensures.count.0 in
    let all = c.in_ok-store.ensures.count.1 in
    omega (arith, same, long, long2, count, all)

pub close-requires-clause-of : goal.close-requires-clause-of
close-requires-clause-of g c =
    let knows = g.T.Shop.Shop.knows in
    of_later (g.T.Shops.opened c.in_ok-store.store) 0 (map knows c.in_ok-store.shops.items) (map knows c.in-Ok.shops.items)
    c.in_ok-store.ensures.first c.in-Ok.ensures.on

pub close-requires-in-Err-Stopped-clause-all : goal.close-requires-in-Err-Stopped-clause-all
close-requires-in-Err-Stopped-clause-all g c =
    let knows = g.T.Shop.Shop.knows in
    let was = c.in_ok-store.shops.items in
    let now = c.in-Err-Stopped.shops.items in
    let stopped = rw c.in-Err-Stopped.field-0-is at c.in-Err-Stopped.ensures.stopped in
    let same = zip_length (map knows was) (map knows now) stopped.0 in
    let long = map_length knows was in
    let long2 = map_length knows now in
    let count = c.in_ok-store.ensures.count.0 in
    let all = c.in_ok-store.ensures.count.1 in
    omega (arith, same, long, long2, count, all)

pub close-requires-in-Err-Stopped-clause-of : goal.close-requires-in-Err-Stopped-clause-of
close-requires-in-Err-Stopped-clause-of g c =
    let knows = g.T.Shop.Shop.knows in
    let stopped = rw c.in-Err-Stopped.field-0-is at c.in-Err-Stopped.ensures.stopped in
    of_later (g.T.Shops.opened c.in_ok-store.store) 0 (map knows c.in_ok-store.shops.items) (map knows c.in-Err-Stopped.shops.items)
    c.in_ok-store.ensures.first stopped.0

-- none could have stopped

pub unreachable-requires : goal.unreachable-requires
unreachable-requires g c =
    let knows = g.T.Shop.Shop.knows in
    let o = g.T.Shops.opened c.in_ok-store.store in
    let was = map knows c.in_ok-store.shops.items in
    let now = map knows c.in-Err-Stopped.shops.items in
    let stopped = rw c.in-Err-Stopped.field-0-is at c.in-Err-Stopped.ensures.stopped in
    let closed = c.in_ok-_closed-in-Err-Stopped.ensures in
    let opened = c.in_ok-store.ensures in
    let law = c.no_call_of_modest_shops_stops.ensures in
    let same = zip_length was now stopped.0 in
    let long = map_length knows c.in_ok-store.shops.items in
    let count = opened.count.0 in
    let all : length now ≡ c.args.clients = omega (arith, same, long, count) in
    none_stops law.begins law.commits o c.args.clients c.args.count c.args.lease was now closed.0 opened.first stopped.0 closed.1 all
    stopped.1 opened.nothing opened.number opened.base c.requires.clients.1 c.requires.count.1 c.requires.lease.0 c.requires.lease.1
    c.in-Err-Stopped.field-0-1 stopped.2 stopped.3

-- what the key tells

pub next_number-requires : goal.next_number-requires
next_number-requires g c =
    let knows = g.T.Shop.Shop.knows in
    let o = (g.T.Shops.opened c.in_ok-store.store).origin in
    let was = map knows c.in_ok-store.shops.items in
    let now = map knows c.in-Ok.shops.items in
    let closed = c.in_ok-closed-in-Ok.ensures in
    let same = zip_length was now c.in-Ok.ensures.on in
    let long = map_length knows c.in_ok-store.shops.items in
    let count = c.in_ok-store.ensures.count.0 in
    let all : length now ≡ c.args.clients = omega (arith, same, long, count) in
    record {
      shown = (
        history_by o closed.0,
        _,
        closed.2,
        end_told o c.args.clients c.args.count c.args.lease now closed.0 closed.1 all c.in-Ok.ensures.leased c.in_ok-store.ensures.base
            c.requires.lease.0,
      );
    }

pub returns-in_ok-next-in-Ok-clause-counted : goal.returns-in_ok-next-in-Ok-clause-counted
returns-in_ok-next-in-Ok-clause-counted g c =
    let knows = g.T.Shop.Shop.knows in
    let o = (g.T.Shops.opened c.in_ok-store.store).origin in
    let was = map knows c.in_ok-store.shops.items in
    let now = map knows c.in-Ok.shops.items in
    let closed = c.in_ok-closed-in-Ok.ensures in
    let same = zip_length was now c.in-Ok.ensures.on in
    let long = map_length knows c.in_ok-store.shops.items in
    let count = c.in_ok-store.ensures.count.0 in
    let all : length now ≡ c.args.clients = omega (arith, same, long, count) in
    record {
      origin = o;
      list = closed.0;
      number = c.in_ok-store.ensures.number;
      base = c.in_ok-store.ensures.base;
      counted = all_counted o c.args.clients c.args.count c.args.lease now closed.0 closed.1 all c.in-Ok.ensures.leased
          c.in_ok-store.ensures.base c.requires.lease.0 (length c.in_ok-store.shops.items) count _ c.in-Ok.ensures.given
          c.in-Ok.ensures.leases (c.in_ok-next-in-Ok.ensures.told (history_by o closed.0) closed.2);
    }

-- and which store was closed

pub returns-in_ok-next-in-Ok-clause-shown : goal.returns-in_ok-next-in-Ok-clause-shown
returns-in_ok-next-in-Ok-clause-shown g c =
    let knows = g.T.Shop.Shop.knows in
    let o = (g.T.Shops.opened c.in_ok-store.store).origin in
    let was = map knows c.in_ok-store.shops.items in
    let now = map knows c.in-Ok.shops.items in
    let closed = c.in_ok-closed-in-Ok.ensures in
    let same = zip_length was now c.in-Ok.ensures.on in
    let long = map_length knows c.in_ok-store.shops.items in
    let count = c.in_ok-store.ensures.count.0 in
    let all : length now ≡ c.args.clients = omega (arith, same, long, count) in (
      c.in_ok-closed-in-Ok.closed,
      c.in-Ok.shops.items,
      record {
        origin = o;
        list = closed.0;
        number = c.in_ok-store.ensures.number;
        base = c.in_ok-store.ensures.base;
        counted = all_counted o c.args.clients c.args.count c.args.lease now closed.0 closed.1 all c.in-Ok.ensures.leased
            c.in_ok-store.ensures.base c.requires.lease.0 (length c.in_ok-store.shops.items) count _ c.in-Ok.ensures.given
            c.in-Ok.ensures.leases (c.in_ok-next-in-Ok.ensures.told (history_by o closed.0) closed.2);
      },
      closed.1,
      closed.2,
    )
