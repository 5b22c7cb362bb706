use denote.Exit.{no}
use denote.Param.Send.{arg_send, arg_sync, param_send, param_sync}
use Rattle.std.proofs.Common.{◌≡◌, length, map, ap, sym, ◌∙◌, subst}
use Rattle.std.specs.List.{AllByRecursion, AllZip}
use Rattle.std.specs.Prelude.{IfErr, IfOk, slice_index_or}
use Rattle.vl_sequence.proofs.Gathering.{all_few, each_at, each_zip, ends_given, ends_leased, ends_leases, ends_on, ends_stopped, written_back}
use Rattle.vl_sequence.specs.Clients.{Gathers, HasActed, IsDone, IsFew, IsSeated, all_given, all_leases, shop_of}
use Rattle.vl_sequence.proofs.clients.take_all.Goals as goal

pub for_each_mut-requires-clause-accepts : goal.for_each_mut-requires-clause-accepts
for_each_mut-requires-clause-accepts g c κs within i p less is =
    let knows = g.S.Shop.knows in
    let seated = subst (AllByRecursion (IsSeated knows)) (sym c.as_mut_slice.ensures.value) c.in-Ok.ensures.seated in (
      subst (IsSeated knows) (sym is) (each_at (IsSeated knows) c.as_mut_slice.result.now i p.now seated less),
      (
        param_send 1 _ (arg_send _ no _ c.type_bounds.send-S),
        param_send 2 _ (arg_send _ no _ c.type_bounds.send-S-Txn),
        param_send 3 _ (arg_send _ no _ c.type_bounds.send-S-Note),
        param_sync 0 _ (arg_sync _ no _ c.type_bounds.sync-R),
      ),
    )

pub gathered-requires-clause-small : goal.gathered-requires-clause-small
gathered-requires-clause-small g c κs within =
    let knows = g.S.Shop.knows in
    let count = c.args.count in
    let clients = c.in-Ok.clients.items in
    let s = c.for_each_mut.new.s in
    let was = c.as_mut_slice.result.now in
    let zip : AllZip (HasActed knows count) was s = each_zip (HasActed knows count) was s c.for_each_mut.auto.s
    (λ i d less. let k = (c.for_each_mut.ensures i d less).1 in
    subst (λ x. HasActed knows count x (slice_index_or s i d)) k.argument_is
    (subst (λ y. HasActed knows count k.argument.now y) k.left k.call)) in
    let acted : AllZip (HasActed knows count) clients s =
    subst (λ xs. AllZip (HasActed knows count) xs s) c.as_mut_slice.ensures.value zip in
    let back = written_back c.in-Ok.clients.len s clients c.in-Ok.clients.ok.0 (c.for_each_mut.auto.s ∙ ap length c.as_mut_slice.ensures.value) in
    subst (AllByRecursion IsFew) (sym back) (all_few knows c.args.lease count clients s c.requires.count acted)

pub returns-clause-on : goal.returns-clause-on
returns-clause-on g c =
    let knows = g.S.Shop.knows in
    let count = c.args.count in
    let clients = c.in-Ok.clients.items in
    let s = c.for_each_mut.new.s in
    let was = c.as_mut_slice.result.now in
    let zip : AllZip (HasActed knows count) was s = each_zip (HasActed knows count) was s c.for_each_mut.auto.s
    (λ i d less. let k = (c.for_each_mut.ensures i d less).1 in
    subst (λ x. HasActed knows count x (slice_index_or s i d)) k.argument_is
    (subst (λ y. HasActed knows count k.argument.now y) k.left k.call)) in
    let acted : AllZip (HasActed knows count) clients s =
    subst (λ xs. AllZip (HasActed knows count) xs s) c.as_mut_slice.ensures.value zip in
    let back = written_back c.in-Ok.clients.len s clients c.in-Ok.clients.ok.0 (c.for_each_mut.auto.s ∙ ap length c.as_mut_slice.ensures.value) in
    let shops = subst (λ qs. IfOk c.gathered.result (λ r. r.1.items ≡ map shop_of qs)) back c.gathered.ensures.shops in
    ends_on knows c.args.lease count c.args.shops.items clients s c.in-Ok.ensures.shops c.in-Ok.ensures.lease c.requires.new acted
    (λ r. r.1.items) c.gathered.result shops

pub returns-clause-leased : goal.returns-clause-leased
returns-clause-leased g c =
    let knows = g.S.Shop.knows in
    let count = c.args.count in
    let clients = c.in-Ok.clients.items in
    let s = c.for_each_mut.new.s in
    let was = c.as_mut_slice.result.now in
    let zip : AllZip (HasActed knows count) was s = each_zip (HasActed knows count) was s c.for_each_mut.auto.s
    (λ i d less. let k = (c.for_each_mut.ensures i d less).1 in
    subst (λ x. HasActed knows count x (slice_index_or s i d)) k.argument_is
    (subst (λ y. HasActed knows count k.argument.now y) k.left k.call)) in
    let acted : AllZip (HasActed knows count) clients s =
    subst (λ xs. AllZip (HasActed knows count) xs s) c.as_mut_slice.ensures.value zip in
    let back = written_back c.in-Ok.clients.len s clients c.in-Ok.clients.ok.0 (c.for_each_mut.auto.s ∙ ap length c.as_mut_slice.ensures.value) in
    let shops = subst (λ qs. IfOk c.gathered.result (λ r. r.1.items ≡ map shop_of qs)) back c.gathered.ensures.shops in
    ends_leased knows c.args.lease count c.args.shops.items clients s c.in-Ok.ensures.shops c.in-Ok.ensures.lease c.requires.new acted
    (λ r. r.1.items) c.gathered.result shops
    (subst (λ qs. IfOk c.gathered.result (λ r. AllByRecursion IsDone qs)) back c.gathered.ensures.done)

pub returns-clause-given : goal.returns-clause-given
returns-clause-given g c =
    let knows = g.S.Shop.knows in
    let count = c.args.count in
    let clients = c.in-Ok.clients.items in
    let s = c.for_each_mut.new.s in
    let was = c.as_mut_slice.result.now in
    let zip : AllZip (HasActed knows count) was s = each_zip (HasActed knows count) was s c.for_each_mut.auto.s
    (λ i d less. let k = (c.for_each_mut.ensures i d less).1 in
    subst (λ x. HasActed knows count x (slice_index_or s i d)) k.argument_is
    (subst (λ y. HasActed knows count k.argument.now y) k.left k.call)) in
    let acted : AllZip (HasActed knows count) clients s =
    subst (λ xs. AllZip (HasActed knows count) xs s) c.as_mut_slice.ensures.value zip in
    let back = written_back c.in-Ok.clients.len s clients c.in-Ok.clients.ok.0 (c.for_each_mut.auto.s ∙ ap length c.as_mut_slice.ensures.value) in
    let shops = subst (λ qs. IfOk c.gathered.result (λ r. r.1.items ≡ map shop_of qs)) back c.gathered.ensures.shops in
    ends_given knows c.args.lease count c.args.shops.items clients s c.in-Ok.ensures.shops c.in-Ok.ensures.lease c.requires.new acted
    (λ r. r.1.items) c.gathered.result shops (λ r. r.0.given)
    (subst (λ qs. IfOk c.gathered.result (λ r. AllByRecursion IsDone qs)) back c.gathered.ensures.done)
    (subst (λ qs. IfOk c.gathered.result (λ r. r.0.given ≡ all_given qs)) back c.gathered.ensures.given)

pub returns-clause-leases : goal.returns-clause-leases
returns-clause-leases g c =
    let knows = g.S.Shop.knows in
    let count = c.args.count in
    let clients = c.in-Ok.clients.items in
    let s = c.for_each_mut.new.s in
    let was = c.as_mut_slice.result.now in
    let zip : AllZip (HasActed knows count) was s = each_zip (HasActed knows count) was s c.for_each_mut.auto.s
    (λ i d less. let k = (c.for_each_mut.ensures i d less).1 in
    subst (λ x. HasActed knows count x (slice_index_or s i d)) k.argument_is
    (subst (λ y. HasActed knows count k.argument.now y) k.left k.call)) in
    let acted : AllZip (HasActed knows count) clients s =
    subst (λ xs. AllZip (HasActed knows count) xs s) c.as_mut_slice.ensures.value zip in
    let back = written_back c.in-Ok.clients.len s clients c.in-Ok.clients.ok.0 (c.for_each_mut.auto.s ∙ ap length c.as_mut_slice.ensures.value) in
    let shops = subst (λ qs. IfOk c.gathered.result (λ r. r.1.items ≡ map shop_of qs)) back c.gathered.ensures.shops in
    ends_leases knows c.args.lease count c.args.shops.items clients s c.in-Ok.ensures.shops c.in-Ok.ensures.lease c.requires.new acted
    (λ r. r.1.items) c.gathered.result shops (λ r. r.0.leases)
    (subst (λ qs. IfOk c.gathered.result (λ r. AllByRecursion IsDone qs)) back c.gathered.ensures.done)
    (subst (λ qs. IfOk c.gathered.result (λ r. r.0.leases ≡ all_leases qs)) back c.gathered.ensures.leases)

pub returns-clause-stopped : goal.returns-clause-stopped
returns-clause-stopped g c =
    let knows = g.S.Shop.knows in
    let count = c.args.count in
    let clients = c.in-Ok.clients.items in
    let s = c.for_each_mut.new.s in
    let was = c.as_mut_slice.result.now in
    let zip : AllZip (HasActed knows count) was s = each_zip (HasActed knows count) was s c.for_each_mut.auto.s
    (λ i d less. let k = (c.for_each_mut.ensures i d less).1 in
    subst (λ x. HasActed knows count x (slice_index_or s i d)) k.argument_is
    (subst (λ y. HasActed knows count k.argument.now y) k.left k.call)) in
    let acted : AllZip (HasActed knows count) clients s =
    subst (λ xs. AllZip (HasActed knows count) xs s) c.as_mut_slice.ensures.value zip in
    let back = written_back c.in-Ok.clients.len s clients c.in-Ok.clients.ok.0 (c.for_each_mut.auto.s ∙ ap length c.as_mut_slice.ensures.value) in
    let shops = subst (λ qs. IfOk c.gathered.result (λ r. r.1.items ≡ map shop_of qs)) back c.gathered.ensures.shops in
    ends_stopped knows c.args.lease count c.args.shops.items clients s c.in-Ok.ensures.shops c.in-Ok.ensures.lease c.requires.new acted
    (λ r. r.1.items) c.gathered.result shops
    (subst (λ qs. IfErr c.gathered.result (Gathers qs)) back c.gathered.ensures.stopped)
