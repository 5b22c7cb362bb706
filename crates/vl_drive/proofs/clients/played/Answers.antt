use Rattle.std.proofs.Common.{◌≡◌, true, [], ◌∷◌, ◌++◌, length, map, ap, sym, ◌∙◌, subst}
use Rattle.std.specs.List.{AllByRecursion, AllZip}
use Rattle.std.specs.Prelude.{IfErr, IfOk, slice_index_or}
use Rattle.vl_drive.proofs.Gathering.{all_few, commits_by, conflicts_by, driven_by, each_zip, end_driven, end_modest, end_on, end_stopped, on_by, written_back}
use Rattle.vl_drive.proofs.Playing.{on_itself}
use Rattle.vl_drive.specs.Players.{Gathers, HasActed, IsFew, all_commits, all_conflicts, is_done, shop_of}
use Rattle.vl_drive.proofs.clients.played.Goals as goal

pub gathered-requires-clause-small : goal.gathered-requires-clause-small
gathered-requires-clause-small g c κs within =
    let knows = g.S.Shop.knows in
    let txns = c.args.txns in
    let seed = c.args.seed in
    let players = c.in-Ok.players.items in
    let s = c.for_each_mut.new.s in
    let was = c.as_mut_slice.result.now in
    let zip : AllZip (HasActed knows txns seed) was s = each_zip (HasActed knows txns seed) was s c.for_each_mut.auto.s
    (λ i d less. let k = (c.for_each_mut.ensures i d less).1 in
    subst (λ x. HasActed knows txns seed x (slice_index_or s i d)) k.argument_is
    (subst (λ y. HasActed knows txns seed k.argument.now y) k.left k.call)) in
    let long = c.for_each_mut.auto.s ∙ ap length c.as_mut_slice.ensures.value in
    subst (AllByRecursion IsFew) (sym (written_back c.in-Ok.players.len s players c.in-Ok.players.ok.0 long))
    (all_few knows txns seed was s c.ranges.txns.fits zip)

pub returns-clause-on : goal.returns-clause-on
returns-clause-on g c v on =
    let knows = g.S.Shop.knows in
    let txns = c.args.txns in
    let seed = c.args.seed in
    let vs = map knows c.args.shops.items in
    let u = knows c.args.keeper in
    let players = c.in-Ok.players.items in
    let s = c.for_each_mut.new.s in
    let was = c.as_mut_slice.result.now in
    let zip : AllZip (HasActed knows txns seed) was s = each_zip (HasActed knows txns seed) was s c.for_each_mut.auto.s
    (λ i d less. let k = (c.for_each_mut.ensures i d less).1 in
    subst (λ x. HasActed knows txns seed x (slice_index_or s i d)) k.argument_is
    (subst (λ y. HasActed knows txns seed k.argument.now y) k.left k.call)) in
    let long = c.for_each_mut.auto.s ∙ ap length c.as_mut_slice.ensures.value in
    let back = written_back c.in-Ok.players.len s players c.in-Ok.players.ok.0 long in
    let acted : AllZip (HasActed knows txns seed) players s =
    subst (λ xs. AllZip (HasActed knows txns seed) xs s) c.as_mut_slice.ensures.value zip in
    on_by c.gathered.result (λ r. r.1.items) knows s (vs ++ v ∷ []) (end_on knows txns seed vs v u on players s c.in-Ok.ensures.ready acted)
    (subst (λ qs. IfOk c.gathered.result (λ r. r.1.items ≡ map shop_of qs)) back c.gathered.ensures.shops)

pub returns-clause-driven : goal.returns-clause-driven
returns-clause-driven g c =
    let knows = g.S.Shop.knows in
    let txns = c.args.txns in
    let seed = c.args.seed in
    let vs = map knows c.args.shops.items in
    let u = knows c.args.keeper in
    let players = c.in-Ok.players.items in
    let s = c.for_each_mut.new.s in
    let was = c.as_mut_slice.result.now in
    let zip : AllZip (HasActed knows txns seed) was s = each_zip (HasActed knows txns seed) was s c.for_each_mut.auto.s
    (λ i d less. let k = (c.for_each_mut.ensures i d less).1 in
    subst (λ x. HasActed knows txns seed x (slice_index_or s i d)) k.argument_is
    (subst (λ y. HasActed knows txns seed k.argument.now y) k.left k.call)) in
    let long = c.for_each_mut.auto.s ∙ ap length c.as_mut_slice.ensures.value in
    let back = written_back c.in-Ok.players.len s players c.in-Ok.players.ok.0 long in
    let acted : AllZip (HasActed knows txns seed) players s =
    subst (λ xs. AllZip (HasActed knows txns seed) xs s) c.as_mut_slice.ensures.value zip in
    driven_by c.gathered.result (λ r. r.1.items) knows txns seed s
    (end_driven knows txns seed vs u u (on_itself u) players s c.in-Ok.ensures.ready acted)
    (subst (λ qs. IfOk c.gathered.result (λ r. r.1.items ≡ map shop_of qs)) back c.gathered.ensures.shops)
    (subst (λ qs. IfOk c.gathered.result (λ r. AllByRecursion (λ q. is_done q.end ≡ true) qs)) back c.gathered.ensures.done)

pub returns-clause-commits : goal.returns-clause-commits
returns-clause-commits g c =
    let knows = g.S.Shop.knows in
    let txns = c.args.txns in
    let seed = c.args.seed in
    let vs = map knows c.args.shops.items in
    let u = knows c.args.keeper in
    let players = c.in-Ok.players.items in
    let s = c.for_each_mut.new.s in
    let was = c.as_mut_slice.result.now in
    let zip : AllZip (HasActed knows txns seed) was s = each_zip (HasActed knows txns seed) was s c.for_each_mut.auto.s
    (λ i d less. let k = (c.for_each_mut.ensures i d less).1 in
    subst (λ x. HasActed knows txns seed x (slice_index_or s i d)) k.argument_is
    (subst (λ y. HasActed knows txns seed k.argument.now y) k.left k.call)) in
    let long = c.for_each_mut.auto.s ∙ ap length c.as_mut_slice.ensures.value in
    let back = written_back c.in-Ok.players.len s players c.in-Ok.players.ok.0 long in
    let acted : AllZip (HasActed knows txns seed) players s =
    subst (λ xs. AllZip (HasActed knows txns seed) xs s) c.as_mut_slice.ensures.value zip in
    commits_by c.gathered.result (λ r. r.1.items) (λ r. r.0.commits) knows txns seed s
    (end_driven knows txns seed vs u u (on_itself u) players s c.in-Ok.ensures.ready acted)
    (subst (λ qs. IfOk c.gathered.result (λ r. r.1.items ≡ map shop_of qs)) back c.gathered.ensures.shops)
    (subst (λ qs. IfOk c.gathered.result (λ r. AllByRecursion (λ q. is_done q.end ≡ true) qs)) back c.gathered.ensures.done)
    (subst (λ qs. IfOk c.gathered.result (λ r. r.0.commits ≡ all_commits qs)) back c.gathered.ensures.commits)

pub returns-clause-conflicts : goal.returns-clause-conflicts
returns-clause-conflicts g c =
    let knows = g.S.Shop.knows in
    let txns = c.args.txns in
    let seed = c.args.seed in
    let vs = map knows c.args.shops.items in
    let u = knows c.args.keeper in
    let players = c.in-Ok.players.items in
    let s = c.for_each_mut.new.s in
    let was = c.as_mut_slice.result.now in
    let zip : AllZip (HasActed knows txns seed) was s = each_zip (HasActed knows txns seed) was s c.for_each_mut.auto.s
    (λ i d less. let k = (c.for_each_mut.ensures i d less).1 in
    subst (λ x. HasActed knows txns seed x (slice_index_or s i d)) k.argument_is
    (subst (λ y. HasActed knows txns seed k.argument.now y) k.left k.call)) in
    let long = c.for_each_mut.auto.s ∙ ap length c.as_mut_slice.ensures.value in
    let back = written_back c.in-Ok.players.len s players c.in-Ok.players.ok.0 long in
    let acted : AllZip (HasActed knows txns seed) players s =
    subst (λ xs. AllZip (HasActed knows txns seed) xs s) c.as_mut_slice.ensures.value zip in
    conflicts_by c.gathered.result (λ r. r.1.items) (λ r. r.0.conflicts) knows txns seed s
    (end_driven knows txns seed vs u u (on_itself u) players s c.in-Ok.ensures.ready acted)
    (subst (λ qs. IfOk c.gathered.result (λ r. r.1.items ≡ map shop_of qs)) back c.gathered.ensures.shops)
    (subst (λ qs. IfOk c.gathered.result (λ r. AllByRecursion (λ q. is_done q.end ≡ true) qs)) back c.gathered.ensures.done)
    (subst (λ qs. IfOk c.gathered.result (λ r. r.0.conflicts ≡ all_conflicts qs)) back c.gathered.ensures.conflicts)

pub returns-clause-stopped : goal.returns-clause-stopped
returns-clause-stopped g c v on =
    let knows = g.S.Shop.knows in
    let txns = c.args.txns in
    let seed = c.args.seed in
    let vs = map knows c.args.shops.items in
    let u = knows c.args.keeper in
    let players = c.in-Ok.players.items in
    let s = c.for_each_mut.new.s in
    let was = c.as_mut_slice.result.now in
    let zip : AllZip (HasActed knows txns seed) was s = each_zip (HasActed knows txns seed) was s c.for_each_mut.auto.s
    (λ i d less. let k = (c.for_each_mut.ensures i d less).1 in
    subst (λ x. HasActed knows txns seed x (slice_index_or s i d)) k.argument_is
    (subst (λ y. HasActed knows txns seed k.argument.now y) k.left k.call)) in
    let long = c.for_each_mut.auto.s ∙ ap length c.as_mut_slice.ensures.value in
    let back = written_back c.in-Ok.players.len s players c.in-Ok.players.ok.0 long in
    let acted : AllZip (HasActed knows txns seed) players s =
    subst (λ xs. AllZip (HasActed knows txns seed) xs s) c.as_mut_slice.ensures.value zip in
    end_stopped knows txns seed vs v u on players s c.in-Ok.ensures.ready acted c.gathered.result
    (subst (λ qs. IfErr c.gathered.result (Gathers qs)) back c.gathered.ensures.stopped)

pub returns-clause-modest : goal.returns-clause-modest
returns-clause-modest g c =
    let knows = g.S.Shop.knows in
    let txns = c.args.txns in
    let seed = c.args.seed in
    let vs = map knows c.args.shops.items in
    let u = knows c.args.keeper in
    let players = c.in-Ok.players.items in
    let s = c.for_each_mut.new.s in
    let was = c.as_mut_slice.result.now in
    let zip : AllZip (HasActed knows txns seed) was s = each_zip (HasActed knows txns seed) was s c.for_each_mut.auto.s
    (λ i d less. let k = (c.for_each_mut.ensures i d less).1 in
    subst (λ x. HasActed knows txns seed x (slice_index_or s i d)) k.argument_is
    (subst (λ y. HasActed knows txns seed k.argument.now y) k.left k.call)) in
    let long = c.for_each_mut.auto.s ∙ ap length c.as_mut_slice.ensures.value in
    let back = written_back c.in-Ok.players.len s players c.in-Ok.players.ok.0 long in
    let acted : AllZip (HasActed knows txns seed) players s =
    subst (λ xs. AllZip (HasActed knows txns seed) xs s) c.as_mut_slice.ensures.value zip in
    end_modest knows txns seed vs u u (on_itself u) players s c.in-Ok.ensures.ready acted c.gathered.result
    (subst (λ qs. IfErr c.gathered.result (Gathers qs)) back c.gathered.ensures.stopped)
