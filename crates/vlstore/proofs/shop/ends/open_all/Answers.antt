use Rattle.std.proofs.Common.{map, ap, sym, ◌∙◌, subst}
use Rattle.vl_drive.specs.Stores as drive
use Rattle.vlstore.specs.Lists.{past_of}
use Rattle.vlstore.specs.Shops.{known_by, opened_by}
use Rattle.vlstore.proofs.EmptyDisk.{first_base}
use Rattle.vlstore.proofs.ShopStores.{first_so, first_sure, map_same}
use Rattle.vlstore.proofs.shop.ends.open_all.Goals as goal

pub all_sure-requires : goal.all_sure-requires
all_sure-requires g c = record {
  each = first_sure c.in-Ok.store 0 c.in-Ok.sessions.items (c.in-Ok.ensures.tells ∙ c.in_ok-engine.ensures.tells)
      (ap (λ o. o.layout.halted) c.in-Ok.ensures.origin) c.in-Ok.ensures.first;
}

pub returns-in_ok-shops-in-Ok-clause-first : goal.returns-in_ok-shops-in-Ok-clause-first
returns-in_ok-shops-in-Ok-clause-first g c =
    let store = c.in-Ok.store in
    let shops = c.in_ok-shops-in-Ok.shops.items in
    let known = map_same shops ∙ ap (map known_by) c.in_ok-shops-in-Ok.ensures in
    subst (drive.AreFirst (opened_by store) 0) (sym known) (first_so store 0 c.in-Ok.sessions.items c.in-Ok.ensures.first)

pub returns-in_ok-shops-in-Ok-clause-base : goal.returns-in_ok-shops-in-Ok-clause-base
returns-in_ok-shops-in-Ok-clause-base g c = ap (λ o. past_of o.base) c.in-Ok.ensures.origin ∙ first_base
