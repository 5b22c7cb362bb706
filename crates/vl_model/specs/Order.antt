-- The order of entries: keys rise, and of one key the versions fall.
use Rattle.std.specs.Ordering.{ordering_then, nat_cmp}
use Rattle.std.specs.declared.cmp.Ordering.{Ordering}
use Rattle.vl_model.specs.Keys.{key_cmp}
use Rattle.vl_model.specs.declared.order.Place.{Place}
use Rattle.vl_model.specs.Entries.{entry_cmp}
use Rattle.vl_model.specs.declared.entry.Entry.{Entry}
use Rattle.vl_model.specs.declared.way.Way.{Way}
use Rattle.vl_model.specs.declared.way.Way.TheVariants.{Up, Down}

-- how two places stand to each other
abbrev pub place_cmp : Place → Place → Ordering
place_cmp a b = ordering_then (key_cmp a.key.now b.key.now) (nat_cmp b.version a.version)

-- how two entries stand to each other on a way: down, the last comes first
abbrev pub way_cmp : Way → Entry → Entry → Ordering
way_cmp Up e f = entry_cmp e f
way_cmp Down e f = entry_cmp f e
