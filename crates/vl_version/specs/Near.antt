-- Entries whose values stand in memory or beside their keys, so that no log is read for them.
use Rattle.std.specs.Prelude.{List}
use Rattle.std.specs.List.{AllByRecursion}
use Rattle.vl_model.specs.declared.entry.Body.{Body}
use Rattle.vl_model.specs.declared.entry.Body.TheVariants.{Far, Gone, Inline, Logged}
use Rattle.vl_model.specs.declared.entry.Entry.{Entry}

abbrev pub IsNear : Body → Type 0
IsNear (Inline value) = Unit {0}
IsNear Gone = Unit {0}
IsNear (Far pointer) = ⊥
IsNear (Logged value pointer) = Unit {0}

abbrev pub IsNearEntry : Entry → Type 0
IsNearEntry e = IsNear e.body

abbrev pub AreNear : List Entry → Type 0
AreNear es = AllByRecursion IsNearEntry es
