-- What a look-up looks for, and in which tables.
use Rattle.std.specs.Prelude.{ℕ, Bool, true, false, ◌&&◌, nat_le, nat_lt, List, Option, Some, None}
use Rattle.vl_model.specs.Winners.{exact, newest_of, winner}
use Rattle.vl_model.specs.declared.entry.Entry.{Entry}
use Rattle.vl_model.specs.Lookups.{if_exact, if_of_key, or_else}
use Rattle.vl_table.specs.declared.body.shape.TableShape.{TableShape}
use Rattle.vl_table.specs.MayHold.{may_hold}
use Rattle.vl_version.specs.declared.levels.look.Look.{Look}
use Rattle.vl_version.specs.declared.levels.look.Look.TheVariants.{UpTo, Exactly}

-- the entry of a key that is looked for among entries
abbrev pub sought : Look → List ℕ → List Entry → Option Entry
sought (UpTo number) key es = winner es key number
sought (Exactly version) key es = exact es key version

-- of what newer sources have and what older ones have the one that counts
abbrev pub better : Look → Option Entry → Option Entry → Option Entry
better (UpTo number) newer older = newest_of newer older
better (Exactly version) newer older = or_else newer older

-- Whether what counts may stand in a source that has this greatest version: one that isn't above what was found has nothing
-- that counts more, and one below the version that is looked for hasn't got it.
abbrev pub is_wanted : Look → (best : Option Entry) → (greatest : ℕ) → Bool
is_wanted (UpTo number) None greatest = true
is_wanted (UpTo number) (Some e) greatest = nat_lt e.version greatest
is_wanted (Exactly version) None greatest = nat_le version greatest
is_wanted (Exactly version) (Some e) greatest = false

-- whether a table must be read: it may have what counts, and may have the key
abbrev pub is_asked : Look → List ℕ → (best : Option Entry) → TableShape → Bool
is_asked look key best s = is_wanted look best s.footer.greatest && may_hold key s

-- what a look-up makes of the first entry at or behind the place that it looks for, and that place's version
abbrev pub makes : Look → List ℕ → Option Entry → Option Entry
makes (UpTo number) key first = if_of_key key first
makes (Exactly version) key first = if_exact key version first

abbrev pub place_version : Look → ℕ
place_version (UpTo number) = number
place_version (Exactly version) = version
