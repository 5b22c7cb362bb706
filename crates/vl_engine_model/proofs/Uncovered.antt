-- What merges and drains don't do, by example: a merge may uncover a record that was moved, so that it wins exactly again, and a
-- drain then changes nothing, for ever.
use Rattle.std.proofs.Common.{◌≡◌, ℕ, Bool, true, false, List, [], ◌∷◌, refl}
use Rattle.std.specs.Prelude.{Option, Some, None}
use Rattle.vl_model.specs.Formats.{log_format, table_format}
use Rattle.vl_model.specs.Keys.{untagged}
use Rattle.vl_model.specs.Winners.{wins_exactly}
use Rattle.vl_model.specs.declared.entry.Entry.{Entry}
use Rattle.vl_model.specs.declared.entry.Body.TheVariants.{Inline, Far}
use Rattle.vl_engine_model.specs.Levels.{first_into}
use Rattle.vl_engine_model.specs.Logs.{new_segment}
use Rattle.vl_engine_model.specs.Sources.{sources, tables}
use Rattle.vl_engine_model.specs.Start.{fresh_layout}
use Rattle.vl_engine_model.specs.Store.Lines.{Line, Plan, Drain, Install, Done, Number, Idle}
use Rattle.vl_engine_model.specs.Store.Dispatch.{answers, state_behind}
use Rattle.vl_engine_model.specs.Store.Things.{State}
use Rattle.vl_engine_model.specs.Tables.{new_table}
use Rattle.vl_engine_model.specs.declared.layout.Layout.{Layout}
use Rattle.vl_engine_model.specs.declared.table.Table.{Table}

abbrev store_of : ℕ → Layout → State
store_of last l = record { commits = record { first = last; base = []; commits = [] }; layout = l; things = [] }

abbrev far : ℕ → ℕ → ℕ → Entry
far key version segment = record { key = key ∷ []; version = version; body = Far (record { segment = segment; place = 33; length = 74 }) }

abbrev short : ℕ → ℕ → Entry
short key version = record { key = key ∷ []; version = version; body = Inline (untagged (1 ∷ [])) }

abbrev j : List ℕ
j = 0x6a ∷ []

abbrev merge : List Line
merge = Plan j ∷ Install j ∷ []

abbrev drain : List Line
drain = Drain j 1 ∷ Install j ∷ []

abbrev wins : State → Bool
wins s = wins_exactly (sources s.layout) 1 (0x61 ∷ []) 1 33

-- what the first table that leads into log 1 has
abbrev into : State → Option (List Entry)
into s = entries_of (first_into 1 (tables s.layout))
  where
    entries_of : Option Table → Option (List Entry)
    entries_of None = None
    entries_of (Some t) = Some t.entries

-- ---- a merge uncovers

-- in level 2 an old table that leads into log 1; in level 0 the record moved to log 2, and a newer version of its key
abbrev moved_away : State
moved_away = store_of 4 (record (fresh_layout 1000) {
  active = new_segment log_format 9 [];
  levels = (new_table table_format 5 (short 0x63 4 ∷ []) ∷ new_table table_format 4 (short 0x62 3 ∷ []) ∷ new_table
      table_format 3 (short 0x61 2 ∷ []) ∷ new_table table_format 2 (far 0x61 1 2 ∷ []) ∷ []) ∷ []
      ∷ (new_table table_format 1 (far 0x61 1 1 ∷ []) ∷ []) ∷ [] ∷ [] ∷ [] ∷ [] ∷ [];
  next_log = 10;
  next_table = 6;
})

-- nothing of log 1 wins exactly; the merge of level 0 drops the moved copy, and the old record wins exactly again
uncovered : (wins moved_away ≡ false) × (answers moved_away merge ≡ Number 3 ∷ Done ∷ []) × (wins (state_behind moved_away merge) ≡ true)
uncovered = (refl, refl, refl)

-- a drain writes the same table again, and again
drained_twice : (into (state_behind (state_behind moved_away merge) drain) ≡ Some (far 0x61 1 1 ∷ []))
    × (into (state_behind (state_behind (state_behind moved_away merge) drain) drain) ≡ Some (far 0x61 1 1 ∷ []))
drained_twice = (refl, refl)

-- ---- a drain uncovers

-- no entry into log 1 wins exactly: 62 stands moved in front, and 61 in the same table as its newer version
abbrev both_moved : State
both_moved = store_of 4 (record (fresh_layout 1000) {
  active = new_segment log_format 9 [];
  levels = (new_table table_format 4 (far 0x62 1 3 ∷ []) ∷ new_table table_format 3
      (short 0x61 2 ∷ far 0x61 1 2 ∷ far 0x62 1 1 ∷ []) ∷ []) ∷ [] ∷ (new_table table_format 1 (far 0x61 1 1 ∷ []) ∷ [])
      ∷ [] ∷ [] ∷ [] ∷ [] ∷ [];
  next_log = 10;
  next_table = 5;
})

-- the first drain drops the moved copy of 61 as outdated, and no further one ends
drained_open : (wins both_moved ≡ false) × (wins (state_behind both_moved drain) ≡ true)
    × (into (state_behind (state_behind both_moved drain) drain) ≡ Some (far 0x61 1 1 ∷ []))
drained_open = (refl, refl, refl)

-- ---- an older version stays

-- a key was written, and written again, each flushed; nobody reads the older version
abbrev twice : State
twice = store_of 2 (record (fresh_layout 1000) {
  active = new_segment log_format 3 [];
  levels = (new_table table_format 2 (far 0x61 2 2 ∷ []) ∷ new_table table_format 1 (far 0x61 1 1 ∷ []) ∷ []) ∷ [] ∷ []
      ∷ [] ∷ [] ∷ [] ∷ [] ∷ [];
  next_log = 4;
  next_table = 3;
})

-- no level is due, and a drain keeps it
still_there : (answers twice (Plan j ∷ []) ≡ Idle ∷ []) × (into (state_behind twice drain) ≡ Some (far 0x61 1 1 ∷ [])) × (wins twice ≡ true)
still_there = (refl, refl, refl)
