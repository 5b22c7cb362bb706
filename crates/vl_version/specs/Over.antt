-- What a look-up over memory and tables answers, also if the tables aren't true: so no answer hides a block that had to be
-- read and doesn't stand.
use Rattle.std.specs.Prelude.{◌≡◌, ℕ, List, Option, Result, Ok, Err}
use Rattle.std.specs.Option.{option_map}
use Rattle.vl_table.specs.body.Founds.{found_of}
use Rattle.vl_table.specs.declared.body.found.Found.{Found}
use Rattle.vl_model.specs.Winners.{newest_of, winner}
use Rattle.vl_model.specs.declared.entry.Entry.{Entry}
use Rattle.vl_disk.specs.declared.read_fault.ReadFault.{ReadFault}
use Rattle.vl_version.specs.Newest.{stand_in}
use Rattle.vl_version.specs.Sources.{in_memory, tables_in}
use Rattle.vl_version.specs.declared.levels.look.Look.TheVariants.{UpTo}
use Rattle.vl_version.specs.declared.version.Version.{Version}
use Rattle.vl_version.specs.levels.LookedUp.{LooksInAll}

module _ {H : Type 0} (bytes_of : H → Option (List ℕ)) (version : Version H) (key : List ℕ) (number : ℕ) where
  -- what counts in memory
  abbrev pub held_winner : Option Entry
  held_winner = winner (in_memory version) key number

  -- What memory has is answered with what the tables have above it, where they were looked through; else their fault is.
  abbrev pub FollowsFrom : {T : Type 0} → (Option Entry → Result T ReadFault → Type 0) → Result (Option Found) ReadFault
      → Result T ReadFault → Type 0
  FollowsFrom answers (Ok found) result = answers (newest_of held_winner (option_map (found_of key) found)) result
  FollowsFrom answers (Err fault) result = result ≡ Err fault

  -- All tables were looked through behind what memory has, or those up to the first that failed, and so it is answered.
  pub record LooksOver {T : Type 0} (answers : Option Entry → Result T ReadFault → Type 0) (result : Result T ReadFault)
      : Type 0 where
    pub met : Result (Option Found) ReadFault
    pub looks : LooksInAll bytes_of (UpTo number) key (option_map (found_of key) (stand_in held_winner)) (tables_in version) met
    pub follows : FollowsFrom answers met result
