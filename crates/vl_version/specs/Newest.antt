-- What counts of a key: of what memory has, and of what tables have.
use Rattle.std.specs.Prelude.{ℕ, List, Option, Some, None}
use Rattle.vl_table.specs.body.Founds.{found_of}
use Rattle.vl_table.specs.declared.body.found.Found.{Found}
use Rattle.vl_table.specs.declared.body.found.FoundBody.TheVariants.{Gone}
use Rattle.vl_model.specs.declared.entry.Entry.{Entry}
use Rattle.vl_version.specs.declared.newest.Newest.{Newest}
use Rattle.vl_version.specs.declared.newest.Newest.TheVariants as newest

-- the entry that counts
abbrev pub newest_entry : List ℕ → Newest → Option Entry
newest_entry key newest.None = None
newest_entry key (newest.Held e) = Some e.now
newest_entry key (newest.Tabled found) = Some (found_of key found)

-- An entry's version alone: tables are looked through behind it, and what isn't above it isn't looked for.
abbrev pub stand_in : Option Entry → Option Found
stand_in None = None
stand_in (Some e) = Some (record { version = e.version; body = Gone })
