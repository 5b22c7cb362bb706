-- A table's making and the switch behind it, as one run.
use Rattle.std.proofs.Common.{◌≡◌, inl, ℕ, List, arith}
use Rattle.std.specs.Prelude.{Option, Result, Ok, Err, IsErr}
use Rattle.std.specs.Option.{ForSome}
use Rattle.vl_back.specs.Writing.{WhileWriting, flush_files, written}
use Rattle.vl_disk.specs.Disk.{IsChangedBy, Stands}
use Rattle.vl_disk.specs.DiskState.{DiskState, settled}
use Rattle.vl_disk.specs.MadeFile.{WhileMaking, made}
use Rattle.vl_disk.specs.Performs.{FailedAt, Performs, calls_on}
use Rattle.vl_disk.specs.declared.errors.Failed.{Failed}
use Rattle.vl_disk.specs.declared.name.Name.{Name}
use Rattle.vl_disk.specs.declared.name.Name.TheVariants.{Manifest, Table}
use Rattle.vl_disk.specs.declared.watched.Watched.{Ghosts}
use Rattle.vl_disk.specs.laws.NameMap.{get_inserted_other}
use Rattle.vl_disk.specs.laws.Performing.{failed_before, failed_behind, failed_on, performs_stop, performs_then}
use Rattle.vl_disk.specs.laws.Standing.{holds_after}
use Rattle.vl_manifest.specs.Switching.{Switches, WhileSwitching, switched}

pub other_name : (n m : ℕ) → Manifest m ≡ Table n → ⊥
other_name n m e = cc

-- the manifest stands as before
pub still_stands : (table manifest : ℕ) (bytes : List ℕ) (old new : Option DiskState)
    → IsChangedBy (made (Table table) bytes) old new → ForSome old (Stands (Manifest manifest)) → ForSome new (Stands (Manifest manifest))
still_stands table manifest bytes old new changed =
    holds_after (made (Table table) bytes) old new (Stands (Manifest manifest)) (Stands (Manifest manifest)) changed
    (λ disk stands. sym_stands disk stands)
  where
    sym_stands : (disk : DiskState) → Stands (Manifest manifest) disk → Stands (Manifest manifest) (made (Table table) bytes disk)
    sym_stands disk stands =
        rw (get_inserted_other disk.standing (Table table) (settled bytes) (Manifest manifest) (other_name table manifest)) stands

module _ {D X : Type 0} (g : Ghosts D) (table : ℕ) (bytes : List ℕ) (manifest : ℕ) (frame : List ℕ) (old : D) where
  -- the table wasn't made or held
  module _ (new : D) (e : Failed)
      (made_part : Performs {T = X} g (made (Table table) bytes) (WhileMaking (Table table) bytes) 3 old new (Err e)) where
    pub stops_at_table : (result : Result X Name) → IsErr result
        → Performs g (written table bytes manifest frame) (WhileWriting table bytes manifest frame) 5 old new result
    stops_at_table result failed =
        performs_stop g old new (made (Table table) bytes) (WhileMaking (Table table) bytes) (WhileWriting table bytes manifest frame) 3 5
        (λ disk now is. inl is) (written table bytes manifest frame) e result failed (omega arith) made_part

    pub failed_at_table : FailedAt (flush_files table manifest) (g.calls old) (g.calls new) (Table table)
    failed_at_table =
        failed_before (calls_on 3 (Table table)) (calls_on 2 (Manifest manifest)) (g.calls old) (g.calls new) (Table table)
        (failed_on 3 (Table table) (g.calls old) (g.calls new) made_part.stops)

  -- it was
  module _ {A : Type 0} (mid new : D) (x : X)
      (makes : Performs {E = Failed} g (made (Table table) bytes) (WhileMaking (Table table) bytes) 3 old mid (Ok x)) where
    pub all_written : (y : A) → Switches {E = Failed} g manifest frame mid new (Ok y)
        → Performs {E = Name} g (written table bytes manifest frame) (WhileWriting table bytes manifest frame) 5 old new (Ok x)
    all_written y switches =
        performs_then {E = Failed} g (made (Table table) bytes) (switched manifest frame)
        (WhileMaking (Table table) bytes) (WhileSwitching manifest frame) 3 2
        old mid new x (Ok x) makes (record {
          done = switches.performs.done;
          calls = switches.performs.calls;
          stops = tt;
          tells = switches.performs.tells;
          time = switches.performs.time;
          cause = switches.performs.cause;
        })

    pub stops_at_switch : (e : Failed) (name : Name) → Switches {T = A} g manifest frame mid new (Err e)
        → Performs {T = X} g (written table bytes manifest frame) (WhileWriting table bytes manifest frame) 5 old new (Err name)
    stops_at_switch e name switches =
        performs_then {E = Failed} g (made (Table table) bytes) (switched manifest frame)
        (WhileMaking (Table table) bytes) (WhileSwitching manifest frame) 3 2
        old mid new x (Err name) makes (record {
          done = tt;
          calls = tt;
          stops = switches.performs.stops;
          tells = switches.performs.tells;
          time = switches.performs.time;
          cause = switches.performs.cause;
        })

    pub failed_at_switch : (e : Failed) → Switches {T = A} g manifest frame mid new (Err e)
        → FailedAt (flush_files table manifest) (g.calls old) (g.calls new) (Manifest manifest)
    failed_at_switch e switches =
        failed_behind (calls_on 3 (Table table)) (calls_on 2 (Manifest manifest)) (g.calls old) (g.calls mid) (g.calls new)
        (Manifest manifest) makes.calls (failed_on 2 (Manifest manifest) (g.calls mid) (g.calls new) switches.performs.stops)
