-- What a look-up in some tables answers, and why.
use Rattle.std.specs.Prelude.{◌≡◌, ℕ, true, false, List, [], ◌∷◌, ◌++◌, Option, Result, Ok, Err}
use Rattle.std.specs.Option.{ForSome, option_map}
use Rattle.vl_model.specs.declared.entry.Entry.{Entry}
use Rattle.vl_model.specs.Cutting.{joined}
use Rattle.vl_table.specs.body.Founds.{found_of}
use Rattle.vl_table.specs.declared.body.found.Found.{Found}
use Rattle.vl_disk.specs.Faults.{HasCause}
use Rattle.vl_disk.specs.declared.name.Name.{Name}
use Rattle.vl_disk.specs.declared.name.Name.TheVariants.{Table as table_name}
use Rattle.vl_table.specs.Answers.{Failed, IsAnswer}
use Rattle.vl_table.specs.MayHold.{may_hold}
use Rattle.vl_table.specs.Meets.{Looks}
use Rattle.vl_table.specs.Seeks.{IsBadBlock}
use Rattle.vl_table.specs.Tables.{number_of, shape_of}
use Rattle.vl_disk.specs.declared.read_fault.ReadFault.{ReadFault}
use Rattle.vl_disk.specs.declared.read_fault.ReadFault.TheVariants.{NoMemory, Disk, Damaged}
use Rattle.vl_table.specs.declared.table.Table.{Table}
use Rattle.vl_table.specs.OfTables.{AreOf}
use Rattle.vl_version.specs.levels.Looks.{better, is_asked, makes, place_version, sought}
use Rattle.vl_version.specs.declared.levels.look.Look.{Look}

module _ {H : Type 0} (bytes_of : H → Option (List ℕ)) where
  -- ---- faults

  -- a table among these was asked, since it may hold the key
  pub record IsAsked (ts : List (Table H)) (key : List ℕ) (t : Table H) : Type 0 where
    pub front : List (Table H)
    pub back : List (Table H)
    pub among : ts ≡ front ++ t ∷ back
    pub holds : may_hold key (shape_of t) ≡ true

  -- a fault names a table that was asked
  pub record IsFaultOf (ts : List (Table H)) (key : List ℕ) (name : Name) (P : Table H → Type 0) : Type 0 where
    pub table : Table H
    pub asked : IsAsked ts key table
    pub named : name ≡ table_name (number_of table)
    pub why : P table

  -- where the table's bytes are told, they are damaged at the place
  abbrev pub IsDamagedAt : ℕ → Table H → Type 0
  IsDamagedAt place t = ForSome (bytes_of t.held) (λ bytes. IsBadBlock (shape_of t) bytes place)

  -- where a look-up fails, of which table
  abbrev pub NamesAsked : List (Table H) → List ℕ → Result (Option Found) ReadFault → Type 0
  NamesAsked ts key (Ok found) = Unit {0}
  NamesAsked ts key (Err NoMemory) = Unit {0}
  NamesAsked ts key (Err (Disk name)) = IsFaultOf ts key name (λ t. Unit {0})
  NamesAsked ts key (Err (Damaged name place)) = IsFaultOf ts key name (IsDamagedAt place)

  -- ---- what was looked at

  -- Behind what was found so far a table that is to be asked was looked in, and what it has counts where it counts more. One
  -- that isn't to be asked changes nothing.
  pub record LooksAt (look : Look) (key : List ℕ) (best : Option Entry) (t : Table H) (next : Option Entry) : Type 0 where
    pub skips : is_asked look key best (shape_of t) ≡ false → next ≡ best
    pub asks : is_asked look key best (shape_of t) ≡ true
        → (met : Option Entry)
        × ForSome (bytes_of t.held) (λ bytes. Looks (makes look key) (shape_of t) key (place_version look) bytes met)
        × (next ≡ better look best met)

  -- so were all these tables, one behind the other
  abbrev pub LooksThrough : Look → List ℕ → (best : Option Entry) → List (Table H) → (found : Option Entry) → Type 0
  LooksThrough look key best [] found = found ≡ best
  LooksThrough look key best (t ∷ ts) found = (next : Option Entry) × LooksAt look key best t next × LooksThrough look key next ts found

  -- So were these tables up to one that was to be asked, and there it failed.
  pub record StopsAt (look : Look) (key : List ℕ) (best : Option Entry) (ts : List (Table H)) (name : Name)
      (P : Table H → Type 0) : Type 0 where
    pub front : List (Table H)
    pub table : Table H
    pub back : List (Table H)
    pub among : ts ≡ front ++ table ∷ back
    pub next : Option Entry
    pub through : LooksThrough look key best front next
    pub asked : is_asked look key next (shape_of table) ≡ true
    pub named : name ≡ table_name (number_of table)
    pub why : P table

  -- an answer is so: all of them were looked in, or those up to the first that failed
  abbrev pub LooksInAll : Look → List ℕ → (best : Option Entry) → List (Table H) → Result (Option Found) ReadFault → Type 0
  LooksInAll look key best ts (Ok found) = LooksThrough look key best ts (option_map (found_of key) found)
  LooksInAll look key best ts (Err NoMemory) = Unit {0}
  LooksInAll look key best ts (Err (Disk name)) = StopsAt look key best ts name (λ t. Unit {0})
  LooksInAll look key best ts (Err (Damaged name place)) = StopsAt look key best ts name (IsDamagedAt place)

  -- ---- the answer

  -- Behind what was found so far this is answered of these tables: what counts among it and their entries, end to end, where
  -- they are true and lawful, and then they aren't damaged; or a fault of one that may hold the key. Reading failed only where
  -- that was counted.
  pub record LooksOn (ts : List (Table H)) (Lawful : Type 0) (look : Look) (key : List ℕ) (best : Option Entry) (before now : ℕ)
      (result : Result (Option Found) ReadFault) : Type 0 where
    pub cause : HasCause before now (Failed result)
    pub fault : NamesAsked ts key result
    pub answer : Lawful → (ess : List (List Entry)) → AreOf bytes_of ts ess
        → IsAnswer (λ found. option_map (found_of key) found ≡ better look best (sought look key (joined ess))) (λ place. ⊥) result

  -- The same where nothing was found before: the answer is what is to be found among all entries.
  pub record LookedUp (ts : List (Table H)) (Lawful : Type 0) (find : List Entry → Option Entry) (key : List ℕ) (before now : ℕ)
      (result : Result (Option Found) ReadFault) : Type 0 where
    pub cause : HasCause before now (Failed result)
    pub fault : NamesAsked ts key result
    pub answer : Lawful → (ess : List (List Entry)) → AreOf bytes_of ts ess
        → IsAnswer (λ found. option_map (found_of key) found ≡ find (joined ess)) (λ place. ⊥) result
