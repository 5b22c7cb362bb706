-- Of which file a fault is, over any disk, also where its bytes aren't told and its tables aren't true: of a table that may
-- have what is asked for, or of a log.
use Rattle.std.specs.declared.clone.Clone as Clone
use Rattle.vl_disk.specs.declared.reader.HeldFile as HeldFile
use Rattle.std.specs.Prelude.{◌≡◌, ◌⊎◌, ◌++◌, ℕ, true, List, [], ◌∷◌, Option}
use Rattle.vl_disk.specs.declared.name.Name.{Name}
use Rattle.vl_disk.specs.declared.name.Name.TheVariants.{Log as log_name, Manifest as manifest_name, Table as table_name}
use Rattle.vl_disk.specs.declared.read_fault.ReadFault.{ReadFault}
use Rattle.vl_disk.specs.declared.read_fault.ReadFault.TheVariants.{NoMemory, Disk, Damaged}
use Rattle.vl_merge.specs.MergeOf.{OneMayFail}
use Rattle.vl_model.specs.declared.span.Span.{Span}
use Rattle.vl_seglog.specs.declared.sealed.SealedLog.{SealedLog}
use Rattle.vl_table.specs.CursorParts.{MayFailOn}
use Rattle.vl_table.specs.MayHold.{meets}
use Rattle.vl_table.specs.Tables.{number_of, shape_of}
use Rattle.vl_table.specs.declared.table.Table.{Table}
use Rattle.vl_version.specs.Gives.{SourceMayFail}
use Rattle.vl_version.specs.declared.source.Source.{Source}
use Rattle.vl_version.specs.levels.LookedUp.{IsDamagedAt, IsFaultOf}

-- the name is a log's
abbrev pub IsLogName : Name → Type 0
IsLogName (log_name number) = Unit {0}
IsLogName (table_name number) = ⊥
IsLogName (manifest_name number) = ⊥

module _ {H : Type 0} where
  -- one of these tables is so
  abbrev pub OneTable : (Table H → Type 0) → List (Table H) → Type 0
  OneTable P [] = ⊥
  OneTable P (t ∷ ts) = P t ⊎ OneTable P ts

  -- one of these logs has this name
  abbrev pub IsLogOf : List (SealedLog H) → Name → Type 0
  IsLogOf [] name = ⊥
  IsLogOf (log ∷ logs) name = (name ≡ log_name log.number) ⊎ IsLogOf logs name

  -- A fault of reading a value is of one of these logs, where its reader failed, and of a log, where nothing stands at a pointer.
  abbrev pub IsLogFault : List (SealedLog H) → ReadFault → Type 0
  IsLogFault logs NoMemory = Unit {0}
  IsLogFault logs (Disk name) = IsLogOf logs name
  IsLogFault logs (Damaged name place) = IsLogName name

  module _ (bytes_of : H → Option (List ℕ)) where
    -- ---- look-ups

    -- a fault of looking through these tables is of one that may hold the key
    abbrev pub IsAskedFault : List (Table H) → List ℕ → ReadFault → Type 0
    IsAskedFault ts key NoMemory = Unit {0}
    IsAskedFault ts key (Disk name) = IsFaultOf bytes_of ts key name (λ t. Unit {0})
    IsAskedFault ts key (Damaged name place) = IsFaultOf bytes_of ts key name (IsDamagedAt bytes_of place)

    -- and one of a look-up is that, or is of a log
    abbrev pub IsKeyFault : List (Table H) → List (SealedLog H) → List ℕ → ReadFault → Type 0
    IsKeyFault ts logs key fault = IsAskedFault ts key fault ⊎ IsLogFault logs fault

    -- ---- scans

    module _ (span : Span) where
      -- the table has this name, its range meets the interval, and so it is
      pub record IsMet (name : Name) (P : Table H → Type 0) (t : Table H) : Type 0 where
        pub named : name ≡ table_name (number_of t)
        pub meets : meets span (shape_of t) ≡ true
        pub why : P t

      -- A fault is of one of these tables, whose range meets the interval; and where it says that it is damaged, a block that its
      -- index names doesn't stand there.
      abbrev pub IsMetFault : List (Table H) → ReadFault → Type 0
      IsMetFault ts NoMemory = Unit {0}
      IsMetFault ts (Disk name) = OneTable (IsMet name (λ t. Unit {0})) ts
      IsMetFault ts (Damaged name place) = OneTable (IsMet name (IsDamagedAt bytes_of place)) ts

      -- so it is, or it is of a log
      abbrev pub IsScanFault : List (Table H) → List (SealedLog H) → ReadFault → Type 0
      IsScanFault ts logs fault = IsMetFault ts fault ⊎ IsLogFault logs fault

      -- so are the faults of a cursor over these
      abbrev pub MeetFaults : List (Table H) → (met : List (Table H)) → Type 0
      MeetFaults ts met = (fault : ReadFault) → MayFailOn bytes_of met fault → IsMetFault ts fault

      module _ {R : Type 0} {g : HeldFile.Ghosts H} {k : Clone.Ghosts H} where
        -- so are those of these sources
        abbrev pub FailWithin : List (Table H) → List (Source H R g k) → Type 0
        FailWithin ts sources = (fault : ReadFault) → OneMayFail (λ source why. SourceMayFail bytes_of source why) sources fault
            → IsMetFault ts fault

        -- the sources after may fail as those before, and on these tables
        abbrev pub AddFaults : List (Table H) → List (Source H R g k) → List (Source H R g k) → Type 0
        AddFaults ts old new = (before : List (Table H)) → FailWithin before old → FailWithin (before ++ ts) new
