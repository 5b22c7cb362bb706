-- What the sources of a version hold, and where their pointers lead.
use Rattle.std.specs.Prelude.{◌≡◌, ℕ, ◌<◌, ◌==◌, if◌then◌else◌, IsSome, List, [], ◌∷◌, ◌++◌, option_and_then, Option, Some, None}
use Rattle.std.specs.List.{AllByRecursion, flat_map}
use Rattle.vl_model.specs.Cutting.{joined}
use Rattle.vl_memtable.specs.declared.frozen_log.FrozenLog.{FrozenLog}
use Rattle.vl_model.specs.Winners.{Logs, resolved}
use Rattle.vl_model.specs.declared.entry.Entry.{Entry}
use Rattle.vl_seglog.specs.Stored.{stored_at}
use Rattle.vl_seglog.specs.declared.sealed.SealedLog.{SealedLog}
use Rattle.vl_table.specs.OfTables.{AreOf}
use Rattle.vl_table.specs.declared.table.Table.{Table}
use Rattle.vl_version.specs.declared.version.Version.{Version}
use Rattle.vl_version.specs.levels.LevelsLooked.{AreInOrder, tables_of}

-- the entries of frozen logs, end to end
abbrev pub held_entries : List FrozenLog → List Entry
held_entries all = flat_map (λ (log : FrozenLog). log.memtable.entries) all

module _ {H : Type 0} where
  -- ---- logs

  -- the log with this number
  abbrev pub log_in : List (SealedLog H) → ℕ → Option (SealedLog H)
  log_in [] number = None
  log_in (log ∷ logs) number = if log.number == number then Some log else log_in logs number

  -- what stands at a pointer in these logs, where their bytes are told: in the one whose number is the pointer's segment
  abbrev pub stored_in : (H → Option (List ℕ)) → List (SealedLog H) → Logs
  stored_in bytes_of logs pointer key =
      option_and_then (λ (log : SealedLog H). option_and_then (λ bytes. stored_at log.format bytes pointer key) (bytes_of log.held))
      (log_in logs pointer.segment)

  -- each of these logs has a greater number than the one before
  abbrev pub AreRising : List (SealedLog H) → Type 0
  AreRising [] = Unit {0}
  AreRising (log ∷ []) = Unit {0}
  AreRising (log ∷ next ∷ logs) = (log.number < next.number) × AreRising (next ∷ logs)

  -- their bytes are told, and their numbers rise
  pub record AreTold (bytes_of : H → Option (List ℕ)) (logs : List (SealedLog H)) : Type 0 where
    pub told : AllByRecursion (λ (log : SealedLog H). IsSome (bytes_of log.held)) logs
    pub rising : AreRising logs

  -- ---- versions

  -- the entries in memory, end to end, the newest source first
  abbrev pub in_memory : Version H → List Entry
  in_memory version = version.active.entries ++ held_entries version.behind.frozen.items

  -- its tables, the newest source first
  abbrev pub tables_in : Version H → List (Table H)
  tables_in version = tables_of version.behind.levels

  -- the entry leads in the version's logs to what it leads to in these
  abbrev pub LeadsIn : (H → Option (List ℕ)) → Version H → Logs → Entry → Type 0
  LeadsIn bytes_of version logs e =
      resolved (stored_in bytes_of version.behind.logs.items) e.key e.body ≡ resolved logs e.key e.body

  -- These are the entries of all sources, end to end, the newest source first, and they lead to what `logs` says. Its tables
  -- are true, and lie in order in their levels.
  pub record HasEntries (bytes_of : H → Option (List ℕ)) (version : Version H) (es : List Entry) (logs : Logs) : Type 0 where
    pub tabled : List (List Entry)
    pub tables : AreOf bytes_of (tables_in version) tabled
    pub in_order : AreInOrder version.behind.levels
    pub entries : es ≡ in_memory version ++ joined tabled
    pub told : AreTold bytes_of version.behind.logs.items
    pub leads : AllByRecursion (LeadsIn bytes_of version logs) es
