-- The versions of a key, as they are looked for in all sources from the newest on.
use Rattle.std.specs.Prelude.{◌≡◌, ℕ, zero, suc, List, [], Option, Some, None, Result, Ok, Err}
use Rattle.std.specs.Option.{option_map}
use Rattle.vl_disk.specs.Faults.{HasCause}
use Rattle.vl_model.specs.Winners.{Logs}
use Rattle.vl_model.specs.declared.entry.Entry.{Entry}
use Rattle.vl_table.specs.Kept.{Files}
use Rattle.vl_table.specs.KeptBlocks.{AreKept, ReadsOf}
use Rattle.vl_table.specs.declared.block_reader.BlockReader.{BlockReader}
use Rattle.vl_version.specs.Answers.{IsAnswer}
use Rattle.vl_version.specs.Faults.{Failed}
use Rattle.vl_version.specs.Over.{LooksOver}
use Rattle.vl_version.specs.Sources.{HasEntries, tables_in}
use Rattle.vl_disk.specs.declared.read_fault.ReadFault.{ReadFault}
use Rattle.vl_version.specs.declared.version.Version.{Version}

-- just the version that is wanted is answered, if there is one, and no damage is met
abbrev pub IsVersion : Option ℕ → Result (Option ℕ) ReadFault → Type 0
IsVersion wanted result = IsAnswer (λ found. found ≡ wanted) (λ name place. ⊥) result

-- A version was looked for that the entries of all sources have. No log is read for it.
pub record SeeksVersion {H R : Type 0} (bytes_of : H → Option (List ℕ)) (faults : R → ℕ) (version : Version H)
    (wanted : List Entry → Option ℕ) (old new : BlockReader R) (result : Result (Option ℕ) ReadFault) : Type 0 where
  pub cause : HasCause (faults old.reader) (faults new.reader) (Failed result)
  pub near : tables_in version ≡ [] → Failed result → ⊥
  pub kept : (files : Files) → ReadsOf bytes_of files old (tables_in version) → AreKept files new
  pub answers : (files : Files) (es : List Entry) (logs : Logs) → ReadsOf bytes_of files old (tables_in version)
      → HasEntries bytes_of version es logs → IsVersion (wanted es) result

-- ---- answers over tables that may not be true

-- the version of what counts is answered
abbrev pub IsVersionOf : Option Entry → Result (Option ℕ) ReadFault → Type 0
IsVersionOf winner result = result ≡ Ok (option_map (λ (e : Entry). e.version) winner)

module _ {H : Type 0} (bytes_of : H → Option (List ℕ)) (version : Version H) (key : List ℕ) where
  -- The newest version of a key below a bound was looked up in memory and in each table that may have it, up to the first that
  -- fails. Below zero there is none.
  abbrev pub LooksBelow : (bound : ℕ) → Result (Option ℕ) ReadFault → Type 0
  LooksBelow zero result = result ≡ Ok None
  LooksBelow (suc number) result = LooksOver bytes_of version key number IsVersionOf result

  -- so was the one behind a newer one, where that was found
  abbrev pub LooksBehind : (newer result : Result (Option ℕ) ReadFault) → Type 0
  LooksBehind (Ok None) result = result ≡ Ok None
  LooksBehind (Ok (Some bound)) result = LooksBelow bound result
  LooksBehind (Err fault) result = result ≡ Err fault

  -- so were the newest ones below a bound, one behind the other, and the nth is answered; the bound itself for 0
  abbrev pub LooksNth : (bound nth : ℕ) → Result (Option ℕ) ReadFault → Type 0
  LooksNth bound zero result = result ≡ Ok (Some bound)
  LooksNth bound (suc n) result =
      (newer : Result (Option ℕ) ReadFault) × LooksNth bound n newer × LooksBehind newer result
