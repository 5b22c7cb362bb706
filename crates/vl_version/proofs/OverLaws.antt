-- A look-up over memory and tables, where the tables are those behind the memtable that takes commits.
use Rattle.std.proofs.Common.{◌≡◌, ℕ, List, [], ◌∷◌, ◌++◌, Option, sym, subst}
use Rattle.std.specs.Prelude.{Result, Ok, Err}
use Rattle.std.specs.Option.{option_map}
use Rattle.vl_table.specs.body.Founds.{found_of}
use Rattle.vl_table.specs.declared.body.found.Found.{Found}
use Rattle.vl_model.specs.Winners.{newest_of}
use Rattle.vl_model.specs.declared.entry.Entry.{Entry}
use Rattle.vl_table.specs.Answers.{Failed}
use Rattle.vl_table.specs.Kept.{Files}
use Rattle.vl_table.specs.KeptBlocks.{ReadsOf}
use Rattle.vl_table.specs.declared.block_reader.BlockReader.{BlockReader}
use Rattle.vl_disk.specs.declared.read_fault.ReadFault.{ReadFault}
use Rattle.vl_disk.specs.declared.read_fault.ReadFault.TheVariants as table
use Rattle.vl_table.specs.declared.table.Table.{Table}
use Rattle.vl_version.specs.Newest.{stand_in}
use Rattle.vl_version.specs.Over.{LooksOver, held_winner}
use Rattle.vl_version.specs.Sources.{tables_in}
use Rattle.vl_version.specs.declared.behind.Behind.{Behind}
use Rattle.vl_version.specs.declared.levels.Levels.{Levels}
use Rattle.vl_version.specs.declared.levels.look.Look.{Look}
use Rattle.vl_version.specs.declared.levels.look.Look.TheVariants.{UpTo}
use Rattle.vl_version.specs.declared.version.Version.{Version}
use Rattle.vl_version.specs.laws.NoTables.{reads_of_none}
use Rattle.vl_version.specs.levels.LevelsLooked.{AreInOrder, AreLaidOut, tables_of}
use Rattle.vl_version.specs.levels.LookedUp.{IsAsked, LooksInAll, LooksOn, NamesAsked}

module _ {H : Type 0} (bytes_of : H → Option (List ℕ)) where
  -- ---- without tables

  none_asked : (key : List ℕ) (t : Table H) → IsAsked bytes_of [] key t → ⊥
  none_asked key t asked = by asked.front asked.among
    where
      by : (front : List (Table H)) → [] ≡ front ++ t ∷ asked.back → ⊥
      by [] is = cc
      by (u ∷ us) is = cc

  names_none : (key : List ℕ) (r : Result (Option Found) ReadFault) → NamesAsked bytes_of [] key r → Failed r → ⊥
  names_none key (Ok found) names failed = failed
  names_none key (Err table.NoMemory) names failed = failed
  names_none key (Err (table.Disk name)) names failed = none_asked key names.table names.asked
  names_none key (Err (table.Damaged name place)) names failed = failed

  -- a look-up in no tables doesn't fail
  pub no_fault : {R : Type 0} (levels : Levels H) (look : Look) (key : List ℕ) (best : Option Entry) (before now : ℕ) (b : BlockReader R)
      (r : Result (Option Found) ReadFault) → tables_of levels ≡ []
      → ((files : Files) → ReadsOf bytes_of files b (tables_of levels)
      → LooksOn bytes_of (tables_of levels) (AreInOrder levels) look key best before now r)
      → Failed r → ⊥
  no_fault levels look key best before now b r none answers =
      names_none key r (subst (λ (ts : List (Table H)). NamesAsked bytes_of ts key r) none
      (answers _ (subst (ReadsOf bytes_of _ b) (sym none) (reads_of_none bytes_of b))).fault)

  -- ---- of a version

  module _ (version : Version H) (key : List ℕ) (number : ℕ) (b : Behind H) (is : b ≡ version.behind) (found : Option Found)
      (stands : found ≡ stand_in (held_winner bytes_of version key number)) where
    pub reads_behind : {R : Type 0} (files : Files) (reader : BlockReader R) → ReadsOf bytes_of files reader (tables_in version)
        → ReadsOf bytes_of files reader (tables_of b.levels)
    reads_behind files reader reads = subst (λ (c : Behind H). ReadsOf bytes_of files reader (tables_of c.levels)) (sym is) reads

    pub laid_behind : AreLaidOut version.behind.levels → AreLaidOut b.levels
    laid_behind laid = subst (λ (c : Behind H). AreLaidOut c.levels) (sym is) laid

    pub on_version : (before now : ℕ) (r : Result (Option Found) ReadFault)
        → LooksOn bytes_of (tables_of b.levels) (AreInOrder b.levels) (UpTo number) key (option_map (found_of key) found) before now r
        → LooksOn bytes_of (tables_in version) (AreInOrder version.behind.levels) (UpTo number) key
        (option_map (found_of key) (stand_in (held_winner bytes_of version key number))) before now r
    on_version before now r on =
        subst (λ (f : Option Found). LooksOn bytes_of (tables_in version) (AreInOrder version.behind.levels) (UpTo number) key
        (option_map (found_of key) f) before now r) stands
        (subst (λ (c : Behind H). LooksOn bytes_of (tables_of c.levels) (AreInOrder c.levels) (UpTo number) key
        (option_map (found_of key) found) before now r) is on)

    in_version : (r : Result (Option Found) ReadFault)
        → LooksInAll bytes_of (UpTo number) key (option_map (found_of key) found) (tables_of b.levels) r
        → LooksInAll bytes_of (UpTo number) key (option_map (found_of key) (stand_in (held_winner bytes_of version key number)))
        (tables_in version) r
    in_version r looks =
        subst (λ (f : Option Found). LooksInAll bytes_of (UpTo number) key (option_map (found_of key) f) (tables_in version) r) stands
        (subst (λ (c : Behind H). LooksInAll bytes_of (UpTo number) key (option_map (found_of key) found) (tables_of c.levels) r) is looks)

    module _ {T : Type 0} (answers : Option Entry → Result T ReadFault → Type 0) (result : Result T ReadFault) where
      pub over_found : (met : Option Found) (w : Option Entry)
          → LooksInAll bytes_of (UpTo number) key (option_map (found_of key) found) (tables_of b.levels) (Ok met)
          → w ≡ newest_of (held_winner bytes_of version key number) (option_map (found_of key) met) → answers w result
          → LooksOver bytes_of version key number answers result
      over_found met w looks counts answer = record {
        met = Ok met;
        looks = in_version (Ok met) looks;
        follows = subst (λ (v : Option Entry). answers v result) counts answer;
      }

      pub over_fault : (why : ReadFault)
          → LooksInAll bytes_of (UpTo number) key (option_map (found_of key) found) (tables_of b.levels) (Err why)
          → result ≡ Err why → LooksOver bytes_of version key number answers result
      over_fault why looks answer = record { met = Err why; looks = in_version (Err why) looks; follows = answer }
