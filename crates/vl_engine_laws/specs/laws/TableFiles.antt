-- The files of the tables of a version that has a layout: what a reader that keeps no block of other files reads there.
use Rattle.std.specs.Prelude.{◌≡◌, ◌≢◌, ◌==◌, ℕ, Bool, true, false, if◌then◌else◌, List, [], ◌∷◌, Option, None}
use Rattle.std.specs.List.{AllByRecursion, AllZip}
use Rattle.std.proofs.Common.{ap, arith, sym, ◌∙◌}
use Rattle.std.proofs.lemmas.Bool.Decides.{nat_tests}
use Rattle.vl_engine_laws.specs.Laid.{HasLayout, IsTableOf}
use Rattle.vl_engine_laws.specs.laws.LaidTables.{tables_are}
use Rattle.vl_engine_model.specs.Sources.{tables}
use Rattle.vl_engine_model.specs.TidyLevels.{AreLevels, IsDistinct}
use Rattle.vl_engine_model.specs.declared.layout.Layout.{Layout}
use Rattle.vl_engine_model.specs.declared.table.Table as laid
use Rattle.vl_model.specs.History.{History}
use Rattle.vl_table.specs.Kept.{Files}
use Rattle.vl_table.specs.KeptBlocks.{AreFiles, AreKept, ReadsOf}
use Rattle.vl_table.specs.Tables.{number_of}
use Rattle.vl_table.specs.declared.table.Table.{Table}
use Rattle.vl_version.specs.Sources.{tables_in}
use Rattle.vl_version.specs.declared.version.Version.{Version}
use Rattle.vl_engine_laws.specs.Represents.{StandsFor}
use Rattle.vl_engine_laws.specs.declared.kept.Core.{Core}
use Rattle.vl_table.specs.declared.block_reader.BlockReader.{BlockReader}
use Rattle.vl_version.specs.Bases as bases

module _ {H : Type 0} (bytes : H → Option (List ℕ)) where
  -- the file of the table with a number
  abbrev pub file_in : List (Table H) → Files
  file_in [] number = None
  file_in (t ∷ ts) number = if number_of t == number then bytes t.held else file_in ts number

  -- tables of other numbers keep their files
  others_filed : (n : ℕ) (told : Option (List ℕ)) (files : Files) (us : List (Table H)) (ls : List laid.Table)
      → AllZip (IsTableOf bytes) us ls → AllByRecursion (λ (u : laid.Table). u.number ≢ n) ls → AreFiles bytes files us
      → AreFiles bytes (λ number. if n == number then told else files number) us
  others_filed n told files [] [] zip apart are = tt
  others_filed n told files [] (l ∷ ls) zip apart are = absurd zip
  others_filed n told files (u ∷ us) [] zip apart are = absurd zip
  others_filed n told files (u ∷ us) (l ∷ ls) zip apart are =
      let number = zip.0.number in
      let other : l.number ≢ n = apart.0 in
      let unlike : (n == number_of u) ≡ false = grind (arith, nat_tests, number, other) in (
        ap (λ (b : Bool). if b then told else files (number_of u)) unlike ∙ are.0,
        others_filed n told files us ls zip.1 apart.1 are.1,
      )

  -- where no number stands twice, these are the files of tables that are those of a layout
  filed : (ts : List (Table H)) (ls : List laid.Table) → AllZip (IsTableOf bytes) ts ls → IsDistinct ls
      → AreFiles bytes (file_in ts) ts
  filed [] [] zip apart = tt
  filed [] (l ∷ ls) zip apart = absurd zip
  filed (t ∷ ts) [] zip apart = absurd zip
  filed (t ∷ ts) (l ∷ ls) zip apart =
      let same : (number_of t == number_of t) ≡ true = grind (arith, nat_tests) in
      let number = zip.0.number in
      let others : AllByRecursion (λ (u : laid.Table). u.number ≢ number_of t) ls = renamed ls (sym number) apart.0 in (
        ap (λ (b : Bool). if b then bytes t.held else file_in ts (number_of t)) same,
        others_filed (number_of t) (bytes t.held) (file_in ts) ts ls zip.1 others (filed ts ls zip.1 apart.1),
      )
    where
      renamed : (ms : List laid.Table) → l.number ≡ number_of t → AllByRecursion (λ (u : laid.Table). u.number ≢ l.number) ms
          → AllByRecursion (λ (u : laid.Table). u.number ≢ number_of t) ms
      renamed [] is all = tt
      renamed (m ∷ ms) is all = (λ e. all.0 (e ∙ sym is), renamed ms is all.1)

  -- So a version that has a layout has its tables' files.
  pub files_laid : (version : Version H) (l : Layout) → HasLayout bytes version l → AreLevels l.levels
      → AreFiles bytes (file_in (tables_in version)) (tables_in version)
  files_laid version l has levels = filed (tables_in version) (tables l) (tables_are bytes version l has) levels.distinct

-- Sources that are a layout's are read there, through a reader that keeps no block of other files,
module _ {H : Type 0} (bytes : H → Option (List ℕ)) (core : Core H) (h : History) (l : Layout) (is : StandsFor bytes core h l) where
  pub reads_version : {R : Type 0} (reader : BlockReader R) → AreKept (file_in bytes (tables_in core.version)) reader
      → ReadsOf bytes (file_in bytes (tables_in core.version)) reader (tables_in core.version)
  reads_version reader kept = record { kept = kept; told = files_laid bytes core.version l is.has is.tidy.levels }

  -- so that look-ups of its sources are told
  pub looks_told : {R : Type 0} (reader : BlockReader R) → ((files : Files) → AreKept files reader)
      → bases.Fits bytes core.version reader
  looks_told reader kept =
      (file_in bytes (tables_in core.version), reads_version reader (kept (file_in bytes (tables_in core.version))))
