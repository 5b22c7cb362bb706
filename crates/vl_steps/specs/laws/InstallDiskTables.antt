-- The tables of a merge as its layout's job has them: each can be read, has a number of its own that no table of the layout has,
-- and they begin with the key of the first one.
use Rattle.std.specs.Prelude.{◌≡◌, ◌≢◌, ℕ, true, nat_le, List, [], ◌∷◌, ◌++◌, length, map, take, drop, Option, Some, refl}
use Rattle.std.specs.List.{AllByRecursion, AllZip}
use Rattle.std.proofs.Common.{sym, ap, subst, ◌∙◌, arith}
use Rattle.std.proofs.lemmas.Bool.{and_parts, leb-true}
use Rattle.vl_table.specs.body.Bytes.{IsTable}
use Rattle.vl_table.specs.body.Footer.{Foot}
use Rattle.vl_compact.specs.Laid as compact
use Rattle.vl_compact.specs.Places.{first_key}
use Rattle.vl_compact.specs.Progress.{IsTableFile}
use Rattle.vl_compact.specs.declared.files.Synced.{Synced}
use Rattle.vl_disk.specs.declared.name.Name.TheVariants as names
use Rattle.vl_disk.specs.declared.writer.Writer.{Ghosts as Writers}
use Rattle.vl_steps.specs.laws.TakenFiles.{tables_of}
use Rattle.vl_engine_laws.specs.Files as files
use Rattle.vl_steps.specs.Installing.{first_made}
use Rattle.vl_engine_laws.specs.laws.InstallTaken.{AreApart, IsApart}
use Rattle.vl_engine_laws.specs.laws.KeptLaws.{AreOtherTables, table_same}
use Rattle.vl_engine_model.specs.Sources.{numbers_of}
use Rattle.vl_engine_model.specs.Tables.{new_table}
use Rattle.vl_engine_model.specs.TidyLevels.{IsDistinct}
use Rattle.vl_engine_model.specs.declared.table.Table as laid
use Rattle.vl_engine_model_laws.specs.laws.Pairs.{AreOther}
use Rattle.vl_manifest.specs.States.{is_file_number}
use Rattle.vl_model.specs.Formats.{table_format}
use Rattle.vl_model.specs.Limits.{max_file_number}
use Rattle.vl_model.specs.declared.entry.Entry.{Entry}
use Rattle.vl_table.specs.Tables.{number_of}
use Rattle.vl_table.specs.declared.table.Table.{Table}

-- ---- by their numbers

module _ (others : List laid.Table) where
  is_apart : (t : laid.Table) → is_file_number t.number ≡ true → AllByRecursion (λ (u : laid.Table). u.number ≢ t.number) others
      → IsApart others t
  is_apart t fits apart =
      let parts = and_parts (nat_le 1 t.number) (nat_le t.number max_file_number) fits in
      record {
        numbered = (leb-true 1 t.number parts.0, (let most = leb-true t.number max_file_number parts.1 in omega (arith, most)));
        apart = each others apart;
      }
    where
      each : (us : List laid.Table) → AllByRecursion (λ (u : laid.Table). u.number ≢ t.number) us
          → AreOtherTables (names.Table t.number) us
      each [] apart = tt
      each (u ∷ us) apart = ((λ e. apart.0 (table_same u.number t.number e)), each us apart.1)

  -- Tables of numbers that files may have are apart from those that have others.
  pub apart_from : (ts : List laid.Table) → AllByRecursion (λ (n : ℕ). is_file_number n ≡ true) (numbers_of ts)
      → AreOther ts others → AllByRecursion (IsApart others) ts
  apart_from [] fit other = tt
  apart_from (t ∷ ts) fit other = (is_apart t fit.0 other.0, apart_from ts fit.1 other.1)

-- Each with a number of its own is apart from those behind it.
pub apart_each : (ts : List laid.Table) → IsDistinct ts → AreApart ts
apart_each [] distinct = tt
apart_each (t ∷ ts) distinct = (each ts distinct.0, apart_each ts distinct.1)
  where
    each : (us : List laid.Table) → AllByRecursion (λ (u : laid.Table). u.number ≢ t.number) us
        → AreOtherTables (names.Table t.number) us
    each [] apart = tt
    each (u ∷ us) apart = ((λ e. apart.0 (table_same u.number t.number e)), each us apart.1)

-- tables of a store have the numbers of a layout's
pub numbers_held : {H : Type 0} (bytes : H → Option (List ℕ)) (held : List (Table H)) (ts : List laid.Table)
    → compact.AreTablesOf bytes held ts → map number_of held ≡ numbers_of ts
numbers_held bytes [] [] are = refl
numbers_held bytes [] (t ∷ ts) are = absurd are
numbers_held bytes (x ∷ held) [] are = absurd are
numbers_held bytes (x ∷ held) (t ∷ ts) are =
    ap (λ (n : ℕ). n ∷ map number_of held) are.0.number ∙ ap (λ (ns : List ℕ). t.number ∷ ns) (numbers_held bytes held ts are.1)

-- ---- as they were made

module _ {W : Type 0} (w : Writers W) {s : _} where
  pub made_numbers_are : (ts : List (Synced W s)) (outs : List (List Entry)) → AllZip (IsTableFile w) ts outs
      → map (λ (t : Synced W s). t.number) ts ≡ numbers_of (tables_of w ts outs)
  made_numbers_are [] outs zip = refl
  made_numbers_are (t ∷ ts) [] zip = absurd zip
  made_numbers_are (t ∷ ts) (es ∷ outs) zip = ap (λ (ns : List ℕ). t.number ∷ ns) (made_numbers_are ts outs zip.1)

  pub made_many : (ts : List (Synced W s)) (outs : List (List Entry)) → AllZip (IsTableFile w) ts outs
      → length (map (λ (t : Synced W s). t.number) ts) ≡ length outs
  made_many [] [] zip = refl
  made_many [] (es ∷ outs) zip = absurd zip
  made_many (t ∷ ts) [] zip = absurd zip
  made_many (t ∷ ts) (es ∷ outs) zip = let same = made_many ts outs zip.1 in omega (arith, same)

  -- Each can be read.
  pub made_files : (ts : List (Synced W s)) (outs : List (List Entry)) → AllZip (IsTableFile w) ts outs
      → AllByRecursion files.IsTableFile (tables_of w ts outs)
  made_files [] outs zip = tt
  made_files (t ∷ ts) [] zip = absurd zip
  made_files (t ∷ ts) (es ∷ outs) zip = (
    record {
      laid = refl;
      first = omega arith;
      readable = omega arith;
      table = subst (λ (f : ℕ). IsTable f t.number es) zip.0.format zip.0.shape.table;
    },
    made_files ts outs zip.1,
  )

  -- The first key is that of the first one.
  pub first_is : (ts : List (Synced W s)) (outs : List (List Entry)) → AllZip (IsTableFile w) ts outs
      → first_key (tables_of w ts outs) ≡ first_made ts
  first_is [] outs zip = refl
  first_is (t ∷ ts) [] zip = absurd zip
  first_is (t ∷ ts) (es ∷ outs) zip = sym (ap (λ (f : Foot). Some f.head.first) zip.0.shape.foot)

  -- ---- the first of them

  pub zip_front : (ts left : List (Synced W s)) (outs : List (List Entry)) → AllZip (IsTableFile w) (ts ++ left) outs
      → AllZip (IsTableFile w) ts (take (length ts) outs)
  zip_front [] left outs zip = tt
  zip_front (t ∷ ts) left [] zip = absurd zip
  zip_front (t ∷ ts) left (es ∷ outs) zip = (zip.0, zip_front ts left outs zip.1)

  pub tables_front : (ts left : List (Synced W s)) (outs : List (List Entry)) → AllZip (IsTableFile w) (ts ++ left) outs
      → tables_of w (ts ++ left) outs ≡ tables_of w ts (take (length ts) outs) ++ tables_of w left (drop (length ts) outs)
  tables_front [] left outs zip = refl
  tables_front (t ∷ ts) left [] zip = absurd zip
  tables_front (t ∷ ts) left (es ∷ outs) zip = ap (λ (us : List laid.Table). new_table table_format t.number es ∷ us)
      (tables_front ts left outs zip.1)
