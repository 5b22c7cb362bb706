-- The files of a job's tables are those of the tables that the layout's job makes.
use Rattle.std.specs.Prelude.{◌≡◌, ℕ, List, [], ◌∷◌, map, Option, None, Some, IsSome, refl}
use Rattle.std.specs.List.{AllByRecursion, AllZip}
use Rattle.std.proofs.Common.{sym, ap, subst, ◌∙◌, inl, inr, ⊎_elim}
use Rattle.vl_table.specs.body.Bytes.{table_bytes}
use Rattle.vl_table.specs.body.Shapes.{IsShapeOf}
use Rattle.vl_table.specs.declared.body.shape.TableShape.{TableShape}
use Rattle.vl_compact.specs.Laid.{AreTablesOf, IsTableOf}
use Rattle.vl_compact.specs.Progress.{IsTableFile}
use Rattle.vl_compact.specs.declared.files.Synced.{Synced}
use Rattle.vl_disk.specs.DiskState.{DiskState, File, settled}
use Rattle.vl_disk.specs.Lending.{adopted}
use Rattle.vl_disk.specs.declared.name.Name.TheVariants as names
use Rattle.vl_disk.specs.declared.writer.Writer.{Ghosts as Writers}
use Rattle.vl_steps.specs.Taking.{IsHeldTable, WhileTaking, file_in, file_of_table, with_files}
use Rattle.vl_engine_laws.specs.laws.InstallTaken.{WhileTakingTables, with_tables}
use Rattle.vl_engine_model.specs.Jobs.{tables_made}
use Rattle.vl_engine_model.specs.Tables.{new_table}
use Rattle.vl_engine_model.specs.declared.table.Table as laid
use Rattle.vl_model.specs.Formats.{table_format}
use Rattle.vl_model.specs.declared.entry.Entry.{Entry}
use Rattle.vl_table.specs.Tables.{number_of, shape_of}
use Rattle.vl_table.specs.declared.table.Table.{Table}

not_some : IsSome {T = File} None → ⊥
not_some e = cc

module _ {W : Type 0} (w : Writers W) {s : _} where
  -- each writer tells its file
  abbrev pub AreTold : List (Synced W s) → Type 0
  AreTold ts = AllByRecursion (λ (t : Synced W s). IsSome (w.file t.writer)) ts

  -- the tables of these files
  abbrev pub tables_of : List (Synced W s) → List (List Entry) → List laid.Table
  tables_of ts outs = tables_made (map (λ (t : Synced W s). t.number) ts) outs

  pub file_laid : (t : Synced W s) (es : List Entry) → IsTableFile w t es → IsSome (w.file t.writer)
      → file_of_table w t ≡ settled (table_bytes table_format t.number es)
  file_laid t es is tells = by (w.file t.writer) refl
    where
      by : (o : Option File) → w.file t.writer ≡ o → file_in (w.file t.writer) ≡ settled (table_bytes table_format t.number es)
      by None there = absurd (not_some (subst IsSome there tells))
      by (Some f) there = ap file_in there ∙ is.file f there

  -- The disk with the files is that with the tables,
  pub files_laid : (ts : List (Synced W s)) (outs : List (List Entry)) → AllZip (IsTableFile w) ts outs → AreTold ts
      → (disk : DiskState) → with_files w ts disk ≡ with_tables (tables_of ts outs) disk
  files_laid [] [] zip told disk = refl
  files_laid [] (es ∷ outs) zip told disk = absurd zip
  files_laid (t ∷ ts) [] zip told disk = absurd zip
  files_laid (t ∷ ts) (es ∷ outs) zip told disk =
      files_laid ts outs zip.1 told.1 (adopted (names.Table t.number) (file_of_table w t) disk)
      ∙ ap (λ (f : File). with_tables (tables_of ts outs) (adopted (names.Table t.number) f disk)) (file_laid t es zip.0 told.0)

  -- and so it is meanwhile.
  pub while_laid : (ts : List (Synced W s)) (outs : List (List Entry)) → AllZip (IsTableFile w) ts outs → AreTold ts
      → (disk now : DiskState) → WhileTaking w ts disk now → WhileTakingTables (tables_of ts outs) disk now
  while_laid [] [] zip told disk now is = is
  while_laid [] (es ∷ outs) zip told disk now is = absurd zip
  while_laid (t ∷ ts) [] zip told disk now during = absurd zip
  while_laid (t ∷ ts) (es ∷ outs) zip told disk now during = ⊎_elim
      (λ (is : now ≡ disk). inl is)
      (λ (later : WhileTaking w ts (adopted (names.Table t.number) (file_of_table w t) disk) now).
      inr (subst (λ (f : File). WhileTakingTables (tables_of ts outs) (adopted (names.Table t.number) f disk) now)
      (file_laid t es zip.0 told.0)
      (while_laid ts outs zip.1 told.1 (adopted (names.Table t.number) (file_of_table w t) disk) now later)))
      during

  -- ---- what is held

  module _ {H : Type 0} (bytes : H → Option (List ℕ)) (told : Option DiskState) (state : DiskState) (is : told ≡ Some state) where
    pub held_laid : (table : Table H) (t : Synced W s) (es : List Entry) → IsHeldTable bytes w told table t → IsTableFile w t es
        → IsSome (w.file t.writer) → IsTableOf bytes table (new_table table_format t.number es)
    held_laid table t es held file tells = record {
      of = record {
        shape = subst (λ (n : ℕ). IsShapeOf n es (shape_of table)) (sym number_is) shape_then;
        told = held.held state is ∙ ap (λ (f : File). Some f.bytes) (file_laid t es file tells)
            ∙ ap (λ (f : ℕ). Some (table_bytes f t.number es)) (sym format_is)
            ∙ ap (λ (n : ℕ). Some (table_bytes (shape_of table).format n es)) (sym number_is);
      };
      number = number_is;
      format = format_is;
      true_table = refl;
    }
      where
        shape_then : IsShapeOf t.number es (shape_of table)
        shape_then = subst (IsShapeOf t.number es) (sym held.shape) file.shape

        number_is : number_of table ≡ t.number
        number_is = shape_then.numbered

        format_is : (shape_of table).format ≡ table_format
        format_is = ap (λ (x : TableShape). x.format) held.shape ∙ file.format

    -- The tables that are held are those that the layout's job makes.
    pub all_held_laid : (tables : List (Table H)) (ts : List (Synced W s)) (outs : List (List Entry))
        → AllZip (IsHeldTable bytes w told) tables ts → AllZip (IsTableFile w) ts outs → AreTold ts
        → AreTablesOf bytes tables (tables_of ts outs)
    all_held_laid [] [] [] held files tells = tt
    all_held_laid [] [] (es ∷ outs) held files tells = absurd files
    all_held_laid [] (t ∷ ts) outs held files tells = absurd held
    all_held_laid (x ∷ tables) [] outs held files tells = absurd held
    all_held_laid (x ∷ tables) (t ∷ ts) [] held files tells = absurd files
    all_held_laid (x ∷ tables) (t ∷ ts) (es ∷ outs) held files tells =
        (held_laid x t es held.0 files.0 tells.0, all_held_laid tables ts outs held.1 files.1 tells.1)
