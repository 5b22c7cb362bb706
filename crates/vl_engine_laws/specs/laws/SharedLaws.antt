-- What a version has whose levels and logs are shared once more: the same tables in the same order, and the same logs.
use Rattle.std.specs.Prelude.{◌≡◌, ◌<◌, ◌==◌, ℕ, Bool, true, false, if◌then◌else◌, IsSome, List, [], ◌∷◌, Option, Some}
use Rattle.std.specs.List.{AllByRecursion, AllZip}
use Rattle.std.proofs.Common.{sym, ap, subst, ◌∙◌}
use Rattle.vl_table.specs.body.Bytes.{table_bytes}
use Rattle.vl_table.specs.body.Shapes.{IsShapeOf}
use Rattle.vl_table.specs.declared.body.shape.TableShape.{TableShape}
use Rattle.vl_engine_laws.specs.Laid.{AreLevelsOf, AreTablesOf, HasLog, IsTableOf, by_level}
use Rattle.vl_engine_model.specs.declared.segment.Segment.{Segment}
use Rattle.vl_engine_model.specs.declared.table.Table as laid
use Rattle.vl_model.specs.Keys.{key_cmp}
use Rattle.vl_seglog.specs.declared.sealed.SealedLog.{SealedLog}
use Rattle.vl_table.specs.declared.table.Table.{Table}
use Rattle.vl_version.specs.Shared.{AreSameLevels, AreSameLogs, AreSameTables, IsSameLog, IsSameTable}
use Rattle.vl_version.specs.Sources.{AreRising, AreTold, log_in}
use Rattle.vl_version.specs.declared.levels.Levels.{Levels}
use Rattle.vl_version.specs.levels.LevelTables.{AreAllApart, AreApart, footer_of}
use Rattle.vl_version.specs.levels.LevelsLooked.{AreInOrder}

module _ {H : Type 0} (bytes : H → Option (List ℕ)) where
  -- ---- tables

  table_shared : (t u : Table H) (x : laid.Table) → IsSameTable bytes t u → IsTableOf bytes t x → IsTableOf bytes u x
  table_shared t u x same is = record {
    of = record {
      shape = subst (λ (s : TableShape). IsShapeOf s.number x.entries s) (sym same.shape) is.of.shape;
      told = same.bytes ∙ is.of.told ∙ ap (λ (s : TableShape). Some (table_bytes s.format s.number x.entries)) (sym same.shape);
    };
    number = ap (λ (s : TableShape). s.number) same.shape ∙ is.number;
    format = ap (λ (s : TableShape). s.format) same.shape ∙ is.format;
  }

  -- They are those of the same entries,
  tables_shared : (ts us : List (Table H)) (xs : List laid.Table) → AreSameTables bytes ts us
      → AllZip (IsTableOf bytes) ts xs → AllZip (IsTableOf bytes) us xs
  tables_shared [] [] xs same are = are
  tables_shared [] (u ∷ us) xs same are = absurd same
  tables_shared (t ∷ ts) [] xs same are = absurd same
  tables_shared (t ∷ ts) (u ∷ us) [] same are = absurd are
  tables_shared (t ∷ ts) (u ∷ us) (x ∷ xs) same are = (table_shared t u x same.0 are.0, tables_shared ts us xs same.1 are.1)

  each_shared : (levels copies : List (List (Table H))) (ls : List (List laid.Table)) → AllZip (AreSameTables bytes) levels copies
      → AllZip (AreTablesOf bytes) levels ls → AllZip (AreTablesOf bytes) copies ls
  each_shared [] [] ls same are = are
  each_shared [] (us ∷ copies) ls same are = absurd same
  each_shared (ts ∷ levels) [] ls same are = absurd same
  each_shared (ts ∷ levels) (us ∷ copies) [] same are = absurd are
  each_shared (ts ∷ levels) (us ∷ copies) (xs ∷ ls) same are =
      (tables_shared ts us xs same.0 are.0, each_shared levels copies ls same.1 are.1)

  -- level by level,
  pub levels_shared : (levels copies : Levels H) (ls : List (List laid.Table)) → AreSameLevels bytes levels copies
      → AreLevelsOf bytes levels ls → AreLevelsOf bytes copies ls
  levels_shared levels copies ls same are = each_shared (by_level levels) (by_level copies) ls (same.newest, same.deeper) are

  apart_shared : (ts us : List (Table H)) → AreSameTables bytes ts us → AreApart ts → AreApart us
  apart_shared [] [] same apart = tt
  apart_shared [] (u ∷ us) same apart = absurd same
  apart_shared (t ∷ ts) [] same apart = absurd same
  apart_shared (t ∷ []) (u ∷ []) same apart = tt
  apart_shared (t ∷ []) (u ∷ v ∷ us) same apart = absurd same.1
  apart_shared (t ∷ s ∷ ts) (u ∷ []) same apart = absurd same.1
  apart_shared (t ∷ s ∷ ts) (u ∷ v ∷ us) same apart = (
    ap (λ (x : TableShape). key_cmp x.footer.last (footer_of v).first) same.0.shape
        ∙ ap (λ (x : TableShape). key_cmp (footer_of t).last x.footer.first) same.1.0.shape ∙ apart.0,
    apart_shared (s ∷ ts) (v ∷ us) same.1 apart.1,
  )

  all_apart : (levels copies : List (List (Table H))) → AllZip (AreSameTables bytes) levels copies → AreAllApart levels
      → AreAllApart copies
  all_apart [] [] same apart = tt
  all_apart [] (c ∷ cs) same apart = absurd same
  all_apart (l ∷ ls) [] same apart = absurd same
  all_apart (l ∷ ls) (c ∷ cs) same apart = (apart_shared l c same.0 apart.0, all_apart ls cs same.1 apart.1)

  -- and in order as before.
  pub order_shared : (levels copies : Levels H) → AreSameLevels bytes levels copies → AreInOrder levels → AreInOrder copies
  order_shared levels copies same order = all_apart levels.deeper.items copies.deeper.items same.deeper order

  -- ---- logs

  some_log : (a b : SealedLog H) → Some a ≡ Some b → a ≡ b
  some_log a b e = cc

  -- the log with a number, found among the copies
  record IsShared (copies : List (SealedLog H)) (n : ℕ) (log : SealedLog H) : Type 0 where
    copy : SealedLog H
    at : log_in copies n ≡ Some copy
    same : IsSameLog bytes log copy

  find_shared : (logs copies : List (SealedLog H)) → AreSameLogs bytes logs copies → (n : ℕ) (log : SealedLog H)
      → log_in logs n ≡ Some log → IsShared copies n log
  find_shared [] [] same n log at = absurd cc
  find_shared [] (y ∷ ys) same n log at = absurd same
  find_shared (x ∷ xs) [] same n log at = absurd same
  find_shared (x ∷ xs) (y ∷ ys) same n log at = by (find_shared xs ys same.1 n log) (x.number == n) refl_test at
    where
      refl_test : (y.number == n) ≡ (x.number == n)
      refl_test = ap (λ (k : ℕ). k == n) same.0.number

      by : (log_in xs n ≡ Some log → IsShared ys n log) → (b : Bool) → (y.number == n) ≡ b
          → (if b then Some x else log_in xs n) ≡ Some log → IsShared (y ∷ ys) n log
      by later true test found = record {
        copy = y;
        at = ap (λ (b : Bool). if b then Some y else log_in ys n) test;
        same = subst (λ (z : SealedLog H). IsSameLog bytes z y) (some_log x log found) same.0;
      }
      by later false test found =
          let rest = later found in
          record { copy = rest.copy; at = ap (λ (b : Bool). if b then Some y else log_in ys n) test ∙ rest.at; same = rest.same }

  pub logs_shared : (logs copies : List (SealedLog H)) → AreSameLogs bytes logs copies → (n : ℕ) (s : Segment)
      → HasLog bytes logs n s → HasLog bytes copies n s
  logs_shared logs copies same n s has =
      let there = find_shared logs copies same n has.log has.at in
      record {
        log = there.copy;
        at = there.at;
        is = record {
          number = there.same.number ∙ has.is.number;
          format = there.same.format ∙ has.is.format;
          told = there.same.bytes ∙ has.is.told;
        };
      }

  each_told : (logs copies : List (SealedLog H)) → AreSameLogs bytes logs copies
      → AllByRecursion (λ (log : SealedLog H). IsSome (bytes log.held)) logs
      → AllByRecursion (λ (log : SealedLog H). IsSome (bytes log.held)) copies
  each_told [] [] same told = tt
  each_told [] (y ∷ ys) same told = absurd same
  each_told (x ∷ xs) [] same told = absurd same
  each_told (x ∷ xs) (y ∷ ys) same told =
      (subst IsSome (sym same.0.bytes) told.0, each_told xs ys same.1 told.1)

  rising_shared : (logs copies : List (SealedLog H)) → AreSameLogs bytes logs copies → AreRising logs → AreRising copies
  rising_shared [] [] same rising = tt
  rising_shared [] (y ∷ ys) same rising = absurd same
  rising_shared (x ∷ xs) [] same rising = absurd same
  rising_shared (x ∷ []) (y ∷ []) same rising = tt
  rising_shared (x ∷ []) (y ∷ z ∷ ys) same rising = absurd same.1
  rising_shared (x ∷ w ∷ xs) (y ∷ []) same rising = absurd same.1
  rising_shared (x ∷ w ∷ xs) (y ∷ z ∷ ys) same rising = (
    subst (λ (n : ℕ). n < z.number) (sym same.0.number) (subst (λ (n : ℕ). x.number < n) (sym same.1.0.number) rising.0),
    rising_shared (w ∷ xs) (z ∷ ys) same.1 rising.1,
  )

  pub told_shared : (logs copies : List (SealedLog H)) → AreSameLogs bytes logs copies → AreTold bytes logs → AreTold bytes copies
  told_shared logs copies same told = record {
    told = each_told logs copies same told.told;
    rising = rising_shared logs copies same told.rising;
  }

  pub below_shared : (k : ℕ) (logs copies : List (SealedLog H)) → AreSameLogs bytes logs copies
      → AllByRecursion (λ (log : SealedLog H). log.number < k) logs → AllByRecursion (λ (log : SealedLog H). log.number < k) copies
  below_shared k [] [] same below = tt
  below_shared k [] (y ∷ ys) same below = absurd same
  below_shared k (x ∷ xs) [] same below = absurd same
  below_shared k (x ∷ xs) (y ∷ ys) same below =
      (subst (λ (n : ℕ). n < k) (sym same.0.number) below.0, below_shared k xs ys same.1 below.1)
