-- A version that has a layout has the one behind a flush, with the flushed log's table in front and its memtable gone.
use Rattle.std.specs.Prelude.{◌≡◌, ◌+◌, ℕ, List, [], ◌∷◌, map, Option, Some, refl}
use Rattle.std.specs.List.{AllByRecursion, AllZip, filter}
use Rattle.std.proofs.Common.{sym, ap, subst, ◌∙◌}
use Rattle.vl_table.specs.body.Bytes.{table_bytes}
use Rattle.vl_table.specs.body.Shapes.{IsShapeOf}
use Rattle.vl_table.specs.declared.body.shape.TableShape.{TableShape}
use Rattle.vl_back.specs.Tables as staged
use Rattle.vl_back.specs.declared.flush.StagedFlush.{StagedFlush}
use Rattle.vl_disk.specs.DiskState.{DiskState}
use Rattle.vl_engine_laws.specs.FlushFacts.{IsNextVersion, IsTableHeld}
use Rattle.vl_engine_laws.specs.Laid.{AreLevelsOf, AreTablesOf, HasLayout, IsMemtableOf, IsTableOf, by_level}
use Rattle.vl_engine_laws.specs.laws.FlushTidy.{IsWider}
use Rattle.vl_engine_laws.specs.laws.NeededLogs.{laid_left, none_idle}
use Rattle.vl_engine_laws.specs.laws.SharedLaws.{below_shared, levels_shared, logs_shared, order_shared, told_shared}
use Rattle.vl_engine_model.specs.Levels.{in_front}
use Rattle.vl_engine_model.specs.Logs.{memtable}
use Rattle.vl_engine_model.specs.Rulings.Flush.{covered_by, flushed, flushed_table}
use Rattle.vl_engine_model.specs.Sources.{but_oldest, oldest, tables}
use Rattle.vl_engine_model.specs.Stock.{IsFalling}
use Rattle.vl_engine_model.specs.Tidy.{IsTrueTable, sealed}
use Rattle.vl_engine_model.specs.declared.layout.Layout.{Layout}
use Rattle.vl_engine_model.specs.declared.segment.Segment.{Segment}
use Rattle.vl_engine_model.specs.declared.table.Table as laid
use Rattle.vl_memtable.specs.Contents.{Contents}
use Rattle.vl_memtable.specs.declared.frozen_log.FrozenLog.{FrozenLog}
use Rattle.vl_model.specs.Formats.{table_format}
use Rattle.vl_model.specs.Placement.{placed}
use Rattle.vl_model.specs.declared.entry.Entry.{Entry}
use Rattle.vl_table.specs.Tables.{number_of, shape_of}
use Rattle.vl_table.specs.declared.table.Table.{Table}
use Rattle.vl_version.specs.Needed.{head_of, is_kept}
use Rattle.vl_version.specs.Oldest as version_oldest
use Rattle.vl_version.specs.declared.version.Version.{Version}
use Rattle.vl_version.specs.levels.LevelTables.{AreAllApart}

-- the layout behind a flush, before logs retire
abbrev with_table : Layout → Segment → Layout
with_table l s = record l {
  frozen = but_oldest l.frozen;
  flushed = s ∷ l.flushed;
  levels = in_front (flushed_table l s) l.levels;
  covered = covered_by s.frames l.covered;
  next_table = l.next_table + 1;
  epoch = l.epoch + 1;
}

-- what lies side by side does so without the last of each,
zip_but_oldest : (xs : List FrozenLog) (ys : List Segment) → AllZip IsMemtableOf xs ys
    → AllZip IsMemtableOf (version_oldest.but_oldest xs) (but_oldest ys)
zip_but_oldest [] [] all = tt
zip_but_oldest [] (y ∷ ys) all = absurd all
zip_but_oldest (x ∷ xs) [] all = absurd all
zip_but_oldest (x ∷ []) (y ∷ []) all = tt
zip_but_oldest (x ∷ []) (y ∷ z ∷ ys) all = absurd all.1
zip_but_oldest (x ∷ w ∷ xs) (y ∷ []) all = absurd all.1
zip_but_oldest (x ∷ w ∷ xs) (y ∷ z ∷ ys) all = (all.0, zip_but_oldest (w ∷ xs) (z ∷ ys) all.1)

-- and these lie side by side.
zip_oldest : (xs : List FrozenLog) (ys : List Segment) → AllZip IsMemtableOf xs ys → (x : FrozenLog) (y : Segment)
    → version_oldest.oldest_frozen xs ≡ Some x → oldest ys ≡ Some y → IsMemtableOf x y
zip_oldest [] ys all x y last first = absurd cc
zip_oldest (a ∷ xs) [] all x y last first = absurd all
zip_oldest (a ∷ []) (b ∷ []) all x y last first =
    subst (λ (z : FrozenLog). IsMemtableOf z y) (one_log a x last)
    (subst (IsMemtableOf a) (one_segment b y first) all.0)
  where
    one_log : (p q : FrozenLog) → Some p ≡ Some q → p ≡ q
    one_log p q e = cc

    one_segment : (p q : Segment) → Some p ≡ Some q → p ≡ q
    one_segment p q e = cc
zip_oldest (a ∷ []) (b ∷ c ∷ ys) all x y last first = absurd all.1
zip_oldest (a ∷ d ∷ xs) (b ∷ []) all x y last first = absurd all.1
zip_oldest (a ∷ d ∷ xs) (b ∷ c ∷ ys) all x y last first = zip_oldest (d ∷ xs) (c ∷ ys) all.1 x y last first

module _ {H : Type 0} (bytes : H → Option (List ℕ)) where
  -- Of the memtable that is flushed the entries are the layout's.
  pub oldest_entries : (version : Version H) (l : Layout) (s : Segment) (log : FrozenLog) → HasLayout bytes version l
      → version_oldest.oldest_frozen version.behind.frozen.items ≡ Some log → oldest l.frozen ≡ Some s
      → log.memtable.entries ≡ memtable s
  oldest_entries version l s log has last first =
      (zip_oldest version.behind.frozen.items l.frozen has.frozen log s last first).entries

  -- The table that was staged and is held is the layout's.
  pub made_table : (told : Option DiskState) (state : DiskState) (flush : StagedFlush) (table : Table H) (l : Layout) (s : Segment)
      → told ≡ Some state → IsTableHeld bytes told flush table
      → staged.IsTableOf l.next_table (map placed (memtable s)) flush.table → IsTableOf bytes table (flushed_table l s)
  made_table told state flush table l s is held spelled = record {
    of = record {
      shape = subst (λ (n : ℕ). IsShapeOf n es (shape_of table)) (sym number_is) shape_then;
      told = held.held state is ∙ ap Some spelled.bytes
          ∙ ap (λ (f : ℕ). Some (table_bytes f l.next_table es)) (sym format_is)
          ∙ ap (λ (n : ℕ). Some (table_bytes (shape_of table).format n es)) (sym number_is);
    };
    number = number_is;
    format = format_is;
  }
    where
      es : List Entry
      es = map placed (memtable s)

      shape_then : IsShapeOf l.next_table (map placed (memtable s)) (shape_of table)
      shape_then = subst (IsShapeOf l.next_table (map placed (memtable s))) (sym held.shape) spelled.shape

      number_is : number_of table ≡ l.next_table
      number_is = shape_then.numbered

      format_is : (shape_of table).format ≡ table_format
      format_is = ap (λ (x : TableShape). x.format) held.shape ∙ spelled.format

  module _ (before after : Version H) (l : Layout) (s : Segment) (has : HasLayout bytes before l) (level : List laid.Table)
      (deeper : List (List laid.Table)) (are : l.levels ≡ level ∷ deeper) (stay : IsWider (sealed (flushed l s)) (sealed l))
      (active : ℕ) (active_is : active ≡ l.active.number) (table : Table H) (made : IsNextVersion bytes active before after table) where
    -- the levels that the table is put in front of
    levels_are : AllZip (AreTablesOf bytes) (by_level made.next.levels) (level ∷ deeper)
    levels_are = subst (AreLevelsOf bytes made.next.levels) are
        (levels_shared bytes before.behind.levels made.next.levels l.levels made.is.levels has.levels)

    levels_then : by_level after.behind.levels ≡ (table ∷ made.next.levels.newest.items) ∷ made.next.levels.deeper.items
    levels_then =
        let deeper_is : after.behind.levels.deeper.items ≡ made.next.levels.deeper.items = ap (λ d. d.items) made.deeper in
        (λ i. made.newest i ∷ deeper_is i)

    in_front_is : (flushed l s).levels ≡ (flushed_table l s ∷ level) ∷ deeper
    in_front_is = ap (in_front (flushed_table l s)) are

    -- the version before it lets go of logs
    abbrev whole : Version H
    whole = record after { behind = record after.behind { logs = made.next.logs } }

    laid_whole : IsTableOf bytes table (flushed_table l s) → HasLayout bytes whole (flushed l s)
    laid_whole new = record {
      active = ap (λ (m : Contents). m.entries) (made.active ∙ made.is.active) ∙ has.active;
      frozen = subst (λ (fs : List FrozenLog). AllZip IsMemtableOf fs (but_oldest l.frozen)) (sym (made.frozen ∙ made.is.frozen))
          (zip_but_oldest before.behind.frozen.items l.frozen has.frozen);
      levels = subst (λ (ts : List (List (Table H))). AllZip (AreTablesOf bytes) ts (flushed l s).levels) (sym levels_then)
          (subst (AllZip (AreTablesOf bytes) ((table ∷ made.next.levels.newest.items) ∷ made.next.levels.deeper.items))
          (sym in_front_is) ((new, levels_are.0), levels_are.1));
      in_order = subst AreAllApart (sym (ap (λ d. d.items) made.deeper))
          (order_shared bytes before.behind.levels made.next.levels made.is.levels has.in_order);
      logs = λ n x at. logs_shared bytes before.behind.logs.items made.next.logs.items made.is.logs n x (has.logs n x (stay n x at));
      told = told_shared bytes before.behind.logs.items made.next.logs.items made.is.logs has.told;
      below = below_shared bytes l.active.number before.behind.logs.items made.next.logs.items made.is.logs has.below;
    }

    -- where the new table is the layout's, which has true tables
    pub laid_flushed : IsTableOf bytes table (flushed_table l s) → AllByRecursion IsTrueTable (tables (flushed l s))
        → IsFalling (l.active ∷ but_oldest l.frozen) → HasLayout bytes after (flushed l s)
    laid_flushed new so falling =
        laid_left bytes whole after (flushed l s) (laid_whole new) refl refl refl active active_is made.idle
        (made.logs ∙ ap (λ (fs : List FrozenLog). filter (is_kept made.idle (head_of active fs) after.behind.levels) made.next.logs.items)
        (sym made.frozen)) so falling (none_idle [] (with_table l s))
