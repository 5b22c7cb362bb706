-- The files in use stand, and each retired one can be removed, also behind a call that leaves the files and which of them are in use.
use Rattle.std.specs.Prelude.{◌≡◌, ◌≤◌, ◌+◌, ◌++◌, ◌&&◌, ℕ, All, Bool, true, false, not, List, [], ◌∷◌, length, Option, None, Some}
use Rattle.std.specs.Prelude.{map, refl}
use Rattle.std.specs.VecDeque.{deque_capacity, deque_len}
use Rattle.std.proofs.Common.{sym, subst, ap, ◌∙◌, arith}
use Rattle.vl_compact.specs.declared.files.Lent.{Lent}
use Rattle.vl_engine_laws.specs.Carries.{StaysUntold}
use Rattle.vl_engine_laws.specs.declared.kept.Core.{Core}
use Rattle.vl_disk.specs.Disk.{Stands}
use Rattle.vl_disk.specs.DiskState.{DiskState}
use Rattle.vl_disk.specs.declared.name.Name.TheVariants.{Log, Table}
use Rattle.vl_disk.specs.declared.watched.Watched.{Ghosts}
use Rattle.vl_disk.specs.declared.writer.Writer.{Ghosts as Writers}
use Rattle.vl_space.specs.laws.There.Kept.{StandStill, there_kept, told_stand}
use Rattle.vl_engine_laws.specs.Lent.{LeavesLent}
use Rattle.vl_space.specs.Removing.{HasInUse, IsThere, are_distinct, are_unused, logs_in_use}
use Rattle.vl_engine_laws.specs.Lent.{lent_in}
use Rattle.vl_space.specs.Removing.{numbers_left, standing_names, tables_in_use}
use Rattle.vl_engine_laws.specs.declared.open.OpenMerge.{OpenMerge}
use Rattle.vl_model.specs.Numbers.{has}
use Rattle.vl_pins.specs.declared.in_use.InUse.{InUse}
use Rattle.vl_pins.specs.declared.stock.Stock.{Stock}
use Rattle.vl_seglog.specs.declared.sealed.SealedLog.{SealedLog}
use Rattle.vl_table.specs.Tables.{number_of}
use Rattle.vl_version.specs.declared.behind.Behind.{Behind}
use Rattle.vl_version.specs.declared.version.Version.{Version}
use Rattle.vl_version.specs.levels.LevelsLooked.{tables_of}

-- The active memtable doesn't say which files are in use.
module _ {H : Type 0} (v x : Version H) (behind : x.behind ≡ v.behind) where
  tables_behind : (o : Option InUse) → tables_in_use x o ≡ tables_in_use v o
  tables_behind None = ap (λ (b : Behind H). map number_of (tables_of b.levels)) behind
  tables_behind (Some in_use) = refl

  logs_behind : (o : Option InUse) → logs_in_use x o ≡ logs_in_use v o
  logs_behind None = ap (λ (b : Behind H). map (λ (log : SealedLog H). log.number) b.logs.items) behind
  logs_behind (Some in_use) = refl

in_use_behind : {H W : Type 0} {s : _} (core : Core H) (x : Version H) (stock : Stock (Lent W s)) (disk : DiskState)
    → x.behind ≡ core.version.behind → HasInUse core stock disk → HasInUse (record core { version = x }) stock disk
in_use_behind core x stock disk behind is =
    let tables_same = tables_behind core.version x behind stock.in_use in
    let logs_same = logs_behind core.version x behind stock.in_use in
    record {
      tables = subst (All (λ n. Stands (Table n) disk)) (sym tables_same) is.tables;
      logs = subst (All (λ n. Stands (Log n) disk)) (sym logs_same) is.logs;
      unused = (λ i. are_unused core.front.log.number (tables_same i) (logs_same i) (standing_names stock.trash.items)) ∙ is.unused;
      active = is.active;
    }

module _ {D H W : Type 0} {s : _} (g : Ghosts D) (w : Writers W) (old new : D) (before after : Core H)
    (merging now_merging : Option OpenMerge) (stock now_stock : Stock (Lent W s)) (behind : after.version.behind ≡ before.version.behind)
    (log : after.front.log.number ≡ before.front.log.number) (next : before.back.state.next_table ≤ after.back.state.next_table)
    (lent : lent_in now_merging ≡ lent_in merging) (same : now_stock ≡ stock) where
  pub there_still : StaysUntold (g.told old) (g.told new) → StandStill (g.told old) (g.told new)
      → LeavesLent g before.back.state.next_table old new → IsThere g w old before merging stock
      → IsThere g w new after now_merging now_stock
  there_still untold stand leaves is =
      let mid = there_kept g w old new untold stand before (record after { version = before.version }) merging now_merging stock
      (record { version = refl; log = log; tables = next }) leaves lent is in
      subst (λ (st : Stock (Lent W s)). IsThere g w new after now_merging st) (sym same) (record {
        waiting = mid.waiting;
        distinct = mid.distinct;
        room = mid.room;
        files = λ now told. in_use_behind (record after { version = before.version }) after.version stock now behind (mid.files now told);
      })

  -- where the disk tells the same
  pub there_told : g.told new ≡ g.told old → LeavesLent g before.back.state.next_table old new → IsThere g w old before merging stock
      → IsThere g w new after now_merging now_stock
  there_told told leaves is = there_still (λ none. told ∙ none) (told_stand (g.told old) (g.told new) told) leaves is

-- where the disk isn't asked
pub leaves_none : {D : Type 0} (g : Ghosts D) (disk : D) (next_table : ℕ) → LeavesLent g next_table disk disk
leaves_none g disk next_table = record { room = λ n drawn. refl; free = λ n drawn free. free }

distinct_behind : (xs ys : List ℕ) → are_distinct (xs ++ ys) ≡ true → are_distinct ys ≡ true
distinct_behind [] ys is = is
distinct_behind (x ∷ xs) ys is = distinct_behind xs ys (and_right (not (has x (xs ++ ys))) (are_distinct (xs ++ ys)) is)
  where
    and_right : (a b : Bool) → (a && b) ≡ true → b ≡ true
    and_right true b both = both
    and_right false b both = absurd cc

-- A merge began, to which nothing was lent yet.
pub there_begun : {D H W : Type 0} {s : _} (g : Ghosts D) (w : Writers W) (disk : D) (core : Core H)
    (merging now_merging : Option OpenMerge)
    (stock : Stock (Lent W s)) → lent_in now_merging ≡ [] → IsThere g w disk core merging stock → IsThere g w disk core now_merging stock
there_begun g w disk core merging now_merging stock none is = record {
  waiting = is.waiting;
  distinct = ap (λ (ns : List ℕ). are_distinct (ns ++ numbers_left stock.trash.items)) none
      ∙ distinct_behind (lent_in merging) (numbers_left stock.trash.items) is.distinct;
  room = subst (λ (ns : List ℕ). deque_len stock.trash + length ns ≤ deque_capacity stock.trash) (sym none)
      (let room = is.room in omega (arith, room));
  files = is.files;
}
