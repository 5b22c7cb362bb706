-- The files in use stand, and each retired one can be removed, also behind a call that takes away no file.
use Rattle.std.specs.Prelude.{◌≡◌, ◌≤◌, ◌+◌, ◌++◌, ℕ, All, IsTrue, List, length, Option, None, Some, is_some, true, refl}
use Rattle.std.specs.FinMap.{get}
use Rattle.std.specs.List.{slice_index_or}
use Rattle.std.specs.Option.{ForSome}
use Rattle.std.specs.VecDeque.{deque_capacity, deque_len}
use Rattle.std.proofs.Common.{sym, subst, ◌∙◌, arith}
use Rattle.vl_compact.specs.declared.files.Lent.{Lent}
use Rattle.vl_engine_laws.specs.Carries.{SameFiles, StaysUntold}
use Rattle.vl_engine_laws.specs.declared.kept.Core.{Core}
use Rattle.vl_disk.specs.Disk.{Stands}
use Rattle.vl_disk.specs.DiskState.{DiskState, File}
use Rattle.vl_disk.specs.declared.name.Name.{Name}
use Rattle.vl_disk.specs.declared.name.Name.TheVariants.{Log, Table}
use Rattle.vl_disk.specs.declared.watched.Watched.{Ghosts}
use Rattle.vl_disk.specs.declared.writer.Writer.{Ghosts as Writers}
use Rattle.vl_engine_laws.specs.Lent.{IsLent, LeavesLent}
use Rattle.vl_space.specs.Removing.{HasInUse, IsLeft, IsThere, IsWaiting, are_distinct, are_unused, is_none_of}
use Rattle.vl_engine_laws.specs.Lent.{lent_in}
use Rattle.vl_space.specs.Removing.{logs_in_use, numbers_left, standing_names, tables_in_use}
use Rattle.vl_engine_laws.specs.declared.open.OpenMerge.{OpenMerge}
use Rattle.vl_pins.specs.declared.retired_file.RetiredFile.{RetiredFile}
use Rattle.vl_pins.specs.declared.stock.Stock.{Stock}
use Rattle.vl_version.specs.declared.version.Version.{Version}

-- each file that stood stands
abbrev pub StandStill : (old new : Option DiskState) → Type 0
StandStill old new = (before now : DiskState) → old ≡ Some before → new ≡ Some now → (name : Name) → Stands name before
    → Stands name now

-- the files that the engine knows are the same
pub record KnowsSame {H : Type 0} (before after : Core H) : Type 0 where
  pub version : after.version ≡ before.version
  pub log : after.front.log.number ≡ before.front.log.number
  pub tables : before.back.state.next_table ≤ after.back.state.next_table

pub none_some : {T : Type 0} (x : T) → None ≡ Some x → ⊥
none_some x e = cc

-- what is told then was told
pub told_before : (old new : Option DiskState) (now : DiskState) → StaysUntold old new → new ≡ Some now → (s : DiskState) × (old ≡ Some s)
told_before None new now untold is = absurd (none_some now (sym (untold refl) ∙ is))
told_before (Some s) new now untold is = (s, refl)

-- what stands isn't free, and what isn't free stands
pub stands_not_free : (o : Option File) → is_some o ≡ true → o ≡ None → ⊥
stands_not_free None some none = cc
stands_not_free (Some file) some none = cc

pub not_free_stands : (o : Option File) → (o ≡ None → ⊥) → is_some o ≡ true
not_free_stands None not = absurd (not refl)
not_free_stands (Some file) not = refl

pub same_stand : (old new : Option DiskState) → SameFiles old new → StandStill old new
same_stand old new same before now was is name stands = not_free_stands (get now.standing name)
    (λ (gone : get now.standing name ≡ None). stands_not_free (get before.standing name) stands ((same before now was is name).0.0 gone))

pub told_stand : (old new : Option DiskState) → new ≡ old → StandStill old new
told_stand old new same before now was is name stands =
    subst (Stands name) (one before now (sym was ∙ sym same ∙ is)) stands
  where
    one : (a b : DiskState) → Some a ≡ Some b → a ≡ b
    one a b e = cc

module _ {D W : Type 0} (g : Ghosts D) (w : Writers W) (old new : D) where
  pub lent_kept : (before after n : ℕ) → before ≤ after → LeavesLent g before old new → IsLent g old before n → IsLent g new after n
  lent_kept before after n up leaves is = record {
    drawn = let drawn = is.drawn in omega (arith, drawn, up);
    room = subst IsTrue (sym (leaves.room n is.drawn)) is.room;
    free = leaves.free n is.drawn is.free;
  }

  module _ (untold : StaysUntold (g.told old) (g.told new)) where
    pub left_kept : {s : _} (before after : ℕ) (file : Lent W s) → before ≤ after → LeavesLent g before old new
        → IsLeft g w old before file → IsLeft g w new after file
    left_kept before after file up leaves is = record {
      lent = lent_kept before after file.number up leaves is.lent;
      tells = λ now told. let was = told_before (g.told old) (g.told new) now untold told in is.tells was.0 was.1;
    }

    module _ (stand : StandStill (g.told old) (g.told new)) where
      pub waiting_kept : {s : _} (before after : ℕ) (file : RetiredFile (Lent W s)) → before ≤ after → LeavesLent g before old new
          → IsWaiting g w old before file → IsWaiting g w new after file
      waiting_kept before after file up leaves is = record {
        stands = λ none now told. let was = told_before (g.told old) (g.told new) now untold told in
            stand was.0 now was.1 told file.name (is.stands none was.0 was.1);
        left = λ lent some. left_kept before after lent up leaves (is.left lent some);
        named = is.named;
      }

      -- the files in use too, where the version is another that has the same ones
      pub in_use_kept : {H : Type 0} {s : _} (before after : Core H) (stock : Stock (Lent W s)) → KnowsSame before after
          → ForSome (g.told old) (HasInUse before stock) → ForSome (g.told new) (HasInUse after stock)
      in_use_kept {H} before after stock same has now told =
          let was = told_before (g.told old) (g.told new) now untold told in let is = has was.0 was.1 in
          record {
            tables = subst (λ (v : Version H). All (λ n. Stands (Table n) now) (tables_in_use v stock.in_use)) (sym same.version)
                (λ k d within. stand was.0 now was.1 told (Table (slice_index_or (tables_in_use before.version stock.in_use) k d))
                (is.tables k d within));
            logs = subst (λ (v : Version H). All (λ n. Stands (Log n) now) (logs_in_use v stock.in_use)) (sym same.version)
                (λ k d within. stand was.0 now was.1 told (Log (slice_index_or (logs_in_use before.version stock.in_use) k d))
                (is.logs k d within));
            unused = (λ i. are_unused (same.log i) (tables_in_use (same.version i) stock.in_use)
                (logs_in_use (same.version i) stock.in_use) (standing_names stock.trash.items)) ∙ is.unused;
            active = (λ i. is_none_of (same.log i) stock.in_use) ∙ is.active;
          }

      pub there_kept : {H : Type 0} {s : _} (before after : Core H) (merging now_merging : Option OpenMerge) (stock : Stock (Lent W s))
          → KnowsSame before after → LeavesLent g before.back.state.next_table old new → lent_in now_merging ≡ lent_in merging
          → IsThere g w old before merging stock → IsThere g w new after now_merging stock
      there_kept before after merging now_merging stock same leaves lent is = record {
        waiting = λ k d within. waiting_kept before.back.state.next_table after.back.state.next_table
            (slice_index_or stock.trash.items k d) same.tables leaves (is.waiting k d within);
        distinct = (λ i. are_distinct (lent i ++ numbers_left stock.trash.items)) ∙ is.distinct;
        room = subst (λ (lent : List ℕ). deque_len stock.trash + length lent ≤ deque_capacity stock.trash) (sym lent) is.room;
        files = in_use_kept before after stock same is.files;
      }
