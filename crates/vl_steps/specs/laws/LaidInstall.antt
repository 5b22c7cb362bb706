-- A version that has a layout has the one behind an install, with its tables in the place of the inputs.
use Rattle.std.specs.Prelude.{◌≡◌, ◌==◌, ◌-◌, ℕ, ◌+◌, Bool, true, false, if◌then◌else◌, List, [], ◌∷◌, Option, refl}
use Rattle.std.specs.List.{AllByRecursion, AllZip, flat_map}
use Rattle.std.specs.Ordering.{is_lt}
use Rattle.std.specs.declared.cmp.Ordering.{Ordering}
use Rattle.std.specs.declared.cmp.Ordering.TheVariants.{Equal, Greater, Less}
use Rattle.std.proofs.Common.{sym, ap, subst, ◌∙◌, arith}
use Rattle.std.proofs.lemmas.Bool.Decides.{nat_tests}
use Rattle.vl_table.specs.body.Footer.{Foot}
use Rattle.vl_engine_laws.specs.Laid.{AreLevelsOf, AreTablesOf, HasLayout, IsMemtableOf, IsTableOf}
use Rattle.vl_disk.specs.DiskState.{DiskState}
use Rattle.vl_engine_laws.specs.Held.{Base, Holds, IsBase}
use Rattle.vl_engine_laws.specs.Pointed.{layout_logs}
use Rattle.vl_engine_laws.specs.laws.FileLaws.{all_back, all_front}
use Rattle.vl_engine_laws.specs.laws.FlushTidy.{IsWider}
use Rattle.vl_steps.specs.laws.InstallBase.{CanInstall, stays, tidy_then}
use Rattle.vl_engine_laws.specs.laws.SharedLaws.{below_shared, logs_shared, told_shared}
use Rattle.vl_engine_model.specs.Jobs.{Made}
use Rattle.vl_engine_model.specs.Levels.{level_at}
use Rattle.vl_engine_model.specs.Rulings.Install.{installed}
use Rattle.vl_engine_model.specs.Tidy.{IsTidy, IsTrueTable, sealed}
use Rattle.vl_engine_model.specs.TidyLevels.{AreLevels, IsApart}
use Rattle.vl_engine_model.specs.declared.job.Job.{Job}
use Rattle.vl_engine_model.specs.declared.job.OpenJob.{OpenJob}
use Rattle.vl_engine_model.specs.declared.layout.Layout.{Layout}
use Rattle.vl_engine_model.specs.declared.table.Table as laid
use Rattle.vl_memtable.specs.Contents.{Contents}
use Rattle.vl_memtable.specs.declared.frozen_log.FrozenLog.{FrozenLog}
use Rattle.vl_model.specs.History.{History}
use Rattle.vl_model.specs.Keys.{key_cmp}
use Rattle.vl_table.specs.declared.table.Table.{Table}
use Rattle.vl_version.specs.Shared.{AreSameLogs}
use Rattle.vl_version.specs.declared.levels.Levels.{Levels}
use Rattle.vl_version.specs.declared.version.Version.{Version}
use Rattle.vl_version.specs.levels.LevelTables.{AreAllApart, AreApart, footer_of}
use Rattle.vl_version.specs.levels.LevelsLooked.{AreInOrder}

-- ---- in key order

less_is : (r : Ordering) → is_lt r ≡ true → r ≡ Less
less_is Less is = refl
less_is Equal is = absurd cc
less_is Greater is = absurd cc

level_deeper : (n : ℕ) (ts : List laid.Table) (deeper : List (List laid.Table))
    → level_at (n + 1) (ts ∷ deeper) ≡ level_at n deeper
level_deeper n ts deeper =
    let off : (n + 1 == 0) ≡ false = grind (arith, nat_tests) in
    let back : n + 1 - 1 ≡ n = omega arith in
    ap (λ (b : Bool). if b then ts else level_at (n + 1 - 1) deeper) off ∙ ap (λ (m : ℕ). level_at m deeper) back

module _ {H : Type 0} (bytes : H → Option (List ℕ)) where
  last_is : (t : Table H) (x : laid.Table) → IsTableOf bytes t x → IsTrueTable x → (footer_of t).last ≡ x.last
  last_is t x is so = ap (λ (f : Foot). f.head.last) is.of.shape.foot ∙ sym (ap (λ (y : laid.Table). y.last) so)

  first_is : (t : Table H) (x : laid.Table) → IsTableOf bytes t x → IsTrueTable x → (footer_of t).first ≡ x.first
  first_is t x is so = ap (λ (f : Foot). f.head.first) is.of.shape.foot ∙ sym (ap (λ (y : laid.Table). y.first) so)

  level_apart : (ts : List (Table H)) (xs : List laid.Table) → AreTablesOf bytes ts xs → AllByRecursion IsTrueTable xs
      → IsApart xs
      → AreApart ts
  level_apart [] xs are so apart = tt
  level_apart (t ∷ []) xs are so apart = tt
  level_apart (t ∷ u ∷ us) [] are so apart = absurd are
  level_apart (t ∷ u ∷ us) (x ∷ []) are so apart = absurd are.1
  level_apart (t ∷ u ∷ us) (x ∷ y ∷ ys) are so apart = (
    ap (λ (k : List ℕ). key_cmp k (footer_of u).first) (last_is t x are.0 so.0)
        ∙ ap (key_cmp x.last) (first_is u y are.1.0 so.1.0) ∙ less_is (key_cmp x.last y.first) apart.0.0,
    level_apart (u ∷ us) (y ∷ ys) are.1 so.1 apart.1,
  )

  each_apart : (levels : List (List (Table H))) (ls : List (List laid.Table)) → AllZip (AreTablesOf bytes) levels ls
      → AllByRecursion IsTrueTable (flat_map (λ xs. xs) ls) → ((n : ℕ) → IsApart (level_at n ls)) → AreAllApart levels
  each_apart [] ls are so apart = tt
  each_apart (ts ∷ levels) [] are so apart = absurd are
  each_apart (ts ∷ levels) (xs ∷ ls) are so apart = (
    level_apart ts xs are.0 (all_front IsTrueTable xs (flat_map (λ ys. ys) ls) so) (apart 0),
    each_apart levels ls are.1 (all_back IsTrueTable xs (flat_map (λ ys. ys) ls) so)
        (λ n. subst IsApart (level_deeper n xs ls) (apart (n + 1))),
  )

  -- Levels that have those of a layout are in key order.
  pub order_laid : (levels : Levels H) (ls : List (List laid.Table)) → AreLevelsOf bytes levels ls → AreLevels ls
      → AllByRecursion IsTrueTable (flat_map (λ xs. xs) ls) → AreInOrder levels
  order_laid levels [] are tidy so = absurd are
  order_laid levels (xs ∷ ls) are tidy so =
      each_apart levels.deeper.items ls are.1 (all_back IsTrueTable xs (flat_map (λ ys. ys) ls) so)
      (λ n. subst IsApart (level_deeper n xs ls) (tidy.apart (n + 1) (omega arith)))

  -- ---- behind an install

  -- where its levels have those of the layout, and the rest is as before
  module _ (before after : Version H) (l : Layout) (job : Job) (made : Made) (has : HasLayout bytes before l)
      (stay : IsWider (sealed (installed job made l)) (sealed l)) (tidy : AreLevels (installed job made l).levels)
      (so : AllByRecursion IsTrueTable (flat_map (λ xs. xs) (installed job made l).levels))
      (levels : AreLevelsOf bytes after.behind.levels (installed job made l).levels)
      (active : after.active ≡ before.active) (frozen : after.behind.frozen.items ≡ before.behind.frozen.items)
      (logs : AreSameLogs bytes before.behind.logs.items after.behind.logs.items) where
    pub laid_installed : HasLayout bytes after (installed job made l)
    laid_installed = record {
      active = ap (λ (m : Contents). m.entries) active ∙ has.active;
      frozen = subst (λ (fs : List FrozenLog). AllZip IsMemtableOf fs l.frozen) (sym frozen) has.frozen;
      levels = levels;
      in_order = order_laid after.behind.levels (installed job made l).levels levels tidy so;
      logs = λ n x at. logs_shared bytes before.behind.logs.items after.behind.logs.items logs n x (has.logs n x (stay n x at));
      told = told_shared bytes before.behind.logs.items after.behind.logs.items logs has.told;
      below = below_shared bytes l.active.number before.behind.logs.items after.behind.logs.items logs has.below;
    }

  -- So it is of an install that goes on over a disk.
  pub laid_behind : (before after : Version H) (b : Base) (l : Layout) (h : History) (o : OpenJob) (made : Made)
      (disk : DiskState) → IsBase b l h → IsTidy (layout_logs l) l h → Holds b l disk → CanInstall b l o made disk
      → HasLayout bytes before l → AreLevelsOf bytes after.behind.levels (installed o.job made l).levels → after.active ≡ before.active
      → after.behind.frozen.items ≡ before.behind.frozen.items
      → AreSameLogs bytes before.behind.logs.items after.behind.logs.items → HasLayout bytes after (installed o.job made l)
  laid_behind before after b l h o made disk base tidy holds can has levels active frozen logs =
      let tidy_next = tidy_then b l h o made disk base tidy holds can in
      laid_installed before after l o.job made has (stays b l h o made disk base tidy holds can) tidy_next.levels
      tidy_next.true_tables levels active frozen logs
