-- A flush, and an install of an open job, whatever they answer, leave files and levels as they should be.
use Rattle.std.proofs.Common.{◌≡◌, ◌≢◌, ℕ, Bool, true, false, List, [], ◌∷◌, ◌++◌, sym, ◌∙◌, subst, arith}
use Rattle.std.proofs.lemmas.Bool.Decides.{nat_tests}
use Rattle.std.specs.Prelude.{Option, Some, None, ◌==◌, if◌then◌else◌}
use Rattle.std.specs.List.{AllByRecursion, list_any}
use Rattle.vl_model.specs.Conflicts.{Named}
use Rattle.vl_model.specs.History.{History}
use Rattle.vl_model.specs.Numbers.{has}
use Rattle.vl_engine_model.specs.Jobs.{AreDistinct, AreLent, AreOutputs, Made, lent_numbers}
use Rattle.vl_engine_model.specs.OpenJobs.{IsOpenWell}
use Rattle.vl_engine_model.specs.Ruling.{Ruling, StepAnswer, has_no_number, has_no_epoch}
use Rattle.vl_engine_model.specs.Rulings.Flush.{flush_of, flush_ruling, flush_unless}
use Rattle.vl_engine_model.specs.Rulings.Install.{InstallAnswer, install_checked, install_ruling, install_unless, moved_since, race}
use Rattle.vl_engine_model.specs.Sources.{numbers_of, oldest, tables}
use Rattle.vl_engine_model.specs.Stock.{IsWellStocked}
use Rattle.vl_engine_model.specs.TidyLevels.{AreLevels, IsDistinct}
use Rattle.vl_engine_model.specs.declared.file_name.FileName.{FileName}
use Rattle.vl_engine_model.specs.declared.job.OpenJob.{OpenJob}
use Rattle.vl_engine_model.specs.declared.layout.Layout.{Layout}
use Rattle.vl_engine_model.specs.declared.segment.Segment.{Segment}
use Rattle.vl_engine_model.specs.declared.table.Table.{Table}
use Rattle.vl_engine_model_laws.specs.laws.Files.{all_parts, or_false, true_false}
use Rattle.vl_engine_model_laws.specs.laws.JobTables.{made_below, made_footed, made_into}
use Rattle.vl_engine_model_laws.specs.laws.LevelsKept.{levels_flushed, levels_replaced}
use Rattle.vl_engine_model_laws.specs.laws.Pairs.{AreOther}
use Rattle.vl_engine_model_laws.specs.laws.RulingStocked.{install_well}
use Rattle.vl_engine_model_laws.specs.laws.WellInstalled.{not_standing}

distinct_tables : (ts : List Table) (more : List ℕ) → AreDistinct (numbers_of ts ++ more) → IsDistinct ts
distinct_tables [] more distinct = tt
distinct_tables (t ∷ ts) more distinct = (off ts distinct.0, distinct_tables ts more distinct.1)
  where
    off : (us : List Table) → has t.number (numbers_of us ++ more) ≡ false
        → AllByRecursion (λ (u : Table). u.number ≢ t.number) us
    off [] none = tt
    off (u ∷ us) none =
        let both = or_false (u.number == t.number) (has t.number (numbers_of us ++ more)) none in
        ((λ same. let at : (u.number == t.number) ≡ true = grind (arith, nat_tests, same) in true_false (sym at ∙ both.0)), off us both.1)

module _ (l : Layout) (h : History) (o : OpenJob) (is : l.job ≡ Some o) (made : Made)
    (w : IsWellStocked l) (are : AreLevels l.levels) (k : IsOpenWell l h o.job o.moved) (all : AreOutputs o.job made)
    (lent : AreLent o.lent made) where
  pub lent_here : AreLent (lent_numbers l.job) made
  lent_here = subst (λ (job : Option OpenJob). AreLent (lent_numbers job) made) (sym is) lent

  pub install_stocked : IsWellStocked (install_ruling l h o.job made).layout
  install_stocked = install_well l h w o.job made lent_here k.standing
      (made_footed l h o.job o.moved k made all w.stocked.footed)
      (made_into l h o.job o.moved k made all w.stocked.footed)
      (made_below l h o.job o.moved k made all w.stocked.footed w.drawn.points)
      are.distinct

  pub distinct_made : IsDistinct made.tables
  distinct_made = distinct_tables made.tables made.leavings lent.distinct

  -- what was lent is no table yet
  pub other_made : AreOther made.tables (tables l)
  other_made =
      each made.tables (all_parts (λ n. has n (lent_numbers l.job) ≡ true) (numbers_of made.tables) made.leavings lent_here.drawn).0
    where
      each : (ts : List Table) → AllByRecursion (λ n. has n (lent_numbers l.job) ≡ true) (numbers_of ts)
          → AllByRecursion (λ (x : Table). AllByRecursion (λ (y : Table). y.number ≢ x.number) (tables l)) ts
      each [] were = tt
      each (t ∷ ts) were = (off (tables l) (not_standing l w t.number were.0), each ts were.1)
        where
          off : (us : List Table) → list_any (λ (u : Table). t.number == u.number) us ≡ false
              → AllByRecursion (λ (u : Table). u.number ≢ t.number) us
          off [] none = tt
          off (u ∷ us) none =
              let both = or_false (t.number == u.number) (list_any (λ (v : Table). t.number == v.number) us) none in (
                (λ same. let at : (t.number == u.number) ≡ true = grind (arith, nat_tests, same) in true_false
                    (sym at ∙ both.0)),
                off us both.1,
              )

  either : (b : Bool) (x y : Ruling InstallAnswer) → AreLevels x.layout.levels → AreLevels y.layout.levels
      → AreLevels (if b then x else y).layout.levels
  either true x y one other = one
  either false x y one other = other

  checked : (o' : Option Named) → AreLevels (install_checked l h o.job made o').layout.levels
  checked (Some named) = are
  checked None =
      either (has_no_epoch l) _ _ are (levels_replaced l h o.job o.moved k made all are distinct_made other_made)

  unless : (halted : Option FileName) → AreLevels (install_unless halted l h o.job made).layout.levels
  unless (Some name) = are
  unless None = checked (race o.job (moved_since l.job))

  pub install_levels : AreLevels (install_ruling l h o.job made).layout.levels
  install_levels = unless l.halted

-- ---- a flush

module _ (l : Layout) (h : History) (w : IsWellStocked l) (are : AreLevels l.levels) where
  kept_either : (b : Bool) (x y : Ruling StepAnswer) → AreLevels x.layout.levels → AreLevels y.layout.levels
      → AreLevels (if b then x else y).layout.levels
  kept_either true x y one other = one
  kept_either false x y one other = other

  flush_of-levels : (o : Option Segment) → AreLevels (flush_of l h o).layout.levels
  flush_of-levels None = are
  flush_of-levels (Some s) =
      kept_either (has_no_number l.next_table 1) _ _ are
      (kept_either (has_no_epoch l) _ _ are (levels_flushed l s are w.stocked.tables_drawn))

  flush_unless-levels : (halted : Option FileName) → AreLevels (flush_unless halted l h).layout.levels
  flush_unless-levels (Some name) = are
  flush_unless-levels None = flush_of-levels (oldest l.frozen)

  pub flush_levels : AreLevels (flush_ruling l h).layout.levels
  flush_levels = flush_unless-levels l.halted
