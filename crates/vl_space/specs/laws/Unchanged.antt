-- What an engine keeps of where space comes back from stays the layout's behind each call that leaves logs, tables and the open pass.
use Rattle.std.proofs.Common.{◌≡◌, ℕ, List, refl, sym, ap, ◌∙◌, subst}
use Rattle.std.specs.Prelude.{true, Option, None, Some, Vec}
use Rattle.std.specs.Global.{Global}
use Rattle.std.specs.List.{AllByRecursion}
use Rattle.std.specs.Option.{option_map}
use Rattle.vl_engine_laws.specs.Passing.{AreReadable}
use Rattle.vl_engine_laws.specs.declared.kept.Core.{Core}
use Rattle.vl_engine_model.specs.Tidy.{log_numbers, sealed}
use Rattle.vl_engine_model.specs.Sources.{rising, tables}
use Rattle.vl_engine_model.specs.declared.job.OpenPass.{OpenPass}
use Rattle.vl_engine_model.specs.declared.layout.Layout.{Layout}
use Rattle.vl_engine_model.specs.declared.segment.Segment.{Segment}
use Rattle.vl_engine_model.specs.declared.table.Table.{Table}
use Rattle.vl_engine_model_laws.specs.Calls.{Call, ruling_on, Abandon, Begin, BeginView, Commit, Drain, EndPass, Flush, Forget}
use Rattle.vl_engine_model_laws.specs.Calls.{Fresh, Install, Keep, Pick, Plan, Release, Relocate, Rotate, Sweep, SweepTo}
use Rattle.vl_engine_model_laws.specs.laws.EachRuling.{begin_leaves, commit_leaves, drain_leaves, fresh_leaves, keep_leaves}
use Rattle.vl_engine_model_laws.specs.laws.EachRuling.{plan_leaves, relocate_leaves, sweep_leaves, sweep_to_leaves}
use Rattle.vl_model.specs.History.{History}
use Rattle.vl_model.specs.Numbers.{has}
use Rattle.vl_seglog.specs.declared.sealed.SealedLog.{SealedLog}
use Rattle.vl_space.specs.Collecting.{Collects, LeavesSpace, Tallies}
use Rattle.vl_space.specs.declared.kept.Collecting.{Collecting}
use Rattle.vl_stats.specs.Live.{AreOf}
use Rattle.vl_stats.specs.Tallies.{Tallied, lengths_of}

-- the same logs are sealed, the same tables stand, and the same pass is open
pub record SameSpace (l m : Layout) : Type 0 where
  pub sealed_is : sealed m ≡ sealed l
  pub tables_are : tables m ≡ tables l
  pub flushed_is : m.flushed ≡ l.flushed
  pub pass_is : m.pass ≡ l.pass

module _ {H : Type 0} (before after : Core H) (logs : after.version.behind.logs ≡ before.version.behind.logs) (l m : Layout)
    (same : SameSpace l m) where
  still_tallied : (tally : Option Tallied) → Tallies before.version.behind.logs.items tally l
      → Tallies after.version.behind.logs.items tally m
  still_tallied None is =
      subst (λ (v : Vec (SealedLog H) Global). AllByRecursion
      (λ (log : SealedLog H). has log.number (log_numbers (sealed m)) ≡ true) v.items) (sym logs)
      (subst (λ (ss : List Segment). AllByRecursion (λ (log : SealedLog H). has log.number (log_numbers ss) ≡ true)
      before.version.behind.logs.items) (sym same.sealed_is) is)
  still_tallied (Some tally) is = record {
    logs = is.logs ∙ ap (λ (ss : List Segment). lengths_of (rising ss)) (sym same.sealed_is);
    live = subst (λ (ts : List Table). AreOf ts tally.live) (sym same.tables_are) is.live;
  }

  pub still_collects : (kept : Collecting) → Collects before kept l → Collects after kept m
  still_collects kept collects = record {
    tally = still_tallied kept.tally collects.tally;
    passing = collects.passing ∙ ap (option_map (λ (p : OpenPass). p.segment)) (sym same.pass_is);
    readable = subst (λ (ss : List Segment). AreReadable (record m { flushed = ss })) (sym same.flushed_is) collects.readable;
  }

-- ---- calls

module _ (l : Layout) (h : History) where
  abbrev Stays : Layout → History → Type 0
  Stays m _ = SameSpace l m

  here : SameSpace l l
  here = record { sealed_is = refl; tables_are = refl; flushed_is = refl; pass_is = refl }

  pub space_stays : (call : Call) → LeavesSpace call → SameSpace l (ruling_on call l h).layout
  space_stays Begin _ =
      begin_leaves Stays l h here (λ _. record { sealed_is = refl; tables_are = refl; flushed_is = refl; pass_is = refl })
  space_stays BeginView _ =
      begin_leaves Stays l h here (λ _. record { sealed_is = refl; tables_are = refl; flushed_is = refl; pass_is = refl })
  space_stays (Commit t) _ =
      commit_leaves Stays l h here t (record { sealed_is = refl; tables_are = refl; flushed_is = refl; pass_is = refl })
      (record { sealed_is = refl; tables_are = refl; flushed_is = refl; pass_is = refl })
  space_stays (Forget t) _ = record { sealed_is = refl; tables_are = refl; flushed_is = refl; pass_is = refl }
  space_stays (Release v) _ = record { sealed_is = refl; tables_are = refl; flushed_is = refl; pass_is = refl }
  space_stays Rotate never = absurd never
  space_stays Flush never = absurd never
  space_stays (Relocate pass batch) _ =
      relocate_leaves Stays l h here (λ _. record { sealed_is = refl; tables_are = refl; flushed_is = refl; pass_is = refl }) pass
      batch
  space_stays Plan _ = plan_leaves Stays l h here (λ _. record { sealed_is = refl; tables_are = refl; flushed_is = refl; pass_is = refl })
  space_stays (Drain segment) _ =
      drain_leaves Stays l h here (λ _. record { sealed_is = refl; tables_are = refl; flushed_is = refl; pass_is = refl }) segment
  space_stays Fresh _ = fresh_leaves Stays l h here (record { sealed_is = refl; tables_are = refl; flushed_is = refl; pass_is = refl })
  space_stays (Abandon job made) _ = record { sealed_is = refl; tables_are = refl; flushed_is = refl; pass_is = refl }
  space_stays (Install job made) never = absurd never
  space_stays (Pick percent) never = absurd never
  space_stays (EndPass pass) never = absurd never
  space_stays Sweep _ =
      sweep_leaves Stays l h here (λ _. record { sealed_is = refl; tables_are = refl; flushed_is = refl; pass_is = refl })
  space_stays (SweepTo least) _ =
      sweep_to_leaves Stays l h here (λ _. record { sealed_is = refl; tables_are = refl; flushed_is = refl; pass_is = refl }) least
  space_stays (Keep v) _ =
      keep_leaves Stays l h here v (record { sealed_is = refl; tables_are = refl; flushed_is = refl; pass_is = refl })
