-- The layout behind an install is tidy, whatever the disk holds: its tables lead where those led that they take the place of, in
-- logs that stay.
use Rattle.std.specs.Prelude.{◌≡◌, false, not, [], ◌∷◌}
use Rattle.std.specs.List.{AllByRecursion, flat_map}
use Rattle.std.proofs.Common.{sym, subst}
use Rattle.vl_engine_laws.specs.Files.{IsLogFile}
use Rattle.vl_engine_laws.specs.Pointed.{layout_logs}
use Rattle.vl_engine_laws.specs.laws.FileLaws.{all_each, all_front}
use Rattle.vl_engine_laws.specs.laws.FlushTidy.{IsThere, IsWider, all_alike, flat_far, memtables_far, tables_far, tidy_with}
use Rattle.vl_engine_laws.specs.laws.InstallRulings.{GoesOn, install_made_so}
use Rattle.vl_engine_laws.specs.laws.LedLaws.{AreFarTo, IsFarTo}
use Rattle.vl_engine_laws.specs.laws.SegmentLaws.{segment_wider}
use Rattle.vl_engine_model.specs.Jobs.{AreLent, AreOutputs, Made}
use Rattle.vl_engine_model.specs.Levels.{is_among}
use Rattle.vl_engine_model.specs.Logs.{memtable}
use Rattle.vl_engine_model.specs.Merging.{outputs}
use Rattle.vl_engine_model.specs.Ruling.{Ruling, is_idle}
use Rattle.vl_engine_model.specs.Rulings.Install.{InstallAnswer, installed, put_in}
use Rattle.vl_engine_model.specs.Sources.{behind_active, sources, table_entries, tables}
use Rattle.vl_engine_model.specs.Tidy.{IsTidy, sealed}
use Rattle.vl_engine_model.specs.declared.job.OpenJob.{OpenJob}
use Rattle.vl_engine_model.specs.declared.layout.Layout.{Layout}
use Rattle.vl_engine_model.specs.declared.segment.Segment.{Segment}
use Rattle.vl_engine_model.specs.declared.table.Table.{Table}
use Rattle.vl_engine_model.specs.laws.ShowsLaws.{all_both}
use Rattle.vl_engine_model_laws.specs.laws.JobTables.{all_made, made_from}
use Rattle.vl_engine_model_laws.specs.laws.Switches.{all_replaced}
use Rattle.vl_engine_model_laws.specs.laws.TidyRulings.{install_tidy}
use Rattle.vl_model.specs.History.{History}
use Rattle.vl_model.specs.declared.entry.Entry.{Entry}

-- An install goes on whose tables were made of its job, with numbers of their own, and the logs whose memtables are kept can be
-- spelled.
pub record IsPutTidy (l : Layout) (h : History) (o : OpenJob) (made : Made) : Type 0 where
  pub tidy : IsTidy (layout_logs l) l h
  pub goes : GoesOn l o
  pub lent : AreLent o.lent made
  pub all : AreOutputs o.job made
  pub logs : AllByRecursion IsLogFile (l.active ∷ l.frozen)

module _ (l : Layout) (h : History) (o : OpenJob) (made : Made) (put : IsPutTidy l h o made) where
  abbrev pub next : Layout
  next = installed o.job made l

  -- ---- tables

  -- What is so of all tables and of those that were made is so of all tables then,
  pub each_put : (P : Table → Type 0) → AllByRecursion P (tables l) → AllByRecursion P made.tables
      → AllByRecursion P (tables next)
  each_put P were are = all_replaced P o.job.inputs made.tables are o.job.target l.levels
      (all_each P (λ (t : Table). is_among o.job.inputs t ≡ false → P t) (tables l) (λ t so out. so) were)

  -- and what is so of all tables' entries is so of those of the tables that were made.
  pub each_entry_put : (Q : Entry → Type 0) → AllByRecursion (λ (t : Table). AllByRecursion Q t.entries) (tables l)
      → AllByRecursion (λ (t : Table). AllByRecursion Q t.entries) made.tables
  each_entry_put Q each = subst (AllByRecursion (λ (t : Table). AllByRecursion Q t.entries)) (sym put.all.tables)
      (all_made (AllByRecursion Q) (λ (t : Table). AllByRecursion Q t.entries) (λ n es these. these) put.all.numbers
      (outputs o.job)
      (made_from l h o.job o.moved (put.tidy.job o put.goes.open_is) made put.all Q each))

  -- ---- logs

  -- Logs that stay are found as before.
  pub logs_put : IsWider (sealed next) (sealed l)
  logs_put n log at =
      segment_wider (λ (x : Segment). not (is_idle (put_in o.job made l) x)) n log l.frozen l.flushed put.tidy.distinct.1 at

  -- ---- the layout

  -- with the logs of before it is tidy
  pub still_put : IsTidy (layout_logs l) next h
  still_put = subst (λ (r : Ruling InstallAnswer). IsTidy (layout_logs l) r.layout r.history)
      (sym (install_made_so l h o made put.goes))
      (install_tidy (layout_logs l) l h put.tidy o put.goes.open_is made put.all put.lent)

  next_far : AreFarTo (IsThere (sealed next)) (sources next)
  next_far = all_both (λ (e : Entry). IsFarTo (IsThere (sealed next)) e.body) (memtable l.active) (behind_active next)
      (all_front (λ (e : Entry). IsFarTo (IsThere (sealed next)) e.body) (memtable l.active) []
      (memtables_far (IsThere (sealed next)) (l.active ∷ []) (put.logs.0, tt)))
      (all_both (λ (e : Entry). IsFarTo (IsThere (sealed next)) e.body) (flat_map memtable l.frozen)
      (flat_map table_entries (tables next))
      (memtables_far (IsThere (sealed next)) l.frozen put.logs.1)
      (flat_far (IsThere (sealed next)) (tables next) (tables_far (sealed next) (tables next) still_put.placed)))

  -- So it is tidy with the logs that stay.
  pub tidy_put : IsTidy (layout_logs next) next h
  tidy_put = tidy_with (layout_logs l) (layout_logs next) next h still_put
      (all_alike (sealed next) (sealed l) logs_put (sources next) next_far)
