-- A merge that is planned of a version that has a layout does what the ruling's job says.
use Rattle.std.specs.Prelude.{◌≡◌, ℕ, ◌==◌, false, List, [], ◌∷◌, ◌++◌, map, Option, refl}
use Rattle.std.specs.List.{AllByRecursion, AllZip, flat_map, list_any}
use Rattle.std.proofs.Common.{sym, ap, subst, ◌∙◌}
use Rattle.vl_compact.specs.Laid as compact
use Rattle.vl_compact.specs.Laid.{AreBoth}
use Rattle.vl_compact.specs.Progress.{IsJobOf}
use Rattle.vl_compact.specs.declared.job.Job.{Job}
use Rattle.vl_disk.specs.declared.writer.Writer.{Ghosts as Writers}
use Rattle.vl_engine_laws.specs.Laid.{AreTablesOf, HasLayout, IsMemtableOf, IsTableOf, by_level}
use Rattle.vl_engine_laws.specs.Pointed.{layout_logs}
use Rattle.vl_engine_laws.specs.Represents.{StandsFor}
use Rattle.vl_engine_laws.specs.declared.kept.Core.{Core}
use Rattle.vl_engine_laws.specs.laws.LaidTables.{tables_are}
use Rattle.vl_engine_laws.specs.laws.LiveLaws.{same_floor}
use Rattle.vl_engine_laws.specs.laws.PlanSources.{IsPart, sourced_part}
use Rattle.vl_engine_model.specs.Levels.{is_among}
use Rattle.vl_engine_model.specs.Logs.{memtable}
use Rattle.vl_engine_model.specs.Rulings.Plan.{job_of, sourced}
use Rattle.vl_engine_model.specs.Sources.{floor, numbers_of, table_entries, tables}
use Rattle.vl_engine_model.specs.Tidy.{IsTidy, IsTrueTable}
use Rattle.vl_engine_model.specs.declared.job.Target.{Target}
use Rattle.vl_engine_model.specs.declared.layout.Layout.{Layout}
use Rattle.vl_engine_model.specs.declared.segment.Segment.{Segment}
use Rattle.vl_engine_model.specs.declared.table.Table as laid
use Rattle.vl_engine_model_laws.specs.laws.Pairs.{all_parts}
use Rattle.vl_memtable.specs.declared.frozen_log.FrozenLog.{FrozenLog}
use Rattle.vl_merge.specs.Marked.{Marked}
use Rattle.vl_model.specs.History.{History}
use Rattle.vl_model.specs.declared.entry.Entry.{Entry}
use Rattle.vl_oracle.specs.LiveTickets.{floor_of}
use Rattle.vl_table.specs.OfTables.{AreOf}
use Rattle.vl_table.specs.declared.table.Table.{Table}
use Rattle.vl_version.specs.Bases.{HasSources, is_input, marked_as, marked_tables}
use Rattle.vl_version.specs.Sources.{held_entries, in_memory, tables_in}
use Rattle.vl_version.specs.declared.base.Base.{Base}
use Rattle.vl_version.specs.declared.version.Version.{Version}

-- ---- the sources

frozen_entries : (held : List FrozenLog) (ss : List Segment) → AllZip IsMemtableOf held ss
    → flat_map memtable ss ≡ held_entries held
frozen_entries [] [] all = refl
frozen_entries [] (s ∷ ss) all = absurd all
frozen_entries (f ∷ held) [] all = absurd all
frozen_entries (f ∷ held) (s ∷ ss) all =
    ap (λ (es : List Entry). es ++ flat_map memtable ss) (sym all.0.entries)
    ∙ ap (λ (es : List Entry). f.memtable.entries ++ es) (frozen_entries held ss all.1)

module _ {H : Type 0} (bytes : H → Option (List ℕ)) where
  tables_of_entries : (held : List (Table H)) (ts : List laid.Table) → AllZip (IsTableOf bytes) held ts
      → AreOf bytes held (map table_entries ts)
  tables_of_entries [] [] all = tt
  tables_of_entries [] (t ∷ ts) all = absurd all
  tables_of_entries (u ∷ held) [] all = absurd all
  tables_of_entries (u ∷ held) (t ∷ ts) all = (all.0.of, tables_of_entries held ts all.1)

  -- a table is an input by its number
  marked_alike : (inputs : List ℕ) (held : List (Table H)) (ts : List laid.Table) → AllZip (IsTableOf bytes) held ts
      → flat_map (λ (t : laid.Table). marked_as (is_among inputs t) t.entries) ts
      ≡ marked_tables inputs held (map table_entries ts)
  marked_alike inputs [] [] all = refl
  marked_alike inputs [] (t ∷ ts) all = absurd all
  marked_alike inputs (u ∷ held) [] all = absurd all
  marked_alike inputs (u ∷ held) (t ∷ ts) all =
      ap (λ (n : ℕ). marked_as (list_any (λ number. number == n) inputs) t.entries
      ++ flat_map (λ (x : laid.Table). marked_as (is_among inputs x) x.entries) ts) (sym all.0.number)
      ∙ ap (λ (ms : List Marked). marked_as (is_input inputs u) t.entries ++ ms) (marked_alike inputs held ts all.1)

  module _ (version : Version H) (l : Layout) (has : HasLayout bytes version l) where
    in_memory_is : flat_map memtable (l.active ∷ l.frozen) ≡ in_memory version
    in_memory_is =
        ap (λ (es : List Entry). es ++ flat_map memtable l.frozen) (sym has.active)
        ∙ ap (λ (es : List Entry). version.active.entries ++ es) (frozen_entries version.behind.frozen.items l.frozen has.frozen)

    -- The version has the layout's sources, whichever tables are inputs.
    pub has_sources : (inputs : List ℕ) → HasSources bytes version inputs (sourced l inputs)
    has_sources inputs = record {
      tabled = map table_entries (tables l);
      tables = tables_of_entries (tables_in version) (tables l) (tables_are bytes version l has);
      in_order = has.in_order;
      entries =
          ap (λ (es : List Entry). marked_as false es
          ++ flat_map (λ (t : laid.Table). marked_as (is_among inputs t) t.entries) (tables l)) in_memory_is
          ∙ ap (λ (ms : List Marked). marked_as false (in_memory version) ++ ms)
          (marked_alike inputs (tables_in version) (tables l) (tables_are bytes version l has));
    }

  -- ---- the levels

  -- a true table is what its entries come to
  true_tables : (held : List (Table H)) (ts : List laid.Table) → AreTablesOf bytes held ts → AllByRecursion IsTrueTable ts
      → compact.AreTablesOf bytes held ts
  true_tables [] [] all true_ones = tt
  true_tables [] (t ∷ ts) all true_ones = absurd all
  true_tables (u ∷ held) [] all true_ones = absurd all
  true_tables (u ∷ held) (t ∷ ts) all true_ones = (
    record { of = all.0.of; number = all.0.number; format = all.0.format; true_table = true_ones.0 },
    true_tables held ts all.1 true_ones.1,
  )

  true_levels : (levels : List (List (Table H))) (ls : List (List laid.Table)) → AllZip (AreTablesOf bytes) levels ls
      → AllByRecursion IsTrueTable (flat_map (λ level. level) ls) → AllZip (compact.AreTablesOf bytes) levels ls
  true_levels [] [] all true_ones = tt
  true_levels [] (ts ∷ ls) all true_ones = absurd all
  true_levels (held ∷ levels) [] all true_ones = absurd all
  true_levels (held ∷ levels) (ts ∷ ls) all true_ones =
      let parts = all_parts IsTrueTable ts (flat_map (λ level. level) ls) true_ones in
      (true_tables held ts all.0 parts.0, true_levels levels ls all.1 parts.1)

  pub levels_are : (version : Version H) (l : Layout) (h : History) → HasLayout bytes version l → IsTidy (layout_logs l) l h
      → compact.AreLevelsOf bytes version.behind.levels l.levels
  levels_are version l h has tidy = true_levels (by_level version.behind.levels) l.levels has.levels tidy.true_tables

  -- ---- the job

  -- The merge of some of all tables, in their order, does the job that is planned of them.
  module _ (core : Core H) (h : History) (l : Layout) (is : StandsFor bytes core h l) where
    pub floor_is : floor_of core.front.oracle ≡ floor l h
    floor_is = same_floor core.front.oracle l h is.fronts.front.last is.fronts.front.live_are is.fronts.front.lived

    pub job_is : {W R : Type 0} (writers : Writers W) {g : _} (job : Job (Base H R) H W g) (ts : List laid.Table) (target : Target)
        → IsPart ts (tables l) → compact.AreTablesOf bytes job.inputs.tables.items ts → job.inputs.target ≡ target
        → job.base.version ≡ core.version → job.floor ≡ floor_of core.front.oracle → job.keep ≡ core.back.state.keep
        → IsJobOf writers bytes (λ base inputs ms. HasSources bytes base.version inputs ms) job (job_of l h ts target)
    job_is writers job ts target part inputs target_is version floor_so keep_so = record {
      tables = ts;
      inputs = inputs;
      numbers = refl;
      base = let inputs_so = numbers_of ts in
          subst (λ (v : Version H). HasSources bytes v inputs_so (sourced l inputs_so)) (sym version)
          (has_sources core.version l is.has inputs_so);
      entries = sourced_part l ts is.tidy.levels.distinct part;
      target = target_is;
      floor = floor_so ∙ floor_is;
      keep = keep_so ∙ is.fronts.keep;
      some = is.tidy.some;
    }
