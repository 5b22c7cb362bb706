-- What an engine stands for in memory behind an install: its tables take the place of the inputs in the version and in the layout.
use Rattle.std.specs.Prelude.{◌≡◌, ℕ, ◌+◌, List, [], ◌∷◌, length, map, Option, None, Some, refl}
use Rattle.std.specs.List.{AllZip, filter}
use Rattle.std.specs.Option.{option_map}
use Rattle.std.proofs.Common.{sym, ap, subst, arith, append-nil, ◌∙◌}
use Rattle.vl_back.specs.InstallStaging.{replacing_of}
use Rattle.vl_table.specs.body.Footer.{Foot}
use Rattle.vl_compact.specs.Laid as compact
use Rattle.vl_compact.specs.Places.{HasPlace, first_key}
use Rattle.vl_compact.specs.Progress.{IsTableFile, made_of}
use Rattle.vl_compact.specs.Replacing.{AreReady}
use Rattle.vl_compact.specs.declared.files.Synced.{Synced}
use Rattle.vl_compact.specs.declared.job.Job.{Job as Merging}
use Rattle.vl_disk.specs.DiskState.{DiskState}
use Rattle.vl_disk.specs.declared.name.Name.{Name}
use Rattle.vl_disk.specs.declared.watched.Watched.{Ghosts}
use Rattle.vl_disk.specs.declared.writer.Writer.{Ghosts as Writers}
use Rattle.vl_engine_laws.specs.laws.FlushKeeps.{as_many}
use Rattle.vl_steps.specs.laws.FlushSteps.{fronts_unflushed, stands_unflushed}
use Rattle.vl_engine_laws.specs.laws.InstallKeeps.{kept_installed}
use Rattle.vl_steps.specs.laws.Planning.{stands_abandoned}
use Rattle.vl_steps.specs.laws.TakenFiles.{AreTold, all_held_laid, tables_of}
use Rattle.vl_steps.specs.Installing.{IsInstalled, IsUninstalled, first_made}
use Rattle.vl_engine_laws.specs.Laid.{AreLevelsOf, AreTablesOf, HasLayout, by_level}
use Rattle.vl_steps.specs.Merging.{HasAllMerge}
use Rattle.vl_engine_laws.specs.Represents.{Fronts, IsFront, StandsFor, file_of}
use Rattle.vl_engine_laws.specs.MayStep.{AreLogFiles}
use Rattle.vl_steps.specs.Taking.{IsHeldTable, TakesBack}
use Rattle.vl_engine_laws.specs.declared.kept.Core.{Core}
use Rattle.vl_engine_laws.specs.laws.InstallRulings.{GoesOn}
use Rattle.vl_engine_laws.specs.laws.InstallSpares.{spares_installed}
use Rattle.vl_engine_laws.specs.laws.InstallTidy.{IsPutTidy, logs_put, tidy_put}
use Rattle.vl_engine_laws.specs.laws.NeededLogs.{laid_left, none_idle}
use Rattle.vl_steps.specs.laws.LaidInstall.{laid_installed}
use Rattle.vl_steps.specs.laws.PlannedJobs.{levels_are}
use Rattle.vl_front.specs.declared.front.Front.{Front}
use Rattle.vl_engine_model.specs.Jobs.{AreLent, AreOutputs, Made, job_ended}
use Rattle.vl_engine_model.specs.Levels.{is_among, replaced}
use Rattle.vl_engine_model.specs.Merging.{outputs}
use Rattle.vl_engine_model.specs.OpenJobs.{IsFitted, IsOpenWell, IsRoomy}
use Rattle.vl_engine_model.specs.Ruling.{halted_at}
use Rattle.vl_engine_model.specs.Rulings.Install.{installed, put_in}
use Rattle.vl_engine_model.specs.Sources as layout
use Rattle.vl_engine_model.specs.Sources.{numbers_of}
use Rattle.vl_engine_model.specs.declared.job.Job.{Job}
use Rattle.vl_engine_model.specs.declared.job.OpenJob.{OpenJob}
use Rattle.vl_engine_model.specs.declared.job.Target.TheVariants.{InPlace, Level}
use Rattle.vl_engine_model.specs.declared.job.Target.{Target}
use Rattle.vl_engine_model.specs.declared.layout.Layout.{Layout}
use Rattle.vl_engine_model.specs.declared.table.Table as laid
use Rattle.vl_manifest.specs.declared.state.ManifestState.{ManifestState}
use Rattle.vl_model.specs.Conflicts.{Named}
use Rattle.vl_memtable.specs.declared.frozen_log.FrozenLog.{FrozenLog}
use Rattle.vl_model.specs.History.{History}
use Rattle.vl_model.specs.declared.entry.Entry.{Entry}
use Rattle.vl_table.specs.Tables.{number_of}
use Rattle.vl_table.specs.declared.table.Table.{Table}
use Rattle.vl_version.specs.Needed.{head_of, is_kept}
use Rattle.vl_version.specs.declared.base.Base.{Base}
use Rattle.vl_version.specs.declared.levels.Levels.{Levels}
use Rattle.vl_version.specs.declared.version.Version.{Version}

-- ---- the tables that were made

module _ {W : Type 0} (w : Writers W) {s : _} where
  -- Their first key is that of the layout's,
  pub first_put : (ts : List (Synced W s)) (outs : List (List Entry)) → AllZip (IsTableFile w) ts outs
      → first_key (tables_of w ts outs) ≡ first_made ts
  first_put [] [] zip = refl
  first_put [] (es ∷ outs) zip = absurd zip
  first_put (t ∷ ts) [] zip = absurd zip
  first_put (t ∷ ts) (es ∷ outs) zip = sym (ap (λ (f : Foot). Some f.head.first) zip.0.shape.foot)

  as_many_made : (ts : List (Synced W s)) (outs : List (List Entry)) → AllZip (IsTableFile w) ts outs
      → length (map (λ (t : Synced W s). t.number) ts) ≡ length outs
  as_many_made [] [] zip = refl
  as_many_made [] (es ∷ outs) zip = absurd zip
  as_many_made (t ∷ ts) [] zip = absurd zip
  as_many_made (t ∷ ts) (es ∷ outs) zip = let same = as_many_made ts outs zip.1 in omega (arith, same)

numbers_alike : {H : Type 0} (bytes : H → Option (List ℕ)) (tables : List (Table H)) (ts : List laid.Table)
    → compact.AreTablesOf bytes tables ts → map number_of tables ≡ numbers_of ts
numbers_alike bytes [] [] all = refl
numbers_alike bytes [] (t ∷ ts) all = absurd all
numbers_alike bytes (u ∷ tables) [] all = absurd all
numbers_alike bytes (u ∷ tables) (t ∷ ts) all =
    ap (λ (n : ℕ). n ∷ map number_of tables) all.0.number
    ∙ ap (λ (ns : List ℕ). t.number ∷ ns) (numbers_alike bytes tables ts all.1)

module _ {H R W : Type 0} (bytes : H → Option (List ℕ)) (w : Writers W) {s : _} (job : Merging (Base H R) H W s) (j : Job)
    (has : HasAllMerge w bytes job j) where
  -- they are all that the merge makes,
  pub outputs_are : AreOutputs j (made_of job j)
  outputs_are = record {
    numbers = map (λ (t : Synced W s). t.number) job.made.items;
    tables = refl;
    enough = as_many_made w job.made.items (outputs j) has.made;
  }

  -- and what was held of them is the layout's.
  pub tables_put : {D : Type 0} (g : Ghosts D) (old new : D) {before after : _} (state : DiskState) → g.told old ≡ Some state
      → AreTold w job.made.items → (took : TakesBack g bytes w job.made.items [] old new before after)
      → compact.AreTablesOf bytes took.tables (made_of job j).tables
  tables_put g old new state told tells took =
      all_held_laid w bytes (g.told old) state told took.tables job.made.items (outputs j)
      (subst (λ (ts : List (Synced W s)). AllZip (IsHeldTable bytes w (g.told old)) took.tables ts) front_is took.held) has.made tells
    where
      front_is : took.front ≡ job.made.items
      front_is = sym (took.made_are ∙ append-nil took.front)

  -- Its inputs are the layout's.
  pub inputs_are : map number_of job.inputs.tables.items ≡ j.inputs
  inputs_are = numbers_alike bytes job.inputs.tables.items has.is.tables has.is.inputs ∙ sym has.is.numbers

-- There is a place for them.
pub place_there : (l : Layout) (h : History) (job : Job) (moved : List Named) → IsOpenWell l h job moved
    → HasPlace job.target job.inputs l.levels
place_there l h job moved well = by job.target well.fitted well.roomy
  where
    by : (target : Target) → IsFitted l job target → IsRoomy l.levels job target → HasPlace target job.inputs l.levels
    by (Level n) fitted roomy = roomy.1.0
    by InPlace fitted roomy = fitted

-- ---- levels

module _ {H : Type 0} (bytes : H → Option (List ℕ)) where
  -- that a table is what its entries come to isn't asked of levels that are had
  tables_back : (tables : List (Table H)) (ts : List laid.Table) → compact.AreTablesOf bytes tables ts
      → AreTablesOf bytes tables ts
  tables_back [] [] all = tt
  tables_back [] (t ∷ ts) all = absurd all
  tables_back (u ∷ tables) [] all = absurd all
  tables_back (u ∷ tables) (t ∷ ts) all =
      (record { of = all.0.of; number = all.0.number; format = all.0.format }, tables_back tables ts all.1)

  each_back : (levels : List (List (Table H))) (ls : List (List laid.Table)) → AllZip (compact.AreTablesOf bytes) levels ls
      → AllZip (AreTablesOf bytes) levels ls
  each_back [] [] all = tt
  each_back [] (ts ∷ ls) all = absurd all
  each_back (tables ∷ levels) [] all = absurd all
  each_back (tables ∷ levels) (ts ∷ ls) all = (tables_back tables ts all.0, each_back levels ls all.1)

  pub levels_back : (levels : Levels H) (ls : List (List laid.Table)) → compact.AreLevelsOf bytes levels ls
      → AreLevelsOf bytes levels ls
  levels_back levels ls all = each_back (by_level levels) ls all

-- ---- behind an install

module _ {D H R W : Type 0} (g : Ghosts D) (bytes : H → Option (List ℕ)) (w : Writers W) {s : _}
    (job : Merging (Base H R) H W s) (old new : D) (before after : Core H) (h : History) (l : Layout) (o : OpenJob)
    (is : StandsFor bytes before h l) (opened : l.job ≡ Some o) (has : HasAllMerge w bytes job o.job) where
  abbrev pub made : Made
  made = made_of job o.job

  -- where its tables were put
  module _ (state : DiskState) (told : g.told old ≡ Some state) (tells : AreTold w job.made.items)
      (did : IsInstalled g bytes w job old new before after) where
    abbrev pub ins : List ℕ
    ins = map number_of job.inputs.tables.items

    abbrev pub first : Option (List ℕ)
    first = first_made job.made.items

    there : HasPlace job.inputs.target ins l.levels
    there = subst (λ (t : Target). HasPlace t ins l.levels) (sym has.is.target)
        (subst (λ (ns : List ℕ). HasPlace o.job.target ns l.levels) (sym (inputs_are bytes w job o.job has))
        (place_there l h o.job o.moved (is.tidy.job o opened)))

    readied : AreReady bytes job.inputs.target ins first l.levels made.tables did.levels
    readied = did.writes.took.puts job.inputs.target ins first l.levels [] made.tables
        (did.is_ready.levels l.levels (levels_are bytes before.version l h is.has is.tidy) there)
        (tables_put bytes w job o.job has g did.begun did.writes.mid state (did.unchanged.told ∙ told) tells did.writes.took)

    -- The levels are the layout's,
    pub levels_put : AreLevelsOf bytes after.version.behind.levels (installed o.job made l).levels
    levels_put = levels_back bytes after.version.behind.levels (replaced o.job.target o.job.inputs made.tables l.levels)
        (subst (λ (t : Target).
        compact.AreLevelsOf bytes after.version.behind.levels (replaced t o.job.inputs made.tables l.levels)) has.is.target
        (subst (λ (ns : List ℕ).
        compact.AreLevelsOf bytes after.version.behind.levels (replaced job.inputs.target ns made.tables l.levels))
        (inputs_are bytes w job o.job has)
        (did.put job.inputs.target ins first l.levels made.tables readied
        (first_put w job.made.items (outputs o.job) has.made))))

    -- the version before it lets go of logs
    abbrev whole : Version H
    whole = record after.version { behind = record after.version.behind { logs = did.ready.version.logs } }

    fronts_put : Fronts after h (installed o.job made l)
    fronts_put =
        let keeps = kept_installed
        (replacing_of before.back ins (map (λ (t : Synced W s). t.number) job.made.items) did.ready.levels.level
        did.ready.levels.position did.is_ready.gone)
        before.back.state did.ready.staged.state did.is_ready.staged.says in
        record {
          front = subst (λ (f : Front). IsFront f.oracle f.recent.named h (installed o.job made l)) (sym did.front) (record {
            last = is.fronts.front.last;
            live_are = is.fronts.front.live_are;
            lived = record {
              rising = is.fronts.front.lived.rising;
              known = is.fronts.front.lived.known;
              few = is.fronts.front.lived.few;
            };
            readable = is.fronts.front.readable;
            remembers = is.fronts.front.remembers;
          });
          number = ap (λ (f : Front). f.log.number) did.front ∙ is.fronts.number;
          length_is = ap (λ (f : Front). f.log.length) did.front ∙ is.fronts.length_is;
          format = is.fronts.format;
          room = ap (λ (f : Front). f.room) did.front ∙ is.fronts.room;
          roomy = is.fronts.roomy;
          halted = ap (λ (f : Front). option_map file_of f.halted) did.front ∙ is.fronts.halted;
          version = did.back.version ∙ ap (λ (n : ℕ). n + 1) is.fronts.version;
          keep = ap (λ (x : ManifestState). x.keep) did.back.state ∙ keeps.keep ∙ is.fronts.keep;
          since = ap (λ (x : ManifestState). x.since) did.back.state ∙ keeps.since ∙ is.fronts.since;
        }

    module _ (goes : GoesOn l o) (lent : AreLent o.lent made) (files : AreLogFiles l) where
      tidy : IsPutTidy l h o made
      tidy = record { tidy = is.tidy; goes = goes; lent = lent; all = outputs_are bytes w job o.job has; logs = files }

      -- the version has it,
      pub laid_put : HasLayout bytes after.version (installed o.job made l)
      laid_put =
          let next = tidy_put l h o made tidy in
          laid_left bytes whole after.version (installed o.job made l)
          (laid_installed bytes before.version whole l o.job made is.has (logs_put l h o made tidy) next.levels
          next.true_tables levels_put (did.active ∙ did.is_ready.version.active) (did.frozen ∙ did.is_ready.version.frozen)
          did.is_ready.version.logs) refl refl refl before.front.log.number is.fronts.number did.idle
          (did.logs ∙ ap (λ (fs : List FrozenLog).
          filter (is_kept did.idle (head_of before.front.log.number fs) after.version.behind.levels) did.ready.version.logs.items)
          (sym did.frozen)) next.true_tables next.files.stocked.falling
          (none_idle (filter (is_among o.job.inputs) (layout.tables l)) (put_in o.job made l))

      -- and the engine stands for it.
      pub stands_put : StandsFor bytes after h (installed o.job made l)
      stands_put = record {
        fronts = fronts_put;
        has = laid_put;
        tidy = tidy_put l h o made tidy;
        spared = spares_installed l h o.job o.moved made (is.tidy.job o opened) (outputs_are bytes w job o.job has) is.spared;
      }

  -- Where it failed the engine is halted, and the merge is over.
  pub stands_lost : (name : Name) → AreLent o.lent made → IsUninstalled g bytes w job old new before after name
      → StandsFor bytes after h (halted_at (file_of name) (job_ended made l))
  stands_lost name lent did =
      let over = (stands_abandoned bytes before h l o made opened lent None refl is).stands in
      stands_unflushed bytes before after h (job_ended made l) over name did.version
      (fronts_unflushed before after h (job_ended made l) name did.front did.epoch (as_many did.state) over.fronts)
