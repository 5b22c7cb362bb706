-- What was staged for an install, over a disk that holds the layout, is the switch that the layout's install asks.
use Rattle.std.specs.Prelude.{◌≡◌, ℕ, max, true, List, [], map, Option, refl}
use Rattle.std.specs.List.{AllByRecursion}
use Rattle.std.proofs.Common.{sym, ap, subst, ◌∙◌}
use Rattle.vl_back.specs.InstallEdits.{Replacing, install_switch}
use Rattle.vl_back.specs.InstallStaging.{replacing_of}
use Rattle.vl_compact.specs.Places.{HasPlace, place_of}
use Rattle.vl_compact.specs.Progress.{made_of}
use Rattle.vl_compact.specs.Replacing.{AreReady}
use Rattle.vl_compact.specs.declared.files.Synced.{Synced}
use Rattle.vl_compact.specs.declared.job.Job.{Job}
use Rattle.vl_disk.specs.DiskState.{DiskState}
use Rattle.vl_disk.specs.declared.writer.Writer.{Ghosts as Writers}
use Rattle.vl_engine_laws.specs.laws.InstallDiskEdits.{edits_fit, next_fits}
use Rattle.vl_steps.specs.laws.InstallDiskTables.{apart_each, apart_from, first_is, made_files, made_many, made_numbers_are, numbers_held}
use Rattle.vl_engine_laws.specs.Held.{Base, Holds}
use Rattle.vl_steps.specs.Installing.{IsReadyFor, first_made}
use Rattle.vl_steps.specs.Merging.{HasAllMerge}
use Rattle.vl_engine_laws.specs.Pointed.{layout_logs}
use Rattle.vl_engine_laws.specs.Represents.{IsHeld, Represents}
use Rattle.vl_steps.specs.declared.install.ReadyInstall.{ReadyInstall}
use Rattle.vl_engine_laws.specs.declared.kept.Core.{Core}
use Rattle.vl_steps.specs.laws.InstallApplies.{edits_of, gone_most, install_staged, replacing, state}
use Rattle.vl_steps.specs.laws.InstallBase.{CanInstall}
use Rattle.vl_steps.specs.laws.InstallPlaces.{place}
use Rattle.vl_engine_laws.specs.laws.InstallRulings.{GoesOn}
use Rattle.vl_engine_laws.specs.laws.InstallTaken.{AreApart, IsApart, taken_holds, taken_stand, with_tables}
use Rattle.vl_steps.specs.laws.PlannedJobs.{levels_are}
use Rattle.vl_engine_laws.specs.laws.SwitchLaws.{switch_frame}
use Rattle.vl_frame.specs.Runs.{HasFrame, item_frame}
use Rattle.vl_engine_model.specs.Jobs.{AreLent, AreOutputs, Made}
use Rattle.vl_engine_model.specs.Merging.{gone_after, needless, outputs}
use Rattle.vl_engine_model.specs.OpenJobs.{IsFitted, IsOpenWell, IsRoomy}
use Rattle.vl_engine_model.specs.Sources.{numbers_of, tables}
use Rattle.vl_engine_model.specs.Tidy.{IsTidy}
use Rattle.vl_engine_model.specs.declared.job.Job as laid_job
use Rattle.vl_engine_model.specs.declared.job.OpenJob.{OpenJob}
use Rattle.vl_engine_model.specs.declared.job.Target.TheVariants.{InPlace, Level}
use Rattle.vl_engine_model.specs.declared.job.Target.{Target}
use Rattle.vl_engine_model.specs.declared.layout.Layout.{Layout}
use Rattle.vl_engine_model_laws.specs.laws.InstallTidy.{distinct_made, other_made}
use Rattle.vl_manifest.specs.Grammar.{edits_grammar}
use Rattle.vl_manifest.specs.States.{are_next, is_file_number, next_state}
use Rattle.vl_manifest.specs.declared.edit.Edit.{Edit}
use Rattle.vl_manifest.specs.declared.manifest_log.ManifestLog.{ManifestLog}
use Rattle.vl_manifest.specs.declared.state.ManifestState.{ManifestState}
use Rattle.vl_model.specs.Formats.{manifest_format}
use Rattle.vl_model.specs.History.{History}
use Rattle.vl_recover.specs.laws.opening.OpeningLaws.{some_same}
use Rattle.vl_table.specs.Tables.{number_of}
use Rattle.vl_version.specs.declared.base.Base as version_base

-- a job that is fitted has its place
has_place : (l : Layout) (job : laid_job.Job) (target : Target) → IsFitted l job target → IsRoomy l.levels job target
    → HasPlace target job.inputs l.levels
has_place l job (Level n) fitted roomy = roomy.1.0
has_place l job InPlace fitted roomy = fitted

module _ {H R W : Type 0} (bytes : H → Option (List ℕ)) (w : Writers W) {s : _} (job : Job (version_base.Base H R) H W s) (before : Core H)
    (told : Option DiskState) (h : History) (l : Layout) (o : OpenJob) (is : Represents bytes before told h l) (goes : GoesOn l o)
    (has : HasAllMerge w bytes job o.job) (lent : AreLent o.lent (made_of job o.job)) (ready : ReadyInstall H)
    (is_ready : IsReadyFor bytes w before job ready) where
  pub held : IsHeld before.back told h l
  held = is.held goes.running

  abbrev pub b : Base
  b = held.base

  abbrev pub made : Made
  made = made_of job o.job

  abbrev pub tidy : IsTidy (layout_logs l) l h
  tidy = is.stands.tidy

  abbrev numbers : List ℕ
  numbers = map (λ (t : Synced W s). t.number) job.made.items

  abbrev inputs : List ℕ
  inputs = map number_of job.inputs.tables.items

  open_well : IsOpenWell l h o.job o.moved
  open_well = tidy.job o goes.open_is

  -- its tables are all that the merge makes
  abbrev pub all : AreOutputs o.job made
  all = record {
    numbers = numbers;
    tables = refl;
    enough = made_many w job.made.items (outputs o.job) has.made;
  }

  numbers_are : numbers ≡ numbers_of made.tables
  numbers_are = made_numbers_are w job.made.items (outputs o.job) has.made

  inputs_are : inputs ≡ o.job.inputs
  inputs_are = numbers_held bytes job.inputs.tables.items has.is.tables has.is.inputs ∙ sym has.is.numbers

  -- ---- its place

  there : HasPlace job.inputs.target inputs l.levels
  there = subst (λ (t : Target). HasPlace t inputs l.levels) (sym has.is.target)
      (subst (λ (ns : List ℕ). HasPlace o.job.target ns l.levels) (sym inputs_are)
      (has_place l o.job o.job.target open_well.fitted open_well.roomy))

  levels_ready : AreReady bytes job.inputs.target inputs (first_made job.made.items) l.levels [] ready.levels
  levels_ready = is_ready.levels l.levels (levels_are bytes before.version l h is.stands.has tidy) there

  place_is : place l o.job made.tables ≡ (ready.levels.level, ready.levels.position)
  place_is =
      ap (λ (t : Target). place_of t o.job.inputs made.tables l.levels) (sym has.is.target)
      ∙ ap (λ (ns : List ℕ). place_of job.inputs.target ns made.tables l.levels) (sym inputs_are)
      ∙ levels_ready.place.is made.tables (first_is w job.made.items (outputs o.job) has.made)

  -- ---- its switch

  gone_is : max before.back.state.gone is_ready.gone ≡ gone_after l.gone (needless o.job)
  gone_is =
      ap (λ (n : ℕ). max n is_ready.gone) (ap (λ (x : ManifestState). x.gone) held.back_is.state ∙ held.is_base.gone)
      ∙ ap (λ (n : ℕ). max l.gone n) (is_ready.gone_is o.job has) ∙ sym (gone_most l.gone (needless o.job))

  abbrev pub staged_for : Replacing
  staged_for = replacing_of before.back inputs numbers ready.levels.level ready.levels.position is_ready.gone

  table_is : before.back.state.next_table ≡ l.next_table
  table_is = ap (λ (x : ManifestState). x.next_table) held.back_is.state

  pub replacing_is : staged_for ≡ replacing l o.job made
  replacing_is =
      ap (λ (ns : List ℕ). record staged_for { inputs = ns }) inputs_are
      ∙ ap (λ (ns : List ℕ). record staged_for { inputs = o.job.inputs; made = ns }) numbers_are
      ∙ ap (λ (p : ℕ × ℕ). record staged_for { inputs = o.job.inputs; made = numbers_of made.tables; level = p.0; position = p.1 })
      (sym place_is)
      ∙ ap (λ (n : ℕ). record (replacing l o.job made) {
        next_log = n;
        next_table = before.back.state.next_table;
        gone = max before.back.state.gone is_ready.gone;
      }) held.back_is.next_log
      ∙ ap (λ (n : ℕ). record (replacing l o.job made) { next_table = n; gone = max before.back.state.gone is_ready.gone }) table_is
      ∙ ap (λ (n : ℕ). record (replacing l o.job made) { gone = n }) gone_is

  pub edits_are : install_switch staged_for before.back.state ≡ edits_of b l o.job made
  edits_are = ap (λ (r : Replacing). install_switch r before.back.state) replacing_is
      ∙ ap (install_switch (replacing l o.job made)) held.back_is.state

  pub frame_is : ready.staged.edits.frame.items ≡ switch_frame b (edits_of b l o.job made)
  frame_is = is_ready.staged.frame.frame
      ∙ ap (item_frame (edits_grammar manifest_format) before.back.manifest.number before.back.manifest.length) edits_are
      ∙ ap (λ (m : ManifestLog). item_frame (edits_grammar manifest_format) m.number m.length (edits_of b l o.job made))
      held.back_is.manifest
      ∙ ap (λ (n : ℕ). item_frame (edits_grammar manifest_format) b.manifest.number n (edits_of b l o.job made))
      held.holds.base.has.length_is

  -- ---- its tables

  file_numbers : AllByRecursion (λ (n : ℕ). is_file_number n ≡ true) (numbers_of made.tables)
  file_numbers = subst (AllByRecursion (λ (n : ℕ). is_file_number n ≡ true)) numbers_are
      (edits_fit staged_for before.back.state ready.staged.state is_ready.staged.says)

  -- None of them has the number of another table.
  pub apart : AllByRecursion (IsApart (tables l)) made.tables
  apart = apart_from (tables l) made.tables file_numbers
      (other_made l h o goes.open_is made tidy.files tidy.levels open_well all lent)

  pub once : AreApart made.tables
  once = apart_each made.tables (distinct_made l h o goes.open_is made tidy.files tidy.levels open_well all lent)

  -- the disk with the tables
  abbrev pub with_made : DiskState
  with_made = with_tables made.tables held.state

  pub holds_made : Holds b l with_made
  holds_made = taken_holds b l h held.is_base tidy made.tables held.state apart held.holds

  -- What was staged is what is asked of an install.
  abbrev pub can : CanInstall b l o made with_made
  can = record {
    goes = goes;
    lent = lent;
    all = all;
    stand = taken_stand b l h held.is_base tidy made.tables held.state apart once
        (made_files w job.made.items (outputs o.job) has.made) held.holds;
    next = ap (λ (r : Replacing). are_next r.next_log r.next_table) (sym replacing_is)
        ∙ next_fits staged_for before.back.state ready.staged.state is_ready.staged.says;
    frame = subst (HasFrame (edits_grammar manifest_format)) edits_are is_ready.staged.frame.has;
  }

  -- The manifest then says what was staged.
  pub state_is : ready.staged.state
      ≡ state b l h with_made held.is_base tidy holds_made o goes.open_is made lent all can.stand can.next
  state_is =
      let then = state b l h with_made held.is_base tidy holds_made o goes.open_is made lent all can.stand can.next in
      some_same ready.staged.state then
      (sym is_ready.staged.says
      ∙ ap (λ (es : List Edit). next_state es before.back.state) edits_are
      ∙ ap (next_state (edits_of b l o.job made)) held.back_is.state
      ∙ install_staged b l h with_made held.is_base tidy holds_made o goes.open_is made lent all can.stand can.next l.next_table)
