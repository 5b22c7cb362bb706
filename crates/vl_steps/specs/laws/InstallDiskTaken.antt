-- While the files of a merge's tables are taken back, one after the other, the disk holds the layout, and whatever a crash leaves
-- shows the history.
use Rattle.std.specs.Prelude.{◌≡◌, List, Some}
use Rattle.std.specs.List.{AllByRecursion, AllZip}
use Rattle.std.specs.Option.{option_map}
use Rattle.std.proofs.Common.{ap, ◌∙◌}
use Rattle.vl_compact.specs.Progress.{IsTableFile}
use Rattle.vl_compact.specs.declared.files.Synced.{Synced}
use Rattle.vl_disk.specs.Calls.{ChangesNothing}
use Rattle.vl_disk.specs.DiskState.{DiskState}
use Rattle.vl_disk.specs.Moments.{goes_by}
use Rattle.vl_disk.specs.declared.watched.Watched.{Ghosts}
use Rattle.vl_disk.specs.declared.writer.Writer.{Ghosts as Writers}
use Rattle.vl_engine_laws.specs.laws.Carrying.{IsWatched, looked}
use Rattle.vl_steps.specs.laws.TakenFiles.{AreTold, files_laid, tables_of, while_laid}
use Rattle.vl_engine_laws.specs.Carries.{CrashesShow}
use Rattle.vl_engine_laws.specs.Held.{Holds}
use Rattle.vl_engine_laws.specs.Pointed.{layout_logs}
use Rattle.vl_engine_laws.specs.Represents.{IsHeld}
use Rattle.vl_engine_laws.specs.Shown.{LeavesBetween}
use Rattle.vl_steps.specs.Taking.{Takes, WhileTaking, with_files}
use Rattle.vl_engine_laws.specs.laws.HeldLaws.{held_opens_again}
use Rattle.vl_engine_laws.specs.laws.InstallTaken.{IsApart, taken_holds, taking_leaves, with_tables}
use Rattle.vl_engine_model.specs.Sources.{tables}
use Rattle.vl_engine_model.specs.Tidy.{IsTidy}
use Rattle.vl_engine_model.specs.declared.layout.Layout.{Layout}
use Rattle.vl_back.specs.declared.back.Back.{Back}
use Rattle.vl_model.specs.History.{History}
use Rattle.vl_model.specs.declared.entry.Entry.{Entry}
use Rattle.vl_recover.specs.crash.Starts.{MayOpen}

module _ {D W : Type 0} (g : Ghosts D) (watched : IsWatched g) (w : Writers W) {s : _} (back : Back) (h : History) (l : Layout)
    (tidy : IsTidy (layout_logs l) l h) (old begun mid : D) (held : IsHeld back (g.told old) h l) (quiet : ChangesNothing g old begun ⊥)
    (ts : List (Synced W s)) (outs : List (List Entry)) (zip : AllZip (IsTableFile w) ts outs) (told : AreTold w ts)
    (apart : AllByRecursion (IsApart (tables l)) (tables_of w ts outs)) (takes : Takes g w ts begun mid) where
  -- the disk with the tables
  abbrev pub taken : DiskState
  taken = with_tables (tables_of w ts outs) held.state

  told_begun : g.told begun ≡ Some held.state
  told_begun = quiet.told ∙ held.told_is

  pub told_taken : g.told mid ≡ Some taken
  told_taken = takes.changed ∙ ap (option_map (with_files w ts)) told_begun ∙ ap Some (files_laid w ts outs zip told held.state)

  -- It holds the layout,
  pub holds_taken : Holds held.base l taken
  holds_taken = taken_holds held.base l h held.is_base tidy (tables_of w ts outs) held.state apart held.holds

  -- a store may be opened on it,
  pub opens_taken : MayOpen taken
  opens_taken = held_opens_again held.base l h held.is_base taken tidy.levels holds_taken

  -- and whatever a crash leaves meanwhile shows the history.
  pub goes_taken : CrashesShow g old mid h h
  goes_taken =
      goes_by g (LeavesBetween h h) old begun mid held.state (WhileTaking w ts) told_begun
      (looked g watched h l tidy back old begun ⊥ quiet held) takes.time
      (λ now during. taking_leaves held.base l h held.is_base tidy (tables_of w ts outs) held.state apart held.holds now
      (while_laid w ts outs zip told held.state now during))
