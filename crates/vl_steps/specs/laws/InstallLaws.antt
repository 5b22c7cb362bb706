-- An install: the tables that its job made stand beside the layout, and a switch names them. Whatever a crash leaves meanwhile
-- shows the history, and then the disk holds the layout that the ruling leaves.
use Rattle.std.specs.Prelude.{◌≡◌, ◌≢◌, ℕ, length, List}
use Rattle.std.specs.FinMap.{get}
use Rattle.std.proofs.Common.{sym, ap, subst, ◌∙◌, arith, ⊎_elim}
use Rattle.vl_disk.specs.DiskState.{DiskState, File, appended, settled}
use Rattle.vl_disk.specs.declared.name.Name.TheVariants as names
use Rattle.vl_disk.specs.laws.Lawful.{appended_lawful, synced_lawful}
use Rattle.vl_disk.specs.laws.NameMap.{same_or_other}
use Rattle.vl_engine_laws.specs.Held.{Base, Holds, HoldsBase, HoldsFiles, IsBase, frames_of}
use Rattle.vl_engine_laws.specs.Pointed.{layout_logs}
use Rattle.vl_engine_laws.specs.Shown.{LeavesBetween}
use Rattle.vl_steps.specs.laws.InstallApplies.{edits_of}
use Rattle.vl_steps.specs.laws.InstallBase.{CanInstall, base_then, files_then, later, next, tidy_then}
use Rattle.vl_engine_laws.specs.laws.InstallRulings.{install_made_so}
use Rattle.vl_engine_laws.specs.laws.KeptLaws.{written_elsewhere}
use Rattle.vl_engine_laws.specs.laws.OpensAgain.{switching_opens_again}
use Rattle.vl_engine_laws.specs.laws.SwitchLaws.{switch_frame, switch_holds, switch_keeps, switching_shows}
use Rattle.vl_engine_model.specs.Jobs.{Made}
use Rattle.vl_engine_model.specs.Ruling.{Ruling}
use Rattle.vl_engine_model.specs.Rulings.Install.{InstallAnswer, install_ruling}
use Rattle.vl_engine_model.specs.Tidy.{IsTidy}
use Rattle.vl_engine_model.specs.declared.job.OpenJob.{OpenJob}
use Rattle.vl_engine_model.specs.declared.layout.Layout.{Layout}
use Rattle.vl_manifest.specs.Manifest.{manifest_bytes}
use Rattle.vl_manifest.specs.Switching.{WhileSwitching, switched}
use Rattle.vl_model.specs.History.{History, last_number}
use Rattle.vl_recover.specs.crash.Held.{AllSettled}
use Rattle.vl_recover.specs.crash.Starts.{MayOpen}
use Rattle.vl_recover.specs.laws.opening.OpeningLaws.{some_same}

-- The disk holds the layout, which is tidy, over some base.
pub record IsHeldTidy (l : Layout) (h : History) (disk : DiskState) : Type 0 where
  pub base : Base
  pub is_base : IsBase base l h
  pub tidy : IsTidy (layout_logs l) l h
  pub holds : Holds base l disk

module _ (b : Base) (l : Layout) (h : History) (o : OpenJob) (made : Made) (disk : DiskState) (base : IsBase b l h)
    (tidy : IsTidy (layout_logs l) l h) (holds : Holds b l disk) (can : CanInstall b l o made disk) where
  -- the bytes of its frame
  abbrev pub frame : List ℕ
  frame = switch_frame b (edits_of b l o.job made)

  abbrev then_base : Base
  then_base = later b l h o made disk base tidy holds can

  abbrev then_layout : Layout
  then_layout = next b l h o made disk base tidy holds can

  then_is : IsBase then_base then_layout h
  then_is = base_then b l h o made disk base tidy holds can

  then_tidy : IsTidy (layout_logs then_layout) then_layout h
  then_tidy = tidy_then b l h o made disk base tidy holds can

  then_files : HoldsFiles then_base then_layout disk
  then_files = files_then b l h o made disk base tidy holds can

  holds_then : HoldsBase then_base (switched b.manifest.number frame disk)
  holds_then = switch_holds b (edits_of b l o.job made) then_base.state b.before base.numbered can.frame disk holds.base

  -- ---- meanwhile

  -- Whatever a crash leaves meanwhile shows the history.
  pub install_leaves : (now : DiskState) → WhileSwitching b.manifest.number frame disk now → LeavesBetween h h now
  install_leaves now during image left = (
    last_number h,
    omega arith,
    omega arith,
    switching_shows b (edits_of b l o.job made) then_base.state b.before base.numbered can.frame disk holds.base h l
        then_layout base tidy holds.files then_is then_tidy then_files now during image left,
  )

  -- ---- and then

  abbrev pub final : DiskState
  final = switched b.manifest.number frame disk

  final_settled : AllSettled final
  final_settled q file stands = ⊎_elim
      (λ (same : q ≡ names.Manifest b.manifest.number).
      let there = holds_then.has.durable in
      let whole = manifest_bytes b.manifest.number (frames_of then_base) in
      let is : settled whole ≡ file = some_same (settled whole) file (sym there ∙ ap (get final.standing) (sym same) ∙ stands) in
      sym is ∙ ap (λ (x : File). settled x.bytes) is)
      (λ (apart : q ≢ names.Manifest b.manifest.number). holds.durable q file
      (sym ((written_elsewhere (names.Manifest b.manifest.number) frame disk).standing q apart) ∙ stands))
      (same_or_other q (names.Manifest b.manifest.number))

  -- The disk holds the layout that the ruling leaves, all of it durable.
  pub install_holds : Holds then_base then_layout final
  install_holds = record {
    base = holds_then;
    files = switch_keeps b (edits_of b l o.job made) then_base.state b.before base.numbered can.frame disk holds.base then_base
        then_layout then_files;
    durable = final_settled;
    lawful = synced_lawful (appended (names.Manifest b.manifest.number) frame (length frame) disk)
        (appended_lawful disk holds.lawful (names.Manifest b.manifest.number) frame (length frame))
        (names.Manifest b.manifest.number);
  }

  -- At each moment a store may be opened on the disk, if it stops there.
  pub install_opens_again : (now : DiskState) → WhileSwitching b.manifest.number frame disk now → MayOpen now
  install_opens_again now during =
      switching_opens_again b (edits_of b l o.job made) then_base.state b.before h l then_layout
      can.frame disk holds base tidy then_is then_tidy then_files install_holds now during

  pub install_held : IsHeldTidy (install_ruling l h o.job made).layout h final
  install_held = subst (λ (r : Ruling InstallAnswer). IsHeldTidy r.layout h final) (install_made_so l h o made can.goes) (record {
    base = then_base;
    is_base = then_is;
    tidy = then_tidy;
    holds = install_holds;
  })
