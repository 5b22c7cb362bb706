-- What an engine under the lock stands for: all steps that were made there.
use Rattle.std.specs.Prelude.{◌≡◌, ℕ, Bool, true, List, [], ◌∷◌, Option, None, Some}
use Rattle.vl_disk.specs.Faults.{NoneCounted}
use Rattle.vl_engine_laws.specs.Lasts.{Lasts}
use Rattle.vl_engine_laws.specs.MayStep.{Fits}
use Rattle.vl_engine_laws.specs.Represents.{Represents}
use Rattle.vl_engine_laws.specs.declared.kept.Core.{Core}
use Rattle.vl_disk.specs.DiskState.{DiskState}
use Rattle.vl_space.specs.Collecting.{Collects}
use Rattle.vl_engine_laws.specs.Lent.{Opens}
use Rattle.vl_space.specs.declared.kept.Collecting.{Collecting}
use Rattle.vl_space.specs.Removing.{Removes}
use Rattle.vl_engine_laws.specs.declared.open.OpenMerge.{OpenMerge}
use Rattle.vl_space.specs.declared.kept.Removing.{Removing}
use Rattle.vl_engine_model.specs.LockHistory.{HasOpen, IsLegal, nothing_open}
use Rattle.vl_engine_model.specs.declared.file_name.FileName.{FileName}
use Rattle.vl_engine_model.specs.declared.layout.Layout.{Layout}
use Rattle.vl_engine_model.specs.declared.lock_history.LockEntry.{LockEntry}
use Rattle.vl_model.specs.History.{History}
use Rattle.vl_seglog.specs.declared.sealed.SealedLog.{SealedLog}
use Rattle.vlstore.specs.Lists.{history_by, layout_by}
use Rattle.vlstore.specs.Merges.{MergesBy}
use Rattle.vlstore.specs.declared.locked.Origin.{Origin}

-- ---- an engine

-- what an engine is made of, and what its disk tells
pub record Parts (H L : Type 0) : Type 0 where
  pub told : Option DiskState
  pub core : Core H
  pub merging : Option OpenMerge
  pub collecting : Collecting
  pub removing : Removing L

abbrev pub parts : {H L : Type 0} → Option DiskState → Core H → Option OpenMerge → Collecting → Removing L → Parts H L
parts told core merging collecting removing =
    record { told = told; core = core; merging = merging; collecting = collecting; removing = removing }

-- The engine represents the history and the layout, and what its next calls ask is so.
pub record IsWhole {H L : Type 0} (bytes : H → Option (List ℕ)) (x : Parts H L) (h : History) (l : Layout) : Type 0 where
  pub represents : Represents bytes x.core x.told h l
  pub opens : Opens x.merging l.job
  pub fits : Fits x.told x.core h l
  pub collects : Collects x.core x.collecting l
  pub removes : Removes x.core x.removing l

-- ---- under the lock

-- No disk of this type counts a fault, and nothing that reads or writes its files does.
pub record NeverFails {D R W : Type 0} (faults : D → ℕ) (read_faults : R → ℕ) (write_faults : W → ℕ) : Type 0 where
  pub disks : (d : D) → NoneCounted (faults d)
  pub readers : (r : R) → NoneCounted (read_faults r)
  pub writers : (w : W) → NoneCounted (write_faults w)

-- What lasts through a step: a log over which a pass may go, so that the layout behind has no other one of its
-- number; and a halt.
pub record Lasting {H : Type 0} (bytes : H → Option (List ℕ)) (l m : Layout) : Type 0 where
  pub logs : (log : SealedLog H) → Lasts bytes log l → Lasts bytes log m
  pub halt : (name : FileName) → l.halted ≡ Some name → m.halted ≡ Some name

-- So it is of the layouts behind each of these steps.
abbrev pub AreLasting : {H : Type 0} → (H → Option (List ℕ)) → Layout → List LockEntry → Type 0
AreLasting bytes l [] = Unit {0}
AreLasting bytes l (e ∷ es) = Lasting bytes l e.layout × AreLasting bytes e.layout es

-- The engine is what the steps come to, which are lawful. Over disks that are sure not to fail nothing halts it.
pub record IsBehind {H L : Type 0} (bytes : H → Option (List ℕ)) (sure : Type 0) (o : Origin) (list : List LockEntry)
    (x : Parts H L) : Type 0 where
  pub start : HasOpen nothing_open o.layout
  pub legal : IsLegal o.number list
  pub last : AreLasting bytes o.layout list
  pub runs : sure → o.layout.halted ≡ None → (layout_by o list).halted ≡ None
  pub whole : IsWhole bytes x (history_by o list) (layout_by o list)

-- So it is where the disk told its bytes when the store was made. Whatever it tells, the open merge is the steps'.
pub record Stands {H L : Type 0} (bytes : H → Option (List ℕ)) (sure : Type 0) (o : Origin) (tells : Bool)
    (list : List LockEntry) (x : Parts H L) : Type 0 where
  pub merges : MergesBy o list x.merging
  pub behind : tells ≡ true → IsBehind bytes sure o list x
