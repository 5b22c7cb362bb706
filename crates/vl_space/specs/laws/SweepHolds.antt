-- A file that a layout doesn't need is removed: the disk holds the layout, and whatever a crash leaves meanwhile shows the history.
use Rattle.std.specs.Prelude.{◌≡◌, ◌≢◌, ◌≤◌, ◌⊎◌, ℕ, Some, None, refl}
use Rattle.std.specs.FinMap.{get}
use Rattle.std.specs.Option.{ForSome}
use Rattle.std.proofs.Common.{sym, ap, subst, ◌∙◌, arith, inl, inr, ⊎_elim}
use Rattle.vl_engine_laws.specs.Held.{Base, Holds, HoldsBase, HoldsFiles, IsBase}
use Rattle.vl_engine_laws.specs.Pointed.{layout_logs}
use Rattle.vl_engine_laws.specs.Shown.{LeavesBetween}
use Rattle.vl_engine_laws.specs.laws.HeldLaws.{held_opens_again, needed_shows}
use Rattle.vl_engine_laws.specs.laws.IdleLaws.{IsIdleIn, idle_beside, without_idle}
use Rattle.vl_engine_laws.specs.laws.InstallBeside.{opens_beside}
use Rattle.vl_engine_laws.specs.laws.KeptLaws.{AreOtherLogs, AreOtherTables, base_kept, files_kept, nothing_elsewhere}
use Rattle.vl_disk.specs.Changes.{SameElsewhere, without_elsewhere}
use Rattle.vl_disk.specs.Crash.{WhileRemoving}
use Rattle.vl_disk.specs.DiskState.{DiskState, File, IsLawful, without}
use Rattle.vl_disk.specs.Lending.{WhileAdopting, adopted}
use Rattle.vl_disk.specs.declared.name.Name.{Name}
use Rattle.vl_disk.specs.declared.name.Name.TheVariants.{Log, Manifest, Table}
use Rattle.vl_disk.specs.laws.Lawful.{without_lawful}
use Rattle.vl_disk.specs.laws.NameMap.{get_inserted_other, get_removed, get_removed_other, same_or_other}
use Rattle.vl_engine_model.specs.Sources.{tables}
use Rattle.vl_engine_model.specs.Tidy.{IsTidy}
use Rattle.vl_engine_model.specs.declared.layout.Layout.{Layout}
use Rattle.vl_model.specs.History.{History, last_number}
use Rattle.vl_recover.specs.crash.Starts.{MayOpen}
use Rattle.vl_recover.specs.laws.crash.OneName.{elsewhere_then}
use Rattle.vl_recover.specs.laws.opening.OpeningLaws.{some_none}

-- The layout needs no file of this name, and the manifest isn't one: no table of its has it, no log that is flushed, and no log from
-- the manifest's head on.
pub record IsOutside (b : Base) (l : Layout) (name : Name) : Type 0 where
  pub tables : AreOtherTables name (tables l)
  pub flushed : AreOtherLogs name l.flushed
  pub from : (m : ℕ) → b.state.head ≤ m → Log m ≢ name
  pub manifests : (m : ℕ) → b.manifest.number ≤ m → Manifest m ≢ name

-- The file is a log without frames, from the manifest's head on and before the active one, which the layout doesn't need.
pub record IsIdleLog (b : Base) (l : Layout) (name : Name) : Type 0 where
  pub number : ℕ
  pub name_is : name ≡ Log number
  pub idle : IsIdleIn number b
  pub flushed : AreOtherLogs (Log number) l.flushed

-- so it may go
abbrev pub MayGo : Base → Layout → Name → Type 0
MayGo b l name = IsOutside b l name ⊎ IsIdleLog b l name

-- Where a log without frames has gone, others still may.
pub still_may : (m : ℕ) (b : Base) (l : Layout) (name : Name) → name ≢ Log m → MayGo b l name → MayGo (without_idle m b) l name
still_may m b l name apart may = ⊎_elim
    (λ (out : IsOutside b l name).
    inl (record { tables = out.tables; flushed = out.flushed; from = out.from; manifests = out.manifests }))
    (λ (log : IsIdleLog b l name). inr (record {
      number = log.number;
      name_is = log.name_is;
      idle = idle_beside m log.number b (λ same. apart (log.name_is ∙ ap Log (sym same))) log.idle;
      flushed = log.flushed;
    }))
    may

module _ (b : Base) (l : Layout) (h : History) (name : Name) (out : IsOutside b l name) (base : IsBase b l h)
    (tidy : IsTidy (layout_logs l) l h) (disk : DiskState) (holds : Holds b l disk) where
  -- the manifest stands
  pub base_now : (now : DiskState) → SameElsewhere name disk now → HoldsBase b now
  base_now now same = base_kept name disk now same b out.manifests holds.base

  files_now : (now : DiskState) → SameElsewhere name disk now → HoldsFiles b l now
  files_now now same = files_kept name disk now same b l out.tables out.flushed out.from holds.files

  -- Whatever is done with it, what a crash leaves shows the history,
  pub leaves_now : (now : DiskState) → SameElsewhere name disk now → LeavesBetween h h now
  leaves_now now same image left = (
    last_number h,
    omega arith,
    omega arith,
    needed_shows b l h base tidy now (base_now now same) (files_now now same) image left.left,
  )

  -- and where it doesn't stand then, the disk holds the layout.
  pub holds_now : (now : DiskState) → SameElsewhere name disk now → IsLawful now → get now.standing name ≡ None → Holds b l now
  holds_now now same lawful gone = record {
    base = base_now now same;
    files = files_now now same;
    durable = λ q file stands. ⊎_elim
        (λ (at : q ≡ name). absurd (some_none file (sym (ap (get now.standing) (sym at) ∙ stands) ∙ gone)))
        (λ (other : q ≢ name). holds.durable q file (sym (same.standing q other) ∙ stands))
        (same_or_other q name);
    lawful = lawful;
  }

  -- ---- it is removed

  pub removed_holds : Holds b l (without name disk)
  removed_holds = holds_now (without name disk) (without_elsewhere name disk) (without_lawful disk holds.lawful name)
      (get_removed disk.standing name)

  pub removing_leaves : (now : DiskState) → WhileRemoving name disk now → LeavesBetween h h now
  removing_leaves now during = ⊎_elim
      (λ (is : now ≡ disk). leaves_now now (subst (SameElsewhere name disk) (sym is) (nothing_elsewhere name disk)))
      (λ (is : now ≡ without name disk). leaves_now now (subst (SameElsewhere name disk) (sym is) (without_elsewhere name disk)))
      during

  -- ---- it is taken back first

  module _ (file : File) where
    taken_elsewhere : SameElsewhere name disk (adopted name file disk)
    taken_elsewhere = record
        { standing = get_inserted_other disk.standing name file; removed = get_removed_other disk.removed name }

    gone_elsewhere : SameElsewhere name disk (without name (adopted name file disk))
    gone_elsewhere = elsewhere_then name disk (adopted name file disk) (without name (adopted name file disk)) taken_elsewhere
        (without_elsewhere name (adopted name file disk))

    pub adopting_leaves_so : (now : DiskState) → WhileAdopting name (Some file) disk now → LeavesBetween h h now
    adopting_leaves_so now during = ⊎_elim
        (λ (is : now ≡ disk). leaves_now now (subst (SameElsewhere name disk) (sym is) (nothing_elsewhere name disk)))
        (λ (is : ForSome (Some file) (λ f. now ≡ adopted name f disk)).
        leaves_now now (subst (SameElsewhere name disk) (sym (is file refl)) taken_elsewhere))
        during

    pub taking_leaves : (now : DiskState) → WhileRemoving name (adopted name file disk) now → LeavesBetween h h now
    taking_leaves now during = ⊎_elim
        (λ (is : now ≡ adopted name file disk). leaves_now now (subst (SameElsewhere name disk) (sym is) taken_elsewhere))
        (λ (is : now ≡ without name (adopted name file disk)).
        leaves_now now (subst (SameElsewhere name disk) (sym is) gone_elsewhere))
        during

    pub taken_holds : IsLawful (adopted name file disk) → Holds b l (without name (adopted name file disk))
    taken_holds lawful = holds_now (without name (adopted name file disk)) gone_elsewhere
        (without_lawful (adopted name file disk) lawful name) (get_removed (adopted name file disk).standing name)

    -- where it stops before it is removed a store may be opened on the disk,
    pub taken_opens_again : (n : ℕ) → name ≡ Table n → IsLawful (adopted name file disk) → MayOpen (adopted name file disk)
    taken_opens_again n is lawful =
        subst (λ (q : Name). IsLawful (adopted q file disk) → AreOtherTables q (tables l)
        → SameElsewhere q disk (adopted q file disk) → MayOpen (adopted q file disk)) (sym is)
        (λ whole apart same. opens_beside b l h disk n base tidy holds apart (adopted (Table n) file disk) whole same)
        lawful out.tables taken_elsewhere

  -- and behind its removal too.
  pub removed_opens_again : MayOpen (without name disk)
  removed_opens_again = held_opens_again b l h base (without name disk) tidy.levels removed_holds
