-- What is kept of which files can go is that of the layout which a whole merge leaves.
use Rattle.std.specs.Prelude.{◌≡◌, ℕ, ◌++◌, true, List, [], Option, None, Some, Result, Err}
use Rattle.std.specs.List.{AllByRecursion}
use Rattle.std.specs.Option.{option_map}
use Rattle.std.proofs.Common.{refl, sym, ap, subst, ◌∙◌}
use Rattle.vl_compact.specs.declared.files.Lent.{Lent}
use Rattle.vl_compact.specs.declared.job.Job.{Job as Merging}
use Rattle.vl_engine_laws.specs.Carries.{Carries, CrashesShow}
use Rattle.vl_engine_laws.specs.MayStep.{Fits}
use Rattle.vl_engine_laws.specs.Represents.{Fronts, Represents, file_of}
use Rattle.vl_engine_laws.specs.declared.kept.Core.{Core}
use Rattle.vl_engine_laws.specs.laws.Carrying.{IsWatched}
use Rattle.vl_disk.specs.declared.name.Name.{Name}
use Rattle.vl_disk.specs.declared.watched.Watched.{Ghosts}
use Rattle.vl_disk.specs.declared.writer.Writer.{Ghosts as Writers}
use Rattle.vl_space.specs.laws.CollectLaws.{collects_alike}
use Rattle.vl_engine.proofs.LeftRemoved.{halted_none, removes_left}
use Rattle.vl_steps.specs.laws.Planning.{fits_abandoned, represents_abandoned}
use Rattle.vl_engine.proofs.Retired.Installs.{ended_by, ended_pins, halted_other}
use Rattle.vl_engine.proofs.UnderWay.{none_open}
use Rattle.vl_engine.proofs.Whole.{both, ended_logs, install_by, install_history, install_keeps, joined, logs_then, lost_logs}
use Rattle.vl_engine.proofs.Whole.{same_logs, untouched}
use Rattle.vl_space.specs.Collecting.{Collects}
use Rattle.vl_steps.specs.Installing.{HandsBack, install_otherwise, numbers_in}
use Rattle.vl_engine_laws.specs.Lent.{Opens}
use Rattle.vl_engine_laws.specs.Lent.{StandsOpen}
use Rattle.vl_steps.specs.Merging.{install_outcome}
use Rattle.vl_space.specs.Removing.{IsThere, Removes}
use Rattle.vl_space.specs.Retiring.{LeavesFiles, files_in}
use Rattle.vl_engine.specs.UnderWay.{GivesUp, IfHandedBack, IsUnderWay}
use Rattle.vl_engine.specs.Whole.{HasSameLogs, StaysFor, StaysRemoving}
use Rattle.vl_steps.specs.declared.fails.InstallFail.TheVariants as fails
use Rattle.vl_steps.specs.declared.fails.InstallFail.{InstallFail}
use Rattle.vl_space.specs.declared.kept.Collecting.{Collecting}
use Rattle.vl_engine_laws.specs.declared.open.OpenMerge.{OpenMerge}
use Rattle.vl_space.specs.declared.kept.Removing.{Removing}
use Rattle.vl_engine_model.specs.Decides.{Answered, Damaged, Decides, Effects, Failed, NoMemory, Otherwise, Outcome}
use Rattle.vl_engine_model.specs.Jobs.{AreLent, Made, job_ended}
use Rattle.vl_engine_model.specs.Ruling.{Ruling, halted_at}
use Rattle.vl_engine_model.specs.Rulings.Install as install
use Rattle.vl_engine_model.specs.Rulings.Install.{InstallAnswer, install_ruling}
use Rattle.vl_engine_model.specs.declared.file_name.FileName.{FileName}
use Rattle.vl_engine_model.specs.declared.job.Job.{Job}
use Rattle.vl_engine_model.specs.declared.job.OpenJob.{OpenJob}
use Rattle.vl_engine_model.specs.declared.layout.Layout.{Layout}
use Rattle.vl_model.specs.History.{History}
use Rattle.vl_model.specs.Numbers.{has}
use Rattle.vl_version.specs.declared.base.Base.{Base}

-- ---- files that are left

-- the files of a job that has ended, of which none is a table then
abbrev pub left_by : {V H W : Type 0} {k : Writers W} → Merging V H W k → Made
left_by job = record { tables = []; leavings = numbers_in job }

-- They are ones that were lent to the layout's job.
left_lent : {D V H W : Type 0} (g : Ghosts D) (writers : Writers W) (disk : D) (halted : Option Name) (merging : Option OpenMerge)
    {k : _} (job : Merging V H W k) (o : OpenJob) → IsUnderWay g writers disk halted merging job
    → (its : Option OpenJob) → its ≡ Some o → Opens merging its → AreLent o.lent (left_by job)
left_lent g writers disk halted merging job o way its is opens = record {
  drawn = subst (λ (lent : List ℕ). AllByRecursion (λ (n : ℕ). has n lent ≡ true) (numbers_in job)) lent_is way.drawn;
  distinct = way.distinct;
}
  where
    lent_is : way.merge.lent.items ≡ o.lent
    lent_is = (subst (λ (m : Option OpenMerge). Opens m (Some o)) way.is_open
        (subst (λ (x : Option OpenJob). Opens merging x) is opens)).lent

-- ---- the engine

module _ {D H : Type 0} (g : Ghosts D) (bytes : H → Option (List ℕ)) where
  -- where nothing was done
  pub untouched_removing : IsWatched g → {L : Type 0} (old new : D) (before after : Core H) (was now : Option OpenMerge)
      (kept kept_now : Collecting) (files files_now : Removing L) (h : History) (l : Layout) → new ≡ old → after ≡ before → now ≡ was
      → kept_now ≡ kept → files_now ≡ files → Represents bytes before (g.told old) h l → StandsOpen bytes before was h l
      → Fits (g.told old) before h l → Collects before kept l → Removes before files l
      → StaysRemoving g bytes old new after now kept_now files_now h l
  untouched_removing watched {L} old new before after was now kept kept_now files files_now h l disk core merging collecting removing is
      stands fits has removes =
      subst (λ (d : D). StaysRemoving g bytes old d after now kept_now files_now h l) (sym disk)
      (subst (λ (c : Core H). StaysRemoving g bytes old old c now kept_now files_now h l) (sym core)
      (subst (λ (m : Option OpenMerge). StaysRemoving g bytes old old before m kept_now files_now h l) (sym merging)
      (subst (λ (k : Collecting). StaysRemoving g bytes old old before was k files_now h l) (sym collecting)
      (subst (λ (r : Removing L). StaysRemoving g bytes old old before was kept r h l) (sym removing)
      (record {
        stays = record { stays = untouched g bytes watched old before was h l is stands fits; collects = has };
        removes = removes;
      })))))

  -- the same behind calls that do nothing more but to close it
  ended_same : {L : Type 0} (old new last : D) (core after : Core H) (now : Option OpenMerge) (kept kept_now : Collecting)
      (files files_now : Removing L) (h : History) (l : Layout) → last ≡ new → after ≡ core → now ≡ None → kept_now ≡ kept
      → files_now ≡ files → StaysRemoving g bytes old new core None kept files h l
      → StaysRemoving g bytes old last after now kept_now files_now h l
  ended_same {L} old new last core after now kept kept_now files files_now h l disk same none collecting removing s =
      subst (λ (d : D). StaysRemoving g bytes old d after now kept_now files_now h l) (sym disk)
      (subst (λ (c : Core H). StaysRemoving g bytes old new c now kept_now files_now h l) (sym same)
      (subst (λ (m : Option OpenMerge). StaysRemoving g bytes old new core m kept_now files_now h l) (sym none)
      (subst (λ (k : Collecting). StaysRemoving g bytes old new core None k files_now h l) (sym collecting)
      (subst (λ (r : Removing L). StaysRemoving g bytes old new core None kept r h l) (sym removing) s))))

  -- It was given up, and its files wait for their removal.
  pub abandoned_removing : {V K W : Type 0} (writers : Writers W) (old new last : D) (core after : Core H) (was now : Option OpenMerge)
      (kept kept_now : Collecting) {k : _} (job : Merging V K W k) (files files_now : Removing (Lent W k)) (h : History) (l : Layout)
      (s : StaysFor g bytes old new core was h l) → Collects core kept s.layout → Removes core files s.layout → (o : OpenJob)
      → s.layout.job ≡ Some o → IsUnderWay g k new core.front.halted was job
      → (core.front.halted ≡ None → IsThere g k new core was files.stock)
      → LeavesFiles (files_in job) files.stock files_now.stock → files_now.pins ≡ record files.pins { merge = None }
      → last ≡ new → after ≡ core → now ≡ None → kept_now ≡ kept
      → StaysRemoving g bytes old last after now kept_now files_now h l
  abandoned_removing writers old new last core after was now kept kept_now {k} job files files_now h l s has removes o is_open way there
      left pins disk same none collecting =
      ended_same old new last core after now kept kept_now files_now files_now h l disk same none collecting refl (record {
        stays = record {
          stays = record {
            layout = job_ended made x;
            same = logs_then l x (job_ended made x) s.same (ended_logs x h o.job made);
            stands = record { stands = gone.stands; opens = tt };
            represents = gone;
            fits = fits_abandoned core h x o.job made (g.told new) s.fits;
            through = s.through;
            again = s.again;
          };
          collects = collects_alike core kept x (job_ended made x)
              (record { frozen = refl; flushed = refl; levels = refl; pass = refl }) has;
        };
        removes = removes_left g new core was job files files_now there way left x made refl
            (λ runs. halted_none core.front.halted (s.stands.stands.fronts.halted ∙ runs)) pins removes;
      })
    where
      x : Layout
      x = s.layout

      made : Made
      made = left_by job

      gone : Represents bytes core (g.told new) h (job_ended made x)
      gone = represents_abandoned bytes core h x o made is_open
          (left_lent g k new core.front.halted was job o way x.job is_open s.stands.opens) (g.told new) s.represents

-- ---- an install that ended the merge

-- it was answered, or a call on a file failed
abbrev pub Settles : {A : Type 0} → Outcome A → Type 0
Settles (Answered a) = Unit {0}
Settles NoMemory = ⊥
Settles (Failed name) = Unit {0}
Settles (Damaged name place) = ⊥

-- some layout is left
settled : {A : Type 0} (S : History → Layout → Type 0) (P : Layout → Type 0) (h : History) (l : Layout) (ruling : Ruling A)
    (otherwise : Otherwise) (outcome : Outcome A) (effects : Effects) → Settles outcome → ruling.history ≡ h → P ruling.layout
    → ((name : FileName) → P (halted_at name otherwise.lost)) → Decides S h l ruling otherwise outcome effects
    → (x : Layout) × S h x × P x
settled S P h l ruling otherwise (Answered a) effects is same whole lost decides =
    (ruling.layout, subst (λ (k : History). S k ruling.layout) same (decides.answered a refl).1, whole)
settled S P h l ruling otherwise NoMemory effects is same whole lost decides = absurd is
settled S P h l ruling otherwise (Failed name) effects is same whole lost decides =
    (halted_at name otherwise.lost, (decides.failed name refl).1, lost name)
settled S P h l ruling otherwise (Damaged name place) effects is same whole lost decides = absurd is

-- no job is open in it
install_closes : (l : Layout) (h : History) (job : Job) (made : Made) → (install_ruling l h job made).layout.job ≡ None
install_closes l h job made = install_by l h job made (λ r. r.layout.job ≡ None) (λ a. refl) refl

module _ {D H : Type 0} (g : Ghosts D) (bytes : H → Option (List ℕ)) (old mid new : D) (before after : Core H) (was : Option OpenMerge)
    (h : History) (l : Layout) (s : StaysFor g bytes old mid before was h l) (alike : s.layout.halted ≡ l.halted) (kept : Collecting)
    (job : Job) (made : Made) (effects : Effects) {L : Type 0} (files : Removing L) (outcome : Outcome InstallAnswer)
    (carries : Carries g bytes mid new after h s.layout (install_ruling s.layout h job made) (install_otherwise s.layout made)
    outcome effects)
    (fits : Decides (Fits (g.told new) after) h s.layout (install_ruling s.layout h job made) (install_otherwise s.layout made)
    outcome effects)
    (collects : Decides (λ k x. Collects after kept x) h s.layout (install_ruling s.layout h job made) (install_otherwise s.layout made)
    outcome effects)
    (removes : Decides (λ k x. Removes after files x) h s.layout (install_ruling s.layout h job made) (install_otherwise s.layout made)
    outcome effects) where
  abbrev OnDisk : History → Layout → Type 0
  OnDisk k x = Represents bytes after (g.told new) k x × Fits (g.told new) after k x

  abbrev Kept : History → Layout → Type 0
  Kept k x = Collects after kept x × Removes after files x

  decides_all : Decides (λ k x. OnDisk k x × Kept k x) h s.layout (install_ruling s.layout h job made) (install_otherwise s.layout made)
      outcome effects
  decides_all = both OnDisk Kept h s.layout (install_ruling s.layout h job made) (install_otherwise s.layout made) outcome effects
      (both (Represents bytes after (g.told new)) (Fits (g.told new) after) h s.layout (install_ruling s.layout h job made)
      (install_otherwise s.layout made) outcome effects carries.decides fits)
      (both (λ k x. Collects after kept x) (λ k x. Removes after files x) h s.layout (install_ruling s.layout h job made)
      (install_otherwise s.layout made) outcome effects collects removes)

  shown : s.layout.halted ≡ None → CrashesShow g mid new h h
  shown running = subst (λ (k : History). CrashesShow g mid new h k) (install_history s.layout h job made) (carries.through running)

  -- No merge is open then.
  pub put_in_removing : Settles outcome → StaysRemoving g bytes old new after None kept files h l
  put_in_removing settles =
      build (settled (λ k x. OnDisk k x × Kept k x) (λ x. HasSameLogs s.layout x × (x.job ≡ None)) h s.layout
      (install_ruling s.layout h job made) (install_otherwise s.layout made) outcome effects settles
      (install_history s.layout h job made) (install_keeps s.layout h job made, install_closes s.layout h job made)
      (λ name. (lost_logs name s.layout h job made, refl)) decides_all)
    where
      build : (x : Layout) × (OnDisk h x × Kept h x) × (HasSameLogs s.layout x × (x.job ≡ None))
          → StaysRemoving g bytes old new after None kept files h l
      build (x, (disk, so), (same, none)) = record {
        stays = record {
          stays = joined g bytes old mid new before after was None h l s alike x same
              (record { stands = disk.0.stands; opens = subst (λ (o : Option OpenJob). Opens None o) (sym none) tt })
              disk.0 disk.1 shown carries.again;
          collects = so.0;
        };
        removes = so.1;
      }

  -- For want of memory the layout stays, with its job.
  pub short_of : (now : Option OpenMerge) → now ≡ was → outcome ≡ NoMemory
      → (t : StaysFor g bytes old new after now h l) × (t.layout ≡ s.layout) × Collects after kept t.layout × Removes after files t.layout
  short_of now same short =
      let (disk, so) = (decides_all.no_memory short).0 in (
        joined g bytes old mid new before after was now h l s alike s.layout (same_logs s.layout)
            (record {
              stands = disk.0.stands;
              opens = subst (λ (m : Option OpenMerge). Opens m s.layout.job) (sym same) s.stands.opens;
            })
            disk.0 disk.1 shown carries.again,
        refl,
        so.0,
        so.1,
      )

-- Where it failed, the merge is given up at the latest then.
module _ {D H R W : Type 0} (g : Ghosts D) (bytes : H → Option (List ℕ)) (old mid new last : D) (before after final : Core H)
    (was then_open now : Option OpenMerge) (h : History) (l : Layout) (s : StaysFor g bytes old mid before was h l)
    (alike : s.layout.halted ≡ l.halted) (kept kept_now : Collecting) {k : Writers W} (files files_now : Removing (Lent W k))
    (job : Merging (Base H R) H W k) (o : OpenJob) (is_open : s.layout.job ≡ Some o) (made : Made) (effects : Effects)
    (there : after.front.halted ≡ None → IsThere g k new after then_open files.stock) (disk : last ≡ new) (core : final ≡ after)
    (collecting : kept_now ≡ kept) where
  pub not_put_in : (fail : InstallFail (Base H R) H W k)
      → Carries g bytes mid new after h s.layout (install_ruling s.layout h o.job made) (install_otherwise s.layout made)
      (install_outcome (Err fail)) effects
      → Decides (Fits (g.told new) after) h s.layout (install_ruling s.layout h o.job made) (install_otherwise s.layout made)
      (install_outcome (Err fail)) effects
      → Decides (λ k x. Collects after kept x) h s.layout (install_ruling s.layout h o.job made) (install_otherwise s.layout made)
      (install_outcome (Err fail)) effects
      → Decides (λ k x. Removes after files x) h s.layout (install_ruling s.layout h o.job made) (install_otherwise s.layout made)
      (install_outcome (Err fail)) effects
      → HandsBack job was then_open (Err fail) → GivesUp fail files files_now then_open now
      → IfHandedBack g k new after.front.halted then_open fail
      → StaysRemoving g bytes old last final now kept_now files_now h l
  not_put_in (fails.Halted name) carries fits collects removes handed ended way =
      ended_same g bytes old new last after final now kept kept_now files files_now h l disk core
      (none_open job was then_open now files files_now (fails.Halted name) handed ended) collecting ended.0
      (put_in_removing g bytes old mid new before after was h l s alike kept o.job made effects files _
      carries fits collects removes tt)
  not_put_in (fails.Raced key number) carries fits collects removes handed ended way =
      ended_same g bytes old new last after final now kept kept_now files files_now h l disk core
      (none_open job was then_open now files files_now (fails.Raced key number) handed ended) collecting ended.0
      (put_in_removing g bytes old mid new before after was h l s alike kept o.job made effects files _
      carries fits collects removes tt)
  not_put_in (fails.Exhausted counter) carries fits collects removes handed ended way =
      ended_same g bytes old new last after final now kept kept_now files files_now h l disk core
      (none_open job was then_open now files files_now (fails.Exhausted counter) handed ended) collecting ended.0
      (put_in_removing g bytes old mid new before after was h l s alike kept o.job made effects files _
      carries fits collects removes tt)
  not_put_in (fails.NoMemory back) carries fits collects removes handed ended way =
      let (t, same, collected, removed) = short_of g bytes old mid new before after was h l s alike kept o.job made effects files _
      carries fits collects removes then_open handed.1 refl in
      abandoned_removing g bytes k old new last after final then_open now kept kept_now back files files_now h l t collected removed o
      (ap (λ (x : Layout). x.job) same ∙ is_open) way there ended.1 ended.0 disk core ended.2 collecting
  not_put_in (fails.Disk name) carries fits collects removes handed ended way =
      ended_same g bytes old new last after final now kept kept_now files files_now h l disk core
      (none_open job was then_open now files files_now (fails.Disk name) handed ended) collecting ended.0
      (put_in_removing g bytes old mid new before after was h l s alike kept o.job made effects files _
      carries fits collects removes tt)

-- Its tables were put in.
pub was_put_in : {D H L : Type 0} (g : Ghosts D) (bytes : H → Option (List ℕ)) (old new : D) (core : Core H) (now : Option OpenMerge)
    (kept : Collecting) (files : Removing L) (h : History) (l : Layout) → now ≡ None
    → StaysRemoving g bytes old new core None kept files h l → StaysRemoving g bytes old new core now kept files h l
was_put_in g bytes old new core now kept files h l none s =
    ended_same g bytes old new new core core now kept kept files files h l refl refl none refl refl s

-- An engine that is halted does nothing at an install, but that the merge is pinned no longer.
pub install_unpinned : {H R W L : Type 0} {k : Writers W} (after : Core H) (files files_now : Removing L)
    (S : History → Layout → Type 0) (h : History) (l : Layout) (j : Job) (made : Made) (effects : Effects) (name : Name)
    (result : Result (Unit {0}) (InstallFail (Base H R) H W k)) → result ≡ Err (fails.Halted name) → (l.halted ≡ None → ⊥)
    → files_now.pins ≡ record files.pins { merge = None } → (before : Core H) → Removes before files l
    → Decides S h l (install_ruling l h j made) (install_otherwise l made) (install_outcome result) effects
    → Decides (λ k x. Removes after files_now x) h l (install_ruling l h j made) (install_otherwise l made) (install_outcome result)
    effects
install_unpinned {H} {R} {W} {k = k} after files files_now S h l j made effects name result is halted pins before removes decides =
    subst (λ (r : Result (Unit {0}) (InstallFail (Base H R) H W k)). Decides (λ k x. Removes after files_now x) h l
    (install_ruling l h j made) (install_otherwise l made) (install_outcome r) effects) (sym is)
    (ended_by S (λ k x. Removes after files_now x) h l j made (install.Halted (file_of name)) effects
    (record { pins = ended_pins files files_now l made pins removes.pins; stock = λ runs. absurd (halted runs) })
    (halted_other (file_of name))
    (subst (λ (r : Result (Unit {0}) (InstallFail (Base H R) H W k)). Decides S h l
    (install_ruling l h j made) (install_otherwise l made) (install_outcome r) effects) is decides))

-- where the engine is halted its layout is
pub is_halted : {H : Type 0} (core : Core H) (h : History) (l : Layout) (name : Name) → Fronts core h l → core.front.halted ≡ Some name
    → l.halted ≡ None → ⊥
is_halted core h l name fronts halted runs =
    never (sym (ap (option_map file_of) halted) ∙ (fronts.halted ∙ runs))
  where
    never : Some (file_of name) ≡ None → ⊥
    never e = cc
