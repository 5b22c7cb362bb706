-- A merge that is done whole: the engine stands for the history behind each of its calls.
use Rattle.std.specs.Prelude.{◌≡◌, ℕ, ◌+◌, Bool, true, false, if◌then◌else◌, List, [], ◌∷◌, ◌++◌, map}
use Rattle.std.specs.Prelude.{Option, None, Some, Result, Ok, Err, IsErr, OnOk}
use Rattle.std.specs.List.{AllByRecursion}
use Rattle.std.specs.Option.{ForSome, option_map}
use Rattle.std.proofs.Common.{refl, sym, ap, subst, ◌∙◌}
use Rattle.vl_compact.specs.Keys.{behind}
use Rattle.vl_compact.specs.Laid.{AreBoth}
use Rattle.vl_compact.specs.Progress.{IsFresh, KeepsAll, Takes, made_of}
use Rattle.vl_compact.specs.declared.files.Lent.{Lent}
use Rattle.vl_compact.specs.declared.files.Synced.{Synced}
use Rattle.vl_compact.specs.declared.job.Job.{Job as Merging}
use Rattle.vl_compact.specs.declared.job_reader.JobReader.{JobReader}
use Rattle.vl_disk.specs.DiskState.{DiskState, new_file}
use Rattle.vl_disk.specs.Moments.{holds_then}
use Rattle.vl_disk.specs.declared.name.Name.{Name}
use Rattle.vl_disk.specs.declared.watched.Watched.{Ghosts}
use Rattle.vl_disk.specs.declared.writer.Writer.{Ghosts as Writers}
use Rattle.vl_engine_laws.specs.laws.Carrying.{IsWatched, opens_again, rests}
use Rattle.vl_steps.specs.laws.InstallDiskTables.{made_numbers_are}
use Rattle.vl_steps.specs.laws.Planning.{fits_abandoned, represents_abandoned}
use Rattle.vl_engine_laws.specs.Carries.{Carries, CrashesShow, Tells}
use Rattle.vl_steps.specs.Drawing.{IsSameJob}
use Rattle.vl_steps.specs.Installing.{IsHandedIn, install_otherwise, numbers_in}
use Rattle.vl_engine_laws.specs.Lent.{Opens}
use Rattle.vl_steps.specs.Merging.{FitsReaders, HasAllMerge, HasMerge, fresh_effects, fresh_outcome, plan_outcome}
use Rattle.vl_engine_laws.specs.Lent.{StandsOpen}
use Rattle.vl_engine_laws.specs.Represents.{Fronts, Represents, file_of}
use Rattle.vl_engine_laws.specs.Shown.{LeavesBetween}
use Rattle.vl_engine_laws.specs.MayStep.{AreLogFiles, Fits}
use Rattle.vl_space.specs.laws.CollectLaws.{IsAlike, alike_same, collects_alike, collects_same}
use Rattle.vl_space.specs.Collecting.{Collects}
use Rattle.vl_engine.specs.Whole.{HasSameLogs, MakesTables, StaysCollecting, StaysFor, kept_of}
use Rattle.vl_space.specs.declared.kept.Collecting.{Collecting}
use Rattle.vl_engine.specs.declared.fails.MergeFail.{MergeFail}
use Rattle.vl_steps.specs.declared.fails.StepFail.{StepFail}
use Rattle.vl_engine_laws.specs.declared.kept.Core.{Core}
use Rattle.vl_engine_laws.specs.declared.open.OpenMerge.{OpenMerge}
use Rattle.vl_engine_model.specs.Decides.{Answered, Damaged, Decides, Effects, Failed, NoMemory, Otherwise, Outcome, as_before, no_effects}
use Rattle.vl_engine_model.specs.Jobs.{AreDistinct, AreLent, Made, nothing_made}
use Rattle.vl_engine_model.specs.Levels.{due_from, inputs_at}
use Rattle.vl_engine_model.specs.Merging.{outputs}
use Rattle.vl_engine_model.specs.Ruling.{Ruling, halted_at, has_no_number, has_no_epoch, leaving, pin_of}
use Rattle.vl_engine_model.specs.Rulings.Abandon.{abandon_ruling}
use Rattle.vl_engine_model.specs.Rulings.Fresh as fresh
use Rattle.vl_engine_model.specs.Rulings.Fresh.{FreshAnswer, drawn, fresh_ruling, fresh_unless, lent_to}
use Rattle.vl_engine_model.specs.Rulings.Install as install
use Rattle.vl_engine_model.specs.Rulings.Install.{InstallAnswer, install_checked, install_lost, install_ruling}
use Rattle.vl_engine_model.specs.Rulings.Install.{install_unless, installed, moved_since, race}
use Rattle.vl_engine_model.specs.Rulings.Plan.{job_of, plan_of, plan_ruling, plan_unless, planned, with_job}
use Rattle.vl_engine_model.specs.Sources.{numbers_of}
use Rattle.vl_engine_model.specs.declared.file_name.FileName.{FileName}
use Rattle.vl_engine_model.specs.declared.job.Job.{Job}
use Rattle.vl_engine_model.specs.declared.job.OpenJob.{OpenJob}
use Rattle.vl_engine_model.specs.declared.job.Target.TheVariants.{Level}
use Rattle.vl_engine_model.specs.declared.layout.Layout.{Layout}
use Rattle.vl_model.specs.Conflicts.{Named}
use Rattle.vl_model.specs.History.{History}
use Rattle.vl_model.specs.Numbers.{has}
use Rattle.vl_recover.specs.crash.Starts.{MayOpen}
use Rattle.vl_model.specs.declared.counter.Counter.TheVariants as counters
use Rattle.vl_table.specs.Kept.{Files}
use Rattle.vl_table.specs.KeptBlocks.{AreKept}
use Rattle.vl_table.specs.declared.block_reader.BlockReader.{BlockReader}
use Rattle.vl_version.specs.Bases as bases
use Rattle.vl_version.specs.declared.base.Base.{Base}

-- ---- layouts

pub same_logs : (l : Layout) → HasSameLogs l l
same_logs l = record {
  active = refl;
  frozen = refl;
  covered = refl;
  next_log = refl;
  room = refl;
  keep = refl;
  since = refl;
  live = refl;
  pass = refl;
}

pub logs_then : (a b c : Layout) → HasSameLogs a b → HasSameLogs b c → HasSameLogs a c
logs_then a b c one two = record {
  active = two.active ∙ one.active;
  frozen = two.frozen ∙ one.frozen;
  covered = two.covered ∙ one.covered;
  next_log = two.next_log ∙ one.next_log;
  room = two.room ∙ one.room;
  keep = two.keep ∙ one.keep;
  since = two.since ∙ one.since;
  live = two.live ∙ one.live;
  pass = two.pass ∙ one.pass;
}

drawn_logs : (l : Layout) → HasSameLogs l (drawn l)
drawn_logs l = record {
  active = refl;
  frozen = refl;
  covered = refl;
  next_log = refl;
  room = refl;
  keep = refl;
  since = refl;
  live = refl;
  pass = refl;
}

halted_logs : (name : FileName) (l : Layout) → HasSameLogs l (halted_at name l)
halted_logs name l = record {
  active = refl;
  frozen = refl;
  covered = refl;
  next_log = refl;
  room = refl;
  keep = refl;
  since = refl;
  live = refl;
  pass = refl;
}

pub ended_logs : (l : Layout) (h : History) (job : Job) (made : Made) → HasSameLogs l (abandon_ruling l h job made).layout
ended_logs l h job made = record {
  active = refl;
  frozen = refl;
  covered = refl;
  next_log = refl;
  room = refl;
  keep = refl;
  since = refl;
  live = refl;
  pass = refl;
}

planned_logs : (l : Layout) (job : Job) → HasSameLogs l (with_job job l)
planned_logs l job = record {
  active = refl;
  frozen = refl;
  covered = refl;
  next_log = refl;
  room = refl;
  keep = refl;
  since = refl;
  live = refl;
  pass = refl;
}

installed_logs : (l : Layout) (job : Job) (made : Made) → HasSameLogs l (installed job made l)
installed_logs l job made = record {
  active = refl;
  frozen = refl;
  covered = refl;
  next_log = refl;
  room = refl;
  keep = refl;
  since = refl;
  live = refl;
  pass = refl;
}

pub lost_logs : (name : FileName) (l : Layout) (h : History) (job : Job) (made : Made)
    → HasSameLogs l (halted_at name (install_lost made l))
lost_logs name l h job made = record {
  active = refl;
  frozen = refl;
  covered = refl;
  next_log = refl;
  room = refl;
  keep = refl;
  since = refl;
  live = refl;
  pass = refl;
}

-- what is kept of where space comes back from is that of a layout with the same logs and tables
pub collects_so : {H : Type 0} (before after : Core H) (was now : Collecting) (l x : Layout) → HasSameLogs l x → x.levels ≡ l.levels
    → x.flushed ≡ l.flushed → after.version.behind.logs.items ≡ before.version.behind.logs.items → now ≡ was → Collects before was l
    → Collects after now x
collects_so before after was now l x same levels flushed logs kept has =
    collects_alike after now l x (record { frozen = same.frozen; flushed = flushed; levels = levels; pass = same.pass })
    (collects_same before after was now l logs kept has)

-- an open job stays open, but for what was lent to it
abbrev pub KeepsJob : Layout → Layout → Type 0
KeepsJob l x = (o : OpenJob) → l.job ≡ Some o → (p : OpenJob) × (x.job ≡ Some p) × (p.job ≡ o.job)

-- no table and no log that was flushed comes or goes
pub record SameTables (l x : Layout) : Type 0 where
  pub levels : x.levels ≡ l.levels
  pub flushed : x.flushed ≡ l.flushed

tables_then : (a b c : Layout) → SameTables a b → SameTables b c → SameTables a c
tables_then a b c one two = record { levels = two.levels ∙ one.levels; flushed = two.flushed ∙ one.flushed }

abbrev pub KeepsBoth : Layout → Layout → Type 0
KeepsBoth l x = HasSameLogs l x × KeepsJob l x × SameTables l x

-- ---- rulings

-- what is left where no number is drawn, or one is
fresh_by : (l : Layout) (h : History) (P : Ruling FreshAnswer → Type 0) → ((a : FreshAnswer) → P (leaving a h l))
    → P (record { answer = fresh.Drawn l.next_table; history = h; layout = drawn l; calls = 1; gone = [] }) → P (fresh_ruling l h)
fresh_by l h P left drew = by l.halted
  where
    counted : (b : Bool) → P (if b then leaving (fresh.Exhausted counters.Table) h l
        else record { answer = fresh.Drawn l.next_table; history = h; layout = drawn l; calls = 1; gone = [] })
    counted true = left (fresh.Exhausted counters.Table)
    counted false = drew

    by : (o : Option FileName) → P (fresh_unless o l h)
    by None = counted (has_no_number l.next_table 1)
    by (Some name) = left (fresh.Halted name)

fresh_keeps : (l : Layout) (h : History) → KeepsBoth l (fresh_ruling l h).layout
fresh_keeps l h =
    fresh_by l h (λ r. KeepsBoth l r.layout) (λ a. (same_logs l, λ o is. (o, is, refl), record { levels = refl; flushed = refl })) (
      drawn_logs l,
      λ o is. (record o { lent = o.lent ++ l.next_table ∷ [] }, ap (lent_to l.next_table) is, refl),
      record { levels = refl; flushed = refl },
    )

fresh_halted : (l : Layout) (h : History) → (fresh_ruling l h).layout.halted ≡ l.halted
fresh_halted l h = fresh_by l h (λ r. r.layout.halted ≡ l.halted) (λ a. refl) refl

fresh_history : (l : Layout) (h : History) → (fresh_ruling l h).history ≡ h
fresh_history l h = fresh_by l h (λ r. r.history ≡ h) (λ a. refl) refl

-- a number is drawn only where nothing has failed
pub drawn_runs : (n : ℕ) (l : Layout) (h : History) → fresh.Drawn n ≡ (fresh_ruling l h).answer → l.halted ≡ None
drawn_runs n l h is = by l.halted is
  where
    by : (o : Option FileName) → fresh.Drawn n ≡ (fresh_unless o l h).answer → o ≡ None
    by None e = refl
    by (Some name) e = absurd (let no : fresh.Drawn n ≡ fresh.Halted name = e in cc)

-- where a merge is planned, it is open
plan_is : (l : Layout) (h : History) (j : Job) → (plan_ruling l h).answer ≡ Some j → plan_ruling l h ≡ planned l h j
plan_is l h j is = by l.job is
  where
    due : (d : Option ℕ) → (plan_of l h d).answer ≡ Some j → plan_of l h d ≡ planned l h j
    due None e = absurd (let no : None ≡ Some j = e in cc)
    due (Some level) e = ap (λ (x : Job). planned l h x) (same (job_of l h (inputs_at level l.levels) (Level (level + 1))) e)
      where
        same : (x : Job) → Some x ≡ Some j → x ≡ j
        same x e = cc

    by : (o : Option OpenJob) → (plan_unless o l h).answer ≡ Some j → plan_unless o l h ≡ planned l h j
    by None e = due (due_from 0 l.levels) e
    by (Some o) e = absurd (let no : None ≡ Some j = e in cc)

-- none is, where none was begun
pub none_kept : {A : Type 0} (R : A → Job → Type 0) (got : Option A) (answer : Option Job) → got ≡ None → AreBoth R got answer
    → None ≡ kept_of answer
none_kept R None None none is = refl
none_kept R None (Some j) none is = absurd is
none_kept R (Some a) answer none is = absurd (let no : Some a ≡ None = none in cc)

-- an install leaves the layout with its tables put in, or with the merge given up
pub install_by : (l : Layout) (h : History) (job : Job) (made : Made) (P : Ruling InstallAnswer → Type 0)
    → ((a : InstallAnswer) → P (leaving a h (abandon_ruling l h job made).layout))
    → P (record { answer = install.Installed; history = h; layout = installed job made l; calls = 2; gone = [] })
    → P (install_ruling l h job made)
install_by l h job made P left put = by l.halted
  where
    versioned : (b : Bool) → P (if b then leaving (install.Exhausted counters.Version) h (abandon_ruling l h job made).layout
        else record { answer = install.Installed; history = h; layout = installed job made l; calls = 2; gone = [] })
    versioned true = left (install.Exhausted counters.Version)
    versioned false = put

    checked : (o : Option Named) → P (install_checked l h job made o)
    checked None = versioned (has_no_epoch l)
    checked (Some named) = left (install.Raced named.0 named.1)

    by : (o : Option FileName) → P (install_unless o l h job made)
    by None = checked (race job (moved_since l.job))
    by (Some name) = left (install.Halted name)

pub install_keeps : (l : Layout) (h : History) (job : Job) (made : Made) → HasSameLogs l (install_ruling l h job made).layout
install_keeps l h job made =
    install_by l h job made (λ r. HasSameLogs l r.layout) (λ a. ended_logs l h job made) (installed_logs l job made)

pub install_history : (l : Layout) (h : History) (job : Job) (made : Made) → (install_ruling l h job made).history ≡ h
install_history l h job made = install_by l h job made (λ r. r.history ≡ h) (λ a. refl) refl

-- ---- outcomes

pub both : {A : Type 0} (S T : History → Layout → Type 0) (h : History) (l : Layout) (ruling : Ruling A) (otherwise : Otherwise)
    (outcome : Outcome A) (effects : Effects) → Decides S h l ruling otherwise outcome effects
    → Decides T h l ruling otherwise outcome effects
    → Decides (λ k x. S k x × T k x) h l ruling otherwise outcome effects
both S T h l ruling otherwise outcome effects one two = record {
  answered = λ a is. let first = one.answered a is in let second = two.answered a is in (first.0, (first.1, second.1));
  did = one.did;
  no_memory = λ is. let first = one.no_memory is in let second = two.no_memory is in ((first.0, second.0), first.1);
  failed = λ name is. let first = one.failed name is in let second = two.failed name is in (first.0, (first.1, second.1));
  damaged = λ name place is. let first = one.damaged name place is in let second = two.damaged name place is in
      ((first.0, second.0), first.1);
}

-- some layout is left
ends : {A : Type 0} (S : History → Layout → Type 0) (P : Layout → Type 0) (h : History) (l : Layout) (ruling : Ruling A)
    (otherwise : Otherwise) (outcome : Outcome A) (effects : Effects) → ruling.history ≡ h → P ruling.layout → P otherwise.short
    → ((name : FileName) → P (halted_at name otherwise.lost)) → P l → Decides S h l ruling otherwise outcome effects
    → (x : Layout) × S h x × P x
ends S P h l ruling otherwise (Answered a) effects same whole short lost left decides =
    (ruling.layout, subst (λ (k : History). S k ruling.layout) same (decides.answered a refl).1, whole)
ends S P h l ruling otherwise NoMemory effects same whole short lost left decides =
    (otherwise.short, (decides.no_memory refl).0, short)
ends S P h l ruling otherwise (Failed name) effects same whole short lost left decides =
    (halted_at name otherwise.lost, (decides.failed name refl).1, lost name)
ends S P h l ruling otherwise (Damaged name place) effects same whole short lost left decides =
    (l, (decides.damaged name place refl).0, left)

-- ---- jobs

-- The files of one that has all of its merge are ones that were lent to it.
pub are_lent : {D H R W : Type 0} (g : Ghosts D) (writers : Writers W) (bytes : H → Option (List ℕ)) (disk : D) (halted : Option Name)
    (merging : Option OpenMerge) {k : _} (job : Merging (Base H R) H W k) (j : Job) (o : OpenJob)
    → IsHandedIn g writers disk halted merging job → HasAllMerge writers bytes job j → (its : Option OpenJob) → its ≡ Some o
    → Opens merging its → AreLent o.lent (made_of job j)
are_lent {D} {H} {R} {W} g writers bytes disk halted merging {k} job j o way all its is opens = record {
  drawn = subst (λ (ns : List ℕ). AllByRecursion (λ (n : ℕ). has n o.lent ≡ true) (ns ++ left)) numbers
      (subst (λ (lent : List ℕ). AllByRecursion (λ (n : ℕ). has n lent ≡ true) (numbers_in job)) lent_is way.drawn);
  distinct = subst (λ (ns : List ℕ). AreDistinct (ns ++ left)) numbers way.distinct;
}
  where
    left : List ℕ
    left = map (λ (f : Lent W k). f.number) job.leavings.items

    numbers : map (λ (t : Synced W k). t.number) job.made.items ≡ numbers_of (made_of job j).tables
    numbers = made_numbers_are writers job.made.items (outputs j) all.made

    lent_is : way.merge.lent.items ≡ o.lent
    lent_is = (subst (λ (m : Option OpenMerge). Opens m (Some o)) way.is_open
        (subst (λ (x : Option OpenJob). Opens merging x) is opens)).lent

-- ---- the engine

module _ {D H : Type 0} (g : Ghosts D) (bytes : H → Option (List ℕ)) where
  -- where nothing was done
  abbrev pub untouched : IsWatched g → (disk : D) (core : Core H) (merging : Option OpenMerge) (h : History) (l : Layout)
      → Represents bytes core (g.told disk) h l → StandsOpen bytes core merging h l → Fits (g.told disk) core h l
      → StaysFor g bytes disk disk core merging h l
  untouched watched disk core merging h l is stands fits = record {
    layout = l;
    same = same_logs l;
    stands = stands;
    represents = is;
    fits = fits;
    through = λ running. rests g watched h l is.stands.tidy core.back disk (is.held running);
    again = λ running. opens_again g watched h l is.stands.tidy core.back disk (is.held running);
  }

  -- the same of what is equal
  pub untouched_by : IsWatched g → (old new : D) (before after : Core H) (was now : Option OpenMerge) (h : History) (l : Layout)
      → new ≡ old → after ≡ before → now ≡ was
      → Represents bytes before (g.told old) h l → StandsOpen bytes before was h l → Fits (g.told old) before h l
      → StaysFor g bytes old new after now h l
  untouched_by watched old new before after was now h l disk core merging is stands fits =
      subst (λ (d : D). StaysFor g bytes old d after now h l) (sym disk)
      (subst (λ (c : Core H). StaysFor g bytes old old c now h l) (sym core)
      (subst (λ (m : Option OpenMerge). StaysFor g bytes old old before m h l) (sym merging)
      (untouched watched old before was h l is stands fits)))

  -- and what is kept of where space comes back from
  pub untouched_collecting : IsWatched g → (old new : D) (before after : Core H) (was now : Option OpenMerge) (kept kept_now : Collecting)
      (h : History) (l : Layout) → new ≡ old → after ≡ before → now ≡ was → kept_now ≡ kept
      → Represents bytes before (g.told old) h l → StandsOpen bytes before was h l → Fits (g.told old) before h l
      → Collects before kept l → StaysCollecting g bytes old new after now kept_now h l
  untouched_collecting watched old new before after was now kept kept_now h l disk core merging collecting is stands fits has =
      subst (λ (d : D). StaysCollecting g bytes old d after now kept_now h l) (sym disk)
      (subst (λ (c : Core H). StaysCollecting g bytes old old c now kept_now h l) (sym core)
      (subst (λ (m : Option OpenMerge). StaysCollecting g bytes old old before m kept_now h l) (sym merging)
      (subst (λ (k : Collecting). StaysCollecting g bytes old old before was k h l) (sym collecting)
      (record { stays = untouched watched old before was h l is stands fits; collects = has }))))

  -- ---- no merge is open behind it

  -- whatever of it was made is forgotten
  closes : (old new : D) (core : Core H) (h : History) (l x : Layout) → HasSameLogs l x → Represents bytes core (g.told new) h x
      → Fits (g.told new) core h x → (l.halted ≡ None → CrashesShow g old new h h) → (l.halted ≡ None → Tells g new MayOpen)
      → (t : StaysFor g bytes old new core None h l) × IsAlike x t.layout
  closes old new core h l x same is fits through again = by x.job refl
    where
      by : (o : Option OpenJob) → x.job ≡ o → (t : StaysFor g bytes old new core None h l) × IsAlike x t.layout
      by None is_open = (
        record {
          layout = x;
          same = same;
          stands = record { stands = is.stands; opens = subst (λ (o : Option OpenJob). Opens None o) (sym is_open) tt };
          represents = is;
          fits = fits;
          through = through;
          again = again;
        },
        alike_same x,
      )
      by (Some o) is_open =
          let gone : Represents bytes core (g.told new) h (abandon_ruling x h o.job nothing_made).layout =
          represents_abandoned bytes core h x o nothing_made is_open (record { drawn = tt; distinct = tt }) (g.told new) is in (
            record {
              layout = (abandon_ruling x h o.job nothing_made).layout;
              same = logs_then l x (abandon_ruling x h o.job nothing_made).layout same (ended_logs x h o.job nothing_made);
              stands = record { stands = gone.stands; opens = tt };
              represents = gone;
              fits = fits_abandoned core h x o.job nothing_made (g.told new) fits;
              through = through;
              again = again;
            },
            record { frozen = refl; flushed = refl; levels = refl; pass = refl },
          )

  pub abandoned : (old new last : D) (core after : Core H) (was now : Option OpenMerge) (h : History) (l : Layout)
      → StaysFor g bytes old new core was h l → last ≡ new → after ≡ core → now ≡ None → StaysFor g bytes old last after now h l
  abandoned old new last core after was now h l s disk same none =
      subst (λ (d : D). StaysFor g bytes old d after now h l) (sym disk)
      (subst (λ (c : Core H). StaysFor g bytes old new c now h l) (sym same)
      (subst (λ (m : Option OpenMerge). StaysFor g bytes old new core m h l) (sym none)
      (closes old new core h l s.layout s.same s.represents s.fits s.through s.again).0))

  -- and what is kept of where space comes back from stays that of the layout
  pub abandoned_collecting : (old new last : D) (core after : Core H) (was now : Option OpenMerge) (kept kept_now : Collecting) (h : History)
      (l : Layout) (s : StaysFor g bytes old new core was h l) → Collects core kept s.layout → last ≡ new → after ≡ core → now ≡ None
      → kept_now ≡ kept → StaysCollecting g bytes old last after now kept_now h l
  abandoned_collecting old new last core after was now kept kept_now h l s has disk same none kept_is =
      subst (λ (d : D). StaysCollecting g bytes old d after now kept_now h l) (sym disk)
      (subst (λ (c : Core H). StaysCollecting g bytes old new c now kept_now h l) (sym same)
      (subst (λ (m : Option OpenMerge). StaysCollecting g bytes old new core m kept_now h l) (sym none)
      (subst (λ (k : Collecting). StaysCollecting g bytes old new core None k h l) (sym kept_is)
      (build (closes old new core h l s.layout s.same s.represents s.fits s.through s.again)))))
    where
      build : (t : StaysFor g bytes old new core None h l) × IsAlike s.layout t.layout
          → StaysCollecting g bytes old new core None kept h l
      build (t, alike) = record { stays = t; collects = collects_alike core kept s.layout t.layout alike has }

  -- ---- one more call, behind which another layout stands

  module _ (old mid new : D) (before after : Core H) (was now : Option OpenMerge) (h : History) (l : Layout)
      (s : StaysFor g bytes old mid before was h l) (alike : s.layout.halted ≡ l.halted) where
    abbrev pub joined : (x : Layout) → HasSameLogs s.layout x → StandsOpen bytes after now h x → Represents bytes after (g.told new) h x
        → Fits (g.told new) after h x → (s.layout.halted ≡ None → CrashesShow g mid new h h)
        → (s.layout.halted ≡ None → Tells g new MayOpen) → StaysFor g bytes old new after now h l
    joined x same stands is fits through again = record {
      layout = x;
      same = logs_then l s.layout x s.same same;
      stands = stands;
      represents = is;
      fits = fits;
      through = λ running. holds_then g (LeavesBetween h h) old mid new (s.through running) (through (alike ∙ running));
      again = λ running. again (alike ∙ running);
    }

    -- The next file was asked for.
    module _ {W : Type 0} {k : _} (result : Result (Lent W k) StepFail)
        (stands : Decides (StandsOpen bytes after now) h s.layout (fresh_ruling s.layout h) (as_before s.layout s.layout)
        (fresh_outcome result) (fresh_effects result))
        (carries : Carries g bytes mid new after h s.layout (fresh_ruling s.layout h) (as_before s.layout s.layout)
        (fresh_outcome result) (fresh_effects result))
        (fits : Decides (Fits (g.told new) after) h s.layout (fresh_ruling s.layout h) (as_before s.layout s.layout)
        (fresh_outcome result) (fresh_effects result)) where
      abbrev InMemory : History → Layout → Type 0
      InMemory x y = StandsOpen bytes after now x y × Fits (g.told new) after x y

      abbrev OnDisk : History → Layout → Type 0
      OnDisk x y = Represents bytes after (g.told new) x y

      shown : s.layout.halted ≡ None → CrashesShow g mid new h h
      shown running = subst (λ (k : History). CrashesShow g mid new h k) (fresh_history s.layout h) (carries.through running)

      -- so it is of whatever else the call decides
      pub asked : (K : History → Layout → Type 0) → Decides K h s.layout (fresh_ruling s.layout h) (as_before s.layout s.layout)
          (fresh_outcome result) (fresh_effects result)
          → (t : StaysFor g bytes old new after now h l) × KeepsJob s.layout t.layout × SameTables s.layout t.layout × K h t.layout
      asked K decides = build (ends (λ x y. (InMemory x y × OnDisk x y) × K x y) (KeepsBoth s.layout) h s.layout
          (fresh_ruling s.layout h) (as_before s.layout s.layout) (fresh_outcome result) (fresh_effects result)
          (fresh_history s.layout h) (fresh_keeps s.layout h) here
          (λ name. (halted_logs name s.layout, λ o is. (o, is, refl), record { levels = refl; flushed = refl })) here
          (both (λ x y. InMemory x y × OnDisk x y) K h s.layout (fresh_ruling s.layout h)
          (as_before s.layout s.layout) (fresh_outcome result) (fresh_effects result)
          (both InMemory OnDisk h s.layout (fresh_ruling s.layout h)
          (as_before s.layout s.layout) (fresh_outcome result) (fresh_effects result)
          (both (StandsOpen bytes after now) (Fits (g.told new) after) h s.layout (fresh_ruling s.layout h)
          (as_before s.layout s.layout) (fresh_outcome result) (fresh_effects result) stands fits) carries.decides) decides))
        where
          here : KeepsBoth s.layout s.layout
          here = (same_logs s.layout, λ o is. (o, is, refl), record { levels = refl; flushed = refl })

          build : (x : Layout) × ((InMemory h x × OnDisk h x) × K h x) × KeepsBoth s.layout x
              → (t : StaysFor g bytes old new after now h l) × KeepsJob s.layout t.layout × SameTables s.layout t.layout × K h t.layout
          build (x, (all, so), kept) = (joined x kept.0 all.0.0 all.1 all.0.1 shown carries.again, kept.1, kept.2, so)

    -- It was lent.
    module _ (n : ℕ) (effects : Effects)
        (stands : Decides (StandsOpen bytes after now) h s.layout (fresh_ruling s.layout h) (as_before s.layout s.layout)
        (Answered (fresh.Drawn n)) effects)
        (carries : Carries g bytes mid new after h s.layout (fresh_ruling s.layout h) (as_before s.layout s.layout)
        (Answered (fresh.Drawn n)) effects)
        (fits : Decides (Fits (g.told new) after) h s.layout (fresh_ruling s.layout h) (as_before s.layout s.layout)
        (Answered (fresh.Drawn n)) effects) where
      pub runs : s.layout.halted ≡ None
      runs = drawn_runs n s.layout h (stands.answered (fresh.Drawn n) refl).0

      abbrev pub ruled : Layout
      ruled = (fresh_ruling s.layout h).layout

      -- so it is of whatever else the call decides
      pub lent : (K : History → Layout → Type 0) → Decides K h s.layout (fresh_ruling s.layout h) (as_before s.layout s.layout)
          (Answered (fresh.Drawn n)) effects
          → (t : StaysFor g bytes old new after now h l) × KeepsJob s.layout t.layout × (t.layout.halted ≡ l.halted)
          × SameTables s.layout t.layout × K h t.layout
      lent K decides = (
        joined ruled (fresh_keeps s.layout h).0
            (subst (λ (x : History). StandsOpen bytes after now x ruled) (fresh_history s.layout h)
            (stands.answered (fresh.Drawn n) refl).1)
            (subst (λ (x : History). Represents bytes after (g.told new) x ruled) (fresh_history s.layout h)
            (carries.decides.answered (fresh.Drawn n) refl).1)
            (subst (λ (x : History). Fits (g.told new) after x ruled) (fresh_history s.layout h)
            (fits.answered (fresh.Drawn n) refl).1)
            (λ running. subst (λ (k : History). CrashesShow g mid new h k) (fresh_history s.layout h) (carries.through running))
            carries.again,
        (fresh_keeps s.layout h).1,
        fresh_halted s.layout h ∙ alike,
        (fresh_keeps s.layout h).2,
        subst (λ (x : History). K x ruled) (fresh_history s.layout h) (decides.answered (fresh.Drawn n) refl).1,
      )

    -- It goes on from there.
    abbrev pub goes_on : StaysFor g bytes mid new after now h s.layout → StaysFor g bytes old new after now h l
    goes_on t = joined t.layout t.same t.stands t.represents t.fits t.through t.again

    -- The merge was handed in, and no merge is open behind it.
    pub put_in : (job : Job) (made : Made) (outcome : Outcome InstallAnswer) (effects : Effects)
        → Carries g bytes mid new after h s.layout (install_ruling s.layout h job made) (install_otherwise s.layout made)
        outcome effects
        → Decides (Fits (g.told new) after) h s.layout (install_ruling s.layout h job made) (install_otherwise s.layout made)
        outcome effects
        → StaysFor g bytes old new after None h l
    put_in job made outcome effects carries fits =
        build (ends (λ x y. Represents bytes after (g.told new) x y × Fits (g.told new) after x y) (HasSameLogs s.layout) h s.layout
        (install_ruling s.layout h job made) (install_otherwise s.layout made) outcome effects
        (install_history s.layout h job made) (install_keeps s.layout h job made) (same_logs s.layout)
        (λ name. lost_logs name s.layout h job made) (same_logs s.layout)
        (both (Represents bytes after (g.told new)) (Fits (g.told new) after) h s.layout
        (install_ruling s.layout h job made) (install_otherwise s.layout made) outcome effects
        carries.decides fits))
      where
        build : (x : Layout) × (Represents bytes after (g.told new) h x × Fits (g.told new) after h x) × HasSameLogs s.layout x
            → StaysFor g bytes old new after None h l
        build (x, all, same) = (closes old new after h l x (logs_then l s.layout x s.same same) all.0 all.1
            (λ running. holds_then g (LeavesBetween h h) old mid new (s.through running)
            (subst (λ (k : History). CrashesShow g mid new h k) (install_history s.layout h job made) (carries.through (alike ∙ running))))
            (λ running. carries.again (alike ∙ running))).0

    -- and what is kept of where space comes back from is that of the layout behind it
    pub put_in_collecting : (kept : Collecting) (job : Job) (made : Made) (outcome : Outcome InstallAnswer) (effects : Effects)
        → Carries g bytes mid new after h s.layout (install_ruling s.layout h job made) (install_otherwise s.layout made)
        outcome effects
        → Decides (Fits (g.told new) after) h s.layout (install_ruling s.layout h job made) (install_otherwise s.layout made)
        outcome effects
        → Decides (λ k x. Collects after kept x) h s.layout (install_ruling s.layout h job made) (install_otherwise s.layout made)
        outcome effects
        → StaysCollecting g bytes old new after None kept h l
    put_in_collecting kept job made outcome effects carries fits collects =
        build (ends (λ x y. (Represents bytes after (g.told new) x y × Fits (g.told new) after x y) × Collects after kept y)
        (HasSameLogs s.layout) h s.layout (install_ruling s.layout h job made) (install_otherwise s.layout made) outcome effects
        (install_history s.layout h job made) (install_keeps s.layout h job made) (same_logs s.layout)
        (λ name. lost_logs name s.layout h job made) (same_logs s.layout)
        (both (λ x y. Represents bytes after (g.told new) x y × Fits (g.told new) after x y) (λ k x. Collects after kept x) h s.layout
        (install_ruling s.layout h job made) (install_otherwise s.layout made) outcome effects
        (both (Represents bytes after (g.told new)) (Fits (g.told new) after) h s.layout
        (install_ruling s.layout h job made) (install_otherwise s.layout made) outcome effects
        carries.decides fits) collects))
      where
        build : (x : Layout) × ((Represents bytes after (g.told new) h x × Fits (g.told new) after h x) × Collects after kept x)
            × HasSameLogs s.layout x → StaysCollecting g bytes old new after None kept h l
        build (x, all, same) =
            ended x all.1 (closes old new after h l x (logs_then l s.layout x s.same same) all.0.0 all.0.1
            (λ running. holds_then g (LeavesBetween h h) old mid new (s.through running)
            (subst (λ (k : History). CrashesShow g mid new h k) (install_history s.layout h job made) (carries.through (alike ∙ running))))
            (λ running. carries.again (alike ∙ running)))
          where
            ended : (y : Layout) → Collects after kept y → (t : StaysFor g bytes old new after None h l) × IsAlike y t.layout
                → StaysCollecting g bytes old new after None kept h l
            ended y has (t, like) = record { stays = t; collects = collects_alike after kept y t.layout like has }

-- ---- a merge that was planned

-- The engine stands for the history yet, with a layout that has its job open.
pub record IsBegun {D H R W : Type 0} (g : Ghosts D) (writers : Writers W) (bytes : H → Option (List ℕ)) (old new : D)
    (core : Core H) (merging : Option OpenMerge) {k : _} (job : Merging (Base H R) H W k) (h : History) (l : Layout) : Type 0 where
  pub stays : StaysFor g bytes old new core merging h l
  pub alike : stays.layout.halted ≡ l.halted
  pub open_job : OpenJob
  pub is_open : stays.layout.job ≡ Some open_job
  pub planned : (plan_ruling l h).answer ≡ Some open_job.job
  pub has : HasMerge writers bytes job open_job.job
  pub tables : SameTables l stays.layout

module _ {D H R W : Type 0} (g : Ghosts D) (watched : IsWatched g) (writers : Writers W) (bytes : H → Option (List ℕ)) where
  -- so it is of whatever else the call decides
  pub begun_with : (K : History → Layout → Type 0) (E : Type 0) {k : _} (old new : D) (before after : Core H) (now : Option OpenMerge)
      (job : Merging (Base H R) H W k) (h : History) (l : Layout) → new ≡ old → Represents bytes before (g.told old) h l
      → (got : Option (Merging (Base H R) H W k)) → got ≡ Some job
      → Decides (StandsOpen bytes after now) h l (plan_ruling l h) (as_before l l)
      (plan_outcome {E = E} (plan_ruling l h).answer (Ok got)) no_effects
      → Decides (Represents bytes after (g.told new)) h l (plan_ruling l h) (as_before l l)
      (plan_outcome {E = E} (plan_ruling l h).answer (Ok got)) no_effects
      → Decides (Fits (g.told new) after) h l (plan_ruling l h) (as_before l l)
      (plan_outcome {E = E} (plan_ruling l h).answer (Ok got)) no_effects
      → AreBoth (HasMerge {R = R} writers bytes {g = k}) got (plan_ruling l h).answer
      → Decides K h l (plan_ruling l h) (as_before l l) (plan_outcome {E = E} (plan_ruling l h).answer (Ok got)) no_effects
      → (b : IsBegun g writers bytes old new after now job h l) × K h b.stays.layout
  begun_with K E {k} old new before after now job h l disk is got some_job stands represents fits has decides =
      by (plan_ruling l h).answer refl
      (subst (λ (o : Option (Merging (Base H R) H W k)). AreBoth (HasMerge {R = R} writers bytes {g = k}) o (plan_ruling l h).answer)
      some_job has)
    where
      planned_one : (S : History → Layout → Type 0) → Decides S h l (plan_ruling l h) (as_before l l)
          (plan_outcome {E = E} (plan_ruling l h).answer (Ok got)) no_effects
          → Decides S h l (plan_ruling l h) (as_before l l) (Answered (plan_ruling l h).answer) no_effects
      planned_one S decides =
          subst (λ (o : Option (Merging (Base H R) H W k)). Decides S h l (plan_ruling l h) (as_before l l)
          (plan_outcome {E = E} (plan_ruling l h).answer (Ok o)) no_effects) some_job decides

      by : (o : Option Job) → (plan_ruling l h).answer ≡ o → AreBoth (HasMerge {R = R} writers bytes {g = k}) (Some job) o
          → (b : IsBegun g writers bytes old new after now job h l) × K h b.stays.layout
      by None none both = absurd both
      by (Some j) some both =
          let ruled : plan_ruling l h ≡ planned l h j = plan_is l h j some in (
            record {
              stays = record {
                layout = with_job j l;
                same = planned_logs l j;
                stands = subst (λ (r : Ruling (Option Job)). StandsOpen bytes after now r.history r.layout) ruled
                    ((planned_one (StandsOpen bytes after now) stands).answered (plan_ruling l h).answer refl).1;
                represents = subst (λ (r : Ruling (Option Job)). Represents bytes after (g.told new) r.history r.layout) ruled
                    ((planned_one (Represents bytes after (g.told new)) represents).answered (plan_ruling l h).answer refl).1;
                fits = subst (λ (r : Ruling (Option Job)). Fits (g.told new) after r.history r.layout) ruled
                    ((planned_one (Fits (g.told new) after) fits).answered (plan_ruling l h).answer refl).1;
                through = λ running. subst (λ (d : D). CrashesShow g old d h h) (sym disk)
                    (rests g watched h l is.stands.tidy before.back old (is.held running));
                again = λ running. subst (λ (d : D). Tells g d MayOpen) (sym disk)
                    (opens_again g watched h l is.stands.tidy before.back old (is.held running));
              };
              alike = refl;
              open_job = record { job = j; pin = pin_of l; moved = []; lent = [] };
              is_open = refl;
              planned = some;
              has = both;
              tables = record { levels = refl; flushed = refl };
            },
            subst (λ (r : Ruling (Option Job)). K r.history r.layout) ruled
                ((planned_one K decides).answered (plan_ruling l h).answer refl).1,
          )

  pub begun : (E : Type 0) {k : _} (old new : D) (before after : Core H) (now : Option OpenMerge) (job : Merging (Base H R) H W k)
      (h : History) (l : Layout) → new ≡ old → Represents bytes before (g.told old) h l
      → (got : Option (Merging (Base H R) H W k)) → got ≡ Some job
      → Decides (StandsOpen bytes after now) h l (plan_ruling l h) (as_before l l)
      (plan_outcome {E = E} (plan_ruling l h).answer (Ok got)) no_effects
      → Decides (Represents bytes after (g.told new)) h l (plan_ruling l h) (as_before l l)
      (plan_outcome {E = E} (plan_ruling l h).answer (Ok got)) no_effects
      → Decides (Fits (g.told new) after) h l (plan_ruling l h) (as_before l l)
      (plan_outcome {E = E} (plan_ruling l h).answer (Ok got)) no_effects
      → AreBoth (HasMerge {R = R} writers bytes {g = k}) got (plan_ruling l h).answer
      → IsBegun g writers bytes old new after now job h l
  begun E old new before after now job h l disk is got some_job stands represents fits has =
      (begun_with (Fits (g.told new) after) E old new before after now job h l disk is got some_job stands represents fits has
      fits).0

-- ---- a merge that is carried out

-- It has come so far.
pub record IsMaking {D H R W : Type 0} (g : Ghosts D) (writers : Writers W) (bytes : H → Option (List ℕ)) (old new : D)
    (core : Core H) (merging : Option OpenMerge) {k : _} (job : Merging (Base H R) H W k) (reader : JobReader R (BlockReader R))
    (h : History) (l : Layout) (j : Job) : Type 0 where
  pub stays : StaysFor g bytes old new core merging h l
  pub alike : stays.layout.halted ≡ l.halted
  pub open_job : OpenJob
  pub is_open : stays.layout.job ≡ Some open_job
  pub job_is : open_job.job ≡ j
  pub has : HasMerge writers bytes job j
  pub fits : bases.Fits bytes job.base.version reader.looks
  pub tables : SameTables l stays.layout

module _ {H R W : Type 0} (bytes : H → Option (List ℕ)) {k : _} (old new : Merging (Base H R) H W k) (reader : BlockReader R) where
  -- its sources stay, so what fits them does
  pub fits_asked : KeepsAll old new → bases.Fits bytes old.base.version reader → bases.Fits bytes new.base.version reader
  fits_asked kept fits = subst (λ (x : Merging (Base H R) H W k). bases.Fits bytes x.base.version reader) (sym kept) fits

  pub fits_roomy : IsSameJob old new → bases.Fits bytes old.base.version reader → bases.Fits bytes new.base.version reader
  fits_roomy same fits = subst (λ (x : Merging (Base H R) H W k). bases.Fits bytes x.base.version reader) (sym same.same) fits

  pub fits_taken : (writers : Writers W) (file : Lent W k) → Takes writers file old new → bases.Fits bytes old.base.version reader
      → bases.Fits bytes new.base.version reader
  fits_taken writers file takes fits =
      subst (λ (x : Merging (Base H R) H W k). bases.Fits bytes x.base.version reader) (sym takes.kept) fits

-- a file that is lent is one that nothing was done with
pub is_fresh : {D H W : Type 0} (g : Ghosts D) (writers : Writers W) (bytes : H → Option (List ℕ)) (disk : D) (core : Core H) (h : History)
    (l : Layout) {k : _} (file : Lent W k) → Represents bytes core (g.told disk) h l → l.halted ≡ None
    → ForSome (g.told disk) (λ _. writers.file file.writer ≡ Some new_file) → IsFresh writers file
is_fresh g writers bytes disk core h l file is running empty f found =
    let held = is.held running in
    let e : Some f ≡ Some new_file = sym found ∙ empty held.state held.told_is in cc

-- what isn't answered asks nothing
pub no_ok : (P : Type 0) (result : Result (Unit {0}) MergeFail) → IsErr result → OnOk result P
no_ok P (Ok done) failed = absurd (let no : false ≡ true = failed in cc)
no_ok P (Err why) failed = tt

module _ {D H R W : Type 0} (g : Ghosts D) (writers : Writers W) (bytes : H → Option (List ℕ)) {k : _} (h : History) (l : Layout) where
  -- before the first table
  abbrev pub starts : IsWatched g → (disk : D) (core : Core H) (merging : Option OpenMerge) (job : Merging (Base H R) H W k)
      (reader : JobReader R (BlockReader R)) (o : OpenJob)
      → Represents bytes core (g.told disk) h l → StandsOpen bytes core merging h l → Fits (g.told disk) core h l
      → l.job ≡ Some o → HasMerge writers bytes job o.job → FitsReaders bytes job → ((files : Files) → AreKept files reader.looks)
      → IsMaking g writers bytes disk disk core merging job reader h l o.job
  starts watched disk core merging job reader o is stands fits is_open has looks kept = record {
    stays = untouched g bytes watched disk core merging h l is stands fits;
    alike = refl;
    open_job = o;
    is_open = is_open;
    job_is = refl;
    has = has;
    fits = looks reader.looks kept;
    tables = record { levels = refl; flushed = refl };
  }

  -- not even a reader was there
  abbrev pub unbegun : IsWatched g → (disk : D) (core : Core H) (merging : Option OpenMerge) (job : Merging (Base H R) H W k)
      (result : Result (Unit {0}) MergeFail) → IsErr result → (o : OpenJob) → Represents bytes core (g.told disk) h l
      → StandsOpen bytes core merging h l → Fits (g.told disk) core h l → l.job ≡ Some o
      → MakesTables g writers bytes disk disk core merging job h l o.job result
  unbegun watched disk core merging job result failed o is stands fits is_open = record {
    stays = untouched g bytes watched disk core merging h l is stands fits;
    open_job = o;
    is_open = is_open;
    job_is = refl;
    whole = no_ok _ result failed;
    lent = no_ok _ result failed;
    running = no_ok _ result failed;
    levels = refl;
    flushed = refl;
  }

  module _ (j : Job) (old mid : D) (before : Core H) (was : Option OpenMerge) (first : Merging (Base H R) H W k)
      (reader : JobReader R (BlockReader R)) (m : IsMaking g writers bytes old mid before was first reader h l j) where
    -- it ends there for want of something
    abbrev pub fails : (job : Merging (Base H R) H W k) (result : Result (Unit {0}) MergeFail) → IsErr result
        → MakesTables g writers bytes old mid before was job h l j result
    fails job result failed = record {
      stays = m.stays;
      open_job = m.open_job;
      is_open = m.is_open;
      job_is = m.job_is;
      whole = no_ok _ result failed;
      lent = no_ok _ result failed;
      running = no_ok _ result failed;
      levels = m.tables.levels;
      flushed = m.tables.flushed;
    }

    -- all tables are made
    abbrev pub has_all : (halted : Option Name) (job : Merging (Base H R) H W k) → IsHandedIn g writers mid halted was job
        → HasAllMerge writers bytes job j → MakesTables g writers bytes old mid before was job h l j (Ok tt)
    has_all halted job handed all = record {
      stays = m.stays;
      open_job = m.open_job;
      is_open = m.is_open;
      job_is = m.job_is;
      whole = all;
      lent = are_lent g writers bytes mid halted was job j m.open_job handed all m.stays.layout.job m.is_open m.stays.stands.opens;
      running = m.alike;
      levels = m.tables.levels;
      flushed = m.tables.flushed;
    }

    module _ (new : D) (after : Core H) (now : Option OpenMerge) where
      -- no file was lent
      pub unlent_with : (K : History → Layout → Type 0) (fail : StepFail) (job : Merging (Base H R) H W k)
          (result : Result (Unit {0}) MergeFail) → IsErr result
          → Decides (StandsOpen bytes after now) h m.stays.layout (fresh_ruling m.stays.layout h) (as_before m.stays.layout m.stays.layout)
          (fresh_outcome {W = W} {g = k} (Err fail)) (fresh_effects {W = W} {g = k} (Err fail))
          → Carries g bytes mid new after h m.stays.layout (fresh_ruling m.stays.layout h) (as_before m.stays.layout m.stays.layout)
          (fresh_outcome {W = W} {g = k} (Err fail)) (fresh_effects {W = W} {g = k} (Err fail))
          → Decides (Fits (g.told new) after) h m.stays.layout (fresh_ruling m.stays.layout h) (as_before m.stays.layout m.stays.layout)
          (fresh_outcome {W = W} {g = k} (Err fail)) (fresh_effects {W = W} {g = k} (Err fail))
          → Decides K h m.stays.layout (fresh_ruling m.stays.layout h) (as_before m.stays.layout m.stays.layout)
          (fresh_outcome {W = W} {g = k} (Err fail)) (fresh_effects {W = W} {g = k} (Err fail))
          → (t : MakesTables g writers bytes old new after now job h l j result) × K h t.stays.layout
      unlent_with K fail job result failed stands carries fits decides =
          build (asked g bytes old mid new before after was now h l m.stays m.alike {W = W} {k = k} (Err fail) stands carries fits
          K decides)
        where
          build : (t : StaysFor g bytes old new after now h l) × KeepsJob m.stays.layout t.layout × SameTables m.stays.layout t.layout
              × K h t.layout → (t : MakesTables g writers bytes old new after now job h l j result) × K h t.stays.layout
          build (t, keeps, same, so) = let p = keeps m.open_job m.is_open in (
            record {
              stays = t;
              open_job = p.0;
              is_open = p.1;
              job_is = p.2 ∙ m.job_is;
              whole = no_ok _ result failed;
              lent = no_ok _ result failed;
              running = no_ok _ result failed;
              levels = (tables_then l m.stays.layout t.layout m.tables same).levels;
              flushed = (tables_then l m.stays.layout t.layout m.tables same).flushed;
            },
            so,
          )

      pub unlent : (fail : StepFail) (job : Merging (Base H R) H W k) (result : Result (Unit {0}) MergeFail) → IsErr result
          → Decides (StandsOpen bytes after now) h m.stays.layout (fresh_ruling m.stays.layout h) (as_before m.stays.layout m.stays.layout)
          (fresh_outcome {W = W} {g = k} (Err fail)) (fresh_effects {W = W} {g = k} (Err fail))
          → Carries g bytes mid new after h m.stays.layout (fresh_ruling m.stays.layout h) (as_before m.stays.layout m.stays.layout)
          (fresh_outcome {W = W} {g = k} (Err fail)) (fresh_effects {W = W} {g = k} (Err fail))
          → Decides (Fits (g.told new) after) h m.stays.layout (fresh_ruling m.stays.layout h) (as_before m.stays.layout m.stays.layout)
          (fresh_outcome {W = W} {g = k} (Err fail)) (fresh_effects {W = W} {g = k} (Err fail))
          → MakesTables g writers bytes old new after now job h l j result
      unlent fail job result failed stands carries fits =
          (unlent_with (Fits (g.told new) after) fail job result failed stands carries fits fits).0

      module _ (n : ℕ) (effects : Effects)
          (stands : Decides (StandsOpen bytes after now) h m.stays.layout (fresh_ruling m.stays.layout h)
          (as_before m.stays.layout m.stays.layout) (Answered (fresh.Drawn n)) effects)
          (carries : Carries g bytes mid new after h m.stays.layout (fresh_ruling m.stays.layout h)
          (as_before m.stays.layout m.stays.layout) (Answered (fresh.Drawn n)) effects)
          (fits : Decides (Fits (g.told new) after) h m.stays.layout (fresh_ruling m.stays.layout h)
          (as_before m.stays.layout m.stays.layout) (Answered (fresh.Drawn n)) effects) where
        module _ (K : History → Layout → Type 0) (decides : Decides K h m.stays.layout (fresh_ruling m.stays.layout h)
            (as_before m.stays.layout m.stays.layout) (Answered (fresh.Drawn n)) effects) where
          behind_it : (t : StaysFor g bytes old new after now h l) × KeepsJob m.stays.layout t.layout × (t.layout.halted ≡ l.halted)
              × SameTables m.stays.layout t.layout × K h t.layout
          behind_it = lent g bytes old mid new before after was now h l m.stays m.alike n effects stands carries fits K decides

          -- the table was made
          pub made_more_with : (last : Merging (Base H R) H W k) (next : JobReader R (BlockReader R)) → HasMerge writers bytes last j
              → bases.Fits bytes last.base.version next.looks
              → (t : IsMaking g writers bytes old new after now last next h l j) × K h t.stays.layout
          made_more_with last next has looks = let p = behind_it.1 m.open_job m.is_open in (
            record {
              stays = behind_it.0;
              alike = behind_it.2;
              open_job = p.0;
              is_open = p.1;
              job_is = p.2 ∙ m.job_is;
              has = has;
              fits = looks;
              tables = tables_then l m.stays.layout behind_it.0.layout m.tables behind_it.3;
            },
            behind_it.4,
          )

          -- it wasn't
          pub unfilled_with : (job : Merging (Base H R) H W k) (result : Result (Unit {0}) MergeFail) → IsErr result
              → (t : MakesTables g writers bytes old new after now job h l j result) × K h t.stays.layout
          unfilled_with job result failed = let p = behind_it.1 m.open_job m.is_open in (
            record {
              stays = behind_it.0;
              open_job = p.0;
              is_open = p.1;
              job_is = p.2 ∙ m.job_is;
              whole = no_ok _ result failed;
              lent = no_ok _ result failed;
              running = no_ok _ result failed;
              levels = (tables_then l m.stays.layout behind_it.0.layout m.tables behind_it.3).levels;
              flushed = (tables_then l m.stays.layout behind_it.0.layout m.tables behind_it.3).flushed;
            },
            behind_it.4,
          )

        pub made_more : (last : Merging (Base H R) H W k) (next : JobReader R (BlockReader R)) → HasMerge writers bytes last j
            → bases.Fits bytes last.base.version next.looks → IsMaking g writers bytes old new after now last next h l j
        made_more last next has looks = (made_more_with (Fits (g.told new) after) fits last next has looks).0

        pub unfilled : (job : Merging (Base H R) H W k) (result : Result (Unit {0}) MergeFail) → IsErr result
            → MakesTables g writers bytes old new after now job h l j result
        unfilled job result failed = (unfilled_with (Fits (g.told new) after) fits job result failed).0

-- ---- an install that is made of a layout for which the engine fits

-- Where it isn't halted the disk tells, and its logs can be spelled. Else nothing is done.
pub unless_halted : {H : Type 0} (core : Core H) (told : Option DiskState) (h : History) (l : Layout) → Fronts core h l → Fits told core h l
    → (X : Type 0) → ((state : DiskState) → told ≡ Some state → (l.halted ≡ None → AreLogFiles l) → X)
    → ((name : Name) → core.front.halted ≡ Some name → X) → X
unless_halted core told h l fronts fits X runs idle = by core.front.halted refl
  where
    by : (o : Option Name) → core.front.halted ≡ o → X
    by None none =
        let may = fits.running (sym fronts.halted ∙ ap (option_map file_of) none) in
        runs may.state may.told_is (λ running. (fits.running running).files)
    by (Some name) halted = idle name halted
