-- What steps do to what is kept of space, by what they answer: to pins, to what is kept of live bytes, and to files.
use Rattle.std.specs.Prelude.{◌≡◌, ℕ, List, Option, None, Some, Result, Ok, Err, length, [], ◌∷◌}
use Rattle.vl_compact.specs.Progress.{made_of}
use Rattle.vl_compact.specs.declared.job.Job.{Job}
use Rattle.vl_engine_laws.specs.Represents.{StandsFor}
use Rattle.vl_engine_laws.specs.declared.kept.Core.{Core}
use Rattle.vl_disk.specs.declared.writer.Writer.{Ghosts as Writers}
use Rattle.vl_steps.specs.Merging.{HasAllMerge}
use Rattle.vl_steps.specs.declared.fails.InstallFail.{InstallFail}
use Rattle.vl_steps.specs.declared.fails.StepFail.{StepFail}
use Rattle.vl_space.specs.declared.kept.Collecting.{Collecting}
use Rattle.vl_engine_model.specs.Ruling.{Stepped}
use Rattle.vl_engine_model.specs.Rulings.Flush.{flush_ruling}
use Rattle.vl_engine_model.specs.Rulings.Install.{Installed, install_ruling}
use Rattle.vl_engine_model.specs.Rulings.Rotate.{rotate_ruling}
use Rattle.vl_engine_model.specs.declared.job.OpenJob.{OpenJob}
use Rattle.vl_engine_model.specs.declared.layout.Layout.{Layout}
use Rattle.vl_model.specs.History.{History}
use Rattle.vl_stats.specs.Tallies.{Tallied}
use Rattle.vl_version.specs.declared.base.Base.{Base}
use Rattle.vl_steps.specs.declared.done.Done.{Done}
use Rattle.vl_steps.specs.declared.fails.CommitFail.{CommitFail}
use Rattle.vl_steps.specs.declared.fails.CommitFail.TheVariants as commit
use Rattle.vl_space.specs.declared.kept.Removing.{Removing}
use Rattle.vl_compact.specs.declared.files.Lent.{Lent}
use Rattle.vl_space.specs.Pinning.{merge_pinned, unpinned}
use Rattle.vl_steps.specs.declared.fails.InstallFail.TheVariants as install
use Rattle.vl_pins.specs.declared.stock.Stock.{Stock}
use Rattle.vl_space.specs.Collecting.{IsTallied, Keeps, Tallies}
use Rattle.vl_space.specs.Retiring.{InstallsInto, LeavesFiles, SealsInto, StaysUsed, SwitchesStock, files_in}

-- ---- what lives

module _ {L : Type 0} where
  -- a commit that isn't handed back ended its transaction
  abbrev pub UnpinsAs : {H R : Type 0} → ℕ → (old new : Removing L) → Result Done (CommitFail H R) → Type 0
  UnpinsAs ticket old new (Ok done) = new ≡ unpinned ticket old
  UnpinsAs ticket old new (Err (commit.Halted name)) = new ≡ unpinned ticket old
  UnpinsAs ticket old new (Err (commit.Exhausted txn)) = new ≡ old
  UnpinsAs ticket old new (Err (commit.Conflict key number)) = new ≡ unpinned ticket old
  UnpinsAs ticket old new (Err (commit.Full txn length frame)) = new ≡ old
  UnpinsAs ticket old new (Err (commit.NoMemory txn)) = new ≡ old
  UnpinsAs ticket old new (Err (commit.Disk name)) = new ≡ unpinned ticket old

-- ---- what is kept of where space comes back from

module _ {H : Type 0} (bytes : H → Option (List ℕ)) (core : Core H) (old new : Collecting) where
  -- It is that of the layout behind the rotation.
  pub record HasSealed : Type 0 where
    pub passing : new.passing ≡ old.passing
    pub tallied : (h : History) (l : Layout) (n : ℕ) → StandsFor bytes core h l
        → Tallies core.version.behind.logs.items old.tally l → (rotate_ruling l h).answer ≡ Stepped n
        → IsTallied new.tally (rotate_ruling l h).layout

  -- where no log was sealed, it stays that of the layout before
  abbrev pub SealsFor : Result (Option ℕ) StepFail → Type 0
  SealsFor (Ok (Some number)) = HasSealed
  SealsFor (Ok None) = ⊥
  SealsFor (Err why) = Keeps bytes core old new

  -- It is that of the layout behind the flush, for which the engine stands then.
  pub record HasFlushed (after : Core H) : Type 0 where
    pub passing : new.passing ≡ old.passing
    pub tallied : (h : History) (l : Layout) (n : ℕ) → StandsFor bytes core h l
        → Tallies core.version.behind.logs.items old.tally l → (flush_ruling l h).answer ≡ Stepped n
        → StandsFor bytes after h (flush_ruling l h).layout → IsTallied new.tally (flush_ruling l h).layout

  abbrev pub FlushesFor : (after : Core H) → Result (Option ℕ) StepFail → Type 0
  FlushesFor after (Ok (Some number)) = HasFlushed after
  FlushesFor after (Ok None) = ⊥
  FlushesFor after (Err why) = Keeps bytes core old new

  -- It is that of the layout behind the install.
  pub record HasPutIn {R W : Type 0} (writers : Writers W) {g : _} (job : Job (Base H R) H W g) (after : Core H) : Type 0 where
    pub passing : new.passing ≡ old.passing
    pub tallied : (h : History) (l : Layout) (o : OpenJob) → StandsFor bytes core h l → l.job ≡ Some o
        → HasAllMerge writers bytes job o.job → Tallies core.version.behind.logs.items old.tally l
        → (install_ruling l h o.job (made_of job o.job)).answer ≡ Installed
        → StandsFor bytes after h (install_ruling l h o.job (made_of job o.job)).layout
        → IsTallied new.tally (install_ruling l h o.job (made_of job o.job)).layout

  abbrev pub InstallsFor : {R W : Type 0} → (writers : Writers W) → {g : _} → (job : Job (Base H R) H W g) → (after : Core H)
      → Result (Unit {0}) (InstallFail (Base H R) H W g) → Type 0
  InstallsFor writers job after (Ok done) = HasPutIn writers job after
  InstallsFor writers job after (Err why) = Keeps bytes core old new

-- ---- which files are in use, and which wait for their removal

module _ {H W : Type 0} (before : Core H) where
  abbrev pub SealsStock : {s : _} → (old new : Stock (Lent W s)) → (lent : ℕ) → Result (Option ℕ) StepFail → Type 0
  SealsStock old new lent (Ok (Some number)) = SealsInto before old new lent
  SealsStock old new lent (Ok None) = ⊥
  SealsStock old new lent (Err why) = StaysUsed before old new

  abbrev pub FlushesStock : {s : _} → (after : Core H) → (old new : Stock (Lent W s)) → Option Tallied → (lent : ℕ)
      → Result (Option ℕ) StepFail → Type 0
  FlushesStock after old new tally lent (Ok (Some number)) = SwitchesStock before after (number ∷ []) [] tally old new lent
  FlushesStock after old new tally lent (Ok None) = ⊥
  FlushesStock after old new tally lent (Err why) = StaysUsed before old new

  -- The same of a whole rotation and a whole flush: where nothing is done, what is kept of files stays.
  abbrev pub RotatesStock : {s : _} → (old new : Stock (Lent W s)) → (lent : ℕ) → Result (Option ℕ) StepFail → Type 0
  RotatesStock old new lent (Ok (Some number)) = SealsInto before old new lent
  RotatesStock old new lent (Ok None) = StaysUsed before old new
  RotatesStock old new lent (Err why) = StaysUsed before old new

  abbrev pub RetiresFlushed : {s : _} → (after : Core H) → (old new : Stock (Lent W s)) → Option Tallied → (lent : ℕ)
      → Result (Option ℕ) StepFail → Type 0
  RetiresFlushed after old new tally lent (Ok (Some number)) = SwitchesStock before after (number ∷ []) [] tally old new lent
  RetiresFlushed after old new tally lent (Ok None) = StaysUsed before old new
  RetiresFlushed after old new tally lent (Err why) = StaysUsed before old new

abbrev pub InstallsStock : {H R W : Type 0} {s : _} → (job : Job (Base H R) H W s) → (before after : Core H)
    → (old new : Removing (Lent W s)) → Option Tallied → (lent : ℕ)
    → Result (Unit {0}) (InstallFail (Base H R) H W s) → Type 0
InstallsStock job before after old new tally lent (Ok done) =
    (new.pins ≡ (merge_pinned None old).pins) × InstallsInto job before after tally old.stock new.stock lent
InstallsStock job before after old new tally lent (Err (install.Halted name)) = ⊥
InstallsStock job before after old new tally lent (Err (install.Raced key number)) = ⊥
InstallsStock job before after old new tally lent (Err (install.Exhausted counter)) =
    (new.pins ≡ (merge_pinned None old).pins) × LeavesFiles (files_in job) old.stock new.stock
InstallsStock job before after old new tally lent (Err (install.NoMemory back)) =
    (new.pins ≡ old.pins) × StaysUsed before old.stock new.stock
InstallsStock job before after old new tally lent (Err (install.Disk name)) = new.pins ≡ (merge_pinned None old).pins

-- The same of a whole install. Where its merge ended without its tables, its files wait; where it was handed back, all stays.
abbrev pub RetiresInstalled : {H R W : Type 0} {s : _} → (job : Job (Base H R) H W s) → (before after : Core H)
    → (old new : Removing (Lent W s)) → Option Tallied → (lent : ℕ)
    → Result (Unit {0}) (InstallFail (Base H R) H W s) → Type 0
RetiresInstalled job before after old new tally lent (Ok done) =
    (new.pins ≡ (merge_pinned None old).pins) × InstallsInto job before after tally old.stock new.stock lent
RetiresInstalled job before after old new tally lent (Err (install.Halted name)) =
    (new.pins ≡ (merge_pinned None old).pins) × LeavesFiles (files_in job) old.stock new.stock
RetiresInstalled job before after old new tally lent (Err (install.Raced key number)) =
    (new.pins ≡ (merge_pinned None old).pins) × LeavesFiles (files_in job) old.stock new.stock
RetiresInstalled job before after old new tally lent (Err (install.Exhausted counter)) =
    (new.pins ≡ (merge_pinned None old).pins) × LeavesFiles (files_in job) old.stock new.stock
RetiresInstalled job before after old new tally lent (Err (install.NoMemory back)) =
    (new.pins ≡ old.pins) × StaysUsed before old.stock new.stock
RetiresInstalled job before after old new tally lent (Err (install.Disk name)) = new.pins ≡ (merge_pinned None old).pins
