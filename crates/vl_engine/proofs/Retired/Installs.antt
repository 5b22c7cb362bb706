-- What each answer of an install leaves of the files in use and of those that wait is what its ruling leaves.
use Rattle.std.proofs.Common.{◌≡◌, ℕ, ◌≤◌, ◌++◌, Bool, List, length, map, arith, length-append}
use Rattle.std.proofs.Common.{refl, ap, sym, ◌∙◌, subst}
use Rattle.std.specs.Prelude.{Option, None, Some, Result, Ok, Err}
use Rattle.vl_back.specs.InstallStaging.{replacing_of}
use Rattle.vl_compact.specs.Progress.{made_of}
use Rattle.vl_compact.specs.declared.files.Lent.{Lent}
use Rattle.vl_compact.specs.declared.files.Synced.{Synced}
use Rattle.vl_compact.specs.declared.job.Job.{Job}
use Rattle.vl_engine_laws.specs.Represents.{StandsFor, file_of}
use Rattle.vl_engine_laws.specs.declared.kept.Core.{Core}
use Rattle.vl_engine_laws.specs.laws.InstallDiskEdits.{install_head}
use Rattle.vl_disk.specs.declared.watched.Watched.{Ghosts}
use Rattle.vl_disk.specs.declared.writer.Writer.{Ghosts as Writers}
use Rattle.vl_engine.proofs.Collected.{decides_too}
use Rattle.vl_engine.proofs.Retired.Installing.{installed_removes, made_are}
use Rattle.vl_space.specs.laws.Retired.Kept.{halts_removes, stays_removes}
use Rattle.vl_engine.proofs.Switching.{install_by, install_history, install_layout}
use Rattle.vl_space.specs.Collecting.{Collects, IsTallied}
use Rattle.vl_engine.specs.Space.{InstallsFor}
use Rattle.vl_steps.specs.Installing.{InstallsUnraced, IsHandedIn, install_otherwise, numbers_in}
use Rattle.vl_engine.specs.UnderWay.{IsUnderWay}
use Rattle.vl_disk.specs.declared.name.Name.{Name}
use Rattle.vl_engine_model.specs.Merging.{outputs}
use Rattle.vl_engine_model.specs.Sources.{numbers_of}
use Rattle.vl_steps.specs.Merging.{HasAllMerge, install_outcome}
use Rattle.vl_engine_laws.specs.Lent.{StandsOpen}
use Rattle.vl_space.specs.Pinning.{merge_pinned}
use Rattle.vl_space.specs.Removing.{Removes}
use Rattle.vl_space.specs.Retiring.{InstallsInto, LeavesFiles, files_in, left_of}
use Rattle.vl_engine.specs.Space.{InstallsStock}
use Rattle.vl_steps.specs.declared.fails.InstallFail.TheVariants as fails
use Rattle.vl_steps.specs.declared.fails.InstallFail.{InstallFail}
use Rattle.vl_space.specs.declared.kept.Collecting.{Collecting}
use Rattle.vl_engine_laws.specs.declared.open.OpenMerge.{OpenMerge}
use Rattle.vl_space.specs.declared.kept.Removing.{Removing}
use Rattle.vl_engine_model.specs.Decides.{Answered, Damaged, Decides, Effects, Failed, NoMemory, Outcome}
use Rattle.vl_engine_model.specs.Jobs.{AreLent, Made, job_ended}
use Rattle.vl_engine_model.specs.Ruling.{Ruling, halted_at}
use Rattle.vl_engine_model.specs.Rulings.Install.{Exhausted, Halted, InstallAnswer, Installed, Raced, install_ruling, installed}
use Rattle.vl_engine_model.specs.declared.file_name.FileName.{FileName}
use Rattle.vl_engine_model.specs.declared.job.Job as laid_job
use Rattle.vl_engine_model.specs.declared.job.OpenJob.{OpenJob}
use Rattle.vl_engine_model.specs.declared.layout.Layout.{Layout}
use Rattle.vl_manifest.specs.declared.state.ManifestState.{ManifestState}
use Rattle.vl_model.specs.History.{History}
use Rattle.vl_model.specs.declared.counter.Counter.{Counter}
use Rattle.vl_pins.specs.Pins.{ArePinsOf}
use Rattle.vl_pins.specs.declared.pins.Pins.{Pins}
use Rattle.vl_stats.specs.Tallies.{IsTally, Tallied}
use Rattle.vl_version.specs.declared.base.Base.{Base}

-- ---- it wasn't put in

-- what is left then is the layout with the merge given up
ended_layout : (l : Layout) (h : History) (j : laid_job.Job) (made : Made) → ((install_ruling l h j made).answer ≡ Installed → ⊥)
    → (install_ruling l h j made).layout ≡ job_ended made l
ended_layout l h j made = install_by l h j made (λ r. (r.answer ≡ Installed → ⊥) → r.layout ≡ job_ended made l) (λ a other no. refl)
    (λ no. absurd (no refl))

-- So it is with whatever is so by what the call came to.
pub decides_ended : (S T : History → Layout → Type 0) (h : History) (l : Layout) (j : laid_job.Job) (made : Made)
    (outcome : Outcome InstallAnswer) (effects : Effects) → (outcome ≡ Answered Installed → ⊥)
    → ((a : InstallAnswer) → outcome ≡ Answered a → T h (job_ended made l)) → (outcome ≡ NoMemory → T h l)
    → ((name : FileName) → outcome ≡ Failed name → T h (halted_at name (job_ended made l)))
    → ((name : FileName) (place : ℕ) → outcome ≡ Damaged name place → ⊥)
    → Decides S h l (install_ruling l h j made) (install_otherwise l made) outcome effects
    → Decides T h l (install_ruling l h j made) (install_otherwise l made) outcome effects
decides_ended S T h l j made outcome effects undone ended short lost whole is =
    decides_too S T h l (install_ruling l h j made) (install_otherwise l made) outcome effects is
    (λ a same answer. subst (λ (k : History). T k (install_ruling l h j made).layout) (sym (install_history l h j made))
    (subst (T h) (sym (ended_layout l h j made (λ put. undone (same ∙ ap Answered (sym answer ∙ put))))) (ended a same)))
    short lost (λ name place same. absurd (whole name place same))

-- what is pinned where the merge has ended
pub ended_pins : {L : Type 0} (was now : Removing L) (l : Layout) (made : Made) → now.pins ≡ (merge_pinned None was).pins
    → ArePinsOf was.pins l → ArePinsOf now.pins (job_ended made l)
ended_pins was now l made pins is = subst (λ (p : Pins). ArePinsOf p (job_ended made l)) (sym pins)
    (record { live = is.live; merge = refl; pass = is.pass; last = is.last })

-- ---- outcomes differ

abbrev Came : Type 0
Came = Outcome InstallAnswer

abbrev answered : InstallAnswer → Came
answered a = Answered a

abbrev short : Came
short = NoMemory

abbrev lost : FileName → Came
lost name = Failed name

abbrev damaged : FileName → ℕ → Came
damaged name place = Damaged name place

other_answer : (c : Counter) → answered (Exhausted c) ≡ answered Installed → ⊥
other_answer c e = cc

answered_short : (a : InstallAnswer) → answered a ≡ short → ⊥
answered_short a e = cc

answered_lost : (a : InstallAnswer) (name : FileName) → answered a ≡ lost name → ⊥
answered_lost a name e = cc

answered_damaged : (a : InstallAnswer) (name : FileName) (place : ℕ) → answered a ≡ damaged name place → ⊥
answered_damaged a name place e = cc

short_answered : (a : InstallAnswer) → short ≡ answered a → ⊥
short_answered a e = cc

short_lost : (name : FileName) → short ≡ lost name → ⊥
short_lost name e = cc

short_damaged : (name : FileName) (place : ℕ) → short ≡ damaged name place → ⊥
short_damaged name place e = cc

lost_answered : (at : FileName) (a : InstallAnswer) → lost at ≡ answered a → ⊥
lost_answered at a e = cc

lost_short : (at : FileName) → lost at ≡ short → ⊥
lost_short at e = cc

lost_damaged : (at name : FileName) (place : ℕ) → lost at ≡ damaged name place → ⊥
lost_damaged at name place e = cc

-- ---- nothing was named against it

module _ {D H R W : Type 0} (g : Ghosts D) (bytes : H → Option (List ℕ)) (w : Writers W) (size : H → ℕ)
    (sized : (held : H) (told : List ℕ) → bytes held ≡ Some told → length told ≡ size held) {s : _} (job : Job (Base H R) H W s)
    (old new : D) (before after : Core H) (was now : Removing (Lent W s)) (was_collecting now_collecting : Collecting)
    (merging then_merging : Option OpenMerge) (count : ℕ) (h : History) (l : Layout) (stands : StandsFor bytes before h l)
    (o : OpenJob) (open_is : l.job ≡ Some o) (all : HasAllMerge w bytes job o.job) (lent : AreLent o.lent (made_of job o.job))
    (removes : Removes before was l) (running : l.halted ≡ None) (collects : Collects before was_collecting l)
    (fits : length job.leavings.items ≤ count)
    -- where it has ended, what waits is what the layout says
    (ended : now.pins ≡ (merge_pinned None was).pins → LeavesFiles (files_in job) was.stock now.stock → after ≡ before
    → Removes after now (job_ended (made_of job o.job) l)) (effects : Effects) where
  abbrev Stood : History → Layout → Type 0
  Stood = StandsOpen bytes after then_merging

  abbrev So : History → Layout → Type 0
  So k x = Removes after now x

  tallied_some : (kept : Option Tallied) (x : Layout) → IsTallied kept x → (t : Tallied) × (kept ≡ Some t) × IsTally t x
  tallied_some None x is = absurd is
  tallied_some (Some t) x is = (t, refl, is)

  put : InstallsUnraced g bytes w job old new before after (Ok tt)
      → InstallsFor bytes before was_collecting now_collecting w job after (Ok tt)
      → InstallsStock job before after was now now_collecting.tally count (Ok tt)
      → (install_ruling l h o.job (made_of job o.job)).answer ≡ Installed
      → StandsFor bytes after h (install_ruling l h o.job (made_of job o.job)).layout
      → Removes after now (install_ruling l h o.job (made_of job o.job)).layout
  put did collected stock answered after_stands =
      let same = install_layout l h o.job (made_of job o.job) answered in
      let tallied = collected.tallied h l o stands open_is all collects.tally answered after_stands in
      let (t, some, tally) = tallied_some now_collecting.tally (install_ruling l h o.job (made_of job o.job)).layout tallied in
      subst (λ (x : Layout). Removes after now x) (sym same)
      (installed_removes bytes w size sized job before after was now count h l stands o open_is all lent removes running t
      (subst (IsTally t) same tally) (subst (StandsFor bytes after h) same after_stands) fits
      (subst (λ (k : Option Tallied). InstallsInto job before after k was.stock now.stock count) some stock.1)
      stock.0)

  pub install_removes : (result : Result (Unit {0}) (InstallFail (Base H R) H W s))
      → InstallsUnraced g bytes w job old new before after result
      → InstallsFor bytes before was_collecting now_collecting w job after result
      → InstallsStock job before after was now now_collecting.tally count result
      → Decides Stood h l (install_ruling l h o.job (made_of job o.job)) (install_otherwise l (made_of job o.job)) (install_outcome result)
      effects
      → Decides So h l (install_ruling l h o.job (made_of job o.job)) (install_otherwise l (made_of job o.job)) (install_outcome result)
      effects
  install_removes (Ok done) did collected stock is =
      decides_too Stood So h l (install_ruling l h o.job (made_of job o.job)) (install_otherwise l (made_of job o.job)) (Answered Installed)
      effects is
      (λ a same answer. put did collected stock (answer ∙ sym (one a same))
      (subst (λ (k : History). StandsFor bytes after k (install_ruling l h o.job (made_of job o.job)).layout)
      (install_history l h o.job (made_of job o.job)) ((is.answered Installed refl).1).stands))
      (λ same. absurd (none same)) (λ name same. absurd (no_fail name same)) (λ name place same. absurd (no_damage name place same))
    where
      one : (a : InstallAnswer) → Answered Installed ≡ Answered a → Installed ≡ a
      one a e = cc

      none : Answered Installed ≡ NoMemory → ⊥
      none e = cc

      no_fail : (name : FileName) → Answered Installed ≡ Failed name → ⊥
      no_fail name e = cc

      no_damage : (name : FileName) (place : ℕ) → Answered Installed ≡ Damaged name place → ⊥
      no_damage name place e = cc
  install_removes (Err (fails.Halted name)) did collected stock is = absurd did
  install_removes (Err (fails.Raced key number)) did collected stock is = absurd did
  install_removes (Err (fails.Exhausted counter)) did collected stock is =
      decides_ended Stood So h l o.job (made_of job o.job) (answered (Exhausted counter)) effects (other_answer counter)
      (λ a same. ended stock.0 stock.1 did.core) (λ e. absurd (answered_short (Exhausted counter) e))
      (λ name e. absurd (answered_lost (Exhausted counter) name e)) (answered_damaged (Exhausted counter)) is
  install_removes (Err (fails.NoMemory back)) did collected stock is =
      decides_ended Stood So h l o.job (made_of job o.job) short effects (short_answered Installed)
      (λ a e. absurd (short_answered a e))
      (λ same. stays_removes bytes size sized before after h l stands was now
      (ap (λ (c : Core H). c.version.behind.logs.items) did.1) stock.1 stock.0 removes)
      (λ name e. absurd (short_lost name e)) short_damaged is
  install_removes (Err (fails.Disk at)) did collected stock is =
      decides_ended Stood So h l o.job (made_of job o.job) (lost (file_of at)) effects (lost_answered (file_of at) Installed)
      (λ a e. absurd (lost_answered (file_of at) a e)) (λ e. absurd (lost_short (file_of at) e))
      (λ name same. halts_removes after now (job_ended (made_of job o.job) l) name
      (ended_pins was now l (made_of job o.job) stock removes.pins)) (lost_damaged (file_of at)) is

-- ---- the other exits

-- it was answered otherwise, and the merge has ended
pub ended_by : (S T : History → Layout → Type 0) (h : History) (l : Layout) (j : laid_job.Job) (made : Made) (a : InstallAnswer)
    (effects : Effects) → T h (job_ended made l) → (answered a ≡ answered Installed → ⊥)
    → Decides S h l (install_ruling l h j made) (install_otherwise l made) (answered a) effects
    → Decides T h l (install_ruling l h j made) (install_otherwise l made) (answered a) effects
ended_by S T h l j made a effects so other is =
    decides_ended S T h l j made (answered a) effects other (λ b same. so) (λ e. absurd (answered_short a e))
    (λ name e. absurd (answered_lost a name e)) (answered_damaged a) is

-- memory was wanting
pub short_by : (S T : History → Layout → Type 0) (h : History) (l : Layout) (j : laid_job.Job) (made : Made) (effects : Effects) → T h l
    → Decides S h l (install_ruling l h j made) (install_otherwise l made) short effects
    → Decides T h l (install_ruling l h j made) (install_otherwise l made) short effects
short_by S T h l j made effects so is =
    decides_ended S T h l j made short effects (short_answered Installed) (λ a e. absurd (short_answered a e)) (λ e. so)
    (λ name e. absurd (short_lost name e)) short_damaged is

pub raced_other : (key : List ℕ) (number : ℕ) → answered (Raced key number) ≡ answered Installed → ⊥
raced_other key number e = cc

pub halted_other : (name : FileName) → answered (Halted name) ≡ answered Installed → ⊥
halted_other name e = cc

-- a job that is handed in is under way
pub way_of : {D V H W : Type 0} (g : Ghosts D) (w : Writers W) (disk : D) (halted : Option Name) (merging : Option OpenMerge) {s : _}
    (job : Job V H W s) → IsHandedIn g w disk halted merging job → IsUnderWay g w disk halted merging job
way_of g w disk halted merging job is = record {
  merge = is.merge;
  is_open = is.is_open;
  drawn = is.drawn;
  distinct = is.distinct;
  tells = is.tells;
  leavings_tell = is.leavings_tell;
}

pub fewer_leavings : {V H W : Type 0} {s : _} (job : Job V H W s) (count : ℕ) → length (files_in job) ≤ count
    → length job.leavings.items ≤ count
fewer_leavings {W = W} job count less =
    let both = length-append (map left_of job.made.items) job.leavings.items in omega (arith, less, both)

-- the numbers of what a merge has made that has all of its tables
pub whole_numbers : {H R W : Type 0} (w : Writers W) (bytes : H → Option (List ℕ)) {s : _} (job : Job (Base H R) H W s) (j : laid_job.Job)
    → HasAllMerge w bytes job j → numbers_of (made_of job j).tables ++ (made_of job j).leavings ≡ numbers_in job
whole_numbers {W = W} w bytes job j all =
    ap (λ (ns : List ℕ). ns ++ map (λ (f : Lent W _). f.number) job.leavings.items) (made_are w job.made.items (outputs j) all.made)
