-- What a law of all calls asks of what is handed in to some of them, and of a layout.
use Rattle.std.specs.Prelude.{IsTrue, ◌≡◌, List, ◌∷◌, Some}
use Rattle.std.specs.FinMap.{is_sorted}
use Rattle.std.specs.List.{AllByRecursion}
use Rattle.vl_model.specs.History.{History}
use Rattle.vl_model.specs.Keys.{key_cmp}
use Rattle.vl_model.specs.Winners.{Logs}
use Rattle.vl_engine_model.specs.Jobs.{AreLent, AreOutputs, Made, lent_numbers}
use Rattle.vl_engine_model.specs.Logs.{memtable}
use Rattle.vl_engine_model.specs.OpenJobs.{IsOpenWell}
use Rattle.vl_engine_model.specs.Shown.{ArePlaced, IsThere}
use Rattle.vl_engine_model.specs.Sources.{oldest}
use Rattle.vl_engine_model.specs.TidyLevels.{AreLevels}
use Rattle.vl_engine_model.specs.declared.job.Job.{Job}
use Rattle.vl_engine_model.specs.declared.job.OpenJob.{OpenJob}
use Rattle.vl_engine_model.specs.declared.layout.Layout.{Layout}
use Rattle.vl_engine_model.specs.declared.segment.Segment.{Segment}
use Rattle.vl_engine_model.specs.declared.table.Table.{Table}
use Rattle.vl_engine_model_laws.specs.Calls.{Call, Abandon, Commit, Flush, Install, Keep, Relocate}

-- ---- a job's end

-- The job is the open one, and what was made is all of its outputs, in files that were lent to it.
pub record IsOwn (l : Layout) (job : Job) (made : Made) : Type 0 where
  pub opened : OpenJob
  pub is : l.job ≡ Some opened
  pub same : opened.job ≡ job
  pub lent : AreLent opened.lent made
  pub outputs : AreOutputs opened.job made

-- It is open well besides.
pub record IsOwnWell (l : Layout) (h : History) (job : Job) (made : Made) : Type 0 where
  pub own : IsOwn l job made
  pub well : IsOpenWell l h own.opened.job own.opened.moved

-- ---- all calls but one

abbrev pub IsNoInstall : Call → Type 0
IsNoInstall (Install job made) = ⊥
IsNoInstall call = Unit {0}

abbrev pub IsNoKeep : Call → Type 0
IsNoKeep (Keep v) = ⊥
IsNoKeep call = Unit {0}

-- ---- what each law asks, where it asks something of a call

-- for all that an engine keeps tidy
abbrev pub AsksTidy : Logs → Call → Layout → Type 0
AsksTidy logs (Commit t) l = IsTrue (is_sorted key_cmp t.writes)
AsksTidy logs Flush l = (s : Segment) → oldest l.frozen ≡ Some s → ArePlaced logs (memtable s)
AsksTidy logs (Relocate pass batch) l = AllByRecursion (IsThere logs pass.segment) batch
AsksTidy logs (Abandon job made) l = AreLent (lent_numbers l.job) made
AsksTidy logs (Install job made) l = IsOwn l job made
AsksTidy logs call l = Unit {0}

-- for files alone
abbrev pub AsksStocked : Call → Layout → History → Type 0
AsksStocked Flush l h = (level : List Table) × (deeper : List (List Table)) × (l.levels ≡ level ∷ deeper)
AsksStocked (Abandon job made) l h = AreLent (lent_numbers l.job) made
AsksStocked (Install job made) l h = IsOwnWell l h job made × AreLevels l.levels
AsksStocked call l h = Unit {0}

-- for levels alone
abbrev pub AsksLevels : Call → Layout → History → Type 0
AsksLevels (Install job made) l h = IsOwnWell l h job made
AsksLevels call l h = Unit {0}
