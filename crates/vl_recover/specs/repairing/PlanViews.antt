-- The plan of a repairing as its definitions see it.
use Rattle.std.specs.Prelude.{[], ◌∷◌, Result, Ok, Err}
use Rattle.vl_disk.specs.declared.errors.Failed.{Failed}
use Rattle.vl_disk.specs.declared.name.Name.{Name}
use Rattle.vl_manifest.specs.Manifest.{manifest_bytes}
use Rattle.vl_manifest.specs.declared.fails.IoFail.{IoFail}
use Rattle.vl_manifest.specs.declared.manifest_log.ManifestLog.{ManifestLog}
use Rattle.vl_recover.specs.repairing.Repairing.{Cut, Headed, Kept, LastLog, NoLast, Plan, Rewritten}
use Rattle.vl_recover.specs.declared.plan.LastStep.{LastStep}
use Rattle.vl_recover.specs.declared.plan.LastStep.TheVariants as steps
use Rattle.vl_recover.specs.declared.plan.RepairingPlan.{RepairingPlan}

abbrev pub step_of : LastStep → LastLog
step_of steps.Nothing = NoLast
step_of (steps.Keep number) = Kept number
step_of (steps.Cut number length) = Cut number length
step_of (steps.Rewrite number) = Rewritten number
step_of (steps.Head number) = Headed number

abbrev pub plan_view : RepairingPlan → Plan
plan_view plan = record {
  manifest = plan.manifest;
  piece = manifest_bytes plan.manifest (plan.edits.items ∷ []);
  last = step_of plan.last;
  log = plan.log;
  strays = plan.strays.items;
}

-- the manifest that a repairing made, without what it held
abbrev pub manifest_of : {A : Type 0} → Result (ManifestLog × A) IoFail → Result ManifestLog IoFail
manifest_of (Ok made) = Ok made.0
manifest_of (Err e) = Err e

-- a call's result, with the file's name where it failed
abbrev pub at_file : {A : Type 0} → Name → Result A Failed → Result A Name
at_file name (Ok a) = Ok a
at_file name (Err failed) = Err name
