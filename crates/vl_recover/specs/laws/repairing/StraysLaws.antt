-- The files that the new manifest doesn't need are removed, in any order.
use Rattle.std.specs.Prelude.{◌≡◌, ◌≢◌, ℕ, ◌≤◌, suc, List, [], ◌∷◌, Some, AllPairs, Contains, refl}
use Rattle.std.specs.FinMap.{get}
use Rattle.std.proofs.Common.{arith, subst, sym, ◌∙◌, ⊎_elim}
use Rattle.vl_disk.specs.Changes.{SameElsewhere, without_elsewhere}
use Rattle.vl_disk.specs.Crash.{WhileRemoving}
use Rattle.vl_disk.specs.DiskState.{DiskState, File, without}
use Rattle.vl_disk.specs.declared.name.Name.{Name}
use Rattle.vl_disk.specs.declared.name.Name.TheVariants.{Log, Manifest}
use Rattle.vl_engine_model.specs.declared.segment.Segment.{Segment}
use Rattle.vl_manifest.specs.declared.state.ManifestState.{ManifestState}
use Rattle.vl_recover.specs.crash.Alike.{OpensAsOf}
use Rattle.vl_recover.specs.crash.Held.{HoldsLogs, View}
use Rattle.vl_recover.specs.laws.opening.LeadsLaws.{IsUnneeded, Leads, leads_kept, logs_kept}
use Rattle.vl_recover.specs.repairing.Repairing.{WhileStrays, behind_strays}
use Rattle.vl_recover.specs.laws.repairing.RepairingSteps.{remove_step}
use Rattle.vl_recover.specs.laws.crash.OneName.{as_before, as_of_then}
use Rattle.vl_recover.specs.laws.crash.Torn.{Leaves}

-- The file stands, is no manifest from a number on and no log from head on, and isn't needed.
pub record IsSpare (number : ℕ) (s : ManifestState) (v : View) (disk : DiskState) (name : Name) : Type 0 where
  pub file : File
  pub stands : get disk.standing name ≡ Some file
  pub leaves : Leaves name file
  pub lower : (m : ℕ) → number ≤ m → Manifest m ≢ name
  pub below : (m : ℕ) → s.head ≤ m → Log m ≢ name
  pub unneeded : IsUnneeded s v name

pub spare_kept : (number : ℕ) (s : ManifestState) (v : View) (name : Name) (old now : DiskState) → SameElsewhere name old now
    → (other : Name) → other ≢ name
    → IsSpare number s v old other → IsSpare number s v now other
spare_kept number s v name old now same other apart spare = record {
  file = spare.file;
  stands = same.standing other apart ∙ spare.stands;
  leaves = spare.leaves;
  lower = spare.lower;
  below = spare.below;
  unneeded = spare.unneeded;
}

-- each of these files is spare
abbrev pub AreSpare : ℕ → ManifestState → View → DiskState → List Name → Type 0
AreSpare number s v disk names = (name : Name) → Contains names name → IsSpare number s v disk name

-- So it becomes of them.
pub record RepairsStrays (number : ℕ) (s : ManifestState) (v : View) (disk : DiskState) (names : List Name) : Type 0 where
  pub meanwhile : (now : DiskState) → WhileStrays names disk now → OpensAsOf disk now
  pub leads : Leads number s v (behind_strays names disk)
  pub logs : (logs : List Segment) → HoldsLogs s.head logs disk
      → HoldsLogs s.head logs (behind_strays names disk)

pub rest_apart : (name : Name) (names : List Name) → AllPairs (λ a b. a ≢ b) (name ∷ names) → (other : Name)
    → Contains names other → other ≢ name
rest_apart name names once other (k, less, is) same =
    once 0 (suc k) other (omega arith) (omega (arith, less)) (sym same ∙ sym is)

pub rest_once : (name : Name) (names : List Name) → AllPairs (λ a b. a ≢ b) (name ∷ names)
    → AllPairs (λ a b. a ≢ b) names
rest_once name names once i j d below within = once (suc i) (suc j) d (omega (arith, below))
    (omega (arith, within))

-- one goes, and then the others
first_and : (number : ℕ) (s : ManifestState) (v : View) (name : Name) (names : List Name) (disk : DiskState)
    → Leads number s v disk
    → IsSpare number s v disk name → RepairsStrays number s v (without name disk) names
    → RepairsStrays number s v disk (name ∷ names)
first_and number s v name names disk leads first rest = record {
  meanwhile = λ now during. ⊎_elim
      (λ (w : WhileRemoving name disk now). ⊎_elim
      (λ (same : now ≡ disk). subst (OpensAsOf disk) (sym same) (as_before disk))
      (λ (turns : now ≡ without name disk). subst (OpensAsOf disk) (sym turns) gone)
      w)
      (λ (w : WhileStrays names (without name disk) now). as_of_then disk (without name disk) now gone
      (rest.meanwhile now w))
      during;
  leads = rest.leads;
  logs = λ logs held. rest.logs logs (logs_kept name disk (without name disk)
      (without_elsewhere name disk) s.head logs first.below held);
}
  where
    gone : OpensAsOf disk (without name disk)
    gone = remove_step number s v name disk first.file leads first.stands first.leaves first.lower first.below first.unneeded

pub strays_law : (number : ℕ) (s : ManifestState) (v : View) (names : List Name) (disk : DiskState) → Leads number s v disk
    → AreSpare number s v disk names → AllPairs (λ a b. a ≢ b) names → RepairsStrays number s v disk names
strays_law number s v [] disk leads spare once =
    record { meanwhile = λ now during. absurd during; leads = leads; logs = λ logs held. held }
strays_law number s v (name ∷ names) disk leads spare once =
    first_and number s v name names disk leads (spare name (0, omega arith, refl))
    (strays_law number s v names (without name disk)
    (leads_kept number s v name disk (without name disk) (without_elsewhere name disk)
    (spare name (0, omega arith, refl)).lower (spare name (0, omega arith, refl)).unneeded leads)
    (λ other (k, less, is). spare_kept number s v name disk (without name disk)
    (without_elsewhere name disk) other (rest_apart name names once other (k, less, is))
    (spare other (suc k, omega (arith, less), is)))
    (rest_once name names once))
