-- What the definition of a repairing says: how many calls it makes, and that it ends with what it makes of the disk.
use Rattle.std.specs.Prelude.{◌≡◌, ◌⊎◌, ℕ, ◌+◌, ◌==◌, Bool, true, false, List, [], ◌∷◌, length, Option, None, Some, if◌then◌else◌, refl}
use Rattle.std.proofs.Common.{ap, inl, inr, ◌∙◌, ⊎_elim}
use Rattle.vl_disk.specs.Crash.{Image}
use Rattle.vl_disk.specs.DiskState.{DiskState, without}
use Rattle.vl_disk.specs.MadeFile.{durable}
use Rattle.vl_disk.specs.declared.name.Name.{Name}
use Rattle.vl_recover.specs.opening.Answers.{Finds, calls_to_open}
use Rattle.vl_recover.specs.repairing.Repairing.{Cut, Headed, IsPlan, Kept, LastLog, NoLast, Plan, Rewritten}
use Rattle.vl_recover.specs.repairing.Repairing.{WhileLast, WhileLog, WhileStrays, behind_last, behind_log}
use Rattle.vl_recover.specs.repairing.Repairing.{behind_strays, calls_of_plan, calls_to_repair, last_of, repairing_of}
use Rattle.vl_recover.specs.opening.Plans.{calls_of_last, calls_to_make, log_made, new_state}
use Rattle.vl_recover.specs.opening.Walk.{StandingLog, content_end, keeps_header}

repairing_calls : (q : StandingLog) → calls_to_repair (repairing_of q) ≡ calls_of_last (q ∷ [])
repairing_calls q = by (keeps_header q.reading.header q.reading.frames) q.reading.whole (q.length == 0)
  where
    by : (header whole empty : Bool)
        → calls_to_repair (if header then (if whole then Kept q.number else Cut q.number
        (content_end q.reading)) else (if empty then Headed q.number else Rewritten q.number))
        ≡ (if header then (if whole then 1 else 2) else (if empty then 2 else 3))
    by true true empty = refl
    by true false empty = refl
    by false whole true = refl
    by false whole false = refl

last_calls : (logs : List StandingLog) → calls_to_repair (last_of logs) ≡ calls_of_last logs
last_calls [] = refl
last_calls (q ∷ []) = repairing_calls q
last_calls (q ∷ p ∷ ps) = last_calls (p ∷ ps)

-- The calls of a plan are those that an opening makes.
pub plan_calls : {image : Image} (found : Finds image) (plan : Plan) → IsPlan found plan
    → calls_of_plan plan ≡ calls_to_open found (length plan.strays)
plan_calls found plan is =
    ap calls_of_plan is.is
    ∙ ap (λ (n : ℕ). 3 + n + calls_to_make (log_made
    (new_state found.greatest found.opening.state) found.logs) + length plan.strays)
    (last_calls found.logs)

-- ---- the last moment of each stage is what it makes of the disk

pub last_ends : (l : LastLog) (disk : DiskState)
    → (behind_last l disk ≡ disk) ⊎ WhileLast l disk (behind_last l disk)
last_ends NoLast disk = inl refl
last_ends (Kept k) disk = inr (inr refl)
last_ends (Cut k len) disk = inr (inr (inr refl))
last_ends (Rewritten k) disk = inr (inr (inr (inr refl)))
last_ends (Headed k) disk = inr (inr (inr refl))

pub log_ends : (new : Option ℕ) (disk : DiskState)
    → (behind_log new disk ≡ disk) ⊎ WhileLog new disk (behind_log new disk)
log_ends None disk = inl refl
log_ends (Some k) disk = inr (durable refl)

strays_end : (names : List Name) (disk : DiskState)
    → (behind_strays names disk ≡ disk) ⊎ WhileStrays names disk (behind_strays names disk)
strays_end [] disk = inl refl
strays_end (name ∷ names) disk = inr (⊎_elim
    (λ (same : behind_strays names (without name disk) ≡ without name disk). inl (inr same))
    (λ (during : WhileStrays names (without name disk) (behind_strays names (without name disk))). inr during)
    (strays_end names (without name disk)))
