-- Above the log that takes commits no log stands behind the repairing.
use Rattle.std.proofs.Common.{◌≡◌, ℕ, ◌+◌, ◌<◌, List, [], ◌∷◌, refl, ap, sym, subst, ◌∙◌, arith, ⊎_elim}
use Rattle.std.specs.Prelude.{◌≢◌, Option, None, Some}
use Rattle.std.specs.FinMap.{get}
use Rattle.vl_disk.specs.Crash.{Image}
use Rattle.vl_disk.specs.Disk.{IsFree}
use Rattle.vl_disk.specs.DiskState.{DiskState, settled, without}
use Rattle.vl_disk.specs.Started.{IsRead}
use Rattle.vl_disk.specs.declared.name.Name.TheVariants.{Log, Manifest}
use Rattle.vl_disk.specs.declared.name.Name.{Name}
use Rattle.vl_disk.specs.laws.NameMap.{get_inserted_other, get_removed, get_removed_other, same_or_other}
use Rattle.vl_manifest.specs.declared.state.ManifestState.{ManifestState}
use Rattle.vl_model.specs.Formats.{log_format}
use Rattle.vl_recover.proofs.repairs.Fitted.{above_all, last_free}
use Rattle.vl_recover.specs.laws.crash.AlikeLaws.{log_manifest, log_same}
use Rattle.vl_recover.specs.laws.repairing.RepairingStart.{unread_free}
use Rattle.vl_recover.specs.opening.Answers.{Finds}
use Rattle.vl_recover.specs.opening.Opening.{StandingLogs}
use Rattle.vl_recover.specs.opening.Plans.{active_log, active_of, last_number, log_made, new_state}
use Rattle.vl_recover.specs.opening.Walk.{StandingLog}
use Rattle.vl_recover.specs.repairing.Repairing.{IsPlan, Plan, behind_log, behind_strays, plan_of, repaired}
use Rattle.vl_recover.specs.repairing.Repairing.{with_last, with_log, with_manifest}
use Rattle.vl_seglog.specs.Frames.{log_header}

some_none : {X : Type 0} (x : X) → Some x ≡ None → ⊥
some_none x e = cc

-- a name stays free where files are removed,
pub strays_free : (names : List Name) (name : Name) (disk : DiskState) → IsFree name disk → IsFree name (behind_strays names disk)
strays_free [] name disk free = free
strays_free (other ∷ names) name disk free = strays_free names name (without other disk) (⊎_elim
    (λ (same : name ≡ other). ap (get (without other disk).standing) same ∙ get_removed disk.standing other)
    (λ (apart : name ≢ other). get_removed_other disk.standing other name apart ∙ free)
    (same_or_other name other))

-- and where another log is made
log_free : (log : Option ℕ) (n : ℕ) (disk : DiskState) → ((k : ℕ) → log ≡ Some k → k < n) → IsFree (Log n) disk
    → IsFree (Log n) (behind_log log disk)
log_free None n disk below free = free
log_free (Some k) n disk below free =
    let less = below k refl in
    get_inserted_other disk.standing (Log k) (settled (log_header log_format k)) (Log n)
    (λ e. omega (arith, less, log_same n k e)) ∙ free

-- where no log is made the last one is the greatest
none_behind : (read : Image) (s : ManifestState) (none least : ℕ) (logs : List StandingLog) → StandingLogs read least logs
    → log_made s logs ≡ None → (n : ℕ) → last_number none logs < n → get read (Log n) ≡ None
none_behind read s none least [] standing is n less = absurd (some_none _ is)
none_behind read s none least (q ∷ []) (next, rest) is n less = rest n (omega (arith, less))
none_behind read s none least (q ∷ p ∷ ps) (next, rest) is n less =
    none_behind read s q.number (q.number + 1) (p ∷ ps) rest is n less

module _ {read : Image} (found : Finds read) (start : DiskState) (is_read : IsRead read start) (plan : Plan)
    (is : IsPlan found plan) where
  abbrev new : ManifestState
  new = new_state found.greatest found.opening.state

  abbrev planned : Plan
  planned = plan_of found plan.strays

  abbrev active : ℕ
  active = active_log found.greatest found.opening.state found.logs

  unread : (n : ℕ) → active < n → get read (Log n) ≡ None
  unread n less = by (log_made new found.logs) refl less
    where
      by : (log : Option ℕ) → log_made new found.logs ≡ log → active_of log found.logs < n → get read (Log n) ≡ None
      by (Some k) made_is below =
          let above = above_all new found.logs k made_is in
          found.are_greatest.log.none_above n (omega (arith, above, below))
      by None made_is below = none_behind read new 0 found.opening.state.head found.logs found.standing made_is n below

  made_below : (n : ℕ) → active < n → (k : ℕ) → log_made new found.logs ≡ Some k → k < n
  made_below n less k made_is = subst (λ (log : Option ℕ). active_of log found.logs < n) made_is less

  pub active_free : (n : ℕ) → active_log found.greatest found.opening.state found.logs < n → IsFree (Log n) (repaired plan start)
  active_free n less = subst (λ (p : Plan). IsFree (Log n) (repaired p start)) (sym is.is)
      (strays_free plan.strays (Log n) (with_log planned start)
      (log_free planned.log n (with_last planned start) (made_below n less)
      (last_free planned.last (Log n) (with_manifest planned start)
      (get_inserted_other start.standing (Manifest planned.manifest) (settled planned.piece) (Log n) (log_manifest n planned.manifest)
      ∙ unread_free read start is_read (Log n) (unread n less)))))
