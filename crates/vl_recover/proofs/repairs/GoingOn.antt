-- The disk is ready for steps on files behind the repairing.
use Rattle.std.proofs.Common.{◌≡◌, ℕ, ◌+◌, ◌≤◌, List, refl, sym, subst, ◌∙◌, arith}
use Rattle.std.specs.Prelude.{◌≢◌, Option, None, Some, IsSome, Contains}
use Rattle.std.specs.FinMap.{get}
use Rattle.vl_disk.specs.Crash.{Image}
use Rattle.vl_disk.specs.Disk.{IsFree, Stands}
use Rattle.vl_disk.specs.DiskState.{DiskState, settled}
use Rattle.vl_disk.specs.Started.{IsRead}
use Rattle.vl_disk.specs.declared.name.Name.{Name}
use Rattle.vl_disk.specs.declared.name.Name.TheVariants.{Log, Manifest, Table}
use Rattle.vl_disk.specs.laws.NameMap.{get_inserted, get_inserted_other}
use Rattle.vl_manifest.specs.declared.state.ManifestState.{ManifestState}
use Rattle.vl_model.specs.Formats.{log_format}
use Rattle.vl_recover.proofs.repairs.ActiveFree.{active_free, strays_free}
use Rattle.vl_recover.proofs.repairs.ActiveStands.{active_stands, strays_leave}
use Rattle.vl_recover.proofs.repairs.Fitted.{last_free, last_stands, log_stands}
use Rattle.vl_recover.specs.laws.repairing.RepairingStart.{unread_free}
use Rattle.vl_recover.specs.opening.Answers.{Finds}
use Rattle.vl_recover.specs.opening.HeldFiles.{IsReadyToGoOn}
use Rattle.vl_recover.specs.opening.Plans.{active_log, new_state}
use Rattle.vl_recover.specs.repairing.Repairing.{IsPlan, Plan, behind_log, plan_of, repaired, with_last, with_log, with_manifest}
use Rattle.vl_seglog.specs.Frames.{log_header}

table_manifest : (k m : ℕ) → Table k ≡ Manifest m → ⊥
table_manifest k m e = cc

table_log : (k m : ℕ) → Table k ≡ Log m → ⊥
table_log k m e = cc

some_apart : (o : Option (List ℕ)) → o ≡ None → IsSome o → ⊥
some_apart None e is = cc
some_apart (Some bytes) e is = cc

-- no table comes with the new log
table_free : (log : Option ℕ) (n : ℕ) (disk : DiskState) → IsFree (Table n) disk → IsFree (Table n) (behind_log log disk)
table_free None n disk free = free
table_free (Some k) n disk free =
    get_inserted_other disk.standing (Log k) (settled (log_header log_format k)) (Table n) (table_log n k) ∙ free

module _ {read : Image} (found : Finds read) (start : DiskState) (is_read : IsRead read start) (plan : Plan)
    (is : IsPlan found plan) where
  abbrev state_then : ManifestState
  state_then = new_state found.greatest found.opening.state

  abbrev planned : Plan
  planned = plan_of found plan.strays

  abbrev number : ℕ
  number = found.greatest.manifest + 1

  manifest_apart : (other : Name) → Contains plan.strays other → Manifest (found.greatest.manifest + 1) ≢ other
  manifest_apart other among same = some_apart (get read (Manifest number))
      (found.are_greatest.manifest.none_above number (omega arith))
      (subst (λ (n : Name). IsSome (get read n)) (sym same) (((is.strays.all other).0 among).0))

  manifest_stands : Stands (Manifest (found.greatest.manifest + 1)) (repaired plan start)
  manifest_stands = subst (λ (p : Plan). Stands (Manifest number) (repaired p start)) (sym is.is)
      (strays_leave plan.strays (Manifest number) (with_log planned start) manifest_apart
      (log_stands planned.log (Manifest number) (with_last planned start)
      (last_stands planned.last (Manifest number) (with_manifest planned start)
      (subst IsSome (sym (get_inserted start.standing (Manifest number) (settled planned.piece))) refl))))

  tables_free : (n : ℕ) → (new_state found.greatest found.opening.state).next_table ≤ n → IsFree (Table n) (repaired plan start)
  tables_free n from = subst (λ (p : Plan). IsFree (Table n) (repaired p start)) (sym is.is)
      (strays_free plan.strays (Table n) (with_log planned start)
      (table_free planned.log n (with_last planned start)
      (last_free planned.last (Table n) (with_manifest planned start)
      (get_inserted_other start.standing (Manifest planned.manifest) (settled planned.piece) (Table n) (table_manifest n planned.manifest)
      ∙ unread_free read start is_read (Table n) (found.are_greatest.table.none_above n (omega (arith, from)))))))

  pub going_on : IsReadyToGoOn (active_log found.greatest found.opening.state found.logs) (found.greatest.manifest + 1)
      (new_state found.greatest found.opening.state) (repaired plan start)
  going_on = record {
    log = active_stands found start is_read plan is;
    manifest_is = manifest_stands;
    logs_free = λ n above from. active_free found start is_read plan is n above;
    tables_free = tables_free;
  }
