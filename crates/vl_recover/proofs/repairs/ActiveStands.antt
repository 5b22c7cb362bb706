-- The log that takes commits stands behind the repairing.
use Rattle.std.proofs.Common.{◌≡◌, ℕ, ◌+◌, ◌≤◌, List, [], ◌∷◌, refl, sym, subst, arith}
use Rattle.std.specs.Prelude.{◌≢◌, suc, Option, None, Some, IsSome, Contains}
use Rattle.std.specs.FinMap.{get}
use Rattle.vl_disk.specs.Crash.{Image}
use Rattle.vl_disk.specs.Disk.{Stands}
use Rattle.vl_disk.specs.DiskState.{DiskState, settled, without}
use Rattle.vl_disk.specs.laws.NameMap.{get_inserted, get_removed_other}
use Rattle.vl_disk.specs.Started.{IsRead}
use Rattle.vl_disk.specs.declared.name.Name.{Name}
use Rattle.vl_disk.specs.declared.name.Name.TheVariants.{Log, Manifest}
use Rattle.vl_manifest.specs.declared.state.ManifestState.{ManifestState}
use Rattle.vl_recover.specs.opening.Answers.{Finds, IsStrayName}
use Rattle.vl_recover.specs.repairing.Repairing.{IsPlan, Plan, behind_log, behind_strays, repaired, plan_of}
use Rattle.vl_recover.specs.repairing.Repairing.{with_last, with_log, with_manifest}
use Rattle.vl_recover.specs.opening.Opening.{StandingLogs}
use Rattle.vl_recover.specs.opening.Plans.{active_log, active_of, last_number, log_made, new_state}
use Rattle.vl_recover.specs.opening.Walk.{StandingLog}
use Rattle.vl_model.specs.Formats.{log_format}
use Rattle.vl_seglog.specs.Frames.{log_header}
use Rattle.vl_recover.proofs.repairs.Fitted.{above_all, last_stands, log_stands, made_stands, stands_read}

some_none : {X : Type 0} (x : X) → Some x ≡ None → ⊥
some_none x e = cc

-- what is no stray stays
pub strays_leave : (names : List Name) (name : Name) (disk : DiskState) → ((other : Name) → Contains names other → name ≢ other)
    → Stands name disk → Stands name (behind_strays names disk)
strays_leave [] name disk apart stands = stands
strays_leave (other ∷ names) name disk apart stands =
    strays_leave names name (without other disk) (λ n (k, less, is). apart n (suc k, omega (arith, less), is))
    (subst IsSome (sym (get_removed_other disk.standing other name (apart other (0, omega arith, refl)))) stands)

module _ (read : Image) (start : DiskState) (is_read : IsRead read start) where
  -- where no log is made the last one stands, from head on
  last_there : (s : ManifestState) (none least : ℕ) (logs : List StandingLog) → StandingLogs read least logs → log_made s logs ≡ None
      → Stands (Log (last_number none logs)) start × (least ≤ last_number none logs)
  last_there s none least [] standing is = absurd (some_none _ is)
  last_there s none least (q ∷ []) (next, rest) is = (
    stands_read read start is_read (Log q.number)
        (subst IsSome (sym next.stands) refl),
    next.from,
  )
  last_there s none least (q ∷ p ∷ ps) (next, rest) is =
      let (stands, above) = last_there s q.number (q.number + 1) (p ∷ ps) rest is in
      (stands, omega (arith, above, next.from))

module _ {read : Image} (found : Finds read) (start : DiskState) (is_read : IsRead read start) (plan : Plan) (is : IsPlan found plan) where
  abbrev new : ManifestState
  new = new_state found.greatest found.opening.state

  abbrev planned : Plan
  planned = plan_of found plan.strays

  -- a stray stands, and is no log from head on
  no_stray : (k : ℕ) → found.opening.state.head ≤ k → (other : Name) → Contains plan.strays other → Log k ≢ other
  no_stray k above other among same =
      let stray : IsStrayName found.opening (Log k) = subst (IsStrayName found.opening) (sym same) (((is.strays.all other).0 among).1) in
      omega (arith, stray.0, above)

  nor_new : (k : ℕ) → get read (Log k) ≡ None → (other : Name) → Contains plan.strays other → Log k ≢ other
  nor_new k none other among same =
      let stands : IsSome (get read (Log k)) = subst (λ (n : Name). IsSome (get read n)) (sym same) (((is.strays.all other).0 among).0) in
      missing (get read (Log k)) none stands
    where
      missing : (o : Option (List ℕ)) → o ≡ None → IsSome o → ⊥
      missing None e some = cc
      missing (Some bytes) e some = some_none bytes e

  by_log : (log : Option ℕ) → log_made new found.logs ≡ log → planned.log ≡ log → Stands (Log (active_of log found.logs))
      (with_log planned start)
      × ((other : Name) → Contains plan.strays other → Log (active_of log found.logs) ≢ other)
  by_log (Some k) made_is log_is = (
    subst (λ (l : Option ℕ). Stands (Log k) (behind_log l (with_last planned start))) (sym log_is)
        (subst IsSome (sym (get_inserted (with_last planned start).standing (Log k) (settled (log_header log_format k)))) refl),
    nor_new k (found.are_greatest.log.none_above k (let above = above_all new found.logs k made_is in omega (arith, above))),
  )
  by_log None made_is log_is =
      let (there, above) = last_there read start is_read new 0 found.opening.state.head found.logs found.standing made_is in (
        log_stands planned.log (Log (last_number 0 found.logs)) (with_last planned start)
            (last_stands planned.last (Log (last_number 0 found.logs)) (with_manifest planned start)
            (made_stands (Manifest planned.manifest) planned.piece (Log (last_number 0 found.logs)) start there)),
        no_stray (last_number 0 found.logs) above,
      )

  pub active_stands : Stands (Log (active_log found.greatest found.opening.state found.logs)) (repaired plan start)
  active_stands =
      let (stands, apart) = by_log (log_made new found.logs) refl refl in
      subst (λ (p : Plan). Stands (Log (active_log found.greatest found.opening.state found.logs)) (repaired p start)) (sym is.is)
      (strays_leave plan.strays _ (with_log planned start) apart stands)
