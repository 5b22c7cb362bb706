-- The last log is held behind its mending.
use Rattle.std.proofs.Common.{◌≡◌, inr, ℕ, ◌≤◌, refl, sym, ap, subst, ◌∙◌, arith}
use Rattle.std.specs.Prelude.{◌&&◌, ◌==◌, ◌≢◌, if◌then◌else◌, Bool, true, false, Option, None, Some, Result, Ok, Err}
use Rattle.std.specs.Prelude.{IfErr, IsErr, IsErrAnd, IsTrue}
use Rattle.std.specs.Option.{ForSome, option_map}
use Rattle.vl_disk.specs.Calls.{ChangesNothing}
use Rattle.vl_disk.specs.Crash.{Unchanged}
use Rattle.vl_disk.specs.Disk.{Stands}
use Rattle.vl_disk.specs.DiskState.{DiskState}
use Rattle.vl_disk.specs.Faults.{Rose, after_calls}
use Rattle.vl_disk.specs.Moments.{Elapses, While, passes_then, past_of}
use Rattle.vl_disk.specs.Performs.{FailedAt, GoesOnTelling}
use Rattle.vl_disk.specs.Spare.{SameSpareElsewhere, Spare}
use Rattle.vl_disk.specs.declared.name.Name.{Name}
use Rattle.vl_disk.specs.declared.name.Name.TheVariants.{Log}
use Rattle.vl_disk.specs.declared.watched.Watched.{Ghosts}
use Rattle.vl_disk.specs.laws.Performing.{failed_on}
use Rattle.vl_disk.specs.laws.Standing.{holds_after}
use Rattle.vl_recover.specs.declared.found.LastLog as found
use Rattle.vl_recover.specs.declared.plan.LogToHold.{LogToHold}
use Rattle.vl_recover.specs.declared.found.Findings.{Findings}
use Rattle.vl_recover.specs.declared.prepared.Prepared.{Prepared}
use Rattle.vl_recover.specs.repairing.Deciding.{IsDecided, step_for}
use Rattle.vl_recover.specs.repairing.PlanViews.{plan_view}
use Rattle.vl_recover.specs.repairing.Fitting.{CanRepair, IsBeside, SameSpareBeside}
use Rattle.vl_recover.specs.repairing.Holding.{IsHoldOf, IsReadyToHold, SameHold, hold_for}
use Rattle.vl_recover.specs.repairing.Repairing.{Cut, Headed, Kept, LastLog, NoLast, Plan, Rewritten, WhileLast}
use Rattle.vl_recover.specs.repairing.Repairing.{behind_last, calls_to_repair}
use Rattle.vl_recover.specs.repairing.Steps.{RepairsLast, last_files}
use Rattle.vl_recover.proofs.repairs.Fitted.{last_stands}
use Rattle.vl_recover.proofs.repairs.Stepping.{named_on}

false_true : false ≡ true → ⊥
false_true e = cc

-- what is decided fits the last log's step
pub hold_fits : (last : Option found.LastLog) → IsHoldOf (step_for last) (hold_for last)
hold_fits None = tt
hold_fits (Some last) = by last.header last.has_frames (last.length == last.end) (last.length == 0)
  where
    by : (header frames whole empty : Bool)
        → IsHoldOf (if header then (if whole then Kept last.number else Cut last.number last.end)
        else (if empty then Headed last.number else Rewritten last.number))
        (if header && frames then Some (record { number = last.number; format = last.format }) else None)
    by true true true empty = refl
    by true true false empty = refl
    by true false true empty = tt
    by true false false empty = tt
    by false frames whole true = tt
    by false frames whole false = tt

pub decided_holds : (f : Findings) (prepared : Prepared) → IsDecided f prepared → IsHoldOf (plan_view prepared.plan).last prepared.plan.hold
decided_holds f prepared decided =
    subst (λ (l : LastLog). IsHoldOf l prepared.plan.hold) (sym (ap (λ (p : Plan). p.last) decided.plan))
    (subst (IsHoldOf (step_for f.last)) (sym decided.hold) (hold_fits f.last))

-- ---- the last log's step, where it is held

stands_then : (last : LastLog) (hold : LogToHold) → IsHoldOf last (Some hold) → (disk : DiskState) → CanRepair last disk
    → Stands (Log hold.number) disk
stands_then NoLast hold fits disk can = absurd fits
stands_then (Kept log) hold fits disk can = subst (λ (n : ℕ). Stands (Log n) disk) (sym fits) can
stands_then (Cut log len) hold fits disk can = subst (λ (n : ℕ). Stands (Log n) disk) (sym fits) can.0
stands_then (Rewritten log) hold fits disk can = absurd fits
stands_then (Headed log) hold fits disk can = absurd fits

-- its last moment is one of those while it is mended
ends_mended : (last : LastLog) (hold : LogToHold) → IsHoldOf last (Some hold) → (disk : DiskState)
    → WhileLast last disk (behind_last last disk)
ends_mended NoLast hold fits disk = absurd fits
ends_mended (Kept log) hold fits disk = inr refl
ends_mended (Cut log len) hold fits disk = inr (inr refl)
ends_mended (Rewritten log) hold fits disk = absurd fits
ends_mended (Headed log) hold fits disk = absurd fits

some_calls : (last : LastLog) (hold : LogToHold) → IsHoldOf last (Some hold) → 1 ≤ calls_to_repair last
some_calls NoLast hold fits = absurd fits
some_calls (Kept log) hold fits = omega arith
some_calls (Cut log len) hold fits = omega arith
some_calls (Rewritten log) hold fits = absurd fits
some_calls (Headed log) hold fits = absurd fits

-- where it failed it is named
named_held : (last : LastLog) (hold : LogToHold) → IsHoldOf last (Some hold) → (before now : ℕ)
    → now ≡ after_calls (calls_to_repair last) before → FailedAt (last_files last) before now (Log hold.number)
named_held NoLast hold fits before now calls = absurd fits
named_held (Kept log) hold fits before now calls =
    subst (λ (n : ℕ). FailedAt (last_files (Kept log)) before now (Log n)) (sym fits)
    (failed_on 1 (Log log) before now (1, omega arith, omega arith, calls))
named_held (Cut log len) hold fits before now calls =
    subst (λ (n : ℕ). FailedAt (last_files (Cut log len)) before now (Log n)) (sym fits)
    (failed_on 2 (Log log) before now (2, omega arith, omega arith, calls))
named_held (Rewritten log) hold fits before now calls = absurd fits
named_held (Headed log) hold fits before now calls = absurd fits

-- other names are other names than its
other_name : (last : LastLog) (hold : LogToHold) → IsHoldOf last (Some hold) → (name : Name) → IsBeside last name → name ≢ Log hold.number
other_name NoLast hold fits name beside = absurd fits
other_name (Kept log) hold fits name beside = subst (λ (n : ℕ). name ≢ Log n) (sym fits) beside
other_name (Cut log len) hold fits name beside = subst (λ (n : ℕ). name ≢ Log n) (sym fits) beside
other_name (Rewritten log) hold fits name beside = absurd fits
other_name (Headed log) hold fits name beside = absurd fits

-- its room stays while it is mended
pub room_kept : (last : LastLog) (hold : LogToHold) → IsHoldOf last (Some hold) → (old new : Name → Spare) → SameHold last old new
    → IsTrue (old (Log hold.number)).hold → IsTrue (new (Log hold.number)).hold
room_kept NoLast hold fits old new same room = absurd fits
room_kept (Kept log) hold fits old new same room =
    subst (λ (n : ℕ). IsTrue (new (Log n)).hold) (sym fits)
    (subst (λ (b : Bool). IsTrue b) (sym same) (subst (λ (n : ℕ). IsTrue (old (Log n)).hold) fits room))
room_kept (Cut log len) hold fits old new same room =
    subst (λ (n : ℕ). IsTrue (new (Log n)).hold) (sym fits)
    (subst (λ (b : Bool). IsTrue b) (sym same) (subst (λ (n : ℕ). IsTrue (old (Log n)).hold) fits room))
room_kept (Rewritten log) hold fits old new same room = absurd fits
room_kept (Headed log) hold fits old new same room = absurd fits

module _ {D : Type 0} (g : Ghosts D) (last : LastLog) (old mid : D) (mended : Result Unit Name) (u : Unit {0}) (went : mended ≡ Ok u)
    (mends : RepairsLast g last old mid mended) where
  abbrev Mended : Result Unit Name → Type 0
  Mended r = RepairsLast g last old mid r

  done_so : RepairsLast {E = Name} g last old mid (Ok u)
  done_so = subst Mended went mends

  -- it isn't held
  pub none_held : {T : Type 0} (x : T) → RepairsLast {E = Name} g last old mid (Ok x)
  none_held x = record {
    done = done_so.done;
    calls = done_so.calls;
    stops = tt;
    tells = done_so.tells;
    time = done_so.time;
    cause = done_so.cause;
  }

  module _ (hold : LogToHold) (is_hold : Option LogToHold) (some : is_hold ≡ Some hold) (given : IsHoldOf last is_hold) where
    fits : IsHoldOf last (Some hold)
    fits = subst (IsHoldOf last) some given

    -- the log stands then
    pub stands_mended : ForSome (g.told old) (CanRepair last) → ForSome (g.told mid) (Stands (Log hold.number))
    stands_mended can = holds_after (behind_last last) (g.told old) (g.told mid) (CanRepair last) (Stands (Log hold.number)) done_so.done
        (λ disk here. last_stands last (Log hold.number) disk (stands_then last hold fits disk here)) can

    pub room_mended : SameHold last (g.spare old) (g.spare mid) → IsReadyToHold is_hold (g.spare old)
        → IsTrue (g.spare mid (Log hold.number)).hold
    room_mended same room = room_kept last hold fits (g.spare old) (g.spare mid) same
        (subst (λ (h : Option LogToHold). IsReadyToHold h (g.spare old)) some room)

    module _ (new : D) where
      -- what is done then
      pub spare_held : SameSpareBeside last (g.spare old) (g.spare mid) → SameSpareElsewhere (Log hold.number) (g.spare mid) (g.spare new)
          → SameSpareBeside last (g.spare old) (g.spare new)
      spare_held first second name beside = second name (other_name last hold fits name beside) ∙ first name beside

      module _ {T : Type 0} (held : Result T Name) (none : ChangesNothing g mid new (IsErr held)) where
        told_so : g.told new ≡ option_map (behind_last last) (g.told old)
        told_so = none.told ∙ done_so.done

        tells_so : GoesOnTelling (g.told old) (g.told new)
        tells_so state is = (behind_last last state, told_so ∙ ap (option_map (behind_last last)) is)

        counted : g.calls new ≡ after_calls (calls_to_repair last) (g.calls old)
        counted = none.calls ∙ done_so.calls

        time_so : Elapses g old new (WhileLast last)
        time_so = passes_then (past_of g old) (past_of g mid) (past_of g new)
            (While (g.told old) (WhileLast last)) (While (g.told mid) Unchanged) (While (g.told old) (WhileLast last))
            done_so.time none.time
            (λ now is. is)
            (λ now is disk told. subst (WhileLast last disk)
            (sym (is (behind_last last disk) (done_so.done ∙ ap (option_map (behind_last last)) told))) (ends_mended last hold fits disk))

        steady : g.faults mid ≡ g.faults old
        steady = done_so.cause.steady false_true

        -- it was held
        pub is_held : {U : Type 0} (x : T) (y : U) → held ≡ Ok x → RepairsLast {E = Name} g last old new (Ok y)
        is_held x y fine = record {
          done = told_so;
          calls = counted;
          stops = tt;
          tells = tells_so;
          time = time_so;
          cause = record {
            later = (let later = none.cause.later in omega (arith, later, steady));
            rose = λ fault. absurd (false_true fault);
            steady = λ _. none.cause.steady (λ fault. ok_apart held fine fault) ∙ steady;
          };
        }
          where
            ok_apart : (r : Result T Name) → r ≡ Ok x → IsErr r → ⊥
            ok_apart (Ok z) is fault = false_true fault
            ok_apart (Err e) is fault = cc

        -- the hold failed
        pub hold_fails : {U : Type 0} (e : Name) (result : Result U Name) → held ≡ Err e → IsErr result → RepairsLast g last old new result
        hold_fails e (Ok y) failed is = absurd (false_true is)
        hold_fails e (Err f) failed is = record {
          done = tt;
          calls = tt;
          stops = (calls_to_repair last, some_calls last hold fits, omega arith, counted);
          tells = tells_so;
          time = time_so;
          cause = record {
            later = (let later = none.cause.later in omega (arith, later, steady));
            rose = λ _. subst (λ (n : ℕ). Rose n (g.faults new)) steady (none.cause.rose (subst IsErr (sym failed) refl));
            steady = λ fine. absurd (fine refl);
          };
        }

        -- and is named
        pub hold_named : {U : Type 0} (e : Name) (result : Result U Name) → held ≡ Err e → IsErr result → IsErrAnd result (λ f. f ≡ e)
            → IfErr held (λ name. name ≡ Log hold.number) → IfErr result (FailedAt (last_files last) (g.calls old) (g.calls new))
        hold_named e result failed is same named =
            named_on held e result (λ name. name ≡ Log hold.number) (FailedAt (last_files last) (g.calls old) (g.calls new)) failed is same
            (λ name at. subst (FailedAt (last_files last) (g.calls old) (g.calls new)) (sym at)
            (named_held last hold fits (g.calls old) (g.calls new) counted)) named
