-- Each call is a run of changing calls, and one run behind another is one.
use Rattle.std.proofs.Common.{◌≡◌, ◌⊎◌, ⊎_elim, inl, inr, ℕ, ◌+◌, List, [], ◌∷◌, ◌++◌, length, append_assoc}
use Rattle.std.proofs.Common.{length-append, refl, sym, ap, subst, ◌∙◌, arith}
use Rattle.std.specs.Prelude.{zero, suc, true, false, Option, None, Some, Result, Ok, Err, IsErr, OnErr, OnOk, ◌≤◌}
use Rattle.std.specs.Option.{option_map}
use Rattle.vl_disk.specs.Calls.{Appends, Cuts, Removes, Syncs}
use Rattle.vl_disk.specs.Crash.{WhileAppending, WhileCutting, WhileRemoving, WhileSyncing}
use Rattle.vl_disk.specs.Disk.{IsChangedBy}
use Rattle.vl_disk.specs.DiskState.{DiskState, appended, cut_to, synced, without}
use Rattle.vl_disk.specs.Faults.{HasCause, after_calls, one_more}
use Rattle.vl_disk.specs.MadeFile.{Makes, TellsPart, WhileMaking, made}
use Rattle.vl_disk.specs.Moments.{While, passes_none, passes_then, passes_weaker, past_of}
use Rattle.vl_disk.specs.Performs.{FailedAt, GoesOnTelling, Performs, StopsAmong, calls_on}
use Rattle.vl_disk.specs.declared.name.Name.{Name}
use Rattle.vl_disk.specs.declared.watched.Watched.{Ghosts}

false_true : false ≡ true → ⊥
false_true e = cc

-- so many calls, and so many more
pub calls_then : (m n count : ℕ) → after_calls (m + n) count ≡ after_calls m (after_calls n count)
calls_then zero n count = ap (λ (k : ℕ). after_calls k count) (let e : 0 + n ≡ n = omega arith in e)
calls_then (suc m) n count =
    ap (λ (k : ℕ). after_calls k count) (let e : suc m + n ≡ suc (m + n) = omega arith in e)
    ∙ ap one_more (calls_then m n count)

-- what a call made of the disk, and goes on telling
pub changed_tells : (change : DiskState → DiskState) (old new : Option DiskState) → IsChangedBy change old new → GoesOnTelling old new
changed_tells change old new changed state is = (change state, changed ∙ ap (option_map change) is)

pub same_tells : (old new : Option DiskState) → new ≡ old → GoesOnTelling old new
same_tells old new same state is = (state, same ∙ is)

pub part_tells : (name : Name) (bytes : List ℕ) (old new : Option DiskState) → TellsPart name bytes old new → GoesOnTelling old new
part_tells name bytes None new tells state is = absurd (none_some state is)
  where
    none_some : (a : DiskState) → None ≡ Some a → ⊥
    none_some a e = cc
part_tells name bytes (Some disk) new tells state is = (tells.0, tells.1)

module _ {D T E : Type 0} (g : Ghosts D) (old new : D) where
  -- the single calls
  pub cut_performs : (name : Name) (len : ℕ) (result : Result T E) → Cuts g name len old new result
      → Performs g (cut_to name len len) (WhileCutting name len) 1 old new result
  cut_performs name len (Ok x) call = record {
    done = call.cut;
    calls = call.as_call.calls;
    stops = tt;
    tells = changed_tells (cut_to name len len) (g.told old) (g.told new) call.cut;
    time = call.as_call.time;
    cause = call.as_call.cause;
  }
  cut_performs name len (Err e) call = record {
    done = tt;
    calls = tt;
    stops = (1, omega arith, omega arith, call.as_call.calls);
    tells = changed_tells (cut_to name len call.failed.0) (g.told old) (g.told new) call.failed.3;
    time = call.as_call.time;
    cause = call.as_call.cause;
  }

  pub append_performs : (name : Name) (piece : List ℕ) (result : Result T E) → Appends g name piece old new result
      → Performs g (appended name piece (length piece)) (WhileAppending name piece) 1 old new result
  append_performs name piece (Ok x) call = record {
    done = call.appended;
    calls = call.as_call.calls;
    stops = tt;
    tells = changed_tells (appended name piece (length piece)) (g.told old) (g.told new) call.appended;
    time = call.as_call.time;
    cause = call.as_call.cause;
  }
  append_performs name piece (Err e) call = record {
    done = tt;
    calls = tt;
    stops = (1, omega arith, omega arith, call.as_call.calls);
    tells = changed_tells (appended name piece call.failed.0) (g.told old) (g.told new) call.failed.2;
    time = call.as_call.time;
    cause = call.as_call.cause;
  }

  -- the same of a piece by another name
  pub append_as : (name : Name) (piece bytes : List ℕ) (result : Result T E) → piece ≡ bytes → Appends g name piece old new result
      → Performs g (appended name bytes (length bytes)) (WhileAppending name bytes) 1 old new result
  append_as name piece bytes result same call =
      append_performs name bytes result (subst (λ (b : List ℕ). Appends g name b old new result) same call)

  pub sync_performs : (name : Name) (result : Result T E) → Syncs g name old new result
      → Performs g (synced name) (WhileSyncing name) 1 old new result
  sync_performs name (Ok x) call = record {
    done = call.synced;
    calls = call.as_call.calls;
    stops = tt;
    tells = changed_tells (synced name) (g.told old) (g.told new) call.synced;
    time = call.as_call.time;
    cause = call.as_call.cause;
  }
  sync_performs name (Err e) call = record {
    done = tt;
    calls = tt;
    stops = (1, omega arith, omega arith, call.as_call.calls);
    tells = same_tells (g.told old) (g.told new) call.failed;
    time = call.as_call.time;
    cause = call.as_call.cause;
  }

  pub remove_performs : (name : Name) (result : Result T E) → Removes g name old new result
      → Performs g (without name) (WhileRemoving name) 1 old new result
  remove_performs name (Ok x) call = record {
    done = call.removed;
    calls = call.as_call.calls;
    stops = tt;
    tells = changed_tells (without name) (g.told old) (g.told new) call.removed;
    time = call.as_call.time;
    cause = call.as_call.cause;
  }
  remove_performs name (Err e) call = record {
    done = tt;
    calls = tt;
    stops = (1, omega arith, omega arith, call.as_call.calls);
    tells = ⊎_elim
        (λ (same : g.told new ≡ g.told old). same_tells (g.told old) (g.told new) same)
        (λ (gone : IsChangedBy (without name) (g.told old) (g.told new)). changed_tells (without name) (g.told old) (g.told new) gone)
        call.failed;
    time = call.as_call.time;
    cause = call.as_call.cause;
  }

  -- the making of a file
  pub make_performs : (name : Name) (bytes : List ℕ) (result : Result T E) → Makes g name bytes old new result
      → Performs g (made name bytes) (WhileMaking name bytes) 3 old new result
  make_performs name bytes (Ok x) call = record {
    done = call.made;
    calls = call.calls;
    stops = tt;
    tells = changed_tells (made name bytes) (g.told old) (g.told new) call.made;
    time = call.time;
    cause = call.cause;
  }
  make_performs name bytes (Err e) call = record {
    done = tt;
    calls = tt;
    stops = (call.stops.0, call.stops.1, call.stops.2, call.stops.3);
    tells = part_tells name bytes (g.told old) (g.told new) call.failed;
    time = call.time;
    cause = call.cause;
  }

  -- no call at all
  pub nothing_performed : (x : T) (during : DiskState → DiskState → Type 0) → new ≡ old
      → Performs {T = T} {E = E} g (λ disk. disk) during 0 old new (Ok x)
  nothing_performed x during same = subst (λ (d : D). Performs {T = T} {E = E} g (λ disk. disk) during 0 old d (Ok x)) (sym same) (record {
    done = stays (g.told old);
    calls = refl;
    stops = tt;
    tells = λ state is. (state, is);
    time = passes_none (past_of g old) (While (g.told old) during);
    cause = record { later = omega arith; rose = λ fault. absurd (false_true fault); steady = λ fine. refl };
  })
    where
      stays : (told : Option DiskState) → told ≡ option_map (λ disk. disk) told
      stays None = refl
      stays (Some disk) = refl

  -- the same step, said otherwise
  module _ (after : DiskState → DiskState) (during meanwhile : DiskState → DiskState → Type 0) (n m : ℕ)
      (weaker : (disk now : DiskState) → during disk now → meanwhile disk now) where
    pub performs_as : (result : Result T E) → n ≡ m → Performs g after during n old new result → Performs g after meanwhile m old new result
    performs_as result same step = record {
      done = step.done;
      calls = subst (λ (k : ℕ). OnOk result (g.calls new ≡ after_calls k (g.calls old))) same step.calls;
      stops = subst (λ (k : ℕ). OnErr result (StopsAmong k (g.calls old) (g.calls new))) same step.stops;
      tells = step.tells;
      time = passes_weaker (past_of g old) (past_of g new)
          (While (g.told old) during) (While (g.told old) meanwhile) step.time
          (λ now is disk told. weaker disk now (is disk told));
      cause = step.cause;
    }

    -- it failed, and the whole with it
    pub performs_stop : {U F : Type 0} (later : DiskState → DiskState) (e : E) (result : Result U F) → IsErr result → n ≤ m
        → Performs {T = T} g after during n old new (Err e) → Performs g later meanwhile m old new result
    performs_stop later e (Ok x) failed less step = absurd (false_true failed)
    performs_stop later e (Err f) failed less step = record {
      done = tt;
      calls = tt;
      stops = (step.stops.0, step.stops.1, omega (arith, less, step.stops.2), step.stops.3);
      tells = step.tells;
      time = passes_weaker (past_of g old) (past_of g new)
          (While (g.told old) during) (While (g.told old) meanwhile) step.time
          (λ now is disk told. weaker disk now (is disk told));
      cause = record { later = step.cause.later; rose = λ fault. step.cause.rose refl; steady = λ fine. absurd (fine refl) };
    }

-- One step behind another.
module _ {D T U E F : Type 0} (g : Ghosts D) (after later : DiskState → DiskState)
    (during meanwhile : DiskState → DiskState → Type 0) (n m : ℕ)
    (old mid new : D) (x : T) where
  pub performs_then : (result : Result U F) → Performs {E = E} g after during n old mid (Ok x) → Performs g later meanwhile m mid new result
      → Performs g (λ disk. later (after disk)) (λ disk now. during disk now ⊎ meanwhile (after disk) now) (m + n) old new result
  performs_then result first second = record {
    done = both result second.done;
    calls = counted result second.calls;
    stops = some result second.stops;
    tells = λ state is. second.tells (after state) (first.done ∙ ap (option_map after) is);
    time = passes_then (past_of g old) (past_of g mid) (past_of g new)
        (While (g.told old) during) (While (g.told mid) meanwhile)
        (While (g.told old) (λ disk now. during disk now ⊎ meanwhile (after disk) now))
        first.time second.time
        (λ now is disk told. inl (is disk told))
        (λ now is disk told. inr (is (after disk) (first.done ∙ ap (option_map after) told)));
    cause = subst (λ (k : ℕ). HasCause k (g.faults new) (IsErr result)) (first.cause.steady false_true) second.cause;
  }
    where
      one : (told : Option DiskState) → option_map later (option_map after told) ≡ option_map (λ disk. later (after disk)) told
      one None = refl
      one (Some disk) = refl

      both : (r : Result U F) → OnOk r (IsChangedBy later (g.told mid) (g.told new))
          → OnOk r (IsChangedBy (λ disk. later (after disk)) (g.told old) (g.told new))
      both (Ok y) changed = changed ∙ ap (option_map later) first.done ∙ one (g.told old)
      both (Err f) changed = tt

      some : (r : Result U F) → OnErr r (StopsAmong m (g.calls mid) (g.calls new))
          → OnErr r (StopsAmong (m + n) (g.calls old) (g.calls new))
      some (Ok y) is = tt
      some (Err f) is = (
        is.0 + n,
        omega (arith, is.1),
        omega (arith, is.2),
        is.3 ∙ ap (after_calls is.0) first.calls
            ∙ sym (calls_then is.0 n (g.calls old)),
      )

      counted : (r : Result U F) → OnOk r (g.calls new ≡ after_calls m (g.calls mid))
          → OnOk r (g.calls new ≡ after_calls (m + n) (g.calls old))
      counted (Ok y) is = is ∙ ap (after_calls m) first.calls ∙ sym (calls_then m n (g.calls old))
      counted (Err f) is = tt

-- ---- at which file a run failed

-- one run on a file
pub failed_on : (count : ℕ) (name : Name) (before now : ℕ) → StopsAmong count before now → FailedAt (calls_on count name) before now name
failed_on zero name before now (n, some, within, calls) = absurd (omega (arith, some, within))
failed_on (suc count) name before now (suc zero, some, within, calls) =
    record { front = []; back = calls_on count name; files_are = refl; calls = calls }
failed_on (suc count) name before now (suc (suc n), some, within, calls) =
    let rest = failed_on count name before (after_calls (suc n) before) (suc n, omega arith, omega (arith, within), refl) in
    record {
      front = name ∷ rest.front;
      back = rest.back;
      files_are = ap (λ (l : List Name). name ∷ l) rest.files_are;
      calls = calls ∙ ap one_more rest.calls ∙ ap (λ (k : ℕ). after_calls k before)
          (let e : suc (length rest.front + 1) ≡ length (name ∷ rest.front) + 1 = omega arith in e);
    }
failed_on (suc count) name before now (zero, some, within, calls) = absurd (omega (arith, some))

-- before other calls
pub failed_before : (files more : List Name) (before now : ℕ) (name : Name) → FailedAt files before now name
    → FailedAt (files ++ more) before now name
failed_before files more before now name failed = record {
  front = failed.front;
  back = failed.back ++ more;
  files_are = ap (λ (l : List Name). l ++ more) failed.files_are ∙ append_assoc failed.front (name ∷ failed.back) more;
  calls = failed.calls;
}

-- and behind others that passed
pub failed_behind : (passed files : List Name) (before mid now : ℕ) (name : Name) → mid ≡ after_calls (length passed) before
    → FailedAt files mid now name → FailedAt (passed ++ files) before now name
failed_behind passed files before mid now name made failed = record {
  front = passed ++ failed.front;
  back = failed.back;
  files_are = ap (λ (l : List Name). passed ++ l) failed.files_are ∙ sym (append_assoc passed failed.front (name ∷ failed.back));
  calls = failed.calls ∙ ap (after_calls (length failed.front + 1)) made ∙ sym (calls_then (length failed.front + 1) (length passed) before)
      ∙ ap (λ (n : ℕ). after_calls n before)
      (let e : length failed.front + 1 + length passed ≡ length (passed ++ failed.front) + 1 = omega
      (arith, length-append passed failed.front) in e);
}
