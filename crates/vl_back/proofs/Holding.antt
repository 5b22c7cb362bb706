-- The making of a file, which may then be held for readers.
use Rattle.std.proofs.Common.{◌≡◌, ℕ, List, refl, ap, subst, ◌∙◌, arith}
use Rattle.std.specs.Prelude.{true, false, Option, Result, Ok, Err, IsErr, IsErrOf, unwrap_or}
use Rattle.std.specs.Option.{option_map}
use Rattle.vl_disk.specs.Calls.{ChangesNothing}
use Rattle.vl_disk.specs.Crash.{Unchanged}
use Rattle.vl_disk.specs.DiskState.{DiskState, File, file_at, new_file, settled}
use Rattle.vl_disk.specs.Faults.{Rose}
use Rattle.vl_disk.specs.MadeFile.{Makes, WhileMaking, durable, made}
use Rattle.vl_disk.specs.Moments.{While, passes_then, past_of}
use Rattle.vl_disk.specs.Performs.{Performs}
use Rattle.vl_disk.specs.declared.errors.DiskFail.{DiskFail}
use Rattle.vl_disk.specs.declared.errors.DiskFail.TheVariants as why
use Rattle.vl_disk.specs.declared.errors.Failed.{Failed}
use Rattle.vl_disk.specs.declared.name.Name.{Name}
use Rattle.vl_disk.specs.declared.watched.Watched.{Ghosts}
use Rattle.vl_disk.specs.laws.NameMap.{get_inserted}
use Rattle.vl_disk.specs.laws.Performing.{changed_tells, make_performs, performs_stop}

pub false_true : false ≡ true → ⊥
false_true e = cc

-- a hold behind the making changes nothing, and fails where it is refused
module _ {D A P : Type 0} (g : Ghosts D) (name : Name) (bytes : List ℕ) (old mid new : D) (x : A)
    (makes : Makes {E = Failed} g name bytes old mid (Ok x)) (holds : ChangesNothing g mid new P) where
  told_is : g.told new ≡ option_map (made name bytes) (g.told old)
  told_is = holds.told ∙ makes.made

  during : (now : DiskState) → While (g.told mid) Unchanged now → While (g.told old) (WhileMaking name bytes) now
  during now is disk told = durable (is (made name bytes disk) (makes.made ∙ ap (option_map (made name bytes)) told))

  pub held_performs : {X : Type 0} (result : Result X Failed) → (IsErr result → P) → (P → IsErr result)
      → Performs g (made name bytes) (WhileMaking name bytes) 3 old new result
  held_performs (Ok held) there back = record {
    done = told_is;
    calls = holds.calls ∙ makes.calls;
    stops = tt;
    tells = changed_tells (made name bytes) (g.told old) (g.told new) told_is;
    time = passes_then (past_of g old) (past_of g mid) (past_of g new)
        (While (g.told old) (WhileMaking name bytes)) (While (g.told mid) Unchanged) (While (g.told old) (WhileMaking name bytes))
        makes.time holds.time (λ now is. is) during;
    cause = record {
      later = omega (arith, makes.cause.later, holds.cause.later);
      rose = λ fault. absurd (false_true fault);
      steady = λ fine. holds.cause.steady (λ p. fine (back p)) ∙ makes.cause.steady false_true;
    };
  }
  held_performs (Err e) there back = record {
    done = tt;
    calls = tt;
    stops = (3, omega arith, omega arith, holds.calls ∙ makes.calls);
    tells = changed_tells (made name bytes) (g.told old) (g.told new) told_is;
    time = passes_then (past_of g old) (past_of g mid) (past_of g new)
        (While (g.told old) (WhileMaking name bytes)) (While (g.told mid) Unchanged) (While (g.told old) (WhileMaking name bytes))
        makes.time holds.time (λ now is. is) during;
    cause = record {
      later = omega (arith, makes.cause.later, holds.cause.later);
      rose = λ fault. subst (λ (n : ℕ). Rose n (g.faults new)) (makes.cause.steady false_true) (holds.cause.rose (there refl));
      steady = λ fine. absurd (fine refl);
    };
  }

ok_err : {A E : Type 0} (x : A) (e : E) → ◌≡◌ {A = Result A E} (Ok x) (Err e) → ⊥
ok_err x e is = cc

-- where there was room for a hold, it was refused for a failure
refused_fails : {A : Type 0} (e : DiskFail) → (IsErrOf {T = A} (Err e) why.NoMemory → ⊥) → IsErrOf {T = A} (Err e) why.Failed
refused_fails why.NoMemory not = absurd (not refl)
refused_fails why.Failed not = refl

module _ {D A X : Type 0} (g : Ghosts D) (name : Name) (bytes : List ℕ) (old mid new : D) where
  -- the making failed
  pub stops_making : (e : Failed) (result : Result X Failed) → IsErr result → Makes {T = A} g name bytes old mid (Err e)
      → Performs g (made name bytes) (WhileMaking name bytes) 3 old mid result
  stops_making e result failed makes =
      performs_stop g old mid (made name bytes) (WhileMaking name bytes) (WhileMaking name bytes) 3 3 (λ disk now is. is)
      (made name bytes) e result failed (omega arith) (make_performs {T = A} g old mid name bytes (Err e) makes)

  -- it passed, and the file is held
  pub makes_held : (x : A) (held : X) → Makes {E = Failed} g name bytes old mid (Ok x)
      → ChangesNothing g mid new (IsErrOf {E = DiskFail} (Ok held) why.Failed)
      → Performs {E = Failed} g (made name bytes) (WhileMaking name bytes) 3 old new (Ok held)
  makes_held x held makes holds =
      held_performs g name bytes old mid new x makes holds (Ok held) (λ fault. absurd (false_true fault))
      (λ is. absurd (ok_err held why.Failed is))

  -- or the hold failed
  pub makes_unheld : (x : A) (e : DiskFail) (f : Failed) → Makes {E = Failed} g name bytes old mid (Ok x)
      → ChangesNothing g mid new (IsErrOf {T = X} (Err e) why.Failed) → (IsErrOf {T = X} (Err e) why.NoMemory → ⊥)
      → Performs {T = X} g (made name bytes) (WhileMaking name bytes) 3 old new (Err f)
  makes_unheld x e f makes holds room =
      held_performs g name bytes old mid new x makes holds (Err f) (λ fault. refused_fails e room) (λ is. refl)

-- a file that was made has its bytes
pub made_bytes : (name : Name) (bytes : List ℕ) (disk : DiskState) → (file_at (made name bytes disk) name).bytes ≡ bytes
made_bytes name bytes disk = ap (λ (o : Option File). (unwrap_or o new_file).bytes) (get_inserted disk.standing name (settled bytes))
