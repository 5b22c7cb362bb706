-- A file that is made, said with its name where that failed.
use Rattle.std.proofs.Common.{◌≡◌, ℕ, List, subst}
use Rattle.std.specs.Prelude.{Ok, Err}
use Rattle.vl_disk.specs.MadeFile.{Makes, WhileMaking, made}
use Rattle.vl_disk.specs.Performs.{FailedAt, Performs, calls_on}
use Rattle.vl_disk.specs.declared.errors.Failed.{Failed}
use Rattle.vl_disk.specs.declared.name.Name.{Name}
use Rattle.vl_disk.specs.declared.watched.Watched.{Ghosts}
use Rattle.vl_disk.specs.laws.Performing.{failed_on, make_performs}

module _ {D A : Type 0} (g : Ghosts D) (name : Name) (bytes header : List ℕ) (old new : D) (is : bytes ≡ header) where
  pub made_named : (x : A) → Makes {E = Failed} g name bytes old new (Ok x)
      → Performs {E = Name} g (made name header) (WhileMaking name header) 3 old new (Ok x)
  made_named x makes =
      let run = make_performs g old new name header (Ok x) (subst (λ (b : List ℕ). Makes {E = Failed} g name b old new (Ok x)) is makes) in
      record { done = run.done; calls = run.calls; stops = tt; tells = run.tells; time = run.time; cause = run.cause }

  pub stops_named : (e : Failed) (at : Name) → Makes {T = A} g name bytes old new (Err e)
      → Performs {T = A} g (made name header) (WhileMaking name header) 3 old new (Err at)
  stops_named e at makes =
      let run = make_performs g old new name header (Err e) (subst (λ (b : List ℕ). Makes {T = A} g name b old new (Err e)) is makes) in
      record { done = tt; calls = tt; stops = run.stops; tells = run.tells; time = run.time; cause = run.cause }

  pub failed_named : (e : Failed) → Makes {T = A} g name bytes old new (Err e) → FailedAt (calls_on 3 name) (g.calls old) (g.calls new) name
  failed_named e makes = failed_on 3 name (g.calls old) (g.calls new) (make_performs {T = A} g old new name bytes (Err e) makes).stops
