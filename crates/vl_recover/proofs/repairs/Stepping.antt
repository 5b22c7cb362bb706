-- Steps of a repairing, said of what it is to do.
use Rattle.std.proofs.Common.{◌≡◌, ℕ, List, length, refl, sym, subst}
use Rattle.std.specs.Prelude.{true, false, Option, None, Some, Result, Ok, Err, IfErr, IsErr, IsErrAnd}
use Rattle.vl_disk.specs.DiskState.{DiskState}
use Rattle.vl_disk.specs.MadeFile.{Makes, WhileMaking, made}
use Rattle.vl_disk.specs.Performs.{FailedAt, Performs, calls_on}
use Rattle.vl_disk.specs.declared.errors.Failed.{Failed}
use Rattle.vl_disk.specs.declared.name.Name.{Name}
use Rattle.vl_disk.specs.declared.name.Name.TheVariants.{Log}
use Rattle.vl_disk.specs.declared.watched.Watched.{Ghosts}
use Rattle.vl_disk.specs.laws.Performing.{failed_on, make_performs, nothing_performed}
use Rattle.vl_recover.specs.opening.Plans.{calls_to_make}
use Rattle.vl_recover.specs.repairing.Repairing.{Cut, Headed, Kept, LastLog, NoLast, Rewritten, WhileLast, WhileLog}
use Rattle.vl_recover.specs.repairing.Repairing.{behind_last, calls_to_repair}
use Rattle.vl_recover.specs.repairing.PlanViews.{at_file}
use Rattle.vl_model.specs.Formats.{log_format}
use Rattle.vl_recover.specs.repairing.Steps.{MakesLog, RepairsLast, last_files, log_files}
use Rattle.vl_seglog.specs.Frames.{log_header}

false_true : false ≡ true → ⊥
false_true e = cc

-- with the file's name where it failed
pub performs_at : {D A : Type 0} (g : Ghosts D) (after : DiskState → DiskState) (during : DiskState → DiskState → Type 0) (n : ℕ)
    (old new : D)
    (name : Name) (result : Result A Failed) → Performs g after during n old new result → Performs g after during n old new
    (at_file name result)
performs_at g after during n old new name (Ok x) step = record {
  done = step.done;
  calls = step.calls;
  stops = tt;
  tells = step.tells;
  time = step.time;
  cause = step.cause;
}
performs_at g after during n old new name (Err e) step = record {
  done = tt;
  calls = tt;
  stops = step.stops;
  tells = step.tells;
  time = step.time;
  cause = step.cause;
}

-- the last log's step, said of the step that it is
pub last_at : {D A : Type 0} (g : Ghosts D) (old new : D) (last other : LastLog) (name : Name) (outcome : Result A Failed)
    (result : Result A Name)
    → last ≡ other → result ≡ at_file name outcome → RepairsLast g other old new outcome → RepairsLast g last old new result
last_at {A = A} g old new last other name outcome result same is step =
    subst (λ (l : LastLog). RepairsLast g l old new result) (sym same)
    (subst (λ (r : Result A Name). RepairsLast g other old new r) (sym is)
    (performs_at g (behind_last other) (WhileLast other) (calls_to_repair other) old new name outcome step))

-- where there is no last log nothing is done
pub last_none : {D T E : Type 0} (g : Ghosts D) (disk : D) (last : LastLog) (x : T) → last ≡ NoLast → RepairsLast {E = E} g last disk disk
    (Ok x)
last_none {T = T} {E = E} g disk last x is =
    subst (λ (l : LastLog). RepairsLast {T = T} {E = E} g l disk disk (Ok x)) (sym is) (nothing_performed g disk disk x
    (WhileLast NoLast) refl)

-- and where no log is to be made
pub log_none : {D T E : Type 0} (g : Ghosts D) (disk : D) (log : Option ℕ) (x : T) → log ≡ None → MakesLog {E = E} g log disk disk (Ok x)
log_none {T = T} {E = E} g disk log x is =
    subst (λ (l : Option ℕ). MakesLog {T = T} {E = E} g l disk disk (Ok x)) (sym is) (nothing_performed g disk disk x (WhileLog None) refl)

-- the new log's making
pub log_made_at : {D A : Type 0} (g : Ghosts D) (old new : D) (log : Option ℕ) (number : ℕ) (bytes : List ℕ) (outcome : Result A Failed)
    (result : Result A Name)
    → log ≡ Some number → bytes ≡ log_header log_format number → result ≡ at_file (Log number) outcome
    → Makes g (Log number) bytes old new outcome → MakesLog g log old new result
log_made_at {A = A} g old new log number bytes outcome result some header is makes =
    subst (λ (l : Option ℕ). MakesLog g l old new result) (sym some)
    (subst (λ (r : Result A Name). MakesLog g (Some number) old new r) (sym is)
    (performs_at g (made (Log number) (log_header log_format number)) (WhileMaking (Log number) (log_header log_format number)) 3 old new
    (Log number) outcome
    (make_performs g old new (Log number) (log_header log_format number) outcome
    (subst (λ (b : List ℕ). Makes g (Log number) b old new outcome) header makes))))

-- a fault has the name of the file
pub named_at : {A : Type 0} (name : Name) (outcome : Result A Failed) (result : Result A Name) (P : Name → Type 0)
    → result ≡ at_file name outcome → P name → IfErr result P
named_at {A = A} name outcome result P is here = subst (λ (r : Result A Name). IfErr r P) (sym is) (by outcome)
  where
    by : (o : Result A Failed) → IfErr (at_file name o) P
    by (Ok a) = tt
    by (Err failed) = here

-- and goes on with it
pub named_on : {T A E : Type 0} (first : Result T E) (e : E) (result : Result A E) (P Q : E → Type 0) → first ≡ Err e → IsErr result
    → IsErrAnd result (λ f. f ≡ e)
    → ((f : E) → P f → Q f) → IfErr first P → IfErr result Q
named_on first e (Ok a) P Q is failed same onto here = absurd (false_true failed)
named_on {T = T} {E = E} first e (Err f) P Q is failed same onto here = onto f
    (subst P (sym same) (subst (λ (r : Result T E). IfErr r P) is here))

-- a run of calls on one file, where it failed
pub failed_at : {D A : Type 0} (g : Ghosts D) (after : DiskState → DiskState) (during : DiskState → DiskState → Type 0) (n : ℕ)
    (old new : D)
    (name : Name) (outcome : Result A Failed) (result : Result A Name) → result ≡ at_file name outcome
    → Performs g after during n old new outcome → IfErr result (FailedAt (calls_on n name) (g.calls old) (g.calls new))
failed_at {A = A} g after during n old new name outcome result is step =
    subst (λ (r : Result A Name). IfErr r (FailedAt (calls_on n name) (g.calls old) (g.calls new))) (sym is) (by outcome step)
  where
    by : (o : Result A Failed) → Performs g after during n old new o → IfErr (at_file name o) (FailedAt (calls_on n name) (g.calls old)
        (g.calls new))
    by (Ok a) step = tt
    by (Err e) step = failed_on n name (g.calls old) (g.calls new) step.stops

-- what is so of the name where it failed
pub err_weaker : {A E : Type 0} (result : Result A E) (P Q : E → Type 0) → ((e : E) → P e → Q e) → IfErr result P → IfErr result Q
err_weaker (Ok a) P Q onto here = tt
err_weaker (Err e) P Q onto here = onto e here

-- so many calls are made of the last log
pub last_count : (last : LastLog) → calls_to_repair last ≡ length (last_files last)
last_count NoLast = refl
last_count (Kept log) = refl
last_count (Cut log len) = refl
last_count (Rewritten log) = refl
last_count (Headed log) = refl

pub log_count : (log : Option ℕ) → calls_to_make log ≡ length (log_files log)
log_count None = refl
log_count (Some log) = refl
