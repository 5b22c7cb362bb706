-- Files are removed, one behind the other.
use Rattle.std.proofs.Common.{◌≡◌, inl, ℕ, ◌+◌, ◌≤◌, ◌<◌, List, [], ◌∷◌, length, drop, slice_index_or, add-one}
use Rattle.std.proofs.Common.{drop-cons, refl, sym, ap, subst, ◌∙◌, arith}
use Rattle.std.proofs.lemmas.List.{drop_all}
use Rattle.std.specs.Prelude.{Option, Result, Ok, Err, IfErr, IsErr, IsErrAnd, OnOk}
use Rattle.std.specs.Option.{ForSome}
use Rattle.vl_disk.specs.Calls.{Removes}
use Rattle.vl_disk.specs.Crash.{WhileRemoving}
use Rattle.vl_disk.specs.Disk.{IsChangedBy, Stands}
use Rattle.vl_disk.specs.DiskState.{DiskState, without}
use Rattle.vl_disk.specs.laws.Standing.{holds_after}
use Rattle.vl_disk.specs.Performs.{FailedAt}
use Rattle.vl_disk.specs.declared.errors.Failed.{Failed}
use Rattle.vl_disk.specs.declared.name.Name.{Name}
use Rattle.vl_disk.specs.declared.name.Name.TheVariants.{Log}
use Rattle.vl_disk.specs.declared.watched.Watched.{Ghosts}
use Rattle.vl_recover.specs.repairing.Fitting.{CanRemove}
use Rattle.vl_recover.specs.repairing.Repairing.{WhileStrays, behind_strays}
use Rattle.vl_recover.specs.repairing.PlanViews.{at_file}
use Rattle.vl_recover.specs.repairing.Steps.{RemovesAll}
use Rattle.vl_disk.specs.laws.Performing.{failed_behind, nothing_performed, performs_as, performs_stop, performs_then, remove_performs}

not_ok : (e : Name) (u : Unit {0}) → Err e ≡ Ok u → ⊥
not_ok e u is = cc

-- what is left from a place on begins with the name there
pub left_from : (names : List Name) (i : ℕ) → i < length names → drop i names ≡ slice_index_or names i (Log 0) ∷ drop (i + 1) names
left_from names i some = rw (add-one, drop-cons names i (Log 0) some)

-- and behind all of them nothing is left
pub none_left : (names : List Name) (i : ℕ) → length names ≤ i → drop i names ≡ []
none_left names i past = drop_all i names past

-- so that one stands, and the others stand behind its removal
module _ (names : List Name) (i : ℕ) (some : i < length names) (old : Option DiskState) (can : ForSome old (CanRemove (drop i names))) where
  abbrev here : Name
  here = slice_index_or names i (Log 0)

  pub can_here : ForSome old (Stands here)
  can_here disk is = (subst (λ (left : List Name). CanRemove left disk) (left_from names i some) (can disk is)).0

  pub can_next : (new : Option DiskState) (outcome : Result Unit Failed) (answer : Result Unit Name) (u : Unit {0})
      → answer ≡ at_file here outcome → answer ≡ Ok u
      → OnOk outcome (IsChangedBy (without here) old new) → ForSome new (CanRemove (drop (i + 1) names))
  can_next new (Ok v) answer u at went gone = holds_after (without here) old new (CanRemove (drop i names))
      (CanRemove (drop (i + 1) names)) gone
      (λ disk fits. (subst (λ (left : List Name). CanRemove left disk) (left_from names i some) fits).1) can
  can_next new (Err e) answer u at went gone = absurd (not_ok here u (sym at ∙ went))

-- A run over some names ends one over more.
pub record Removing {D : Type 0} (g : Ghosts D) (start now : D) (all left : List Name) : Type 0 where
  pub ends : (new : D) (result : Result Unit Name) → RemovesAll g left now new result → RemovesAll g all start new result
  -- and where it fails over them, it fails there
  pub fails : (new : D) (name : Name) → FailedAt left (g.calls now) (g.calls new) name → FailedAt all (g.calls start) (g.calls new) name

pub removing_begins : {D : Type 0} (g : Ghosts D) (start : D) (all : List Name) → Removing g start start all all
removing_begins g start all = record { ends = λ new result step. step; fails = λ new name failed. failed }

-- none is left
pub removing_ends : {D : Type 0} (g : Ghosts D) (start now : D) (all left : List Name) → left ≡ [] → Removing g start now all left
    → RemovesAll {T = Unit {0}} {E = Name} g all start now (Ok tt)
removing_ends g start now all left none so_far =
    so_far.ends now (Ok tt) (subst (λ (names : List Name). RemovesAll {T = Unit {0}} {E = Name} g names now now (Ok tt)) (sym none)
    (nothing_performed g now now tt (WhileStrays []) refl))

module _ {D : Type 0} (g : Ghosts D) (start now new : D) (all : List Name) where
  module _ (name : Name) (left rest : List Name) (is : left ≡ name ∷ rest) (so_far : Removing g start now all left)
      (answer : Result Unit Name) where
    -- one was removed
    pub removing_goes_on : (outcome : Result Unit Failed) (u : Unit {0}) → answer ≡ at_file name outcome → answer ≡ Ok u
        → Removes g name now new outcome → Removing g start new all rest
    removing_goes_on (Ok u) v at went call = record {
      ends = λ end result step.
          so_far.ends end result (subst (λ (names : List Name). RemovesAll g names now end result) (sym is)
          (performs_as g now end (behind_strays (name ∷ rest)) (WhileStrays (name ∷ rest)) (WhileStrays (name ∷ rest)) (length rest + 1)
          (length (name ∷ rest))
          (λ disk state during. during) result (omega arith)
          (performs_then g (without name) (behind_strays rest) (WhileRemoving name) (WhileStrays rest) 1 (length rest) now new end u result
          (remove_performs g now new name (Ok u) call) step)));
      fails = λ end other failed.
          so_far.fails end other (subst (λ (names : List Name). FailedAt names (g.calls now) (g.calls end) other) (sym is)
          (failed_behind (name ∷ []) rest (g.calls now) (g.calls new) (g.calls end) other call.as_call.calls failed));
    }
    removing_goes_on (Err e) v at went call = absurd (not_ok name v (sym at ∙ went))

    -- it failed there
    pub removing_stops : (outcome : Result Unit Failed) (e : Name) (result : Result Unit Name) → answer ≡ at_file name outcome
        → answer ≡ Err e → IsErr result
        → Removes g name now new outcome → RemovesAll g all start new result
    removing_stops (Ok u) e result at failed stopped call = absurd (not_ok e u (sym (sym at ∙ failed)))
    removing_stops (Err f) e result at failed stopped call =
        so_far.ends new result (subst (λ (names : List Name). RemovesAll g names now new result) (sym is)
        (performs_stop g now new (without name) (WhileRemoving name) (WhileStrays (name ∷ rest)) 1 (length (name ∷ rest))
        (λ disk state during. inl during) (behind_strays (name ∷ rest)) f result stopped (omega arith)
        (remove_performs g now new name (Err f) call)))

    -- so it failed at this name
    pub removing_failed : (outcome : Result Unit Failed) (e : Name) (result : Result Unit Name) → answer ≡ at_file name outcome
        → answer ≡ Err e
        → IsErr result → IsErrAnd result (λ f. f ≡ e) → Removes g name now new outcome
        → IfErr result (FailedAt all (g.calls start) (g.calls new))
    removing_failed (Ok u) e result at failed stopped same call = absurd (not_ok e u (sym (sym at ∙ failed)))
    removing_failed (Err f) e (Ok u) at failed stopped same call = tt
    removing_failed (Err f) e (Err found) at failed stopped same call =
        so_far.fails new found (subst (λ (names : List Name). FailedAt names (g.calls now) (g.calls new) found) (sym is) (record {
          front = [];
          back = rest;
          files_are = ap (λ (n : Name). n ∷ rest) (err_same name e (sym at ∙ failed) ∙ sym same);
          calls = call.as_call.calls;
        }))
      where
        err_same : (a b : Name) → ◌≡◌ {A = Result Unit Name} (Err a) (Err b) → a ≡ b
        err_same a b is = cc
