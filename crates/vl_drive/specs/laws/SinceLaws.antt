-- Laws of the commits since a number: which keys they name is what the first conflict tells.
use Rattle.std.proofs.Common.{◌≡◌, ℕ, ◌+◌, ◌≤◌, ◌<◌, Bool, true, false, cond, ◌&&◌, ◌||◌, List, [], ◌∷◌, ◌++◌}
use Rattle.std.proofs.Common.{length, refl, ap, sym, ◌∙◌, subst, arith}
use Rattle.std.proofs.lemmas.Bool.Decides.{nat_tests}
use Rattle.std.specs.Prelude.{Option, Some, None, is_some, nat_lt}
use Rattle.std.specs.FinMap.{find, from_sorted, get}
use Rattle.std.specs.Option.{option_map}
use Rattle.std.specs.Ordering.{is_eq}
use Rattle.vl_drive.specs.Steps.{is_named, names}
use Rattle.vl_engine_model.specs.LockHistory.{commits_of, put_after}
use Rattle.vl_engine_model.specs.declared.lock_history.LockEntry.{LockEntry}
use Rattle.vl_engine_model.specs.declared.lock_history.LockStep.{LockStep}
use Rattle.vl_engine_model.specs.declared.lock_history.LockStep.TheVariants.{Begun, Changed, Ended, JobEnded, PassEnded}
use Rattle.vl_engine_model.specs.declared.lock_history.LockStep.TheVariants.{Picked, Planned, Put}
use Rattle.vl_model.specs.Conflicts.{Named, first_conflict, first_of, is_overwritten, overwritten, passing}
use Rattle.vl_model.specs.History.{History, last_naming, newer}
use Rattle.vl_model.specs.Keys.{Writes, key_cmp}
use Rattle.vl_model.specs.Reads.{Read, is_read}
use Rattle.vl_model.specs.declared.change.Change.{Change}
use Rattle.vl_model.specs.laws.ConflictLaws.{find-overwritten}
use Rattle.vl_model.specs.laws.WinnerLaws.{key_tied}

-- ---- the numbers of commits that name a key

abbrev IsUpTo : (bound : ℕ) → Option ℕ → Type 0
IsUpTo bound None = Unit {0}
IsUpTo bound (Some number) = number ≤ bound

abbrev IsAbove : (bound : ℕ) → Option ℕ → Type 0
IsAbove bound None = Unit {0}
IsAbove bound (Some number) = bound < number

newer-up_to : (bound : ℕ) (a b : Option ℕ) → IsUpTo bound a → IsUpTo bound b → IsUpTo bound (newer a b)
newer-up_to bound a None low later = low
newer-up_to bound a (Some number) low later = later

newer-above : (bound : ℕ) (a b : Option ℕ) → IsAbove bound a → IsAbove bound b → IsAbove bound (newer a b)
newer-above bound a None high later = high
newer-above bound a (Some number) high later = later

naming-up_to : (bound number : ℕ) (commits : List Writes) (key : List ℕ) → number + length commits ≤ bound + 1
    → IsUpTo bound (last_naming number commits key)
naming-up_to bound number [] key le = tt
naming-up_to bound number (writes ∷ later) key le =
    newer-up_to bound (option_map (λ change. number) (get writes key)) (last_naming (number + 1) later key)
    (here (get writes key)) (naming-up_to bound (number + 1) later key (omega (arith, le)))
  where
    here : (o : Option Change) → IsUpTo bound (option_map (λ change. number) o)
    here None = tt
    here (Some change) = omega (arith, le)

naming-above : (bound number : ℕ) (commits : List Writes) (key : List ℕ) → bound < number
    → IsAbove bound (last_naming number commits key)
naming-above bound number [] key less = tt
naming-above bound number (writes ∷ later) key less =
    newer-above bound (option_map (λ change. number) (get writes key)) (last_naming (number + 1) later key)
    (here (get writes key)) (naming-above bound (number + 1) later key (omega (arith, less)))
  where
    here : (o : Option Change) → IsAbove bound (option_map (λ change. number) o)
    here None = tt
    here (Some change) = less

pub newer-assoc : {A : Type 0} (a b c : Option A) → newer a (newer b c) ≡ newer (newer a b) c
newer-assoc a b None = refl
newer-assoc a b (Some x) = refl

pub newer-none : {A : Type 0} (o : Option A) → newer None o ≡ o
newer-none None = refl
newer-none (Some x) = refl

-- those of some commits and of later ones
naming-append : (number : ℕ) (commits later : List Writes) (key : List ℕ)
    → last_naming number (commits ++ later) key
    ≡ newer (last_naming number commits key) (last_naming (number + length commits) later key)
naming-append number [] later key =
    ap (λ (n : ℕ). last_naming n later key) (omega arith) ∙ sym (newer-none (last_naming (number + 0) later key))
naming-append number (writes ∷ commits) later key =
    let first = option_map (λ change. number) (get writes key) in
    ap (newer first) (naming-append (number + 1) commits later key)
    ∙ newer-assoc first (last_naming (number + 1) commits key) (last_naming (number + 1 + length commits) later key)
    ∙ ap (λ (n : ℕ). newer (newer first (last_naming (number + 1) commits key)) (last_naming n later key)) (omega arith)

-- ---- steps that name a key

some-newer : (a b : Option ℕ) → is_some (newer a b) ≡ (is_some a || is_some b)
some-newer None None = refl
some-newer (Some number) None = refl
some-newer None (Some later) = refl
some-newer (Some number) (Some later) = refl

some-mapped : (number : ℕ) (o : Option Change) → is_some (option_map (λ change. number) o) ≡ is_some o
some-mapped number None = refl
some-mapped number (Some change) = refl

-- some number is there where a step names the key
naming-named : (number : ℕ) (es : List LockEntry) (key : List ℕ)
    → is_some (last_naming number (commits_of es) key) ≡ is_named key es
naming-named number [] key = refl
naming-named number (e ∷ es) key = by_step e.step (λ n. naming-named n es key)
  where
    by_step : (step : LockStep) → ((n : ℕ) → is_some (last_naming n (commits_of es) key) ≡ is_named key es)
        → is_some (last_naming number (put_after step (commits_of es)) key) ≡ (names key step || is_named key es)
    by_step (Begun ticket at) rest = rest number
    by_step (Put ticket at writes) rest =
        let written : Writes = from_sorted writes in
        some-newer (option_map (λ change. number) (get written key)) (last_naming (number + 1) (commits_of es) key)
        ∙ ap (λ b. b || is_some (last_naming (number + 1) (commits_of es) key)) (some-mapped number (get written key))
        ∙ ap (λ b. is_some (get written key) || b) (rest (number + 1))
    by_step (Ended ticket) rest = rest number
    by_step Planned rest = rest number
    by_step JobEnded rest = rest number
    by_step Picked rest = rest number
    by_step PassEnded rest = rest number
    by_step Changed rest = rest number

-- ---- what is overwritten since a number

either_way : (b : Bool) (o : Option ℕ) → cond b o o ≡ o
either_way true o = refl
either_way false o = refl

passing-since : (number : ℕ) (reads : List Read) (key : List ℕ) (a b : Option ℕ) → IsUpTo number a → IsAbove number b
    → passing (is_overwritten number reads) key (newer a b) ≡ cond (is_read reads key) b None
passing-since number reads key None None low high = sym (either_way (is_read reads key) None)
passing-since number reads key (Some k) None low high =
    let below : nat_lt number k ≡ false = grind (arith, nat_tests, low) in
    ap (λ b. cond (b && is_read reads key) (Some k) None) below ∙ sym (either_way (is_read reads key) None)
passing-since number reads key a (Some k) low high =
    let above : nat_lt number k ≡ true = grind (arith, nat_tests, high) in
    ap (λ b. cond (b && is_read reads key) (Some k) None) above

-- the steps `since` stand behind the first commits of a history
module _ (h : History) (first : List Writes) (since : List LockEntry) (are : h.commits ≡ first ++ commits_of since)
    (reads : List Read) where
  abbrev number : ℕ
  number = h.first + length first

  found-since : (key : List ℕ) → find key_cmp key (overwritten h number reads) ≡ cond (is_read reads key)
      (last_naming (number + 1) (commits_of since) key) None
  found-since key =
      find-overwritten h number reads key
      ∙ ap (λ (commits : List Writes). passing (is_overwritten number reads) key
      (last_naming (h.first + 1) commits key)) are
      ∙ ap (passing (is_overwritten number reads) key) (naming-append (h.first + 1) first (commits_of since) key)
      ∙ ap (λ (n : ℕ). passing (is_overwritten number reads) key
      (newer (last_naming (h.first + 1) first key) (last_naming n (commits_of since) key))) (omega arith)
      ∙ passing-since number reads key (last_naming (h.first + 1) first key)
      (last_naming (number + 1) (commits_of since) key)
      (naming-up_to number (h.first + 1) first key (omega arith))
      (naming-above number (number + 1) (commits_of since) key (omega arith))

  first-none : (xs : List Named) → first_of xs ≡ None → xs ≡ []
  first-none [] none = refl
  first-none (x ∷ xs) none = absurd cc

  -- where there is no conflict, no key that was read is named since
  pub unnamed-since : first_conflict h number reads ≡ None → (key : List ℕ) → is_read reads key ≡ true
      → is_named key since ≡ false
  unnamed-since none key covered =
      let nothing = first-none (overwritten h number reads) none in
      let last : last_naming (number + 1) (commits_of since) key ≡ None =
      sym (ap (λ b. cond b (last_naming (number + 1) (commits_of since) key) None) covered)
      ∙ sym (found-since key) ∙ ap (find key_cmp key) nothing in
      sym (naming-named (number + 1) since key) ∙ ap is_some last

  first-found : (xs : List Named) (named : Named) → first_of xs ≡ Some named → find key_cmp named.0 xs ≡ Some named.1
  first-found [] named some = absurd cc
  first-found (x ∷ xs) named some =
      let same : x ≡ named = cc in
      subst (λ (y : Named). find key_cmp named.0 (y ∷ xs) ≡ Some named.1) (sym same)
      (ap (λ b. cond b (Some named.1) (find key_cmp named.0 xs)) (ap is_eq (key_tied named.0)))

  both_there : (b : Bool) (o : Option ℕ) (n : ℕ) → cond b o None ≡ Some n → (b ≡ true) × (is_some o ≡ true)
  both_there true None n is = absurd cc
  both_there true (Some k) n is = (refl, refl)
  both_there false o n is = absurd cc

  -- a conflict's key was read, and is named since
  pub named-since : (named : Named) → first_conflict h number reads ≡ Some named
      → (is_read reads named.0 ≡ true) × (is_named named.0 since ≡ true)
  named-since named some =
      let there = first-found (overwritten h number reads) named some in
      let last = last_naming (number + 1) (commits_of since) named.0 in
      let both = both_there (is_read reads named.0) last named.1 (sym (found-since named.0) ∙ there) in
      (both.0, sym (naming-named (number + 1) since named.0) ∙ both.1)
