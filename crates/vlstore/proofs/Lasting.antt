-- What a session knows of what it began stays so behind later calls.
use Rattle.std.proofs.Common.{◌≡◌, ℕ, List, [], ◌∷◌, ◌++◌, refl, sym, ap, ◌∙◌, subst, arith}
use Rattle.std.proofs.lemmas.Bool.Decides.{nat_tests}
use Rattle.std.specs.Prelude.{Bool, true, false, cond, ◌==◌, ◌&&◌, not, nat_lt, Option, None, Some}
use Rattle.std.specs.List.{AllByRecursion}
use Rattle.vl_engine_laws.specs.Lasts.{Lasts}
use Rattle.vl_engine_model.specs.LockHistory.{OpenTicket, closed, number_of, open_pass, open_tickets, opened, pass_after, tickets_after}
use Rattle.vl_engine_model.specs.declared.layout.Layout.{Layout}
use Rattle.vl_engine_model.specs.declared.lock_history.LockEntry.{LockEntry}
use Rattle.vl_engine_model.specs.declared.lock_history.LockStep.{LockStep}
use Rattle.vl_engine_model.specs.declared.lock_history.LockStep.TheVariants.{Begun, Changed, Ended, JobEnded, PassEnded, Picked}
use Rattle.vl_engine_model.specs.declared.lock_history.LockStep.TheVariants.{Planned, Put}
use Rattle.vl_seglog.specs.declared.sealed.SealedLog.{SealedLog}
use Rattle.vlstore.specs.Handing.{HasLasted}
use Rattle.vlstore.specs.Knowing.{GoesOn, IsOwnPass, IsOwnTicket, Knows, LeavesPass, LeavesTicket}
use Rattle.vlstore.specs.Lists.{layout_by}
use Rattle.vlstore.specs.declared.locked.Origin.{Origin}
use Rattle.vlstore.proofs.Stores.{prefix_on}

pub lasted_on : {H : Type 0} (bytes : H → Option (List ℕ)) (v w : Knows) (log : SealedLog H) → GoesOn v w → HasLasted v bytes log
    → HasLasted w bytes log
lasted_on bytes v w log on lasted = record {
  before = lasted.before;
  seen = prefix_on lasted.before v.seen w.seen lasted.seen on.seen;
  lasts = subst (λ (o : Origin). Lasts bytes log (layout_by o lasted.before)) (sym on.origin) lasted.lasts;
}

-- ---- tickets

open_more : (ts : List OpenTicket) (es more : List LockEntry) → open_tickets ts (es ++ more) ≡ open_tickets (open_tickets ts es) more
open_more ts [] more = refl
open_more ts (e ∷ es) more = open_more (tickets_after e.session e.step ts) es more

is_other : (m n : ℕ) → (m ≡ n → ⊥) → (m == n) ≡ false
is_other m n other = by_test (m == n) refl
  where
    by_test : (b : Bool) → (m == n) ≡ b → b ≡ false
    by_test true same = let one : m ≡ n = grind (arith, nat_tests) in absurd (other one)
    by_test false same = refl

-- another ticket that is begun
still_begun : (s ticket other number : ℕ) (ts : List OpenTicket) → (other ≡ ticket → ⊥)
    → number_of ticket (opened s other number ts) ≡ number_of ticket ts
still_begun s ticket other number [] apart =
    ap (λ b. cond b (Some number) None) (is_other other ticket apart)
still_begun s ticket other number (t ∷ ts) apart = by_test (nat_lt t.ticket other) (still_begun s ticket other number ts apart)
  where
    by_test : (b : Bool) → number_of ticket (opened s other number ts) ≡ number_of ticket ts
        → number_of ticket (cond b (t ∷ opened s other number ts)
        (record { session = s; ticket = other; number = number } ∷ t ∷ ts)) ≡ number_of ticket (t ∷ ts)
    by_test true rest = ap (λ o. cond (t.ticket == ticket) (Some t.number) o) rest
    by_test false rest = ap (λ b. cond b (Some number) (number_of ticket (t ∷ ts))) (is_other other ticket apart)

-- another one that ends
still_ended : (s ticket other : ℕ) (ts : List OpenTicket) → (other ≡ ticket → ⊥) → number_of ticket (closed s other ts) ≡ number_of ticket ts
still_ended s ticket other [] apart = refl
still_ended s ticket other (t ∷ ts) apart =
    by_test (t.session == s) (t.ticket == other) refl (t.ticket == ticket) refl (still_ended s ticket other ts apart)
  where
    by_test : (mine its : Bool) → (t.ticket == other) ≡ its → (b : Bool) → (t.ticket == ticket) ≡ b
        → number_of ticket (closed s other ts) ≡ number_of ticket ts
        → number_of ticket (cond (not (mine && its)) (t ∷ closed s other ts) (closed s other ts))
        ≡ cond b (Some t.number) (number_of ticket ts)
    by_test true true is true so rest =
        let one : other ≡ ticket = grind (arith, nat_tests) in absurd (apart one)
    by_test true true is false so rest = rest
    by_test true false is b so rest = ap (λ c. cond c (Some t.number) (number_of ticket (closed s other ts))) so
        ∙ ap (λ o. cond b (Some t.number) o) rest
    by_test false its is b so rest = ap (λ c. cond c (Some t.number) (number_of ticket (closed s other ts))) so
        ∙ ap (λ o. cond b (Some t.number) o) rest

still_number : (s ticket : ℕ) (step : LockStep) (ts : List OpenTicket) → LeavesTicket ticket step
    → number_of ticket (tickets_after s step ts) ≡ number_of ticket ts
still_number s ticket (Begun other number) ts apart = still_begun s ticket other number ts apart
still_number s ticket (Put other number writes) ts apart = still_ended s ticket other ts apart
still_number s ticket (Ended other) ts apart = still_ended s ticket other ts apart
still_number s ticket Planned ts apart = refl
still_number s ticket JobEnded ts apart = refl
still_number s ticket Picked ts apart = refl
still_number s ticket PassEnded ts apart = refl
still_number s ticket Changed ts apart = refl

still_numbers : (ticket : ℕ) (ts : List OpenTicket) (more : List LockEntry)
    → AllByRecursion (λ (e : LockEntry). LeavesTicket ticket e.step) more
    → number_of ticket (open_tickets ts more) ≡ number_of ticket ts
still_numbers ticket ts [] all = refl
still_numbers ticket ts (e ∷ more) all =
    still_numbers ticket (tickets_after e.session e.step ts) more all.1 ∙ still_number e.session ticket e.step ts all.0

pub own_on : (v w : Knows) (ticket number : ℕ) (more : List LockEntry) → w.own ≡ v.own ++ more
    → AllByRecursion (λ (e : LockEntry). LeavesTicket ticket e.step) more → IsOwnTicket v ticket number → IsOwnTicket w ticket number
own_on v w ticket number more now all own =
    ap (λ (es : List LockEntry). number_of ticket (open_tickets [] es)) now
    ∙ (ap (number_of ticket) (open_more [] v.own more) ∙ (still_numbers ticket (open_tickets [] v.own) more all ∙ own))

-- ---- passes

pass_more : (p : Option (ℕ × ℕ)) (es more : List LockEntry) → open_pass p (es ++ more) ≡ open_pass (open_pass p es) more
pass_more p [] more = refl
pass_more p (e ∷ es) more = pass_more (pass_after e.session e.step e.layout p) es more

still_passing : (s : ℕ) (step : LockStep) (l : Layout) (p : Option (ℕ × ℕ)) → LeavesPass step → pass_after s step l p ≡ p
still_passing s (Begun ticket number) l p leaves = refl
still_passing s (Put ticket number writes) l p leaves = refl
still_passing s (Ended ticket) l p leaves = refl
still_passing s Planned l p leaves = refl
still_passing s JobEnded l p leaves = refl
still_passing s Picked l p leaves = absurd leaves
still_passing s PassEnded l p leaves = absurd leaves
still_passing s Changed l p leaves = refl

still_picked : (p : Option (ℕ × ℕ)) (more : List LockEntry) → AllByRecursion (λ (e : LockEntry). LeavesPass e.step) more
    → open_pass p more ≡ p
still_picked p [] all = refl
still_picked p (e ∷ more) all =
    still_picked (pass_after e.session e.step e.layout p) more all.1 ∙ still_passing e.session e.step e.layout p all.0

pub pass_on : (v w : Knows) (segment : ℕ) (more : List LockEntry) → w.session ≡ v.session → w.own ≡ v.own ++ more
    → AllByRecursion (λ (e : LockEntry). LeavesPass e.step) more → IsOwnPass v segment → IsOwnPass w segment
pass_on v w segment more session now all own =
    ap (open_pass None) now ∙ (pass_more None v.own more ∙ (still_picked (open_pass None v.own) more all
    ∙ (own ∙ ap (λ (n : ℕ). Some (n, segment)) (sym session))))
