-- Laws of modest shops: what keeps a shop so, step by step. Between its turns nothing of its own is open.
use Rattle.std.proofs.Common.{◌≡◌, ◌⊎◌, inl, inr, ⊎_elim, ℕ, ◌≤◌, ◌==◌, Bool, true, cond, not, ◌&&◌, List, [], ◌∷◌, ◌++◌}
use Rattle.std.proofs.Common.{length, refl, ap, sym, ◌∙◌, subst, arith, append-nil, append_assoc}
use Rattle.std.proofs.lemmas.Bool.{false≢true}
use Rattle.std.proofs.lemmas.Bool.Decides.{nat_tests}
use Rattle.std.specs.List.{AllByRecursion}
use Rattle.vl_drive.specs.Modest.{HasFew}
use Rattle.vl_drive.specs.Steps.{is_aside}
use Rattle.vl_engine_model.specs.LockHistory.{OpenTicket, closed, is_of, open_tickets, tickets_after}
use Rattle.vl_engine_model.specs.declared.lock_history.LockEntry.{LockEntry}
use Rattle.vl_engine_model.specs.declared.lock_history.LockStep.{LockStep}
use Rattle.vl_engine_model.specs.declared.lock_history.LockStep.TheVariants.{Begun, Changed, Ended, JobEnded, PassEnded}
use Rattle.vl_engine_model.specs.declared.lock_history.LockStep.TheVariants.{Picked, Planned, Put}
use mathlib.Core.List.{IsPrefix}

pub open_tickets-append : (ts : List OpenTicket) (es more : List LockEntry)
    → open_tickets ts (es ++ more) ≡ open_tickets (open_tickets ts es) more
open_tickets-append ts [] more = refl
open_tickets-append ts (e ∷ es) more = open_tickets-append (tickets_after e.session e.step ts) es more

-- ---- one step more

-- a front of a list with one more at its end is one of the list, or the whole
front_or_all : (before xs : List LockEntry) (e : LockEntry) → IsPrefix before (xs ++ e ∷ [])
    → IsPrefix before xs ⊎ (before ≡ xs ++ e ∷ [])
front_or_all [] xs e p = inl (xs, refl)
front_or_all (b ∷ []) [] e (rest, is) = inr (let same : b ≡ e = cc in ap (λ (x : LockEntry). x ∷ []) same)
front_or_all (b ∷ c ∷ before) [] e (rest, is) = absurd cc
front_or_all (b ∷ before) (x ∷ xs) e (rest, is) = ⊎_elim
    (λ (front : IsPrefix before xs). inl (front.0, head_same ∙ ap (λ (ys : List LockEntry). x ∷ ys) front.1))
    (λ (all : before ≡ xs ++ e ∷ []). inr (ap (λ (y : LockEntry). y ∷ before) first ∙ ap (λ (ys : List LockEntry). x ∷ ys) all))
    (front_or_all before xs e (rest, tail))
  where
    first : b ≡ x
    first = cc

    tail : before ++ rest ≡ xs ++ e ∷ []
    tail = cc

    head_same : {ys : List LockEntry} → b ∷ ys ≡ x ∷ ys
    head_same {ys} = ap (λ (y : LockEntry). y ∷ ys) first

pub few_more : (own : List LockEntry) (e : LockEntry) → HasFew own → length (open_tickets [] (own ++ e ∷ [])) ≤ 1
    → HasFew (own ++ e ∷ [])
few_more own e few last before front = ⊎_elim
    (λ (p : IsPrefix before own). few before p)
    (λ (all : before ≡ own ++ e ∷ []). subst (λ (es : List LockEntry). length (open_tickets [] es) ≤ 1) (sym all) last)
    (front_or_all before own e front)

-- ---- a turn

pub few_none : HasFew []
few_none before (rest, is) = subst (λ (es : List LockEntry). length (open_tickets [] es) ≤ 1) (sym (nothing before rest is)) (omega arith)
  where
    nothing : (before rest : List LockEntry) → before ++ rest ≡ [] → before ≡ []
    nothing [] rest is = refl
    nothing (b ∷ before) rest is = absurd cc

-- where nothing is open, a begin opens one thing
pub begun_open : (own : List LockEntry) (e : LockEntry) (ticket number : ℕ) → open_tickets [] own ≡ [] → e.step ≡ Begun ticket number
    → open_tickets [] (own ++ e ∷ []) ≡ record { session = e.session; ticket = ticket; number = number } ∷ []
begun_open own e ticket number none is =
    open_tickets-append [] own (e ∷ [])
    ∙ ap (λ (ts : List OpenTicket). tickets_after e.session e.step ts) none
    ∙ ap (λ (step : LockStep). tickets_after e.session step []) is

-- a step aside leaves it
pub aside_open : (own : List LockEntry) (e : LockEntry) → is_aside e.step ≡ true
    → open_tickets [] (own ++ e ∷ []) ≡ open_tickets [] own
aside_open own e aside = open_tickets-append [] own (e ∷ []) ∙ of e.step (open_tickets [] own) aside
  where
    of : (step : LockStep) (ts : List OpenTicket) → is_aside step ≡ true → tickets_after e.session step ts ≡ ts
    of (Begun ticket number) ts aside = absurd (false≢true aside)
    of (Put ticket number writes) ts aside = absurd (false≢true aside)
    of (Ended ticket) ts aside = absurd (false≢true aside)
    of Planned ts aside = refl
    of JobEnded ts aside = refl
    of Picked ts aside = refl
    of PassEnded ts aside = refl
    of Changed ts aside = refl

-- what is open ends by a commit or without one, and nothing is open then
module _ (own : List LockEntry) (e : LockEntry) (t : OpenTicket) (one : open_tickets [] own ≡ t ∷ []) (mine : t.session ≡ e.session) where
  closes : closed e.session t.ticket (t ∷ []) ≡ []
  closes = ap (λ (b : Bool). cond (not b) (t ∷ []) []) both
    where
      same : (m n : ℕ) → m ≡ n → (m == n) ≡ true
      same m n is = grind (arith, nat_tests)

      both : is_of e.session t.ticket t ≡ true
      both = ap (λ (b : Bool). b && (t.ticket == t.ticket)) (same t.session e.session mine) ∙ same t.ticket t.ticket refl

  pub ended_open : e.step ≡ Ended t.ticket → open_tickets [] (own ++ e ∷ []) ≡ []
  ended_open is = open_tickets-append [] own (e ∷ []) ∙ ap (λ (ts : List OpenTicket). tickets_after e.session e.step ts) one
      ∙ ap (λ (step : LockStep). tickets_after e.session step (t ∷ [])) is ∙ closes

  pub put_open : {number : ℕ} {writes : List _} → e.step ≡ Put t.ticket number writes → open_tickets [] (own ++ e ∷ []) ≡ []
  put_open is = open_tickets-append [] own (e ∷ []) ∙ ap (λ (ts : List OpenTicket). tickets_after e.session e.step ts) one
      ∙ ap (λ (step : LockStep). tickets_after e.session step (t ∷ [])) is ∙ closes

-- some steps aside keep that few are open
pub few_aside : (own more : List LockEntry) → HasFew own → AllByRecursion (λ (e : LockEntry). is_aside e.step ≡ true) more
    → HasFew (own ++ more)
few_aside own [] few all = subst HasFew (sym (nil_after own)) few
  where
    nil_after : (es : List LockEntry) → es ++ [] ≡ es
    nil_after [] = refl
    nil_after (e ∷ es) = ap (λ (rest : List LockEntry). e ∷ rest) (nil_after es)
few_aside own (e ∷ more) few all =
    subst HasFew (append_assoc own (e ∷ []) more)
    (few_aside (own ++ e ∷ []) more
    (few_more own e few (subst (λ (ts : List OpenTicket). length ts ≤ 1) (sym (aside_open own e all.0)) (few own ([], itself own)))) all.1)
  where
    itself : (es : List LockEntry) → es ++ [] ≡ es
    itself [] = refl
    itself (x ∷ es) = ap (λ (rest : List LockEntry). x ∷ rest) (itself es)

-- and leave what is open
pub aside_all : (own more : List LockEntry) → AllByRecursion (λ (e : LockEntry). is_aside e.step ≡ true) more
    → open_tickets [] (own ++ more) ≡ open_tickets [] own
aside_all own [] all = ap (open_tickets []) (append-nil own)
aside_all own (e ∷ more) all =
    ap (open_tickets []) (sym (append_assoc own (e ∷ []) more)) ∙ aside_all (own ++ e ∷ []) more all.1 ∙ aside_open own e all.0
