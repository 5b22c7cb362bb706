-- Which tickets are open behind a step of the session's own.
use Rattle.std.proofs.Common.{◌≡◌, ◌≢◌, ℕ, Bool, true, false, cond, not, ◌&&◌, ◌||◌, List, [], ◌∷◌, ◌++◌, refl, ap, sym, ◌∙◌, subst, arith}
use Rattle.std.proofs.lemmas.Bool.{false≢true}
use Rattle.std.proofs.lemmas.Bool.Decides.{nat_tests}
use Rattle.std.specs.List.{AllByRecursion}
use Rattle.std.specs.Prelude.{◌==◌, nat_lt}
use Rattle.vl_drive.specs.Entries.{begin_entry}
use Rattle.vl_drive.specs.Knowing.{GoesOn, Knows, Looks, Stepped}
use Rattle.vl_drive.specs.Steps.{entry_of, layout_by}
use Rattle.vl_engine_model.specs.Decides.{Answered}
use Rattle.vl_engine_model.specs.LockHistory.{IsLegal, IsLegalEntry, IsLegalFrom, OpenThings, OpenTicket, closed, is_of}
use Rattle.vl_engine_model.specs.LockHistory.{last_from, nothing_open, number_after, open_things, open_tickets, opened, things_after}
use Rattle.vl_engine_model.specs.LockHistory.{tickets_after, tickets_by, tickets_in}
use Rattle.vl_engine_model.specs.Rulings.Begin as begin
use Rattle.vl_engine_model.specs.Rulings.Begin.{begin_ruling, begun}
use Rattle.vl_engine_model.specs.Tickets.{has_ticket}
use Rattle.vl_engine_model.specs.declared.lock_history.LockEntry.{LockEntry}
use Rattle.vl_engine_model.specs.declared.lock_history.LockStep.TheVariants.{Begun}
use Rattle.vl_engine_model.specs.laws.LockHistoryLaws.{legal-first, open_tickets-is, own_tickets}
use Rattle.vl_sequence.proofs.Beginnings.{on_then}
use Rattle.vl_sequence.specs.Sequences.{Begins, Closes, LeavesNothing}

-- ---- one step more

open_more : (ts : List OpenTicket) (own : List LockEntry) (e : LockEntry)
    → open_tickets ts (own ++ e ∷ []) ≡ tickets_after e.session e.step (open_tickets ts own)
open_more ts [] e = refl
open_more ts (x ∷ own) e = open_more (tickets_after x.session x.step ts) own e

legal_last : (last : ℕ) (o : OpenThings) (es : List LockEntry) (e : LockEntry) → IsLegalFrom last o (es ++ e ∷ [])
    → IsLegalEntry (last_from last es) (open_things o es) e
legal_last last o [] e legal = legal.0
legal_last last o (x ∷ es) e legal = legal_last (number_after x.step last) (things_after x o) es e legal.1

-- ---- what is opened and closed again

apart_test : (m n : ℕ) → m ≢ n → (m == n) ≡ false
apart_test m n apart = by (m == n) refl
  where
    by : (b : Bool) → (m == n) ≡ b → b ≡ false
    by true is = absurd (apart (let same : m ≡ n = grind (arith, nat_tests) in same))
    by false is = refl

same_test : (n : ℕ) → (n == n) ≡ true
same_test n = grind (arith, nat_tests)

-- no ticket among these is this one
abbrev AreOther : (ticket : ℕ) → List OpenTicket → Type 0
AreOther ticket ts = AllByRecursion (λ (t : OpenTicket). t.ticket ≢ ticket) ts

other_tickets : (ticket : ℕ) (ts : List OpenTicket) → has_ticket ticket (tickets_in ts) ≡ false → AreOther ticket ts
other_tickets ticket [] none = tt
other_tickets ticket (t ∷ ts) none = by (t.ticket == ticket) refl none (other_tickets ticket ts)
  where
    by : (b : Bool) → (t.ticket == ticket) ≡ b → (b || has_ticket ticket (tickets_in ts)) ≡ false
        → (has_ticket ticket (tickets_in ts) ≡ false → AreOther ticket ts) → AreOther ticket (t ∷ ts)
    by true is none rest = absurd (false≢true (sym none))
    by false is none rest =
        ((λ same. let no : (t.ticket == ticket) ≡ true = grind (arith, nat_tests) in false≢true (sym is ∙ no)), rest none)

others_by : (session ticket : ℕ) (ts : List OpenTicket) → AreOther ticket ts → AreOther ticket (tickets_by session ts)
others_by session ticket [] all = tt
others_by session ticket (t ∷ ts) all = by (t.session == session) (others_by session ticket ts all.1)
  where
    by : (b : Bool) → AreOther ticket (tickets_by session ts)
        → AreOther ticket (cond b (t ∷ tickets_by session ts) (tickets_by session ts))
    by true rest = (all.0, rest)
    by false rest = rest

keeps : (a b : Bool) → b ≡ false → (t : OpenTicket) (ts : List OpenTicket) → cond (not (a && b)) (t ∷ ts) ts ≡ t ∷ ts
keeps true b is t ts = ap (λ c. cond (not c) (t ∷ ts) ts) is
keeps false b is t ts = refl

closed_others : (session ticket : ℕ) (ts : List OpenTicket) → AreOther ticket ts → closed session ticket ts ≡ ts
closed_others session ticket [] all = refl
closed_others session ticket (t ∷ ts) all =
    keeps (t.session == session) (t.ticket == ticket) (apart_test t.ticket ticket all.0) t (closed session ticket ts)
    ∙ ap (λ us. t ∷ us) (closed_others session ticket ts all.1)

module _ (session ticket number : ℕ) where
  abbrev new : OpenTicket
  new = record { session = session; ticket = ticket; number = number }

  is_new : is_of session ticket new ≡ true
  is_new = ap (λ b. b && (ticket == ticket)) (same_test session) ∙ same_test ticket

  closed_opened : (ts : List OpenTicket) → AreOther ticket ts → closed session ticket (opened session ticket number ts) ≡ ts
  closed_opened [] all = ap (λ b. cond (not b) (new ∷ []) []) is_new
  closed_opened (t ∷ ts) all = by (nat_lt t.ticket ticket) (closed_opened ts all.1)
    where
      by : (b : Bool) → closed session ticket (opened session ticket number ts) ≡ ts
          → closed session ticket (cond b (t ∷ opened session ticket number ts) (new ∷ t ∷ ts)) ≡ t ∷ ts
      by true rest =
          keeps (t.session == session) (t.ticket == ticket) (apart_test t.ticket ticket all.0) t
          (closed session ticket (opened session ticket number ts)) ∙ ap (λ us. t ∷ us) rest
      by false rest =
          ap (λ b. cond (not b) (new ∷ closed session ticket (t ∷ ts)) (closed session ticket (t ∷ ts))) is_new
          ∙ closed_others session ticket (t ∷ ts) all

-- ---- of a session

-- what a begin opens, its end closes
pub opens : (v w : Knows) (ticket number : ℕ) → Stepped v w begin_ruling begin_entry (Answered (begin.Begun ticket number))
    → closed v.session ticket (open_tickets [] w.own) ≡ open_tickets [] v.own
opens v w ticket number s =
    ap (λ es. closed v.session ticket (open_tickets [] es)) s.steps.own
    ∙ ap (closed v.session ticket) (open_more [] v.own e)
    ∙ closed_opened v.session ticket number (open_tickets [] v.own) others
  where
    e : LockEntry
    e = entry_of v.session (Begun ticket number) (begun (layout_by v.origin s.before) ticket number)

    legal : IsLegal v.origin.number (s.before ++ e ∷ [])
    legal = subst (IsLegal v.origin.number) s.steps.seen s.steps.legal

    is_free : has_ticket ticket (tickets_in (open_tickets [] s.before)) ≡ false
    is_free = subst (λ ts. has_ticket ticket (tickets_in ts) ≡ false) (open_tickets-is nothing_open s.before)
        (legal_last v.origin.number nothing_open s.before e legal).step.0

    own : tickets_by v.session (open_tickets [] s.before) ≡ open_tickets [] v.own
    own =
        own_tickets v.session v.origin.number nothing_open s.before
        (legal-first v.origin.number nothing_open s.before (e ∷ []) legal) tt
        ∙ ap (open_tickets []) (sym s.steps.mine)

    others : AreOther ticket (open_tickets [] v.own)
    others = subst (AreOther ticket) own
        (others_by v.session ticket (open_tickets [] s.before) (other_tickets ticket (open_tickets [] s.before) is_free))

pub closes_by : (v w : Knows) (ticket : ℕ) (e : LockEntry) → w.own ≡ v.own ++ e ∷ [] → e.session ≡ v.session
    → ((ts : List OpenTicket) → tickets_after e.session e.step ts ≡ closed e.session ticket ts)
    → open_tickets [] w.own ≡ closed v.session ticket (open_tickets [] v.own)
closes_by v w ticket e more mine is =
    ap (open_tickets []) more ∙ open_more [] v.own e ∙ is (open_tickets [] v.own)
    ∙ ap (λ (session : ℕ). closed session ticket (open_tickets [] v.own)) mine

-- behind a call that ended nothing
pub closes_later : (committed : Bool) (v u w : Knows) (ticket back : ℕ) → GoesOn v u → u.own ≡ v.own → back ≡ ticket
    → Closes committed u w back → Closes committed v w ticket
closes_later committed v u w ticket back on same is c = record {
  on = on_then v u w on c.on;
  closes =
      c.closes ∙ ap (λ (session : ℕ). closed session back (open_tickets [] u.own)) on.session
      ∙ ap (λ (k : ℕ). closed v.session k (open_tickets [] u.own)) is
      ∙ ap (λ es. closed v.session ticket (open_tickets [] es)) same;
  ended = c.ended;
  own = c.own ∙ ap (λ (es : List LockEntry). es ++ c.ended ∷ []) same;
  mine = c.mine ∙ on.session;
  ends = c.ends;
  all = c.all;
}

-- so of the whole transaction
pub leaves : (committed : Bool) (v u x w : Knows) (ticket number last : ℕ) → Begins v u ticket number → Looks u x → last ≡ ticket
    → Closes committed x w last → LeavesNothing v w
leaves committed v u x w ticket number last b looks is c =
    c.closes
    ∙ ap (λ (session : ℕ). closed session last (open_tickets [] x.own)) (looks.on.session ∙ b.on.session)
    ∙ ap (λ (k : ℕ). closed v.session k (open_tickets [] x.own)) is
    ∙ ap (λ es. closed v.session ticket (open_tickets [] es)) looks.own ∙ b.opens
