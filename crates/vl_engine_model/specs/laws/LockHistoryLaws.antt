-- Laws of steps under the commit lock: some more behind others, a first part, and what a session's own steps tell.
use Rattle.std.proofs.Common.{◌≡◌, ◌≢◌, ℕ, ◌+◌, ◌<◌, Bool, true, false, cond, not, ◌&&◌, ◌||◌, List, [], ◌∷◌, ◌++◌}
use Rattle.std.proofs.Common.{map, length, refl, ap, sym, ◌∙◌, subst, arith}
use Rattle.std.proofs.lemmas.Bool.{false≢true}
use Rattle.std.proofs.lemmas.Bool.Decides.{nat_tests}
use Rattle.std.specs.Prelude.{◌==◌, Option, Some, None}
use Rattle.std.specs.List.{AllByRecursion, filter, list_any}
use Rattle.std.specs.FinMap.{from_sorted}
use Rattle.vl_model.specs.Keys.{Writes}
use Rattle.vl_model.specs.History.{Past, Extends, with_commit, last_number}
use Rattle.vl_model.specs.declared.change.Change.{Change}
use Rattle.vl_engine_model.specs.LockHistory.{OpenTicket, OpenThings, nothing_open, is_of, closed, opened, tickets_after}
use Rattle.vl_engine_model.specs.LockHistory.{things_after, open_things, open_tickets, put_after, commits_of, history_of}
use Rattle.vl_engine_model.specs.LockHistory.{last_layout, number_after, last_from, tickets_in, IsOpen, IsLegalStep}
use Rattle.vl_engine_model.specs.LockHistory.{HasOpen, IsLegalFrom, IsLegal, entries_by, tickets_by, number_of}
use Rattle.vl_engine_model.specs.Rising.{IsRising}
use Rattle.vl_engine_model.specs.Tickets.{has_ticket}
use Rattle.vl_engine_model.specs.declared.layout.Layout.{Layout}
use Rattle.vl_engine_model.specs.declared.live.Live.{Live}
use Rattle.vl_engine_model.specs.declared.lock_history.LockEntry.{LockEntry}
use Rattle.vl_engine_model.specs.declared.lock_history.LockStep.{LockStep}
use Rattle.vl_engine_model.specs.declared.lock_history.LockStep.TheVariants.{Begun, Put, Ended, Planned, JobEnded, Picked, PassEnded, Changed}
use Rattle.vl_engine_model.specs.laws.RisingLaws.{rising-put_by, rising-filter, filter-put_by}

-- ---- some steps more

pub legal-append : (last : ℕ) (o : OpenThings) (es more : List LockEntry)
    → IsLegalFrom last o es → IsLegalFrom (last_from last es) (open_things o es) more → IsLegalFrom last o (es ++ more)
legal-append last o [] more legal later = later
legal-append last o (d ∷ es) more legal later = (legal.0, legal-append (number_after d.step last) (things_after d o) es more legal.1 later)

-- a first part of lawful steps is lawful
pub legal-first : (last : ℕ) (o : OpenThings) (es later : List LockEntry)
    → IsLegalFrom last o (es ++ later) → IsLegalFrom last o es
legal-first last o [] later legal = tt
legal-first last o (e ∷ es) later legal = (legal.0, legal-first (number_after e.step last) (things_after e o) es later legal.1)

pub open_things-append : (o : OpenThings) (es more : List LockEntry) → open_things o (es ++ more) ≡ open_things (open_things o es) more
open_things-append o [] more = refl
open_things-append o (d ∷ es) more = open_things-append (things_after d o) es more

pub last_layout-append : (l : Layout) (es more : List LockEntry) → last_layout l (es ++ more) ≡ last_layout (last_layout l es) more
last_layout-append l [] more = refl
last_layout-append l (d ∷ es) more = last_layout-append d.layout es more

put_after-append : (step : LockStep) (some later : List Writes) → put_after step (some ++ later) ≡ put_after step some ++ later
put_after-append (Begun ticket number) some later = refl
put_after-append (Put ticket number writes) some later = refl
put_after-append (Ended ticket) some later = refl
put_after-append Planned some later = refl
put_after-append JobEnded some later = refl
put_after-append Picked some later = refl
put_after-append PassEnded some later = refl
put_after-append Changed some later = refl

pub commits_of-append : (es more : List LockEntry) → commits_of (es ++ more) ≡ commits_of es ++ commits_of more
commits_of-append [] more = refl
commits_of-append (d ∷ es) more = ap (put_after d.step) (commits_of-append es more)
    ∙ put_after-append d.step (commits_of es) (commits_of more)

-- the history of more steps goes on where that of the first ones ends
pub history_of-extends : (base : Past) (number : ℕ) (es more : List LockEntry)
    → Extends (history_of base number es) (history_of base number (es ++ more))
history_of-extends base number es more = record { first = refl; base = refl; later = commits_of more; commits = commits_of-append es more }

nothing_behind : (xs : List Writes) → xs ++ [] ≡ xs
nothing_behind [] = refl
nothing_behind (x ∷ xs) = ap (λ ys. x ∷ ys) (nothing_behind xs)

-- a step that commits nothing leaves the history
pub history_of-same : (base : Past) (number : ℕ) (es : List LockEntry) (e : LockEntry) → put_after e.step [] ≡ []
    → history_of base number (es ++ e ∷ []) ≡ history_of base number es
history_of-same base number es e none =
    ap (λ (cs : List Writes). record { first = number; base = base; commits = cs })
    (commits_of-append es (e ∷ []) ∙ ap (λ cs. commits_of es ++ cs) none ∙ nothing_behind (commits_of es))

-- a commit's step adds its writes to the history
pub history_of-put : (base : Past) (number : ℕ) (es : List LockEntry) (session ticket at : ℕ) (writes : List (List ℕ × Change)) (l : Layout)
    → history_of base number (es ++ record { session = session; step = Put ticket at writes; layout = l } ∷ []) ≡
    with_commit (history_of base number es) (from_sorted writes)
history_of-put base number es session ticket at writes l =
    ap (λ (cs : List Writes). record { first = number; base = base; commits = cs })
    (commits_of-append es (record { session = session; step = Put ticket at writes; layout = l } ∷ []))

-- the number behind lawful steps is the last one of their history
pub last_from-is : (last : ℕ) (o : OpenThings) (es : List LockEntry) → IsLegalFrom last o es
    → last_from last es ≡ last + length (commits_of es)
last_from-is last o [] legal = omega arith
last_from-is last o (e ∷ es) legal = by_step e.step legal.0.step (last_from-is (number_after e.step last) (things_after e o) es legal.1)
  where
    by_step : (step : LockStep) → IsLegalStep last o e.session step
        → last_from (number_after step last) es ≡ number_after step last + length (commits_of es)
        → last_from (number_after step last) es ≡ last + length (put_after step (commits_of es))
    by_step (Begun ticket number) is rest = rest
    by_step (Put ticket number writes) is rest = let next = is.1 in omega arith
    by_step (Ended ticket) is rest = rest
    by_step Planned is rest = rest
    by_step JobEnded is rest = rest
    by_step Picked is rest = rest
    by_step PassEnded is rest = rest
    by_step Changed is rest = rest

pub last_number-is : (base : Past) (number : ℕ) (es : List LockEntry) → IsLegal number es
    → last_number (history_of base number es) ≡ last_from number es
last_number-is base number es legal = sym (last_from-is number nothing_open es legal)

-- ---- tickets

abbrev pub AreRising : List OpenTicket → Type 0
AreRising ts = IsRising (λ (t : OpenTicket). t.ticket) ts

none_has : (ticket : ℕ) (ts : List OpenTicket) → has_ticket ticket (tickets_in ts) ≡ false
    → AllByRecursion (λ (t : OpenTicket). t.ticket ≢ ticket) ts
none_has ticket [] none = tt
none_has ticket (t ∷ ts) none = by_test (t.ticket == ticket) refl none (none_has ticket ts)
  where
    by_test : (b : Bool) → (t.ticket == ticket) ≡ b → (b || has_ticket ticket (tickets_in ts)) ≡ false
        → (has_ticket ticket (tickets_in ts) ≡ false → AllByRecursion (λ (u : OpenTicket). u.ticket ≢ ticket) ts)
        → AllByRecursion (λ (u : OpenTicket). u.ticket ≢ ticket) (t ∷ ts)
    by_test true is none rest = absurd (false≢true (sym none))
    by_test false is none rest =
        ((λ same. let no : (t.ticket == ticket) ≡ true = grind (arith, nat_tests) in false≢true (sym is ∙ no)), rest none)

rising_after : (last session : ℕ) (o : OpenThings) (step : LockStep) → IsLegalStep last o session step → AreRising o.tickets
    → AreRising (tickets_after session step o.tickets)
rising_after last s o (Begun ticket number) legal rising =
    rising-put_by (λ (t : OpenTicket). t.ticket) (record { session = s; ticket = ticket; number = number }) o.tickets
    (none_has ticket o.tickets legal.0) rising
rising_after last s o (Put ticket number writes) legal rising = rising-filter (λ (t : OpenTicket). t.ticket)
    (λ t. not (is_of s ticket t)) o.tickets rising
rising_after last s o (Ended ticket) legal rising = rising-filter (λ (t : OpenTicket). t.ticket)
    (λ t. not (is_of s ticket t)) o.tickets rising
rising_after last s o Planned legal rising = rising
rising_after last s o JobEnded legal rising = rising
rising_after last s o Picked legal rising = rising
rising_after last s o PassEnded legal rising = rising
rising_after last s o Changed legal rising = rising

-- open tickets rise, so that none is given twice while it is open
pub open_rising : (last : ℕ) (o : OpenThings) (es : List LockEntry) → IsLegalFrom last o es → AreRising o.tickets
    → AreRising (open_things o es).tickets
open_rising last o [] legal rising = rising
open_rising last o (e ∷ es) legal rising =
    open_rising (number_after e.step last) (things_after e o) es legal.1 (rising_after last e.session o e.step legal.0.step rising)

-- what is open behind the last step is what lives in the last layout
pub last_open : (last : ℕ) (o : OpenThings) (l : Layout) (es : List LockEntry) → HasOpen o l → IsLegalFrom last o es
    → HasOpen (open_things o es) (last_layout l es)
last_open last o l [] has legal = has
last_open last o l (e ∷ es) has legal = last_open (number_after e.step last) (things_after e o) e.layout es legal.0.layout legal.1

length-map : {X Y : Type 0} (f : X → Y) (xs : List X) → length (map f xs) ≡ length xs
length-map f [] = refl
length-map f (x ∷ xs) = let later = length-map f xs in omega (arith, later)

-- so as many live as are open
pub as_many_live : (o : OpenThings) (l : Layout) → HasOpen o l → length l.live ≡ length o.tickets
as_many_live o l has =
    sym (length-map (λ (x : Live). (x.ticket, x.number)) l.live) ∙ ap length has.live
    ∙ length-map (λ (t : OpenTicket). (t.ticket, t.number)) o.tickets

-- ---- a session's own tickets

pub open_tickets-is : (o : OpenThings) (es : List LockEntry) → (open_things o es).tickets ≡ open_tickets o.tickets es
open_tickets-is o [] = refl
open_tickets-is o (e ∷ es) = open_tickets-is (things_after e o) es

module _ (session : ℕ) where
  -- two tests on a list in either order
  swapped : (p q : OpenTicket → Bool) (ts : List OpenTicket)
      → filter p (filter q ts) ≡ filter q (filter p ts)
  swapped p q [] = refl
  swapped p q (t ∷ ts) = by_tests (p t) (q t) refl refl (swapped p q ts)
    where
      by_tests : (a b : Bool) → p t ≡ a → q t ≡ b → filter p (filter q ts) ≡ filter q (filter p ts)
          → filter p (cond b (t ∷ filter q ts) (filter q ts)) ≡ filter q (cond a (t ∷ filter p ts) (filter p ts))
      by_tests true true of_p of_q rest = ap (λ b. cond b (t ∷ filter p (filter q ts)) (filter p (filter q ts))) of_p
          ∙ ap (λ us. t ∷ us) rest ∙ sym (ap (λ b. cond b (t ∷ filter q (filter p ts)) (filter q (filter p ts))) of_q)
      by_tests true false of_p of_q rest = rest ∙ sym (ap (λ b. cond b (t ∷ filter q (filter p ts)) (filter q (filter p ts))) of_q)
      by_tests false true of_p of_q rest = ap (λ b. cond b (t ∷ filter p (filter q ts)) (filter p (filter q ts))) of_p ∙ rest
      by_tests false false of_p of_q rest = rest

  -- another session's step closes no ticket of this one
  others_stay : (other ticket : ℕ) (ts : List OpenTicket) → (other == session) ≡ false
      → closed other ticket (tickets_by session ts) ≡ tickets_by session ts
  others_stay other ticket [] apart = refl
  others_stay other ticket (t ∷ ts) apart = by_test (t.session == session) refl (others_stay other ticket ts apart)
    where
      not_of : (t.session == session) ≡ true → is_of other ticket t ≡ false
      not_of own = let other_is : (t.session == other) ≡ false = grind (arith, nat_tests) in ap (λ b. b && (t.ticket == ticket)) other_is

      by_test : (b : Bool) → (t.session == session) ≡ b
          → closed other ticket (tickets_by session ts) ≡ tickets_by session ts
          → closed other ticket (cond b (t ∷ tickets_by session ts) (tickets_by session ts)) ≡ cond b
          (t ∷ tickets_by session ts) (tickets_by session ts)
      by_test true own rest = ap
          (λ b. cond (not b) (t ∷ closed other ticket (tickets_by session ts))
          (closed other ticket (tickets_by session ts))) (not_of own) ∙ ap (λ us. t ∷ us) rest
      by_test false own rest = rest

  own_step : (s : ℕ) (step : LockStep) (ts : List OpenTicket) → AreRising ts → (b : Bool) → (s == session) ≡ b
      → tickets_by session (tickets_after s step ts) ≡ cond b (tickets_after s step (tickets_by session ts)) (tickets_by session ts)
  own_step s (Begun ticket number) ts rising b is =
      filter-put_by (λ (t : OpenTicket). t.ticket) (λ (t : OpenTicket). t.session == session)
      (record { session = s; ticket = ticket; number = number }) ts rising
      ∙ ap (λ c. cond c (opened s ticket number (tickets_by session ts)) (tickets_by session ts)) is
  own_step s (Put ticket number writes) ts rising true is = swapped (λ (t : OpenTicket). t.session == session)
      (λ t. not (is_of s ticket t)) ts
  own_step s (Put ticket number writes) ts rising false is = swapped (λ (t : OpenTicket). t.session == session)
      (λ t. not (is_of s ticket t)) ts ∙ others_stay s ticket ts is
  own_step s (Ended ticket) ts rising true is = swapped (λ (t : OpenTicket). t.session == session) (λ t. not (is_of s ticket t)) ts
  own_step s (Ended ticket) ts rising false is = swapped (λ (t : OpenTicket). t.session == session)
      (λ t. not (is_of s ticket t)) ts ∙ others_stay s ticket ts is
  own_step s Planned ts rising true is = refl
  own_step s Planned ts rising false is = refl
  own_step s JobEnded ts rising true is = refl
  own_step s JobEnded ts rising false is = refl
  own_step s Picked ts rising true is = refl
  own_step s Picked ts rising false is = refl
  own_step s PassEnded ts rising true is = refl
  own_step s PassEnded ts rising false is = refl
  own_step s Changed ts rising true is = refl
  own_step s Changed ts rising false is = refl

  -- which of a session's tickets are open is told by its own steps alone
  pub own_tickets : (last : ℕ) (o : OpenThings) (es : List LockEntry) → IsLegalFrom last o es → AreRising o.tickets
      → tickets_by session (open_tickets o.tickets es) ≡ open_tickets (tickets_by session o.tickets) (entries_by session es)
  own_tickets last o [] legal rising = refl
  own_tickets last o (e ∷ es) legal rising =
      by_test (e.session == session) refl
      (own_tickets (number_after e.step last) (things_after e o) es legal.1 (rising_after last e.session o e.step legal.0.step rising))
    where
      by_test : (b : Bool) → (e.session == session) ≡ b
          → tickets_by session (open_tickets (tickets_after e.session e.step o.tickets) es) ≡ open_tickets
          (tickets_by session (tickets_after e.session e.step o.tickets)) (entries_by session es)
          → tickets_by session (open_tickets (tickets_after e.session e.step o.tickets) es) ≡ open_tickets
          (tickets_by session o.tickets) (cond b (e ∷ entries_by session es) (entries_by session es))
      by_test true is rest = rest ∙ ap (λ us. open_tickets us (entries_by session es)) (own_step e.session e.step o.tickets rising true is)
      by_test false is rest = rest
          ∙ ap (λ us. open_tickets us (entries_by session es)) (own_step e.session e.step o.tickets rising false is)

pub none≢some : {X : Type 0} (n : X) → None ≡ Some n → ⊥
none≢some {X} n e = subst (λ (x : Option X). is_none x) e tt
  where
    is_none : Option X → Type 0
    is_none None = Unit {0}
    is_none (Some m) = ⊥

-- the number of a session's open ticket is that of all
number_by : (s ticket n : ℕ) (ts : List OpenTicket) → AreRising ts → number_of ticket (tickets_by s ts) ≡ Some n
    → (number_of ticket ts ≡ Some n) × IsOpen s ticket ts
number_by s ticket n [] rising is = absurd (none≢some n is)
number_by s ticket n (t ∷ ts) rising is = by_tests (t.session == s) (t.ticket == ticket) refl refl is (number_by s ticket n ts rising.1)
  where
    later : (ts : List OpenTicket) → t.ticket ≡ ticket → AllByRecursion (λ (u : OpenTicket). t.ticket < u.ticket) ts
        → number_of ticket ts ≡ Some n → ⊥
    later [] same above is = none≢some n is
    later (u ∷ us) same above is = let less = above.0 in let no : (u.ticket == ticket) ≡ false = grind (arith, nat_tests, less, same) in
        later us same above.1 (sym (ap (λ b. cond b (Some u.number) (number_of ticket us)) no) ∙ is)

    by_tests : (a b : Bool) → (t.session == s) ≡ a → (t.ticket == ticket) ≡ b
        → number_of ticket (cond a (t ∷ tickets_by s ts) (tickets_by s ts)) ≡ Some n
        → (number_of ticket (tickets_by s ts) ≡ Some n → (number_of ticket ts ≡ Some n) × IsOpen s ticket ts)
        → (cond b (Some t.number) (number_of ticket ts) ≡ Some n) × (((a && b) || list_any (is_of s ticket) ts) ≡ true)
    by_tests true true own e is rest = (sym (ap (λ b. cond b (Some t.number) (number_of ticket (tickets_by s ts))) e) ∙ is, refl)
    by_tests true false own e is rest = rest (sym (ap (λ b. cond b (Some t.number) (number_of ticket (tickets_by s ts))) e) ∙ is)
    by_tests false true own e is rest = let r = rest is in let same : t.ticket ≡ ticket = grind (arith, nat_tests)
        in absurd (later ts same rising.0 r.0)
    by_tests false false own e is rest = rest is

-- a ticket that is open by a session's own steps is open, and the session's
pub own_is_open : (last s ticket n : ℕ) (es : List LockEntry) → IsLegal last es
    → number_of ticket (open_tickets [] (entries_by s es)) ≡ Some n
    → (number_of ticket (open_things nothing_open es).tickets ≡ Some n) × IsOpen s ticket (open_things nothing_open es).tickets
own_is_open last s ticket n es legal is =
    number_by s ticket n (open_things nothing_open es).tickets (open_rising last nothing_open es legal tt)
    (ap (λ ts. number_of ticket (tickets_by s ts)) (open_tickets-is nothing_open es)
    ∙ ap (number_of ticket) (own_tickets s last nothing_open es legal tt) ∙ is)
