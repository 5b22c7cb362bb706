-- What shops know of their turns, over the list of all steps of their store.
use Rattle.std.proofs.Common.{◌≡◌, ℕ, suc, ◌+◌, ◌<◌, ◌≤◌, ◌==◌, Bool, true, false, ◌||◌, List, [], ◌∷◌, ◌++◌, length}
use Rattle.std.proofs.Common.{refl, ap, sym, ◌∙◌, subst, arith}
use Rattle.std.proofs.lemmas.Bool.{false≢true}
use Rattle.std.proofs.lemmas.Bool.Decides.{nat_tests}
use Rattle.std.proofs.lemmas.List.{append-nil, append_assoc}
use Rattle.std.specs.FinMap.{entries, from_sorted}
use Rattle.std.specs.List.{AllByRecursion}
use Rattle.vl_drive.specs.Accounts.{account_key, balance_after, first_balances, sum_of, total_after, transfer_writes}
use Rattle.vl_drive.specs.Clients.{AreDriven, AreDrivenBehind, HasMet, HasOpened, HasPlayed, count_all}
use Rattle.vl_drive.specs.Driven.{AreIn, IsClosed, IsDriven}
use Rattle.vl_drive.specs.Knowing.{Knows}
use Rattle.vl_drive.specs.Numbers.{number_in_turn, seed_of, transfer_in}
use Rattle.vl_drive.specs.Steps.{AreBy, Origin, count_by, history_by, is_aside, is_end, is_ended, is_named, is_put}
use Rattle.vl_drive.specs.Turns.{AreTurns, EndsTurn, IsOpenedBy, end_of, is_crossed}
use Rattle.vl_drive.specs.declared.transfer.Transfer.{Transfer}
use Rattle.vl_drive.specs.laws.CountLaws.{by_session, commits-counted, ends-counted}
use Rattle.vl_drive.specs.laws.StepLaws.{aside_is_no_put, counted_aside, counted_first, counted_none, counted_one}
use Rattle.vl_drive.specs.laws.StepLaws.{counted_own, counted_parts, others_are}
use Rattle.vl_drive.specs.laws.TurnLaws.{commits-behind, turns_more, two_accounts}
use Rattle.vl_drive.proofs.Balances.{balance-kept, total-first, total-moved}
use Rattle.vl_drive.proofs.Meeting.{none_by}
use Rattle.vl_drive.proofs.Prefixes.{begins_more}
use Rattle.vl_drive.proofs.Sums.{sum-shared}
use Rattle.vl_engine_model.specs.LockHistory.{commits_of, entries_by, put_after}
use Rattle.vl_engine_model.specs.declared.lock_history.LockEntry.{LockEntry}
use Rattle.vl_engine_model.specs.declared.lock_history.LockStep.{LockStep}
use Rattle.vl_engine_model.specs.declared.lock_history.LockStep.TheVariants.{Begun, Changed, Ended, JobEnded, PassEnded}
use Rattle.vl_engine_model.specs.declared.lock_history.LockStep.TheVariants.{Picked, Planned, Put}
use Rattle.vl_engine_model.specs.laws.LockHistoryLaws.{commits_of-append, history_of-same}
use Rattle.vl_model.specs.History.{last_number, with_commit}
use Rattle.vl_model.specs.Keys.{Writes}
use Rattle.vl_model.specs.declared.change.Change.{Change}
use mathlib.Core.List.{IsPrefix}

-- ---- the total

all_at : (P : LockEntry → Type 0) (before : List LockEntry) (e : LockEntry) (after : List LockEntry)
    → AllByRecursion P (before ++ e ∷ after) → P e
all_at P [] e after all = all.0
all_at P (b ∷ before) e after all = all_at P before e after all.1

-- a commit's step adds its writes to the history
history-put : (o : Origin) (es : List LockEntry) (e : LockEntry) (ticket number : ℕ) (writes : List (List ℕ × Change))
    → e.step ≡ Put ticket number writes → history_by o (es ++ e ∷ []) ≡ with_commit (history_by o es) (from_sorted writes)
history-put o es e ticket number writes is =
    ap (λ (cs : List Writes). record { first = o.number; base = o.base; commits = cs })
    (commits_of-append es (e ∷ []) ∙ ap (λ (step : LockStep). commits_of es ++ put_after step []) is)

-- a turn that ends in a commit keeps the total
turn-total : (o : Origin) (seed client turn : ℕ) (before : List LockEntry) (e : LockEntry)
    → EndsTurn o (transfer_in seed client turn) before e → is_put e.step ≡ true → total_after (history_by o before) ≡ 64000
    → total_after (history_by o (before ++ e ∷ [])) ≡ 64000
turn-total o seed client turn before e ended puts total = by_crossed (is_crossed t ended.since) refl
  where
    t : Transfer
    t = transfer_in seed client turn

    old : ℕ → ℕ
    old = balance_after (history_by o ended.earlier)

    parts : commits_of before ≡ commits_of ended.earlier ++ commits_of ended.since
    parts = commits-behind o e.session ended.ticket ended.earlier ended.since before ended.turn

    kept : (account : ℕ) → is_named (account_key account) ended.since ≡ false
        → old account ≡ balance_after (history_by o before) account
    kept account none = sym (balance-kept o ended.earlier ended.since before parts account none)

    step_is : (b : Bool) → is_crossed t ended.since ≡ b
        → e.step ≡ end_of b ended.ticket (last_number (history_by o before) + 1) (transfer_writes t old)
    step_is b is = ended.ends
        ∙ ap (λ c. end_of c ended.ticket (last_number (history_by o before) + 1) (transfer_writes t old)) is

    neither : (a b : Bool) → (a || b) ≡ false → (a ≡ false) × (b ≡ false)
    neither true b none = absurd (false≢true (sym none))
    neither false b none = (refl, none)

    by_crossed : (b : Bool) → is_crossed t ended.since ≡ b → total_after (history_by o (before ++ e ∷ [])) ≡ 64000
    by_crossed true is = absurd (false≢true (sym (ap is_put (step_is true is)) ∙ puts))
    by_crossed false is =
        let accounts = two_accounts (number_in_turn (seed_of seed client) turn) in
        let none = neither (is_named (account_key t.from) ended.since) (is_named (account_key t.to) ended.since) is in
        ap total_after (history-put o before e ended.ticket (last_number (history_by o before) + 1)
        (entries (transfer_writes t old)) (step_is false is))
        ∙ total-moved (history_by o before) t old (kept t.from none.0)
        (kept t.to none.1) accounts.0 accounts.1 accounts.2 total

no_put : (step : LockStep) → is_put step ≡ false → put_after step [] ≡ []
no_put (Begun ticket number) none = refl
no_put (Put ticket number writes) none = absurd (false≢true (sym none))
no_put (Ended ticket) none = refl
no_put Planned none = refl
no_put JobEnded none = refl
no_put Picked none = refl
no_put PassEnded none = refl
no_put Changed none = refl

put_is_end : (step : LockStep) → is_put step ≡ true → is_end step ≡ true
put_is_end (Begun ticket number) puts = absurd (false≢true puts)
put_is_end (Put ticket number writes) puts = refl
put_is_end (Ended ticket) puts = refl
put_is_end Planned puts = absurd (false≢true puts)
put_is_end JobEnded puts = absurd (false≢true puts)
put_is_end Picked puts = absurd (false≢true puts)
put_is_end PassEnded puts = absurd (false≢true puts)
put_is_end Changed puts = absurd (false≢true puts)

abbrev AreBelow : ℕ → List LockEntry → Type 0
AreBelow bound es = AllByRecursion (λ (e : LockEntry). e.session < bound) es

-- the sessions below `clients` took turns, and the next one made the first commit
module _ (o : Origin) (clients seed : ℕ) (list : List LockEntry)
    (turns : (client : ℕ) → client < clients → AreTurns o (transfer_in seed client) client list)
    (numbers : AreBelow (clients + 1) list) (opened : IsOpenedBy clients list) where
  -- behind the first commit each step keeps the total
  step-total : (done : List LockEntry) (e : LockEntry) (rest : List LockEntry) → list ≡ done ++ e ∷ rest
      → 0 < count_by is_put clients done → total_after (history_by o done) ≡ 64000
      → total_after (history_by o (done ++ e ∷ [])) ≡ 64000
  step-total done e rest is behind total = by_put (is_put e.step) refl
    where
      by_session_of : is_put e.step ≡ true → (c : Bool) → (e.session == clients) ≡ c
          → total_after (history_by o (done ++ e ∷ [])) ≡ 64000
      by_session_of puts true own =
          let mine : e.session ≡ clients = grind (arith, nat_tests) in
          let parts = counted_parts is_put clients done (e ∷ rest) in
          let here = counted_first is_put clients e rest mine puts in
          let all = ap (count_by is_put clients) is in
          let once = opened.once in
          absurd (omega (arith, parts, here, all, once, behind))
      by_session_of puts false other =
          let numbered : e.session < clients + 1 = all_at (λ (d : LockEntry). d.session < clients + 1) done e rest
          (subst (AreBelow (clients + 1)) is numbers) in
          let less : e.session < clients = grind (arith, nat_tests, numbered, other) in
          let ends = turns e.session less done e rest is refl (put_is_end e.step puts) in
          turn-total o seed e.session (count_by is_end e.session done + 1) done e ends puts total

      by_put : (b : Bool) → is_put e.step ≡ b → total_after (history_by o (done ++ e ∷ [])) ≡ 64000
      by_put false none = ap total_after (history_of-same o.base o.number done e (no_put e.step none)) ∙ total
      by_put true puts = by_session_of puts (e.session == clients) refl

  rest-total : (done rest : List LockEntry) → list ≡ done ++ rest → 0 < count_by is_put clients done
      → total_after (history_by o done) ≡ 64000 → total_after (history_by o list) ≡ 64000
  rest-total done [] is behind total =
      ap (λ (es : List LockEntry). total_after (history_by o es)) (is ∙ append-nil done) ∙ total
  rest-total done (e ∷ rest) is behind total =
      let parts = counted_parts is_put clients done (e ∷ []) in
      rest-total (done ++ e ∷ []) rest (is ∙ sym (append_assoc done (e ∷ []) rest)) (omega (arith, parts, behind))
      (step-total done e rest is behind total)

  pub list-total : total_after (history_by o list) ≡ 64000
  list-total =
      rest-total (opened.before ++ opened.first ∷ []) opened.after
      (opened.parts ∙ sym (append_assoc opened.before (opened.first ∷ []) opened.after))
      (counted_one is_put clients opened.before opened.first [] opened.mine (ap is_put opened.puts))
      (ap total_after (history-put o opened.before opened.first opened.ticket opened.number
      (entries (first_balances 64)) opened.puts)
      ∙ total-first (history_by o opened.before))

-- ---- what was seen, and the whole list

module _ (o : Origin) (list : List LockEntry) (session : ℕ) (v : Knows) (origin_is : v.origin ≡ o)
    (session_is : v.session ≡ session)
    (seen : IsPrefix v.seen list) (own : v.own ≡ entries_by session list) where
  -- where the own steps are all of the session's in a first part, the rest has none
  pub none-behind : (first more : List LockEntry) → first ++ more ≡ list → v.own ≡ entries_by v.session first
      → AreBy is_aside session more
  none-behind first more all mine = others_are is_aside session first more
      (ap (entries_by session) all ∙ sym own ∙ mine ∙ ap (λ (s : ℕ). entries_by s first) session_is)

  pub played-in : (transfers : ℕ → Transfer) (txns : ℕ) → HasPlayed transfers txns v
      → (AreTurns o transfers session list) × (count_by is_end session list ≡ txns)
  played-in transfers txns played =
      let more = played.later.0 ++ seen.0 in
      let all : played.until ++ more ≡ list =
      sym (append_assoc played.until played.later.0 seen.0)
      ∙ ap (λ (es : List LockEntry). es ++ seen.0) played.later.1 ∙ seen.1 in
      let none = counted_aside session more (none-behind played.until more all played.mine) in
      let turns : AreTurns o transfers session played.until =
      subst (λ (s : ℕ). AreTurns o transfers s played.until) session_is
      (subst (λ (p : Origin). AreTurns p transfers v.session played.until) origin_is played.turns) in
      let parts = counted_parts is_end session played.until more in
      let count : count_by is_end session played.until ≡ txns =
      sym (ap (λ (s : ℕ). count_by is_end s played.until) session_is) ∙ played.count in (
        subst (AreTurns o transfers session) all (turns_more o transfers session played.until more turns none),
        sym (ap (count_by is_end session) all) ∙ omega (arith, parts, none, count),
      )

  -- none of what a client met is its own
  pub met-in : (note : List LockEntry) → HasMet note v → entries_by session note ≡ []
  met-in note met = by_own v.own refl
    where
      by_own : (es : List LockEntry) → v.own ≡ es → entries_by session note ≡ []
      by_own [] is = none_by session note list (begins_more note v.seen list met.seen seen) (sym own ∙ is)
      by_own (e ∷ es) is = subst (λ (s : ℕ). entries_by s note ≡ []) session_is (met.none (λ none. cc))

  -- the first commit stands in the list, and what is in front of it in the note
  pub opened-in : (note : List LockEntry) → HasOpened note v → (opened : IsOpenedBy session list) × IsPrefix opened.before note
  opened-in note has =
      let none = counted_none is_aside is_put session aside_is_no_put seen.0 (none-behind v.seen seen.0 seen.1 has.mine) in
      let counted = counted_parts is_put session v.seen seen.0 in
      let front = begins_more has.opened.before (has.opened.before ++ has.opened.first ∷ []) note (has.opened.first ∷ [], refl) has.noted in
      let at : (x : IsOpenedBy session v.seen) × IsPrefix x.before note =
      subst (λ (s : ℕ). (x : IsOpenedBy s v.seen) × IsPrefix x.before note) session_is (has.opened, front) in
      let opened = at.0 in
      let one = opened.once in
      let here : IsOpenedBy session list = record {
        before = opened.before;
        first = opened.first;
        after = opened.after ++ seen.0;
        parts = sym seen.1 ∙ ap (λ (es : List LockEntry). es ++ seen.0) opened.parts
            ∙ append_assoc opened.before (opened.first ∷ opened.after) seen.0;
        mine = opened.mine;
        ticket = opened.ticket;
        number = opened.number;
        puts = opened.puts;
        once = sym (ap (count_by is_put session) seen.1) ∙ omega (arith, counted, none, one);
      } in
      (here, at.1)

-- ---- all shops

module _ (o : Origin) (clients seed txns : ℕ) (list note : List LockEntry) where
  abbrev HasTurns : ℕ → Type 0
  HasTurns client = (AreTurns o (transfer_in seed client) client list) × (count_by is_end client list ≡ txns)
      × (entries_by client note ≡ [])

  each-client : (vs : List Knows) (first : ℕ) → first + length vs ≡ clients + 1 → AreDrivenBehind note seed txns first vs
      → AreIn o first list vs
      → (client : ℕ) → first ≤ client → client < clients → HasTurns client
  each-client [] first many driven are client low less = absurd driven
  each-client (v ∷ []) first many driven are client low less = absurd (omega (arith, many, low, less))
  each-client (v ∷ w ∷ vs) first many driven are client low less =
      by_test (client == first) refl
      (λ later. each-client (w ∷ vs) (first + 1) (omega (arith, many)) driven.2 are.4 client later less)
    where
      by_test : (b : Bool) → (client == first) ≡ b → (first + 1 ≤ client → HasTurns client) → HasTurns client
      by_test true is rest =
          let same : first ≡ client = grind (arith, nat_tests) in
          let played = played-in o list first v are.0 are.1 are.2 are.3 (transfer_in seed first) txns driven.0 in
          subst HasTurns same (played.0, played.1, met-in o list first v are.0 are.1 are.2 are.3 note driven.1)
      by_test false is rest = let later : first + 1 ≤ client = grind (arith, nat_tests, low, is) in rest later

  -- the first commit stands in the note
  abbrev HasFirst : ℕ → Type 0
  HasFirst session = (opened : IsOpenedBy session list) × IsPrefix opened.before note

  last-opened : (vs : List Knows) (first : ℕ) → first + length vs ≡ clients + 1 → AreDrivenBehind note seed txns first vs
      → AreIn o first list vs
      → HasFirst clients
  last-opened [] first many driven are = absurd driven
  last-opened (v ∷ []) first many driven are =
      let same : first ≡ clients = omega (arith, many) in
      subst HasFirst same (opened-in o list first v are.0 are.1 are.2 are.3 note driven)
  last-opened (v ∷ w ∷ vs) first many driven are = last-opened (w ∷ vs) (first + 1) (omega (arith, many)) driven.2 are.4

  all-counted : (kind : LockStep → Bool) (vs : List Knows) (first : ℕ) → first + length vs ≡ clients + 1
      → AreDrivenBehind note seed txns first vs → AreIn o first list vs
      → sum_of (by_session kind list) clients ≡ sum_of (by_session kind list) first + count_all kind vs
  all-counted kind [] first many driven are = absurd driven
  all-counted kind (v ∷ []) first many driven are =
      let same : first ≡ clients = omega (arith, many) in
      let here = ap (sum_of (by_session kind list)) same in
      omega (arith, here)
  all-counted kind (v ∷ w ∷ vs) first many driven are =
      let rest = all-counted kind (w ∷ vs) (first + 1) (omega (arith, many)) driven.2 are.4 in
      let up : first + 1 ≡ suc first = omega arith in
      let next = ap (sum_of (by_session kind list)) up in
      let own : count_by kind v.session v.own ≡ count_by kind first list =
      ap (λ (s : ℕ). count_by kind s v.own) are.1 ∙ ap (count_by kind first) are.3 ∙ counted_own kind first list in
      omega (arith, rest, next, own)

pub list-driven : (o : Origin) (clients seed txns : ℕ) (vs : List Knows) (list : List LockEntry)
    → length vs ≡ clients + 1 → AreDriven seed txns vs → IsClosed o vs list
    → IsDriven o clients txns seed (count_all is_put vs) (count_all is_ended vs) list
list-driven o clients seed txns vs list many (note, driven) closed =
    let from_first : 0 + length vs ≡ clients + 1 = omega (arith, many) in
    let numbers : AreBelow (clients + 1) list = subst (λ (n : ℕ). AreBelow n list) many closed.numbers in
    let first = last-opened o clients seed txns list note vs 0 from_first driven closed.all in
    let opened = first.0 in
    let each = each-client o clients seed txns list note vs 0 from_first driven closed.all in
    let turns : (client : ℕ) → client < clients → AreTurns o (transfer_in seed client) client list =
    λ client less. (each client (omega arith) less).0 in
    let puts = all-counted o clients seed txns list note is_put vs 0 from_first driven closed.all in
    let ended = all-counted o clients seed txns list note is_ended vs 0 from_first driven closed.all in
    let all = commits-counted (clients + 1) list numbers in
    let up : clients + 1 ≡ suc clients = omega arith in
    let next = ap (sum_of (by_session is_put list)) up in
    let one = opened.once in
    let both = sum-shared (by_session is_put list) (by_session is_ended list) txns clients
    (λ client less. sym (ends-counted client list) ∙ (each client (omega arith) less).1) in
    record {
      legal = closed.legal;
      only = numbers;
      opened = opened;
      behind = λ client less. none_by client opened.before note first.1 (each client (omega arith) less).2;
      turns = turns;
      each = λ client less. (each client (omega arith) less).1;
      commits_are = omega (arith, puts);
      conflicts_are = omega (arith, ended);
      both = omega (arith, puts, ended, both);
      number = omega (arith, puts, all, next, one);
      total = list-total o clients seed list turns numbers opened;
    }
