-- A lease is taken by a begin, a read and a write of the key, and a commit; and what comes of it where one of them is refused.
use Rattle.std.proofs.Common.{◌≡◌, ◌≤◌, ℕ, ◌+◌, Bool, true, false, cond, List, [], ◌∷◌, ◌++◌, length, refl, ap, sym, ◌∙◌, subst, arith, append-nil}
use Rattle.std.specs.Prelude.{None, Option, Some, nat_le}
use Rattle.std.specs.FinMap.{entries}
use Rattle.vl_drive.specs.Answers.{asked}
use Rattle.vl_drive.specs.Entries.{begin_entry}
use Rattle.vl_drive.specs.Knowing.{GoesOn, Knows, Looks, Stepped}
use Rattle.vl_drive.specs.Steps.{Origin, entry_of, history_by, layout_by}
use Rattle.vl_engine_model.specs.Decides.{Answered, NoMemory}
use Rattle.vl_engine_model.specs.Ruling.{leaving}
use Rattle.vl_engine_model.specs.Rulings.Begin as begin
use Rattle.vl_engine_model.specs.Rulings.Begin.{BeginAnswer, begin_ruling, begun}
use Rattle.vl_engine_model.specs.Rulings.Commit.{CommitAnswer, Conflict, Exhausted, Full, Halted, Transaction, commit_ruling}
use Rattle.vl_engine_model.specs.Tickets.{free_ticket, tickets_of}
use Rattle.vl_engine_model.specs.declared.layout.Layout.{Layout}
use Rattle.vl_engine_model.specs.declared.lock_history.LockEntry.{LockEntry}
use Rattle.vl_engine_model.specs.declared.lock_history.LockStep.TheVariants.{Begun, Put}
use Rattle.vl_engine_model.specs.laws.LockHistoryLaws.{history_of-extends, history_of-same}
use Rattle.vl_model.specs.Conflicts.{first_conflict}
use Rattle.vl_model.specs.History.{Extends, History, last_number, value_at}
use Rattle.vl_model.specs.Keys.{Stored}
use Rattle.vl_model.specs.Limits.{max_live}
use Rattle.vl_model.specs.Reads.{IsExplained, KeyRead, Read}
use Rattle.vl_model.specs.laws.HistoryLaws.{value_at-extends}
use Rattle.vl_sequence.proofs.Beginnings.{begins_more}
use Rattle.vl_sequence.proofs.Committed.{committed_try, makes_none}
use Rattle.vl_sequence.proofs.Tickets.{opens}
use Rattle.vl_sequence.specs.Causes.{Asks, Finds, IsBeginCause, IsCause, IsCommitCause, IsRaiseCause, IsRuled, WasFull, lease_txn}
use Rattle.vl_sequence.specs.Leases.{number_in}
use Rattle.vl_sequence.specs.Sequences.{Begins, Closes, MakesNone, Puts, TakesLease, lease_writes, most_number}
use Rattle.vl_sequence.specs.Takings.{last_value}
use Rattle.vl_sequence.specs.declared.fails.SeqFail.{SeqFail}
use Rattle.vl_sequence.specs.declared.fails.SeqFail.TheVariants as fail
use mathlib.Core.List.{IsPrefix}

-- ---- a beginning

begun_number : (l : Layout) (h : History) (ticket number : ℕ) → begin.Begun ticket number ≡ (begin_ruling l h).answer
    → number ≡ last_number h
begun_number l h ticket number is = by (nat_le max_live (length l.live)) is
  where
    free : ℕ
    free = free_ticket (tickets_of l.live)

    told : BeginAnswer → ℕ
    told (begin.Begun t n) = n
    told begin.TooMany = 0

    by : (b : Bool) → begin.Begun ticket number ≡ (cond b (leaving begin.TooMany h l)
        (leaving (begin.Begun free (last_number h)) h (begun l free (last_number h)))).answer → number ≡ last_number h
    by true is = absurd cc
    by false is = ap told is

pub begins : (v w : Knows) (ticket number : ℕ) → Stepped v w begin_ruling begin_entry (Answered (begin.Begun ticket number))
    → Begins v w ticket number
begins v w ticket number s = record {
  on = s.steps.on;
  number_is =
      begun_number (layout_by v.origin s.before) (history_by v.origin s.before) ticket number
      (s.answer (begin.Begun ticket number) refl)
      ∙ ap last_number (sym (history_of-same v.origin.base v.origin.number s.before e refl))
      ∙ ap (λ (o : Origin). last_number (history_by o (s.before ++ e ∷ []))) (sym s.steps.on.origin)
      ∙ ap (λ (es : List LockEntry). last_number (history_by w.origin es)) (sym s.steps.seen);
  opens = opens v w ticket number s;
  begun = e;
  own = s.steps.own;
  mine = refl;
  begins = refl;
}
  where
    e : LockEntry
    e = entry_of v.session (Begun ticket number) (begun (layout_by v.origin s.before) ticket number)

pub was_full : (v w : Knows) → Stepped v w begin_ruling begin_entry (Answered begin.TooMany) → WasFull w
was_full v w s = record {
  before = s.before;
  seen = ([], append-nil s.before ∙ sym s.steps.seen);
  answer = s.answer begin.TooMany refl ∙ ap (λ (o : Origin). (begin_ruling (layout_by o s.before) (history_by o s.before)).answer)
      (sym s.steps.on.origin);
}

pub full_makes_none : (v w : Knows) → Stepped v w begin_ruling begin_entry (Answered begin.TooMany) → MakesNone v w
full_makes_none v w s = makes_none v w s.before s.steps

pub want_makes_none : (v w : Knows) → Stepped v w begin_ruling begin_entry NoMemory → MakesNone v w
want_makes_none v w s = makes_none v w s.before s.steps

-- ---- a lease

abbrev pub Law : Type 0
Law = (h : History) (n : ℕ) (reads : List Read) → h.first ≤ n → first_conflict h n reads ≡ None → IsExplained h n reads
    → IsExplained h (last_number h) reads

-- what was read at a begin stands behind all steps before the commit, where nothing conflicts
still_read : Law → (o : Origin) (earlier before : List LockEntry) (key : List ℕ) → IsPrefix earlier before
    → first_conflict (history_by o before) (last_number (history_by o earlier)) (KeyRead key (last_value o key earlier) ∷ []) ≡ None
    → last_value o key earlier ≡ last_value o key before
still_read stay o earlier before key (more, is) none =
    let old = history_by o earlier in
    let new = history_by o before in
    let n = last_number old in
    let e : Extends old new = subst (λ (es : List LockEntry). Extends old (history_by o es)) is
    (history_of-extends o.base o.number earlier more) in
    (stay new n (KeyRead key (value_at old n key) ∷ []) (omega arith) none
    (sym (value_at-extends old new e n key (omega arith)), tt)).0

module _ (v u x : Knows) (begun number : ℕ) (key : List ℕ) (value : Option Stored) (b : Begins v u begun number) (looks : Looks u x)
    (read : value ≡ value_at (history_by u.origin u.seen) number key) where
  same : x.origin ≡ v.origin
  same = looks.on.origin ∙ b.on.origin

  number_is : number ≡ last_number (history_by v.origin u.seen)
  number_is = b.number_is ∙ ap (λ (o : Origin). last_number (history_by o u.seen)) b.on.origin

  value_is : value ≡ last_value v.origin key u.seen
  value_is = read ∙ ap (λ (o : Origin). value_at (history_by o u.seen) number key) b.on.origin
      ∙ ap (λ (n : ℕ). value_at (history_by v.origin u.seen) n key) number_is

  pub takes : Law → (w : Knows) (ticket first end : ℕ)
      → Puts x w ticket number (KeyRead key value ∷ []) (lease_writes key end) → number_in value ≡ Some first → end ≤ most_number
      → ticket ≡ begun → Closes true x w ticket → TakesLease v w key first end
  takes stay w ticket first end p told fits is c = record {
    before = p.before;
    entry = p.entry;
    later = begins_more v.seen u.seen p.before b.on.seen later;
    seen = p.seen;
    mine = p.mine ∙ looks.on.session ∙ b.on.session;
    ticket = ticket;
    puts = subst (λ (o : Origin). p.entry.step ≡ Put ticket (last_number (history_by o p.before) + 1) (entries (lease_writes key end)))
        same p.puts;
    told = ap number_in (sym still) ∙ ap number_in (sym value_is) ∙ told;
    fits = fits;
    one = λ commits. committed_try true v u x w begun number ticket commits b looks is c;
  }
    where
      later : IsPrefix u.seen p.before
      later = subst (λ (es : List LockEntry). IsPrefix es p.before) looks.seen p.later

      none : first_conflict (history_by v.origin p.before) (last_number (history_by v.origin u.seen))
          (KeyRead key (last_value v.origin key u.seen) ∷ []) ≡ None
      none = subst (λ (val : Option Stored). first_conflict (history_by v.origin p.before) (last_number (history_by v.origin u.seen))
          (KeyRead key val ∷ []) ≡ None) value_is
          (subst (λ (n : ℕ). first_conflict (history_by v.origin p.before) n (KeyRead key value ∷ []) ≡ None) number_is
          (subst (λ (o : Origin). first_conflict (history_by o p.before) number (KeyRead key value ∷ []) ≡ None) same p.none))

      still : last_value v.origin key u.seen ≡ last_value v.origin key p.before
      still = still_read stay v.origin u.seen p.before key later none

  -- ---- a refusal

  finds : (w : Knows) → GoesOn x w → Finds v w key value
  finds w on = record {
    earlier = u.seen;
    later = b.on.seen;
    seen = subst (λ (es : List LockEntry). IsPrefix es w.seen) looks.seen on.seen;
    value_is = value_is;
  }

  pub raise_cause : (w : Knows) (lease : ℕ) (why : SeqFail) → GoesOn x w → IsRaiseCause u x value lease why → IsCause v w key lease why
  raise_cause w lease (fail.Raced number) on is = absurd is
  raise_cause w lease fail.Spent on is = (value, finds w on, is)
  raise_cause w lease (fail.Malformed len) on is = (value, finds w on, is)
  raise_cause w lease fail.TooMany on is = absurd is
  raise_cause w lease (fail.Full length frame) on is = absurd is
  raise_cause w lease (fail.Exhausted counter) on is = absurd is
  raise_cause w lease (fail.Halted name) on is = absurd is
  raise_cause w lease (fail.Disk name) on is =
      let before = b.on.faults in let after = on.faults in omega (arith, before, is, after)
  raise_cause w lease (fail.Damaged name place) on is =
      let before = b.on.faults in let after = on.faults in omega (arith, before, is, after)
  raise_cause w lease fail.NoMemory on is = tt

  asks : (w : Knows) (lease ticket first : ℕ) (answer : CommitAnswer) → number_in value ≡ Some first → first + lease ≤ most_number
      → IsRuled x.origin x.seen w.seen (asked ticket number (KeyRead key value ∷ []) (entries (lease_writes key (first + lease)))) answer
      → Asks v w key lease answer
  asks w lease ticket first answer told fits r = record {
    earlier = u.seen;
    later = b.on.seen;
    first = first;
    told = ap number_in (sym value_is) ∙ told;
    fits = fits;
    ticket = ticket;
    ruled = record {
      before = r.before;
      later = subst (λ (es : List LockEntry). IsPrefix es r.before) looks.seen r.later;
      seen = r.seen;
      answer_is =
          r.answer_is ∙ ap (λ (o : Origin). (commit_ruling (layout_by o r.before) (history_by o r.before) txn).answer) same
          ∙ ap (λ (t : Transaction). (commit_ruling (layout_by v.origin r.before) (history_by v.origin r.before) t).answer) txn_is;
    };
  }
    where
      txn : Transaction
      txn = asked ticket number (KeyRead key value ∷ []) (entries (lease_writes key (first + lease)))

      txn_is : txn ≡ lease_txn v.origin key u.seen ticket (first + lease)
      txn_is =
          ap (λ (n : ℕ). asked ticket n (KeyRead key value ∷ []) (entries (lease_writes key (first + lease)))) number_is
          ∙ ap (λ (val : Option Stored). asked ticket (last_number (history_by v.origin u.seen)) (KeyRead key val ∷ [])
          (entries (lease_writes key (first + lease)))) value_is

  pub commit_cause : (w : Knows) (lease ticket first : ℕ) (why : SeqFail) → number_in value ≡ Some first → first + lease ≤ most_number
      → GoesOn x w
      → IsCommitCause x w (asked ticket number (KeyRead key value ∷ []) (entries (lease_writes key (first + lease)))) why
      → IsCause v w key lease why
  commit_cause w lease ticket first (fail.Raced n) told fits on is =
      (is.0, asks w lease ticket first (Conflict is.0 n) told fits is.1)
  commit_cause w lease ticket first fail.Spent told fits on is = absurd is
  commit_cause w lease ticket first (fail.Malformed len) told fits on is = absurd is
  commit_cause w lease ticket first fail.TooMany told fits on is = absurd is
  commit_cause w lease ticket first (fail.Full length frame) told fits on is =
      asks w lease ticket first (Full length frame) told fits is
  commit_cause w lease ticket first (fail.Exhausted counter) told fits on is =
      (is.0, asks w lease ticket first (Exhausted counter) told fits is.1)
  commit_cause w lease ticket first (fail.Halted name) told fits on is =
      let before = b.on.faults in
      let between = looks.on.faults in
      let risen = is.0 in
      (omega (arith, before, between, risen), asks w lease ticket first (Halted name) told fits is.1)
  commit_cause w lease ticket first (fail.Disk name) told fits on is =
      let before = b.on.faults in let between = looks.on.faults in omega (arith, before, between, is)
  commit_cause w lease ticket first (fail.Damaged name place) told fits on is = absurd is
  commit_cause w lease ticket first fail.NoMemory told fits on is = tt

pub begin_cause : (v w : Knows) (key : List ℕ) (lease : ℕ) (why : SeqFail) → IsBeginCause w why → IsCause v w key lease why
begin_cause v w key lease (fail.Raced number) is = absurd is
begin_cause v w key lease fail.Spent is = absurd is
begin_cause v w key lease (fail.Malformed len) is = absurd is
begin_cause v w key lease fail.TooMany is = is
begin_cause v w key lease (fail.Full length frame) is = absurd is
begin_cause v w key lease (fail.Exhausted counter) is = absurd is
begin_cause v w key lease (fail.Halted name) is = absurd is
begin_cause v w key lease (fail.Disk name) is = absurd is
begin_cause v w key lease (fail.Damaged name place) is = absurd is
begin_cause v w key lease fail.NoMemory is = tt
