-- Laws of clients' turns in a list of steps: how a turn goes on and ends, and what its reads and its conflict tell.
use Rattle.std.proofs.Common.{◌≡◌, ◌≢◌, inl, inr, ℕ, ◌+◌, ◌<◌, ◌^◌, Bool, true, false, ◌||◌, List, [], ◌∷◌, ◌++◌}
use Rattle.std.proofs.Common.{replicate, refl, ap, sym, ◌∙◌, subst, arith}
use Rattle.std.proofs.lemmas.Bool.{false≢true}
use Rattle.std.proofs.lemmas.Bool.Decides.{nat_tests}
use Rattle.std.proofs.lemmas.List.{append-nil, append_assoc, nil_from_length}
use Rattle.std.proofs.Math.Nat.{mod-lt}
use Rattle.std.specs.Prelude.{◌/◌, ◌%◌, ◌==◌, cond, length, nat_le, Option, Some, None}
use Rattle.std.specs.Ordering.{eq_by_cmp, is_eq}
use Rattle.byteorder.specs.Numbers.{big_number-reads_back}
use Rattle.vl_drive.specs.Accounts.{account_key, balance_bytes, balance_of}
use Rattle.vl_drive.specs.Numbers.{bits_from, transfer_of}
use Rattle.vl_drive.specs.Steps.{AreBy, Origin, count_by, history_by, is_aside, is_end, is_named}
use Rattle.vl_drive.specs.Turns.{AreTurns, EndsTurn, InTurn, is_crossed}
use Rattle.vl_drive.specs.declared.transfer.Transfer.{Transfer}
use Rattle.vl_drive.specs.laws.SinceLaws.{named-since, unnamed-since}
use Rattle.vl_drive.specs.laws.StepLaws.{Place, by_parts, counted_one, place_of}
use Rattle.vl_engine_model.specs.LockHistory.{commits_of, put_after}
use Rattle.vl_engine_model.specs.Ruling.{leaving}
use Rattle.vl_engine_model.specs.Rulings.Commit.{At, CommitAnswer, Conflict, Exhausted, Full, Halted, Nothing, Transaction}
use Rattle.vl_engine_model.specs.Rulings.Commit.{commit_checked, commit_ended, commit_frame, commit_ruling, commit_running}
use Rattle.vl_engine_model.specs.Rulings.Commit.{commit_unless, committed}
use Rattle.vl_engine_model.specs.declared.file_name.FileName.{FileName}
use Rattle.vl_engine_model.specs.declared.layout.Layout.{Layout}
use Rattle.vl_engine_model.specs.declared.lock_history.LockEntry.{LockEntry}
use Rattle.vl_engine_model.specs.declared.lock_history.LockStep.{LockStep}
use Rattle.vl_engine_model.specs.declared.lock_history.LockStep.TheVariants.{Begun}
use Rattle.vl_engine_model.specs.laws.LockHistoryLaws.{commits_of-append, history_of-extends}
use Rattle.vl_model.specs.Conflicts.{Named, first_conflict}
use Rattle.vl_model.specs.Frames.{frame_length}
use Rattle.vl_model.specs.Limits.{max_commit_number}
use Rattle.vl_model.specs.declared.counter.Counter.TheVariants.{Commit as CommitNumber}
use Rattle.vl_model.specs.History.{History, last_number, value_at}
use Rattle.vl_model.specs.Keys.{key_cmp}
use Rattle.vl_model.specs.laws.HistoryLaws.{value_at-extends}
use Rattle.vl_model.specs.laws.WinnerLaws.{key_tied, same_key}
use Rattle.vl_model.specs.Reads.{Read, is_read}

-- ---- a turn goes on

-- a turn begins with the step that begins its transaction
pub turn_begun : (o : Origin) (session ticket : ℕ) (list : List LockEntry) (e : LockEntry) → e.session ≡ session
    → e.step ≡ Begun ticket (last_number (history_by o list)) → InTurn o session ticket list [] (list ++ e ∷ [])
turn_begun o session ticket list e mine begins =
    record { begun = e; parts = refl; mine = mine; begins = begins; alone = tt }

-- and goes on while the session neither begins nor ends anything
pub turn_more : (o : Origin) (session ticket : ℕ) (earlier since list more : List LockEntry)
    → InTurn o session ticket earlier since list → AreBy is_aside session more
    → InTurn o session ticket earlier (since ++ more) (list ++ more)
turn_more o session ticket earlier since list more turn aside = record {
  begun = turn.begun;
  parts = ap (λ (es : List LockEntry). es ++ more) turn.parts ∙ append_assoc earlier (turn.begun ∷ since) more;
  mine = turn.mine;
  begins = turn.begins;
  alone = by_parts is_aside session since more turn.alone aside;
}

-- what stood at its beginning stands there in the history behind it
pub turn_values : (o : Origin) (session ticket : ℕ) (earlier since list : List LockEntry) (key : List ℕ)
    → InTurn o session ticket earlier since list
    → value_at (history_by o list) (last_number (history_by o earlier)) key
    ≡ value_at (history_by o earlier) (last_number (history_by o earlier)) key
turn_values o session ticket earlier since list key turn =
    ap (λ (es : List LockEntry). value_at (history_by o es) (last_number (history_by o earlier)) key) turn.parts
    ∙ value_at-extends (history_by o earlier) (history_by o (earlier ++ turn.begun ∷ since))
    (history_of-extends o.base o.number earlier (turn.begun ∷ since)) (last_number (history_by o earlier)) key (omega arith)

-- ---- a conflict is a crossing

-- these reads cover a transfer's two accounts and no other key
abbrev pub AreOfAccounts : Transfer → List Read → Type 0
AreOfAccounts t reads = (key : List ℕ)
    → is_read reads key ≡ (eq_by_cmp key_cmp key (account_key t.from) || eq_by_cmp key_cmp key (account_key t.to))

-- the commits behind a turn's beginning
pub commits-behind : (o : Origin) (session ticket : ℕ) (earlier since list : List LockEntry)
    → InTurn o session ticket earlier since list
    → commits_of list ≡ commits_of earlier ++ commits_of since
commits-behind o session ticket earlier since list turn =
    ap commits_of turn.parts ∙ commits_of-append earlier (turn.begun ∷ since)
    ∙ ap (λ (step : LockStep). commits_of earlier ++ put_after step (commits_of since)) turn.begins

or_true : (b : Bool) → (b || true) ≡ true
or_true true = refl
or_true false = refl

pub crossing_none : (o : Origin) (t : Transfer) (session ticket : ℕ) (earlier since list : List LockEntry)
    (reads : List Read) → InTurn o session ticket earlier since list → AreOfAccounts t reads
    → first_conflict (history_by o list) (last_number (history_by o earlier)) reads ≡ None → is_crossed t since ≡ false
crossing_none o t session ticket earlier since list reads turn cover none =
    ap (λ b. b || is_named to since) (unnamed from (cover from ∙ from_read)) ∙ unnamed to (cover to ∙ to_read)
  where
    from : List ℕ
    from = account_key t.from

    to : List ℕ
    to = account_key t.to

    from_read : (eq_by_cmp key_cmp from from || eq_by_cmp key_cmp from to) ≡ true
    from_read = ap (λ b. b || eq_by_cmp key_cmp from to) (ap is_eq (key_tied from))

    to_read : (eq_by_cmp key_cmp to from || eq_by_cmp key_cmp to to) ≡ true
    to_read = ap (λ b. eq_by_cmp key_cmp to from || b) (ap is_eq (key_tied to)) ∙ or_true (eq_by_cmp key_cmp to from)

    unnamed : (key : List ℕ) → is_read reads key ≡ true → is_named key since ≡ false
    unnamed = unnamed-since (history_by o list) (commits_of earlier) since
        (commits-behind o session ticket earlier since list turn) reads none

pub crossing_some : (o : Origin) (t : Transfer) (session ticket : ℕ) (earlier since list : List LockEntry)
    (reads : List Read) (named : Named) → InTurn o session ticket earlier since list → AreOfAccounts t reads
    → first_conflict (history_by o list) (last_number (history_by o earlier)) reads ≡ Some named → is_crossed t since ≡ true
crossing_some o t session ticket earlier since list reads named turn cover some =
    by (eq_by_cmp key_cmp named.0 from) (eq_by_cmp key_cmp named.0 to) refl refl
    (sym (cover named.0) ∙ since_then.0) since_then.1
  where
    from : List ℕ
    from = account_key t.from

    to : List ℕ
    to = account_key t.to

    since_then : (is_read reads named.0 ≡ true) × (is_named named.0 since ≡ true)
    since_then = named-since (history_by o list) (commits_of earlier) since
        (commits-behind o session ticket earlier since list turn) reads named some

    by : (a b : Bool) → eq_by_cmp key_cmp named.0 from ≡ a → eq_by_cmp key_cmp named.0 to ≡ b → (a || b) ≡ true
        → is_named named.0 since ≡ true → is_crossed t since ≡ true
    by true b is_from is_to either there =
        ap (λ c. c || is_named to since)
        (subst (λ (k : List ℕ). is_named k since ≡ true) (same_key named.0 from is_from) there)
    by false true is_from is_to either there =
        ap (λ c. is_named from since || c)
        (subst (λ (k : List ℕ). is_named k since ≡ true) (same_key named.0 to is_to) there)
        ∙ or_true (is_named from since)
    by false false is_from is_to either there = absurd (false≢true either)

-- ---- turns of a longer list

-- an end that isn't counted is none
no_end : (session : ℕ) (before : List LockEntry) (e : LockEntry) (after : List LockEntry)
    → count_by is_end session (before ++ e ∷ after) ≡ 0 → e.session ≡ session → is_end e.step ≡ true → ⊥
no_end session before e after none mine ends =
    let some = counted_one is_end session before e after mine ends in omega (arith, none, some)

-- where the session ended nothing, there is no turn
pub turns_none : (o : Origin) (transfers : ℕ → Transfer) (session : ℕ) (list : List LockEntry)
    → count_by is_end session list ≡ 0 → AreTurns o transfers session list
turns_none o transfers session list none before e after is mine ends =
    absurd (no_end session before e after (sym (ap (count_by is_end session) is) ∙ none) mine ends)

pub turns_more : (o : Origin) (transfers : ℕ → Transfer) (session : ℕ) (list more : List LockEntry)
    → AreTurns o transfers session list → count_by is_end session more ≡ 0 → AreTurns o transfers session (list ++ more)
turns_more o transfers session list more turns none before e after is mine ends =
    by (place_of list more before e after is)
  where
    by : Place list more before e after → EndsTurn o (transfers (count_by is_end session before + 1)) before e
    by (inl x) = turns before e x.0 x.1 mine ends
    by (inr x) = absurd (no_end session x.0 e after (sym (ap (count_by is_end session) x.2) ∙ none) mine ends)

-- and where it ends one more turn
pub turns_ended : (o : Origin) (transfers : ℕ → Transfer) (session : ℕ) (list : List LockEntry) (e : LockEntry)
    → AreTurns o transfers session list → e.session ≡ session
    → EndsTurn o (transfers (count_by is_end session list + 1)) list e → AreTurns o transfers session (list ++ e ∷ [])
turns_ended o transfers session list e turns mine ends before d after is its its_end =
    by (place_of list (e ∷ []) before d after is)
  where
    behind : (front : List LockEntry) → before ≡ list ++ front → e ∷ [] ≡ front ++ d ∷ after
        → EndsTurn o (transfers (count_by is_end session before + 1)) before d
    behind [] at last =
        let all : before ≡ list = at ∙ append-nil list in
        let same : e ≡ d = cc in
        subst (λ (x : LockEntry). EndsTurn o (transfers (count_by is_end session before + 1)) before x) same
        (subst (λ (es : List LockEntry). EndsTurn o (transfers (count_by is_end session es + 1)) es e) (sym all) ends)
    behind (f ∷ []) at last = absurd cc
    behind (f ∷ g ∷ front) at last = absurd cc

    by : Place list (e ∷ []) before d after → EndsTurn o (transfers (count_by is_end session before + 1)) before d
    by (inl x) = turns before d x.0 x.1 its its_end
    by (inr x) = behind x.0 x.1 x.2

-- ---- what a commit's ruling answers

-- what an answer tells of the first conflict and of the writes
abbrev Tells : History → Transaction → Option Named → CommitAnswer → Type 0
Tells h t conflict (At number) = (number ≡ last_number h + 1) × (conflict ≡ None)
Tells h t conflict Nothing = t.writes ≡ []
Tells h t conflict (Halted name) = Unit {0}
Tells h t conflict (Exhausted counter) = Unit {0}
Tells h t conflict (Conflict key number) = conflict ≡ Some (key, number)
Tells h t conflict (Full length frame) = Unit {0}

module _ (l : Layout) (h : History) (t : Transaction) where
  checked_tells : (conflict : Option Named) → Tells h t conflict (commit_checked l h t conflict).answer
  checked_tells (Some named) = refl
  checked_tells None = elim (nat_le (l.active.length + frame_length l.active.format (commit_frame h t.writes)) l.room) as
      (λ fits. Tells h t None (cond fits (committed l h t)
      (leaving (Full l.active.length (frame_length l.active.format (commit_frame h t.writes))) h l)).answer)
      [ true ↦ (refl, refl) | false ↦ tt ]

  running_tells : (conflict : Option Named) → Tells h t conflict (commit_running l h t conflict).answer
  running_tells conflict = by_test (length t.writes == 0) refl
    where
      by_test : (b : Bool) → (length t.writes == 0) ≡ b
          → Tells h t conflict (cond b (commit_ended Nothing l h t)
          (cond (nat_le max_commit_number (last_number h)) (leaving (Exhausted CommitNumber) h l)
          (commit_checked l h t conflict))).answer
      by_test true is = let none : length t.writes ≡ 0 = grind (arith, nat_tests) in nil_from_length t.writes none
      by_test false is = elim (nat_le max_commit_number (last_number h)) as
          (λ spent. Tells h t conflict
          (cond spent (leaving (Exhausted CommitNumber) h l) (commit_checked l h t conflict)).answer)
          [ true ↦ tt | false ↦ checked_tells conflict ]

  answer_tells : (halted : Option FileName) (conflict : Option Named)
      → Tells h t conflict (commit_unless halted l h t conflict).answer
  answer_tells (Some name) conflict = tt
  answer_tells None conflict = running_tells conflict

  ruling_tells : (answer : CommitAnswer) → answer ≡ (commit_ruling l h t).answer
      → Tells h t (first_conflict h t.number t.reads) answer
  ruling_tells answer is = subst (Tells h t (first_conflict h t.number t.reads)) (sym is)
      (answer_tells l.halted (first_conflict h t.number t.reads))

pub commit_at : (l : Layout) (h : History) (t : Transaction) (number : ℕ) → At number ≡ (commit_ruling l h t).answer
    → (number ≡ last_number h + 1) × (first_conflict h t.number t.reads ≡ None)
commit_at l h t number is = ruling_tells l h t (At number) is

pub commit_conflict : (l : Layout) (h : History) (t : Transaction) (key : List ℕ) (number : ℕ)
    → Conflict key number ≡ (commit_ruling l h t).answer → first_conflict h t.number t.reads ≡ Some (key, number)
commit_conflict l h t key number is = ruling_tells l h t (Conflict key number) is

pub commit_nothing : (l : Layout) (h : History) (t : Transaction) → Nothing ≡ (commit_ruling l h t).answer → t.writes ≡ []
commit_nothing l h t is = ruling_tells l h t Nothing is

-- ---- accounts

-- fewer than 64 steps on, modulo 64, is another place
another_place : (place more : ℕ) → place < 64 → more < 63 → place ≢ (place + 1 + more) % 64
another_place place more low few same = omega (arith, low, few, same)

-- a transfer goes from one of 64 accounts to another one
pub two_accounts : (x : ℕ)
    → ((transfer_of x).from < 64) × ((transfer_of x).to < 64) × ((transfer_of x).from ≢ (transfer_of x).to)
two_accounts x =
    let from : bits_from 33 64 x < 64 = mod-lt (x / 2 ^ 33) (omega arith) in
    let more : bits_from 40 63 x < 63 = mod-lt (x / 2 ^ 40) (omega arith) in
    let to : (transfer_of x).to < 64 = mod-lt (bits_from 33 64 x + 1 + bits_from 40 63 x) (omega arith) in
    (from, to, another_place (bits_from 33 64 x) (bits_from 40 63 x) from more)

-- a balance is read as it was written
pub balance_read : (balance : ℕ) → balance < 2 ^ 64 → balance_of (balance_bytes balance) ≡ balance
balance_read balance fits = big_number-reads_back 8 balance (replicate 72 0) fits
