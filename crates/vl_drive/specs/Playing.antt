-- What a client's calls come to on the way through its turns.
use Rattle.std.specs.Prelude.{◌≡◌, ◌<◌, ℕ, ◌+◌, Bool, true, false, List, [], ◌∷◌, ◌++◌, None, Some}
use Rattle.vl_drive.specs.Clients.{HasPlayed}
use Rattle.vl_drive.specs.Knowing.{GoesOn, IsOwnTicket, Knows}
use Rattle.vl_drive.specs.Modest.{IsBusy, IsIdle}
use Rattle.vl_drive.specs.Steps.{AreBy, Origin, count_by, history_by, is_aside, is_end, is_ended, is_put, layout_by}
use Rattle.vl_drive.specs.Turns.{EndsTurn, InTurn}
use Rattle.vl_drive.specs.declared.commit.Tried.{Tried}
use Rattle.vl_drive.specs.declared.commit.Tried.TheVariants as tried
use Rattle.vl_drive.specs.declared.transfer.Transfer.{Transfer}
use Rattle.vl_drive.specs.declared.trouble.Cause.{Cause}
use Rattle.vl_drive.specs.declared.trouble.Cause.TheVariants as cause
use Rattle.vl_drive.specs.declared.trouble.Trouble.{Trouble}
use Rattle.vl_drive.specs.declared.trouble.Trouble.TheVariants as trouble
use Rattle.vl_engine_model.specs.LockHistory.{entries_by}
use Rattle.vl_engine_model.specs.Rulings.Begin.{TooMany, begin_ruling}
use Rattle.vl_engine_model.specs.Rulings.Commit.{Exhausted, Transaction, commit_ruling}
use Rattle.vl_engine_model.specs.declared.lock_history.LockEntry.{LockEntry}
use Rattle.vl_engine_model.specs.declared.lock_history.LockStep.{LockStep}
use Rattle.vl_engine_model.specs.declared.lock_history.LockStep.TheVariants.{Ended, Put}
use Rattle.vl_model.specs.Conflicts.{Named, first_conflict}
use Rattle.vl_model.specs.History.{last_number}
use Rattle.vl_model.specs.declared.counter.Counter.TheVariants.{Commit as CommitNumber}
use mathlib.Core.List.{IsPrefix}

-- ---- causes

-- of steps that were seen, some come to a layout in which as many live as may
pub record WasFull (w : Knows) : Type 0 where
  pub before : List LockEntry
  pub seen : IsPrefix before w.seen
  pub answer : (begin_ruling (layout_by w.origin before) (history_by w.origin before)).answer ≡ TooMany

-- some come to a history with the last number, behind which a commit of something is refused for that
pub record WasExhausted (w : Knows) : Type 0 where
  pub before : List LockEntry
  pub seen : IsPrefix before w.seen
  pub txn : Transaction
  pub answer : (commit_ruling (layout_by w.origin before) (history_by w.origin before) txn).answer ≡ Exhausted CommitNumber

-- why calls stopped: a fault was counted, or it is seen in the steps
abbrev pub IsCause : (v w : Knows) → Cause → Type 0
IsCause v w cause.Disk = v.faults < w.faults
IsCause v w (cause.Damaged name place) = v.faults < w.faults
IsCause v w cause.TooMany = WasFull w
IsCause v w cause.Exhausted = WasExhausted w

abbrev pub IsTrouble : (v w : Knows) → Trouble → Type 0
IsTrouble v w trouble.NoMemory = Unit {0}
IsTrouble v w (trouble.Stopped why) = IsCause v w why

-- ---- a turn

-- The session's own steps are all of its in what it has seen.
abbrev pub HasAll : Knows → Type 0
HasAll v = v.own ≡ entries_by v.session v.seen

-- A transaction was begun, with this ticket and at this number, behind these steps.
pub record HasBegun (ticket number : ℕ) (before : List LockEntry) (v w : Knows) : Type 0 where
  pub later : IsPrefix v.seen before
  pub mine : v.own ≡ entries_by v.session before
  pub turn : InTurn w.origin w.session ticket before [] w.seen
  pub number_is : number ≡ last_number (history_by w.origin before)
  pub all : HasAll w

-- What was seen grew, and the session itself neither began nor ended anything.
pub record Waits (v w : Knows) : Type 0 where
  pub on : GoesOn v w
  pub more : List LockEntry
  pub seen : w.seen ≡ v.seen ++ more
  pub aside : AreBy is_aside v.session more
  pub all : HasAll w

-- how a commit of a transaction ended, behind these steps
abbrev pub IsEndOf : Origin → Transaction → (before : List LockEntry) → (committed : Bool) → LockStep → Type 0
IsEndOf o txn before true step =
    (step ≡ Put txn.ticket (last_number (history_by o before) + 1) txn.writes)
    × (first_conflict (history_by o before) txn.number txn.reads ≡ None)
IsEndOf o txn before false step =
    (step ≡ Ended txn.ticket) × (named : Named) × (first_conflict (history_by o before) txn.number txn.reads ≡ Some named)

-- The session's transaction was committed, or met a conflict. Until then the session neither began nor ended anything.
pub record HasEnded (txn : Transaction) (committed : Bool) (v w : Knows) : Type 0 where
  pub on : GoesOn v w
  pub more : List LockEntry
  pub ended : LockEntry
  pub seen : w.seen ≡ (v.seen ++ more) ++ ended ∷ []
  pub aside : AreBy is_aside v.session more
  pub mine : ended.session ≡ v.session
  pub end : IsEndOf v.origin txn (v.seen ++ more) committed ended.step
  pub all : HasAll w

-- One try to commit it: it ended, or comes back as it was, and is still the session's own.
abbrev pub HasTried : {T : Type 0} → T → Transaction → (v w : Knows) → Tried T → Type 0
HasTried txn asked v w (tried.Ended committed) = HasEnded asked committed v w
HasTried txn asked v w (tried.Again back) = (back ≡ txn) × Waits v w × IsOwnTicket w asked.ticket asked.number

-- what of the session's own is open behind that try
abbrev pub StaysModest : {T : Type 0} → (ticket number turns : ℕ) → Knows → Tried T → Type 0
StaysModest ticket number turns w (tried.Ended committed) = IsIdle (turns + 1) w
StaysModest ticket number turns w (tried.Again back) = IsBusy ticket number turns w

-- A turn was taken: it was begun behind steps among which were all of the session's own.
pub record HasTaken (t : Transfer) (committed : Bool) (v w : Knows) : Type 0 where
  pub on : GoesOn v w
  pub start : List LockEntry
  pub later : IsPrefix v.seen start
  pub mine : v.own ≡ entries_by v.session start
  pub turn : List LockEntry
  pub ended : LockEntry
  pub seen : w.seen ≡ (start ++ turn) ++ ended ∷ []
  pub quiet : count_by is_end v.session turn ≡ 0
  pub owner : ended.session ≡ v.session
  pub end : EndsTurn v.origin t (start ++ turn) ended
  pub committed_is : is_put ended.step ≡ committed
  pub all : HasAll w

-- So many turns were taken, of which so many were commits and so many conflicts.
pub record HasScored (transfers : ℕ → Transfer) (turns commits conflicts : ℕ) (v : Knows) : Type 0 where
  pub played : HasPlayed transfers turns v
  pub commits_are : commits ≡ count_by is_put v.session v.own
  pub conflicts_are : conflicts ≡ count_by is_ended v.session v.own
