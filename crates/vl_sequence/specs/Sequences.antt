-- What a sequence's calls come to.
use Rattle.std.specs.Prelude.{◌≡◌, ◌⊎◌, ◌≤◌, ◌<◌, ◌-◌, ◌^◌, ℕ, ◌+◌, Bool, List, [], ◌∷◌, ◌++◌, None, Some, length, true}
use Rattle.std.specs.FinMap.{empty, entries, insert}
use Rattle.byteorder.specs.Endian.{big_bytes}
use Rattle.vl_drive.specs.Knowing.{GoesOn, Knows}
use Rattle.vl_drive.specs.Modest.{HasFew}
use Rattle.vl_drive.specs.Playing.{HasAll}
use Rattle.vl_drive.specs.Steps.{count_by, history_by, is_put}
use Rattle.vl_engine_model.specs.LockHistory.{closed, open_tickets}
use Rattle.vl_engine_model.specs.declared.lock_history.LockEntry.{LockEntry}
use Rattle.vl_engine_model.specs.declared.lock_history.LockStep.TheVariants.{Begun, Put}
use Rattle.vl_model.specs.Conflicts.{first_conflict}
use Rattle.vl_model.specs.History.{last_number}
use Rattle.vl_model.specs.Keys.{Writes, is_key_length, untagged}
use Rattle.vl_model.specs.Reads.{Read}
use Rattle.vl_model.specs.declared.change.Change.TheVariants.{Set}
use Rattle.vl_sequence.specs.Leases.{Lease, number_in}
use Rattle.vl_sequence.specs.Takings.{Has, last_value, taken_by}
use mathlib.Core.List.{IsPrefix}

-- no end of a lease is above this number
abbrev pub most_number : ℕ
most_number = 2 ^ 63 - 1

-- what takes a lease writes the key alone
abbrev pub lease_writes : (key : List ℕ) → (end : ℕ) → Writes
lease_writes key end = insert empty key (Set (untagged (big_bytes 8 end)))

-- ---- a session's commits

-- So many of its transactions were committed. Behind each of its own steps at most one was open, and
-- now none is. Its own steps are all of its in what it has seen.
pub record HasCommitted (commits : ℕ) (v : Knows) : Type 0 where
  pub live : HasFew v.own
  pub none : open_tickets [] v.own ≡ []
  pub commits_are : count_by is_put v.session v.own ≡ commits
  pub all : HasAll v

-- ---- a sequence

-- What isn't given yet, from `next` up to the end, is the rest of a lease that the session took.
pub record HoldsRest (v : Knows) (key : List ℕ) (next end : ℕ) : Type 0 where
  pub lease : Lease
  pub took : Has (taken_by v.origin key v.seen) v.session lease
  pub end_is : lease.end ≡ end
  pub begun : lease.first ≤ next

-- A new sequence holds no lease.
abbrev pub Holds : Knows → (key : List ℕ) → (next end : ℕ) → Type 0
Holds v key next end = (end ≡ 0) ⊎ HoldsRest v key next end

-- It leases 1 to 1,000,000 numbers at once, of a lawful key.
pub record IsReady (v : Knows) (key : List ℕ) (lease next end : ℕ) : Type 0 where
  pub lawful : is_key_length (length key) ≡ true
  pub least : 1 ≤ lease
  pub most : lease ≤ 1000000
  pub held : next ≤ end
  pub fits : end ≤ most_number
  pub holds : Holds v key next end

-- ---- a number

-- A lease was taken: the session's last step, which is the last that it has seen, puts the end in the place of the first number, which
-- the key told behind all steps before. It is one commit more.
pub record TakesLease (v w : Knows) (key : List ℕ) (first end : ℕ) : Type 0 where
  pub before : List LockEntry
  pub entry : LockEntry
  pub later : IsPrefix v.seen before
  pub seen : w.seen ≡ before ++ entry ∷ []
  pub mine : entry.session ≡ v.session
  pub ticket : ℕ
  pub puts : entry.step ≡ Put ticket (last_number (history_by v.origin before) + 1) (entries (lease_writes key end))
  pub told : number_in (last_value v.origin key before) ≡ Some first
  pub fits : end ≤ most_number
  pub one : (commits : ℕ) → HasCommitted commits v → HasCommitted (commits + 1) w

-- The number is the next of the lease, and no step was made for it; or it is the first of a lease that was taken for it.
pub record Gives (v w : Knows) (key : List ℕ) (lease next end next' end' n : ℕ) : Type 0 where
  pub number : next' ≡ n + 1
  pub held : next < end → (n ≡ next) × (end' ≡ end) × (w ≡ v)
  pub taken : end ≤ next → (end' ≡ n + lease) × TakesLease v w key n end'

-- ---- on the way

-- nothing that the session began is open that wasn't before
abbrev pub LeavesNothing : Knows → Knows → Type 0
LeavesNothing v w = open_tickets [] w.own ≡ open_tickets [] v.own

-- The session made no step. Its own steps are all of its in what it has seen.
pub record MakesNone (v w : Knows) : Type 0 where
  pub own : w.own ≡ v.own
  pub all : HasAll w

-- A transaction was begun, and reads at the last number of what was seen then. Behind its end nothing of it is open.
pub record Begins (v w : Knows) (ticket number : ℕ) : Type 0 where
  pub on : GoesOn v w
  pub number_is : number ≡ last_number (history_by w.origin w.seen)
  pub opens : closed v.session ticket (open_tickets [] w.own) ≡ open_tickets [] v.own
  pub begun : LockEntry
  pub own : w.own ≡ v.own ++ begun ∷ []
  pub mine : begun.session ≡ v.session
  pub begins : begun.step ≡ Begun ticket number

-- It ended, with a commit or without one.
pub record Closes (committed : Bool) (v w : Knows) (ticket : ℕ) : Type 0 where
  pub on : GoesOn v w
  pub closes : open_tickets [] w.own ≡ closed v.session ticket (open_tickets [] v.own)
  pub ended : LockEntry
  pub own : w.own ≡ v.own ++ ended ∷ []
  pub mine : ended.session ≡ v.session
  pub ends : is_put ended.step ≡ committed
  pub all : HasAll w

-- It became the next commit, behind these steps; none of its keys was named since.
pub record Puts (v w : Knows) (ticket number : ℕ) (reads : List Read) (writes : Writes) : Type 0 where
  pub on : GoesOn v w
  pub before : List LockEntry
  pub entry : LockEntry
  pub later : IsPrefix v.seen before
  pub seen : w.seen ≡ before ++ entry ∷ []
  pub mine : entry.session ≡ v.session
  pub puts : entry.step ≡ Put ticket (last_number (history_by v.origin before) + 1) (entries writes)
  pub none : first_conflict (history_by v.origin before) number reads ≡ None
