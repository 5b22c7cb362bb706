-- What a client's calls come to on the way to its numbers.
use Rattle.std.specs.Prelude.{◌≡◌, ◌≤◌, ◌<◌, ◌⊎◌, ℕ, ◌+◌, Bool, false, true, List, [], ◌∷◌}
use Rattle.vl_drive.specs.Knowing.{Knows}
use Rattle.vl_sequence.specs.Causes.{IsCause}
use Rattle.vl_sequence.specs.Counted.{AreLeased, ids_key}
use Rattle.vl_sequence.specs.Sequences.{HasCommitted, IsReady}
use Rattle.vl_sequence.specs.declared.fails.SeqFail.{SeqFail}
use Rattle.vl_sequence.specs.declared.fails.SeqFail.TheVariants as fail
use Rattle.vl_sequence.specs.declared.sequence.Sequence.{Sequence}

-- ---- leases

-- A session made so many commits, and each leases the next so many numbers.
pub record HasLeased (key : List ℕ) (lease leases : ℕ) (v : Knows) : Type 0 where
  pub committed : HasCommitted leases v
  pub leased : AreLeased v.origin key lease v.session v.seen

-- so a client did, at most so often
pub record HasSome (lease most : ℕ) (v : Knows) : Type 0 where
  pub leases : ℕ
  pub few : leases ≤ most
  pub leased : HasLeased ids_key lease leases v

-- The next number of a lease was given, or the first of one that was taken for it.
pub record Moves (lease next end next' end' : ℕ) : Type 0 where
  pub held : next < end → (next' ≡ next + 1) × (end' ≡ end)
  pub taken : end ≤ next → end' + 1 ≡ next' + lease

-- ---- stops

-- another client was first, or the log was full: the number is asked for again
abbrev pub is_passing : SeqFail → Bool
is_passing (fail.Raced number) = true
is_passing fail.Spent = false
is_passing (fail.Malformed len) = false
is_passing fail.TooMany = false
is_passing (fail.Full length frame) = true
is_passing (fail.Exhausted counter) = false
is_passing (fail.Halted name) = false
is_passing (fail.Disk name) = false
is_passing (fail.Damaged name place) = false
is_passing fail.NoMemory = false

abbrev pub is_want : SeqFail → Bool
is_want (fail.Raced number) = false
is_want fail.Spent = false
is_want (fail.Malformed len) = false
is_want fail.TooMany = false
is_want (fail.Full length frame) = false
is_want (fail.Exhausted counter) = false
is_want (fail.Halted name) = false
is_want (fail.Disk name) = false
is_want (fail.Damaged name place) = false
is_want fail.NoMemory = true

-- why a client takes no more numbers
abbrev pub IsStop : (v w : Knows) → (key : List ℕ) → (lease : ℕ) → SeqFail → Type 0
IsStop v w key lease why = IsCause v w key lease why × (is_passing why ≡ false)

-- ---- of a client's sequence, before its calls and behind them

module _ {S T N : Type 0} (knows : S → Knows) where
  -- it may be asked for numbers
  abbrev pub CanGive : Sequence S T N → Type 0
  CanGive s = IsReady (knows s.shop) s.key s.lease s.next s.end

  -- Its session made so many commits, each of them a lease of its key and of its length.
  abbrev pub HasDrawn : (old : Sequence S T N) → (leases : ℕ) → (new : Sequence S T N) → Type 0
  HasDrawn old leases new = HasLeased old.key old.lease leases (knows new.shop)

  -- why it gives no more
  abbrev pub Stops : (old new : Sequence S T N) → SeqFail → Type 0
  Stops old new why = IsStop (knows old.shop) (knows new.shop) old.key old.lease why

abbrev pub MovesOn : {S T N : Type 0} → (old new : Sequence S T N) → Type 0
MovesOn old new = Moves old.lease old.next old.end new.next new.end

-- ---- of all clients

-- one of the clients stopped for this on its way
abbrev pub IsStopOfOne : (lease : ℕ) → SeqFail → List Knows → List Knows → Type 0
IsStopOfOne lease why [] ws = ⊥
IsStopOfOne lease why (v ∷ vs) [] = ⊥
IsStopOfOne lease why (v ∷ vs) (w ∷ ws) = IsStop v w ids_key lease why ⊎ IsStopOfOne lease why vs ws
