-- What a session over a disk that never fails knows, as those who drive clients have it.
use Rattle.std.specs.List.{AllByRecursion}
use Rattle.std.specs.Prelude.{◌≡◌, ℕ, true, List, [], None, Option, Result, Ok, Err, ⊤}
use Rattle.vl_drive.specs.Knowing as drive
use Rattle.vl_drive.specs.Steps as steps
use Rattle.vl_drive.specs.Stores.{Opened}
use Rattle.vl_steps.specs.declared.done.Done.{Done}
use Rattle.vl_steps.specs.declared.fails.CommitFail.{CommitFail}
use Rattle.vl_steps.specs.declared.fails.CommitFail.TheVariants as commit
use Rattle.vl_steps.specs.declared.fails.MoveFail.{MoveFail}
use Rattle.vl_steps.specs.declared.fails.MoveFail.TheVariants as move
use Rattle.vl_reads.specs.declared.fails.ReadFail.{ReadFail}
use Rattle.vl_reads.specs.declared.fails.ReadFail.TheVariants as read
use Rattle.vl_steps.specs.declared.fails.StepFail.{StepFail}
use Rattle.vl_steps.specs.declared.fails.StepFail.TheVariants as step
use Rattle.vl_space.specs.declared.fails.SweepFail.{SweepFail}
use Rattle.vl_space.specs.declared.fails.SweepFail.TheVariants as sweep
use Rattle.vl_engine_model.specs.Start.{fresh_layout}
use Rattle.vl_model.specs.Limits.{max_room}
use Rattle.vl_txn.specs.declared.set_fail.SetFail.{SetFail}
use Rattle.vl_txn.specs.declared.set_fail.SetFail.TheVariants as set
use Rattle.vlstore.specs.Knowing.{Knows, Noted}
use Rattle.vlstore.specs.Lists.{past_of}
use Rattle.vlstore.specs.declared.locked.Origin.{Origin}
use Rattle.vlstore.specs.declared.shop.SureSession.{SureSession}

-- ---- what it knows

-- what the store was before the first step
abbrev pub origin_of : Origin → steps.Origin
origin_of o = record { base = past_of o.base; number = o.number; layout = o.layout }

-- no call of it was answered by a fault, and none ever is
abbrev pub known_by : Knows → drive.Knows
known_by v = record {
  store = v.store;
  origin = origin_of v.origin;
  session = v.session;
  seen = v.seen;
  own = v.own;
  faults = 0;
  sure = true;
}

abbrev pub note_of : Noted → drive.Noted
note_of n = record { store = n.store; seen = n.seen }

-- ---- a whole store

-- what a session over such a disk is made of
abbrev pub session_of : {D H R W : Type 0} → SureSession D H R W → Knows
session_of s = s.session

abbrev pub known_of : {D H R W : Type 0} → SureSession D H R W → drive.Knows
known_of s = known_by s.session

-- a store, as those who drive clients have it
abbrev pub opened_by : Knows → Opened
opened_by v = record { store = v.store; origin = origin_of v.origin; count = v.session }

-- a new store with the greatest room, which has nothing
abbrev pub first_origin : Origin
first_origin = record { base = []; number = 0; layout = fresh_layout max_room }

-- over a disk that told its bytes, in a store that wasn't halted
abbrev pub IsSure : Knows → Type 0
IsSure v = (v.tells ≡ true) × (v.origin.layout.halted ≡ None)

abbrev pub AreSure : List Knows → Type 0
AreSure vs = AllByRecursion IsSure vs

-- ---- faults

-- the disk failed, in this call or an earlier one
abbrev pub IsFaultyCommit : {H R : Type 0} → Result Done (CommitFail H R) → Type 0
IsFaultyCommit (Ok done) = ⊥
IsFaultyCommit (Err (commit.Halted name)) = Unit {0}
IsFaultyCommit (Err (commit.Exhausted txn)) = ⊥
IsFaultyCommit (Err (commit.Conflict key number)) = ⊥
IsFaultyCommit (Err (commit.Full txn length frame)) = ⊥
IsFaultyCommit (Err (commit.NoMemory txn)) = ⊥
IsFaultyCommit (Err (commit.Disk name)) = Unit {0}

abbrev pub IsFaultyStep : Result (Option ℕ) StepFail → Type 0
IsFaultyStep (Ok number) = ⊥
IsFaultyStep (Err (step.Halted name)) = Unit {0}
IsFaultyStep (Err (step.Exhausted counter)) = ⊥
IsFaultyStep (Err step.NoMemory) = ⊥
IsFaultyStep (Err (step.Disk name)) = Unit {0}

abbrev pub IsFaultySweep : Result ℕ SweepFail → Type 0
IsFaultySweep (Ok count) = ⊥
IsFaultySweep (Err (sweep.Halted name)) = Unit {0}
IsFaultySweep (Err (sweep.Disk name)) = Unit {0}

-- a read gave an answer, or memory was wanting
abbrev pub IsOnlyWant : {T : Type 0} → Result T ReadFail → Type 0
IsOnlyWant (Ok answer) = Unit {0}
IsOnlyWant (Err read.EmptyKey) = ⊥
IsOnlyWant (Err read.KeyTooLong) = ⊥
IsOnlyWant (Err read.NoMemory) = Unit {0}
IsOnlyWant (Err (read.Disk name)) = ⊥
IsOnlyWant (Err (read.Damaged name place)) = ⊥

-- so of a write
abbrev pub IsOnlyWantOfSet : Result ⊤ SetFail → Type 0
IsOnlyWantOfSet (Ok done) = Unit {0}
IsOnlyWantOfSet (Err set.EmptyKey) = ⊥
IsOnlyWantOfSet (Err set.KeyTooLong) = ⊥
IsOnlyWantOfSet (Err set.ValueTooLong) = ⊥
IsOnlyWantOfSet (Err set.TooBig) = ⊥
IsOnlyWantOfSet (Err set.NoMemory) = Unit {0}

-- it failed, or damage was met
abbrev pub IsFaultyMove : Result ℕ MoveFail → Type 0
IsFaultyMove (Ok count) = ⊥
IsFaultyMove (Err (move.Halted name)) = Unit {0}
IsFaultyMove (Err (move.Exhausted batch counter)) = ⊥
IsFaultyMove (Err (move.Full batch length frame)) = ⊥
IsFaultyMove (Err (move.NoMemory batch)) = ⊥
IsFaultyMove (Err (move.Read name)) = Unit {0}
IsFaultyMove (Err (move.Disk name)) = Unit {0}
IsFaultyMove (Err (move.Damaged batch name place)) = Unit {0}
