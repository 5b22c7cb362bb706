-- What a session knows of the steps under its store's lock, and what its calls make of that.
use Rattle.std.specs.Prelude.{◌≡◌, ◌≢◌, ◌⊎◌, ℕ, Bool, true, List, [], ◌∷◌, Option, None, Some, is_some}
use Rattle.atomic_table.specs.Seated.{TableId}
use Rattle.atomic_table.specs.declared.shared.Seat.{Seat}
use Rattle.vl_engine_model.specs.Decides.{Answered, Failed, Outcome}
use Rattle.vl_engine_model.specs.LockHistory.{IsLegal, entries_by, last_layout, number_of, open_job, open_pass, open_tickets}
use Rattle.vl_engine_model.specs.Ruling.{Ruling}
use Rattle.vl_engine_model.specs.declared.file_name.FileName.{FileName}
use Rattle.vl_engine_model.specs.declared.job.Job.{Job}
use Rattle.vl_engine_model.specs.declared.layout.Layout.{Layout}
use Rattle.vl_engine_model.specs.declared.lock_history.LockEntry.{LockEntry}
use Rattle.vl_engine_model.specs.declared.lock_history.LockStep.{LockStep}
use Rattle.vl_engine_model.specs.declared.lock_history.LockStep.TheVariants.{Begun, Changed, Ended, JobEnded, PassEnded, Picked}
use Rattle.vl_engine_model.specs.declared.lock_history.LockStep.TheVariants.{Planned, Put}
use Rattle.vl_model.specs.History.{History}
use Rattle.vlstore.specs.Lists.{history_by, layout_by}
use Rattle.vlstore.specs.Merges.{lent_in}
use Rattle.vlstore.specs.declared.locked.Origin.{Origin}
use Rattle.vl_turn.specs.Entries.{with_entry}
use Rattle.vl_turn.specs.Tokens.{IsTokenOf, MayJoin}
use Rattle.vl_turn.specs.Views.{next_of}
use Rattle.vl_turn.specs.declared.view.Own.{Own}
use Rattle.vl_turn.specs.declared.view.View.{View}
use mathlib.Core.List.{IsPrefix}

-- ---- what a session knows

-- Whose session it is: the name of its store's lock; what the engine was when the store was made, and whether its
-- disk told its bytes then. The number of the session, the steps that it has seen, and its own.
pub record Knows : Type 0 where
  pub store : TableId
  pub origin : Origin
  pub tells : Bool
  pub session : ℕ
  pub seen : List LockEntry
  pub own : List LockEntry

-- of what store a note is, and the steps that were seen
pub record Noted : Type 0 where
  pub store : TableId
  pub seen : List LockEntry

-- what a session has seen
abbrev pub noted : Knows → Noted
noted v = record { store = v.store; seen = v.seen }

-- the number of the one session of a token, and its entries
abbrev pub session_in : List (Own LockEntry) → ℕ
session_in [] = 0
session_in (o ∷ os) = o.number

abbrev pub own_in : List (Own LockEntry) → List LockEntry
own_in [] = []
own_in (o ∷ os) = o.entries

-- a token of this lock, which has one session
pub record IsSession {T : Type 0} (name : TableId) (start : T) (token : Seat (Option T) (View T LockEntry)) : Type 0 where
  pub token_of : IsTokenOf name start token
  pub session : ℕ
  pub own : List LockEntry
  pub owns : token.me.0.owns ≡ record { number = session; entries = own } ∷ []

-- the token of this lock that numbers sessions, and has none
pub record IsStore {T : Type 0} (name : TableId) (start : T) (token : Seat (Option T) (View T LockEntry)) : Type 0 where
  pub token_of : IsTokenOf name start token
  pub made : token.me.0.made ≡ Some (next_of token.me.0.made)
  pub owns : token.me.0.owns ≡ []

-- a token without a session
pub record IsNote {T : Type 0} (token : Seat (Option T) (View T LockEntry)) : Type 0 where
  pub may : MayJoin token.table_id token
  pub owns : token.me.0.owns ≡ []

-- So it is where disks of this type tell their bytes, as this session's store's did when it was made: nothing is
-- asked over others.
abbrev pub WhereTold : {D S : Type 0} → (D → Option S) → Knows → Type 0 → Type 0
WhereTold {D} told v is = (disk : D) → is_some (told disk) ≡ true → v.tells ≡ true → is

-- ---- what is a session's own

-- it began what has this ticket, which reads at this number, and didn't end it
abbrev pub IsOwnTicket : Knows → (ticket number : ℕ) → Type 0
IsOwnTicket v ticket number = number_of ticket (open_tickets [] v.own) ≡ Some number

-- a step that neither begins nor ends what has this ticket
abbrev pub LeavesTicket : ℕ → LockStep → Type 0
LeavesTicket ticket (Begun other number) = other ≢ ticket
LeavesTicket ticket (Put other number writes) = other ≢ ticket
LeavesTicket ticket (Ended other) = other ≢ ticket
LeavesTicket ticket Planned = Unit {0}
LeavesTicket ticket JobEnded = Unit {0}
LeavesTicket ticket Picked = Unit {0}
LeavesTicket ticket PassEnded = Unit {0}
LeavesTicket ticket Changed = Unit {0}

-- a step that neither begins nor ends a pass
abbrev pub LeavesPass : LockStep → Type 0
LeavesPass (Begun ticket number) = Unit {0}
LeavesPass (Put ticket number writes) = Unit {0}
LeavesPass (Ended ticket) = Unit {0}
LeavesPass Planned = Unit {0}
LeavesPass JobEnded = Unit {0}
LeavesPass Picked = ⊥
LeavesPass PassEnded = ⊥
LeavesPass Changed = Unit {0}

-- it planned this merge, and didn't end it
abbrev pub IsOwnJob : Knows → Job → Type 0
IsOwnJob v job = open_job None v.own ≡ Some (v.session, job)

-- the files that are lent to its merge, by its last own step
abbrev pub own_lent : Knows → Option (List ℕ)
own_lent v = lent_in (last_layout v.origin.layout v.own)

-- it began the pass over this segment, and didn't end it
abbrev pub IsOwnPass : Knows → ℕ → Type 0
IsOwnPass v segment = open_pass None v.own ≡ Some (v.session, segment)

-- ---- what a call makes of it

-- What was seen grew, and so did the own steps.
pub record GoesOn (v w : Knows) : Type 0 where
  pub store : w.store ≡ v.store
  pub origin : w.origin ≡ v.origin
  pub tells : w.tells ≡ v.tells
  pub session : w.session ≡ v.session
  pub seen : IsPrefix v.seen w.seen
  pub own : IsPrefix v.own w.own

-- A call of one step: what was seen grew, by steps of other sessions, to a list on whose history and layout the call
-- is answered as the ruling has it; and then by the call's own entry, where it makes one. The list is lawful. What
-- was halted is so still; and over disks that are sure not to fail no call fails, and nothing is halted that wasn't
-- when the store was made.
pub record Stepped {A : Type 0} (sure : Type 0) (v w : Knows) (ruling : Layout → History → Ruling A)
    (entry : ℕ → Layout → History → Outcome A → Option LockEntry) (outcome : Outcome A) : Type 0 where
  pub before : List LockEntry
  pub later : IsPrefix v.seen before
  -- the session's own steps before are all of its in that list
  pub mine : v.own ≡ entries_by v.session before
  pub answer : (a : A) → outcome ≡ Answered a → a ≡ (ruling (layout_by v.origin before) (history_by v.origin before)).answer
  pub failed : (name : FileName) → outcome ≡ Failed name → (layout_by v.origin before).halted ≡ None
  pub seen : w.seen ≡ with_entry before (entry v.session (layout_by v.origin before) (history_by v.origin before) outcome)
  pub own : w.own ≡ with_entry v.own (entry v.session (layout_by v.origin before) (history_by v.origin before) outcome)
  pub legal : IsLegal v.origin.number w.seen
  pub halted : (name : FileName) → (layout_by v.origin v.seen).halted ≡ Some name
      → (layout_by v.origin before).halted ≡ Some name
  pub unfailing : sure → (name : FileName) → outcome ≡ Failed name → ⊥
  pub runs : sure → v.origin.layout.halted ≡ None → (layout_by v.origin before).halted ≡ None

-- A merge that it planned, and didn't end, is so still, with the same files lent to it.
abbrev pub KeepsOwnMerge : Knows → Knows → Type 0
KeepsOwnMerge v w = (job : Job) → IsOwnJob v job → IsOwnJob w job × (own_lent w ≡ own_lent v)

-- A note was met: the longer of what was seen is seen, which begins with either.
pub record Meets (v w : Knows) (note : Noted) : Type 0 where
  pub on : GoesOn v w
  pub own : w.own ≡ v.own
  pub noted : IsPrefix note.seen w.seen
  pub one : (w.seen ≡ v.seen) ⊎ (w.seen ≡ note.seen)

-- A call that only looks: it is answered by what all steps come to that were seen then.
pub record Looked (v w : Knows) (answered : Layout → History → Type 0) : Type 0 where
  pub own : w.own ≡ v.own
  pub mine : v.own ≡ entries_by v.session w.seen
  pub legal : IsLegal v.origin.number w.seen
  pub answer : answered (layout_by v.origin w.seen) (history_by v.origin w.seen)
