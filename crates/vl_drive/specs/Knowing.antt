-- What a shop knows of the steps under its store's lock, and what its calls make of that.
use Rattle.std.specs.Prelude.{◌≡◌, ◌⊎◌, ◌<◌, ◌≤◌, ℕ, Bool, true, false, List, [], ◌∷◌, ◌++◌, Option, None, Some}
use Rattle.std.specs.List.{AllByRecursion}
use Rattle.atomic_table.specs.Seated.{TableId}
use Rattle.vl_drive.specs.Steps.{Origin, history_by, is_aside, layout_by}
use Rattle.vl_engine_model.specs.Decides.{Answered, Outcome}
use Rattle.vl_engine_model.specs.LockHistory.{IsLegal, entries_by, number_of, open_tickets}
use Rattle.vl_engine_model.specs.Ruling.{Ruling}
use Rattle.vl_engine_model.specs.declared.layout.Layout.{Layout}
use Rattle.vl_engine_model.specs.declared.lock_history.LockEntry.{LockEntry}
use Rattle.vl_model.specs.History.{History}
use mathlib.Core.List.{IsPrefix}

-- ---- what a shop knows

-- Of which store's lock it is, and what the store was before the first step; the number of its session, the steps that
-- it has seen, and its own; how many of its calls were answered by a fault, and whether none ever is.
pub record Knows : Type 0 where
  pub store : TableId
  pub origin : Origin
  pub session : ℕ
  pub seen : List LockEntry
  pub own : List LockEntry
  pub faults : ℕ
  pub sure : Bool

-- of what store a note is, and the steps that were seen
pub record Noted : Type 0 where
  pub store : TableId
  pub seen : List LockEntry

abbrev pub noted_by : Knows → Noted
noted_by v = record { store = v.store; seen = v.seen }

-- ---- what a call makes of it

-- it began what has this ticket, which reads at this number, and didn't end it
abbrev pub IsOwnTicket : Knows → (ticket number : ℕ) → Type 0
IsOwnTicket v ticket number = number_of ticket (open_tickets [] v.own) ≡ Some number

-- The session is the same, and what was seen grew, and so did the own steps, and maybe the faults; of a sure one there
-- are none.
pub record GoesOn (v w : Knows) : Type 0 where
  pub store : w.store ≡ v.store
  pub origin : w.origin ≡ v.origin
  pub session : w.session ≡ v.session
  pub seen : IsPrefix v.seen w.seen
  pub own : IsPrefix v.own w.own
  pub faults : v.faults ≤ w.faults
  pub sure_is : w.sure ≡ v.sure
  pub sure : v.sure ≡ true → w.faults ≡ v.faults

-- a call that makes no step
pub record Looks (v w : Knows) : Type 0 where
  pub on : GoesOn v w
  pub seen : w.seen ≡ v.seen
  pub own : w.own ≡ v.own

-- a fault is counted, and nothing else is
abbrev pub IsCounted : Bool → Knows → Knows → Type 0
IsCounted true v w = v.faults < w.faults
IsCounted false v w = w.faults ≡ v.faults

abbrev pub with_entry : List LockEntry → Option LockEntry → List LockEntry
with_entry list None = list
with_entry list (Some e) = list ++ e ∷ []

-- What was seen grew by steps of other sessions, and then by one of the session's own, where there is one. The list is
-- lawful.
pub record Steps (v w : Knows) (before : List LockEntry) (entry : Option LockEntry) : Type 0 where
  pub on : GoesOn v w
  pub later : IsPrefix v.seen before
  -- the session's own steps before are all of its in that list
  pub mine : v.own ≡ entries_by v.session before
  pub seen : w.seen ≡ with_entry before entry
  pub own : w.own ≡ with_entry v.own entry
  pub legal : IsLegal v.origin.number w.seen

-- A call of one step is answered by its ruling, on the history and the layout that the steps before come to.
pub record Stepped {A : Type 0} (v w : Knows) (ruling : Layout → History → Ruling A)
    (entry : ℕ → Layout → History → Outcome A → Option LockEntry) (outcome : Outcome A) : Type 0 where
  pub before : List LockEntry
  pub steps : Steps v w before (entry v.session (layout_by v.origin before) (history_by v.origin before) outcome)
  pub answer : (a : A) → outcome ≡ Answered a → a ≡ (ruling (layout_by v.origin before) (history_by v.origin before)).answer

-- Calls of some steps of the session's own, which neither begin nor end a transaction or a view.
pub record GoesAside (v w : Knows) : Type 0 where
  pub on : GoesOn v w
  pub more : List LockEntry
  pub own : w.own ≡ v.own ++ more
  pub aside : AllByRecursion (λ (e : LockEntry). is_aside e.step ≡ true) more
  pub mine : w.own ≡ entries_by v.session w.seen
  pub legal : IsLegal v.origin.number w.seen

-- A note was met: the longer of what was seen is seen, which begins with either.
pub record Meets (v w : Knows) (note : Noted) : Type 0 where
  pub on : GoesOn v w
  pub own : w.own ≡ v.own
  pub noted : IsPrefix note.seen w.seen
  pub one : (w.seen ≡ v.seen) ⊎ (w.seen ≡ note.seen)
