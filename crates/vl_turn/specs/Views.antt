-- What a token knows, and how each step and each call changes it.
use Rattle.std.specs.Prelude.{◌≡◌, ℕ, ◌+◌, true, false, List, [], ◌∷◌, ◌++◌, Option, Some, None}
use Rattle.vl_turn.specs.declared.view.Own.{Own}
use Rattle.vl_turn.specs.declared.view.View.{View}
use Rattle.vl_turn.specs.Entries.{longer, shorter, with_entry, own_after}

abbrev pub next_of : Option ℕ → ℕ
next_of None = 0
next_of (Some n) = n

module _ {T E : Type 0} where
  abbrev pub view : Option T → List E → List (Own E) → View T E
  view start seen owns = record { start = start; seen = seen; lagging = []; owns = owns; holds = false; made = None; closed = false }

  -- the token with which an empty lock is made
  abbrev pub root : T → View T E
  root start = record (view (Some start) [] []) { holds = true; made = Some 0; closed = true }

  -- a token that was joined to another knows nothing more
  abbrev pub spent : View T E
  spent = view None [] []

  -- take: the turn, and all of the list
  abbrev pub holding : View T E → List E → View T E
  holding v list = record v { seen = list; holds = true }

  -- enter
  abbrev pub entered : View T E → Option E → View T E
  entered v e = record v { seen = with_entry v.seen e; owns = own_after v.owns e }

  -- give
  abbrev pub gave : View T E → View T E
  gave v = record v { holds = false }

  -- the token keeps the turn, and takes the slot with nothing in it
  abbrev pub opened : View T E → View T E
  opened v = record v { closed = false }

  -- the token with which the lock was made, once the value is in it
  abbrev pub filled : View T E → View T E
  filled v = gave (opened v)

  -- the token keeps the turn, and the slot is home with nothing in it
  abbrev pub closing : View T E → View T E
  closing v = record v { closed = true }

  -- load: what was joined last is known to begin what was seen
  abbrev pub looked : View T E → View T E
  looked v = record v { lagging = [] }

  -- split
  abbrev pub copied : View T E → View T E
  copied v = view v.start v.seen []

  -- join
  abbrev pub joined : View T E → View T E → View T E
  joined v w = record v { seen = longer v.seen w.seen; lagging = shorter v.seen w.seen; owns = v.owns ++ w.owns }

  -- it numbers sessions, and has none itself
  abbrev pub IsRoot : View T E → Type 0
  IsRoot v = (v.made ≡ Some (next_of v.made)) × (v.owns ≡ [])

  -- number: one session more, which this token has for now
  abbrev pub numbered : ℕ → View T E → View T E
  numbered n v = record v { owns = record { number = n; entries = [] } ∷ v.owns; made = Some (n + 1) }

  abbrev pub counted : View T E → View T E
  counted v = numbered (next_of v.made) v

  -- a split that hands the own entries to the new token
  abbrev pub disowned : View T E → View T E
  disowned v = record v { owns = [] }

  abbrev pub dealt : View T E → View T E
  dealt v = view v.start v.seen v.owns
