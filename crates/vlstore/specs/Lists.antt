-- All steps that were made under a store's lock, and the history and the layout that they come to.
use Rattle.std.specs.Prelude.{ℕ, zero, suc, ◌+◌, List, [], ◌∷◌, map}
use Rattle.std.specs.FinMap.{from_sorted}
use Rattle.vl_engine_model.specs.LockHistory.{OpenThings, history_of, last_layout, nothing_open, open_things}
use Rattle.vl_engine_model.specs.Start.{fresh_layout}
use Rattle.vl_engine_model.specs.declared.layout.Layout.{Layout}
use Rattle.vl_engine_model.specs.declared.lock_history.LockEntry.{LockEntry}
use Rattle.vl_engine_model.specs.declared.lock_history.LockStep.{LockStep}
use Rattle.vl_engine_model.specs.declared.lock_history.LockStep.TheVariants.{Begun, Changed, Ended, JobEnded, PassEnded, Picked}
use Rattle.vl_engine_model.specs.declared.lock_history.LockStep.TheVariants.{Planned, Put}
use Rattle.vl_model.specs.History.{History, Past}
use Rattle.vl_model.specs.declared.change.Change.{Change}
use Rattle.vlstore.specs.declared.locked.Origin.{Origin}

-- the versions that were known when the store was made
abbrev pub past_of : List (ℕ × List (List ℕ × Change)) → Past
past_of base = from_sorted (map (λ (c : ℕ × List (List ℕ × Change)). (c.0, from_sorted c.1)) base)

-- the history behind these steps
abbrev pub history_by : Origin → List LockEntry → History
history_by o list = history_of (past_of o.base) o.number list

-- the layout behind them
abbrev pub layout_by : Origin → List LockEntry → Layout
layout_by o list = last_layout o.layout list

-- what they opened and didn't end
abbrev pub open_by : List LockEntry → OpenThings
open_by list = open_things nothing_open list

-- a new store, which has nothing
abbrev pub new_origin : Origin
new_origin = record { base = []; number = 0; layout = fresh_layout 0 }

-- ---- commits

abbrev pub number_put : LockStep → List ℕ → List ℕ
number_put (Begun ticket number) later = later
number_put (Put ticket number writes) later = number ∷ later
number_put (Ended ticket) later = later
number_put Planned later = later
number_put JobEnded later = later
number_put Picked later = later
number_put PassEnded later = later
number_put Changed later = later

-- the numbers of the commits among these steps, in their order
abbrev pub numbers_put : List LockEntry → List ℕ
numbers_put [] = []
numbers_put (e ∷ es) = number_put e.step (numbers_put es)

-- so many numbers, from this one on
abbrev pub numbers_from : ℕ → ℕ → List ℕ
numbers_from n zero = []
numbers_from n (suc count) = n ∷ numbers_from (n + 1) count
