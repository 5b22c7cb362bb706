-- What the shops know when all turns were taken.
use Rattle.std.specs.Prelude.{◌≡◌, ◌≢◌, ℕ, ◌+◌, Bool, List, [], ◌∷◌, ◌++◌}
use Rattle.std.specs.List.{AllByRecursion}
use Rattle.atomic_table.specs.Seated.{TableId}
use Rattle.vl_drive.specs.Knowing.{Knows}
use Rattle.vl_drive.specs.Numbers.{transfer_in}
use Rattle.vl_drive.specs.Steps.{count_by, is_end}
use Rattle.vl_drive.specs.Turns.{AreTurns, IsOpenedBy}
use Rattle.vl_drive.specs.declared.transfer.Transfer.{Transfer}
use Rattle.vl_engine_model.specs.LockHistory.{entries_by}
use Rattle.vl_engine_model.specs.declared.lock_history.LockEntry.{LockEntry}
use Rattle.vl_engine_model.specs.declared.lock_history.LockStep.{LockStep}
use mathlib.Core.List.{IsPrefix}

-- A client took so many turns. Up to the last of them its own steps are all of its in what it has seen.
pub record HasPlayed (transfers : ℕ → Transfer) (txns : ℕ) (v : Knows) : Type 0 where
  pub until : List LockEntry
  pub later : IsPrefix until v.seen
  pub mine : v.own ≡ entries_by v.session until
  pub turns : AreTurns v.origin transfers v.session until
  pub count : count_by is_end v.session until ≡ txns

-- It met a note of these steps before its own first one: it has seen them, and where it made a step none of
-- them is its own.
pub record HasMet (note : List LockEntry) (v : Knows) : Type 0 where
  pub seen : IsPrefix note v.seen
  pub none : v.own ≢ [] → entries_by v.session note ≡ []

-- The last shop made the first commit, which is one of the noted steps, and no other one.
pub record HasOpened (note : List LockEntry) (v : Knows) : Type 0 where
  pub mine : v.own ≡ entries_by v.session v.seen
  pub opened : IsOpenedBy v.session v.seen
  pub noted : IsPrefix (opened.before ++ opened.first ∷ []) note

-- all but the last are clients, which count from this number on and met this note
abbrev pub AreDrivenBehind : (note : List LockEntry) → (seed txns client : ℕ) → List Knows → Type 0
AreDrivenBehind note seed txns client [] = ⊥
AreDrivenBehind note seed txns client (v ∷ []) = HasOpened note v
AreDrivenBehind note seed txns client (v ∷ w ∷ vs) =
    HasPlayed (transfer_in seed client) txns v × HasMet note v
    × AreDrivenBehind note seed txns (client + 1) (w ∷ vs)

-- they met one note, which has the first commit
abbrev pub AreDriven : (seed txns : ℕ) → List Knows → Type 0
AreDriven seed txns vs = (note : List LockEntry) × AreDrivenBehind note seed txns 0 vs

-- how many of the clients' own steps are of a kind
abbrev pub count_all : (LockStep → Bool) → List Knows → ℕ
count_all kind [] = 0
count_all kind (v ∷ []) = 0
count_all kind (v ∷ w ∷ vs) = count_by kind v.session v.own + count_all kind (w ∷ vs)

-- ---- before the first turn

-- of one store, and without a step of their own
pub record IsNewAt (store : TableId) (v : Knows) : Type 0 where
  pub store_is : v.store ≡ store
  pub own : v.own ≡ []

abbrev pub AreNew : List Knows → Type 0
AreNew vs = (store : TableId) × AllByRecursion (IsNewAt store) vs
