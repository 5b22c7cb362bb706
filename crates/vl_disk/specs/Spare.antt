-- The room that a disk has for the next calls on a name, so that they want no memory.
use Rattle.std.specs.Prelude.{◌≡◌, ◌≢◌, ℕ, ◌≤◌, Bool, Option, IsTrue, IsSomeAnd}
use Rattle.vl_disk.specs.declared.name.Name.{Name}

-- the room of one name
pub record Spare : Type 0 where
  -- for one `create` or `cut`, and the sync after it
  pub change : Bool
  -- for one `append` of at most so many bytes, and the sync after it
  pub append : Option ℕ
  -- for one `hold`
  pub hold : Bool
  -- for one `lend`, and the `adopt` after it
  pub lend : Bool
  -- for the `adopt` of a file that is lent
  pub adopt : Bool

-- there is room for an append of so many bytes
abbrev pub CanAppend : ℕ → Spare → Type 0
CanAppend bytes spare = IsSomeAnd spare.append (λ room. bytes ≤ room)

-- there is room for a create or a cut, and for an append of so many bytes
pub record IsReady (bytes : ℕ) (spare : Spare) : Type 0 where
  pub change : IsTrue spare.change
  pub append : CanAppend bytes spare

-- all room is as it was
abbrev pub SameSpare : (Name → Spare) → (Name → Spare) → Type 0
SameSpare old new = (name : Name) → new name ≡ old name

-- the room of the other names is as it was
abbrev pub SameSpareElsewhere : Name → (Name → Spare) → (Name → Spare) → Type 0
SameSpareElsewhere name old new = (other : Name) → other ≢ name → new other ≡ old other

-- a `create` or a `cut` of this name uses no more than the room for it
pub record UsesChange (name : Name) (old new : Name → Spare) : Type 0 where
  pub append : (new name).append ≡ (old name).append
  pub hold : (new name).hold ≡ (old name).hold
  pub lend : (new name).lend ≡ (old name).lend
  pub elsewhere : SameSpareElsewhere name old new

-- an append to this name uses no more than the room for it
pub record UsesAppend (name : Name) (old new : Name → Spare) : Type 0 where
  pub change : (new name).change ≡ (old name).change
  pub hold : (new name).hold ≡ (old name).hold
  pub lend : (new name).lend ≡ (old name).lend
  pub elsewhere : SameSpareElsewhere name old new

-- a hold of this name uses no more than the room for it
pub record UsesHold (name : Name) (old new : Name → Spare) : Type 0 where
  pub change : (new name).change ≡ (old name).change
  pub append : (new name).append ≡ (old name).append
  pub lend : (new name).lend ≡ (old name).lend
  pub elsewhere : SameSpareElsewhere name old new

-- a lend of this name makes room for the adopt after it
pub record UsesLend (name : Name) (old new : Name → Spare) : Type 0 where
  pub adopt : IsTrue (new name).adopt
  pub change : (new name).change ≡ (old name).change
  pub append : (new name).append ≡ (old name).append
  pub hold : (new name).hold ≡ (old name).hold
  pub elsewhere : SameSpareElsewhere name old new

-- an adopted file may be held
pub record UsesAdopt (name : Name) (old new : Name → Spare) : Type 0 where
  pub hold : IsTrue (new name).hold
  pub elsewhere : SameSpareElsewhere name old new
