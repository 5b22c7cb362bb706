-- What was changed between two numbers, what a backup tells of it, and what the sources tell.
use Rattle.std.specs.Prelude.{ℕ, zero, suc, Bool, true, false, ◌&&◌, nat_le, nat_lt, if◌then◌else◌, List, [], ◌∷◌, map, Option, None, Some}
use Rattle.std.specs.List.{filter}
use Rattle.std.specs.FinMap.{empty, entries, insert}
use Rattle.std.specs.Option.{option_map}
use Rattle.vl_model.specs.History.{History, contents_at}
use Rattle.vl_model.specs.Keys.{Row, Stored, Writes}
use Rattle.vl_model.specs.Versions.{Numbered, all_numbered}
use Rattle.vl_model.specs.Winners.{Logs, resolved}
use Rattle.vl_model.specs.declared.change.Change.{Change}
use Rattle.vl_model.specs.declared.change.Change.TheVariants.{Set, Delete}
use Rattle.vl_model.specs.declared.entry.Entry.{Entry}

-- what was done to some keys, and then to others
abbrev pub written_over : Writes → List (List ℕ × Change) → Writes
written_over writes [] = writes
written_over writes (w ∷ ws) = insert (written_over writes ws) w.0 w.1

-- what these come to, one after the other
abbrev pub written_by : Writes → List Writes → Writes
written_by writes [] = writes
written_by writes (w ∷ later) = written_by (written_over writes (entries w)) later

abbrev pub is_between : (since number : ℕ) → Numbered → Bool
is_between since number c = nat_lt since c.0 && nat_le c.0 number

-- of the versions above a number and at most another, of each key the newest: a value or a deletion
abbrev pub changes_between : History → (since number : ℕ) → Writes
changes_between h since number =
    written_by empty (map (λ (c : Numbered). c.1) (filter (is_between since number) (all_numbered h)))

-- a row as a change
abbrev pub as_set : Row → List ℕ × Change
as_set row = (row.0, Set row.1)

-- What a backup tells, in key order: since 0 all that stands, so no deletions; since a later number each key whose
-- newest version is above it, with what that did.
abbrev pub changes : History → (since number : ℕ) → List (List ℕ × Change)
changes h zero number = map as_set (entries (contents_at h number))
changes h (suc since) number = entries (changes_between h (suc since) number)

-- ---- what the sources tell

-- a number above another
abbrev pub above : ℕ → Option ℕ → Option ℕ
above since None = None
above since (Some m) = if nat_lt since m then Some m else None

-- what a value or none makes of a key
abbrev pub change_to : Option Stored → Change
change_to (Some value) = Set value
change_to None = Delete

-- what an entry above a number tells
abbrev pub told_if : Bool → Option (Option Stored) → Option Change
told_if true led = option_map change_to led
told_if false led = None

-- what a winner tells of its key since a number: nothing where its version isn't above it
abbrev pub told : Logs → ℕ → Option Entry → Option Change
told logs since None = None
told logs since (Some e) = told_if (nat_lt since e.version) (resolved logs e.key e.body)
