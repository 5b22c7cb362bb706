-- A caller's own writes as entries of the number at which it reads, in front of all others.
use Rattle.std.specs.Prelude.{ℕ, Bool, List, map}
use Rattle.std.specs.Ordering.{is_lt}
use Rattle.vl_model.specs.Keys.{key_cmp}
use Rattle.vl_model.specs.declared.change.Change.{Change}
use Rattle.vl_model.specs.declared.change.Change.TheVariants.{Set, Delete}
use Rattle.vl_model.specs.declared.entry.Body.{Body}
use Rattle.vl_model.specs.declared.entry.Body.TheVariants.{Gone, Inline}
use Rattle.vl_model.specs.declared.entry.Entry.{Entry}
use Rattle.vl_model.specs.EntryOrder.{along}
use Rattle.vl_version.specs.declared.own.OwnCursor.{OwnCursor}

abbrev pub body_of : Change → Body
body_of (Set value) = Inline value
body_of Delete = Gone

abbrev pub own_entry : ℕ → List ℕ × Change → Entry
own_entry number write = record { key = write.0; version = number; body = body_of write.1 }

abbrev pub own_entries : ℕ → List (List ℕ × Change) → List Entry
own_entries number writes = map (own_entry number) writes

-- the write's key is below this one
abbrev pub is_key_below : List ℕ → List ℕ × Change → Bool
is_key_below key write = is_lt (key_cmp write.0 key)

-- what is left of the own writes, as the way goes
abbrev pub own_left : OwnCursor → List Entry
own_left cursor = along cursor.way (own_entries cursor.number cursor.writes.now)
