-- Where a value stands once it is in a table: beside its key, or in a log alone.
use Rattle.std.specs.Prelude.{◌≡◌, ℕ, ◌-◌, Bool, true, false, nat_le, nat_lt, if◌then◌else◌, List}
use Rattle.vl_model.specs.Frames.{record_length}
use Rattle.vl_model.specs.Keys.{value_length}
use Rattle.vl_model.specs.Limits.{max_inline_bytes}
use Rattle.vl_model.specs.declared.change.Change.TheVariants.{Set, Delete}
use Rattle.vl_model.specs.declared.entry.Entry.{Entry}
use Rattle.vl_model.specs.declared.entry.Body.{Body}
use Rattle.vl_model.specs.declared.entry.Body.TheVariants.{Inline, Gone, Far, Logged}
use Rattle.vl_model.specs.declared.pointer.Pointer.{Pointer}

-- a short value beside its key, a longer one where its record lies; the bodies of tables are so
-- already
abbrev pub placement : Body → Body
placement (Logged value pointer) =
    if nat_le (value_length value) max_inline_bytes then Inline value else Far pointer
placement (Inline value) = Inline value
placement Gone = Gone
placement (Far pointer) = Far pointer

abbrev pub placed : Entry → Entry
placed e = record e { body = placement e.body }

-- how long the value is to which a pointer leads in a log of a format: the record without its head and key
abbrev pub far_value_length : ℕ → List ℕ → Pointer → ℕ
far_value_length format key pointer = pointer.length - record_length format key Delete

-- Whether a table may have this body at a key: a value stands there exactly where it is short. A longer one
-- lies in a log of the format. Who doesn't know the log asks with format 1, which admits what each format does
abbrev pub is_body_placed : ℕ → List ℕ → Body → Bool
is_body_placed format key (Inline value) = nat_le (value_length value) max_inline_bytes
is_body_placed format key Gone = true
is_body_placed format key (Far pointer) = nat_lt max_inline_bytes (far_value_length format key pointer)
is_body_placed format key (Logged value pointer) = false

-- whether a table may have this entry
abbrev pub is_placed : ℕ → Entry → Bool
is_placed format e = is_body_placed format e.key e.body

-- an entry as the memtable of a log of a format has it: a value beside the pointer to its record, which has
-- the record's length
abbrev pub IsLoggedAt : ℕ → List ℕ → Body → Type 0
IsLoggedAt format key (Inline value) = ⊥
IsLoggedAt format key Gone = Unit {0}
IsLoggedAt format key (Far pointer) = ⊥
IsLoggedAt format key (Logged value pointer) = pointer.length ≡ record_length format key (Set value)

abbrev pub IsLogged : ℕ → Entry → Type 0
IsLogged format e = IsLoggedAt format e.key e.body
