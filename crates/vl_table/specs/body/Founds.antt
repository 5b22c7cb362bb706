-- The entry that a look-up has found, of the key that was asked for.
use Rattle.std.specs.Prelude.{◌≤◌, ℕ, List, length, take}
use Rattle.vl_model.specs.Limits.{max_inline_bytes}
use Rattle.vl_model.specs.declared.value.Value.{Value}
use Rattle.vl_model.specs.declared.entry.Body.{Body}
use Rattle.vl_model.specs.declared.entry.Body.TheVariants.{Inline, Gone, Far, Logged}
use Rattle.vl_model.specs.declared.entry.Entry.{Entry}
use Rattle.vl_table.specs.declared.body.found.Found.{Found}
use Rattle.vl_table.specs.declared.body.found.FoundBody.{FoundBody}
use Rattle.vl_table.specs.declared.body.found.FoundBody.TheVariants as found
use Rattle.vl_table.specs.declared.body.short_value.ShortValue.{ShortValue}

-- a value beside its key has at most 64 bytes
abbrev pub IsShort : Body → Type 0
IsShort (Inline value) = length value.bytes ≤ max_inline_bytes
IsShort Gone = Unit {0}
IsShort (Far pointer) = Unit {0}
IsShort (Logged value pointer) = Unit {0}

abbrev pub short_of : ShortValue → Value
short_of v = record { bytes = take v.len v.bytes; tag = v.tag }

abbrev pub found_body : FoundBody → Body
found_body (found.Inline value) = Inline (short_of value)
found_body found.Gone = Gone
found_body (found.Far pointer) = Far pointer

abbrev pub found_of : List ℕ → Found → Entry
found_of key f = record { key = key; version = f.version; body = found_body f.body }
