-- How the entries of a table of each format are spelled, and which may stand there.
use Rattle.std.specs.Prelude.{◌≡◌, ◌<◌, ◌≤◌, ◌^◌, ℕ, true, false, if◌then◌else◌, List, [], ◌∷◌, ◌++◌, length}
use Rattle.byteorder.specs.Endian.{big_bytes}
use Rattle.vl_model.specs.Keys.{is_key_length}
use Rattle.vl_model.specs.Limits.{max_inline_bytes}
use Rattle.vl_model.specs.declared.value.Value.{Value}
use Rattle.vl_model.specs.declared.entry.Entry.{Entry}
use Rattle.vl_model.specs.declared.entry.Body.{Body}
use Rattle.vl_model.specs.declared.entry.Body.TheVariants.{Inline, Gone, Far, Logged}
use Rattle.vl_model.specs.declared.pointer.Pointer.{Pointer}
use Rattle.vl_model.specs.Formats.{has_tags}
use Rattle.vl_table.specs.declared.body.entry_ref.EntryRef.{EntryRef}
use Rattle.vl_table.specs.declared.body.entry_ref.BodyRef.{BodyRef}
use Rattle.vl_table.specs.declared.body.entry_ref.BodyRef.TheVariants as refs
use Rattle.vl_table.specs.declared.body.entry_ref.ValueRef.{ValueRef}

-- ---- keys and pointers

-- a key behind its length
abbrev pub key_bytes : List ℕ → List ℕ
key_bytes key = big_bytes 2 (length key) ++ key

-- segment, place and length, in 4, 8 and 4 bytes
abbrev pub pointer_bytes : Pointer → List ℕ
pointer_bytes p = big_bytes 4 p.segment ++ big_bytes 8 p.place ++ big_bytes 4 p.length

-- the numbers fit their bytes
pub record IsPointer (p : Pointer) : Type 0 where
  pub segment : p.segment < 2 ^ 32
  pub place : p.place < 2 ^ 64
  pub length : p.length < 2 ^ 32

-- ---- values beside their keys

-- a value's tag, where the format has them
abbrev pub tag_bytes : ℕ → ℕ → List ℕ
tag_bytes format tag = if has_tags format then tag ∷ [] else []

-- the tag, and the value behind its length
abbrev pub inline_bytes : ℕ → Value → List ℕ
inline_bytes format value = tag_bytes format value.tag ++ length value.bytes ∷ value.bytes

-- at most 64 bytes; the tag is one, and 0 where the format has none
pub record IsInline (format : ℕ) (value : Value) : Type 0 where
  pub short : length value.bytes ≤ max_inline_bytes
  pub tag : value.tag < 2 ^ 8
  pub untagged : has_tags format ≡ false → value.tag ≡ 0

-- ---- entries

-- The body's kind, and behind it a value, nothing, or a pointer. No lawful entry has a body of kind 3.
abbrev pub body_bytes : ℕ → Body → List ℕ
body_bytes format (Inline value) = 0 ∷ inline_bytes format value
body_bytes format Gone = 1 ∷ []
body_bytes format (Far pointer) = 2 ∷ pointer_bytes pointer
body_bytes format (Logged value pointer) = 3 ∷ []

-- the key, the version and the body
abbrev pub entry_bytes : ℕ → Entry → List ℕ
entry_bytes format e = key_bytes e.key ++ (big_bytes 8 e.version ++ body_bytes format e.body)

-- a body that a table may have: a short value, a deletion, or a pointer whose numbers fit their bytes
abbrev pub IsBody : ℕ → Body → Type 0
IsBody format (Inline value) = IsInline format value
IsBody format Gone = Unit {0}
IsBody format (Far pointer) = IsPointer pointer
IsBody format (Logged value pointer) = ⊥

-- an entry that a table may have
pub record IsEntry (format : ℕ) (e : Entry) : Type 0 where
  pub key : is_key_length (length e.key) ≡ true
  pub version : e.version < 2 ^ 64
  pub body : IsBody format e.body

-- ---- where they lie in memory

abbrev pub value_of : ValueRef → Value
value_of r = record { bytes = r.bytes.now; tag = r.tag }

abbrev pub body_of : BodyRef → Body
body_of (refs.Inline value) = Inline (value_of value)
body_of refs.Gone = Gone
body_of (refs.Far pointer) = Far pointer

-- the entry that is lent
abbrev pub entry_of : EntryRef → Entry
entry_of r = record { key = r.key.now; version = r.version; body = body_of r.body }
