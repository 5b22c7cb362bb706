-- Which entries the bytes of a table say a block has. They are read from the left, as many as the count says, and nothing is
-- tested: where no block stands they mean nothing.
use Rattle.std.specs.Prelude.{ℕ, Bool, true, false, zero, suc, List, [], ◌∷◌, length, take, drop}
use Rattle.byteorder.specs.Endian.{big_number}
use Rattle.vl_model.specs.Keys.{tagged}
use Rattle.vl_model.specs.declared.value.Value.{Value}
use Rattle.vl_model.specs.declared.entry.Body.{Body}
use Rattle.vl_model.specs.declared.entry.Body.TheVariants.{Inline, Gone, Far}
use Rattle.vl_model.specs.declared.entry.Entry.{Entry}
use Rattle.vl_model.specs.declared.pointer.Pointer.{Pointer}
use Rattle.vl_table.specs.body.Entries.{entry_bytes}
use Rattle.vl_model.specs.Formats.{has_tags}
use Rattle.vl_table.specs.declared.body.index.BlockPlace.{BlockPlace}

-- a pointer's three numbers
unfoldable pub pointer_in : List ℕ → Pointer
pointer_in bytes = record { segment = big_number 4 bytes; place = big_number 8 (drop 4 bytes); length = big_number 4 (drop 12 bytes) }

-- a value of the length that is said
unfoldable pub short_in : List ℕ → List ℕ
short_in [] = []
short_in (n ∷ bytes) = take n bytes

-- in a format with user bytes one stands before it
unfoldable pub value_in : Bool → List ℕ → Value
value_in false bytes = tagged (short_in bytes) 0
value_in true [] = tagged [] 0
value_in true (tag ∷ bytes) = tagged (short_in bytes) tag

-- a body by its kind; other kinds than the three are read as the last of them
unfoldable pub body_in : ℕ → List ℕ → Body
body_in format [] = Gone
body_in format (zero ∷ bytes) = Inline (value_in (has_tags format) bytes)
body_in format (suc zero ∷ bytes) = Gone
body_in format (suc (suc kind) ∷ bytes) = Far (pointer_in bytes)

-- what stands behind the key
unfoldable pub behind_key : List ℕ → List ℕ
behind_key bytes = drop (big_number 2 bytes) (drop 2 bytes)

-- a key of the length that is said, a version and a body
unfoldable pub entry_in : ℕ → List ℕ → Entry
entry_in format bytes = record {
  key = take (big_number 2 bytes) (drop 2 bytes);
  version = big_number 8 (behind_key bytes);
  body = body_in format (drop 8 (behind_key bytes));
}

-- so many entries, one behind the other
unfoldable pub entries_in : ℕ → ℕ → List ℕ → List Entry
entries_in format zero bytes = []
entries_in format (suc n) bytes =
    entry_in format bytes ∷ entries_in format n (drop (length (entry_bytes format (entry_in format bytes))) bytes)

-- those of a block's body, as many as its count says
unfoldable pub body_entries : ℕ → List ℕ → List Entry
body_entries format body = entries_in format (big_number 4 body) (drop 4 body)

-- the bytes have a frame at a block's place: its body stands behind the kind and the length
unfoldable pub block_entries : ℕ → List ℕ → BlockPlace → List Entry
block_entries format bytes p = body_entries format (drop 5 (drop p.place bytes))
