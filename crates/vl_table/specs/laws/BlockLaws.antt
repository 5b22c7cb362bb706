-- A block's body spells one list of entries at most, and has no item without bytes.
use Rattle.std.specs.Prelude.{◌≡◌, ◌*◌, ◌≤◌, ℕ, true, List, [], ◌∷◌, ◌++◌, length}
use Rattle.std.specs.List.{AllByRecursion}
use Rattle.std.proofs.Common.{arith, length-append}
use Rattle.std.proofs.lemmas.Bool.Decides.{nat_tests}
use Rattle.byteorder.specs.Endian.{big_bytes}
use Rattle.vl_model.specs.Keys.{is_key_length}
use Rattle.vl_model.specs.declared.entry.Body.{Body}
use Rattle.vl_model.specs.declared.entry.Body.TheVariants.{Inline, Gone, Far, Logged}
use Rattle.vl_model.specs.declared.entry.Entry.{Entry}
use Rattle.vl_table.specs.body.Blocks.{entries, SpellsBlock}
use Rattle.vl_table.specs.body.Entries.{IsEntry, body_bytes, entry_bytes, key_bytes}
use Rattle.vl_table.specs.body.Lists.{items_bytes}
use Rattle.vl_table.specs.body.Index.{SpellsIndex, places}
use Rattle.vl_table.specs.laws.ListLaws.{one_list}
use Rattle.vl_table.specs.declared.body.index.BlockPlace.{BlockPlace}

pub entry_is_some : (format : ℕ) (e : Entry) → 1 ≤ length (entry_bytes format e)
entry_is_some format e = omega arith

some_body : (format : ℕ) (body : Body) → 1 ≤ length (body_bytes format body)
some_body format (Inline value) = omega arith
some_body format Gone = omega arith
some_body format (Far pointer) = omega arith
some_body format (Logged value pointer) = omega arith

some_key : (n : ℕ) → is_key_length n ≡ true → 1 ≤ n
some_key n lawful = grind (arith, nat_tests)

-- two bytes of length, a key, a version and a body's kind
entry-long : (format : ℕ) (e : Entry) → IsEntry format e → 12 ≤ length (entry_bytes format e)
entry-long format e is =
    omega (
      arith,
      some_key (length e.key) is.key,
      some_body format e.body,
      length-append (key_bytes e.key)
          (big_bytes 8 e.version ++ body_bytes format e.body),
    )

-- so of few bytes there are few entries
pub entries-few : (format : ℕ) (es : List Entry) → AllByRecursion (IsEntry format) es
    → 12 * length es ≤ length (items_bytes (entries format) es)
entries-few format [] each = omega arith
entries-few format (e ∷ es) each =
    omega (
      arith,
      entries-few format es each.1,
      entry-long format e each.0,
      length-append (entry_bytes format e)
          (items_bytes (entries format) es),
    )

pub one_block : (format : ℕ) (body : List ℕ) (es fs : List Entry) → SpellsBlock format body es → SpellsBlock format body fs → es ≡ fs
one_block format body es fs p q = one_list (entries format) body es fs p.lawful q.lawful p.spelled q.spelled

pub one_index : (body : List ℕ) (ps qs : List BlockPlace) → SpellsIndex body ps → SpellsIndex body qs → ps ≡ qs
one_index body ps qs p q = one_list places body ps qs p.lawful q.lawful p.spelled q.spelled
