-- What the index of a table spells: where its blocks stand, and the last key of each.
use Rattle.std.specs.Prelude.{◌≡◌, ◌<◌, ◌^◌, ℕ, true, List, ◌++◌, length}
use Rattle.byteorder.specs.Endian.{big_bytes}
use Rattle.vl_frame.specs.laws.NumberLaws.{one_number}
use Rattle.vl_model.specs.Keys.{is_key_length}
use Rattle.vl_table.specs.declared.body.index.BlockPlace.{BlockPlace}
use Rattle.vl_table.specs.declared.body.index.PlaceParts.{PlaceParts}
use Rattle.vl_table.specs.body.Entries.{key_bytes}
use Rattle.vl_table.specs.laws.EntryLaws.{one_key}
use Rattle.vl_table.specs.body.Lists.{Spelling, counted_bytes, AreLawful}

-- the place of a block's frame, the frame's length, and the block's last key
abbrev pub place_bytes : BlockPlace → List ℕ
place_bytes p = big_bytes 8 p.place ++ (big_bytes 4 p.length ++ key_bytes p.last)

pub record IsPlace (p : BlockPlace) : Type 0 where
  pub place : p.place < 2 ^ 64
  pub size : p.length < 2 ^ 32
  pub last : is_key_length (length p.last) ≡ true

pub one_place : (p q : BlockPlace) (x y : List ℕ) → IsPlace p → IsPlace q → place_bytes p ++ x ≡ place_bytes q ++ y
    → (p ≡ q) × (x ≡ y)
one_place p q x y i j e =
    let both : big_bytes 8 p.place ++ (big_bytes 4 p.length ++ (key_bytes p.last ++ x)) ≡ big_bytes 8 q.place
    ++ (big_bytes 4 q.length ++ (key_bytes q.last ++ y)) = e in
    let a = one_number 8 p.place q.place (big_bytes 4 p.length ++ (key_bytes p.last ++ x))
    (big_bytes 4 q.length ++ (key_bytes q.last ++ y)) i.place j.place both in
    let b = one_number 4 p.length q.length (key_bytes p.last ++ x) (key_bytes q.last ++ y) i.size j.size a.1 in
    let c = one_key p.last q.last x y i.last j.last b.1 in
    ((λ k. record { place = a.0 k; length = b.0 k; last = c.0 k }), c.1)

-- in any order
abbrev pub places : Spelling BlockPlace
places = record { bytes = place_bytes; lawful = IsPlace; before = λ p q. Unit {0}; one = one_place }

abbrev pub index_body : List BlockPlace → List ℕ
index_body ps = counted_bytes places ps

-- the body is an index's, of these blocks, of which there may be none
pub record SpellsIndex (body : List ℕ) (ps : List BlockPlace) : Type 0 where
  pub lawful : AreLawful places ps
  pub spelled : body ≡ index_body ps

-- ---- where they lie in memory

abbrev pub place_of : PlaceParts → BlockPlace
place_of p = record { place = p.place; length = p.length; last = p.last.now }
