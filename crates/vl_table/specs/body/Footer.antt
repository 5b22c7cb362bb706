-- What the footer of a table spells: where the index stands, and what the entries are, taken together.
use Rattle.std.specs.Prelude.{◌≡◌, ◌<◌, ◌^◌, ℕ, Bool, true, false, Option, Some, None, List, [], ◌++◌, length}
use Rattle.byteorder.specs.Endian.{big_bytes}
use Rattle.vl_frame.specs.laws.NumberLaws.{one_number}
use Rattle.vl_model.specs.Keys.{is_key_length}
use Rattle.vl_model.specs.declared.point.Point.{Point}
use Rattle.vl_table.specs.declared.body.footer.Footer.{Footer}
use Rattle.vl_table.specs.declared.body.footer_head.FooterHead.{FooterHead}
use Rattle.vl_table.specs.declared.body.footer_head.FramePlace.{FramePlace}
use Rattle.vl_table.specs.body.Entries.{key_bytes}
use Rattle.vl_model.specs.Formats.{has_filter}
use Rattle.vl_table.specs.body.Lists.{Spelling, counted_bytes, AreLawful}

-- ---- points

-- a segment, and how many bytes of its records are pointed to
abbrev pub point_bytes : Point → List ℕ
point_bytes p = big_bytes 4 p.segment ++ big_bytes 8 p.bytes

pub record IsPoint (p : Point) : Type 0 where
  pub segment : p.segment < 2 ^ 32
  pub bytes : p.bytes < 2 ^ 64

pub one_point : (p q : Point) (x y : List ℕ) → IsPoint p → IsPoint q → point_bytes p ++ x ≡ point_bytes q ++ y
    → (p ≡ q) × (x ≡ y)
one_point p q x y i j e =
    let both : big_bytes 4 p.segment ++ (big_bytes 8 p.bytes ++ x) ≡ big_bytes 4 q.segment ++ (big_bytes 8 q.bytes ++ y) = e in
    let a = one_number 4 p.segment q.segment (big_bytes 8 p.bytes ++ x) (big_bytes 8 q.bytes ++ y) i.segment j.segment both in
    let b = one_number 8 p.bytes q.bytes x y i.bytes j.bytes a.1 in
    ((λ k. record { segment = a.0 k; bytes = b.0 k }), b.1)

-- the segments rise
abbrev pub points : Spelling Point
points = record { bytes = point_bytes; lawful = IsPoint; before = λ p q. p.segment < q.segment; one = one_point }

-- ---- footers

-- what stands before the points
pub record Head : Type 0 where
  pub filter : Option FramePlace
  pub index_place : ℕ
  pub index_length : ℕ
  pub count : ℕ
  pub greatest : ℕ
  pub first : List ℕ
  pub last : List ℕ

-- the place and length of a frame, where there is one
abbrev pub frame_place_bytes : Option FramePlace → List ℕ
frame_place_bytes None = []
frame_place_bytes (Some p) = big_bytes 8 p.place ++ big_bytes 4 p.length

-- The place and length of the filter's frame, where there is one, and of the index's frame, the count of entries, their
-- greatest version, the first and the last key.
abbrev pub head_bytes : Head → List ℕ
head_bytes h =
    frame_place_bytes h.filter ++ (big_bytes 8 h.index_place ++ (big_bytes 4 h.index_length ++ (big_bytes 8 h.count
    ++ (big_bytes 8 h.greatest ++ (key_bytes h.first ++ key_bytes h.last)))))

-- a frame's place where there is to be one, and else none
abbrev pub IsFramePlace : Bool → Option FramePlace → Type 0
IsFramePlace true None = ⊥
IsFramePlace true (Some p) = (p.place < 2 ^ 64) × (p.length < 2 ^ 32)
IsFramePlace false None = Unit {0}
IsFramePlace false (Some p) = ⊥

pub record IsHead (format : ℕ) (h : Head) : Type 0 where
  pub filter : IsFramePlace (has_filter format) h.filter
  pub index_place : h.index_place < 2 ^ 64
  pub index_length : h.index_length < 2 ^ 32
  pub count : h.count < 2 ^ 64
  pub greatest : h.greatest < 2 ^ 64
  pub first : is_key_length (length h.first) ≡ true
  pub last : is_key_length (length h.last) ≡ true

-- what a footer says
pub record Foot : Type 0 where
  pub head : Head
  pub points : List Point

abbrev pub footer_body : Foot → List ℕ
footer_body f = head_bytes f.head ++ counted_bytes points f.points

-- the body is a footer's in this format, which says this
pub record SpellsFooter (format : ℕ) (body : List ℕ) (f : Foot) : Type 0 where
  pub head : IsHead format f.head
  pub points : AreLawful points f.points
  pub spelled : body ≡ footer_body f

-- ---- where they lie in memory

abbrev pub head_of : FooterHead → Head
head_of h = record {
  filter = h.filter;
  index_place = h.index_place;
  index_length = h.index_length;
  count = h.count;
  greatest = h.greatest;
  first = h.first.now;
  last = h.last.now;
}

abbrev pub foot_of : Footer → Foot
foot_of f = record {
  head = record {
    filter = f.filter;
    index_place = f.index_place;
    index_length = f.index_length;
    count = f.count;
    greatest = f.greatest;
    first = f.first;
    last = f.last;
  };
  points = f.points.items;
}
