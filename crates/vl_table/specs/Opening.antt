-- What is read of a table when it is opened, and where it is damaged.
use Rattle.std.specs.Prelude.{◌≡◌, ◌-◌, ℕ, Option, Some, None, List, [], drop, length}
use Rattle.vl_filter.specs.Filters.{SpellsFilter}
use Rattle.vl_frame.specs.Frame.{IsSpelled}
use Rattle.vl_frame.specs.declared.kinds.FileKind.TheVariants as files
use Rattle.vl_frame.specs.declared.kinds.FrameKind.TheVariants as kinds
use Rattle.vl_model.specs.declared.entry.Entry.{Entry}
use Rattle.vl_table.specs.body.Bytes.{block_places, filter_bits, foot, footer_place}
use Rattle.vl_model.specs.Cutting.{blocks}
use Rattle.vl_table.specs.body.Footer.{Foot, SpellsFooter, foot_of}
use Rattle.vl_table.specs.body.Index.{SpellsIndex}
use Rattle.vl_table.specs.declared.body.footer_head.FramePlace.{FramePlace}
use Rattle.vl_table.specs.declared.body.index.BlockPlace.{BlockPlace}
use Rattle.vl_table.specs.declared.body.shape.TableShape.{TableShape}
use Rattle.vl_table.specs.Begun.{FrameAt, IsBegun, IsInside, said_place}

-- a footer stands at the front of the bytes, which are those of the table from a place on, and says this
pub record FooterIn (format number place : ℕ) (bytes : List ℕ) (f : Foot) : Type 0 where
  pub body : List ℕ
  pub frame : IsSpelled files.Table number place bytes kinds.Footer body
  pub says : SpellsFooter format body f

-- a footer stands at the place
abbrev pub StandsFooter : ℕ → ℕ → List ℕ → ℕ → Foot → Type 0
StandsFooter format number bytes place f = FooterIn format number place (drop place bytes) f

-- an index of so many bytes stands at the place, which names these blocks
pub record StandsIndex (number : ℕ) (bytes : List ℕ) (place size : ℕ) (ps : List BlockPlace) : Type 0 where
  pub body : List ℕ
  pub frame : FrameAt number bytes place size kinds.Index body
  pub says : SpellsIndex body ps

-- a filter of so many bytes stands at the place, with these bits
pub record FilterAt (number : ℕ) (bytes : List ℕ) (place size : ℕ) (bits : List ℕ) : Type 0 where
  pub body : List ℕ
  pub frame : FrameAt number bytes place size kinds.Filter body
  pub says : SpellsFilter body bits

-- the filter stands where the footer says; where it names none, there are no bits
abbrev pub StandsFilter : ℕ → List ℕ → Option FramePlace → List ℕ → Type 0
StandsFilter number bytes None bits = bits ≡ []
StandsFilter number bytes (Some p) bits = FilterAt number bytes p.place p.length bits

-- what a table says: its format, its footer and where that stands, its blocks, and the bits of its filter
pub record Said : Type 0 where
  pub format : ℕ
  pub foot : Foot
  pub place : ℕ
  pub places : List BlockPlace
  pub bits : List ℕ

-- what the table of this shape says
abbrev pub said_by : TableShape → Said
said_by s = record { format = s.format; foot = foot_of s.footer; place = s.footer_place; places = s.blocks.items; bits = s.filter.items }

-- what the table with these entries says
abbrev pub said_of : ℕ → List Entry → Said
said_of format es = record {
  format = format;
  foot = foot format es (blocks format es);
  place = footer_place format es (blocks format es);
  places = block_places format 16 (blocks format es);
  bits = filter_bits format es;
}

-- The table says this: its footer stands where the last eight bytes say, index and filter where the footer says.
pub record IsRead (number : ℕ) (bytes : List ℕ) (said : Said) : Type 0 where
  pub begun : IsBegun said.format number bytes
  pub inside : IsInside bytes (said_place bytes)
  pub footer : StandsFooter said.format number bytes (said_place bytes) said.foot
  pub index : StandsIndex number bytes said.foot.head.index_place said.foot.head.index_length said.places
  pub filter : StandsFilter number bytes said.foot.head.filter said.bits
  pub place : said.place ≡ said_place bytes

-- a footer and what comes before it stand
pub record HasFooter (number : ℕ) (bytes : List ℕ) (format : ℕ) (f : Foot) : Type 0 where
  pub begun : IsBegun format number bytes
  pub inside : IsInside bytes (said_place bytes)
  pub footer : StandsFooter format number bytes (said_place bytes) f

-- The first place at which the table is damaged.
pub data IsDamaged (number : ℕ) (bytes : List ℕ) (place : ℕ) : Type 0 where
  no_header : ((format : ℕ) → IsBegun format number bytes → ⊥) → place ≡ 0 → IsDamaged number bytes place
  no_place : (format : ℕ) → IsBegun format number bytes → (IsInside bytes (said_place bytes) → ⊥) → place ≡ length bytes - 8
      → IsDamaged number bytes place
  no_footer : (format : ℕ) → IsBegun format number bytes → IsInside bytes (said_place bytes)
      → ((f : Foot) → StandsFooter format number bytes (said_place bytes) f → ⊥) → place ≡ said_place bytes
      → IsDamaged number bytes place
  no_index : (format : ℕ) (f : Foot) → HasFooter number bytes format f
      → ((ps : List BlockPlace) → StandsIndex number bytes f.head.index_place f.head.index_length ps → ⊥) → place ≡ f.head.index_place
      → IsDamaged number bytes place
  no_filter : (format : ℕ) (f : Foot) → HasFooter number bytes format f
      → (ps : List BlockPlace) → StandsIndex number bytes f.head.index_place f.head.index_length ps
      → (p : FramePlace) → f.head.filter ≡ Some p → ((bits : List ℕ) → FilterAt number bytes p.place p.length bits → ⊥)
      → place ≡ p.place → IsDamaged number bytes place
