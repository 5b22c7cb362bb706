-- What a footer's place leads to, and what of it may be missing.
use Rattle.std.specs.Prelude.{◌≡◌, ℕ, Some, List}
use Rattle.vl_table.specs.body.Footer.{Foot, foot_of}
use Rattle.vl_table.specs.declared.body.footer_head.FramePlace.{FramePlace}
use Rattle.vl_table.specs.declared.body.index.BlockPlace.{BlockPlace}
use Rattle.vl_table.specs.Opening.{FilterAt, StandsFilter, StandsFooter, StandsIndex}
use Rattle.vl_table.specs.declared.open.Parts.{Parts}

-- ---- what is missing, and that the damage is there

abbrev pub NoFooter : ℕ → ℕ → ℕ → List ℕ → ℕ → Type 0
NoFooter format number place bytes damage =
    ((f : Foot) → StandsFooter format number bytes place f → ⊥) × (damage ≡ place)

abbrev pub NoIndex : ℕ → ℕ → ℕ → List ℕ → ℕ → Type 0
NoIndex number place size bytes damage =
    ((ps : List BlockPlace) → StandsIndex number bytes place size ps → ⊥) × (damage ≡ place)

abbrev pub NoFilter : ℕ → FramePlace → List ℕ → ℕ → Type 0
NoFilter number p bytes damage =
    ((bits : List ℕ) → FilterAt number bytes p.place p.length bits → ⊥) × (damage ≡ p.place)

-- ---- behind a footer

-- the index names these blocks, and the filter has these bits
pub record LedTo (number : ℕ) (f : Foot) (bytes : List ℕ) (ps : List BlockPlace) (bits : List ℕ) : Type 0 where
  pub index : StandsIndex number bytes f.head.index_place f.head.index_length ps
  pub filter : StandsFilter number bytes f.head.filter bits

-- the index doesn't stand, or it does and the filter doesn't
pub data NotLedTo (number : ℕ) (f : Foot) (bytes : List ℕ) (damage : ℕ) : Type 0 where
  without_index : NoIndex number f.head.index_place f.head.index_length bytes damage → NotLedTo number f bytes damage
  without_filter : (ps : List BlockPlace) → StandsIndex number bytes f.head.index_place f.head.index_length ps
      → (p : FramePlace) → f.head.filter ≡ Some p → NoFilter number p bytes damage → NotLedTo number f bytes damage

-- ---- at a footer's place

pub record HasParts (format number place : ℕ) (bytes : List ℕ) (parts : Parts) : Type 0 where
  pub footer : StandsFooter format number bytes place (foot_of parts.footer)
  pub rest : LedTo number (foot_of parts.footer) bytes parts.blocks.items parts.filter.items

pub data NoParts (format number place : ℕ) (bytes : List ℕ) (damage : ℕ) : Type 0 where
  without_footer : NoFooter format number place bytes damage → NoParts format number place bytes damage
  with_footer : (f : Foot) → StandsFooter format number bytes place f → NotLedTo number f bytes damage
      → NoParts format number place bytes damage
