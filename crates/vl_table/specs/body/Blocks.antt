-- What a block's body spells in a format.
use Rattle.std.specs.Prelude.{◌≡◌, ◌≤◌, ◌<◌, ◌^◌, ℕ, Bool, false, List, length}
use Rattle.std.specs.List.{AllByRecursion}
use Rattle.std.specs.declared.cmp.Ordering.TheVariants.{Less}
use Rattle.vl_model.specs.Entries.{entry_cmp}
use Rattle.vl_model.specs.declared.entry.Entry.{Entry}
use Rattle.vl_model.specs.Cutting.{longest_body}
use Rattle.vl_table.specs.body.Entries.{entry_bytes, IsEntry}
use Rattle.vl_table.specs.laws.EntryLaws.{one_entry}
use Rattle.vl_table.specs.body.Lists.{Spelling, counted_bytes, AreLawful, AreOrdered}

-- entries: keys rise, and of one key the versions fall
abbrev pub entries : ℕ → Spelling Entry
entries format = record {
  bytes = entry_bytes format;
  lawful = IsEntry format;
  before = λ e f. entry_cmp e f ≡ Less;
  one = one_entry format;
}

-- the body of a block with these entries
abbrev pub block_body : ℕ → List Entry → List ℕ
block_body format es = counted_bytes (entries format) es

-- entries that a block may have, of which there may be none
abbrev pub IsBlock : ℕ → List Entry → Type 0
IsBlock format es = AreLawful (entries format) es

-- the body is a block's, of these entries
pub record SpellsBlock (format : ℕ) (body : List ℕ) (es : List Entry) : Type 0 where
  pub short : length body ≤ longest_body
  pub lawful : IsBlock format es
  pub spelled : body ≡ block_body format es

-- ---- a body that was tested before

-- Entries as they are walked over: that they are in order isn't looked at where it was tested before.
abbrev pub walked : Bool → ℕ → Spelling Entry
walked tested format = record {
  bytes = entry_bytes format;
  lawful = IsEntry format;
  before = λ e f. tested ≡ false → entry_cmp e f ≡ Less;
  one = one_entry format;
}

-- the body is that of entries that a block may have, but for their order where that was tested before
pub record SpellsWalked (tested : Bool) (format : ℕ) (body : List ℕ) (es : List Entry) : Type 0 where
  pub short : length body ≤ longest_body
  pub few : length es < 2 ^ 32
  pub each : AllByRecursion (IsEntry format) es
  pub ordered : tested ≡ false → AreOrdered (entries format) es
  pub spelled : body ≡ block_body format es

-- The body is some block's. It is said so, by no list of entries, since a struct's ghost field must be a proposition.
abbrev pub IsSomeBlock : ℕ → List ℕ → Type 0
IsSomeBlock format body = ((es : List Entry) → SpellsBlock format body es → ⊥) → ⊥
