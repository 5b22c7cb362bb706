-- The entries of a block, and what a look-up in them says.
use Rattle.std.specs.Prelude.{◌≡◌, ℕ, List, Option, Some, None}
use Rattle.vl_model.specs.declared.entry.Entry.{Entry}
use Rattle.vl_model.specs.Lookups.{if_of_key}
use Rattle.vl_table.specs.body.Blocks.{IsBlock}
use Rattle.vl_table.specs.body.Founds.{found_of}
use Rattle.vl_table.specs.body.Starts.{AreStarts}
use Rattle.vl_table.specs.declared.entries.Entries.{Entries}
use Rattle.vl_table.specs.declared.entries.Scan.{Scan}
use Rattle.vl_table.specs.declared.entries.Scan.TheVariants as scans

-- these are a block's entries
pub record Lists (e : Entries) (es : List Entry) : Type 0 where
  pub lawful : IsBlock e.format es
  pub starts : AreStarts e.format e.bytes.now e.starts.now es

-- of the first entry at or behind the place, if there is one
abbrev pub IsScan : List ℕ → Option Entry → Scan → Type 0
IsScan key first scans.Behind = first ≡ None
IsScan key first (scans.At f) = (first ≡ Some (found_of key f)) × (if_of_key key first ≡ Some (found_of key f))
IsScan key first scans.Other = (e : Entry) × (first ≡ Some e) × (if_of_key key first ≡ None)
