-- What cursors over sources have left, cut to an interval.
use Rattle.std.specs.declared.clone.Clone as Clone
use Rattle.vl_disk.specs.declared.reader.HeldFile as HeldFile
use Rattle.std.specs.Prelude.{◌≡◌, ◌++◌, ℕ, false, List, map, Option, Some, None, if◌then◌else◌}
use Rattle.std.specs.List.{AllByRecursion, flat_map}
use Rattle.vl_model.specs.Cutting.{joined}
use Rattle.vl_disk.specs.declared.name.Name.{Name}
use Rattle.vl_merge.specs.MergeOf.{OneMayFail}
use Rattle.vl_model.specs.Merging.{IsAlong}
use Rattle.vl_model.specs.Reads.{bound, is_in_span}
use Rattle.vl_model.specs.Winners.{winner}
use Rattle.vl_model.specs.declared.entry.Entry.{Entry}
use Rattle.vl_model.specs.declared.span.Span.{Span}
use Rattle.vl_model.specs.declared.way.Way.{Way}
use Rattle.vl_model.specs.EntryOrder.{within}
use Rattle.vl_table.specs.OfTables.{AreOf}
use Rattle.vl_table.specs.declared.table.Table.{Table}
use Rattle.vl_version.specs.Gives.{SourceMayFail, is_disk_fault, left_in}
use Rattle.vl_disk.specs.declared.read_fault.ReadFault.{ReadFault}
use Rattle.vl_disk.specs.declared.read_fault.ReadFault.TheVariants.{Damaged}
use Rattle.vl_version.specs.declared.source.Source.{Source}

-- the interval of a scan with these bounds, of which an empty one is none
abbrev pub span_of : List ℕ → List ℕ → Span
span_of low high = record { lo = bound low; hi = bound high; closed = false }

-- each of them goes along the way, and of keys in the interval, but of no other, they have the winners of these entries
pub record GiveWinners (span : Span) (way : Way) (es : List Entry) (left : List (List Entry)) : Type 0 where
  pub along : AllByRecursion (IsAlong way) left
  pub winners : (key : List ℕ) (number : ℕ)
      → winner (flat_map (λ fs. fs) left) key number ≡ (if is_in_span span key then winner es key number else None)

module _ {H R : Type 0} {g : HeldFile.Ghosts H} {k : Clone.Ghosts H} (bytes_of : H → Option (List ℕ)) where
  -- what is left of these sources is told, and so it is with that; and none of them is damaged
  pub record TellWinners (span : Span) (way : Way) (es : List Entry) (sources : List (Source H R g k)) : Type 0 where
    pub left : List (List Entry)
    pub told : map (λ source. left_in bytes_of source) sources ≡ map Some left
    pub give : GiveWinners span way es left
    pub sound : (name : Name) (place : ℕ)
        → OneMayFail (λ source fault. SourceMayFail bytes_of source fault) sources (Damaged name place) → ⊥

  -- behind the entries of the sources before there are these in those after
  abbrev pub Adds : Span → Way → List Entry → List (Source H R g k) → List (Source H R g k) → Type 0
  Adds span way es old new =
      (before : List Entry) → TellWinners span way before old → TellWinners span way (before ++ es) new

  -- none of these sources reads
  abbrev pub IsQuiet : List (Source H R g k) → Type 0
  IsQuiet sources = (fault : ReadFault) → OneMayFail (λ source why. SourceMayFail bytes_of source why) sources fault
      → is_disk_fault fault ≡ false

-- within the interval these tables have the entries of this list
pub record HaveWithin {H : Type 0} (bytes_of : H → Option (List ℕ)) (span : Span) (es : List Entry) (ts : List (Table H))
    : Type 0 where
  pub have : List (List Entry)
  pub are : AreOf bytes_of ts have
  pub same : within span (joined have) ≡ within span es
