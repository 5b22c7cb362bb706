-- Which blocks of a table may have keys of an interval, by its index.
use Rattle.std.specs.Prelude.{◌+◌, Bool, ◌&&◌, if◌then◌else◌, not, List, drop, length, min}
use Rattle.std.specs.List.{list_all, prefix_len}
use Rattle.vl_model.specs.Reads.{is_from, is_up_to}
use Rattle.vl_model.specs.declared.span.Span.{Span}
use Rattle.vl_table.specs.declared.body.index.BlockPlace.{BlockPlace}
use Rattle.vl_table.specs.declared.body.shape.TableShape.{TableShape}
use Rattle.vl_table.specs.declared.stretch.Stretch.{Stretch}

-- a block's last key is below the interval, and isn't above it
abbrev pub ends_before : Span → BlockPlace → Bool
ends_before span p = not (is_from span.lo p.last)

abbrev pub ends_within : Span → BlockPlace → Bool
ends_within span p = is_up_to span.hi span.closed p.last

-- From the first block that doesn't end before the interval to the first that ends above it, which may have keys of it still.
abbrev pub blocks_of : Span → List BlockPlace → Stretch
blocks_of span ps = record {
  first = prefix_len (ends_before span) ps;
  end = min (prefix_len (ends_within span) ps + 1) (length ps);
}

abbrev pub no_blocks : Stretch
no_blocks = record { first = 0; end = 0 }

-- Those of a table, and none where its first key is above the interval.
abbrev pub blocks_in : Span → TableShape → Stretch
blocks_in span s = if is_up_to span.hi span.closed s.footer.first then blocks_of span s.blocks.items else no_blocks

-- whether no element that passes stands behind one that fails
abbrev pub is_parted : {X : Type 0} → (X → Bool) → List X → Bool
is_parted test xs = list_all (λ x. not (test x)) (drop (prefix_len test xs) xs)

-- whether an index rises, as far as the interval can tell
abbrev pub rises_over : Span → List BlockPlace → Bool
rises_over span ps = is_parted (ends_before span) ps && is_parted (ends_within span) ps
