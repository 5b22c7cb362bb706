-- Which keys a table may have, by its footer and its filter, and of which intervals.
use Rattle.std.specs.Prelude.{ℕ, Bool, ◌&&◌, not, List}
use Rattle.std.specs.Ordering.{is_gt, is_lt}
use Rattle.vl_filter.specs.Filters.{passes}
use Rattle.vl_model.specs.Keys.{key_cmp}
use Rattle.vl_model.specs.Reads.{is_from, is_up_to}
use Rattle.vl_model.specs.declared.span.Span.{Span}
use Rattle.vl_table.specs.declared.body.shape.TableShape.{TableShape}

-- the key isn't below the first, nor above the last
abbrev pub is_in_range : List ℕ → TableShape → Bool
is_in_range key s = not (is_lt (key_cmp key s.footer.first)) && not (is_gt (key_cmp key s.footer.last))

-- and the filter lets it pass
abbrev pub may_hold : List ℕ → TableShape → Bool
may_hold key s = is_in_range key s && passes s.filter.items key

-- the last key isn't below the interval, nor the first one above it
abbrev pub meets : Span → TableShape → Bool
meets span s = is_from span.lo s.footer.last && is_up_to span.hi span.closed s.footer.first
