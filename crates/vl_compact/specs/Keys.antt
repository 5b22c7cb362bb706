-- The keys and versions of entries, and what is up to a key or behind it.
use Rattle.std.specs.Prelude.{ℕ, Bool, true, false, not, List, [], ◌∷◌, ◌++◌, map, Option, Some, None}
use Rattle.std.specs.List.{filter}
use Rattle.std.specs.Ordering.{is_lt}
use Rattle.vl_compact.specs.Walking.{is_behind}
use Rattle.vl_model.specs.Conflicts.{Named}
use Rattle.vl_model.specs.Keys.{key_cmp}
use Rattle.vl_model.specs.declared.entry.Entry.{Entry}
use Rattle.vl_model.specs.declared.span.Span.{Span}

-- the key of an entry, and its version
abbrev pub named_of : Entry → Named
named_of e = (e.key, e.version)

abbrev pub all_named : List Entry → List Named
all_named es = map named_of es

-- those of some entries that aren't behind a key; none where there is no key yet
abbrev pub up_to : Option (List ℕ) → List Entry → List Entry
up_to after es = filter (λ e. not (is_behind after e)) es

-- those behind it
abbrev pub behind : Option (List ℕ) → List Entry → List Entry
behind after es = filter (is_behind after) es

-- a key is behind another; each is where there is none yet
abbrev pub is_past : Option (List ℕ) → List ℕ → Bool
is_past None key = true
is_past (Some at) key = is_lt (key_cmp at key)

-- the keys behind a key: the least of them is the key with a byte more
abbrev pub span_behind : Option (List ℕ) → Span
span_behind None = record { lo = None; hi = None; closed = false }
span_behind (Some key) = record { lo = Some (key ++ 0 ∷ []); hi = None; closed = false }
