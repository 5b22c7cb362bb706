-- Entries in order, and both ways through them.
use Rattle.std.specs.Prelude.{◌≡◌, ℕ, ◌-◌, List, reverse, take, drop}
use Rattle.std.specs.List.{filter}
use Rattle.vl_model.specs.Entries.{in_order}
use Rattle.vl_model.specs.Reads.{is_in_span}
use Rattle.vl_model.specs.declared.entry.Entry.{Entry}
use Rattle.vl_model.specs.declared.entry.Body.TheVariants.{Gone}
use Rattle.vl_model.specs.declared.span.Span.{Span}
use Rattle.vl_model.specs.declared.way.Way.{Way}
use Rattle.vl_model.specs.declared.way.Way.TheVariants.{Up, Down}

-- keys rise, of one key the versions fall, and no key and version stands there twice
abbrev pub IsInOrder : List Entry → Type 0
IsInOrder es = in_order es ≡ es

-- where an entry of this key and version has its place
abbrev pub place_of : List ℕ → ℕ → Entry
place_of key version = record { key = key; version = version; body = Gone }

-- entries in order as one way goes through them
abbrev pub along : Way → List Entry → List Entry
along Up es = es
along Down es = reverse es

-- those of them whose keys are in an interval
abbrev pub within : Span → List Entry → List Entry
within span es = filter (λ e. is_in_span span e.key) es

-- those from one index on and before another
abbrev pub between : ℕ → ℕ → List Entry → List Entry
between first end es = take (end - first) (drop first es)
