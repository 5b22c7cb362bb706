-- What is noted of reads: keys that were read and intervals that were scanned.
use Rattle.std.specs.Prelude.{◌≡◌, ℕ, Bool, ◌||◌, List}
use Rattle.std.specs.List.{list_any}
use Rattle.std.specs.Ordering.{eq_by_cmp}
use Rattle.vl_model.specs.Keys.{key_cmp}
use Rattle.vl_model.specs.Reads.{Read, is_in_span, is_read}
use Rattle.vl_model.specs.declared.span.Span.{Span}

-- whether a key was read, or lies in an interval that was scanned
abbrev pub is_noted : List (List ℕ) → List Span → List ℕ → Bool
is_noted keys spans key =
    list_any (eq_by_cmp key_cmp key) keys || list_any (λ span. is_in_span span key) spans

-- the keys and the intervals are those of the reads: they cover the same keys
abbrev pub AreNotesOf : List Read → List (List ℕ) → List Span → Type 0
AreNotesOf reads keys spans = (key : List ℕ) → is_noted keys spans key ≡ is_read reads key
