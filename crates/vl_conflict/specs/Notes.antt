-- What an ordered map from keys to numbers holds, and which of it is late.
use Rattle.std.specs.Prelude.{ℕ, ◌≤◌, ◌+◌, ◌/◌, ◌^◌, Bool, ◌&&◌, nat_lt, List, length, Option}
use Rattle.std.proofs.Common.{Bor}
use Rattle.std.specs.List.{filter}
use Rattle.std.specs.Option.{option_map}
use Rattle.vl_model.specs.Conflicts.{Named, first_of}
use Rattle.vl_model.specs.Reads.{is_in_span}
use Rattle.vl_model.specs.declared.span.Span.{Span}

-- keys in rising order, each with the number of the last commit that names it; how many more may be noted without
-- memory; and how many nodes stand above one another at most in the tree that has the keys
pub record Kept : Type 0 where
  pub named : List Named
  pub room : ℕ
  pub depth : ℕ

-- With n keys the tree is at most twice as deep as the logarithm of n + 1.
abbrev pub IsShallow : Kept → Type 0
IsShallow kept = 2 ^ (kept.depth / 2) ≤ length kept.named + 1

-- what a number above the floor is noted for
abbrev pub is_above_floor : ℕ → Named → Bool
is_above_floor floor named = nat_lt floor named.1

-- an entry in the interval, with a number above this one
abbrev pub is_late_within : ℕ → Span → Named → Bool
is_late_within number span named = nat_lt number named.1 && is_in_span span named.0

-- an interval by its bounds
abbrev pub span_of : Option (List ℕ) → Option (List ℕ) → Bool → Span
span_of lo hi closed = record { lo = lo; hi = hi; closed = closed }

-- the first note that passes a test
abbrev pub first_in : (Named → Bool) → List Named → Option Named
first_in test es = first_of (filter test es)

-- a note whose key is lent
abbrev pub lent : Option (Bor (List ℕ) × ℕ) → Option Named
lent note = option_map (λ n. (n.0.now, n.1)) note
