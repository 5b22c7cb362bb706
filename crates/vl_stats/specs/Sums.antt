-- Sums of bytes by segment, as a map has them.
use Rattle.std.specs.Prelude.{◌≡◌, ◌≤◌, ◌+◌, ℕ, Option, Some, unwrap_or}

-- how many bytes of a segment there are
abbrev pub bytes_at : (ℕ → Option ℕ) → ℕ → ℕ
bytes_at sums segment = unwrap_or (sums segment) 0

-- no entry is of no bytes
abbrev pub HasNoEmpty : (ℕ → Option ℕ) → Type 0
HasNoEmpty sums = (segment : ℕ) → sums segment ≡ Some 0 → ⊥

-- of each segment so many bytes more
abbrev pub Adds : (ℕ → Option ℕ) → (ℕ → Option ℕ) → (ℕ → ℕ) → Type 0
Adds old new more = (segment : ℕ) → bytes_at new segment ≡ bytes_at old segment + more segment

-- of each segment so many bytes fewer, where there are as many
abbrev pub Takes : (ℕ → Option ℕ) → (ℕ → Option ℕ) → (ℕ → ℕ) → Type 0
Takes old new fewer =
    (segment : ℕ) → fewer segment ≤ bytes_at old segment
    → bytes_at new segment + fewer segment ≡ bytes_at old segment
