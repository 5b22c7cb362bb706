-- What a look-up in entries in order finds: the first at or behind a place, and what that is of a key or a version.
use Rattle.std.specs.Prelude.{◌≡◌, ℕ, Bool, true, cond, not, List, [], ◌∷◌, Option, Some, None}
use Rattle.std.specs.List.{AllByRecursion}
use Rattle.std.specs.Ordering.{is_gt, eq_by_cmp}
use Rattle.vl_model.specs.Keys.{key_cmp}
use Rattle.vl_model.specs.Entries.{entry_cmp, is_at}
use Rattle.vl_model.specs.Reads.{is_from, is_up_to}
use Rattle.vl_model.specs.Winners.{only_if}
use Rattle.vl_model.specs.declared.entry.Entry.{Entry}
use Rattle.vl_model.specs.declared.span.Span.{Span}
use Rattle.vl_model.specs.EntryOrder.{place_of}

-- the entry comes before the place of the key and version
abbrev pub is_ahead : List ℕ → ℕ → Entry → Bool
is_ahead key version e = is_gt (entry_cmp (place_of key version) e)

-- the entry's key is below an interval, and it isn't above it
abbrev pub is_short_of : Span → Entry → Bool
is_short_of span e = not (is_from span.lo e.key)

abbrev pub is_not_past : Span → Entry → Bool
is_not_past span e = is_up_to span.hi span.closed e.key

-- what the first entry at or behind the place is of a key's winner, and of a key and version
abbrev pub if_of_key : List ℕ → Option Entry → Option Entry
if_of_key key None = None
if_of_key key (Some e) = only_if (eq_by_cmp key_cmp key e.key) e

abbrev pub if_exact : List ℕ → ℕ → Option Entry → Option Entry
if_exact key version None = None
if_exact key version (Some e) = only_if (is_at key version e) e

-- the first of two that is there
abbrev pub or_else : {X : Type 0} → Option X → Option X → Option X
or_else None other = other
or_else (Some x) other = Some x

-- the key at the end of a block is below the key that is asked for
abbrev pub is_below : List ℕ → List ℕ → Bool
is_below key last = is_gt (key_cmp key last)

-- ---- what a test parts in two

module _ {X : Type 0} (p : X → Bool) where
  -- no element that passes comes after one that fails
  abbrev pub IsParted : List X → Type 0
  IsParted [] = Unit {0}
  IsParted (x ∷ xs) = AllByRecursion (λ later. p later ≡ true → p x ≡ true) xs × IsParted xs

  -- the first element that fails
  abbrev pub first_failing : List X → Option X
  first_failing [] = None
  first_failing (x ∷ xs) = cond (p x) (first_failing xs) (Some x)

-- ---- entries in order that are cut into parts

module _ (key : List ℕ) (version : ℕ) where
  -- the first entry of these parts that doesn't come before the place of the key and version
  abbrev pub first_over : List (List Entry) → Option Entry
  first_over [] = None
  first_over (b ∷ bs) = or_else (first_failing (is_ahead key version) b) (first_over bs)
