-- A merge's marks: of each entry of the sources whether an input has it, and whether it is kept.
use Rattle.std.specs.Prelude.{◌≡◌, ℕ, Bool, true, false, ◌&&◌, not, nat_lt, ◌≤◌, List, [], ◌∷◌}
use Rattle.std.specs.List.{list_any}
use Rattle.vl_model.specs.Winners.{counts}
use Rattle.vl_model.specs.declared.entry.Entry.{Entry}
use Rattle.vl_engine_model.specs.Merging.{Sourced, if_so, inputs_of, outside_of, is_outdated, is_dropped}

-- an entry of the sources: whether an input of the merge has it, and whether it is kept
pub record Marked : Type 0 where
  pub input : Bool
  pub kept : Bool
  pub entry : Entry

abbrev pub all_of : List Marked → List Entry
all_of [] = []
all_of (m ∷ ms) = m.entry ∷ all_of ms

-- what is left
abbrev pub kept_of : List Marked → List Entry
kept_of [] = []
kept_of (m ∷ ms) = if_so m.kept m.entry (kept_of ms)

abbrev pub marked_inputs : List Marked → List Entry
marked_inputs [] = []
marked_inputs (m ∷ ms) = if_so m.input m.entry (marked_inputs ms)

abbrev pub marked_outside : List Marked → List Entry
marked_outside [] = []
marked_outside (m ∷ ms) = if_so (not m.input) m.entry (marked_outside ms)

-- ---- of a plan over the sources that it was made of

abbrev pub plain : List Sourced → List Entry
plain [] = []
plain (s ∷ ss) = s.1 ∷ plain ss

abbrev pub marks_from : ℕ → List Entry → List Entry → ℕ → List Entry → List Sourced → List Marked
marks_from keep inputs outside floor newer [] = []
marks_from keep inputs outside floor newer (s ∷ ss) =
    record { input = s.0; kept = not (s.0 && is_dropped keep inputs outside floor newer s.1); entry = s.1 } ∷ marks_from
    keep inputs outside floor (s.1 ∷ newer) ss

-- what a merge of these sources keeps of its inputs, and all that is outside them
abbrev pub marks : ℕ → List Sourced → ℕ → List Marked
marks keep ss floor = marks_from keep (inputs_of ss) (outside_of ss) floor [] ss

-- ---- of a merge that is put in place later

module _ (keep : ℕ) (inputs outside : List Entry) (floor : ℕ) where
  -- what is dropped stands in an input, and one of the three rules drops it now; what is kept of an
  -- input isn't outdated
  pub record IsJustified (newer : List Entry) (m : Marked) : Type 0 where
    pub drops : m.kept ≡ false
        → (m.input ≡ true) × (is_dropped keep inputs outside floor newer m.entry ≡ true)
    pub keeps : m.kept ≡ true → m.input ≡ true → is_outdated keep inputs floor m.entry ≡ false

  abbrev pub AreJustified : List Entry → List Marked → Type 0
  AreJustified newer [] = Unit {0}
  AreJustified newer (m ∷ ms) = IsJustified newer m × AreJustified (m.entry ∷ newer) ms

-- At this number a merge may be seen: what it outdates is behind another of the key that counts there, and where
-- it may drop deletions the number isn't below its floor.
pub record IsPast (keep : ℕ) (inputs : List Entry) (floor : ℕ) (key : List ℕ) (number : ℕ) : Type 0 where
  pub outdates : (e : Entry) → e.key ≡ key → is_outdated keep inputs floor e ≡ true
      → list_any (λ (f : Entry). counts key number f && nat_lt e.version f.version) inputs ≡ true
  pub needs : keep ≡ 1 → floor ≤ number
