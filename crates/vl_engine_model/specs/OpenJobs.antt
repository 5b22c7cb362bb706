-- What is so of an open job, whatever was done since it was planned.
use Rattle.std.specs.Prelude.{◌≡◌, ◌⊎◌, ℕ, ◌-◌, ◌<◌, ◌≤◌, ◌==◌, Bool, true, false, List, [], ◌∷◌, ◌++◌, is_some, length}
use Rattle.std.specs.List.{AllZip, AllByRecursion, flat_map, list_any}
use Rattle.std.specs.FinMap.{find}
use Rattle.std.specs.Ordering.{eq_by_cmp, is_lt}
use Rattle.vl_model.specs.Conflicts.{Named}
use Rattle.vl_model.specs.Entries.{is_at}
use Rattle.vl_model.specs.History.{History, last_number}
use Rattle.vl_model.specs.Keys.{key_cmp}
use Rattle.vl_model.specs.declared.entry.Entry.{Entry}
use Rattle.vl_engine_model.specs.Levels.{is_among, level_at}
use Rattle.vl_engine_model.specs.Merging.{Sourced, inputs_of, outside_of}
use Rattle.vl_engine_model.specs.Rulings.Plan.{sourced}
use Rattle.vl_engine_model.specs.Shown.{AreOf, Fits}
use Rattle.vl_engine_model.specs.Sources.{tables}
use Rattle.vl_engine_model.specs.declared.job.Job.{Job}
use Rattle.vl_engine_model.specs.declared.job.Target.{Target}
use Rattle.vl_engine_model.specs.declared.job.Target.TheVariants.{Level, InPlace}
use Rattle.vl_engine_model.specs.declared.layout.Layout.{Layout}
use Rattle.vl_engine_model.specs.declared.live.Live.{Live}
use Rattle.vl_engine_model.specs.declared.table.Table.{Table}

-- ---- the sources of a moment

-- an input's entry, and the entries before it in the sources, the nearest first
pub record Preceded : Type 0 where
  pub entry : Entry
  pub newer : List Entry

abbrev pub preceded_if : Bool → Entry → List Entry → List Preceded → List Preceded
preceded_if true e newer ps = record { entry = e; newer = newer } ∷ ps
preceded_if false e newer ps = ps

-- the inputs' entries with what stands before them, behind these
abbrev pub preceded : List Entry → List Sourced → List Preceded
preceded newer [] = []
preceded newer (s ∷ ss) = preceded_if s.0 s.1 newer (preceded (s.1 ∷ newer) ss)

-- each key and version that stands in the one stands in the other
abbrev pub Covers : List Entry → List Entry → Type 0
Covers old new = (key : List ℕ) (version : ℕ) → list_any (is_at key version) old ≡ true
    → list_any (is_at key version) new ≡ true

-- the entry is the same, and whatever key and version stood before it still does
pub record IsStillBehind (old new : Preceded) : Type 0 where
  pub same : new.entry ≡ old.entry
  pub covers : Covers old.newer new.newer

-- an entry outside the inputs stood outside them when the job began, by key and version; or is of a
-- version above its floor; or its key was moved since
abbrev pub IsAccounted : List Entry → ℕ → List Named → Entry → Type 0
IsAccounted outside floor moved e =
    (list_any (is_at e.key e.version) outside ≡ true)
    ⊎ ((floor < e.version) ⊎ (is_some (find key_cmp e.key moved) ≡ true))

-- the sources of a moment, each entry with whether an input has it, are still what the job may be put into
pub record IsKeptFor (job : Job) (moved : List Named) (now : List Sourced) : Type 0 where
  pub inputs : AllZip IsStillBehind (preceded [] job.base) (preceded [] now)
  pub outside : AllByRecursion (IsAccounted (outside_of job.base) job.floor moved) (outside_of now)

-- ---- where the inputs stand

-- no entry is of the key
abbrev pub IsWithout : List ℕ → List Entry → Type 0
IsWithout key es = AllByRecursion (λ (e : Entry). eq_by_cmp key_cmp key e.key ≡ false) es

-- none of the tables is an input
abbrev pub IsIdle : List ℕ → List Table → Type 0
IsIdle inputs ts = AllByRecursion (λ (t : Table). is_among inputs t ≡ false) ts

module _ (inputs : List ℕ) (key : List ℕ) where
  -- but the inputs, no table has the key
  abbrev pub IsClear : List Table → Type 0
  IsClear ts = AllByRecursion (λ (t : Table). is_among inputs t ≡ false → IsWithout key t.entries) ts

  -- no input has it
  abbrev pub IsUntouched : List Table → Type 0
  IsUntouched ts = AllByRecursion (λ (t : Table). is_among inputs t ≡ true → IsWithout key t.entries) ts

  -- behind an input that has it only inputs do
  abbrev pub IsParted : List Table → Type 0
  IsParted [] = Unit {0}
  IsParted (t ∷ ts) = (is_among inputs t ≡ true → IsWithout key t.entries ⊎ IsClear ts) × IsParted ts

  pub record IsPair (first second : List Table) (deeper : List (List Table)) : Type 0 where
    pub parted : IsParted first
    pub apart : (IsUntouched first × IsUntouched second) ⊎ IsClear second
    pub idle : IsIdle inputs (flat_map (λ ts. ts) deeper)

  -- the inputs stand in two levels, of which the second has this number
  abbrev pub IsShaped : ℕ → List (List Table) → Type 0
  IsShaped n [] = ⊥
  IsShaped n (first ∷ []) = ⊥
  IsShaped n (first ∷ second ∷ deeper) =
      ((n ≡ 1) × IsPair first second deeper) ⊎ ((1 < n) × (IsIdle inputs first × IsShaped (n - 1) (second ∷ deeper)))

-- of a job into a level each key's inputs stand so; one in place has one input
abbrev pub IsFitted : Layout → Job → Target → Type 0
IsFitted l job (Level n) = (key : List ℕ) → IsShaped job.inputs key n l.levels
IsFitted l job InPlace = (xs : List Table) × (t : Table) × (ys : List Table) × (tables l ≡ xs ++ t ∷ ys)
    × (IsIdle job.inputs xs × ((is_among job.inputs t ≡ true) × IsIdle job.inputs ys))

-- ---- where its outputs go

-- the table lies on one side of all these keys
abbrev pub IsBesideAll : List Entry → Table → Type 0
IsBesideAll es u = AllByRecursion (λ (e : Entry). is_lt (key_cmp u.last e.key) ≡ true) es
    ⊎ AllByRecursion (λ (e : Entry). is_lt (key_cmp e.key u.first) ≡ true) es

-- in the level below level 0 into which it goes each table that isn't an input lies on one side of all keys
-- of the inputs
abbrev pub IsRoomy : List (List Table) → Job → Target → Type 0
IsRoomy levels job (Level n) = (0 < n) × ((n < length levels)
    × AllByRecursion (λ (u : Table). is_among job.inputs u ≡ false → IsBesideAll (inputs_of job.base) u) (level_at n levels))
IsRoomy levels job InPlace = Unit {0}

-- each of these is the number of a table
abbrev pub AreStanding : List Table → List ℕ → Type 0
AreStanding ts numbers = AllByRecursion (λ (n : ℕ). list_any (λ (t : Table). n == t.number) ts ≡ true) numbers

-- ---- all of it

pub record IsOpenWell (l : Layout) (h : History) (job : Job) (moved : List Named) : Type 0 where
  pub kept : IsKeptFor job moved (sourced l job.inputs)
  -- its floor is at most that of the engine
  pub last : job.floor ≤ last_number h
  pub live : AllByRecursion (λ (x : Live). job.floor ≤ x.number) l.live
  pub given : AllByRecursion (λ n. n < l.next_table) job.inputs
  pub standing : AreStanding (tables l) job.inputs
  pub fitted : IsFitted l job job.target
  pub roomy : IsRoomy l.levels job job.target
  -- it keeps some versions; as many as are kept now, or its floor isn't above since; and its inputs'
  -- versions are of the history
  pub some : 1 ≤ job.keep
  pub fits : Fits job.keep job.floor l.keep l.since
  pub of : AreOf h (inputs_of job.base)
