-- What is looked for among the names of the files that stand.
use Rattle.std.specs.Prelude.{ℕ, ◌≤◌, ◌<◌, Bool, true, false, not, ◌&&◌, ◌||◌, nat_le, nat_lt, if◌then◌else◌, List}
use Rattle.std.specs.Prelude.{[], ◌∷◌, Contains, Option, None, Some}
use Rattle.vl_disk.specs.Name.{name_number}
use Rattle.vl_disk.specs.declared.name.Name.{Name}
use Rattle.vl_disk.specs.declared.name.Name.TheVariants.{Log, Table, Manifest}
use Rattle.vl_manifest.specs.Levels.{is_in}
use Rattle.vl_manifest.specs.declared.state.ManifestState.{ManifestState}
use Rattle.vl_recover.specs.opening.Plans.{Greatest}

-- ---- the greatest of each kind

-- no greater one is there, and it is there itself, or is 0
pub record IsGreatestIn (names : List Name) (kind : ℕ → Name) (greatest : ℕ) : Type 0 where
  pub above : (m : ℕ) → Contains names (kind m) → m ≤ greatest
  pub is_there : 1 ≤ greatest → Contains names (kind greatest)

pub record AreGreatestIn (names : List Name) (g : Greatest) : Type 0 where
  pub log : IsGreatestIn names Log g.log
  pub table : IsGreatestIn names Table g.table
  pub manifest : IsGreatestIn names Manifest g.manifest

abbrev pub greater : ℕ → ℕ → ℕ
greater number found = if nat_le number found then found else number

abbrev pub greatest_with : Name → Greatest → Greatest
greatest_with (Log number) g = record g { log = greater number g.log }
greatest_with (Table number) g = record g { table = greater number g.table }
greatest_with (Manifest number) g = record g { manifest = greater number g.manifest }

-- ---- the next log, and the next manifest

-- it is the least number with P; none where no number has P
abbrev pub IsLeastOf : (ℕ → Type 0) → Option ℕ → Type 0
IsLeastOf P None = (n : ℕ) → P n → ⊥
IsLeastOf P (Some least) = P least × ((n : ℕ) → P n → least ≤ n)

-- it is the greatest number with P; none where no number has P
abbrev pub IsGreatestOf : (ℕ → Type 0) → Option ℕ → Type 0
IsGreatestOf P None = (n : ℕ) → P n → ⊥
IsGreatestOf P (Some greatest) = P greatest × ((n : ℕ) → P n → n ≤ greatest)

abbrev pub IsLogFrom : List Name → ℕ → ℕ → Type 0
IsLogFrom names least n = Contains names (Log n) × (least ≤ n)

abbrev pub IsManifestBelow : List Name → ℕ → ℕ → Type 0
IsManifestBelow names above n = Contains names (Manifest n) × (n < above)

-- the number in the name of a log from the least on
abbrev pub log_from : ℕ → Name → Option ℕ
log_from least (Log number) = if nat_le least number then Some number else None
log_from least (Table number) = None
log_from least (Manifest number) = None

-- the number in the name of a manifest below this one
abbrev pub manifest_below : ℕ → Name → Option ℕ
manifest_below above (Log number) = None
manifest_below above (Table number) = None
manifest_below above (Manifest number) = if nat_lt number above then Some number else None

-- Of one kind the numbers rise.
abbrev pub AreRising : List Name → Type 0
AreRising [] = Unit {0}
AreRising (name ∷ names) = ((other : Name) → Contains names other → name_number name ≤ name_number other) × AreRising names

-- ---- strays

-- a level names this table
abbrev pub is_named : ℕ → List (List ℕ) → Bool
is_named table [] = false
is_named table (tables ∷ levels) = is_in table tables || is_named table levels

-- by what the manifest says, and the logs that its tables lead into
abbrev pub is_stray : ManifestState → List ℕ → Name → Bool
is_stray state led (Log number) = nat_lt number state.head && not (is_in number led)
is_stray state led (Table number) = not (is_named number state.levels)
is_stray state led (Manifest number) = true
