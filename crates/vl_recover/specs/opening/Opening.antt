-- What an image opens as, stage by stage. docs/FORMATS.md tells it.
use Rattle.std.specs.Prelude.{◌≡◌, ◌⊎◌, ◌≤◌, ◌<◌, ℕ, ◌+◌, ◌==◌, nat_lt, if◌then◌else◌, Bool, true, false, List, []}
use Rattle.std.specs.Prelude.{◌∷◌, length, Option, None, Some, Result, Ok, Err, IsSome}
use Rattle.std.specs.FinMap.{get}
use Rattle.std.specs.Ordering.{is_lt}
use Rattle.vl_model.specs.declared.point.Point.{Point}
use Rattle.vl_disk.specs.Crash.{Image}
use Rattle.vl_disk.specs.declared.name.Name.{Name}
use Rattle.vl_disk.specs.declared.name.Name.TheVariants.{Log, Table, Manifest}
use Rattle.vl_engine_model.specs.declared.segment.Segment.{Segment}
use Rattle.vl_manifest.specs.Current.{IsCurrent, IsNewest, NoneCurrent, StandsNewer}
use Rattle.vl_manifest.specs.Manifest.{ManifestSays}
use Rattle.vl_manifest.specs.States.{fresh_state}
use Rattle.vl_manifest.specs.declared.state.ManifestState.{ManifestState}
use Rattle.vl_model.specs.Keys.{key_cmp}
use Rattle.vl_seglog.specs.LogReading.{HasHeader, IsLogFormat, ReadsLog}
use Rattle.vl_table.specs.Begun.{said_place}
use Rattle.vl_table.specs.Opening.{IsDamaged, IsRead, Said}
use Rattle.vl_recover.specs.opening.Stages.{AndThen}
use Rattle.vl_recover.specs.opening.Walk.{LogDamage, StandingLog, filled, walked}

-- why an image isn't opened
pub data Refusal : Type 0 where
  NotAStore : Refusal
  NewerFormat : ℕ → Refusal
  Damaged : Name → ℕ → Refusal

-- a table as an opening finds it: its number, and what it says beside its blocks
pub record FoundTable : Type 0 where
  pub number : ℕ
  pub said : Said

abbrev pub first_key : FoundTable → List ℕ
first_key t = t.said.foot.head.first

abbrev pub last_key : FoundTable → List ℕ
last_key t = t.said.foot.head.last

-- what an image opens as: what its manifest says, the tables of each level that this names, the logs with frames from
-- head on, rising, and the number of the last commit
pub record Opening : Type 0 where
  pub state : ManifestState
  pub levels : List (List FoundTable)
  pub logs : List Segment
  pub number : ℕ

-- ---- what leads an image

-- no current manifest, no log and no table; the current manifest, by its number and bytes; no
-- current one, over a log or a table; and that, with manifests of newer formats
pub data Heading : Type 0 where
  Bare : Heading
  Led : ℕ → List ℕ → Heading
  Headless : Heading
  Newest : ℕ → Heading

pub record IsBare (image : Image) : Type 0 where
  pub none : NoneCurrent image
  pub no_log : (n : ℕ) → get image (Log n) ≡ None
  pub no_table : (n : ℕ) → get image (Table n) ≡ None

pub record IsHeadless (image : Image) : Type 0 where
  pub none : NoneCurrent image
  pub some : ((n : ℕ) × IsSome (get image (Log n))) ⊎ ((n : ℕ) × IsSome (get image (Table n)))

abbrev pub NoneNewer : Image → Type 0
NoneNewer image = (n format : ℕ) → StandsNewer image n format → ⊥

abbrev pub IsHeaded : Image → Heading → Type 0
IsHeaded image Bare = IsBare image
IsHeaded image (Led n bytes) = IsCurrent image n bytes
IsHeaded image Headless = IsHeadless image × NoneNewer image
IsHeaded image (Newest format) = IsHeadless image × IsNewest image format

-- ---- the first stage: what the current manifest says

abbrev pub of_manifest : ℕ → Result ManifestState ℕ → Result ManifestState Refusal
of_manifest n (Ok state) = Ok state
of_manifest n (Err place) = Err (Damaged (Manifest n) place)

-- the state that a heading gives, or the refusal
abbrev pub Says : Heading → Result ManifestState Refusal → Type 0
Says Bare r = r ≡ Ok fresh_state
Says (Led n bytes) r =
    (said : Result ManifestState ℕ) × ManifestSays n bytes said × (r ≡ of_manifest n said)
Says Headless r = r ≡ Err NotAStore
Says (Newest format) r = r ≡ Err (NewerFormat format)

abbrev pub Current : Image → Result ManifestState Refusal → Type 0
Current image r = (heading : Heading) × IsHeaded image heading × Says heading r

-- ---- the second: the tables that it names, level by level

pub record StandsTable (image : Image) (number : ℕ) (t : FoundTable) : Type 0 where
  pub numbered : t.number ≡ number
  pub bytes : List ℕ
  pub stands : get image (Table number) ≡ Some bytes
  pub reads : IsRead number bytes t.said

-- the key is above the last one of the table before, where that counts
abbrev pub IsAbove : Option (List ℕ) → List ℕ → Type 0
IsAbove None key = Unit {0}
IsAbove (Some last) key = is_lt (key_cmp last key) ≡ true

-- the table is missing or damaged, or doesn't begin behind the one before it; and the place
pub data IsBadTable (image : Image) (before : Option (List ℕ)) (number place : ℕ) : Type 0 where
  missing : get image (Table number) ≡ None → place ≡ 0 → IsBadTable image before number place
  damaged : (bytes : List ℕ) → get image (Table number) ≡ Some bytes → IsDamaged number bytes place
      → IsBadTable image before number place
  not_above : (t : FoundTable) (stands : StandsTable image number t) → (IsAbove before (first_key t) → ⊥)
      → place ≡ said_place stands.bytes → IsBadTable image before number place

abbrev pub NamedTable : Image → Option (List ℕ) → ℕ → Result FoundTable Refusal → Type 0
NamedTable image before number (Ok t) = StandsTable image number t × IsAbove before (first_key t)
NamedTable image before number (Err why) =
    (place : ℕ) × IsBadTable image before number place × (why ≡ Damaged (Table number) place)

-- the key that the next table of the level has to be above
abbrev pub key_before : (deeper : Bool) → FoundTable → Option (List ℕ)
key_before false t = None
key_before true t = Some (last_key t)

-- the tables of one level; those of a deeper one are in the order of their keys, and apart
abbrev pub NamedLevel : (deeper : Bool) → Image → Option (List ℕ) → List ℕ → Result (List FoundTable) Refusal → Type 0
NamedLevel deeper image before [] r = r ≡ Ok []
NamedLevel deeper image before (n ∷ ns) r =
    AndThen (NamedTable image before n)
    (λ t. AndThen (NamedLevel deeper image (key_before deeper t) ns) (λ ts s. s ≡ Ok (t ∷ ts))) r

abbrev pub NamedLevels : (deeper : Bool) → Image → List (List ℕ) → Result (List (List FoundTable)) Refusal → Type 0
NamedLevels deeper image [] r = r ≡ Ok []
NamedLevels deeper image (ns ∷ levels) r =
    AndThen (NamedLevel deeper image None ns)
    (λ ts. AndThen (NamedLevels true image levels) (λ others s. s ≡ Ok (ts ∷ others))) r

-- ---- the third: the logs that their footers lead into

-- a number put at its place among rising ones, once
abbrev pub put_number : ℕ → List ℕ → List ℕ
put_number n [] = n ∷ []
put_number n (m ∷ ms) =
    if nat_lt n m then n ∷ m ∷ ms else (if n == m then m ∷ ms else m ∷ put_number n ms)

-- the segments of these points put among them
abbrev pub put_points : List Point → List ℕ → List ℕ
put_points [] ns = ns
put_points (p ∷ ps) ns = put_points ps (put_number p.segment ns)

abbrev pub led_by : List FoundTable → List ℕ → List ℕ
led_by [] ns = ns
led_by (t ∷ ts) ns = led_by ts (put_points t.said.foot.points ns)

abbrev pub led_through : List (List FoundTable) → List ℕ → List ℕ
led_through [] ns = ns
led_through (ts ∷ levels) ns = led_through levels (led_by ts ns)

-- The logs that footers of these tables lead into, rising.
abbrev pub led_into : List (List FoundTable) → List ℕ
led_into levels = led_through levels []

-- it is one of these numbers
abbrev pub IsAmong : List ℕ → ℕ → Type 0
IsAmong [] n = ⊥
IsAmong (m ∷ ms) n = (m ≡ n) ⊎ IsAmong ms n

-- a level names this table
abbrev pub IsNamed : List (List ℕ) → ℕ → Type 0
IsNamed [] n = ⊥
IsNamed (ns ∷ levels) n = IsAmong ns n ⊎ IsNamed levels n

-- the current manifest, where one can be read, names no table
abbrev pub NamesNoTable : Image → Type 0
NamesNoTable image = (state : ManifestState) → Current image (Ok state) → (n : ℕ) → IsNamed state.levels n → ⊥

-- the bytes begin with the right header of the log with this number
abbrev pub BeginsLog : ℕ → List ℕ → Type 0
BeginsLog number bytes = (format : ℕ) × IsLogFormat format × HasHeader format number bytes

abbrev pub NamedLog : Image → ℕ → Result (Unit {0}) Refusal → Type 0
NamedLog image n (Ok t) = (bytes : List ℕ) × (get image (Log n) ≡ Some bytes) × BeginsLog n bytes
NamedLog image n (Err why) =
    ((bytes : List ℕ) → get image (Log n) ≡ Some bytes → BeginsLog n bytes → ⊥) × (why ≡ Damaged (Log n) 0)

abbrev pub NamedLogs : Image → List ℕ → Result (Unit {0}) Refusal → Type 0
NamedLogs image [] r = r ≡ Ok tt
NamedLogs image (n ∷ ns) r = AndThen (NamedLog image n) (λ t. NamedLogs image ns) r

-- ---- the fourth: the logs from head on

-- the log is the least that stands from a number on
pub record IsNextLog (image : Image) (least : ℕ) (log : StandingLog) : Type 0 where
  pub from : least ≤ log.number
  pub between : (m : ℕ) → least ≤ m → m < log.number → get image (Log m) ≡ None
  pub bytes : List ℕ
  pub stands : get image (Log log.number) ≡ Some bytes
  pub length_is : log.length ≡ length bytes
  pub reads : ReadsLog log.number bytes log.reading

-- the logs that stand from a number on, rising, each as it reads
abbrev pub StandingLogs : Image → ℕ → List StandingLog → Type 0
StandingLogs image least [] = (m : ℕ) → least ≤ m → get image (Log m) ≡ None
StandingLogs image least (log ∷ logs) =
    IsNextLog image least log × StandingLogs image (log.number + 1) logs

abbrev pub opening_of : ManifestState → List (List FoundTable) → List StandingLog → Result ℕ LogDamage
    → Result Opening Refusal
opening_of state levels logs (Ok number) =
    Ok (record { state = state; levels = levels; logs = filled logs; number = number })
opening_of state levels logs (Err damage) = Err (Damaged (Log damage.log) damage.place)

abbrev pub LogsFrom : Image → ManifestState → List (List FoundTable) → Result Opening Refusal → Type 0
LogsFrom image state levels r =
    (logs : List StandingLog) × StandingLogs image state.head logs
    × (r ≡ opening_of state levels logs (walked state.covered logs))

-- behind the manifest, and behind the tables
abbrev pub WithLogs : Image → ManifestState → List (List FoundTable) → Result Opening Refusal → Type 0
WithLogs image state levels =
    AndThen (NamedLogs image (led_into levels)) (λ t. LogsFrom image state levels)

abbrev pub WithTables : Image → ManifestState → Result Opening Refusal → Type 0
WithTables image state = AndThen (NamedLevels false image state.levels) (WithLogs image state)

-- What an image opens as, or why it isn't opened.
abbrev pub Opens : Image → Result Opening Refusal → Type 0
Opens image = AndThen (Current image) (WithTables image)
