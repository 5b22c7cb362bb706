-- What leads an image, as far as it was looked for.
use Rattle.std.specs.Prelude.{◌≡◌, ℕ, ◌<◌, ◌≤◌, ◌==◌, ◌&&◌, if◌then◌else◌, List, Option, None, Some, Result, Ok, Err}
use Rattle.std.specs.FinMap.{get}
use Rattle.vl_disk.specs.Crash.{Image}
use Rattle.vl_disk.specs.declared.name.Name.TheVariants.{Log}
use Rattle.vl_manifest.specs.Current.{StandsNewer, StandsReadable}
use Rattle.vl_manifest.specs.Manifest.{IsNewer}
use Rattle.vl_recover.specs.declared.fails.OpenError.{OpenError}
use Rattle.vl_recover.specs.declared.fails.OpenError.TheVariants as why
use Rattle.vl_recover.specs.opening.Opening.{Bare, Damaged, Heading, Headless, NewerFormat, Newest, NotAStore, Refusal}
use Rattle.vl_recover.specs.opening.Plans.{Greatest}
use Rattle.vl_seglog.specs.LogReading.{HasHeader, IsLogFormat}

-- It is what a stage gives; for want of memory, and where the disk fails, it may give up.
abbrev pub AnswersStage : {A : Type 0} → (Result A Refusal → Type 0) → Result A OpenError → Type 0
AnswersStage stage (Ok a) = stage (Ok a)
AnswersStage stage (Err why.NotAStore) = stage (Err NotAStore)
AnswersStage stage (Err (why.NewerFormat format)) = stage (Err (NewerFormat format))
AnswersStage stage (Err (why.Damaged name place)) = stage (Err (Damaged name place))
AnswersStage stage (Err (why.Exhausted counter)) = ⊥
AnswersStage stage (Err why.NoMemory) = Unit {0}
AnswersStage stage (Err (why.Disk name)) = Unit {0}

-- ---- manifests from the greatest down

-- the manifest's format, where it is one that isn't read yet
abbrev pub HasNewer : ℕ → List ℕ → Option ℕ → Type 0
HasNewer number bytes None = (format : ℕ) → IsNewer number bytes format → ⊥
HasNewer number bytes (Some format) = IsNewer number bytes format

-- the newest format with that manifest: the one of greater manifests, or its own
abbrev pub IsNewestWith : Option ℕ → ℕ → List ℕ → Option ℕ → Type 0
IsNewestWith None number bytes newest = HasNewer number bytes newest
IsNewestWith (Some format) number bytes newest = newest ≡ Some format

-- of the manifests that aren't below a number, the newest format
abbrev pub IsNewestDownTo : Image → ℕ → Option ℕ → Type 0
IsNewestDownTo image above None = (n format : ℕ) → StandsNewer image n format → n < above
IsNewestDownTo image above (Some format) =
    (n : ℕ) × (above ≤ n) × StandsNewer image n format × ((m other : ℕ) → StandsNewer image m other → m ≤ n)

-- no manifest that can be read stands but below a number
pub record ArePassed (image : Image) (above : ℕ) (newest : Option ℕ) : Type 0 where
  pub unreadable : (n : ℕ) (bytes : List ℕ) → StandsReadable image n bytes → n < above
  pub newest_is : IsNewestDownTo image above newest

-- what leads where no manifest is current
abbrev pub headed_by : Option ℕ → Heading
headed_by None = Headless
headed_by (Some format) = Newest format

abbrev pub heading_without : Greatest → Option ℕ → Heading
heading_without g newest = if (g.log == 0) && (g.table == 0) then Bare else headed_by newest

-- ---- the logs that tables lead into

-- the log stands, and begins with its header in this format
pub record BeginsIn (image : Image) (number format : ℕ) : Type 0 where
  pub bytes : List ℕ
  pub stands : get image (Log number) ≡ Some bytes
  pub format_is : IsLogFormat format
  pub header : HasHeader format number bytes
