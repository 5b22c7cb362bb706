-- When one image opens like another, and when whatever a crash leaves of a disk opens like something that it could have left
-- of an earlier one.
use Rattle.std.specs.Prelude.{◌≤◌, ◌≡◌, ℕ, List, Ok}
use Rattle.std.specs.FinMap.{get}
use Rattle.vl_disk.specs.Chance.{NoChanceMatch}
use Rattle.vl_disk.specs.Crash.{Image, MayLeave}
use Rattle.vl_disk.specs.DiskState.{DiskState}
use Rattle.vl_disk.specs.declared.name.Name.{Name}
use Rattle.vl_disk.specs.declared.name.Name.TheVariants.{Log, Table, Manifest}
use Rattle.vl_frame.specs.Begins.{SpellsAt}
use Rattle.vl_manifest.specs.Grammar.{edits_grammar}
use Rattle.vl_manifest.specs.declared.state.ManifestState.{ManifestState}
use Rattle.vl_model.specs.Formats.{manifest_format}
use Rattle.vl_seglog.specs.Frames.{frames_grammar}
use Rattle.vl_seglog.specs.LogReading.{HasHeader, IsLogFormat}
use Rattle.vl_recover.specs.opening.Opening.{IsAmong, IsNamed, Opening, Opens, led_into}

-- Two manifests say the same, but for the numbers that may still be given. The first may say a greater `gone`: where a crash
-- tears the new manifest's header into one of an older format, its covered number is read for it.
pub record SameState (a b : ManifestState) : Type 0 where
  pub levels : a.levels ≡ b.levels
  pub head : a.head ≡ b.head
  pub covered : a.covered ≡ b.covered
  pub keep : a.keep ≡ b.keep
  pub since : a.since ≡ b.since
  pub gone : b.gone ≤ a.gone

-- so do two openings, which have the same tables, the same logs and the same last commit
pub record ShowsAs (a b : Opening) : Type 0 where
  pub state : SameState a.state b.state
  pub levels : a.levels ≡ b.levels
  pub logs : a.logs ≡ b.logs
  pub number : a.number ≡ b.number

-- the tables that an opening names, and the logs that these lead into, have the same bytes in both images
pub record SameNeeded (image other : Image) (o : Opening) : Type 0 where
  pub tables : (n : ℕ) → IsNamed o.state.levels n → get image (Table n) ≡ get other (Table n)
  pub logs : (n : ℕ) → IsAmong (led_into o.levels) n → get image (Log n) ≡ get other (Log n)

-- where the other image opens, this one opens as it, and what that needs has the same bytes
abbrev pub OpensLike : (image other : Image) → Type 0
OpensLike image other =
    (o : Opening) → Opens other (Ok o) → (p : Opening) × Opens image (Ok p) × ShowsAs p o × SameNeeded image other o

-- the frames of a log, in the format that its header says
abbrev pub SpellsLogged : ℕ → List ℕ → ℕ → List ℕ → Type 0
SpellsLogged number bytes at frame = (format : ℕ) × IsLogFormat format × HasHeader format number bytes
    × SpellsAt (frames_grammar format) number bytes at frame

-- the frames that are looked for when a crash has left torn bytes: those of logs and manifests
abbrev pub Spells : Name → List ℕ → ℕ → List ℕ → Type 0
Spells (Log number) bytes at frame = SpellsLogged number bytes at frame
Spells (Table number) bytes at frame = ⊥
Spells (Manifest number) bytes at frame = SpellsAt (edits_grammar manifest_format) number bytes at frame

-- the image may be left by a crash, and no torn bytes of it spell a frame by chance
pub record IsLeft (disk : DiskState) (image : Image) : Type 0 where
  pub left : MayLeave disk image
  pub no_chance : NoChanceMatch Spells disk image

-- Whatever a crash leaves of this disk opens as something that it could have left of the old one.
abbrev pub OpensAsOf : (old now : DiskState) → Type 0
OpensAsOf old now =
    (image : Image) → IsLeft now image → (before : Image) × IsLeft old before × OpensLike image before
