-- What a store leaves on its disk when it is closed, and what a store begins with that is opened there again.
use Rattle.std.specs.Prelude.{◌≡◌, ℕ, [], List, Option, is_some, true}
use Rattle.std.specs.Option.{ForSome}
use Rattle.vl_disk.specs.Crash.{Image, MayLeave}
use Rattle.vl_disk.specs.DiskState.{DiskState}
use Rattle.vl_disk.specs.Started.{IsRead}
use Rattle.vl_drive.specs.Steps.{Origin, history_by}
use Rattle.vl_engine_laws.specs.Found.{recovered}
use Rattle.vl_engine_laws.specs.Reopened.{reopened}
use Rattle.vl_engine_laws.specs.Shown.{Shown}
use Rattle.vl_engine_model.specs.Start.{layout_at_start}
use Rattle.vl_engine_model.specs.declared.layout.Layout.{Layout}
use Rattle.vl_model.specs.History.{History, last_number}
use Rattle.vl_recover.specs.crash.Starts.{MayOpen}
use Rattle.vl_recover.specs.declared.fails.OpenError.{OpenError}
use Rattle.vl_recover.specs.declared.fails.OpenError.TheVariants as why
use Rattle.vl_recover.specs.opening.Answers.{AnswersBy, Finds, UsedUp}
use Rattle.vlstore.specs.Shops.{origin_of}
use Rattle.vlstore.specs.Standing.{Parts, Stands}
use Rattle.vlstore.specs.declared.locked.Origin as locked

-- Whatever a crash leaves of this disk shows the history at its last number, and a store may be opened on it.
pub record Keeps (h : History) (disk : DiskState) : Type 0 where
  pub shows : (image : Image) → MayLeave disk image → Shown image h (last_number h)
  pub may_open : MayOpen disk

-- so it does with some history
abbrev pub KeepsStore : DiskState → Type 0
KeepsStore disk = (h : History) × Keeps h disk

-- So it is where disks of this type tell their bytes. Nothing is asked over others.
abbrev pub IfTelling : {D S : Type 0} → (D → Option S) → Type 0 → Type 0
IfTelling {D} told is = (disk : D) → is_some (told disk) ≡ true → is

-- The layout that an opening with so much room leaves, by what a read of the disk gives and shows of the history.
pub record IsLayoutOf (disk : DiskState) (h : History) (room : ℕ) (l : Layout) : Type 0 where
  pub read : Image
  pub is_read : IsRead read disk
  pub found : Finds read
  pub shown : Shown read h (last_number h)
  pub is : l ≡ layout_at_start room (recovered found shown)

-- A store that was opened on this disk goes on with a history that the disk kept, from its last number on, and its logs may have
-- so many bytes.
pub record GoesOnFrom (disk : DiskState) (room : ℕ) (o : Origin) : Type 0 where
  pub history : History
  pub kept : Keeps history disk
  pub is : history_by o [] ≡ reopened history (last_number history)
  pub layout : IsLayoutOf disk (reopened history (last_number history)) room o.layout

-- An engine that was opened on what this disk told stands for what was before the first step, and so that goes on.
pub record BeginsAgain {H L : Type 0} (bytes : H → Option (List ℕ)) (sure : Type 0) (before : Option DiskState) (room : ℕ)
    (x : Parts H L) (o : locked.Origin) : Type 0 where
  pub stands : Stands bytes sure o (is_some x.told) [] x
  pub from : ForSome before (λ disk. GoesOnFrom disk room (origin_of o))

-- Why it may not be opened on this disk: memory is wanting, or there are no more numbers of a kind, by what reads give.
abbrev pub IsOnlyWantOfOpening : DiskState → OpenError → Type 0
IsOnlyWantOfOpening disk why.NotAStore = ⊥
IsOnlyWantOfOpening disk (why.NewerFormat format) = ⊥
IsOnlyWantOfOpening disk (why.Damaged name place) = ⊥
IsOnlyWantOfOpening disk (why.Exhausted counter) = (read : Image) → IsRead read disk → AnswersBy read (UsedUp counter)
IsOnlyWantOfOpening disk why.NoMemory = Unit {0}
IsOnlyWantOfOpening disk (why.Disk name) = ⊥
