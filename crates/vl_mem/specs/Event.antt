-- What the calls of a disk in memory made of it, one after the other.
use Rattle.std.specs.Prelude.{◌≡◌, ℕ, ◌≤◌, List, [], ◌∷◌, ◌++◌, length, take, Some, All}
use Rattle.std.proofs.Common.{refl, sym, ◌∙◌, ap, subst, arith}
use Rattle.std.proofs.Props.{props}
use Rattle.std.proofs.lemmas.List.{take_all}
use Rattle.std.proofs.lemmas.List.Elements.{All-tail}
use Rattle.vl_disk.specs.Name.{IsNumbered}
use Rattle.vl_disk.specs.DiskState.{DiskState, IsLawful, IsLawfulFile, empty_disk, created, appended, synced, cut_to, without}
use Rattle.vl_disk.specs.Lending.{adopted}
use Rattle.vl_disk.specs.MadeFile.{made}
use Rattle.vl_disk.specs.laws.Lawful.{adopted_lawful, empty_lawful, made_lawful, created_lawful, appended_lawful}
use Rattle.vl_disk.specs.laws.Lawful.{synced_lawful, cut_lawful, without_lawful}
use Rattle.vl_mem.specs.declared.event.Event.{Event}
use Rattle.vl_mem.specs.declared.event.Event.TheVariants.{Found, Create, Append, Sync, Cut, Remove, Adopt}
use Rattle.vl_mem.specs.Written.{file_written, written_prop}

abbrev pub after_event : Event → DiskState → DiskState
after_event (Found name bytes) disk = made name bytes.items disk
after_event (Create name) disk = created name disk
after_event (Append name piece taken) disk = appended name piece.items taken disk
after_event (Sync name) disk = synced name disk
after_event (Cut name len left) disk = cut_to name len left disk
after_event (Remove name) disk = without name disk
after_event (Adopt name written) disk = adopted name (file_written written) disk

abbrev pub replayed : List Event → DiskState → DiskState
replayed [] disk = disk
replayed (event ∷ events) disk = replayed events (after_event event disk)

pub replayed-push : (events : List Event) (event : Event) (disk : DiskState)
    → replayed (events ++ event ∷ []) disk ≡ after_event event (replayed events disk)
replayed-push [] event disk = refl
replayed-push (e ∷ events) event disk = replayed-push events event (after_event e disk)

-- a number that a file's name may have, a cut that leaves no less than was to stay, and an adopted file that is lawful
abbrev pub IsSound : Event → Type 0
IsSound (Found name bytes) = IsNumbered name
IsSound (Create name) = IsNumbered name
IsSound (Append name piece taken) = Unit {0}
IsSound (Sync name) = Unit {0}
IsSound (Cut name len left) = len ≤ left
IsSound (Remove name) = Unit {0}
IsSound (Adopt name written) = IsNumbered name × IsLawfulFile (file_written written)

pub sound_prop : (event : Event) → IsProp (IsSound event)
sound_prop (Found name bytes) = hlevel props
sound_prop (Create name) = hlevel props
sound_prop (Append name piece taken) = hlevel props
sound_prop (Sync name) = hlevel props
sound_prop (Cut name len left) = hlevel props
sound_prop (Remove name) = hlevel props
sound_prop (Adopt name written) = hlevel (props, written_prop)

event_lawful : (event : Event) (disk : DiskState) → IsSound event → IsLawful disk → IsLawful (after_event event disk)
event_lawful (Found name bytes) disk sound lawful = made_lawful disk lawful name bytes.items sound
event_lawful (Create name) disk sound lawful = created_lawful disk lawful name sound
event_lawful (Append name piece taken) disk sound lawful = appended_lawful disk lawful name piece.items taken
event_lawful (Sync name) disk sound lawful = synced_lawful disk lawful name
event_lawful (Cut name len left) disk sound lawful = cut_lawful disk lawful name len left sound
event_lawful (Remove name) disk sound lawful = without_lawful disk lawful name
event_lawful (Adopt name written) disk sound lawful = adopted_lawful disk lawful name (file_written written) sound.1 sound.0

replayed_lawful : (events : List Event) (disk : DiskState) → All IsSound events → IsLawful disk → IsLawful (replayed events disk)
replayed_lawful [] disk sound lawful = lawful
replayed_lawful (event ∷ events) disk sound lawful =
    replayed_lawful events (after_event event disk) (All-tail IsSound event events sound)
    (event_lawful event disk (sound 0 event (omega arith)) lawful)

-- what is there now
abbrev pub state_after : List Event → DiskState
state_after events = replayed events empty_disk

-- the disk was this at some moment from t on
abbrev pub WasSince : List Event → ℕ → DiskState → Type 0
WasSince events t state = (k : ℕ) × (t ≤ k) × (k ≤ length events) × (state ≡ state_after (take k events))

-- ---- as the laws of a disk ask

same_state : (a b : DiskState) → Some a ≡ Some b → a ≡ b
same_state a b e = cc

pub told_lawful : (events : List Event) → All IsSound events → (state : DiskState) → Some (state_after events) ≡ Some state → IsLawful state
told_lawful events sound state is = subst IsLawful (same_state (state_after events) state is)
    (replayed_lawful events empty_disk sound empty_lawful)

pub counts_present : (events : List Event) (state : DiskState) (t : ℕ) → Some (state_after events) ≡ Some state
    → t ≤ length events → WasSince events t state
counts_present events state t is before = (
  length events,
  before,
  omega arith,
  sym (same_state (state_after events) state is)
      ∙ sym (ap state_after (take_all (length events) events (omega arith))),
)

pub only_present : (events : List Event) (state other : DiskState) → Some (state_after events) ≡ Some state
    → WasSince events (length events) other → other ≡ state
only_present events state other is was = was.3 ∙ ap state_after (take_all was.0 events (omega (arith, was.1)))
    ∙ same_state (state_after events) state is
