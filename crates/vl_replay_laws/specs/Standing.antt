-- What a replayer's names stand for, and those of the sequential store.
use Rattle.std.specs.Prelude.{◌≡◌, ◌+◌, ◌==◌, ◌&&◌, ℕ, Bool, true, false, Result, Ok, Err, if◌then◌else◌, List, [], ◌∷◌, map}
use Rattle.std.specs.Prelude.{Option, None, Some}
use Rattle.std.specs.List.{filter}
use Rattle.std.specs.Option.{option_map}
use Rattle.std.specs.Bool.{⊤}
use Rattle.std.specs.Ordering.{eq_by_cmp}
use Rattle.vl_disk.specs.Faults.{never}
use Rattle.vl_version.specs.LiesOver.{IsInMemory}
use Rattle.vl_engine_laws.specs.Represents.{IsLive}
use Rattle.vl_reads.specs.declared.txn.Txn.{Txn}
use Rattle.vl_reads.specs.Sees.{Sees, SeesAlone, asked, asked_view}
use Rattle.vl_engine_model.specs.Rulings.Commit.{Transaction as ATxn}
use Rattle.vl_engine_model.specs.Rulings.Sweep.{is_held}
use Rattle.vl_engine_model.specs.Sources.{tables}
use Rattle.vl_engine_model.specs.Store.Lines.{Name}
use Rattle.vl_engine_model.specs.Store.Things as store
use Rattle.vl_engine_model.specs.Store.Things.{AJob, APass, ATransaction, AView, thing_in}
use Rattle.vl_engine_model.specs.declared.file_name.Retired.{Retired}
use Rattle.vl_engine_model.specs.declared.layout.Layout.{Layout}
use Rattle.vl_engine_model.specs.declared.live.Live.{Live}
use Rattle.vl_engine_model.specs.declared.live.Pin.{Pin}
use Rattle.vl_model.specs.History.{History}
use Rattle.vl_model.specs.Keys.{key_cmp, tagged}
use Rattle.vl_model.specs.declared.change.Change.{Change}
use Rattle.vl_model.specs.declared.change.Change.TheVariants as changes
use Rattle.vl_script_model.specs.Readers.{IsReader, is_table}
use Rattle.vl_script_model.specs.declared.fails.Halt.{Halt}
use Rattle.vl_script_model.specs.declared.fails.Halt.TheVariants as halts
use Rattle.vl_replay_laws.specs.declared.open.Open.{Open}
use Rattle.vl_script.specs.declared.answer.Answer.{Answer}
use Rattle.vl_script.specs.declared.answer.Answer.TheVariants as answers
use Rattle.vl_engine_model.specs.Store.Lines as store_lines
use Rattle.vl_engine_model.specs.Store.Reading.{answer_of, answer_with_tag}
use Rattle.vl_reads.specs.Past.{beginning}
use Rattle.vl_reads.specs.declared.fails.AtFail.{AtFail}
use Rattle.vl_reads.specs.declared.fails.AtFail.TheVariants as gone
use Rattle.vl_reads.specs.declared.fails.ReadFail.{ReadFail}
use Rattle.vl_reads.specs.declared.fails.ReadFail.TheVariants as unread
use Rattle.vl_steps.specs.declared.fails.KeepFail.{KeepFail}
use Rattle.vl_steps.specs.declared.fails.KeepFail.TheVariants as unkept
use Rattle.vl_space.specs.declared.fails.SweepFail.{SweepFail}
use Rattle.vl_space.specs.declared.fails.SweepFail.TheVariants as unswept
use Rattle.vl_steps.specs.declared.fails.StepFail.{StepFail}
use Rattle.vl_steps.specs.declared.fails.StepFail.TheVariants as undone
use Rattle.vl_model.specs.Keys.{Stored}
use Rattle.vl_txn.specs.declared.set_fail.SetFail.{SetFail}
use Rattle.vl_txn.specs.declared.set_fail.SetFail.TheVariants.{EmptyKey, KeyTooLong, NoMemory, TooBig, ValueTooLong}
use Rattle.vl_replay_laws.specs.declared.open.Thing.{Thing}
use Rattle.vl_replay_laws.specs.declared.open.Thing.TheVariants.{Transaction, View}

-- what a name stands for among these
abbrev pub open_in : {H R : Type 0} → List (Open H R) → Name → Option (Thing H R)
open_in [] name = None
open_in (o ∷ os) name = if eq_by_cmp key_cmp name o.name then Some o.thing else open_in os name

-- what reads for it
abbrev pub reader_of : {H R : Type 0} → Thing H R → R
reader_of (Transaction txn) = txn.reader.reader
reader_of (View view) = view.reader.reader

-- nothing through which one of these names reads ever fails
pub record NoneFails {H R : Type 0} (opens : List (Open H R)) (faults : R → ℕ) : Type 0 where
  pub each : (name : Name) (thing : Thing H R) → open_in opens name ≡ Some thing → faults (reader_of thing) ≡ never

-- its ticket
abbrev pub ticket_of : store.Thing → ℕ
ticket_of (ATransaction t b) = t.ticket
ticket_of (AView v b) = v.ticket
ticket_of (AJob job made) = 0
ticket_of (APass pass batch) = 0

-- what this ticket pins
abbrev pub pins_at : ℕ → List Live → List Pin
pins_at ticket live = map (λ (x : Live). x.pin) (filter (λ (x : Live). x.ticket == ticket) live)

-- a table that was dropped and stays for one of these pins
abbrev pub is_held_table : List Pin → Retired → Bool
is_held_table ps r = is_table r.file && is_held ps r

-- What has this ticket reads no table: none stands, and none that was dropped stays for it.
abbrev pub ReadsNoTable : ℕ → Layout → Type 0
ReadsNoTable ticket l = (tables l ≡ []) × (filter (is_held_table (pins_at ticket l.live)) l.retired ≡ [])

-- A transaction is the one of the store: it made the same reads and writes, which it sees; it is live, and reads no file where the
-- layout has no tables, and had none when it began or later. So it is with a view.
pub record IsTransaction {H R : Type 0} (bytes : H → Option (List ℕ)) (txn : Txn H R) (t : ATxn) (h : History) (l : Layout)
    : Type 0 where
  pub same : asked txn t.reads ≡ t
  pub sees : Sees bytes txn h t.reads
  pub live : IsLive l txn.ticket txn.number
  pub near : ReadsNoTable txn.ticket l → IsInMemory txn.version

-- nothing that reads, on both sides, or the same
-- It may read as far back as the store's may.
abbrev pub Corresponds : {H R : Type 0} → (H → Option (List ℕ)) → History → Layout → Option (Thing H R) → Option store.Thing → Type 0
Corresponds bytes h l None None = Unit {0}
Corresponds bytes h l None (Some (AJob job made)) = Unit {0}
Corresponds bytes h l None (Some (APass pass batch)) = Unit {0}
Corresponds bytes h l (Some (Transaction txn)) (Some (ATransaction t b)) = IsTransaction bytes txn t h l × (beginning txn.past ≡ b)
Corresponds bytes h l (Some (View view)) (Some (AView v b)) =
    (asked_view view ≡ v) × SeesAlone bytes view h × IsLive l view.ticket view.number
    × (ReadsNoTable view.ticket l → IsInMemory view.version) × (beginning view.past ≡ b)
Corresponds bytes h l x y = ⊥

-- no name is there twice
abbrev pub AreOnce : {H R : Type 0} → List (Open H R) → Type 0
AreOnce [] = Unit {0}
AreOnce (o ∷ os) = (open_in os o.name ≡ None) × AreOnce os

-- Each name stands for the same reader on both sides, and no two have one ticket.
pub record Stand {H R : Type 0} (bytes : H → Option (List ℕ)) (opens : List (Open H R)) (ts : List (Name × store.Thing))
    (h : History) (l : Layout) : Type 0 where
  pub each : (name : Name) → Corresponds bytes h l (open_in opens name) (thing_in ts name)
  pub once : AreOnce opens
  pub apart : (name other : Name) (x y : store.Thing) → thing_in ts name ≡ Some x → thing_in ts other ≡ Some y
      → IsReader x → IsReader y → ticket_of x ≡ ticket_of y → name ≡ other

-- ---- taking a name out

-- where the name stands first
abbrev pub place_of : {H R : Type 0} → Name → List (Open H R) → Option ℕ
place_of name [] = None
place_of name (o ∷ os) = if eq_by_cmp key_cmp name o.name then Some 0 else option_map (λ n. n + 1) (place_of name os)

-- the name was taken out, if it was there, with what it stood for; the others stand as they did
pub record IsTaken {H R : Type 0} (old new : List (Open H R)) (name : Name) (thing : Option (Thing H R)) : Type 0 where
  pub found : open_in old name ≡ thing
  pub none : open_in new name ≡ None
  pub others : (other : Name) → (other ≡ name → ⊥) → open_in new other ≡ open_in old other
  pub once : AreOnce new

-- ---- what writes are told

-- a refusal of a write; memory may run out instead
abbrev pub write_answer : Result ⊤ SetFail → Result Answer Halt
write_answer (Ok done) = Ok answers.Done
write_answer (Err EmptyKey) = Ok answers.Invalid
write_answer (Err KeyTooLong) = Ok answers.Invalid
write_answer (Err ValueTooLong) = Ok answers.Invalid
write_answer (Err TooBig) = Ok answers.TooBig
write_answer (Err NoMemory) = Err halts.NoMemory

-- what a line writes to a key: a value with its tag, or that it is deleted
abbrev pub change_of : Option (List ℕ × ℕ) → Change
change_of None = changes.Delete
change_of (Some (bytes, tag)) = changes.Set (tagged bytes tag)

-- ---- what reads are told

-- how the store tells a value: with its tag, or without
abbrev pub tell_of : Bool → Option Stored → store_lines.Answer
tell_of true = answer_with_tag
tell_of false = answer_of

abbrev pub value_answer : Bool → Option Stored → Answer
value_answer with_tag None = answers.NoValue
value_answer true (Some value) = answers.FoundTagged value
value_answer false (Some value) = answers.Found value

-- what was read, or why nothing was
abbrev pub read_answer : {V : Type 0} → (V → Answer) → Result V ReadFail → Result Answer Halt
read_answer tell (Ok value) = Ok (tell value)
read_answer tell (Err unread.EmptyKey) = Ok answers.Invalid
read_answer tell (Err unread.KeyTooLong) = Ok answers.Invalid
read_answer tell (Err unread.NoMemory) = Err halts.NoMemory
read_answer tell (Err (unread.Disk name)) = Err (halts.Read name)
read_answer tell (Err (unread.Damaged name place)) = Err (halts.Damaged name place)

-- what was read at an older number, or why nothing was
abbrev pub past_answer : Result (Option Stored) AtFail → Result Answer Halt
past_answer (Ok value) = Ok (value_answer false value)
past_answer (Err gone.EmptyKey) = Ok answers.Invalid
past_answer (Err gone.KeyTooLong) = Ok answers.Invalid
past_answer (Err (gone.Ahead number)) = Ok answers.Invalid
past_answer (Err (gone.Dropped least)) = Ok (answers.Dropped least)
past_answer (Err gone.NoMemory) = Err halts.NoMemory
past_answer (Err (gone.Disk name)) = Err (halts.Read name)
past_answer (Err (gone.Damaged name place)) = Err (halts.Damaged name place)

-- ---- what steps on files are told

-- The number of the log that was sealed, or of the table that was made. An engine is halted only behind a fault, at which its
-- replayer halts too.
abbrev pub step_answer : Result (Option ℕ) StepFail → Result Answer Halt
step_answer (Ok (Some number)) = Ok (answers.Number number)
step_answer (Ok None) = Ok answers.Idle
step_answer (Err (undone.Exhausted counter)) = Ok (answers.Exhausted counter)
step_answer (Err undone.NoMemory) = Err halts.NoMemory
step_answer (Err (undone.Disk name)) = Err (halts.Disk name)
step_answer (Err (undone.Halted name)) = Err (halts.Halted name)

-- ---- what a change of how many versions are kept is told

abbrev pub keep_answer : Result ⊤ KeepFail → Result Answer Halt
keep_answer (Ok done) = Ok answers.Done
keep_answer (Err unkept.InvalidRequest) = Ok answers.Invalid
keep_answer (Err unkept.NoMemory) = Err halts.NoMemory
keep_answer (Err (unkept.Disk name)) = Err (halts.Disk name)
keep_answer (Err (unkept.Halted name)) = Err (halts.Halted name)

-- ---- what a sweep is told

abbrev pub sweep_answer : Result ℕ SweepFail → Result Answer Halt
sweep_answer (Ok count) = Ok (answers.Removed count)
sweep_answer (Err (unswept.Disk name)) = Err (halts.Disk name)
sweep_answer (Err (unswept.Halted name)) = Err (halts.Halted name)
