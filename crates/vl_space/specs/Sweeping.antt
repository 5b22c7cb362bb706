-- What a sweep does, whatever the engine stands for: to the disk, and to the files that wait.
use Rattle.std.specs.Prelude.{◌≡◌, ◌≢◌, ◌⊎◌, ◌≤◌, ℕ, not, List, [], ◌∷◌, ◌++◌, ◌+◌, ◌-◌, length, map, min, Option, None, Some}
use Rattle.std.specs.Prelude.{Result, Ok, Err, IfOk, OnOk}
use Rattle.std.specs.List.{AllByRecursion, filter}
use Rattle.std.specs.Option.{ForSome}
use Rattle.std.specs.VecDeque.{deque_capacity}
use Rattle.vl_back.specs.Writing.{IsKept}
use Rattle.vl_compact.specs.declared.files.Lent.{Lent}
use Rattle.vl_engine_laws.specs.Carries.{Carries, StaysUntold}
use Rattle.vl_engine_laws.specs.MayStep.{Fits, LeavesNumbers}
use Rattle.vl_engine_laws.specs.Represents.{Represents, StandsFor, file_of}
use Rattle.vl_engine_laws.specs.declared.kept.Core.{Core}
use Rattle.vl_disk.specs.Calls.{ChangesNothing, Removes as RemovesFile}
use Rattle.vl_disk.specs.Disk.{IsFree}
use Rattle.vl_disk.specs.DiskState.{DiskState}
use Rattle.vl_disk.specs.Faults.{HasCause, after_calls}
use Rattle.vl_disk.specs.Lending.{Adopts}
use Rattle.vl_disk.specs.declared.errors.Failed.{Failed}
use Rattle.vl_disk.specs.declared.name.Name.{Name}
use Rattle.vl_disk.specs.declared.watched.Watched.{Ghosts}
use Rattle.vl_disk.specs.declared.writer.Writer.{Ghosts as Writers}
use Rattle.vl_space.specs.Collecting.{Collects}
use Rattle.vl_engine_laws.specs.Lent.{StandsOpen}
use Rattle.vl_space.specs.Removing.{Removes}
use Rattle.vl_space.specs.declared.fails.SweepFail.TheVariants as fails
use Rattle.vl_space.specs.declared.fails.SweepFail.{SweepFail}
use Rattle.vl_space.specs.declared.kept.Collecting.{Collecting}
use Rattle.vl_engine_laws.specs.declared.open.OpenMerge.{OpenMerge}
use Rattle.vl_space.specs.declared.kept.Removing.{Removing}
use Rattle.vl_engine_model.specs.Decides.{Answered, Decides, Effects, Failed as FailedAt, Otherwise, Outcome, as_before, no_effects}
use Rattle.vl_engine_model.specs.Rulings.Sweep.{Halted, Removed, SweepAnswer, sweep_lost, sweep_unless}
use Rattle.vl_engine_model.specs.declared.layout.Layout.{Layout}
use Rattle.vl_model.specs.History.{History}
use Rattle.vl_pins.specs.Files.{is_up_to}
use Rattle.vl_pins.specs.Pins.{bound_of, raised}
use Rattle.vl_pins.specs.declared.pins.Pins.{Pins}
use Rattle.vl_pins.specs.declared.retired_file.RetiredFile.{RetiredFile}

-- ---- which files go

-- What was retired up to this number is held by nothing: no pin is below it, nor what others may still look at.
abbrev pub up_to : Option ℕ → ℕ → Pins → ℕ
up_to None version pins = bound_of version pins
up_to (Some least) version pins = min least (bound_of version pins)

module _ {L : Type 0} where
  abbrev pub ready : ℕ → List (RetiredFile L) → List (RetiredFile L)
  ready bound trash = filter (is_up_to bound) trash

  abbrev pub held : ℕ → List (RetiredFile L) → List (RetiredFile L)
  held bound trash = filter (λ (file : RetiredFile L). not (is_up_to bound file)) trash

  abbrev pub names_of : List (RetiredFile L) → List Name
  names_of files = map (λ (file : RetiredFile L). file.name) files

-- Nothing else is pinned.
pub record PinsStay (version : ℕ) (old new : Pins) : Type 0 where
  pub live : new.live ≡ old.live ⊎ (new.live ≡ raised version old.live)
  pub merge : new.merge ≡ old.merge
  pub pass : new.pass ≡ old.pass

-- ---- to the disk

module _ {D W : Type 0} (g : Ghosts D) (w : Writers W) where
  -- a file that was lent is taken back first
  abbrev pub TakesIfLent : {s : _} → Option (Lent W s) → Name → (old new : D) → Type 0
  TakesIfLent None name old new = new ≡ old
  TakesIfLent (Some file) name old new = Adopts g name (w.file file.writer) old new

  -- a file goes, or the disk fails at that
  pub record RemovesOne {s : _} (file : RetiredFile (Lent W s)) (old new : D) (result : Result (Unit {0}) Failed) : Type 0 where
    pub mid : D
    pub takes : TakesIfLent file.lent file.name old mid
    pub removes : RemovesFile g file.name mid new result

  -- so it is with what is answered, which names the file at which the disk failed
  abbrev pub RemovesFor : {s : _} → RetiredFile (Lent W s) → (old new : D) → Result (Unit {0}) Name → Type 0
  RemovesFor file old new (Ok done) = RemovesOne file old new (Ok tt)
  RemovesFor file old new (Err name) = (name ≡ file.name) × (failed : Failed) × RemovesOne file old new (Err failed)

  -- these go, one by one
  abbrev pub RemovesAll : {s : _} → List (RetiredFile (Lent W s)) → (old new : D) → Type 0
  RemovesAll [] old new = new ≡ old
  RemovesAll (file ∷ files) old new = (mid : D) × RemovesOne file old mid (Ok tt) × RemovesAll files mid new

  -- The first of these went, one by one, and it failed at the next.
  pub record StopsRemoving {s : _} (files : List (RetiredFile (Lent W s))) (old new : D) (name : Name) : Type 0 where
    pub before : List (RetiredFile (Lent W s))
    pub at : RetiredFile (Lent W s)
    pub behind : List (RetiredFile (Lent W s))
    pub files_are : files ≡ before ++ at ∷ behind
    pub name_is : name ≡ at.name
    pub mid : D
    pub went : RemovesAll before old mid
    pub failed : Failed
    pub stops : RemovesOne at mid new (Err failed)

-- No file comes or goes but these.
abbrev pub KeepsAllBut : List Name → (old new : Option DiskState) → Type 0
KeepsAllBut names old new = (before now : DiskState) → old ≡ Some before → new ≡ Some now → (name : Name)
    → AllByRecursion (λ (other : Name). name ≢ other) names → IsKept name before now

-- none of these stands
abbrev pub AreFree : List Name → DiskState → Type 0
AreFree names disk = AllByRecursion (λ (name : Name). IsFree name disk) names

-- ---- what it came to

-- The files that were ready went, one by one, and the others wait. Nothing else of what is kept changes.
pub record HasSwept {D W : Type 0} (g : Ghosts D) (w : Writers W) {s : _} (bound version : ℕ) (old new : D)
    (before after : Removing (Lent W s)) (count : ℕ) : Type 0 where
  pub counted : count ≡ length (ready bound before.stock.trash.items)
  pub removes : RemovesAll g w (ready bound before.stock.trash.items) old new
  pub waiting : after.stock.trash.items ≡ held bound before.stock.trash.items
  pub in_use : after.stock.in_use ≡ before.stock.in_use
  pub capacity : deque_capacity after.stock.trash ≡ deque_capacity before.stock.trash
  pub pins : PinsStay version before.pins after.pins

-- so it is with what a sweep answers: a halted engine does nothing, and a fault halts
abbrev pub SweepsAs : {D H W : Type 0} → Ghosts D → Writers W → {s : _} → (bound : ℕ) → (old new : D) → (core after : Core H)
    → (before now : Removing (Lent W s)) → Result ℕ SweepFail → Type 0
SweepsAs g w bound old new core after before now (Ok count) = (core.front.halted ≡ None) × (after ≡ core)
    × HasSwept g w bound core.back.epoch old new before now count
SweepsAs g w bound old new core after before now (Err (fails.Halted name)) =
    (core.front.halted ≡ Some name) × (after ≡ core) × (new ≡ old) × (now ≡ before)
SweepsAs g w bound old new core after before now (Err (fails.Disk name)) = (core.front.halted ≡ None)
    × (after ≡ record core { front = record core.front { halted = Some name } })
    × StopsRemoving g w (ready bound before.stock.trash.items) old new name
    × PinsStay core.back.epoch before.pins now.pins

-- ---- as the ruling has it

abbrev pub sweep_outcome : Result ℕ SweepFail → Outcome SweepAnswer
sweep_outcome (Ok count) = Answered (Removed count)
sweep_outcome (Err (fails.Halted name)) = Answered (Halted (file_of name))
sweep_outcome (Err (fails.Disk name)) = FailedAt (file_of name)

-- one call changes a file, for each that went
abbrev pub sweep_effects : {L : Type 0} → ℕ → List (RetiredFile L) → Result ℕ SweepFail → Effects
sweep_effects {L} bound trash (Ok count) =
    record { calls = count; gone = map (λ (file : RetiredFile L). file_of file.name) (ready bound trash) }
sweep_effects bound trash (Err why) = no_effects

-- How many have gone where it fails: the one at which it failed doesn't wait any more either.
abbrev pub gone_before : {L : Type 0} → (old new : Removing L) → ℕ
gone_before old new = length old.stock.trash.items - (length new.stock.trash.items + 1)

-- where it fails so many of the files have gone, the earliest retired first
abbrev pub sweep_otherwise : Option ℕ → Layout → ℕ → Otherwise
sweep_otherwise least l count = as_before l (sweep_lost least l count)

-- the disk failed
abbrev pub SweepFailed : Result ℕ SweepFail → Type 0
SweepFailed (Ok count) = ⊥
SweepFailed (Err (fails.Halted name)) = ⊥
SweepFailed (Err (fails.Disk name)) = Unit {0}

-- nothing was removed
abbrev pub SweepLeavesDisk : Result ℕ SweepFail → Type 0
SweepLeavesDisk (Ok count) = count ≡ 0
SweepLeavesDisk (Err (fails.Halted name)) = Unit {0}
SweepLeavesDisk (Err (fails.Disk name)) = ⊥

-- A sweep comes to what the ruling says, where so many files have gone if it failed.
abbrev pub SweepsFor : {L : Type 0} → (History → Layout → Type 0) → History → Layout → Option ℕ → (bound : ℕ) → (old new : Removing L)
    → Result ℕ SweepFail → Type 0
SweepsFor stands h l least bound old new result = Decides stands h l (sweep_unless l.halted least l h)
    (sweep_otherwise least l (gone_before old new)) (sweep_outcome result) (sweep_effects bound old.stock.trash.items result)

-- So it does over a disk that holds the layout.
abbrev pub SweepCarries : {D H L : Type 0} → Ghosts D → (H → Option (List ℕ)) → (old new : D) → Core H → History → Layout
    → Option ℕ → (bound : ℕ) → (before now : Removing L) → Result ℕ SweepFail → Type 0
SweepCarries g bytes old new core h l least bound before now result = Carries g bytes old new core h l
    (sweep_unless l.halted least l h) (sweep_otherwise least l (gone_before before now)) (sweep_outcome result)
    (sweep_effects bound before.stock.trash.items result)

-- ---- what the whole call came to

-- what the call works on, at a moment
pub record At (D H L : Type 0) : Type 0 where
  pub disk : D
  pub core : Core H
  pub merging : Option OpenMerge
  pub removing : Removing L
  pub collecting : Collecting

abbrev pub at : {D H L : Type 0} → D → Core H → Option OpenMerge → Removing L → Collecting → At D H L
at disk core merging removing collecting =
    record { disk = disk; core = core; merging = merging; removing = removing; collecting = collecting }

module _ {D H W : Type 0} (g : Ghosts D) (w : Writers W) (bytes : H → Option (List ℕ)) {s : _} (least : Option ℕ)
    (old new : At D H (Lent W s)) (result : Result ℕ SweepFail) where
  abbrev bound : ℕ
  bound = up_to least old.core.back.epoch old.removing.pins

  -- the files that nothing holds
  abbrev names_ready : List Name
  names_ready = names_of (ready bound old.removing.stock.trash.items)

  -- It comes to what the ruling says.
  abbrev IsRuled : (History → Layout → Type 0) → History → Layout → Type 0
  IsRuled stands h l = SweepsFor stands h l least bound old.removing new.removing result

  pub record Sweeps : Type 0 where
    -- It is answered as the ruling has it.
    pub stands : (h : History) (l : Layout) → StandsOpen bytes old.core old.merging h l → Removes old.core old.removing l
        → IsRuled (StandsOpen bytes new.core new.merging) h l
    -- Over a disk that holds the layout: what a crash meanwhile leaves shows the history, and however it ends, a store may be
    -- opened on the disk again.
    pub carries : (h : History) (l : Layout) → Represents bytes old.core (g.told old.disk) h l → Removes old.core old.removing l
        → SweepCarries g bytes old.disk new.disk new.core h l least bound old.removing new.removing result
    -- What steps on files ask is so behind it.
    pub fits : (h : History) (l : Layout) → Fits (g.told old.disk) old.core h l → StandsFor bytes old.core h l
        → Removes old.core old.removing l → IsRuled (Fits (g.told new.disk) new.core) h l
    -- What is kept of which files can go, and of where space comes back from, is what the layout has of them then.
    pub removes : (h : History) (l : Layout) → StandsFor bytes old.core h l → Removes old.core old.removing l
        → IsRuled (λ _ k. Removes new.core new.removing k) h l
    pub collects : (h : History) (l : Layout) → StandsFor bytes old.core h l → Removes old.core old.removing l
        → Collects old.core old.collecting l → IsRuled (λ _ k. Collects new.core new.collecting k) h l
    -- Whatever the disk tells: just the files went that were ready, one by one, and each that is held stays.
    pub as_swept : SweepsAs g w bound old.disk new.disk old.core new.core old.removing new.removing result
    pub gone : OnOk result (ForSome (g.told new.disk) (AreFree names_ready))
    pub files : KeepsAllBut names_ready (g.told old.disk) (g.told new.disk)
    pub calls : IfOk result (λ count. g.calls new.disk ≡ after_calls count (g.calls old.disk))
    pub untouched : SweepLeavesDisk result → ChangesNothing g old.disk new.disk ⊥
    -- A disk that told nothing tells nothing then.
    pub untold : StaysUntold (g.told old.disk) (g.told new.disk)
    -- A fault of the disk is counted, and nothing else raises the count.
    pub cause : HasCause (g.faults old.disk) (g.faults new.disk) (SweepFailed result)
    -- Where it fails, whatever a crash leaves then gives no number above the next ones.
    pub leaves : (h : History) (l : Layout) (now : DiskState) → Represents bytes old.core (g.told old.disk) h l
        → Removes old.core old.removing l → old.core.back.state.next_log ≤ old.core.back.next_log → SweepFailed result
        → g.told new.disk ≡ Some now → LeavesNumbers l.next_log l.next_table now
    -- The manifest gives the next log no number above that which it gets.
    pub within : old.core.back.state.next_log ≤ old.core.back.next_log → new.core.back.state.next_log ≤ new.core.back.next_log
    -- What is kept of the open merge and of where space comes back from stays.
    pub merging : new.merging ≡ old.merging
    pub collecting : new.collecting ≡ old.collecting
    pub logs : new.core.version.behind.logs ≡ old.core.version.behind.logs
