-- What the loop sees of a replayer: for which state it stands, its disk, and whether it takes lines.
use Rattle.std.specs.Prelude.{◌≡◌, ℕ, List, Option, None, Some}
use Rattle.vl_disk.specs.declared.watched.Watched.{Ghosts}
use Rattle.vl_disk.specs.declared.writer.Writer.{Ghosts as Writers}
use Rattle.vl_engine_laws.specs.Lent.{Opens}
use Rattle.vl_space.specs.Removing.{Removes}
use Rattle.vl_engine_model.specs.Store.Things as things
use Rattle.vl_version.specs.declared.base.Base.{Base}
use Rattle.vl_replay_laws.specs.Passing.{PassesIn}
use Rattle.vl_replay_laws.specs.Replaying.{MergesIn, StandsIn}
use Rattle.vl_replay_laws.specs.Standing.{NoneFails}
use Rattle.vl_recover.specs.crash.Starts.{MayOpen}
use Rattle.vl_script_model.specs.Durable.{HoldsState, Tells}
use Rattle.vl_script_model.specs.Sequential.{State}
use Rattle.vl_script_model.specs.Stored.{IsStored}
use Rattle.vl_script_model.specs.declared.ending.Ending.{Ending}
use Rattle.vl_replay.specs.declared.replayer.Replayer.{Replayer}
use Rattle.vl_replay.specs.declared.replayer.Served.{Served}
use Rattle.vl_replay_laws.specs.declared.passing.Passing.{Passing}
use Rattle.vl_replay_laws.specs.declared.planned.Planned.{Planned}

-- The type of a replayer names all that its disk has.
abbrev pub disk_of : {D Held Reader Writer : Type 0} {watched : _} {held : _} {cloned : _} {read : _} {write : _}
    → Replayer D Held Reader Writer watched held cloned read write → D
disk_of replayer = replayer.served.engine.disk

-- A store and what reads it stand for this state, over its disk and of files that tell these bytes.
abbrev pub ServesFor : {D Held Reader Writer : Type 0} {watched : _} {held : _} {cloned : _} {read : _} {write : _}
    → Ghosts D → (Held → Option (List ℕ)) → Served D Held Reader Writer watched held cloned read write → State → Type 0
ServesFor g bytes served s = StandsIn bytes (g.told served.engine.disk) served.engine.core served.opens.items s

-- What the engine keeps of which files can go is what the layout has.
abbrev pub RemovesIn : {D Held Reader Writer : Type 0} {watched : _} {held : _} {cloned : _} {read : _} {write : _}
    → Served D Held Reader Writer watched held cloned read write → things.State → Type 0
RemovesIn served store = Removes served.engine.core served.engine.removing store.layout

-- A store and the merge that waits stand for this state, over its disk and of files that tell these bytes: the engine and what reads
-- do, and the merges are the state's.
pub record StandsMerging {D Held Reader Writer : Type 0} {watched : _} {held : _} {cloned : _} {read : _} {write : _} {w : _}
    (g : Ghosts D) (writers : Writers Writer) (bytes : Held → Option (List ℕ))
    (served : Served D Held Reader Writer watched held cloned read write) (planned : Option (Planned (Base Held Reader) Held Writer w))
    (s : State) : Type 0 where
  pub serves : ServesFor g bytes served s
  pub merges : MergesIn writers bytes served.engine.merging planned s.store

-- So do a store and the pass that is open, and what the engine keeps of the open merge is the layout's job.
pub record StandsPassing {D Held Reader Writer : Type 0} {watched : _} {held : _} {cloned : _} {read : _} {write : _}
    (g : Ghosts D) (bytes : Held → Option (List ℕ))
    (served : Served D Held Reader Writer watched held cloned read write) (passing : Option (Passing (Base Held Reader) Held))
    (s : State) : Type 0 where
  pub serves : ServesFor g bytes served s
  pub opens : Opens served.engine.merging s.store.layout.job
  pub passes : PassesIn bytes served.engine.core served.engine.collecting passing s.store

-- So does a store; and what the engine keeps of the open merge is the layout's job, and of which files can go what the layout has.
pub record StandsRemoving {D Held Reader Writer : Type 0} {watched : _} {held : _} {cloned : _} {read : _} {write : _}
    (g : Ghosts D) (bytes : Held → Option (List ℕ))
    (served : Served D Held Reader Writer watched held cloned read write) (s : State) : Type 0 where
  pub serves : ServesFor g bytes served s
  pub opens : Opens served.engine.merging s.store.layout.job
  pub removes : RemovesIn served s.store

-- And so all of them do, and what the engine keeps of which files can go is the layout's.
pub record StandsWith {D Held Reader Writer : Type 0} {watched : _} {held : _} {cloned : _} {read : _} {write : _} {w : _}
    (g : Ghosts D) (writers : Writers Writer) (bytes : Held → Option (List ℕ))
    (served : Served D Held Reader Writer watched held cloned read write) (planned : Option (Planned (Base Held Reader) Held Writer w))
    (passing : Option (Passing (Base Held Reader) Held)) (s : State) : Type 0 where
  pub serves : ServesFor g bytes served s
  pub merges : MergesIn writers bytes served.engine.merging planned s.store
  pub passes : PassesIn bytes served.engine.core served.engine.collecting passing s.store
  pub removes : RemovesIn served s.store

-- so a replayer does
abbrev pub StandsFor : {D Held Reader Writer : Type 0} {watched : _} {held : _} {cloned : _} {read : _} {write : _}
    → Ghosts D → Writers Writer → (Held → Option (List ℕ)) → Replayer D Held Reader Writer watched held cloned read write → State → Type 0
StandsFor g writers bytes replayer s = StandsWith g writers bytes replayer.served replayer.planned replayer.passing s

-- Nothing through which its names read ever fails,
abbrev pub ReadSurely : {D Held Reader Writer : Type 0} {watched : _} {held : _} {cloned : _} {read : _} {write : _}
    → (Reader → ℕ) → Served D Held Reader Writer watched held cloned read write → Type 0
ReadSurely faults served = NoneFails served.opens.items (λ r. faults r.inner)

-- and nothing that its disk gives ever does.
pub record IsUnfailing {D Held Reader Writer : Type 0} {watched : _} {held : _} {cloned : _} {read : _} {write : _}
    (g : Ghosts D) (faults : Reader → ℕ) (served : Served D Held Reader Writer watched held cloned read write) : Type 0 where
  pub gives : g.gives_steady served.engine.disk
  pub reads : ReadSurely faults served

-- A replayer stands for this state then. Where nothing was to fail beside its disk, nothing is still.
pub record GoesOnFor {D Held Reader Writer : Type 0} {watched : _} {held : _} {cloned : _} {read : _} {write : _}
    (g : Ghosts D) (writers : Writers Writer) (bytes : Held → Option (List ℕ)) (faults : Reader → ℕ)
    (old new : Replayer D Held Reader Writer watched held cloned read write) (s : State) : Type 0 where
  pub stands : StandsFor g writers bytes new s
  pub unfailing : IsUnfailing g faults old.served → IsUnfailing g faults new.served

-- it takes lines: none was halted
abbrev pub TakesLines : {D Held Reader Writer : Type 0} {watched : _} {held : _} {cloned : _} {read : _} {write : _}
    → Replayer D Held Reader Writer watched held cloned read write → Type 0
TakesLines replayer = replayer.halted ≡ None

-- Where a run goes on, its disk holds a state for which its replayer stands; and where it ended, a store may be opened on it again.
abbrev pub StaysOpen : {D : Type 0} → Ghosts D → (stands : State → Type 0) → D → Option Ending → Type 0
StaysOpen g stands disk None = (t : State) × stands t × HoldsState g IsStored t disk
StaysOpen g stands disk (Some ending) = Tells g disk MayOpen
