-- What a disk holds of a state.
use Rattle.std.specs.Prelude.{◌≤◌, ◌+◌, IsTrue}
use Rattle.vl_disk.specs.DiskState.{DiskState}
use Rattle.vl_engine_laws.specs.Held.{AreBegun, Base, Holds, IsBase}
use Rattle.vl_engine_laws.specs.Pointed.{layout_logs}
use Rattle.vl_engine_laws.specs.Shown.{Shown}
use Rattle.vl_engine_model.specs.Tidy.{IsTidy}
use Rattle.vl_script_model.specs.Between.{Stopping}
use Rattle.vl_script_model.specs.Sequential.{State, history_of}
use Rattle.vl_script_model.specs.Stopped.{AreNumberedUpTo, GivesUpTo, IsStoppedIn}

-- The disk holds the state: its layout, all of it durable, whose entries show its history.
pub record IsStored (s : State) (disk : DiskState) : Type 0 where
  -- a store might be opened on it at first
  pub openable : IsTrue s.openable
  -- some manifest, and the logs from its head on before the active one
  pub base : Base
  pub is_base : IsBase base s.store.layout (history_of s)
  pub holds : Holds base s.store.layout disk
  pub tidy : IsTidy (layout_logs s.store.layout) s.store.layout (history_of s)
  -- The manifest gives the next table the state's number; or a lesser one, from which on each is that of a table that was begun.
  pub next_table : base.state.next_table ≤ s.store.layout.next_table
  pub begun : AreBegun base.state.next_table s.store.layout.next_table disk
  -- no file passes the number that the state has for that,
  pub numbered : AreNumberedUpTo s.files disk
  -- and the manifest gives at most the next ones, as a rotation does
  pub next : GivesUpTo s.files base.state
  pub next_log : s.store.layout.next_log ≤ s.files + 1
  pub next_drawn : s.store.layout.next_table ≤ s.files + 1

-- A line that was stopped was a commit, a move or a step on files.
abbrev pub IsStopped : Stopping
IsStopped = IsStoppedIn IsStored Shown
