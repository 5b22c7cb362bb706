-- What an engine stands for: a history, and a layout.
use Rattle.std.specs.Prelude.{◌≡◌, ◌≤◌, ℕ, List, Option, None, Some}
use Rattle.std.specs.FinMap.{find}
use Rattle.std.specs.Option.{option_map}
use Rattle.std.specs.Ordering.{nat_cmp}
use Rattle.vl_back.specs.declared.back.Back.{Back}
use Rattle.vl_conflict.specs.Recent.{Remembers}
use Rattle.vl_disk.specs.DiskState.{DiskState}
use Rattle.vl_disk.specs.declared.name.Name.TheVariants as names
use Rattle.vl_disk.specs.declared.name.Name.{Name}
use Rattle.vl_engine_laws.specs.Held.{AreBegun, Base, Holds, IsBase}
use Rattle.vl_engine_laws.specs.Laid.{HasLayout}
use Rattle.vl_engine_laws.specs.Pointed.{layout_logs}
use Rattle.vl_engine_laws.specs.Spared.{Spares}
use Rattle.vl_engine_laws.specs.declared.kept.Core.{Core}
use Rattle.vl_engine_model.specs.Sources.{floor}
use Rattle.vl_engine_model.specs.Start.{newest_first}
use Rattle.vl_engine_model.specs.Tickets.{tickets_of}
use Rattle.vl_engine_model.specs.Tidy.{IsTidy}
use Rattle.vl_engine_model.specs.declared.file_name.FileName.TheVariants as files
use Rattle.vl_engine_model.specs.declared.file_name.FileName.{FileName}
use Rattle.vl_engine_model.specs.declared.layout.Layout.{Layout}
use Rattle.vl_engine_model_laws.specs.Live.{IsLivedIn}
use Rattle.vl_model.specs.Conflicts.{Named}
use Rattle.vl_model.specs.Formats.{log_format}
use Rattle.vl_model.specs.History.{History, last_number}
use Rattle.vl_model.specs.Limits.{max_room}
use Rattle.vl_oracle.specs.LiveTickets.{LiveTickets}
use Rattle.vl_recover.specs.opening.HeldFiles.{AreWaiting}

-- a file's name as the layout has it
abbrev pub file_of : Name → FileName
file_of (names.Log n) = files.Log n
file_of (names.Table n) = files.Table n
file_of (names.Manifest n) = files.Manifest n

-- ---- without the disk

-- what lives, and what the commits above the floor named, are those of the layout and the history
pub record IsFront (live : LiveTickets) (named : List Named) (h : History) (l : Layout) : Type 0 where
  pub last : live.last ≡ last_number h
  pub live_are : live.tickets ≡ tickets_of l.live
  pub lived : IsLivedIn l h
  pub readable : h.first ≤ floor l h
  pub remembers : Remembers (floor l h) h named

-- What decides on commits is that of the history and the layout. So it is also where the engine is halted.
pub record Fronts {H : Type 0} (core : Core H) (h : History) (l : Layout) : Type 0 where
  pub front : IsFront core.front.oracle core.front.recent.named h l
  -- the active log, and how long it may get
  pub number : core.front.log.number ≡ l.active.number
  pub length_is : core.front.log.length ≡ l.active.length
  pub format : l.active.format ≡ log_format
  pub room : core.front.room ≡ l.room
  pub roomy : l.room ≤ max_room
  pub halted : option_map file_of core.front.halted ≡ l.halted
  pub version : core.back.epoch ≡ l.epoch
  -- how many of the newest versions of a key are kept, and since when
  pub keep : core.back.state.keep ≡ l.keep
  pub since : core.back.state.since ≡ l.since

-- In memory the engine stands for them: its memtables, tables and logs are the layout's, whose sources show the history.
pub record StandsFor {H : Type 0} (bytes : H → Option (List ℕ)) (core : Core H) (h : History) (l : Layout)
    : Type 0 where
  pub fronts : Fronts core h l
  pub has : HasLayout bytes core.version l
  pub tidy : IsTidy (layout_logs l) l h
  -- its sources have what they should of each key's versions, so that these tell how far back it can be read
  pub spared : Spares l h

-- ---- with the disk

-- What steps on files need is that of the base and the layout: the manifest that is appended to is the one that stands.
pub record IsBack (back : Back) (b : Base) (l : Layout) : Type 0 where
  pub manifest : back.manifest ≡ b.manifest
  -- What is kept of what the manifest says has the next table's number, which may be above the manifest's own: numbers of
  -- tables may be drawn ahead of the switch that names these.
  pub state : back.state ≡ record b.state { next_table = l.next_table }
  pub next_log : back.next_log ≡ l.next_log
  pub next_table : b.state.next_table ≤ l.next_table
  -- a layout has its frozen logs the newest first
  pub waiting : AreWaiting l.covered back.waiting.items (newest_first l.frozen)

-- the disk holds the layout
pub record IsHeld (back : Back) (told : Option DiskState) (h : History) (l : Layout) : Type 0 where
  pub state : DiskState
  pub told_is : told ≡ Some state
  pub base : Base
  pub is_base : IsBase base l h
  pub back_is : IsBack back base l
  pub holds : Holds base l state
  -- what was drawn ahead of the manifest are numbers of tables that were begun
  pub begun : AreBegun base.state.next_table l.next_table state

-- The engine represents the history and the layout, in memory and, unless it is halted, on the disk. So a crash now leaves
-- an image that shows the history at its last number.
pub record Represents {H : Type 0} (bytes : H → Option (List ℕ)) (core : Core H) (told : Option DiskState)
    (h : History) (l : Layout) : Type 0 where
  pub stands : StandsFor bytes core h l
  pub held : l.halted ≡ None → IsHeld core.back told h l

-- ---- what lives

-- what has this ticket is live, and reads at this number
abbrev pub IsLive : Layout → (ticket number : ℕ) → Type 0
IsLive l ticket number = find nat_cmp ticket (tickets_of l.live) ≡ Some number
