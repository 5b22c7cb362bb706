-- What an engine stands for, in memory and on the disk, doesn't look at the pass that is open.
use Rattle.std.specs.Prelude.{ℕ, List, [], ◌∷◌, Option}
use Rattle.std.specs.List.{AllByRecursion}
use Rattle.vl_engine_laws.specs.Held.{Base, Holds, IsBase}
use Rattle.vl_engine_laws.specs.Laid.{HasLayout}
use Rattle.vl_engine_laws.specs.MayStep.{Fits}
use Rattle.vl_engine_laws.specs.Files.{HoldsLog, IsLogFile}
use Rattle.vl_engine_laws.specs.Passing.{AreReadable}
use Rattle.vl_engine_laws.specs.Pointed.{layout_logs}
use Rattle.vl_engine_laws.specs.Represents.{Fronts, IsFront, IsHeld, Represents, StandsFor}
use Rattle.vl_engine_laws.specs.declared.kept.Core.{Core}
use Rattle.vl_back.specs.declared.back.Back.{Back}
use Rattle.vl_disk.specs.DiskState.{DiskState}
use Rattle.vl_engine_model.specs.Tidy.{IsTidy}
use Rattle.vl_engine_model.specs.declared.job.OpenPass.{OpenPass}
use Rattle.vl_engine_model.specs.declared.layout.Layout.{Layout}
use Rattle.vl_engine_model.specs.declared.segment.Segment.{Segment}
use Rattle.vl_model.specs.Conflicts.{Named}
use Rattle.vl_model.specs.History.{History}
use Rattle.vl_oracle.specs.LiveTickets.{LiveTickets}

module _ (pass : Option OpenPass) (h : History) (l : Layout) where
  abbrev pub passing : Layout
  passing = record l { pass = pass }

  front_passing : (live : LiveTickets) (named : List Named) → IsFront live named h l → IsFront live named h passing
  front_passing live named is = record {
    last = is.last;
    live_are = is.live_are;
    lived = record { rising = is.lived.rising; known = is.lived.known; few = is.lived.few };
    readable = is.readable;
    remembers = is.remembers;
  }

  module _ {H : Type 0} (bytes : H → Option (List ℕ)) (core : Core H) where
    fronts_passing : Fronts core h l → Fronts core h passing
    fronts_passing is = record {
      front = front_passing core.front.oracle core.front.recent.named is.front;
      number = is.number;
      length_is = is.length_is;
      format = is.format;
      room = is.room;
      roomy = is.roomy;
      halted = is.halted;
      version = is.version;
      keep = is.keep;
      since = is.since;
    }

    laid_passing : HasLayout bytes core.version l → HasLayout bytes core.version passing
    laid_passing has = record {
      active = has.active;
      frozen = has.frozen;
      levels = has.levels;
      in_order = has.in_order;
      logs = has.logs;
      told = has.told;
      below = has.below;
    }

    -- An engine that changes nothing else in memory, and doesn't ask the disk, stands for it,
    pub stands_passing : IsTidy (layout_logs l) passing h → StandsFor bytes core h l → StandsFor bytes core h passing
    stands_passing tidy is = record {
      fronts = fronts_passing is.fronts;
      has = laid_passing is.has;
      tidy = tidy;
      spared = is.spared;
    }

  base_passing : (b : Base) → IsBase b l h → IsBase b passing h
  base_passing b is = record {
    numbered = is.numbered;
    made = is.made;
    goes = is.goes;
    levels = is.levels;
    frozen = is.frozen;
    led = is.led;
    keep = is.keep;
    since = is.since;
    gone = is.gone;
    covered = is.covered;
    format = is.format;
    spared = is.spared;
  }

  holds_passing : (b : Base) (state : DiskState) → Holds b l state → Holds b passing state
  holds_passing b state holds = record {
    base = holds.base;
    files = record { logs = holds.files.logs; tables = holds.files.tables; flushed = holds.files.flushed };
    durable = holds.durable;
    lawful = holds.lawful;
  }

  held_passing : (back : Back) (told : Option DiskState) → IsHeld back told h l → IsHeld back told h passing
  held_passing back told held = record {
    state = held.state;
    told_is = held.told_is;
    base = held.base;
    is_base = base_passing held.base held.is_base;
    back_is = record {
      manifest = held.back_is.manifest;
      state = held.back_is.state;
      next_log = held.back_is.next_log;
      next_table = held.back_is.next_table;
      waiting = held.back_is.waiting;
    };
    holds = holds_passing held.base held.state held.holds;
    begun = held.begun;
  }

  -- represents it,
  pub represents_passing : {H : Type 0} (bytes : H → Option (List ℕ)) (core : Core H) (told : Option DiskState)
      → IsTidy (layout_logs l) passing h → Represents bytes core told h l → Represents bytes core told h passing
  represents_passing bytes core told tidy is = record {
    stands = stands_passing bytes core tidy is.stands;
    held = λ running. held_passing core.back told (is.held running);
  }

  -- and steps find what they ask.
  pub fits_passing : {H : Type 0} (core : Core H) (told : Option DiskState) → Fits told core h l → Fits told core h passing
  fits_passing core told fits = record {
    running = λ running. let may = fits.running running in record {
      numbers = record {
        next_log = may.numbers.next_log;
        next_table = may.numbers.next_table;
        waiting = may.numbers.waiting;
      };
      files = may.files;
      covers = may.covers;
      state = may.state;
      told_is = may.told_is;
      active = may.active;
    };
  }

-- ---- the log of a pass

-- what a disk holds can be read
pub held_readable : (b : Base) (l : Layout) (state : DiskState) → Holds b l state → AreReadable l
held_readable b l state holds = each l.flushed holds.files.flushed
  where
    each : (ss : List Segment) → AllByRecursion (HoldsLog state) ss → AllByRecursion IsLogFile ss
    each [] all = tt
    each (s ∷ ss) all = (all.0.is, each ss all.1)
