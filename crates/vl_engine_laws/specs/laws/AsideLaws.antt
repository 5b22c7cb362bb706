-- What an engine stands for, in memory and on the disk, looks at neither the job that is open, nor the files that are retired, nor,
-- in memory, the next table's number.
use Rattle.std.specs.Prelude.{◌≡◌, ℕ, List, Option, refl}
use Rattle.std.specs.Option.{option_map}
use Rattle.std.proofs.Common.{sym, ap, subst, ◌∙◌}
use Rattle.vl_back.specs.declared.back.Back.{Back}
use Rattle.vl_disk.specs.DiskState.{DiskState}
use Rattle.vl_engine_laws.specs.Held.{Base, Holds, IsBase}
use Rattle.vl_engine_laws.specs.Laid.{HasLayout}
use Rattle.vl_engine_laws.specs.Pointed.{layout_logs}
use Rattle.vl_engine_laws.specs.Represents.{Fronts, IsFront, IsHeld, Represents, StandsFor, file_of}
use Rattle.vl_engine_laws.specs.MayStep.{Fits}
use Rattle.vl_engine_laws.specs.declared.kept.Core.{Core}
use Rattle.vl_front.specs.declared.front.Front.{Front}
use Rattle.vl_engine_model.specs.Tidy.{IsTidy}
use Rattle.vl_engine_model.specs.declared.file_name.Retired.{Retired}
use Rattle.vl_engine_model.specs.declared.job.OpenJob.{OpenJob}
use Rattle.vl_engine_model.specs.declared.layout.Layout.{Layout}
use Rattle.vl_model.specs.Conflicts.{Named}
use Rattle.vl_model.specs.History.{History}
use Rattle.vl_oracle.specs.LiveTickets.{LiveTickets}
use Rattle.vl_version.specs.declared.version.Version.{Version}

-- with another job, other retired files, and another number for the next table
abbrev pub aside : Option OpenJob → List Retired → ℕ → Layout → Layout
aside job retired next l = record l { job = job; retired = retired; next_table = next }

module _ (job : Option OpenJob) (retired : List Retired) (next : ℕ) (h : History) (l : Layout) where
  abbrev then : Layout
  then = aside job retired next l

  -- ---- in memory

  front_aside : (live : LiveTickets) (named : List Named) → IsFront live named h l → IsFront live named h then
  front_aside live named is = record {
    last = is.last;
    live_are = is.live_are;
    lived = record { rising = is.lived.rising; known = is.lived.known; few = is.lived.few };
    readable = is.readable;
    remembers = is.remembers;
  }

  pub fronts_aside : {H : Type 0} (before after : Core H) → after.front ≡ before.front
      → after.back.epoch ≡ before.back.epoch → after.back.state.keep ≡ before.back.state.keep
      → after.back.state.since ≡ before.back.state.since → Fronts before h l → Fronts after h then
  fronts_aside before after front version keep since is = record {
    front = subst (λ (f : Front). IsFront f.oracle f.recent.named h then) (sym front)
        (front_aside before.front.oracle before.front.recent.named is.front);
    number = ap (λ (f : Front). f.log.number) front ∙ is.number;
    length_is = ap (λ (f : Front). f.log.length) front ∙ is.length_is;
    format = is.format;
    room = ap (λ (f : Front). f.room) front ∙ is.room;
    roomy = is.roomy;
    halted = ap (λ (f : Front). option_map file_of f.halted) front ∙ is.halted;
    version = version ∙ is.version;
    keep = keep ∙ is.keep;
    since = since ∙ is.since;
  }

  module _ {H : Type 0} (bytes : H → Option (List ℕ)) where
    pub laid_aside : (version : Version H) → HasLayout bytes version l → HasLayout bytes version then
    laid_aside version has = record {
      active = has.active;
      frozen = has.frozen;
      levels = has.levels;
      in_order = has.in_order;
      logs = has.logs;
      told = has.told;
      below = has.below;
    }

    pub stands_aside : (before after : Core H) → after.version ≡ before.version → Fronts after h then
        → IsTidy (layout_logs l) then h → StandsFor bytes before h l → StandsFor bytes after h then
    stands_aside before after version fronts tidy is = record {
      fronts = fronts;
      has = subst (λ (v : Version H). HasLayout bytes v then) (sym version) (laid_aside before.version is.has);
      tidy = tidy;
      spared = is.spared;
    }

  -- ---- on the disk

  pub base_aside : (b : Base) → IsBase b l h → IsBase b then h
  base_aside b is = record {
    numbered = is.numbered;
    made = is.made;
    goes = is.goes;
    levels = is.levels;
    frozen = is.frozen;
    led = is.led;
    keep = is.keep;
    since = is.since;
    gone = is.gone;
    covered = is.covered;
    format = is.format;
    spared = is.spared;
  }

  pub holds_aside : (b : Base) (state : DiskState) → Holds b l state → Holds b then state
  holds_aside b state holds = record {
    base = holds.base;
    files = record { logs = holds.files.logs; tables = holds.files.tables; flushed = holds.files.flushed };
    durable = holds.durable;
    lawful = holds.lawful;
  }

-- ---- where the next table's number stays

module _ (job : Option OpenJob) (retired : List Retired) (h : History) (l : Layout) where
  abbrev so : Layout
  so = aside job retired l.next_table l

  pub held_aside : (back : Back) (told : Option DiskState) → IsHeld back told h l → IsHeld back told h so
  held_aside back told held = record {
    state = held.state;
    told_is = held.told_is;
    base = held.base;
    is_base = base_aside job retired l.next_table h l held.base held.is_base;
    back_is = record {
      manifest = held.back_is.manifest;
      state = held.back_is.state;
      next_log = held.back_is.next_log;
      next_table = held.back_is.next_table;
      waiting = held.back_is.waiting;
    };
    holds = holds_aside job retired l.next_table h l held.base held.state held.holds;
    begun = held.begun;
  }

  module _ {H : Type 0} (bytes : H → Option (List ℕ)) (core : Core H) where
    -- An engine that changes nothing else in memory, and doesn't ask the disk, stands for it,
    pub same_stands : IsTidy (layout_logs l) so h → StandsFor bytes core h l → StandsFor bytes core h so
    same_stands tidy is =
        stands_aside job retired l.next_table h l bytes core core refl
        (fronts_aside job retired l.next_table h l core core refl refl refl refl is.fronts) tidy is

    -- represents it,
    pub same_represents : (told : Option DiskState) → IsTidy (layout_logs l) so h → Represents bytes core told h l
        → Represents bytes core told h so
    same_represents told tidy is = record {
      stands = same_stands tidy is.stands;
      held = λ running. held_aside core.back told (is.held running);
    }

  -- and steps find what they ask.
  pub same_fits : {H : Type 0} (core : Core H) (told : Option DiskState) → Fits told core h l → Fits told core h so
  same_fits core told fits = record {
    running = λ running. let may = fits.running running in record {
      numbers = record {
        next_log = may.numbers.next_log;
        next_table = may.numbers.next_table;
        waiting = may.numbers.waiting;
      };
      files = may.files;
      covers = may.covers;
      state = may.state;
      told_is = may.told_is;
      active = may.active;
    };
  }
