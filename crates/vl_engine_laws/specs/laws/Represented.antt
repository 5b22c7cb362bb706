-- What an engine represents, behind a begin, an end, a commit and a halt.
use Rattle.std.specs.Prelude.{◌≡◌, ℕ, List, Option, Some}
use Rattle.std.specs.FinMap.{from_sorted}
use Rattle.std.proofs.Common.{sym, subst}
use Rattle.vl_back.specs.declared.back.Back.{Back}
use Rattle.vl_disk.specs.DiskState.{DiskState}
use Rattle.vl_disk.specs.declared.name.Name.{Name}
use Rattle.vl_engine_laws.specs.Held.{AreBegun, Base, Holds, IsBase}
use Rattle.vl_engine_laws.specs.Represents.{IsBack, IsHeld, Represents, StandsFor, file_of}
use Rattle.vl_engine_laws.specs.declared.kept.Core.{Core}
use Rattle.vl_engine_model.specs.Ruling.{halted_at}
use Rattle.vl_engine_model.specs.Rulings.Commit.{Transaction, committed}
use Rattle.vl_engine_model.specs.declared.layout.Layout.{Layout}
use Rattle.vl_engine_model.specs.declared.live.Live.{Live}
use Rattle.vl_model.specs.History.{History, with_commit}

-- whatever else lives
held_live : (back : Back) (told : Option DiskState) (h : History) (l : Layout) (live : List Live) → IsHeld back told h l
    → IsHeld back told h (record l { live = live })
held_live back told h l live held =
    let b = held.is_base in
    let k = held.back_is in
    let d = held.holds in
    record {
      state = held.state;
      told_is = held.told_is;
      base = held.base;
      is_base = record {
        numbered = b.numbered;
        made = b.made;
        goes = b.goes;
        levels = b.levels;
        frozen = b.frozen;
        led = b.led;
        keep = b.keep;
        since = b.since;
        gone = b.gone;
        covered = b.covered;
        format = b.format;
        spared = b.spared;
      };
      back_is = record {
        manifest = k.manifest;
        state = k.state;
        next_log = k.next_log;
        next_table = k.next_table;
        waiting = k.waiting;
      };
      holds = record {
        base = d.base;
        files = record { logs = d.files.logs; tables = d.files.tables; flushed = d.files.flushed };
        durable = d.durable;
        lawful = d.lawful;
      };
      begun = held.begun;
    }

module _ {H : Type 0} (bytes : H → Option (List ℕ)) (core after : Core H) (h : History) (l : Layout)
    (back : after.back ≡ core.back) where
  -- Behind a begin and an end: other things live.
  pub represents_live : (old new : Option DiskState) → new ≡ old → (live : List Live) → Represents bytes core old h l
      → StandsFor bytes after h (record l { live = live }) → Represents bytes after new h (record l { live = live })
  represents_live old new same live is stands = record {
    stands = stands;
    held = λ running. subst (λ (b : Back). IsHeld b new h (record l { live = live })) (sym back)
        (subst (λ (o : Option DiskState). IsHeld core.back o h (record l { live = live })) (sym same)
        (held_live core.back old h l live (is.held running)));
  }

  -- where nothing changed but memory
  pub represents_same : (old new : Option DiskState) → new ≡ old → Represents bytes core old h l → StandsFor bytes after h l
      → Represents bytes after new h l
  represents_same old new same is stands = record {
    stands = stands;
    held = λ running. subst (λ (b : Back). IsHeld b new h l) (sym back)
        (subst (λ (o : Option DiskState). IsHeld core.back o h l) (sym same) (is.held running));
  }

  -- Behind a commit: the same base is held with it.
  pub represents_committed : (t : Transaction) (new : Option DiskState) (state : DiskState) (b : Base)
      → IsBack core.back b l → new ≡ Some state → IsBase b (committed l h t).layout (with_commit h (from_sorted t.writes))
      → Holds b (committed l h t).layout state → AreBegun b.state.next_table l.next_table state
      → StandsFor bytes after (with_commit h (from_sorted t.writes)) (committed l h t).layout
      → Represents bytes after new (with_commit h (from_sorted t.writes)) (committed l h t).layout
  represents_committed t new state b is_back told base holds begun stands = record {
    stands = stands;
    held = λ running. record {
      state = state;
      told_is = told;
      base = b;
      is_base = base;
      back_is = subst (λ (k : Back). IsBack k b (committed l h t).layout) (sym back)
          (record {
            manifest = is_back.manifest;
            state = is_back.state;
            next_log = is_back.next_log;
            next_table = is_back.next_table;
            waiting = is_back.waiting;
          });
      holds = holds;
      begun = begun;
    };
  }

-- Behind a halt nothing is said of the disk.
pub represents_halted : {H : Type 0} (bytes : H → Option (List ℕ)) (after : Core H) (told : Option DiskState)
    (h : History) (l : Layout) (name : Name) → StandsFor bytes after h (halted_at (file_of name) l)
    → Represents bytes after told h (halted_at (file_of name) l)
represents_halted bytes after told h l name stands = record { stands = stands; held = λ running. absurd cc }
