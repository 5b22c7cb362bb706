-- What a relocation carries out over a disk that holds the engine's layout, by each of its exits.
use Rattle.std.specs.Prelude.{◌≡◌, ℕ, ◌+◌, List, length, Option, None, Some, refl}
use Rattle.std.specs.List.{AllByRecursion}
use Rattle.std.proofs.Common.{sym, ap, subst, ◌∙◌}
use Rattle.vl_back.specs.declared.back.Back.{Back}
use Rattle.vl_engine_laws.specs.Carries.{Carries, CrashesShow}
use Rattle.vl_engine_laws.specs.Held.{AreBegun, Base, Holds, IsBase}
use Rattle.vl_engine_laws.specs.MoveFacts.{HandsMove, HasFailedToMove, HasMoved, move_frame}
use Rattle.vl_engine_laws.specs.Pointed.{layout_logs}
use Rattle.vl_engine_laws.specs.Represents.{IsBack, IsHeld, Represents, StandsFor, file_of}
use Rattle.vl_engine_laws.specs.Shown.{LeavesBetween}
use Rattle.vl_engine_laws.specs.Spared.{at_rest, Spares}
use Rattle.vl_engine_laws.specs.Writing.{WhileWriting, written}
use Rattle.vl_engine_laws.specs.declared.kept.Core.{Core}
use Rattle.vl_engine_laws.specs.laws.Carrying.{IsWatched, carries_leaving, carries_no_memory, extends_itself, frame_goes}
use Rattle.vl_engine_laws.specs.laws.Carrying.{frame_may_open, frame_told, looked, opens_again}
use Rattle.vl_engine_laws.specs.laws.KeptLaws.{begun_kept, table_log, written_elsewhere}
use Rattle.vl_engine_laws.specs.laws.RelocateLaws.{relocated_base, relocated_holds, relocating_opens_again, relocating_shows}
use Rattle.vl_engine_laws.specs.laws.RelocateRulings.{IsMoving, history_is, moving, tidy_moving}
use Rattle.vl_engine_laws.specs.laws.RelocateStanding.{relocated_spares, stands_moved, stands_stopped}
use Rattle.vl_engine_laws.specs.laws.Represented.{represents_halted}
use Rattle.vl_disk.specs.Calls.{ChangesNothing}
use Rattle.vl_disk.specs.Disk.{IsChangedBy}
use Rattle.vl_disk.specs.DiskState.{DiskState}
use Rattle.vl_disk.specs.Faults.{after_calls}
use Rattle.vl_disk.specs.Moments.{Elapses}
use Rattle.vl_disk.specs.declared.name.Name.TheVariants as names
use Rattle.vl_disk.specs.declared.name.Name.{Name}
use Rattle.vl_disk.specs.declared.watched.Watched.{Ghosts}
use Rattle.vl_frame.specs.Runs.{HasFrame}
use Rattle.vl_engine_model.specs.Decides.{Answered, Damaged, Effects, Failed, NoMemory, as_before, no_effects}
use Rattle.vl_engine_model.specs.Relocation.{Candidate, Pass}
use Rattle.vl_engine_model.specs.Ruling.{Ruling, halted_at, leaving}
use Rattle.vl_engine_model.specs.Rulings.Relocate.{MoveAnswer, Moves, relocate_ruling, relocated}
use Rattle.vl_engine_model.specs.Shown.{IsThere}
use Rattle.vl_engine_model.specs.Tidy.{IsTidy}
use Rattle.vl_engine_model.specs.declared.file_name.FileName.{FileName}
use Rattle.vl_engine_model.specs.declared.layout.Layout.{Layout}
use Rattle.vl_model.specs.Formats.{log_format}
use Rattle.vl_model.specs.History.{Extends, History}
use Rattle.vl_model.specs.declared.log_frame.LogFrame.TheVariants.{Relocated}
use Rattle.vl_model.specs.declared.log_frame.Moved.{Moved}
use Rattle.vl_recover.specs.crash.Starts.{MayOpen}
use Rattle.vl_recover.specs.laws.crash.TornFrames.{frame_behind}
use Rattle.vl_seglog.specs.Frames.{frame_at, frames_grammar}

-- The same base is held with the records.
pub represents_relocated : {H : Type 0} (bytes : H → Option (List ℕ)) (core after : Core H) (h : History) (l : Layout)
    (moved : List Moved) → after.back ≡ record core.back { epoch = core.back.epoch + 1 }
    → (new : Option DiskState) (state : DiskState) (b : Base) → IsBack core.back b l → new ≡ Some state
    → IsBase b (relocated l moved) h → Holds b (relocated l moved) state → AreBegun b.state.next_table l.next_table state
    → StandsFor bytes after h (relocated l moved) → Represents bytes after new h (relocated l moved)
represents_relocated bytes core after h l moved back new state b is_back told base holds begun stands = record {
  stands = stands;
  held = λ running. record {
    state = state;
    told_is = told;
    base = b;
    is_base = base;
    back_is = subst (λ (k : Back). IsBack k b (relocated l moved)) (sym back)
        (record {
          manifest = is_back.manifest;
          state = is_back.state;
          next_log = is_back.next_log;
          next_table = is_back.next_table;
          waiting = is_back.waiting;
        });
    holds = holds;
    begun = begun;
  };
}

module _ {D : Type 0} (g : Ghosts D) (watched : IsWatched g) {H : Type 0} (bytes : H → Option (List ℕ)) (core : Core H) (h : History)
    (l : Layout) (pass : Pass) (batch : List Candidate) where
  abbrev ruling : Ruling MoveAnswer
  ruling = relocate_ruling l h pass batch

  extends : Extends h ruling.history
  extends = subst (Extends h) (sym (history_is l h pass batch)) (extends_itself h)

  shows_ruled : (old new : D) → CrashesShow g old new h h → CrashesShow g old new h ruling.history
  shows_ruled old new = subst (CrashesShow g old new h) (sym (history_is l h pass batch))

  -- ---- it was answered without the disk

  pub carries_refused_move : (disk : D) (answer : MoveAnswer) → leaving answer h l ≡ ruling → Represents bytes core (g.told disk) h l
      → Carries g bytes disk disk core h l ruling (as_before l l) (Answered answer) no_effects
  carries_refused_move disk answer ruled is =
      subst (λ (r : Ruling MoveAnswer). Carries g bytes disk disk core h l r (as_before l l) (Answered answer) no_effects) ruled
      (carries_leaving g watched bytes core core h l disk answer l (as_before l l) is is)

  module _ (old new : D) (failed : Type 0) (no_change : ChangesNothing g old new failed) (is : Represents bytes core (g.told old) h l)
    where
      -- memory ran out before the disk was changed
      pub carries_short_move : Carries g bytes old new core h l ruling (as_before l l) NoMemory no_effects
      carries_short_move = carries_no_memory g watched bytes core core h l old new failed ruling l no_change extends refl is is.stands

      -- what is read was damaged, and nothing was changed
      pub carries_damaged_move : (name : FileName) (place : ℕ)
          → Carries g bytes old new core h l ruling (as_before l l) (Damaged name place) no_effects
      carries_damaged_move name place = record {
        decides = record {
          answered = λ a said. absurd cc;
          did = λ a said. absurd cc;
          no_memory = λ said. absurd cc;
          failed = λ other said. absurd cc;
          damaged = λ other at said. (subst (λ (o : Option DiskState). Represents bytes core o h l) (sym no_change.told) is, refl);
        };
        called = λ a said. absurd cc;
        through = λ running. shows_ruled old new (looked g watched h l is.stands.tidy core.back old new failed no_change (is.held running));
        again = λ running.
            let before = opens_again g watched h l is.stands.tidy core.back old (is.held running) in
            (before.0, no_change.told ∙ before.1, before.2);
      }

      -- reading failed at a file, which halts
      pub carries_unread_move : (after : Core H) (name : Name) → l.halted ≡ None
          → after ≡ record core { front = record core.front { halted = Some name } } → (effects : Effects)
          → Carries g bytes old new after h l ruling (as_before l l) (Failed (file_of name)) effects
      carries_unread_move after name running stopped effects = record {
        decides = record {
          answered = λ a said. absurd cc;
          did = λ a said. absurd cc;
          no_memory = λ said. absurd cc;
          failed = λ other said.
              let same : file_of name ≡ other = cc in
              subst (λ (file : FileName). (l.halted ≡ None) × Represents bytes after (g.told new) h (halted_at file l)) same
              (running, represents_halted bytes after (g.told new) h l name (stands_stopped bytes core after h l name stopped is.stands));
          damaged = λ other place said. absurd cc;
        };
        called = λ a said. absurd cc;
        through = λ runs. shows_ruled old new (looked g watched h l is.stands.tidy core.back old new failed no_change (is.held runs));
        again = λ runs.
            let before = opens_again g watched h l is.stands.tidy core.back old (is.held runs) in
            (before.0, no_change.told ∙ before.1, before.2);
      }

  -- ---- the frame was handed to the disk

  module _ (old new : D) (is : Represents bytes core (g.told old) h l) (moved : List Moved) (may : IsMoving l h pass batch moved)
      (there : AllByRecursion (IsThere (layout_logs l) pass.segment) batch) (hands : HandsMove g core.front moved old new) where
    abbrev name : Name
    name = names.Log l.active.number

    abbrev frame : List ℕ
    frame = move_frame core.front moved

    abbrev whole : List ℕ
    whole = frame_behind l.active.format l.active.number l.active.frames (Relocated moved)

    abbrev held : IsHeld core.back (g.told old) h l
    held = is.held may.running

    abbrev tidy : IsTidy (layout_logs l) l h
    tidy = is.stands.tidy

    frame_is : frame ≡ frame_at log_format l.active.number l.active.length (Relocated moved)
    frame_is =
        ap (λ (n : ℕ). frame_at log_format n core.front.log.length (Relocated moved)) is.stands.fronts.number
        ∙ ap (λ (n : ℕ). frame_at log_format l.active.number n (Relocated moved)) is.stands.fronts.length_is

    time : Elapses g hands.mid new (WhileWriting name frame)
    time = subst (λ (n : ℕ). Elapses g hands.mid new (WhileWriting (names.Log n) frame)) is.stands.fronts.number hands.time

    tidy_then : IsTidy (layout_logs l) (relocated l moved) h
    tidy_then = tidy_moving l h pass batch tidy moved may there

    spared_then : Spares (at_rest (relocated l moved)) h
    spared_then = relocated_spares (at_rest l) h moved held.is_base.spared

    has_so : HasFrame (frames_grammar l.active.format) (Relocated moved)
    has_so = subst (λ (n : ℕ). HasFrame (frames_grammar n) (Relocated moved)) (sym held.is_base.format) hands.has

    shows : (now : DiskState) → WhileWriting name whole held.state now → LeavesBetween h h now
    shows = relocating_shows held.base l h moved held.is_base tidy held.state held.holds has_so tidy_then spared_then

    opens : (now : DiskState) → WhileWriting name whole held.state now → MayOpen now
    opens = relocating_opens_again held.base l h moved held.is_base tidy held.state held.holds has_so

    goes : CrashesShow g old new h h
    goes = frame_goes g watched h h (extends_itself h) l tidy core.back old hands.mid new held ⊥ hands.before (Relocated moved) frame
        frame_is time shows opens

    may_open : (now : DiskState) → g.told new ≡ Some now → MayOpen now
    may_open = frame_may_open g watched h h (extends_itself h) l tidy core.back old hands.mid new held ⊥ hands.before
        (Relocated moved) frame frame_is time shows opens

    -- The disk failed while it was written.
    pub carries_failed_move : (after : Core H) → HasFailedToMove g old new core after moved → (effects : Effects)
        → Carries g bytes old new after h l ruling (as_before l l) (Failed (file_of name)) effects
    carries_failed_move after failed effects = record {
      decides = record {
        answered = λ a said. absurd cc;
        did = λ a said. absurd cc;
        no_memory = λ said. absurd cc;
        failed = λ other said.
            let same : file_of name ≡ other = cc in
            subst (λ (file : FileName). (l.halted ≡ None) × Represents bytes after (g.told new) h (halted_at file l)) same (
              may.running,
              represents_halted bytes after (g.told new) h l name
                  (stands_stopped bytes core after h l name
                  (subst (λ (n : ℕ). after ≡ record core { front = record core.front { halted = Some (names.Log n) } })
                  is.stands.fronts.number failed.core) is.stands),
            );
        damaged = λ other place said. absurd cc;
      };
      called = λ a said. absurd cc;
      through = λ running. shows_ruled old new goes;
      again = λ running.
          let now = hands.tells held.state (hands.before.told ∙ held.told_is) in
          (now.0, now.1, may_open now.0 now.1);
    }

    told_then : IsChangedBy (written name frame) (g.told hands.mid) (g.told new) → g.told new ≡ Some (written name whole held.state)
    told_then = frame_told g watched h h (extends_itself h) l tidy core.back old hands.mid new held ⊥ hands.before (Relocated moved)
        frame frame_is time shows opens

    represents_then : (after : Core H) → g.told new ≡ Some (written name whole held.state)
        → after.back ≡ record core.back { epoch = core.back.epoch + 1 }
        → StandsFor bytes after h (relocated l moved) → Represents bytes after (g.told new) h (relocated l moved)
    represents_then after told back stands =
        represents_relocated bytes core after h l moved back (g.told new) (written name whole held.state) held.base held.back_is told
        (relocated_base held.base l h moved held.is_base tidy spared_then)
        (relocated_holds held.base l h moved held.is_base tidy held.state held.holds has_so)
        (begun_kept name held.state (written name whole held.state) (written_elsewhere name whole held.state)
        (λ n. table_log n l.active.number) held.base.state.next_table l.next_table held.begun) stands

    -- It was written,
    written_carries : (after : Core H) → g.told new ≡ Some (written name whole held.state)
        → g.calls new ≡ after_calls 2 (g.calls hands.mid)
        → after.back ≡ record core.back { epoch = core.back.epoch + 1 }
        → StandsFor bytes after h (relocated l moved)
        → Carries g bytes old new after h l (moving l h moved) (as_before l l) (Answered (Moves (length moved)))
        (record no_effects { calls = 2 })
    written_carries after told calls back stands = record {
      decides = record {
        answered = λ a said. (cc, represents_then after told back stands);
        did = λ a said. refl;
        no_memory = λ said. absurd cc;
        failed = λ other said. absurd cc;
        damaged = λ other place said. absurd cc;
      };
      called = λ a said. calls ∙ ap (after_calls 2) hands.before.calls;
      through = λ running. goes;
      again = λ running. (written name whole held.state, told, may_open (written name whole held.state) told);
    }

  -- as the raw facts have it.
  pub carries_moved : (old new : D) (after : Core H) (is : Represents bytes core (g.told old) h l) (moved : List Moved)
      (may : IsMoving l h pass batch moved) (there : AllByRecursion (IsThere (layout_logs l) pass.segment) batch)
      (did : HasMoved g old new core after moved)
      → Carries g bytes old new after h l ruling (as_before l l) (Answered (Moves (length moved))) (record no_effects { calls = 2 })
  carries_moved old new after is moved may there did =
      subst (λ (r : Ruling MoveAnswer). Carries g bytes old new after h l r (as_before l l) (Answered (Moves (length moved)))
      (record no_effects { calls = 2 })) may.ruling
      (written_carries old new is moved may there did.hands after
      (told_then old new is moved may there did.hands
      (subst (λ (n : ℕ). IsChangedBy (written (names.Log n) (move_frame core.front moved)) (g.told did.hands.mid) (g.told new))
      is.stands.fronts.number did.changed))
      did.calls did.back (stands_moved g bytes core after old new h l is.stands pass batch moved may there did))
