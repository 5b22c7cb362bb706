-- What a rotation comes to, at each of its exits, by the ruling on it.
use Rattle.std.specs.Prelude.{◌≡◌, ◌≤◌, ◌<◌, ℕ, ◌+◌, List, [], Option, None, Some, Ok, refl}
use Rattle.std.specs.Option.{option_map, unwrap_or}
use Rattle.std.proofs.Common.{sym, ap, subst, ◌∙◌, arith, ⊎_elim}
use Rattle.vl_disk.specs.Calls.{ChangesNothing}
use Rattle.vl_disk.specs.Crash.{Image, Unchanged}
use Rattle.vl_disk.specs.Disk.{IsChangedBy}
use Rattle.vl_disk.specs.DiskState.{DiskState, File, file_at, new_file}
use Rattle.vl_disk.specs.Faults.{after_calls}
use Rattle.vl_disk.specs.MadeFile.{WhileMaking, made}
use Rattle.vl_disk.specs.Moments.{While, goes_by, waits}
use Rattle.vl_disk.specs.Name.{IsNumbered}
use Rattle.vl_disk.specs.declared.name.Name.TheVariants as names
use Rattle.vl_disk.specs.declared.name.Name.{Name}
use Rattle.vl_disk.specs.declared.watched.Watched.{Ghosts}
use Rattle.vl_engine_laws.specs.laws.Carrying.{IsWatched, looked}
use Rattle.vl_steps.specs.laws.Committing.{decides_answered, decides_failed, decides_short}
use Rattle.vl_steps.specs.laws.Leaving.{base_numbers, making_elsewhere, manifest_held}
use Rattle.vl_engine_laws.specs.laws.Represented.{represents_halted}
use Rattle.vl_engine_laws.specs.laws.Standing.{fronts_halted, stands_halted}
use Rattle.vl_engine_laws.specs.Carries.{Carries, CrashesShow}
use Rattle.vl_engine_laws.specs.Held.{Base, Holds}
use Rattle.vl_engine_laws.specs.Laid.{HasLayout}
use Rattle.vl_engine_laws.specs.Pointed.{bytes_of_log, layout_logs}
use Rattle.vl_engine_laws.specs.Represents.{Fronts, IsFront, IsHeld, Represents, StandsFor, file_of}
use Rattle.vl_engine_laws.specs.RotateFacts.{BeginsLog, HasActive, IsNextBack, IsNextVersion, IsSameBack, IsSameCore, next_header, next_name}
use Rattle.vl_engine_laws.specs.Shown.{LeavesBetween}
use Rattle.vl_engine_laws.specs.MayStep.{LeavesNumbers}
use Rattle.vl_engine_laws.specs.declared.kept.Core.{Core}
use Rattle.vl_engine_laws.specs.laws.HeldLaws.{held_opens_again, held_shown}
use Rattle.vl_engine_laws.specs.laws.KeptLaws.{begun_kept, table_log}
use Rattle.vl_engine_laws.specs.laws.LaidRotate.{laid_rotated, rotated_tidy}
use Rattle.vl_engine_laws.specs.laws.RotateLaws.{rotate_base, rotate_holds, rotate_leaves, rotate_opens_again, rotated_base}
use Rattle.vl_engine_laws.specs.laws.RotateRulings.{halted_ruled, idle_ruled, is_filled, log_used_up, made_ruled, rotate_made, version_used_up}
use Rattle.vl_engine_laws.specs.laws.RotateWaiting.{rotate_waiting}
use Rattle.vl_engine_laws.specs.laws.ShownLaws.{between_itself}
use Rattle.vl_engine_laws.specs.laws.SparedSteps.{spares_rotated}
use Rattle.vl_front.specs.declared.front.Front.{Front}
use Rattle.vl_engine_model.specs.Decides.{Answered, Effects, Failed, NoMemory, as_before, no_effects}
use Rattle.vl_engine_model.specs.Ruling.{Exhausted, Halted, Idle, Ruling, StepAnswer, Stepped, halted_at, leaving}
use Rattle.vl_engine_model.specs.Rulings.Rotate.{rotate_ruling, rotated}
use Rattle.vl_engine_model.specs.Start.{newest_first}
use Rattle.vl_engine_model.specs.Tidy.{IsRuledTidy, IsTidy, IsTrueLog}
use Rattle.vl_engine_model.specs.declared.layout.Layout.{Layout}
use Rattle.vl_engine_model_laws.specs.laws.TidyRulings.{rotate_tidy}
use Rattle.vl_manifest.specs.declared.waiting.Waiting.{Waiting}
use Rattle.vl_manifest.specs.declared.state.ManifestState.{ManifestState}
use Rattle.vl_model.specs.Formats.{log_format}
use Rattle.vl_model.specs.History.{History}
use Rattle.vl_model.specs.Limits.{max_file_number, max_epoch}
use Rattle.vl_model.specs.declared.counter.Counter.TheVariants as counter
use Rattle.vl_recover.specs.crash.Alike.{IsLeft}
use Rattle.vl_recover.specs.crash.Held.{HoldsManifest}
use Rattle.vl_recover.specs.crash.Starts.{MayOpen}
use Rattle.vl_recover.specs.laws.crash.AppendLaws.{last_held, manifest_kept}
use Rattle.vl_recover.specs.laws.crash.OneName.{made_elsewhere}
use Rattle.vl_recover.specs.laws.opening.HeldLaws.{held_state}
use Rattle.vl_recover.specs.opening.Opening.{Opening, Opens}
use Rattle.vl_recover.specs.opening.HeldFiles.{AreWaiting}
use Rattle.vl_seglog.specs.Frames.{log_header}
use Rattle.vl_version.specs.declared.version.Version.{Version}

-- ---- a rotation that nothing stands against

-- the numbers are left, and the log has frames
pub record CanRotate (l : Layout) : Type 0 where
  pub running : l.halted ≡ None
  pub long : 16 < l.active.length
  pub left : l.next_log ≤ max_file_number
  pub below : l.epoch < max_epoch

pub ruled_made : (l : Layout) (h : History) → IsTrueLog l.active → CanRotate l → rotate_made l h ≡ rotate_ruling l h
ruled_made l h true_log can = made_ruled l h true_log can.running can.long can.left can.below

-- ---- memory

module _ {H : Type 0} (before after : Core H) (h : History) (l : Layout) where
  -- behind a rotation,
  pub fronts_rotated : after.front ≡ record before.front { log = record { number = before.back.next_log; length = 16 } }
      → IsNextBack before after.back → before.back.next_log ≡ l.next_log → Fronts before h l → Fronts after h (rotated l)
  fronts_rotated front back next is = record {
    front = subst (λ (f : Front). IsFront f.oracle f.recent.named h (rotated l)) (sym front) (record {
      last = is.front.last;
      live_are = is.front.live_are;
      lived = record { rising = is.front.lived.rising; known = is.front.lived.known; few = is.front.lived.few };
      readable = is.front.readable;
      remembers = is.front.remembers;
    });
    number = ap (λ (f : Front). f.log.number) front ∙ next;
    length_is = ap (λ (f : Front). f.log.length) front;
    format = refl;
    room = ap (λ (f : Front). f.room) front ∙ is.room;
    roomy = is.roomy;
    halted = ap (λ (f : Front). option_map file_of f.halted) front ∙ is.halted;
    version = back.epoch ∙ ap (λ (n : ℕ). n + 1) is.version;
    keep = ap (λ (s : ManifestState). s.keep) back.state ∙ is.keep;
    since = ap (λ (s : ManifestState). s.since) back.state ∙ is.since;
  }

  -- where it failed,
  pub fronts_unrotated : (name : Name) → after.front ≡ record before.front { halted = Some name }
      → IsSameBack before.back after.back → Fronts before h l → Fronts after h (halted_at (file_of name) l)
  fronts_unrotated name front back is =
      let so = fronts_halted before (record after { back = before.back }) h l name is (ap (λ (f : Front). f.oracle) front)
      (ap (λ (f : Front). f.recent.named) front) (ap (λ (f : Front). f.log) front) (ap (λ (f : Front). f.room) front)
      (ap (λ (f : Front). f.halted) front) refl in
      record {
        front = so.front;
        number = so.number;
        length_is = so.length_is;
        format = so.format;
        room = so.room;
        roomy = so.roomy;
        halted = so.halted;
        version = back.epoch ∙ is.version;
        keep = ap (λ (s : ManifestState). s.keep) back.state ∙ is.keep;
        since = ap (λ (s : ManifestState). s.since) back.state ∙ is.since;
      }

  -- and where memory alone changed
  pub fronts_same : IsSameCore before after → Fronts before h l → Fronts after h l
  fronts_same same is = record {
    front = subst (λ (f : Front). IsFront f.oracle f.recent.named h l) (sym same.front) is.front;
    number = ap (λ (f : Front). f.log.number) same.front ∙ is.number;
    length_is = ap (λ (f : Front). f.log.length) same.front ∙ is.length_is;
    format = is.format;
    room = ap (λ (f : Front). f.room) same.front ∙ is.room;
    roomy = is.roomy;
    halted = ap (λ (f : Front). option_map file_of f.halted) same.front ∙ is.halted;
    version = same.back.epoch ∙ is.version;
    keep = ap (λ (s : ManifestState). s.keep) same.back.state ∙ is.keep;
    since = ap (λ (s : ManifestState). s.since) same.back.state ∙ is.since;
  }

module _ {H : Type 0} (bytes : H → Option (List ℕ)) (before after : Core H) (h : History) (l : Layout)
    (is : StandsFor bytes before h l) where
  pub stands_unrotated : (name : Name) → after.version ≡ before.version → Fronts after h (halted_at (file_of name) l)
      → StandsFor bytes after h (halted_at (file_of name) l)
  stands_unrotated name version fronts = stands_halted bytes before after h l is version name fronts

  pub stands_same : IsSameCore before after → StandsFor bytes after h l
  stands_same same = record {
    fronts = fronts_same before after h l same is.fronts;
    has = subst (λ (v : Version H). HasLayout bytes v l) (sym same.version) is.has;
    tidy = is.tidy;
    spared = is.spared;
  }

  module _ (can : CanRotate l) (told : Option DiskState) (state : DiskState) (told_is : told ≡ Some state)
      (active : HasActive l state) (next : IsNextVersion bytes told before after.version) where
    pub tidy_rotated : IsTidy (layout_logs (rotated l)) (rotated l) h
    tidy_rotated = rotated_tidy l h is.tidy
        (subst (λ (r : Ruling StepAnswer). IsRuledTidy (layout_logs l) r) (sym (ruled_made l h is.tidy.true_logs.0 can))
        (rotate_tidy (layout_logs l) l h is.tidy))

    -- the log that was active is held with the layout's bytes
    held_so : bytes next.log.held ≡ Some (bytes_of_log l.active)
    held_so = next.held state told_is
        ∙ ap (λ (n : ℕ). Some (file_at state (names.Log n)).bytes) is.fronts.number
        ∙ ap (λ (bs : List ℕ). Some bs) active

    pub stands_rotated : Fronts after h (rotated l) → StandsFor bytes after h (rotated l)
    stands_rotated fronts = record {
      fronts = fronts;
      has = laid_rotated bytes before.version after.version l is.has before.front.log.length next.log next.is
          (next.number ∙ is.fronts.number) (next.format ∙ sym is.fronts.format) held_so is.tidy.files.stocked.logs_drawn.0;
      tidy = tidy_rotated;
      spared = spares_rotated l h is.spared;
    }

-- the active log is held with the layout's bytes where the disk holds the layout
pub active_held : (b : Base) (l : Layout) (disk : DiskState) → Holds b l disk → HasActive l disk
active_held b l disk holds =
    ap (λ (o : Option File). (unwrap_or o new_file).bytes) (last_held b.state.head b.before l.active disk holds.files.logs).stands

-- ---- the disk

module _ {D H : Type 0} (g : Ghosts D) (watched : IsWatched g) (bytes : H → Option (List ℕ)) (before after : Core H)
    (h : History) (l : Layout) (old new : D) (is : Represents bytes before (g.told old) h l) (can : CanRotate l) where
  held : IsHeld before.back (g.told old) h l
  held = is.held can.running

  abbrev tidy : IsTidy (layout_logs l) l h
  tidy = is.stands.tidy

  -- Memory ran out before the disk was changed.
  pub carries_short : IsSameCore before after → ChangesNothing g old new ⊥
      → Carries g bytes old new after h l (rotate_made l h) (as_before l l) NoMemory no_effects
  carries_short same quiet = record {
    decides = decides_short (Represents bytes after (g.told new)) h l (rotate_made l h) l (record {
      stands = stands_same bytes before after h l is.stands same;
      held = λ running. record {
        state = held.state;
        told_is = quiet.told ∙ held.told_is;
        base = held.base;
        is_base = held.is_base;
        back_is = record {
          manifest = same.back.manifest ∙ held.back_is.manifest;
          state = same.back.state ∙ held.back_is.state;
          next_log = same.back.next_log ∙ held.back_is.next_log;
          next_table = held.back_is.next_table;
          waiting = subst (λ (ws : List Waiting). AreWaiting l.covered ws (newest_first l.frozen)) (sym same.back.waiting)
              held.back_is.waiting;
        };
        holds = held.holds;
        begun = held.begun;
      };
    });
    called = λ a said. absurd cc;
    through = λ running. looked g watched h l tidy before.back old new ⊥ quiet held;
    again = λ running. (
      held.state,
      quiet.told ∙ held.told_is,
      held_opens_again held.base l h held.is_base held.state tidy.levels held.holds,
    );
  }

  module _ (begins : BeginsLog g before old new) where
    told_mid : g.told begins.mid ≡ Some held.state
    told_mid = begins.told ∙ held.told_is

    numbered : IsNumbered (names.Log l.next_log)
    numbered =
        let drawn = tidy.files.stocked.logs_drawn.0 in
        let left = can.left in
        (omega (arith, drawn), omega (arith, left))

    -- the new log is that of the layout
    as_laid_out : (now : DiskState) → WhileMaking (next_name before) (next_header before) held.state now
        → WhileMaking (names.Log l.next_log) (log_header log_format l.next_log) held.state now
    as_laid_out now during =
        subst (λ (n : ℕ). WhileMaking (names.Log n) (log_header log_format n) held.state now) held.back_is.next_log during

    leaves_before : LeavesBetween h h held.state
    leaves_before image left =
        between_itself h image (held_shown held.base l h held.is_base tidy held.state held.holds image left.left)

    leaves_making : (now : DiskState) → WhileMaking (next_name before) (next_header before) held.state now → LeavesBetween h h now
    leaves_making now during image left =
        between_itself h image (rotate_leaves held.base l h held.is_base tidy held.state held.holds now (as_laid_out now during) image left)

    -- What a crash leaves meanwhile shows the history,
    goes_so : CrashesShow g old new h h
    goes_so =
        goes_by g (LeavesBetween h h) old begins.mid new held.state (WhileMaking (next_name before) (next_header before)) told_mid
        (goes_by g (LeavesBetween h h) old old begins.mid held.state Unchanged held.told_is
        (waits g (LeavesBetween h h) watched.only_now old held.state held.told_is leaves_before)
        begins.quiet (λ now same. subst (LeavesBetween h h) (sym same) leaves_before))
        begins.time leaves_making

    -- and a store may be opened on the disk.
    now_may_open : (now : DiskState) → g.told new ≡ Some now → MayOpen now
    now_may_open now told = ⊎_elim
        (λ (early : g.states_since begins.mid (g.moment begins.mid) now).
        subst MayOpen (sym (watched.only_now begins.mid held.state now told_mid early))
        (held_opens_again held.base l h held.is_base held.state tidy.levels held.holds))
        (λ (during : While (g.told begins.mid) (WhileMaking (next_name before) (next_header before)) now).
        rotate_opens_again held.base l h held.is_base tidy held.state held.holds numbered now
        (as_laid_out now (during held.state told_mid)))
        (begins.time.nothing_else (g.moment begins.mid) now (omega arith)
        (watched.counts_now new now (g.moment begins.mid) told begins.time.later))

    pub carries_unrotated : (name : Name) (effects : Effects) → StandsFor bytes after h (halted_at (file_of name) l)
        → Carries g bytes old new after h l (rotate_made l h) (as_before l l) (Failed (file_of name)) effects
    carries_unrotated name effects stands = record {
      decides = decides_failed (Represents bytes after (g.told new)) h l (rotate_made l h) l (file_of name) effects can.running
          (represents_halted bytes after (g.told new) h l name stands);
      called = λ a said. absurd cc;
      through = λ running. goes_so;
      again = λ running. let (now, told) = begins.tells held.state told_mid in (now, told, now_may_open now told);
    }

    pub carries_rotated : IsChangedBy (made (next_name before) (next_header before)) (g.told begins.mid) (g.told new)
        → g.calls new ≡ after_calls 3 (g.calls begins.mid) → IsNextBack before after.back
        → StandsFor bytes after h (rotated l)
        → Carries g bytes old new after h l (rotate_made l h) (as_before l l) (Answered (Stepped l.active.number))
        (record { calls = 3; gone = [] })
    carries_rotated changed calls back stands = record {
      decides = decides_answered (Represents bytes after (g.told new)) h l (rotate_made l h) (as_before l l)
          (Stepped l.active.number) (record { calls = 3; gone = [] }) refl refl (record { stands = stands; held = λ running. held_then });
      called = λ a said. calls ∙ ap (after_calls 3) begins.calls;
      through = λ running. goes_so;
      again = λ running. (state_then, told_then, now_may_open state_then told_then);
    }
      where
        state_then : DiskState
        state_then = made (names.Log l.next_log) (log_header log_format l.next_log) held.state

        told_then : g.told new ≡ Some state_then
        told_then = changed ∙ ap (option_map (made (next_name before) (next_header before))) told_mid
            ∙ ap (λ (n : ℕ). Some (made (names.Log n) (log_header log_format n) held.state)) held.back_is.next_log

        held_then : IsHeld after.back (g.told new) h (rotated l)
        held_then = record {
          state = state_then;
          told_is = told_then;
          base = rotated_base held.base l;
          is_base = rotate_base held.base l h held.is_base tidy
              (is_filled l h tidy.true_logs.0 can.running can.long);
          back_is = record {
            manifest = back.manifest ∙ held.back_is.manifest;
            state = back.state ∙ held.back_is.state;
            next_log = back.next_log ∙ ap (λ (n : ℕ). n + 1) held.back_is.next_log;
            next_table = held.back_is.next_table;
            waiting = subst (λ (ws : List Waiting). AreWaiting l.covered ws (newest_first (rotated l).frozen)) (sym back.waiting)
                (rotate_waiting before.back held.base l h held.is_base held.back_is
                (record { number = before.front.log.number; covered = before.front.oracle.last })
                is.stands.fronts.number is.stands.fronts.front.last);
          };
          holds = rotate_holds held.base l h held.is_base tidy held.state held.holds numbered;
          begun = begun_kept (names.Log l.next_log) held.state state_then
              (made_elsewhere (names.Log l.next_log) (log_header log_format l.next_log) held.state) (λ n. table_log n l.next_log)
              held.base.state.next_table l.next_table held.begun;
        }

    -- The manifest is as it was, whatever a crash leaves.
    state_left : (now : DiskState) → WhileMaking (next_name before) (next_header before) held.state now → (image : Image) (o : Opening)
        → IsLeft now image → Opens image (Ok o) → o.state ≡ held.base.state
    state_left now during image o left opens =
        held_state held.base.state now
        (manifest_kept l.next_log held.base.state held.state now
        (making_elsewhere (names.Log l.next_log) (log_header log_format l.next_log) held.state now (as_laid_out now during))
        (manifest_held held.base l h held.is_base held.state held.holds.base))
        image o left.left opens

    -- So it gives no number above the next ones.
    pub leaves_numbers : before.back.state.next_log ≤ before.back.next_log → (now : DiskState) → g.told new ≡ Some now
        → LeavesNumbers l.next_log (l.next_table + 1) now
    leaves_numbers within now told image o left opens =
        base_numbers before.back held.base l h held.is_base tidy held.state held.holds held.back_is within o state
      where
        state : o.state ≡ held.base.state
        state = ⊎_elim
            (λ (early : g.states_since begins.mid (g.moment begins.mid) now).
            held_state held.base.state now
            (subst (HoldsManifest held.base.state) (sym (watched.only_now begins.mid held.state now told_mid early))
            (manifest_held held.base l h held.is_base held.state held.holds.base)) image o left.left opens)
            (λ (during : While (g.told begins.mid) (WhileMaking (next_name before) (next_header before)) now).
            state_left now (during held.state told_mid) image o left opens)
            (begins.time.nothing_else (g.moment begins.mid) now (omega arith)
            (watched.counts_now new now (g.moment begins.mid) told begins.time.later))

-- ---- the exits without a disk

module _ {H : Type 0} (core : Core H) (h : History) (l : Layout) (is : Fronts core h l) where
  pub ruled_halted : (name : Name) → core.front.halted ≡ Some name → leaving (Halted (file_of name)) h l ≡ rotate_ruling l h
  ruled_halted name halted = halted_ruled l h (file_of name) (sym is.halted ∙ ap (option_map file_of) halted)

  module _ (none : core.front.halted ≡ None) where
    pub running_so : l.halted ≡ None
    running_so = sym is.halted ∙ ap (option_map file_of) none

    pub ruled_idle : IsTrueLog l.active → core.front.log.length ≤ 16 → leaving Idle h l ≡ rotate_ruling l h
    ruled_idle true_log short = idle_ruled l h true_log running_so (omega (arith, is.length_is, short))

    module _ (long : 16 < core.front.log.length) (next : core.back.next_log ≡ l.next_log) where
      longer : 16 < l.active.length
      longer = omega (arith, is.length_is, long)

      pub ruled_log : IsTrueLog l.active → max_file_number < core.back.next_log
          → leaving (Exhausted counter.Log) h l ≡ rotate_ruling l h
      ruled_log true_log past = log_used_up l h true_log running_so longer (omega (arith, next, past))

      module _ (left : core.back.next_log ≤ max_file_number) where
        left_then : l.next_log ≤ max_file_number
        left_then = omega (arith, next, left)

        pub ruled_version : IsTrueLog l.active → max_epoch ≤ core.back.epoch
            → leaving (Exhausted counter.Version) h l ≡ rotate_ruling l h
        ruled_version true_log past =
            version_used_up l h true_log running_so longer left_then (omega (arith, is.version, past))

        pub can_rotate : core.back.epoch < max_epoch → CanRotate l
        can_rotate below = record {
          running = running_so;
          long = longer;
          left = left_then;
          below = omega (arith, is.version, below);
        }
