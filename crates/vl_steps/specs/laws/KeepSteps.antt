-- What a change of how many versions are kept leaves in memory and on the disk, where it is written and where that fails.
use Rattle.std.specs.Prelude.{◌≡◌, ◌⊎◌, ◌≤◌, ◌^◌, ℕ, ◌+◌, ◌-◌, List, [], ◌∷◌, length, min, Option, None, Some, Ok, refl}
use Rattle.std.specs.Option.{option_map}
use Rattle.std.proofs.Common.{sym, ap, subst, ◌∙◌, arith, ⊎_elim}
use Rattle.vl_disk.specs.Crash.{Image}
use Rattle.vl_disk.specs.Disk.{IsChangedBy}
use Rattle.vl_disk.specs.DiskState.{DiskState}
use Rattle.vl_disk.specs.Faults.{after_calls}
use Rattle.vl_disk.specs.Moments.{While, goes_by}
use Rattle.vl_disk.specs.declared.name.Name.TheVariants as names
use Rattle.vl_disk.specs.declared.name.Name.{Name}
use Rattle.vl_disk.specs.declared.watched.Watched.{Ghosts}
use Rattle.vl_engine_laws.specs.laws.Carrying.{IsWatched, looked}
use Rattle.vl_steps.specs.laws.Committing.{decides_answered, decides_failed}
use Rattle.vl_engine_laws.specs.laws.FlushKeeps.{as_many}
use Rattle.vl_steps.specs.laws.FlushSteps.{fronts_unflushed, same_log}
use Rattle.vl_steps.specs.laws.Leaving.{either_state, manifest_held}
use Rattle.vl_engine_laws.specs.laws.Represented.{represents_halted}
use Rattle.vl_engine_laws.specs.Carries.{Carries, CrashesShow}
use Rattle.vl_engine_laws.specs.Held.{Base}
use Rattle.vl_engine_laws.specs.KeepFacts.{IsNextBack, IsStagedKeep, WhileKeeping, WritesKeep, keep_switch, keep_written}
use Rattle.vl_engine_laws.specs.Laid.{HasLayout}
use Rattle.vl_engine_laws.specs.Pointed.{layout_logs}
use Rattle.vl_engine_laws.specs.Represents.{Fronts, IsFront, IsHeld, Represents, StandsFor, file_of}
use Rattle.vl_engine_laws.specs.Shown.{LeavesBetween}
use Rattle.vl_engine_laws.specs.MayStep.{LeavesNumbers}
use Rattle.vl_engine_laws.specs.declared.kept.Core.{Core}
use Rattle.vl_engine_laws.specs.laws.HeldLaws.{held_opens_again}
use Rattle.vl_engine_laws.specs.laws.KeepLaws.{CanKeep, base_then, edits_of, files_then, final, keep_holds, keep_leaves}
use Rattle.vl_engine_laws.specs.laws.KeepLaws.{keep_made, keep_opens_again, kept_state, later, tidy_then}
use Rattle.vl_engine_laws.specs.laws.KeptLaws.{begun_kept, table_manifest, written_elsewhere}
use Rattle.vl_engine_laws.specs.laws.ShownLaws.{between_itself}
use Rattle.vl_engine_laws.specs.laws.SparedSteps.{spares_keeping}
use Rattle.vl_engine_laws.specs.laws.SwitchLaws.{switch_frame, switching_says}
use Rattle.vl_frame.specs.Runs.{HasFrame, item_frame}
use Rattle.vl_front.specs.declared.front.Front.{Front}
use Rattle.vl_engine_model.specs.Decides.{Answered, Effects, Failed, as_before}
use Rattle.vl_engine_model.specs.Ruling.{halted_at}
use Rattle.vl_engine_model.specs.Rulings.Keep.{Kept, keeping}
use Rattle.vl_engine_model.specs.Start.{newest_first}
use Rattle.vl_engine_model.specs.Tidy.{IsTidy}
use Rattle.vl_engine_model.specs.declared.layout.Layout.{Layout}
use Rattle.vl_engine_model_laws.specs.laws.TidySteps.{tidy_keeping}
use Rattle.vl_manifest.specs.Grammar.{edits_grammar}
use Rattle.vl_manifest.specs.States.{max_keep}
use Rattle.vl_manifest.specs.Switching.{WhileSwitching, switched}
use Rattle.vl_manifest.specs.declared.edit.Edit.TheVariants.{Keep}
use Rattle.vl_manifest.specs.declared.manifest_log.ManifestLog.{ManifestLog}
use Rattle.vl_manifest.specs.declared.staged.StagedEdits.{StagedEdits}
use Rattle.vl_manifest.specs.declared.state.ManifestState.{ManifestState}
use Rattle.vl_manifest.specs.declared.waiting.Waiting.{Waiting}
use Rattle.vl_model.specs.Formats.{manifest_format}
use Rattle.vl_model.specs.History.{History, last_number}
use Rattle.vl_model.specs.Numbers.{since_kept}
use Rattle.vl_recover.specs.crash.Alike.{IsLeft}
use Rattle.vl_recover.specs.crash.Held.{HoldsManifest}
use Rattle.vl_recover.specs.crash.Starts.{MayOpen}
use Rattle.vl_recover.specs.laws.crash.AppendLaws.{last_held}
use Rattle.vl_recover.specs.laws.opening.HeldLaws.{held_state}
use Rattle.vl_recover.specs.opening.HeldFiles.{AreWaiting}
use Rattle.vl_recover.specs.opening.Opening.{Opening, Opens}
use Rattle.vl_version.specs.declared.version.Version.{Version}

-- ---- in memory

module _ {H : Type 0} (before after : Core H) (h : History) (l : Layout) (v : ℕ) (staged : StagedEdits) where
  -- what the switch says is the layout's
  pub since_is : Fronts before h l
      → since_kept before.front.oracle.last before.back.state.keep before.back.state.since v ≡ (keeping v h l).since
  since_is is =
      ap (λ (n : ℕ). since_kept n before.back.state.keep before.back.state.since v) is.front.last
      ∙ ap (λ (n : ℕ). since_kept (last_number h) n before.back.state.since v) is.keep
      ∙ ap (λ (n : ℕ). since_kept (last_number h) l.keep n v) is.since

  pub fronts_kept : after.front ≡ before.front → IsNextBack before after.back v staged → Fronts before h l
      → Fronts after h (keeping v h l)
  fronts_kept front back is = record {
    front = subst (λ (f : Front). IsFront f.oracle f.recent.named h (keeping v h l)) (sym front) (record {
      last = is.front.last;
      live_are = is.front.live_are;
      lived = record { rising = is.front.lived.rising; known = is.front.lived.known; few = is.front.lived.few };
      readable = is.front.readable;
      remembers = is.front.remembers;
    });
    number = ap (λ (f : Front). f.log.number) front ∙ is.number;
    length_is = ap (λ (f : Front). f.log.length) front ∙ is.length_is;
    format = is.format;
    room = ap (λ (f : Front). f.room) front ∙ is.room;
    roomy = is.roomy;
    halted = ap (λ (f : Front). option_map file_of f.halted) front ∙ is.halted;
    version = back.epoch ∙ is.version;
    keep = ap (λ (s : ManifestState). s.keep) back.state;
    since = ap (λ (s : ManifestState). s.since) back.state ∙ since_is is;
  }

  -- where it failed
  pub fronts_unkept : (name : Name) → after.front ≡ record before.front { halted = Some name }
      → after.back.epoch ≡ before.back.epoch → after.back.state ≡ before.back.state → Fronts before h l
      → Fronts after h (halted_at (file_of name) l)
  fronts_unkept name front version state is = fronts_unflushed before after h l name front version (as_many state) is

-- what it has is what it had
pub laid_kept : {H : Type 0} (bytes : H → Option (List ℕ)) (version : Version H) (h : History) (l : Layout) (v : ℕ)
    → HasLayout bytes version l → HasLayout bytes version (keeping v h l)
laid_kept bytes version h l v has = record {
  active = has.active;
  frozen = has.frozen;
  levels = has.levels;
  in_order = has.in_order;
  logs = has.logs;
  told = has.told;
  below = has.below;
}

pub stands_kept : {H : Type 0} (bytes : H → Option (List ℕ)) (before after : Core H) (h : History) (l : Layout) (v : ℕ)
    → 1 ≤ v → StandsFor bytes before h l → after.version ≡ before.version → Fronts after h (keeping v h l)
    → StandsFor bytes after h (keeping v h l)
stands_kept {H} bytes before after h l v some is version fronts = record {
  fronts = fronts;
  has = laid_kept bytes after.version h l v (subst (λ (x : Version H). HasLayout bytes x l) (sym version) is.has);
  tidy = tidy_keeping (layout_logs l) l h is.tidy v some;
  spared = spares_keeping l h v is.spared;
}

-- ---- on the disk

module _ {D H : Type 0} (g : Ghosts D) (watched : IsWatched g) (bytes : H → Option (List ℕ)) (before after : Core H)
    (h : History) (l : Layout) (v : ℕ) (old new : D) (is : Represents bytes before (g.told old) h l) (running : l.halted ≡ None)
    (some : 1 ≤ v) (few : v ≤ max_keep) (staged : StagedEdits) (of : IsStagedKeep before v staged)
    (writes : WritesKeep g before staged old new) where
  held : IsHeld before.back (g.told old) h l
  held = is.held running

  abbrev b : Base
  b = held.base

  abbrev tidy : IsTidy (layout_logs l) l h
  tidy = is.stands.tidy

  manifest_is : before.back.manifest.number ≡ b.manifest.number
  manifest_is = ap (λ (x : ManifestLog). x.number) held.back_is.manifest

  edits_are : keep_switch before v ≡ edits_of l h v
  edits_are = ap (λ (n : ℕ). Keep v n ∷ []) (since_is before before h l v staged is.stands.fronts)

  -- what was staged is what is asked of a change
  abbrev can : CanKeep l h v
  can = record { some = some; few = few; frame = subst (HasFrame (edits_grammar manifest_format)) edits_are of.has }

  frame_is : staged.frame.items ≡ switch_frame b (edits_of l h v)
  frame_is = of.frame
      ∙ ap (item_frame (edits_grammar manifest_format) before.back.manifest.number before.back.manifest.length) edits_are
      ∙ ap (λ (m : ManifestLog). item_frame (edits_grammar manifest_format) m.number m.length (edits_of l h v)) held.back_is.manifest
      ∙ ap (λ (n : ℕ). item_frame (edits_grammar manifest_format) b.manifest.number n (edits_of l h v)) held.holds.base.has.length_is

  told_mid : g.told writes.mid ≡ Some held.state
  told_mid = writes.before.told ∙ held.told_is

  -- what is written is the layout's change
  as_laid_out : (now : DiskState) → WhileKeeping before staged held.state now
      → WhileSwitching b.manifest.number (switch_frame b (edits_of l h v)) held.state now
  as_laid_out now during =
      subst (λ (frame : List ℕ). WhileSwitching b.manifest.number frame held.state now) frame_is
      (subst (λ (n : ℕ). WhileSwitching n staged.frame.items held.state now) manifest_is during)

  leaves_writing : (now : DiskState) → WhileKeeping before staged held.state now → LeavesBetween h h now
  leaves_writing now during image left = between_itself h image
      (keep_leaves b l h v held.state held.is_base tidy held.holds can now (as_laid_out now during) image left)

  -- What a crash leaves meanwhile shows the history,
  goes_so : CrashesShow g old new h h
  goes_so =
      goes_by g (LeavesBetween h h) old writes.mid new held.state (WhileKeeping before staged) told_mid
      (looked g watched h l tidy before.back old writes.mid ⊥ writes.before held) writes.time leaves_writing

  -- and a store may be opened on the disk.
  now_may_open : (now : DiskState) → g.told new ≡ Some now → MayOpen now
  now_may_open now told = ⊎_elim
      (λ (early : g.states_since writes.mid (g.moment writes.mid) now).
      subst MayOpen (sym (watched.only_now writes.mid held.state now told_mid early))
      (held_opens_again b l h held.is_base held.state tidy.levels held.holds))
      (λ (during : While (g.told writes.mid) (WhileKeeping before staged) now).
      keep_opens_again b l h v held.state held.is_base tidy held.holds can now (as_laid_out now (during held.state told_mid)))
      (writes.time.nothing_else (g.moment writes.mid) now (omega arith)
      (watched.counts_now new now (g.moment writes.mid) told writes.time.later))

  pub carries_unkept : (name : Name) (effects : Effects) → StandsFor bytes after h (halted_at (file_of name) l)
      → Carries g bytes old new after h l (keep_made l h v) (as_before l l) (Failed (file_of name)) effects
  carries_unkept name effects stands = record {
    decides = decides_failed (Represents bytes after (g.told new)) h l (keep_made l h v) l (file_of name) effects running
        (represents_halted bytes after (g.told new) h l name stands);
    called = λ a said. absurd cc;
    through = λ _. goes_so;
    again = λ _. let (now, told) = writes.tells held.state told_mid in (now, told, now_may_open now told);
  }

  final_is : keep_written before staged held.state ≡ final b l h v held.state held.is_base tidy held.holds can
  final_is =
      ap (λ (n : ℕ). switched n staged.frame.items held.state) manifest_is
      ∙ ap (λ (frame : List ℕ). switched b.manifest.number frame held.state) frame_is

  module _ (changed : IsChangedBy (keep_written before staged) (g.told writes.mid) (g.told new))
      (back : IsNextBack before after.back v staged) where
    told_then : g.told new ≡ Some (final b l h v held.state held.is_base tidy held.holds can)
    told_then = changed ∙ ap (option_map (keep_written before staged)) told_mid ∙ ap Some final_is

    long_then : after.back.manifest.length ≡ b.manifest.length + length (switch_frame b (edits_of l h v))
    long_then =
        let fits = of.fits in
        let sum : min (before.back.manifest.length + length staged.frame.items) (2 ^ 64 - 1)
        ≡ before.back.manifest.length + length staged.frame.items = omega (arith, fits) in
        back.longer ∙ sum
        ∙ ap (λ (m : ManifestLog). m.length + length staged.frame.items) held.back_is.manifest
        ∙ ap (λ (frame : List ℕ). b.manifest.length + length frame) frame_is

    state_then : after.back.state ≡ record (kept_state b.state v (keeping v h l).since) { next_table = l.next_table }
    state_then = back.state
        ∙ ap (λ (n : ℕ). kept_state before.back.state v n) (since_is before before h l v staged is.stands.fronts)
        ∙ ap (λ (s : ManifestState). kept_state s v (keeping v h l).since) held.back_is.state

    held_then : IsHeld after.back (g.told new) h (keeping v h l)
    held_then = record {
      state = final b l h v held.state held.is_base tidy held.holds can;
      told_is = told_then;
      base = later b l h v held.state held.is_base tidy held.holds can;
      is_base = base_then b l h v held.state held.is_base tidy held.holds can;
      back_is = record {
        manifest = same_log after.back.manifest (later b l h v held.state held.is_base tidy held.holds can).manifest
            (back.number ∙ manifest_is) long_then;
        state = state_then;
        next_log = back.next_log ∙ held.back_is.next_log;
        next_table = held.back_is.next_table;
        waiting = subst (λ (ws : List Waiting). AreWaiting l.covered ws (newest_first l.frozen)) (sym back.waiting)
            held.back_is.waiting;
      };
      holds = keep_holds b l h v held.state held.is_base tidy held.holds can;
      begun = begun_kept (names.Manifest b.manifest.number) held.state (final b l h v held.state held.is_base tidy held.holds can)
          (written_elsewhere (names.Manifest b.manifest.number) (switch_frame b (edits_of l h v)) held.state)
          (λ n. table_manifest n b.manifest.number) b.state.next_table l.next_table held.begun;
    }

    pub carries_kept : g.calls new ≡ after_calls 2 (g.calls writes.mid) → StandsFor bytes after h (keeping v h l)
        → Carries g bytes old new after h l (keep_made l h v) (as_before l l) (Answered Kept) (record { calls = 2; gone = [] })
    carries_kept calls stands = record {
      decides = decides_answered (Represents bytes after (g.told new)) h l (keep_made l h v) (as_before l l)
          Kept (record { calls = 2; gone = [] }) refl refl (record { stands = stands; held = λ _. held_then });
      called = λ a said. calls ∙ ap (after_calls 2) writes.before.calls;
      through = λ _. goes_so;
      again = λ _. (
        final b l h v held.state held.is_base tidy held.holds can,
        told_then,
        now_may_open (final b l h v held.state held.is_base tidy held.holds can) told_then,
      );
    }

  -- ---- what numbers a crash leaves

  holds_manifest : HoldsManifest b.state held.state
  holds_manifest = manifest_held b l h held.is_base held.state held.holds.base

  -- what is left says the one state or the other
  says_either : (now : DiskState) → WhileSwitching b.manifest.number (switch_frame b (edits_of l h v)) held.state now → (image : Image)
      (o : Opening) → IsLeft now image → Opens image (Ok o) → (o.state ≡ b.state) ⊎ (o.state ≡ kept_state b.state v (keeping v h l).since)
  says_either now during image o left opens =
      let (bytes, current, either) = switching_says b (edits_of l h v) (kept_state b.state v (keeping v h l).since) b.before
      held.is_base.numbered can.frame held.state held.holds.base h l (keeping v h l) held.is_base tidy held.holds.files
      (base_then b l h v held.state held.is_base tidy held.holds can)
      (tidy_then b l h v held.state held.is_base tidy held.holds can)
      (files_then b l h v held.state held.is_base tidy held.holds can) now during image left in
      either_state b.manifest.number bytes b.state (kept_state b.state v (keeping v h l).since) image o opens current either

  -- both of which give the same next numbers
  pub leaves_numbers : before.back.state.next_log ≤ before.back.next_log → (now : DiskState) → g.told new ≡ Some now
      → LeavesNumbers l.next_log l.next_table now
  leaves_numbers within now told image o left opens =
      let state = ap (λ (x : ManifestState). x.next_log) held.back_is.state in
      let next = held.back_is.next_log in
      let given = held.back_is.next_table in
      let last = last_held b.state.head b.before l.active held.state held.holds.files.logs in
      let low = last.from in
      let drawn = tidy.files.stocked.logs_drawn.0 in
      (omega (arith, which.0, state, within, next), omega (arith, which.1, given), omega (arith, which.2, low, drawn))
    where
      same : (s : ManifestState) → o.state ≡ s → (s.next_log ≡ b.state.next_log) × (s.next_table ≡ b.state.next_table)
          × (s.head ≡ b.state.head)
          → (o.state.next_log ≡ b.state.next_log) × (o.state.next_table ≡ b.state.next_table) × (o.state.head ≡ b.state.head)
      same s is (log, table, head) = (
        ap (λ (x : ManifestState). x.next_log) is ∙ log,
        ap (λ (x : ManifestState). x.next_table) is ∙ table,
        ap (λ (x : ManifestState). x.head) is ∙ head,
      )

      which : (o.state.next_log ≡ b.state.next_log) × (o.state.next_table ≡ b.state.next_table) × (o.state.head ≡ b.state.head)
      which = ⊎_elim
          (λ (early : g.states_since writes.mid (g.moment writes.mid) now).
          same b.state (held_state b.state now
          (subst (HoldsManifest b.state) (sym (watched.only_now writes.mid held.state now told_mid early))
          holds_manifest) image o left.left opens)
          (refl, refl, refl))
          (λ (during : While (g.told writes.mid) (WhileKeeping before staged) now).
          ⊎_elim
          (λ (first : o.state ≡ b.state). same b.state first (refl, refl, refl))
          (λ (then : o.state ≡ kept_state b.state v (keeping v h l).since).
          same (kept_state b.state v (keeping v h l).since) then (refl, refl, refl))
          (says_either now (as_laid_out now (during held.state told_mid)) image o left opens))
          (writes.time.nothing_else (g.moment writes.mid) now (omega arith)
          (watched.counts_now new now (g.moment writes.mid) told writes.time.later))
