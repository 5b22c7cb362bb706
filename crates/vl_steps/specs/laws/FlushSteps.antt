-- What a flush leaves in memory and on the disk, where its table is made and where that fails.
use Rattle.std.specs.Prelude.{◌≡◌, ◌≤◌, ◌^◌, ℕ, ◌+◌, ◌-◌, ◌⊎◌, ◌∷◌, List, [], length, map, min, Option, None, Some, Ok, refl}
use Rattle.std.specs.List.{AllByRecursion}
use Rattle.std.specs.Option.{option_map}
use Rattle.std.proofs.Common.{sym, ap, subst, ◌∙◌, arith, inl, ⊎_elim}
use Rattle.vl_back.specs.FlushEdits.{flush_switch}
use Rattle.vl_back.specs.Tables as staged
use Rattle.vl_back.specs.Writing.{WhileWriting, written}
use Rattle.vl_back.specs.declared.back.Back.{Back}
use Rattle.vl_back.specs.declared.flush.StagedFlush.{StagedFlush}
use Rattle.vl_table.specs.body.Bytes.{IsTable}
use Rattle.vl_disk.specs.Disk.{IsChangedBy}
use Rattle.vl_disk.specs.Crash.{Image}
use Rattle.vl_disk.specs.DiskState.{DiskState}
use Rattle.vl_disk.specs.Faults.{after_calls}
use Rattle.vl_disk.specs.MadeFile.{WhileMaking}
use Rattle.vl_disk.specs.Moments.{While, goes_by}
use Rattle.vl_disk.specs.Name.{IsNumbered}
use Rattle.vl_disk.specs.declared.name.Name.TheVariants as names
use Rattle.vl_disk.specs.declared.name.Name.{Name}
use Rattle.vl_disk.specs.declared.watched.Watched.{Ghosts}
use Rattle.vl_engine_laws.specs.laws.Carrying.{IsWatched, looked}
use Rattle.vl_steps.specs.laws.Committing.{decides_answered, decides_failed}
use Rattle.vl_engine_laws.specs.laws.FlushKeeps.{KeepsAsMany}
use Rattle.vl_steps.specs.laws.Leaving.{base_numbers, either_state, first_drawn, making_elsewhere, manifest_held}
use Rattle.vl_engine_laws.specs.laws.Represented.{represents_halted}
use Rattle.vl_engine_laws.specs.laws.Standing.{stands_halted}
use Rattle.vl_engine_laws.specs.Carries.{Carries, CrashesShow}
use Rattle.vl_engine_laws.specs.Files.{IsLogFile}
use Rattle.vl_engine_laws.specs.FlushFacts.{IsNextBack, IsNextVersion, IsStagedOf, IsTableHeld, WhileFlushed, WritesFlush, flush_written}
use Rattle.vl_engine_laws.specs.Held.{Base}
use Rattle.vl_engine_laws.specs.Pointed.{layout_logs}
use Rattle.vl_engine_laws.specs.Represents.{Fronts, IsBack, IsFront, IsHeld, Represents, StandsFor, file_of}
use Rattle.vl_engine_laws.specs.Shown.{LeavesBetween}
use Rattle.vl_engine_laws.specs.MayStep.{AreLogFiles, HasNumbers, LeavesNumbers}
use Rattle.vl_engine_laws.specs.declared.kept.Core.{Core}
use Rattle.vl_engine_laws.specs.laws.FlushBase.{before_then}
use Rattle.vl_engine_laws.specs.laws.FlushLaws.{CanFlush, WhileFlushing, base_beside, base_mid, base_then, bytes_of}
use Rattle.vl_engine_laws.specs.laws.FlushLaws.{edits_of, files_mid, files_then, final, flush_either, flush_holds}
use Rattle.vl_engine_laws.specs.laws.FlushLaws.{flush_leaves, later, memtables, mid, state_is, tidy_then}
use Rattle.vl_engine_laws.specs.laws.FlushRulings.{flush_made}
use Rattle.vl_engine_laws.specs.laws.FlushTidy.{flush_tidy, stays}
use Rattle.vl_engine_laws.specs.laws.HeldLaws.{held_opens_again}
use Rattle.vl_engine_laws.specs.laws.KeptLaws.{none_drawn}
use Rattle.vl_engine_laws.specs.laws.LaidFlush.{laid_flushed, made_table, oldest_entries}
use Rattle.vl_engine_laws.specs.laws.OpensAgain.{flush_opens_again}
use Rattle.vl_engine_laws.specs.laws.ShownLaws.{between_itself}
use Rattle.vl_engine_laws.specs.laws.SparedSteps.{spares_flushed}
use Rattle.vl_engine_laws.specs.laws.SwitchLaws.{switch_frame, switching_says}
use Rattle.vl_engine_laws.specs.laws.WaitingLaws.{waiting_dropped, waiting_edits}
use Rattle.vl_frame.specs.Runs.{HasFrame, item_frame}
use Rattle.vl_front.specs.declared.front.Front.{Front}
use Rattle.vl_engine_model.specs.Decides.{Answered, Effects, Failed, as_before}
use Rattle.vl_engine_model.specs.Logs.{memtable}
use Rattle.vl_engine_model.specs.Ruling.{Stepped, halted_at}
use Rattle.vl_engine_model.specs.Rulings.Flush.{flushed}
use Rattle.vl_engine_model.specs.Sources.{head, oldest}
use Rattle.vl_engine_model.specs.Start.{newest_first}
use Rattle.vl_engine_model.specs.Tidy.{IsTidy}
use Rattle.vl_engine_model.specs.TidyLevels.{AreLevels}
use Rattle.vl_engine_model.specs.declared.layout.Layout.{Layout}
use Rattle.vl_engine_model.specs.declared.segment.Segment.{Segment}
use Rattle.vl_engine_model.specs.declared.table.Table as laid
use Rattle.vl_manifest.specs.Grammar.{edits_grammar}
use Rattle.vl_manifest.specs.States.{next_state}
use Rattle.vl_manifest.specs.Switching.{WhileSwitching}
use Rattle.vl_manifest.specs.declared.edit.Edit.{Edit}
use Rattle.vl_manifest.specs.declared.manifest_log.ManifestLog.{ManifestLog}
use Rattle.vl_manifest.specs.declared.state.ManifestState.{ManifestState}
use Rattle.vl_manifest.specs.declared.waiting.Waiting.{Waiting}
use Rattle.vl_model.specs.Formats.{manifest_format, table_format}
use Rattle.vl_model.specs.History.{History}
use Rattle.vl_model.specs.Placement.{placed}
use Rattle.vl_model.specs.declared.entry.Entry.{Entry}
use Rattle.vl_recover.specs.crash.Alike.{IsLeft}
use Rattle.vl_recover.specs.crash.Held.{HoldsManifest}
use Rattle.vl_recover.specs.crash.Starts.{MayOpen}
use Rattle.vl_recover.specs.laws.opening.HeldLaws.{held_state}
use Rattle.vl_recover.specs.opening.HeldFiles.{AreWaiting}
use Rattle.vl_recover.specs.opening.Opening.{Opening, Opens}
use Rattle.vl_table.specs.declared.table.Table.{Table}

-- ---- numbers

-- what is kept for steps counts as the layout does
pub numbers_held : (back : Back) (b : Base) (l : Layout) → IsBack back b l → HasNumbers back l
numbers_held back b l is = record {
  next_log = is.next_log;
  next_table = ap (λ (s : ManifestState). s.next_table) is.state;
  waiting = is.waiting;
}

-- ---- in memory

-- the levels begin with level 0
record HasFirstLevel (levels : List (List laid.Table)) : Type 0 where
  level : List laid.Table
  deeper : List (List laid.Table)
  are : levels ≡ level ∷ deeper

first_level : (levels : List (List laid.Table)) → AreLevels levels → HasFirstLevel levels
first_level [] are = absurd (let seven = are.seven in omega (arith, seven))
first_level (level ∷ deeper) are = record { level = level; deeper = deeper; are = refl }

oldest_file : (ss : List Segment) (s : Segment) → AllByRecursion IsLogFile ss → oldest ss ≡ Some s → IsLogFile s
oldest_file [] s all is = absurd cc
oldest_file (x ∷ []) s all is = subst IsLogFile (one x s is) all.0
  where
    one : (a b : Segment) → Some a ≡ Some b → a ≡ b
    one a b e = cc
oldest_file (x ∷ y ∷ ss) s all is = oldest_file (y ∷ ss) s all.1 is

module _ {H : Type 0} (before after : Core H) (h : History) (l : Layout) where
  -- behind a flush,
  pub fronts_flushed : (s : Segment) → after.front ≡ before.front
      → after.back.epoch ≡ before.back.epoch + 1 → KeepsAsMany before.back.state after.back.state
      → Fronts before h l → Fronts after h (flushed l s)
  fronts_flushed s front version same is = record {
    front = subst (λ (f : Front). IsFront f.oracle f.recent.named h (flushed l s)) (sym front) (record {
      last = is.front.last;
      live_are = is.front.live_are;
      lived = record { rising = is.front.lived.rising; known = is.front.lived.known; few = is.front.lived.few };
      readable = is.front.readable;
      remembers = is.front.remembers;
    });
    number = ap (λ (f : Front). f.log.number) front ∙ is.number;
    length_is = ap (λ (f : Front). f.log.length) front ∙ is.length_is;
    format = is.format;
    room = ap (λ (f : Front). f.room) front ∙ is.room;
    roomy = is.roomy;
    halted = ap (λ (f : Front). option_map file_of f.halted) front ∙ is.halted;
    version = version ∙ ap (λ (n : ℕ). n + 1) is.version;
    keep = same.keep ∙ is.keep;
    since = same.since ∙ is.since;
  }

  -- and where it failed
  pub fronts_unflushed : (name : Name) → after.front ≡ record before.front { halted = Some name }
      → after.back.epoch ≡ before.back.epoch → KeepsAsMany before.back.state after.back.state
      → Fronts before h l → Fronts after h (halted_at (file_of name) l)
  fronts_unflushed name front version same is = record {
    front = subst (λ (f : Front). IsFront f.oracle f.recent.named h (halted_at (file_of name) l)) (sym front) (record {
      last = is.front.last;
      live_are = is.front.live_are;
      lived = record { rising = is.front.lived.rising; known = is.front.lived.known; few = is.front.lived.few };
      readable = is.front.readable;
      remembers = is.front.remembers;
    });
    number = ap (λ (f : Front). f.log.number) front ∙ is.number;
    length_is = ap (λ (f : Front). f.log.length) front ∙ is.length_is;
    format = is.format;
    room = ap (λ (f : Front). f.room) front ∙ is.room;
    roomy = is.roomy;
    halted = ap (λ (f : Front). option_map file_of f.halted) front;
    version = version ∙ is.version;
    keep = same.keep ∙ is.keep;
    since = same.since ∙ is.since;
  }

module _ {H : Type 0} (bytes : H → Option (List ℕ)) (before after : Core H) (h : History) (l : Layout)
    (is : StandsFor bytes before h l) where
  pub stands_unflushed : (name : Name) → after.version ≡ before.version → Fronts after h (halted_at (file_of name) l)
      → StandsFor bytes after h (halted_at (file_of name) l)
  stands_unflushed name version fronts = stands_halted bytes before after h l is version name fronts

  module _ (s : Segment) (first : oldest l.frozen ≡ Some s) (flush : StagedFlush) (of : IsStagedOf before flush)
      (next_table : before.back.state.next_table ≡ l.next_table) where
    -- what is flushed has the layout's entries,
    entries_are : of.log.memtable.entries ≡ memtable s
    entries_are = oldest_entries bytes before.version l s of.log is.has of.oldest first

    -- and the table that was staged is the layout's
    pub spelled : staged.IsTableOf l.next_table (map placed (memtable s)) flush.table
    spelled = subst (λ (es : List Entry). staged.IsTableOf l.next_table (map placed es) flush.table) entries_are
        (subst (λ (n : ℕ). staged.IsTableOf n (map placed of.log.memtable.entries) flush.table) next_table of.is.table)

    levels : HasFirstLevel l.levels
    levels = first_level l.levels is.tidy.levels

    module _ (files : AreLogFiles l) (told : Option DiskState) (state : DiskState) (told_is : told ≡ Some state)
        (table : Table H) (held : IsTableHeld bytes told flush table)
        (next : IsNextVersion bytes before.front.log.number before.version after.version table) where
      file : IsLogFile s
      file = oldest_file l.frozen s files.1 first

      tidy_now : IsTidy (layout_logs (flushed l s)) (flushed l s) h
      tidy_now = flush_tidy l h s is.tidy first levels.level levels.deeper levels.are files file

      pub stands_flushed : Fronts after h (flushed l s) → StandsFor bytes after h (flushed l s)
      stands_flushed fronts = record {
        fronts = fronts;
        has = laid_flushed bytes before.version after.version l s is.has levels.level levels.deeper levels.are
            (stays l h s is.tidy first levels.level levels.deeper levels.are files file) before.front.log.number is.fronts.number table
            next (made_table bytes told state flush table l s told_is held spelled) tidy_now.true_tables
            tidy_now.files.stocked.falling;
        tidy = tidy_now;
        spared = spares_flushed l h s first levels.level levels.deeper levels.are is.spared;
      }

-- ---- on the disk

pub same_log : (a b : ManifestLog) → a.number ≡ b.number → a.length ≡ b.length → a ≡ b
same_log a b number long = ap (λ (n : ℕ). record a { number = n }) number ∙ ap (λ (n : ℕ). record b { length = n }) long

module _ {D H : Type 0} (g : Ghosts D) (watched : IsWatched g) (bytes : H → Option (List ℕ)) (before after : Core H)
    (h : History) (l : Layout) (old new : D) (is : Represents bytes before (g.told old) h l) (running : l.halted ≡ None)
    (s : Segment) (first : oldest l.frozen ≡ Some s) (flush : StagedFlush) (of : IsStagedOf before flush)
    (writes : WritesFlush g before flush old new) where
  held : IsHeld before.back (g.told old) h l
  held = is.held running

  abbrev b : Base
  b = held.base

  abbrev tidy : IsTidy (layout_logs l) l h
  tidy = is.stands.tidy

  table_is : before.back.state.next_table ≡ l.next_table
  table_is = ap (λ (x : ManifestState). x.next_table) held.back_is.state

  manifest_is : before.back.manifest.number ≡ b.manifest.number
  manifest_is = ap (λ (x : ManifestLog). x.number) held.back_is.manifest

  spelled_table : staged.IsTableOf l.next_table (map placed (memtable s)) flush.table
  spelled_table = spelled bytes before before h l is.stands s first flush of table_is

  edits_are : flush_switch before.front.log.number before.back ≡ edits_of l s
  edits_are = ap (λ (n : ℕ). flush_switch n before.back) is.stands.fronts.number
      ∙ waiting_edits before.back b l s held.back_is first

  table_fits : IsTable table_format l.next_table (map placed (memtable s))
  table_fits = subst (λ (f : ℕ). IsTable f l.next_table (map placed (memtable s))) spelled_table.format spelled_table.shape.table

  makes : next_state (edits_of l s) b.state ≡ Some flush.state
  makes = sym (flush_either b.state l.next_table (head (flushed l s)) (flushed l s).covered l.next_log (l.next_table + 1) l.next_table)
      ∙ ap (next_state (edits_of l s)) (sym held.back_is.state)
      ∙ ap (λ (es : List Edit). next_state es before.back.state) (sym edits_are) ∙ of.is.says

  -- what was staged is what is asked of a flush
  abbrev can : CanFlush b l s
  can = record {
    waits = first;
    level = (levels bytes before before h l is.stands s first flush of table_is).level;
    deeper = (levels bytes before before h l is.stands s first flush of table_is).deeper;
    are = (levels bytes before before h l is.stands s first flush of table_is).are;
    table = table_fits;
    frame = subst (HasFrame (edits_grammar manifest_format)) edits_are of.is.frame.has;
    state = flush.state;
    makes = makes;
  }

  frame_is : flush.edits.frame.items ≡ switch_frame b (edits_of l s)
  frame_is = of.is.frame.frame
      ∙ ap (item_frame (edits_grammar manifest_format) before.back.manifest.number before.back.manifest.length) edits_are
      ∙ ap (λ (m : ManifestLog). item_frame (edits_grammar manifest_format) m.number m.length (edits_of l s)) held.back_is.manifest
      ∙ ap (λ (n : ℕ). item_frame (edits_grammar manifest_format) b.manifest.number n (edits_of l s)) held.holds.base.has.length_is

  numbered : IsNumbered (names.Table l.next_table)
  numbered = subst (λ (n : ℕ). IsNumbered (names.Table n)) table_is of.numbered

  told_mid : g.told writes.mid ≡ Some held.state
  told_mid = writes.before.told ∙ held.told_is

  -- what is written is the layout's flush
  as_laid_out : (now : DiskState) → WhileFlushed before flush held.state now
      → WhileFlushing b l h s held.state held.is_base tidy held.holds can now
  as_laid_out now during =
      subst (λ (frame : List ℕ). WhileWriting l.next_table (bytes_of l s) b.manifest.number frame held.state now) frame_is
      (subst (λ (n : ℕ). WhileWriting l.next_table (bytes_of l s) n flush.edits.frame.items held.state now) manifest_is
      (subst (λ (bs : List ℕ). WhileWriting l.next_table bs before.back.manifest.number flush.edits.frame.items held.state now)
      spelled_table.bytes
      (subst (λ (n : ℕ). WhileWriting n flush.table.bytes.items before.back.manifest.number flush.edits.frame.items held.state now)
      table_is during)))

  leaves_writing : (now : DiskState) → WhileFlushed before flush held.state now → LeavesBetween h h now
  leaves_writing now during image left = between_itself h image
      (flush_leaves b l h s held.state held.is_base tidy held.holds can now (as_laid_out now during) image left)

  -- What a crash leaves meanwhile shows the history,
  goes_so : CrashesShow g old new h h
  goes_so =
      goes_by g (LeavesBetween h h) old writes.mid new held.state (WhileFlushed before flush) told_mid
      (looked g watched h l tidy before.back old writes.mid ⊥ writes.before held) writes.time leaves_writing

  -- and a store may be opened on the disk.
  now_may_open : (now : DiskState) → g.told new ≡ Some now → MayOpen now
  now_may_open now told = ⊎_elim
      (λ (early : g.states_since writes.mid (g.moment writes.mid) now).
      subst MayOpen (sym (watched.only_now writes.mid held.state now told_mid early))
      (held_opens_again b l h held.is_base held.state tidy.levels held.holds))
      (λ (during : While (g.told writes.mid) (WhileFlushed before flush) now).
      flush_opens_again b l h s held.state held.is_base tidy held.holds can numbered now
      (as_laid_out now (during held.state told_mid)))
      (writes.time.nothing_else (g.moment writes.mid) now (omega arith)
      (watched.counts_now new now (g.moment writes.mid) told writes.time.later))

  pub carries_unflushed : (name : Name) (effects : Effects) → StandsFor bytes after h (halted_at (file_of name) l)
      → Carries g bytes old new after h l (flush_made l h s) (as_before l l) (Failed (file_of name)) effects
  carries_unflushed name effects stands = record {
    decides = decides_failed (Represents bytes after (g.told new)) h l (flush_made l h s) l (file_of name) effects running
        (represents_halted bytes after (g.told new) h l name stands);
    called = λ a said. absurd cc;
    through = λ _. goes_so;
    again = λ _. let (now, told) = writes.tells held.state told_mid in (now, told, now_may_open now told);
  }

  final_is : flush_written before flush held.state ≡ final b l h s held.state held.is_base tidy held.holds can
  final_is =
      ap (λ (n : ℕ). written n flush.table.bytes.items before.back.manifest.number flush.edits.frame.items held.state) table_is
      ∙ ap (λ (bs : List ℕ). written l.next_table bs before.back.manifest.number flush.edits.frame.items held.state)
      spelled_table.bytes
      ∙ ap (λ (n : ℕ). written l.next_table (bytes_of l s) n flush.edits.frame.items held.state) manifest_is
      ∙ ap (λ (frame : List ℕ). written l.next_table (bytes_of l s) b.manifest.number frame held.state) frame_is

  module _ (changed : IsChangedBy (flush_written before flush) (g.told writes.mid) (g.told new))
      (back : IsNextBack before.back after.back flush) where
    told_then : g.told new ≡ Some (final b l h s held.state held.is_base tidy held.holds can)
    told_then = changed ∙ ap (option_map (flush_written before flush)) told_mid ∙ ap Some final_is

    long_then : after.back.manifest.length ≡ b.manifest.length + length (switch_frame b (edits_of l s))
    long_then =
        let fits = of.is.frame.fits in
        let sum : min (before.back.manifest.length + length flush.edits.frame.items) (2 ^ 64 - 1)
        ≡ before.back.manifest.length + length flush.edits.frame.items = omega (arith, fits) in
        back.longer ∙ sum
        ∙ ap (λ (m : ManifestLog). m.length + length flush.edits.frame.items) held.back_is.manifest
        ∙ ap (λ (frame : List ℕ). b.manifest.length + length frame) frame_is

    next_then : flush.state.next_table ≡ l.next_table + 1
    next_then = ap (λ (x : ManifestState). x.next_table) (state_is b l h s held.state held.is_base tidy held.holds can)

    held_then : IsHeld after.back (g.told new) h (flushed l s)
    held_then = record {
      state = final b l h s held.state held.is_base tidy held.holds can;
      told_is = told_then;
      base = later b l h s held.state held.is_base tidy held.holds can;
      is_base = base_then b l h s held.state held.is_base tidy held.holds can;
      back_is = record {
        manifest = same_log after.back.manifest (later b l h s held.state held.is_base tidy held.holds can).manifest
            (back.number ∙ manifest_is) long_then;
        state = back.state ∙ ap (λ (n : ℕ). record flush.state { next_table = n }) next_then;
        next_log = back.next_log ∙ held.back_is.next_log;
        next_table = omega (arith, next_then);
        waiting = subst (λ (ws : List Waiting). AreWaiting (flushed l s).covered ws (newest_first (flushed l s).frozen))
            (sym back.waiting) (waiting_dropped before.back b l s held.back_is first);
      };
      holds = flush_holds b l h s held.state held.is_base tidy held.holds can numbered;
      begun = none_drawn flush.state.next_table (l.next_table + 1) (final b l h s held.state held.is_base tidy held.holds can)
          (omega (arith, next_then));
    }

    pub carries_flushed : g.calls new ≡ after_calls 5 (g.calls writes.mid) → StandsFor bytes after h (flushed l s)
        → Carries g bytes old new after h l (flush_made l h s) (as_before l l) (Answered (Stepped l.next_table))
        (record { calls = 5; gone = [] })
    carries_flushed calls stands = record {
      decides = decides_answered (Represents bytes after (g.told new)) h l (flush_made l h s) (as_before l l)
          (Stepped l.next_table) (record { calls = 5; gone = [] }) refl refl (record { stands = stands; held = λ _. held_then });
      called = λ a said. calls ∙ ap (after_calls 5) writes.before.calls;
      through = λ _. goes_so;
      again = λ _. (
        final b l h s held.state held.is_base tidy held.holds can,
        told_then,
        now_may_open (final b l h s held.state held.is_base tidy held.holds can) told_then,
      );
    }

  -- The logs of what is held can be spelled.
  pub files_held : AreLogFiles l
  files_held = memtables b l h s held.state held.is_base tidy held.holds can

  -- ---- what numbers a crash leaves

  holds_manifest : HoldsManifest b.state held.state
  holds_manifest = manifest_held b l h held.is_base held.state held.holds.base

  -- what is left is current, and says the one state or the other
  says_either : (now : DiskState) → WhileFlushing b l h s held.state held.is_base tidy held.holds can now → (image : Image) (o : Opening)
      → IsLeft now image → Opens image (Ok o) → (o.state ≡ b.state) ⊎ (o.state ≡ flush.state)
  says_either now during image o left opens = ⊎_elim
      (λ (table : WhileMaking (names.Table l.next_table) (bytes_of l s) held.state now).
      inl (held_state b.state now
      (manifest_held b l h held.is_base now (base_beside b l h s held.state held.is_base tidy held.holds can now
      (making_elsewhere (names.Table l.next_table) (bytes_of l s) held.state now table)))
      image o left.left opens))
      (λ (switching : WhileSwitching b.manifest.number (switch_frame b (edits_of l s))
      (mid b l h s held.state held.is_base tidy held.holds can) now).
      let (bytes, current, either) = switching_says b (edits_of l s) flush.state (before_then b.before) held.is_base.numbered can.frame
      (mid b l h s held.state held.is_base tidy held.holds can)
      (base_mid b l h s held.state held.is_base tidy held.holds can) h l (flushed l s) held.is_base tidy
      (files_mid b l h s held.state held.is_base tidy held.holds can)
      (base_then b l h s held.state held.is_base tidy held.holds can)
      (tidy_then b l h s held.state held.is_base tidy held.holds can)
      (files_then b l h s held.state held.is_base tidy held.holds can) now switching image left in
      either_state b.manifest.number bytes b.state flush.state image o opens current either)
      during

  -- neither of which gives a number above the next ones
  pub leaves_numbers : before.back.state.next_log ≤ before.back.next_log → (now : DiskState) → g.told new ≡ Some now
      → LeavesNumbers l.next_log (l.next_table + 1) now
  leaves_numbers within now told image o left opens = ⊎_elim
      (λ (first : o.state ≡ b.state).
      base_numbers before.back b l h held.is_base tidy held.state held.holds held.back_is within o first)
      (λ (then : o.state ≡ flush.state).
      let is = then ∙ state_is b l h s held.state held.is_base tidy held.holds can in
      let log = ap (λ (x : ManifestState). x.next_log) is in
      let table = ap (λ (x : ManifestState). x.next_table) is in
      let head = ap (λ (x : ManifestState). x.head) is in
      let first = first_drawn (flushed l s).active (flushed l s).frozen (flushed l s).next_log
      (tidy_then b l h s held.state held.is_base tidy held.holds can).files.stocked.logs_drawn in
      (omega (arith, log), omega (arith, table), omega (arith, head, first)))
      which
    where
      which : (o.state ≡ b.state) ⊎ (o.state ≡ flush.state)
      which = ⊎_elim
          (λ (early : g.states_since writes.mid (g.moment writes.mid) now).
          inl (held_state b.state now
          (subst (HoldsManifest b.state) (sym (watched.only_now writes.mid held.state now told_mid early))
          holds_manifest) image o left.left opens))
          (λ (during : While (g.told writes.mid) (WhileFlushed before flush) now).
          says_either now (as_laid_out now (during held.state told_mid)) image o left opens)
          (writes.time.nothing_else (g.moment writes.mid) now (omega arith)
          (watched.counts_now new now (g.moment writes.mid) told writes.time.later))
