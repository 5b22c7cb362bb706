-- What steps on files ask, behind each call.
use Rattle.std.specs.Prelude.{◌≡◌, ℕ, ◌+◌, ◌++◌, max, Bool, true, false, List, [], ◌∷◌, drop, length, Option, None}
use Rattle.std.specs.Prelude.{Some, IsSome, unwrap_or, refl}
use Rattle.std.specs.FinMap.{entries, from_sorted, get}
use Rattle.std.specs.List.{AllByRecursion}
use Rattle.std.specs.Option.{option_map}
use Rattle.std.proofs.Common.{sym, ap, subst, ◌∙◌, append-nil, length-append, arith}
use Rattle.std.proofs.lemmas.List.{take_all}
use Rattle.vl_back.specs.FlushEdits.{head_of, switch_of}
use Rattle.vl_back.specs.declared.back.Back.{Back}
use Rattle.vl_back.specs.declared.flush.StagedFlush.{StagedFlush}
use Rattle.vl_disk.specs.Changes.{changed_there}
use Rattle.vl_disk.specs.Disk.{Stands}
use Rattle.vl_disk.specs.DiskState.{DiskState, File, appended, file_at, lengthened, new_file, synced_file}
use Rattle.vl_disk.specs.MadeFile.{made}
use Rattle.vl_disk.specs.declared.name.Name.TheVariants as names
use Rattle.vl_disk.specs.declared.name.Name.{Name}
use Rattle.vl_disk.specs.declared.watched.Watched.{Ghosts}
use Rattle.vl_engine_laws.specs.Files.{IsLogFile}
use Rattle.vl_engine_laws.specs.FlushFacts.{IsTableMade, flush_written}
use Rattle.vl_engine_laws.specs.Pointed.{bytes_of_log}
use Rattle.vl_engine_laws.specs.Represents.{StandsFor}
use Rattle.vl_engine_laws.specs.RotateFacts.{HasBegun, IsSameBack, next_header, next_name}
use Rattle.vl_engine_laws.specs.MayStep.{Fits, HasNumbers, MayStep, covered_all}
use Rattle.vl_engine_laws.specs.declared.kept.Core.{Core}
use Rattle.vl_steps.specs.Staging.{next_frame}
use Rattle.vl_steps.specs.Steps.{IsWritten, frame_of, log_of}
use Rattle.vl_engine_laws.specs.Writing.{written}
use Rattle.vl_engine_laws.specs.laws.FileLaws.{all_more}
use Rattle.vl_engine_laws.specs.laws.KeptLaws.{log_manifest, log_table, written_elsewhere}
use Rattle.vl_engine_laws.specs.laws.RotateWaiting.{covered_more, waits_behind}
use Rattle.vl_engine_laws.specs.laws.WaitingLaws.{waits_first}
use Rattle.vl_frame.specs.Runs.{HasFrame}
use Rattle.vl_engine_model.specs.Ruling.{ended, halted_at, logged}
use Rattle.vl_engine_model.specs.Rulings.Commit.{commit_frame}
use Rattle.vl_engine_model.specs.Rulings.Flush.{covered_by, flushed}
use Rattle.vl_engine_model.specs.Rulings.Rotate.{rotated}
use Rattle.vl_engine_model.specs.Sources.{but_oldest, oldest}
use Rattle.vl_engine_model.specs.Start.{newest_first}
use Rattle.vl_engine_model.specs.declared.file_name.FileName.{FileName}
use Rattle.vl_engine_model.specs.declared.layout.Layout.{Layout}
use Rattle.vl_engine_model.specs.declared.live.Live.{Live}
use Rattle.vl_engine_model.specs.declared.segment.Segment.{Segment}
use Rattle.vl_manifest.specs.States.{all_applied, applied, are_next, as_draft, finish, flush_edits, given_if, is_head}
use Rattle.vl_manifest.specs.States.{next_state, then_applied}
use Rattle.vl_manifest.specs.declared.edit.Edit.TheVariants.{Add, Head, Next}
use Rattle.vl_manifest.specs.declared.state.ManifestState.{ManifestState}
use Rattle.vl_manifest.specs.declared.version_builder.VersionBuilder.{VersionBuilder}
use Rattle.vl_manifest.specs.declared.waiting.Waiting.{Waiting}
use Rattle.vl_model.specs.Formats.{log_format}
use Rattle.vl_model.specs.History.{History, last_number, with_commit}
use Rattle.vl_model.specs.Keys.{Writes}
use Rattle.vl_model.specs.declared.change.Change.{Change}
use Rattle.vl_model.specs.declared.log_frame.LogFrame.TheVariants.{Committed, Relocated}
use Rattle.vl_model.specs.declared.log_frame.LogFrame.{LogFrame}
use Rattle.vl_recover.specs.laws.crash.OneName.{made_elsewhere, made_there}
use Rattle.vl_recover.specs.laws.crash.TornFrames.{frame_behind}
use Rattle.vl_recover.specs.opening.HeldFiles.{AreWaiting}
use Rattle.vl_seglog.specs.Frames.{frame_at, frames_grammar, log_header}
use Rattle.vl_seglog.specs.laws.FrameLaws.{log_bytes-more}
use Rattle.vl_seglog.specs.laws.LogReadingLaws.{written_is_read}

-- ---- what stays

may_step_live : (told : Option DiskState) (back : Back) (h : History) (l : Layout) (live : List Live) → MayStep told back h l
    → MayStep told back h (record l { live = live })
may_step_live told back h l live is = record {
  numbers = record { next_log = is.numbers.next_log; next_table = is.numbers.next_table; waiting = is.numbers.waiting };
  files = is.files;
  covers = is.covers;
  state = is.state;
  told_is = is.told_is;
  active = is.active;
}

module _ {H : Type 0} (before after : Core H) (h : History) (l : Layout) (old new : Option DiskState) (same : new ≡ old) where
  -- Other things live,
  pub fits_live : after.back ≡ before.back → (live : List Live) → Fits old before h l → Fits new after h (record l { live = live })
  fits_live back live fits = record {
    running = λ running. subst (λ (b : Back). MayStep new b h (record l { live = live })) (sym back)
        (subst (λ (o : Option DiskState). MayStep o before.back h (record l { live = live })) (sym same)
        (may_step_live old before.back h l live (fits.running running)));
  }

  -- or nothing changed but memory.
  pub fits_same : IsSameBack before.back after.back → Fits old before h l → Fits new after h l
  fits_same back fits = record {
    running = λ running. let is = fits.running running in record {
      numbers = record {
        next_log = back.next_log ∙ is.numbers.next_log;
        next_table = ap (λ (s : ManifestState). s.next_table) back.state ∙ is.numbers.next_table;
        waiting = subst (λ (ws : List Waiting). AreWaiting l.covered ws (newest_first l.frozen)) (sym back.waiting) is.numbers.waiting;
      };
      files = is.files;
      covers = is.covers;
      state = is.state;
      told_is = same ∙ is.told_is;
      active = is.active;
    };
  }

  pub fits_back : after.back ≡ before.back → Fits old before h l → Fits new after h l
  fits_back back fits = record {
    running = λ running. subst (λ (b : Back). MayStep new b h l) (sym back)
        (subst (λ (o : Option DiskState). MayStep o before.back h l) (sym same) (fits.running running));
  }

-- Behind a halt nothing is said.
pub fits_halted : {H : Type 0} (told : Option DiskState) (after : Core H) (h : History) (l : Layout) (name : FileName)
    → Fits told after h (halted_at name l)
fits_halted told after h l name = record { running = λ running. absurd cc }

-- ---- a new log

-- its header alone
empty_bytes : (n : ℕ) → log_header log_format n ≡ log_header log_format n ++ []
empty_bytes n = sym (append-nil (log_header log_format n))

module _ {D H : Type 0} (g : Ghosts D) (bytes : H → Option (List ℕ)) (before after : Core H) (old new : D) (h : History) (l : Layout)
    (last : before.front.oracle.last ≡ last_number h) (number : before.front.log.number ≡ l.active.number)
    (may : MayStep (g.told old) before.back h l) where
  pub rotated_may : HasBegun g bytes old new before after → MayStep (g.told new) after.back h (rotated l)
  rotated_may did = record {
    numbers = record {
      next_log = did.back.next_log ∙ ap (λ (n : ℕ). n + 1) may.numbers.next_log;
      next_table = ap (λ (s : ManifestState). s.next_table) did.back.state ∙ may.numbers.next_table;
      waiting = subst (λ (ws : List Waiting). AreWaiting l.covered ws (newest_first (rotated l).frozen)) (sym did.back.waiting)
          (waits_behind l.covered before.back.waiting.items (newest_first l.frozen)
          (record { number = before.front.log.number; covered = before.front.oracle.last }) l.active may.numbers.waiting
          number (last ∙ sym may.covers));
    };
    files = (record { readable = written_is_read; have = tt }, may.files);
    covers = covered_more (newest_first l.frozen) l.active l.covered ∙ may.covers;
    state = state_then;
    told_is = did.changed ∙ ap (option_map (made (next_name before) (next_header before))) (did.begins.told ∙ may.told_is)
        ∙ ap (λ (n : ℕ). Some (made (names.Log n) (log_header log_format n) may.state)) may.numbers.next_log;
    active = ap (λ (o : Option File). (unwrap_or o new_file).bytes)
        (made_there (names.Log l.next_log) (log_header log_format l.next_log) may.state)
        ∙ empty_bytes l.next_log;
  }
    where
      state_then : DiskState
      state_then = made (names.Log l.next_log) (log_header log_format l.next_log) may.state

-- ---- a table

-- a flush's switch says which number the next table gets
some_next : (a b : ManifestState) → Some a ≡ Some b → b.next_table ≡ a.next_table
some_next a b e = let same : a ≡ b = cc in sym (ap (λ (s : ManifestState). s.next_table) same)

none_state : (t : ManifestState) → ◌≡◌ {A = Option ManifestState} None (Some t) → ⊥
none_state t e = cc

module _ (head covered log next : ℕ) (t : ManifestState) where
  by_next : (d : VersionBuilder) (b : Bool)
      → finish (then_applied (all_applied []) (given_if b (record d { head = Some (head, covered); next = Some (log, next) })))
      ≡ Some t → t.next_table ≡ next
  by_next d true is = some_next _ t is
  by_next d false is = absurd (none_state t is)

  by_head : (d : VersionBuilder) (b : Bool)
      → finish (then_applied (all_applied (Next log next ∷ [])) (given_if b (record d { head = Some (head, covered) })))
      ≡ Some t → t.next_table ≡ next
  by_head d true is = by_next d (are_next log next) is
  by_head d false is = absurd (none_state t is)

  by_add : (o : Option VersionBuilder)
      → finish (then_applied (all_applied (Head head covered ∷ Next log next ∷ [])) o) ≡ Some t → t.next_table ≡ next
  by_add None is = absurd (none_state t is)
  by_add (Some d) is = by_head d (is_head head covered) is

  next_says : (table : ℕ) (s : ManifestState) → next_state (flush_edits table head covered log next) s ≡ Some t
      → t.next_table ≡ next
  next_says table s is = by_add (applied (Add 0 0 table) (as_draft s)) is

switched_next : (back : Back) (active covered : ℕ) (s : Segment) (ss : List Segment) (t : ManifestState) (ws : List Waiting)
    → AreWaiting covered ws (s ∷ ss) → next_state (switch_of active ws back) back.state ≡ Some t
    → t.next_table ≡ back.state.next_table + 1
switched_next back active covered s ss t [] are is = absurd are
switched_next back active covered s ss t (w ∷ ws) are is =
    next_says (head_of active ws) w.covered back.next_log (back.state.next_table + 1) t back.state.next_table back.state is

-- the others wait on
waits_on : (covered : ℕ) (s : Segment) (ss : List Segment) (ws : List Waiting) → AreWaiting covered ws (s ∷ ss)
    → AreWaiting (covered_by s.frames covered) (drop 1 ws) ss
waits_on covered s ss [] are = absurd are
waits_on covered s ss (w ∷ ws) (number, covers, rest) = subst (λ (n : ℕ). AreWaiting n ws ss) covers rest

newer_files : (ss : List Segment) → AllByRecursion IsLogFile ss → AllByRecursion IsLogFile (but_oldest ss)
newer_files [] all = tt
newer_files (x ∷ []) all = tt
newer_files (x ∷ y ∷ ss) all = (all.0, newer_files (y ∷ ss) all.1)

module _ {D H : Type 0} (g : Ghosts D) (bytes : H → Option (List ℕ)) (before after : Core H) (old new : D) (h : History) (l : Layout)
    (may : MayStep (g.told old) before.back h l) (s : Segment) (first : oldest l.frozen ≡ Some s) where
  waits_so : AreWaiting l.covered before.back.waiting.items (s ∷ newest_first (but_oldest l.frozen))
  waits_so = subst (AreWaiting l.covered before.back.waiting.items) (waits_first l.frozen s first) may.numbers.waiting

  -- the active log is no table and no manifest
  beside : (staged : StagedFlush) → get (flush_written before staged may.state).standing (names.Log l.active.number)
      ≡ get may.state.standing (names.Log l.active.number)
  beside staged =
      let table = names.Table before.back.state.next_table in
      (written_elsewhere (names.Manifest before.back.manifest.number) staged.edits.frame.items
      (made table staged.table.bytes.items may.state)).standing (names.Log l.active.number)
      (log_manifest l.active.number before.back.manifest.number)
      ∙ (made_elsewhere table staged.table.bytes.items may.state).standing (names.Log l.active.number)
      (log_table l.active.number before.back.state.next_table)

  pub flushed_may : IsTableMade g bytes old new before after → MayStep (g.told new) after.back h (flushed l s)
  flushed_may did = record {
    numbers = record {
      next_log = did.back.next_log ∙ may.numbers.next_log;
      next_table = ap (λ (x : ManifestState). x.next_table) did.back.state
          ∙ switched_next before.back before.front.log.number l.covered s (newest_first (but_oldest l.frozen)) did.staged.state
          before.back.waiting.items waits_so did.of.is.says
          ∙ ap (λ (n : ℕ). n + 1) may.numbers.next_table;
      waiting = subst (λ (ws : List Waiting). AreWaiting (flushed l s).covered ws (newest_first (flushed l s).frozen))
          (sym did.back.waiting) (waits_on l.covered s (newest_first (but_oldest l.frozen)) before.back.waiting.items waits_so);
    };
    files = (may.files.0, newer_files l.frozen may.files.1);
    covers = ap (λ (ss : List Segment). covered_by l.active.frames (covered_all ss l.covered)) (sym (waits_first l.frozen s first))
        ∙ may.covers;
    state = flush_written before did.staged may.state;
    told_is = did.changed ∙ ap (option_map (flush_written before did.staged)) (did.writes.before.told ∙ may.told_is);
    active = ap (λ (o : Option File). (unwrap_or o new_file).bytes) (beside did.staged) ∙ may.active;
  }

-- ---- a commit

-- the frame is behind what the file had
file_longer : (name : Name) (frame : List ℕ) (disk : DiskState) → Stands name disk
    → (file_at (written name frame disk) name).bytes ≡ (file_at disk name).bytes ++ frame
file_longer name frame disk stands = by (get disk.standing name) refl stands
  where
    by : (o : Option File) → get disk.standing name ≡ o → IsSome o
        → (file_at (written name frame disk) name).bytes ≡ (file_at disk name).bytes ++ frame
    by None is some = absurd cc
    by (Some file) is some =
        ap (λ (o : Option File). (unwrap_or o new_file).bytes)
        (changed_there name (appended name frame (length frame) disk) synced_file
        ∙ ap (option_map synced_file) (changed_there name disk (lengthened frame (length frame))
        ∙ ap (option_map (lengthened frame (length frame))) is))
        ∙ ap (λ (bs : List ℕ). file.bytes ++ bs) (take_all (length frame) frame (omega arith))
        ∙ ap (λ (o : Option File). (unwrap_or o new_file).bytes ++ frame) (sym is)

covered_more_by : (fs : List LogFrame) (number : ℕ) (writes : List (List ℕ × Change)) (covered : ℕ)
    → covered_by (fs ++ Committed number writes ∷ []) covered ≡ max (covered_by fs covered) number
covered_more_by [] number writes covered = refl
covered_more_by (Committed n some ∷ fs) number writes covered = covered_more_by fs number writes (max covered n)
covered_more_by (Relocated records ∷ fs) number writes covered = covered_more_by fs number writes covered

one_more : (h : History) (writes : Writes) → max (last_number h) (last_number h + 1) ≡ last_number (with_commit h writes)
one_more h writes = omega (arith, length-append h.commits (writes ∷ []))

module _ {D H : Type 0} (g : Ghosts D) (bytes : H → Option (List ℕ)) (before after : Core H) (old new : D) (h : History) (l : Layout)
    (ticket : ℕ) (writes : Writes) (is : StandsFor bytes before h l) (may : MayStep (g.told old) before.back h l)
    (back : after.back ≡ before.back) (stood : Stands (log_of before.front) may.state)
    (next_is : next_frame before.front writes ≡ commit_frame h (entries writes))
    (frame_is : frame_of before.front writes ≡ frame_at log_format l.active.number l.active.length (commit_frame h (entries writes)))
  where
    abbrev frame : LogFrame
    frame = commit_frame h (entries writes)

    abbrev then : Layout
    then = logged frame (ended ticket l)

    -- it stands where the log's frames end
    frame_here : frame_of before.front writes ≡ frame_behind l.active.format l.active.number l.active.frames frame
    frame_here = frame_is
        ∙ ap (λ (n : ℕ). frame_at n l.active.number l.active.length frame) (sym is.fronts.format)
        ∙ ap (λ (n : ℕ). frame_at l.active.format l.active.number n frame) is.tidy.true_logs.0

    pub written_may : IsWritten g old new before after ticket writes
        → MayStep (g.told new) after.back (with_commit h (from_sorted (entries writes))) then
    written_may did = record {
      numbers = subst (λ (b : Back). HasNumbers b then) (sym back)
          (record { next_log = may.numbers.next_log; next_table = may.numbers.next_table; waiting = may.numbers.waiting });
      files = (
        record {
          readable = may.files.0.readable;
          have = all_more (HasFrame (frames_grammar l.active.format)) l.active.frames (frame ∷ []) may.files.0.have (
            subst (λ (n : ℕ). HasFrame (frames_grammar n) frame) (sym is.fronts.format)
                (subst (λ (f : LogFrame). HasFrame (frames_grammar log_format) f) next_is did.hands.has),
            tt,
          );
        },
        may.files.1,
      );
      covers = covered_more_by l.active.frames (last_number h + 1) (entries writes) (covered_all (newest_first l.frozen) l.covered)
          ∙ ap (λ (n : ℕ). max n (last_number h + 1)) may.covers ∙ one_more h (from_sorted (entries writes));
      state = written (log_of before.front) (frame_of before.front writes) may.state;
      told_is = did.changed ∙ ap (option_map (written (log_of before.front) (frame_of before.front writes)))
          (did.hands.before.told ∙ may.told_is);
      active = ap (λ (n : ℕ). (file_at (written (log_of before.front) (frame_of before.front writes) may.state) (names.Log n)).bytes)
          (sym is.fronts.number)
          ∙ file_longer (log_of before.front) (frame_of before.front writes) may.state stood
          ∙ ap (λ (n : ℕ). (file_at may.state (names.Log n)).bytes ++ frame_of before.front writes) is.fronts.number
          ∙ ap (λ (bs : List ℕ). bs ++ frame_of before.front writes) may.active
          ∙ ap (λ (bs : List ℕ). bytes_of_log l.active ++ bs) frame_here
          ∙ sym (log_bytes-more l.active.format l.active.number l.active.frames frame);
    }
