-- A new log is begun behind the logs of a disk that holds a layout: what a crash leaves meanwhile, and what is held then. The
-- tables stay, and the logs that they lead into.
use Rattle.std.specs.Prelude.{◌≡◌, ◌≢◌, ◌≤◌, ◌<◌, ℕ, ◌+◌, ◌==◌, Bool, true, false, if◌then◌else◌, List, [], ◌∷◌, ◌++◌}
use Rattle.std.specs.Prelude.{length, map, All, Option, None, Some, refl}
use Rattle.std.specs.FinMap.{get}
use Rattle.std.specs.List.{AllByRecursion, filter}
use Rattle.std.proofs.Common.{sym, ap, subst, ◌∙◌, arith, ⊎_elim}
use Rattle.std.proofs.lemmas.Bool.{cases_lt, true≢false}
use Rattle.std.proofs.lemmas.Bool.Decides.{nat_tests}
use Rattle.std.proofs.lemmas.List.Elements.{All-cons, All-nil, filter-append}
use Rattle.vl_disk.specs.Crash.{Image, MayLeave, MayLeaveOne}
use Rattle.vl_disk.specs.DiskState.{DiskState, File, IsLawful, Piece, created, settled}
use Rattle.vl_disk.specs.MadeFile.{WhileMaking, durable, empty, in_part, made, not_there}
use Rattle.vl_disk.specs.Name.{IsNumbered}
use Rattle.vl_disk.specs.Started.{read_left}
use Rattle.vl_disk.specs.declared.name.Name.{Name}
use Rattle.vl_disk.specs.declared.name.Name.TheVariants.{Log, Table}
use Rattle.vl_disk.specs.laws.Lawful.{appended_lawful, created_lawful, made_lawful}
use Rattle.vl_disk.specs.laws.NameMap.{same_or_other}
use Rattle.vl_engine_laws.specs.Files.{found_levels}
use Rattle.vl_engine_laws.specs.Held.{Base, Holds, IsBase, frames_of, logs_from}
use Rattle.vl_engine_laws.specs.Pointed.{IsFramedAmong, layout_logs, segment_at}
use Rattle.vl_engine_laws.specs.Shown.{Shown}
use Rattle.vl_engine_laws.specs.Spared.{at_rest}
use Rattle.vl_engine_laws.specs.laws.FileLaws.{all_more, segment_all, segment_number}
use Rattle.vl_engine_laws.specs.laws.HeldLaws.{base_says, held_shown, led_stay, levels_left, sources_held, store_held, view}
use Rattle.vl_engine_laws.specs.laws.KeptLaws.{AreOtherLogs, base_kept, each_log_kept, manifests_beside_log, tables_beside_log, tables_kept}
use Rattle.vl_engine_laws.specs.laws.SegmentLaws.{not_among}
use Rattle.vl_engine_laws.specs.laws.ShownLaws.{shown_like}
use Rattle.vl_engine_laws.specs.laws.SparedSteps.{spares_rotated}
use Rattle.vl_frame.specs.Runs.{HasFrame}
use Rattle.vl_engine_model.specs.Logs.{new_segment}
use Rattle.vl_engine_model.specs.Rulings.Rotate.{rotated}
use Rattle.vl_engine_model.specs.Sources.{tables}
use Rattle.vl_engine_model.specs.Start.{has_frames, newest_first}
use Rattle.vl_engine_model.specs.Tidy.{IsTidy, log_numbers, sealed}
use Rattle.vl_engine_model.specs.declared.layout.Layout.{Layout}
use Rattle.vl_engine_model.specs.declared.segment.Segment.{Segment}
use Rattle.vl_manifest.specs.Current.{IsCurrent}
use Rattle.vl_manifest.specs.Manifest.{manifest_bytes}
use Rattle.vl_model.specs.Formats.{log_format}
use Rattle.vl_model.specs.History.{History, last_number}
use Rattle.vl_model.specs.Numbers as numbers
use Rattle.vl_model.specs.declared.log_frame.LogFrame.{LogFrame}
use Rattle.vl_recover.specs.crash.Alike.{IsLeft, OpensAsOf, OpensLike}
use Rattle.vl_recover.specs.crash.Held.{AllSettled, GoOn, HoldsLogs, HoldsManifest, IsNowhere, log_as_held}
use Rattle.vl_recover.specs.crash.Starts.{MayOpen}
use Rattle.vl_recover.specs.laws.crash.AlikeLaws.{LastIsWhole, SameBut, alike_some, log_same, one_more}
use Rattle.vl_recover.specs.laws.crash.AppendLaws.{HoldsLast, last_held}
use Rattle.vl_recover.specs.laws.crash.NewLogLaws.{making_may_open}
use Rattle.vl_recover.specs.laws.crash.OneName.{IsLeftOne, IsPart, Making, WasLeft, as_before, done, left_still}
use Rattle.vl_recover.specs.laws.crash.OneName.{made_elsewhere, made_there, making, may_miss, one_name, part_empty}
use Rattle.vl_recover.specs.laws.crash.OneName.{part_some, torn, waits}
use Rattle.vl_recover.specs.laws.crash.Torn.{ReadsFrames, header_reads, no_reading, part_loose, part_synced, torn_header}
use Rattle.vl_recover.specs.laws.opening.ContentLaws.{SameContent, none_each, same_each, walk_more}
use Rattle.vl_recover.specs.laws.opening.HeldLaws.{held_current, left_nowhere, left_settled}
use Rattle.vl_recover.specs.laws.opening.IdleLaws.{left_passed}
use Rattle.vl_recover.specs.laws.opening.LeadsLaws.{current_kept, led_like, log_added}
use Rattle.vl_recover.specs.laws.opening.OpeningLaws.{some_none, some_same}
use Rattle.vl_recover.specs.laws.opening.ReadImage.{read_image}
use Rattle.vl_recover.specs.laws.repairing.RepairingSteps.{manifest_log}
use Rattle.vl_recover.specs.laws.repairing.StageLaws.{ok_with}
use Rattle.vl_recover.specs.opening.Opening.{IsAmong, led_into}
use Rattle.vl_recover.specs.opening.Walk.{counted_whole, in_log, walked}
use Rattle.vl_seglog.specs.Frames.{frames_grammar, log_bytes, log_header}
use Rattle.vl_seglog.specs.LogReading.{IsLogFormat, LogReading, ReadsLog}
use Rattle.vl_seglog.specs.laws.LogReadingLaws.{one_log_reading, reads_written}

-- ---- logs that a disk holds

-- In whatever a crash leaves each of them ends with its frames.
pub held_whole : (least : ℕ) (logs : List Segment) (disk : DiskState) → HoldsLogs least logs disk → (image : Image)
    → MayLeave disk image → LastIsWhole least image
held_whole least [] disk none image may number bytes reading from stands reads alone =
    absurd (some_none bytes (sym stands ∙ left_nowhere disk image (Log number) (none number from) may))
held_whole least (s ∷ ss) disk (first, between, is_read, have, here, rest) image may number bytes reading from stands reads alone =
    ⊎_elim
    (λ (less : number < s.number). ⊎_elim
    (λ (none : get image (Log number) ≡ None). absurd (some_none bytes (sym stands ∙ none)))
    (λ (back : (format : ℕ) × IsLogFormat format × (get image (Log number) ≡ Some (log_bytes format number []))).
    is_whole number back.0 back.1 [] tt refl back.2)
    (left_passed disk image number (between number from less) may))
    (λ (above : s.number ≤ number). ⊎_elim
    (λ (more : s.number < number).
    held_whole (s.number + 1) ss disk rest image may number bytes reading (omega (arith, more)) stands reads alone)
    (λ (below : number ≤ s.number). is_whole s.number s.format is_read s.frames have (omega (arith, above, below))
    (left_settled disk image (Log s.number) (log_bytes s.format s.number s.frames) here may))
    (cases_lt s.number number))
    (cases_lt number s.number)
  where
    -- the log was left with these frames and nothing else
    is_whole : (n format : ℕ) → IsLogFormat format → (frames : List LogFrame)
        → AllByRecursion (HasFrame (frames_grammar format)) frames → n ≡ number
        → get image (Log n) ≡ Some (log_bytes format n frames) → reading.whole ≡ true
    is_whole n format is_read frames have at left =
        let there : bytes ≡ log_bytes format n frames =
        some_same bytes (log_bytes format n frames) (sym stands ∙ ap (λ (k : ℕ). get image (Log k)) (sym at) ∙ left) in
        let same : reading ≡ record { header = Some format; frames = frames; whole = true } =
        one_log_reading n (log_bytes format n frames) reading
        (record { header = Some format; frames = frames; whole = true })
        (subst (λ (b : List ℕ). ReadsLog n b reading) there
        (subst (λ (k : ℕ). ReadsLog k bytes reading) (sym at) reads))
        (reads_written format n is_read frames have) in
        ap (λ (r : LogReading). r.whole) same

-- A log without frames behind them adds no commit.
pub walk_begun : (k n number : ℕ) (logs : List Segment) → GoOn n logs number
    → GoOn n (logs ++ new_segment log_format k [] ∷ []) number
walk_begun k n number [] e = e
walk_begun k n number (s ∷ []) e =
    walk_more k n number s.number (log_as_held s).reading (log_as_held (new_segment log_format k [])).reading refl refl e
walk_begun k n number (s ∷ t ∷ logs) e =
    ok_with (λ m. walked m (map log_as_held (t ∷ logs)))
    (λ m. walked m (map log_as_held (t ∷ logs ++ new_segment log_format k [] ∷ []))) number number
    (λ m. walk_begun k m number (t ∷ logs)) (in_log s.number (counted_whole n (log_as_held s).reading)) e

-- the last of them is the newest
newest_last : (ss : List Segment) (s : Segment) → newest_first (ss ++ s ∷ []) ≡ s ∷ newest_first ss
newest_last [] s = refl
newest_last (t ∷ ss) s = ap (λ (rest : List Segment). rest ++ t ∷ []) (newest_last ss s)

-- ---- what is left of one name

settled_left : (piece : List ℕ) (removed : Option File) (left : Option (List ℕ))
    → MayLeaveOne (Some (settled piece)) removed left → left ≡ Some piece
settled_left piece removed None may = absurd (true≢false may)
settled_left piece removed (Some bytes) may = ap Some (may.whole refl)

standing_left : (name : Name) (disk : DiskState) (file : Option File) (left : Option (List ℕ)) → get disk.standing name ≡ file
    → IsLeftOne name (get disk.standing name) (get disk.removed name) left → IsLeftOne name file (get disk.removed name) left
standing_left name disk file left stands one =
    subst (λ (o : Option File). IsLeftOne name o (get disk.removed name) left) stands one

table_log : (m n : ℕ) → Table m ≡ Log n → ⊥
table_log m n e = cc

unfilled : (reading : LogReading) → SameContent reading no_reading → reading.frames ≡ []
unfilled reading (none_each none here) = none
unfilled reading (same_each header frames) = frames

-- ---- the next log

-- the base of a layout that was rotated: the log that was active is before the new one
abbrev pub rotated_base : Base → Layout → Base
rotated_base b l = record b { before = logs_from b l }

-- a log that is put in front isn't found under the numbers of the others
front_stays : (a : Segment) (ss : List Segment) (n : ℕ) → numbers.has a.number (log_numbers ss) ≡ false
    → IsFramedAmong ss n → IsFramedAmong (a ∷ ss) n
front_stays a ss n none is = record { log = is.log; at = by (a.number == n) refl; framed = is.framed }
  where
    by : (c : Bool) → (a.number == n) ≡ c → (if c then Some a else segment_at ss n) ≡ Some is.log
    by true same =
        let number : a.number ≡ n = grind (arith, nat_tests, same) in
        absurd (not_among a.number ss none is.log (ap (segment_at ss) number ∙ is.at))
    by false other = is.at

-- The base has it, where the log has frames.
pub rotate_base : (b : Base) (l : Layout) (h : History) → IsBase b l h → IsTidy (layout_logs l) l h → has_frames l.active ≡ true
    → IsBase (rotated_base b l) (rotated l) h
rotate_base b l h base tidy some = record {
  numbered = base.numbered;
  made = base.made;
  goes = walk_begun l.next_log b.state.covered (last_number h) (logs_from b l) base.goes;
  levels = base.levels;
  frozen = ap (λ (ss : List Segment). l.active ∷ ss) base.frozen
      ∙ sym (newest_last (filter has_frames b.before) l.active)
      ∙ ap (λ (ss : List Segment). newest_first (filter has_frames b.before ++ ss)) (sym only)
      ∙ ap newest_first (sym (filter-append has_frames b.before (l.active ∷ [])));
  led = λ n among. front_stays l.active (sealed l) n tidy.distinct.0 (base.led n among);
  keep = base.keep;
  since = base.since;
  gone = base.gone;
  covered = base.covered;
  format = refl;
  spared = spares_rotated (at_rest l) h base.spared;
}
  where
    only : filter has_frames (l.active ∷ []) ≡ l.active ∷ []
    only = ap (λ b. if b then l.active ∷ [] else []) some

module _ (b : Base) (l : Layout) (h : History) (base : IsBase b l h) (tidy : IsTidy (layout_logs l) l h) (disk : DiskState)
    (holds : Holds b l disk) where
  abbrev pub new_name : Name
  new_name = Log l.next_log

  abbrev pub header : List ℕ
  header = log_header log_format l.next_log

  above : l.active.number < l.next_log
  above = tidy.files.stocked.logs_drawn.0

  last : HoldsLast b.state.head l.active disk
  last = last_held b.state.head b.before l.active disk holds.files.logs

  from : b.state.head ≤ l.next_log
  from = let low = last.from in omega (arith, above, low)

  -- From its number on no log stands or was removed.
  pub next_nowhere : (m : ℕ) → l.next_log ≤ m → IsNowhere disk (Log m)
  next_nowhere m up = last.above m (omega (arith, above, up))

  -- ---- while it is made

  manifest : HoldsManifest b.state disk
  manifest = record {
    number = b.manifest.number;
    bytes = manifest_bytes b.manifest.number (frames_of b);
    stands = holds.base.has.durable;
    says = base_says b l h base disk holds.base;
    above = holds.base.above;
  }

  current : (image : Image) → MayLeave disk image → IsCurrent image b.manifest.number (manifest_bytes b.manifest.number (frames_of b))
  unfolding manifest
  current image may = held_current b.state disk manifest image may

  -- no table leads into it, since it doesn't stand
  unled : IsAmong (led_into (found_levels l.levels)) l.next_log → ⊥
  unled among =
      let into = base.led l.next_log among in
      not_drawn (sealed l) sealed_drawn into.at
    where
      sealed_drawn : AllByRecursion (λ (s : Segment). s.number < l.next_log) (sealed l)
      sealed_drawn = all_more (λ (s : Segment). s.number < l.next_log) l.frozen l.flushed
          tidy.files.stocked.logs_drawn.1 tidy.files.stocked.flushed_drawn

      not_drawn : (ss : List Segment) → AllByRecursion (λ (s : Segment). s.number < l.next_log) ss → {log : Segment}
          → segment_at ss l.next_log ≡ Some log → ⊥
      not_drawn ss drawn {log} at =
          let less : log.number < l.next_log = segment_all (λ (s : Segment). s.number < l.next_log) ss l.next_log log drawn at in
          let same : log.number ≡ l.next_log = segment_number ss l.next_log log at in
          omega (arith, less, same)

  -- an image with a log that reads like nothing opens like the one without it
  new_like : (bytes : List ℕ) → ReadsFrames l.next_log bytes no_reading → (image before : Image) → IsLeft disk before
      → SameBut new_name image before → get image new_name ≡ Some bytes → get before new_name ≡ None → OpensLike image before
  new_like bytes reads image before low same is gone =
      let led = current before low.left in
      let whole = held_whole b.state.head (logs_from b l) disk holds.files.logs before low.left in
      led_like b.manifest.number (manifest_bytes b.manifest.number (frames_of b)) b.state
      (view b l h base disk (sources_held b l h base disk holds.files) before low.left) before
      (base_says b l h base disk holds.base) led
      (levels_left b l h base disk (sources_held b l h base disk holds.files) before low.left tidy.levels) image
      (current_kept b.manifest.number new_name image before (manifest_bytes b.manifest.number (frames_of b)) same
      (λ m up. manifest_log m l.next_log) led)
      (λ n named. same (Table n) (λ e. table_log n l.next_log e))
      (λ n among. same (Log n) (λ e. unled (subst (IsAmong (led_into (found_levels l.levels))) (log_same n l.next_log e) among)))
      (λ logs standing. alike_some image b.state.head logs (one_more image before l.next_log same
      (λ m less. left_nowhere disk before (Log m) (next_nowhere m (omega (arith, less))) low.left)
      (record {
        bytes = bytes;
        reading = reads.reading;
        stands = is;
        none = gone;
        reads = reads.reads;
        empty = unfilled reads.reading reads.same;
      })
      b.state.head logs from standing whole))

  new_step : (now : DiskState) → WhileMaking new_name header disk now → OpensAsOf disk now
  new_step now during = by (making new_name header disk now during)
    where
      missing : IsLeftOne new_name (get disk.standing new_name) (get disk.removed new_name) None
      missing = subst (λ (o : Option File). IsLeftOne new_name o (get disk.removed new_name) None)
          (sym (next_nowhere l.next_log (omega arith)).free) (may_miss new_name (get disk.removed new_name))

      within : (file : File) → IsPart header file → All (λ piece. piece.place + length piece.bytes ≤ 16) file.unsynced
      within file part_empty = All-nil (λ (piece : Piece). piece.place + length piece.bytes ≤ 16)
      within file (part_some taken) = All-cons (λ (piece : Piece). piece.place + length piece.bytes ≤ 16)
          (record { place = 0; bytes = header }) [] (omega arith)
          (All-nil (λ (piece : Piece). piece.place + length piece.bytes ≤ 16))

      there : (file : File) → IsPart header file → (left : Option (List ℕ))
          → IsLeftOne new_name (Some file) (get now.removed new_name) left → WasLeft disk new_name left
      there file part None one = left_still disk new_name None missing
      there file part (Some bytes) one = record {
        was = None;
        is_left = missing;
        like = λ image before low same is gone. new_like bytes
            (torn_header l.next_log file bytes (part_loose header file part)
            (omega (arith, part_synced header file part)) (within file part) one.no_chance no_reading refl)
            image before low same is gone;
      }

      by : Making new_name header disk now → OpensAsOf disk now
      by (waits is) = subst (OpensAsOf disk) (sym is) (as_before disk)
      by (torn file part stands elsewhere) = one_name new_name disk now elsewhere
          (λ left one. there file part left (standing_left new_name now (Some file) left stands one))
      by (done stands elsewhere) = one_name new_name disk now elsewhere (λ left one. record {
        was = None;
        is_left = missing;
        like = λ image before low same is gone. new_like header
            (record {
              reading = record { header = Some log_format; frames = []; whole = true };
              reads = header_reads l.next_log;
              same = none_each refl refl;
            })
            image before low same
            (is ∙ settled_left header (get now.removed new_name) left
            (standing_left new_name now (Some (settled header)) left stands one).may) gone;
      })

  -- Whatever a crash leaves while the new log is made shows the history.
  pub rotate_leaves : (now : DiskState) → WhileMaking new_name header disk now → (image : Image) → IsLeft now image
      → Shown image h (last_number h)
  rotate_leaves now during image left =
      let (before, left_before, like) = new_step now during image left in
      shown_like image before h (last_number h) like (held_shown b l h base tidy disk holds before left_before.left)

  -- ---- and then

  module _ (numbered : IsNumbered new_name) where
    made_settled : AllSettled (made new_name header disk)
    made_settled name file stands = ⊎_elim
        (λ (same : name ≡ new_name).
        let is : settled header ≡ file = some_same (settled header) file
        (sym (made_there new_name header disk) ∙ ap (get (made new_name header disk).standing) (sym same) ∙ stands) in
        sym is ∙ ap (λ (x : File). settled x.bytes) is)
        (λ (apart : name ≢ new_name).
        holds.durable name file (sym ((made_elsewhere new_name header disk).standing name apart) ∙ stands))
        (same_or_other name new_name)

    -- After the three calls the disk holds the rotated layout.
    pub rotate_holds : Holds (rotated_base b l) (rotated l) (made new_name header disk)
    rotate_holds = record {
      base = base_kept new_name disk (made new_name header disk) (made_elsewhere new_name header disk) (rotated_base b l)
          (manifests_beside_log b.manifest.number l.next_log) (record { has = holds.base.has; above = holds.base.above });
      files = record {
        logs = log_added disk l.next_log b.state.head (logs_from b l) from next_nowhere holds.files.logs;
        tables = tables_kept new_name disk (made new_name header disk) (made_elsewhere new_name header disk) (tables l)
            (tables_beside_log l.next_log (tables l)) holds.files.tables;
        flushed = each_log_kept new_name disk (made new_name header disk) (made_elsewhere new_name header disk) l.flushed
            (flushed_apart l.flushed tidy.files.stocked.flushed_drawn) holds.files.flushed;
      };
      durable = made_settled;
      lawful = made_lawful disk holds.lawful new_name header numbered;
    }
      where
        flushed_apart : (ss : List Segment) → AllByRecursion (λ (s : Segment). s.number < l.next_log) ss → AreOtherLogs new_name ss
        flushed_apart [] drawn = tt
        flushed_apart (s ∷ ss) drawn = (
          λ e. (let less = drawn.0 in omega (arith, less, log_same s.number l.next_log e)),
          flushed_apart ss drawn.1,
        )

    lawful_now : (now : DiskState) → WhileMaking new_name header disk now → IsLawful now
    lawful_now now (not_there is) = subst IsLawful (sym is) holds.lawful
    lawful_now now (empty is) = subst IsLawful (sym is) (created_lawful disk holds.lawful new_name numbered)
    lawful_now now (in_part taken le is) = subst IsLawful (sym is)
        (appended_lawful (created new_name disk) (created_lawful disk holds.lawful new_name numbered) new_name header taken)
    lawful_now now (durable is) = subst IsLawful (sym is) (made_lawful disk holds.lawful new_name header numbered)

    -- At each moment a store may be opened on the disk, if it stops there.
    pub rotate_opens_again : (now : DiskState) → WhileMaking new_name header disk now → MayOpen now
    rotate_opens_again now during =
        let read = read_image disk in
        let may = read_left read.0 disk read.1 in
        making_may_open b.state (view b l h base disk (sources_held b l h base disk holds.files) read.0 may) (logs_from b l)
        l.next_log disk holds.lawful (store_held b l h base disk holds read.0 may tidy.levels)
        (led_stay b l h base disk (sources_held b l h base disk holds.files) read.0 may) from next_nowhere now
        (lawful_now now during) during
