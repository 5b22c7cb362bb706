-- A held store whose last log takes one frame more: what a crash leaves meanwhile, and what the disk holds then. No table
-- leads into that log.
use Rattle.std.specs.Prelude.{Bool, ◌≡◌, ◌≢◌, ◌⊎◌, ◌≤◌, ◌<◌, ℕ, ◌+◌, ◌==◌, List, [], ◌∷◌, ◌++◌, length, map, take}
use Rattle.std.specs.Prelude.{Option, None, Some, Result, Ok, Err, refl, true, if◌then◌else◌}
use Rattle.std.specs.FinMap.{get}
use Rattle.std.specs.List.{AllByRecursion, sum_by}
use Rattle.std.specs.Option.{option_map}
use Rattle.std.proofs.Common.{sym, ap, subst, ◌∙◌, arith, inl, inr, ⊎_elim}
use Rattle.std.proofs.lemmas.Bool.{true≢false}
use Rattle.std.proofs.lemmas.Bool.Decides.{nat_tests}
use Rattle.std.proofs.lemmas.List.{map-append, take_all}
use Rattle.std.proofs.lemmas.List.Sums.{sum_by-cons}
use Rattle.vl_disk.specs.Changes.{SameElsewhere, changed_elsewhere, changed_there}
use Rattle.vl_disk.specs.Chance.{none_by_chance}
use Rattle.vl_disk.specs.Crash.{Image, MayLeave, MayLeaveOne, WhileAppending, WhileSyncing, last_file}
use Rattle.vl_disk.specs.DiskState.{DiskState, File, IsLawful, appended, lengthened, settled, synced, synced_file}
use Rattle.vl_disk.specs.laws.Lawful.{appended_lawful, synced_lawful}
use Rattle.vl_disk.specs.laws.NameMap.{same_or_other}
use Rattle.vl_disk.specs.declared.name.Name.{Name}
use Rattle.vl_disk.specs.declared.name.Name.TheVariants.{Log, Manifest}
use Rattle.vl_frame.specs.Runs.{HasFrame}
use Rattle.vl_engine_model.specs.Logs.{log_length, new_segment}
use Rattle.vl_engine_model.specs.declared.segment.Segment.{Segment}
use Rattle.vl_manifest.specs.declared.state.ManifestState.{ManifestState}
use Rattle.vl_model.specs.Frames.{frame_length}
use Rattle.vl_model.specs.declared.change.Change.{Change}
use Rattle.vl_model.specs.declared.log_frame.LogFrame.{LogFrame}
use Rattle.vl_model.specs.declared.log_frame.LogFrame.TheVariants.{Committed}
use Rattle.vl_recover.specs.crash.Alike.{IsLeft, Spells}
use Rattle.vl_recover.specs.laws.crash.AlikeLaws.{log_manifest, log_same}
use Rattle.vl_recover.specs.opening.Walk.{standing_log}
use Rattle.vl_recover.specs.crash.Held.{AllSettled, HoldsLogs, HoldsManifest, HoldsStore, IsNowhere, IsPassedOver, IsSettled}
use Rattle.vl_recover.specs.crash.Held.{Needs, View}
use Rattle.vl_recover.specs.laws.opening.HeldLaws.{AreSealed, held_current, held_may_open, held_opens, held_says}
use Rattle.vl_recover.specs.laws.opening.HeldLaws.{left_nowhere, left_settled, may_open_by, needs_image, needs_led}
use Rattle.vl_recover.specs.laws.opening.HeldLaws.{only_idle_gone, settled_may_stand}
use Rattle.vl_recover.specs.laws.opening.IdleLaws.{IsLeftOut, StandAmongIdle, gone_kept, idle_filled, idle_walked, left_passed}
use Rattle.vl_recover.specs.laws.opening.IdleLaws.{passed_kept, stand_next, stand_none}
use Rattle.vl_recover.specs.crash.Held.{GoOn, log_as_held, opening_held}
use Rattle.vl_recover.specs.laws.opening.LeadsLaws.{needs_kept, nowhere_kept, unled_unneeded}
use Rattle.vl_recover.specs.laws.crash.OneName.{elsewhere_then}
use Rattle.vl_recover.specs.opening.Opening.{IsAmong, Led, Opens, led_into}
use Rattle.vl_recover.specs.laws.opening.OpeningLaws.{is_opened, some_none, some_same}
use Rattle.vl_recover.specs.laws.repairing.StageLaws.{err_ok, ok_same, ok_with}
use Rattle.vl_recover.specs.crash.Starts.{AllMayStand, AllStay, MayOpen, MayStand}
use Rattle.vl_recover.specs.opening.Stages.{on_ok}
use Rattle.vl_recover.specs.laws.crash.TornFrames.{due_as_read, frame_behind, headed_front, torn_log, torn_says}
use Rattle.vl_recover.specs.opening.Walk.{LogDamage, StandingLog, counted, counted_behind, counted_frame}
use Rattle.vl_recover.specs.opening.Walk.{counted_whole, filled, in_log, walked, walked_on, with_frames}
use Rattle.vl_seglog.specs.laws.FrameLaws.{log_bytes-more}
use Rattle.vl_seglog.specs.Frames.{frames_grammar, log_bytes}
use Rattle.vl_model.specs.Formats.{log_format}
use Rattle.vl_seglog.specs.LogReading.{HasHeader, IsLogFormat, LogReading, ReadsLog}
use Rattle.vl_seglog.specs.laws.LogReadingLaws.{SaysFrames, reads_written}

-- ---- what is the same under the other names

pub manifest_kept : (log : ℕ) (state : ManifestState) (disk now : DiskState) → SameElsewhere (Log log) disk now
    → HoldsManifest state disk → HoldsManifest state now
manifest_kept log state disk now same holds = record {
  number = holds.number;
  bytes = holds.bytes;
  stands = same.standing (Manifest holds.number) (apart holds.number) ∙ holds.stands;
  says = holds.says;
  above = λ m less. nowhere_kept (Log log) disk now same (Manifest m) (apart m) (holds.above m less);
}
  where
    apart : (m : ℕ) → Manifest m ≢ Log log
    apart m e = log_manifest log m (sym e)

-- ---- the last of the logs

-- the last of the logs that a disk holds from a number on
pub record HoldsLast (least : ℕ) (last : Segment) (disk : DiskState) : Type 0 where
  pub from : least ≤ last.number
  pub is_read : IsLogFormat last.format
  pub have : AllByRecursion (HasFrame (frames_grammar last.format)) last.frames
  pub stands : IsSettled disk (Log last.number) (log_bytes last.format last.number last.frames)
  pub above : (m : ℕ) → last.number < m → IsNowhere disk (Log m)

pub last_held : (least : ℕ) (before : List Segment) (last : Segment) (disk : DiskState)
    → HoldsLogs least (before ++ last ∷ []) disk → HoldsLast least last disk
last_held least [] last disk (from, between, is_read, have, stands, above) = record {
  from = from;
  is_read = is_read;
  have = have;
  stands = stands;
  above = λ m less. above m (omega (arith, less));
}
last_held least (s ∷ before) last disk (from, between, is_read, have, stands, rest) =
    let behind = last_held (s.number + 1) before last disk rest in
    let up = behind.from in
    record {
      from = omega (arith, from, up);
      is_read = behind.is_read;
      have = behind.have;
      stands = behind.stands;
      above = behind.above;
    }

other_log : (m k : ℕ) → (m ≡ k → ⊥) → Log m ≢ Log k
other_log m k apart e = apart (log_same m k e)

-- The same logs are held where the last one has other frames.
pub logs_with : (least : ℕ) (before : List Segment) (last other : Segment) (disk now : DiskState)
    → other.number ≡ last.number → SameElsewhere (Log last.number) disk now
    → IsLogFormat other.format → AllByRecursion (HasFrame (frames_grammar other.format)) other.frames
    → IsSettled now (Log other.number) (log_bytes other.format other.number other.frames)
    → HoldsLogs least (before ++ last ∷ []) disk → HoldsLogs least (before ++ other ∷ []) now
logs_with least [] last other disk now same elsewhere read has there (from, between, is_read, have, stands, above) = (
  omega (arith, from, same),
  λ m up less. passed_kept (Log last.number) disk now elsewhere m
      (other_log m last.number (λ at. omega (arith, at, less, same))) (between m up (omega (arith, less, same))),
  read,
  has,
  there,
  λ m up. kept m (λ at. omega (arith, at, up, same)) (above m (omega (arith, up, same))),
)
  where
    kept : (m : ℕ) → (m ≡ last.number → ⊥) → IsNowhere disk (Log m) → IsNowhere now (Log m)
    kept m apart = nowhere_kept (Log last.number) disk now elsewhere (Log m) (other_log m last.number apart)
logs_with least (s ∷ before) last other disk now same elsewhere read has there (from, between, is_read, have, stands, rest) =
    let up = (last_held (s.number + 1) before last disk rest).from in (
      from,
      λ m above less. passed_kept (Log last.number) disk now elsewhere m
          (other_log m last.number (λ at. omega (arith, less, at, up))) (between m above less),
      is_read,
      have,
      elsewhere.standing (Log s.number) (other_log s.number last.number (λ at. omega (arith, at, up))) ∙ stands,
      logs_with (s.number + 1) before last other disk now same elsewhere read has there rest,
    )

-- What is left has the same logs before the last, however that one reads, and beside them at most idle ones.
module _ (last : Segment) (disk now : DiskState) (image : Image)
    (elsewhere : SameElsewhere (Log last.number) disk now)
    (may : MayLeave now image) (bytes : List ℕ) (reading : LogReading)
    (left : get image (Log last.number) ≡ Some bytes)
    (reads : ReadsLog last.number bytes reading) where
  none_left : (m : ℕ) → (m ≡ last.number → ⊥) → IsNowhere disk (Log m) → get image (Log m) ≡ None
  none_left m apart nowhere = left_nowhere now image (Log m)
      (nowhere_kept (Log last.number) disk now elsewhere (Log m) (other_log m last.number apart) nowhere) may

  left_out : (m : ℕ) → (m ≡ last.number → ⊥) → IsPassedOver disk m → IsLeftOut image m
  left_out m apart passed = left_passed now image m
      (passed_kept (Log last.number) disk now elsewhere m (other_log m last.number apart) passed) may

  pub standing_with : (least : ℕ) (before : List Segment) → HoldsLogs least (before ++ last ∷ []) disk
      → StandAmongIdle image least (map log_as_held before ++ standing_log last.number bytes reading ∷ [])
  standing_with least [] (from, between, is_read, have, stands, above) =
      stand_next image least (standing_log last.number bytes reading) [] from (record {
        from = omega arith;
        between = λ m up less. absurd (omega (arith, up, less));
        bytes = bytes;
        stands = left;
        length_is = refl;
        reads = reads;
      })
      (λ m up less. left_out m (λ at. omega (arith, at, less)) (between m up less))
      (stand_none image (last.number + 1) (λ m up. none_left m (λ at. omega (arith, at, up)) (above m up)))
  standing_with least (s ∷ before) (from, between, is_read, have, stands, rest) =
      let up = (last_held (s.number + 1) before last disk rest).from in
      let here : IsSettled now (Log s.number) (log_bytes s.format s.number s.frames) =
      elsewhere.standing (Log s.number) (other_log s.number last.number (λ at. omega (arith, at, up))) ∙ stands in
      stand_next image least (log_as_held s) (map log_as_held before ++ standing_log last.number bytes reading ∷ []) from (record {
        from = omega arith;
        between = λ m above less. absurd (omega (arith, above, less));
        bytes = log_bytes s.format s.number s.frames;
        stands = left_settled now image (Log s.number) (log_bytes s.format s.number s.frames) here may;
        length_is = refl;
        reads = reads_written s.format s.number is_read s.frames have;
      })
      (λ m above less. left_out m (λ at. omega (arith, at, less, up)) (between m above less))
      (standing_with (s.number + 1) before rest)

-- ---- logs that differ in the last one's frames

-- one frame more goes on from the number of the last commit before it
pub counted_more : (format n place : ℕ) (fs : List LogFrame) (f : LogFrame) (m next : ℕ) → counted format n place fs ≡ Ok m
    → counted_frame m (place + sum_by (frame_length format) fs) f ≡ Ok next → counted format n place (fs ++ f ∷ []) ≡ Ok next
counted_more format n place [] f m next e one =
    let here : place + 0 ≡ place = omega arith in
    let same : n ≡ m = ok_same {E = ℕ} n m e in
    ap (on_ok (λ (k : ℕ). Ok k))
    (ap (λ (k : ℕ). counted_frame k place f) same ∙ ap (λ (p : ℕ). counted_frame m p f) (sym here) ∙ one)
counted_more format n place (g ∷ fs) f m next e one =
    let after = place + frame_length format g in
    let there : place + sum_by (frame_length format) (g ∷ fs) ≡ after + sum_by (frame_length format) fs =
    omega (arith, sum_by-cons (frame_length format) g fs) in
    ok_with (λ k. counted format k after fs) (λ k. counted format k after (fs ++ f ∷ [])) m next
    (λ k is. counted_more format k after fs f m next is (subst (λ (p : ℕ). counted_frame m p f ≡ Ok next) there one))
    (counted_frame n place g) e

-- a commit with the next number goes on
pub commit_counts : (n place : ℕ) (writes : List (List ℕ × Change))
    → counted_frame n place (Committed (n + 1) writes) ≡ Ok (n + 1)
commit_counts n place writes =
    let same : (n + 1 == n + 1) ≡ true = grind (arith, nat_tests) in
    ap (λ (b : Bool). if b then Ok (n + 1) else Err place) same

-- logs go on with the last of them
pub walked_with : (a b : StandingLog) (number next : ℕ)
    → ((m : ℕ) → in_log a.number (counted_behind a.reading.header m a.reading.frames) ≡ Ok number
    → in_log b.number (counted_behind b.reading.header m b.reading.frames) ≡ Ok next)
    → (n : ℕ) (logs : List StandingLog) → walked n (logs ++ a ∷ []) ≡ Ok number → walked n (logs ++ b ∷ []) ≡ Ok next
walked_with a b number next last n [] e = last n e
walked_with a b number next last n (q ∷ []) e =
    ok_with (λ m. walked_on m a []) (λ m. walked_on m b []) number next last
    (in_log q.number (counted_whole n q.reading)) e
walked_with a b number next last n (q ∷ p ∷ logs) e =
    ok_with (λ m. walked_on m p (logs ++ a ∷ [])) (λ m. walked_on m p (logs ++ b ∷ [])) number next
    (λ m. walked_with a b number next last m (p ∷ logs)) (in_log q.number (counted_whole n q.reading)) e

filled_with : (a b : StandingLog) → a.number ≡ b.number → a.reading.header ≡ b.reading.header
    → a.reading.frames ≡ b.reading.frames
    → (logs : List StandingLog)
    → filled (logs ++ a ∷ []) ≡ filled (logs ++ b ∷ [])
filled_with a b number header frames [] = λ i. with_frames (number i) (header i) (frames i) []
filled_with a b number header frames (q ∷ logs) =
    ap (with_frames q.number q.reading.header q.reading.frames) (filled_with a b number header frames logs)

logs_as_held : (before : List Segment) (last : Segment)
    → map log_as_held (before ++ last ∷ []) ≡ map log_as_held before ++ log_as_held last ∷ []
logs_as_held before last = map-append log_as_held before (last ∷ [])

-- the log with one frame more
abbrev pub with_frame : LogFrame → Segment → Segment
with_frame f s = new_segment s.format s.number (s.frames ++ f ∷ [])

-- Logs go on where the last one's new frame does.
pub goes_on : (covered : ℕ) (before : List Segment) (last : Segment) (f : LogFrame) (number next : ℕ)
    → GoOn covered (before ++ last ∷ []) number → counted_frame number (log_length last.format last.frames) f ≡ Ok next
    → GoOn covered (before ++ with_frame f last ∷ []) next
goes_on covered before last f number next goes one =
    subst (λ (l : List StandingLog). walked covered l ≡ Ok next) (sym (logs_as_held before (with_frame f last)))
    (walked_with (log_as_held last) (log_as_held (with_frame f last)) number next counts covered
    (map log_as_held before)
    (subst (λ (l : List StandingLog). walked covered l ≡ Ok number) (logs_as_held before last) goes))
  where
    in_ok : (w : Result ℕ ℕ) → in_log last.number w ≡ Ok number → w ≡ Ok number
    in_ok (Ok m) e = ap (λ (k : ℕ). Ok k) (ok_same {E = LogDamage} m number e)
    in_ok (Err p) e = absurd (err_ok (record { log = last.number; place = p }) number e)

    counts : (m : ℕ) → in_log last.number (counted last.format m 16 last.frames) ≡ Ok number
        → in_log last.number (counted last.format m 16 (last.frames ++ f ∷ [])) ≡ Ok next
    counts m e =
        let so_far = in_ok (counted last.format m 16 last.frames) e in
        ap (in_log last.number) (counted_more last.format m 16 last.frames f number next so_far one)

-- ---- while the frame is appended and made durable

-- the image opens with the logs before the frame, or with those that have it
abbrev pub OpensEither : ManifestState → View → List Segment → Segment → LogFrame → (number next : ℕ) → Image → Type 0
OpensEither state view before last f number next image =
    Opens image (Ok (opening_held state view (before ++ last ∷ []) number))
    ⊎ Opens image (Ok (opening_held state view (before ++ with_frame f last ∷ []) next))

have_more : (format : ℕ) (fs : List LogFrame) (f : LogFrame)
    → AllByRecursion (HasFrame (frames_grammar format)) fs
    → HasFrame (frames_grammar format) f → AllByRecursion (HasFrame (frames_grammar format)) (fs ++ f ∷ [])
have_more format [] f have has = (has, tt)
have_more format (g ∷ fs) f have has = (have.0, have_more format fs f have.1 has)

-- what a state needs is durable as before where the log of this number changes, if no table leads into it
pub needs_beside : (state : ManifestState) (view : View) (log : ℕ) (disk now : DiskState)
    → (IsAmong (led_into view.levels) log → ⊥) → SameElsewhere (Log log) disk now → Needs state view disk → Needs state view now
needs_beside state view log disk now unled same needs =
    needs_kept state view (Log log) disk now same (unled_unneeded state view log unled) needs

-- of a disk that holds a store, and a frame for its last log
module _ (state : ManifestState) (view : View) (before : List Segment) (last : Segment) (f : LogFrame) (disk : DiskState)
    (holds : HoldsStore state view (before ++ last ∷ []) disk) (unled : IsAmong (led_into view.levels) last.number → ⊥)
    (has : HasFrame (frames_grammar last.format) f) where
  abbrev name : Name
  name = Log last.number

  abbrev frame : List ℕ
  frame = frame_behind last.format last.number last.frames f

  -- the disk whose log took so many bytes of the frame, and that on which the frame is durable
  abbrev torn : ℕ → DiskState
  torn taken = appended name frame taken disk

  abbrev durable : DiskState
  durable = synced name (torn (length frame))

  here : HoldsLast state.head last disk
  here = last_held state.head before last disk holds.logs_are

  torn_there : (taken : ℕ) → get (torn taken).standing name ≡ Some (torn_log last.format last.number last.frames f taken)
  torn_there taken =
      changed_there name disk (lengthened frame taken) ∙ ap (option_map (lengthened frame taken)) here.stands

  torn_elsewhere : (taken : ℕ) → SameElsewhere name disk (torn taken)
  torn_elsewhere taken = changed_elsewhere name disk (lengthened frame taken)

  durable_there : IsSettled durable name (log_bytes last.format last.number (last.frames ++ f ∷ []))
  durable_there =
      let old = log_bytes last.format last.number last.frames in
      let all : old ++ take (length frame) frame ≡ log_bytes last.format last.number (last.frames ++ f ∷ []) =
      ap (λ (b : List ℕ). old ++ b) (take_all (length frame) frame (omega arith))
      ∙ sym (log_bytes-more last.format last.number last.frames f) in
      changed_there name (torn (length frame)) synced_file ∙ ap (option_map synced_file) (torn_there (length frame))
      ∙ ap (λ (b : List ℕ). Some (settled b)) all

  durable_elsewhere : SameElsewhere name disk durable
  durable_elsewhere = elsewhere_then name disk (torn (length frame)) durable (torn_elsewhere (length frame))
      (changed_elsewhere name (torn (length frame)) synced_file)

  -- a file under another name is as it was
  other_settled : (now : DiskState) → SameElsewhere name disk now → (q : Name) (file : File) → q ≢ name
      → get now.standing q ≡ Some file → file ≡ settled file.bytes
  other_settled now elsewhere q file apart stands = holds.durable q file (sym (elsewhere.standing q apart) ∙ stands)

  -- the frame is durable, and so are the other files
  durable_settled : AllSettled durable
  durable_settled q file stands = ⊎_elim
      (λ (same : q ≡ name).
      let bytes = log_bytes last.format last.number (last.frames ++ f ∷ []) in
      let is : settled bytes ≡ file = some_same (settled bytes) file
      (sym durable_there ∙ ap (get durable.standing) (sym same) ∙ stands) in
      sym is ∙ ap (λ (x : File). settled x.bytes) is)
      (λ (apart : q ≢ name). other_settled durable durable_elsewhere q file apart stands)
      (same_or_other q name)

  -- After both calls the disk holds the store with the frame.
  pub append_holds : HoldsStore state view (before ++ with_frame f last ∷ []) durable
  append_holds = record {
    manifest = manifest_kept last.number state disk durable durable_elsewhere holds.manifest;
    needs = needs_beside state view last.number disk durable unled durable_elsewhere holds.needs;
    logs_are = logs_with state.head before last (with_frame f last) disk durable refl durable_elsewhere
        here.is_read (have_more last.format last.frames f here.have has) durable_there holds.logs_are;
    durable = durable_settled;
  }

  -- a log of some bytes is left, which say the frames before, or these and the new one
  abbrev IsTorn : Image → Type 0
  IsTorn image = (bytes : List ℕ) × (get image name ≡ Some bytes)
      × (SaysFrames last.format last.number bytes last.frames ⊎ SaysFrames last.format last.number bytes (last.frames ++ f ∷ []))

  torn_left : (taken : ℕ) (image : Image) → IsLeft (torn taken) image → IsTorn image
  torn_left taken image left = by (get image name) refl
    where
      file : File
      file = torn_log last.format last.number last.frames f taken

      removed : Option File
      removed = get (torn taken).removed name

      one : MayLeaveOne (Some file) removed (get image name)
      one = subst (λ (o : Option File). MayLeaveOne o removed (get image name)) (torn_there taken) (left.left name)

      by : (o : Option (List ℕ)) → get image name ≡ o → IsTorn image
      by None is = absurd (true≢false (subst (λ (o : Option (List ℕ)). MayLeaveOne (Some file) removed o) is one))
      by (Some bytes) is = (
        bytes,
        is,
        torn_says last.format last.number here.is_read last.frames f has taken here.have bytes
            (subst (λ (o : Option (List ℕ)). MayLeaveOne (Some file) removed o) is one)
            (none_by_chance Spells name (torn taken) image left.no_chance file bytes
            (ap (λ (o : Option File). last_file o removed) (torn_there taken)) is tt refl),
      )

  -- whatever the last log's frames are, the image opens with them
  opens_with : (taken : ℕ) (image : Image) → MayLeave (torn taken) image → (bytes : List ℕ)
      → get image name ≡ Some bytes
      → (s : Segment) → s.number ≡ last.number → s.format ≡ last.format
      → SaysFrames last.format last.number bytes s.frames
      → (n : ℕ) → GoOn state.covered (before ++ s ∷ []) n
      → Opens image (Ok (opening_held state view (before ++ s ∷ []) n))
  opens_with taken image may bytes is s same format says n goes =
      let held = manifest_kept last.number state disk (torn taken) (torn_elsewhere taken) holds.manifest in
      let found = standing_log last.number bytes (record { header = Some last.format; frames = s.frames; whole = says.0 }) in
      let logs = map log_as_held before ++ found ∷ [] in
      let among : StandAmongIdle image state.head logs =
      standing_with last disk (torn taken) image (torn_elsewhere taken) may bytes found.reading is says.1
      state.head before holds.logs_are in
      let walk : walked state.covered logs ≡ Ok n =
      walked_with (log_as_held s) found n n
      (λ m e. ap (λ (k : ℕ). in_log k (counted last.format m 16 s.frames)) (sym same)
      ∙ ap (λ (k : ℕ). in_log s.number (counted k m 16 s.frames)) (sym format) ∙ e) state.covered (map log_as_held before)
      (subst (λ (l : List StandingLog). walked state.covered l ≡ Ok n) (logs_as_held before s) goes) in
      let filled_same : filled logs ≡ filled (map log_as_held (before ++ s ∷ [])) =
      filled_with found (log_as_held s) (sym same) (ap Some (sym format)) refl (map log_as_held before)
      ∙ ap filled (sym (logs_as_held before s)) in
      let needs = needs_beside state view last.number disk (torn taken) unled (torn_elsewhere taken) holds.needs in
      is_opened image (opening_held state view (before ++ s ∷ []) n) (record {
        heading = Led held.number held.bytes;
        headed = held_current state (torn taken) held image may;
        says = held_says state (torn taken) held;
        levels = needs_image state view (torn taken) image needs may;
        led = needs_led state view (torn taken) image needs may;
        standing = among.found;
        stands = among.stand;
        walk = idle_walked state.covered among.found logs among.with_idle ∙ walk;
        logs_are = sym (idle_filled among.found logs among.with_idle ∙ filled_same);
      })

  module _ (number next : ℕ) (goes : GoOn state.covered (before ++ last ∷ []) number)
      (goes_too : GoOn state.covered (before ++ with_frame f last ∷ []) next) where
    torn_leaves : (taken : ℕ) (image : Image) → IsLeft (torn taken) image
        → OpensEither state view before last f number next image
    torn_leaves taken image left = by (torn_left taken image left)
      where
        by : IsTorn image → OpensEither state view before last f number next image
        by (bytes, is, either) = ⊎_elim
            (λ (says : SaysFrames last.format last.number bytes last.frames).
            inl (opens_with taken image left.left bytes is last refl refl says number goes))
            (λ (says : SaysFrames last.format last.number bytes (last.frames ++ f ∷ [])).
            inr (opens_with taken image left.left bytes is (with_frame f last) refl refl says next goes_too))
            either

    -- Whatever a crash leaves while the frame is appended opens with the logs before, or with the frame.
    pub append_leaves : (now : DiskState) → WhileAppending name frame disk now → (image : Image) → IsLeft now image
        → OpensEither state view before last f number next image
    append_leaves now during image left = ⊎_elim
        (λ (same : now ≡ disk). inl (held_opens state view (before ++ last ∷ []) disk holds number goes image
        (subst (λ (d : DiskState). MayLeave d image) same left.left)))
        (λ (part : (taken : ℕ) × (taken ≤ length frame) × (now ≡ torn taken)).
        torn_leaves part.0 image (subst (λ (d : DiskState). IsLeft d image) part.2 left))
        during

    -- So does whatever it leaves while the frame is made durable.
    pub sync_leaves : (now : DiskState) → WhileSyncing name (torn (length frame)) now → (image : Image)
        → IsLeft now image
        → OpensEither state view before last f number next image
    sync_leaves now during image left = ⊎_elim
        (λ (same : now ≡ torn (length frame)).
        torn_leaves (length frame) image (subst (λ (d : DiskState). IsLeft d image) same left))
        (λ (synced_now : now ≡ durable).
        inr (held_opens state view (before ++ with_frame f last ∷ []) durable append_holds next goes_too image
        (subst (λ (d : DiskState). MayLeave d image) synced_now left.left)))
        during

  -- ---- the same disk is opened again

  module _ (lawful : IsLawful disk) (active : last.format ≡ log_format) (stay : AllStay view.image (led_into view.levels)) where
    -- the header of the log stands, so that none is wrong
    torn_headed : (taken : ℕ) → HasHeader log_format last.number (torn_log last.format last.number last.frames f taken).bytes
    torn_headed taken = subst
        (λ (n : ℕ). HasHeader n last.number (torn_log last.format last.number last.frames f taken).bytes) active
        (headed_front last.format last.number last.frames (take taken frame))

    torn_may_stand : (taken : ℕ) → MayStand name (torn_log last.format last.number last.frames f taken)
    torn_may_stand taken = record {
      no_chance = λ right grows torn_now. due_as_read last.format last.number here.is_read last.frames f has taken;
      headless = λ wrong. absurd (wrong (torn_headed taken));
    }
      where
        file : File
        file = torn_log last.format last.number last.frames f taken

    torn_all_stand : (taken : ℕ) → AllMayStand (torn taken)
    torn_all_stand taken q file stands = ⊎_elim
        (λ (same : q ≡ name).
        let is : torn_log last.format last.number last.frames f taken ≡ file =
        some_same (torn_log last.format last.number last.frames f taken) file
        (sym (torn_there taken) ∙ ap (get (torn taken).standing) (sym same) ∙ stands) in
        subst (λ (n : Name). MayStand n file) (sym same) (subst (MayStand name) is (torn_may_stand taken)))
        (λ (apart : q ≢ name).
        subst (MayStand q) (sym (other_settled (torn taken) (torn_elsewhere taken) q file apart stands))
        (settled_may_stand q file.bytes))
        (same_or_other q name)

    torn_sealed : (taken : ℕ) → AreSealed state.head (torn taken)
    torn_sealed taken m k file from less there stands = ⊎_elim
        (λ (same : Log m ≡ name).
        let at : m ≡ last.number = log_same m last.number same in
        let above = here.above k (omega (arith, less, at)) in
        let gone = nowhere_kept name disk (torn taken) (torn_elsewhere taken) (Log k)
        (other_log k last.number (λ e. omega (arith, less, at, e))) above in
        absurd (there gone.free))
        (λ (apart : Log m ≢ name).
        let is = other_settled (torn taken) (torn_elsewhere taken) (Log m) file apart stands in
        (ap (λ (x : File). x.wholly_synced) is, ap (λ (x : File). x.lasting) is))
        (same_or_other (Log m) name)

    torn_may_open : (taken : ℕ) → MayOpen (torn taken)
    torn_may_open taken =
        may_open_by state view (torn taken) (appended_lawful disk lawful name frame taken)
        (manifest_kept last.number state disk (torn taken) (torn_elsewhere taken) holds.manifest)
        (needs_beside state view last.number disk (torn taken) unled (torn_elsewhere taken) holds.needs) stay
        (gone_kept state.head name disk (torn taken) (torn_elsewhere taken)
        (λ m from e. (
          λ none. some_none (torn_log last.format last.number last.frames f taken) (sym (torn_there taken) ∙ none),
          lawful.apart name (settled (log_bytes last.format last.number last.frames)) here.stands,
        ))
        (only_idle_gone state.head (before ++ last ∷ []) disk lawful holds.logs_are))
        (torn_all_stand taken) (torn_sealed taken)

    -- Where the append failed, a store may be opened on the same disk again,
    pub append_may_open : (now : DiskState) → WhileAppending name frame disk now → MayOpen now
    append_may_open now during = ⊎_elim
        (λ (same : now ≡ disk).
        subst MayOpen (sym same) (held_may_open state view (before ++ last ∷ []) disk lawful holds stay))
        (λ (part : (taken : ℕ) × (taken ≤ length frame) × (now ≡ torn taken)).
        subst MayOpen (sym part.2) (torn_may_open part.0))
        during

    -- and so it may where the sync failed, or neither did.
    pub sync_may_open : (now : DiskState) → WhileSyncing name (torn (length frame)) now → MayOpen now
    sync_may_open now during = ⊎_elim
        (λ (same : now ≡ torn (length frame)). subst MayOpen (sym same) (torn_may_open (length frame)))
        (λ (synced_now : now ≡ durable). subst MayOpen (sym synced_now)
        (held_may_open state view (before ++ with_frame f last ∷ []) durable
        (synced_lawful (torn (length frame)) (appended_lawful disk lawful name frame (length frame)) name)
        append_holds stay))
        during
