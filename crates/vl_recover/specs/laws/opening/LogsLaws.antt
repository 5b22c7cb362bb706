-- The logs from head on as they stand on a disk, before and after the last one is repaired.
use Rattle.std.specs.Prelude.{◌≡◌, ◌≢◌, ◌⊎◌, ℕ, ◌+◌, ◌≤◌, ◌<◌, ◌==◌, Bool, List, [], ◌∷◌, length, Option, None, Some}
use Rattle.std.specs.Prelude.{Result, Ok, Err, if◌then◌else◌, false, true, refl}
use Rattle.std.specs.FinMap.{get}
use Rattle.std.specs.List.{AllByRecursion}
use Rattle.std.specs.Option.{option_map}
use Rattle.std.proofs.Common.{ap, arith, inl, inr, subst, sym, ◌∙◌, ⊎_elim}
use Rattle.std.proofs.lemmas.Bool.{cases_lt}
use Rattle.vl_disk.specs.Changes.{SameElsewhere, changed_elsewhere}
use Rattle.vl_disk.specs.Crash.{Image, MayLeave}
use Rattle.vl_disk.specs.DiskState.{DiskState, File, IsLawful, lengthened, settled, shortened, synced_file, with_file}
use Rattle.vl_disk.specs.Started.{IsRead}
use Rattle.vl_disk.specs.declared.name.Name.{Name}
use Rattle.vl_disk.specs.declared.name.Name.TheVariants.{Log}
use Rattle.vl_frame.specs.Runs.{HasFrame}
use Rattle.vl_manifest.specs.declared.state.ManifestState.{ManifestState}
use Rattle.vl_recover.specs.laws.crash.AlikeLaws.{LastIsWhole, log_same}
use Rattle.vl_recover.specs.opening.Answers.{as_segments}
use Rattle.vl_recover.specs.crash.Held.{HoldsLogs, IsNowhere, IsPassedOver}
use Rattle.vl_recover.specs.laws.opening.HeldLaws.{left_settled}
use Rattle.vl_recover.specs.laws.opening.IdleLaws.{left_passed, none_gone, nowhere_passed, passed_kept}
use Rattle.vl_recover.specs.laws.opening.LeadsLaws.{nowhere_kept, settled_kept}
use Rattle.vl_recover.specs.laws.repairing.LastLaws.{IsLastWritten, IsWritten, LastStands, whole_bytes}
use Rattle.vl_recover.specs.repairing.Repairing.{Cut, Headed, Kept, LastLog, Rewritten, behind_last, headed, last_of, repairing_of}
use Rattle.vl_recover.specs.laws.crash.OneName.{elsewhere_then}
use Rattle.vl_recover.specs.opening.Opening.{IsNextLog, StandingLogs}
use Rattle.vl_recover.specs.laws.opening.OpeningLaws.{some_none, some_same}
use Rattle.vl_recover.specs.opening.Plans.{log_behind, log_made}
use Rattle.vl_recover.specs.laws.repairing.StageLaws.{err_ok, ok_apart}
use Rattle.vl_recover.specs.opening.Stages.{on_ok}
use Rattle.vl_recover.specs.crash.Starts.{AllMayStand, OnlyIdleGone}
use Rattle.vl_recover.specs.opening.Walk.{StandingLog, content_end, counted_behind, counted_whole, format_of, in_log}
use Rattle.vl_recover.specs.opening.Walk.{keeps_header, walked, walked_on}
use Rattle.vl_model.specs.Formats.{log_format}
use Rattle.vl_model.specs.declared.log_frame.LogFrame.{LogFrame}
use Rattle.vl_seglog.specs.Frames.{frames_grammar, log_bytes, log_header}
use Rattle.vl_seglog.specs.LogReading.{IsLogFormat, LogReading, ReadsLog}
use Rattle.vl_seglog.specs.laws.LogReadingLaws.{log_apart, one_format, one_log_reading, reads_written, whole_has_header, written_is_read}

-- ---- what is said of them

-- the log stands from a number on, and no other before it, of which only idle ones were removed
pub record IsNext (least : ℕ) (q : StandingLog) (disk : DiskState) : Type 0 where
  pub from : least ≤ q.number
  pub between : (m : ℕ) → least ≤ m → m < q.number → IsPassedOver disk m

-- From a number on stand just these logs, rising, and none other was removed, but for idle ones before the last. Each but the
-- last is durable with its frames and nothing else, and so it is said of the last.
abbrev pub StandUpTo : (StandingLog → DiskState → Type 0) → ℕ → List StandingLog → DiskState → Type 0
StandUpTo P least [] disk = (m : ℕ) → least ≤ m → IsNowhere disk (Log m)
StandUpTo P least (q ∷ []) disk = IsNext least q disk × P q disk
    × ((m : ℕ) → q.number < m → IsNowhere disk (Log m))
StandUpTo P least (q ∷ p ∷ ps) disk = IsNext least q disk × IsWritten (format_of q.reading.header) q disk
    × StandUpTo P (q.number + 1) (p ∷ ps) disk

next_kept : (name : Name) (old now : DiskState) → SameElsewhere name old now → (least : ℕ) (q : StandingLog)
    → ((m : ℕ) → least ≤ m → m < q.number → Log m ≢ name) → IsNext least q old → IsNext least q now
next_kept name old now same least q apart next = record {
  from = next.from;
  between = λ m above less. passed_kept name old now same m (apart m above less) (next.between m above less);
}

written_kept : (name : Name) (old now : DiskState) → SameElsewhere name old now → (format : ℕ) (q : StandingLog)
    → Log q.number ≢ name → IsWritten format q old → IsWritten format q now
written_kept name old now same format q apart written = record {
  is_read = written.is_read;
  have = written.have;
  stands = settled_kept name old now same (Log q.number)
      (log_bytes format q.number q.reading.frames) apart written.stands;
}

-- They stay where the disk changes under another name.
pub stand_kept : (P : StandingLog → DiskState → Type 0) (name : Name) (old now : DiskState)
    → SameElsewhere name old now
    → ((q : StandingLog) → Log q.number ≢ name → P q old → P q now) → (least : ℕ) (logs : List StandingLog)
    → ((m : ℕ) → least ≤ m → Log m ≢ name)
    → StandUpTo P least logs old → StandUpTo P least logs now
stand_kept P name old now same keeps least [] apart none =
    λ m from. nowhere_kept name old now same (Log m) (apart m from) (none m from)
stand_kept P name old now same keeps least (q ∷ []) apart (next, holds, none) = (
  next_kept name old now same least q (λ m above less. apart m above) next,
  keeps q (apart q.number next.from) holds,
  λ m above. nowhere_kept name old now same (Log m) (apart m (omega (arith, above, next.from)))
      (none m above),
)
stand_kept P name old now same keeps least (q ∷ p ∷ ps) apart (next, written, rest) = (
  next_kept name old now same least q (λ m above less. apart m above) next,
  written_kept name old now same (format_of q.reading.header) q (apart q.number next.from) written,
  stand_kept P name old now same keeps (q.number + 1) (p ∷ ps)
      (λ m above. apart m (omega (arith, above, next.from))) rest,
)

-- what is read of the last stays too
pub last_kept : (name : Name) (old now : DiskState) → SameElsewhere name old now → (q : StandingLog)
    → Log q.number ≢ name → LastStands q old → LastStands q now
last_kept name old now same q apart is = record {
  file = is.file;
  stands = same.standing (Log q.number) apart ∙ is.stands;
  lawful = is.lawful;
  length_is = is.length_is;
  reads = is.reads;
  no_chance = is.no_chance;
  headless = is.headless;
}

-- ---- the last one

-- the last of a log and those behind it
abbrev pub the_last : StandingLog → List StandingLog → StandingLog
the_last q [] = q
the_last q (p ∷ ps) = the_last p ps

pub last_is : (q : StandingLog) (qs : List StandingLog) → last_of (q ∷ qs) ≡ repairing_of (the_last q qs)
last_is q [] = refl
last_is q (p ∷ ps) = last_is p ps

pub made_is : (state : ManifestState) (q : StandingLog) (qs : List StandingLog)
    → log_made state (q ∷ qs) ≡ log_behind state (the_last q qs).reading.frames
made_is state q [] = refl
made_is state q (p ∷ ps) = made_is state p ps

pub record IsTheLast (P : StandingLog → DiskState → Type 0) (least : ℕ) (q : StandingLog)
    (disk : DiskState) : Type 0 where
  pub from : least ≤ q.number
  pub holds : P q disk
  pub above : (m : ℕ) → q.number < m → IsNowhere disk (Log m)

pub last_stands : (P : StandingLog → DiskState → Type 0) (least : ℕ) (q : StandingLog) (qs : List StandingLog)
    (disk : DiskState) → StandUpTo P least (q ∷ qs) disk
    → IsTheLast P least (the_last q qs) disk
last_stands P least q [] disk (next, holds, none) = record { from = next.from; holds = holds; above = none }
last_stands P least q (p ∷ ps) disk (next, written, rest) =
    let last = last_stands P (q.number + 1) p ps disk rest in
    record { from = omega (arith, next.from, last.from); holds = last.holds; above = last.above }

-- ---- it is repaired

headed_elsewhere : (k : ℕ) (disk : DiskState) → SameElsewhere (Log k) disk
    (with_file (Log k) synced_file (headed k disk))
headed_elsewhere k disk = elsewhere_then (Log k) disk (headed k disk)
    (with_file (Log k) synced_file (headed k disk))
    (changed_elsewhere (Log k) disk (lengthened (log_header log_format k) (length (log_header log_format k))))
    (changed_elsewhere (Log k) (headed k disk) synced_file)

-- What is done to a log changes it alone.
pub repairing_elsewhere : (q : StandingLog) (disk : DiskState)
    → SameElsewhere (Log q.number) disk (behind_last (repairing_of q) disk)
repairing_elsewhere q disk = by (keeps_header q.reading.header q.reading.frames) q.reading.whole (q.length == 0)
  where
    cut : (len : ℕ) → SameElsewhere (Log q.number) disk (with_file (Log q.number) (shortened len len) disk)
    cut len = changed_elsewhere (Log q.number) disk (shortened len len)

    by : (header whole empty : Bool) → SameElsewhere (Log q.number) disk
        (behind_last (if header then (if whole then Kept q.number else Cut q.number
        (content_end q.reading)) else
        (if empty then Headed q.number else Rewritten q.number)) disk)
    by true true empty = changed_elsewhere (Log q.number) disk synced_file
    by true false empty =
        let len = content_end q.reading in
        elsewhere_then (Log q.number) disk (with_file (Log q.number) (shortened len len) disk)
        (behind_last (Cut q.number len) disk) (cut len)
        (changed_elsewhere (Log q.number) (with_file (Log q.number) (shortened len len) disk) synced_file)
    by false whole true = headed_elsewhere q.number disk
    by false whole false = elsewhere_then (Log q.number) disk (with_file (Log q.number) (shortened 0 0) disk)
        (behind_last (Rewritten q.number) disk) (cut 0)
        (headed_elsewhere q.number (with_file (Log q.number) (shortened 0 0) disk))

-- Then all are durable with their frames and nothing else.
pub all_written : (least : ℕ) (logs : List StandingLog) (disk : DiskState)
    → ((q : StandingLog) → IsTheLast LastStands least q disk → IsLastWritten q (behind_last (repairing_of q) disk))
    → StandUpTo LastStands least logs disk → StandUpTo IsLastWritten least logs (behind_last (last_of logs) disk)
all_written least [] disk repairs none = none
all_written least (q ∷ []) disk repairs (next, is, none) =
    let now = behind_last (repairing_of q) disk in
    let same = repairing_elsewhere q disk in (
      next_kept (Log q.number) disk now same least q (λ m above less e. omega
          (arith, less, log_same m q.number e)) next,
      repairs q (record { from = next.from; holds = is; above = none }),
      λ m above. nowhere_kept (Log q.number) disk now same (Log m)
          (λ e. omega (arith, above, log_same m q.number e)) (none m above),
    )
all_written least (q ∷ p ∷ ps) disk repairs (next, written, rest) = (
  next_kept (Log last) disk now same least q (λ m above less e. omega
      (arith, less, up, log_same m last e)) next,
  written_kept (Log last) disk now same (format_of q.reading.header) q (λ e. omega (arith, up, log_same q.number last e)) written,
  all_written (q.number + 1) (p ∷ ps) disk
      (λ x is. repairs x (record {
        from = (let a = is.from in let b = next.from in omega (arith, a, b));
        holds =
            is.holds;
        above = is.above;
      })) rest,
)
  where
    last : ℕ
    last = (the_last p ps).number

    now : DiskState
    now = behind_last (last_of (p ∷ ps)) disk

    up : q.number < (the_last p ps).number
    up = (let from = (last_stands LastStands (q.number + 1) p ps disk rest).from in omega (arith, from))

    same : SameElsewhere (Log (the_last p ps).number) disk (behind_last (last_of (p ∷ ps)) disk)
    same = subst (λ (l : LastLog). SameElsewhere (Log (the_last p ps).number) disk (behind_last l disk))
        (sym (last_is p ps)) (repairing_elsewhere (the_last p ps) disk)

-- ---- what then holds of them

-- A log from a number on is passed over, or is one of these.
pub written_at : (least : ℕ) (logs : List StandingLog) (disk : DiskState)
    → StandUpTo IsLastWritten least logs disk → (m : ℕ) → least ≤ m
    → IsPassedOver disk m ⊎ ((q : StandingLog) × (q.number ≡ m) × ((format : ℕ) × IsWritten format q disk))
written_at least [] disk none m from = inl (nowhere_passed disk m (none m from))
written_at least (q ∷ []) disk (next, written, none) m from = ⊎_elim
    (λ (less : m < q.number). inl (next.between m from less))
    (λ (above : q.number ≤ m). ⊎_elim
    (λ (more : q.number < m). inl (nowhere_passed disk m (none m more)))
    (λ (below : m ≤ q.number). inr (q, omega (arith, above, below), (_, written)))
    (cases_lt q.number m))
    (cases_lt m q.number)
written_at least (q ∷ p ∷ ps) disk (next, written, rest) m from = ⊎_elim
    (λ (less : m < q.number). inl (next.between m from less))
    (λ (above : q.number ≤ m). ⊎_elim
    (λ (more : q.number < m). written_at (q.number + 1) (p ∷ ps) disk rest m (omega (arith, more)))
    (λ (below : m ≤ q.number). inr (q, omega (arith, above, below), (_, written)))
    (cases_lt q.number m))
    (cases_lt m q.number)

-- So in whatever a crash leaves each of them ends with its frames.
pub written_whole : (least : ℕ) (logs : List StandingLog) (disk : DiskState)
    → StandUpTo IsLastWritten least logs disk → (image : Image) → MayLeave disk image → LastIsWhole least image
written_whole least logs disk all image may number bytes reading from stands reads alone = ⊎_elim
    (λ (passed : IsPassedOver disk number). ⊎_elim
    (λ (none : get image (Log number) ≡ None). absurd (some_none bytes (sym stands ∙ none)))
    (λ (back : (format : ℕ) × IsLogFormat format × (get image (Log number) ≡ Some (log_bytes format number []))).
    is_whole number back.0 back.1 [] tt refl back.2)
    (left_passed disk image number passed may))
    (λ (x : (q : StandingLog) × (q.number ≡ number) × ((format : ℕ) × IsWritten format q disk)). by x.0 x.1 x.2.0 x.2.1)
    (written_at least logs disk all number from)
  where
    -- the log was left with these frames and nothing else
    is_whole : (n format : ℕ) → IsLogFormat format → (frames : List LogFrame)
        → AllByRecursion (HasFrame (frames_grammar format)) frames → n ≡ number
        → get image (Log n) ≡ Some (log_bytes format n frames) → reading.whole ≡ true
    is_whole n format is_read frames have at left =
        let there : bytes ≡ log_bytes format n frames =
        some_same bytes (log_bytes format n frames) (sym stands ∙ ap (λ (k : ℕ). get image (Log k)) (sym at) ∙ left) in
        let same : reading ≡ record { header = Some format; frames = frames; whole = true } =
        one_log_reading n (log_bytes format n frames) reading
        (record { header = Some format; frames = frames; whole = true })
        (subst (λ (b : List ℕ). ReadsLog n b reading) there
        (subst (λ (k : ℕ). ReadsLog k bytes reading) (sym at) reads))
        (reads_written format n is_read frames have) in
        ap (λ (r : LogReading). r.whole) same

    by : (q : StandingLog) → q.number ≡ number → (format : ℕ) → IsWritten format q disk → reading.whole ≡ true
    by q at format written = is_whole q.number format written.is_read q.reading.frames written.have at
        (left_settled disk image (Log q.number) (log_bytes format q.number q.reading.frames) written.stands may)

pub written_held : (least : ℕ) (logs : List StandingLog) (disk : DiskState)
    → StandUpTo IsLastWritten least logs disk → HoldsLogs least (as_segments logs) disk
written_held least [] disk none = none
written_held least (q ∷ []) disk (next, written, none) =
    (next.from, next.between, written.is_read, written.have, written.stands, λ m above. none m (omega (arith, above)))
written_held least (q ∷ p ∷ ps) disk (next, written, rest) =
    (next.from, next.between, written.is_read, written.have, written.stands, written_held (q.number + 1) (p ∷ ps) disk rest)

-- ---- how they stand on a disk that may be opened

in_log_apart : (log : ℕ) (r : Result ℕ ℕ) (n : ℕ) → in_log log r ≡ Ok n → (m : ℕ) × (r ≡ Ok m)
in_log_apart log (Ok m) n e = (m, refl)
in_log_apart log (Err place) n e = absurd (err_ok (record { log = log; place = place }) n e)

counted_whole_is : (n m : ℕ) (r : LogReading) → counted_whole n r ≡ Ok m → r.whole ≡ true
counted_whole_is n m r e = by r.whole refl e
  where
    by : (whole : Bool) → r.whole ≡ whole
        → on_ok (λ m. if whole then Ok m else Err (content_end r)) (counted_behind r.header n r.frames) ≡ Ok m
        → r.whole ≡ true
    by true w e = w
    by false w e =
        let apart = ok_apart (λ (m : ℕ). if false then Ok m else Err (content_end r))
        (counted_behind r.header n r.frames) m e in
        absurd (err_ok (content_end r) m apart.2)

-- a log that others follow ends with its frames
followed_whole : (n number : ℕ) (q p : StandingLog) (ps : List StandingLog)
    → walked n (q ∷ p ∷ ps) ≡ Ok number
    → (q.reading.whole ≡ true) × ((m : ℕ) × (walked m (p ∷ ps) ≡ Ok number))
followed_whole n number q p ps e =
    let apart = ok_apart (λ (m : ℕ). walked_on m p ps)
    (in_log q.number (counted_whole n q.reading)) number e in
    let inside = in_log_apart q.number (counted_whole n q.reading) apart.0 apart.1 in
    (counted_whole_is n inside.0 q.reading inside.1, (apart.0, apart.2))

bytes_none : (file : Option File) → None ≡ option_map (λ (f : File). f.bytes) file → file ≡ None
bytes_none None e = refl
bytes_none (Some file) e = absurd (some_none file.bytes (sym e))

bytes_some : (bytes : List ℕ) (file : Option File) → Some bytes ≡ option_map (λ (f : File). f.bytes) file
    → (f : File) × (file ≡ Some f) × (f.bytes ≡ bytes)
bytes_some bytes None e = absurd (some_none bytes e)
bytes_some bytes (Some file) e = (file, refl, sym (some_same bytes file.bytes e))

-- what is asked of the logs from a number on, beside that the disk is lawful and reads as this image
pub record MayRepair (head : ℕ) (read : Image) (disk : DiskState) : Type 0 where
  pub lawful : IsLawful disk
  pub is_read : IsRead read disk
  pub files : AllMayStand disk
  pub gone : OnlyIdleGone head disk
  pub sealed : (m k : ℕ) (file : File) → head ≤ m → m < k → get disk.standing (Log k) ≢ None
      → get disk.standing (Log m) ≡ Some file
      → (file.wholly_synced ≡ true) × (file.lasting ≡ true)

module _ (head : ℕ) (read : Image) (disk : DiskState) (may : MayRepair head read disk) where
  -- what isn't read doesn't stand
  read_free : (m : ℕ) → get read (Log m) ≡ None → get disk.standing (Log m) ≡ None
  read_free m none = bytes_none (get disk.standing (Log m)) (sym none ∙ may.is_read.each (Log m))

  read_passed : (m : ℕ) → head ≤ m → get read (Log m) ≡ None → IsPassedOver disk m
  read_passed m from none = record { free = read_free m none; idle = λ file was. (may.gone m file from was).idle }

  -- where none is read from a number on, none was removed from there on
  pub read_nowhere : (m : ℕ) → head ≤ m → ((k : ℕ) → m ≤ k → get read (Log k) ≡ None) → IsNowhere disk (Log m)
  read_nowhere m from none = record {
    free = read_free m (none m (omega arith));
    never = none_gone head m disk may.gone from (λ k above. read_free k (none k (omega (arith, above))));
  }

  -- the file of a log that was read
  read_file : (m : ℕ) (bytes : List ℕ) → get read (Log m) ≡ Some bytes
      → (f : File) × (get disk.standing (Log m) ≡ Some f) × (f.bytes ≡ bytes)
  read_file m bytes is = bytes_some bytes (get disk.standing (Log m)) (sym is ∙ may.is_read.each (Log m))

  next_read : (least : ℕ) (q : StandingLog) → head ≤ least → IsNextLog read least q → IsNext least q disk
  next_read least q from next = record {
    from = next.from;
    between = λ m above less. read_passed m (omega (arith, from, above)) (next.between m above less);
  }

  last_read : (least : ℕ) (q : StandingLog) → IsNextLog read least q → LastStands q disk
  last_read least q next =
      let (file, stands, bytes) = read_file q.number next.bytes next.stands in
      let reads : ReadsLog q.number file.bytes q.reading =
      subst (λ (b : List ℕ). ReadsLog q.number b q.reading) (sym bytes) next.reads in
      record {
        file = file;
        stands = stands;
        lawful = may.lawful.standing (Log q.number) file stands;
        length_is = next.length_is ∙ ap length (sym bytes);
        reads = reads;
        no_chance = λ right. (may.files (Log q.number) file stands).no_chance
            (λ wrong. right (one_format q.number file.bytes q.reading.header None reads.header wrong));
        headless = λ other. (may.files (Log q.number) file stands).headless
            (λ header. other (one_format q.number file.bytes q.reading.header (Some log_format) reads.header
            (written_is_read, header)));
      }

  -- a log that another follows
  followed_read : (least : ℕ) (q p : StandingLog) → head ≤ least → IsNextLog read least q
      → IsNextLog read (q.number + 1) p → q.reading.whole ≡ true → IsWritten (format_of q.reading.header) q disk
  followed_read least q p from next after whole =
      let (file, stands, bytes) = read_file q.number next.bytes next.stands in
      let (other, stands_other, bytes_other) = read_file p.number after.bytes after.stands in
      let reads : ReadsLog q.number file.bytes q.reading =
      subst (λ (b : List ℕ). ReadsLog q.number b q.reading) (sym bytes) next.reads in
      let durable = may.sealed q.number p.number file (omega (arith, from, (next).from))
      (omega (arith, (after).from)) (λ none. some_none other (sym stands_other ∙ none)) stands in
      let same = (may.lawful.standing (Log q.number) file stands).as_synced durable.0 in
      let (format, header) = whole_has_header q.number file.bytes q.reading reads whole in
      let apart = log_apart q.number file.bytes q.reading reads format header in
      let written : IsWritten format q disk = record {
        is_read = apart.is_read;
        have = apart.have;
        stands = stands ∙ ap Some same ∙ ap (λ (b : List ℕ). Some (settled b))
            (whole_bytes q.number file.bytes q.reading reads format header whole);
      } in
      subst (λ (h : Option ℕ). IsWritten (format_of h) q disk) (sym header) written

  -- So they stand as they were read.
  pub stand_read : (least n number : ℕ) (logs : List StandingLog) → head ≤ least
      → StandingLogs read least logs → walked n logs ≡ Ok number → StandUpTo LastStands least logs disk
  stand_read least n number [] from none walk = λ m above. read_nowhere m (omega (arith, from, above))
      (λ k up. none k (omega (arith, above, up)))
  stand_read least n number (q ∷ []) from (next, none) walk =
      let up = next.from in (
        next_read least q from next,
        last_read least q next,
        λ m above. read_nowhere m (omega (arith, from, up, above)) (λ k over. none k (omega (arith, above, over))),
      )
  stand_read least n number (q ∷ p ∷ ps) from (next, (after, rest)) walk =
      let up = next.from in
      let (whole, (m, more)) = followed_whole n number q p ps walk in (
        next_read least q from next,
        followed_read least q p from next after whole,
        stand_read (q.number + 1) m number (p ∷ ps) (omega (arith, from, up)) (after, rest) more,
      )
