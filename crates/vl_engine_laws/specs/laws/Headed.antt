-- What steps on files ask is so behind an opening, whatever stood on the disk: the log that takes commits has its header alone.
use Rattle.std.specs.Prelude.{◌≡◌, ◌≢◌, ◌≤◌, ℕ, ◌+◌, ◌==◌, ◌||◌, ◌++◌, max, suc, Bool, true, false, if◌then◌else◌}
use Rattle.std.specs.Prelude.{List, [], ◌∷◌, length, take, Option, None, Some, IsSome, Contains, unwrap_or, refl}
use Rattle.std.specs.FinMap.{get}
use Rattle.std.specs.List.{AllByRecursion, filter}
use Rattle.std.specs.Option.{option_map}
use Rattle.std.proofs.Common.{sym, ap, subst, ◌∙◌, arith}
use Rattle.std.proofs.lemmas.Bool.Decides.{nat_tests}
use Rattle.std.proofs.lemmas.List.{take_all}
use Rattle.vl_disk.specs.Changes.{changed_there}
use Rattle.vl_disk.specs.Crash.{Image}
use Rattle.vl_disk.specs.DiskState.{DiskState, File, cut_to, lengthened, new_file, settled, shortened, synced_file, with_file, without}
use Rattle.vl_disk.specs.Started.{IsRead}
use Rattle.vl_disk.specs.declared.name.Name.TheVariants as names
use Rattle.vl_disk.specs.declared.name.Name.{Name}
use Rattle.vl_disk.specs.laws.NameMap.{get_inserted_other, get_removed_other}
use Rattle.vl_engine_laws.specs.Files.{IsLogFile}
use Rattle.vl_engine_laws.specs.laws.KeptLaws.{log_manifest}
use Rattle.vl_engine_laws.specs.laws.StartLaws.{IsAsRead}
use Rattle.vl_frame.specs.Runs.{HasFrame}
use Rattle.vl_engine_model.specs.Start.{has_frames, is_any}
use Rattle.vl_engine_model.specs.declared.segment.Segment.{Segment}
use Rattle.vl_manifest.specs.declared.state.ManifestState.{ManifestState}
use Rattle.vl_model.specs.Formats.{log_format}
use Rattle.vl_model.specs.declared.log_frame.LogFrame.{LogFrame}
use Rattle.vl_recover.specs.laws.crash.OneName.{made_there}
use Rattle.vl_recover.specs.opening.Answers.{Finds, IsStrayName}
use Rattle.vl_recover.specs.opening.Opening.{StandingLogs}
use Rattle.vl_recover.specs.opening.Plans.{active_log, active_of, last_number, log_behind, log_made, new_state}
use Rattle.vl_recover.specs.opening.Walk.{StandingLog, content_end, format_of, keeps_header}
use Rattle.vl_recover.specs.repairing.Repairing.{Cut, Headed, IsPlan, Kept, Plan, Rewritten, behind_last, behind_log}
use Rattle.vl_recover.specs.repairing.Repairing.{behind_strays, headed, last_of, plan_of, repaired, repairing_of}
use Rattle.vl_recover.specs.repairing.Repairing.{with_last, with_log, with_manifest}
use Rattle.vl_seglog.specs.Frames.{frames_grammar, log_header}
use Rattle.vl_seglog.specs.LogReading.{AreBehind, IsLogFormat, ReadsLog, SaysFormat, end_of, is_whole}
use Rattle.vl_seglog.specs.laws.LogReadingLaws.{log_apart}

-- ---- the bytes of one file

-- a file with these bytes stands there
abbrev Has : Name → List ℕ → DiskState → Type 0
Has name bytes disk = option_map (λ (f : File). f.bytes) (get disk.standing name) ≡ Some bytes

has_changed : (name : Name) (bytes new : List ℕ) (change : File → File) (disk : DiskState)
    → ((f : File) → f.bytes ≡ bytes → (change f).bytes ≡ new) → Has name bytes disk → Has name new (with_file name change disk)
has_changed name bytes new change disk does has =
    ap (option_map (λ (f : File). f.bytes)) (changed_there name disk change) ∙ by (get disk.standing name) has
  where
    by : (o : Option File) → option_map (λ (f : File). f.bytes) o ≡ Some bytes
        → option_map (λ (f : File). f.bytes) (option_map change o) ≡ Some new
    by None e = absurd cc
    by (Some f) e = let same : f.bytes ≡ bytes = cc in ap Some (does f same)

pub bytes_had : (bytes : List ℕ) (o : Option File) → option_map (λ (f : File). f.bytes) o ≡ Some bytes
    → (unwrap_or o new_file).bytes ≡ bytes
bytes_had bytes None e = absurd cc
bytes_had bytes (Some f) e = cc

-- what is no stray stays
strays_leave : (strays : List Name) (name : Name) (disk : DiskState) → ((other : Name) → Contains strays other → name ≢ other)
    → get (behind_strays strays disk).standing name ≡ get disk.standing name
strays_leave [] name disk apart = refl
strays_leave (other ∷ strays) name disk apart =
    strays_leave strays name (without other disk) (λ n (k, less, is). apart n (suc k, omega (arith, less), is))
    ∙ get_removed_other disk.standing other name (apart other (0, omega arith, refl))

-- ---- the last log, which has no frames

none_left : (xs : List ℕ) → length xs ≡ 0 → xs ≡ []
none_left [] e = refl
none_left (x ∷ xs) e = absurd (omega (arith, e))

kept_format : (header : Option ℕ) → keeps_header header [] ≡ true → header ≡ Some log_format
kept_format None e = absurd cc
kept_format (Some f) e = by (f == log_format) refl e
  where
    by : (b : Bool) → (f == log_format) ≡ b → (b || false) ≡ true → Some f ≡ Some log_format
    by true test held = let same : f ≡ log_format = grind (arith, nat_tests, test) in ap Some same
    by false test held = absurd cc

module _ (q : StandingLog) (bytes : List ℕ) (long : q.length ≡ length bytes) (reads : ReadsLog q.number bytes q.reading)
    (none : q.reading.frames ≡ []) where
  abbrev name : Name
  name = names.Log q.number

  abbrev header : List ℕ
  header = log_header log_format q.number

  module _ (keeps : keeps_header q.reading.header q.reading.frames ≡ true) where
    is_format : q.reading.header ≡ Some log_format
    is_format = kept_format q.reading.header (sym (ap (keeps_header q.reading.header) none) ∙ keeps)

    content_is : content_end q.reading ≡ 16
    content_is = λ i. end_of (is_format i) (none i)

    front : take 16 bytes ≡ header
    front = (subst (λ (h : Option ℕ). SaysFormat h q.number bytes) is_format reads.header).1

    all_of_it : q.reading.whole ≡ true → bytes ≡ header
    all_of_it whole =
        let test : (length bytes == 16) ≡ true = sym (λ i. is_whole (is_format i) bytes (none i)) ∙ sym reads.whole ∙ whole in
        let size : length bytes ≡ 16 = grind (arith, nat_tests, test) in
        sym (take_all 16 bytes (omega (arith, size))) ∙ front

  headed_has : (disk : DiskState) → Has name [] disk → Has name header (with_file name synced_file (headed q.number disk))
  headed_has disk has =
      has_changed name header header synced_file (headed q.number disk) (λ f is. is)
      (has_changed name [] header (lengthened header (length header)) disk
      (λ f is. ap (λ (bs : List ℕ). bs ++ take (length header) header) is ∙ take_all (length header) header (omega arith)) has)

  last_has : (disk : DiskState) → Has name bytes disk → Has name header (behind_last (repairing_of q) disk)
  last_has disk has =
      by (keeps_header q.reading.header q.reading.frames) refl q.reading.whole refl (q.length == 0) refl
    where
      by : (keeps : Bool) → keeps_header q.reading.header q.reading.frames ≡ keeps → (whole : Bool) → q.reading.whole ≡ whole
          → (empty : Bool) → (q.length == 0) ≡ empty
          → Has name header (behind_last (if keeps then (if whole then Kept q.number else Cut q.number (content_end q.reading))
          else (if empty then Headed q.number else Rewritten q.number)) disk)
      by true keeps true whole empty e =
          has_changed name bytes header synced_file disk (λ f is. is ∙ all_of_it keeps whole) has
      by true keeps false whole empty e =
          let len = content_end q.reading in
          has_changed name header header synced_file (with_file name (shortened len len) disk) (λ f is. is)
          (has_changed name bytes header (shortened len len) disk
          (λ f is. (λ i. take (content_is keeps i) (is i)) ∙ front keeps) has)
      by false keeps whole w true e =
          let zero_long : q.length ≡ 0 = grind (arith, nat_tests, e) in
          let gone : bytes ≡ [] = none_left bytes (sym long ∙ zero_long) in
          headed_has disk (subst (λ (bs : List ℕ). Has name bs disk) gone has)
      by false keeps whole w false e =
          headed_has (cut_to name 0 0 disk) (has_changed name bytes [] (shortened 0 0) disk (λ f is. refl) has)

no_frames : (s : ManifestState) (fs : List LogFrame) → log_behind s fs ≡ None → fs ≡ []
no_frames s [] e = refl
no_frames s (f ∷ fs) e = absurd cc

module _ (image : Image) (s : ManifestState) (disk : DiskState)
    (has : (k : ℕ) (bytes : List ℕ) → get image (names.Log k) ≡ Some bytes → Has (names.Log k) bytes disk) where
  last_headed : (none least : ℕ) (logs : List StandingLog) → StandingLogs image least logs → log_made s logs ≡ None
      → Has (names.Log (last_number none logs)) (log_header log_format (last_number none logs)) (behind_last (last_of logs) disk)
      × (least ≤ last_number none logs)
  last_headed none least [] standing is = absurd cc
  last_headed none least (q ∷ []) (next, rest) is = (
    last_has q next.bytes next.length_is next.reads (no_frames s q.reading.frames is) disk (has q.number next.bytes next.stands),
    next.from,
  )
  last_headed none least (q ∷ p ∷ ps) (next, rest) is =
      let (there, above) = last_headed q.number (q.number + 1) (p ∷ ps) rest is in
      (there, omega (arith, above, next.from))

-- a log that is made has a number that may be given
behind_above : (s : ManifestState) (fs : List LogFrame) (k : ℕ) → log_behind s fs ≡ Some k → s.next_log ≤ k
behind_above s [] k is = absurd cc
behind_above s (f ∷ fs) k is = let same : s.next_log ≡ k = cc in omega (arith, same)

made_above : (s : ManifestState) (logs : List StandingLog) (k : ℕ) → log_made s logs ≡ Some k → s.next_log ≤ k
made_above s [] k is = let same : max s.head s.next_log ≡ k = cc in omega (arith, same)
made_above s (q ∷ []) k is = behind_above s q.reading.frames k is
made_above s (q ∷ p ∷ ps) k is = made_above s (p ∷ ps) k is

module _ {read : Image} (found : Finds read) (start : DiskState) (is_read : IsRead read start) (plan : Plan) (is : IsPlan found plan)
  where
    abbrev new : ManifestState
    new = new_state found.greatest found.opening.state

    abbrev planned : Plan
    planned = plan_of found plan.strays

    -- a stray is no log from head on, and stands
    no_stray : (k : ℕ) → found.opening.state.head ≤ k → (other : Name) → Contains plan.strays other → names.Log k ≢ other
    no_stray k above other among same =
        let stray : IsStrayName found.opening (names.Log k) =
        subst (IsStrayName found.opening) (sym same) (((is.strays.all other).0 among).1) in
        let low = stray.0 in omega (arith, low, above)

    nor_new : (k : ℕ) → get read (names.Log k) ≡ None → (other : Name) → Contains plan.strays other → names.Log k ≢ other
    nor_new k none other among same =
        missing (get read (names.Log k)) none
        (subst (λ (n : Name). IsSome (get read n)) (sym same) (((is.strays.all other).0 among).0))
      where
        missing : (o : Option (List ℕ)) → o ≡ None → IsSome o → ⊥
        missing None e some = cc
        missing (Some bytes) e some = cc

    stood : (k : ℕ) (bytes : List ℕ) → get read (names.Log k) ≡ Some bytes
        → Has (names.Log k) bytes (with_manifest planned start)
    stood k bytes stands =
        ap (option_map (λ (f : File). f.bytes)) (get_inserted_other start.standing (names.Manifest planned.manifest)
        (settled planned.piece) (names.Log k) (log_manifest k planned.manifest))
        ∙ sym (is_read.each (names.Log k)) ∙ stands

    by_log : (log : Option ℕ) → log_made new found.logs ≡ log → planned.log ≡ log
        → Has (names.Log (active_of log found.logs)) (log_header log_format (active_of log found.logs)) (with_log planned start)
        × ((other : Name) → Contains plan.strays other → names.Log (active_of log found.logs) ≢ other)
    by_log (Some k) made_is log_is = (
      subst (λ (o : Option ℕ). Has (names.Log k) (log_header log_format k) (behind_log o (with_last planned start))) (sym log_is)
          (ap (option_map (λ (f : File). f.bytes)) (made_there (names.Log k) (log_header log_format k) (with_last planned start))),
      nor_new k (found.are_greatest.log.none_above k (let above = made_above new found.logs k made_is in omega (arith, above))),
    )
    by_log None made_is log_is =
        let (there, above) = last_headed read new (with_manifest planned start) stood 0 found.opening.state.head found.logs
        found.standing made_is in (
          subst (λ (o : Option ℕ). Has (names.Log (last_number 0 found.logs)) (log_header log_format (last_number 0 found.logs))
              (behind_log o (with_last planned start))) (sym log_is) there,
          no_stray (last_number 0 found.logs) above,
        )

    pub active_headed : Has (names.Log (active_log found.greatest found.opening.state found.logs))
        (log_header log_format (active_log found.greatest found.opening.state found.logs)) (repaired plan start)
    active_headed =
        let number = active_log found.greatest found.opening.state found.logs in
        let (there, apart) = by_log (log_made new found.logs) refl refl in
        subst (λ (p : Plan). Has (names.Log number) (log_header log_format number) (repaired p start)) (sym is.is)
        (ap (option_map (λ (f : File). f.bytes)) (strays_leave plan.strays (names.Log number) (with_log planned start) apart) ∙ there)

-- ---- the logs before it

some_frames : (s : Segment) → s.frames ≡ [] → has_frames s ≡ true → ⊥
some_frames s none some = let no : is_any [] ≡ true = sym (ap is_any none) ∙ some in cc

read_file : (image : Image) (s : Segment) → IsAsRead image s → has_frames s ≡ true → IsLogFile s
read_file image s is some = by is.reading.header refl
  where
    by : (header : Option ℕ) → is.reading.header ≡ header → IsLogFile s
    by None e = absurd (some_frames s (sym is.frames
        ∙ subst (λ (h : Option ℕ). AreBehind h s.number is.bytes is.reading.frames) e is.reads.frames) some)
    by (Some f) e =
        let apart = log_apart s.number is.bytes is.reading is.reads f e in
        let same : f ≡ s.format = sym (ap format_of e) ∙ is.format some in
        record {
          readable = subst IsLogFormat same apart.is_read;
          have = subst (λ (n : ℕ). AllByRecursion (HasFrame (frames_grammar n)) s.frames) same
              (subst (AllByRecursion (HasFrame (frames_grammar f))) is.frames apart.have);
        }

pub read_files : (image : Image) (ss : List Segment) → AllByRecursion (IsAsRead image) ss
    → AllByRecursion IsLogFile (filter has_frames ss)
read_files image [] all = tt
read_files image (s ∷ ss) all = by (read_files image ss all.1) (has_frames s) refl
  where
    by : AllByRecursion IsLogFile (filter has_frames ss) → (b : Bool) → has_frames s ≡ b
        → AllByRecursion IsLogFile (if b then s ∷ filter has_frames ss else filter has_frames ss)
    by rest true some = (read_file image s all.0 some, rest)
    by rest false none = rest
