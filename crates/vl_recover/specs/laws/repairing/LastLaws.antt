-- What becomes of the last log: what a crash leaves meanwhile opens as before, and then it is durable with
-- its frames and nothing else.
use Rattle.std.specs.Prelude.{◌≡◌, ◌≢◌, ℕ, ◌+◌, ◌≤◌, ◌<◌, ◌==◌, ◌||◌, Bool, List, [], ◌∷◌, ◌++◌, length, take, All}
use Rattle.std.specs.Prelude.{Option, None, Some, if◌then◌else◌, false, true, refl}
use Rattle.std.specs.FinMap.{get}
use Rattle.std.specs.List.{AllByRecursion}
use Rattle.std.specs.Option.{option_map}
use Rattle.std.proofs.Common.{ap, arith, inl, inr, subst, sym, ◌∙◌, ⊎_elim}
use Rattle.std.proofs.lemmas.Bool.{cases_Bool, cases_eq, cases_lt, true≢false}
use Rattle.std.proofs.lemmas.Bool.Decides.{nat_tests}
use Rattle.std.proofs.lemmas.List.{take_all}
use Rattle.std.proofs.lemmas.List.Elements.{All-push}
use Rattle.vl_disk.specs.Chance.{NoChanceOne}
use Rattle.vl_disk.specs.Changes.{SameElsewhere, changed_elsewhere, changed_there}
use Rattle.vl_disk.specs.Crash.{WhileAppending, WhileCutting, WhileSyncing}
use Rattle.vl_disk.specs.Disk.{IsInside}
use Rattle.vl_disk.specs.DiskState.{DiskState, File, IsLawfulFile, Piece, appended, cut_to, lengthened, settled}
use Rattle.vl_disk.specs.DiskState.{shortened, synced, synced_file, with_file}
use Rattle.vl_disk.specs.declared.name.Name.TheVariants.{Log, Manifest, Table}
use Rattle.vl_frame.specs.Runs.{HasFrame}
use Rattle.vl_manifest.specs.declared.state.ManifestState.{ManifestState}
use Rattle.vl_model.specs.Formats.{log_format}
use Rattle.vl_model.specs.declared.log_frame.LogFrame.{LogFrame}
use Rattle.vl_recover.specs.crash.Alike.{OpensAsOf, Spells}
use Rattle.vl_recover.specs.laws.crash.AlikeLaws.{log_same}
use Rattle.vl_recover.specs.crash.Held.{IsNowhere, IsSettled, View}
use Rattle.vl_recover.specs.crash.Starts.{StaysAsItIs}
use Rattle.vl_recover.specs.laws.opening.LeadsLaws.{Leads, leads_kept, nowhere_kept, settled_kept, unled_unneeded}
use Rattle.vl_recover.specs.opening.Opening.{IsAmong, led_into}
use Rattle.vl_recover.specs.repairing.Repairing.{Cut, Headed, Kept, LastLog, Rewritten, WhileHeading, WhileLast}
use Rattle.vl_recover.specs.repairing.Repairing.{behind_last, headed, repairing_of}
use Rattle.vl_recover.specs.laws.repairing.RepairingSteps.{IsLast, change_step, manifest_log, sync_step}
use Rattle.vl_recover.specs.laws.crash.OneName.{as_before, as_of_then, elsewhere_then}
use Rattle.vl_recover.specs.laws.crash.Torn.{LeavesNone, cut_no_chance, leaves_empty, leaves_none, leaves_read}
use Rattle.vl_recover.specs.laws.crash.Torn.{no_reading, ended_no_chance, torn_cut, torn_header, uncut, uncut_chance}
use Rattle.vl_recover.specs.opening.Answers.{last_format}
use Rattle.vl_recover.specs.opening.Walk.{StandingLog, format_of, has_some, keeps_header}
use Rattle.vl_seglog.specs.laws.FrameLaws.{length-log_header}
use Rattle.vl_seglog.specs.Frames.{frames_end, frames_grammar, log_bytes, log_header}
use Rattle.vl_seglog.specs.LogReading.{AreBehind, IsLogFormat, LogReading, ReadsLog, SaysFormat, end_of, is_whole}
use Rattle.vl_seglog.specs.laws.LogReadingLaws.{frames_within, log_apart, reads_cut, reads_no_header, written_is_read}

-- no piece that is unsynced goes past the header
abbrev pub IsWithinHeader : File → Type 0
IsWithinHeader file = All (λ piece. piece.place + length piece.bytes ≤ 16) file.unsynced

-- How the last log stands on a disk that may be opened.
pub record LastStands (q : StandingLog) (disk : DiskState) : Type 0 where
  pub file : File
  pub stands : get disk.standing (Log q.number) ≡ Some file
  pub lawful : IsLawfulFile file
  pub length_is : q.length ≡ length file.bytes
  pub reads : ReadsLog q.number file.bytes q.reading
  pub no_chance : (q.reading.header ≡ None → ⊥) → NoChanceOne Spells (Log q.number) (Some file) (Some file.bytes)
  pub headless : (q.reading.header ≡ Some log_format → ⊥) → IsWithinHeader file

-- The log is durable in a format with its frames and nothing else.
pub record IsWritten (format : ℕ) (q : StandingLog) (disk : DiskState) : Type 0 where
  pub is_read : IsLogFormat format
  pub have : AllByRecursion (HasFrame (frames_grammar format)) q.reading.frames
  pub stands : IsSettled disk (Log q.number) (log_bytes format q.number q.reading.frames)

-- So it is with the last.
abbrev pub IsLastWritten : StandingLog → DiskState → Type 0
IsLastWritten q disk = IsWritten (last_format q.reading.header q.reading.frames) q disk

-- So it becomes of the last log.
pub record RepairsLast (number : ℕ) (s : ManifestState) (v : View) (q : StandingLog) (disk : DiskState) (l : LastLog) : Type 0 where
  pub meanwhile : (now : DiskState) → WhileLast l disk now → OpensAsOf disk now
  pub after : OpensAsOf disk (behind_last l disk)
  pub leads : Leads number s v (behind_last l disk)
  pub written : IsLastWritten q (behind_last l disk)

-- ---- what it says

pub number_same : (m n : ℕ) → (m == n) ≡ true → m ≡ n
number_same m n e = grind (arith, nat_tests)

number_other : (m n : ℕ) → (m == n) ≡ false → m ≢ n
number_other m n e = grind (arith, nat_tests)

pub none_without : (number : ℕ) (bytes : List ℕ) (reading : LogReading) → ReadsLog number bytes reading
    → reading.header ≡ None → reading.frames ≡ []
none_without number bytes reading reads header = subst
    (λ (h : Option ℕ). AreBehind h number bytes reading.frames) header reads.frames

pub wrong_header : (number : ℕ) (bytes : List ℕ) (reading : LogReading) → ReadsLog number bytes reading
    → reading.header ≡ None → SaysFormat None number bytes
wrong_header number bytes reading reads header =
    subst (λ (h : Option ℕ). SaysFormat h number bytes) header reads.header

pub none_some : (format : ℕ) → ◌≡◌ {A = Option ℕ} (Some format) None → ⊥
none_some format e = cc

-- a log that doesn't keep its header has no frames
pub unkept_none : (number : ℕ) (bytes : List ℕ) (reading : LogReading) → ReadsLog number bytes reading
    → keeps_header reading.header reading.frames ≡ false → reading.frames ≡ []
unkept_none number bytes reading reads keeps = by reading.header reading.frames keeps refl refl
  where
    over : (b : Bool) → (b || true) ≡ true
    over true = refl
    over false = refl

    by : (header : Option ℕ) (frames : List LogFrame) → keeps_header header frames ≡ false
        → reading.header ≡ header → reading.frames ≡ frames → reading.frames ≡ []
    by None frames e h f = none_without number bytes reading reads h
    by (Some format) [] e h f = f
    by (Some format) (g ∷ gs) e h f = absurd (true≢false (sym (over (format == log_format)) ∙ e))

module _ (number : ℕ) (bytes : List ℕ) (reading : LogReading) (reads : ReadsLog number bytes reading)
    (format : ℕ) (header : reading.header ≡ Some format) where
  by_length : (w : Bool) → reading.whole ≡ w → (length bytes == frames_end format reading.frames) ≡ w
  by_length w is = sym (ap (λ (h : Option ℕ). is_whole h bytes reading.frames) header) ∙ sym reads.whole ∙ is

  -- A log that is whole has its frames and nothing else.
  pub whole_bytes : reading.whole ≡ true → bytes ≡ log_bytes format number reading.frames
  whole_bytes whole =
      let same : length bytes ≡ frames_end format reading.frames =
      number_same (length bytes) (frames_end format reading.frames) (by_length true whole) in
      sym (take_all (frames_end format reading.frames) bytes (omega (arith, same)))
      ∙ reads_cut number bytes reading reads format header

  -- One that isn't goes on behind them.
  pub goes_past : reading.whole ≡ false → frames_end format reading.frames < length bytes
  goes_past whole =
      let other = number_other (length bytes) (frames_end format reading.frames) (by_length false whole) in
      let within = frames_within number bytes reading reads format header in
      omega (arith, other, within)

-- A wholly synced file is durable to its end.
pub loose_below : (file : File) (len : ℕ) → IsLawfulFile file → len < length file.bytes → file.synced ≤ len
    → file.wholly_synced ≡ false
loose_below file len lawful past flat = ⊎_elim
    (λ (whole : file.wholly_synced ≡ true). let all : file.synced ≡ length file.bytes =
    ap (λ (x : File). x.synced) (lawful.as_synced whole) in absurd (omega (arith, all, past, flat)))
    (λ (loose : file.wholly_synced ≡ false). loose)
    (cases_Bool file.wholly_synced)

table_log : (m n : ℕ) → Table m ≡ Log n → ⊥
table_log m n e = cc

headed_elsewhere : (k : ℕ) (disk : DiskState) → SameElsewhere (Log k) disk (synced (Log k) (headed k disk))
headed_elsewhere k disk = elsewhere_then (Log k) disk (headed k disk) (synced (Log k) (headed k disk))
    (changed_elsewhere (Log k) disk (lengthened (log_header log_format k) (length (log_header log_format k))))
    (changed_elsewhere (Log k) (headed k disk) synced_file)

-- A sync leaves what is durable so.
pub synced_leads : (number : ℕ) (s : ManifestState) (v : View) (k : ℕ) (disk : DiskState) → Leads number s v disk
    → Leads number s v (synced (Log k) disk)
synced_leads number s v k disk leads =
    let same = changed_elsewhere (Log k) disk synced_file in
    record {
      bytes = leads.bytes;
      is_whole = leads.is_whole;
      stands = settled_kept (Log k) disk (synced (Log k) disk) same (Manifest number) leads.bytes (manifest_log number k) leads.stands;
      says = leads.says;
      above = λ m less. nowhere_kept (Log k) disk (synced (Log k) disk) same (Manifest m) (manifest_log m k) (leads.above m less);
      needs = record {
        named = leads.needs.named;
        led = leads.needs.led;
        tables = λ n named. (let (bytes, read, stands) = leads.needs.tables n named in
            (bytes, read, settled_kept (Log k) disk (synced (Log k) disk) same (Table n) bytes (table_log n k) stands));
        logs = λ n among. (let (bytes, read, stands) = leads.needs.logs n among in (
          bytes,
          read,
          ⊎_elim
              (λ (at : n ≡ k). ap (λ (x : ℕ). get (synced (Log k) disk).standing (Log x)) at
              ∙ changed_there (Log k) disk synced_file
              ∙ ap (option_map synced_file) (ap (λ (x : ℕ). get disk.standing (Log x)) (sym at) ∙ stands))
              (λ (other : n ≢ k). settled_kept (Log k) disk (synced (Log k) disk) same (Log n) bytes
              (λ e. other (log_same n k e)) stands)
              (cases_eq n k),
        ));
      };
    }

module _ (number : ℕ) (s : ManifestState) (v : View) (k : ℕ) where
  -- a change of it leaves it the last
  still_last : (disk : DiskState) (change : File → File) → IsLast number s v k disk
      → IsLast number s v k (with_file (Log k) change disk)
  still_last disk change last = record {
    leads = leads_kept number s v (Log k) disk (with_file (Log k) change disk)
        (changed_elsewhere (Log k) disk change) (λ m from. manifest_log m k) (unled_unneeded s v k last.unled) last.leads;
    unled = last.unled;
    from = last.from;
    above = λ m less. nowhere_kept (Log k) disk (with_file (Log k) change disk)
        (changed_elsewhere (Log k) disk change) (Log m) (λ e. omega (arith, less, log_same m k e))
        (last.above m less);
  }

  changed_file : (disk : DiskState) (change : File → File) (file : File)
      → get disk.standing (Log k) ≡ Some file → get (with_file (Log k) change disk).standing (Log k) ≡ Some
      (change file)
  changed_file disk change file stands = changed_there (Log k) disk change ∙ ap (option_map change) stands

  -- ---- synced

  sync_law : (disk : DiskState) (file : File) → get disk.standing (Log k) ≡ Some file
      → NoChanceOne Spells (Log k) (Some file) (Some file.bytes)
      → (now : DiskState) → WhileSyncing (Log k) disk now → OpensAsOf disk now
  sync_law disk file stands as_read now during = ⊎_elim
      (λ (same : now ≡ disk). subst (OpensAsOf disk) (sym same) (as_before disk))
      (λ (turns : now ≡ synced (Log k) disk). subst (OpensAsOf disk) (sym turns)
      (sync_step k disk file stands as_read))
      during

  -- ---- given a header

  module _ (disk : DiskState) (file : File) (last : IsLast number s v k disk)
      (stands : get disk.standing (Log k) ≡ Some file) (empty : file.bytes ≡ []) (none : file.synced ≡ 0)
      (within : IsWithinHeader file) where
    no_header : SaysFormat None k []
    no_header format is_read is = omega (arith, ap length is)

    reads_empty : ReadsLog k file.bytes no_reading
    reads_empty = subst (λ (b : List ℕ). ReadsLog k b no_reading) (sym empty) (reads_no_header k [] no_header)

    empty_chance : NoChanceOne Spells (Log k) (Some file) (Some file.bytes)
    empty_chance = ended_no_chance (Log k) file file.bytes (omega (arith, ap length empty))

    headed_step : (taken : ℕ) → OpensAsOf disk (appended (Log k) (log_header log_format k) taken disk)
    headed_step taken = change_step number s v k disk file last stands (leaves_read (Log k) file empty_chance)
        no_reading reads_empty
        (lengthened (log_header log_format k) taken) refl
        (λ bytes agrees chance. inl (torn_header k (lengthened (log_header log_format k) taken file) bytes refl
        (omega (arith, none))
        (All-push (λ (piece : Piece). piece.place + length piece.bytes ≤ 16) file.unsynced
        (record { place = length file.bytes; bytes = log_header log_format k }) within
        (omega (arith, ap length empty, length-log_header log_format k)))
        chance no_reading refl))

    header_bytes_are : (lengthened (log_header log_format k) (length (log_header log_format k)) file).bytes ≡ log_header log_format k
    header_bytes_are = ap (λ (b : List ℕ). b ++ take (length (log_header log_format k)) (log_header log_format k)) empty
        ∙ take_all (length (log_header log_format k)) (log_header log_format k) (omega arith)

    headed_stands : get (headed k disk).standing (Log k) ≡ Some
        (lengthened (log_header log_format k) (length (log_header log_format k)) file)
    headed_stands = changed_file disk (lengthened (log_header log_format k) (length (log_header log_format k))) file stands

    headed_last : IsLast number s v k (headed k disk)
    headed_last = still_last disk (lengthened (log_header log_format k) (length (log_header log_format k))) last

    headed_chance : NoChanceOne Spells (Log k) (Some (lengthened (log_header log_format k) (length (log_header log_format k)) file))
        (Some (lengthened (log_header log_format k) (length (log_header log_format k)) file).bytes)
    headed_chance = ended_no_chance (Log k) (lengthened (log_header log_format k) (length (log_header log_format k)) file)
        (lengthened (log_header log_format k) (length (log_header log_format k)) file).bytes
        (omega (arith, ap length header_bytes_are, length-log_header log_format k))

    heading_law : (now : DiskState) → WhileHeading k disk now → OpensAsOf disk now
    heading_law now during = ⊎_elim
        (λ (w : WhileAppending (Log k) (log_header log_format k) disk now). ⊎_elim
        (λ (same : now ≡ disk). subst (OpensAsOf disk) (sym same) (as_before disk))
        (λ (x : (taken : ℕ) × (taken ≤ length (log_header log_format k))
        × (now ≡ appended (Log k) (log_header log_format k) taken disk)). subst (OpensAsOf disk) (sym x.2)
        (headed_step x.0))
        w)
        (λ (w : WhileSyncing (Log k) (headed k disk) now). as_of_then disk (headed k disk) now
        (headed_step (length (log_header log_format k)))
        (sync_law (headed k disk) (lengthened (log_header log_format k)
        (length (log_header log_format k)) file) headed_stands headed_chance now w))
        during

    headed_after : OpensAsOf disk (synced (Log k) (headed k disk))
    headed_after = heading_law (synced (Log k) (headed k disk)) (inr (inr refl))

    headed_settled : IsSettled (synced (Log k) (headed k disk)) (Log k) (log_bytes log_format k [])
    headed_settled = changed_file (headed k disk) synced_file
        (lengthened (log_header log_format k) (length (log_header log_format k)) file) headed_stands
        ∙ ap (λ (b : List ℕ). Some (settled b)) header_bytes_are

-- ---- the cases

alone : (b : Bool) → (b || false) ≡ true → b ≡ true
alone true e = refl
alone false e = e

module _ (number : ℕ) (s : ManifestState) (v : View) (q : StandingLog) (disk : DiskState)
    (leads : Leads number s v disk) (from : s.head ≤ q.number) (above : (m : ℕ) → q.number < m → IsNowhere disk (Log m))
    (led : IsAmong (led_into v.levels) q.number → StaysAsItIs q.reading) (is : LastStands q disk) where
  abbrev k : ℕ
  k = q.number

  last_of_unled : (IsAmong (led_into v.levels) q.number → ⊥) → IsLast number s v q.number disk
  last_of_unled not = record { leads = leads; unled = not; from = from; above = above }

  leads_elsewhere : (l : LastLog) → (IsAmong (led_into v.levels) q.number → ⊥)
      → SameElsewhere (Log q.number) disk (behind_last l disk) → Leads number s v (behind_last l disk)
  leads_elsewhere l not same = leads_kept number s v (Log q.number) disk (behind_last l disk) same
      (λ m up. manifest_log m q.number) (unled_unneeded s v q.number not) leads

  -- without frames it is written once it has its header alone
  written_none : (d : DiskState) → q.reading.frames ≡ [] → IsSettled d (Log q.number) (log_bytes log_format q.number [])
      → IsLastWritten q d
  written_none d none stands =
      let format : log_format ≡ last_format q.reading.header q.reading.frames =
      sym (ap (last_format q.reading.header) none) in
      record {
        is_read = subst IsLogFormat format written_is_read;
        have = subst (AllByRecursion (HasFrame (frames_grammar (last_format q.reading.header q.reading.frames))))
            (sym none) tt;
        stands = subst (λ (fs : List LogFrame). IsSettled d (Log q.number)
            (log_bytes (last_format q.reading.header q.reading.frames) q.number fs)) (sym none)
            (subst (λ (n : ℕ). IsSettled d (Log q.number) (log_bytes n q.number [])) format stands);
      }

  -- where it keeps its header, it has the format that this says
  module _ (format : ℕ) (header : q.reading.header ≡ Some format)
      (keeps : keeps_header q.reading.header q.reading.frames ≡ true) where
    abbrev end : ℕ
    end = frames_end format q.reading.frames

    right : q.reading.header ≡ None → ⊥
    right none = none_some format (sym header ∙ none)

    last_is : last_format q.reading.header q.reading.frames ≡ format
    last_is = by q.reading.frames (sym (ap (λ (h : Option ℕ). keeps_header h q.reading.frames) header) ∙ keeps)
        ∙ refl
      where
        by : (frames : List LogFrame) → ((format == log_format) || has_some frames) ≡ true
            → last_format q.reading.header frames ≡ format
        by [] e = sym (number_same format log_format (alone (format == log_format) e))
        by (f ∷ fs) e = ap format_of header

    written : (d : DiskState) → IsSettled d (Log q.number) (log_bytes format q.number q.reading.frames) → IsLastWritten q d
    written d stands =
        let apart = log_apart k is.file.bytes q.reading is.reads format header in
        record {
          is_read = subst IsLogFormat (sym last_is) apart.is_read;
          have = subst (λ (n : ℕ). AllByRecursion (HasFrame (frames_grammar n)) q.reading.frames) (sym last_is) apart.have;
          stands = subst (λ (n : ℕ). IsSettled d (Log q.number) (log_bytes n q.number q.reading.frames)) (sym last_is) stands;
        }

    kept_law : q.reading.whole ≡ true → RepairsLast number s v q disk (Kept q.number)
    kept_law whole = record {
      meanwhile = sync_law number s v k disk is.file is.stands (is.no_chance right);
      after = sync_law number s v k disk is.file is.stands (is.no_chance right) (synced (Log k) disk)
          (inr refl);
      leads = synced_leads number s v k disk leads;
      written = written (synced (Log k) disk) (changed_file number s v k disk synced_file is.file is.stands
          ∙ ap (λ (b : List ℕ). Some (settled b))
          (whole_bytes k is.file.bytes q.reading is.reads format header whole));
    }

    module _ (goes_on : q.reading.whole ≡ false) where
      last : IsLast number s v q.number disk
      last = last_of_unled (λ among. true≢false (sym (led among).0 ∙ goes_on))

      loose : is.file.synced ≤ frames_end format q.reading.frames → is.file.wholly_synced ≡ false
      loose = loose_below is.file end is.lawful (goes_past k is.file.bytes q.reading is.reads format header goes_on)

      cut_step : (left : ℕ) → frames_end format q.reading.frames ≤ left
          → OpensAsOf disk (cut_to (Log q.number) (frames_end format q.reading.frames) left disk)
      cut_step left short = change_step number s v k disk is.file last is.stands
          (leaves_read (Log k) is.file (is.no_chance right)) q.reading is.reads (shortened end left) refl
          (λ bytes agrees chance. ⊎_elim
          (λ (deep : end < is.file.synced). inl
          (torn_cut k is.file q.reading is.lawful is.reads format header left short deep bytes agrees chance))
          (λ (flat : is.file.synced ≤ end). inr (record {
            may = uncut k end is.file left short flat bytes (loose flat) agrees;
            no_chance = uncut_chance k end is.file left short flat bytes (Log k) chance;
          }))
          (cases_lt end is.file.synced))

      cut_stands : get (cut_to (Log q.number) (frames_end format q.reading.frames)
          (frames_end format q.reading.frames) disk).standing (Log q.number) ≡ Some
          (shortened (frames_end format q.reading.frames) (frames_end format q.reading.frames) is.file)
      cut_stands = changed_file number s v k disk (shortened end end) is.file is.stands

      sync_cut : (now : DiskState) → WhileSyncing (Log q.number)
          (cut_to (Log q.number) (frames_end format q.reading.frames) (frames_end format q.reading.frames) disk) now
          → OpensAsOf disk now
      sync_cut now during = as_of_then disk (cut_to (Log k) end end disk) now (cut_step end (omega arith))
          (sync_law number s v k (cut_to (Log k) end end disk) (shortened end end is.file)
          cut_stands
          (cut_no_chance k end is.file loose (is.no_chance right)) now during)

      cut_law : RepairsLast number s v q disk (Cut q.number (frames_end format q.reading.frames))
      cut_law = record {
        meanwhile = λ now during. ⊎_elim
            (λ (w : WhileCutting (Log k) end disk now). ⊎_elim
            (λ (same : now ≡ disk). subst (OpensAsOf disk) (sym same) (as_before disk))
            (λ (x : (left : ℕ) × (end ≤ left) × IsInside (Log k) left disk
            × (now ≡ cut_to (Log k) end left disk)). subst (OpensAsOf disk) (sym x.3) (cut_step x.0 x.1))
            w)
            (λ (w : WhileSyncing (Log k) (cut_to (Log k) end end disk) now). sync_cut now w)
            during;
        after = sync_cut (synced (Log k) (cut_to (Log k) end end disk)) (inr refl);
        leads = leads_elsewhere (Cut q.number end) last.unled (elsewhere_then (Log k) disk (cut_to (Log k) end end disk)
            (synced (Log k) (cut_to (Log k) end end disk)) (changed_elsewhere (Log k) disk (shortened end end))
            (changed_elsewhere (Log k) (cut_to (Log k) end end disk) synced_file));
        written = written (synced (Log k) (cut_to (Log k) end end disk))
            (changed_file number s v k (cut_to (Log k) end end disk) synced_file
            (shortened end end is.file) cut_stands
            ∙ ap (λ (b : List ℕ). Some (settled b)) (reads_cut k is.file.bytes q.reading is.reads format header));
      }

  -- where it keeps none
  module _ (keeps : keeps_header q.reading.header q.reading.frames ≡ false) where
    last0 : IsLast number s v q.number disk
    last0 = last_of_unled (λ among. true≢false (sym (led among).1 ∙ keeps))

    none : q.reading.frames ≡ []
    none = unkept_none k is.file.bytes q.reading is.reads keeps

    not_written : q.reading.header ≡ Some log_format → ⊥
    not_written header = true≢false (sym (ap (λ (h : Option ℕ). keeps_header h q.reading.frames) header) ∙ keeps)

    within : IsWithinHeader is.file
    within = is.headless not_written

    headed_law : q.length ≡ 0 → RepairsLast number s v q disk (Headed q.number)
    headed_law zero =
        let short : length is.file.bytes ≡ 0 = sym is.length_is ∙ zero in
        let empty : is.file.bytes ≡ [] = nothing is.file.bytes short in
        let synced_none : is.file.synced ≡ 0 = none_synced is.file is.lawful short in
        record {
          meanwhile = heading_law number s v k disk is.file last0 is.stands empty synced_none within;
          after = headed_after number s v k disk is.file last0 is.stands empty synced_none within;
          leads = leads_elsewhere (Headed q.number) last0.unled (headed_elsewhere k disk);
          written = written_none (synced (Log k) (headed k disk)) none
              (headed_settled number s v k disk is.file last0 is.stands empty synced_none within);
        }
      where
        nothing : (bytes : List ℕ) → length bytes ≡ 0 → bytes ≡ []
        nothing [] e = refl
        nothing (b ∷ bs) e = absurd (omega (arith, e))

        none_synced : (file : File) → IsLawfulFile file → length file.bytes ≡ 0 → file.synced ≡ 0
        none_synced file lawful short = omega (arith, lawful.within, short)

    -- it could be left without frames before
    before : LeavesNone q.number is.file
    before = by q.reading.header refl
      where
        by : (header : Option ℕ) → q.reading.header ≡ header → LeavesNone q.number is.file
        by None h = leaves_none k is.file (wrong_header k is.file.bytes q.reading is.reads h)
        by (Some format) h = leaves_empty k is.file q.reading is.reads none
            (is.no_chance (λ wrong. none_some format (sym h ∙ wrong)))

    emptied_step : (left : ℕ) → OpensAsOf disk (cut_to (Log q.number) 0 left disk)
    emptied_step left = change_step number s v k disk is.file last0 is.stands before.leaves
        before.reading before.reads (shortened 0 left) refl
        (λ bytes agrees chance. inl (torn_header k (shortened 0 left is.file) bytes refl (omega arith)
        within chance before.reading before.none))

    emptied_stands : get (cut_to (Log q.number) 0 0 disk).standing (Log q.number) ≡ Some
        (shortened 0 0 is.file)
    emptied_stands = changed_file number s v k disk (shortened 0 0) is.file is.stands

    emptied_last : IsLast number s v q.number (cut_to (Log q.number) 0 0 disk)
    emptied_last = still_last number s v k disk (shortened 0 0) last0

    rewritten_law : RepairsLast number s v q disk (Rewritten q.number)
    rewritten_law = record {
      meanwhile = λ now during. ⊎_elim
          (λ (w : WhileCutting (Log k) 0 disk now). ⊎_elim
          (λ (same : now ≡ disk). subst (OpensAsOf disk) (sym same) (as_before disk))
          (λ (x : (left : ℕ) × (0 ≤ left) × IsInside (Log k) left disk
          × (now ≡ cut_to (Log k) 0 left disk)). subst (OpensAsOf disk) (sym x.3) (emptied_step x.0))
          w)
          (λ (w : WhileHeading k (cut_to (Log k) 0 0 disk) now). as_of_then disk (cut_to (Log k) 0 0 disk) now
          (emptied_step 0)
          (heading_law number s v k (cut_to (Log k) 0 0 disk)
          (shortened 0 0 is.file) emptied_last emptied_stands refl (omega arith) within now w))
          during;
      after = as_of_then disk (cut_to (Log k) 0 0 disk) (synced (Log k) (headed k (cut_to (Log k) 0 0 disk)))
          (emptied_step 0)
          (headed_after number s v k (cut_to (Log k) 0 0 disk)
          (shortened 0 0 is.file) emptied_last emptied_stands refl (omega arith) within);
      leads = leads_elsewhere (Rewritten q.number) last0.unled (elsewhere_then (Log k) disk (cut_to (Log k) 0 0 disk)
          (synced (Log k) (headed k (cut_to (Log k) 0 0 disk))) (changed_elsewhere (Log k) disk (shortened 0 0))
          (headed_elsewhere k (cut_to (Log k) 0 0 disk)));
      written = written_none (synced (Log k) (headed k (cut_to (Log k) 0 0 disk))) none
          (headed_settled number s v k (cut_to (Log k) 0 0 disk)
          (shortened 0 0 is.file) emptied_last emptied_stands refl (omega arith) within);
    }

  -- What an opening makes of the last log.
  pub last_law : RepairsLast number s v q disk (repairing_of q)
  last_law = by q.reading.header (keeps_header q.reading.header q.reading.frames) q.reading.whole (q.length == 0)
      refl refl refl refl
    where
      by : (header : Option ℕ) (keeps whole empty : Bool) → q.reading.header ≡ header
          → keeps_header q.reading.header q.reading.frames ≡ keeps → q.reading.whole ≡ whole
          → (q.length == 0) ≡ empty
          → RepairsLast number s v q disk (if keeps then (if whole then Kept q.number else Cut q.number
          (end_of header q.reading.frames)) else
          (if empty then Headed q.number else Rewritten q.number))
      by (Some format) true true empty h p w e = kept_law format h p w
      by (Some format) true false empty h p w e = cut_law format h p w
      by None true whole empty h p w e = absurd (true≢false (sym p
          ∙ ap (λ (o : Option ℕ). keeps_header o q.reading.frames) h))
      by header false whole true h p w e = headed_law p (number_same q.length 0 e)
      by header false whole false h p w e = rewritten_law p
