-- What reads leave of what a transaction sees.
use Rattle.std.specs.Prelude.{IsErrAnd, OnErr, ◌≡◌, ℕ, List, [], ◌∷◌, ◌++◌, is_some, if◌then◌else◌, option_and_then}
use Rattle.std.specs.Prelude.{Option, None, Some, Result, Ok, Err}
use Rattle.std.specs.FinMap.{get}
use Rattle.std.specs.Option.{option_map}
use Rattle.std.proofs.Common.{ap, refl, sym, subst, ◌∙◌}
use Rattle.vl_disk.specs.declared.name.Name.{Name}
use Rattle.vl_reads.specs.Reading.{IfDamaged, IfFails, IsFound, IsHandedOn, IsSound, IsTagged, ReadFailed, value_under, written_value}
use Rattle.vl_reads.specs.Refusing.{as_failed_read}
use Rattle.vl_reads.specs.Sees.{Sees, SeesAlone, ShowsAt}
use Rattle.vl_reads.specs.declared.fails.ReadFail.{ReadFail}
use Rattle.vl_reads.specs.declared.fails.ReadFail.TheVariants as fails
use Rattle.vl_reads.specs.declared.past.Past.{Past}
use Rattle.vl_reads.specs.declared.txn.Txn.{Txn}
use Rattle.vl_reads.specs.declared.view.View.{View}
use Rattle.vl_reads.specs.laws.ReadLaws.{value_led, winner_leads}
use Rattle.vl_engine_model.specs.Shows.{Shows}
use Rattle.vl_model.specs.History.{History, contents_at, value_at, value_left}
use Rattle.vl_model.specs.Keys.{Row, Stored, Writes}
use Rattle.vl_model.specs.Notes.{AreNotesOf}
use Rattle.vl_model.specs.Reads.{IsExplained, IsExplainedRead, KeyRead, RangeRead, Read, rows_of}
use Rattle.vl_model.specs.Winners.{Logs, winner}
use Rattle.vl_model.specs.declared.change.Change.{Change}
use Rattle.vl_model.specs.declared.entry.Entry.{Entry}
use Rattle.vl_model.specs.declared.way.Way.{Way}
use Rattle.vl_txn.specs.Reads.{Notes, NotesGet, NotesScan, scan_of, with_get, with_scan}
use Rattle.vl_seglog.specs.Sealed.{IsHere, IsSmall}
use Rattle.vl_table.specs.Kept.{Files}
use Rattle.vl_table.specs.KeptBlocks.{AreKept, ReadsOf}
use Rattle.vl_table.specs.declared.block_reader.BlockReader.{BlockReader}
use Rattle.vl_version.specs.Answers.{IsAnswer, value_of}
use Rattle.vl_version.specs.Answers as held
use Rattle.vl_version.specs.Faults.{Failed}
use Rattle.vl_disk.specs.declared.read_fault.ReadFault.{ReadFault as VersionFault}
use Rattle.vl_disk.specs.declared.read_fault.ReadFault.TheVariants as faults
use Rattle.vl_version.specs.declared.found.Found.{Found}
use Rattle.vl_version.specs.declared.found.Found.TheVariants as found
use Rattle.vl_version.specs.declared.version.Version.{Version}
use Rattle.vl_version.specs.Sources.{tables_in}

-- ---- faults

-- Where nothing is astray, a read that fails has met no damage.
pub fault_sound : {T U : Type 0} (good : T → Type 0) (bad : Name → ℕ → Type 0) → ((name : Name) (place : ℕ) → bad name place → ⊥)
    → (fault : VersionFault) → IsAnswer good bad (Err fault)
    → (result : Result U ReadFail) → IsErrAnd result (λ why. why ≡ as_failed_read fault) → IsSound result
fault_sound good bad fine fault is (Ok answer) failed = absurd failed
fault_sound {U = U} good bad fine faults.NoMemory is (Err e) failed =
    subst (λ (e : ReadFail). IsSound {T = U} (Err e)) (sym failed) (λ (b : ⊥). b)
fault_sound {U = U} good bad fine (faults.Disk name) is (Err e) failed =
    subst (λ (e : ReadFail). IsSound {T = U} (Err e)) (sym failed) (λ (b : ⊥). b)
fault_sound good bad fine (faults.Damaged name place) is (Err e) failed = absurd (fine name place is)

-- Where no file is read, its reader hasn't failed.
pub fault_near : (T U : Type 0) (fault : VersionFault) → (Failed {T = T} (Err fault) → ⊥)
    → (result : Result U ReadFail) → IsErrAnd result (λ why. why ≡ as_failed_read fault) → ReadFailed result → ⊥
fault_near T U fault near (Ok answer) failed = absurd failed
fault_near T U faults.NoMemory near (Err e) failed =
    subst (λ (e : ReadFail). ReadFailed {T = U} (Err e) → ⊥) (sym failed) (λ (b : ⊥). b)
fault_near T U (faults.Disk name) near (Err e) failed = absurd (near tt)
fault_near T U (faults.Damaged name place) near (Err e) failed =
    subst (λ (e : ReadFail). ReadFailed {T = U} (Err e) → ⊥) (sym failed) (λ (b : ⊥). b)

-- and no damage.
pub undamaged : {T : Type 0} (good : T → Type 0) (bad : Name → ℕ → Type 0) → ((name : Name) (place : ℕ) → bad name place → ⊥)
    → (fault : VersionFault) → IsAnswer good bad (Err fault) → (name : Name) (place : ℕ) → fault ≡ faults.Damaged name place → ⊥
undamaged {T} good bad fine fault is name place at =
    fine name place (subst (λ (f : VersionFault). IsAnswer {T = T} good bad (Err f)) at is)

-- so a fault of a reader isn't met where none comes
pub unfailed : (T : Type 0) (fault : VersionFault) (name : Name) → fault ≡ faults.Disk name → (Failed {T = T} (Err fault) → ⊥) → ⊥
unfailed T fault name is near = subst (λ (f : VersionFault). Failed {T = T} (Err f) → ⊥) is near tt

-- a failure that is handed on is as sound
sound_still : (T U : Type 0) (why : ReadFail) → IsSound {T = T} (Err why) → IsSound {T = U} (Err why)
sound_still T U fails.EmptyKey sound = sound
sound_still T U fails.KeyTooLong sound = sound
sound_still T U fails.NoMemory sound = sound
sound_still T U (fails.Disk name) sound = sound
sound_still T U (fails.Damaged name place) sound = sound

pub handed_on : (T U : Type 0) (why : ReadFail) → IsSound {T = T} (Err why) → (result : Result U ReadFail)
    → IsErrAnd result (λ e. e ≡ why) → IsSound result
handed_on T U why sound (Ok answer) failed = absurd failed
handed_on T U why sound (Err e) failed =
    subst (λ (f : ReadFail). IsSound {T = U} (Err f)) (sym failed) (sound_still T U why sound)

-- what holds in any case holds behind a failure
pub on_error : (T E P : Type 0) (result : Result T E) → P → OnErr result P
on_error T E P (Ok answer) holds = tt
on_error T E P (Err why) holds = holds

-- ---- answers over tables that may not be true

-- What a version answers is handed on, where it fails,
pub fault_handed : {T : Type 0} (answers : Result T VersionFault → Type 0) (fault : VersionFault) → answers (Err fault)
    → (result : Result T ReadFail) → IsErrAnd result (λ why. why ≡ as_failed_read fault) → IsHandedOn answers result
fault_handed answers fault met (Ok answer) failed = absurd failed
fault_handed answers faults.NoMemory met (Err e) failed = subst (λ (e : ReadFail). IsHandedOn answers (Err e)) (sym failed) tt
fault_handed answers (faults.Disk name) met (Err e) failed = subst (λ (e : ReadFail). IsHandedOn answers (Err e)) (sym failed) met
fault_handed answers (faults.Damaged name place) met (Err e) failed =
    subst (λ (e : ReadFail). IsHandedOn answers (Err e)) (sym failed) met

-- and it is the fault that was matched.
pub fault_met : {T : Type 0} (answers : Result T VersionFault → Type 0) (result : Result T VersionFault) (fault known : VersionFault)
    → answers result → result ≡ Err fault → fault ≡ known → answers (Err known)
fault_met answers result fault known met is at =
    subst (λ (f : VersionFault). answers (Err f)) at (subst answers is met)

-- A failure has no tag.
pub fail_tagged : (why : ReadFail) (result : Result (Option (Stored × ℕ)) ReadFail) → IsErrAnd result (λ e. e ≡ why)
    → IsTagged (Err why) result
fail_tagged why (Ok answer) failed = absurd failed
fail_tagged why (Err e) failed = ap Err failed

-- ---- what the reader keeps

-- with another reader in its place
abbrev pub with_reader : {R : Type 0} → BlockReader R → R → BlockReader R
with_reader b reader = record b { reader = reader }

pub kept_beside : {R : Type 0} (files : Files) (old new : BlockReader R) → new ≡ with_reader old new.reader
    → AreKept files old → AreKept files new
kept_beside files old new same kept =
    subst (AreKept files) (sym same) (record { front = kept.front; others = kept.others })

-- ---- what is read into the caller's bytes

module _ (logs : Logs) (es : List Entry) (h : History) (number : ℕ) (shows : Shows logs es h (λ key. number) number) (key : List ℕ) where
  its_value : value_of logs (winner es key number) ≡ value_at h number key
  its_value = ap (λ (led : Option (Option Stored)). option_and_then (λ (v : Option Stored). v) led)
      (winner_leads logs es h number shows key)

  pub found_led : (old new : List ℕ) (f : Found) → held.IsFound logs (winner es key number) old new f
      → IsFound (value_at h number key) old new f
  found_led old new found.None is = (sym (value_led logs es h number shows key None is.0), is.1)
  found_led old new (found.Here len) is = subst (λ (v : Option Stored). IsHere v old new len) its_value is
  found_led old new (found.Small len) is = subst (λ (v : Option Stored). IsSmall v old new len) its_value is

-- ---- own writes

-- a key that has no own write
pub unwritten : (change : Option Change) (own : Option (Option Stored)) → own ≡ option_map written_value change → own ≡ None
    → change ≡ None
unwritten None own is none = refl
unwritten (Some change) own is none = absurd (apart (written_value change) (sym is ∙ none))
  where
    apart : (value : Option Stored) → Some value ≡ None → ⊥
    apart value e = cc

-- has what is seen of it
pub seen_under : (own : Writes) (h : History) (n : ℕ) (key : List ℕ) → get own key ≡ None
    → value_at h n key ≡ value_under own h n key
seen_under own h n key none = ap (value_left (value_at h n key)) (sym none)

-- ---- what is noted

-- with one more read that is explained, all are
pub explained_too : (h : History) (n : ℕ) (reads : List Read) (read : Read) → IsExplained h n reads
    → IsExplainedRead h n read → IsExplained h n (reads ++ read ∷ [])
explained_too h n [] read all one = (one, tt)
explained_too h n (r ∷ rs) read all one = (all.0, explained_too h n rs read all.1 one)

-- a get without an own write is one read more
pub one_read_more : (own : Writes) (reads : List Read) (key : List ℕ) (answer : Option Stored) → get own key ≡ None
    → with_get own reads key answer ≡ reads ++ KeyRead key answer ∷ []
one_read_more own reads key answer none =
    ap (λ (change : Option Change). if is_some change then reads else (reads ++ KeyRead key answer ∷ [])) none

module _ {H R : Type 0} (bytes : H → Option (List ℕ)) (old new : Txn H R) (h : History) (reads : List Read)
    (sees : Sees bytes old h reads) (version : new.version ≡ old.version) (number : new.number ≡ old.number)
    (past : new.past ≡ old.past) (kept : AreKept sees.files new.reader) where
  shows_still : ShowsAt bytes new.version new.past h new.number
  shows_still = subst (λ (n : ℕ). ShowsAt bytes new.version new.past h n) (sym number)
      (subst (λ v. ShowsAt bytes v new.past h old.number) (sym version)
      (subst (λ (p : Past). ShowsAt bytes old.version p h old.number) (sym past) sees.version))

  reads_still : ReadsOf bytes sees.files new.reader (tables_in new.version)
  reads_still = subst (λ (v : Version H). ReadsOf bytes sees.files new.reader (tables_in v)) (sym version)
      (record { kept = kept; told = sees.reader.told })

  -- behind a read that gave nothing
  pub sees_still : new.reads ≡ old.reads → Sees bytes new h reads
  sees_still same = record {
    version = shows_still;
    files = sees.files;
    reader = reads_still;
    notes = subst (λ (r : Notes). AreNotesOf reads r.keys r.spans) (sym same) sees.notes;
    explained = subst (λ (n : ℕ). IsExplained h n reads) (sym number) sees.explained;
  }

  -- behind a get of a key that it hasn't written
  pub sees_get : (key : List ℕ) → get old.writes key ≡ None → NotesGet old.writes key old.reads new.reads
      → Sees bytes new h (reads ++ KeyRead key (value_at h old.number key) ∷ [])
  sees_get key none noted = record {
    version = shows_still;
    files = sees.files;
    reader = reads_still;
    notes = subst (λ (rs : List Read). AreNotesOf rs new.reads.keys new.reads.spans)
        (one_read_more old.writes reads key (value_at h old.number key) none) (noted reads (value_at h old.number key) sees.notes);
    explained = subst (λ (n : ℕ). IsExplained h n (reads ++ KeyRead key (value_at h old.number key) ∷ [])) (sym number)
        (explained_too h old.number reads (KeyRead key (value_at h old.number key)) sees.explained refl);
  }

  -- behind a scan
  pub sees_scan : (low high : List ℕ) (limit : ℕ) (way : Way) (given rows : List Row) → given ≡ rows
      → rows ≡ rows_of (contents_at h old.number) (scan_of low high limit way rows old.writes)
      → NotesScan (scan_of low high limit way given) old.reads new.reads
      → Sees bytes new h (with_scan reads (scan_of low high limit way rows old.writes))
  sees_scan low high limit way given rows same is noted =
      let scan = scan_of low high limit way rows old.writes in
      record {
        version = shows_still;
        files = sees.files;
        reader = reads_still;
        notes = subst (λ (rs : List Row). AreNotesOf (with_scan reads (scan_of low high limit way rs old.writes))
            new.reads.keys new.reads.spans)
            same (noted reads old.writes sees.notes);
        explained = subst (λ (n : ℕ). IsExplained h n (with_scan reads scan)) (sym number)
            (explained_too h old.number reads (RangeRead scan) sees.explained is);
      }

-- behind any read of a view
pub sees_alone_still : {H R : Type 0} (bytes : H → Option (List ℕ)) (old new : View H R) (h : History) (sees : SeesAlone bytes old h)
    → new.version ≡ old.version → new.number ≡ old.number → new.past ≡ old.past → AreKept sees.files new.reader
    → SeesAlone bytes new h
sees_alone_still {H} bytes old new h sees version number past kept = record {
  version = subst (λ (n : ℕ). ShowsAt bytes new.version new.past h n) (sym number)
      (subst (λ v. ShowsAt bytes v new.past h old.number) (sym version)
      (subst (λ (p : Past). ShowsAt bytes old.version p h old.number) (sym past) sees.version));
  files = sees.files;
  reader = subst (λ (v : Version H). ReadsOf bytes sees.files new.reader (tables_in v)) (sym version)
      (record { kept = kept; told = sees.reader.told });
}

-- a fault that is handed on is so as it was
pub fails_so : {U : Type 0} (P : VersionFault → Type 0) (fault : VersionFault) → P fault
    → (result : Result U ReadFail) → IsErrAnd result (λ why. why ≡ as_failed_read fault) → IfFails P result
fails_so P fault is (Ok answer) failed = absurd failed
fails_so {U = U} P faults.NoMemory is (Err e) failed = subst (λ (f : ReadFail). IfFails {T = U} P (Err f)) (sym failed) tt
fails_so {U = U} P (faults.Disk name) is (Err e) failed = subst (λ (f : ReadFail). IfFails {T = U} P (Err f)) (sym failed) is
fails_so {U = U} P (faults.Damaged name place) is (Err e) failed =
    subst (λ (f : ReadFail). IfFails {T = U} P (Err f)) (sym failed) is

-- so is where damage was met
pub damage_so : {T U : Type 0} (good : T → Type 0) (bad : Name → ℕ → Type 0) (fault : VersionFault) → IsAnswer good bad (Err fault)
    → (result : Result U ReadFail) → IsErrAnd result (λ why. why ≡ as_failed_read fault) → IfDamaged bad result
damage_so good bad fault is (Ok answer) failed = absurd failed
damage_so {U = U} good bad faults.NoMemory is (Err e) failed = subst (λ (f : ReadFail). IfDamaged {T = U} bad (Err f)) (sym failed) tt
damage_so {U = U} good bad (faults.Disk name) is (Err e) failed = subst (λ (f : ReadFail). IfDamaged {T = U} bad (Err f)) (sym failed) tt
damage_so {U = U} good bad (faults.Damaged name place) is (Err e) failed =
    subst (λ (f : ReadFail). IfDamaged {T = U} bad (Err f)) (sym failed) is
