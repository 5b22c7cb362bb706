-- What sources of a layout hold is within the limits, where its logs and tables can be spelled.
use Rattle.std.specs.Prelude.{◌≡◌, ◌==◌, ℕ, ◌+◌, Bool, true, false, ◌&&◌, nat_le, List, [], ◌∷◌, length, map, take, drop, refl}
use Rattle.std.specs.Prelude.{◌≤◌, Option, None, Some, bytes_eq}
use Rattle.std.specs.List.{AllByRecursion, AllZip, flat_map}
use Rattle.vl_engine_model.specs.Sources.{behind_active, sources, table_entries, tables}
use Rattle.vl_engine_model.specs.Tidy.{sealed}
use Rattle.vl_engine_model.specs.declared.layout.Layout.{Layout}
use Rattle.vl_engine_model.specs.declared.table.Table as laid
use Rattle.std.proofs.Common.{subst, cond, arith}
use Rattle.std.proofs.lemmas.Bool.{and_parts}
use Rattle.std.proofs.lemmas.Bool.Decides.{nat_tests}
use Rattle.vl_frame.specs.Runs.{HasFrame}
use Rattle.vl_engine_model.specs.Logs.{LogRecord, committed_records, frame_entries, logged_body, logged_entries, memtable}
use Rattle.vl_engine_model.specs.Logs.{pointer_to, record_entry, relocated_records}
use Rattle.vl_engine_model.specs.declared.segment.Segment.{Segment}
use Rattle.vl_engine_model.specs.laws.OrderShows.{all-in_order}
use Rattle.vl_engine_model.specs.laws.ShowsLaws.{all_both}
use Rattle.vl_model.specs.Formats.{log_format, tag_kept}
use Rattle.vl_model.specs.Frames.{frame_length, moved_length, record_length}
use Rattle.vl_model.specs.Keys.{Stored, is_key_length, is_value_length, value_bytes, value_length}
use Rattle.vl_model.specs.Winners.{Logs, resolved}
use Rattle.std.specs.Option.{option_map}
use Rattle.vl_model.specs.declared.entry.Body.TheVariants.{Far, Gone, Inline, Logged}
use Rattle.vl_model.specs.declared.entry.Body.{Body}
use Rattle.vl_model.specs.declared.change.Change.TheVariants.{Delete, Set}
use Rattle.vl_model.specs.declared.change.Change.{Change}
use Rattle.vl_model.specs.declared.log_frame.LogFrame.TheVariants.{Committed, Relocated}
use Rattle.vl_model.specs.declared.log_frame.LogFrame.{LogFrame}
use Rattle.vl_model.specs.declared.entry.Entry.{Entry}
use Rattle.vl_model.specs.declared.log_frame.Moved.{Moved}
use Rattle.vl_model.specs.declared.pointer.Pointer.{Pointer}
use Rattle.vl_seglog.specs.Bodies.{IsFrame}
use Rattle.vl_seglog.specs.Commit.{AreRecords}
use Rattle.vl_seglog.specs.Frames.{frames_grammar}
use Rattle.vl_seglog.specs.Moves.{IsMoved}
use Rattle.vl_seglog.specs.Record.{record_bytes}
use Rattle.vl_seglog.specs.Stored.{lies_at, stored_at, value_in}
use Rattle.vl_engine_laws.specs.Files.{IsLogFile}
use Rattle.vl_engine_laws.specs.Laid.{HasLayout, IsTableOf}
use Rattle.vl_engine_laws.specs.MayStep.{AreLogFiles}
use Rattle.vl_engine_laws.specs.Pointed.{bytes_of_log, layout_logs, segment_at, stored_among, stored_of}
use Rattle.vl_engine_laws.specs.laws.LaidTables.{tables_are}
use Rattle.vl_reads.specs.Changes.{IsLedLawful}
use Rattle.vl_table.specs.Tables.{shape_of}
use Rattle.vl_table.specs.body.Entries.{IsBody, IsEntry}
use Rattle.vl_table.specs.declared.table.Table.{Table}
use Rattle.vl_version.specs.Sources.{tables_in}
use Rattle.vl_version.specs.declared.version.Version.{Version}

-- a value that a log of some format may have, one of the written format may have too
value_fits : (format n : ℕ) → is_value_length format n ≡ true → is_value_length log_format n ≡ true
value_fits format n is = by (nat_le format 1) is
  where
    by : (b : Bool) → nat_le n (cond b 1048576 8388608) ≡ true → nat_le n 8388608 ≡ true
    by true is = grind (arith, nat_tests, is)
    by false is = is

-- ---- what pointers lead to

-- What stands at a pointer in a log's bytes is within the limits.
pub stored_lawful : (format : ℕ) (bytes : List ℕ) (p : Pointer) (key : List ℕ) (value : Stored) → stored_at format bytes p key ≡ Some value
    → is_value_length log_format (value_length value) ≡ true
stored_lawful format bytes p key value is = by (lies_at format bytes p key found) refl is
  where
    found : Stored
    found = value_in format (take p.length (drop p.place bytes)) (length key)

    key_is : Bool
    key_is = is_key_length (length key)

    value_is : Bool
    value_is = is_value_length format (value_length found)

    tag_is : Bool
    tag_is = tag_kept format found.tag == found.tag

    long : Bool
    long = p.length == record_length format key (Set found)

    there : Bool
    there = bytes_eq (take p.length (drop p.place bytes)) (record_bytes format key (Set found))

    some_is : {A : Type 0} (a b : A) → Some a ≡ Some b → a ≡ b
    some_is a b same = cc

    by : (b : Bool) → lies_at format bytes p key found ≡ b → cond b (Some found) None ≡ Some value
        → is_value_length log_format (value_length value) ≡ true
    by false lies same = absurd cc
    by true lies same =
        let all = and_parts (key_is && value_is && tag_is && long) there lies in
        let three = and_parts (key_is && value_is && tag_is) long all.0 in
        let short = and_parts key_is value_is (and_parts (key_is && value_is) tag_is three.0).0 in
        subst (λ (v : Stored). is_value_length log_format (value_length v) ≡ true) (some_is found value same)
        (value_fits format (value_length found) short.1)

-- ---- memtables

module _ (logs : Logs) (format log : ℕ) where
  record_lawful : (r : LogRecord) → is_key_length (length r.key) ≡ true → is_value_length format (length (value_bytes r.change)) ≡ true
      → IsLedLawful logs (record_entry format log r)
  record_lawful r key short = (key, by r.change short)
    where
      some_is : {A : Type 0} (a b : A) → Some a ≡ Some b → a ≡ b
      some_is a b same = cc

      by : (change : Change) → is_value_length format (length (value_bytes change)) ≡ true → (value : Stored)
          → resolved logs r.key (logged_body change (pointer_to format log r)) ≡ Some (Some value)
          → is_value_length log_format (value_length value) ≡ true
      by Delete short value led = absurd cc
      by (Set v) short value led =
          subst (λ (x : Stored). is_value_length log_format (value_length x) ≡ true)
          (some_is v value (some_is (Some v) (Some value) led)) (value_fits format (value_length v) short)

  commit_lawful : (place number : ℕ) (writes : List (List ℕ × Change)) → AreRecords format writes
      → AllByRecursion (IsLedLawful logs) (map (record_entry format log) (committed_records format place number writes))
  commit_lawful place number [] are = tt
  commit_lawful place number (w ∷ writes) are = (
    record_lawful (record { key = w.0; version = number; change = w.1; place = place }) are.0.key_length are.0.value_length,
    commit_lawful (place + record_length format w.0 w.1) number writes are.1,
  )

  moves_lawful : (place : ℕ) (records : List Moved) → AllByRecursion (IsMoved format) records
      → AllByRecursion (IsLedLawful logs) (map (record_entry format log) (relocated_records format place records))
  moves_lawful place [] are = tt
  moves_lawful place (m ∷ records) are = (
    record_lawful (record { key = m.key; version = m.version; change = Set m.value; place = place + 8 })
        are.0.lawful.key_length are.0.lawful.value_length,
    moves_lawful (place + moved_length format m) records are.1,
  )

  frame_lawful : (place : ℕ) (f : LogFrame) → IsFrame format f → AllByRecursion (IsLedLawful logs) (frame_entries format log place f)
  frame_lawful place (Committed number writes) is = commit_lawful (place + 17) number writes is.lawful
  frame_lawful place (Relocated records) is = moves_lawful (place + 9) records is.lawful

  frames_lawful : (place : ℕ) (fs : List LogFrame) → AllByRecursion (HasFrame (frames_grammar format)) fs
      → AllByRecursion (IsLedLawful logs) (logged_entries format log place fs)
  frames_lawful place [] have = tt
  frames_lawful place (f ∷ fs) have =
      all_both (IsLedLawful logs) (logged_entries format log (place + frame_length format f) fs) (frame_entries format log place f)
      (frames_lawful (place + frame_length format f) fs have.1) (frame_lawful place f have.0.lawful)

-- The entries of a log whose frames can be spelled are within the limits.
pub memtable_lawful : (logs : Logs) (s : Segment) → AllByRecursion (HasFrame (frames_grammar s.format)) s.frames
    → AllByRecursion (IsLedLawful logs) (memtable s)
memtable_lawful logs s have =
    let logged = logged_entries s.format s.number 16 s.frames in
    all-in_order (IsLedLawful logs) logged (frames_lawful logs s.format s.number 16 s.frames have)

-- ---- tables

some_same : {A : Type 0} (a b : A) → Some a ≡ Some b → a ≡ b
some_same a b same = cc

module _ (ss : List Segment) where
  among_lawful : (p : Pointer) (key : List ℕ) (value : Stored) (s : Option Segment) → stored_of s p key ≡ Some value
      → is_value_length log_format (value_length value) ≡ true
  among_lawful p key value None is = absurd cc
  among_lawful p key value (Some s) is = stored_lawful s.format (bytes_of_log s) p key value is

  body_lawful : (format : ℕ) (key : List ℕ) (body : Body) → IsBody format body → (value : Stored)
      → resolved (stored_among ss) key body ≡ Some (Some value) → is_value_length log_format (value_length value) ≡ true
  body_lawful format key (Inline v) is value led =
      subst (λ (x : Stored). is_value_length log_format (value_length x) ≡ true)
      (some_same v value (some_same (Some v) (Some value) led)) (let short : length v.bytes ≤ 64 = is.short in grind (arith, nat_tests, short))
  body_lawful format key Gone is value led = absurd cc
  body_lawful format key (Logged v p) is value led = absurd is
  body_lawful format key (Far p) is value led =
      among_lawful p key value (segment_at ss p.segment) (there (stored_among ss p key) led)
    where
      there : (o : Option Stored) → option_map Some o ≡ Some (Some value) → o ≡ Some value
      there None same = absurd cc
      there (Some v) same = some_same (Some v) (Some value) same

  -- The entries of a table are within the limits, and so is what stands where they point to.
  pub entries_lawful : (format : ℕ) (es : List Entry) → AllByRecursion (IsEntry format) es → AllByRecursion (IsLedLawful (stored_among ss)) es
  entries_lawful format [] all = tt
  entries_lawful format (e ∷ es) all = ((all.0.key, body_lawful format e.key e.body all.0.body), entries_lawful format es all.1)

-- ---- all sources

module _ {H : Type 0} (bytes : H → Option (List ℕ)) (version : Version H) (l : Layout) (has : HasLayout bytes version l) where
  abbrev IsLawful : Entry → Type 0
  IsLawful = IsLedLawful (layout_logs l)

  memtables_lawful : (ss : List Segment) → AllByRecursion IsLogFile ss → AllByRecursion IsLawful (flat_map memtable ss)
  memtables_lawful [] all = tt
  memtables_lawful (s ∷ ss) all =
      all_both IsLawful (memtable s) (flat_map memtable ss)
      (memtable_lawful (layout_logs l) s all.0.have) (memtables_lawful ss all.1)

  tables_lawful : (held : List (Table H)) (ts : List laid.Table) → AllZip (IsTableOf bytes) held ts
      → AllByRecursion IsLawful (flat_map table_entries ts)
  tables_lawful [] [] all = tt
  tables_lawful [] (t ∷ ts) all = absurd all
  tables_lawful (h ∷ held) [] all = absurd all
  tables_lawful (h ∷ held) (t ∷ ts) all =
      all_both IsLawful t.entries (flat_map table_entries ts)
      (entries_lawful (sealed l) (shape_of h).format t.entries all.0.of.shape.table.tabled.each) (tables_lawful held ts all.1)

  -- What a layout's sources hold is within the limits, where its memtables' logs can be spelled.
  pub sources_lawful : AreLogFiles l → AllByRecursion (IsLedLawful (layout_logs l)) (sources l)
  sources_lawful files =
      all_both IsLawful (memtable l.active) (behind_active l)
      (memtable_lawful (layout_logs l) l.active files.0.have)
      (all_both IsLawful (flat_map memtable l.frozen) (flat_map table_entries (tables l))
      (memtables_lawful l.frozen files.1) (tables_lawful (tables_in version) (tables l) (tables_are bytes version l has)))
