-- What the definitions of pointers say: each pointer to a record of a frame leads to it where the frame stands, and a pointer that leads to a value's record
-- gives the value.
use Rattle.std.specs.Prelude.{◌≡◌, ℕ, ◌+◌, Bool, true, false, ◌&&◌, ◌==◌, if◌then◌else◌, List, [], ◌∷◌, ◌++◌, length}
use Rattle.std.specs.Prelude.{take, drop, map, bytes_eq, get_or, nat_le, refl, Option, Some, None}
use Rattle.std.specs.List.{AllByRecursion}
use Rattle.std.proofs.Common.{cond, sym, ap, subst, ◌∙◌, append_assoc, length-append, arith}
use Rattle.std.proofs.Math.Seq.{drop-drop}
use Rattle.std.proofs.lemmas.Bool.{and_parts, and_from}
use Rattle.std.proofs.lemmas.Bool.Decides.{Decides-eqb}
use Rattle.std.proofs.lemmas.List.{drop_at, take_at, take-append-drop}
use Rattle.std.proofs.lemmas.Slice.Eq.{bytes_eq-Decides}
use Rattle.byteorder.specs.Endian.{big_bytes}
use Rattle.vl_frame.specs.Frame.{check_of, frame_bytes, head_bytes as frame_head}
use Rattle.vl_frame.specs.Runs.{ReadsAs, StandsAt, item_frame}
use Rattle.vl_frame.specs.declared.kinds.FrameKind.TheVariants as kinds
use Rattle.vl_model.specs.Formats.{record_head, tag_kept}
use Rattle.vl_model.specs.Frames.{frame_length, moved_length, record_length}
use Rattle.vl_model.specs.Keys.{Stored, is_key_length, is_value_length, value_length}
use Rattle.vl_model.specs.declared.change.Change.{Change}
use Rattle.vl_model.specs.declared.change.Change.TheVariants.{Set}
use Rattle.vl_model.specs.declared.log_frame.LogFrame.{LogFrame}
use Rattle.vl_model.specs.declared.log_frame.LogFrame.TheVariants.{Committed, Relocated}
use Rattle.vl_model.specs.declared.log_frame.Moved.{Moved}
use Rattle.vl_model.specs.declared.pointer.Pointer.{Pointer}
use Rattle.vl_seglog.specs.laws.RecordLaws.{length-head_bytes, length-record_bytes}
use Rattle.vl_seglog.specs.Record.{IsTag, head_bytes, record_bytes}
use Rattle.vl_seglog.specs.Commit.{AreRecords, Commit, commit_body, head_bytes as commit_head, records_bytes}
use Rattle.vl_seglog.specs.laws.FrameLaws.{length-item_frame}
use Rattle.vl_seglog.specs.Frames.{frames_grammar}
use Rattle.vl_seglog.specs.LogReading.{AreBehind, LogReading, ReadsLog}
use Rattle.vl_seglog.specs.Relocation.{moves_bytes, relocation_body}
use Rattle.vl_seglog.specs.Moves.{IsMoved, moved_bytes}
use Rattle.vl_seglog.specs.laws.MoveLaws.{length-moved_bytes}
use Rattle.vl_seglog.specs.Stored.{AllLead, LeadsTo, LeadToAll, frame_pointers, frame_writes, lies_at, moved_pointers}
use Rattle.vl_seglog.specs.Stored.{moved_write, pointers_from, stored_at, value_in}

value_behind : (format : ℕ) (key : List ℕ) (value : Stored)
    → drop (record_head format + length key) (record_bytes format key (Set value)) ≡ value.bytes
unfolding record_bytes
value_behind format key value =
    let head = head_bytes format 0 value.tag (length key) (value_length value) in
    drop_at (head ++ key) value.bytes (record_head format + length key)
    (omega (arith, length-append head key, length-head_bytes format 0 value.tag (length key) (value_length value)))

tag_behind : (format : ℕ) (key : List ℕ) (value : Stored) → IsTag format value.tag
    → tag_kept format (get_or (record_bytes format key (Set value)) 1 0) ≡ value.tag
unfolding record_bytes
tag_behind format key value kept = by (nat_le format 1) kept
  where
    numbers : List ℕ
    numbers = big_bytes 2 (length key) ++ big_bytes 4 (value_length value)

    by : (b : Bool) → cond b 0 value.tag ≡ value.tag
        → cond b 0 (get_or ((0 ∷ cond b [] (value.tag ∷ []) ++ numbers) ++ key ++ value.bytes) 1 0) ≡ value.tag
    by true kept = kept
    by false kept = refl

-- A value's record holds the value.
pub value_in_record : (format : ℕ) (key : List ℕ) (value : Stored) → IsTag format value.tag
    → value_in format (record_bytes format key (Set value)) (length key) ≡ value
value_in_record format key value kept =
    let bytes = value_behind format key value in
    let tag = tag_behind format key value kept in
    λ i. record { bytes = bytes i; tag = tag i }

-- A pointer that leads to a value's record gives the value.
pub leads_stored : (format log : ℕ) (bytes : List ℕ) (p : Pointer) (key : List ℕ) (value : Stored)
    → LeadsTo format log bytes p key (Set value) → stored_at format bytes p key ≡ Some value
leads_stored format log bytes p key value leads =
    let whole = record_bytes format key (Set value) in
    let piece : take p.length (drop p.place bytes) ≡ whole =
    ap (take p.length) leads.stands.parts
    ∙ take_at whole leads.stands.rest p.length (length-record_bytes format key (Set value) ∙ sym leads.length) in
    let lawful = leads.stands.lawful in
    let is : lies_at format bytes p key value ≡ true =
    and_from _ (bytes_eq (take p.length (drop p.place bytes)) whole)
    (and_from _ (p.length == record_length format key (Set value))
    (and_from _ (tag_kept format value.tag == value.tag)
    (and_from (is_key_length (length key)) (is_value_length format (value_length value)) lawful.key_length lawful.value_length)
    ((Decides-eqb (tag_kept format value.tag) value.tag).1 lawful.tag))
    ((Decides-eqb p.length (record_length format key (Set value))).1 leads.length))
    ((bytes_eq-Decides (take p.length (drop p.place bytes)) whole).1 piece) in
    ap (λ (v : Stored). if lies_at format bytes p key v then Some v else None)
    (ap (λ (l : List ℕ). value_in format l (length key)) piece ∙ value_in_record format key value lawful.tag)
    ∙ ap (λ (b : Bool). if b then Some value else None) is

some_is : (v value : Stored) → Some v ≡ Some value → v ≡ value
some_is v value e = cc

stored_some : (b : Bool) (v value : Stored) → (if b then Some v else None) ≡ Some value → (b ≡ true) × (v ≡ value)
stored_some true v value e = (refl, some_is v value e)
stored_some false v value e = cc

-- A pointer that gives a value leads to the value's record.
pub stored_leads : (format : ℕ) (bytes : List ℕ) (p : Pointer) (key : List ℕ) (value : Stored)
    → stored_at format bytes p key ≡ Some value → LeadsTo format p.segment bytes p key (Set value)
stored_leads format bytes p key value e =
    let piece = take p.length (drop p.place bytes) in
    let whole = record_bytes format key (Set value) in
    let read = value_in format piece (length key) in
    let found = stored_some (lies_at format bytes p key read) read value e in
    let is : lies_at format bytes p key value ≡ true = subst (λ (v : Stored). lies_at format bytes p key v ≡ true) found.1 found.0 in
    let keeps = tag_kept format value.tag == value.tag in
    let long = p.length == record_length format key (Set value) in
    let parts = and_parts (is_key_length (length key) && is_value_length format (value_length value) && keeps && long)
    (bytes_eq piece whole) is in
    let sizes = and_parts (is_key_length (length key) && is_value_length format (value_length value) && keeps) long parts.0 in
    let tags = and_parts (is_key_length (length key) && is_value_length format (value_length value)) keeps sizes.0 in
    let lengths = and_parts (is_key_length (length key)) (is_value_length format (value_length value)) tags.0 in
    let here : piece ≡ whole = (bytes_eq-Decides piece whole).0 parts.1 in
    record {
      segment = refl;
      length = (Decides-eqb p.length (record_length format key (Set value))).0 sizes.1;
      stands = record {
        lawful = record {
          key_length = lengths.0;
          value_length = lengths.1;
          tag = (Decides-eqb (tag_kept format value.tag) value.tag).0 tags.1;
        };
        rest = drop p.length (drop p.place bytes);
        parts = sym (take-append-drop p.length (drop p.place bytes)) ∙ ap (λ (l : List ℕ). l ++ drop p.length (drop p.place bytes)) here;
      };
    }

-- ---- each leads to its record

behind : (bytes : List ℕ) (place : ℕ) (front rest : List ℕ) (n : ℕ) → drop place bytes ≡ front ++ rest
    → length front ≡ n → drop (place + n) bytes ≡ rest
behind bytes place front rest n e size = sym (drop-drop n place bytes) ∙ ap (drop n) e ∙ drop_at front rest n size

records_lead : (format log : ℕ) (bytes : List ℕ) (place : ℕ) (rest : List ℕ) (writes : List (List ℕ × Change))
    → AreRecords format writes → drop place bytes ≡ records_bytes format writes ++ rest
    → LeadToAll format log bytes (pointers_from format log place writes) writes
records_lead format log bytes place rest [] lawful e = tt
records_lead format log bytes place rest (w ∷ writes) lawful e =
    let parts : drop place bytes ≡ record_bytes format w.0 w.1 ++ (records_bytes format writes ++ rest) = e
    ∙ append_assoc (record_bytes format w.0 w.1) (records_bytes format writes) rest in (
      record {
        segment = refl;
        length = refl;
        stands = record
            { lawful = lawful.0; rest = records_bytes format writes ++ rest; parts = parts };
      },
      records_lead format log bytes (place + record_length format w.0 w.1) rest writes lawful.1
          (behind bytes place (record_bytes format w.0 w.1) (records_bytes format writes ++ rest)
          (record_length format w.0 w.1) parts (length-record_bytes format w.0 w.1)),
    )

moves_lead : (format log : ℕ) (bytes : List ℕ) (place : ℕ) (rest : List ℕ) (records : List Moved)
    → AllByRecursion (IsMoved format) records → drop place bytes ≡ moves_bytes format records ++ rest
    → LeadToAll format log bytes (moved_pointers format log place records) (map moved_write records)
moves_lead format log bytes place rest [] lawful e = tt
moves_lead format log bytes place rest (m ∷ records) lawful e =
    let others = moves_bytes format records ++ rest in
    let here = record_bytes format m.key (Set m.value) in
    let parts : drop place bytes ≡ moved_bytes format m ++ others = e
    ∙ append_assoc (moved_bytes format m) (moves_bytes format records) rest in
    let version : drop (place + 8) bytes ≡ here ++ others = behind bytes place (big_bytes 8 m.version) (here ++ others)
    8 (parts ∙ append_assoc (big_bytes 8 m.version) here others) refl in (
      record { segment = refl; length = refl; stands = record { lawful = lawful.0.lawful; rest = others; parts = version } },
      moves_lead format log bytes (place + moved_length format m) rest records lawful.1
          (behind bytes place (moved_bytes format m) others (moved_length format m) parts (length-moved_bytes format m)),
    )

commit_parts : (format number at : ℕ) (c : Commit) (rest : List ℕ) → frame_bytes number at kinds.Commit (commit_body format c) ++ rest
    ≡ (frame_head kinds.Commit (length (commit_body format c)) ++ commit_head c.number (length c.writes))
    ++ (records_bytes format c.writes ++ (check_of number at kinds.Commit (commit_body format c) ++ rest))
unfolding frame_bytes commit_body
commit_parts format number at c rest =
    let front = frame_head kinds.Commit (length (commit_body format c)) ++ commit_head c.number (length c.writes) in
    let check = check_of number at kinds.Commit (commit_body format c) in
    append_assoc front (records_bytes format c.writes ++ check) rest
    ∙ ap (λ (l : List ℕ). front ++ l) (append_assoc (records_bytes format c.writes) check rest)

moves_parts : (format number at : ℕ) (records : List Moved) (rest : List ℕ)
    → frame_bytes number at kinds.Move (relocation_body format records) ++ rest
    ≡ (frame_head kinds.Move (length (relocation_body format records)) ++ big_bytes 4 (length records))
    ++ (moves_bytes format records ++ (check_of number at kinds.Move (relocation_body format records) ++ rest))
unfolding frame_bytes relocation_body
moves_parts format number at records rest =
    let front = frame_head kinds.Move (length (relocation_body format records)) ++ big_bytes 4 (length records) in
    let check = check_of number at kinds.Move (relocation_body format records) in
    append_assoc front (moves_bytes format records ++ check) rest
    ∙ ap (λ (l : List ℕ). front ++ l) (append_assoc (moves_bytes format records) check rest)

-- Where a frame stands in its log, each of its pointers leads to its record.
pub pointers_lead : (format log at : ℕ) (bytes : List ℕ) (f : LogFrame) (rest : List ℕ)
    → StandsAt (frames_grammar format) log at (drop at bytes) f rest
    → LeadToAll format log bytes (frame_pointers format log at f) (frame_writes f)
pointers_lead format log at bytes (Committed number writes) rest s =
    let c : Commit = record { number = number; writes = writes } in
    let check = check_of log at kinds.Commit (commit_body format c) in
    records_lead format log bytes (at + 17) (check ++ rest) writes s.lawful.lawful
    (behind bytes at (frame_head kinds.Commit (length (commit_body format c)) ++ commit_head number (length writes))
    (records_bytes format writes ++ (check ++ rest)) 17 (s.spelled ∙ commit_parts format log at c rest) refl)
pointers_lead format log at bytes (Relocated records) rest s =
    let check = check_of log at kinds.Move (relocation_body format records) in
    moves_lead format log bytes (at + 9) (check ++ rest) records s.lawful.lawful
    (behind bytes at (frame_head kinds.Move (length (relocation_body format records)) ++ big_bytes 4 (length records))
    (moves_bytes format records ++ (check ++ rest)) 9 (s.spelled ∙ moves_parts format log at records rest) refl)

reads_lead : (format log at : ℕ) (bytes rest : List ℕ) (frames : List LogFrame) → drop at bytes ≡ rest
    → ReadsAs (frames_grammar format) log at rest frames → AllLead format log bytes at frames
reads_lead format log at bytes rest [] here none = tt
reads_lead format log at bytes rest (f ∷ frames) here (after, stands, reads) =
    let size = length-item_frame format log at f in
    let there : StandsAt (frames_grammar format) log at (drop at bytes) f after = subst
    (λ (b : List ℕ). StandsAt (frames_grammar format) log at b f after) (sym here) stands in (
      pointers_lead format log at bytes f after there,
      reads_lead format log (at + frame_length format f) bytes after frames
          (behind bytes at (item_frame (frames_grammar format) log at f) after (frame_length format f) there.spelled size)
          (subst (λ (n : ℕ). ReadsAs (frames_grammar format) log (at + n) after frames) size reads),
    )

-- All records of the frames that a log's bytes hold are where they lie.
pub reading_leads : (number : ℕ) (bytes : List ℕ) (reading : LogReading) → ReadsLog number bytes reading → (format : ℕ)
    → reading.header ≡ Some format → AllLead format number bytes 16 reading.frames
reading_leads number bytes reading reads format header =
    reads_lead format number 16 bytes (drop 16 bytes) reading.frames refl
    (subst (λ (h : Option ℕ). AreBehind h number bytes reading.frames) header reads.frames)
