-- What bytes say that a crash left of a file that isn't durable.
use Rattle.std.specs.Prelude.{◌≡◌, ◌⊎◌, ℕ, ◌+◌, ◌-◌, ◌^◌, ◌<◌, ◌≤◌, ◌==◌, min, max, true, false, List, [], ◌∷◌, ◌++◌}
use Rattle.std.specs.Prelude.{length, take, drop, All, Any, Option, None, Some, refl}
use Rattle.std.proofs.Common.{append_assoc, ap, arith, length-append, subst, sym, zero-le, ◌∙◌, ⊎_elim}
use Rattle.std.proofs.lemmas.Bool.{cases_Bool, cases_lt, true≢false}
use Rattle.std.proofs.lemmas.List.{append-nil, drop-append-le, drop-drop, drop_all, drop_at, length-take}
use Rattle.std.proofs.lemmas.List.{take-append-drop, take-take, take_all, take_at}
use Rattle.vl_disk.specs.Chance.{HasOnlyHandedOver, NoChanceOne, StandsIn, WasHandedOver, torn_from}
use Rattle.vl_disk.specs.Crash.{Agrees}
use Rattle.vl_disk.specs.DiskState.{File, IsLawfulFile, Piece, shortened}
use Rattle.vl_disk.specs.declared.name.Name.{Name}
use Rattle.vl_disk.specs.declared.name.Name.TheVariants.{Log, Manifest, Table}
use Rattle.vl_frame.specs.laws.HeaderLaws.{length-header_bytes}
use Rattle.vl_frame.specs.laws.RunLaws.{frame_is_some, none_at_end, one_front}
use Rattle.vl_frame.specs.Runs.{HasFrame, StandsAt, StandsNone, item_frame}
use Rattle.vl_frame.specs.declared.kinds.FileKind.TheVariants as files
use Rattle.vl_manifest.specs.Grammar.{edits_grammar}
use Rattle.vl_manifest.specs.Manifest.{IsReadable, manifest_bytes, manifest_header}
use Rattle.vl_manifest.specs.laws.MadeLaws.{SaysAsRead, made_or_not}
use Rattle.vl_manifest.specs.laws.StateLaws.{IsInRange}
use Rattle.vl_manifest.specs.States.{whole_edits}
use Rattle.vl_manifest.specs.declared.edit.Edit.{Edit}
use Rattle.vl_manifest.specs.declared.state.ManifestState.{ManifestState}
use Rattle.vl_model.specs.Formats.{log_format, manifest_format}
use Rattle.vl_recover.specs.laws.opening.ContentLaws.{SameContent, none_each, same_each}
use Rattle.vl_recover.specs.crash.Alike.{Spells}
use Rattle.vl_recover.specs.laws.crash.OneName.{IsPart, part_empty, part_some}
use Rattle.vl_recover.specs.crash.Starts.{HasWrongHeader, MayStand}
use Rattle.vl_recover.specs.laws.crash.Headers.{said_format}
use Rattle.vl_recover.specs.laws.crash.TornFrames.{headed_front, one_due}
use Rattle.vl_seglog.specs.laws.FrameLaws.{length-log_bytes, length-log_header}
use Rattle.vl_seglog.specs.Frames.{frames_end, frames_grammar, log_bytes, log_header}
use Rattle.vl_seglog.specs.LogReading.{HasHeader, IsLogFormat, LogReading, ReadsLog, SaysFormat}
use Rattle.vl_seglog.specs.laws.LogReadingLaws.{LogApart, log_apart, reads_no_header, reads_with_tail, written_is_read}

-- ---- frames that were handed over

any_all : {X : Type 0} (P Q : X → Type 0) (xs : List X) → Any P xs → All Q xs → (x : X) × P x × Q x
any_all P Q xs (k, x, less, is, holds) all = (x, holds, subst Q is (all k x less))

any_none : {X : Type 0} (P : X → Type 0) → Any P [] → ⊥
any_none P (k, x, less, is, holds) = omega (arith, less)

-- a frame that stands in a piece ends in it
past_piece : (piece : Piece) (at : ℕ) (frame : List ℕ) → 1 ≤ length frame
    → piece.place + length piece.bytes ≤ at → StandsIn at frame piece → ⊥
past_piece piece at frame some past stands =
    let short : length piece.bytes ≤ at - piece.place = omega (arith, past) in
    let none : frame ≡ [] = sym stands.bytes_are ∙ ap (take (length frame))
    (drop_all (at - piece.place) piece.bytes short) ∙ take_all (length frame) [] zero-le in
    omega (arith, some, ap length none)

-- No frame was handed over past the pieces that are unsynced,
pub none_past : (file : File) (end at : ℕ) (frame : List ℕ)
    → All (λ piece. piece.place + length piece.bytes ≤ end) file.unsynced
    → end ≤ at → 1 ≤ length frame → WasHandedOver file at frame → ⊥
none_past file end at frame within past some handed =
    let (piece, stands, short) = any_all (StandsIn at frame)
    (λ (piece : Piece). piece.place + length piece.bytes ≤ end) file.unsynced handed within in
    past_piece piece at frame some (omega (arith, short, past)) stands

-- nor below the synced length.
pub none_below : (file : File) (at : ℕ) (frame : List ℕ) → IsLawfulFile file → at < file.synced
    → WasHandedOver file at frame → ⊥
none_below file at frame lawful below handed =
    let (piece, stands, from) = any_all (StandsIn at frame)
    (λ (piece : Piece). file.synced ≤ piece.place) file.unsynced handed lawful.unsynced in
    omega (arith, stands.from, from, below)

-- ---- frames that are spelled

spelled_some : (name : Name) (bytes : List ℕ) (at : ℕ) (frame : List ℕ) → Spells name bytes at frame
    → 1 ≤ length frame
spelled_some (Log number) bytes at frame (format, is_read, header, (item, rest, stands, is)) =
    omega (arith, frame_is_some (frames_grammar format) number at item, ap length is)
spelled_some (Table number) bytes at frame spelled = absurd spelled
spelled_some (Manifest number) bytes at frame (item, rest, stands, is) =
    omega (arith, frame_is_some (edits_grammar manifest_format) number at item, ap length is)

none_spelled : (name : Name) (bytes : List ℕ) (at : ℕ) (frame : List ℕ) → length bytes ≤ at
    → Spells name bytes at frame → ⊥
none_spelled (Log number) bytes at frame end (format, is_read, header, (item, rest, stands, is)) =
    none_at_end (frames_grammar format) number at item rest (subst
    (λ (b : List ℕ). StandsAt (frames_grammar format) number at b item rest) (drop_all at bytes end) stands)
none_spelled (Table number) bytes at frame end spelled = spelled
none_spelled (Manifest number) bytes at frame end (item, rest, stands, is) =
    none_at_end (edits_grammar manifest_format) number at item rest (subst
    (λ (b : List ℕ). StandsAt (edits_grammar manifest_format) number at b item rest) (drop_all at bytes end) stands)

-- Bytes that end where they may be torn have no frame by chance.
pub ended_no_chance : (name : Name) (file : File) (bytes : List ℕ) → length bytes ≤ torn_from file
    → NoChanceOne Spells name (Some file) (Some bytes)
ended_no_chance name file bytes end grows loose = record {
  first = λ frame here. absurd (none_spelled name bytes (torn_from file) frame end here);
  next = λ frame next here behind. absurd (none_spelled name bytes (torn_from file) frame end here);
}

-- ---- a file that is being made

pub part_loose : (piece : List ℕ) (file : File) → IsPart piece file → file.wholly_synced ≡ false
part_loose piece file part_empty = refl
part_loose piece file (part_some taken) = refl

pub part_synced : (piece : List ℕ) (file : File) → IsPart piece file → file.synced ≡ 0
part_synced piece file part_empty = refl
part_synced piece file (part_some taken) = refl

-- what was handed over for a place stands there in the piece
part_handed : (piece : List ℕ) (file : File) → IsPart piece file → (at : ℕ) (frame : List ℕ)
    → WasHandedOver file at frame
    → take (length frame) (drop at piece) ≡ frame
part_handed piece file part_empty at frame handed = absurd (any_none (StandsIn at frame) handed)
part_handed piece file (part_some taken) at frame handed =
    let whole : at - 0 ≡ at = omega arith in
    subst (λ (n : ℕ). take (length frame) (drop n piece) ≡ frame) whole
    (one_due (StandsIn at frame) (record { place = 0; bytes = piece }) handed).bytes_are

-- it has no frame by chance where each at 16, and each right behind one, stands there in the piece
part_frames : (name : Name) (piece : List ℕ) (file : File) → IsPart piece file → (bytes : List ℕ)
    → HasOnlyHandedOver file (Spells name bytes)
    → ((frame : List ℕ) → Spells name bytes 16 frame → take (length frame) (drop 16 piece) ≡ frame)
    × ((frame next : List ℕ) → Spells name bytes 16 frame → Spells name bytes (16 + length frame) next
    → take (length next) (drop (16 + length frame) piece) ≡ next)
part_frames name piece file part bytes only =
    let from : torn_from file ≡ 16 = omega (arith, part_synced piece file part) in (
      λ frame here. part_handed piece file part 16 frame (subst (λ (n : ℕ). WasHandedOver file n frame) from
          (only.first frame (subst (λ (n : ℕ). Spells name bytes n frame) (sym from) here))),
      λ frame next here behind. part_handed piece file part (16 + length frame) next
          (subst (λ (n : ℕ). WasHandedOver file (n + length frame) next) from
          (only.next frame next (subst (λ (n : ℕ). Spells name bytes n frame) (sym from) here)
          (subst (λ (n : ℕ). Spells name bytes (n + length frame) next) (sym from) behind))),
    )

-- ---- the new manifest

-- The state can be written as a manifest's first frame.
pub record CanWrite (number : ℕ) (s : ManifestState) : Type 0 where
  pub fits : number < 2 ^ 32
  pub range : IsInRange s
  -- the frame is short enough, else memory is said to be wanting
  pub has : HasFrame (edits_grammar manifest_format) (whole_edits s)

module _ (number : ℕ) (s : ManifestState) (can : CanWrite number s) where
  abbrev new_manifest : List ℕ
  new_manifest = manifest_bytes number (whole_edits s ∷ [])

  abbrev whole : List ℕ
  whole = item_frame (edits_grammar manifest_format) number 16 (whole_edits s)

  behind_header : drop 16 new_manifest ≡ whole
  behind_header = drop_at (manifest_header number) (whole ++ []) 16
      (length-header_bytes files.Manifest manifest_format number) ∙ append-nil whole

  -- What is left of a new manifest that isn't durable can't be read, or says its state, as it is read in some format.
  pub torn_manifest : (file : File) → IsPart new_manifest file → (bytes : List ℕ)
      → NoChanceOne Spells (Manifest number) (Some file) (Some bytes)
      → (IsReadable number bytes → ⊥) ⊎ SaysAsRead number bytes s
  torn_manifest file part bytes chance = made_or_not number s can.has bytes can.fits can.range torn
    where
      frames : ((frame : List ℕ) → Spells (Manifest number) bytes 16 frame
          → take (length frame) (drop 16 new_manifest) ≡ frame)
          × ((frame next : List ℕ) → Spells (Manifest number) bytes 16 frame
          → Spells (Manifest number) bytes (16 + length frame) next
          → take (length next) (drop (16 + length frame) new_manifest) ≡ next)
      frames = part_frames (Manifest number) new_manifest file part bytes
          (chance tt (part_loose new_manifest file part))

      torn : (edits : List Edit) (rest : List ℕ) → StandsAt (edits_grammar manifest_format) number 16 (drop 16 bytes) edits rest
          → (take (length (item_frame (edits_grammar manifest_format) number 16 edits)) whole
          ≡ item_frame (edits_grammar manifest_format) number 16 edits)
          × StandsNone (edits_grammar manifest_format) number (16 + length (item_frame (edits_grammar manifest_format) number 16 edits))
          rest
      torn edits rest stands = (front, none)
        where
          frame : List ℕ
          frame = item_frame (edits_grammar manifest_format) number 16 edits

          front : take (length (item_frame (edits_grammar manifest_format) number 16 edits)) whole
              ≡ item_frame (edits_grammar manifest_format) number 16 edits
          front = ap (take (length (item_frame (edits_grammar manifest_format) number 16 edits))) (sym behind_header)
              ∙ frames.0 (item_frame (edits_grammar manifest_format) number 16 edits) (edits, rest, stands, refl)

          same : edits ≡ whole_edits s
          same = one_front (edits_grammar manifest_format) number 16 (whole_edits s) edits can.has
              (record { lawful = stands.lawful; short = stands.short }) front

          at : ℕ
          at = 16 + length (item_frame (edits_grammar manifest_format) number 16 edits)

          behind : drop (16 + length (item_frame (edits_grammar manifest_format) number 16 edits)) bytes ≡ rest
          behind = sym (drop-drop (length (item_frame (edits_grammar manifest_format) number 16 edits)) 16 bytes)
              ∙ ap (drop (length (item_frame (edits_grammar manifest_format) number 16 edits))) stands.spelled
              ∙ drop_at (item_frame (edits_grammar manifest_format) number 16 edits) rest
              (length (item_frame (edits_grammar manifest_format) number 16 edits)) refl

          past : drop (16 + length (item_frame (edits_grammar manifest_format) number 16 edits)) new_manifest ≡ []
          past = sym (drop-drop (length (item_frame (edits_grammar manifest_format) number 16 edits)) 16 new_manifest)
              ∙ ap (drop (length (item_frame (edits_grammar manifest_format) number 16 edits))) (behind_header
              ∙ ap (item_frame (edits_grammar manifest_format) number 16) (sym same))
              ∙ drop_all (length (item_frame (edits_grammar manifest_format) number 16 edits))
              (item_frame (edits_grammar manifest_format) number 16 edits) (omega arith)

          none : StandsNone (edits_grammar manifest_format) number
              (16 + length (item_frame (edits_grammar manifest_format) number 16 edits)) rest
          none more after next =
              let place = 16 + length (item_frame (edits_grammar manifest_format) number 16 edits) in
              let other = item_frame (edits_grammar manifest_format) number place more in
              let spelled : StandsAt (edits_grammar manifest_format) number place (drop place bytes) more after =
              subst (λ (b : List ℕ). StandsAt (edits_grammar manifest_format) number place b more after)
              (sym behind) next in
              let handed = frames.1 (item_frame (edits_grammar manifest_format) number 16 edits) other
              (edits, rest, stands, refl) (more, after, spelled, refl) in
              let empty : other ≡ [] = sym handed ∙ ap (take (length other)) past
              ∙ take_all (length other) [] zero-le in
              omega (arith, frame_is_some (edits_grammar manifest_format) number place more, ap length empty)

-- ---- logs

-- the bytes of a log have the content of a reading, with its header and to their end or not
pub record ReadsFrames (number : ℕ) (bytes : List ℕ) (like : LogReading) : Type 0 where
  pub reading : LogReading
  pub reads : ReadsLog number bytes reading
  pub same : SameContent reading like

-- a reading without header and frames
abbrev pub no_reading : LogReading
no_reading = record { header = None; frames = []; whole = false }

-- nothing stands behind a header of the bytes
abbrev pub HasNoneBehind : ℕ → List ℕ → Type 0
HasNoneBehind number bytes = (format : ℕ) → IsLogFormat format → HasHeader format number bytes
    → StandsNone (frames_grammar format) number 16 (drop 16 bytes)

reads_none : (number : ℕ) (bytes : List ℕ) → HasNoneBehind number bytes
    → (like : LogReading) → like.frames ≡ [] → ReadsFrames number bytes like
reads_none number bytes none like empty = by (said_format number bytes)
  where
    by : (header : Option ℕ) × SaysFormat header number bytes → ReadsFrames number bytes like
    by (Some format, (is_read, header)) =
        let parts : bytes ≡ log_header format number ++ drop 16 bytes = sym (take-append-drop 16 bytes)
        ∙ ap (λ (b : List ℕ). b ++ drop 16 bytes) header in
        record {
          reading = record { header = Some format; frames = []; whole = length (drop 16 bytes) == 0 };
          reads = subst (λ (b : List ℕ). ReadsLog number b
              (record { header = Some format; frames = []; whole = length (drop 16 bytes) == 0 })) (sym parts)
              (reads_with_tail format number is_read [] tt (drop 16 bytes) (none format is_read header));
          same = none_each refl empty;
        }
    by (None, wrong) = record {
      reading = no_reading;
      reads = reads_no_header number bytes wrong;
      same = none_each refl empty;
    }

-- Where no piece that is unsynced goes past the header, what is left of a log has no frames.
pub torn_header : (number : ℕ) (file : File) (bytes : List ℕ) → file.wholly_synced ≡ false → file.synced ≤ 16
    → All (λ piece. piece.place + length piece.bytes ≤ 16) file.unsynced
    → NoChanceOne Spells (Log number) (Some file) (Some bytes)
    → (like : LogReading) → like.frames ≡ [] → ReadsFrames number bytes like
torn_header number file bytes loose short within chance = reads_none number bytes none
  where
    none : HasNoneBehind number bytes
    none format is_read header f rest stands =
        let from : torn_from file ≡ 16 = omega (arith, short) in
        let frame = item_frame (frames_grammar format) number 16 f in
        let spelled : Spells (Log number) bytes 16 frame = (format, is_read, header, (f, rest, stands, refl)) in
        let handed = (chance tt loose).first frame (subst (λ (n : ℕ). Spells (Log number) bytes n frame)
        (sym from) spelled) in
        none_past file 16 16 frame within (omega arith) (frame_is_some (frames_grammar format) number 16 f)
        (subst (λ (n : ℕ). WasHandedOver file n frame) from handed)

-- a header alone
pub header_reads : (number : ℕ) → ReadsLog number (log_header log_format number)
    (record { header = Some log_format; frames = []; whole = true })
header_reads number = reads_with_tail log_format number written_is_read [] tt []
    (none_at_end (frames_grammar log_format) number 16)

-- ---- what is left of a file as it stands

-- bytes that a crash may leave of a file, without a frame by chance
pub record Leaves (name : Name) (file : File) : Type 0 where
  pub bytes : List ℕ
  pub may : Agrees file bytes
  pub no_chance : NoChanceOne Spells name (Some file) (Some bytes)

-- the bytes that are read
abbrev pub leaves_read : (name : Name) (file : File) → NoChanceOne Spells name (Some file) (Some file.bytes)
    → Leaves name file
leaves_read name file chance = record {
  bytes = file.bytes;
  may =
      record { durable = refl; whole = λ _. refl };
  no_chance = chance;
}

-- those of them that can't be torn
leaves_front : (name : Name) (file : File) → file.wholly_synced ≡ false → Leaves name file
leaves_front name file loose = record {
  bytes = take (torn_from file) file.bytes;
  may = record {
    durable = take-take file.synced (torn_from file) file.bytes (omega arith);
    whole = λ whole. absurd (true≢false (sym whole ∙ loose));
  };
  no_chance = ended_no_chance name file (take (torn_from file) file.bytes)
      (omega (arith, length-take (torn_from file) file.bytes));
}

-- Of a log bytes may be left that have no frames.
pub record LeavesNone (number : ℕ) (file : File) : Type 0 where
  pub leaves : Leaves (Log number) file
  pub reading : LogReading
  pub reads : ReadsLog number leaves.bytes reading
  pub none : reading.frames ≡ []

-- So it is with one that reads so,
pub leaves_empty : (number : ℕ) (file : File) (reading : LogReading) → ReadsLog number file.bytes reading
    → reading.frames ≡ [] → NoChanceOne Spells (Log number) (Some file) (Some file.bytes) → LeavesNone number file
leaves_empty number file reading reads none chance =
    record { leaves = leaves_read (Log number) file chance; reading = reading; reads = reads; none = none }

-- and with one that has a wrong header.

pub leaves_none : (number : ℕ) (file : File) → HasWrongHeader (Log number) file → LeavesNone number file
unfolding leaves_front
leaves_none number file wrong = ⊎_elim
    (λ (whole : file.wholly_synced ≡ true). record {
      leaves = leaves_read (Log number) file (λ grows loose. absurd (true≢false (sym whole ∙ loose)));
      reading = no_reading;
      reads = reads_no_header number file.bytes wrong;
      none = refl;
    })
    (λ (loose : file.wholly_synced ≡ false).
    let front : take 16 (take (torn_from file) file.bytes) ≡ take 16 file.bytes =
    take-take 16 (torn_from file) file.bytes (omega arith) in
    record {
      leaves = leaves_front (Log number) file loose;
      reading = no_reading;
      reads = reads_no_header number (take (torn_from file) file.bytes)
          (λ format is_read header. wrong format is_read (sym front ∙ header));
      none = refl;
    })
    (cases_Bool file.wholly_synced)

-- Of each file that may stand some bytes may be left.
pub stand_leaves : (name : Name) (file : File) → MayStand name file → Leaves name file
stand_leaves (Log number) file stand = by (said_format number file.bytes)
  where
    by : (header : Option ℕ) × SaysFormat header number file.bytes → Leaves (Log number) file
    by (Some format, (is_read, header)) = leaves_read (Log number) file
        (stand.no_chance (λ wrong. wrong format is_read header))
    by (None, wrong) = (leaves_none number file wrong).leaves
stand_leaves (Table number) file stand = leaves_read (Table number) file (stand.no_chance (λ wrong. wrong))
stand_leaves (Manifest number) file stand = leaves_read (Manifest number) file
    (stand.no_chance (λ wrong. wrong))

-- ---- a log that is cut

-- what is asked of a file is asked of one that is torn from the same place and has the same pieces unsynced
pub same_handed : (file other : File) (spells : ℕ → List ℕ → Type 0) → torn_from file ≡ torn_from other
    → file.unsynced ≡ other.unsynced
    → HasOnlyHandedOver file spells → HasOnlyHandedOver other spells
same_handed file other spells from unsynced only = record {
  first = λ frame here. subst (λ (n : ℕ). WasHandedOver other n frame) from (moved (torn_from file) frame
      (only.first frame (subst (λ (n : ℕ). spells n frame) (sym from) here)));
  next = λ frame next here behind. subst (λ (n : ℕ). WasHandedOver other (n + length frame) next) from
      (moved (torn_from file + length frame) next
      (only.next frame next (subst (λ (n : ℕ). spells n frame) (sym from) here)
      (subst (λ (n : ℕ). spells (n + length frame) next) (sym from) behind)));
}
  where
    moved : (at : ℕ) (frame : List ℕ) → WasHandedOver file at frame → WasHandedOver other at frame
    moved at frame handed = subst (λ (ps : List Piece). Any (StandsIn at frame) ps) unsynced handed

module _ (number len : ℕ) (file : File) where
  -- Cut above the synced length, a log leaves what it could leave before.
  module _ (left : ℕ) (short : len ≤ left) (flat : file.synced ≤ len) (bytes : List ℕ) where
    pub uncut : file.wholly_synced ≡ false → Agrees (shortened len left file) bytes → Agrees file bytes
    uncut loose agrees =
        let all : min len file.synced ≡ file.synced = omega (arith, flat) in
        record {
          durable = ap (λ (n : ℕ). take n bytes) (sym all) ∙ agrees.durable
              ∙ ap (λ (n : ℕ). take n (take left file.bytes)) all
              ∙ take-take file.synced left file.bytes (omega (arith, short, flat));
          whole = λ whole. absurd (true≢false (sym whole ∙ loose));
        }

    pub uncut_chance : (name : Name) → NoChanceOne Spells name (Some (shortened len left file)) (Some bytes)
        → NoChanceOne Spells name (Some file) (Some bytes)
    uncut_chance name chance grows loose =
        let from : max 16 (min len file.synced) ≡ max 16 file.synced = omega (arith, flat) in
        same_handed (shortened len left file) file (Spells name bytes) from refl (chance grows refl)

  -- the header of first bytes is that of all of them
  header_longer : (format : ℕ) (bytes : List ℕ) → HasHeader format number (take len bytes) → HasHeader format number bytes
  header_longer format bytes header =
      let size : length (take 16 (take len bytes)) ≡ 16 = ap length header ∙ length-log_header format number in
      let long : 16 ≤ len = omega (arith, size, length-take 16 (take len bytes), length-take len bytes) in
      sym (take-take 16 len bytes long) ∙ header

  -- what is spelled in first bytes is spelled in all of them
  pub spelled_longer : (bytes : List ℕ) (at : ℕ) (frame : List ℕ)
      → Spells (Log number) (take len bytes) at frame → Spells (Log number) bytes at frame
  spelled_longer bytes at frame (format, is_read, header, (item, rest, stands, is)) = (
    format,
    is_read,
    header_longer format bytes header,
    (
      item,
      rest ++ drop len bytes,
      record {
        lawful = stands.lawful;
        short = stands.short;
        spelled = ap (drop at) (sym (take-append-drop len bytes))
            ∙ drop-append-le at (take len bytes) (drop len bytes) within
            ∙ ap (λ (b : List ℕ). b ++ drop len bytes) stands.spelled
            ∙ append_assoc (item_frame (frames_grammar format) number at item) rest (drop len bytes);
      },
      is,
    ),
  )
    where
      within : at ≤ length (take len bytes)
      within = ⊎_elim
          (λ (less : length (take len bytes) < at).
          let none : [] ≡ item_frame (frames_grammar format) number at item ++ rest =
          sym (drop_all at (take len bytes) (omega (arith, less))) ∙ stands.spelled in
          absurd (omega (
            arith,
            ap length none,
            length-append
                (item_frame (frames_grammar format) number at item) rest,
            frame_is_some (frames_grammar format) number at item,
          )))
          (λ (le : at ≤ length (take len bytes)). le)
          (cases_lt (length (take len bytes)) at)

  -- Cut, it has no frame by chance as it is read.
  pub cut_no_chance : (file.synced ≤ len → file.wholly_synced ≡ false)
      → NoChanceOne Spells (Log number) (Some file) (Some file.bytes)
      → NoChanceOne Spells (Log number) (Some (shortened len len file)) (Some (take len file.bytes))
  cut_no_chance loose chance = ⊎_elim
      (λ (deep : len < file.synced). ended_no_chance (Log number) (shortened len len file)
      (take len file.bytes) (omega (arith, deep, length-take len file.bytes)))
      (λ (flat : file.synced ≤ len). shorter flat)
      (cases_lt len file.synced)
    where
      shorter : file.synced ≤ len → NoChanceOne Spells (Log number) (Some (shortened len len file))
          (Some (take len file.bytes))
      shorter flat grows cut =
          let only = chance tt (loose flat) in
          let from : max 16 file.synced ≡ max 16 (min len file.synced) = omega (arith, flat) in
          same_handed file (shortened len len file) (Spells (Log number) (take len file.bytes)) from refl
          (record {
            first = λ frame here. only.first frame (spelled_longer file.bytes (torn_from file) frame here);
            next = λ frame next here behind. only.next frame next
                (spelled_longer file.bytes (torn_from file) frame here)
                (spelled_longer file.bytes (torn_from file + length frame) next behind);
          })

-- Cut to its content below the synced length, a log leaves the same frames.
module _ (number : ℕ) (file : File) (reading : LogReading) (lawful : IsLawfulFile file)
    (reads : ReadsLog number file.bytes reading) (format : ℕ) (header : reading.header ≡ Some format) where
  abbrev content : ℕ
  content = frames_end format reading.frames

  pub torn_cut : (left : ℕ) → frames_end format reading.frames ≤ left → frames_end format reading.frames < file.synced
      → (bytes : List ℕ) → Agrees (shortened (frames_end format reading.frames) left file) bytes
      → NoChanceOne Spells (Log number) (Some (shortened (frames_end format reading.frames) left file)) (Some bytes)
      → ReadsFrames number bytes reading
  torn_cut left short deep bytes agrees chance = record {
    reading = record { header = Some format; frames = reading.frames; whole = length (drop content bytes) == 0 };
    reads = subst (λ (b : List ℕ). ReadsLog number b
        (record { header = Some format; frames = reading.frames; whole = length (drop content bytes) == 0 }))
        (sym parts)
        (reads_with_tail format number apart.is_read reading.frames apart.have (drop content bytes) none);
    same = same_each (sym header) refl;
  }
    where
      apart : LogApart format number file.bytes reading.frames
      apart = log_apart number file.bytes reading reads format header

      cut : min (frames_end format reading.frames) file.synced ≡ frames_end format reading.frames
      cut = omega (arith, deep)

      front : take (frames_end format reading.frames) bytes ≡ log_bytes format number reading.frames
      front = ap (λ (n : ℕ). take n bytes) (sym cut) ∙ agrees.durable
          ∙ ap (λ (n : ℕ). take n (take left file.bytes)) cut ∙ take-take content left file.bytes short
          ∙ ap (take content) apart.parts ∙ take_at (log_bytes format number reading.frames) apart.tail content
          (length-log_bytes format number reading.frames)

      parts : bytes ≡ log_bytes format number reading.frames ++ drop (frames_end format reading.frames) bytes
      parts = sym (take-append-drop content bytes) ∙ ap (λ (b : List ℕ). b ++ drop content bytes) front

      has_header : HasHeader format number bytes
      has_header = subst (HasHeader format number) (sym parts)
          (headed_front format number reading.frames (drop content bytes))

      none : StandsNone (frames_grammar format) number (frames_end format reading.frames)
          (drop (frames_end format reading.frames) bytes)
      none f rest stands =
          let from : max 16 (min content file.synced) ≡ content =
          omega (arith, deep, length-log_bytes format number reading.frames) in
          let frame = item_frame (frames_grammar format) number content f in
          let spelled : Spells (Log number) bytes content frame =
          (format, apart.is_read, has_header, (f, rest, stands, refl)) in
          let handed = (chance tt refl).first frame (subst (λ (n : ℕ). Spells (Log number) bytes n frame)
          (sym from) spelled) in
          none_below file content frame lawful deep (subst
          (λ (n : ℕ). Any (StandsIn n frame) file.unsynced) from handed)
