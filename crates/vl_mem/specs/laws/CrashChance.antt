-- The image that a crash of a disk in memory leaves has no chance match.
use Rattle.std.specs.Prelude.{◌≡◌, ◌⊎◌, Bool, true, ℕ, ◌+◌, ◌-◌, ◌/◌, ◌≤◌, ◌<◌, false, List, [], ◌++◌, length, take}
use Rattle.std.specs.Prelude.{drop, Option, None, Some, if◌then◌else◌}
use Rattle.std.specs.FinMap.{get}
use Rattle.std.proofs.Common.{inl, inr, ⊎_elim, refl, sym, ◌∙◌, ap, subst, arith}
use Rattle.std.proofs.lemmas.List.{take-take, take_all, drop-take, drop_all, drop_at, drop-drop, length-take, length-drop}
use Rattle.std.proofs.lemmas.List.Quantifiers.{Any-push}
use Rattle.vl_disk.specs.declared.name.Name.{Name}
use Rattle.vl_disk.specs.Chance.{GrowsByFrames, HasOnlyHandedOver, NoChanceOne, NoChanceMatch, StandsIn, WasHandedOver, torn_from}
use Rattle.vl_disk.specs.Crash.{last_file}
use Rattle.vl_disk.specs.DiskState.{Piece, File, DiskState, lengthened}
use Rattle.vl_mem.specs.declared.outcome.Outcome.{Outcome}
use Rattle.vl_mem.specs.declared.outcome.Outcome.TheVariants.{Lost, Kept, Halved}
use Rattle.vl_mem.specs.CrashImage.{crash_image, durable_bytes, half_torn_bytes, left_of}
use Rattle.vl_mem.specs.laws.CrashLaws.{image_left}

-- the bytes have this frame at this place
abbrev pub HasAt : ℕ → List ℕ → List ℕ → Type 0
HasAt place frame bytes = take (length frame) (drop place bytes) ≡ frame

-- What is asked of what spells frames: a frame stands where it is spelled, and isn't empty.
-- `spells name bytes place frame` says that the bytes of a file of this name have at this place a frame with these bytes.
pub record SpellsWhatStands (spells : Name → List ℕ → ℕ → List ℕ → Type 0) : Type 0 where
  pub stands : (name : Name) (bytes : List ℕ) (place : ℕ) (frame : List ℕ)
      → spells name bytes place frame → HasAt place frame bytes
  pub some : (name : Name) (bytes : List ℕ) (place : ℕ) (frame : List ℕ)
      → spells name bytes place frame → 1 ≤ length frame

-- the bytes of a file that may be torn
abbrev pub torn_bytes : File → List ℕ
torn_bytes file = drop (torn_from file) file.bytes

-- they are none, or one piece that is unsynced has them at their place
abbrev pub IsTornInOnePiece : File → Type 0
IsTornInOnePiece file = (torn_bytes file ≡ []) ⊎ WasHandedOver file (torn_from file) (torn_bytes file)

-- so it is of each log and each manifest that stands and isn't wholly synced
pub record IsTornByPieces (disk : DiskState) : Type 0 where
  pub each : (name : Name) (file : File) → get disk.standing name ≡ Some file → GrowsByFrames name
      → file.wholly_synced ≡ false → IsTornInOnePiece file

-- ---- what first bytes have

le_or_past : (m n : ℕ) → (m ≤ n) ⊎ (n < m)
le_or_past m n = grind arith

module _ (bytes frame : List ℕ) (place : ℕ) where
  -- what stands in some first bytes stands in all of them
  has_whole : (n : ℕ) → HasAt place frame (take n bytes) → HasAt place frame bytes
  has_whole n has = ⊎_elim within past (le_or_past place n)
    where
      within : place ≤ n → HasAt place frame bytes
      within le = sym (take-take (length frame) (n - place) rest fits) ∙ front
        where
          rest : List ℕ
          rest = drop place bytes

          cut : drop place (take n bytes) ≡ take (n - place) rest
          cut = ap (λ (k : ℕ). drop place (take k bytes)) (omega (arith, le)) ∙ drop-take place (n - place) bytes

          front : take (length frame) (take (n - place) rest) ≡ frame
          front = sym (ap (take (length frame)) cut) ∙ has

          fits : length frame ≤ n - place
          fits = omega (arith, sym (ap length front), length-take (length frame) (take (n - place) rest), length-take (n - place) rest)

      past : n < place → HasAt place frame bytes
      past lt = ap (λ (f : List ℕ). take (length f) (drop place bytes)) empty ∙ sym empty
        where
          none : drop place (take n bytes) ≡ []
          none = drop_all place (take n bytes) (omega (arith, lt, length-take n bytes))

          empty : frame ≡ []
          empty = sym has ∙ ap (take (length frame)) none ∙ take_all (length frame) [] (omega arith)

  -- no frame stands behind all bytes
  none_behind : length bytes ≤ place → 1 ≤ length frame → HasAt place frame bytes → ⊥
  none_behind behind some has =
      omega (arith, behind, some, sym (ap length has), length-take (length frame) (drop place bytes), length-drop place bytes)

-- ---- files

-- Some bytes are left of a file, and what stands in them where they may be torn was handed over for there.
abbrev HandedOverIn : File → List ℕ → Type 0
HandedOverIn file bytes = (frame : List ℕ) (offset : ℕ) → 1 ≤ length frame
    → HasAt (torn_from file + offset) frame bytes → WasHandedOver file (torn_from file + offset) frame

module _ (file : File) where
  abbrev from : ℕ
  from = torn_from file

  -- what stands in the file where it may be torn, stands in the piece that is unsynced there
  torn_in_piece : (piece : Piece) (frame : List ℕ) (offset : ℕ) → StandsIn from (torn_bytes file) piece
      → HasAt (from + offset) frame file.bytes → StandsIn (from + offset) frame piece
  torn_in_piece piece frame offset unsynced has = record
      { from = omega (arith, unsynced.from); bytes_are = sym (ap (take (length frame)) there) ∙ in_rest }
    where
      rest : List ℕ
      rest = drop (from - piece.place) piece.bytes

      torn : HasAt offset frame (torn_bytes file)
      torn = ap (take (length frame)) (drop-drop offset from file.bytes) ∙ has

      in_rest : HasAt offset frame rest
      in_rest = has_whole rest frame offset (length (torn_bytes file)) (subst (HasAt offset frame) (sym unsynced.bytes_are) torn)

      there : drop offset rest ≡ drop ((from + offset) - piece.place) piece.bytes
      there = drop-drop offset (from - piece.place) piece.bytes
          ∙ ap (λ (k : ℕ). drop k piece.bytes) (omega (arith, unsynced.from))

  first_handed : (n : ℕ) → IsTornInOnePiece file → HandedOverIn file (take n file.bytes)
  first_handed n torn frame offset some has = ⊎_elim none one torn
    where
      none : torn_bytes file ≡ [] → WasHandedOver file (from + offset) frame
      none is = absurd (none_behind (take n file.bytes) frame (from + offset)
          (omega (arith, sym (ap length is), length-drop from file.bytes, length-take n file.bytes)) some has)

      one : WasHandedOver file from (torn_bytes file) → WasHandedOver file (from + offset) frame
      one unsynced =
          let whole = has_whole file.bytes frame (from + offset) n has in
          (unsynced.0, unsynced.1, unsynced.2, unsynced.3, torn_in_piece unsynced.1 frame offset unsynced.4 whole)

  durable_handed : HandedOverIn file (durable_bytes file)
  durable_handed frame offset some has = absurd (none_behind (durable_bytes file) frame (from + offset)
      (omega (arith, length-take file.synced file.bytes)) some has)

-- ---- images

module _ (spells : Name → List ℕ → ℕ → List ℕ → Type 0) (sound : SpellsWhatStands spells) where
  only_handed : (name : Name) (file : File) (bytes : List ℕ) → HandedOverIn file bytes
      → HasOnlyHandedOver file (spells name bytes)
  only_handed name file bytes handed = record {
    first = λ frame is. subst (λ (place : ℕ). WasHandedOver file place frame) here
        (at frame 0 (subst (λ (place : ℕ). spells name bytes place frame) (sym here) is));
    next = λ frame next is behind. at next (length frame) behind;
  }
    where
      here : torn_from file + 0 ≡ torn_from file
      here = omega arith

      at : (frame : List ℕ) (offset : ℕ) → spells name bytes (torn_from file + offset) frame
          → WasHandedOver file (torn_from file + offset) frame
      at frame offset is = let place = torn_from file + offset in
          handed frame offset (sound.some name bytes place frame is) (sound.stands name bytes place frame is)

  -- the image has no chance match where all bytes that may be torn are of pieces
  pub crash_without_chance : (outcome : Outcome) (disk : DiskState) → IsTornByPieces disk
      → NoChanceMatch spells disk (crash_image outcome disk)
  crash_without_chance outcome disk torn name =
      subst (NoChanceOne spells name (last_file (get disk.standing name) (get disk.removed name)))
      (sym (image_left outcome disk name)) (of outcome (get disk.standing name) (get disk.removed name) refl)
    where
      lasting : (file : File) (b : Bool) → NoChanceOne spells name (Some file) (if b then Some (durable_bytes file) else None)
      lasting file true = λ grows unsynced. only_handed name file (durable_bytes file) (durable_handed file)
      lasting file false = tt

      whole : (file : File) → IsTornInOnePiece file → HandedOverIn file file.bytes
      whole file pieces = subst (HandedOverIn file) (take_all (length file.bytes) file.bytes (omega arith))
          (first_handed file (length file.bytes) pieces)

      half : (file : File) → IsTornInOnePiece file → HandedOverIn file (half_torn_bytes file)
      half file = first_handed file (file.synced + (length file.bytes - file.synced) / 2)

      of : (o : Outcome) (standing removed : Option File) → get disk.standing name ≡ standing
          → NoChanceOne spells name (last_file standing removed) (left_of o standing removed)
      of Lost (Some file) removed stands = lasting file file.lasting
      of Lost None (Some gone) stands = lasting gone gone.lasting
      of Lost None None stands = tt
      of Kept (Some file) removed stands = λ grows unsynced.
          only_handed name file file.bytes (whole file (torn.each name file stands grows unsynced))
      of Kept None (Some gone) stands = tt
      of Kept None None stands = tt
      of Halved (Some file) removed stands = λ grows unsynced.
          only_handed name file (half_torn_bytes file) (half file (torn.each name file stands grows unsynced))
      of Halved None (Some gone) stands = tt
      of Halved None None stands = tt

-- ---- files of which this is so

-- one that has nothing there
pub untorn_file : (file : File) → length file.bytes ≤ torn_from file → IsTornInOnePiece file
untorn_file file within = inl (drop_all (torn_from file) file.bytes within)

-- and one that had nothing there when a piece was handed to it
pub lengthened_torn : (piece : List ℕ) (taken : ℕ) (file : File) → length file.bytes ≤ torn_from file
    → IsTornInOnePiece (lengthened piece taken file)
lengthened_torn piece taken file within =
    inr (Any-push (StandsIn (torn_from file) torn) file.unsynced added (record { from = within; bytes_are = has }))
  where
    added : Piece
    added = record { place = length file.bytes; bytes = piece }

    torn : List ℕ
    torn = torn_bytes (lengthened piece taken file)

    past : ℕ
    past = torn_from file - length file.bytes

    tail : torn ≡ drop past (take taken piece)
    tail = ap (λ (k : ℕ). drop k (file.bytes ++ take taken piece)) (omega (arith, within))
        ∙ sym (drop-drop past (length file.bytes) (file.bytes ++ take taken piece))
        ∙ ap (drop past) (drop_at file.bytes (take taken piece) (length file.bytes) refl)

    has : HasAt past torn piece
    has = has_whole piece torn past taken (ap (take (length torn)) (sym tail) ∙ take_all (length torn) torn (omega arith))
