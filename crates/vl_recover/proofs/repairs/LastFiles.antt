-- While the last log is repaired it stands at each moment as a file may stand on a disk that is opened.
use Rattle.std.specs.Prelude.{◌≡◌, ℕ, ◌+◌, ◌≤◌, ◌<◌, ◌==◌, min, max, Bool, List, [], ◌∷◌, ◌++◌, length, take, drop}
use Rattle.std.specs.Prelude.{Option, None, Some, if◌then◌else◌, false, true, refl}
use Rattle.std.specs.FinMap.{get}
use Rattle.std.specs.Option.{option_map}
use Rattle.std.proofs.Common.{ap, arith, length-append, subst, sym, ◌∙◌, ⊎_elim}
use Rattle.std.proofs.lemmas.Bool.{cases_lt, true≢false}
use Rattle.std.proofs.lemmas.List.{drop_at, length-take, take-take}
use Rattle.std.proofs.lemmas.List.Elements.{All-push}
use Rattle.vl_disk.specs.Chance.{NoChanceOne, torn_from}
use Rattle.vl_disk.specs.Changes.{SameElsewhere, changed_elsewhere, changed_there}
use Rattle.vl_disk.specs.Crash.{WhileAppending, WhileCutting, WhileSyncing}
use Rattle.vl_disk.specs.Disk.{IsInside}
use Rattle.vl_disk.specs.DiskState.{DiskState, File, Piece, appended, cut_to, lengthened, shortened, synced, synced_file, with_file}
use Rattle.vl_disk.specs.declared.name.Name.TheVariants.{Log}
use Rattle.vl_frame.specs.Runs.{ReadsAs, StandsAt}
use Rattle.vl_model.specs.declared.log_frame.LogFrame.{LogFrame}
use Rattle.vl_recover.specs.crash.Alike.{Spells}
use Rattle.vl_recover.specs.laws.opening.HeldLaws.{settled_may_stand}
use Rattle.vl_recover.specs.laws.repairing.LastLaws.{IsWithinHeader, LastStands, goes_past, loose_below, none_some}
use Rattle.vl_recover.specs.laws.repairing.LastLaws.{number_same, unkept_none, wrong_header}
use Rattle.vl_recover.specs.repairing.Repairing.{Cut, Headed, Kept, Rewritten, WhileHeading, WhileLast, headed, repairing_of}
use Rattle.vl_recover.specs.laws.crash.OneName.{elsewhere_then}
use Rattle.vl_recover.specs.crash.Starts.{MayStand}
use Rattle.vl_recover.specs.laws.crash.Torn.{ended_no_chance, same_handed, spelled_longer}
use Rattle.vl_recover.specs.laws.crash.TornFrames.{logged_spelled}
use Rattle.vl_recover.specs.opening.Walk.{StandingLog, keeps_header}
use Rattle.vl_seglog.specs.laws.FrameLaws.{length-log_bytes, length-log_header}
use Rattle.vl_model.specs.Formats.{log_format}
use Rattle.vl_seglog.specs.Frames.{frames_end, frames_grammar, log_bytes, log_header}
use Rattle.vl_seglog.specs.LogReading.{AreBehind, HasHeader, SaysFormat, end_of}
use Rattle.vl_seglog.specs.laws.LogReadingLaws.{LogApart, log_apart, one_format}

-- The log of this number stands, as it may, and nothing else is changed.
pub record StandsAs (k : ℕ) (disk now : DiskState) : Type 0 where
  pub file : File
  pub stands : get now.standing (Log k) ≡ Some file
  pub may : MayStand (Log k) file
  pub elsewhere : SameElsewhere (Log k) disk now
  pub removed : get now.removed (Log k) ≡ get disk.removed (Log k)

as_self : (k : ℕ) (disk : DiskState) (file : File) → get disk.standing (Log k) ≡ Some file
    → MayStand (Log k) file → StandsAs k disk disk
as_self k disk file stands may = record {
  file = file;
  stands = stands;
  may = may;
  elsewhere = record { standing = λ other apart. refl; removed = λ other apart. refl };
  removed = refl;
}

abbrev as_changed : (k : ℕ) (disk : DiskState) (file : File) (change : File → File)
    → get disk.standing (Log k) ≡ Some file → MayStand (Log k) (change file)
    → StandsAs k disk (with_file (Log k) change disk)
as_changed k disk file change stands may = record {
  file = change file;
  stands = changed_there (Log k) disk change ∙ ap (option_map change) stands;
  may = may;
  elsewhere = changed_elsewhere (Log k) disk change;
  removed = refl;
}

as_then : (k : ℕ) (a b c : DiskState) → StandsAs k a b → StandsAs k b c → StandsAs k a c
as_then k a b c p q = record {
  file = q.file;
  stands = q.stands;
  may = q.may;
  elsewhere = elsewhere_then (Log k) a b c p.elsewhere q.elsewhere;
  removed = q.removed ∙ p.removed;
}

-- ---- synced

as_synced : (k : ℕ) (disk now : DiskState) (file : File) → get disk.standing (Log k) ≡ Some file
    → MayStand (Log k) file → WhileSyncing (Log k) disk now → StandsAs k disk now
as_synced k disk now file stands may during = ⊎_elim
    (λ (same : now ≡ disk). subst (StandsAs k disk) (sym same) (as_self k disk file stands may))
    (λ (turns : now ≡ synced (Log k) disk). subst (StandsAs k disk) (sym turns)
    (as_changed k disk file synced_file stands (settled_may_stand (Log k) file.bytes)))
    during

-- ---- given a header

module _ (k : ℕ) (disk : DiskState) (file : File) (stands : get disk.standing (Log k) ≡ Some file)
    (empty : file.bytes ≡ []) (within : IsWithinHeader file) where
  empty_stand : MayStand (Log k) file
  empty_stand = record {
    no_chance = λ right. ended_no_chance (Log k) file file.bytes
        (omega (arith, ap length empty));
    headless = λ wrong. within;
  }

  headed_stand : (taken : ℕ) → MayStand (Log k) (lengthened (log_header log_format k) taken file)
  headed_stand taken = record {
    no_chance = λ right. ended_no_chance (Log k) (lengthened (log_header log_format k) taken file)
        (file.bytes ++ take taken (log_header log_format k))
        (omega (
          arith,
          ap length empty,
          length-append file.bytes
              (take taken (log_header log_format k)),
          length-take taken (log_header log_format k),
          length-log_header log_format k,
        ));
    headless = λ wrong. All-push (λ (piece : Piece). piece.place + length piece.bytes ≤ 16) file.unsynced
        (record { place = length file.bytes; bytes = log_header log_format k }) within
        (omega (arith, ap length empty, length-log_header log_format k));
  }

  as_headed : (now : DiskState) → WhileHeading k disk now → StandsAs k disk now
  as_headed now during = ⊎_elim
      (λ (w : WhileAppending (Log k) (log_header log_format k) disk now). ⊎_elim
      (λ (same : now ≡ disk). subst (StandsAs k disk) (sym same) (as_self k disk file stands empty_stand))
      (λ (x : (taken : ℕ) × (taken ≤ length (log_header log_format k))
      × (now ≡ appended (Log k) (log_header log_format k) taken disk)).
      subst (StandsAs k disk) (sym x.2) (as_changed k disk file (lengthened (log_header log_format k) x.0) stands
      (headed_stand x.0)))
      w)
      (λ (w : WhileSyncing (Log k) (headed k disk) now).
      let change = lengthened (log_header log_format k) (length (log_header log_format k)) in
      let first = as_changed k disk file change stands (headed_stand (length (log_header log_format k))) in
      as_then k disk (headed k disk) now first (as_synced k (headed k disk) now
      (change file) first.stands first.may w))
      during

-- ---- the last log

module _ (q : StandingLog) (disk : DiskState) (is : LastStands q disk) where
  abbrev k : ℕ
  k = q.number

  -- as it stood
  stood : MayStand (Log q.number) is.file
  stood = record {
    no_chance = λ right. is.no_chance (λ none. right (wrong_header k is.file.bytes q.reading is.reads none));
    headless = λ other. is.headless (λ header. other
        (subst (λ (h : Option ℕ). SaysFormat h q.number is.file.bytes) header is.reads.header).1);
  }

  -- first bytes have the header that all have
  first_header : (format left : ℕ) → HasHeader format q.number (take left is.file.bytes)
      → HasHeader format q.number is.file.bytes
  first_header format left header =
      let long : 16 ≤ left = omega (
        arith,
        ap length header,
        length-take 16
            (take left is.file.bytes),
        length-take left is.file.bytes,
        length-log_header format k,
      ) in
      sym (take-take 16 left is.file.bytes long) ∙ header

  module _ (format : ℕ) (header : q.reading.header ≡ Some format) (keeps : keeps_header q.reading.header q.reading.frames ≡ true)
      (goes_on : q.reading.whole ≡ false) (left : ℕ) (short : frames_end format q.reading.frames ≤ left) where
    abbrev end : ℕ
    end = frames_end format q.reading.frames

    apart : LogApart format q.number is.file.bytes q.reading.frames
    apart = log_apart k is.file.bytes q.reading is.reads format header

    right : q.reading.header ≡ None → ⊥
    right none = none_some format (sym header ∙ none)

    -- behind the frames that were read stands none, nor in first bytes of the file
    none_behind : (frame : List ℕ) → Spells (Log q.number) (take left is.file.bytes)
        (frames_end format q.reading.frames) frame → ⊥
    none_behind frame here =
        let (f, rest, stands, same) = logged_spelled format k is.file.bytes apart.is_read
        (subst (λ (h : Option ℕ). SaysFormat h k is.file.bytes) header is.reads.header).1 end frame
        (spelled_longer k left is.file is.file.bytes end frame here) in
        let tail : drop end is.file.bytes ≡ apart.tail = ap (drop end) apart.parts
        ∙ drop_at (log_bytes format k q.reading.frames) apart.tail end (length-log_bytes format k q.reading.frames) in
        apart.none f rest (subst (λ (b : List ℕ). StandsAt (frames_grammar format) k end b f rest) tail stands)

    cut_chance : NoChanceOne Spells (Log q.number) (Some
        (shortened (frames_end format q.reading.frames) left is.file)) (Some (take left is.file.bytes))
    cut_chance = ⊎_elim
        (λ (deep : end < is.file.synced). below deep)
        (λ (flat : is.file.synced ≤ end). above flat)
        (cases_lt end is.file.synced)
      where
        below : frames_end format q.reading.frames < is.file.synced
            → NoChanceOne Spells (Log q.number) (Some (shortened (frames_end format q.reading.frames) left is.file))
            (Some (take left is.file.bytes))
        below deep grows loose =
            let from : max 16 (min end is.file.synced) ≡ end =
            omega (arith, deep, length-log_bytes format k q.reading.frames) in
            let not : (frame : List ℕ) → Spells (Log k) (take left is.file.bytes)
            (max 16 (min end is.file.synced)) frame → ⊥ =
            λ frame here. none_behind frame (subst (λ (n : ℕ). Spells (Log k)
            (take left is.file.bytes) n frame) from here) in
            record {
              first = λ frame here. absurd (not frame here);
              next =
                  λ frame next here behind. absurd (not frame here);
            }

        above : is.file.synced ≤ frames_end format q.reading.frames
            → NoChanceOne Spells (Log q.number) (Some (shortened (frames_end format q.reading.frames) left is.file))
            (Some (take left is.file.bytes))
        above flat grows loose =
            let was_loose = loose_below is.file end is.lawful
            (goes_past k is.file.bytes q.reading is.reads format header goes_on) flat in
            let only = is.no_chance right tt was_loose in
            let from : max 16 is.file.synced ≡ max 16 (min end is.file.synced) = omega (arith, flat) in
            same_handed is.file (shortened end left is.file)
            (Spells (Log k) (take left is.file.bytes)) from refl (record {
              first = λ frame here. only.first frame (spelled_longer k left is.file is.file.bytes
                  (torn_from is.file) frame here);
              next = λ frame next here behind. only.next frame next
                  (spelled_longer k left is.file is.file.bytes (torn_from is.file) frame here)
                  (spelled_longer k left is.file is.file.bytes
                  (torn_from is.file + length frame) next behind);
            })

    front : take 16 (take left is.file.bytes) ≡ take 16 is.file.bytes
    front = take-take 16 left is.file.bytes (omega (arith, short, length-log_bytes format k q.reading.frames))

    cut_stand : MayStand (Log q.number) (shortened (frames_end format q.reading.frames) left is.file)
    cut_stand = record {
      no_chance = λ right. cut_chance;
      headless = λ other. is.headless (λ written. other (front
          ∙ (subst (λ (h : Option ℕ). SaysFormat h q.number is.file.bytes) written is.reads.header).1));
    }

  module _ (keeps : keeps_header q.reading.header q.reading.frames ≡ false) where
    not_written : q.reading.header ≡ Some log_format → ⊥
    not_written header = true≢false (sym (ap (λ (h : Option ℕ). keeps_header h q.reading.frames) header) ∙ keeps)

    within : IsWithinHeader is.file
    within = is.headless not_written

    -- cut to first bytes, it has no frame by chance where it had none
    emptied_chance : (left : ℕ) → NoChanceOne Spells (Log q.number) (Some (shortened 0 left is.file)) (Some (take left is.file.bytes))
    emptied_chance left grows loose = record {
      first = λ frame here. absurd (none_here frame (at_front frame here));
      next = λ frame next here behind. absurd (none_here frame (at_front frame here));
    }
      where
        at_front : (frame : List ℕ)
            → Spells (Log q.number) (take left is.file.bytes) (torn_from (shortened 0 left is.file)) frame
            → Spells (Log q.number) (take left is.file.bytes) 16 frame
        at_front frame here =
            let from : torn_from (shortened 0 left is.file) ≡ 16 = omega arith in
            subst (λ (n : ℕ). Spells (Log q.number) (take left is.file.bytes) n frame) from here

        empty : q.reading.frames ≡ []
        empty = unkept_none k is.file.bytes q.reading is.reads keeps

        none_here : (frame : List ℕ) → Spells (Log q.number) (take left is.file.bytes) 16 frame → ⊥
        none_here frame here =
            let (format, is_read, header, (f, rest, stands, same)) = spelled_longer k left is.file is.file.bytes 16 frame here in
            let says = one_format k is.file.bytes q.reading.header (Some format) is.reads.header (is_read, header) in
            let none : ReadsAs (frames_grammar format) k 16 (drop 16 is.file.bytes) [] =
            subst (λ (fs : List LogFrame). ReadsAs (frames_grammar format) k 16 (drop 16 is.file.bytes) fs) empty
            (subst (λ (h : Option ℕ). AreBehind h k is.file.bytes q.reading.frames) says is.reads.frames) in
            none f rest stands

    emptied_stand : (left : ℕ) → MayStand (Log q.number) (shortened 0 left is.file)
    emptied_stand left = record { no_chance = λ right. emptied_chance left; headless = λ other. within }

    as_rewritten : (now : DiskState) → WhileLast (Rewritten q.number) disk now → StandsAs q.number disk now
    as_rewritten now during = ⊎_elim
        (λ (w : WhileCutting (Log k) 0 disk now). ⊎_elim
        (λ (same : now ≡ disk). subst (StandsAs k disk) (sym same) (as_self k disk is.file is.stands stood))
        (λ (x : (left : ℕ) × (0 ≤ left) × IsInside (Log k) left disk × (now ≡ cut_to (Log k) 0 left disk)).
        subst (StandsAs k disk) (sym x.3) (as_changed k disk is.file (shortened 0 x.0) is.stands
        (emptied_stand x.0)))
        w)
        (λ (w : WhileHeading k (cut_to (Log k) 0 0 disk) now).
        let first = as_changed k disk is.file (shortened 0 0) is.stands (emptied_stand 0) in
        as_then k disk (cut_to (Log k) 0 0 disk) now first
        (as_headed k (cut_to (Log k) 0 0 disk) (shortened 0 0 is.file) first.stands refl within now w))
        during

  as_cut : (format : ℕ) → q.reading.header ≡ Some format → keeps_header q.reading.header q.reading.frames ≡ true
      → q.reading.whole ≡ false → (now : DiskState)
      → WhileLast (Cut q.number (frames_end format q.reading.frames)) disk now → StandsAs q.number disk now
  as_cut format header keeps goes_on now during =
      let end = frames_end format q.reading.frames in
      ⊎_elim
      (λ (w : WhileCutting (Log k) end disk now). ⊎_elim
      (λ (same : now ≡ disk). subst (StandsAs k disk) (sym same) (as_self k disk is.file is.stands stood))
      (λ (x : (left : ℕ) × (end ≤ left) × IsInside (Log k) left disk × (now ≡ cut_to (Log k) end left disk)).
      subst (StandsAs k disk) (sym x.3) (as_changed k disk is.file (shortened end x.0) is.stands
      (cut_stand format header keeps goes_on x.0 x.1)))
      w)
      (λ (w : WhileSyncing (Log k) (cut_to (Log k) end end disk) now).
      let first = as_changed k disk is.file (shortened end end) is.stands
      (cut_stand format header keeps goes_on end (omega arith)) in
      as_then k disk (cut_to (Log k) end end disk) now first
      (as_synced k (cut_to (Log k) end end disk) now
      (shortened end end is.file) first.stands first.may w))
      during

  -- At each moment of its repairing it stands as it may.
  pub as_repairing : (now : DiskState) → WhileLast (repairing_of q) disk now → StandsAs q.number disk now
  as_repairing now = by q.reading.header (keeps_header q.reading.header q.reading.frames) q.reading.whole (q.length == 0)
      refl refl refl refl
    where
      nothing : (bytes : List ℕ) → length bytes ≡ 0 → bytes ≡ []
      nothing [] e = refl
      nothing (b ∷ bs) e = absurd (omega (arith, e))

      by : (header : Option ℕ) (keeps whole empty : Bool) → q.reading.header ≡ header
          → keeps_header q.reading.header q.reading.frames ≡ keeps → q.reading.whole ≡ whole
          → (q.length == 0) ≡ empty
          → WhileLast (if keeps then (if whole then Kept q.number else Cut q.number
          (end_of header q.reading.frames)) else
          (if empty then Headed q.number else Rewritten q.number)) disk now
          → StandsAs q.number disk now
      by header true true empty h p w e during = as_synced k disk now is.file is.stands stood during
      by (Some format) true false empty h p w e during = as_cut format h p w now during
      by None true false empty h p w e during = absurd (true≢false (sym p
          ∙ ap (λ (o : Option ℕ). keeps_header o q.reading.frames) h))
      by header false whole true h p w e during = as_headed k disk is.file is.stands
          (nothing is.file.bytes (sym is.length_is ∙ number_same q.length 0 e)) (within p) now during
      by header false whole false h p w e during = as_rewritten p now during
