-- What a stop leaves of a disk: which history the image of its crash shows.
use Rattle.std.proofs.Common.{◌≡◌, ⊎_elim, ℕ, ◌+◌, ◌<◌, ◌≤◌, List, [], ◌∷◌, ◌++◌, length, map, take, Option, Some}
use Rattle.std.proofs.Common.{None, Ok, true, false, refl, sym, ◌∙◌, ap, subst, arith, length-append}
use Rattle.std.specs.Prelude.{◌≢◌, ◌-◌, ◌/◌, Bool, nat_le, suc}
use Rattle.std.specs.FinMap.{get}
use Rattle.std.specs.List.{AllByRecursion}
use Rattle.std.specs.Option.{option_map}
use Rattle.std.proofs.Math.Seq.{take-append-add}
use Rattle.std.proofs.lemmas.List.{length-take, map-append, take-take, take_all, take_at}
use Rattle.vl_disk.specs.Changes.{SameElsewhere, changed_elsewhere, changed_there}
use Rattle.vl_disk.specs.Crash.{Image, MayLeave}
use Rattle.vl_disk.specs.DiskState.{DiskState, File, IsLawful, appended, lengthened, synced, synced_file}
use Rattle.vl_disk.specs.laws.Lawful.{appended_lawful}
use Rattle.vl_disk.specs.laws.NameMap.{same_or_other}
use Rattle.vl_disk.specs.Started.{read_left}
use Rattle.vl_disk.specs.declared.name.Name.{Name}
use Rattle.vl_disk.specs.declared.name.Name.TheVariants.{Log}
use Rattle.vl_frame.specs.laws.RunLaws.{frame_is_some, one_front}
use Rattle.vl_frame.specs.Runs.{HasFrame, StandsNone, item_frame}
use Rattle.vl_engine_model.specs.Sources.{tables}
use Rattle.vl_engine_model.specs.Store.Commits.{history_in}
use Rattle.vl_engine_model.specs.Tidy.{sealed}
use Rattle.vl_engine_model.specs.declared.layout.Layout.{Layout}
use Rattle.vl_engine_model.specs.declared.segment.Segment.{Segment}
use Rattle.vl_manifest.specs.declared.state.ManifestState.{ManifestState}
use Rattle.vl_mem.specs.CrashImage.{crash_image, left_of}
use Rattle.vl_mem.specs.laws.CrashChance.{crash_without_chance}
use Rattle.vl_mem.specs.laws.CrashLaws.{crash_left, image_left}
use Rattle.vl_mem.specs.declared.outcome.Outcome.{Outcome}
use Rattle.vl_mem.specs.declared.outcome.Outcome.TheVariants.{Lost, Kept, Halved}
use Rattle.vl_model.specs.History.{History, last_number}
use Rattle.vl_model.specs.Limits.{max_file_number}
use Rattle.vl_model.specs.declared.log_frame.LogFrame.{LogFrame}
use Rattle.vl_recover.specs.opening.Walk.{standing_log}
use Rattle.vl_recover.specs.laws.crash.AppendLaws.{last_held, manifest_kept, needs_beside, standing_with, walked_with}
use Rattle.vl_recover.specs.crash.Alike.{IsLeft, Spells}
use Rattle.vl_recover.specs.crash.Held.{GoOn, HoldsStore, View, log_as_held, opening_held}
use Rattle.vl_recover.specs.laws.opening.HeldLaws.{held_current, held_opens, held_says, needs_image, needs_led}
use Rattle.vl_recover.specs.opening.Opening.{IsAmong, Led, Opening, Opens, Refusal, led_into}
use Rattle.vl_recover.specs.laws.opening.IdleLaws.{StandAmongIdle, idle_filled, idle_walked}
use Rattle.vl_recover.specs.laws.opening.OpeningLaws.{is_opened, single_opening, some_none}
use Rattle.vl_recover.specs.laws.repairing.StageLaws.{ok_same}
use Rattle.vl_recover.specs.laws.crash.TornFrames.{frame_behind, torn_log}
use Rattle.vl_recover.specs.opening.Walk.{StandingLog, filled, walked, with_frames}
use Rattle.vl_seglog.specs.Frames.{frame_at, frames_end, frames_grammar, log_bytes}
use Rattle.vl_seglog.specs.LogReading.{IsLogFormat}
use Rattle.vl_seglog.specs.laws.LogReadingLaws.{SaysFrames, reads_with_tail}
use Rattle.vl_script_model.specs.Reopens.{NamesUpTo, Reopens, state_left}
use Rattle.vl_script_model.specs.Sequential.{State, history_of}
use Rattle.vl_script_model.specs.Stopped.{ByFrame, StopsStep, append_failed, step_failed, sync_failed, with_taken}
use Rattle.vl_script_model.specs.Stored.{IsStopped, IsStored}
use Rattle.vl_engine_laws.specs.Files.{found_levels}
use Rattle.vl_engine_laws.specs.Held.{Base, logs_from}
use Rattle.vl_engine_laws.specs.laws.HeldLaws.{image_shows, sources_held, store_held}
use Rattle.vl_engine_laws.specs.laws.KeptLaws.{sources_kept, tables_beside_log}
use Rattle.vl_engine_laws.specs.laws.SegmentLaws.{not_among, other_logs}
use Rattle.vl_engine_laws.specs.Shown.{Shown}
use Rattle.vl_engine_laws.specs.Writing.{written}
use Rattle.vl_script_model.specs.laws.OpeningStopped.{spells_what_stands}
use Rattle.vl_script_model.specs.laws.NumbersLeft.{names_left, numbered_changed, numbers_left, reopens_by}

-- ---- a log that ends with a part of a frame

module _ (format number : ℕ) (is_read : IsLogFormat format) (frames : List LogFrame) (f : LogFrame)
    (has : HasFrame (frames_grammar format) f) (k : ℕ) where
  abbrev whole : List ℕ
  whole = frame_behind format number frames f

  -- no frame is spelled in a part of one,
  part_says_none : k < length whole → StandsNone (frames_grammar format) number (frames_end format frames) (take k whole)
  part_says_none less g rest stands =
      let some = item_frame (frames_grammar format) number (frames_end format frames) g in
      let parts : take k whole ≡ some ++ rest = stands.spelled in
      let within : length some ≤ k = omega (arith, ap length parts, length-append some rest, length-take k whole) in
      let front : take (length some) whole ≡ some =
      sym (take-take (length some) k whole within) ∙ ap (take (length some)) parts ∙ take_at some rest (length some) refl in
      let same : g ≡ f = one_front (frames_grammar format) number (frames_end format frames) f g has
      (record { lawful = stands.lawful; short = stands.short }) front in
      let all : length some ≡ length whole =
      ap (λ (x : LogFrame). length (item_frame (frames_grammar format) number (frames_end format frames) x)) same in
      omega (arith, less, within, all)

  -- so the log says the frames before it
  part_says : k < length whole → AllByRecursion (HasFrame (frames_grammar format)) frames
      → SaysFrames format number (log_bytes format number frames ++ take k whole) frames
  part_says less have = (_, reads_with_tail format number is_read frames have (take k whole) (part_says_none less))

-- the logs with frames are the same where the last one has the same, in the same format
filled_with : (a b : StandingLog) → a.number ≡ b.number → a.reading.header ≡ b.reading.header
    → a.reading.frames ≡ b.reading.frames → (logs : List StandingLog)
    → filled (logs ++ a ∷ []) ≡ filled (logs ++ b ∷ [])
filled_with a b number header frames [] = λ i. with_frames (number i) (header i) (frames i) []
filled_with a b number header frames (q ∷ logs) =
    ap (with_frames q.number q.reading.header q.reading.frames) (filled_with a b number header frames logs)

-- ---- images of a disk whose log took a part of a frame

-- of a disk that holds a store, and a frame for its last log
module _ (state : ManifestState) (view : View) (before : List Segment) (last : Segment) (f : LogFrame) (disk : DiskState)
    (holds : HoldsStore state view (before ++ last ∷ []) disk) (unled : IsAmong (led_into view.levels) last.number → ⊥)
    (has : HasFrame (frames_grammar last.format) f) where
  abbrev frame : List ℕ
  frame = frame_behind last.format last.number last.frames f

  abbrev torn : ℕ → DiskState
  torn taken = appended (Log last.number) frame taken disk

  abbrev log : List ℕ
  log = log_bytes last.format last.number last.frames

  torn_there : (taken : ℕ) → get (torn taken).standing (Log last.number)
      ≡ Some (torn_log last.format last.number last.frames f taken)
  torn_there taken = changed_there (Log last.number) disk (lengthened frame taken)
      ∙ ap (option_map (lengthened frame taken)) (last_held state.head before last disk holds.logs_are).stands

  -- An image that has only a part of the frame opens with the logs before it.
  part_opens : (number : ℕ) → GoOn state.covered (before ++ last ∷ []) number → (taken : ℕ) (image : Image) → MayLeave (torn taken) image
      → (k : ℕ) → k < length frame → get image (Log last.number) ≡ Some (log ++ take k frame)
      → Opens image (Ok (opening_held state view (before ++ last ∷ []) number))
  part_opens number goes taken image may k less is =
      let elsewhere = changed_elsewhere (Log last.number) disk (lengthened frame taken) in
      let held = manifest_kept last.number state disk (torn taken) elsewhere holds.manifest in
      let is_last = last_held state.head before last disk holds.logs_are in
      let says = part_says last.format last.number is_last.is_read last.frames f has k less is_last.have in
      let found = standing_log last.number (log ++ take k frame)
      (record { header = Some last.format; frames = last.frames; whole = says.0 }) in
      let logs = map log_as_held before ++ found ∷ [] in
      let among : StandAmongIdle image state.head logs =
      standing_with last disk (torn taken) image elsewhere may (log ++ take k frame) found.reading is says.1 state.head
      before holds.logs_are in
      let split = map-append log_as_held before (last ∷ []) in
      let walk : walked state.covered logs ≡ Ok number =
      walked_with (log_as_held last) found number number (λ m e. e) state.covered (map log_as_held before)
      (subst (λ (l : List StandingLog). walked state.covered l ≡ Ok number) split goes) in
      let filled_same : filled logs ≡ filled (map log_as_held (before ++ last ∷ [])) =
      filled_with found (log_as_held last) refl refl refl (map log_as_held before) ∙ ap filled (sym split) in
      let needs = needs_beside state view last.number disk (torn taken) unled elsewhere holds.needs in
      is_opened image (opening_held state view (before ++ last ∷ []) number) (record {
        heading = Led held.number held.bytes;
        headed = held_current state (torn taken) held image may;
        says = held_says state (torn taken) held;
        levels = needs_image state view (torn taken) image needs may;
        led = needs_led state view (torn taken) image needs may;
        standing = among.found;
        stands = among.stand;
        walk = idle_walked state.covered among.found logs among.with_idle ∙ walk;
        logs_are = sym (idle_filled among.found logs among.with_idle ∙ filled_same);
      })

  -- the log with so many bytes of what it took
  part_of : (taken n : ℕ) → take (length log + n) (log ++ take taken frame) ≡ log ++ take n (take taken frame)
  part_of taken n = take-append-add log (take taken frame) n

  -- what a crash leaves of it, where the log took nothing,
  none_left : (outcome : Outcome) → get (crash_image outcome (torn 0)) (Log last.number) ≡ Some (log ++ take 0 frame)
  none_left outcome = image_left outcome (torn 0) (Log last.number)
      ∙ ap (λ (o : Option File). left_of outcome o (get (torn 0).removed (Log last.number))) (torn_there 0) ∙ of outcome
    where
      file : File
      file = torn_log last.format last.number last.frames f 0

      removed : Option File
      removed = get (torn 0).removed (Log last.number)

      cut : (n : ℕ) → take (length log + n) (log ++ take 0 frame) ≡ log ++ take 0 frame
      cut n = part_of 0 n ∙ ap (λ (b : List ℕ). log ++ b) (take_all n (take 0 frame) (omega (arith, length-take 0 frame)))

      of : (o : Outcome) → left_of o (Some file) removed ≡ Some (log ++ take 0 frame)
      of Lost = let end : length log + 0 ≡ length log = omega arith in
          ap Some (sym (ap (λ (n : ℕ). take n (log ++ take 0 frame)) end) ∙ cut 0)
      of Kept = refl
      of Halved = ap Some (cut ((length (log ++ take 0 frame) - length log) / 2))

  -- where it took all but what isn't durable is lost,
  lost_left : (taken : ℕ) → get (crash_image Lost (torn taken)) (Log last.number) ≡ Some (log ++ take 0 frame)
  lost_left taken = image_left Lost (torn taken) (Log last.number)
      ∙ ap (λ (o : Option File). left_of Lost o (get (torn taken).removed (Log last.number))) (torn_there taken)
      ∙ (let end : length log + 0 ≡ length log = omega arith in
      ap Some (sym (ap (λ (n : ℕ). take n (log ++ take taken frame)) end) ∙ part_of taken 0))

  abbrev half : ℕ
  half = (length (log ++ take (length frame) frame) - length log) / 2

  -- and where half of it is left
  half_left : get (crash_image Halved (torn (length frame))) (Log last.number) ≡ Some (log ++ take half frame)
  half_left = image_left Halved (torn (length frame)) (Log last.number)
      ∙ ap (λ (o : Option File). left_of Halved o (get (torn (length frame)).removed (Log last.number))) (torn_there (length frame))
      ∙ ap Some (part_of (length frame) half ∙ ap (λ (b : List ℕ). log ++ take half b) (take_all (length frame) frame (omega arith)))

  frame_some : 1 ≤ length frame
  frame_some = frame_is_some (frames_grammar last.format) last.number (frames_end last.format last.frames) f

  half_less : half < length frame
  half_less =
      let size : length (log ++ take (length frame) frame) ≡ length log + length frame =
      length-append log (take (length frame) frame)
      ∙ ap (λ (n : ℕ). length log + n) (ap length (take_all (length frame) frame (omega arith))) in
      omega (arith, size, frame_some)

  module _ (lawful : IsLawful disk) (number : ℕ) (goes : GoOn state.covered (before ++ last ∷ []) number) where
    -- each outcome's image is one that the disk may leave,
    left : (outcome : Outcome) (taken : ℕ) → MayLeave (torn taken) (crash_image outcome (torn taken))
    left outcome taken = crash_left outcome (torn taken) (appended_lawful disk lawful (Log last.number) frame taken)

    -- and opens with the logs before the frame where nothing of it was taken, where it is lost, and where half of it is left
    none_opens : (outcome : Outcome) → Opens (crash_image outcome (torn 0)) (Ok (opening_held state view (before ++ last ∷ []) number))
    none_opens outcome = part_opens number goes 0 (crash_image outcome (torn 0)) (left outcome 0) 0 frame_some (none_left outcome)

    lost_opens : Opens (crash_image Lost (torn (length frame))) (Ok (opening_held state view (before ++ last ∷ []) number))
    lost_opens = part_opens number goes (length frame) (crash_image Lost (torn (length frame)))
        (left Lost (length frame)) 0 frame_some (lost_left (length frame))

    half_opens : Opens (crash_image Halved (torn (length frame))) (Ok (opening_held state view (before ++ last ∷ []) number))
    half_opens = part_opens number goes (length frame) (crash_image Halved (torn (length frame)))
        (left Halved (length frame)) half half_less half_left

-- What is kept of a disk whose last sync failed is what it would have had behind it.
kept_left : (name : Name) (disk : DiskState) → MayLeave (synced name disk) (crash_image Kept disk)
kept_left name disk = read_left (crash_image Kept disk) (synced name disk) (record {
  each = λ q. image_left Kept disk q ∙ ⊎_elim
      (λ (same : q ≡ name). subst
      (λ (n : Name). option_map (λ (file : File). file.bytes) (get disk.standing n) ≡ option_map
      (λ (file : File). file.bytes) (get (synced name disk).standing n))
      (sym same) (of (get disk.standing name) ∙ sym (ap (option_map (λ (file : File). file.bytes)) (changed_there name disk synced_file))))
      (λ (other : q ≢ name). ap (option_map (λ (file : File). file.bytes))
      (sym ((changed_elsewhere name disk synced_file).standing q other)))
      (same_or_other q name);
})
  where
    of : (o : Option File) → option_map (λ (file : File). file.bytes) o ≡ option_map (λ (file : File). file.bytes)
        (option_map synced_file o)
    of None = refl
    of (Some file) = refl

-- ---- images of a disk that holds a state, and of one on which a commit was stopped

-- what is read of a state's tables
abbrev pub view_in : State → Image → View
view_in s image = record { image = image; levels = found_levels s.store.layout.levels }

module _ (s : State) (disk : DiskState) (stored : IsStored s disk) where
  abbrev b : Base
  b = stored.base

  abbrev l : Layout
  l = s.store.layout

  abbrev h : History
  h = history_of s

  -- the image opens as the store that the disk holds of the state
  abbrev pub OpensAsHeld : Image → Type 0
  OpensAsHeld image =
      Opens image (Ok (opening_held stored.base.state (view_in s image) (logs_from stored.base s.store.layout)
      (last_number (history_of s))))

  -- no table leads into the log that takes commits
  pub unled : IsAmong (led_into (found_levels s.store.layout.levels)) s.store.layout.active.number → ⊥
  unled among =
      let into = stored.is_base.led l.active.number among in
      not_among l.active.number (sealed l) stored.tidy.distinct.0 into.log into.at

  -- Then it shows the state's history, if a crash may leave it where that log alone was changed.
  pub held_shows : (now : DiskState) → SameElsewhere (Log s.store.layout.active.number) disk now → (image : Image) → MayLeave now image
      → OpensAsHeld image → Shown image (history_of s) (last_number (history_of s))
  held_shows now same image may opens =
      image_shows b l h stored.is_base stored.tidy now
      (sources_kept (Log l.active.number) disk now same l (tables_beside_log l.active.number (tables l))
      (other_logs l.active.number (sealed l) stored.tidy.distinct.0) (sources_held b l h stored.is_base disk stored.holds.files))
      image may (view_in s image) refl opens

  -- the store as the disk holds it, seen through an image that a crash leaves
  abbrev image_kept : Image
  image_kept = crash_image Kept disk

  abbrev may_kept : MayLeave disk image_kept
  may_kept = crash_left Kept disk stored.holds.lawful

  pub its_store : HoldsStore stored.base.state (view_in s (crash_image Kept disk)) (logs_from stored.base s.store.layout) disk
  its_store = store_held b l h stored.is_base disk stored.holds image_kept may_kept stored.tidy.levels

  -- Whatever a crash leaves of the disk opens so.
  pub stored_opens : (image : Image) → MayLeave disk image → OpensAsHeld image
  stored_opens image may =
      held_opens b.state (view_in s image) (logs_from b l) disk
      (store_held b l h stored.is_base disk stored.holds image may stored.tidy.levels) (last_number h) stored.is_base.goes image may

module _ (before after : State) (commits : ByFrame IsStored before after) where
  abbrev old : DiskState
  old = commits.old

  abbrev stored : IsStored before old
  stored = commits.held

  abbrev number : ℕ
  number = before.store.layout.active.number

  abbrev active : Segment
  active = before.store.layout.active

  same_frame : frame_behind active.format number active.frames commits.item ≡ commits.frame
  same_frame = ap (λ (place : ℕ). frame_at active.format number place commits.item) (sym stored.tidy.true_logs.0) ∙ sym commits.frame_is

  -- Where its append failed, the image opens as the store before,
  append_failed_opens : (outcome : Outcome) → OpensAsHeld before old stored (crash_image outcome (with_taken commits 0))
  append_failed_opens outcome = subst
      (λ (frame : List ℕ). OpensAsHeld before old stored (crash_image outcome (appended (Log number) frame 0 old))) same_frame
      (none_opens stored.base.state (view_in before (crash_image Kept old)) stored.base.before (before.store.layout.active) commits.item old
      (its_store before old stored) (unled before old stored) commits.has
      stored.holds.lawful (last_number (history_of before)) stored.is_base.goes outcome)

  -- and where its sync failed too, if what wasn't durable was lost,
  sync_failed_lost : OpensAsHeld before old stored (crash_image Lost (with_taken commits (length commits.frame)))
  sync_failed_lost = subst
      (λ (frame : List ℕ). OpensAsHeld before old stored (crash_image Lost (appended (Log number) frame (length frame) old))) same_frame
      (lost_opens stored.base.state (view_in before (crash_image Kept old)) stored.base.before (before.store.layout.active) commits.item old
      (its_store before old stored) (unled before old stored) commits.has
      stored.holds.lawful (last_number (history_of before)) stored.is_base.goes)

  -- or half of it.
  sync_failed_halved : OpensAsHeld before old stored (crash_image Halved (with_taken commits (length commits.frame)))
  sync_failed_halved = subst
      (λ (frame : List ℕ). OpensAsHeld before old stored (crash_image Halved (appended (Log number) frame (length frame) old))) same_frame
      (half_opens stored.base.state (view_in before (crash_image Kept old)) stored.base.before (before.store.layout.active) commits.item old
      (its_store before old stored) (unled before old stored) commits.has
      stored.holds.lawful (last_number (history_of before)) stored.is_base.goes)

  -- If all of it was kept, it opens as the store after.
  sync_failed_kept : OpensAsHeld after (written (Log number) commits.frame old) commits.done
      (crash_image Kept (with_taken commits (length commits.frame)))
  sync_failed_kept = stored_opens after (written (Log number) commits.frame old) commits.done
      (crash_image Kept (with_taken commits (length commits.frame))) (kept_left (Log number) (with_taken commits (length commits.frame)))

-- ---- numbers that are left

nothing_changed : (name : Name) (disk : DiskState) → SameElsewhere name disk disk
nothing_changed name disk = record { standing = λ other apart. refl; removed = λ other apart. refl }

module _ (s : State) (disk : DiskState) (stored : IsStored s disk) (fits : s.files + 2 ≤ max_file_number) where
  -- An image that opens as what a disk holds of a state, whose files have small numbers, opens again.
  pub held_reopens : (now : DiskState) → SameElsewhere (Log s.store.layout.active.number) disk now → (image : Image) → MayLeave now image
      → OpensAsHeld s disk stored image → NamesUpTo s.files image → Reopens image (history_of s) (last_number (history_of s))
  held_reopens now elsewhere image may opens names =
      reopens_by s.files image names (history_of s) (last_number (history_of s))
      (held_shows s disk stored now elsewhere image may opens) (λ found.
      let last = last_held stored.base.state.head stored.base.before (s.store.layout.active) disk stored.holds.files.logs in
      let within : s.store.layout.active.number ≤ s.files =
      stored.numbered.standing (Log s.store.layout.active.number) (λ none. some_none _ (sym last.stands ∙ none)) in
      let same : found.opening ≡ opening_held stored.base.state (view_in s image) (logs_from stored.base s.store.layout)
      (last_number (history_of s)) =
      ok_same {E = Refusal} found.opening _ (single_opening image (Ok found.opening) _ found.opens opens) in
      let state : found.opening.state ≡ stored.base.state = ap (λ (o : Opening). o.state) same in
      numbers_left s.files fits image names found
      (subst (λ (x : ManifestState). x.head ≤ s.files + 1) (sym state) (let from = last.from in omega (arith, from, within)))
      (subst (λ (x : ManifestState). x.next_log ≤ s.files + 1) (sym state) stored.next.log))

  -- So does the image of a disk that holds a state.
  pub stored_reopens : (outcome : Outcome) → Reopens (crash_image outcome disk) (history_of s) (last_number (history_of s))
  stored_reopens outcome =
      let may = crash_left outcome disk stored.holds.lawful in
      held_reopens disk (nothing_changed (Log s.store.layout.active.number) disk) (crash_image outcome disk) may
      (stored_opens s disk stored (crash_image outcome disk) may)
      (names_left s.files disk (crash_image outcome disk) may stored.numbered)

-- And so does the image of a disk on which a commit was stopped.
module _ (before after : State) (commits : ByFrame IsStored before after) (fits : before.files + 2 ≤ max_file_number) where
  abbrev its_log : Name
  its_log = Log before.store.layout.active.number

  torn_left : (taken : ℕ) (outcome : Outcome) → MayLeave (with_taken commits taken) (crash_image outcome (with_taken commits taken))
  torn_left taken outcome = crash_left outcome (with_taken commits taken)
      (appended_lawful commits.old commits.held.holds.lawful its_log commits.frame taken)

  -- its names are among those of the disk before
  names_torn : (taken : ℕ) (outcome : Outcome) → NamesUpTo before.files (crash_image outcome (with_taken commits taken))
  names_torn taken outcome = names_left before.files (with_taken commits taken) (crash_image outcome (with_taken commits taken))
      (torn_left taken outcome)
      (numbered_changed before.files its_log (lengthened commits.frame taken) commits.old commits.held.numbered)

  torn_reopens : (taken : ℕ) (outcome : Outcome)
      → OpensAsHeld before commits.old commits.held (crash_image outcome (with_taken commits taken))
      → Reopens (crash_image outcome (with_taken commits taken)) (history_of before) (last_number (history_of before))
  torn_reopens taken outcome opens = held_reopens before commits.old commits.held fits (with_taken commits taken)
      (changed_elsewhere its_log commits.old (lengthened commits.frame taken)) (crash_image outcome (with_taken commits taken))
      (torn_left taken outcome) opens (names_torn taken outcome)

  -- where the append failed,
  append_failed_reopens : (outcome : Outcome)
      → Reopens (crash_image outcome (with_taken commits 0)) (history_of before) (last_number (history_of before))
  append_failed_reopens outcome = torn_reopens 0 outcome (append_failed_opens before after commits outcome)

  -- and where the sync failed
  sync_failed_reopens : after.files + 2 ≤ max_file_number
      → (outcome : Outcome) → let s = state_left outcome true before after in
      Reopens (crash_image outcome (with_taken commits (length commits.frame))) (history_of s) (last_number (history_of s))
  sync_failed_reopens fits_after Lost = torn_reopens (length commits.frame) Lost (sync_failed_lost before after commits)
  sync_failed_reopens fits_after Kept =
      let durable = written (Log before.store.layout.active.number) commits.frame commits.old in
      let image = crash_image Kept (with_taken commits (length commits.frame)) in
      let may = kept_left (Log before.store.layout.active.number) (with_taken commits (length commits.frame)) in
      held_reopens after durable commits.done fits_after durable (nothing_changed (Log after.store.layout.active.number) durable) image may
      (sync_failed_kept before after commits) (names_left after.files durable image may commits.done.numbered)
  sync_failed_reopens fits_after Halved = torn_reopens (length commits.frame) Halved (sync_failed_halved before after commits)

-- ---- a step on files that was stopped

module _ (before after : State) (passed : ℕ) (now : DiskState) (stops : StopsStep Shown before after passed now) (lawful : IsLawful now)
    (fits : stops.files + 2 ≤ max_file_number) where
  -- whatever a crash leaves opens showing the commits before
  step_reopens : (outcome : Outcome) → Reopens (crash_image outcome now) (history_of before) (last_number (history_of before))
  step_reopens outcome =
      let image = crash_image outcome now in
      let may = crash_left outcome now lawful in
      let left : IsLeft now image = record {
        left = may;
        no_chance = crash_without_chance Spells spells_what_stands outcome now stops.torn;
      } in
      let names = names_left stops.files now image may stops.numbered in
      reopens_by stops.files image names (history_of before) (last_number (history_of before)) (stops.left image left) (λ found.
      let next = stops.next image found left in
      numbers_left stops.files fits image names found (stops.head image found left) next.log)

-- which are those of both states
same_left : (before after : State) → after.store.commits ≡ before.store.commits → (outcome : Outcome) (passed : Bool)
    → history_of before ≡ history_of (state_left outcome passed before after)
same_left before after same Lost passed = refl
same_left before after same Kept false = refl
same_left before after same Kept true = ap history_in (sym same)
same_left before after same Halved passed = refl

-- ---- any line

-- Behind a stop the image opens again, showing the commits before the line, or with that of a commit whose append passed where all
-- is kept. `first` says whether the line's first call passed.
pub stopped_reopens : (before after : State) (passed made : ℕ) (now : DiskState) → IsStopped before after passed made now → IsLawful now
    → before.files + passed + 3 ≤ max_file_number
    → (outcome : Outcome) (first : Bool) → (made ≡ suc passed → first ≡ nat_le 1 passed) → let s = state_left outcome first before after in
    Reopens (crash_image outcome now) (history_of s) (last_number (history_of s))
stopped_reopens before after passed made now (append_failed commits none one is) lawful few outcome first passes =
    let first_is : first ≡ false = passes (one ∙ ap suc (sym none)) ∙ ap (nat_le 1) none in
    subst (λ (b : Bool). let s = state_left outcome b before after in Reopens (crash_image outcome now) (history_of s)
    (last_number (history_of s)))
    (sym first_is)
    (subst (λ (s : State). Reopens (crash_image outcome now) (history_of s) (last_number (history_of s))) (of outcome)
    (subst (λ (d : DiskState). Reopens (crash_image outcome d) (history_of before) (last_number (history_of before))) (sym is)
    (append_failed_reopens before after commits (omega (arith, few)) outcome)))
  where
    of : (o : Outcome) → before ≡ state_left o false before after
    of Lost = refl
    of Kept = refl
    of Halved = refl
stopped_reopens before after passed made now (sync_failed commits one two is) lawful few outcome first passes =
    let first_is : first ≡ true = passes (two ∙ ap suc (sym one)) ∙ ap (nat_le 1) one in
    subst (λ (b : Bool). let s = state_left outcome b before after in Reopens (crash_image outcome now) (history_of s)
    (last_number (history_of s)))
    (sym first_is)
    (subst (λ (d : DiskState). let s = state_left outcome true before after in Reopens (crash_image outcome d)
    (history_of s) (last_number (history_of s)))
    (sym is) (sync_failed_reopens before after commits (omega (arith, few)) (let same = commits.files in omega (arith, few, same)) outcome))
stopped_reopens before after passed made now (step_failed stops within) lawful few outcome first passes =
    subst (λ (k : History). Reopens (crash_image outcome now) k (last_number k)) (same_left before after stops.same outcome first)
    (step_reopens before after passed now stops lawful (let most = stops.few in omega (arith, few, most)) outcome)
