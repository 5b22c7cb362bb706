-- What a stop leaves inside the first opening of an empty disk: the image of its crash opens without commits.
use Rattle.std.proofs.Common.{◌≡◌, ⊎_elim, ℕ, ◌≤◌, List, [], ◌∷◌, length, take, drop, Option, Some, None, Ok, Err}
use Rattle.std.proofs.Common.{refl, sym, ◌∙◌, ap, subst, arith}
use Rattle.std.specs.Prelude.{◌≢◌, Bool, true, false, nat_le, if◌then◌else◌, Result}
use Rattle.std.specs.FinMap.{empty, get, get-empty, insert}
use Rattle.std.proofs.lemmas.Bool.{true≢false}
use Rattle.std.proofs.lemmas.List.{take_at}
use Rattle.vl_model.specs.Formats.{log_format, manifest_format}
use Rattle.vl_disk.specs.Changes.{SameElsewhere}
use Rattle.vl_disk.specs.Crash.{Image, MayLeaveOne}
use Rattle.vl_disk.specs.DiskState.{DiskState, File, IsLawful, created, empty_disk, new_file, settled}
use Rattle.vl_disk.specs.laws.Lawful.{appended_lawful, created_lawful, empty_lawful, made_lawful}
use Rattle.vl_disk.specs.MadeFile as making
use Rattle.vl_disk.specs.MadeFile.{WhileMaking, made}
use Rattle.vl_disk.specs.Name.{IsNumbered, file_number, name_cmp}
use Rattle.vl_disk.specs.laws.NameMap.{same_or_other}
use Rattle.vl_disk.specs.Started.{IsRead, Started, read_left, started_empty, started_left, started_made, started_read}
use Rattle.vl_disk.specs.declared.name.Name.{Name}
use Rattle.vl_disk.specs.declared.name.Name.TheVariants.{Log, Manifest, Table}
use Rattle.vl_frame.specs.laws.RunLaws.{frame_is_some}
use Rattle.vl_frame.specs.Runs.{item_frame}
use Rattle.vl_manifest.specs.Formats.{gone_format}
use Rattle.vl_manifest.specs.Grammar.{edits_grammar}
use Rattle.vl_manifest.specs.Manifest.{IsReadable, ManifestSays, SaysState, manifest_bytes}
use Rattle.vl_manifest.specs.laws.MadeLaws.{SaysAsRead, bare_has_frame}
use Rattle.vl_manifest.specs.laws.ManifestLaws.{manifest_reads, one_saying, whole_said}
use Rattle.vl_manifest.specs.laws.StateLaws.{IsInRange}
use Rattle.vl_manifest.specs.States.{as_read, fresh_state, whole_edits}
use Rattle.vl_manifest.specs.declared.state.ManifestState.{ManifestState}
use Rattle.vl_mem.specs.laws.CrashChance.{IsTornByPieces, IsTornInOnePiece, SpellsWhatStands, crash_without_chance}
use Rattle.vl_mem.specs.laws.CrashChance.{lengthened_torn, untorn_file}
use Rattle.vl_mem.specs.CrashImage.{crash_image}
use Rattle.vl_mem.specs.laws.CrashLaws.{crash_left}
use Rattle.vl_mem.specs.declared.outcome.Outcome.{Outcome}
use Rattle.vl_model.specs.History.{no_history}
use Rattle.vl_recover.specs.crash.Alike.{IsLeft, OpensAsOf, Spells}
use Rattle.vl_recover.specs.opening.Answers.{AreStrayNames}
use Rattle.vl_recover.specs.crash.Held.{IsNowhere}
use Rattle.vl_recover.specs.laws.opening.HeldLaws.{left_nowhere, left_settled, started_may_open, started_settled}
use Rattle.vl_recover.specs.crash.Meanwhile.{IsMeanwhile, Repairing, as_before, at_repairing}
use Rattle.vl_recover.specs.repairing.Repairing.{NoLast, Plan, WhileRepairing, at_last, at_log, at_manifest, at_strays, plan_from}
use Rattle.vl_recover.specs.laws.repairing.RepairingOpens.{repairing_opens}
use Rattle.vl_recover.specs.laws.repairing.RepairingSteps.{manifest_log}
use Rattle.vl_recover.specs.laws.opening.OneFinding.{same_greatest, same_logs, same_opening}
use Rattle.vl_recover.specs.laws.crash.OneName as one
use Rattle.vl_recover.specs.laws.crash.OneName.{IsLeftOne, IsPart, Making, left_one, part_empty, part_some}
use Rattle.vl_recover.specs.opening.Opening.{Bare, Heading, Headless, IsHeaded, Led, Newest, Opening, Opens, Refusal, Says, of_manifest}
use Rattle.vl_recover.specs.laws.opening.OpeningLaws.{opened, some_none, some_same}
use Rattle.vl_recover.specs.opening.Plans.{Greatest}
use Rattle.vl_recover.specs.laws.repairing.StageLaws.{ok_err, ok_same}
use Rattle.vl_recover.specs.laws.crash.Torn.{CanWrite, torn_manifest}
use Rattle.vl_recover.specs.opening.Walk.{StandingLog}
use Rattle.vl_seglog.specs.Frames.{frames_grammar, log_header}
use Rattle.vl_script_model.specs.Reopens.{NamesUpTo, Reopens}
use Rattle.vl_script_model.specs.laws.StartLaws.{empty_stay, finds_nothing, not_there, shown_nothing, started_durable}
use Rattle.vl_script_model.specs.Stopped.{AreNumberedUpTo}
use Rattle.vl_script_model.specs.laws.NumbersLeft.{names_left, numbers_left, reopens_by}
use Rattle.vl_engine_laws.specs.laws.ShownLaws.{opening_shown}

-- ---- frames stand where they are spelled

pub spells_what_stands : SpellsWhatStands Spells
spells_what_stands = record { stands = stands; some = some }
  where
    stands : (name : Name) (bytes : List ℕ) (place : ℕ) (frame : List ℕ) → Spells name bytes place frame
        → take (length frame) (drop place bytes) ≡ frame
    stands (Log number) bytes place frame (format, is_read, header, (item, rest, at, is)) =
        let here = item_frame (frames_grammar format) number place item in
        subst (λ (f : List ℕ). take (length f) (drop place bytes) ≡ f) (sym is)
        (ap (take (length here)) at.spelled ∙ take_at here rest (length here) refl)
    stands (Table number) bytes place frame spelled = absurd spelled
    stands (Manifest number) bytes place frame (item, rest, at, is) =
        let here = item_frame (edits_grammar manifest_format) number place item in
        subst (λ (f : List ℕ). take (length f) (drop place bytes) ≡ f) (sym is)
        (ap (take (length here)) at.spelled ∙ take_at here rest (length here) refl)

    some : (name : Name) (bytes : List ℕ) (place : ℕ) (frame : List ℕ) → Spells name bytes place frame → 1 ≤ length frame
    some (Log number) bytes place frame (format, is_read, header, (item, rest, at, is)) =
        subst (λ (f : List ℕ). 1 ≤ length f) (sym is) (frame_is_some (frames_grammar format) number place item)
    some (Table number) bytes place frame spelled = absurd spelled
    some (Manifest number) bytes place frame (item, rest, at, is) =
        subst (λ (f : List ℕ). 1 ≤ length f) (sym is) (frame_is_some (edits_grammar manifest_format) number place item)

-- ---- the plan of an opening of an empty disk

-- the bytes of its manifest
abbrev piece : List ℕ
piece = manifest_bytes 1 (whole_edits fresh_state ∷ [])

-- a manifest and a log are made, each of number 1
abbrev first_plan : Plan
first_plan = record { manifest = 1; piece = piece; last = NoLast; log = Some 1; strays = [] }

-- nothing is stray in the empty image
none_stray : (o : Opening) (strays : List Name) → AreStrayNames empty o strays → strays ≡ []
none_stray o [] are = refl
none_stray o (name ∷ strays) are = absurd (not_there name ((are.all name).0 (0, omega arith, refl)).0)

-- and the plan is this one
is_first_plan : (repairing : Repairing empty) → repairing.plan ≡ first_plan
is_first_plan repairing =
    let a = repairing.found in
    repairing.is.is
    ∙ ap (λ (g : Greatest). plan_from g a.opening.state a.logs repairing.plan.strays) (same_greatest empty a finds_nothing)
    ∙ ap (λ (o : Opening). plan_from finds_nothing.greatest o.state a.logs repairing.plan.strays) (same_opening empty a finds_nothing)
    ∙ ap (λ (logs : List StandingLog). plan_from finds_nothing.greatest finds_nothing.opening.state logs repairing.plan.strays)
    (same_logs empty a finds_nothing)
    ∙ ap (λ (strays : List Name). plan_from finds_nothing.greatest finds_nothing.opening.state [] strays)
    (none_stray a.opening repairing.plan.strays repairing.is.strays)

-- ---- while a file is made on a disk that was just started

-- a disk whose files have no number above 1, and of which a crash leaves no chance match
record IsSmall (now : DiskState) : Type 0 where
  lawful : IsLawful now
  torn : IsTornByPieces now
  numbered : AreNumberedUpTo 1 now

settled_torn : (image : Image) (disk : DiskState) → Started image disk → IsTornByPieces disk
settled_torn image disk started = record {
  each = λ name file stands grows loose.
      absurd (true≢false (sym (ap (λ (f : File). f.wholly_synced) (started_settled image disk started name file stands)) ∙ loose));
}

part_torn : (bytes : List ℕ) (file : File) → IsPart bytes file → IsTornInOnePiece file
part_torn bytes file part_empty = untorn_file new_file (omega arith)
part_torn bytes file (part_some taken) = lengthened_torn bytes taken new_file (omega arith)

module _ (image : Image) (old : DiskState) (started : Started image old) (small : IsSmall old) (name : Name)
    (is_numbered : IsNumbered name) (within : file_number name ≤ 1) (bytes : List ℕ) where
  -- it stays lawful,
  making_lawful : (now : DiskState) → WhileMaking name bytes old now → IsLawful now
  making_lawful now (making.not_there is) = subst IsLawful (sym is) small.lawful
  making_lawful now (making.empty is) = subst IsLawful (sym is) (created_lawful old small.lawful name is_numbered)
  making_lawful now (making.in_part taken le is) = subst IsLawful (sym is)
      (appended_lawful (created name old) (created_lawful old small.lawful name is_numbered) name bytes taken)
  making_lawful now (making.durable is) = subst IsLawful (sym is) (made_lawful old small.lawful name bytes is_numbered)

  -- its numbers stay small,
  numbered_by : (now : DiskState) → SameElsewhere name old now → AreNumberedUpTo 1 now
  numbered_by now same = record {
    standing = λ q there. ⊎_elim
        (λ (e : q ≡ name). subst (λ (x : Name). file_number x ≤ 1) (sym e) within)
        (λ (apart : q ≢ name). small.numbered.standing q (λ none. there (same.standing q apart ∙ none)))
        (same_or_other q name);
    removed = λ q there. ⊎_elim
        (λ (e : q ≡ name). subst (λ (x : Name). file_number x ≤ 1) (sym e) within)
        (λ (apart : q ≢ name). small.numbered.removed q (λ none. there (same.removed q apart ∙ none)))
        (same_or_other q name);
  }

  -- and only the file that is made may be torn
  torn_by : (now : DiskState) (file : File) → IsTornInOnePiece file → get now.standing name ≡ Some file → SameElsewhere name old now
      → IsTornByPieces now
  torn_by now file here stands same = record {
    each = λ q other there grows loose. ⊎_elim
        (λ (e : q ≡ name). subst IsTornInOnePiece (some_same file other (sym stands ∙ ap (get now.standing) (sym e) ∙ there)) here)
        (λ (apart : q ≢ name). (settled_torn image old started).each q other (sym (same.standing q apart) ∙ there) grows loose)
        (same_or_other q name);
  }

  making_small : (now : DiskState) → WhileMaking name bytes old now → IsSmall now
  making_small now during = by (one.making name bytes old now during)
    where
      by : Making name bytes old now → IsSmall now
      by (one.waits is) = subst IsSmall (sym is) small
      by (one.torn file part stands same) = record {
        lawful = making_lawful now during;
        torn = torn_by now file (part_torn bytes file part) stands same;
        numbered = numbered_by now same;
      }
      by (one.done stands same) = record {
        lawful = making_lawful now during;
        torn = torn_by now (settled bytes) (untorn_file (settled bytes) (omega arith)) stands same;
        numbered = numbered_by now same;
      }

empty_small : IsSmall empty_disk
empty_small = record {
  lawful = empty_lawful;
  torn = settled_torn empty empty_disk started_empty;
  numbered = record {
    standing = λ name there. absurd (there (get-empty name_cmp name));
    removed = λ name there. absurd (there (get-empty name_cmp name));
  };
}

-- ---- the manifest meanwhile

-- the manifest isn't there, is being made, or is durable
data IsFirstManifest (now : DiskState) : Type 0 where
  nowhere : IsNowhere now (Manifest 1) → IsFirstManifest now
  in_making : (file : File) → IsPart piece file → get now.standing (Manifest 1) ≡ Some file → IsFirstManifest now
  is_made : get now.standing (Manifest 1) ≡ Some (settled piece) → IsFirstManifest now

fresh_range : IsInRange fresh_state
fresh_range = record {
  tables = record { seven = refl; once = tt; numbers = tt };
  head_first = omega arith;
  head_last = omega arith;
  covered = omega arith;
  log_first = omega arith;
  log_last = omega arith;
  table_first = omega arith;
  table_last = omega arith;
  keep_first = omega arith;
  keep_last = omega arith;
  since = omega arith;
  gone = omega arith;
}

-- and it can be written
can_write : CanWrite 1 fresh_state
can_write = record { fits = omega arith; range = fresh_range; has = bare_has_frame fresh_state refl fresh_range }

-- it says the same in each format, since its tables cover nothing
fresh_as_read : (format : ℕ) → as_read format fresh_state ≡ fresh_state
fresh_as_read format = by (nat_le gone_format format)
  where
    by : (b : Bool) → (if b then fresh_state else record fresh_state { gone = fresh_state.covered }) ≡ fresh_state
    by true = refl
    by false = refl

-- ---- the image

module _ (now : DiskState) (small : IsSmall now) (manifest : IsFirstManifest now) (as_of : OpensAsOf empty_disk now)
    (outcome : Outcome) where
  abbrev image : Image
  image = crash_image outcome now

  left : IsLeft now image
  left = record {
    left = crash_left outcome now small.lawful;
    no_chance = crash_without_chance Spells spells_what_stands outcome now small.torn;
  }

  names : NamesUpTo 1 image
  names = names_left 1 now image left.left small.numbered

  -- a manifest that stands has number 1
  manifest_one : (n : ℕ) (bytes : List ℕ) → get image (Manifest n) ≡ Some bytes → 1 ≡ n
  manifest_one n bytes is =
      let up = names (Manifest n) (λ none. some_none bytes (sym is ∙ none)) in
      let low = of (get now.standing (Manifest n)) (get now.removed (Manifest n)) (get image (Manifest n)) refl refl is
      (left.left (Manifest n)) in
      omega (arith, up, low)
    where
      of : (standing removed : Option File) (found : Option (List ℕ)) → get now.standing (Manifest n) ≡ standing
          → get now.removed (Manifest n) ≡ removed → found ≡ Some bytes → MayLeaveOne standing removed found → 1 ≤ n
      of (Some file) removed found stands gone there may = (small.lawful.numbered (Manifest n) file stands).0
      of None (Some file) found stands gone there may = (small.lawful.removed_numbered (Manifest n) file gone).0
      of None None None stands gone there may = absurd (some_none bytes (sym there))
      of None None (Some other) stands gone there may = absurd may

  -- what its bytes say, if they can be read, is the fresh state
  manifest_says : (bytes : List ℕ) → get image (Manifest 1) ≡ Some bytes → IsReadable 1 bytes → SaysState 1 bytes fresh_state
  manifest_says bytes is readable = by manifest
    where
      by : IsFirstManifest now → SaysState 1 bytes fresh_state
      by (nowhere none) = absurd (some_none bytes (sym is ∙ left_nowhere now image (Manifest 1) none left.left))
      by (in_making file part stands) = ⊎_elim
          (λ (not : IsReadable 1 bytes → ⊥). absurd (not readable))
          (λ (said : SaysAsRead 1 bytes fresh_state).
          subst (SaysState 1 bytes) (fresh_as_read said.format) said.says)
          (torn_manifest 1 fresh_state can_write file part bytes
          (subst (λ (x : Option (List ℕ)). IsLeftOne (Manifest 1) (Some file) (get now.removed (Manifest 1)) x) is
          (subst (λ (x : Option File). IsLeftOne (Manifest 1) x (get now.removed (Manifest 1)) (get image (Manifest 1))) stands
          (left_one now image left (Manifest 1)))).no_chance)
      by (is_made stands) =
          let same : piece ≡ bytes = some_same piece bytes (sym (left_settled now image (Manifest 1) piece stands left.left) ∙ is) in
          subst (λ (b : List ℕ). SaysState 1 b fresh_state) same
          (whole_said 1 fresh_state piece fresh_range
          (manifest_reads 1 (whole_edits fresh_state ∷ []) (omega arith) (bare_has_frame fresh_state refl fresh_range, tt)))

  -- so each opening of it begins with the fresh state
  opens_fresh : (o : Opening) → Opens image (Ok o) → fresh_state ≡ o.state
  opens_fresh o opens = (let is = opened image o opens in by is.heading is.headed is.says)
    where
      said_so : (n : ℕ) (said : Result ManifestState ℕ) → ◌≡◌ {A = Result ManifestState Refusal} (Ok o.state) (of_manifest n said)
          → said ≡ Ok o.state
      said_so n (Ok s) e = ap (λ (x : ManifestState). Ok x) (sym (ok_same {E = Refusal} o.state s e))
      said_so n (Err place) e = absurd (ok_err o.state _ e)

      by : (heading : Heading) → IsHeaded image heading → Says heading (Ok o.state) → fresh_state ≡ o.state
      by Bare headed says = sym (ok_same {E = Refusal} o.state fresh_state says)
      by (Led n bytes) headed (said, says, is) =
          let one : 1 ≡ n = manifest_one n bytes headed.here.stands in
          let here : get image (Manifest 1) ≡ Some bytes = subst (λ (k : ℕ). get image (Manifest k) ≡ Some bytes)
          (sym one) headed.here.stands in
          let readable : IsReadable 1 bytes = subst (λ (k : ℕ). IsReadable k bytes) (sym one) headed.here.readable in
          let says_o : ManifestSays 1 bytes (Ok o.state) = subst (ManifestSays 1 bytes) (said_so n said is)
          (subst (λ (k : ℕ). ManifestSays k bytes said) (sym one) says) in
          ok_same {E = ℕ} fresh_state o.state
          (one_saying 1 bytes (Ok fresh_state) (Ok o.state) (manifest_says bytes here readable) says_o)
      by Headless headed says = absurd (ok_err o.state _ says)
      by (Newest format) headed says = absurd (ok_err o.state _ says)

  -- and the image opens again, without commits
  small_reopens : Reopens image no_history 0
  small_reopens = reopens_by 1 image names no_history 0
      (opening_shown empty_disk now empty no_history 0
      (λ image left. (started_durable empty empty_disk started_empty empty_stay).as_read empty image is_read left)
      shown_nothing as_of image left)
      (λ found. let fresh = opens_fresh found.opening found.opens in
      numbers_left 1 (omega arith) image names found
      (subst (λ (s : ManifestState). s.head ≤ 2) fresh (omega arith)) (subst (λ (s : ManifestState). s.next_log ≤ 2) fresh (omega arith)))
    where
      is_read : IsRead empty empty_disk
      is_read = started_read empty empty_disk started_empty

-- ---- a stop inside the opening

-- whatever a crash leaves meanwhile opens as an empty image does
first_opening : (now : DiskState) → IsMeanwhile empty empty_disk now → OpensAsOf empty_disk now
first_opening now (as_before is) = subst (OpensAsOf empty_disk) (sym is) (one.as_before empty_disk)
first_opening now (at_repairing repairing during) = repairing_opens empty_disk now repairing.found repairing.plan (record {
  lawful = empty_lawful;
  may = started_may_open empty empty_disk started_empty empty_stay;
  is_read = started_read empty empty_disk started_empty;
  left = repairing.unused;
  has = repairing.has;
}) repairing.is during

-- what the disk is then
record IsFirst (now : DiskState) : Type 0 where
  small : IsSmall now
  manifest : IsFirstManifest now

empty_first : IsFirst empty_disk
empty_first = record {
  small = empty_small;
  manifest = nowhere (record { free = get-empty name_cmp (Manifest 1); never = get-empty name_cmp (Manifest 1) });
}

while_first : (now : DiskState) → WhileRepairing first_plan empty_disk now → IsFirst now
while_first now (at_manifest during) = record {
  small = making_small empty empty_disk started_empty empty_small (Manifest 1) numbered (omega arith) piece now during;
  manifest = by (one.making (Manifest 1) piece empty_disk now during);
}
  where
    numbered : IsNumbered (Manifest 1)
    numbered = (omega arith, omega arith)

    by : Making (Manifest 1) piece empty_disk now → IsFirstManifest now
    by (one.waits is) = subst IsFirstManifest (sym is) empty_first.manifest
    by (one.torn file part stands same) = in_making file part stands
    by (one.done stands same) = is_made stands
while_first now (at_last during) = absurd during
while_first now (at_log during) = record {
  small = making_small (insert empty (Manifest 1) piece) (made (Manifest 1) piece empty_disk)
      (started_made empty empty_disk (Manifest 1) piece started_empty)
      (making_small empty empty_disk started_empty empty_small (Manifest 1) (omega arith, omega arith) (omega arith) piece
      (made (Manifest 1) piece empty_disk) (making.durable refl))
      (Log 1) (omega arith, omega arith) (omega arith) (log_header log_format 1) now during;
  manifest = by (one.making (Log 1) (log_header log_format 1) (made (Manifest 1) piece empty_disk) now during);
}
  where
    there : get (made (Manifest 1) piece empty_disk).standing (Manifest 1) ≡ Some (settled piece)
    there = one.made_there (Manifest 1) piece empty_disk

    by : Making (Log 1) (log_header log_format 1) (made (Manifest 1) piece empty_disk) now → IsFirstManifest now
    by (one.waits is) = subst IsFirstManifest (sym is) (is_made there)
    by (one.torn file part stands same) = is_made (same.standing (Manifest 1) (manifest_log 1 1) ∙ there)
    by (one.done stands same) = is_made (same.standing (Manifest 1) (manifest_log 1 1) ∙ there)
while_first now (at_strays during) = absurd during

is_first : (now : DiskState) → IsMeanwhile empty empty_disk now → IsFirst now
is_first now (as_before is) = subst IsFirst (sym is) empty_first
is_first now (at_repairing repairing during) =
    while_first now (subst (λ (p : Plan). WhileRepairing p empty_disk now) (is_first_plan repairing) during)

-- The image of a crash inside the first opening of an empty disk opens without commits.
pub opening_reopens : (read : Image) → IsRead read empty_disk → (now : DiskState) → IsMeanwhile read empty_disk now
    → (outcome : Outcome) → Reopens (crash_image outcome now) no_history 0
opening_reopens read is_read now meanwhile outcome =
    let same : read ≡ empty = started_left empty empty_disk started_empty read (read_left read empty_disk is_read) in
    let here : IsMeanwhile empty empty_disk now = subst (λ (i : Image). IsMeanwhile i empty_disk now) same meanwhile in
    let first = is_first now here in
    small_reopens now first.small first.manifest (first_opening now here) outcome
