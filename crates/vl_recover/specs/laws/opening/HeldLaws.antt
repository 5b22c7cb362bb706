-- What a crash leaves of a disk that holds a store opens as that store, which may be opened again on the same
-- disk.
use Rattle.std.specs.Prelude.{◌≡◌, ◌≢◌, ◌⊎◌, ◌≤◌, ◌<◌, ℕ, ◌+◌, List, [], ◌∷◌, length, map, Option, None, Some, Ok, refl, false}
use Rattle.std.specs.FinMap.{get}
use Rattle.std.specs.Option.{option_map}
use Rattle.std.proofs.Common.{sym, ap, subst, ◌∙◌, arith, ⊎_elim}
use Rattle.std.proofs.lemmas.Bool.{cases_lt, true≢false}
use Rattle.std.proofs.lemmas.List.Elements.{All-nil}
use Rattle.vl_disk.specs.Crash.{Image, MayLeave, MayLeaveOne}
use Rattle.vl_disk.specs.DiskState.{DiskState, File, IsLawful, Piece, settled}
use Rattle.vl_disk.specs.Started.{IsRead, Started, read_left, started_left}
use Rattle.vl_disk.specs.declared.name.Name.{Name}
use Rattle.vl_disk.specs.declared.name.Name.TheVariants.{Log, Manifest, Table}
use Rattle.vl_engine_model.specs.declared.segment.Segment.{Segment}
use Rattle.vl_manifest.specs.Current.{IsCurrent, StandsReadable}
use Rattle.vl_manifest.specs.laws.ManifestLaws.{says_readable}
use Rattle.vl_manifest.specs.declared.state.ManifestState.{ManifestState}
use Rattle.vl_recover.specs.laws.crash.AlikeLaws.{led_logs_kept, levels_kept}
use Rattle.vl_recover.specs.crash.Held.{AllSettled, DurableAs, GoOn, HoldsLogs, HoldsManifest, HoldsStore, IsNowhere}
use Rattle.vl_recover.specs.crash.Held.{IsSettled, Needs, View, log_as_held, opening_held}
use Rattle.vl_recover.specs.opening.Opening.{FoundTable, IsAmong, IsNamed, Led, NamedLevels, NamedLogs, Opening}
use Rattle.vl_recover.specs.opening.Opening.{Opens, Refusal, Says, led_into}
use Rattle.vl_recover.specs.laws.opening.OpeningLaws.{IsOpened, is_opened, opened, one_heading, single_says, some_none, some_same}
use Rattle.vl_recover.specs.laws.opening.TablesLaws.{single_levels}
use Rattle.vl_recover.specs.laws.repairing.StageLaws.{ok_same}
use Rattle.vl_recover.specs.crash.Starts.{AllMayStand, AllStay, IsDurable, MayOpen, MayOpenAs, MayStand, OnlyIdleGone, StaysAsItIs}
use Rattle.vl_recover.specs.laws.opening.IdleLaws.{StandAmongIdle, idle_filled, idle_walked, left_passed, stand_next, stand_none}
use Rattle.vl_seglog.specs.Frames.{log_bytes}
use Rattle.vl_seglog.specs.LogReading.{LogReading, ReadsLog}
use Rattle.vl_seglog.specs.laws.LogReadingLaws.{reads_written}

-- ---- what is left of one name

pub left_nowhere : (disk : DiskState) (image : Image) (name : Name) → IsNowhere disk name → MayLeave disk image
    → get image name ≡ None
left_nowhere disk image name nowhere may =
    of (get image name) (subst (λ (o : Option File). MayLeaveOne None o (get image name)) nowhere.never
    (subst (λ (o : Option File). MayLeaveOne o (get disk.removed name) (get image name)) nowhere.free (may name)))
  where
    of : (left : Option (List ℕ)) → MayLeaveOne None None left → left ≡ None
    of None one = refl
    of (Some bytes) one = absurd one

pub left_settled : (disk : DiskState) (image : Image) (name : Name) (bytes : List ℕ) → IsSettled disk name bytes
    → MayLeave disk image → get image name ≡ Some bytes
left_settled disk image name bytes stands may =
    of (get disk.removed name) (get image name)
    (subst (λ (o : Option File). MayLeaveOne o (get disk.removed name) (get image name)) stands (may name))
  where
    of : (removed : Option File) (left : Option (List ℕ)) → MayLeaveOne (Some (settled bytes)) removed left
        → left ≡ Some bytes
    of removed None one = absurd (true≢false one)
    of removed (Some found) one = ap Some (one.whole refl)

-- ---- the manifest

-- of the manifest that a disk holds
module _ (state : ManifestState) (disk : DiskState) (holds : HoldsManifest state disk) where
  -- In whatever is left it is current.
  pub held_current : (image : Image) → MayLeave disk image → IsCurrent image holds.number holds.bytes
  held_current image may = record {
    here = record {
      stands = left_settled disk image (Manifest holds.number) holds.bytes holds.stands may;
      readable = says_readable holds.number holds.bytes state holds.says;
    };
    greatest = λ other bytes r. not_above other bytes r (cases_lt holds.number other);
  }
    where
      not_above : (other : ℕ) (bytes : List ℕ) → StandsReadable image other bytes
          → (holds.number < other) ⊎ (other ≤ holds.number) → other ≤ holds.number
      not_above other bytes r either = ⊎_elim
          (λ (above : holds.number < other). absurd (some_none bytes
          (sym r.stands ∙ left_nowhere disk image (Manifest other) (holds.above other above) may)))
          (λ (below : other ≤ holds.number). below)
          either

  pub held_says : Says (Led holds.number holds.bytes) (Ok state)
  held_says = (Ok state, holds.says, refl)

  -- Whatever is left opens with its state, if it opens.
  pub held_state : (image : Image) (o : Opening) → MayLeave disk image → Opens image (Ok o) → o.state ≡ state
  held_state image o may opens = by (opened image o opens)
    where
      by : IsOpened image o → o.state ≡ state
      by is =
          let heading = one_heading image is.heading (Led holds.number holds.bytes) is.headed
          (held_current image may) in
          let says = subst (λ h. Says h (Ok o.state)) heading is.says in
          ok_same {E = Refusal} o.state state
          (single_says (Led holds.number holds.bytes) (Ok o.state) (Ok state) says held_says)

-- ---- the logs

-- Whatever is left has these logs from a number on, and beside them at most idle ones that came back.
pub held_standing : (least : ℕ) (logs : List Segment) (disk : DiskState) (image : Image)
    → HoldsLogs least logs disk → MayLeave disk image → StandAmongIdle image least (map log_as_held logs)
held_standing least [] disk image none may = stand_none image least (λ m from. left_nowhere disk image (Log m) (none m from) may)
held_standing least (s ∷ ss) disk image (from, between, is_read, have, stands, rest) may =
    stand_next image least (log_as_held s) (map log_as_held ss) from (record {
      from = omega arith;
      between = λ m above less. absurd (omega (arith, above, less));
      bytes = log_bytes s.format s.number s.frames;
      stands = left_settled disk image (Log s.number) (log_bytes s.format s.number s.frames) stands may;
      length_is = refl;
      reads = reads_written s.format s.number is_read s.frames have;
    })
    (λ m above less. left_passed disk image m (between m above less) may)
    (held_standing (s.number + 1) ss disk image rest may)

-- ---- tables, and the logs that they lead into

durable_left : (image : Image) (disk : DiskState) (left : Image) (name : Name) → DurableAs image disk name → MayLeave disk left
    → get left name ≡ get image name
durable_left image disk left name (bytes, read, stands) may = left_settled disk left name bytes stands may ∙ sym read

module _ (s : ManifestState) (v : View) (disk : DiskState) (left : Image) (needs : Needs s v disk) (may : MayLeave disk left) where
  -- Whatever is left has these tables, and the logs that they lead into.
  pub needs_image : NamedLevels false left s.levels (Ok v.levels)
  needs_image = levels_kept left v.image false s.levels v.levels
      (λ n named. durable_left v.image disk left (Table n) (needs.tables n named) may) needs.named

  pub needs_led : NamedLogs left (led_into v.levels) (Ok tt)
  needs_led = led_logs_kept left v.image (led_into v.levels)
      (λ n among. durable_left v.image disk left (Log n) (needs.logs n among) may) needs.led

-- ---- a store that is held

module _ (state : ManifestState) (view : View) (logs : List Segment) (disk : DiskState)
    (holds : HoldsStore state view logs disk) where
  -- Whatever a crash leaves of a disk that holds a store opens as it.
  pub held_opens : (number : ℕ) → GoOn state.covered logs number → (image : Image) → MayLeave disk image
      → Opens image (Ok (opening_held state view logs number))
  held_opens number goes image may = is_opened image (opening_held state view logs number) (record {
    heading = Led holds.manifest.number holds.manifest.bytes;
    headed = held_current state disk holds.manifest image may;
    says = held_says state disk holds.manifest;
    levels = needs_image state view disk image holds.needs may;
    led = needs_led state view disk image holds.needs may;
    standing = among.found;
    stands = among.stand;
    walk = idle_walked state.covered among.found (map log_as_held logs) among.with_idle ∙ goes;
    logs_are = sym (idle_filled among.found (map log_as_held logs) among.with_idle);
  })
    where
      among : StandAmongIdle image state.head (map log_as_held logs)
      among = held_standing state.head logs disk image holds.logs_are may

  -- So does what reads give.
  pub held_reads : (number : ℕ) → GoOn state.covered logs number → (read : Image) → IsRead read disk
      → Opens read (Ok (opening_held state view logs number))
  held_reads number goes read is = held_opens number goes read (read_left read disk is)

-- ---- a store may be opened again

-- from a number on only idle logs were removed
pub only_idle_gone : (least : ℕ) (logs : List Segment) (disk : DiskState) → IsLawful disk → HoldsLogs least logs disk
    → OnlyIdleGone least disk
only_idle_gone least [] disk lawful none m file from was = absurd (some_none file (sym was ∙ (none m from).never))
only_idle_gone least (s ∷ ss) disk lawful (up, between, is_read, have, stands, rest) m file from was = ⊎_elim
    (λ (below : m < s.number). record {
      idle = (between m from below).idle file was;
      above = s.number;
      higher = below;
      stands = λ none. some_none here (sym stands ∙ none);
    })
    (λ (above : s.number ≤ m). ⊎_elim
    (λ (beyond : s.number < m). only_idle_gone (s.number + 1) ss disk lawful rest m file (omega (arith, beyond)) was)
    (λ (at : m ≤ s.number). let same : m ≡ s.number = omega (arith, above, at) in
    absurd (some_none file (sym was ∙ lawful.apart (Log m) here (ap (λ (n : ℕ). get disk.standing (Log n)) same ∙ stands))))
    (cases_lt s.number m))
    (cases_lt m s.number)
  where
    here : File
    here = settled (log_bytes s.format s.number s.frames)

-- a log from a number on that another follows is durable
abbrev pub AreSealed : ℕ → DiskState → Type 0
AreSealed least disk = (m k : ℕ) (file : File) → least ≤ m → m < k → get disk.standing (Log k) ≢ None
    → get disk.standing (Log m) ≡ Some file → IsDurable file

pub settled_may_stand : (name : Name) (bytes : List ℕ) → MayStand name (settled bytes)
settled_may_stand name bytes = record {
  no_chance = λ right grows torn. absurd (true≢false torn);
  headless = λ wrong. All-nil (λ (piece : Piece). piece.place + length piece.bytes ≤ 16);
}

settled_durable : (bytes : List ℕ) (file : File) (there : Option File) → there ≡ Some (settled bytes) → there ≡ Some file
    → IsDurable file
settled_durable bytes file there is stands =
    let same : settled bytes ≡ file = some_same (settled bytes) file (sym is ∙ stands) in
    (ap (λ (f : File). f.wholly_synced) (sym same), ap (λ (f : File). f.lasting) (sym same))

-- what stands as a view has it is durable
as_durable : (image : Image) (disk : DiskState) (name : Name) (file : File) → DurableAs image disk name
    → get disk.standing name ≡ Some file → IsDurable file
as_durable image disk name file (bytes, read, is) stands = settled_durable bytes file (get disk.standing name) is stands

as_stays : (image : Image) (disk : DiskState) (n : ℕ) (file : File) → DurableAs image disk (Log n)
    → get disk.standing (Log n) ≡ Some file
    → ((bytes : List ℕ) (reading : LogReading) → get image (Log n) ≡ Some bytes → ReadsLog n bytes reading → StaysAsItIs reading)
    → (reading : LogReading) → ReadsLog n file.bytes reading → StaysAsItIs reading
as_stays image disk n file (bytes, read, is) stands stay reading reads =
    let same : settled bytes ≡ file = some_same (settled bytes) file (sym is ∙ stands) in
    stay bytes reading read (subst (λ (f : File). ReadsLog n f.bytes reading) (sym same) reads)

-- A store may be opened on a disk that holds a manifest above all that were removed, with what it needs, and from its head on
-- only idle logs were removed.
pub may_open_by : (state : ManifestState) (view : View) (disk : DiskState) → IsLawful disk → HoldsManifest state disk
    → Needs state view disk → AllStay view.image (led_into view.levels)
    → OnlyIdleGone state.head disk → AllMayStand disk → AreSealed state.head disk → MayOpen disk
may_open_by state view disk lawful holds needs stay gone may_stand sealed = record {
  files = may_stand;
  manifests = λ m was. (
    holds.number,
    below m was (cases_lt m holds.number),
    λ none. some_none (settled holds.bytes) (sym holds.stands ∙ none),
  );
  as_read = λ read o is opens.
      (let says = held_state state disk holds read o (read_left read disk is) opens in
      may_as o says (found_levels read o (read_left read disk is) says (opened read o opens)));
}
  where
    below : (m : ℕ) → get disk.removed (Manifest m) ≢ None → (m < holds.number) ⊎ (holds.number ≤ m)
        → m < holds.number
    below m was either = ⊎_elim
        (λ (less : m < holds.number). less)
        (λ (more : holds.number ≤ m). absurd (was (⊎_elim
        (λ (above : holds.number < m). (holds.above m above).never)
        (λ (at : m ≤ holds.number). let same : m ≡ holds.number = omega (arith, more, at) in
        lawful.apart (Manifest m) (settled holds.bytes)
        (ap (λ (n : ℕ). get disk.standing (Manifest n)) same ∙ holds.stands))
        (cases_lt holds.number m))))
        either

    found_levels : (read : Image) (o : Opening) → MayLeave disk read → o.state ≡ state → IsOpened read o → o.levels ≡ view.levels
    found_levels read o may says found =
        ok_same {E = Refusal} o.levels view.levels (single_levels read false state.levels (Ok o.levels) (Ok view.levels)
        (subst (λ (s : ManifestState). NamedLevels false read s.levels (Ok o.levels)) says found.levels)
        (needs_image state view disk read needs may))

    may_as : (o : Opening) → o.state ≡ state → o.levels ≡ view.levels → MayOpenAs disk o
    may_as o says levels = record {
      logs = λ m file from. gone m file (subst (λ (s : ManifestState). s.head ≤ m) says from);
      sealed = λ m k file from. sealed m k file (subst (λ (s : ManifestState). s.head ≤ m) says from);
      tables = λ n file named stands.
          as_durable view.image disk (Table n) file (needs.tables n (subst (λ (s : ManifestState). IsNamed s.levels n) says named)) stands;
      led = λ n file among stands.
          (let there = subst (λ (l : List (List FoundTable)). IsAmong (led_into l) n) levels among in (
            as_durable view.image disk (Log n) file (needs.logs n there) stands,
            as_stays view.image disk n file (needs.logs n there) stands (λ bytes reading. stay n bytes reading there),
          ));
    }

pub settled_may_all_stand : (disk : DiskState) → AllSettled disk → AllMayStand disk
settled_may_all_stand disk all name file stands =
    subst (MayStand name) (sym (all name file stands)) (settled_may_stand name file.bytes)

all_durable : (disk : DiskState) → AllSettled disk → (name : Name) (file : File) → get disk.standing name ≡ Some file
    → IsDurable file
all_durable disk all name file stands =
    let is = all name file stands in
    (ap (λ (f : File). f.wholly_synced) is, ap (λ (f : File). f.lasting) is)

pub settled_sealed : (least : ℕ) (disk : DiskState) → AllSettled disk → AreSealed least disk
settled_sealed least disk all m k file from less there stands = all_durable disk all (Log m) file stands

-- A store that is held may be opened again.
pub held_may_open : (state : ManifestState) (view : View) (logs : List Segment) (disk : DiskState) → IsLawful disk
    → HoldsStore state view logs disk → AllStay view.image (led_into view.levels) → MayOpen disk
held_may_open state view logs disk lawful holds stay =
    may_open_by state view disk lawful holds.manifest holds.needs stay
    (only_idle_gone state.head logs disk lawful holds.logs_are)
    (settled_may_all_stand disk holds.durable) (settled_sealed state.head disk holds.durable)

-- ---- a disk that was just started

-- all its files are durable,
pub started_settled : (image : Image) (disk : DiskState) → Started image disk → AllSettled disk
started_settled image disk started name file stands = of (get image name) (sym stands ∙ started.standing name)
  where
    of : (there : Option (List ℕ)) → Some file ≡ option_map settled there → file ≡ settled file.bytes
    of None is = absurd (some_none file is)
    of (Some bytes) is =
        let same : file ≡ settled bytes = some_same file (settled bytes) is in
        same ∙ ap (λ (f : File). settled f.bytes) (sym same)

started_bytes : (image : Image) (disk : DiskState) → Started image disk → (name : Name) (file : File)
    → get disk.standing name ≡ Some file → get image name ≡ Some file.bytes
started_bytes image disk started name file stands = of (get image name) (sym stands ∙ started.standing name)
  where
    of : (there : Option (List ℕ)) → Some file ≡ option_map settled there → there ≡ Some file.bytes
    of None is = absurd (some_none file is)
    of (Some bytes) is = ap (λ (f : File). Some f.bytes) (sym (some_same file (settled bytes) is))

-- and a store may be opened on it, if the logs that its tables lead into stay as they are.
pub started_may_open : (image : Image) (disk : DiskState) → Started image disk
    → ((o : Opening) → Opens image (Ok o) → AllStay image (led_into o.levels)) → MayOpen disk
started_may_open image disk started stay = record {
  files = settled_may_all_stand disk all;
  manifests = λ m gone. absurd (gone (started.removed (Manifest m)));
  as_read = λ read o is opens. record {
    logs = λ m file from was. absurd (some_none file (sym was ∙ started.removed (Log m)));
    sealed = λ m k file from. settled_sealed o.state.head disk all m k file from;
    tables = λ n file named stands. all_durable disk all (Table n) file stands;
    led = λ n file among stands. (
      all_durable disk all (Log n) file stands,
      λ reading reads. stay o
          (subst (λ (i : Image). Opens i (Ok o)) (started_left image disk started read (read_left read disk is)) opens)
          n file.bytes reading among (started_bytes image disk started (Log n) file stands) reads,
    );
  };
}
  where
    all : AllSettled disk
    all = started_settled image disk started
