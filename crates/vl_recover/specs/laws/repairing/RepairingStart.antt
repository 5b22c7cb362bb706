-- What is so of the disk on which a repairing begins: its new manifest is above all others, and says what is in range; and
-- what the store needs is durable.
use Rattle.std.specs.Prelude.{◌≡◌, ◌≢◌, ◌⊎◌, ℕ, ◌+◌, ◌≤◌, ◌<◌, ◌==◌, Bool, List, [], ◌∷◌, Option, None, Some, Result}
use Rattle.std.specs.Prelude.{Ok, Err, if◌then◌else◌, false, true, refl}
use Rattle.std.specs.FinMap.{get}
use Rattle.std.specs.Option.{option_map}
use Rattle.std.proofs.Common.{ap, arith, inl, inr, subst, sym, ◌∙◌, ⊎_elim}
use Rattle.std.proofs.lemmas.Bool.{cases_lt}
use Rattle.std.proofs.lemmas.Bool.Decides.{nat_tests}
use Rattle.vl_disk.specs.Crash.{Image}
use Rattle.vl_disk.specs.DiskState.{DiskState, File, IsLawful, settled}
use Rattle.vl_disk.specs.Name.{file_number}
use Rattle.vl_disk.specs.Started.{IsRead}
use Rattle.vl_disk.specs.declared.name.Name.{Name}
use Rattle.vl_disk.specs.declared.name.Name.TheVariants.{Log, Manifest, Table}
use Rattle.vl_frame.specs.Runs.{HasFrame}
use Rattle.vl_manifest.specs.Grammar.{edits_grammar}
use Rattle.vl_manifest.specs.Manifest.{ManifestSays}
use Rattle.vl_manifest.specs.laws.ManifestLaws.{says_in_range}
use Rattle.vl_manifest.specs.laws.StateLaws.{IsInRange, opened_in_range}
use Rattle.vl_manifest.specs.States.{fresh_state, whole_edits}
use Rattle.vl_manifest.specs.declared.state.ManifestState.{ManifestState}
use Rattle.vl_model.specs.Formats.{manifest_format}
use Rattle.vl_model.specs.Limits.{max_file_number}
use Rattle.vl_model.specs.declared.counter.Counter.{Counter}
use Rattle.vl_model.specs.declared.counter.Counter.TheVariants as counters
use Rattle.vl_recover.specs.opening.Answers.{Finds, used_up}
use Rattle.vl_recover.specs.crash.Held.{DurableAs, IsNowhere, Needs}
use Rattle.vl_recover.specs.laws.crash.Torn.{CanWrite}
use Rattle.vl_recover.specs.laws.opening.LeadsLaws.{IsUnneeded}
use Rattle.vl_recover.specs.laws.repairing.RepairingSteps.{table_manifest}
use Rattle.vl_recover.specs.opening.Opening.{Bare, FoundTable, Heading, Headless, IsAmong, IsNamed, Led, NamedLevel}
use Rattle.vl_recover.specs.opening.Opening.{NamedLevels, NamedLogs, NewerFormat, Newest, NotAStore, Refusal, Says}
use Rattle.vl_recover.specs.opening.Opening.{key_before, led_into, of_manifest}
use Rattle.vl_recover.specs.laws.opening.OpeningLaws.{IsOpened, one_standing, opened, some_none, some_same}
use Rattle.vl_recover.specs.laws.crash.AlikeLaws.{log_manifest, no_state}
use Rattle.vl_recover.specs.opening.Plans.{IsGreatest, log_made, new_state, passes}
use Rattle.vl_recover.specs.laws.repairing.StageLaws.{ok_same}
use Rattle.vl_recover.specs.crash.Starts.{IsDurable, MayOpen, MayOpenAs}
use Rattle.vl_recover.specs.opening.Walk.{walked}

-- ---- what a heading says is in range

fresh_range : IsInRange fresh_state
fresh_range = record {
  tables = record { seven = refl; once = tt; numbers = tt };
  head_first = omega arith;
  head_last = omega arith;
  covered = omega arith;
  log_first = omega arith;
  log_last = omega arith;
  table_first = omega arith;
  table_last = omega arith;
  keep_first = omega arith;
  keep_last = omega arith;
  since = omega arith;
  gone = omega arith;
}

says_range : (heading : Heading) (s : ManifestState) → Says heading (Ok s) → IsInRange s
says_range Bare s says = subst IsInRange (sym (ok_same {E = Refusal} s fresh_state says)) fresh_range
says_range (Led number bytes) s (said, manifest, is) = by said manifest is
  where
    by : (said : Result ManifestState ℕ) → ManifestSays number bytes said → Ok s ≡ of_manifest number said
        → IsInRange s
    by (Ok t) manifest is = subst IsInRange (sym (ok_same {E = Refusal} s t is))
        (says_in_range number bytes t manifest)
    by (Err place) manifest is = absurd (no_state s _ is)
says_range Headless s says = absurd (no_state s NotAStore says)
says_range (Newest format) s says = absurd (no_state s (NewerFormat format) says)

-- ---- numbers that stand

missing_file : (file : Option File) → option_map (λ (f : File). f.bytes) file ≡ None → file ≡ None
missing_file None e = refl
missing_file (Some file) e = absurd (some_none file.bytes e)

pub some_file : (file : Option File) → (file ≡ None → ⊥) → (f : File) × (file ≡ Some f)
some_file None not = absurd (not refl)
some_file (Some file) not = (file, refl)

stands_or_not : (file : Option File) → (file ≡ None) ⊎ (file ≢ None)
stands_or_not None = inl refl
stands_or_not (Some file) = inr (λ e. some_none file e)

module _ (read : Image) (start : DiskState) (is_read : IsRead read start) where
  -- what isn't read doesn't stand
  pub unread_free : (name : Name) → get read name ≡ None → get start.standing name ≡ None
  unread_free name none = missing_file (get start.standing name) (sym (is_read.each name) ∙ none)

  pub free_unread : (name : Name) → get start.standing name ≡ None → get read name ≡ None
  free_unread name none = is_read.each name ∙ ap (option_map (λ (f : File). f.bytes)) none

  -- a greatest number is one that a file may have, or 0
  greatest_fits : (kind : ℕ → Name) (greatest : ℕ) → ((n : ℕ) → file_number (kind n) ≡ n) → IsLawful start
      → IsGreatest read kind greatest → greatest ≤ max_file_number
  greatest_fits kind greatest number lawful is = ⊎_elim
      (λ (zero : greatest < 1). omega (arith, zero))
      (λ (some : 1 ≤ greatest).
      let (file, stands) = some_file (get start.standing (kind greatest))
      (λ none. is.stands some (free_unread (kind greatest) none)) in
      let fits = (lawful.numbered (kind greatest) file stands).1 in
      omega (arith, fits, number greatest))
      (cases_lt greatest 1)

-- ---- what is named stands

module _ (image : Image) where
  level_stands : (deeper : Bool) (before : Option (List ℕ)) (ns : List ℕ) (ts : List FoundTable) → NamedLevel deeper image before ns (Ok ts)
      → (n : ℕ) → IsAmong ns n → (bytes : List ℕ) × (get image (Table n) ≡ Some bytes)
  level_stands deeper before [] ts is n among = absurd among
  level_stands deeper before (m ∷ ns) ts (t, (stands, above), (others, rest, e)) n among = ⊎_elim
      (λ (at : m ≡ n). (stands.bytes, ap (λ (x : ℕ). get image (Table x)) (sym at) ∙ stands.stands))
      (λ (behind_it : IsAmong ns n). level_stands deeper (key_before deeper t) ns others rest n behind_it)
      among

  pub levels_stand : (deeper : Bool) (levels : List (List ℕ)) (found : List (List FoundTable)) → NamedLevels deeper image levels (Ok found)
      → (n : ℕ) → IsNamed levels n → (bytes : List ℕ) × (get image (Table n) ≡ Some bytes)
  levels_stand deeper [] found is n named = absurd named
  levels_stand deeper (ns ∷ levels) found (ts, level, (others, rest, e)) n named = ⊎_elim
      (λ (here : IsAmong ns n). level_stands deeper None ns ts level n here)
      (λ (below : IsNamed levels n). levels_stand true levels others rest n below)
      named

  pub led_stand : (ns : List ℕ) → NamedLogs image ns (Ok tt) → (n : ℕ) → IsAmong ns n
      → (bytes : List ℕ) × (get image (Log n) ≡ Some bytes)
  led_stand [] is n among = absurd among
  led_stand (m ∷ ns) (u, (bytes, stands, header), rest) n among = ⊎_elim
      (λ (at : m ≡ n). (bytes, ap (λ (x : ℕ). get image (Log x)) (sym at) ∙ stands))
      (λ (behind_it : IsAmong ns n). led_stand ns rest n behind_it)
      among

-- ---- numbers that are used up

false_true : false ≡ true → ⊥
false_true e = cc

some_counter : (c : Counter) → Some c ≡ None → ⊥
some_counter c e = cc

number_other : (m n : ℕ) → (m == n) ≡ false → m ≢ n
number_other m n e = grind (arith, nat_tests)

not_last : (passed last : Bool) → (if passed then Some counters.Log else
    (if last then Some counters.Manifest else None)) ≡ None → last ≡ false
not_last true last e = absurd (some_counter counters.Log e)
not_last false true e = absurd (some_counter counters.Manifest e)
not_last false false e = refl

-- ---- of what an opening finds on a disk that may be opened

-- An opening that found this repairs the disk: a store may be opened on it, it reads as the image, no number is used up, and
-- the new state can be written.
pub record Begins {read : Image} (found : Finds read) (start : DiskState) : Type 0 where
  pub lawful : IsLawful start
  pub may : MayOpen start
  pub is_read : IsRead read start
  pub left : used_up found ≡ None
  -- the new state's frame is short enough, else memory is said to be wanting
  pub has : HasFrame (edits_grammar manifest_format) (whole_edits (new_state found.greatest found.opening.state))

module _ {read : Image} (found : Finds read) (start : DiskState) (begins : Begins found start) where
  abbrev state : ManifestState
  state = found.opening.state

  pub opened_read : IsOpened read found.opening
  opened_read = opened read found.opening found.opens

  -- its logs give the number that it opens at
  pub found_walk : walked found.opening.state.covered found.logs ≡ Ok found.opening.number
  found_walk = ap (walked state.covered)
      (one_standing read state.head found.logs opened_read.standing found.standing opened_read.stands)
      ∙ opened_read.walk

  -- what the new manifest says is in range
  pub new_range : IsInRange (new_state found.greatest found.opening.state)
  new_range = opened_in_range found.greatest.log found.greatest.table state
      (greatest_fits read start begins.is_read Log found.greatest.log
      (λ n. refl) begins.lawful found.are_greatest.log)
      (greatest_fits read start begins.is_read Table found.greatest.table
      (λ n. refl) begins.lawful found.are_greatest.table)
      (says_range opened_read.heading state opened_read.says)

  -- and its number is one that a manifest may have.
  pub manifest_fits : found.greatest.manifest + 1 ≤ max_file_number
  manifest_fits =
      let fits = greatest_fits read start begins.is_read Manifest found.greatest.manifest
      (λ n. refl) begins.lawful found.are_greatest.manifest in
      let other = number_other found.greatest.manifest max_file_number
      (not_last (passes (log_made (new_state found.greatest state) found.logs))
      (found.greatest.manifest == max_file_number) begins.left) in
      omega (arith, fits, other)

  -- No manifest stands, or was removed, from that number on.
  pub manifests_nowhere : (m : ℕ) → found.greatest.manifest < m → IsNowhere start (Manifest m)
  manifests_nowhere m above = record { free = free m above; never = never }
    where
      free : (m : ℕ) → found.greatest.manifest < m → get start.standing (Manifest m) ≡ None
      free m above = unread_free read start begins.is_read (Manifest m)
          (found.are_greatest.manifest.none_above m above)

      never : get start.removed (Manifest m) ≡ None
      never = ⊎_elim
          (λ (gone : get start.removed (Manifest m) ≡ None). gone)
          (λ (was : get start.removed (Manifest m) ≢ None).
          let (higher, more, stands) = begins.may.manifests m was in
          absurd (stands (free higher (omega (arith, above, more)))))
          (stands_or_not (get start.removed (Manifest m)))

  -- So it can be written.
  pub can_write : CanWrite (found.greatest.manifest + 1) (new_state found.greatest found.opening.state)
  can_write = record { fits = omega (arith, manifest_fits); range = new_range; has = begins.has }

  -- A log that stands has at most the greatest number.
  pub log_below : (m : ℕ) (file : File) → get start.standing (Log m) ≡ Some file → m ≤ found.greatest.log
  log_below m file stands = ⊎_elim
      (λ (less : found.greatest.log < m). absurd (some_none file (sym stands
      ∙ unread_free read start begins.is_read (Log m) (found.are_greatest.log.none_above m less))))
      (λ (le : m ≤ found.greatest.log). le)
      (cases_lt found.greatest.log m)

  pub may_as : MayOpenAs start found.opening
  may_as = begins.may.as_read read found.opening begins.is_read found.opens

  -- ---- what is needed is durable

  file_of : (name : Name) (bytes : List ℕ) → get read name ≡ Some bytes
      → (file : File) × (get start.standing name ≡ Some file) × (file.bytes ≡ bytes)
  file_of name bytes there =
      let (file, stands) = some_file (get start.standing name) (λ none. some_none bytes (sym there
      ∙ free_unread read start begins.is_read name none)) in
      (file, stands, some_same file.bytes bytes (sym (begins.is_read.each name ∙ ap (option_map (λ (f : File). f.bytes)) stands) ∙ there))

  durable_file : (name : Name) (bytes : List ℕ) → get read name ≡ Some bytes
      → ((file : File) → get start.standing name ≡ Some file → IsDurable file) → DurableAs read start name
  durable_file name bytes there each =
      let (file, stands, is_bytes) = file_of name bytes there in
      let same = (begins.lawful.standing name file stands).as_synced (each file stands).0 in
      (bytes, there, stands ∙ ap Some same ∙ ap (λ (b : List ℕ). Some (settled b)) is_bytes)

  pub start_needs : Needs (new_state found.greatest found.opening.state) (record { image = read; levels = found.opening.levels }) start
  start_needs = record {
    named = opened_read.levels;
    led = opened_read.led;
    tables = λ n named. (let (bytes, there) = levels_stand read false found.opening.state.levels found.opening.levels opened_read.levels n
        named in
        durable_file (Table n) bytes there (λ file stands. may_as.tables n file named stands));
    logs = λ n among. (let (bytes, there) = led_stand read (led_into found.opening.levels) opened_read.led n among in
        durable_file (Log n) bytes there (λ file stands. (may_as.led n file among stands).0));
  }

  pub manifest_unneeded : (m : ℕ) → IsUnneeded (new_state found.greatest found.opening.state)
      (record { image = read; levels = found.opening.levels }) (Manifest m)
  manifest_unneeded m = record { tables = λ n named. table_manifest n m; logs = λ n among. log_manifest n m }
