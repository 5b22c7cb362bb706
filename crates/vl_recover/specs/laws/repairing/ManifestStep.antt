-- The new manifest is made. Whatever a crash leaves meanwhile opens as something that it could have left at the start. What it
-- could have left then needn't say what reads give: where the new manifest can be read, all manifests could have been left as
-- they were read; where it can't, the image without it could have been.
use Rattle.std.specs.Prelude.{◌≡◌, ◌≢◌, ℕ, ◌+◌, ◌≤◌, ◌<◌, zero, suc, List, [], ◌∷◌, Option, None, Some, Ok, refl}
use Rattle.std.specs.FinMap.{get}
use Rattle.std.specs.Option.{option_map}
use Rattle.std.proofs.Common.{ap, arith, subst, sym, ◌∙◌, ⊎_elim}
use Rattle.std.proofs.lemmas.Bool.{cases_eq, cases_lt, true≢false}
use Rattle.vl_disk.specs.Chance.{NoChanceOne}
use Rattle.vl_disk.specs.Changes.{SameElsewhere}
use Rattle.vl_disk.specs.Crash.{Image, MayLeaveOne, last_file}
use Rattle.vl_disk.specs.DiskState.{DiskState, File, settled}
use Rattle.vl_disk.specs.MadeFile.{WhileMaking}
use Rattle.vl_disk.specs.Started.{IsRead, read_left}
use Rattle.vl_disk.specs.declared.name.Name.{Name}
use Rattle.vl_disk.specs.declared.name.Name.TheVariants.{Log, Manifest, Table}
use Rattle.vl_manifest.specs.Current.{IsCurrent, StandsReadable}
use Rattle.vl_manifest.specs.Manifest.{IsReadable, manifest_bytes}
use Rattle.vl_manifest.specs.States.{as_read, fresh_state, whole_edits}
use Rattle.vl_manifest.specs.laws.MadeLaws.{SaysAsRead}
use Rattle.vl_manifest.specs.laws.ManifestLaws.{says_readable, whole_manifest}
use Rattle.vl_manifest.specs.declared.state.ManifestState.{ManifestState}
use Rattle.vl_model.specs.Formats.{manifest_format}
use Rattle.vl_recover.specs.crash.Alike.{IsLeft, OpensAsOf, OpensLike, SameState, Spells}
use Rattle.vl_recover.specs.crash.Held.{IsNowhere}
use Rattle.vl_recover.specs.crash.Starts.{AllMayStand}
use Rattle.vl_recover.specs.laws.crash.AlikeLaws.{SameLead, lead_over, led_kept, like_lead, like_new, log_manifest}
use Rattle.vl_recover.specs.laws.crash.AlikeLaws.{manifest_same, no_state, read_same, same_lead, same_state}
use Rattle.vl_recover.specs.laws.crash.AlikeLaws.{state_then}
use Rattle.vl_recover.specs.laws.crash.OneName.{IsLeftOne, Making, as_before, done, left_before, left_each}
use Rattle.vl_recover.specs.laws.crash.OneName.{left_elsewhere, left_one, left_there, making, may_miss, torn, waits}
use Rattle.vl_recover.specs.laws.crash.OneName.{with_left}
use Rattle.vl_recover.specs.laws.crash.Torn.{CanWrite, torn_manifest}
use Rattle.vl_recover.specs.laws.opening.HeldLaws.{left_nowhere}
use Rattle.vl_recover.specs.laws.opening.OpeningLaws.{IsOpened, one_heading, single_says, some_none, some_same}
use Rattle.vl_recover.specs.laws.repairing.RepairingStart.{free_unread}
use Rattle.vl_recover.specs.laws.repairing.RepairingSteps.{table_manifest}
use Rattle.vl_recover.specs.laws.repairing.StageLaws.{ok_same}
use Rattle.vl_recover.specs.opening.Opening.{Bare, Headless, Heading, IsHeaded, Led, Newest, NewerFormat, NotAStore, Opening, Refusal, Says}

-- the image with its manifests below a number as they are read
abbrev pub manifests_read : Image → ℕ → Image → Image
manifests_read read zero image = image
manifests_read read (suc k) image = with_left (Manifest k) (get read (Manifest k)) (manifests_read read k image)

module _ (read image : Image) where
  read_elsewhere : (k : ℕ) (name : Name) → ((m : ℕ) → m < k → name ≢ Manifest m)
      → get image name ≡ get (manifests_read read k image) name
  read_elsewhere zero name other = refl
  read_elsewhere (suc k) name other =
      read_elsewhere k name (λ m less. other m (omega (arith, less)))
      ∙ left_elsewhere (Manifest k) (get read (Manifest k)) (manifests_read read k image) name (other k (omega arith))

  read_there : (k m : ℕ) → m < k → get (manifests_read read k image) (Manifest m) ≡ get read (Manifest m)
  read_there zero m less = absurd (omega (arith, less))
  read_there (suc k) m less = ⊎_elim
      (λ (at : m ≡ k). subst (λ (n : ℕ). get (manifests_read read (suc k) image) (Manifest n) ≡ get read (Manifest n)) (sym at)
      (left_there (Manifest k) (get read (Manifest k)) (manifests_read read k image)))
      (λ (other : m ≢ k). sym (left_elsewhere (Manifest k) (get read (Manifest k)) (manifests_read read k image) (Manifest m)
      (λ e. other (manifest_same m k e))) ∙ read_there k m (omega (arith, less, other)))
      (cases_eq m k)

-- what is read may be left
pub as_read_left : (read : Image) (start : DiskState) → IsRead read start → AllMayStand start → (m : ℕ)
    → IsLeftOne (Manifest m) (get start.standing (Manifest m)) (get start.removed (Manifest m)) (get read (Manifest m))
as_read_left read start is_read files m = record {
  may = read_left read start is_read (Manifest m);
  no_chance = subst (NoChanceOne Spells (Manifest m) (last_file (get start.standing (Manifest m)) (get start.removed (Manifest m))))
      (sym (is_read.each (Manifest m)))
      (by (get start.standing (Manifest m)) (get start.removed (Manifest m)) (λ file stands. (files (Manifest m) file stands).no_chance
      (λ wrong. wrong)));
}
  where
    by : (standing removed : Option File)
        → ((file : File) → standing ≡ Some file → NoChanceOne Spells (Manifest m) (Some file) (Some file.bytes))
        → NoChanceOne Spells (Manifest m) (last_file standing removed) (option_map (λ (f : File). f.bytes) standing)
    by (Some file) removed each = each file refl
    by None None each = tt
    by None (Some file) each = tt

module _ (read : Image) (o : Opening) (is : IsOpened read o) (number : ℕ) (s : ManifestState) (can : CanWrite number s)
    (said : SameState s o.state) (start now : DiskState) (is_read : IsRead read start) (files : AllMayStand start)
    (nowhere : (m : ℕ) → number ≤ m → IsNowhere start (Manifest m)) where
  abbrev piece : List ℕ
  piece = manifest_bytes number (whole_edits s ∷ [])

  unread : (m : ℕ) → number ≤ m → get read (Manifest m) ≡ None
  unread m from = free_unread read start is_read (Manifest m) (nowhere m from).free

  module _ (same : SameElsewhere (Manifest number) start now) (image : Image) (left : IsLeft now image) where
    -- the image with all manifests as read
    abbrev before : Image
    before = manifests_read read (number + 1) image

    above_none : (m : ℕ) → number < m → get image (Manifest m) ≡ None
    above_none m less = left_nowhere now image (Manifest m) (record {
      free = same.standing (Manifest m) (λ e. omega (arith, less, manifest_same m number e)) ∙ (nowhere m (omega (arith, less))).free;
      never = same.removed (Manifest m) (λ e. omega (arith, less, manifest_same m number e)) ∙ (nowhere m (omega (arith, less))).never;
    }) left.left

    before_manifest : (m : ℕ) → get (manifests_read read (number + 1) image) (Manifest m) ≡ get read (Manifest m)
    before_manifest m = ⊎_elim
        (λ (below : m < number + 1). read_there read image (number + 1) m below)
        (λ (past : number + 1 ≤ m). sym (read_elsewhere read image (number + 1) (Manifest m)
        (λ k less e. omega (arith, less, past, manifest_same m k e)))
        ∙ above_none m (omega (arith, past)) ∙ sym (unread m (omega (arith, past))))
        (cases_lt m (number + 1))

    before_log : (m : ℕ) → get image (Log m) ≡ get (manifests_read read (number + 1) image) (Log m)
    before_log m = read_elsewhere read image (number + 1) (Log m) (λ k less e. log_manifest m k e)

    before_table : (m : ℕ) → get image (Table m) ≡ get (manifests_read read (number + 1) image) (Table m)
    before_table m = read_elsewhere read image (number + 1) (Table m) (λ k less e. table_manifest m k e)

    -- another name than a manifest's
    elsewhere_left : (name : Name) → name ≢ Manifest number → get image name ≡ get (manifests_read read (number + 1) image) name
        → IsLeftOne name (get start.standing name) (get start.removed name) (get (manifests_read read (number + 1) image) name)
    elsewhere_left name apart there =
        subst (IsLeftOne name (get start.standing name) (get start.removed name)) there
        (subst (λ (x : Option File). IsLeftOne name (get start.standing name) x (get image name)) (same.removed name apart)
        (subst (λ (x : Option File). IsLeftOne name x (get now.removed name) (get image name)) (same.standing name apart)
        (left_one now image left name)))

    before_each : (name : Name) → IsLeftOne name (get start.standing name) (get start.removed name)
        (get (manifests_read read (number + 1) image) name)
    before_each (Log m) = elsewhere_left (Log m) (λ e. log_manifest m number e) (before_log m)
    before_each (Table m) = elsewhere_left (Table m) (λ e. table_manifest m number e) (before_table m)
    before_each (Manifest m) =
        subst (IsLeftOne (Manifest m) (get start.standing (Manifest m)) (get start.removed (Manifest m))) (sym (before_manifest m))
        (as_read_left read start is_read files m)

    before_left : IsLeft start (manifests_read read (number + 1) image)
    before_left = left_each start before before_each

    -- It says what is read, where it opens.
    before_says : (p : Opening) → IsOpened (manifests_read read (number + 1) image) p → SameState s p.state
    before_says p found = by p.state found.heading is.heading found.headed is.headed found.says is.says
      where
        lead : SameLead read (manifests_read read (number + 1) image)
        lead = same_lead read before (λ n. sym (before_manifest n))

        equal : (t u : ManifestState) → t ≡ u → SameState t u
        equal t u e = subst (SameState t) e (same_state t)

        by : (t : ManifestState) (h k : Heading) → IsHeaded (manifests_read read (number + 1) image) h → IsHeaded read k
            → Says h (Ok t) → Says k (Ok o.state) → SameState s t
        by t Bare Bare p q says_p says_q = state_then s o.state t said
            (equal o.state t (ok_same {E = Refusal} o.state fresh_state says_q ∙ sym (ok_same {E = Refusal} t fresh_state says_p)))
        by t Bare (Led n bytes) p q says_p says_q = absurd (p.none n bytes
            (record { stands = before_manifest n ∙ q.here.stands; readable = q.here.readable }))
        by t Bare Headless p q says_p says_q = absurd (no_state o.state NotAStore says_q)
        by t Bare (Newest format) p q says_p says_q = absurd (no_state o.state (NewerFormat format) says_q)
        by t (Led n bytes) k p q says_p says_q =
            let heading : k ≡ Led n bytes = one_heading read k (Led n bytes) q (led_kept read before lead n bytes p) in
            state_then s o.state t said (equal o.state t (ok_same {E = Refusal} o.state t
            (single_says (Led n bytes) (Ok o.state) (Ok t) (subst (λ (h : Heading). Says h (Ok o.state)) heading says_q) says_p)))
        by t Headless k p q says_p says_q = absurd (no_state t NotAStore says_p)
        by t (Newest format) k p q says_p says_q = absurd (no_state t (NewerFormat format) says_p)

    -- where the new manifest can be read
    reads : (bytes : List ℕ) → get image (Manifest number) ≡ Some bytes → SaysAsRead number bytes s
        → (old : Image) × IsLeft start old × OpensLike image old
    reads bytes stands said_as = (
      before,
      before_left,
      like_new image before (Led number bytes) here current (Ok here, said_as.says, refl)
          (λ p found. state_then here s p.state (read_same said_as.format s said_as.gone) (before_says p found)) before_log before_table,
    )
      where
        -- what the new manifest says, in the format that its header has
        here : ManifestState
        here = as_read said_as.format s

        current : IsCurrent image number bytes
        current = record {
          here = record { stands = stands; readable = says_readable number bytes here said_as.says };
          greatest = λ m others r. ⊎_elim
              (λ (less : number < m). absurd (some_none others (sym r.stands ∙ above_none m less)))
              (λ (le : m ≤ number). le)
              (cases_lt number m);
        }

    -- where it can't
    abbrev without_new : Image
    without_new = with_left (Manifest number) None image

    unreads : ((bytes : List ℕ) → StandsReadable image number bytes → ⊥) → (old : Image) × IsLeft start old × OpensLike image old
    unreads not =
        let apart = left_elsewhere (Manifest number) None image in
        let gone = left_there (Manifest number) None image in (
          without_new,
          left_before (Manifest number) start now image without_new same apart
              (subst (IsLeftOne (Manifest number) (get start.standing (Manifest number)) (get start.removed (Manifest number))) (sym gone)
              (subst (λ (x : Option File). IsLeftOne (Manifest number) x (get start.removed (Manifest number)) None)
              (sym (nowhere number (omega arith)).free) (may_miss (Manifest number) (get start.removed (Manifest number))))) left,
          like_lead image without_new
              (lead_over image without_new number apart not (λ bytes r. some_none bytes (sym r.stands ∙ gone)))
              (λ m. apart (Log m) (log_manifest m number))
              (λ m. apart (Table m) (table_manifest m number)),
        )

  settled_left : (removed : Option File) (left : Option (List ℕ)) → MayLeaveOne (Some (settled piece)) removed left → left ≡ Some piece
  settled_left removed None may = absurd (true≢false may)
  settled_left removed (Some bytes) may = ap Some (may.whole refl)

  pub manifest_step : WhileMaking (Manifest number) (manifest_bytes number (whole_edits s ∷ [])) start now → OpensAsOf start now
  manifest_step during = by (making (Manifest number) piece start now during)
    where
      by : Making (Manifest number) (manifest_bytes number (whole_edits s ∷ [])) start now → OpensAsOf start now
      by (waits is_start) = subst (OpensAsOf start) (sym is_start) (as_before start)
      by (torn file part stands same) = λ image left. there image left (get image (Manifest number)) refl
        where
          there : (image : Image) → IsLeft now image → (found : Option (List ℕ)) → get image (Manifest number) ≡ found
              → (old : Image) × IsLeft start old × OpensLike image old
          there image left None none = unreads same image left (λ bytes r. some_none bytes (sym r.stands ∙ none))
          there image left (Some bytes) here = ⊎_elim
              (λ (not : IsReadable number bytes → ⊥). unreads same image left
              (λ others r. not (subst (IsReadable number) (some_same others bytes (sym r.stands ∙ here)) r.readable)))
              (λ (says : SaysAsRead number bytes s). reads same image left bytes here says)
              (torn_manifest number s can file part bytes
              (subst (λ (x : Option (List ℕ)). IsLeftOne (Manifest number) (Some file) (get now.removed (Manifest number)) x) here
              (subst (λ (x : Option File). IsLeftOne (Manifest number) x (get now.removed (Manifest number))
              (get image (Manifest number))) stands
              (left_one now image left (Manifest number)))).no_chance)
      by (done stands same) = λ image left. reads same image left piece
          (settled_left (get now.removed (Manifest number)) (get image (Manifest number))
          (subst (λ (x : Option File). IsLeftOne (Manifest number) x (get now.removed (Manifest number)) (get image (Manifest number)))
          stands
          (left_one now image left (Manifest number))).may)
          (record { format = manifest_format; says = whole_manifest number s can.fits can.range can.has; gone = omega arith })
