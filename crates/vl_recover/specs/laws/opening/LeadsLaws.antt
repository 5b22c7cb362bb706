-- The manifest that leads what a crash leaves, with the tables that it names and the logs that these lead into, and what of a
-- held store stays where a disk changes under one name.
use Rattle.std.specs.Prelude.{◌≡◌, ◌≢◌, ℕ, ◌+◌, ◌≤◌, ◌<◌, List, [], ◌∷◌, ◌++◌, Ok, false, refl}
use Rattle.std.specs.FinMap.{get}
use Rattle.std.proofs.Common.{arith, subst, sym, ◌∙◌, ⊎_elim}
use Rattle.std.proofs.lemmas.Bool.{cases_lt}
use Rattle.vl_disk.specs.Changes.{SameElsewhere}
use Rattle.vl_disk.specs.Crash.{Image, MayLeave}
use Rattle.vl_disk.specs.DiskState.{DiskState}
use Rattle.vl_disk.specs.MadeFile.{made}
use Rattle.vl_disk.specs.declared.name.Name.{Name}
use Rattle.vl_disk.specs.declared.name.Name.TheVariants.{Log, Manifest, Table}
use Rattle.vl_engine_model.specs.Logs.{new_segment}
use Rattle.vl_engine_model.specs.declared.segment.Segment.{Segment}
use Rattle.vl_manifest.specs.Current.{IsCurrent}
use Rattle.vl_manifest.specs.Manifest.{SaysState, manifest_bytes}
use Rattle.vl_manifest.specs.States.{whole_edits}
use Rattle.vl_manifest.specs.declared.state.ManifestState.{ManifestState}
use Rattle.vl_recover.specs.crash.Alike.{OpensLike, SameState}
use Rattle.vl_recover.specs.laws.crash.AlikeLaws.{Alike, OpensAs, SameBut, like_by, log_same, logs_alike, same_state}
use Rattle.vl_recover.specs.crash.Held.{DurableAs, HoldsLogs, HoldsManifest, IsNowhere, IsSettled, Needs, View}
use Rattle.vl_recover.specs.laws.opening.HeldLaws.{held_current, needs_image}
use Rattle.vl_recover.specs.laws.opening.IdleLaws.{nowhere_passed, passed_kept}
use Rattle.vl_recover.specs.laws.crash.OneName.{made_elsewhere, made_there}
use Rattle.vl_recover.specs.opening.Opening.{FoundTable, Heading, IsAmong, IsNamed, Led, NamedLevels, Opening}
use Rattle.vl_recover.specs.opening.Opening.{Refusal, Says, StandingLogs, led_into}
use Rattle.vl_recover.specs.laws.opening.OpeningLaws.{IsOpened, one_heading, single_says, some_none}
use Rattle.vl_recover.specs.laws.opening.TablesLaws.{single_levels}
use Rattle.vl_recover.specs.laws.repairing.StageLaws.{ok_same}
use Rattle.vl_recover.specs.opening.Walk.{StandingLog}
use Rattle.vl_model.specs.Formats.{log_format}
use Rattle.vl_seglog.specs.Frames.{log_header}
use Rattle.vl_seglog.specs.laws.LogReadingLaws.{written_is_read}

-- ---- what stays elsewhere

pub nowhere_kept : (name : Name) (old now : DiskState) → SameElsewhere name old now → (other : Name)
    → other ≢ name
    → IsNowhere old other → IsNowhere now other
nowhere_kept name old now same other apart nowhere = record {
  free = same.standing other apart ∙ nowhere.free;
  never = same.removed other apart ∙ nowhere.never;
}

pub settled_kept : (name : Name) (old now : DiskState) → SameElsewhere name old now
    → (other : Name) (bytes : List ℕ)
    → other ≢ name → IsSettled old other bytes → IsSettled now other bytes
settled_kept name old now same other bytes apart stands = same.standing other apart ∙ stands

-- ---- what a state needs

-- it is none of these files
pub record IsUnneeded (s : ManifestState) (v : View) (name : Name) : Type 0 where
  pub tables : (n : ℕ) → IsNamed s.levels n → Table n ≢ name
  pub logs : (n : ℕ) → IsAmong (led_into v.levels) n → Log n ≢ name

table_log : (m n : ℕ) → Table m ≡ Log n → ⊥
table_log m n e = cc

-- a log that no table leads into isn't needed
pub unled_unneeded : (s : ManifestState) (v : View) (k : ℕ) → (IsAmong (led_into v.levels) k → ⊥) → IsUnneeded s v (Log k)
unled_unneeded s v k not = record {
  tables = λ n named e. table_log n k e;
  logs = λ n among e. not (subst (IsAmong (led_into v.levels)) (log_same n k e) among);
}

durable_kept : (v : View) (name : Name) (old now : DiskState) → SameElsewhere name old now → (other : Name) → other ≢ name
    → DurableAs v.image old other → DurableAs v.image now other
durable_kept v name old now same other apart (bytes, read, stands) =
    (bytes, read, settled_kept name old now same other bytes apart stands)

pub needs_kept : (s : ManifestState) (v : View) (name : Name) (old now : DiskState) → SameElsewhere name old now
    → IsUnneeded s v name → Needs s v old → Needs s v now
needs_kept s v name old now same apart needs = record {
  named = needs.named;
  led = needs.led;
  tables = λ n named. durable_kept v name old now same (Table n) (apart.tables n named) (needs.tables n named);
  logs = λ n among. durable_kept v name old now same (Log n) (apart.logs n among) (needs.logs n among);
}

-- ---- the manifest that leads

-- The manifest of this number is durable and says this state, no greater one stands or was removed, and all that it needs is
-- durable.
pub record Leads (number : ℕ) (s : ManifestState) (v : View) (disk : DiskState) : Type 0 where
  pub bytes : List ℕ
  pub is_whole : bytes ≡ manifest_bytes number (whole_edits s ∷ [])
  pub stands : IsSettled disk (Manifest number) bytes
  pub says : SaysState number bytes s
  pub above : (m : ℕ) → number < m → IsNowhere disk (Manifest m)
  pub needs : Needs s v disk

pub leads_holds : (number : ℕ) (s : ManifestState) (v : View) (disk : DiskState) → Leads number s v disk
    → HoldsManifest s disk
leads_holds number s v disk leads =
    record { number = number; bytes = leads.bytes; stands = leads.stands; says = leads.says; above = leads.above }

pub leads_kept : (number : ℕ) (s : ManifestState) (v : View) (name : Name) (old now : DiskState)
    → SameElsewhere name old now → ((m : ℕ) → number ≤ m → Manifest m ≢ name) → IsUnneeded s v name
    → Leads number s v old → Leads number s v now
leads_kept number s v name old now same apart unneeded leads = record {
  bytes = leads.bytes;
  is_whole = leads.is_whole;
  stands = settled_kept name old now same (Manifest number) leads.bytes (apart number (omega arith)) leads.stands;
  says = leads.says;
  above = λ m less. nowhere_kept name old now same (Manifest m) (apart m (omega (arith, less))) (leads.above m less);
  needs = needs_kept s v name old now same unneeded leads.needs;
}

-- It is the current one of whatever a crash leaves.
pub leads_image : (number : ℕ) (s : ManifestState) (v : View) (disk : DiskState) (image : Image)
    → (leads : Leads number s v disk) → MayLeave disk image → IsCurrent image number leads.bytes
unfolding leads_holds
leads_image number s v disk image leads may = held_current s disk (leads_holds number s v disk leads) image may

-- A current manifest stays current where a name changes that isn't its own, nor that of a greater one.
pub current_kept : (number : ℕ) (name : Name) (image other : Image) (bytes : List ℕ)
    → SameBut name image other
    → ((m : ℕ) → number ≤ m → Manifest m ≢ name) → IsCurrent other number bytes → IsCurrent image number bytes
current_kept number name image other bytes same apart current = record {
  here = record {
    stands = same (Manifest number) (apart number (omega arith))
        ∙ current.here.stands;
    readable = current.here.readable;
  };
  greatest = λ m others r. ⊎_elim
      (λ (less : number < m). current.greatest m others
      (record {
        stands = sym (same (Manifest m) (apart m (omega (arith, less))))
            ∙ r.stands;
        readable = r.readable;
      }))
      (λ (le : m ≤ number). le)
      (cases_lt number m);
}

-- what the opening of an image says that it leads
module _ (number : ℕ) (bytes : List ℕ) (s : ManifestState) (v : View) (other : Image) (says : SaysState number bytes s)
    (was : IsCurrent other number bytes) (named : NamedLevels false other s.levels (Ok v.levels)) where
  pub led_state : (o : Opening) → IsOpened other o → s ≡ o.state
  led_state o is =
      let heading = one_heading other is.heading (Led number bytes) is.headed was in
      let says_o = subst (λ (h : Heading). Says h (Ok o.state)) heading is.says in
      ok_same {E = Refusal} s o.state (single_says (Led number bytes) (Ok s) (Ok o.state) (Ok s, says, refl) says_o)

  pub led_levels : (o : Opening) → IsOpened other o → v.levels ≡ o.levels
  led_levels o is =
      let named_o = subst (λ (x : ManifestState). NamedLevels false other x.levels (Ok o.levels)) (sym (led_state o is)) is.levels in
      ok_same {E = Refusal} v.levels o.levels (single_levels other false s.levels (Ok v.levels) (Ok o.levels) named named_o)

  -- Where it leads both images, what counts is that needed files are the same and the logs from head on alike.
  pub led_like : (image : Image) → IsCurrent image number bytes
      → ((n : ℕ) → IsNamed s.levels n → get image (Table n) ≡ get other (Table n))
      → ((n : ℕ) → IsAmong (led_into v.levels) n → get image (Log n) ≡ get other (Log n))
      → ((logs : List StandingLog) → StandingLogs other s.head logs → Alike image s.head logs)
      → OpensLike image other
  led_like image now tables logs alike = like_by image other (λ o is. by o is (led_state o is) (led_levels o is))
    where
      by : (o : Opening) (is : IsOpened other o) → s ≡ o.state → v.levels ≡ o.levels → OpensAs image other o is.standing
      by o is state levels = record {
        heading = Led number bytes;
        state = s;
        headed = now;
        says = (Ok s, says, refl);
        same = subst (λ (x : ManifestState). SameState s x) state (same_state s);
        needed = record {
          tables = λ n in_it. tables n (subst (λ (x : ManifestState). IsNamed x.levels n) (sym state) in_it);
          logs = λ n in_it. logs n (subst (λ (x : List (List FoundTable)). IsAmong (led_into x) n) (sym levels) in_it);
        };
        alike = subst (λ (x : ManifestState). Alike image x.head is.standing) state
            (alike is.standing (subst (λ (x : ManifestState). StandingLogs other x.head is.standing) (sym state) is.stands));
      }

-- The image changes under a name that isn't needed, nor is it a log from head on or the manifest.
pub led_same : (number : ℕ) (s : ManifestState) (v : View) (name : Name) (disk : DiskState) (image other : Image)
    → (leads : Leads number s v disk) → MayLeave disk other → IsCurrent image number leads.bytes
    → SameBut name image other → IsUnneeded s v name → ((m : ℕ) → s.head ≤ m → Log m ≢ name) → OpensLike image other
led_same number s v name disk image other leads may now same unneeded below =
    led_like number leads.bytes s v other leads.says (leads_image number s v disk other leads may)
    (needs_image s v disk other leads.needs may) image now
    (λ n named. same (Table n) (unneeded.tables n named))
    (λ n among. same (Log n) (unneeded.logs n among))
    (λ logs standing. logs_alike image other s.head logs (λ m from. same (Log m) (below m from)) standing)

-- ---- the logs that are held

pub logs_kept : (name : Name) (old now : DiskState) → SameElsewhere name old now
    → (least : ℕ) (logs : List Segment)
    → ((m : ℕ) → least ≤ m → Log m ≢ name) → HoldsLogs least logs old → HoldsLogs least logs now
logs_kept name old now same least [] apart none = λ m from. nowhere_kept name old now same (Log m)
    (apart m from) (none m from)
logs_kept name old now same least (s ∷ ss) apart (from, between, is_read, have, stands, rest) = (
  from,
  λ m above less. passed_kept name old now same m (apart m above) (between m above less),
  is_read,
  have,
  settled_kept name old now same (Log s.number) _ (apart s.number from) stands,
  logs_kept name old now same (s.number + 1) ss (λ m above. apart m (omega (arith, from, above))) rest,
)

-- A log without frames behind all of them is held too.
pub log_added : (disk : DiskState) (k least : ℕ) (logs : List Segment) → least ≤ k
    → ((m : ℕ) → k ≤ m → IsNowhere disk (Log m)) → HoldsLogs least logs disk
    → HoldsLogs least (logs ++ new_segment log_format k [] ∷ []) (made (Log k) (log_header log_format k) disk)
log_added disk k least [] from nowhere none = (
  from,
  λ m above less. nowhere_passed (made (Log k) (log_header log_format k) disk) m (kept m (omega (arith, less)) (none m above)),
  written_is_read,
  tt,
  made_there (Log k) (log_header log_format k) disk,
  λ m above. kept m (omega (arith, above)) (nowhere m (omega (arith, above))),
)
  where
    kept : (m : ℕ) → m ≢ k → IsNowhere disk (Log m) → IsNowhere (made (Log k) (log_header log_format k) disk) (Log m)
    kept m apart = nowhere_kept (Log k) disk (made (Log k) (log_header log_format k) disk)
        (made_elsewhere (Log k) (log_header log_format k) disk) (Log m)
        (λ e. apart (log_same m k e))
log_added disk k least (s ∷ ss) from nowhere (first, between, is_read, have, stands, rest) =
    let not : k ≤ s.number → ⊥ = λ above. some_none _ (sym stands ∙ (nowhere s.number above).free) in
    let below : s.number < k = omega (arith, not) in (
      first,
      λ m above less. passed_kept (Log k) disk (made (Log k) (log_header log_format k) disk)
          (made_elsewhere (Log k) (log_header log_format k) disk) m
          (λ e. omega (arith, less, below, log_same m k e)) (between m above less),
      is_read,
      have,
      settled_kept (Log k) disk (made (Log k) (log_header log_format k) disk)
          (made_elsewhere (Log k) (log_header log_format k) disk) (Log s.number) _
          (λ e. omega (arith, below, log_same s.number k e)) stands,
      log_added disk k (s.number + 1) ss (omega (arith, below)) nowhere rest,
    )
