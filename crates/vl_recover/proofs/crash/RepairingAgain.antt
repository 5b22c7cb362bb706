-- A disk that an opening left when it failed: a store may be opened on it again.
use Rattle.std.specs.Prelude.{◌≡◌, ◌≢◌, ◌==◌, ℕ, ◌≤◌, ◌<◌, Bool, if◌then◌else◌, List, [], ◌∷◌, AllPairs, Option, None}
use Rattle.std.specs.Prelude.{Some, suc, true, false, refl}
use Rattle.std.specs.FinMap.{get}
use Rattle.std.proofs.Common.{ap, arith, subst, sym, ◌∙◌, ⊎_elim}
use Rattle.std.proofs.lemmas.Bool.{cases_eq, cases_lt, true≢false}
use Rattle.vl_disk.specs.Changes.{SameElsewhere, without_elsewhere}
use Rattle.vl_disk.specs.Crash.{WhileRemoving}
use Rattle.vl_disk.specs.DiskState.{DiskState, File, IsLawful, settled, synced, without}
use Rattle.vl_disk.specs.laws.NameMap.{get_removed}
use Rattle.vl_disk.specs.declared.name.Name.{Name}
use Rattle.vl_disk.specs.declared.name.Name.TheVariants.{Log}
use Rattle.vl_manifest.specs.declared.state.ManifestState.{ManifestState}
use Rattle.vl_recover.specs.laws.crash.AlikeLaws.{log_same}
use Rattle.vl_recover.specs.crash.Held.{IsNowhere, View}
use Rattle.vl_recover.specs.laws.crash.NewLogLaws.{files_kept, header_part}
use Rattle.vl_recover.specs.laws.opening.HeldLaws.{AreSealed, may_open_by, settled_may_stand}
use Rattle.vl_recover.proofs.repairs.LastFiles.{as_repairing}
use Rattle.vl_recover.specs.laws.repairing.LastLaws.{LastStands, synced_leads}
use Rattle.vl_recover.specs.laws.opening.IdleLaws.{gone_kept, none_gone}
use Rattle.vl_recover.specs.laws.opening.LeadsLaws.{Leads, leads_holds, leads_kept, unled_unneeded}
use Rattle.vl_recover.specs.laws.opening.LogsLaws.{IsTheLast, StandUpTo, last_is, last_stands, the_last}
use Rattle.vl_recover.specs.repairing.Repairing.{Cut, Headed, Kept, LastLog, Rewritten, WhileLast, WhileLog}
use Rattle.vl_recover.specs.repairing.Repairing.{WhileStrays, last_of, repairing_of}
use Rattle.vl_recover.specs.laws.repairing.RepairingStages.{IsFreeFrom, free_unled}
use Rattle.vl_recover.specs.laws.repairing.RepairingSteps.{manifest_log}
use Rattle.vl_recover.specs.laws.crash.OneName.{Making, done, making, torn, waits}
use Rattle.vl_recover.specs.laws.opening.OpeningLaws.{some_none, some_same}
use Rattle.vl_recover.specs.crash.Starts.{AllMayStand, AllStay, MayOpen, MayStand, OnlyIdleGone, StaysAsItIs}
use Rattle.vl_recover.specs.opening.Opening.{IsAmong, led_into}
use Rattle.vl_recover.specs.laws.repairing.StraysLaws.{AreSpare, IsSpare, rest_apart, rest_once, spare_kept}
use Rattle.vl_recover.specs.opening.Walk.{StandingLog, content_end, keeps_header}
use Rattle.vl_model.specs.Formats.{log_format}
use Rattle.vl_seglog.specs.Frames.{log_header}

-- What stands may stand, and from a number on each log that another follows is durable, and only idle ones were removed.
pub record StandsWell (head : ℕ) (disk : DiskState) : Type 0 where
  pub files : AllMayStand disk
  pub sealed : AreSealed head disk
  pub gone : OnlyIdleGone head disk

-- So a store may be opened on it where a manifest leads.
pub leads_may_open : (number : ℕ) (s : ManifestState) (v : View) (disk : DiskState) → IsLawful disk → Leads number s v disk
    → StandsWell s.head disk → AllStay v.image (led_into v.levels) → MayOpen disk
leads_may_open number s v disk lawful leads well stay = may_open_by s v disk lawful
    (leads_holds number s v disk leads) leads.needs stay well.gone well.files well.sealed

-- a repairing is under way behind the new manifest
pub record GoesWell (number : ℕ) (s : ManifestState) (v : View) (disk : DiskState) : Type 0 where
  pub leads : Leads number s v disk
  pub well : StandsWell s.head disk

-- ---- a change below head, or of no log

pub below_well : (head : ℕ) (name : Name) (old now : DiskState) → SameElsewhere name old now
    → ((m : ℕ) → head ≤ m → Log m ≢ name)
    → ((file : File) → get now.standing name ≡ Some file → MayStand name file) → StandsWell head old
    → StandsWell head now
below_well head name old now same apart there well = record {
  files = files_kept name old now same well.files there;
  sealed = λ m k file from less stands_k stands. well.sealed m k file from less
      (λ none. stands_k (same.standing (Log k) (apart k (omega (arith, from, less))) ∙ none))
      (sym (same.standing (Log m) (apart m from)) ∙ stands);
  gone = gone_kept head name old now same (λ m from e. absurd (apart m from e)) well.gone;
}

-- ---- the greatest log changes, or is new

-- a log that stands below this number is durable
abbrev pub AreSealedBelow : ℕ → ℕ → DiskState → Type 0
AreSealedBelow head k disk = (m : ℕ) (file : File) → head ≤ m → m < k → get disk.standing (Log m) ≡ Some file
    → (file.wholly_synced ≡ true) × (file.lasting ≡ true)

pub top_well : (head k : ℕ) (old now : DiskState) → SameElsewhere (Log k) old now
    → ((m : ℕ) → k < m → IsNowhere old (Log m)) → AreSealedBelow head k old
    → get now.standing (Log k) ≢ None → get now.removed (Log k) ≡ None
    → ((file : File) → get now.standing (Log k) ≡ Some file → MayStand (Log k) file) → StandsWell head old → StandsWell head now
top_well head k old now same above below stands_now never there well = record {
  files = files_kept (Log k) old now same well.files there;
  sealed = λ m other file from less stands_other stands. ⊎_elim
      (λ (lower : m < k). below m file from lower (sym
      (same.standing (Log m) (λ e. omega (arith, lower, log_same m k e))) ∙ stands))
      (λ (upper : k ≤ m). absurd (stands_other (same.standing (Log other)
      (λ e. omega (arith, upper, less, log_same other k e))
      ∙ (above other (omega (arith, upper, less))).free)))
      (cases_lt m k);
  gone = gone_kept head (Log k) old now same (λ m from e. (stands_now, never)) well.gone;
}

-- ---- the last log

last_leads : (number : ℕ) (s : ManifestState) (v : View) (q : StandingLog) (disk now : DiskState) → Leads number s v disk
    → (IsAmong (led_into v.levels) q.number → StaysAsItIs q.reading)
    → SameElsewhere (Log q.number) disk now → WhileLast (repairing_of q) disk now → Leads number s v now
last_leads number s v q disk now leads led same during =
    by (keeps_header q.reading.header q.reading.frames) q.reading.whole (q.length == 0) refl refl during
  where
    unled : (IsAmong (led_into v.levels) q.number → ⊥) → Leads number s v now
    unled not = leads_kept number s v (Log q.number) disk now same (λ m from. manifest_log m q.number)
        (unled_unneeded s v q.number not) leads

    by : (keeps whole empty : Bool) → keeps_header q.reading.header q.reading.frames ≡ keeps → q.reading.whole ≡ whole
        → WhileLast (if keeps then (if whole then Kept q.number else Cut q.number (content_end q.reading)) else
        (if empty then Headed q.number else Rewritten q.number)) disk now → Leads number s v now
    by true true empty k w d = ⊎_elim
        (λ (waits : now ≡ disk). subst (Leads number s v) (sym waits) leads)
        (λ (turns : now ≡ synced (Log q.number) disk). subst (Leads number s v) (sym turns)
        (synced_leads number s v q.number disk leads))
        d
    by true false empty k w d = unled (λ among. true≢false (sym (led among).0 ∙ w))
    by false whole empty k w d = unled (λ among. true≢false (sym (led among).1 ∙ k))

pub last_well : (number : ℕ) (s : ManifestState) (v : View) (logs : List StandingLog) (disk now : DiskState)
    → GoesWell number s v disk → StandUpTo LastStands s.head logs disk
    → ((q : StandingLog) → IsTheLast LastStands s.head q disk → IsAmong (led_into v.levels) q.number → StaysAsItIs q.reading)
    → WhileLast (last_of logs) disk now → GoesWell number s v now
last_well number s v [] disk now goes stand led during = absurd during
last_well number s v (q ∷ qs) disk now goes stand led during =
    let k = (the_last q qs).number in
    let last = last_stands LastStands s.head q qs disk stand in
    let repairs = subst (λ (l : LastLog). WhileLast l disk now) (last_is q qs) during in
    let here = as_repairing (the_last q qs) disk last.holds now repairs in
    let there = last.holds.stands in
    record {
      leads = last_leads number s v (the_last q qs) disk now goes.leads (led (the_last q qs) last) here.elsewhere repairs;
      well = top_well s.head k disk now here.elsewhere last.above
          (λ m file from less stands. goes.well.sealed m k file from less
          (λ none. some_none last.holds.file (sym there ∙ none)) stands)
          (λ none. some_none here.file (sym here.stands ∙ none))
          (here.removed ∙ none_gone s.head k disk goes.well.gone last.from (λ m less. (last.above m less).free))
          (λ file stands. subst (MayStand (Log k)) (some_same here.file file (sym here.stands
          ∙ stands)) here.may) goes.well;
    }

-- ---- the new log

pub log_well : (number : ℕ) (s : ManifestState) (v : View) (new : Option ℕ) (disk now : DiskState)
    → ((k : ℕ) (file : File) → new ≡ Some k → get now.standing (Log k) ≡ Some file
    → get now.removed (Log k) ≡ None) → ((k : ℕ) → new ≡ Some k → IsFreeFrom s.head k disk)
    → ((m : ℕ) (file : File) → s.head ≤ m → get disk.standing (Log m) ≡ Some file → file ≡ settled file.bytes)
    → GoesWell number s v disk
    → WhileLog new disk now → GoesWell number s v now
log_well number s v None disk now never free all goes during = absurd during
log_well number s v (Some k) disk now never free all goes during =
    by (making (Log k) (log_header log_format k) disk now during)
  where
    below : AreSealedBelow s.head k disk
    below m file from less stands = (let is = all m file from stands in
        (ap (λ (f : File). f.wholly_synced) is, ap (λ (f : File). f.lasting) is))

    above : (m : ℕ) → k < m → IsNowhere disk (Log m)
    above m less = (free k refl).nowhere m (omega (arith, less))

    with_file_there : (file : File) → get now.standing (Log k) ≡ Some file → MayStand (Log k) file
        → SameElsewhere (Log k) disk now → GoesWell number s v now
    with_file_there file stands may same = record {
      leads = leads_kept number s v (Log k) disk now same (λ m from. manifest_log m k)
          (unled_unneeded s v k (free_unled number s v k disk goes.leads ((free k refl).nowhere k (omega arith)))) goes.leads;
      well = top_well s.head k disk now same above below (λ none. some_none file (sym stands ∙ none)) (never k file refl stands)
          (λ other is. subst (MayStand (Log k)) (some_same file other (sym stands ∙ is)) may) goes.well;
    }

    by : Making (Log k) (log_header log_format k) disk now → GoesWell number s v now
    by (waits same) = subst (GoesWell number s v) (sym same) goes
    by (torn file part stands same) = with_file_there file stands (header_part k file part) same
    by (done stands same) = with_file_there (settled (log_header log_format k)) stands
        (settled_may_stand (Log k) (log_header log_format k)) same

-- ---- the strays

without_well : (number : ℕ) (s : ManifestState) (v : View) (name : Name) (disk : DiskState)
    → IsSpare number s v disk name → GoesWell number s v disk → GoesWell number s v (without name disk)
without_well number s v name disk spare goes = record {
  leads = leads_kept number s v name disk (without name disk) (without_elsewhere name disk) spare.lower spare.unneeded goes.leads;
  well = below_well s.head name disk (without name disk) (without_elsewhere name disk) spare.below
      (λ file stands. absurd (some_none file (sym stands ∙ get_removed disk.standing name))) goes.well;
}

pub strays_well : (number : ℕ) (s : ManifestState) (v : View) (names : List Name) (disk now : DiskState)
    → AreSpare number s v disk names → AllPairs (λ a b. a ≢ b) names → GoesWell number s v disk → WhileStrays names disk now
    → GoesWell number s v now
strays_well number s v [] disk now spare once goes during = absurd during
strays_well number s v (name ∷ names) disk now spare once goes during =
    let less = without_well number s v name disk (spare name (0, omega arith, refl)) goes in
    ⊎_elim
    (λ (w : WhileRemoving name disk now). ⊎_elim
    (λ (waits : now ≡ disk). subst (GoesWell number s v) (sym waits) goes)
    (λ (turns : now ≡ without name disk). subst (GoesWell number s v) (sym turns) less)
    w)
    (λ (w : WhileStrays names (without name disk) now). strays_well number s v names (without name disk) now
    (λ other (k, within, is). spare_kept number s v name disk (without name disk)
    (without_elsewhere name disk) other (rest_apart name names once other (k, within, is))
    (spare other (suc k, omega (arith, within), is)))
    (rest_once name names once) less w)
    during
