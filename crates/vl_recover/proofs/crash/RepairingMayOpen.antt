-- Where an opening failed while it repaired a store, the store may be opened again on the same disk.
use Rattle.std.specs.Prelude.{◌≡◌, ◌≢◌, ℕ, ◌≤◌, ◌<◌, List, Option, None, Some, Ok, false, refl}
use Rattle.std.specs.FinMap.{get}
use Rattle.std.specs.Option.{option_map}
use Rattle.std.proofs.Common.{ap, arith, subst, sym, ◌∙◌, ⊎_elim}
use Rattle.std.proofs.lemmas.Bool.{cases_eq, cases_lt}
use Rattle.vl_disk.specs.Changes.{SameElsewhere}
use Rattle.vl_disk.specs.Crash.{Image}
use Rattle.vl_disk.specs.DiskState.{DiskState, File, IsLawful, settled}
use Rattle.vl_disk.specs.MadeFile.{WhileMaking}
use Rattle.vl_disk.specs.laws.NameMap.{get_removed}
use Rattle.vl_disk.specs.Started.{IsRead}
use Rattle.vl_disk.specs.declared.name.Name.{Name}
use Rattle.vl_disk.specs.declared.name.Name.TheVariants.{Log, Manifest, Table}
use Rattle.vl_manifest.specs.Current.{IsCurrent}
use Rattle.vl_manifest.specs.Manifest.{IsReadable}
use Rattle.vl_manifest.specs.States.{as_read}
use Rattle.vl_manifest.specs.laws.MadeLaws.{SaysAsRead}
use Rattle.vl_manifest.specs.laws.ManifestLaws.{says_readable, whole_manifest}
use Rattle.vl_manifest.specs.declared.state.ManifestState.{ManifestState}
use Rattle.vl_recover.specs.crash.Alike.{OpensLike, SameState}
use Rattle.vl_recover.specs.crash.Held.{View}
use Rattle.vl_recover.specs.crash.Starts.{AllStay, MayOpen, MayOpenAs, MayStand, OnlyIdleGone}
use Rattle.vl_recover.specs.laws.crash.AlikeLaws.{SameBut, lead_over, levels_kept, like_lead, log_manifest, manifest_same, read_same}
use Rattle.vl_recover.specs.laws.crash.OneName.{IsPart, Making, done, made_elsewhere, made_there, making, torn, waits}
use Rattle.vl_recover.specs.laws.crash.Torn.{CanWrite, torn_manifest}
use Rattle.vl_recover.specs.laws.opening.HeldLaws.{settled_may_stand}
use Rattle.vl_recover.specs.laws.opening.IdleLaws.{gone_kept}
use Rattle.vl_recover.specs.laws.opening.LeadsLaws.{led_levels, led_state, needs_kept, nowhere_kept}
use Rattle.vl_recover.specs.laws.opening.LogsLaws.{written_held}
use Rattle.vl_recover.specs.laws.opening.OpeningLaws.{opened, single_opening, some_none, some_same}
use Rattle.vl_recover.specs.laws.repairing.RepairingOpens.{first, first_leads, first_stand, last, led_stays, log_free}
use Rattle.vl_recover.specs.laws.repairing.RepairingOpens.{number, piece, plan, s, second, third, third_spare, v}
use Rattle.vl_recover.specs.laws.repairing.RepairingStages.{held_settled}
use Rattle.vl_recover.specs.laws.repairing.RepairingStart.{Begins, can_write, free_unread, manifest_unneeded}
use Rattle.vl_recover.specs.laws.repairing.RepairingStart.{manifests_nowhere, may_as, start_needs}
use Rattle.vl_recover.specs.laws.repairing.RepairingSteps.{table_manifest}
use Rattle.vl_recover.specs.laws.repairing.StageLaws.{ok_same}
use Rattle.vl_recover.specs.opening.Answers.{AreStrayNames, Finds, as_segments}
use Rattle.vl_recover.specs.opening.Opening.{FoundTable, IsAmong, IsNamed, NamedLevels, Opening, Opens, Refusal, led_into}
use Rattle.vl_recover.specs.opening.Plans.{log_made}
use Rattle.vl_recover.specs.repairing.Repairing.{IsPlan, Plan, WhileLast, WhileLog, WhileRepairing, at_last, at_log}
use Rattle.vl_recover.specs.repairing.Repairing.{at_manifest, at_strays, behind_log, last_of}
use Rattle.vl_recover.proofs.crash.RepairingAgain.{GoesWell, StandsWell, below_well, last_well, leads_may_open, log_well, strays_well}
use Rattle.vl_recover.proofs.crash.TornManifest.{part_no_chance}
use Rattle.vl_recover.proofs.repairs.RepairingLaws.{last_ends, log_ends}
use Rattle.vl_seglog.specs.LogReading.{ReadsLog}

-- what is asked by an opening that finds the same tables, from the same head on
may_as_kept : (start now : DiskState) (n : ℕ) (o p : Opening) → SameElsewhere (Manifest n) start now → o.state.head ≡ p.state.head
    → o.state.levels ≡ p.state.levels → o.levels ≡ p.levels → MayOpenAs start o → MayOpenAs now p
may_as_kept start now n o p same head named levels may = record {
  logs = subst (λ (h : ℕ). OnlyIdleGone h now) head (gone_kept o.state.head (Manifest n) start now same
      (λ m from e. absurd (log_manifest m n e)) may.logs);
  sealed = λ m k file from less there stands. may.sealed m k file (subst (λ (h : ℕ). h ≤ m) (sym head) from) less
      (λ none. there (same.standing (Log k) (log_manifest k n) ∙ none)) (sym (same.standing (Log m) (log_manifest m n)) ∙ stands);
  tables = λ m file in_it stands. may.tables m file (subst (λ (l : List (List ℕ)). IsNamed l m) (sym named) in_it)
      (sym (same.standing (Table m) (table_manifest m n)) ∙ stands);
  led = λ m file in_it stands. may.led m file (subst (λ (l : List (List FoundTable)). IsAmong (led_into l) m) (sym levels) in_it)
      (sym (same.standing (Log m) (log_manifest m n)) ∙ stands);
}

made_never : (new : Option ℕ) (disk : DiskState) (k : ℕ) → new ≡ Some k → get (behind_log new disk).removed (Log k) ≡ None
made_never None disk k e = absurd (some_none k (sym e))
made_never (Some j) disk k e = ap (λ (n : ℕ). get (behind_log (Some j) disk).removed (Log n)) (sym (some_same j k e))
    ∙ get_removed disk.removed (Log j)

module _ {read : Image} (found : Finds read) (start : DiskState) (begins : Begins found start) (strays : List Name) where
  abbrev n : ℕ
  n = number found start begins strays

  abbrev new_s : ManifestState
  new_s = s found start begins strays

  abbrev view : View
  view = v found start begins strays

  abbrev new_piece : List ℕ
  new_piece = piece found start begins strays

  abbrev disk1 : DiskState
  disk1 = first found start begins strays

  abbrev disk2 : DiskState
  disk2 = second found start begins strays

  abbrev disk3 : DiskState
  disk3 = third found start begins strays

  can : CanWrite n new_s
  can = can_write found start begins

  as_start : MayOpenAs start found.opening
  as_start = may_as found start begins

  led_stay : AllStay view.image (led_into view.levels)
  led_stay m bytes reading among there reads = (as_start.led m file.0 among file.1).1 reading
      (subst (λ (b : List ℕ). ReadsLog m b reading) (sym file.2) reads)
    where
      of : (o : Option File) → Some bytes ≡ option_map (λ (f : File). f.bytes) o → (f : File) × (o ≡ Some f) × (f.bytes ≡ bytes)
      of None e = absurd (some_none bytes e)
      of (Some f) e = (f, refl, sym (some_same bytes f.bytes e))

      file : (f : File) × (get start.standing (Log m) ≡ Some f) × (f.bytes ≡ bytes)
      file = of (get start.standing (Log m)) (sym there ∙ begins.is_read.each (Log m))

  start_well : StandsWell found.opening.state.head start
  start_well = record { files = begins.may.files; sealed = as_start.sealed; gone = as_start.logs }

  free : get start.standing (Manifest n) ≡ None
  free = (manifests_nowhere found start begins n (omega arith)).free

  well_with : (now : DiskState) (file : File) → get now.standing (Manifest n) ≡ Some file → MayStand (Manifest n) file
      → SameElsewhere (Manifest n) start now → StandsWell found.opening.state.head now
  well_with now file stands may same = below_well found.opening.state.head (Manifest n) start now same (λ m from. log_manifest m n)
      (λ other is. subst (MayStand (Manifest n)) (some_same file other (sym stands ∙ is)) may) start_well

  -- it stands, and isn't durable
  module _ (now : DiskState) (lawful_now : IsLawful now) (file : File) (part : IsPart new_piece file)
      (stands : get now.standing (Manifest n) ≡ Some file) (same : SameElsewhere (Manifest n) start now) where
    part_may : MayStand (Manifest n) file
    part_may = record { no_chance = λ right. part_no_chance (Manifest n) new_piece file part; headless = λ wrong. absurd wrong }

    read_same_but : (image : Image) → IsRead image now → SameBut (Manifest n) image read
    read_same_but image is name apart = is.each name ∙ ap (option_map (λ (f : File). f.bytes)) (same.standing name apart)
        ∙ sym (begins.is_read.each name)

    unread_new : get read (Manifest n) ≡ None
    unread_new = free_unread read start begins.is_read (Manifest n) free

    torn_as : (image : Image) (o : Opening) → IsRead image now → Opens image (Ok o) → MayOpenAs now o
    torn_as image o is opens = ⊎_elim
        (λ (not : IsReadable n file.bytes → ⊥).
        let lead = lead_over read image n (λ name apart. sym (read_same_but image is name apart))
        (λ bytes r. some_none bytes (sym r.stands ∙ unread_new))
        (λ bytes r. not (subst (IsReadable n) (some_same bytes file.bytes (sym r.stands ∙ there)) r.readable)) in
        let like : OpensLike read image = like_lead read image lead
        (λ m. sym (read_same_but image is (Log m) (log_manifest m n))) (λ m. sym (read_same_but image is (Table m) (table_manifest m n))) in
        let (p, opens_read, shows, needed) = like o opens in
        let one : found.opening ≡ p = ok_same {E = Refusal} found.opening p (single_opening read (Ok found.opening)
        (Ok p) found.opens opens_read) in
        may_as_kept start now n found.opening o same
        (ap (λ (x : Opening). x.state.head) one ∙ shows.state.head) (ap (λ (x : Opening). x.state.levels) one ∙ shows.state.levels)
        (ap (λ (x : Opening). x.levels) one ∙ shows.levels) as_start)
        (λ (said : SaysAsRead n file.bytes new_s).
        let here_s = as_read said.format new_s in
        let same_s : SameState here_s new_s = read_same said.format new_s said.gone in
        let current : IsCurrent image n file.bytes = record {
          here = record { stands = there; readable = says_readable n file.bytes here_s said.says };
          greatest = λ m others r. ⊎_elim
              (λ (less : n < m). absurd (some_none others (sym r.stands
              ∙ read_same_but image is (Manifest m) (λ e. omega (arith, less, manifest_same m n e))
              ∙ free_unread read start begins.is_read (Manifest m) (manifests_nowhere found start begins m (omega (arith, less))).free)))
              (λ (le : m ≤ n). le)
              (cases_lt n m);
        } in
        let at_read = opened read found.opening found.opens in
        let named : NamedLevels false image here_s.levels (Ok found.opening.levels) =
        subst (λ (l : List (List ℕ)). NamedLevels false image l (Ok found.opening.levels)) (sym same_s.levels)
        (levels_kept image read false found.opening.state.levels found.opening.levels
        (λ m in_it. read_same_but image is (Table m) (table_manifest m n)) at_read.levels) in
        let here = opened image o opens in
        let state = led_state n file.bytes here_s view image said.says current named o here in
        may_as_kept start now n found.opening o same
        (sym same_s.head ∙ ap (λ (x : ManifestState). x.head) state)
        (sym same_s.levels ∙ ap (λ (x : ManifestState). x.levels) state)
        (led_levels n file.bytes here_s view image said.says current named o here) as_start)
        (torn_manifest n new_s can file part file.bytes (part_no_chance (Manifest n) new_piece file part))
      where
        there : get image (Manifest n) ≡ Some file.bytes
        there = is.each (Manifest n) ∙ ap (option_map (λ (f : File). f.bytes)) stands

    removed_below : (m : ℕ) → get now.removed (Manifest m) ≢ None → (k : ℕ) × (m < k) × (get now.standing (Manifest k) ≢ None)
    removed_below m was = ⊎_elim
        (λ (e : m ≡ n). absurd (was (ap (λ (k : ℕ). get now.removed (Manifest k)) e ∙ lawful_now.apart (Manifest n) file stands)))
        (λ (other : m ≢ n).
        let (k, more, there) = begins.may.manifests m (λ none. was (same.removed (Manifest m) (λ e. other (manifest_same m n e)) ∙ none)) in
        (k, more, λ none. there (not_there k none)))
        (cases_eq m n)
      where
        not_there : (k : ℕ) → get now.standing (Manifest k) ≡ None → get start.standing (Manifest k) ≡ None
        not_there k none = ⊎_elim
            (λ (e : k ≡ n). ap (λ (j : ℕ). get start.standing (Manifest j)) e ∙ free)
            (λ (other : k ≢ n). sym (same.standing (Manifest k) (λ e. other (manifest_same k n e))) ∙ none)
            (cases_eq k n)

    torn_may_open : MayOpen now
    torn_may_open = record {
      files = (well_with now file stands part_may same).files;
      manifests = removed_below;
      as_read = torn_as;
    }

  -- it stands, durable
  first_goes : GoesWell n new_s view disk1
  first_goes = record {
    leads = first_leads found start begins strays;
    well = well_with disk1 (settled new_piece) (made_there (Manifest n) new_piece start) (settled_may_stand (Manifest n) new_piece)
        (made_elsewhere (Manifest n) new_piece start);
  }

  may : (now : DiskState) → IsLawful now → GoesWell n new_s view now → MayOpen now
  may now lawful_now goes = leads_may_open n new_s view now lawful_now goes.leads goes.well led_stay

  done_may_open : (now : DiskState) → IsLawful now → get now.standing (Manifest n) ≡ Some (settled new_piece)
      → SameElsewhere (Manifest n) start now → MayOpen now
  done_may_open now lawful_now stands same = may now lawful_now (record {
    leads = record {
      bytes = new_piece;
      is_whole = refl;
      stands = stands;
      says = whole_manifest n new_s can.fits can.range can.has;
      above = λ m less. nowhere_kept (Manifest n) start now same (Manifest m) (λ e. omega (arith, less, manifest_same m n e))
          (manifests_nowhere found start begins m (omega (arith, less)));
      needs = needs_kept new_s view (Manifest n) start now same
          (manifest_unneeded found start begins n)
          (start_needs found start begins);
    };
    well = well_with now (settled new_piece) stands (settled_may_stand (Manifest n) new_piece) same;
  })

  manifest_may_open : (now : DiskState) → IsLawful now → WhileMaking (Manifest n) new_piece start now → MayOpen now
  manifest_may_open now lawful_now during = by (making (Manifest n) new_piece start now during)
    where
      by : Making (Manifest n) new_piece start now → MayOpen now
      by (waits is) = subst MayOpen (sym is) begins.may
      by (torn file part stands same) = torn_may_open now lawful_now file part stands same
      by (done stands same) = done_may_open now lawful_now stands same

  last_goes : (now : DiskState) → WhileLast (last_of found.logs) disk1 now → GoesWell n new_s view now
  last_goes now during = last_well n new_s view found.logs disk1 now first_goes (first_stand found start begins strays)
      (led_stays found start begins strays) during

  second_goes : GoesWell n new_s view disk2
  second_goes = ⊎_elim
      (λ (same : disk2 ≡ disk1). subst (GoesWell n new_s view) (sym same) first_goes)
      (λ (during : WhileLast (last_of found.logs) disk1 disk2). last_goes disk2 during)
      (last_ends (last_of found.logs) disk1)

  log_goes : (now : DiskState) → ((k : ℕ) (file : File) → log_made new_s found.logs ≡ Some k
      → get now.standing (Log k) ≡ Some file → get now.removed (Log k) ≡ None)
      → WhileLog (log_made new_s found.logs) disk2 now → GoesWell n new_s view now
  log_goes now never during = log_well n new_s view (log_made new_s found.logs) disk2 now never
      (log_free found start begins strays)
      (λ m file from. held_settled found.opening.state.head (as_segments found.logs) disk2
      (written_held found.opening.state.head found.logs disk2 (last found start begins strays).written) m from file)
      second_goes during

  third_goes : GoesWell n new_s view disk3
  third_goes = ⊎_elim
      (λ (same : disk3 ≡ disk2). subst (GoesWell n new_s view) (sym same) second_goes)
      (λ (during : WhileLog (log_made new_s found.logs) disk2 disk3).
      log_goes disk3 (λ k file is stands. made_never (log_made new_s found.logs) disk2 k is) during)
      (log_ends (log_made new_s found.logs) disk2)

  pub may_open_meanwhile : AreStrayNames read found.opening strays → (now : DiskState) → IsLawful now
      → WhileRepairing (plan found start begins strays) start now → MayOpen now
  may_open_meanwhile names now lawful_now (at_manifest during) = manifest_may_open now lawful_now during
  may_open_meanwhile names now lawful_now (at_last during) = may now lawful_now (last_goes now during)
  may_open_meanwhile names now lawful_now (at_log during) =
      may now lawful_now (log_goes now (λ k file is stands. lawful_now.apart (Log k) file stands) during)
  may_open_meanwhile names now lawful_now (at_strays during) =
      may now lawful_now (strays_well n new_s view strays disk3 now (third_spare found start begins strays names) names.once third_goes
      during)

-- At each moment of a repairing a store may be opened on the disk, if it stops there.
pub repairing_may_open : {read : Image} (start now : DiskState) (found : Finds read) (plan : Plan)
    → Begins found start → IsPlan found plan → IsLawful now → WhileRepairing plan start now → MayOpen now
repairing_may_open start now found plan begins is lawful_now during =
    may_open_meanwhile found start begins plan.strays is.strays now lawful_now
    (subst (λ (p : Plan). WhileRepairing p start now) is.is during)
