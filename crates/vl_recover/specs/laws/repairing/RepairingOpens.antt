-- An opening's repairing: whatever a crash leaves meanwhile opens as something that it could have left before,
-- and then the disk holds the store.
use Rattle.std.specs.Prelude.{◌≡◌, ◌≢◌, ◌⊎◌, ℕ, ◌+◌, ◌≤◌, ◌<◌, List, [], ◌∷◌, None, Some, IsSome, Contains, refl}
use Rattle.std.specs.FinMap.{get}
use Rattle.std.specs.Option.{option_map}
use Rattle.std.proofs.Common.{ap, arith, inl, inr, subst, sym, ◌∙◌, ⊎_elim}
use Rattle.std.proofs.lemmas.Bool.{cases_eq, cases_lt, true≢false}
use Rattle.vl_disk.specs.Crash.{Image}
use Rattle.vl_disk.specs.DiskState.{DiskState, File, settled}
use Rattle.vl_disk.specs.MadeFile.{WhileMaking, durable}
use Rattle.vl_disk.specs.declared.name.Name.{Name}
use Rattle.vl_disk.specs.declared.name.Name.TheVariants.{Log, Manifest, Table}
use Rattle.vl_manifest.specs.Manifest.{manifest_bytes}
use Rattle.vl_manifest.specs.laws.ManifestLaws.{whole_manifest}
use Rattle.vl_manifest.specs.States.{whole_edits}
use Rattle.vl_manifest.specs.declared.state.ManifestState.{ManifestState}
use Rattle.vl_recover.specs.crash.Alike.{OpensAsOf}
use Rattle.vl_recover.specs.laws.crash.AlikeLaws.{log_manifest, log_same, manifest_same}
use Rattle.vl_recover.specs.opening.Answers.{AreStrayNames, Finds, IsStrayName, as_segments, logs_then}
use Rattle.vl_recover.specs.crash.Held.{HoldsStore, View, view_of}
use Rattle.vl_recover.specs.laws.crash.Torn.{CanWrite, stand_leaves}
use Rattle.vl_recover.specs.laws.opening.OpeningLaws.{IsOpened}
use Rattle.vl_recover.specs.opening.Opening.{IsAmong, IsNamed, led_into}
use Rattle.vl_recover.specs.laws.repairing.LastLaws.{LastStands}
use Rattle.vl_recover.specs.laws.opening.LeadsLaws.{IsUnneeded, Leads, leads_holds, needs_kept, nowhere_kept}
use Rattle.vl_recover.specs.laws.opening.LogsLaws.{IsTheLast, MayRepair, StandUpTo, last_kept, last_stands}
use Rattle.vl_recover.specs.laws.opening.LogsLaws.{stand_kept, stand_read, the_last, written_held, written_whole}
use Rattle.vl_recover.specs.repairing.Repairing.{IsPlan, Plan, WhileRepairing, at_last, at_log, at_manifest}
use Rattle.vl_recover.specs.repairing.Repairing.{at_strays, repaired, plan_of, with_last, with_log, with_manifest}
use Rattle.vl_recover.specs.laws.repairing.RepairingStages.{IsBelow, IsFreeFrom, held_settled, settled_is, LastStage}
use Rattle.vl_recover.specs.laws.repairing.RepairingStages.{LogStage, SameBelow, below_then, last_stage, log_stage}
use Rattle.vl_recover.specs.laws.repairing.RepairingStages.{made_free, spare_below, still_stands}
use Rattle.vl_recover.specs.laws.repairing.RepairingStart.{Begins, can_write, found_walk, free_unread, log_below}
use Rattle.vl_recover.specs.laws.repairing.RepairingStart.{manifest_unneeded, manifests_nowhere, may_as, opened_read}
use Rattle.vl_recover.specs.laws.repairing.RepairingStart.{some_file, start_needs}
use Rattle.vl_recover.specs.laws.repairing.ManifestStep.{manifest_step}
use Rattle.vl_recover.specs.laws.repairing.RepairingSteps.{table_manifest}
use Rattle.vl_recover.specs.laws.crash.OneName.{as_of_then, made_elsewhere, made_there}
use Rattle.vl_recover.specs.opening.Plans.{log_made, new_state}
use Rattle.vl_recover.specs.crash.Starts.{StaysAsItIs}
use Rattle.vl_recover.specs.laws.repairing.StraysLaws.{AreSpare, RepairsStrays, spare_kept, strays_law}
use Rattle.vl_recover.specs.opening.Walk.{StandingLog}

log_table : (m n : ℕ) → Log m ≡ Table n → ⊥
log_table m n e = cc

-- ---- one of these numbers, or none

among_or_not : (ns : List ℕ) (n : ℕ) → IsAmong ns n ⊎ (IsAmong ns n → ⊥)
among_or_not [] n = inr (λ none. none)
among_or_not (m ∷ ms) n = ⊎_elim
    (λ (same : m ≡ n). inl (inl same))
    (λ (other : m ≢ n). ⊎_elim
    (λ (rest : IsAmong ms n). inl (inr rest))
    (λ (not : IsAmong ms n → ⊥). inr (λ either. ⊎_elim other not either))
    (among_or_not ms n))
    (cases_eq m n)

named_or_not : (levels : List (List ℕ)) (n : ℕ) → IsNamed levels n ⊎ (IsNamed levels n → ⊥)
named_or_not [] n = inr (λ none. none)
named_or_not (ns ∷ levels) n = ⊎_elim
    (λ (here : IsAmong ns n). inl (inl here))
    (λ (none : IsAmong ns n → ⊥). ⊎_elim
    (λ (rest : IsNamed levels n). inl (inr rest))
    (λ (not : IsNamed levels n → ⊥). inr (λ either. ⊎_elim none not either))
    (named_or_not levels n))
    (among_or_not ns n)

module _ {read : Image} (found : Finds read) (start : DiskState) (begins : Begins found start)
    (strays : List Name) where
  abbrev pub number : ℕ
  number = found.greatest.manifest + 1

  abbrev pub s : ManifestState
  s = new_state found.greatest found.opening.state

  -- the tables as they were read
  abbrev pub v : View
  v = record { image = read; levels = found.opening.levels }

  abbrev pub head : ℕ
  head = found.opening.state.head

  abbrev pub piece : List ℕ
  piece = manifest_bytes number (whole_edits s ∷ [])

  abbrev pub plan : Plan
  plan = plan_of found strays

  -- the disk with the new manifest, with the last log repaired, and with the new log
  abbrev pub first : DiskState
  first = with_manifest plan start

  abbrev pub second : DiskState
  second = with_last plan start

  abbrev pub third : DiskState
  third = with_log plan start

  -- ---- the new manifest

  is : IsOpened read found.opening
  is = opened_read found start begins

  manifest_law : (now : DiskState) → WhileMaking (Manifest number) piece start now → OpensAsOf start now
  manifest_law now during = manifest_step read found.opening is number s (can_write found start begins)
      (record { levels = refl; head = refl; covered = refl; keep = refl; since = refl; gone = omega arith }) start now begins.is_read
      begins.may.files (λ m from. manifests_nowhere found start begins m (omega (arith, from))) during

  pub first_leads : Leads number s v first
  first_leads = record {
    bytes = piece;
    is_whole = refl;
    stands = made_there (Manifest number) piece start;
    says = whole_manifest number s can.fits can.range can.has;
    above = λ m less. nowhere_kept (Manifest number) start first
        (made_elsewhere (Manifest number) piece start) (Manifest m)
        (λ e. omega (arith, less, manifest_same m number e))
        (manifests_nowhere found start begins m (omega (arith, less)));
    needs = needs_kept s v (Manifest number) start first (made_elsewhere (Manifest number) piece start)
        (manifest_unneeded found start begins number) (start_needs found start begins);
  }
    where
      can : CanWrite number s
      can = can_write found start begins

  -- ---- the last log

  may_repair : MayRepair head read start
  may_repair = record {
    lawful = begins.lawful;
    is_read = begins.is_read;
    files = begins.may.files;
    gone = (may_as found start begins).logs;
    sealed = (may_as found start begins).sealed;
  }

  pub start_stand : StandUpTo LastStands head found.logs start
  start_stand = stand_read head read start may_repair head found.opening.state.covered found.opening.number found.logs
      (omega arith) found.standing (found_walk found start begins)

  pub first_stand : StandUpTo LastStands head found.logs first
  first_stand = stand_kept LastStands (Manifest number) start first
      (made_elsewhere (Manifest number) piece start)
      (last_kept (Manifest number) start first (made_elsewhere (Manifest number) piece start)) head found.logs
      (λ m from. log_manifest m number) start_stand

  pub led_stays : (q : StandingLog) → IsTheLast LastStands head q first → IsAmong (led_into found.opening.levels) q.number
      → StaysAsItIs q.reading
  led_stays q end among =
      let there : get start.standing (Log q.number) ≡ Some end.holds.file =
      sym ((made_elsewhere (Manifest number) piece start).standing (Log q.number) (log_manifest q.number number)) ∙ end.holds.stands in
      ((may_as found start begins).led q.number end.holds.file among there).1 q.reading end.holds.reads

  pub last : LastStage number s v found.logs first
  last = last_stage number s v found.logs first first_leads first_stand led_stays

  -- ---- the new log

  last_below : (logs : List StandingLog) → StandUpTo LastStands head logs start
      → (q : StandingLog) (qs : List StandingLog) → logs ≡ q ∷ qs → (the_last q qs).number < s.next_log
  last_below logs stand q qs is =
      let end = last_stands LastStands head q qs start
      (subst (λ (l : List StandingLog). StandUpTo LastStands head l start) is stand) in
      let below = log_below found start begins (the_last q qs).number end.holds.file end.holds.stands in
      omega (arith, below)

  pub log_free : (k : ℕ) → log_made s found.logs ≡ Some k → IsFreeFrom head k second
  log_free = made_free s found.logs second last.written (last_below found.logs start_stand)

  pub log : LogStage number s v (log_made s found.logs) (as_segments found.logs) second
  log = log_stage number s v (log_made s found.logs) (as_segments found.logs) second last.leads
      (written_whole head found.logs second last.written)
      log_free
      (written_held head found.logs second last.written)

  same_below : SameBelow head first third
  same_below = below_then head first second third last.same log.same

  -- ---- the strays

  module _ (names : AreStrayNames read found.opening strays) where
    missing : (name : Name) → IsSome (get read name) → get read name ≡ None → ⊥
    missing name some none = true≢false (sym (subst IsSome none some))

    stray_unneeded : (name : Name) → IsStrayName found.opening name → IsUnneeded s v name
    stray_unneeded (Log m) (below, unled) = record {
      tables = λ n named e. table_log n m e;
      logs = λ n among e. unled (subst (IsAmong (led_into found.opening.levels)) (log_same n m e) among);
    }
      where
        table_log : (a b : ℕ) → Table a ≡ Log b → ⊥
        table_log a b e = cc
    stray_unneeded (Table m) unnamed = record {
      tables = λ n named e. unnamed (subst (IsNamed found.opening.state.levels) (table_same n m e) named);
      logs = λ n among e. log_table n m e;
    }
      where
        table_same : (a b : ℕ) → Table a ≡ Table b → a ≡ b
        table_same a b e = cc

        log_table : (a b : ℕ) → Log a ≡ Table b → ⊥
        log_table a b e = cc
    stray_unneeded (Manifest m) u = manifest_unneeded found start begins m

    stray_below : (name : Name) → IsStrayName found.opening name → (m : ℕ) → head ≤ m → Log m ≢ name
    stray_below (Log k) (below, unled) m from e = omega (arith, below, from, log_same m k e)
    stray_below (Table k) unnamed m from e = log_table m k e
      where
        log_table : (a b : ℕ) → Log a ≡ Table b → ⊥
        log_table a b e = cc
    stray_below (Manifest k) u m from e = log_manifest m k e

    start_spare : AreSpare number s v start strays
    start_spare name inside =
        let (there, stray) = (names.all name).0 inside in
        let (file, stands) = some_file (get start.standing name)
        (λ none. missing name there (free_unread read start begins.is_read name none)) in
        record {
          file = file;
          stands = stands;
          leaves = stand_leaves name file (begins.may.files name file stands);
          lower = λ m from e. missing name there (ap (get read) (sym e) ∙ found.are_greatest.manifest.none_above m (omega (arith, from)));
          below = stray_below name stray;
          unneeded = stray_unneeded name stray;
        }

    pub third_spare : AreSpare number s v third strays
    third_spare name inside =
        let spare = start_spare name inside in
        spare_below number s v first third same_below name
        (spare_kept number s v (Manifest number) start first (made_elsewhere (Manifest number) piece start) name
        (λ e. spare.lower number (omega arith) (sym e)) spare)

    gone : RepairsStrays number s v third strays
    gone = strays_law number s v strays third log.leads third_spare names.once

    -- ---- the whole

    first_after : OpensAsOf start first
    first_after = manifest_law first (durable refl)

    second_after : OpensAsOf start second
    second_after = as_of_then start first second first_after last.after

    third_after : OpensAsOf start third
    third_after = as_of_then start second third second_after log.after

    opens_meanwhile : (now : DiskState) → WhileRepairing plan start now → OpensAsOf start now
    opens_meanwhile now (at_manifest during) = manifest_law now during
    opens_meanwhile now (at_last during) = as_of_then start first now first_after (last.meanwhile now during)
    opens_meanwhile now (at_log during) = as_of_then start second now second_after (log.meanwhile now during)
    opens_meanwhile now (at_strays during) = as_of_then start third now third_after
        (gone.meanwhile now during)

    -- a file that was there before and that the new manifest doesn't need is a stray
    was_stray : (name : Name) (file : File) → IsBelow head name → name ≢ Manifest number
        → IsStrayName found.opening name → get third.standing name ≡ Some file → Contains strays name
    was_stray name file below other stray stands =
        let stood : get start.standing name ≡ Some file =
        sym ((made_elsewhere (Manifest number) piece start).standing name other)
        ∙ sym (same_below.standing name below) ∙ stands in
        let read_as : get read name ≡ Some file.bytes = begins.is_read.each name
        ∙ ap (option_map (λ (f : File). f.bytes)) stood in
        (names.all name).1 (subst IsSome (sym read_as) refl, stray)

    -- What stands besides the strays is durable.
    settled_or_stray : (name : Name) (file : File) → get third.standing name ≡ Some file
        → (Contains strays name → ⊥) → file ≡ settled file.bytes
    settled_or_stray (Log m) file stands outside = ⊎_elim
        (λ (less : m < head). ⊎_elim
        (λ (among : IsAmong (led_into found.opening.levels) m).
        let (bytes, there, settled_as) = log.leads.needs.logs m among in
        settled_is bytes file (sym settled_as ∙ stands))
        (λ (unled : IsAmong (led_into found.opening.levels) m → ⊥). absurd (outside (was_stray (Log m) file
        (λ k from e. omega (arith, less, from, log_same k m e)) (log_manifest m number) (less, unled) stands)))
        (among_or_not (led_into found.opening.levels) m))
        (λ (from : head ≤ m). held_settled head (logs_then found) third log.held m from file stands)
        (cases_lt m head)
    settled_or_stray (Table m) file stands outside = ⊎_elim
        (λ (named : IsNamed found.opening.state.levels m).
        let (bytes, there, settled_as) = log.leads.needs.tables m named in
        settled_is bytes file (sym settled_as ∙ stands))
        (λ (unnamed : IsNamed found.opening.state.levels m → ⊥).
        absurd (outside (was_stray (Table m) file (λ k from. log_table k m) (table_manifest m number) unnamed stands)))
        (named_or_not found.opening.state.levels m)
    settled_or_stray (Manifest m) file stands outside = ⊎_elim
        (λ (same : m ≡ number). settled_is log.leads.bytes file (sym log.leads.stands
        ∙ ap (λ (n : ℕ). get third.standing (Manifest n)) (sym same) ∙ stands))
        (λ (other : m ≢ number). absurd (outside (was_stray (Manifest m) file (λ k from. log_manifest k m)
        (λ e. other (manifest_same m number e)) tt stands)))
        (cases_eq m number)

    holds : HoldsStore s v (logs_then found) (repaired plan start)
    holds = record {
      manifest = leads_holds number s v (repaired plan start) gone.leads;
      needs = gone.leads.needs;
      logs_are = gone.logs (logs_then found) log.held;
      durable = λ name file stands. (let (outside, stood) =
          still_stands strays third name file stands in settled_or_stray name file stood outside);
    }

-- Whatever a crash leaves while a store is repaired opens as something that it could have left at the start.
pub repairing_opens : {read : Image} (start now : DiskState) (found : Finds read) (plan : Plan) → Begins found start
    → IsPlan found plan → WhileRepairing plan start now → OpensAsOf start now
repairing_opens start now found plan begins is during =
    opens_meanwhile found start begins plan.strays is.strays now
    (subst (λ (p : Plan). WhileRepairing p start now) is.is during)

-- A disk on which a store was repaired holds it.
pub repaired_holds : {read : Image} (start : DiskState) (found : Finds read) (plan : Plan) → Begins found start
    → IsPlan found plan
    → HoldsStore (new_state found.greatest found.opening.state) (view_of found) (logs_then found) (repaired plan start)
repaired_holds start found plan begins is =
    subst (λ (p : Plan). HoldsStore (new_state found.greatest found.opening.state) (view_of found) (logs_then found)
    (repaired p start)) (sym is.is)
    (holds found start begins plan.strays is.strays)
