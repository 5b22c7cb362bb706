-- The disk on which a store was repaired holds the manifest that was made, and so the layout with which an engine begins.
use Rattle.std.specs.Prelude.{◌≡◌, ◌<◌, ◌^◌, ℕ, ◌+◌, List, [], ◌∷◌, Some}
use Rattle.std.specs.FinMap.{get}
use Rattle.std.proofs.Common.{sym, ap, subst, ◌∙◌, arith}
use Rattle.vl_disk.specs.Crash.{Image}
use Rattle.vl_disk.specs.DiskState.{DiskState, IsLawful, settled}
use Rattle.vl_disk.specs.declared.name.Name.TheVariants.{Manifest}
use Rattle.vl_engine_laws.specs.Begun.{base_begun, layout_begun}
use Rattle.vl_engine_laws.specs.Held.{Holds, IsBase}
use Rattle.vl_engine_laws.specs.Shown.{Shown}
use Rattle.vl_engine_laws.specs.laws.BegunLaws.{begun_base, begun_holds, one_opening}
use Rattle.vl_engine_laws.specs.laws.BegunShows.{begun_spares, begun_shows}
use Rattle.vl_frame.specs.Runs.{HasFrame}
use Rattle.vl_manifest.specs.Grammar.{edits_grammar}
use Rattle.vl_manifest.specs.Manifest.{manifest_bytes}
use Rattle.vl_manifest.specs.States.{whole_edits}
use Rattle.vl_manifest.specs.Switching.{HasFrames}
use Rattle.vl_manifest.specs.declared.manifest_log.ManifestLog.{ManifestLog}
use Rattle.vl_manifest.specs.declared.state.ManifestState.{ManifestState}
use Rattle.vl_model.specs.Formats.{manifest_format}
use Rattle.vl_model.specs.History.{History, last_number}
use Rattle.vl_recover.specs.crash.Held.{IsNowhere, view_of}
use Rattle.vl_recover.specs.crash.Meanwhile.{IsAsLong}
use Rattle.vl_recover.specs.laws.opening.LeadsLaws.{Leads}
use Rattle.vl_recover.specs.laws.opening.OneFinding.{same_greatest, same_logs, same_opening, same_used_up}
use Rattle.vl_recover.specs.laws.repairing.RepairingOpens as repairing
use Rattle.vl_recover.specs.laws.repairing.RepairingOpens.{repaired_holds}
use Rattle.vl_recover.specs.laws.repairing.RepairingStart.{Begins, manifest_fits, new_range}
use Rattle.vl_recover.specs.laws.repairing.StraysLaws.{strays_law}
use Rattle.vl_recover.specs.opening.Answers.{AreStrayNames, Finds, logs_then}
use Rattle.vl_recover.specs.opening.HeldFiles.{but_last}
use Rattle.vl_recover.specs.opening.Opening.{Opening}
use Rattle.vl_recover.specs.opening.Plans.{new_state}
use Rattle.vl_recover.specs.repairing.Repairing.{IsPlan, Plan, plan_from, repaired}

-- ---- what was found is one

module _ {read : Image} (a b : Finds read) where
  pub state_same : new_state a.greatest a.opening.state ≡ new_state b.greatest b.opening.state
  state_same = λ i. new_state (same_greatest read a b i) (same_opening read a b i).state

  pub plan_as : (plan : Plan) → IsPlan a plan → IsPlan b plan
  plan_as plan is = record {
    strays = subst (λ (o : Opening). AreStrayNames read o plan.strays) (same_opening read a b) is.strays;
    is = is.is
        ∙ (λ i. plan_from (same_greatest read a b i) (same_opening read a b i).state (same_logs read a b i) plan.strays);
  }

  pub begins_as : (start : DiskState) → Begins a start → Begins b start
  begins_as start begins = record {
    lawful = begins.lawful;
    may = begins.may;
    is_read = begins.is_read;
    left = sym (same_used_up read a b) ∙ begins.left;
    has = subst (λ (s : ManifestState). HasFrame (edits_grammar manifest_format) (whole_edits s)) state_same begins.has;
  }

-- ---- the manifest

module _ {read : Image} (found : Finds read) (start : DiskState) (begins : Begins found start) (plan : Plan) (is : IsPlan found plan) where
  abbrev state : ManifestState
  state = new_state found.greatest found.opening.state

  abbrev number : ℕ
  number = found.greatest.manifest + 1

  made_leads : Leads number state (view_of found) (repaired plan start)
  made_leads = subst (λ (p : Plan). Leads number state (view_of found) (repaired p start)) (sym is.is)
      (strays_law number state (view_of found) plan.strays (repairing.third found start begins plan.strays)
      (repairing.log found start begins plan.strays).leads
      (repairing.third_spare found start begins plan.strays is.strays) is.strays.once).leads

  module _ (manifest : ManifestLog) (numbered : manifest.number ≡ found.greatest.manifest + 1)
      (long : IsAsLong (new_state found.greatest found.opening.state) manifest) where
    made_frames : HasFrames manifest (whole_edits state ∷ []) (repaired plan start)
    made_frames = record {
      length_is = long;
      each = (begins.has, tt);
      durable = ap (λ (n : ℕ). get (repaired plan start).standing (Manifest n)) numbered
          ∙ made_leads.stands
          ∙ ap (λ (bs : List ℕ). Some (settled bs)) made_leads.is_whole
          ∙ sym (ap (λ (n : ℕ). Some (settled (manifest_bytes n (whole_edits state ∷ [])))) numbered);
    }

    made_above : (m : ℕ) → manifest.number < m → IsNowhere (repaired plan start) (Manifest m)
    made_above m less = made_leads.above m (subst (λ (n : ℕ). n < m) numbered less)

    module _ (h : History) (shown : Shown read h (last_number h)) (room : ℕ) where
      opened_number : found.opening.number ≡ last_number h
      opened_number = ap (λ (o : Opening). o.number) (sym (one_opening found h shown room)) ∙ shown.number

      -- The base is the layout's,
      pub repaired_base : IsBase (base_begun found manifest (but_last (logs_then found)))
          (layout_begun room found shown (but_last (logs_then found))) h
      repaired_base = begun_base found h shown room manifest fits (new_range found start begins) opened_number
          (begun_spares found h shown room)
        where
          fits : manifest.number < 2 ^ 32
          fits = let few = manifest_fits found start begins in omega (arith, few, numbered)

      -- and the disk holds it.
      pub repaired_layout : IsLawful (repaired plan start) → Holds (base_begun found manifest (but_last (logs_then found)))
          (layout_begun room found shown (but_last (logs_then found))) (repaired plan start)
      repaired_layout lawful = begun_holds found h shown room (repaired plan start) (repaired_holds start found plan begins is)
          manifest made_frames made_above lawful
