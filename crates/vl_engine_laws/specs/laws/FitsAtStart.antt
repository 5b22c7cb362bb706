-- What steps on files ask is so of an engine that was just opened.
use Rattle.std.specs.Prelude.{◌≡◌, ℕ, List, [], ◌∷◌, ◌++◌, Option}
use Rattle.std.specs.FinMap.{get}
use Rattle.std.specs.List.{filter}
use Rattle.std.proofs.Common.{sym, ap, subst, ◌∙◌, append-nil}
use Rattle.vl_disk.specs.Crash.{Image}
use Rattle.vl_disk.specs.DiskState.{DiskState}
use Rattle.vl_disk.specs.Started.{IsRead}
use Rattle.vl_disk.specs.declared.name.Name.TheVariants as names
use Rattle.vl_engine_laws.specs.laws.Headed.{active_headed, bytes_had, read_files}
use Rattle.vl_engine_laws.specs.Files.{IsLogFile}
use Rattle.vl_engine_laws.specs.Found.{IsBackAtStart, recovered}
use Rattle.vl_engine_laws.specs.Shown.{Shown}
use Rattle.vl_engine_laws.specs.MayStep.{Fits, covered_all}
use Rattle.vl_engine_laws.specs.declared.kept.Core.{Core}
use Rattle.vl_engine_laws.specs.laws.BegunHolds.{plan_as}
use Rattle.vl_engine_laws.specs.laws.BegunLaws.{one_opening}
use Rattle.vl_engine_laws.specs.laws.RotateWaiting.{covered_more, filled_cover, goes_covered, twice_turned}
use Rattle.vl_engine_laws.specs.laws.StartLaws.{all_newest, before_found, before_read, logs_end, newest_twice}
use Rattle.vl_engine_model.specs.Logs.{new_segment}
use Rattle.vl_engine_model.specs.Start.{has_frames, layout_at_start, newest_first}
use Rattle.vl_engine_model.specs.declared.segment.Segment.{Segment}
use Rattle.vl_manifest.specs.declared.state.ManifestState.{ManifestState}
use Rattle.vl_model.specs.Formats.{log_format}
use Rattle.vl_model.specs.History.{History, last_number}
use Rattle.vl_recover.specs.crash.Held.{GoOn}
use Rattle.vl_recover.specs.crash.Meanwhile.{IsRepaired}
use Rattle.vl_recover.specs.laws.repairing.RecoveredLaws.{found_goes_on}
use Rattle.vl_recover.specs.opening.Answers.{Finds, logs_then}
use Rattle.vl_recover.specs.opening.HeldFiles.{AreWaiting, but_last}
use Rattle.vl_recover.specs.opening.Opening.{Opening}
use Rattle.vl_recover.specs.opening.Plans.{active_log}
use Rattle.vl_recover.specs.repairing.Repairing.{Plan, repaired}
use Rattle.vl_seglog.specs.Frames.{log_header}
use Rattle.vl_seglog.specs.laws.LogReadingLaws.{written_is_read}

module _ {H : Type 0} {read : Image} (found : Finds read) (h : History) (shown : Shown read h (last_number h)) (room : ℕ)
    (start : DiskState) (told : Option DiskState) (core : Core H) (is_read : IsRead read start) (done : IsRepaired read start told)
    (back : IsBackAtStart found core.back) where
  abbrev before : List Segment
  before = but_last (logs_then found)

  abbrev number : ℕ
  number = active_log found.greatest found.opening.state found.logs

  abbrev active : Segment
  active = new_segment log_format number []

  abbrev covered : ℕ
  covered = found.opening.state.covered

  opened_number : found.opening.number ≡ last_number h
  opened_number = ap (λ (o : Opening). o.number) (sym (one_opening found h shown room)) ∙ shown.number

  goes : GoOn covered (before ++ active ∷ []) (last_number h)
  goes = subst (λ (ss : List Segment). GoOn covered ss (last_number h)) (logs_end found)
      (subst (GoOn covered (logs_then found)) opened_number (found_goes_on found))

  all_covered : covered_all (newest_first (newest_first (filter has_frames before))) covered ≡ last_number h
  all_covered = ap (λ (ss : List Segment). covered_all ss covered) (twice_turned (filter has_frames before))
      ∙ filled_cover before covered ∙ sym (covered_more before active covered)
      ∙ goes_covered (before ++ active ∷ []) covered (last_number h) goes

  abbrev plan : Plan
  plan = done.repairing.plan

  pub opened_fits : Fits told core h (layout_at_start room (recovered found shown))
  opened_fits = record {
    running = λ running. record {
      numbers = record {
        next_log = back.next_log;
        next_table = ap (λ (s : ManifestState). s.next_table) back.state;
        waiting = subst (AreWaiting covered core.back.waiting.items)
            (sym (newest_twice found.opening.logs)
            ∙ sym (ap (λ (ss : List Segment). newest_first (newest_first ss)) (before_found found))) back.waiting;
      };
      files = (
        record { readable = written_is_read; have = tt },
        all_newest IsLogFile (filter has_frames before) (read_files read before (before_read found)),
      );
      covers = all_covered;
      state = repaired plan start;
      told_is = done.told;
      active = bytes_had (log_header log_format number) (get (repaired plan start).standing (names.Log number))
          (active_headed found start is_read plan (plan_as done.repairing.found found plan done.repairing.is))
          ∙ sym (append-nil (log_header log_format number));
    };
  }
